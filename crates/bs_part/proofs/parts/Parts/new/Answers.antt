use Rattle.bs_tree.specs.Code.{IsCode}
use Rattle.bs_part.proofs.Next.{new_is}
use Rattle.bs_part.proofs.parts.Parts.new.Goals as goal

pub returns : goal.returns
returns c =
    let code : IsCode c.args.code = assumption (c.well_formed) in
    new_is c.args.code code
