use Rattle.bs_listing.proofs.Fronts.{front_either}
use Rattle.bs_listing.proofs.parts.push_count.Goals as goal

pub returns-clause-front : goal.returns-clause-front
returns-clause-front c =
    front_either c.write_line.result c.args.out.now.items _ c.write_line.new.out.items c.write_line.ensures.written c.write_line.ensures.unchanged
