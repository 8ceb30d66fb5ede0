use Rattle.std.proofs.Common.{◌≡◌, ◌∙◌, sym, ap, length, arith}
use Rattle.bs_script.proofs.Pieces.{length-pieces}
use Rattle.bs_script.proofs.texts.Texts.len.Goals as goal

pub returns : goal.returns
returns c =
    let e : length c.self.inside.ends.items ≡ c.len.result = omega (arith, c.self.inside.ends.ok.0, c.len.ensures) in
    sym e ∙ sym (length-pieces _ 0 _) ∙ ap length c.self.view_is
