use Rattle.std.proofs.Common.{◌≡◌, ◌∙◌, sym, ap, length, arith}
use Rattle.bs_script.proofs.Pieces.{length-pieces}
use Rattle.bs_script.proofs.texts.Texts.get.Goals as goal

pub bounds_of-from-requires : goal.bounds_of-from-requires
bounds_of-from-requires c =
    let whole : length c.args.self.now ≡ length c.self.inside.ends.items = sym (ap length c.self.view_is) ∙ length-pieces _ 0 _ in
    omega (arith, whole, c.requires, ap length c.deref.ensures.value)

pub returns : goal.returns
returns c =
    let piece = c.bounds_of-from.ensures.piece c.self.inside.bytes.items in
    let there = rw c.deref.ensures.value at piece in
    rw (c.deref-2.ensures.value, ← c.self.view_is) there
