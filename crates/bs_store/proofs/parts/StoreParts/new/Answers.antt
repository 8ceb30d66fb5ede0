use Rattle.std.proofs.Common.{arith}
use Rattle.bs_store.proofs.Steps.{looks}
use Rattle.bs_store.proofs.Makes.{begins}
use Rattle.bs_store.proofs.parts.StoreParts.new.Goals as goal

pub of_words-requires : goal.of_words-requires
of_words-requires c = begins _ _

pub load-requires : goal.load-requires
load-requires c =
    let e = c.in_ok-board.ensures in
    let l = c.as_slice.ensures.len in
    let k = c.in_ok-words.ensures.len in
    let r = c.requires.stripes.0 in
    let f = c.from.ensures in
    let w = e.0 in
    (e.2, omega arith, looks _ _ _ _ _ _)
