use Rattle.std.proofs.Common.{◌≡◌, length, arith}
use Rattle.std.proofs.lemmas.List.{take_at, length-take-le}
use Rattle.std.proofs.lemmas.List.Sorted.{IsPermutation-trans}
use Rattle.bs_tree.proofs.code_list.CodeList.sort.Goals as goal

pub returns-clause-same : goal.returns-clause-same
returns-clause-same c =
    let n = c.self.inside.len in
    let e : length c.reverse.new.self ≡ n = omega (arith, length-take-le n c.self.inside.codes) in
    rw (← c.self.view_is, take_at c.reverse.new.self _ n e)
    (IsPermutation-trans _ _ _ c.sort_unstable.ensures.permutation c.reverse.ensures.permutation)
