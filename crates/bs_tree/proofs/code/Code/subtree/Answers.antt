use Rattle.std.proofs.Common.{◌≡◌, ◌<◌, ◌-◌, ℕ, List, ap, sym, subst, arith, length, drop, take}
use Rattle.bs_tree.specs.Subtrees.{first_count, IsSubtree}
use Rattle.bs_tree.specs.SubtreeLaws.{subtree_at}
use Rattle.bs_tree.proofs.CodeFacts.{code_subtree}
use Rattle.bs_tree.proofs.code.Code.subtree.Goals as goal

pub code_of-requires : goal.code_of-requires
code_of-requires c =
    let ps = c.pairs.result.now in
    let i = c.args.node in
    let inside : i < length ps = omega (arith, c.requires, ap length c.pairs.ensures.value) in
    let n : c.subtree_end.result - i ≡ first_count (drop i ps) = omega (arith, c.subtree_end.ensures.value, ap (λ (qs : List (ℕ × ℕ)). first_count (drop i qs)) c.pairs.ensures.value) in
    let s = subtree_at ps i (code_subtree ps c.pairs.ensures.code).0 inside in
    record { subtree = subst (λ (k : ℕ). IsSubtree (take k (drop i ps))) (sym n) s.subtree }
