use Rattle.std.proofs.Common.{◌≡◌, ◌∙◌, ℕ, List, sym, ap, subst, arith, take}
use Rattle.bs_tree.specs.Subtrees.{first_count}
use Rattle.bs_tree.proofs.Children.{IsChild, from_start, child_here, rest_of_all}
use Rattle.bs_tree.proofs.build.child_pairs.Goals as goal

pub passed-init : goal.passed-init
passed-init c = rw rest_of_all (from_start c.args.pairs.now c.requires.subtree)

pub first_count-requires : goal.first_count-requires
first_count-requires c = (child_here c.args.pairs.now c.passed.rest.now c.passed.counter c.passed.invariant (omega arith)).0

pub split_at-requires : goal.split_at-requires
split_at-requires c =
    let h = child_here c.args.pairs.now c.passed.rest.now c.passed.counter c.passed.invariant (omega arith) in
    omega (arith, h.1, c.first_count.ensures.value)

pub passed-preserved : goal.passed-preserved
passed-preserved c =
    let h = child_here c.args.pairs.now c.passed.rest.now c.passed.counter c.passed.invariant (omega arith) in
    rw (c.split_at.ensures.back, c.first_count.ensures.value) h.3

pub first_count-requires-2 : goal.first_count-requires-2
first_count-requires-2 c = (child_here c.args.pairs.now c.passed.rest.now c.passed.counter c.passed.invariant (omega arith)).0

pub split_at-requires-2 : goal.split_at-requires-2
split_at-requires-2 c =
    let h = child_here c.args.pairs.now c.passed.rest.now c.passed.counter c.passed.invariant (omega arith) in
    omega (arith, h.1, c.first_count-2.ensures.value)

pub returns : goal.returns
returns c =
    let ps = c.args.pairs.now in
    let i = c.passed.counter in
    let h = child_here ps c.passed.rest.now i c.passed.invariant (omega arith) in
    let same : i ≡ c.args.place = omega arith in
    let first = c.split_at-2.result.0.now in
    let e : first ≡ take (first_count c.passed.rest.now) c.passed.rest.now = c.split_at-2.ensures.front ∙ ap (λ (n : ℕ). take n c.passed.rest.now) c.first_count-2.ensures.value in
    let k : IsChild ps first c.args.place = subst (IsChild ps first) same (subst (λ (x : List (ℕ × ℕ)). IsChild ps x i) (sym e) h.2) in
    record { subtree = k.subtree; level = omega (arith, k.level); child = k.is }
