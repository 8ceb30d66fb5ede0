use Rattle.std.proofs.Common.{◌≡◌, ◌∙◌, ℕ, ◌+◌, ◌≤◌, List, ◌++◌, length, take, drop, ap, sym, subst, arith, suc, map, IsPermutation}
use Rattle.std.proofs.lemmas.List.{take_at, drop-set-lt}
use Rattle.std.proofs.Math.ListN.{length-set}
use Rattle.bs_tree.specs.Tree.{Tree, forest, nodes, order}
use Rattle.bs_tree.specs.Canonical.{sorted, canonical_of}
use Rattle.bs_tree.proofs.Reordered.{canonical_whole, canonical_more, rest_begins, child_smaller, same_view, isomorphic_view, sequence_view, within_sorted}
use Rattle.bs_tree.proofs.tree.Tree.+canonical.Goals as goal

-- the list after the sort
kept : (ys xs : List Tree) (n : ℕ) → length ys ≡ n → take n (ys ++ drop (length ys) xs) ≡ ys
kept ys xs n h = take_at ys (drop (length ys) xs) n h

below : (t : ℕ) (c : goal.After-children t) → forest c.children.self-inside.children.items ≡ sorted (forest c.self.inside.children.items)
below t c =
    let xs : List Tree = c.self.inside.children.items in
    let ys : List Tree = c.sort_by_code.new.children in
    let zs : List Tree = c.children.self-inside.children.items in
    let place = c.children.place in
    let k = kept ys xs c.self.inside.children.len (omega arith) in
    let p = subst (λ (us : List Tree). IsPermutation us ys) c.deref_mut.ensures.value c.sort_by_code.ensures.same in
    let front = c.children.invariant.front ∙ ap (λ (us : List Tree). map canonical_of (take place us)) k in
    canonical_whole xs ys zs place p c.sort_by_code.ensures.order (omega arith) (c.children.invariant.size ∙ ap length k) front

pub invariant_of-self : goal.invariant_of-self
invariant_of-self t c =
    rw (c.children.invariant.colour, c.children.invariant.count, below t c) (within_sorted c.self.inside.colour c.self.inside.node_count (forest c.self.inside.children.items) c.self.invariant)

pub canonical-requires : goal.canonical-requires
canonical-requires t c =
    let xs : List Tree = c.self.inside.children.items in
    let ys : List Tree = c.sort_by_code.new.children in
    let zs : List Tree = c.children.self-inside.children.items in
    let place = c.children.place in
    let k = kept ys xs c.self.inside.children.len (omega arith) in
    let p = subst (λ (us : List Tree). IsPermutation us ys) c.deref_mut.ensures.value c.sort_by_code.ensures.same in
    let size : length zs ≡ length ys = c.children.invariant.size ∙ ap length k in
    let back = c.children.invariant.back ∙ ap (λ (us : List Tree). drop place us) k in
    let small : order c.index_mut-child.result.now ≤ nodes (forest xs) = child_smaller xs ys zs place c.index_mut-child.result.now p (omega arith) (omega arith) back c.index_mut-child.ensures.value in
    let view : order c.args.self.now ≡ suc (nodes (forest xs)) = sym (ap order c.self.view_is) in
    (omega (arith, c.decreases), tt)

pub children-preserved : goal.children-preserved
children-preserved t c =
    let xs : List Tree = c.self.inside.children.items in
    let ys : List Tree = c.sort_by_code.new.children in
    let zs : List Tree = c.children.self-inside.children.items in
    let place = c.children.place in
    let child : Tree = c.canonical.new.self in
    let k = kept ys xs c.self.inside.children.len (omega arith) in
    let size : length zs ≡ length ys = c.children.invariant.size ∙ ap length k in
    let front = c.children.invariant.front ∙ ap (λ (us : List Tree). map canonical_of (take place us)) k in
    let back = c.children.invariant.back ∙ ap (λ (us : List Tree). drop place us) k in
    let more = canonical_more ys zs place c.index_mut-child.result.now child (omega arith) (omega arith) front back c.index_mut-child.ensures.value c.canonical.ensures.value in
    let rest = (rest_begins zs ys place child (omega arith) (omega arith) back).1 in
    record {
      colour = c.children.invariant.colour;
      count = c.children.invariant.count;
      size = length-set zs place child ∙ c.children.invariant.size;
      front = more ∙ ap (λ (us : List Tree). map canonical_of (take (place + 1) us)) (sym k);
      back = drop-set-lt (place + 1) zs place child (omega arith) ∙ rest ∙ ap (λ (us : List Tree). drop (place + 1) us) (sym k);
    }

pub returns-clause-value : goal.returns-clause-value
returns-clause-value t c = same_view c.self.inside.colour c.children.self-inside.colour (forest c.self.inside.children.items) (forest c.children.self-inside.children.items) c.args.self.now c.children.invariant.colour (below t c) c.self.view_is

pub returns-clause-isomorphic : goal.returns-clause-isomorphic
returns-clause-isomorphic t c = isomorphic_view c.args.self.now _ (returns-clause-value t c)

pub returns-clause-sequence : goal.returns-clause-sequence
returns-clause-sequence t c = sequence_view c.args.self.now _ (returns-clause-value t c)
