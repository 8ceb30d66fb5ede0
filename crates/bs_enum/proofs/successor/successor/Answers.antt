use Rattle.std.proofs.Common.{◌≡◌, ◌+◌, ◌<◌, ◌≤◌, ◌∷◌, All, IfSome, List, ℕ, subst, sym, arith, Some, length, take, drop, slice_get}
use Rattle.std.specs.Prelude.{Contains}
use Rattle.bs_tree.specs.declared.TheConstants.{MAX_NODES, COLOURS}
use Rattle.bs_enum.specs.AllTrees.{all_trees}
use Rattle.bs_enum.specs.Walk.{from_here}
use Rattle.bs_enum.specs.Successor.{IsLeast}
use Rattle.bs_enum.proofs.Places.{IsSearch, some_colour, lowered_found, root_found, copied_found, none_found}
use Rattle.bs_enum.proofs.successor.successor.Goals as goal

search_is : (k : ℕ) (code ps : List (ℕ × ℕ)) (place : ℕ) (front behind : List (ℕ × ℕ)) → ps ≡ code → Contains (all_trees (length code) k) code → k ≤ COLOURS → length ps ≤ MAX_NODES → place < length ps
    → All IsLeast (drop (place + 1) ps) → (0 < place → IfSome (slice_get ps place) (λ pair. ¬ IsLeast pair)) → front ≡ take place ps → behind ≡ drop place ps → IsSearch k code ps place front behind
search_is k code ps place front behind e c f s w l n t d = record {
  same = e;
  listed = c;
  few = f;
  small = s;
  place_is = record { within = w; least = l; free = n; front_is = t; behind_is = d };
}

pub lowered-next-requires-clause-colours : goal.lowered-next-requires-clause-colours
lowered-next-requires-clause-colours c = some_colour (length c.args.code.now) c.args.colours c.args.code.now c.requires.listed

pub of_canonical-requires : goal.of_canonical-requires
of_canonical-requires c =
    let search : IsSearch c.args.colours c.args.code.now c.pairs-pairs.result.now c.last_free-place.result c.split_at.result.0.now c.split_at.result.1.now =
    search_is c.args.colours c.args.code.now c.pairs-pairs.result.now c.last_free-place.result c.split_at.result.0.now c.split_at.result.1.now c.pairs-pairs.ensures.value c.requires.listed
    c.requires.few_colours c.pairs-pairs.ensures.small c.last_free-place.ensures.within c.last_free-place.ensures.behind c.last_free-place.ensures.free c.split_at.ensures.front c.split_at.ensures.back
    in
    (lowered_found c.args.colours c.args.code.now c.pairs-pairs.result.now c.lowered-next.result c.split_at.result.0.now c.split_at.result.1.now c.last_free-place.result search c.if-pair-gt0.true c.lowered-next.ensures).code

pub returns-then-pair-gt0-clause-next : goal.returns-then-pair-gt0-clause-next
returns-then-pair-gt0-clause-next c =
    let search : IsSearch c.args.colours c.args.code.now c.pairs-pairs.result.now c.last_free-place.result c.split_at.result.0.now c.split_at.result.1.now =
    search_is c.args.colours c.args.code.now c.pairs-pairs.result.now c.last_free-place.result c.split_at.result.0.now c.split_at.result.1.now c.pairs-pairs.ensures.value c.requires.listed
    c.requires.few_colours c.pairs-pairs.ensures.small c.last_free-place.ensures.within c.last_free-place.ensures.behind c.last_free-place.ensures.free c.split_at.ensures.front c.split_at.ensures.back
    in
    subst (λ (t : List (ℕ × ℕ)). from_here (length c.args.code.now) c.args.colours (Some c.args.code.now) ≡ c.args.code.now ∷ from_here (length c.args.code.now) c.args.colours (Some t)) (sym c.of_canonical.ensures)
    (lowered_found c.args.colours c.args.code.now c.pairs-pairs.result.now c.lowered-next.result c.split_at.result.0.now c.split_at.result.1.now c.last_free-place.result search c.if-pair-gt0.true c.lowered-next.ensures).step

pub returns-then-pair-gt0-clause-listed : goal.returns-then-pair-gt0-clause-listed
returns-then-pair-gt0-clause-listed c =
    let search : IsSearch c.args.colours c.args.code.now c.pairs-pairs.result.now c.last_free-place.result c.split_at.result.0.now c.split_at.result.1.now =
    search_is c.args.colours c.args.code.now c.pairs-pairs.result.now c.last_free-place.result c.split_at.result.0.now c.split_at.result.1.now c.pairs-pairs.ensures.value c.requires.listed
    c.requires.few_colours c.pairs-pairs.ensures.small c.last_free-place.ensures.within c.last_free-place.ensures.behind c.last_free-place.ensures.free c.split_at.ensures.front c.split_at.ensures.back
    in
    subst (λ (t : List (ℕ × ℕ)). Contains (all_trees (length c.args.code.now) c.args.colours) t) (sym c.of_canonical.ensures)
    (lowered_found c.args.colours c.args.code.now c.pairs-pairs.result.now c.lowered-next.result c.split_at.result.0.now c.split_at.result.1.now c.last_free-place.result search c.if-pair-gt0.true c.lowered-next.ensures).listed

pub parent_of-requires-clause-root : goal.parent_of-requires-clause-root
parent_of-requires-clause-root c =
    let search : IsSearch c.args.colours c.args.code.now c.pairs-pairs.result.now c.last_free-place.result c.split_at.result.0.now c.split_at.result.1.now =
    search_is c.args.colours c.args.code.now c.pairs-pairs.result.now c.last_free-place.result c.split_at.result.0.now c.split_at.result.1.now c.pairs-pairs.ensures.value c.requires.listed
    c.requires.few_colours c.pairs-pairs.ensures.small c.last_free-place.ensures.within c.last_free-place.ensures.behind c.last_free-place.ensures.free c.split_at.ensures.front c.split_at.ensures.back
    in
    root_found c.args.colours c.args.code.now c.pairs-pairs.result.now c.split_at.result.0.now c.split_at.result.1.now c.last_free-place.result search c.if-place-gt0.true (omega (arith, c.if-pair-gt0.false))

pub of_canonical-requires-then-place-gt0 : goal.of_canonical-requires-then-place-gt0
of_canonical-requires-then-place-gt0 c =
    let search : IsSearch c.args.colours c.args.code.now c.pairs-pairs.result.now c.last_free-place.result c.split_at.result.0.now c.split_at.result.1.now =
    search_is c.args.colours c.args.code.now c.pairs-pairs.result.now c.last_free-place.result c.split_at.result.0.now c.split_at.result.1.now c.pairs-pairs.ensures.value c.requires.listed
    c.requires.few_colours c.pairs-pairs.ensures.small c.last_free-place.ensures.within c.last_free-place.ensures.behind c.last_free-place.ensures.free c.split_at.ensures.front c.split_at.ensures.back
    in
    (copied_found c.args.colours c.args.code.now c.pairs-pairs.result.now c.copied-next.result c.split_at.result.0.now c.split_at.result.1.now c.last_free-place.result c.parent_of.result search c.if-place-gt0.true (omega (arith, c.if-pair-gt0.false)) c.parent_of.ensures.within c.parent_of.ensures.above c.parent_of.ensures.between c.copied-next.ensures).code

pub returns-then-place-gt0-clause-next : goal.returns-then-place-gt0-clause-next
returns-then-place-gt0-clause-next c =
    let search : IsSearch c.args.colours c.args.code.now c.pairs-pairs.result.now c.last_free-place.result c.split_at.result.0.now c.split_at.result.1.now =
    search_is c.args.colours c.args.code.now c.pairs-pairs.result.now c.last_free-place.result c.split_at.result.0.now c.split_at.result.1.now c.pairs-pairs.ensures.value c.requires.listed
    c.requires.few_colours c.pairs-pairs.ensures.small c.last_free-place.ensures.within c.last_free-place.ensures.behind c.last_free-place.ensures.free c.split_at.ensures.front c.split_at.ensures.back
    in
    subst (λ (t : List (ℕ × ℕ)). from_here (length c.args.code.now) c.args.colours (Some c.args.code.now) ≡ c.args.code.now ∷ from_here (length c.args.code.now) c.args.colours (Some t)) (sym c.of_canonical-then-place-gt0.ensures)
    (copied_found c.args.colours c.args.code.now c.pairs-pairs.result.now c.copied-next.result c.split_at.result.0.now c.split_at.result.1.now c.last_free-place.result c.parent_of.result search c.if-place-gt0.true (omega (arith, c.if-pair-gt0.false)) c.parent_of.ensures.within c.parent_of.ensures.above c.parent_of.ensures.between c.copied-next.ensures).step

pub returns-then-place-gt0-clause-listed : goal.returns-then-place-gt0-clause-listed
returns-then-place-gt0-clause-listed c =
    let search : IsSearch c.args.colours c.args.code.now c.pairs-pairs.result.now c.last_free-place.result c.split_at.result.0.now c.split_at.result.1.now =
    search_is c.args.colours c.args.code.now c.pairs-pairs.result.now c.last_free-place.result c.split_at.result.0.now c.split_at.result.1.now c.pairs-pairs.ensures.value c.requires.listed
    c.requires.few_colours c.pairs-pairs.ensures.small c.last_free-place.ensures.within c.last_free-place.ensures.behind c.last_free-place.ensures.free c.split_at.ensures.front c.split_at.ensures.back
    in
    subst (λ (t : List (ℕ × ℕ)). Contains (all_trees (length c.args.code.now) c.args.colours) t) (sym c.of_canonical-then-place-gt0.ensures)
    (copied_found c.args.colours c.args.code.now c.pairs-pairs.result.now c.copied-next.result c.split_at.result.0.now c.split_at.result.1.now c.last_free-place.result c.parent_of.result search c.if-place-gt0.true (omega (arith, c.if-pair-gt0.false)) c.parent_of.ensures.within c.parent_of.ensures.above c.parent_of.ensures.between c.copied-next.ensures).listed

pub returns-clause-next : goal.returns-clause-next
returns-clause-next c =
    let search : IsSearch c.args.colours c.args.code.now c.pairs-pairs.result.now c.last_free-place.result c.split_at.result.0.now c.split_at.result.1.now =
    search_is c.args.colours c.args.code.now c.pairs-pairs.result.now c.last_free-place.result c.split_at.result.0.now c.split_at.result.1.now c.pairs-pairs.ensures.value c.requires.listed
    c.requires.few_colours c.pairs-pairs.ensures.small c.last_free-place.ensures.within c.last_free-place.ensures.behind c.last_free-place.ensures.free c.split_at.ensures.front c.split_at.ensures.back
    in
    none_found c.args.colours c.args.code.now c.pairs-pairs.result.now c.split_at.result.0.now c.split_at.result.1.now c.last_free-place.result search (omega (arith, c.if-place-gt0.false)) (omega (arith, c.if-pair-gt0.false))
