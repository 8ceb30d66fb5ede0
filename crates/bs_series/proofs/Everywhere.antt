-- The equations of series at every tree: neither side changes where a tree is replaced by its canonical one.
use Rattle.std.proofs.Common.{◌≡◌, ℕ, ◌*◌, ◌≤◌, List, [], ◌∷◌, map, Option, Some, None, true, arith, sym, ◌∙◌, ap, ap₂, subst, mul-pos}
use Rattle.std.specs.List.{AllByRecursion}
use Rattle.std.proofs.lemmas.List.{map-append}
use Rattle.std.proofs.lemmas.List.Sums.{fold-append}
use Rattle.bs_frac.specs.Fraction.{Fraction, SameFraction, sum_of, product_of, opposite_of, whole}
use Rattle.bs_frac.specs.Written.{exactly, sum_onto}
use Rattle.bs_frac.proofs.Same.{same_refl, same_sym, same_trans, sum_same, product_same, opposite_same, quotient_same}
use Rattle.bs_frac.proofs.Ring.{self, nat, plus, minus, times, same}
use Rattle.bs_tree.specs.Tree.{Tree, Forest, nodes, order}
use Rattle.bs_tree.specs.Canonical.{canonical_of}
use Rattle.bs_tree.specs.Isomorphic.{isomorphic}
use Rattle.bs_tree.specs.SortingLaws.{canonical_twice, nodes-sorted, order-canonical_of}
use Rattle.bs_tree.proofs.Canon.{alike, isomorphic_canonical}
use Rattle.bs_tree.proofs.Invariance.{density_same}
use Rattle.bs_split.specs.Splitting.{Split, splits, init}
use Rattle.bs_split.specs.SplittingLaws.{split_shape}
use Rattle.bs_part.specs.Partition.{Part, parts, leaf, tail}
use Rattle.bs_part.specs.PartitionLaws.{part_shape}
use Rattle.bs_series.specs.Value.{within, unit_fraction, exact_value, at_kept, split_term, part_term, composed, inverse_step, inverse_of, substituted, solved_step, modified_of, modifying_of}
use Rattle.bs_series.specs.Laws.{IsMap, IsInvariant, SumsAgreeOnIsomorphic, InverseEverywhere, ModifiedEverywhere, ModifyingEverywhere}
use Rattle.bs_series.proofs.Totals.{IsFraction, zero_fraction, one_fraction, sum_onto_fraction, sum_onto_total, less_all_total, product_from_fraction}
use Rattle.bs_series.proofs.Solve.{within_keeps}
use Rattle.bs_series.proofs.Inverse.{inverse_fraction, inverse_solves, inverse_unique}
use Rattle.bs_series.proofs.Solved.{exact_fraction, step_fraction, modified_fraction, modified_solves, modified_unique, modifying_fraction, modifying_solves, modifying_unique}
use Rattle.bs_series.proofs.Shuffles.{from_equal}
use Rattle.bs_series.proofs.Shuffled.{composed_canonical, substituted_canonical}

-- ---- maps that do not change where a tree is replaced by its canonical one
abbrev pub AtCanonical : (Tree → Fraction) → Type 0
AtCanonical a = (t : Tree) → SameFraction (a (canonical_of t)) (a t)

same_canonical : (t u : Tree) → isomorphic t u ≡ true → canonical_of t ≡ canonical_of u
same_canonical t u h =
    let e = alike t u h in
    ap₂ (λ (c : ℕ) (f : Forest). let v : Tree = record { colour = c; below = f } in v) e.colours e.lists

pub from_canonical : (a : Tree → Fraction) → AtCanonical a → IsInvariant a
from_canonical a h t u e =
    same_trans (same_sym (h t)) (subst (λ (v : Tree). SameFraction (a v) (a u)) (sym (same_canonical t u e)) (h u))

pub to_canonical : (a : Tree → Fraction) → IsInvariant a → AtCanonical a
to_canonical a h t = same_sym (h t (canonical_of t) (isomorphic_canonical t))

pub exact_canonical : AtCanonical exact_value
exact_canonical t =
    from_equal (ap unit_fraction (sym (density_same t (canonical_of t) (isomorphic_canonical t)))) (exact_fraction (canonical_of t))

pub sums_agree : SumsAgreeOnIsomorphic
sums_agree = record {
  composed = λ a b e fine fine_b he. from_canonical (composed exactly a e b) (composed_canonical a fine e he b fine_b);
  substituted = λ a b fine fine_b. from_canonical (substituted exactly b a) (substituted_canonical a fine b fine_b);
}

-- ---- a summand is taken away on both sides
module _ (x w : Fraction) (hx : IsFraction x) (hw : IsFraction w) where
  right_again : SameFraction (sum_of (sum_of x w) (opposite_of w)) x
  right_again =
      let a = x.top in let b = x.bottom in let c = w.top in let d = w.bottom in
      record {
        left = mul-pos (mul-pos hx hw) hw;
        right = hx;
        cross = same (times (plus (times (plus (times (self a) (nat d)) (times (self c) (nat b))) (nat d)) (times (minus (self c)) (nat (b * d)))) (nat b))
            (times (self a) (nat ((b * d) * d))) (omega arith);
      }

  left_again : SameFraction (sum_of (sum_of w x) (opposite_of w)) x
  left_again =
      let a = x.top in let b = x.bottom in let c = w.top in let d = w.bottom in
      record {
        left = mul-pos (mul-pos hw hx) hw;
        right = hx;
        cross = same (times (plus (times (plus (times (self c) (nat b)) (times (self a) (nat d))) (nat d)) (times (minus (self c)) (nat (d * b)))) (nat b))
            (times (self a) (nat ((d * b) * d))) (omega arith);
      }

without_right : (x y w : Fraction) → IsFraction x → IsFraction y → IsFraction w → SameFraction (sum_of x w) (sum_of y w) → SameFraction x y
without_right x y w hx hy hw h =
    same_trans (same_sym (right_again x w hx hw)) (same_trans (sum_same h (same_refl (opposite_of w) hw)) (right_again y w hy hw))

without_left : (x y w : Fraction) → IsFraction x → IsFraction y → IsFraction w → SameFraction (sum_of w x) (sum_of w y) → SameFraction x y
without_left x y w hx hy hw h =
    same_trans (same_sym (left_again x w hx hw)) (same_trans (sum_same h (same_refl (opposite_of w) hw)) (left_again y w hy hw))

-- ---- a rule that reads the same at a tree and at its canonical one has such a solution
module _ (step : (Tree → Fraction) → Tree → Fraction) (fine : (x : Tree → Fraction) → IsMap x → IsMap (step x))
    (same_step : (x : Tree → Fraction) → IsMap x → AtCanonical (step x)) where
  solution_canonical : AtCanonical (λ t. within (order t) (whole 0) step t)
  solution_canonical t =
      let x : Tree → Fraction = within (nodes t.below) (whole 0) step in
      let hx : IsMap x = λ u. within_keeps IsFraction (whole 0) step zero_fraction fine (nodes t.below) u in
      subst (λ (n : ℕ). SameFraction (step (within n (whole 0) step) (canonical_of t)) (step x t)) (sym (nodes-sorted t.below)) (same_step x hx t)

-- ---- the inverse
module _ (a : Tree → Fraction) (fine : IsMap a) where
  abbrev term : (Tree → Fraction) → Split → Fraction
  term = split_term exactly a (whole 1)

  abbrev others : (Tree → Fraction) → Tree → Fraction
  others x t = sum_onto exactly (whole 0) (map (term x) (init (splits t)))

  abbrev whole_term : (Tree → Fraction) → Tree → Fraction
  whole_term x t = product_of (whole 1) (x (canonical_of t))

  terms_fraction : (x : Tree → Fraction) → IsMap x → (ss : List Split) → AllByRecursion IsFraction (map (term x) ss)
  terms_fraction x h [] = tt
  terms_fraction x h (s ∷ ss) = (product_from_fraction (whole 1) (at_kept exactly (whole 1) x s.kept ∷ map a s.forest) one_fraction (kept s.kept, each s.forest), terms_fraction x h ss)
    where
      kept : (o : Option Tree) → IsFraction (at_kept exactly (whole 1) x o)
      kept None = one_fraction
      kept (Some u) = h u

      each : (ts : List Tree) → AllByRecursion IsFraction (map a ts)
      each [] = tt
      each (t ∷ ts) = (fine t, each ts)

  others_fraction : (x : Tree → Fraction) → IsMap x → (t : Tree) → IsFraction (others x t)
  others_fraction x h t = sum_onto_fraction (whole 0) (map (term x) (init (splits t))) zero_fraction (terms_fraction x h (init (splits t)))

  with_whole : (x : Tree → Fraction) (t : Tree) → composed exactly a (whole 1) x t ≡ sum_of (others x t) (whole_term x t)
  with_whole x t =
      let s = split_shape t in
      ap (λ is. sum_onto exactly (whole 0) (map (term x) is)) s.is
      ∙ ap (sum_onto exactly (whole 0)) (map-append (term x) s.before _)
      ∙ fold-append sum_of (whole 0) (map (term x) s.before) _
      ∙ ap (λ is. sum_of (sum_onto exactly (whole 0) (map (term x) is)) (whole_term x t)) (sym s.init_is)

  others_canonical : (x : Tree → Fraction) → IsMap x → AtCanonical (others x)
  others_canonical x h t =
      let u = canonical_of t in
      let e : SameFraction (composed exactly a (whole 1) x u) (composed exactly a (whole 1) x t) = composed_canonical a fine (whole 1) one_fraction x h t in
      let e1 : SameFraction (sum_of (others x u) (whole_term x u)) (composed exactly a (whole 1) x t) = subst (λ v. SameFraction v (composed exactly a (whole 1) x t)) (with_whole x u) e in
      let e2 : SameFraction (sum_of (others x u) (whole_term x u)) (sum_of (others x t) (whole_term x t)) = subst (λ v. SameFraction (sum_of (others x u) (whole_term x u)) v) (with_whole x t) e1 in
      let e3 : SameFraction (sum_of (others x u) (whole_term x t)) (sum_of (others x t) (whole_term x t)) =
      subst (λ (v : Tree). SameFraction (sum_of (others x u) (product_of (whole 1) (x v))) (sum_of (others x t) (whole_term x t))) (canonical_twice t) e2 in
      without_right (others x u) (others x t) (whole_term x t) (others_fraction x h u) (others_fraction x h t) (mul-pos one_fraction (h (canonical_of t))) e3

  step_is : (x : Tree → Fraction) → IsMap x → (t : Tree) → SameFraction (inverse_step exactly a x t) (sum_of (whole 0) (opposite_of (others x t)))
  step_is x h t = less_all_total (whole 0) (map (term x) (init (splits t))) zero_fraction (terms_fraction x h (init (splits t)))

  pub inverse_canonical : AtCanonical (inverse_of exactly a)
  inverse_canonical =
      solution_canonical (inverse_step exactly a) (λ x h t. (step_is x h t).left)
      (λ x h t. same_trans (step_is x h (canonical_of t))
      (same_trans (sum_same (same_refl (whole 0) zero_fraction) (opposite_same (others_canonical x h t))) (same_sym (step_is x h t))))

-- ---- a rule over the partitions
module _ (outer a : Tree → Fraction) (fine_outer : IsMap outer) (fine : IsMap a) (same_a : AtCanonical a) where
  abbrev part : (Tree → Fraction) → Part → Fraction
  part = part_term exactly outer

  abbrev later : (Tree → Fraction) → Tree → Fraction
  later b t = sum_onto exactly (whole 0) (map (part b) (tail (parts t)))

  abbrev first : (Tree → Fraction) → Tree → Fraction
  first b t = sum_of (whole 0) (product_of (product_of (whole 1) (outer leaf)) (b (canonical_of t)))

  abbrev own : Tree → Fraction
  own t = sum_of (whole 0) (product_of (whole 1) (a t))

  own_fraction : (t : Tree) → IsFraction (own t)
  own_fraction t = mul-pos zero_fraction (mul-pos one_fraction (fine t))

  first_fraction : (b : Tree → Fraction) → IsMap b → (t : Tree) → IsFraction (first b t)
  first_fraction b h t = mul-pos zero_fraction (mul-pos (mul-pos one_fraction (fine_outer leaf)) (h (canonical_of t)))

  parts_fraction : (b : Tree → Fraction) → IsMap b → (ps : List Part) → AllByRecursion IsFraction (map (part b) ps)
  parts_fraction b h [] = tt
  parts_fraction b h (p ∷ ps) = (product_from_fraction (whole 1) (outer p.skeleton ∷ map b p.parts) one_fraction (fine_outer p.skeleton, each p.parts), parts_fraction b h ps)
    where
      each : (ts : List Tree) → AllByRecursion IsFraction (map b ts)
      each [] = tt
      each (t ∷ ts) = (h t, each ts)

  later_fraction : (b : Tree → Fraction) → IsMap b → (t : Tree) → IsFraction (later b t)
  later_fraction b h t = sum_onto_fraction (whole 0) (map (part b) (tail (parts t))) zero_fraction (parts_fraction b h (tail (parts t)))

  with_first : (b : Tree → Fraction) → IsMap b → (t : Tree) → SameFraction (substituted exactly b outer t) (sum_of (first b t) (later b t))
  with_first b h t =
      let s = part_shape t in
      let e : substituted exactly b outer t ≡ sum_onto exactly (first b t) (map (part b) (tail (parts t))) =
      ap (λ is. sum_onto exactly (whole 0) (map (part b) is)) s.is ∙ ap (λ is. sum_onto exactly (first b t) (map (part b) is)) (sym s.tail_is) in
      subst (λ v. SameFraction v (sum_of (first b t) (later b t))) (sym e)
      (sum_onto_total (first b t) (map (part b) (tail (parts t))) (first_fraction b h t) (parts_fraction b h (tail (parts t))))

  later_canonical : (b : Tree → Fraction) → IsMap b → AtCanonical (later b)
  later_canonical b h t =
      let u = canonical_of t in
      let e : SameFraction (sum_of (first b u) (later b u)) (sum_of (first b t) (later b t)) =
      same_trans (same_sym (with_first b h u)) (same_trans (substituted_canonical outer fine_outer b h t) (with_first b h t)) in
      let e2 : SameFraction (sum_of (first b t) (later b u)) (sum_of (first b t) (later b t)) =
      subst (λ (v : Tree). SameFraction (sum_of (sum_of (whole 0) (product_of (product_of (whole 1) (outer leaf)) (b v))) (later b u)) (sum_of (first b t) (later b t))) (canonical_twice t) e in
      without_left (later b u) (later b t) (first b t) (later_fraction b h u) (later_fraction b h t) (first_fraction b h t) e2

  rule_is : (b : Tree → Fraction) → IsMap b → (t : Tree) → SameFraction (solved_step exactly outer a b t) (sum_of (own t) (opposite_of (later b t)))
  rule_is b h t = less_all_total (own t) (map (part b) (tail (parts t))) (own_fraction t) (parts_fraction b h (tail (parts t)))

  solved_canonical : (b : Tree → Fraction) → IsMap b → AtCanonical (solved_step exactly outer a b)
  solved_canonical b h t =
      same_trans (rule_is b h (canonical_of t))
      (same_trans (sum_same (sum_same (same_refl (whole 0) zero_fraction) (product_same (same_refl (whole 1) one_fraction) (same_a t))) (opposite_same (later_canonical b h t)))
      (same_sym (rule_is b h t)))

pub modified_canonical : (a : Tree → Fraction) → IsMap a → AtCanonical a → AtCanonical (modified_of exactly a)
modified_canonical a fine same_a =
    solution_canonical (solved_step exactly exact_value a) (λ b h t. step_fraction exact_value a exact_fraction fine b h t)
    (solved_canonical exact_value a exact_fraction fine same_a)

pub modifying_canonical : (a : Tree → Fraction) → IsMap a → AtCanonical (modifying_of exactly a)
modifying_canonical a fine =
    let divided : (b : Tree → Fraction) → IsMap b → (t u : Tree) → SameFraction (solved_step exactly a exact_value b t) (solved_step exactly a exact_value b u)
    → SameFraction (exactly.quotient (solved_step exactly a exact_value b t) (a leaf)) (exactly.quotient (solved_step exactly a exact_value b u) (a leaf)) =
    λ b h t u e. quotient_same e (same_refl (a leaf) (fine leaf)) in
    solution_canonical (λ b t. exactly.quotient (solved_step exactly a exact_value b t) (a leaf))
    (λ b h t. (divided b h t t (same_refl (solved_step exactly a exact_value b t) (step_fraction a exact_value fine exact_fraction b h t))).left)
    (λ b h t. divided b h (canonical_of t) t (solved_canonical a exact_value fine exact_fraction exact_canonical b h t))

-- ---- from canonical trees to every tree
everywhere : (x y : Tree → Fraction) → AtCanonical x → AtCanonical y → (t : Tree) → SameFraction (x (canonical_of t)) (y (canonical_of t)) → SameFraction (x t) (y t)
everywhere x y p q t e = same_trans (same_sym (p t)) (same_trans e (q t))

small_too : (n : ℕ) (t : Tree) → order t ≤ n → order (canonical_of t) ≤ n
small_too n t h = omega (arith, order-canonical_of t, h)

pub inverse_everywhere : InverseEverywhere
inverse_everywhere a fine =
    let x = inverse_of exactly a in
    let p = inverse_canonical a fine in record {
      invariant = from_canonical x p;
      solves = λ n t h. everywhere (composed exactly a (whole 1) x) (λ u. whole 0) (composed_canonical a fine (whole 1) one_fraction x (inverse_fraction a fine)) (λ u. same_refl (whole 0) zero_fraction) t (inverse_solves a fine (canonical_of t) (canonical_twice t));
      alone = λ n y hy q solves t h. everywhere y x (to_canonical y q) p t
          (inverse_unique a fine n y hy (λ u c k. solves u k) (canonical_of t) (canonical_twice t) (small_too n t h));
    }

pub modified_everywhere : ModifiedEverywhere
modified_everywhere a fine q =
    let b = modified_of exactly a in
    let same_a = to_canonical a q in
    let p = modified_canonical a fine same_a in record {
      invariant = from_canonical b p;
      solves = λ n t h. everywhere (substituted exactly b exact_value) a (substituted_canonical exact_value exact_fraction b (modified_fraction a fine)) same_a t (modified_solves a fine (canonical_of t) (canonical_twice t));
      alone = λ n y hy r solves t h. everywhere y b (to_canonical y r) p t
          (modified_unique a fine n y hy (λ u c k. solves u k) (canonical_of t) (canonical_twice t) (small_too n t h));
    }

pub modifying_everywhere : ModifyingEverywhere
modifying_everywhere a fine solvable =
    let b = modifying_of exactly a in
    let p = modifying_canonical a fine in record {
      invariant = from_canonical b p;
      solves = λ n t h. everywhere (substituted exactly b a) exact_value (substituted_canonical a fine b (modifying_fraction a fine solvable)) exact_canonical t (modifying_solves a fine solvable (canonical_of t) (canonical_twice t));
      alone = λ n y hy r solves t h. everywhere y b (to_canonical y r) p t
          (modifying_unique a fine solvable n y hy (λ u c k. solves u k) (canonical_of t) (canonical_twice t) (small_too n t h));
    }
