-- Sums over the splittings and over the partitions of a tree are those of its canonical tree.
use Rattle.std.proofs.Common.{◌≡◌, ℕ, List, [], ◌∷◌, ◌++◌, map, Option, Some, None, refl, sym, ◌∙◌, ap, ap₂, subst, mul-pos}
use Rattle.std.specs.List.{flat_map, fold}
use Rattle.std.proofs.lemmas.Grind.{flat_map-append}
use Rattle.std.proofs.lemmas.List.{map-append}
use Rattle.bs_frac.specs.Fraction.{Fraction, SameFraction, sum_of, product_of, whole}
use Rattle.bs_frac.specs.Written.{exactly}
use Rattle.bs_frac.proofs.Same.{same_refl, same_sym, same_trans, sum_same, product_same, product_one}
use Rattle.bs_tree.specs.Tree.{Forest, none, grow, Tree, forest}
use Rattle.bs_tree.specs.Canonical.{insert, sorted, canonical_of}
use Rattle.bs_tree.specs.ListLaws.{all_any, map_same, flat_map_same}
use Rattle.bs_tree.specs.SortingLaws.{insert_comm, sorted-sorted, canonical_twice, by_cases}
use Rattle.bs_tree.specs.Canonical.{is_above}
use Rattle.bs_split.specs.Splitting.{Cuts, cut_off, keep, cuts, Split, rooted, splits}
use Rattle.bs_part.specs.Partition.{node, Pieces, keep_edge, cut_edge, pieces, Part, parts}
use Rattle.bs_part.specs.Partition as partition
use Rattle.bs_split.proofs.Lists.{map-map, map-flat_map}
use Rattle.bs_series.specs.Value.{at_kept, split_term, composed, part_term, substituted}
use Rattle.bs_tableau.proofs.Totals.{IsFraction, one_fraction, sum_by, sum_by_fraction, sum_by-cons, product_assoc}
use Rattle.bs_series.proofs.Shuffles.{IsFine, SameSums, from_equal, each_same, sum_by_map, rows, sums_refl, sums_append, sums_map, items, items_sorted, product_over, product_over_fraction, product_over_insert}

-- ---- the trees of two sorted lists together
abbrev pub together : Forest → Forest → Forest
together none g = g
together (grow c kids rest) g = insert (record { colour = c; below = kids }) (together rest g)

together_insert : (t : Tree) (f g : Forest) → together (insert t f) g ≡ insert t (together f g)
together_insert t none g = refl
together_insert t (grow d below more) g =
    let u : Tree = record { colour = d; below = below } in
    by_cases (is_above u t)
    (λ e. rw e (ap (insert u) (together_insert t more g) ∙ insert_comm u t (together more g)))
    (λ e. rw e refl)

insert_together : (t : Tree) (f g : Forest) → together f (insert t g) ≡ insert t (together f g)
insert_together t none g = refl
insert_together t (grow d below more) g =
    let u : Tree = record { colour = d; below = below } in
    ap (insert u) (insert_together t more g) ∙ insert_comm u t (together more g)

together_exchanged : (f g h : Forest) → together f (together g h) ≡ together g (together f h)
together_exchanged none g h = refl
together_exchanged (grow c kids rest) g h =
    let t : Tree = record { colour = c; below = kids } in
    ap (insert t) (together_exchanged rest g h) ∙ sym (insert_together t g (together rest h))

pub sorted_append : (ts us : List Tree) → sorted (forest (ts ++ us)) ≡ together (sorted (forest ts)) (sorted (forest us))
sorted_append [] us = refl
sorted_append (t ∷ ts) us = ap (insert (canonical_of t)) (sorted_append ts us) ∙ sym (together_insert (canonical_of t) (sorted (forest ts)) (sorted (forest us)))

-- ---- products over the canonical trees of a list
module _ (a : Tree → Fraction) (fine : (t : Tree) → IsFraction (a t)) where
  pub product_sorted : (z : Fraction) → IsFraction z → (ts : List Tree)
      → SameFraction (fold product_of z (map a (map canonical_of ts))) (product_of z (product_over a (sorted (forest ts))))
  product_sorted z hz [] = same_sym (product_one z hz)
  product_sorted z hz (t ∷ ts) =
      let u = canonical_of t in
      let p = product_over a (sorted (forest ts)) in
      let hp = product_over_fraction a fine (sorted (forest ts)) in
      same_trans (product_sorted (product_of z (a u)) (mul-pos hz (fine u)) ts)
      (same_trans (product_assoc z (a u) p hz (fine u) hp)
      (product_same (same_refl z hz) (same_sym (product_over_insert a fine u (sorted (forest ts))))))

-- ---- splittings with their trees sorted
record Kept : Type 0 where
  kept : Forest
  cut : Forest

data Choice : Type 0 where
  away : Tree → Choice
  stay : ℕ → Kept → Choice

abbrev chosen : Choice → Kept → Kept
chosen (away t) later = record { kept = later.kept; cut = insert t later.cut }
chosen (stay c kids) later = record { kept = insert (record { colour = c; below = kids.kept }) later.kept; cut = together kids.cut later.cut }

abbrev kept_and_cut : Forest → Forest → Kept
kept_and_cut f g = record { kept = f; cut = g }

chosen_exchanged : (x y : Choice) (s : Kept) → chosen x (chosen y s) ≡ chosen y (chosen x s)
chosen_exchanged (away t) (away u) s = ap (kept_and_cut s.kept) (insert_comm t u s.cut)
chosen_exchanged (away t) (stay d j) s = ap (kept_and_cut (insert (record { colour = d; below = j.kept }) s.kept)) (sym (insert_together t j.cut s.cut))
chosen_exchanged (stay c k) (away u) s = ap (kept_and_cut (insert (record { colour = c; below = k.kept }) s.kept)) (insert_together u k.cut s.cut)
chosen_exchanged (stay c k) (stay d j) s =
    ap₂ kept_and_cut (insert_comm (record { colour = c; below = k.kept }) (record { colour = d; below = j.kept }) s.kept) (together_exchanged k.cut j.cut s.cut)

abbrev cut_or_keep : ℕ → Forest → List Kept → List Choice
cut_or_keep c kids ks = away (record { colour = c; below = sorted kids }) ∷ map (stay c) ks

cut_or_keep_same : (c : ℕ) (f : Forest) (xs ys : List Kept) → SameSums xs ys → SameSums (cut_or_keep c (sorted f) xs) (cut_or_keep c f ys)
cut_or_keep_same c f xs ys p =
    let first : Forest → List Choice = λ g. away (record { colour = c; below = g }) ∷ [] in
    let e : SameSums (first (sorted (sorted f))) (first (sorted f)) = subst (λ (g : Forest). SameSums (first g) (first (sorted f))) (sym (sorted-sorted f)) (sums_refl (first (sorted f))) in
    sums_append (first (sorted (sorted f))) (first (sorted f)) (map (stay c) xs) (map (stay c) ys) e (sums_map (stay c) xs ys p)

abbrev sorted_cuts : Forest → List Kept
sorted_cuts f = items chosen chosen_exchanged (kept_and_cut none none) cut_or_keep cut_or_keep_same f

abbrev in_order : Cuts → Kept
in_order s = record { kept = sorted s.kept; cut = sorted (forest s.cut) }

kept_in_order : (c : ℕ) (k s : Cuts) → in_order (keep c k s) ≡ chosen (stay c (in_order k)) (in_order s)
kept_in_order c k s = ap (kept_and_cut (insert (record { colour = c; below = sorted k.kept }) (sorted s.kept))) (sorted_append k.cut s.cut)

flat_map_of_map : {X Y Z : Type 0} (f : Y → List Z) (g : X → Y) (xs : List X) → flat_map f (map g xs) ≡ flat_map (λ x. f (g x)) xs
flat_map_of_map f g [] = refl
flat_map_of_map {Z = Z} f g (x ∷ xs) = ap (λ (zs : List Z). f (g x) ++ zs) (flat_map_of_map f g xs)

cuts_in_order : (f : Forest) → map in_order (cuts f) ≡ sorted_cuts f
cuts_in_order none = refl
cuts_in_order (grow c kids rest) =
    let t : Tree = record { colour = c; below = kids } in
    let r = sorted_cuts rest in
    let off : Choice = away (canonical_of t) in
    let away_part : map in_order (map (cut_off t) (cuts rest)) ≡ map (chosen off) r =
    map-map in_order (cut_off t) (cuts rest) ∙ sym (map-map (chosen off) in_order (cuts rest)) ∙ ap (map (chosen off)) (cuts_in_order rest) in
    let row : Cuts → List Kept = λ k. map (chosen (stay c (in_order k))) r in
    let one : (k : Cuts) → map in_order (map (keep c k) (cuts rest)) ≡ row k =
    λ k. map-map in_order (keep c k) (cuts rest)
    ∙ map_same (λ s. in_order (keep c k s)) (λ s. chosen (stay c (in_order k)) (in_order s)) (cuts rest) (all_any (λ s. in_order (keep c k s) ≡ chosen (stay c (in_order k)) (in_order s)) (kept_in_order c k) (cuts rest))
    ∙ sym (map-map (chosen (stay c (in_order k))) in_order (cuts rest))
    ∙ ap (map (chosen (stay c (in_order k)))) (cuts_in_order rest) in
    let stay_part : map in_order (flat_map (λ k. map (keep c k) (cuts rest)) (cuts kids)) ≡ rows chosen (map (stay c) (sorted_cuts kids)) r =
    map-flat_map in_order (λ k. map (keep c k) (cuts rest)) (cuts kids)
    ∙ flat_map_same (λ k. map in_order (map (keep c k) (cuts rest))) row (cuts kids) (all_any (λ k. map in_order (map (keep c k) (cuts rest)) ≡ row k) one (cuts kids))
    ∙ sym (flat_map_of_map (λ (k : Kept). map (chosen (stay c k)) r) in_order (cuts kids))
    ∙ ap (flat_map (λ (k : Kept). map (chosen (stay c k)) r)) (cuts_in_order kids)
    ∙ sym (flat_map_of_map (λ (x : Choice). map (chosen x) r) (stay c) (sorted_cuts kids)) in
    map-append in_order (map (cut_off t) (cuts rest)) (flat_map (λ k. map (keep c k) (cuts rest)) (cuts kids))
    ∙ ap₂ (λ (xs ys : List Kept). xs ++ ys) away_part stay_part

-- ---- a sum over the splittings
module _ (a : Tree → Fraction) (fine : (t : Tree) → IsFraction (a t)) (e : Fraction) (he : IsFraction e) (b : Tree → Fraction) (fine_b : (t : Tree) → IsFraction (b t)) where
  abbrev term : Split → Fraction
  term = split_term exactly a e b

  abbrev with_root : ℕ → Kept → Fraction
  with_root c s = product_of (product_of (whole 1) (b (record { colour = c; below = s.kept }))) (product_over a s.cut)

  with_root_fraction : (c : ℕ) (s : Kept) → IsFraction (with_root c s)
  with_root_fraction c s = mul-pos (mul-pos one_fraction (fine_b (record { colour = c; below = s.kept }))) (product_over_fraction a fine s.cut)

  term_same : (c : ℕ) (s : Cuts) → SameFraction (term (rooted c s)) (with_root c (in_order s))
  term_same c s =
      let v = product_of (whole 1) (b (record { colour = c; below = sorted s.kept })) in
      product_sorted a fine v (mul-pos one_fraction (fine_b (record { colour = c; below = sorted s.kept }))) s.cut

  abbrev nothing : Tree → Split
  nothing t = record { kept = None; forest = canonical_of t ∷ [] }

  term_fraction : (c : ℕ) → IsFine (λ s. term (rooted c s))
  term_fraction c s = (term_same c s).left

  whole_fraction : (t : Tree) → IsFraction (term (nothing t))
  whole_fraction t = mul-pos (mul-pos one_fraction he) (fine (canonical_of t))

  split_fraction : (s : Split) → IsFraction (term s)
  split_fraction s = go s.kept s.forest
    where
      all : (z : Fraction) → IsFraction z → (ts : List Tree) → IsFraction (fold product_of z (map a ts))
      all z hz [] = hz
      all z hz (t ∷ ts) = all (product_of z (a t)) (mul-pos hz (fine t)) ts

      go : (o : Option Tree) (ts : List Tree) → IsFraction (fold product_of (product_of (whole 1) (at_kept exactly e b o)) (map a ts))
      go None ts = all (product_of (whole 1) e) (mul-pos one_fraction he) ts
      go (Some t) ts = all (product_of (whole 1) (b t)) (mul-pos one_fraction (fine_b t)) ts

  pub composed_fraction : (t : Tree) → IsFraction (composed exactly a e b t)
  composed_fraction t = sum_by_fraction term split_fraction (splits t)

  composed_sorted : (t : Tree) → SameFraction (composed exactly a e b t) (sum_of (term (nothing t)) (sum_by (with_root t.colour) (sorted_cuts t.below)))
  composed_sorted t =
      let c = t.colour in
      let kept = sum_by (λ s. term (rooted c s)) (cuts t.below) in
      same_trans (sum_by-cons term split_fraction (nothing t) (map (rooted c) (cuts t.below)))
      (sum_same (same_refl (term (nothing t)) (whole_fraction t))
      (same_trans (from_equal (sum_by_map term (rooted c) (cuts t.below)) (sum_by_fraction term split_fraction (map (rooted c) (cuts t.below))))
      (same_trans (each_same (λ s. term (rooted c s)) (λ s. with_root c (in_order s)) (term_same c) (cuts t.below))
      (from_equal (sym (sum_by_map (with_root c) in_order (cuts t.below)) ∙ ap (sum_by (with_root c)) (cuts_in_order t.below))
      (sum_by_fraction (λ s. with_root c (in_order s)) (λ s. with_root_fraction c (in_order s)) (cuts t.below))))))

  pub composed_canonical : (t : Tree) → SameFraction (composed exactly a e b (canonical_of t)) (composed exactly a e b t)
  composed_canonical t =
      let c = t.colour in
      same_trans (composed_sorted (canonical_of t))
      (same_trans (sum_same (from_equal (ap (λ (u : Tree). term (record { kept = None; forest = u ∷ [] })) (canonical_twice t)) (whole_fraction (canonical_of t)))
      (items_sorted chosen chosen_exchanged (kept_and_cut none none) cut_or_keep cut_or_keep_same t.below (with_root c) (with_root_fraction c)))
      (same_sym (composed_sorted t)))

-- ---- partitions with their trees sorted
record Joined : Type 0 where
  joined : Forest
  hung : Forest
  parts : Forest

data Edge : Type 0 where
  kept_edge : ℕ → Joined → Edge
  gone_edge : ℕ → Joined → Edge

abbrev triple : Forest → Forest → Forest → Joined
triple f g h = record { joined = f; hung = g; parts = h }

abbrev taken : Edge → Joined → Joined
taken (kept_edge c k) s = triple (insert (node c k.joined) s.joined) (together k.hung s.hung) (together k.parts s.parts)
taken (gone_edge c k) s = triple s.joined (insert (node 0 k.hung) s.hung) (insert (node c k.joined) (together k.parts s.parts))

three_same : {f f' g g' h h' : Forest} → f ≡ f' → g ≡ g' → h ≡ h' → triple f g h ≡ triple f' g' h'
three_same {f} {f'} {g} {g'} {h} {h'} p q r = ap₂ (λ (x y : Forest). triple x y h) p q ∙ ap (triple f' g') r

behind : (t : Tree) (f g s : Forest) → together f (insert t (together g s)) ≡ insert t (together g (together f s))
behind t f g s = insert_together t f (together g s) ∙ ap (insert t) (together_exchanged f g s)

taken_exchanged : (x y : Edge) (s : Joined) → taken x (taken y s) ≡ taken y (taken x s)
taken_exchanged (kept_edge c k) (kept_edge d j) s =
    three_same (insert_comm (node c k.joined) (node d j.joined) s.joined) (together_exchanged k.hung j.hung s.hung) (together_exchanged k.parts j.parts s.parts)
taken_exchanged (kept_edge c k) (gone_edge d j) s =
    three_same refl (insert_together (node 0 j.hung) k.hung s.hung) (behind (node d j.joined) k.parts j.parts s.parts)
taken_exchanged (gone_edge c k) (kept_edge d j) s =
    three_same refl (sym (insert_together (node 0 k.hung) j.hung s.hung)) (sym (behind (node c k.joined) j.parts k.parts s.parts))
taken_exchanged (gone_edge c k) (gone_edge d j) s =
    let t = node c k.joined in
    let u = node d j.joined in
    three_same refl (insert_comm (node 0 k.hung) (node 0 j.hung) s.hung)
    (ap (insert t) (behind u k.parts j.parts s.parts) ∙ insert_comm t u (together j.parts (together k.parts s.parts)) ∙ ap (insert u) (sym (insert_together t j.parts (together k.parts s.parts))))

abbrev keep_or_cut : ℕ → Forest → List Joined → List Edge
keep_or_cut c kids ks = map (kept_edge c) ks ++ map (gone_edge c) ks

keep_or_cut_same : (c : ℕ) (f : Forest) (xs ys : List Joined) → SameSums xs ys → SameSums (keep_or_cut c (sorted f) xs) (keep_or_cut c f ys)
keep_or_cut_same c f xs ys p =
    sums_append (map (kept_edge c) xs) (map (kept_edge c) ys) (map (gone_edge c) xs) (map (gone_edge c) ys) (sums_map (kept_edge c) xs ys p) (sums_map (gone_edge c) xs ys p)

abbrev sorted_pieces : Forest → List Joined
sorted_pieces f = items taken taken_exchanged (triple none none none) keep_or_cut keep_or_cut_same f

abbrev put_in_order : Pieces → Joined
put_in_order p = triple (sorted p.joined) (sorted (forest p.hung)) (sorted (forest p.parts))

kept_edge_in_order : (c : ℕ) (k s : Pieces) → put_in_order (keep_edge c k s) ≡ taken (kept_edge c (put_in_order k)) (put_in_order s)
kept_edge_in_order c k s = three_same refl (sorted_append k.hung s.hung) (sorted_append k.parts s.parts)

gone_edge_in_order : (c : ℕ) (k s : Pieces) → put_in_order (cut_edge c k s) ≡ taken (gone_edge c (put_in_order k)) (put_in_order s)
gone_edge_in_order c k s = three_same refl refl (ap (insert (node c (sorted k.joined))) (sorted_append k.parts s.parts))

pieces_in_order : (f : Forest) → map put_in_order (pieces f) ≡ sorted_pieces f
pieces_in_order none = refl
pieces_in_order (grow c kids rest) =
    let r = sorted_pieces rest in
    let half : (made : Pieces → Pieces → Pieces) (edge : Joined → Edge) → ((k s : Pieces) → put_in_order (made k s) ≡ taken (edge (put_in_order k)) (put_in_order s))
    → map put_in_order (flat_map (λ k. map (made k) (pieces rest)) (pieces kids)) ≡ rows taken (map edge (sorted_pieces kids)) r =
    λ made edge same.
    map-flat_map put_in_order (λ k. map (made k) (pieces rest)) (pieces kids)
    ∙ flat_map_same (λ k. map put_in_order (map (made k) (pieces rest))) (λ k. map (taken (edge (put_in_order k))) r) (pieces kids)
    (all_any (λ k. map put_in_order (map (made k) (pieces rest)) ≡ map (taken (edge (put_in_order k))) r)
    (λ k. map-map put_in_order (made k) (pieces rest)
    ∙ map_same (λ s. put_in_order (made k s)) (λ s. taken (edge (put_in_order k)) (put_in_order s)) (pieces rest)
    (all_any (λ s. put_in_order (made k s) ≡ taken (edge (put_in_order k)) (put_in_order s)) (same k) (pieces rest))
    ∙ sym (map-map (taken (edge (put_in_order k))) put_in_order (pieces rest))
    ∙ ap (map (taken (edge (put_in_order k)))) (pieces_in_order rest)) (pieces kids))
    ∙ sym (flat_map_of_map (λ (k : Joined). map (taken (edge k)) r) put_in_order (pieces kids))
    ∙ ap (flat_map (λ (k : Joined). map (taken (edge k)) r)) (pieces_in_order kids)
    ∙ sym (flat_map_of_map (λ (x : Edge). map (taken x) r) edge (sorted_pieces kids)) in
    map-append put_in_order (flat_map (λ k. map (keep_edge c k) (pieces rest)) (pieces kids)) (flat_map (λ k. map (cut_edge c k) (pieces rest)) (pieces kids))
    ∙ ap₂ (λ (xs ys : List Joined). xs ++ ys) (half (keep_edge c) (kept_edge c) (kept_edge_in_order c)) (half (cut_edge c) (gone_edge c) (gone_edge_in_order c))
    ∙ sym (flat_map-append (λ (x : Edge). map (taken x) r) (map (kept_edge c) (sorted_pieces kids)) (map (gone_edge c) (sorted_pieces kids)))

-- ---- a sum over the partitions
module _ (a : Tree → Fraction) (fine : (t : Tree) → IsFraction (a t)) (b : Tree → Fraction) (fine_b : (t : Tree) → IsFraction (b t)) where
  abbrev part : Part → Fraction
  part = part_term exactly a b

  abbrev with_skeleton : ℕ → Joined → Fraction
  with_skeleton c s = product_of (product_of (product_of (whole 1) (a (node 0 s.hung))) (b (node c s.joined))) (product_over b s.parts)

  with_skeleton_fraction : (c : ℕ) (s : Joined) → IsFraction (with_skeleton c s)
  with_skeleton_fraction c s = mul-pos (mul-pos (mul-pos one_fraction (fine (node 0 s.hung))) (fine_b (node c s.joined))) (product_over_fraction b fine_b s.parts)

  part_same : (c : ℕ) (p : Pieces) → SameFraction (part (partition.rooted c p)) (with_skeleton c (put_in_order p))
  part_same c p =
      let v = product_of (product_of (whole 1) (a (node 0 (sorted (forest p.hung))))) (b (node c (sorted p.joined))) in
      product_sorted b fine_b v (mul-pos (mul-pos one_fraction (fine (node 0 (sorted (forest p.hung))))) (fine_b (node c (sorted p.joined)))) p.parts

  substituted_sorted : (t : Tree) → SameFraction (substituted exactly b a t) (sum_by (with_skeleton t.colour) (sorted_pieces t.below))
  substituted_sorted t =
      let c = t.colour in
      let e : substituted exactly b a t ≡ sum_by (λ p. part (partition.rooted c p)) (pieces t.below) = sum_by_map part (partition.rooted c) (pieces t.below) in
      subst (λ v. SameFraction v (sum_by (with_skeleton c) (sorted_pieces t.below))) (sym e)
      (same_trans (each_same (λ p. part (partition.rooted c p)) (λ p. with_skeleton c (put_in_order p)) (part_same c) (pieces t.below))
      (from_equal (sym (sum_by_map (with_skeleton c) put_in_order (pieces t.below)) ∙ ap (sum_by (with_skeleton c)) (pieces_in_order t.below))
      (sum_by_fraction (λ p. with_skeleton c (put_in_order p)) (λ p. with_skeleton_fraction c (put_in_order p)) (pieces t.below))))

  pub substituted_canonical : (t : Tree) → SameFraction (substituted exactly b a (canonical_of t)) (substituted exactly b a t)
  substituted_canonical t =
      let c = t.colour in
      same_trans (substituted_sorted (canonical_of t))
      (same_trans (items_sorted taken taken_exchanged (triple none none none) keep_or_cut keep_or_cut_same t.below (with_skeleton c) (with_skeleton_fraction c))
      (same_sym (substituted_sorted t)))
