-- The word of the next item: what is left from a word on is its item, and what is left from the next word on.
use Rattle.std.proofs.Common.{◌≡◌, ℕ, suc, zero, ◌+◌, ◌-◌, ◌<◌, ◌≤◌, List, [], ◌∷◌, ◌++◌, map, take, drop, length, replicate, Bool, true, false, cond, Option, Some, None, option_map, arith, refl, sym, ◌∙◌, ap, ap₂, length-drop}
use Rattle.std.specs.List.{flat_map}
use Rattle.std.proofs.lemmas.List.{drop-replicate, take-replicate, length-take-le}
use Rattle.bs_tree.specs.Tree.{Forest, none, grow, Tree, nodes}
use Rattle.bs_split.specs.Splitting.{Cuts, cut_off, keep, cuts}
use Rattle.bs_split.specs.Words.{cuts_by}
use Rattle.bs_split.specs.Walk.{rows_from, cuts_from, or_else, last_cut, advanced}

pub rows_all : (c : ℕ) (later ks : List Cuts) → rows_from c later later ks ≡ flat_map (λ k. map (keep c k) later) ks
rows_all c later [] = refl
rows_all c later (k ∷ ks) = refl

-- from the word of cuts alone, all
pub from_cuts : (f : Forest) (n : ℕ) → nodes f ≤ n → cuts_from f (replicate n false) ≡ cuts f
from_cuts none n h = refl
from_cuts (grow c kids rest) zero h = absurd (omega arith)
from_cuts (grow c kids rest) (suc n) h =
    let t : Tree = record { colour = c; below = kids } in
    ap (λ (ks : List Cuts). map (cut_off t) ks ++ flat_map (λ k. map (keep c k) (cuts rest)) (cuts kids))
    (ap (cuts_from rest) (drop-replicate (nodes kids) n false) ∙ from_cuts rest (n - nodes kids) (omega arith))

-- ---- the next word
take_behind : (m i : ℕ) (w : List Bool) → take m (advanced (m + i) w) ≡ take m w
take_behind zero i w = refl
take_behind (suc m) i [] = refl
take_behind (suc m) i (b ∷ w) = let e : suc m + i ≡ suc (m + i) = omega arith in ap (λ (k : ℕ). take (suc m) (advanced k (b ∷ w))) e ∙ ap (λ (u : List Bool). b ∷ u) (take_behind m i w)

drop_behind : (m i : ℕ) (w : List Bool) → drop m (advanced (m + i) w) ≡ advanced i (drop m w)
drop_behind zero i w = let e : zero + i ≡ i = omega arith in ap (λ (k : ℕ). advanced k w) e
drop_behind (suc m) i [] = refl
drop_behind (suc m) i (b ∷ w) = let e : suc m + i ≡ suc (m + i) = omega arith in ap (λ (k : ℕ). drop (suc m) (advanced k (b ∷ w))) e ∙ drop_behind m i w

take_within : (m i : ℕ) (w : List Bool) → i < m → m ≤ length w → take m (advanced i w) ≡ advanced i (take m w)
take_within zero i w lt h = absurd (omega arith)
take_within (suc m) i [] lt h = absurd (omega arith)
take_within (suc m) zero (b ∷ w) lt h =
    ap (λ (u : List Bool). true ∷ u) (take-replicate m (length w) false (omega arith) ∙ ap (λ (n : ℕ). replicate n false) (sym (length-take-le m w (omega arith))))
take_within (suc m) (suc i) (b ∷ w) lt h = ap (λ (u : List Bool). b ∷ u) (take_within m i w (omega arith) (omega arith))

drop_within : (m i : ℕ) (w : List Bool) → i < m → m ≤ length w → drop m (advanced i w) ≡ replicate (length w - m) false
drop_within zero i w lt h = absurd (omega arith)
drop_within (suc m) i [] lt h = absurd (omega arith)
drop_within (suc m) zero (b ∷ w) lt h =
    let e : length w - m ≡ suc (length w) - suc m = omega arith in
    drop-replicate m (length w) false ∙ ap (λ (n : ℕ). replicate n false) e
drop_within (suc m) (suc i) (b ∷ w) lt h =
    let e : length w - m ≡ suc (length w) - suc m = omega arith in
    drop_within m i w (omega arith) (omega arith) ∙ ap (λ (n : ℕ). replicate n false) e

abbrev pub Below : ℕ → Option ℕ → Type 0
Below n None = Unit {0}
Below n (Some i) = i < n

below_else : (n : ℕ) (a b : Option ℕ) → Below n a → Below n b → Below n (or_else a b)
below_else n None b h k = k
below_else n (Some i) b h k = h

below_behind : (m n : ℕ) (a : Option ℕ) → Below n a → Below (suc m + n) (option_map (λ i. suc (m + i)) a)
below_behind m n None h = tt
below_behind m n (Some i) h = let lt : i < n = h in omega arith

below_within : (m n : ℕ) (a : Option ℕ) → Below m a → Below (suc m + n) (option_map (λ i. suc i) a)
below_within m n None h = tt
below_within m n (Some i) h = let lt : i < m = h in omega arith

pub last_below : (f : Forest) (w : List Bool) → Below (nodes f) (last_cut f w)
last_below none w = tt
last_below (grow c kids rest) [] = tt
last_below (grow c kids rest) (false ∷ w) =
    let m = nodes kids in
    below_else (nodes (grow c kids rest)) (option_map (λ i. suc (m + i)) (last_cut rest (drop m w))) (Some 0)
    (below_behind m (nodes rest) (last_cut rest (drop m w)) (last_below rest (drop m w))) (let z : 0 < suc m + nodes rest = omega arith in z)
last_below (grow c kids rest) (true ∷ w) =
    let m = nodes kids in
    below_else (nodes (grow c kids rest)) (option_map (λ i. suc (m + i)) (last_cut rest (drop m w))) (option_map (λ i. suc i) (last_cut kids (take m w)))
    (below_behind m (nodes rest) (last_cut rest (drop m w)) (last_below rest (drop m w)))
    (below_within m (nodes rest) (last_cut kids (take m w)) (last_below kids (take m w)))

-- what is left behind the item of a word
abbrev pub after : Forest → List Bool → Option ℕ → List Cuts
after f w None = []
after f w (Some i) = cuts_from f (advanced i w)

-- ---- the step, by what the children and the later trees say
-- the choices after this one that the later trees have
later_more : (c : ℕ) (kids rest : Forest) (b : Bool) (w : List Bool) (i : ℕ) → cuts_from rest (drop (nodes kids) w) ≡ cuts_by rest (drop (nodes kids) w) ∷ cuts_from rest (advanced i (drop (nodes kids) w))
    → (o : Option ℕ) → cuts_from kids (take (nodes kids) w) ≡ cuts_by kids (take (nodes kids) w) ∷ after kids (take (nodes kids) w) o
    → cuts_from (grow c kids rest) (b ∷ w) ≡ cuts_by (grow c kids rest) (b ∷ w) ∷ cuts_from (grow c kids rest) (advanced (suc (nodes kids + i)) (b ∷ w))
later_more c kids rest false w i r o k =
    let m = nodes kids in
    let t : Tree = record { colour = c; below = kids } in
    let z = flat_map (λ k. map (keep c k) (cuts rest)) (cuts kids) in
    ap (λ (ks : List Cuts). map (cut_off t) ks ++ z) r
    ∙ ap (λ (v : List Bool). cut_off t (cuts_by rest (drop m w)) ∷ (map (cut_off t) (cuts_from rest v) ++ z)) (sym (drop_behind m i w))
later_more c kids rest true w i r o k =
    let m = nodes kids in
    let k0 = cuts_by kids (take m w) in
    let ks = after kids (take m w) o in
    let r0 = cuts_by rest (drop m w) in
    let more = cuts_from rest (advanced i (drop m w)) in
    ap₂ (λ (xs ys : List Cuts). rows_from c xs (cuts rest) ys) r k
    ∙ ap (λ (ys : List Cuts). keep c k0 r0 ∷ rows_from c more (cuts rest) ys) (sym k)
    ∙ ap₂ (λ (v u : List Bool). keep c k0 r0 ∷ rows_from c (cuts_from rest v) (cuts rest) (cuts_from kids u)) (sym (drop_behind m i w)) (sym (take_behind m i w))

-- the later trees have none: the root is kept next
root_next : (c : ℕ) (kids rest : Forest) (w : List Bool) → nodes kids + nodes rest ≤ length w → cuts_from rest (drop (nodes kids) w) ≡ cuts_by rest (drop (nodes kids) w) ∷ []
    → cuts_from (grow c kids rest) (false ∷ w) ≡ cuts_by (grow c kids rest) (false ∷ w) ∷ cuts_from (grow c kids rest) (advanced 0 (false ∷ w))
root_next c kids rest w h r =
    let m = nodes kids in
    let n = length w in
    let t : Tree = record { colour = c; below = kids } in
    let first : cuts_from rest (drop m (replicate n false)) ≡ cuts rest = ap (cuts_from rest) (drop-replicate m n false) ∙ from_cuts rest (n - m) (omega arith) in
    let inner : cuts_from kids (take m (replicate n false)) ≡ cuts kids = ap (cuts_from kids) (take-replicate m n false (omega arith)) ∙ from_cuts kids m (omega arith) in
    ap (λ (ks : List Cuts). map (cut_off t) ks ++ flat_map (λ k. map (keep c k) (cuts rest)) (cuts kids)) r
    ∙ ap (λ (ks : List Cuts). cut_off t (cuts_by rest (drop m w)) ∷ ks) (sym (rows_all c (cuts rest) (cuts kids)))
    ∙ ap₂ (λ (xs ys : List Cuts). cut_off t (cuts_by rest (drop m w)) ∷ rows_from c xs (cuts rest) ys) (sym first) (sym inner)

-- the later trees have none: the next way to cut the children
kids_next : (c : ℕ) (kids rest : Forest) (w : List Bool) (i : ℕ) → nodes kids + nodes rest ≤ length w → i < nodes kids → cuts_from rest (drop (nodes kids) w) ≡ cuts_by rest (drop (nodes kids) w) ∷ []
    → cuts_from kids (take (nodes kids) w) ≡ cuts_by kids (take (nodes kids) w) ∷ cuts_from kids (advanced i (take (nodes kids) w))
    → cuts_from (grow c kids rest) (true ∷ w) ≡ cuts_by (grow c kids rest) (true ∷ w) ∷ cuts_from (grow c kids rest) (advanced (suc i) (true ∷ w))
kids_next c kids rest w i h lt r k =
    let m = nodes kids in
    let k0 = cuts_by kids (take m w) in
    let r0 = cuts_by rest (drop m w) in
    let ks = cuts_from kids (advanced i (take m w)) in
    let first : cuts_from rest (drop m (advanced i w)) ≡ cuts rest = ap (cuts_from rest) (drop_within m i w lt (omega arith)) ∙ from_cuts rest (length w - m) (omega arith) in
    let inner : cuts_from kids (take m (advanced i w)) ≡ ks = ap (cuts_from kids) (take_within m i w lt (omega arith)) in
    ap₂ (λ (xs ys : List Cuts). rows_from c xs (cuts rest) ys) r k
    ∙ ap (λ (ys : List Cuts). keep c k0 r0 ∷ ys) (sym (rows_all c (cuts rest) ks))
    ∙ ap₂ (λ (xs ys : List Cuts). keep c k0 r0 ∷ rows_from c xs (cuts rest) ys) (sym first) (sym inner)

-- neither has one
none_next : (c : ℕ) (kids rest : Forest) (w : List Bool) → cuts_from rest (drop (nodes kids) w) ≡ cuts_by rest (drop (nodes kids) w) ∷ []
    → cuts_from kids (take (nodes kids) w) ≡ cuts_by kids (take (nodes kids) w) ∷ []
    → cuts_from (grow c kids rest) (true ∷ w) ≡ cuts_by (grow c kids rest) (true ∷ w) ∷ []
none_next c kids rest w r k = ap₂ (λ (xs ys : List Cuts). rows_from c xs (cuts rest) ys) r k

pub onward : (f : Forest) (w : List Bool) → nodes f ≤ length w → cuts_from f w ≡ cuts_by f w ∷ after f w (last_cut f w)
onward none w h = refl
onward (grow c kids rest) [] h = absurd (omega arith)
onward (grow c kids rest) (b ∷ w) h =
    go b (last_cut rest (drop m w)) (last_cut kids (take m w)) (last_below kids (take m w))
    (onward rest (drop m w) (omega (arith, length-drop m w))) (onward kids (take m w) (omega (arith, length-take-le m w (omega arith))))
  where
    m : ℕ
    m = nodes kids

    go : (b : Bool) (r k : Option ℕ) → Below m k → cuts_from rest (drop m w) ≡ cuts_by rest (drop m w) ∷ after rest (drop m w) r
        → cuts_from kids (take m w) ≡ cuts_by kids (take m w) ∷ after kids (take m w) k
        → cuts_from (grow c kids rest) (b ∷ w) ≡ cuts_by (grow c kids rest) (b ∷ w) ∷ after (grow c kids rest) (b ∷ w) (or_else (option_map (λ i. suc (m + i)) r) (cond b (option_map (λ i. suc i) k) (Some 0)))
    go b (Some i) k lt er ek = later_more c kids rest b w i er k ek
    go false None k lt er ek = root_next c kids rest w (omega arith) er
    go true None (Some i) lt er ek = kids_next c kids rest w i (omega arith) lt er ek
    go true None None lt er ek = none_next c kids rest w er ek
