-- Forests by number, and the keys of rows.
use Rattle.std.proofs.Common.{◌≡◌, ℕ, zero, suc, ◌+◌, ◌-◌, ◌<◌, ◌≤◌, List, [], ◌∷◌, ◌++◌, map, take, drop, length, Some, None, slice_get, get_or, refl, ap, ap₂, sym, ◌∙◌, subst, arith, IsPermutation}
use Rattle.std.specs.Prelude.{slice_range}
use Rattle.std.specs.List.{AllByRecursion}
use Rattle.std.proofs.lemmas.List.{map-append}
use Rattle.std.proofs.lemmas.List.Sorted.{IsPermutation-refl, IsPermutation-cons, IsPermutation-map, IsPermutation-trans, IsPermutation-to_front, IsPermutation-middle}
use Rattle.bs_tree.specs.Tree.{Forest, none, grow, Tree, trees}
use Rattle.bs_tree.specs.Canonical.{canonical_sequence, level_sequence, insert, sorted, is_above}
use Rattle.bs_tree.specs.Code.{child_codes}
use Rattle.bs_tree.specs.SortingLaws.{by_cases, sorted-sorted}
use Rattle.bs_tree.specs.SubtreeLaws.{tree_of-level_sequence}
use Rattle.bs_part.specs.Partition.{node}
use Rattle.bs_catalog.specs.Shelf.{Code, Numbers, AreNumbers, AreRows}
use Rattle.bs_catalog.specs.Making.{attached}
use Rattle.bs_catalog.specs.Memo.{Extends, Makes}
use Rattle.bs_catalog.specs.Gathered.{code_at, IsKeyOf, AreKeys, Shows}
use Rattle.bs_catalog.specs.Forests.{IsSequence, AreSequences, IsForest, key_of, HasKeys, PutsKey}
use Rattle.bs_catalog.specs.declared.gathering.Key.{Key}
use Rattle.bs_catalog.proofs.Merging.{attached_is}
use Rattle.bs_catalog.proofs.Remembering.{makes_of}
use Rattle.bs_catalog.proofs.Putting.{next_row, numbers_more}

-- ---- the children of a root, in order and as they come
inserted : (t : Tree) (f : Forest) → IsPermutation (t ∷ trees f) (trees (insert t f))
inserted t none = IsPermutation-refl (t ∷ [])
inserted t (grow d below more) =
    let u : Tree = node d below in
    by_cases (is_above u t)
    (λ e. rw e (IsPermutation-trans (t ∷ (u ∷ trees more)) (u ∷ (t ∷ trees more)) (u ∷ trees (insert t more))
    (IsPermutation-middle (t ∷ []) u (trees more)) (IsPermutation-cons u (t ∷ trees more) (trees (insert t more)) (inserted t more))))
    (λ e. rw e (IsPermutation-refl (t ∷ (u ∷ trees more))))

sorted_children : (f : Forest) → IsPermutation (map canonical_sequence (trees f)) (map canonical_sequence (trees (sorted f)))
sorted_children none = IsPermutation-refl []
sorted_children (grow c kids rest) =
    let t : Tree = node c (sorted kids) in
    let first : canonical_sequence t ≡ canonical_sequence (node c kids) = ap (λ (f : Forest). level_sequence (node c f)) (sorted-sorted kids) in
    let later = map canonical_sequence (trees rest) in let others = map canonical_sequence (trees (sorted rest)) in
    subst (λ (x : Code). IsPermutation (x ∷ later) (map canonical_sequence (trees (insert t (sorted rest))))) first
    (IsPermutation-trans (canonical_sequence t ∷ later) (canonical_sequence t ∷ others) (map canonical_sequence (trees (insert t (sorted rest))))
    (IsPermutation-cons (canonical_sequence t) later others (sorted_children rest))
    (IsPermutation-map canonical_sequence (t ∷ trees (sorted rest)) (trees (insert t (sorted rest))) (inserted t (sorted rest))))

children_of : (f : Forest) (codes : List Code) → IsPermutation codes (map canonical_sequence (trees f)) → IsPermutation codes (child_codes (canonical_sequence (node 0 f)))
children_of f codes h =
    subst (λ (t : Tree). IsPermutation codes (map canonical_sequence (trees t.below))) (sym (tree_of-level_sequence (node 0 (sorted f))))
    (IsPermutation-trans codes (map canonical_sequence (trees f)) (map canonical_sequence (trees (sorted f))) h (sorted_children f))

-- ---- numbers and codes
pub code_is : (cs : List Code) (n : ℕ) (code : Code) → Numbers cs n code → (code_at cs n ≡ code) × (n < length cs)
code_is [] n code h = let no : None ≡ Some code = h in cc
code_is (x ∷ cs) zero code h = let e : Some x ≡ Some code = h in (cc, omega arith)
code_is (x ∷ cs) (suc n) code h = let r = code_is cs n code h in (r.0, omega (arith, r.1))

pub number_is : (cs : List Code) (n : ℕ) → n < length cs → Numbers cs n (code_at cs n)
number_is [] n h = absurd (omega (arith, h))
number_is (x ∷ cs) zero h = refl
number_is (x ∷ cs) (suc n) h = number_is cs n (omega (arith, h))

codes_are : (cs : List Code) (row : List ℕ) (codes : List Code) → AreNumbers cs row codes → (map (code_at cs) row ≡ codes) × AllByRecursion (λ n. n < length cs) row
codes_are cs [] [] h = (refl, tt)
codes_are cs [] (x ∷ codes) h = absurd h
codes_are cs (n ∷ row) [] h = absurd h
codes_are cs (n ∷ row) (x ∷ codes) h =
    let a = code_is cs n x h.0 in let r = codes_are cs row codes h.1 in
    (ap₂ (λ (y : Code) (ys : List Code). y ∷ ys) a.0 r.0, (a.1, r.1))

-- ---- what is said of numbers stays
module _ (cs cs' : List Code) (e : Extends cs cs') where
  stays : (n : ℕ) → n < length cs → (code_at cs' n ≡ code_at cs n) × (n < length cs')
  stays n h = code_is cs' n (code_at cs n) (e n (code_at cs n) (number_is cs n h))

  all_stay : (row : List ℕ) → AllByRecursion (λ n. n < length cs) row → (map (code_at cs') row ≡ map (code_at cs) row) × AllByRecursion (λ n. n < length cs') row
  all_stay [] h = (refl, tt)
  all_stay (n ∷ row) h =
      let a = stays n h.0 in let r = all_stay row h.1 in
      (ap₂ (λ (y : Code) (ys : List Code). y ∷ ys) a.0 r.0, (a.1, r.1))

  pub key_stays : (row : List ℕ) (key : ℕ × ℕ) → IsKeyOf cs row key → IsKeyOf cs' row key
  key_stays row key h =
      let r = all_stay h.rest h.within in let f = stays key.1 h.known in record {
        rest = h.rest;
        is = h.is;
        within = r.1;
        known = f.1;
        forest =
            subst (λ (x : Code). IsPermutation (map (code_at cs') h.rest) (child_codes x)) (sym f.0)
            (subst (λ (xs : List Code). IsPermutation xs (child_codes (code_at cs key.1))) (sym r.0) h.forest);
      }

  pub keys_stay : (rows : List (List ℕ)) (keys : List (ℕ × ℕ)) → AreKeys cs rows keys → AreKeys cs' rows keys
  keys_stay [] [] h = tt
  keys_stay [] (key ∷ keys) h = absurd h
  keys_stay (row ∷ rows) [] h = absurd h
  keys_stay (row ∷ rows) (key ∷ keys) h = (key_stays row key h.0, keys_stay rows keys h.1)

  pub shown_stays : (all : List (List ℕ)) (place : ℕ) (key : ℕ × ℕ) → Shows cs all place key → Shows cs' all place key
  shown_stays all place key h = record { row = h.row; is = h.is; key_is = key_stays h.row key h.key_is }

-- ---- all of a list
pub all_map : {X : Type 0} (P Q : X → Type 0) → ((x : X) → P x → Q x) → (xs : List X) → AllByRecursion P xs → AllByRecursion Q xs
all_map P Q f [] h = tt
all_map P Q f (x ∷ xs) h = (f x h.0, all_map P Q f xs h.1)

pub all_join : {X : Type 0} (P : X → Type 0) (xs ys : List X) → AllByRecursion P xs → AllByRecursion P ys → AllByRecursion P (xs ++ ys)
all_join P [] ys h k = k
all_join P (x ∷ xs) ys h k = (h.0, all_join P xs ys h.1 k)

pub all_parts : {X : Type 0} (P : X → Type 0) (xs ys : List X) → AllByRecursion P (xs ++ ys) → AllByRecursion P xs × AllByRecursion P ys
all_parts P [] ys h = (tt, h)
all_parts P (x ∷ xs) ys h = let r = all_parts P xs ys h.1 in ((h.0, r.0), r.1)

-- ---- a forest
pub forest_none : (cs : List Code) (leaf : ℕ) (codes : List Code) → Numbers cs leaf ((1, 0) ∷ []) → AreNumbers cs [] codes → IsForest cs leaf codes
forest_none cs leaf [] h k = record { below = none; is = h; children = IsPermutation-refl [] }
forest_none cs leaf (x ∷ codes) h k = absurd k

forest_more : (cs cs' : List Code) (forest tree n : ℕ) (codes : List Code) (y : Code) → Extends cs cs' → IsForest cs forest codes → Numbers cs' tree y → IsSequence y
    → Makes attached cs' forest tree n → IsForest cs' n (codes ++ y ∷ [])
forest_more cs cs' forest tree n codes y e f h s m =
    let t : Tree = s.tree in
    let x : Code = canonical_sequence (node 0 f.below) in
    let made : Numbers cs' n (attached x y) = makes_of attached cs' forest tree n x y m (e forest x f.is) h in
    let is : attached x y ≡ canonical_sequence (node 0 (grow t.colour t.below f.below)) = ap (attached x) s.is ∙ attached_is 0 t.colour t.below f.below in record {
      below = grow t.colour t.below f.below;
      is = subst (λ (z : Code). Numbers cs' n z) is made;
      children =
          subst (λ (z : Code). IsPermutation (codes ++ y ∷ []) (z ∷ map canonical_sequence (trees f.below))) s.is
          (IsPermutation-trans (codes ++ y ∷ []) (y ∷ codes) (y ∷ map canonical_sequence (trees f.below)) (IsPermutation-to_front codes y)
          (IsPermutation-cons y codes (map canonical_sequence (trees f.below)) f.children));
    }

record LastNumber (cs : List Code) (row : List ℕ) (n : ℕ) (codes : List Code) : Type 0 where
  before : List Code
  last : Code
  is : codes ≡ before ++ last ∷ []
  before_are : AreNumbers cs row before
  last_is : Numbers cs n last

last_number : (cs : List Code) (row : List ℕ) (n : ℕ) (codes : List Code) → AreNumbers cs (row ++ n ∷ []) codes → LastNumber cs row n codes
last_number cs [] n [] h = absurd h
last_number cs [] n (x ∷ []) h = record { before = []; last = x; is = refl; before_are = tt; last_is = h.0 }
last_number cs [] n (x ∷ (y ∷ codes)) h = absurd h.1
last_number cs (m ∷ row) n [] h = absurd h
last_number cs (m ∷ row) n (x ∷ codes) h =
    let r = last_number cs row n codes h.1 in
    record { before = x ∷ r.before; last = r.last; is = ap (λ (xs : List Code). x ∷ xs) r.is; before_are = (h.0, r.before_are); last_is = r.last_is }

-- one more tree
pub forest_next : (cs mid cs' : List Code) (trees : List ℕ) (forest tree n : ℕ) (codes : List Code) → Extends cs mid → Extends mid cs'
    → ((codes : List Code) → AreNumbers cs trees codes → AllByRecursion IsSequence codes → IsForest mid forest codes)
    → Makes attached cs' forest tree n → AreNumbers cs (trees ++ tree ∷ []) codes → AllByRecursion IsSequence codes → IsForest cs' n codes
forest_next cs mid cs' trees forest tree n codes e e' f m h s =
    let r = last_number cs trees tree codes h in
    let p = all_parts IsSequence r.before (r.last ∷ []) (subst (AllByRecursion IsSequence) r.is s) in
    subst (IsForest cs' n) (sym r.is)
    (forest_more mid cs' forest tree n r.before r.last e' (f r.before r.before_are p.0) (e' tree r.last (e tree r.last r.last_is)) p.1.0 m)

-- ---- the key of a row
forest_key : (cs cs' : List Code) (first n : ℕ) (rest : List ℕ) (codes : List Code) → AreNumbers cs' (first ∷ rest) codes → AllByRecursion IsSequence codes
    → ((others : List Code) → AreNumbers cs rest others → AllByRecursion IsSequence others → IsForest cs' n others) → AreNumbers cs (first ∷ rest) codes → IsKeyOf cs' (first ∷ rest) (first, n)
forest_key cs cs' first n rest [] h s f k = absurd h
forest_key cs cs' first n rest (x ∷ codes) h s f k =
    let g = f codes k.1 s.1 in
    let r = codes_are cs' rest codes h.1 in
    let top = code_is cs' n (canonical_sequence (node 0 g.below)) g.is in record {
      rest = rest;
      is = refl;
      within = r.1;
      known = top.1;
      forest =
          subst (λ (z : Code). IsPermutation (map (code_at cs') rest) (child_codes z)) (sym top.0)
          (subst (λ (zs : List Code). IsPermutation zs (child_codes (canonical_sequence (node 0 g.below)))) (sym r.0) (children_of g.below codes g.children));
    }

pub key_put : (cs cs' : List Code) (first n place : ℕ) (row rest : List ℕ) (keys keys' : List Key) (codes : List Code) → first ∷ rest ≡ row → Extends cs cs'
    → ((others : List Code) → AreNumbers cs rest others → AllByRecursion IsSequence others → IsForest cs' n others)
    → keys' ≡ keys ++ record { first = first; forest = n; row = place } ∷ [] → AreNumbers cs row codes → AllByRecursion IsSequence codes → PutsKey cs' row place keys keys'
key_put cs cs' first n place row rest keys keys' codes er e f ek h s =
    let h' : AreNumbers cs (first ∷ rest) codes = subst (λ (r : List ℕ). AreNumbers cs r codes) (sym er) h in
    subst (λ (r : List ℕ). PutsKey cs' r place keys keys') er
    (record {
      key = record { first = first; forest = n; row = place };
      put = ek;
      place_is = refl;
      is = forest_key cs cs' first n rest codes (numbers_more cs cs' (first ∷ rest) codes e h') s f h';
    })

-- ---- keys of rows
keys_join : (cs : List Code) (rows : List (List ℕ)) (keys : List (ℕ × ℕ)) (row : List ℕ) (key : ℕ × ℕ) → AreKeys cs rows keys → IsKeyOf cs row key → AreKeys cs (rows ++ row ∷ []) (keys ++ key ∷ [])
keys_join cs [] [] row key h k = (k, tt)
keys_join cs [] (x ∷ keys) row key h k = absurd h
keys_join cs (r ∷ rows) [] row key h k = absurd h
keys_join cs (r ∷ rows) (x ∷ keys) row key h k = (h.0, keys_join cs rows keys row key h.1 k)

pub keys_none : (cs : List Code) (all : List (List ℕ)) → HasKeys cs all [] []
keys_none cs all = record { each = tt; shown = tt }

pub keys_next : (cs cs' : List Code) (all rows : List (List ℕ)) (row : List ℕ) (place : ℕ) (keys keys' : List Key) → Extends cs cs' → HasKeys cs all rows keys → slice_get all place ≡ Some row
    → PutsKey cs' row place keys keys' → HasKeys cs' all (rows ++ row ∷ []) keys'
keys_next cs cs' all rows row place keys keys' e h at p =
    let k = p.key in
    let shows : Shows cs' all k.row (key_of k) = record { row = row; is = ap (slice_get all) p.place_is ∙ at; key_is = p.is } in
    subst (λ (ks : List Key). HasKeys cs' all (rows ++ row ∷ []) ks) (sym p.put)
    (record {
      each =
          subst (λ (ks : List (ℕ × ℕ)). AreKeys cs' (rows ++ row ∷ []) ks) (sym (map-append key_of keys (k ∷ [])))
          (keys_join cs' rows (map key_of keys) row (key_of k) (keys_stay cs cs' e rows (map key_of keys) h.each) p.is);
      shown =
          all_join (λ (x : Key). Shows cs' all x.row (key_of x)) keys (k ∷ [])
          (all_map (λ (x : Key). Shows cs all x.row (key_of x)) (λ (x : Key). Shows cs' all x.row (key_of x)) (λ x s. shown_stays cs cs' e all x.row (key_of x) s) keys h.shown) (shows, tt);
    })

-- the codes of a row
pub record HasCodes (cs : List Code) (row : List ℕ) : Type 0 where
  pub codes : List Code
  pub are : AreNumbers cs row codes
  pub sequences : AllByRecursion IsSequence codes

pub codes_of_row : (cs : List Code) (rows : List (List ℕ)) (lists : List (List Code)) (place : ℕ) (row : List ℕ) → AreRows cs rows lists → AreSequences lists → slice_get rows place ≡ Some row → HasCodes cs row
codes_of_row cs [] lists place row h s at = let no : None ≡ Some row = at in cc
codes_of_row cs (r ∷ rows) [] place row h s at = absurd h
codes_of_row cs (r ∷ rows) (x ∷ lists) zero row h s at =
    let e : Some r ≡ Some row = at in let f : r ≡ row = cc in
    subst (HasCodes cs) f (record { codes = x; are = h.0; sequences = s.0 })
codes_of_row cs (r ∷ rows) (x ∷ lists) (suc place) row h s at = codes_of_row cs rows lists place row h.1 s.1 at

-- one row more of a range
read_behind : (xs : List (List ℕ)) (start i place : ℕ) → start + i ≡ place → slice_get (drop start xs) i ≡ slice_get xs place
read_behind [] zero i place e = refl
read_behind [] (suc start) i place e = refl
read_behind (x ∷ xs) zero i place e = ap (slice_get (x ∷ xs)) (let f : i ≡ place = omega (arith, e) in f)
read_behind (x ∷ xs) (suc start) i zero e = absurd (omega (arith, e))
read_behind (x ∷ xs) (suc start) i (suc place) e = read_behind xs start i place (omega (arith, e))

pub range_next : (xs : List (List ℕ)) (start place : ℕ) (x : List ℕ) → start ≤ place → slice_get xs place ≡ Some x → slice_range xs start (place + 1) ≡ slice_range xs start place ++ x ∷ []
range_next xs start place x h e =
    let i = place - start in
    let one : place + 1 - start ≡ i + 1 = omega (arith, h) in
    ap (λ (n : ℕ). take n (drop start xs)) one ∙ next_row (drop start xs) i x (read_behind xs start i place (omega (arith, h)) ∙ e)

pub range_none : (xs : List (List ℕ)) (start : ℕ) → slice_range xs start start ≡ []
range_none xs start = let e : start - start ≡ 0 = omega arith in ap (λ (n : ℕ). take n (drop start xs)) e

pub item_next : {X : Type 0} (xs : List X) (i : ℕ) (d : X) → i < length xs → take (i + 1) xs ≡ take i xs ++ get_or xs i d ∷ []
item_next [] i d h = absurd (omega (arith, h))
item_next (x ∷ xs) zero d h = refl
item_next {X = X} (x ∷ xs) (suc i) d h =
    let e : suc i + 1 ≡ suc (i + 1) = omega arith in
    ap (λ (n : ℕ). take n (x ∷ xs)) e ∙ ap (λ (ys : List X). x ∷ ys) (item_next xs i d (omega (arith, h)))
