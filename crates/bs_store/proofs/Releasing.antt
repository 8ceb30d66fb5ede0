-- The steps of the walk of a release.
use Rattle.std.proofs.Common.{◌≡◌, suc, zero, ◌+◌, ◌<◌, ◌≤◌, ◌&&◌, true, false, List, [], ◌∷◌, ◌++◌, length, map, sum, refl, sym, ap, ◌∙◌, subst, arith, if◌then◌else◌}
use Rattle.bs_tree.specs.Code.{IsCode}
use Rattle.bs_core.specs.Codes.{Code, children, same}
use Rattle.bs_core.specs.Machine.{is_name, times, code_at, without, pair, linked}
use Rattle.bs_core.specs.Canonical.{Each}
use Rattle.bs_core.specs.Laws.{often}
use Rattle.bs_core.specs.declared.name.Name.{Name}
use Rattle.bs_core.specs.declared.table.Held.{Held}
use Rattle.bs_core.proofs.Basics.{name_test, code_test}
use Rattle.bs_core.proofs.Pairs.{each_mono, each_join, code_of}
use Rattle.bs_core.proofs.Links.{each_front, each_back}
use Rattle.bs_stripe.specs.declared.stripe.Lowered.{Lowered}
use Rattle.bs_stripe.specs.declared.stripe.Lowered.TheVariants.{Kept, Gone}
use Rattle.bs_store.specs.Walks.{hits, More, Sound, Released, Walks, names, orders, children_of}
use Rattle.bs_store.specs.Seats.{Leaves}
use Rattle.bs_store.proofs.CodeLists.{order_is, sum_cons}
use Rattle.bs_store.proofs.Often.{hits_self, often_append, often_without, often_times, code_is}

-- ---- the last pair of a list whose last name is known
pub record Last (x : Name) (xs : List Name) (ps : List Held) : Type 0 where
  pub front : List Held
  pub code : Code
  pub whole : ps ≡ front ++ pair x code ∷ []
  pub named : names front ≡ xs

abbrev first_name : Name → List Name → Name
first_name d [] = d
first_name d (z ∷ zs) = z

abbrev later_names : List Name → List Name
later_names [] = []
later_names (z ∷ zs) = zs

pub split : (x : Name) (xs : List Name) (ps : List Held) → names ps ≡ xs ++ x ∷ [] → Last x xs ps
split x [] [] e = absurd (let r : zero ≡ suc zero = ap length e in omega arith)
split x (y ∷ ys) [] e = absurd (let r : zero ≡ suc (length (ys ++ x ∷ [])) = ap length e in omega arith)
split x [] (p ∷ []) e = let q : p.name ≡ x = ap (first_name x) e in record { front = []; code = p.code; whole = λ i. pair (q i) p.code ∷ []; named = refl }
split x [] (p ∷ q ∷ ps) e = absurd (let r : suc (suc (length (names ps))) ≡ suc zero = ap length e in omega arith)
split x (y ∷ ys) (p ∷ ps) e =
    let r = split x ys ps (ap later_names e) in
    let q : p.name ≡ y = ap (first_name y) e in
    record { front = p ∷ r.front; code = r.code; whole = ap (λ (l : List Held). p ∷ l) r.whole; named = λ i. q i ∷ r.named i }

-- ---- names and orders of lists
names_append : (ps qs : List Held) → names (ps ++ qs) ≡ names ps ++ names qs
names_append [] qs = refl
names_append (p ∷ ps) qs = ap (λ (l : List Name). p.name ∷ l) (names_append ps qs)

pub orders_append : (ps qs : List Held) → orders (ps ++ qs) ≡ orders ps + orders qs
orders_append [] qs = omega arith
orders_append (p ∷ ps) qs = let r = orders_append ps qs in omega arith

names_linked : (xs : List Name) (cs : List Code) → length xs ≡ length cs → names (linked xs cs) ≡ xs
names_linked [] cs e = refl
names_linked (x ∷ xs) [] e = absurd (omega arith)
names_linked (x ∷ xs) (c ∷ cs) e = ap (λ (l : List Name). x ∷ l) (names_linked xs cs (omega arith))

pub orders_linked : (xs : List Name) (cs : List Code) → orders (linked xs cs) ≤ sum (map length cs)
orders_linked [] cs = omega arith
orders_linked (x ∷ xs) [] = omega arith
orders_linked (x ∷ xs) (c ∷ cs) = let r = orders_linked xs cs in let q = sum_cons c cs in omega arith

orders_without : (n : Name) (l : List Held) → 0 < times n l → orders (without n l) + length (code_at n l) ≡ orders l
orders_without n [] h = absurd (omega arith)
orders_without n (p ∷ ps) h = elim (is_name n p.name) as (λ b. 0 < (if b then 1 else 0) + times n ps → orders (if b then ps else p ∷ without n ps) + length (if b then p.code else code_at n ps) ≡ length p.code + orders ps) [ true ↦ (λ _. omega arith) | false ↦ (λ z. let r = orders_without n ps (omega arith) in omega arith) ] h

-- the links of an entry that left are of smaller order than its code
links_few : (res : Lowered) (c : Code) (links : List Held) → Leaves res c links → orders links ≤ sum (map length (children c))
links_few Kept c links e = subst (λ (k : List Held). orders k ≤ sum (map length (children c))) (sym e) (omega arith)
links_few (Gone key) c links e = subst (λ (k : List Held). orders k ≤ sum (map length (children c))) (sym e.1) (orders_linked key.children (children c))

links_names : (res : Lowered) (c : Code) (links : List Held) → Leaves res c links → names links ≡ children_of res
links_names Kept c links e = ap names e
links_names (Gone key) c links e = ap names e.1 ∙ names_linked key.children (children c) e.2

-- ---- the walk
pub release_smaller : (res : Lowered) (n : Name) (l l' : List Held) → Sound l → 0 < times n l → Released res n l l' → orders l' < orders l
release_smaller res n l l' s h r =
    let a = orders_without n l h in
    let b = order_is (code_at n l) (code_of (λ p. IsCode p.code) n l h s.codes) in
    let d : orders l' ≡ orders (without n l) + orders r.0 = ap orders r.1 ∙ orders_append (without n l) r.0 in
    let e = links_few res (code_at n l) r.0 r.2 in omega arith

pub walk_begins : (n : Name) (l : List Held) → Sound l → 0 < times n l → Walks (pair n (code_at n l)) l l (n ∷ [])
walk_begins n l s h =
    let c = code_at n l in
    let code = order_is c (code_of (λ p. IsCode p.code) n l h s.codes) in
    record { pairs = pair n c ∷ []; named = refl; small = omega arith; some = (omega arith, tt); counts = λ x d. omega arith }

-- a pending name is held, with the code that the walk has for it
pub walk_held : (p : Held) (old l : List Held) (xs : List Name) (x : Name) → 1 ≤ often p.name p.code old → (w : Walks p old l (xs ++ x ∷ [])) → 1 ≤ often x (split x xs w.pairs w.named).code l
walk_held p old l xs x has w =
    let s = split x xs w.pairs w.named in
    let c = s.code in
    let e = w.counts x c in
    let a : often x c w.pairs ≡ often x c s.front + (hits x c (pair x c) + 0) = ap (often x c) s.whole ∙ often_append x c s.front (pair x c ∷ []) in
    let b = hits_self (pair x c) in
    let most : hits x c p ≤ often x c old = name_test x p.name (λ u. (if u && same c p.code then 1 else 0) ≤ often x c old)
    (λ q. code_test c p.code (λ u. (if u then 1 else 0) ≤ often x c old) (λ q'. subst (λ k. 1 ≤ k) (λ i. often (sym q i) (sym q' i) old) has) (λ _. omega arith))
    (λ _. omega arith) in
    omega arith

pub held_one : (p : Held) (old l : List Held) (xs : List Name) (x : Name) → 1 ≤ often p.name p.code old → Walks p old l (xs ++ x ∷ []) → 0 < times x l
held_one p old l xs x has w = let h = walk_held p old l xs x has w in let t = often_times x (split x xs w.pairs w.named).code l in omega arith

pub walk_step : (res : Lowered) (p : Held) (old l l' : List Held) (xs : List Name) (x : Name) → Sound l → Sound l' → 1 ≤ often p.name p.code old → Walks p old l (xs ++ x ∷ []) → Released res x l l' → Walks p old l' (xs ++ children_of res)
walk_step res p old l l' xs x sound sound' has w r =
    let s = split x xs w.pairs w.named in
    let qs = s.front in
    let c = s.code in
    let links = r.0 in
    let there : 1 ≤ often x c l = walk_held p old l xs x has w in
    let is = code_is x c l sound there in
    let t = often_times x c l in
    let gone = subst (λ k. Leaves res k links) is r.2 in
    let code = order_is c (subst IsCode is (code_of (λ q. IsCode q.code) x l (omega arith) sound.codes)) in
    let few = links_few res c links gone in
    let a : orders w.pairs ≡ orders qs + (length c + 0) = ap orders s.whole ∙ orders_append qs (pair x c ∷ []) in
    let b = orders_append qs links in
    let least = w.small in
    let each : Each (λ q. 1 ≤ length q.code) qs = each_front (λ q. 1 ≤ length q.code) qs (pair x c ∷ []) (subst (Each (λ q. 1 ≤ length q.code)) s.whole w.some) in
    let new : Each (λ q. 1 ≤ length q.code) links = each_mono (λ q. IsCode q.code) (λ q. 1 ≤ length q.code) links (λ q e. let z = order_is q.code e in omega arith) (each_back (λ q. IsCode q.code) (without x l) links (subst (Each (λ q. IsCode q.code)) r.1 sound'.codes)) in
    record {
      pairs = qs ++ links;
      named = names_append qs links ∙ (λ i. s.named i ++ links_names res c links gone i);
      small = omega arith;
      some = each_join (λ q. 1 ≤ length q.code) qs links each new;
      counts = λ y d.
          let e = w.counts y d in
          let f = often_without y d x l (omega arith) in
          let g : often y d l' ≡ often y d (without x l) + often y d links = ap (often y d) r.1 ∙ often_append y d (without x l) links in
          let h : often y d w.pairs ≡ often y d qs + (hits y d (pair x c) + 0) = ap (often y d) s.whole ∙ often_append y d qs (pair x c ∷ []) in
          let j : hits y d (pair x (code_at x l)) ≡ hits y d (pair x c) = ap (λ k. hits y d (pair x k)) is in
          let k = often_append y d qs links in omega arith;
    }

-- the pending names are as few as the nodes
pub walk_fits : (p : Held) (old l : List Held) (xs : List Name) → Walks p old l xs → length xs ≤ length p.code
walk_fits p old l xs w = let r = long w.pairs w.some in let q = ap length w.named in let n = names_long w.pairs in let z = w.small in omega arith
  where
    long : (ps : List Held) → Each (λ q. 1 ≤ length q.code) ps → length ps ≤ orders ps
    long [] e = omega arith
    long (q ∷ qs) e = let r = long qs e.1 in let z = e.0 in omega arith

    names_long : (ps : List Held) → length (names ps) ≡ length ps
    names_long [] = refl
    names_long (q ∷ qs) = ap suc (names_long qs)

pub walk_ends : (p : Held) (old l : List Held) → Walks p old l [] → More p l old
walk_ends p old l w x c =
    let e = w.counts x c in
    let z : often x c w.pairs ≡ zero = none w.pairs w.named in omega arith
  where
    none : (ps : List Held) → names ps ≡ [] → often x c ps ≡ zero
    none [] e = refl
    none (q ∷ qs) e = absurd (let r : suc (length (names qs)) ≡ zero = ap length e in omega arith)
