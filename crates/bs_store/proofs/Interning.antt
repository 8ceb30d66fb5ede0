-- The steps of the walk of an intern.
use Rattle.std.proofs.Common.{◌≡◌, ℕ, ◌+◌, ◌<◌, ◌≤◌, Bool, true, false, List, [], ◌∷◌, ◌++◌, length, get_or, refl, ap, ap₂, ◌∙◌, arith}
use Rattle.std.specs.Prelude.{slice_get, Some, Result, Ok, Err, OnOk, OnErr}
use Rattle.std.proofs.lemmas.Option.{slice_get_within, get_or_from_slice_get}
use Rattle.bs_tree.specs.Code.{IsCode, child_codes}
use Rattle.bs_core.specs.Codes.{Code, children}
use Rattle.bs_core.specs.Machine.{no_name, times, code_at, pair, linked, taken, left}
use Rattle.bs_core.specs.Laws.{often}
use Rattle.bs_core.specs.declared.name.Name.{Name}
use Rattle.bs_core.specs.declared.table.Held.{Held}
use Rattle.bs_store.specs.Walks.{hits, More, Mores, Within, Sound, Undoing, Interns, Turned, Needs, Finishes, orders}
use Rattle.bs_core.proofs.Basics.{children_is}
use Rattle.bs_store.proofs.CodeLists.{order_is}
use Rattle.bs_store.proofs.Releasing.{orders_append, orders_linked}
use Rattle.bs_store.proofs.Often.{hits_self, often_append, often_times, code_is, OneName, all_within, often_left}

-- ---- undoing
-- the last child that is held
record Snoc (ys : List Name) (x : Name) (ks : List Code) : Type 0 where
  pub code : Code
  pub whole : linked (ys ++ x ∷ []) ks ≡ linked ys ks ++ pair x code ∷ []

linked_snoc : (ys : List Name) (x : Name) (ks : List Code) → length ys < length ks → Snoc ys x ks
linked_snoc ys x [] h = absurd (omega arith)
linked_snoc [] x (k ∷ ks) h = record { code = k; whole = refl }
linked_snoc (y ∷ ys) x (k ∷ ks) h = let r = linked_snoc ys x ks (omega arith) in record { code = r.code; whole = ap (λ (l : List Held). pair y k ∷ l) r.whole }

snoc_long : (ys : List Name) (x : Name) → length (ys ++ x ∷ []) ≡ length ys + 1
snoc_long [] x = omega arith
snoc_long (y ∷ ys) x = let r = snoc_long ys x in omega arith

pub undo_begins : (ks : List Code) (xs : List Name) (l : List Held) → length xs ≤ length ks → Undoing ks xs xs l l
undo_begins ks xs l few = record { few = few; counts = λ x d. refl }

pub undo_step : (ks : List Code) (xs ys : List Name) (x : Name) (old l : List Held) → Sound l → Within (linked xs ks) old → Undoing ks xs (ys ++ x ∷ []) old l
    → (0 < times x l) × ((l' : List Held) → More (pair x (code_at x l)) l' l → Undoing ks xs ys old l')
undo_step ks xs ys x old l s within u =
    let long = snoc_long ys x in
    let few = u.few in
    let r = linked_snoc ys x ks (omega arith) in
    let k = r.code in
    let split : (y : Name) (d : Code) → often y d (linked (ys ++ x ∷ []) ks) ≡ often y d (linked ys ks) + (hits y d (pair x k) + 0) = λ y d. ap (often y d) r.whole ∙ often_append y d (linked ys ks) (pair x k ∷ []) in
    let there : 1 ≤ often x k l = (let a = u.counts x k in let b = within x k in let c = split x k in let d = hits_self (pair x k) in omega arith) in
    let t = often_times x k l in
    let is = code_is x k l s there in (
      omega arith,
      λ l' m. record {
        few = omega arith;
        counts = λ y d. let a = u.counts y d in let c = split y d in let e = m y d in let f : hits y d (pair x (code_at x l)) ≡ hits y d (pair x k) = ap (λ c. hits y d (pair x c)) is in omega arith;
      },
    )

pub undo_ends : (ks : List Code) (xs rest : List Name) (old l : List Held) → rest ≡ [] → Undoing ks xs rest old l → Mores (linked xs ks) l old
undo_ends ks xs rest old l e u x d = let a = u.counts x d in let b : often x d (linked rest ks) ≡ 0 = ap (λ (l : List Name). often x d (linked l ks)) e in omega arith

-- ---- the node
pub intern_needs : (new : Bool) (c : Code) (n : Name) (xs : List Name) (l l' : List Held) → Within (linked xs (children c)) l → Interns c n new l l' → Needs new (linked xs (children c)) l'
intern_needs true c n xs l l' w i = tt
intern_needs false c n xs l l' w i = λ x d. let a = w x d in let b : often x d l' ≡ often x d l + (hits x d (pair n c) + 0) = ap (often x d) i ∙ often_append x d l (pair n c ∷ []) in omega arith

pub intern_turns : (new : Bool) (c : Code) (n : Name) (xs : List Name) (l l' l'' : List Held) → length xs ≡ length (children c) → OneName l → Within (linked xs (children c)) l → Interns c n new l l' → Finishes new (linked xs (children c)) l' l'' → Turned n c xs l l''
intern_turns true c n xs l l' l'' e one w i f =
    let r = all_within xs (children c) l e one w in
    λ x d.
    let a = often_left x d (children c) l r.0 in
    let b : often x d (linked (taken (children c) l) (children c)) ≡ often x d (linked xs (children c)) = ap (λ (ys : List Name). often x d (linked ys (children c))) r.1 in
    let g : often x d l'' ≡ often x d (left (children c) l) + (hits x d (pair n c) + 0) = ap (often x d) (f ∙ i) ∙ often_append x d (left (children c) l) (pair n c ∷ []) in omega arith
intern_turns false c n xs l l' l'' e one w i f = λ x d.
    let a = f x d in
    let b : often x d l' ≡ often x d l + (hits x d (pair n c) + 0) = ap (often x d) i ∙ often_append x d l (pair n c ∷ []) in omega arith

-- ---- between children
linked_next : (xs : List Name) (x : Name) (ks : List Code) (k d : Code) → length xs < length ks → get_or ks (length xs) d ≡ k → linked (xs ++ x ∷ []) ks ≡ linked xs ks ++ pair x k ∷ []
linked_next xs x [] k d h at = absurd (omega arith)
linked_next [] x (z ∷ zs) k d h at = ap (λ (c : Code). pair x c ∷ []) at
linked_next (y ∷ ys) x (z ∷ zs) k d h at = ap (λ (l : List Held). pair y z ∷ l) (linked_next ys x zs k d (omega arith) at)

-- the pairs of the children so far, and the next one's
pub child_next : (c : Code) (xs : List Name) (x : Name) (i : ℕ) (k : Code) → length xs ≡ i → slice_get (child_codes c) i ≡ Some k → linked (xs ++ x ∷ []) (children c) ≡ linked xs (children c) ++ pair x k ∷ []
child_next c xs x i k e at =
    let at' : slice_get (children c) (length xs) ≡ Some k = ap₂ (λ (cs : List Code) (j : ℕ). slice_get cs j) (children_is c) e ∙ at in
    linked_next xs x (children c) k k (slice_get_within (children c) (length xs) k at') (get_or_from_slice_get (children c) (length xs) k k at')

pub child_more : (c : Code) (xs : List Name) (x : Name) (i : ℕ) (k : Code) (old l l' : List Held) → length xs ≡ i → slice_get (child_codes c) i ≡ Some k → Mores (linked xs (children c)) old l → More (pair x k) l l' → Mores (linked (xs ++ x ∷ []) (children c)) old l'
child_more c xs x i k old l l' e at m n = λ y d.
    let a = m y d in
    let b = n y d in
    let z = ap (often y d) (child_next c xs x i k e at) ∙ often_append y d (linked xs (children c)) (pair x k ∷ []) in omega arith

-- the gains so far, and the next child's
pub child_orders : (c : Code) (xs : List Name) (x : Name) (i : ℕ) (k : Code) → length xs ≡ i → slice_get (child_codes c) i ≡ Some k → orders (linked (xs ++ x ∷ []) (children c)) ≡ orders (linked xs (children c)) + length k
child_orders c xs x i k e at = let a = ap orders (child_next c xs x i k e at) ∙ orders_append (linked xs (children c)) (pair x k ∷ []) in omega arith

pub orders_fit : (c : Code) (xs : List Name) → IsCode c → orders (linked xs (children c)) < length c
orders_fit c xs e = let r = orders_linked xs (children c) in let q = order_is c e in omega arith

pub orders_next : (c : Code) (xs : List Name) (i : ℕ) (k : Code) → IsCode c → length xs ≡ i → slice_get (child_codes c) i ≡ Some k → orders (linked xs (children c)) + length k < length c
orders_next c xs i k code e at = let a = child_orders c xs no_name i k e at in let b = orders_fit c (xs ++ no_name ∷ []) code in omega arith

pub few_of : (c : Code) (xs : List Name) (i : ℕ) → length xs ≡ i → i < length (child_codes c) → length xs ≤ length (children c)
few_of c xs i e h = let q = ap (λ (cs : List Code). length cs) (children_is c) in omega arith

-- the node's own gain
pub one_gained : {T E : Type 0} (r : Result T E) (a b : ℕ) → OnOk r (b ≡ a + 1) → OnErr r (b ≡ a) → b ≤ a + 1
one_gained (Ok x) a b h k = omega arith
one_gained (Err e) a b h k = omega arith
