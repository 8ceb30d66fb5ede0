-- What a stripe keeps of a table follows each change of the table.
use Rattle.std.proofs.Common.{◌≡◌, ◌≢◌, ℕ, zero, suc, ◌+◌, ◌-◌, ◌<◌, ◌≤◌, ◌==◌, ◌&&◌, ◌||◌, Bool, true, false, List, [], ◌∷◌, ◌++◌, length, refl, sym, ap, ap₂, ◌∙◌, subst, arith, if◌then◌else◌, Some, None, Option, is_some, nat_lt, eq-eqb, ne_eqb}
use mathlib.Core.Option.{some, some-ne-none, some-injective}
use mathlib.Core.Logic.{dite}
use native.Mathlib.Decide.{ℕ_discrete}
use lib.ListN.{get_elem?}
use Rattle.std.proofs.lemmas.Bool.{lt-ltb}
use Rattle.bs_tree.specs.Code.{IsCode, root_colour}
use Rattle.bs_core.specs.Codes.{Code, children}
use Rattle.bs_core.specs.Keys.{Key, key_of, key_in}
use Rattle.bs_core.specs.KeyEquality.{same_key, same_key-Decides}
use Rattle.bs_core.specs.Machine as machine
use Rattle.bs_core.specs.Machine.{State, HasAll, most, slots, raise_in, lower_in, is_full_below, one_more, list_at, at_place}
use Rattle.bs_core.specs.Canonical.{Counts, Canonical, Has, every}
use Rattle.bs_core.specs.declared.table.Table.{Table}
use Rattle.bs_core.specs.declared.table.Entry as table
use Rattle.bs_core.proofs.Basics.{by_test}
use Rattle.bs_core.proofs.Agree.{one_code, each_at}
use Rattle.bs_core.proofs.KeyLaws.{keys_decide}
use Rattle.bs_stripe.specs.Places.{entry_at, has_key, find, raise, lower, one_less, all_taken, new_entry}
use Rattle.bs_stripe.specs.Laws.{of_slot, slots_from, kept_of, RaisesAlike, LowersAlike, AddsAlike, DenseAlike, FindsAlike}
use Rattle.bs_stripe.specs.declared.place.Entry.{Entry}
use Rattle.bs_stripe.proofs.Slots.{find_in, none_found, count_at, taken_range}

abbrev kept : table.Entry → Option Entry
kept e = Some (record { key = key_in e; count = e.count })

-- ---- one slot
of_none : (s : ℕ) (es : List table.Entry) → slots s es ≡ 0 → of_slot s es ≡ None
of_none s [] h = refl
of_none s (e ∷ es) h = by_test s e.slot (λ b. (if b then 1 else 0) + slots s es ≡ 0 → (if b then kept e else of_slot s es) ≡ None)
    (λ q z. absurd (omega arith))
    (λ q z. of_none s es (omega arith))
    h

pub of_some : (s : ℕ) (es : List table.Entry) → is_some (of_slot s es) ≡ nat_lt 0 (slots s es)
of_some s [] = refl
of_some s (e ∷ es) = by_test s e.slot (λ b. is_some (if b then kept e else of_slot s es) ≡ nat_lt 0 ((if b then 1 else 0) + slots s es))
    (λ q. sym (lt-ltb 0 (1 + slots s es) (omega arith)))
    (λ q. of_some s es ∙ ap (λ (n : ℕ). nat_lt 0 n) (let z : slots s es ≡ 0 + slots s es = omega arith in z))

abbrev more : table.Entry → table.Entry
more e = record { slot = e.slot; code = e.code; links = e.links; count = one_more e.count }

abbrev fewer : table.Entry → table.Entry
fewer e = record { slot = e.slot; code = e.code; links = e.links; count = e.count - 1 }

raise_here : (s : ℕ) (es : List table.Entry) → of_slot s (raise_in s es) ≡ raise (of_slot s es)
raise_here s [] = refl
raise_here s (e ∷ es) = by_test s e.slot (λ b. of_slot s ((if b then more e else e) ∷ raise_in s es) ≡ raise (if b then kept e else of_slot s es))
    (λ q. ap (λ (b : Bool). if b then kept (more e) else of_slot s (raise_in s es)) (eq-eqb s e.slot q))
    (λ q. ap (λ (b : Bool). if b then kept e else of_slot s (raise_in s es)) (ne_eqb s e.slot q) ∙ raise_here s es)

raise_else : (t s : ℕ) (es : List table.Entry) → t ≢ s → of_slot t (raise_in s es) ≡ of_slot t es
raise_else t s [] n = refl
raise_else t s (e ∷ es) n = by_test s e.slot (λ b. of_slot t ((if b then more e else e) ∷ raise_in s es) ≡ (if t == e.slot then kept e else of_slot t es))
    (λ q.
    let ne : t ≢ e.slot = λ r. n (r ∙ sym q) in
    ap (λ (b : Bool). if b then kept (more e) else of_slot t (raise_in s es)) (ne_eqb t e.slot ne) ∙ raise_else t s es n ∙ sym (ap (λ (b : Bool). if b then kept e else of_slot t es) (ne_eqb t e.slot ne)))
    (λ q. ap (λ (o : Option Entry). if t == e.slot then kept e else o) (raise_else t s es n))

abbrev left_of : Bool → Bool → table.Entry → List table.Entry
left_of one full e = if one then [] else (if full then e ∷ [] else fewer e ∷ [])

lower_here : (s : ℕ) (es : List table.Entry) → slots s es ≤ 1 → of_slot s (lower_in s es) ≡ lower (of_slot s es)
lower_here s [] h = refl
lower_here s (e ∷ es) h = by_test s e.slot (λ b. (if b then 1 else 0) + slots s es ≤ 1 → of_slot s (if b then machine.lower e ++ es else e ∷ lower_in s es) ≡ lower (if b then kept e else of_slot s es))
    (λ q z.
    let is = eq-eqb s e.slot q in
    by_test e.count 1 (λ b. of_slot s (left_of b (e.count == most) e ++ es) ≡ (if b then None else Some (let r : Entry = record { key = key_in e; count = one_less e.count } in r)))
    (λ _. of_none s es (omega arith))
    (λ _. elim (e.count == most) as (λ b. of_slot s ((if b then e ∷ [] else fewer e ∷ []) ++ es) ≡ Some (let r : Entry = record { key = key_in e; count = (if b then e.count else e.count - 1) } in r)) [
      | true ↦ ap (λ (b : Bool). if b then kept e else of_slot s es) is
      | false ↦ ap (λ (b : Bool). if b then kept (fewer e) else of_slot s es) is
    ]))
    (λ q z. ap (λ (b : Bool). if b then kept e else of_slot s (lower_in s es)) (ne_eqb s e.slot q) ∙ lower_here s es (omega arith))
    h

lower_else : (t s : ℕ) (es : List table.Entry) → t ≢ s → of_slot t (lower_in s es) ≡ of_slot t es
lower_else t s [] n = refl
lower_else t s (e ∷ es) n = by_test s e.slot (λ b. of_slot t (if b then machine.lower e ++ es else e ∷ lower_in s es) ≡ (if t == e.slot then kept e else of_slot t es))
    (λ q.
    let no = ne_eqb t e.slot (λ r. n (r ∙ sym q)) in
    let back = sym (ap (λ (b : Bool). if b then kept e else of_slot t es) no) in
    elim (e.count == 1) as (λ b. of_slot t (left_of b (e.count == most) e ++ es) ≡ (if t == e.slot then kept e else of_slot t es)) [
      | true ↦ back
      | false ↦ elim (e.count == most) as (λ b. of_slot t ((if b then e ∷ [] else fewer e ∷ []) ++ es) ≡ (if t == e.slot then kept e else of_slot t es)) [
        | true ↦ refl
        | false ↦ ap (λ (b : Bool). if b then kept (fewer e) else of_slot t es) no ∙ back
      ]
    ])
    (λ q. ap (λ (o : Option Entry). if t == e.slot then kept e else o) (lower_else t s es n))

push_here : (s : ℕ) (e : table.Entry) (es : List table.Entry) → slots s es ≡ 0 → s ≡ e.slot → of_slot s (es ++ e ∷ []) ≡ kept e
push_here s e [] none is = ap (λ (b : Bool). if b then kept e else None) (eq-eqb s e.slot is)
push_here s e (x ∷ xs) none is = by_test s x.slot (λ b. (if b then 1 else 0) + slots s xs ≡ 0 → (if b then kept x else of_slot s (xs ++ e ∷ [])) ≡ kept e)
    (λ q z. absurd (omega arith))
    (λ q z. push_here s e xs (omega arith) is)
    none

push_else : (t : ℕ) (e : table.Entry) (es : List table.Entry) → t ≢ e.slot → of_slot t (es ++ e ∷ []) ≡ of_slot t es
push_else t e [] n = ap (λ (b : Bool). if b then kept e else None) (ne_eqb t e.slot n)
push_else t e (x ∷ xs) n = ap (λ (o : Option Entry). if t == x.slot then kept x else o) (push_else t e xs n)

-- ---- all slots
pub from_long : (s n : ℕ) (es : List table.Entry) → length (slots_from s n es) ≡ n
from_long s zero es = refl
from_long s (suc n) es = ap suc (from_long (s + 1) n es)

from_same : (s n : ℕ) (es es' : List table.Entry) → ((t : ℕ) → s ≤ t → t < s + n → of_slot t es' ≡ of_slot t es) → slots_from s n es' ≡ slots_from s n es
from_same s zero es es' h = refl
from_same s (suc n) es es' h = ap₂ (λ (x : Option Entry) (xs : List (Option Entry)). x ∷ xs) (h s (omega arith) (omega arith)) (from_same (s + 1) n es es' (λ t a b. h t (omega arith) (omega arith)))

from_place : (s n j k : ℕ) (G : Option Entry → Option Entry) (es es' : List table.Entry) → k ≡ s + j → of_slot k es' ≡ G (of_slot k es) → ((t : ℕ) → t ≢ k → of_slot t es' ≡ of_slot t es) → slots_from s n es' ≡ at_place j G (slots_from s n es)
from_place s zero j k G es es' is here rest = refl
from_place s (suc n) zero k G es es' is here rest =
    let q : k ≡ s = omega arith in
    ap₂ (λ (x : Option Entry) (xs : List (Option Entry)). x ∷ xs) (subst (λ m. of_slot m es' ≡ G (of_slot m es)) q here) (from_same (s + 1) n es es' (λ t a b. rest t (λ r. omega arith)))
from_place s (suc n) (suc j) k G es es' is here rest =
    ap₂ (λ (x : Option Entry) (xs : List (Option Entry)). x ∷ xs) (rest s (λ r. omega arith)) (from_place (s + 1) n j k G es es' (omega arith) here rest)

from_last : (s n : ℕ) (es : List table.Entry) → slots_from s (suc n) es ≡ slots_from s n es ++ of_slot (s + n) es ∷ []
from_last s zero es = ap (λ (t : ℕ). let r : List (Option Entry) = of_slot t es ∷ [] in r) (let q : s ≡ s + 0 = omega arith in q)
from_last s (suc n) es = ap (λ (xs : List (Option Entry)). of_slot s es ∷ xs) (from_last (s + 1) n es ∙ ap (λ (t : ℕ). slots_from (s + 1) n es ++ of_slot t es ∷ []) (let q : (s + 1) + n ≡ s + suc n = omega arith in q))

pub from_at : (s n j : ℕ) (es : List table.Entry) → j < n → entry_at j (slots_from s n es) ≡ of_slot (s + j) es
from_at s zero j es h = absurd (omega arith)
from_at s (suc n) zero es h = ap (λ (t : ℕ). of_slot t es) (let q : s ≡ s + 0 = omega arith in q)
from_at s (suc n) (suc j) es h = from_at (s + 1) n j es (omega arith) ∙ ap (λ (t : ℕ). of_slot t es) (let q : (s + 1) + j ≡ s + suc j = omega arith in q)

pub raises : RaisesAlike
raises s t = from_place 0 t.mark s s raise t.entries (raise_in s t.entries) (omega arith) (raise_here s t.entries) (λ k n. raise_else k s t.entries n)

pub lowers : LowersAlike
lowers s t h = from_place 0 t.mark s s lower t.entries (lower_in s t.entries) (omega arith) (lower_here s t.entries h) (λ k n. lower_else k s t.entries n)

pub adds : AddsAlike
adds s c xs t none low =
    let e : table.Entry = machine.new_entry s c xs in
    let es = t.entries in
    let k : Key = record { colour = root_colour c; children = xs } in
    let G : Option Entry → Option Entry = λ _. new_entry k in
    let long = from_long 0 t.mark es in
    dite (ℕ_discrete s t.mark)
    (λ q.
    let last : slots_from 0 (suc t.mark) (es ++ e ∷ []) ≡ slots_from 0 t.mark es ++ new_entry k ∷ [] =
    from_last 0 t.mark (es ++ e ∷ []) ∙ ap₂ (λ (xs : List (Option Entry)) (x : Option Entry). xs ++ x ∷ [])
    (from_same 0 t.mark es (es ++ e ∷ []) (λ m a b. push_else m e es (λ r. omega arith)))
    (ap (λ (m : ℕ). of_slot m (es ++ e ∷ [])) (let r : 0 + t.mark ≡ s = omega arith in r) ∙ push_here s e es none refl) in
    ap (λ (m : ℕ). slots_from 0 m (es ++ e ∷ [])) (ap (λ (b : Bool). if b then s + 1 else t.mark) (eq-eqb s t.mark q) ∙ (let r : s + 1 ≡ suc t.mark = omega arith in r))
    ∙ last ∙ sym (ap (λ (b : Bool). if b then slots_from 0 t.mark es ++ new_entry k ∷ [] else at_place s G (slots_from 0 t.mark es)) (eq-eqb s (length (slots_from 0 t.mark es)) (q ∙ sym long))))
    (λ q.
    ap (λ (m : ℕ). slots_from 0 m (es ++ e ∷ [])) (ap (λ (b : Bool). if b then s + 1 else t.mark) (ne_eqb s t.mark q))
    ∙ from_place 0 t.mark s s G es (es ++ e ∷ []) (omega arith) (push_here s e es none refl) (λ m n. push_else m e es n)
    ∙ sym (ap (λ (b : Bool). if b then slots_from 0 t.mark es ++ new_entry k ∷ [] else at_place s G (slots_from 0 t.mark es)) (ne_eqb s (length (slots_from 0 t.mark es)) (λ r. q (r ∙ long)))))

-- ---- which slots are dense
taken_last : (xs : List (Option Entry)) (x : Option Entry) → all_taken (xs ++ x ∷ []) ≡ (is_some x && all_taken xs)
taken_last [] x = refl
taken_last (y ∷ ys) x = ap (λ (b : Bool). is_some y && b) (taken_last ys x) ∙ swap (is_some y) (is_some x) (all_taken ys)
  where
    swap : (a b c : Bool) → (a && (b && c)) ≡ (b && (a && c))
    swap true true c = refl
    swap true false c = refl
    swap false true c = refl
    swap false false c = refl

taken_below : (n : ℕ) (es : List table.Entry) → all_taken (slots_from 0 n es) ≡ is_full_below n es
taken_below zero es = refl
taken_below (suc n) es = ap all_taken (from_last 0 n es) ∙ taken_last (slots_from 0 n es) (of_slot (0 + n) es)
    ∙ ap₂ (λ (a : Bool) (b : Bool). a && b) (ap (λ (m : ℕ). is_some (of_slot m es)) (let r : 0 + n ≡ n = omega arith in r) ∙ of_some n es) (taken_below n es)

pub dense : DenseAlike
dense s t = ap₂ (λ (m : ℕ) (b : Bool). nat_lt s m || ((s == m) && b)) (from_long 0 t.mark t.entries) (taken_below t.mark t.entries)

-- ---- what is found
abbrev IsAt : ℕ → Key → List table.Entry → Type 0
IsAt s k es = (j : ℕ) × (e : table.Entry) × (get_elem? es j ≡ some e) × (e.slot ≡ s) × (same_key k (key_in e) ≡ true)

at_slot : (s : ℕ) (k : Key) (es : List table.Entry) → has_key k (of_slot s es) ≡ true → IsAt s k es
at_slot s k [] h = absurd (cc)
at_slot s k (e ∷ es) h = by_test s e.slot (λ b. has_key k (if b then kept e else of_slot s es) ≡ true → IsAt s k (e ∷ es))
    (λ q z. (zero, e, refl, sym q, z))
    (λ q z. let r = at_slot s k es z in (suc r.0, r.1, r.2, r.3, r.4))
    h

one_slot : (s : ℕ) (j : ℕ) (e : table.Entry) (es : List table.Entry) → get_elem? es j ≡ some e → e.slot ≡ s → 1 ≤ slots s es
one_slot s j e [] at is = absurd (some-ne-none e (sym at))
one_slot s zero e (x ∷ xs) at is =
    let q : s ≡ x.slot = sym (ap (λ (y : table.Entry). y.slot) (some-injective x e at) ∙ is) in
    subst (λ b. 1 ≤ (if b then 1 else 0) + slots s xs) (sym (eq-eqb s x.slot q)) (omega arith)
one_slot s (suc j) e (x ∷ xs) at is = let r = one_slot s j e xs at is in elim (s == x.slot) as (λ b. 1 ≤ (if b then 1 else 0) + slots s xs) [ true ↦ omega arith | false ↦ omega arith ]

pub only_at : (s : ℕ) (j : ℕ) (e : table.Entry) (es : List table.Entry) → slots s es ≤ 1 → get_elem? es j ≡ some e → e.slot ≡ s → of_slot s es ≡ kept e
only_at s j e [] one at is = absurd (some-ne-none e (sym at))
only_at s zero e (x ∷ xs) one at is =
    let q = some-injective x e at in
    let r : s ≡ x.slot = sym (ap (λ (y : table.Entry). y.slot) q ∙ is) in
    ap (λ (b : Bool). if b then kept x else of_slot s xs) (eq-eqb s x.slot r) ∙ ap kept q
only_at s (suc j) e (x ∷ xs) one at is = by_test s x.slot (λ b. (if b then 1 else 0) + slots s xs ≤ 1 → (if b then kept x else of_slot s xs) ≡ kept e)
    (λ q z. let r = one_slot s j e xs at is in absurd (omega arith))
    (λ q z. only_at s j e xs (omega arith) at is)
    one

module _ (n : ℕ) (g : State) (i k : ℕ) (t : Table) (c : Code) (can : Canonical n g) (code : IsCode c) (all : HasAll (children c) (list_at i g.lists)) (at : get_elem? g.tables k ≡ some t) where
  abbrev own : Key
  own = key_of c (list_at i g.lists)

  kept_at : (s : ℕ) → s < t.mark → entry_at s (kept_of t) ≡ of_slot s t.entries
  kept_at s h = from_at 0 t.mark s t.entries h ∙ ap (λ (m : ℕ). of_slot m t.entries) (let r : 0 + s ≡ s = omega arith in r)

  has_code : (s : ℕ) → has_key own (entry_at s (kept_of t)) ≡ true → Has s c t.entries
  has_code s h =
      let lt : s < t.mark = subst (λ m. s < m) (from_long 0 t.mark t.entries) (taken_range own s (kept_of t) h) in
      let e = at_slot s own t.entries (ap (has_key own) (sym (kept_at s lt)) ∙ h) in
      let d = keys_decide n g i k e.0 t e.1 c can code all at e.2 in
      (e.0, e.1, e.2, e.3, sym (d.0 ((same_key-Decides own (key_in e.1)).0 e.4)))

  there : (s : ℕ) → find own (kept_of t) ≡ Some s → Has s c t.entries
  there s h =
      let r = find_in 0 own (kept_of t) s h in
      let q : r.0 ≡ s = let z = r.1 in omega arith in
      has_code s (subst (λ m. has_key own (entry_at m (kept_of t)) ≡ true) q r.2)

  here : (s : ℕ) → Has s c t.entries → has_key own (entry_at s (kept_of t)) ≡ true
  here s h =
      let o = can.tables k t at in
      let d = keys_decide n g i k h.0 t h.1 c can code all at h.2 in
      let is : own ≡ key_in h.1 = d.1 (sym h.4) in
      let low = (each_at (Counts n k t.mark (every g)) t.entries h.0 h.1 o.entries h.2).below in
      let lt : s < t.mark = let q = h.3 in omega arith in
      ap (has_key own) (kept_at s lt ∙ only_at s h.0 h.1 t.entries (o.slots_differ s) h.2 h.3) ∙ (same_key-Decides own (key_in h.1)).1 is

  found : (s : ℕ) (o : Option ℕ) → find own (kept_of t) ≡ o → Has s c t.entries → o ≡ Some s
  found s None h has_it =
      let z = none_found 0 own (kept_of t) h in
      let one = count_at own s (kept_of t) (here s has_it) in absurd (omega arith)
  found s (Some m) h has_it = ap (λ (j : ℕ). Some j) (one_code m s c t.entries ((can.tables k t at).codes_differ c) (there m h) has_it)

pub finds : FindsAlike
finds n g i k s t c can code all at = (there n g i k t c can code all at s, λ h. found n g i k t c can code all at s (find (key_of c (list_at i g.lists)) (kept_of t)) refl h)
