-- Entries with the codes of their trees: what is found, brought to the front, and taken out.
use Rattle.std.proofs.Common.{◌≡◌, ◌≢◌, ℕ, zero, suc, ◌+◌, ◌-◌, ◌<◌, ◌≤◌, ◌==◌, ◌&&◌, cond, Bool, true, false, List, [], ◌∷◌, ◌++◌, length, take, refl, sym, ap, ◌∙◌, subst, arith, if◌then◌else◌, Option, Some, None, IfSome, slice_get}
use Rattle.std.specs.Map.{lookup, lookup_entry, remove_entry}
use Rattle.std.specs.Option.{option_map_or}
use mathlib.Core.Option.{some, some-ne-none, some-injective}
use lib.ListN.{get_elem?}
use Rattle.lru.specs.LruCache.{promoted, last_entry}
use Rattle.bs_frac.specs.declared.coef.Coef.{Coef}
use Rattle.bs_tableau.specs.Table.{Table}
use Rattle.bs_core.specs.Codes.{Code, same}
use Rattle.bs_core.specs.Machine.{is_name, times, code_at, pair}
use Rattle.bs_core.specs.Canonical.{Each}
use Rattle.bs_core.specs.Laws.{often}
use Rattle.bs_core.specs.declared.name.Name.{Name}
use Rattle.bs_core.specs.declared.table.Held.{Held}
use Rattle.bs_core.proofs.Basics.{name_test, code_test}
use Rattle.bs_store.specs.Seats.{AgreeBoth}
use Rattle.bs_store.specs.Walks.{hits, Same}
use Rattle.bs_store.proofs.Often.{hits_self}
use Rattle.bs_memo.specs.Keys.{OfKey, same_key, same_key-Decides}
use Rattle.bs_memo.specs.Entries.{IsValueOf, Remembered, entries_of, pair_of, pairs_of, IsRight, Fits}

abbrev pub Entry : Type 0
Entry = OfKey × Coef

-- one entry is taken out, and these are left
pub record Taken (P : Remembered → Type 0) (rs : List Remembered) (e : Entry) (es : List Entry) : Type 0 where
  pub one : Remembered
  pub rest : List Remembered
  pub is : let p : Entry = (one.key, one.value) in p ≡ e
  pub left : entries_of rest ≡ es
  pub pairs : (x : Name) (c : Code) → often x c (pairs_of rs) ≡ hits x c (pair_of one) + often x c (pairs_of rest)
  pub holds : P one
  pub all : Each P rest

-- an entry in front of those
pub taken_behind : (P : Remembered → Type 0) (r : Remembered) (rs : List Remembered) (e : Entry) (es : List Entry) → P r → Taken P rs e es → Taken P (r ∷ rs) e ((r.key, r.value) ∷ es)
taken_behind P r rs e es p t = record {
  one = t.one;
  rest = r ∷ t.rest;
  is = t.is;
  left = ap (λ (l : List Entry). (r.key, r.value) ∷ l) t.left;
  pairs = λ x c. let s = t.pairs x c in omega arith;
  holds = t.holds;
  all = (p, t.all);
}

pub taken_first : (P : Remembered → Type 0) (r : Remembered) (rs : List Remembered) → P r → Each P rs → Taken P (r ∷ rs) (r.key, r.value) (entries_of rs)
taken_first P r rs p ps = record { one = r; rest = rs; is = refl; left = refl; pairs = λ x c. refl; holds = p; all = ps }

module _ (P : Remembered → Type 0) (test : OfKey → Bool) where
  -- the entry that passes
  pub taken_out : (rs : List Remembered) (e : Entry) → Each P rs → lookup_entry test (entries_of rs) ≡ Some e → Taken P rs e (remove_entry test (entries_of rs)) × (test e.0 ≡ true)
  taken_out [] e ps h = cc
  taken_out (r ∷ rs) e ps h = (elim (test r.key) as (λ b. test r.key ≡ b → (let first : Entry = (r.key, r.value) in cond b (Some first) (lookup_entry test (entries_of rs)) ≡ Some e
      → Taken P (r ∷ rs) e (cond b (entries_of rs) (first ∷ remove_entry test (entries_of rs))) × (test e.0 ≡ true))) [
        | true ↦ (λ t z.
            let first : Entry = (r.key, r.value) in
            let is : first ≡ e = cc in
            subst (λ (d : Entry). Taken P (r ∷ rs) d (entries_of rs) × (test d.0 ≡ true)) is (taken_first P r rs ps.0 ps.1, t))
        | false ↦ (λ t z. let s = taken_out rs e ps.1 z in (taken_behind P r rs e (remove_entry test (entries_of rs)) ps.0 s.0, s.1))
      ]) refl h

module _ (test : OfKey → Bool) where
  -- what is found is the value of an entry
  pub found_entry : (es : List Entry) (v : Coef) → lookup test es ≡ Some v → (e : Entry) × (lookup_entry test es ≡ Some e) × (e.1 ≡ v)
  found_entry [] v h = cc
  found_entry (x ∷ xs) v h = elim (test x.0) as (λ b. cond b (Some x.1) (lookup test xs) ≡ Some v → (e : Entry) × (cond b (Some x) (lookup_entry test xs) ≡ Some e) × (e.1 ≡ v)) [
    | true ↦ (λ z. let same : x.1 ≡ v = cc in (x, refl, same))
    | false ↦ (λ z. found_entry xs v z)
  ] h

  pub none_found : (es : List Entry) → lookup test es ≡ None → lookup_entry test es ≡ None
  none_found [] h = refl
  none_found (x ∷ xs) h = elim (test x.0) as (λ b. cond b (Some x.1) (lookup test xs) ≡ None → cond b (Some x) (lookup_entry test xs) ≡ None) [
    | true ↦ (λ z. cc)
    | false ↦ (λ z. none_found xs z)
  ] h

module _ (P : Remembered → Type 0) where
  -- the last entry where the list is as long as that
  pub taken_last : (j : ℕ) (rs : List Remembered) (e : Entry) → Each P rs → length (entries_of rs) ≤ j + 1 → slice_get (entries_of rs) j ≡ Some e → Taken P rs e (take j (entries_of rs))
  taken_last j [] e ps l h = cc
  taken_last zero (r ∷ []) e ps l h =
      let first : Entry = (r.key, r.value) in
      let is : first ≡ e = cc in
      subst (λ (d : Entry). Taken P (r ∷ []) d []) is (taken_first P r [] ps.0 tt)
  taken_last zero (r ∷ s ∷ rs) e ps l h = absurd (omega arith)
  taken_last (suc j) (r ∷ rs) e ps l h = taken_behind P r rs e (take j (entries_of rs)) ps.0 (taken_last j rs e ps.1 (omega arith) h)

pub take_all : (j : ℕ) (es : List Entry) → slice_get es j ≡ None → take j es ≡ es
take_all zero [] h = refl
take_all zero (x ∷ xs) h = cc
take_all (suc j) [] h = refl
take_all (suc j) (x ∷ xs) h = ap (λ (l : List Entry). x ∷ l) (take_all j xs h)

-- bringing an entry to the front keeps the fit
pub fits_promoted : (tables : List Table) (test : OfKey → Bool) (held : List Held) (es : List Entry) → Fits tables held es → Fits tables held (promoted test es)
fits_promoted tables test held es f = go (lookup_entry test es) refl
  where
    go : (o : Option Entry) → lookup_entry test es ≡ o → Fits tables held (option_map_or (λ (e : Entry). e ∷ remove_entry test es) o es)
    go None h = f
    go (Some e) h =
        let out = taken_out (IsRight tables) test f.all e f.right (ap (lookup_entry test) f.entries ∙ h) in
        let t = out.0 in record {
          all = t.one ∷ t.rest;
          entries = ap (λ (d : Entry). d ∷ entries_of t.rest) t.is ∙ ap (λ (l : List Entry). e ∷ l) (t.left ∙ ap (remove_entry test) f.entries);
          pairs = λ x c. let a = f.pairs x c in let b = t.pairs x c in omega arith;
          right = (t.holds, t.all);
        }

pub promoted_none : (test : OfKey → Bool) (es : List Entry) → lookup test es ≡ None → promoted test es ≡ es
promoted_none test es h = ap (λ (o : Option Entry). option_map_or (λ (e : Entry). e ∷ remove_entry test es) o es) (none_found test es h)

pub length-removed : (test : OfKey → Bool) (xs : List Entry) (e : Entry) → lookup_entry test xs ≡ Some e → length (remove_entry test xs) + 1 ≡ length xs
length-removed test [] e h = cc
length-removed test (x ∷ xs) e h = elim (test x.0) as (λ b. cond b (Some x) (lookup_entry test xs) ≡ Some e → length (cond b xs (x ∷ remove_entry test xs)) + 1 ≡ length (x ∷ xs)) [
  | true ↦ (λ z. omega arith)
  | false ↦ (λ z. let r = length-removed test xs e z in omega arith)
] h

length-promoted : (test : OfKey → Bool) (es : List Entry) → length (promoted test es) ≡ length es
length-promoted test es = go (lookup_entry test es) refl
  where
    go : (o : Option Entry) → lookup_entry test es ≡ o → length (option_map_or (λ (e : Entry). e ∷ remove_entry test es) o es) ≡ length es
    go None h = refl
    go (Some e) h = let r = length-removed test es e h in omega arith

pub promoted_long : (test : OfKey → Bool) (es : List Entry) (n : ℕ) → length es ≤ n → length (promoted test es) ≤ n
promoted_long test es n h = let e = length-promoted test es in omega arith

-- ---- what a caller and the stripe hold
-- the first pair of a name
pub first_pair : (y : Name) (l : List Held) → 0 < times y l → (i : ℕ) × (p : Held) × (get_elem? l i ≡ some p) × (y ≡ p.name) × (p.code ≡ code_at y l)
first_pair y [] h = absurd (omega arith)
first_pair y (x ∷ xs) h = name_test y x.name (λ b. 0 < (if b then 1 else 0) + times y xs → (i : ℕ) × (p : Held) × (get_elem? (x ∷ xs) i ≡ some p) × (y ≡ p.name) × (p.code ≡ (if b then x.code else code_at y xs)))
    (λ q _. (zero, x, refl, q, refl))
    (λ q z. let r = first_pair y xs (omega arith) in (suc r.0, r.1, r.2, r.3, r.4))
    h

-- a pair that is there often stands somewhere
pub often_at : (x : Name) (c : Code) (l : List Held) → 1 ≤ often x c l → (i : ℕ) × (get_elem? l i ≡ some (pair x c))
often_at x c [] h = absurd (omega arith)
often_at x c (p ∷ ps) h =
    name_test x p.name (λ b. 1 ≤ (if b && same c p.code then 1 else 0) + often x c ps → (i : ℕ) × (get_elem? (p ∷ ps) i ≡ some (pair x c)))
    (λ q. code_test c p.code (λ b. 1 ≤ (if b then 1 else 0) + often x c ps → (i : ℕ) × (get_elem? (p ∷ ps) i ≡ some (pair x c)))
    (λ q' _. (zero, ap some (λ i. pair (sym q i) (sym q' i))))
    (λ _ z. let r = often_at x c ps (omega arith) in (suc r.0, r.1)))
    (λ _ z. let r = often_at x c ps (omega arith) in (suc r.0, r.1))
    h

-- what is found is the value at the caller's tree
pub some_right : (tables : List Table) (k : OfKey) (held mine : List Held) (es : List Entry) (v : Coef) → Fits tables held es → lookup (same_key k) es ≡ Some v → 0 < times k.name mine → AgreeBoth mine held → IsValueOf tables k.series (code_at k.name mine) v
some_right tables k held mine es v f found has agree =
    let e = found_entry (same_key k) es v found in
    let out = taken_out (IsRight tables) (same_key k) f.all e.0 f.right (ap (lookup_entry (same_key k)) f.entries ∙ e.1) in
    let r = out.0.one in
    let key : r.key ≡ k = ap (λ (d : Entry). d.0) out.0.is ∙ sym ((same_key-Decides k e.0.0).0 out.1) in
    let value : r.value ≡ v = ap (λ (d : Entry). d.1) out.0.is ∙ e.2 in
    let there : 1 ≤ often r.key.name r.code held = (let a = f.pairs r.key.name r.code in let b = out.0.pairs r.key.name r.code in let s = hits_self (pair_of r) in omega arith) in
    let p = often_at r.key.name r.code held there in
    let q = first_pair k.name mine has in
    let name : q.1.name ≡ r.key.name = sym q.3 ∙ ap (λ (x : OfKey). x.name) (sym key) in
    let codes : r.code ≡ code_at k.name mine = sym ((agree q.0 p.0 q.1 (pair_of r) q.2 p.1).0 name) ∙ q.4 in
    subst (λ (c : Code). IsValueOf tables k.series c v) codes
    (subst (λ (w : Coef). IsValueOf tables k.series r.code w) value
    (subst (λ (x : OfKey). IsValueOf tables x.series r.code r.value) key out.0.holds))
