-- A value that is kept, an entry that goes, and a stripe that ends.
use Rattle.std.proofs.Common.{◌≡◌, ℕ, zero, suc, ◌+◌, ◌-◌, ◌<◌, ◌≤◌, ◌&&◌, cond, Bool, true, false, List, [], ◌∷◌, ◌++◌, length, take, refl, sym, ap, ◌∙◌, subst, arith, if◌then◌else◌, Option, Some, None, IfSome, slice_get}
use Rattle.std.specs.Prelude.{MatchOption}
use Rattle.std.specs.Map.{lookup, lookup_entry, remove_entry}
use Rattle.std.specs.Option.{option_map_or}
use Rattle.lru.specs.LruCache.{lru_cache, put_entries, displaced, last_entry}
use Rattle.bs_frac.specs.declared.coef.Coef.{Coef}
use Rattle.bs_tableau.specs.Table.{Table}
use Rattle.bs_core.specs.Codes.{Code, same}
use Rattle.bs_core.specs.Machine.{is_name, times, code_at, without, pair}
use Rattle.bs_core.specs.Canonical.{Each}
use Rattle.bs_core.specs.Laws.{often}
use Rattle.bs_core.specs.declared.name.Name.{Name}
use Rattle.bs_core.specs.declared.table.Held.{Held}
use Rattle.bs_core.proofs.Basics.{name_test}
use Rattle.bs_store.specs.Walks.{hits, Same, More, Sound}
use Rattle.bs_store.proofs.Often.{hits_self, often_append, often_times, often_without, code_is}
use Rattle.bs_memo.specs.Keys.{OfKey, same_key, same_key-Decides}
use Rattle.bs_memo.specs.Entries.{IsValueOf, Remembered, entries_of, pair_of, pairs_of, IsRight, Fits}
use Rattle.bs_memo.proofs.Taking.{Entry, Taken, taken_out, taken_last, take_all, length-removed}

-- the pass holds one pair more than there are entries, with this name
pub record Over (tables : List Table) (n : Name) (held : List Held) (es : List Entry) : Type 0 where
  pub all : List Remembered
  pub code : Code
  pub entries : entries_of all ≡ es
  pub pairs : (x : Name) (c : Code) → often x c held ≡ often x c (pairs_of all) + hits x c (pair n code)
  pub right : Each (IsRight tables) all

over_there : (tables : List Table) (n : Name) (held : List Held) (es : List Entry) → (o : Over tables n held es) → 1 ≤ often n o.code held
over_there tables n held es o = let p = o.pairs n o.code in let s = hits_self (pair n o.code) in omega arith

-- that pair is there
pub over_held : (tables : List Table) (n : Name) (held : List Held) (es : List Entry) → Over tables n held es → 0 < times n held
over_held tables n held es o = let h = over_there tables n held es o in let t = often_times n o.code held in omega arith

-- and once it is released, nothing is over
pub released : (tables : List Table) (n : Name) (held after : List Held) (es : List Entry) → Over tables n held es → Sound held → More (pair n (code_at n held)) after held → Fits tables after es
released tables n held after es o sound more =
    let code : code_at n held ≡ o.code = code_is n o.code held sound (over_there tables n held es o) in record {
      all = o.all;
      entries = o.entries;
      pairs = λ x c.
          let a = o.pairs x c in
          let b = more x c in
          let e = ap (λ (d : Code). hits x c (pair n d)) code in omega arith;
      right = o.right;
    }

-- ---- a pair comes to the stripe's pass
abbrev pub Comes : Name → Code → List Held → List Held → Type 0
Comes n c held more = (x : Name) (d : Code) → often x d more ≡ often x d held + hits x d (pair n c)

code_stays : (n y : Name) (c : Code) (l : List Held) → 0 < times y l → code_at y (l ++ pair n c ∷ []) ≡ code_at y l
code_stays n y c [] h = absurd (omega arith)
code_stays n y c (x ∷ xs) h = name_test y x.name (λ b. 0 < (if b then 1 else 0) + times y xs → (if b then x.code else code_at y (xs ++ pair n c ∷ [])) ≡ (if b then x.code else code_at y xs)) (λ _ _. refl) (λ _ z. code_stays n y c xs (omega arith)) h

pub once_more_held : (n : Name) (own own' : List Held) → own' ≡ own ++ pair n (code_at n own) ∷ [] → 0 < times n own'
once_more_held n own own' e =
    let a = ap (often n (code_at n own)) e ∙ often_append n (code_at n own) own (pair n (code_at n own) ∷ []) in
    let s = hits_self (pair n (code_at n own)) in
    let t = often_times n (code_at n own) own' in omega arith

-- the pair that the caller's pass holds once more and gives
pub given_comes : (n : Name) (own own' held held' : List Held) → 0 < times n own → own' ≡ own ++ pair n (code_at n own) ∷ [] → held' ≡ held ++ pair n (code_at n own') ∷ [] → Comes n (code_at n own) held held'
given_comes n own own' held held' has held_once given x d =
    let code : code_at n own' ≡ code_at n own = ap (code_at n) held_once ∙ code_stays n n (code_at n own) own has in
    let a = ap (often x d) given ∙ often_append x d held (pair n (code_at n own') ∷ []) in
    let e = ap (λ (c : Code). hits x d (pair n c)) code in omega arith

-- what it holds again after that
pub back_again : (n : Name) (own own' own'' : List Held) → 0 < times n own → own' ≡ own ++ pair n (code_at n own) ∷ [] → own'' ≡ without n own' → Same own own''
back_again n own own' own'' has held_once given x d =
    let here = once_more_held n own own' held_once in
    let code : code_at n own' ≡ code_at n own = ap (code_at n) held_once ∙ code_stays n n (code_at n own) own has in
    let w = ap (often x d) given in
    let v = often_without x d n own' here in
    let a = ap (often x d) held_once ∙ often_append x d own (pair n (code_at n own) ∷ []) in
    let e = ap (λ (c : Code). hits x d (pair n c)) code in omega arith

-- ---- it is put
found_lookup : (test : OfKey → Bool) (es : List Entry) (o : Option Entry) → lookup_entry test es ≡ o → lookup test es ≡ option_map_or (λ (e : Entry). Some e.1) o None
found_lookup test [] o h = subst (λ (q : Option Entry). None ≡ option_map_or (λ (e : Entry). Some e.1) q None) h refl
found_lookup test (x ∷ xs) o h = elim (test x.0) as (λ b. cond b (Some x) (lookup_entry test xs) ≡ o → cond b (Some x.1) (lookup test xs) ≡ option_map_or (λ (e : Entry). Some e.1) o None) [
  | true ↦ (λ z. subst (λ (q : Option Entry). Some x.1 ≡ option_map_or (λ (e : Entry). Some e.1) q None) z refl)
  | false ↦ (λ z. found_lookup test xs o z)
] h

-- what the table hands out is over
abbrev pub Put : List Table → List Held → List Entry → Option Entry → Type 0
Put tables held es None = Fits tables held es
Put tables held es (Some old) = Over tables old.0.name held es

module _ (tables : List Table) (k : OfKey) (v : Coef) (room : ℕ) (es : List Entry) (held held' : List Held) (c : Code) (f : Fits tables held es) (comes : Comes k.name c held held') (is : IsValueOf tables k.series c v) (long : length es ≤ room) (some_room : 0 < room) where
  abbrev now_there : List Entry
  now_there = put_entries same_key (lru_cache es room) k v

  -- the key was there
  over_old : (e : Entry) → lookup_entry (same_key k) es ≡ Some e → Over tables k.name held' ((e.0, v) ∷ remove_entry (same_key k) es)
  over_old e h =
      let out = taken_out (IsRight tables) (same_key k) f.all e f.right (ap (lookup_entry (same_key k)) f.entries ∙ h) in
      let t = out.0 in
      let key : t.one.key ≡ k = ap (λ (d : Entry). d.0) t.is ∙ sym ((same_key-Decides k e.0).0 out.1) in
      let name : t.one.key.name ≡ k.name = ap (λ (x : OfKey). x.name) key in
      let new : Remembered = record { key = t.one.key; value = v; code = c } in record {
        all = new ∷ t.rest;
        code = t.one.code;
        entries = ap (λ (d : Entry). let p : Entry = (d.0, v) in p ∷ entries_of t.rest) t.is ∙ ap (λ (l : List Entry). let p : Entry = (e.0, v) in p ∷ l) (t.left ∙ ap (remove_entry (same_key k)) f.entries);
        pairs = λ x d.
            let a = comes x d in
            let b = f.pairs x d in
            let g = t.pairs x d in
            let one = ap (λ (y : Name). hits x d (pair y t.one.code)) name in
            let two = ap (λ (y : Name). hits x d (pair y c)) name in omega arith;
        right = (subst (λ (x : OfKey). IsValueOf tables x.series c v) (sym key) is, t.all);
      }

  -- it was not, and the last entry goes
  over_last : (e : Entry) → slice_get es (room - 1) ≡ Some e → Over tables e.0.name held' ((k, v) ∷ take (room - 1) es)
  over_last e h =
      let t = taken_last (IsRight tables) (room - 1) f.all e f.right (let l = ap (length {A = Entry}) f.entries in omega arith) (ap (λ (l : List Entry). slice_get l (room - 1)) f.entries ∙ h) in
      let name : t.one.key.name ≡ e.0.name = ap (λ (d : Entry). d.0.name) t.is in
      let new : Remembered = record { key = k; value = v; code = c } in record {
        all = new ∷ t.rest;
        code = t.one.code;
        entries = ap (λ (l : List Entry). let p : Entry = (k, v) in p ∷ l) (t.left ∙ ap (take (room - 1)) f.entries);
        pairs = λ x d.
            let a = comes x d in
            let b = f.pairs x d in
            let g = t.pairs x d in
            let one = ap (λ (y : Name). hits x d (pair y t.one.code)) name in omega arith;
        right = (is, t.all);
      }

  -- it was not, and there is room
  fits_new : slice_get es (room - 1) ≡ None → Fits tables held' ((k, v) ∷ take (room - 1) es)
  fits_new h =
      let new : Remembered = record { key = k; value = v; code = c } in record {
        all = new ∷ f.all;
        entries = ap (λ (l : List Entry). let p : Entry = (k, v) in p ∷ l) (f.entries ∙ sym (take_all (room - 1) es h));
        pairs = λ x d. let a = comes x d in let b = f.pairs x d in omega arith;
        right = (is, f.right);
      }

  new_put : (o : Option Entry) → slice_get es (room - 1) ≡ o → Put tables held' ((k, v) ∷ take (room - 1) es) o
  new_put None h = fits_new h
  new_put (Some e) h = over_last e h

  pub is_put : (o : Option Entry) → o ≡ displaced same_key (lru_cache es room) k v → Put tables held' now_there o
  is_put o out = subst (Put tables held' now_there) (sym out) (go (lookup_entry (same_key k) es) refl)
    where
      go : (q : Option Entry) → lookup_entry (same_key k) es ≡ q → Put tables held' (option_map_or (λ (e : Entry). let p : Entry = (e.0, v) in p ∷ remove_entry (same_key k) es) q ((k, v) ∷ take (room - 1) es)) (displaced same_key (lru_cache es room) k v)
      go None h = subst (λ (w : Option Coef). Put tables held' ((k, v) ∷ take (room - 1) es) (option_map_or (λ (old : Coef). Some (k, old)) w (slice_get es (room - 1)))) (sym (found_lookup (same_key k) es None h)) (new_put (slice_get es (room - 1)) refl)
      go (Some e) h = subst (λ (w : Option Coef). Put tables held' ((e.0, v) ∷ remove_entry (same_key k) es) (option_map_or (λ (old : Coef). Some (k, old)) w (slice_get es (room - 1)))) (sym (found_lookup (same_key k) es (Some e) h)) (over_old e h)

-- as many entries as there is room for
length-take : (j : ℕ) (es : List Entry) → length (take j es) ≤ j
length-take zero es = omega arith
length-take (suc j) [] = omega arith
length-take (suc j) (x ∷ xs) = let r = length-take j xs in omega arith

pub put_long : (k : OfKey) (v : Coef) (room : ℕ) (es : List Entry) → length es ≤ room → 0 < room → length (put_entries same_key (lru_cache es room) k v) ≤ room
put_long k v room es long some_room = go (lookup_entry (same_key k) es) refl
  where
    go : (q : Option Entry) → lookup_entry (same_key k) es ≡ q → length (option_map_or (λ (e : Entry). let p : Entry = (e.0, v) in p ∷ remove_entry (same_key k) es) q ((k, v) ∷ take (room - 1) es)) ≤ room
    go None h = let t = length-take (room - 1) es in omega arith
    go (Some e) h = let r = length-removed (same_key k) es e h in omega arith

-- what the table hands out, by the parts of a keep
pub keeps : (tables : List Table) (k k' : OfKey) (n : Name) (v : Coef) (room : ℕ) (es : List Entry) (own own' held held' : List Held) (o : Option Entry) → k' ≡ k → n ≡ k.name → 0 < times k.name own
    → own' ≡ own ++ pair n (code_at n own) ∷ [] → held' ≡ held ++ pair n (code_at n own') ∷ [] → IsValueOf tables k.series (code_at k.name own) v → length es ≤ room → 0 < room → Fits tables held es
    → o ≡ displaced same_key (lru_cache es room) k' v → Put tables held' (put_entries same_key (lru_cache es room) k' v) o
keeps tables k k' n v room es own own' held held' o same name has held_once given is long some_room f out =
    let at : n ≡ k'.name = name ∙ ap (λ (x : OfKey). x.name) (sym same) in
    let comes = given_comes n own own' held held' (subst (λ (x : Name). 0 < times x own) (sym name) has) held_once given in
    is_put tables k' v room es held held' (code_at n own) f (subst (λ (x : Name). Comes x (code_at n own) held held') at comes)
    (subst (λ (x : OfKey). IsValueOf tables x.series (code_at n own) v) (sym same) (subst (λ (y : Name). IsValueOf tables k.series (code_at y own) v) (sym name) is))
    long some_room o out

-- the name of what was handed out is held
pub put_held : (tables : List Table) (held : List Held) (es : List Entry) (o : Option Entry) → Put tables held es o → IfSome o (λ (e : Entry). 0 < times e.0.name held)
put_held tables held es None p = tt
put_held tables held es (Some old) p = over_held tables old.0.name held es p

-- and once it is released, nothing is over
pub put_released : (tables : List Table) (held after : List Held) (es : List Entry) (o : Option Entry) → Put tables held es o → Sound held
    → MatchOption o (after ≡ held) (λ (e : Entry). More (pair e.0.name (code_at e.0.name held)) after held) → Fits tables after es
put_released tables held after es None p sound same = subst (λ (l : List Held). Fits tables l es) (sym same) p
put_released tables held after es (Some old) p sound more = released tables old.0.name held after es p sound more

-- the pair that came is given back
pub back_to : (n : Name) (c : Code) (held held' after : List Held) → Comes n c held held' → Sound held' → More (pair n (code_at n held')) after held' → Same held after
back_to n c held held' after comes sound more x d =
    let there : 1 ≤ often n c held' = (let a = comes n c in let s = hits_self (pair n c) in omega arith) in
    let e = ap (λ (b : Code). hits x d (pair n b)) (code_is n c held' sound there) in
    let a = comes x d in
    let b = more x d in omega arith

pub come_held : (n : Name) (c : Code) (held held' : List Held) → Comes n c held held' → 0 < times n held'
come_held n c held held' comes = let a = comes n c in let s = hits_self (pair n c) in let t = often_times n c held' in omega arith

pub fits_same : (tables : List Table) (held after : List Held) (es : List Entry) → Same held after → Fits tables held es → Fits tables after es
fits_same tables held after es same f = record { all = f.all; entries = f.entries; pairs = λ x c. let a = same x c in let b = f.pairs x c in omega arith; right = f.right }

-- ---- a stripe ends
pub last_over : (tables : List Table) (held : List Held) (es : List Entry) (e : Entry) → Fits tables held es → last_entry es ≡ Some e → Over tables e.0.name held (take (length es - 1) es)
last_over tables held es e f h =
    let j = length es - 1 in
    let t = taken_last (IsRight tables) j f.all e f.right (let l = ap (length {A = Entry}) f.entries in omega arith) (ap (λ (l : List Entry). slice_get l j) f.entries ∙ h) in
    let name : t.one.key.name ≡ e.0.name = ap (λ (d : Entry). d.0.name) t.is in record {
      all = t.rest;
      code = t.one.code;
      entries = t.left ∙ ap (take j) f.entries;
      pairs = λ x d.
          let b = f.pairs x d in
          let g = t.pairs x d in
          let one = ap (λ (y : Name). hits x d (pair y t.one.code)) name in omega arith;
      right = t.all;
    }

no_last : (es : List Entry) → last_entry es ≡ None → es ≡ []
no_last [] h = refl
no_last (x ∷ xs) h = absurd (there (length xs) (x ∷ xs) (omega arith) (ap (slice_get (x ∷ xs)) (let e : length xs ≡ length (x ∷ xs) - 1 = omega arith in e) ∙ h))
  where
    there : (j : ℕ) (ys : List Entry) → j < length ys → slice_get ys j ≡ None → ⊥
    there j [] l z = absurd (omega arith)
    there zero (y ∷ ys) l z = cc
    there (suc j) (y ∷ ys) l z = there j ys (omega arith) z

pub nothing_held : (tables : List Table) (held : List Held) (es : List Entry) → Fits tables held es → last_entry es ≡ None → held ≡ []
nothing_held tables held es f h = none held (λ x c. let p = f.pairs x c in let q = ap (λ (l : List Held). often x c l) (empty f.all (f.entries ∙ no_last es h)) in omega arith)
  where
    empty : (rs : List Remembered) → entries_of rs ≡ [] → pairs_of rs ≡ []
    empty [] e = refl
    empty (r ∷ rs) e = cc

    none : (l : List Held) → ((x : Name) (c : Code) → often x c l ≡ 0) → l ≡ []
    none [] z = refl
    none (p ∷ ps) z = absurd (let a = z p.name p.code in let s = hits_self p in omega arith)

-- a new stripe
pub fits_nothing : (tables : List Table) (held : List Held) → held ≡ [] → Fits tables held []
fits_nothing tables held e = record { all = []; entries = refl; pairs = λ x c. ap (often x c) e; right = tt }
