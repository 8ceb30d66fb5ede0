-- An allowed event keeps a canonical state.
use Rattle.std.proofs.Common.{◌≡◌, ◌≢◌, ℕ, zero, suc, ◌+◌, ◌-◌, ◌<◌, ◌≤◌, ◌==◌, Bool, true, false, List, [], ◌∷◌, ◌++◌, length, refl, sym, ap, ◌∙◌, subst, arith, if◌then◌else◌}
use mathlib.Core.Option.{some-ne-none, some-injective}
use Rattle.bs_core.specs.declared.name.Name.{Name}
use Rattle.bs_core.specs.declared.table.Held.{Held}
use Rattle.bs_core.specs.declared.table.Entry.{Entry}
use Rattle.bs_core.specs.Machine.{most, is_name, times, code_at, without, pair, one_more, raise_in, lower, lower_in, slots, codes, at_place, list_at}
use Rattle.bs_core.specs.Canonical.{Each, all_times, Has}
use Rattle.bs_core.specs.Codes.{Code, same}
use Rattle.bs_core.proofs.Basics.{by_test, name_test, code_test}

abbrev one_if : Bool → ℕ
one_if b = if b then 1 else 0

abbrev pub hit : Name → Name → ℕ
hit x m = if is_name x m then 1 else 0

pub hit_same : (m : Name) → hit m m ≡ 1
hit_same m = name_test m m (λ b. one_if b ≡ 1) (λ _. refl) (λ n. absurd (n refl))

pub hit_other : (x m : Name) → x ≢ m → hit x m ≡ 0
hit_other x m n = name_test x m (λ b. one_if b ≡ 0) (λ e. absurd (n e)) (λ _. refl)

-- each
module _ {A : Type 0} where
  pub each_mono : (P Q : A → Type 0) (xs : List A) → ((x : A) → P x → Q x) → Each P xs → Each Q xs
  each_mono P Q [] h e = tt
  each_mono P Q (x ∷ xs) h e = (h x e.0, each_mono P Q xs h e.1)

  pub each_both : (P Q : A → Type 0) (xs : List A) → Each P xs → Each Q xs → Each (λ x. P x × Q x) xs
  each_both P Q [] p q = tt
  each_both P Q (x ∷ xs) p q = ((p.0, q.0), each_both P Q xs p.1 q.1)

  pub each_join : (P : A → Type 0) (xs ys : List A) → Each P xs → Each P ys → Each P (xs ++ ys)
  each_join P [] ys h k = k
  each_join P (x ∷ xs) ys h k = (h.0, each_join P xs ys h.1 k)

-- counts of names
pub times_append : (x : Name) (ps qs : List Held) → times x (ps ++ qs) ≡ times x ps + times x qs
times_append x [] qs = omega arith
times_append x (p ∷ ps) qs = let r = times_append x ps qs in omega arith

pub times_pair : (x m : Name) (c : Code) (l : List Held) → times x (l ++ pair m c ∷ []) ≡ times x l + hit x m
times_pair x m c l = let r = times_append x l (pair m c ∷ []) in omega arith

pub times_without : (x m : Name) (l : List Held) → 0 < times m l → times x (without m l) + hit x m ≡ times x l
times_without x m [] some_there = absurd (omega arith)
times_without x m (p ∷ ps) some_there = name_test m p.name (λ b. 0 < (if b then 1 else 0) + times m ps → times x (if b then ps else p ∷ without m ps) + hit x m ≡ hit x p.name + times x ps)
    (λ e z. let s : hit x m ≡ hit x p.name = ap (hit x) e in omega arith)
    (λ n z. let r = times_without x m ps (omega arith) in omega arith)
    some_there

pub at_count : (x : Name) (p : ℕ) (f : List Held → List Held) (ls : List (List Held)) → p < length ls → all_times x (at_place p f ls) + times x (list_at p ls) ≡ all_times x ls + times x (f (list_at p ls))
at_count x p f [] h = absurd (omega arith)
at_count x zero f (l ∷ ls) h = omega arith
at_count x (suc p) f (l ∷ ls) h = let r = at_count x p f ls (omega arith) in omega arith

-- pairs stand
pub each_place : {A : Type 0} (P : List A → Type 0) (p : ℕ) (f : List A → List A) (ls : List (List A)) → ((l : List A) → P l → P (f l)) → Each P ls → Each P (at_place p f ls)
each_place P p f [] h e = tt
each_place P zero f (l ∷ ls) h e = (h l e.0, e.1)
each_place P (suc p) f (l ∷ ls) h e = (e.0, each_place P p f ls h e.1)

-- the same, where the fact on the list at the place is known
pub each_place_at : (P : Held → Type 0) (p : ℕ) (f : List Held → List Held) (ls : List (List Held)) → (Each P (list_at p ls) → Each P (f (list_at p ls))) → Each (Each P) ls → Each (Each P) (at_place p f ls)
each_place_at P p f [] h e = tt
each_place_at P zero f (l ∷ ls) h e = (h e.0, e.1)
each_place_at P (suc p) f (l ∷ ls) h e = (e.0, each_place_at P p f ls h e.1)

pub each_list : (P : Held → Type 0) (p : ℕ) (ls : List (List Held)) → Each (Each P) ls → Each P (list_at p ls)
each_list P p [] e = tt
each_list P zero (l ∷ ls) e = e.0
each_list P (suc p) (l ∷ ls) e = each_list P p ls e.1

pub each_without : (P : Held → Type 0) (m : Name) (l : List Held) → Each P l → Each P (without m l)
each_without P m [] e = tt
each_without P m (p ∷ ps) e = elim (is_name m p.name) as (λ b. Each P (if b then ps else p ∷ without m ps)) [ true ↦ e.1 | false ↦ (e.0, each_without P m ps e.1) ]

-- the first pair with a name, which stands where the list's pairs do
pub code_of : (P : Held → Type 0) (m : Name) (l : List Held) → 0 < times m l → Each P l → P (pair m (code_at m l))
code_of P m [] h e = absurd (omega arith)
code_of P m (p ∷ ps) h e = name_test m p.name (λ b. 0 < (if b then 1 else 0) + times m ps → P (pair m (if b then p.code else code_at m ps)))
    (λ q z. subst (λ k. P (pair k p.code)) (sym q) e.0)
    (λ q z. code_of P m ps (omega arith) e.1)
    h

abbrev pub push : Name → Code → List Held → List Held
push m c l = l ++ pair m c ∷ []

pub each_push : (P : Held → Type 0) (m : Name) (c : Code) (l : List Held) → P (pair m c) → Each P l → Each P (push m c l)
each_push P m c l h e = each_join P l (pair m c ∷ []) e (h, tt)

-- each pair of a list counts
in_list : (l : List Held) → Each (λ q. 1 ≤ times q.name l) l
in_list [] = tt
in_list (p ∷ ps) = (let r = hit_same p.name in omega arith, each_mono (λ q. 1 ≤ times q.name ps) (λ q. 1 ≤ hit q.name p.name + times q.name ps) ps (λ q h. omega arith) (in_list ps))

pub counted : (ls : List (List Held)) → Each (Each (λ q. 1 ≤ all_times q.name ls)) ls
counted [] = tt
counted (l ∷ ls) = (
  each_mono (λ q. 1 ≤ times q.name l) (λ q. 1 ≤ times q.name l + all_times q.name ls) l (λ q h. omega arith) (in_list l),
  each_mono (Each (λ q. 1 ≤ all_times q.name ls)) (Each (λ q. 1 ≤ times q.name l + all_times q.name ls)) ls (λ k. each_mono (λ q. 1 ≤ all_times q.name ls) (λ q. 1 ≤ times q.name l + all_times q.name ls) k (λ q h. omega arith)) (counted ls),
)

-- entries
pub has_front : (s : ℕ) (c : Code) (xs ys : List Entry) → Has s c ys → Has s c (xs ++ ys)
has_front s c [] ys h = h
has_front s c (x ∷ xs) ys h = let r = has_front s c xs ys h in (suc r.0, r.1, r.2, r.3, r.4)

pub has_back : (s : ℕ) (c : Code) (xs ys : List Entry) → Has s c xs → Has s c (xs ++ ys)
has_back s c [] ys h = absurd (some-ne-none h.1 (sym h.2))
has_back s c (x ∷ xs) ys (zero, e, at, a, b) = (zero, e, at, a, b)
has_back s c (x ∷ xs) ys (suc k, e, at, a, b) = let r = has_back s c xs ys (k, e, at, a, b) in (suc r.0, r.1, r.2, r.3, r.4)

pub has_raise : (s s' : ℕ) (c : Code) (es : List Entry) → Has s' c es → Has s' c (raise_in s es)
has_raise s s' c [] h = absurd (some-ne-none h.1 (sym h.2))
has_raise s s' c (x ∷ xs) (zero, e, at, a, b) = let q = some-injective x e at in
    elim (s == x.slot) as (λ u. Has s' c ((if u then record { slot = x.slot; code = x.code; links = x.links; count = one_more x.count } else x) ∷ raise_in s xs)) [
      | true ↦ (zero, record { slot = x.slot; code = x.code; links = x.links; count = one_more x.count }, refl, ap (λ (y : Entry). y.slot) q ∙ a, ap (λ (y : Entry). y.code) q ∙ b)
      | false ↦ (zero, e, at, a, b)
    ]
has_raise s s' c (x ∷ xs) (suc k, e, at, a, b) = let r = has_raise s s' c xs (k, e, at, a, b) in (suc r.0, r.1, r.2, r.3, r.4)

abbrev pub Remains : ℕ → ℕ → Entry → Type 0
Remains s s' e = e.slot ≡ s → s' ≡ s → e.count ≢ 1

has_lower_one : (s' : ℕ) (c : Code) (x : Entry) (xs : List Entry) → x.slot ≡ s' → x.code ≡ c → x.count ≢ 1 → Has s' c (lower x ++ xs)
has_lower_one s' c x xs a b n = by_test x.count 1 (λ u. Has s' c ((if u then [] else (if x.count == most then x ∷ [] else record { slot = x.slot; code = x.code; links = x.links; count = x.count - 1 } ∷ [])) ++ xs))
    (λ e. absurd (n e))
    (λ _. elim (x.count == most) as (λ u. Has s' c ((if u then x ∷ [] else record { slot = x.slot; code = x.code; links = x.links; count = x.count - 1 } ∷ []) ++ xs)) [ true ↦ (zero, x, refl, a, b) | false ↦ (zero, record { slot = x.slot; code = x.code; links = x.links; count = x.count - 1 }, refl, a, b) ])

pub has_lower : (s s' : ℕ) (c : Code) (es : List Entry) → Each (Remains s s') es → Has s' c es → Has s' c (lower_in s es)
has_lower s s' c [] keep h = absurd (some-ne-none h.1 (sym h.2))
has_lower s s' c (x ∷ xs) keep (zero, e, at, a, b) = let q = some-injective x e at in let a' = ap (λ (y : Entry). y.slot) q ∙ a in let b' = ap (λ (y : Entry). y.code) q ∙ b in
    by_test s x.slot (λ u. Has s' c (if u then lower x ++ xs else x ∷ lower_in s xs))
    (λ z. has_lower_one s' c x xs a' b' (keep.0 (sym z) (sym a' ∙ sym z)))
    (λ z. (zero, x, refl, a', b'))
has_lower s s' c (x ∷ xs) keep (suc k, e, at, a, b) =
    elim (s == x.slot) as (λ u. Has s' c (if u then lower x ++ xs else x ∷ lower_in s xs)) [
      | true ↦ has_front s' c (lower x) xs (k, e, at, a, b)
      | false ↦ (let r = has_lower s s' c xs keep.1 (k, e, at, a, b) in (suc r.0, r.1, r.2, r.3, r.4))
    ]

pub has_slots : (s : ℕ) (c : Code) (es : List Entry) → Has s c es → 1 ≤ slots s es
has_slots s c [] h = absurd (some-ne-none h.1 (sym h.2))
has_slots s c (x ∷ xs) (zero, e, at, a, b) = let q = ap (λ (y : Entry). y.slot) (some-injective x e at) ∙ a in by_test s x.slot (λ u. 1 ≤ (if u then 1 else 0) + slots s xs) (λ _. omega arith) (λ n. absurd (n (sym q)))
has_slots s c (x ∷ xs) (suc k, e, at, a, b) = let r = has_slots s c xs (k, e, at, a, b) in omega arith

pub has_codes : (s : ℕ) (c : Code) (es : List Entry) → Has s c es → 1 ≤ codes c es
has_codes s c [] h = absurd (some-ne-none h.1 (sym h.2))
has_codes s c (x ∷ xs) (zero, e, at, a, b) = let q = ap (λ (y : Entry). y.code) (some-injective x e at) ∙ b in code_test c x.code (λ u. 1 ≤ (if u then 1 else 0) + codes c xs) (λ _. omega arith) (λ n. absurd (n (sym q)))
has_codes s c (x ∷ xs) (suc k, e, at, a, b) = let r = has_codes s c xs (k, e, at, a, b) in omega arith

pub slots_raise : (x s : ℕ) (es : List Entry) → slots x (raise_in s es) ≡ slots x es
slots_raise x s [] = refl
slots_raise x s (e ∷ es) = let r = slots_raise x s es in elim (s == e.slot) as (λ u. (if x == (if u then record { slot = e.slot; code = e.code; links = e.links; count = one_more e.count } else e).slot then 1 else 0) + slots x (raise_in s es) ≡ (if x == e.slot then 1 else 0) + slots x es) [ true ↦ omega arith | false ↦ omega arith ]

pub codes_raise : (x : Code) (s : ℕ) (es : List Entry) → codes x (raise_in s es) ≡ codes x es
codes_raise x s [] = refl
codes_raise x s (e ∷ es) = let r = codes_raise x s es in elim (s == e.slot) as (λ u. (if same x (if u then record { slot = e.slot; code = e.code; links = e.links; count = one_more e.count } else e).code then 1 else 0) + codes x (raise_in s es) ≡ (if same x e.code then 1 else 0) + codes x es) [ true ↦ omega arith | false ↦ omega arith ]

pub slots_append : (x : ℕ) (es fs : List Entry) → slots x (es ++ fs) ≡ slots x es + slots x fs
slots_append x [] fs = omega arith
slots_append x (e ∷ es) fs = let r = slots_append x es fs in omega arith

pub codes_append : (x : Code) (es fs : List Entry) → codes x (es ++ fs) ≡ codes x es + codes x fs
codes_append x [] fs = omega arith
codes_append x (e ∷ es) fs = let r = codes_append x es fs in omega arith

slots_one : (x : ℕ) (e : Entry) → slots x (lower e) ≤ (if x == e.slot then 1 else 0)
slots_one x e = elim (e.count == 1) as (λ u. slots x (if u then [] else (if e.count == most then e ∷ [] else record { slot = e.slot; code = e.code; links = e.links; count = e.count - 1 } ∷ [])) ≤ (if x == e.slot then 1 else 0)) [
  | true ↦ omega arith
  | false ↦ elim (e.count == most) as (λ u. slots x (if u then e ∷ [] else record { slot = e.slot; code = e.code; links = e.links; count = e.count - 1 } ∷ []) ≤ (if x == e.slot then 1 else 0)) [ true ↦ omega arith | false ↦ omega arith ]
]

codes_one : (x : Code) (e : Entry) → codes x (lower e) ≤ (if same x e.code then 1 else 0)
codes_one x e = elim (e.count == 1) as (λ u. codes x (if u then [] else (if e.count == most then e ∷ [] else record { slot = e.slot; code = e.code; links = e.links; count = e.count - 1 } ∷ [])) ≤ (if same x e.code then 1 else 0)) [
  | true ↦ omega arith
  | false ↦ elim (e.count == most) as (λ u. codes x (if u then e ∷ [] else record { slot = e.slot; code = e.code; links = e.links; count = e.count - 1 } ∷ []) ≤ (if same x e.code then 1 else 0)) [ true ↦ omega arith | false ↦ omega arith ]
]

pub slots_lower : (x s : ℕ) (es : List Entry) → slots x (lower_in s es) ≤ slots x es
slots_lower x s [] = omega arith
slots_lower x s (e ∷ es) = elim (s == e.slot) as (λ u. slots x (if u then lower e ++ es else e ∷ lower_in s es) ≤ (if x == e.slot then 1 else 0) + slots x es) [
  | true ↦ (let r = slots_append x (lower e) es in let q = slots_one x e in omega arith)
  | false ↦ (let r = slots_lower x s es in omega arith)
]

pub codes_lower : (x : Code) (s : ℕ) (es : List Entry) → codes x (lower_in s es) ≤ codes x es
codes_lower x s [] = omega arith
codes_lower x s (e ∷ es) = elim (s == e.slot) as (λ u. codes x (if u then lower e ++ es else e ∷ lower_in s es) ≤ (if same x e.code then 1 else 0) + codes x es) [
  | true ↦ (let r = codes_append x (lower e) es in let q = codes_one x e in omega arith)
  | false ↦ (let r = codes_lower x s es in omega arith)
]
