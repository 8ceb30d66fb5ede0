-- How often a list has a pair, after each change of the list.
use Rattle.std.proofs.Common.{◌≡◌, suc, zero, ◌+◌, ◌<◌, ◌≤◌, ◌&&◌, true, false, List, [], ◌∷◌, ◌++◌, length, refl, sym, ap, subst, arith, if◌then◌else◌}
use Rattle.bs_core.specs.Codes.{Code, same}
use Rattle.bs_core.specs.Machine.{is_name, times, code_at, without, pair, linked, HasAll, taken, left, coded, name_of, without_code}
use Rattle.bs_core.specs.Canonical.{Each}
use Rattle.bs_core.specs.Laws.{often}
use Rattle.bs_core.specs.declared.name.Name.{Name}
use Rattle.bs_core.specs.declared.table.Held.{Held}
use Rattle.bs_core.proofs.Basics.{name_test, code_test}
use Rattle.bs_core.proofs.Pairs.{code_of}
use Rattle.bs_store.specs.Walks.{hits, Sound}

pub hits_self : (p : Held) → hits p.name p.code p ≡ 1
hits_self p = name_test p.name p.name (λ b. (if b && same p.code p.code then 1 else 0) ≡ suc zero) (λ _. code_test p.code p.code (λ b. (if b then 1 else 0) ≡ suc zero) (λ _. refl) (λ n. absurd (n refl))) (λ n. absurd (n refl))

pub often_append : (x : Name) (c : Code) (ps qs : List Held) → often x c (ps ++ qs) ≡ often x c ps + often x c qs
often_append x c [] qs = omega arith
often_append x c (p ∷ ps) qs = let r = often_append x c ps qs in omega arith

pub often_without : (x : Name) (c : Code) (n : Name) (l : List Held) → 0 < times n l → often x c (without n l) + hits x c (pair n (code_at n l)) ≡ often x c l
often_without x c n [] h = absurd (omega arith)
often_without x c n (p ∷ ps) h = name_test n p.name (λ b. 0 < (if b then 1 else 0) + times n ps → often x c (if b then ps else p ∷ without n ps) + hits x c (pair n (if b then p.code else code_at n ps)) ≡ hits x c p + often x c ps)
    (λ q z. let r : hits x c (pair n p.code) ≡ hits x c p = ap (λ k. hits x c (pair k p.code)) q in omega arith)
    (λ q z. let r = often_without x c n ps (omega arith) in omega arith)
    h

-- a pair that is there often has its name
pub often_times : (n : Name) (c : Code) (l : List Held) → often n c l ≤ times n l
often_times n c [] = omega arith
often_times n c (p ∷ ps) = let r = often_times n c ps in elim (is_name n p.name) as (λ b. (if b && same c p.code then 1 else 0) + often n c ps ≤ (if b then 1 else 0) + times n ps) [
  | true ↦ elim (same c p.code) as (λ b. (if true && b then 1 else 0) + often n c ps ≤ (if true then 1 else 0) + times n ps) [ true ↦ omega arith | false ↦ omega arith ]
  | false ↦ omega arith
]

-- and its code
coded_often : (n : Name) (c : Code) (l : List Held) → often n c l ≤ coded c l
coded_often n c [] = omega arith
coded_often n c (p ∷ ps) = let r = coded_often n c ps in elim (is_name n p.name) as (λ b. (if b && same c p.code then 1 else 0) + often n c ps ≤ (if same c p.code then 1 else 0) + coded c ps) [
  | true ↦ elim (same c p.code) as (λ b. (if true && b then 1 else 0) + often n c ps ≤ (if b then 1 else 0) + coded c ps) [ true ↦ omega arith | false ↦ omega arith ]
  | false ↦ elim (same c p.code) as (λ b. (if false && same c p.code then 1 else 0) + often n c ps ≤ (if b then 1 else 0) + coded c ps) [ true ↦ omega arith | false ↦ omega arith ]
]

-- P of a pair that is there
pub often_each : (P : Held → Type 0) (n : Name) (c : Code) (l : List Held) → 1 ≤ often n c l → Each P l → P (pair n c)
often_each P n c [] h e = absurd (omega arith)
often_each P n c (p ∷ ps) h e = name_test n p.name (λ b. 1 ≤ (if b && same c p.code then 1 else 0) + often n c ps → P (pair n c))
    (λ q. code_test c p.code (λ b. 1 ≤ (if b then 1 else 0) + often n c ps → P (pair n c)) (λ q' _. subst P (λ i. pair (sym q i) (sym q' i)) e.0) (λ _ z. often_each P n c ps (omega arith) e.1))
    (λ _ z. often_each P n c ps (omega arith) e.1)
    h

pub code_is : (n : Name) (c : Code) (l : List Held) → Sound l → 1 ≤ often n c l → code_at n l ≡ c
code_is n c l s h =
    let t = often_times n c l in
    let first = code_of (λ p. Each (λ q. p.name ≡ q.name → p.code ≡ q.code) l) n l (omega arith) s.one_code in
    often_each (λ q. n ≡ q.name → code_at n l ≡ q.code) n c l h first refl

pub first_often : (n : Name) (l : List Held) → 0 < times n l → 1 ≤ often n (code_at n l) l
first_often n l h = let r = often_without n (code_at n l) n l h in let q = hits_self (pair n (code_at n l)) in omega arith

-- ---- pairs of children
often_without_code : (x : Name) (d : Code) (c : Code) (l : List Held) → 0 < coded c l → often x d (without_code c l) + hits x d (pair (name_of c l) c) ≡ often x d l
often_without_code x d c [] h = absurd (omega arith)
often_without_code x d c (p ∷ ps) h = code_test c p.code (λ b. 0 < (if b then 1 else 0) + coded c ps → often x d (if b then ps else p ∷ without_code c ps) + hits x d (pair (if b then p.name else name_of c ps) c) ≡ hits x d p + often x d ps)
    (λ q z. let r : hits x d (pair p.name c) ≡ hits x d p = ap (λ k. hits x d (pair p.name k)) q in omega arith)
    (λ q z. let r = often_without_code x d c ps (omega arith) in omega arith)
    h

name_often : (c : Code) (l : List Held) → 0 < coded c l → 1 ≤ often (name_of c l) c l
name_often c l h = let r = often_without_code (name_of c l) c c l h in let q = hits_self (pair (name_of c l) c) in omega arith

pub often_left : (x : Name) (d : Code) (cs : List Code) (l : List Held) → HasAll cs l → often x d (left cs l) + often x d (linked (taken cs l) cs) ≡ often x d l
often_left x d [] l h = omega arith
often_left x d (c ∷ cs) l h = let r = often_left x d cs (without_code c l) h.1 in let q = often_without_code x d c l h.0 in omega arith

-- a code has one name
abbrev pub OneName : List Held → Type 0
OneName l = (x y : Name) (c : Code) → 1 ≤ often x c l → 1 ≤ often y c l → x ≡ y

pub sound_one : (l : List Held) → Sound l → OneName l
sound_one l s x y c h k = often_each (λ q. c ≡ q.code → x ≡ q.name) y c l k (often_each (λ p. Each (λ q. p.code ≡ q.code → p.name ≡ q.name) l) x c l h s.one_name) refl

-- children that are held are all there, under these names
pub all_within : (xs : List Name) (cs : List Code) (l : List Held) → length xs ≡ length cs → OneName l → ((x : Name) (c : Code) → often x c (linked xs cs) ≤ often x c l) → HasAll cs l × (taken cs l ≡ xs)
all_within [] [] l e one m = (tt, refl)
all_within (x ∷ xs) [] l e one m = absurd (omega arith)
all_within [] (c ∷ cs) l e one m = absurd (omega arith)
all_within (x ∷ xs) (c ∷ cs) l e one m =
    let a = m x c in
    let b = hits_self (pair x c) in
    let d = coded_often x c l in
    let there : 0 < coded c l = omega arith in
    let is : name_of c l ≡ x = one (name_of c l) x c (name_often c l there) (omega arith) in
    let rest : (y : Name) (k : Code) → often y k (linked xs cs) ≤ often y k (without_code c l) = λ y k.
    let f = m y k in
    let g = often_without_code y k c l there in
    let h : hits y k (pair (name_of c l) c) ≡ hits y k (pair x c) = ap (λ z. hits y k (pair z c)) is in omega arith in
    let few : OneName (without_code c l) = λ y z k p q. one y z k (let g = often_without_code y k c l there in omega arith) (let g = often_without_code z k c l there in omega arith) in
    let r = all_within xs cs (without_code c l) (omega arith) few rest in
    ((there, r.0), λ i. is i ∷ r.1 i)
