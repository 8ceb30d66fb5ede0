-- Numbers of codes stay, and so does what is remembered of them.
use Rattle.std.proofs.Common.{◌≡◌, ℕ, zero, suc, ◌-◌, ◌<◌, List, [], ◌∷◌, ◌++◌, length, Some, None, inl, inr, refl, sym, ◌∙◌, subst}
use Rattle.bs_catalog.specs.Shelf.{Code, Numbers}
use Rattle.bs_catalog.specs.Memo.{Extends, OneSet, Makes, Remembers}

pub extends_refl : (cs : List Code) → Extends cs cs
extends_refl cs = λ n code h. h

under_at : (c : Code) (cs cs' : List Code) → Extends cs cs' → (n : ℕ) (x : Code) → Numbers (c ∷ cs) n x → Numbers (c ∷ cs') n x
under_at c cs cs' e zero x h = h
under_at c cs cs' e (suc n) x h = e n x h

extends_under : (c : Code) (cs cs' : List Code) → Extends cs cs' → Extends (c ∷ cs) (c ∷ cs')
extends_under c cs cs' e = λ n x h. under_at c cs cs' e n x h

pub extends_push : (cs : List Code) (code : Code) → Extends cs (cs ++ code ∷ [])
extends_push [] code = λ n x h. let no : None ≡ Some x = h in cc
extends_push (c ∷ cs) code = extends_under c cs (cs ++ code ∷ []) (extends_push cs code)

pub pushed_number : (cs : List Code) (code : Code) → Numbers (cs ++ code ∷ []) (length cs) code
pushed_number [] code = refl
pushed_number (c ∷ cs) code = pushed_number cs code

pub same_code_of : (cs : List Code) (n : ℕ) (x y : Code) → Numbers cs n x → Numbers cs n y → x ≡ y
same_code_of cs n x y h k = let e : Some x ≡ Some y = sym h ∙ k in cc

pub makes_more : {f : Code → Code → Code} {cs cs' : List Code} {a b n : ℕ} → Extends cs cs' → Makes f cs a b n → Makes f cs' a b n
makes_more {a = a} {b = b} {n = n} e m = record {
  first = m.first;
  second = m.second;
  is_first = e a m.first m.is_first;
  is_second = e b m.second m.is_second;
  value = e n _ m.value;
}

pub remembers_more : (f : Code → Code → Code) (cs cs' : List Code) (table : List (List ℕ)) → Extends cs cs' → Remembers f cs table → Remembers f cs' table
remembers_more f cs cs' table e h = λ a b some. makes_more e (h a b some)

pub remembers_set : (f : Code → Code → Code) (cs : List Code) (old new : List (List ℕ)) (a b v : ℕ) → OneSet old new a b v → Makes f cs a b (v - 1) → Remembers f cs old → Remembers f cs new
remembers_set f cs old new a b v one m h = λ i j some.
    elim (one i j some) [
      | inl e ↦ subst (λ (n : ℕ). Makes f cs i j (n - 1)) (sym e) (h i j (subst (λ (n : ℕ). 0 < n) e some))
      | inr e ↦
          let m1 : Makes f cs i b (v - 1) = subst (λ (n : ℕ). Makes f cs n b (v - 1)) (sym e.0) m in
          let m2 : Makes f cs i j (v - 1) = subst (λ (n : ℕ). Makes f cs i n (v - 1)) (sym e.1) m1 in
          subst (λ (n : ℕ). Makes f cs i j (n - 1)) (sym e.2) m2
    ]

-- what is made is the number of f x y, for the codes x and y of a and b
pub makes_of : (f : Code → Code → Code) (cs : List Code) (a b n : ℕ) (x y : Code) → Makes f cs a b n → Numbers cs a x → Numbers cs b y → Numbers cs n (f x y)
makes_of f cs a b n x y m h k =
    subst (λ (z : Code). Numbers cs n (f z y)) (same_code_of cs a m.first x m.is_first h)
    (subst (λ (z : Code). Numbers cs n (f m.first z)) (same_code_of cs b m.second y m.is_second k) m.value)
