-- A refusal rests on the lines up to the refused one.
use Rattle.std.proofs.Common.{◌≡◌, ◌≢◌, ℕ, ◌+◌, ◌<◌, Bool, true, false, List, [], ◌∷◌, ◌++◌, length, Result, Ok, Err, refl, sym, ap, arith}
use Rattle.bs_script.specs.Blocks.{ScriptLines, empty_script}
use Rattle.bs_script.specs.Words.{is_skipped}
use Rattle.bs_script.specs.Lines.{kept_from, without_return}
use Rattle.bs_script.specs.Grammar.{Place, moved, at_end, from}
use Rattle.bs_script.specs.Grammar.Place.{start, outside, in_table, in_session}
use Rattle.bs_script.specs.Laws.{RefusalRestsOnItsPrefix}
use Rattle.bs_script.specs.declared.reason.Reason.{Reason}
use Rattle.bs_script.specs.declared.reason.Reason.TheVariants.{End}

by_cases : {P : Type 0} (b : Bool) → (b ≡ true → P) → (b ≡ false → P) → P
by_cases true f g = f refl
by_cases false f g = g refl

by_result : {A E P : Type 0} (x : Result A E) → ((a : A) → x ≡ Ok a → P) → ((e : E) → x ≡ Err e → P) → P
by_result (Ok a) f g = f a refl
by_result (Err e) f g = g e refl

abbrev reason_in : Reason → Result ScriptLines (ℕ × Reason) → Reason
reason_in r (Ok s) = r
reason_in r (Err x) = x.1

abbrev number_in : Result ScriptLines (ℕ × Reason) → ℕ
number_in (Ok s) = 0
number_in (Err x) = x.0

-- at the end of the input nothing is refused but for a missing end
only_end : (s : ScriptLines) (p : Place) (all n : ℕ) (r : Reason) → at_end s p all ≡ Err (n, r) → r ≡ End
only_end s start all n r e = absurd (cc)
only_end s outside all n r e = absurd (cc)
only_end s (in_table name t) all n r e = sym (ap (reason_in End) e)
only_end s (in_session c) all n r e = sym (ap (reason_in End) e)

-- a line that is refused comes after the lines before
later : (s : ScriptLines) (p : Place) (all k n : ℕ) (r : Reason) (l : List (List ℕ)) → from s p all (kept_from (k + 1) l) ≡ Err (n, r) → r ≢ End → k < n
later s p all k n r [] e ne = absurd (ne (only_end s p all n r e))
later s p all k n r (raw ∷ more) e ne =
    by_cases (is_skipped (without_return raw))
    (λ y. let f = rw y at e in let h : k + 1 < n = later s p all (k + 1) n r more f ne in omega arith)
    (λ y. let f = rw y at e in by_result (moved s p (without_return raw))
    (λ m z. let g = rw z at f in let h : k + 1 < n = later m.0 m.1 all (k + 1) n r more g ne in omega arith)
    (λ q z. let g = rw z at f in let h : k + 1 ≡ n = ap number_in g in omega arith))

same_front : (s : ScriptLines) (p : Place) (all other k n : ℕ) (r : Reason) (front x y : List (List ℕ)) → n ≡ k + length front
    → from s p all (kept_from (k + 1) (front ++ x)) ≡ Err (n, r) → r ≢ End → from s p other (kept_from (k + 1) (front ++ y)) ≡ Err (n, r)
same_front s p all other k n r [] x y l e ne = let h : k < n = later s p all k n r x e ne in absurd (omega arith)
same_front s p all other k n r (raw ∷ front) x y l e ne =
    by_cases (is_skipped (without_return raw))
    (λ b. let f = rw b at e in rw b (same_front s p all other (k + 1) n r front x y (omega arith) f ne))
    (λ b. let f = rw b at e in by_result (moved s p (without_return raw))
    (λ m z. let g = rw z at f in rw (b, z) (same_front m.0 m.1 all other (k + 1) n r front x y (omega arith) g ne))
    (λ q z. let g = rw z at f in rw (b, z) g))

pub refusal_rests : RefusalRestsOnItsPrefix
refusal_rests a b n r front x y l ea eb ne e =
    let f = rw ea at e in
    rw eb (same_front empty_script start _ _ 0 n r front x y (omega arith) f ne)
