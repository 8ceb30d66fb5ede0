-- What a driver knows of a session's trees, after each kind of step.
use Rattle.std.proofs.Common.{◌≡◌, ℕ, suc, Bool, true, false, zero, List, [], ◌∷◌, ◌++◌, length, length-append, Some, None, Vec, Global, slice_get, refl, sym, ◌∙◌, subst, inl, inr, arith}
use Rattle.bs_tree.specs.Isomorphic.{isomorphic}
use Rattle.bs_tree.specs.Code.{tree_of}
use Rattle.bs_script.specs.Blocks.{ScriptLines}
use Rattle.bs_names.specs.Names.{at}
use Rattle.bs_frac.specs.declared.coef.Coef.{Coef}
use Rattle.bs_tableau.specs.Table.{Table}
use Rattle.bs_series.specs.SeriesCode.{Code, written_at}
use Rattle.bs_series.specs.Expressions.{series_at, Extends}
use Rattle.bs_alone.specs.Sheet.{Sheet}
use Rattle.bs_alone.specs.Fits.{Fits}
use Rattle.bs_alone.proofs.Fitting.{fits-more}
use Rattle.bs_work.specs.Works.{IsHanded}
use Rattle.bs_session.specs.Machine.{State, plain_of, IsTruthful, IsTruthfulOf, IsTrueOf, Interns, Releases, Compares, Works, IsDone, SaysOn}
use Rattle.bs_session.specs.declared.asked.Asked.{Asked}
use Rattle.bs_session.specs.declared.asked.Asked.TheVariants as asked
use Rattle.bs_work.specs.declared.step.Step.{Step}
use Rattle.bs_work.specs.declared.step.Step.TheVariants.{Intern, Release, Same, Look, Keep, Done}
use Rattle.bs_names.specs.declared.live.LiveTree.{LiveTree}
use Rattle.bs_session.specs.declared.answer.Answer.{Answer}
use Rattle.bs_session.specs.declared.answer.Answer.TheVariants.{Go, Found, Missing}
use Rattle.bs_session.proofs.Sound.{at_cases}
use Rattle.bs_drive.specs.Alone.{AreKept, yes_or_no, compared}

some_is : (x y : LiveTree) → Some x ≡ Some y → x ≡ y
some_is x y e = cc

none_is_not : (x : LiveTree) → None ≡ Some x → ⊥
none_is_not x e = cc

get_front : {X : Type 0} (xs ys : List X) (n : ℕ) (x : X) → slice_get xs n ≡ Some x → slice_get (xs ++ ys) n ≡ Some x
get_front [] ys n x e = cc
get_front (y ∷ xs) ys zero x e = e
get_front (y ∷ xs) ys (suc n) x e = get_front xs ys n x e

get_last : {X : Type 0} (xs : List X) (x : X) → slice_get (xs ++ x ∷ []) (length xs) ≡ Some x
get_last [] x = refl
get_last (y ∷ xs) x = get_last xs x

pub kept-intern : (script : ScriptLines) (codes : List (List (ℕ × ℕ))) (old new : State) (tree : ℕ) (code : List (ℕ × ℕ)) → AreKept codes old → Interns script old new tree code → AreKept (codes ++ code ∷ []) new
kept-intern script codes old new tree code kept i = record {
  all = omega (arith, length-append codes (code ∷ []), kept.all, i.counted);
  each = λ name t found.
      elim (at_cases old.space.live new.space.live i.name name _ i.live) [
        | inl set ↦
            let e = some_is _ t (sym set.value ∙ found) in
            let here : slice_get (codes ++ code ∷ []) tree ≡ Some code = rw (i.next, ← kept.all) (get_last codes code) in
            subst (λ (x : LiveTree). slice_get (codes ++ code ∷ []) x.number ≡ Some x.code) e here
        | inr same ↦ get_front codes (code ∷ []) t.number t.code (kept.each name t (sym same ∙ found))
      ];
}

pub kept-release : (codes : List (List (ℕ × ℕ))) (old new : State) (tree : ℕ) → AreKept codes old → Releases old new tree → AreKept codes new
kept-release codes old new tree kept r = record {
  all = kept.all ∙ sym r.counted;
  each = λ name t found.
      elim (at_cases old.space.live new.space.live r.name name None r.gone) [
        | inl set ↦ absurd (none_is_not t (sym set.value ∙ found))
        | inr same ↦ kept.each name t (sym same ∙ found)
      ];
}

pub kept-same : (codes : List (List (ℕ × ℕ))) (old new : State) → new.space.live ≡ old.space.live → new.interned ≡ old.interned → AreKept codes old → AreKept codes new
kept-same codes old new live interned kept = record {
  all = kept.all ∙ sym interned;
  each = λ name t found. kept.each name t (subst (λ l. at name l ≡ Some t) live found);
}

pub truthful_by : (l r : LiveTree) (b : Bool) → isomorphic (tree_of l.code) (tree_of r.code) ≡ b → IsTrueOf l r (yes_or_no b)
truthful_by l r true e = e
truthful_by l r false e = e

-- an answer to what was asked
pub truthful-as : (script : ScriptLines) (s : State) (question : Asked) (answer : Answer) → s.asked ≡ question → IsTruthfulOf (plain_of script s) s.space.book s.work question answer → IsTruthful script s answer
truthful-as script s question answer e h = subst (λ q. IsTruthfulOf (plain_of script s) s.space.book s.work q answer) (sym e) h

pub truthful-go : (script : ScriptLines) (s : State) → s.asked ≡ asked.Nothing → IsTruthful script s Go
truthful-go script s e = truthful-as script s asked.Nothing Go e tt

pub truthful-same : (script : ScriptLines) (codes : List (List (ℕ × ℕ))) (old new : State) (left right : ℕ) → AreKept codes old → Compares old new left right → IsTruthful script new (compared codes left right)
truthful-same script codes old new left right kept c =
    let first : slice_get codes left ≡ Some c.first.code = subst (λ n. slice_get codes n ≡ Some c.first.code) c.left_is (kept.each c.left_live.0 c.first c.left_live.1) in
    let second : slice_get codes right ≡ Some c.second.code = subst (λ n. slice_get codes n ≡ Some c.second.code) c.right_is (kept.each c.right_live.0 c.second c.right_live.1) in
    let is : IsTrueOf c.first c.second (compared codes left right) = rw (first, second) (truthful_by c.first c.second (isomorphic (tree_of c.first.code) (tree_of c.second.code)) refl) in
    truthful-as script new (asked.Same c.first c.second) (compared codes left right) c.asked is

-- a value that was looked up
pub truthful-found : (script : ScriptLines) (old new : State) (id : ℕ) (code : Code) (v : Coef) → Works script old new (Look id code) → v ≡ written_at (plain_of script new) (series_at new.space.book id) code → IsTruthful script new (Found v)
truthful-found script old new id code v w is =
    let handed : IsHanded (plain_of script new) new.space.book new.work (Some v) = rw w.is.1 is in
    truthful-as script new asked.Value (Found v) w.asked handed

pub truthful-missing : (script : ScriptLines) (old new : State) (step : Step) → Works script old new step → IsTruthful script new Missing
truthful-missing script old new step w = truthful-as script new asked.Value Missing w.asked tt

pub truthful-kept : (script : ScriptLines) (old new : State) (step : Step) → Works script old new step → IsTruthful script new Go
truthful-kept script old new step w = truthful-as script new asked.Value Go w.asked tt

-- a step that is not the last leaves what is said
pub said-more : (step : Step) (old new : List ℕ) → (IsDone step → ⊥) → SaysOn step old new → new ≡ old
said-more (Intern tree code) old new h s = s
said-more (Release tree) old new h s = s
said-more (Same left right) old new h s = s
said-more (Look id code) old new h s = s
said-more (Keep id code v) old new h s = s
said-more (Done reply) old new h s = absurd (h tt)

pub done_is : (step : Step) → IsDone step → (reply : Vec ℕ Global) × (step ≡ Done reply)
done_is (Intern tree code) d = absurd d
done_is (Release tree) d = absurd d
done_is (Same left right) d = absurd d
done_is (Look id code) d = absurd d
done_is (Keep id code v) d = absurd d
done_is (Done reply) d = (reply, refl)

-- a sheet goes on fitting
pub fits-after : (script : ScriptLines) (old new : State) (sheet : Sheet) → new.number ≡ old.number → Extends old.space.book new.space.book → Fits (plain_of script old) old.space.book sheet → Fits (plain_of script new) new.space.book sheet
fits-after script old new sheet number grows fits =
    let tables : plain_of script new ≡ plain_of script old = rw number refl in
    subst (λ (ts : List Table). Fits ts new.space.book sheet) (sym tables) (fits-more (plain_of script old) old.space.book new.space.book sheet grows fits)
