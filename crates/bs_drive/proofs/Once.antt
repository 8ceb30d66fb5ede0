-- No pair that is kept was kept before.
use Rattle.std.proofs.Common.{◌≡◌, ℕ, ◌+◌, ◌<◌, List, [], ◌∷◌, ◌++◌, length, map, Option, Some, None, IsSome, Bool, true, false, slice_get, arith, refl, sym, ◌∙◌, ap, ap₂, subst}
use Rattle.std.specs.List.{AllByRecursion}
use Rattle.bs_frac.specs.declared.coef.Coef.{Coef}
use Rattle.bs_tree.specs.Tree.{Tree}
use Rattle.bs_tree.specs.Code.{tree_of, IsCode}
use Rattle.bs_tree.specs.Canonical.{level_sequence}
use Rattle.bs_tree.specs.SubtreeLaws.{code_sequence}
use Rattle.bs_tree.specs.Isomorphic.{isomorphic}
use Rattle.bs_tree.specs.ListLaws.{all_implied, all_append}
use Rattle.bs_script.specs.Blocks.{ScriptLines, SessionLines}
use Rattle.bs_series.specs.Series.{Series}
use Rattle.bs_series.specs.SeriesCode.{Code}
use Rattle.bs_series.specs.Needed.{Among, AreApart}
use Rattle.bs_series.specs.Expressions.{series_at, Extends}
use Rattle.bs_alone.specs.Sheet.{Sheet, kept, kept_with}
use Rattle.bs_alone.proofs.Pairs.{kept-cases}
use Rattle.bs_eval.specs.Needs.{tree_pair}
use Rattle.bs_eval.specs.declared.pair.Pair.{Pair}
use Rattle.bs_session.specs.Needed.{session_need}
use Rattle.bs_session.specs.Listing.{session_listed}
use Rattle.bs_work.specs.WorkCounted.{completed_on, work_waited}
use Rattle.bs_session.specs.Counted.{waits_by, session_waiting, session_waited, IsTame, Counts}
use Rattle.bs_session.specs.Machine.{State, Takes, Works, found_of, need_whole}
use Rattle.bs_session.specs.declared.asked.Asked.{Asked}
use Rattle.bs_session.specs.declared.asked.Asked.TheVariants as asked
use Rattle.bs_session.specs.declared.answer.Answer.{Answer}
use Rattle.bs_work.specs.declared.step.Step.{Step}
use Rattle.bs_work.specs.declared.step.Step.TheVariants.{Look, Keep}
use Rattle.bs_session.proofs.Counting.{waited_look, waited_none, waited_found, tame_waited, tame_completes, idle_begun}
use Rattle.bs_drive.specs.Alone.{yes_or_no, compared_codes, compared}
use Rattle.bs_drive.specs.Once.{at_tree, IsOf, AreDistinct, IsKept, IsDue, IsOnce, RisesOnce}

-- ---- the book grows
kept_more : (es es' : List Series) (sheet : Sheet) (ps : List (Series × Code)) → Extends es es' → AllByRecursion (IsKept es sheet) ps → AllByRecursion (IsKept es' sheet) ps
kept_more es es' sheet ps x h =
    all_implied (IsKept es sheet) (IsKept es' sheet) (λ p k. record { id = k.id; known = omega (arith, k.known, x.grows); is = x.stays k.id k.known ∙ k.is; kept = k.kept }) ps h

pair_stays : (es es' : List Series) (p : Pair) → Extends es es' → p.series < length es → tree_pair es' p ≡ tree_pair es p
pair_stays es es' p x h = ap (λ (s : Series). let q : Series × Tree = (s, tree_of p.code) in q) (x.stays p.series h)

due_more : (es es' : List Series) (ns : List (Series × Tree)) (sheet : Sheet) (ps : List Pair) → Extends es es' → AllByRecursion (IsDue es ns sheet) ps → AllByRecursion (IsDue es' ns sheet) ps
due_more es es' ns sheet ps x h =
    all_implied (IsDue es ns sheet) (IsDue es' ns sheet)
    (λ p d. record { known = omega (arith, d.known, x.grows); needed = subst (λ (q : Series × Tree). Among q ns) (sym (pair_stays es es' p x d.known)) d.needed; missing = d.missing }) ps h

-- ---- the last of some
all_last : {X : Type 0} (P : X → Type 0) (xs : List X) (x : X) → AllByRecursion P (xs ++ x ∷ []) → AllByRecursion P xs × P x
all_last P [] x h = (tt, h.0)
all_last P (y ∷ ys) x h = let r = all_last P ys x h.1 in ((h.0, r.0), r.1)

-- those before the last of some that are apart are others than it
before_last : (xs : List Pair) (x : Pair) → AreApart (xs ++ x ∷ []) → AllByRecursion (λ y. ¬ (y ≡ x)) xs
before_last [] x h = tt
before_last (y ∷ ys) x h = ((all_last (λ z. ¬ (y ≡ z)) ys x h.0).1, before_last ys x h.1)

pair_is : (p : Pair) (i : ℕ) (code : Code) → p.series ≡ i → p.code ≡ code → p ≡ record { series = i; code = code }
pair_is p i code e f = ap₂ (λ (x : ℕ) (y : Code). let q : Pair = record { series = x; code = y } in q) e f

-- ---- a pair is kept
some_is_not_none : (o : Option Coef) → IsSome o → o ≡ None → ⊥
some_is_not_none o h e = let k : false ≡ true = subst (λ (x : Option Coef). IsSome x) e h in cc

same_tree : (a b : Code) → IsCode a → IsCode b → tree_of a ≡ tree_of b → a ≡ b
same_tree a b x y e = sym (code_sequence a x) ∙ ap level_sequence e ∙ code_sequence b y

-- what is in the sheet is another expression, or another tree, than one that is missing
other_pair : (es : List Series) (sheet : Sheet) (id : ℕ) (code : Code) (p : Series × Code) → AreDistinct es → id < length es → IsCode code → IsCode p.1 → kept sheet id code ≡ None → IsKept es sheet p
    → at_tree (series_at es id, code) ≡ at_tree p → ⊥
other_pair es sheet id code p distinct known canon other missing k e =
    let s : series_at es id ≡ p.0 = ap (λ (x : Series × Tree). x.0) e in
    let i : k.id ≡ id = distinct id known k.id k.known (k.is ∙ sym s) in
    let c : code ≡ p.1 = same_tree code p.1 canon other (ap (λ (x : Series × Tree). x.1) e) in
    some_is_not_none (kept sheet k.id p.1) k.kept (ap₂ (λ (x : ℕ) (y : Code). kept sheet x y) i (sym c) ∙ missing)

others_than : (es : List Series) (ns : List (Series × Tree)) (sheet : Sheet) (id : ℕ) (code : Code) (ps : List (Series × Code)) → AreDistinct es → id < length es → IsCode code → kept sheet id code ≡ None
    → AllByRecursion (IsOf ns) ps → AllByRecursion (IsKept es sheet) ps → AllByRecursion (λ q. ¬ (at_tree (series_at es id, code) ≡ q)) (map at_tree ps)
others_than es ns sheet id code [] distinct known canon missing of h = tt
others_than es ns sheet id code (p ∷ ps) distinct known canon missing of h = (
  other_pair es sheet id code p distinct known canon of.0.canonical missing h.0,
  others_than es ns sheet id code ps distinct known canon missing of.1 h.1,
)

still_kept : (es : List Series) (sheet : Sheet) (i : ℕ) (code : Code) (v : Coef) (ps : List (Series × Code)) → AllByRecursion (IsKept es sheet) ps → AllByRecursion (IsKept es (kept_with sheet i code v)) ps
still_kept es sheet i code v ps h =
    all_implied (IsKept es sheet) (IsKept es (kept_with sheet i code v))
    (λ p k. record { id = k.id; known = k.known; is = k.is; kept = kept-cases (λ o. IsSome o) sheet i code v k.id p.1 (λ e f. refl) (λ _. k.kept) }) ps h

now_kept : (sheet : Sheet) (i : ℕ) (code : Code) (v : Coef) → IsSome (kept (kept_with sheet i code v) i code)
now_kept sheet i code v = kept-cases (λ o. IsSome o) sheet i code v i code (λ e f. refl) (λ other. absurd (other (refl, refl)))

still_due : (es : List Series) (ns : List (Series × Tree)) (sheet : Sheet) (i : ℕ) (code : Code) (v : Coef) (ps : List Pair) → AllByRecursion (IsDue es ns sheet) ps → AllByRecursion (λ p. ¬ (p ≡ record { series = i; code = code })) ps
    → AllByRecursion (IsDue es ns (kept_with sheet i code v)) ps
still_due es ns sheet i code v [] h a = tt
still_due es ns sheet i code v (p ∷ ps) h a = (
  record { known = h.0.known; needed = h.0.needed; missing = kept-cases (λ o. o ≡ None) sheet i code v p.series p.code (λ e f. absurd (a.0 (pair_is p i code e f))) (λ _. h.0.missing) },
  still_due es ns sheet i code v ps h.1 a.1,
)

-- ---- after a step of the session
module _ (ns : List (Series × Tree)) (old new : State) (given : Option Coef) (sheet : Sheet) (m k n : ℕ) (once : IsOnce ns old given sheet m k) (x : Extends old.space.book new.space.book) where
  -- the pairs that wait after it are those before
  due_then : (ws : List Pair) → ws ≡ session_waited old given → AllByRecursion (IsDue new.space.book ns sheet) ws
  due_then ws e =
      due_more old.space.book new.space.book ns sheet ws x (subst (λ (ps : List Pair). AllByRecursion (IsDue old.space.book ns sheet) ps) (sym e) once.due)

  once_look : (answer : Option Coef) (id : ℕ) (code : Code) → Counts old new given k n (Some (Look id code)) → AllByRecursion (IsDue new.space.book ns sheet) (session_waited new answer) → IsOnce ns new answer sheet m n
  once_look answer id code c due = record {
    pairs = once.pairs;
    apart = once.apart;
    needed = once.needed;
    kept = kept_more old.space.book new.space.book sheet once.pairs x once.kept;
    due = due;
    counted = omega (arith, once.counted, c.counted);
  }

  once_other : (answer : Option Coef) (step : Step) → Counts old new given k n (Some step) → completed_on new.space.book (Some step) ≡ 0 → session_waited new answer ≡ [] → IsOnce ns new answer sheet m n
  once_other answer step c none w = record {
    pairs = once.pairs;
    apart = once.apart;
    needed = once.needed;
    kept = kept_more old.space.book new.space.book sheet once.pairs x once.kept;
    due = subst (λ (ps : List Pair). AllByRecursion (IsDue new.space.book ns sheet) ps) (sym w) tt;
    counted = omega (arith, once.counted, c.counted, none);
  }

  pub once_tame : (script : ScriptLines) (answer : Option Coef) (step : Step) → IsTame step → Takes script old new step → Counts old new given k n (Some step) → IsOnce ns new answer sheet m n
  once_tame script answer step tame t c = once_other answer step c (tame_completes new.space.book step tame) (tame_waited script old new answer step t tame)

  pub once_found : (v : Coef) (id : ℕ) (code : Code) → Counts old new given k n (Some (Look id code)) → IsOnce ns new (Some v) sheet m n
  once_found v id code c = once_look (Some v) id code c (due_then (session_waited new (Some v)) (waited_found new v ∙ c.moves))

  -- what was looked up in vain is due, too
  pub once_missed : (script : ScriptLines) (id : ℕ) (code : Code) → ns ≡ need_whole script new → Works script old new (Look id code) → Counts old new given k n (Some (Look id code)) → kept sheet id code ≡ None → IsOnce ns new None sheet m n
  once_missed script id code whole t c none =
      let q : Pair = record { series = id; code = code } in
      let due : IsDue new.space.book ns sheet q = record { known = t.is.0; needed = subst (λ (ps : List (Series × Tree)). Among (tree_pair new.space.book q) ps) (sym whole) t.needed; missing = none } in
      once_look None id code c
      (subst (λ (ps : List Pair). AllByRecursion (IsDue new.space.book ns sheet) ps) (sym (waited_look new q t.asked t.is.1))
      (all_append (IsDue new.space.book ns sheet) (session_waiting new) (q ∷ []) (due_then (session_waiting new) c.moves) (due, tt)))

  pub once_kept : (script : ScriptLines) (id : ℕ) (code : Code) (v : Coef) → AreDistinct new.space.book → IsCode code → Works script old new (Keep id code v) → Counts old new given k n (Some (Keep id code v))
      → IsOnce ns new None (kept_with sheet id code v) m n
  once_kept script id code v distinct canon t c =
      let q : Pair = record { series = id; code = code } in
      let es = new.space.book in
      let p : Series × Code = (series_at es id, code) in
      let all = all_last (IsDue es ns sheet) (session_waiting new) q (due_then (session_waiting new ++ q ∷ []) (sym c.moves)) in
      let before = kept_more old.space.book es sheet once.pairs x once.kept in
      record {
        pairs = p ∷ once.pairs;
        apart = (others_than es ns sheet id code once.pairs distinct t.is.0 canon all.1.missing once.needed before, once.apart);
        needed = (record { canonical = canon; needed = all.1.needed }, once.needed);
        kept = (record { id = id; known = t.is.0; is = refl; kept = now_kept sheet id code v }, still_kept es sheet id code v once.pairs before);
        due =
            subst (λ (ps : List Pair). AllByRecursion (IsDue es ns (kept_with sheet id code v)) ps) (sym (waited_none new t.is.2))
            (still_due es ns sheet id code v (session_waiting new) all.0 (before_last (session_waiting new) q c.apart));
        counted = omega (arith, once.counted, c.counted);
      }

-- ---- the first state and the last
pub rises_once : (script : ScriptLines) (session : SessionLines) (s : State) (given : Option Coef) (sheet : Sheet) (m n left : ℕ)
    → IsOnce (session_need script session) s given sheet (m + session_listed script session) (n + left) → left ≡ 0 → s.asked ≡ asked.Nothing → RisesOnce script session m n
rises_once script session s given sheet m n left once none z =
    record { pairs = once.pairs; apart = once.apart; needed = once.needed; risen = omega (arith, once.counted, idle_begun s z, none) }

pub first_once : (ns : List (Series × Tree)) (s : State) (sheet : Sheet) (m n : ℕ) → n ≡ m → s.asked ≡ asked.Nothing → IsOnce ns s None sheet m n
first_once ns s sheet m n same h = record {
  pairs = [];
  apart = tt;
  needed = tt;
  kept = tt;
  due = subst (λ (ps : List Pair). AllByRecursion (IsDue s.space.book ns sheet) ps) (sym (ap (λ (a : Asked). waits_by a (work_waited s.work None)) h)) tt;
  counted = omega (arith, idle_begun s h, same);
}

-- ---- a comparison finds nothing
pub none_found : (a : Answer) (b : Bool) → a ≡ yes_or_no b → found_of a ≡ None
none_found a true e = ap found_of e
none_found a false e = ap found_of e

pub compared_found : (codes : List (List (ℕ × ℕ))) (left right : ℕ) → found_of (compared codes left right) ≡ None
compared_found codes left right = by (slice_get codes left) (slice_get codes right)
  where
    by : (a b : Option (List (ℕ × ℕ))) → found_of (compared_codes a b) ≡ None
    by None b = refl
    by (Some a) None = refl
    by (Some a) (Some b) = none_found (yes_or_no (isomorphic (tree_of a) (tree_of b))) (isomorphic (tree_of a) (tree_of b)) refl
