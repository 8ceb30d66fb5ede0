use Rattle.std.proofs.Common.{rules, ◌≡◌, Option, Some, None, IfSome, sym, subst}
use Rattle.std.specs.List.{AllByRecursion}
use Rattle.bs_frac.specs.declared.coef.Coef.{Coef}
use Rattle.bs_tableau.specs.Table.{Table}
use Rattle.bs_series.specs.Series.{Series, colours_of}
use Rattle.bs_series.specs.SeriesCode.{IsColouredCode, written_at}
use Rattle.bs_series.specs.Expressions.{series_at}
use Rattle.bs_eval.specs.Machine.{awaiting, asked, IsTruthful, IsTruthfulOf, IsRight, AwaitsAsked}
use Rattle.bs_eval.specs.declared.pair.Pair.{Pair}
use Rattle.bs_eval.specs.declared.eval.Eval.{Eval}
use Rattle.bs_eval.specs.declared.tests.Remembered.{Remembered}
use Rattle.bs_eval.proofs.tests.evaluated.Goals as goal
use Rattle.bs_eval.proofs.tests.evaluated.Goals.{in-Look, in-Keep+in_ok-remember-in-Keep}
use Rattle.std.proofs.Common.{List}

abbrev AllWritten : List Table → List Series → List Remembered → Type 0
AllWritten tables es kept = AllByRecursion (λ (value : Remembered). value.coef ≡ written_at tables (series_at es value.series) value.code) kept

truthful : (tables : List Table) (es : List Series) (e : Eval) (p : Pair) (found : Option Coef) → awaiting e ≡ Some p → IfSome found (λ v. v ≡ written_at tables (series_at es p.series) p.code) → IsTruthful tables es e found
truthful tables es e p None a h = tt
truthful tables es e p (Some v) a h = subst (IsTruthfulOf tables es (Some v)) (sym a) h

pub questions-init : goal.questions-init
questions-init g c =
    let tables = c.args.tables.now in
    let es = c.args.book.now in
    let fits : IsColouredCode (colours_of (series_at es c.args.series)) c.args.code = search rules in (
      c.start-eval.ensures.sound tables es c.requires.known fits,
      tt,
      subst (AllWritten tables es) (sym c.new-kept.ensures.items) tt,
      c.start-eval.ensures.held es c.new-memory.result,
      c.new-memory.ensures tables es,
    )

pub questions-preserved : goal.questions-preserved
questions-preserved g c =
    let tables = c.args.tables.now in
    let es = c.args.book.now in
    let e = c.next.new.self in
    elim c.match-branch-3.branch [
      | in-Look w ↦
          let p : Pair = record { series = w.in-Look.series; code = w.in-Look.code } in
          let a : awaiting e ≡ Some p = subst (λ ask. AwaitsAsked ask e) w.in-Look.is c.in_ok-series.ensures.awaits in (
            c.next.ensures.sound,
            subst (IsTruthful tables es e) (sym w.found-is) (truthful tables es e p w.recalled-found.result a (w.recalled-found.ensures tables es (subst (AllWritten tables es) (sym w.deref.ensures.value) c.questions.invariant.2))),
            subst (λ (v : _). AllWritten tables es v.items) (sym w.kept-is) c.questions.invariant.2,
            c.next.ensures.held,
            c.next.ensures.memory,
          )
      | in-Keep+in_ok-remember-in-Keep w ↦ (
        c.next.ensures.sound,
        subst (IsTruthful tables es e) (sym w.found-is) tt,
        subst (λ (v : _). AllWritten tables es v.items) (sym w.kept-is)
            (let right = subst (IsRight tables es (asked c.questions.eval)) w.in-Keep.is c.in_ok-series.ensures.right in w.in_ok-remember-in-Keep.ensures tables es right.1 c.questions.invariant.2),
        c.next.ensures.held,
        c.next.ensures.memory,
      )
    ]
