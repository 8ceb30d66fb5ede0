use Rattle.std.proofs.Common.{rules, ◌≡◌, ◌<◌, ◌∙◌, ℕ, length, slice_index_or, sym, ap₂, subst}
use Rattle.bs_tree.specs.CodeEquality.{same_code-Decides}
use Rattle.bs_series.specs.SeriesCode.{Code, written_at}
use Rattle.bs_series.specs.Expressions.{series_at}
use Rattle.bs_eval.specs.declared.tests.Remembered.{Remembered}
use Rattle.bs_eval.proofs.Lists.{all_at}
use Rattle.bs_eval.proofs.tests.recalled.Goals as goal

pub returns-then-eq-2 : goal.returns-then-eq-2
returns-then-eq-2 c = λ tables es h.
    let r = c.value-item.result in
    let P : Remembered → Type 0 = λ value. value.coef ≡ written_at tables (series_at es value.series) value.code in
    let at : r ≡ slice_index_or c.args.kept.now c.kept.value-index r = search rules in
    let lt : c.kept.value-index < length c.args.kept.now = search rules in
    let own : P r = subst P (sym at) (all_at P c.args.kept.now c.kept.value-index r h lt) in
    let s : r.series ≡ c.args.series = search rules in
    let d : r.code ≡ c.args.code.now = (same_code-Decides r.code c.args.code.now).0 (sym c.eq-then-eq.ensures ∙ c.if-eq-2.true) in
    own ∙ ap₂ (λ (n : ℕ) (code : Code). written_at tables (series_at es n) code) s d
