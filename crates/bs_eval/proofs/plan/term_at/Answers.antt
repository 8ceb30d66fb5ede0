use Rattle.std.proofs.Common.{◌≡◌, ◌++◌, ◌∷◌, [], List, Some, None, true, false, map, length, sym, ap, ap₂, subst, ◌∙◌}
use Rattle.std.proofs.lemmas.Option.{get_or_from_slice_get}
use Rattle.bs_catalog.specs.Shelf.{split_rows, part_rows}
use Rattle.bs_catalog.specs.Splitting.{init}
use Rattle.bs_catalog.specs.Partition.{tail}
use Rattle.bs_frac.specs.Fraction.{Fraction}
use Rattle.bs_series.specs.Series.{Series, exact}
use Rattle.bs_series.specs.Plan.{at}
use Rattle.bs_series.specs.SeriesCode.{Code, leaf_code}
use Rattle.bs_series.specs.Expressions.{series_at}
use Rattle.bs_eval.specs.declared.term.Operation.TheVariants.{Add, Divide}
use Rattle.bs_eval.specs.Terms.{code_at, steps_of}
use Rattle.bs_eval.specs.Rules.{IsTermAt, split_steps, part_step, single_step, powers_step, adding, subtracting, every, later}
use Rattle.bs_eval.proofs.PlanRows.{composed_steps, inverse_steps, adjoint_steps, substituted_steps, modified_steps, modifying_steps, scaled_steps}
use Rattle.bs_eval.proofs.plan.term_at.Goals as goal

pub returns-in-Compose-clause-term : goal.returns-in-Compose-clause-term
returns-in-Compose-clause-term c = λ code h.
    let es = c.args.book.now in let cs = c.args.trees.now.codes in let own = c.args.spot.now.series in
    let at_code : code_at cs c.args.spot.now.tree ≡ code = get_or_from_slice_get cs c.args.spot.now.tree code [] h.tree in
    let is = c.in-Compose.ensures.is in
    subst (λ ss. IsTermAt es cs ss c.args.place c.composed.result)
    (ap (λ (x : Code). split_steps es (adding c.in-Compose.second c.empty_value.result c.in-Compose.first) x (split_rows x)) at_code ∙ ap (λ (e : Fraction). split_steps es (adding c.in-Compose.second e c.in-Compose.first) code (split_rows code)) c.empty_value.ensures ∙ composed_steps es c.in-Compose.first c.in-Compose.second code h.coded ∙ ap (λ (s : Series). steps_of s code) is)
    (c.composed.ensures.is es)

pub returns-in-Inverse-clause-term : goal.returns-in-Inverse-clause-term
returns-in-Inverse-clause-term c = λ code h.
    let es = c.args.book.now in let cs = c.args.trees.now.codes in let own = c.args.spot.now.series in
    let at_code : code_at cs c.args.spot.now.tree ≡ code = get_or_from_slice_get cs c.args.spot.now.tree code [] h.tree in
    let is = c.in-Inverse.ensures.is in
    subst (λ ss. IsTermAt es cs ss c.args.place c.but_last.result)
    (ap (λ (x : Code). split_steps es (subtracting own c.in-Inverse.of false) x (init (split_rows x))) at_code ∙ inverse_steps es own c.in-Inverse.of code h.coded (sym is) ∙ ap (λ (s : Series). steps_of s code) is)
    (c.but_last.ensures.is es)

pub returns-in-Adjoint-clause-term : goal.returns-in-Adjoint-clause-term
returns-in-Adjoint-clause-term c = λ code h.
    let es = c.args.book.now in let cs = c.args.trees.now.codes in let own = c.args.spot.now.series in
    let at_code : code_at cs c.args.spot.now.tree ≡ code = get_or_from_slice_get cs c.args.spot.now.tree code [] h.tree in
    let is = c.in-Adjoint.ensures.is in
    subst (λ ss. IsTermAt es cs ss c.args.place c.but_last-in-Adjoint.result)
    (ap (λ (x : Code). split_steps es (subtracting own c.in-Adjoint.of true) x (init (split_rows x))) at_code ∙ adjoint_steps es own c.in-Adjoint.of code h.coded (sym is) ∙ ap (λ (s : Series). steps_of s code) is)
    (c.but_last-in-Adjoint.ensures.is es)

pub returns-in-Substitute-clause-term : goal.returns-in-Substitute-clause-term
returns-in-Substitute-clause-term c = λ code h.
    let es = c.args.book.now in let cs = c.args.trees.now.codes in let own = c.args.spot.now.series in
    let at_code : code_at cs c.args.spot.now.tree ≡ code = get_or_from_slice_get cs c.args.spot.now.tree code [] h.tree in
    let is = c.in-Substitute.ensures.is in
    subst (λ ss. IsTermAt es cs ss c.args.place c.substituted.result)
    (ap (λ (x : Code). map (part_step es (every c.in-Substitute.inner c.in-Substitute.outer)) (part_rows x)) at_code ∙ substituted_steps es c.in-Substitute.inner c.in-Substitute.outer code h.coded ∙ ap (λ (s : Series). steps_of s code) is)
    (c.substituted.ensures.is es)

pub returns-in-Modified-clause-term : goal.returns-in-Modified-clause-term
returns-in-Modified-clause-term c = λ code h.
    let es = c.args.book.now in let cs = c.args.trees.now.codes in let own = c.args.spot.now.series in
    let at_code : code_at cs c.args.spot.now.tree ≡ code = get_or_from_slice_get cs c.args.spot.now.tree code [] h.tree in
    let is = c.in-Modified.ensures.is in
    subst (λ ss. IsTermAt es cs ss c.args.place c.modified.result)
    (ap (λ (x : Code). single_step Add (at (series_at es c.in-Modified.of) x) ∷ map (part_step es (later None own)) (tail (part_rows x))) at_code ∙ modified_steps es own c.in-Modified.of code h.coded (sym is) ∙ ap (λ (s : Series). steps_of s code) is)
    (c.modified.ensures.is es)

pub returns-in-Modifying-clause-term : goal.returns-in-Modifying-clause-term
returns-in-Modifying-clause-term c = λ code h.
    let es = c.args.book.now in let cs = c.args.trees.now.codes in let own = c.args.spot.now.series in
    let at_code : code_at cs c.args.spot.now.tree ≡ code = get_or_from_slice_get cs c.args.spot.now.tree code [] h.tree in
    let is = c.in-Modifying.ensures.is in
    subst (λ ss. IsTermAt es cs ss c.args.place c.modifying.result)
    (ap (λ (x : Code). single_step Add (at (exact 1) x) ∷ (map (part_step es (later (Some c.in-Modifying.of) own)) (tail (part_rows x)) ++ single_step Divide (at (series_at es c.in-Modifying.of) (code_at cs c.args.spot.now.leaf)) ∷ [])) at_code ∙ ap (λ (y : Code). single_step Add (at (exact 1) code) ∷ (map (part_step es (later (Some c.in-Modifying.of) own)) (tail (part_rows code)) ++ single_step Divide (at (series_at es c.in-Modifying.of) y) ∷ [])) (get_or_from_slice_get cs c.args.spot.now.leaf leaf_code [] h.leaf) ∙ modifying_steps es own c.in-Modifying.of code h.coded (sym is) ∙ ap (λ (s : Series). steps_of s code) is)
    (c.modifying.ensures.is es)

pub returns-in-Scale-clause-term : goal.returns-in-Scale-clause-term
returns-in-Scale-clause-term c = λ code h.
    let es = c.args.book.now in let cs = c.args.trees.now.codes in let own = c.args.spot.now.series in
    let at_code : code_at cs c.args.spot.now.tree ≡ code = get_or_from_slice_get cs c.args.spot.now.tree code [] h.tree in
    let is = c.in-Scale.ensures.is in
    subst (λ ss. IsTermAt es cs ss c.args.place c.scaled.result)
    (ap (λ (x : Code). powers_step (series_at es c.in-Scale.of) c.in-Scale.by x ∷ []) at_code ∙ scaled_steps es c.in-Scale.of c.in-Scale.by code h.coded ∙ ap (λ (s : Series). steps_of s code) is)
    (c.scaled.ensures.is es)
