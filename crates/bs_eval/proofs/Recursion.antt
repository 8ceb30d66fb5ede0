-- The calls for a value are two, and those for the factors of its plan.
use Rattle.std.proofs.Common.{◌≡◌, suc, ◌+◌, ◌*◌, List, [], ◌∷◌, ◌++◌, map, length, Option, Some, None, option_map, Bool, true, false, cond, arith, refl, ◌∙◌, ap, length-append, append_assoc}
use Rattle.std.specs.List.{flat_map}
use Rattle.std.proofs.lemmas.Grind.{flat_map-append}
use Rattle.std.proofs.lemmas.List.{map-append}
use Rattle.bs_frac.specs.Written.{Term, add, subtract}
use Rattle.bs_tree.specs.Tree.{Tree}
use Rattle.bs_tree.specs.Code.{tree_of}
use Rattle.bs_tree.specs.Canonical.{level_sequence}
use Rattle.bs_tree.specs.SubtreeLaws.{tree_of-level_sequence}
use Rattle.bs_series.specs.Series.{Series}
use Rattle.bs_series.specs.Plan.{Factor, fixed, at, turned, plan, plan_factors, term_map, term_factors, divisor_factors}
use Rattle.bs_series.specs.PlanItems.{is_looked_up, looked_up, needed}
use Rattle.bs_series.specs.SeriesCode.{Code, coded_factor, plan_at}
use Rattle.bs_series.proofs.Needs.{needed_law}
use Rattle.bs_eval.specs.Steps.{term_step, divisor_steps, plan_steps}
use Rattle.bs_eval.specs.Turns.{calls, series_calls, factor_calls, factors_calls, steps_calls}

abbrev needs : Series × Tree → List (Series × Tree)
needs p = needed p.0 p.1

pub factors_append : (fs gs : List (Factor Code)) → factors_calls (fs ++ gs) ≡ factors_calls fs + factors_calls gs
factors_append [] gs = omega arith
factors_append (f ∷ fs) gs = omega (arith, factors_append fs gs)

-- ---- of a factor
by_look : (s : Series) (t : Tree) (b : Bool) → cond b (2 * length (needed s t)) 0 ≡ 2 * length (flat_map needs (cond b ((s, t) ∷ []) []))
by_look s t true = omega (arith, length-append (needed s t) [])
by_look s t false = refl

pair_coded : (s : Series) (t : Tree) → series_calls s (level_sequence t) ≡ 2 * length (flat_map needs (cond (is_looked_up s) ((s, t) ∷ []) []))
pair_coded s t = ap (λ (u : Tree). cond (is_looked_up s) (2 * length (needed s u)) 0) (tree_of-level_sequence t) ∙ by_look s t (is_looked_up s)

factor_coded : (f : Factor Tree) → factor_calls (coded_factor f) ≡ 2 * length (flat_map needs (looked_up f))
factor_coded (fixed c) = refl
factor_coded (at s t) = pair_coded s t
factor_coded (turned s t) = pair_coded s t

factors_coded : (fs : List (Factor Tree)) → factors_calls (map coded_factor fs) ≡ 2 * length (flat_map needs (flat_map looked_up fs))
factors_coded [] = refl
factors_coded (f ∷ fs) =
    let e : length (flat_map needs (looked_up f ++ flat_map looked_up fs)) ≡ length (flat_map needs (looked_up f)) + length (flat_map needs (flat_map looked_up fs)) =
    ap length (flat_map-append needs (looked_up f) (flat_map looked_up fs)) ∙ length-append (flat_map needs (looked_up f)) (flat_map needs (flat_map looked_up fs)) in
    omega (arith, e, factor_coded f, factors_coded fs)

-- ---- of a plan
divisor_coded : (d : Option (Factor Tree)) → steps_calls (divisor_steps (option_map coded_factor d)) ≡ factors_calls (map coded_factor (divisor_factors d))
divisor_coded None = refl
divisor_coded (Some f) = omega arith

more : (fs gs : List (Factor Tree)) (ds : List (Factor Tree)) → factors_calls (map coded_factor ((fs ++ gs) ++ ds)) ≡ factors_calls (map coded_factor fs) + factors_calls (map coded_factor (gs ++ ds))
more fs gs ds =
    ap (λ (hs : List (Factor Tree)). factors_calls (map coded_factor hs)) (append_assoc fs gs ds)
    ∙ ap factors_calls (map-append coded_factor fs (gs ++ ds)) ∙ factors_append (map coded_factor fs) (map coded_factor (gs ++ ds))

terms_coded : (ts : List (Term (Factor Tree))) (d : Option (Factor Tree))
    → steps_calls (map term_step (map (term_map coded_factor) ts) ++ divisor_steps (option_map coded_factor d)) ≡ factors_calls (map coded_factor (flat_map term_factors ts ++ divisor_factors d))
terms_coded [] d = divisor_coded d
terms_coded (add fs ∷ ts) d = omega (arith, terms_coded ts d, more fs (flat_map term_factors ts) (divisor_factors d))
terms_coded (subtract fs ∷ ts) d = omega (arith, terms_coded ts d, more fs (flat_map term_factors ts) (divisor_factors d))

pub calls_plan : (s : Series) (code : Code) → calls s code ≡ suc (suc (steps_calls (plan_steps (plan_at s code))))
calls_plan s code =
    let t = tree_of code in
    let p = plan s t in
    let e : length (needed s t) ≡ suc (length (flat_map needs (flat_map looked_up (plan_factors p)))) = ap length (needed_law s t) in
    let f : steps_calls (plan_steps (plan_at s code)) ≡ 2 * length (flat_map needs (flat_map looked_up (plan_factors p))) = terms_coded p.terms p.divisor ∙ factors_coded (plan_factors p) in
    omega (arith, e, f)
