use Rattle.std.proofs.Common.{◌≡◌, ◌+◌, ◌<◌, List, length, refl, arith}
use Rattle.bs_tableau.specs.Table.{Table}
use Rattle.bs_series.specs.SeriesCode.{HasItsColours}
use Rattle.bs_eval.specs.Terms.{step_in, factor_in, term_length}
use Rattle.bs_eval.proofs.Products.{all_get, reached, product_next, same_but, factor_there}
use Rattle.bs_eval.proofs.frame.Frame.settle.Goals as goal
use Rattle.bs_eval.proofs.frame.Frame.settle.Goals.{in-Some, in-None+in-Some-settled}

pub settled-requires-clause-known : goal.settled-requires-clause-known
settled-requires-clause-known c = c.factor-factor.ensures.known (length c.args.book.now) (length c.args.trees.now.codes) c.requires.known

pub settled-requires-clause-fits : goal.settled-requires-clause-fits
settled-requires-clause-fits c =
    let es = c.args.book.now in
    let cs = c.args.trees.now.codes in
    all_get HasItsColours (step_in es cs c.args.term.now).factors c.factors.place (factor_in es cs c.factor-factor.result) c.requires.ready.fits (c.factor-factor.ensures.is es cs)

pub returns-in-None-settled-clause-reached : goal.returns-in-None-settled-clause-reached
returns-in-None-settled-clause-reached c =
    let es = c.args.book.now in
    let cs = c.args.trees.now.codes in
    rw c.factors.invariant.0 (reached es cs c.factor-factor.result (step_in es cs c.args.term.now).factors c.factors.place (term_length c.args.term.now) c.wanted.result c.wanted.ensures c.in-None-settled.ensures.awaited (c.factor-factor.ensures.is es cs))

pub factors-preserved : goal.factors-preserved
factors-preserved c =
    let es = c.args.book.now in
    let cs = c.args.trees.now.codes in
    let f = c.factors.self in
    let s = step_in es cs c.args.term.now in
    let v = c.factors.invariant in
    elim c.match-remembered.branch [
      | in-Some w ↦
          let t = factor_there es cs c.args.term.now c.factors.place (omega (arith, c.factors-test.true, c.len-place-end.ensures)) in
          rw (w.self-is, w.values-is) (
            refl,
            same_but f c.args.self.now (c.factors.place + 1) w.extend.new.product v.1,
            v.2,
            λ tables h p.
                product_next tables es f.product w.extend.new.product c.factors.place s t.0 w.in-Some.value.now c.requires.ready.divisor t.1
                (w.in-Some.ensures tables es cs t.0 (v.2 tables h) t.1) w.extend.ensures (rw (← v.0) (v.3 tables h p)),
          )
      | in-None+in-Some-settled w ↦
          rw (w.self-is, w.values-is) (
            refl,
            same_but f c.args.self.now (c.factors.place + 1) w.extend-in-Some-settled.new.product v.1,
            λ tables h. w.settled.ensures.values tables (v.2 tables h),
            λ tables h p.
                product_next tables es f.product w.extend-in-Some-settled.new.product c.factors.place s (factor_in es cs w.factor-factor.result) w.in-Some-settled.value c.requires.ready.divisor (w.factor-factor.ensures.is es cs)
                (w.in-Some-settled.ensures.value tables (v.2 tables h)) w.extend-in-Some-settled.ensures (rw (← v.0) (v.3 tables h p)),
          )
    ]
