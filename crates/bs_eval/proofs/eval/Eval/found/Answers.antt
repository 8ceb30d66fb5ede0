use Rattle.std.proofs.Common.{◌∙◌, sym, ap}
use Rattle.bs_series.specs.SeriesCode.{written_at}
use Rattle.bs_series.specs.Expressions.{series_at}
use Rattle.bs_eval.proofs.Held.{code_is, number_within}
use Rattle.bs_eval.proofs.eval.Eval.found.Goals as goal

pub returns-clause-answers : goal.returns-clause-answers
returns-clause-answers g c = λ tables h stands v.
    let es = c.args.book.now in
    let p = c.args.pair.now in
    let cs = c.args.memory.now.trees.codes in
    c.hand.ensures.answers tables p (record {
      values =
          c.keep.ensures tables es cs h.values (record {
            series = c.requires.pair.in_book;
            tree = number_within cs c.args.tree p.code c.requires.number;
            value = v ∙ ap (written_at tables (series_at es p.series)) (sym (code_is cs c.args.tree p.code c.requires.number));
          });
    }) stands v
