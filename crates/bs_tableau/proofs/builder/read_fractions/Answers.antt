use Rattle.std.proofs.Common.{◌<◌, ◌∙◌, ap, length, arith}
use Rattle.std.proofs.Math.ListN.{length-set}
use Rattle.std.proofs.lemmas.Result.{err_from_is_err_and}
use Rattle.bs_tableau.proofs.Entries.{reading-starts, reading-more, reading-fails, reading-ends, reading-reduced}
use Rattle.bs_tableau.proofs.builder.read_fractions.Goals as goal

pub words-init : goal.words-init
words-init c = record { reading = reading-starts c.args.written c.zeros-row.result; places = c.zeros-row.ensures }

pub words-preserved : goal.words-preserved
words-preserved c =
    let h = c.words.invariant in
    let fits : c.words.filled < length c.words.row = omega (arith, h.places, h.reading.count, ap length c.in-Some.ensures, c.requires) in
    record {
      reading = reading-more c.args.written c.words.row c.words.filled c.words.written c.in-Some.word.now c.next.new.self c.in_ok-row.field-0 h.reading c.in-Some.ensures c.in_ok-row.ensures.value c.in_ok-row.ensures.reduced fits;
      places = length-set c.words.row c.words.filled c.in_ok-row.field-0 ∙ h.places;
    }

pub returns-in_err-row-clause-value : goal.returns-in_err-row-clause-value
returns-in_err-row-clause-value c =
    let p = err_from_is_err_and c.from_residual.result c.from_residual.ensures.1 in
    rw (p.1, p.2) (reading-fails c.args.written c.words.row c.words.filled c.words.written c.in-Some.word.now c.next.new.self c.in_err-row.field-0.0 c.words.invariant.reading c.in-Some.ensures c.in_err-row.ensures.value.0 c.in_err-row.ensures.value.1)

pub returns-clause-value : goal.returns-clause-value
returns-clause-value c = reading-ends c.args.written c.words.row c.words.filled c.words.written c.words.invariant.reading c.in_default.ensures

pub returns-clause-reduced : goal.returns-clause-reduced
returns-clause-reduced c = reading-reduced c.args.written c.words.row c.words.filled c.words.written c.words.invariant.reading c.in_default.ensures
