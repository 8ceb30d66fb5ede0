use Rattle.std.proofs.Common.{◌≡◌, ◌≤◌, suc, true, List, sym, ◌∙◌, ap, subst, arith}
use Rattle.bs_eval.specs.Turns.{turns}
use Rattle.bs_reply.specs.Lines.{coeff_line}
use Rattle.bs_series.specs.Series.{Series, colours_of}
use Rattle.bs_series.specs.SeriesCode.{written_at}
use Rattle.bs_series.specs.Expressions.{series_at}
use Rattle.bs_command.specs.Commands.{has_colours}
use Rattle.bs_work.specs.Needed.{need_at}
use Rattle.bs_work.specs.WorkNeeded.{AreNeeded}
use Rattle.bs_work.specs.Works.{IsWork, whole_reply, work_left}
use Rattle.bs_command.proofs.Begun.{coeff-begins}
use Rattle.bs_command.proofs.coefficients.coeff.Goals as goal

pub returns-clause-begins : goal.returns-clause-begins
returns-clause-begins c = λ tables.
    let space = c.args.names.now in
    let id = c.in-Some-Some.series in
    let tree = c.in-Some-Some.tree in
    let w = c.coeff.new.self in
    let book : c.book-book.result.now ≡ space.book = c.book-book.ensures in
    let colours : c.from.result ≡ colours_of (series_at space.book id) = c.from.ensures ∙ c.colours.ensures.value ∙ ap (λ (es : List Series). colours_of (series_at es id)) book in
    let coloured : has_colours (colours_of (series_at space.book id)) tree.code ≡ true = ap (λ n. has_colours n tree.code) (sym colours) ∙ sym c.has_colours.ensures.value ∙ c.if-not-has_colours.false in
    let n = c.order.ensures.value in
    coeff-begins tables space c.args.words w c.in-Some.series.now c.in-Some.tree.now id tree c.in-Some.ensures c.in-Some-Some.ensures (sym c.in-Some-Some.ensures') coloured
    (omega (arith, n, c.if-order-gt-MAX_COEFF_ORDER.false))
    (λ ts. subst (λ (es : List Series). whole_reply ts es w ≡ coeff_line (written_at ts (series_at es id) tree.code)) book (c.coeff.ensures.reply ts))
    (λ ts. subst (λ (es : List Series). IsWork ts es w) book (c.coeff.ensures.work ts))
    (λ m. c.coeff.ensures.held space.book m)
    (subst (λ (es : List Series). work_left es w ≤ suc (turns (series_at es id) tree.code)) book c.coeff.ensures.nearer)
    (subst (λ (es : List Series). AreNeeded es (need_at (series_at es id) tree.code) w) book c.coeff.ensures.needs)
