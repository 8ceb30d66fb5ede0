use Rattle.std.proofs.Common.{◌≡◌, ◌≤◌, Ok, List, sym, ◌∙◌, ap, subst}
use Rattle.bs_series.specs.Series.{Series, colours_of}
use Rattle.bs_series.specs.Expressions.{series_at}
use Rattle.bs_command.specs.Asked.{order_to, order_asked}
use Rattle.bs_work.specs.SeriesReplies.{print_reply}
use Rattle.bs_work.specs.Needed.{need_to_print}
use Rattle.bs_work.specs.WorkNeeded.{AreNeeded}
use Rattle.bs_work.specs.Works.{IsWork, whole_reply, work_left, turns_to_print}
use Rattle.bs_order.specs.declared.TheConstants.{MAX_CONDITIONS}
use Rattle.bs_command.proofs.Begun.{print-begins}
use Rattle.bs_command.proofs.coefficients.print.Goals as goal

pub returns-in_ok-print-in-Ok-clause-begins : goal.returns-in_ok-print-in-Ok-clause-begins
returns-in_ok-print-in-Ok-clause-begins c = λ tables.
    let space = c.args.names.now in
    let id = c.in-Some-series.series in
    let p = c.in-Ok.order in
    let w = c.print.new.self in
    let done = c.in_ok-print-in-Ok.ensures in
    let book : c.book-book.result.now ≡ space.book = c.book-book.ensures in
    let colours : c.from.result ≡ colours_of (series_at space.book id) = c.from.ensures ∙ c.colours.ensures.value ∙ ap (λ (es : List Series). colours_of (series_at es id)) book in
    let order : order_asked MAX_CONDITIONS (colours_of (series_at space.book id)) (order_to c.in-Some.order.now) ≡ Ok p =
    ap (λ k. order_asked MAX_CONDITIONS k (order_to c.in-Some.order.now)) (sym colours) ∙ sym c.in-Ok.ensures.value in
    print-begins tables space c.args.words w c.in-Some.series.now c.in-Some.order.now id p c.in-Some.ensures c.in-Some-series.ensures order
    (λ ts. subst (λ (es : List Series). whole_reply ts es w ≡ print_reply ts (series_at es id) p) book (done.reply ts))
    (λ ts. subst (λ (es : List Series). IsWork ts es w) book (done.work ts))
    (λ m. done.held space.book m)
    (subst (λ (es : List Series). work_left es w ≤ turns_to_print (series_at es id) p) book done.nearer)
    (subst (λ (es : List Series). AreNeeded es (need_to_print (series_at es id) p) w) book done.needs)
