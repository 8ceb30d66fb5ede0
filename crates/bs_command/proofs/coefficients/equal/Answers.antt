use Rattle.std.proofs.Common.{◌≡◌, ◌≤◌, Ok, List, sym, ◌∙◌, ap, ap₂, subst}
use Rattle.bs_series.specs.Series.{Series, colours_of}
use Rattle.bs_series.specs.Expressions.{series_at}
use Rattle.bs_command.specs.Asked.{order_to, order_shared}
use Rattle.bs_work.specs.SeriesReplies.{equal_reply}
use Rattle.bs_work.specs.Needed.{need_to_compare}
use Rattle.bs_work.specs.WorkNeeded.{AreNeeded}
use Rattle.bs_work.specs.Works.{IsWork, whole_reply, work_left, turns_to_compare}
use Rattle.bs_order.specs.declared.TheConstants.{MAX_CONDITIONS}
use Rattle.bs_command.proofs.Begun.{equal-begins}
use Rattle.bs_command.proofs.coefficients.equal.Goals as goal

pub returns-in_ok-equal-in-Ok-clause-begins : goal.returns-in_ok-equal-in-Ok-clause-begins
returns-in_ok-equal-in-Ok-clause-begins c = λ tables.
    let space = c.args.names.now in
    let i = c.in-Some-Some.left in
    let j = c.in-Some-Some.right in
    let p = c.in-Ok.order in
    let w = c.equal.new.self in
    let done = c.in_ok-equal-in-Ok.ensures in
    let book : c.book-book.result.now ≡ space.book = c.book-book.ensures in
    let left : c.from.result ≡ colours_of (series_at space.book i) = c.from.ensures ∙ c.colours-colours.ensures.value ∙ ap (λ (es : List Series). colours_of (series_at es i)) book in
    let right : c.from-2.result ≡ colours_of (series_at space.book j) = c.from-2.ensures ∙ c.colours-others.ensures.value ∙ ap (λ (es : List Series). colours_of (series_at es j)) book in
    let order : order_shared MAX_CONDITIONS (colours_of (series_at space.book i)) (colours_of (series_at space.book j)) (order_to c.in-Some.order.now) ≡ Ok p =
    ap₂ (λ k l. order_shared MAX_CONDITIONS k l (order_to c.in-Some.order.now)) (sym left) (sym right) ∙ sym c.in-Ok.ensures.value in
    equal-begins tables space c.args.words w c.in-Some.left.now c.in-Some.right.now c.in-Some.order.now i j p c.in-Some.ensures c.in-Some-Some.ensures c.in-Some-Some.ensures' order
    (λ ts. subst (λ (es : List Series). whole_reply ts es w ≡ equal_reply ts (series_at es i) (series_at es j) p) book (done.reply ts))
    (λ ts. subst (λ (es : List Series). IsWork ts es w) book (done.work ts))
    (λ m. done.held space.book m)
    (subst (λ (es : List Series). work_left es w ≤ turns_to_compare (series_at es i) (series_at es j) p) book done.nearer)
    (subst (λ (es : List Series). AreNeeded es (need_to_compare (series_at es i) (series_at es j) p) w) book done.needs)
