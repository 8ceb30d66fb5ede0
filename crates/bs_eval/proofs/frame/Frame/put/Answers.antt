use Rattle.std.proofs.Common.{◌≡◌, ◌<◌, length, arith, refl}
use Rattle.bs_eval.specs.Terms.{step_in, term_length}
use Rattle.bs_eval.specs.Frames.{steps_at}
use Rattle.bs_eval.proofs.Products.{none_case, put_on, awaited_within, awaited_before_end}
use Rattle.bs_eval.proofs.frame.Frame.put.Goals as goal

pub handed-value-requires : goal.handed-value-requires
handed-value-requires c = (length c.args.book.now, c.factor-factor.ensures.known (length c.args.book.now) (length c.args.trees.now.codes) c.in-Some.ensures.known)

pub returns-then-self-len-clause-on : goal.returns-then-self-len-clause-on
returns-then-self-len-clause-on c = λ tables p aw is on.
    let es = c.args.book.now in
    let cs = c.args.trees.now.codes in
    let f = c.args.self.now in
    put_on tables es cs f _ (step_in es cs c.in-Some.term) c.factor-factor.result p c.args.value c.handed-value.result c.extend.new.product (c.in-Some.ensures.term f.code c.requires.placed) (c.factor-factor.ensures.is es cs) aw is
    (c.handed-value.ensures tables es) c.extend.ensures refl on

pub returns-else-self-len-clause-stays : goal.returns-else-self-len-clause-stays
returns-else-self-len-clause-stays c =
    let es = c.args.book.now in
    let cs = c.args.trees.now.codes in
    let f = c.args.self.now in
    let l : f.known < term_length c.in-Some.term = awaited_within es cs f c.in-Some.term c.requires.waits.0 c.requires.waits.1 (c.in-Some.ensures.term f.code c.requires.placed) in
    absurd (omega (arith, l, c.len.ensures, c.if-self-len.false))

pub returns-in_default-clause-stays : goal.returns-in_default-clause-stays
returns-in_default-clause-stays c =
    let es = c.args.book.now in
    let f = c.args.self.now in
    let l : f.place < length (steps_at es f) = awaited_before_end es f c.requires.waits.0 c.requires.waits.1 in
    let m = none_case _ c.term_at.result (c.term_at.ensures.term f.code c.requires.placed) c.in_default.is in
    absurd (omega (arith, l, m))
