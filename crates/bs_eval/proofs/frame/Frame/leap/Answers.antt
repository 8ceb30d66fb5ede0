use Rattle.std.proofs.Common.{◌≡◌, arith}
use Rattle.bs_eval.proofs.Leaps.{frame_counted, frame_ahead, frame_on}
use Rattle.bs_eval.proofs.frame.Frame.leap.Goals as goal

pub returns-clause-counted : goal.returns-clause-counted
returns-clause-counted g c =
    let f = c.args.self.now in
    let first : f.place ≡ 1 = c.if-self-ne1.false in
    let n = frame_counted c.args.book.now c.args.trees.now.codes f c.in-Some.leap (c.in-Some.ensures.leap f.code c.requires.placed) c.count-count.result c.count-count.ensures first in
    omega (arith, c.tick_many.ensures, n)

pub returns-clause-nearer : goal.returns-clause-nearer
returns-clause-nearer g c =
    let f = c.args.self.now in
    let first : f.place ≡ 1 = c.if-self-ne1.false in
    frame_ahead c.args.book.now c.args.trees.now.codes f c.in-Some.leap (c.in-Some.ensures.leap f.code c.requires.placed) c.count-count.result c.count-count.ensures first c.in-Some-sum.sum c.one-self.result c.requires.fresh

pub returns-clause-on : goal.returns-clause-on
returns-clause-on g c = λ tables are on.
    let f = c.args.self.now in
    let first : f.place ≡ 1 = c.if-self-ne1.false in
    let leap = c.in-Some.ensures.leap f.code c.requires.placed in
    frame_on c.args.book.now c.args.trees.now.codes f c.in-Some.leap leap c.count-count.result c.count-count.ensures first tables c.in-Some-sum.sum c.one-self.result c.requires.fresh
    (c.in-Some-sum.ensures.sum tables _ leap are) c.one-self.ensures on
