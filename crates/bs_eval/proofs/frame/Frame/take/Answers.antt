use Rattle.std.proofs.Common.{◌+◌, ◌≤◌, IfSome, subst}
use Rattle.bs_eval.specs.Frames.{wanted_pair}
use Rattle.bs_eval.specs.Turns.{rest, pair_calls}
use Rattle.bs_eval.proofs.Falls.{put_left}
use Rattle.bs_eval.proofs.frame.Frame.take.Goals as goal

pub returns-clause-nearer : goal.returns-clause-nearer
returns-clause-nearer g c =
    let es = c.args.book.now in
    let cs = c.args.trees.now.codes in
    let f = c.args.self.now in
    subst (λ n. IfSome c.go_on.result (λ w. rest es c.go_on.new.self + pair_calls es (wanted_pair cs w) ≤ n)) (put_left es f c.put.new.self c.put.new.self.product c.put.ensures.stays) c.go_on.ensures.nearer
