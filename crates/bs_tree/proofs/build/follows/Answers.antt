use Rattle.std.proofs.Common.{◌∙◌, ◌+◌, sym, ap, drop, get_or}
use Rattle.std.proofs.lemmas.List.{drop_more}
use Rattle.bs_tree.specs.Code.{follows}
use Rattle.bs_tree.proofs.Reading.{follows_on, follows_not}
use Rattle.bs_tree.proofs.build.follows.Goals as goal

pub returns-then-not-may_follow : goal.returns-then-not-may_follow
returns-then-not-may_follow c =
    let ps = c.args.pairs.now in
    let i = c.pairs.pair-index in
    let e = ap (follows c.pairs.last) (drop_more ps i (0, 0) c.pairs-test.true) in
    sym (follows_not c.pairs.last (get_or ps i (0, 0)) (drop (i + 1) ps) (sym c.may_follow.ensures ∙ c.if-not-may_follow.true)) ∙ sym e ∙ c.pairs.invariant

pub pairs-preserved : goal.pairs-preserved
pairs-preserved c =
    let ps = c.args.pairs.now in
    let i = c.pairs.pair-index in
    let e = ap (follows c.pairs.last) (drop_more ps i (0, 0) c.pairs-test.true) in
    sym (follows_on c.pairs.last (get_or ps i (0, 0)) (drop (i + 1) ps) (sym c.may_follow.ensures ∙ c.if-not-may_follow.false)) ∙ sym e ∙ c.pairs.invariant
