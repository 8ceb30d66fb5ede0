use Rattle.std.proofs.Common.{◌≡◌, ℕ, List, ◌∙◌, sym, ap, subst}
use Rattle.std.specs.List.{AllByRecursion}
use Rattle.bs_enum.specs.AllTrees.{trees_up_to}
use Rattle.bs_series.specs.Series.{colours_of}
use Rattle.bs_series.specs.SeriesCode.{Code}
use Rattle.bs_series.specs.Expressions.{series_at}
use Rattle.bs_work.specs.Needed.{need_to_compare}
use Rattle.bs_work.specs.WorkNeeded.{AreBothWanted}
use Rattle.bs_work.proofs.Needed.{all_both_wanted}
use Rattle.bs_work.proofs.Jobs.{series-over}
use Rattle.bs_work.proofs.work.Work.equal.Goals as goal

pub returns-clause-work : goal.returns-clause-work
returns-clause-work c =
    let es = c.args.book.now in
    let k = c.new.result.colours in
    let first = series-over es c.args.left k c.colours.result c.from-colours.result c.requires.left c.colours.ensures.value c.from-colours.ensures c.new.ensures.colours in
    let second = series-over es c.args.right k c.colours.result c.from-colours.result c.requires.right (c.colours.ensures.value ∙ c.requires.same_colours) c.from-colours.ensures c.new.ensures.colours in
    λ tables. c.job_of.ensures.sound tables es (c.in_ok-next.ensures.sound es first second)

pub returns-clause-needs : goal.returns-clause-needs
returns-clause-needs c =
    let es = c.args.book.now in
    let a = series_at es c.args.left in
    let ns = need_to_compare a (series_at es c.args.right) c.args.order in
    let left : c.new.result.left ≡ trees_up_to c.args.order (colours_of a) = c.new.ensures.left ∙ ap (λ (k : ℕ). trees_up_to c.args.order k) (c.from-colours.ensures ∙ c.colours.ensures.value) in
    c.job_of.ensures.needs es ns
    (c.in_ok-next.ensures.needs es ns (subst (λ (cs : List Code). AllByRecursion (AreBothWanted es ns c.args.left c.args.right) cs) (sym left) (all_both_wanted es c.args.left c.args.right (trees_up_to c.args.order (colours_of a)))))
