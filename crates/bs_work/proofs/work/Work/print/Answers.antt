use Rattle.std.proofs.Common.{◌≡◌, ℕ, List, ◌∙◌, sym, ap, subst}
use Rattle.std.specs.List.{AllByRecursion}
use Rattle.bs_enum.specs.AllTrees.{trees_up_to}
use Rattle.bs_series.specs.Series.{colours_of}
use Rattle.bs_series.specs.SeriesCode.{Code}
use Rattle.bs_series.specs.Expressions.{series_at}
use Rattle.bs_work.specs.Needed.{need_to_print}
use Rattle.bs_work.specs.WorkNeeded.{IsWanted}
use Rattle.bs_work.proofs.Needed.{all_wanted}
use Rattle.bs_work.proofs.Jobs.{series-over}
use Rattle.bs_work.proofs.work.Work.print.Goals as goal

pub returns-clause-work : goal.returns-clause-work
returns-clause-work c =
    let es = c.args.book.now in
    let over = series-over es c.args.series c.new.result.colours c.colours.result c.from-colours.result c.requires.known c.colours.ensures.value c.from-colours.ensures c.new.ensures.colours in
    λ tables. c.job_of.ensures.sound tables es (c.printing-next.ensures.sound es over)

pub returns-clause-needs : goal.returns-clause-needs
returns-clause-needs c =
    let es = c.args.book.now in
    let id = c.args.series in
    let s = series_at es id in
    let ns = need_to_print s c.args.order in
    let left : c.new.result.left ≡ trees_up_to c.args.order (colours_of s) = c.new.ensures.left ∙ ap (λ (k : ℕ). trees_up_to c.args.order k) (c.from-colours.ensures ∙ c.colours.ensures.value) in
    c.job_of.ensures.needs es ns
    (c.printing-next.ensures.needs es ns (subst (λ (cs : List Code). AllByRecursion (IsWanted es ns id) cs) (sym left) (all_wanted es id (trees_up_to c.args.order (colours_of s)))))
