use Rattle.std.proofs.Common.{◌∙◌, ◌<◌, sym, ap, subst}
use Rattle.bs_core.specs.Machine.{times, code_at}
use Rattle.bs_core.specs.declared.name.Name.{Name}
use Rattle.bs_series.specs.Expressions.{series_at}
use Rattle.bs_memo.specs.Keys.{OfKey}
use Rattle.bs_drive.specs.Shared.{Has}
use Rattle.bs_drive.proofs.Places.{has_times, has_code, has_more, has_same}
use Rattle.bs_drive.proofs.Values.{value_kept}
use Rattle.bs_drive.proofs.recall.remember.Goals as goal

pub keep-kept-requires-clause-held : goal.keep-kept-requires-clause-held
keep-kept-requires-clause-held g c =
    subst (λ (x : Name). 0 < times x c.intern.new.pass.held) (sym (ap (λ (k : OfKey). k.name) c.set_name.ensures))
    (has_times c.intern.new.pass.held c.in_ok-tree.tree (has_more c.args.pass.now.held c.intern.new.pass.held c.in_ok-tree.tree c.in_ok-tree.ensures.more))

pub keep-kept-requires-clause-value : goal.keep-kept-requires-clause-value
keep-kept-requires-clause-value g c =
    let held = c.intern.new.pass.held in
    let tree = c.in_ok-tree.tree in
    let has : Has held tree = has_more c.args.pass.now.held held tree c.in_ok-tree.ensures.more in
    value_kept c.keys_tell_series.ensures g.N.MemoName.tables (series_at c.args.book.now c.args.series) c.set_name.new.self.series (code_at c.set_name.new.self.name held) c.args.code.now c.args.coef
    c.requires.value c.new.ensures.keyed (sym (ap (λ (k : OfKey). k.series) c.set_name.ensures ∙ ap (λ (k : OfKey). k.series) c.in_ok-key.ensures.ok))
    (ap (λ (k : OfKey). code_at k.name held) c.set_name.ensures ∙ has_code held tree c.known.ensures.sound has ∙ c.in_ok-tree.ensures.code)

pub release-requires-clause-held : goal.release-requires-clause-held
release-requires-clause-held g c =
    has_same c.intern.new.pass.held c.keep-kept.new.pass.held c.in_ok-tree.tree c.keep-kept.ensures.pairs
    (has_more c.args.pass.now.held c.intern.new.pass.held c.in_ok-tree.tree c.in_ok-tree.ensures.more)
