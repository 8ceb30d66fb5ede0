use Rattle.std.proofs.Common.{◌≡◌, ◌∙◌, ap, sym, List}
use lib.ListN.{get_or}
use Rattle.bs_tree.specs.Code.{child_codes}
use Rattle.bs_core.specs.Machine.{linked, freed_by}
use Rattle.bs_core.specs.declared.name.Name.{Name}
use Rattle.bs_core.specs.declared.table.Entry.{Entry}
use Rattle.bs_core.proofs.Basics.{if_ok}
use Rattle.bs_core.proofs.Places.{found_same, freed_one, freed_none}
use Rattle.bs_core.proofs.table.Entries.freed_at.Goals as goal

pub returns-then-entry-eq1 : goal.returns-then-entry-eq1
returns-then-entry-eq1 c =
    let e = c.index-entry.result.now in
    if_ok c.links_of.result _ _ (λ pairs h d.
    let here : e ≡ get_or c.args.self.now c.args.place d = c.index-entry.ensures ∙ ap (λ (l : List Entry). get_or l c.args.place e) c.self.view_is ∙ found_same c.args.self.now c.args.place e d c.requires in
    h ∙ ap (λ (xs : List Name). linked xs (child_codes e.code)) c.as_slice.ensures ∙ sym (freed_one e c.if-entry-eq1.true) ∙ ap freed_by here) c.links_of.ensures

pub returns-else-entry-eq1 : goal.returns-else-entry-eq1
returns-else-entry-eq1 c = λ d.
    let e = c.index-entry.result.now in
    let here : e ≡ get_or c.args.self.now c.args.place d = c.index-entry.ensures ∙ ap (λ (l : List Entry). get_or l c.args.place e) c.self.view_is ∙ found_same c.args.self.now c.args.place e d c.requires in
    c.new.ensures.items ∙ sym (freed_none e c.if-entry-eq1.false) ∙ ap freed_by here
