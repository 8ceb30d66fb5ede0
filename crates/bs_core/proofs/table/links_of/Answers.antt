use Rattle.std.proofs.Common.{◌∙◌, ap, sym, subst, ℕ, List, ◌++◌, append-nil, ◌≤◌}
use Rattle.bs_tree.specs.Code.{child_codes}
use Rattle.bs_core.specs.declared.table.Held.{Held}
use Rattle.bs_core.specs.Machine.{linked}
use Rattle.bs_core.proofs.Places.{linked_more, linked_past}
use Rattle.bs_core.proofs.table.links_of.Goals as goal

pub returns-then-place-arity : goal.returns-then-place-arity
returns-then-place-arity c =
    let xs = c.args.names.now in
    let cs = child_codes c.args.code.now in
    sym (append-nil c.links.pairs.items)
    ∙ ap (λ (ks : List Held). c.links.pairs.items ++ ks) (sym (linked_past xs cs c.links.place (subst (λ (n : ℕ). n ≤ c.links.place) c.links.invariant.0 c.if-place-arity.true)))
    ∙ c.links.invariant.2

pub links-preserved : goal.links-preserved
links-preserved c = (
  c.links.invariant.0,
  c.links.invariant.1,
  linked_more c.links.place c.args.names.now (child_codes c.args.code.now) _ c.child-child.result c.links.pairs.items c.push.new.self.items (linked c.args.names.now (child_codes c.args.code.now)) c.links-test.true c.child-child.ensures.value c.links.invariant.2 c.in_ok-push.ensures.items,
)
