use Rattle.std.proofs.Common.{List, sym, subst}
use Rattle.bs_core.specs.declared.name.Name.{Name}
use Rattle.bs_store.specs.Walks.{Keeps}
use Rattle.bs_store.proofs.Keepings.{keeps_push}
use Rattle.bs_memo_rows.proofs.holder.Holder.intern.Goals as goal

pub invariant_of-self-2 : goal.invariant_of-self-2
invariant_of-self-2 g c = subst (λ (l : List Name). Keeps l c.intern.new.pass.held) (sym c.in_ok-push_back.ensures.items) (keeps_push _ c.in_ok-name.name c.args.code.now c.self.inside.pass.held c.intern.new.pass.held c.in_ok-name.ensures.ok c.self.invariant)
