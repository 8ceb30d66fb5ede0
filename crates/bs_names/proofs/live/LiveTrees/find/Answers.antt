use Rattle.std.proofs.Common.{◌∙◌, sym}
use Rattle.bs_names.proofs.Names.{at-named}
use Rattle.bs_names.proofs.live.LiveTrees.find.Goals as goal

pub returns : goal.returns
returns c = rw (← c.self.view_is) (c.copied.ensures ∙ c.get.ensures.value ∙ sym (at-named (λ k. k.items) c.args.name.now c.self.inside.trees.entries))
