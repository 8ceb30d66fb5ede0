use Rattle.std.proofs.Common.{sym, ◌∙◌}
use Rattle.bs_tree.specs.Code.{root_colour}
use Rattle.bs_core.specs.Codes.{children}
use Rattle.bs_core.specs.Keys.{Key}
use Rattle.bs_store.proofs.Often.{all_within, sound_one}
use Rattle.bs_store.proofs.Interning.{intern_needs, intern_turns}
use Rattle.bs_store.proofs.walk.intern_node.Goals as goal

pub intern_one-requires-clause-children : goal.intern_one-requires-clause-children
intern_one-requires-clause-children g c =
    let l = (g.W.NodeSteps.seen c.args.pass.now).held in
    (all_within c.args.names.items (children c.args.code.now) l c.requires.all (sound_one l c.known.ensures) c.requires.within).0

pub intern_one-requires-clause-key : goal.intern_one-requires-clause-key
intern_one-requires-clause-key g c =
    let l = (g.W.NodeSteps.seen c.args.pass.now).held in
    let r = all_within c.args.names.items (children c.args.code.now) l c.requires.all (sound_one l c.known.ensures) c.requires.within in
    c.in-Ok.ensures ∙ (λ j. let k : Key = record { colour = root_colour c.args.code.now; children = (c.as_slice.ensures.value ∙ sym r.1) j } in k)

pub finish-requires-clause-needs : goal.finish-requires-clause-needs
finish-requires-clause-needs g c = intern_needs c.in-Ok-intern_one.interned.new c.args.code.now c.in-Ok-intern_one.interned.name c.args.names.items (g.W.NodeSteps.seen c.args.pass.now).held (g.W.NodeSteps.seen c.intern_one.new.pass).held c.requires.within c.in-Ok-intern_one.ensures.ok

pub returns-in-Ok-intern_one-clause-ok : goal.returns-in-Ok-intern_one-clause-ok
returns-in-Ok-intern_one-clause-ok g c =
    let l = (g.W.NodeSteps.seen c.args.pass.now).held in
    intern_turns c.in-Ok-intern_one.interned.new c.args.code.now c.in-Ok-intern_one.interned.name c.args.names.items l (g.W.NodeSteps.seen c.intern_one.new.pass).held (g.W.NodeSteps.seen c.finish.new.pass).held c.requires.all (sound_one l c.known.ensures) c.requires.within c.in-Ok-intern_one.ensures.ok c.finish.ensures.pairs
