use Rattle.std.proofs.Common.{◌≡◌, ◌<◌, [], ◌∷◌, length, List, true, false, ◌∙◌, subst, refl, arith}
use Rattle.bs_core.specs.Codes.{children}
use Rattle.bs_core.specs.declared.name.Name.{Name}
use Rattle.bs_store.specs.Walks.{Undoing}
use Rattle.bs_store.proofs.Interning.{undo_begins, undo_step, undo_ends}
use Rattle.bs_store.proofs.walk.undo.Goals as goal

pub undo-init : goal.undo-init
undo-init g c = record { undoing = undo_begins (children c.args.code.now) c.args.names.items (g.W.NodeSteps.seen c.args.pass.now).held c.requires.few; same = (refl, refl); gains = refl }

pub release_all-requires-clause-held : goal.release_all-requires-clause-held
release_all-requires-clause-held g c =
    let ks = children c.args.code.now in
    let old = (g.W.NodeSteps.seen c.args.pass.now).held in
    let held = (g.W.NodeSteps.seen c.undo.pass).held in
    (undo_step ks c.args.names.items c.pop.new.self.items c.in-Some.name old held c.known.ensures c.requires.within (subst (λ (l : List Name). Undoing ks c.args.names.items l old held) c.in-Some.ensures.items c.undo.invariant.undoing)).0

pub undo-preserved : goal.undo-preserved
undo-preserved g c =
    let ks = children c.args.code.now in
    let old = (g.W.NodeSteps.seen c.args.pass.now).held in
    let held = (g.W.NodeSteps.seen c.undo.pass).held in
    let s = undo_step ks c.args.names.items c.pop.new.self.items c.in-Some.name old held c.known.ensures c.requires.within (subst (λ (l : List Name). Undoing ks c.args.names.items l old held) c.in-Some.ensures.items c.undo.invariant.undoing) in
    record {
      undoing = s.1 (g.W.NodeSteps.seen c.release_all.new.pass).held c.release_all.ensures.pairs;
      same = (c.release_all.ensures.same.0 ∙ c.undo.invariant.same.0, c.release_all.ensures.same.1 ∙ c.undo.invariant.same.1);
      gains = c.release_all.ensures.gains ∙ c.undo.invariant.gains;
    }

pub returns-clause-pairs : goal.returns-clause-pairs
returns-clause-pairs g c = undo_ends (children c.args.code.now) c.args.names.items c.undo.rest.items (g.W.NodeSteps.seen c.args.pass.now).held (g.W.NodeSteps.seen c.undo.pass).held (empty c.undo.rest.items (c.in_default.ensures).variant.1) c.undo.invariant.undoing
  where
    empty : (xs : List Name) → (0 < length xs → false ≡ true) → xs ≡ []
    empty [] h = refl
    empty (x ∷ xs) h = absurd (let r = h (omega arith) in cc)
