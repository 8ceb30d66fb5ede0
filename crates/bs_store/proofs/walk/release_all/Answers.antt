use Rattle.std.proofs.Common.{◌≡◌, ◌<◌, [], ◌∷◌, ◌++◌, length, List, sym, ◌∙◌, subst, refl, arith, length-append, true, false}
use Rattle.bs_tree.specs.Code.{IsCode}
use Rattle.bs_core.specs.Machine.{code_at, pair}
use Rattle.bs_core.specs.declared.name.Name.{Name}
use Rattle.bs_core.specs.declared.table.Held.{Held}
use Rattle.bs_core.proofs.Pairs.{code_of}
use Rattle.bs_store.specs.Walks.{Walks, children_of}
use Rattle.bs_store.proofs.Often.{first_often}
use Rattle.bs_store.proofs.Releasing.{walk_begins, held_one, walk_step, walk_fits, walk_ends, release_smaller}
use Rattle.bs_store.proofs.walk.release_all.Goals as goal

pub walk-init : goal.walk-init
walk-init g c =
    let old = (g.W.NodeSteps.seen c.args.pass.now).held in
    let n = c.args.name in
    let start = walk_begins n old c.known.ensures c.requires.held in
    let first : Walks (pair n (code_at n old)) old old (c.new-pending.result.items ++ n ∷ []) = subst (λ (l : List Name). Walks (pair n (code_at n old)) old old (l ++ n ∷ [])) (sym c.new-pending.ensures) start in
    record {
      walks = subst (Walks (pair n (code_at n old)) old old) (sym c.push.ensures.items) first;
      same = (refl, refl);
      gains = refl;
    }

pub release_one-lowered-requires-clause-held : goal.release_one-lowered-requires-clause-held
release_one-lowered-requires-clause-held g c =
    let old = (g.W.NodeSteps.seen c.args.pass.now).held in
    let n = c.args.name in
    let p = pair n (code_at n old) in
    held_one p old (g.W.NodeSteps.seen c.walk.pass).held c.pop.new.self.items c.in-Some.next (first_often n old c.requires.held) (subst (Walks p old (g.W.NodeSteps.seen c.walk.pass).held) c.in-Some.ensures.items c.walk.invariant.walks)

pub push_links-requires : goal.push_links-requires
push_links-requires g c =
    let old = (g.W.NodeSteps.seen c.args.pass.now).held in
    let held = (g.W.NodeSteps.seen c.walk.pass).held in
    let held' = (g.W.NodeSteps.seen c.release_one-lowered.new.pass).held in
    let n = c.args.name in
    let p = pair n (code_at n old) in
    let x = c.in-Some.next in
    let xs = c.pop.new.self.items in
    let w = subst (Walks p old held) c.in-Some.ensures.items c.walk.invariant.walks in
    let s = walk_step c.release_one-lowered.result p old held held' xs x c.known-in-Some.ensures c.known-in-Some-2.ensures (first_often n old c.requires.held) w c.release_one-lowered.ensures.pairs in
    let f = walk_fits p old held' (xs ++ children_of c.release_one-lowered.result) s in
    let l = length-append xs (children_of c.release_one-lowered.result) in
    let small = (code_of (λ (q : Held). IsCode q.code) n old c.requires.held c.known.ensures.codes).small in
    omega arith

pub walk-preserved : goal.walk-preserved
walk-preserved g c =
    let old = (g.W.NodeSteps.seen c.args.pass.now).held in
    let held = (g.W.NodeSteps.seen c.walk.pass).held in
    let held' = (g.W.NodeSteps.seen c.release_one-lowered.new.pass).held in
    let n = c.args.name in
    let p = pair n (code_at n old) in
    let x = c.in-Some.next in
    let xs = c.pop.new.self.items in
    let w = subst (Walks p old held) c.in-Some.ensures.items c.walk.invariant.walks in
    let s = walk_step c.release_one-lowered.result p old held held' xs x c.known-in-Some.ensures c.known-in-Some-2.ensures (first_often n old c.requires.held) w c.release_one-lowered.ensures.pairs in
    record {
      walks = subst (Walks p old held') (sym c.push_links.ensures) s;
      same = (c.release_one-lowered.ensures.same.0 ∙ c.walk.invariant.same.0, c.release_one-lowered.ensures.same.1 ∙ c.walk.invariant.same.1);
      gains = c.release_one-lowered.ensures.gains ∙ c.walk.invariant.gains;
    }

pub walk-smaller : goal.walk-smaller
walk-smaller g c =
    let old = (g.W.NodeSteps.seen c.args.pass.now).held in
    let held = (g.W.NodeSteps.seen c.walk.pass).held in
    let n = c.args.name in
    let p = pair n (code_at n old) in
    let here = held_one p old held c.pop.new.self.items c.in-Some.next (first_often n old c.requires.held) (subst (Walks p old held) c.in-Some.ensures.items c.walk.invariant.walks) in
    release_smaller c.release_one-lowered.result c.in-Some.next held (g.W.NodeSteps.seen c.release_one-lowered.new.pass).held c.known-in-Some.ensures here c.release_one-lowered.ensures.pairs

pub returns-clause-pairs : goal.returns-clause-pairs
returns-clause-pairs g c =
    let old = (g.W.NodeSteps.seen c.args.pass.now).held in
    let n = c.args.name in
    let e : c.walk.pending.items ≡ [] = empty c.walk.pending.items (c.in_default.ensures).variant.1 in
    walk_ends (pair n (code_at n old)) old (g.W.NodeSteps.seen c.walk.pass).held (subst (Walks (pair n (code_at n old)) old (g.W.NodeSteps.seen c.walk.pass).held) e c.walk.invariant.walks)
  where
    empty : (xs : List Name) → (0 < length xs → false ≡ true) → xs ≡ []
    empty [] h = refl
    empty (x ∷ xs) h = absurd (let r = h (omega arith) in cc)
