use Rattle.std.proofs.Common.{◌≡◌, List, ℕ, true, length, sym, ap, ap₂, ◌∙◌, subst}
use Rattle.bs_core.specs.Machine.{State, state_of, allowed}
use Rattle.bs_core.specs.Canonical.{Canonical}
use Rattle.bs_core.specs.declared.table.Table.{Table}
use Rattle.bs_core.specs.declared.table.Held.{Held}
use Rattle.bs_core.proofs.Moves.{kept_after, after_counts}
use Rattle.bs_core.proofs.machine.Core.step.Goals as goal

pub invariant_of-self-2 : goal.invariant_of-self-2
invariant_of-self-2 c =
    let e = c.args.event.now in
    let ts : List Table = c.self.inside.tables.items in
    let ls : List (List Held) = c.self.inside.hands.items in
    let g' = state_of c.apply.new.tables.items c.apply.new.hands.items in
    let n : c.self.inside.stripes ≡ length ts = c.self.invariant.1 in
    let may : allowed (length ts) e (state_of ts ls) ≡ true = ap (λ (m : ℕ). allowed m e (state_of ts ls)) (sym n) ∙ sym (ap₂ (λ (us : List Table) (ks : List (List Held)). allowed c.self.inside.stripes e (state_of us ks)) c.deref.ensures.value c.deref-2.ensures.value) ∙ sym c.in_ok-may.ensures ∙ c.if-not-may.false in
    let k = kept_after e ts ls g' c.known.ensures may c.in_ok-apply.ensures.ok c.self.invariant.2 in
    (c.self.invariant.0, n ∙ k.0, subst (λ (m : ℕ). Canonical m g') k.0 k.1)

pub returns-clause-canonical : goal.returns-clause-canonical
returns-clause-canonical c =
    let e = c.args.event.now in
    let ts : List Table = c.self.inside.tables.items in
    let ls : List (List Held) = c.self.inside.hands.items in
    let g' = state_of c.apply.new.tables.items c.apply.new.hands.items in
    let n : c.self.inside.stripes ≡ length ts = c.self.invariant.1 in
    let may : allowed (length ts) e (state_of ts ls) ≡ true = ap (λ (m : ℕ). allowed m e (state_of ts ls)) (sym n) ∙ sym (ap₂ (λ (us : List Table) (ks : List (List Held)). allowed c.self.inside.stripes e (state_of us ks)) c.deref.ensures.value c.deref-2.ensures.value) ∙ sym c.in_ok-may.ensures ∙ c.if-not-may.false in
    let k = kept_after e ts ls g' c.known.ensures may c.in_ok-apply.ensures.ok c.self.invariant.2 in
    subst (λ (g : State). Canonical (length g.tables) g') c.self.view_is k.1

pub returns-clause-stripes : goal.returns-clause-stripes
returns-clause-stripes c =
    let g' = state_of c.apply.new.tables.items c.apply.new.hands.items in
    (after_counts c.args.event.now c.self.inside.tables.items c.self.inside.hands.items c.args.self.now g' c.self.view_is c.in_ok-apply.ensures.ok).0

pub returns-clause-parties : goal.returns-clause-parties
returns-clause-parties c =
    let g' = state_of c.apply.new.tables.items c.apply.new.hands.items in
    (after_counts c.args.event.now c.self.inside.tables.items c.self.inside.hands.items c.args.self.now g' c.self.view_is c.in_ok-apply.ensures.ok).1
