use Rattle.std.proofs.Common.{◌≡◌, ◌∙◌, sym, ap, List, [], ◌∷◌, ◌++◌, ℕ, subst, ◌≤◌, false}
use Rattle.std.specs.Prelude.{nat_lt}
use Rattle.std.specs.List.{position}
use Rattle.bs_tree.specs.Code.{child_codes, same_code}
use Rattle.bs_core.specs.Machine.{coded}
use Rattle.bs_core.specs.declared.name.Name.{Name}
use Rattle.bs_core.specs.declared.table.Held.{Held}
use Rattle.bs_core.proofs.Places.{found_at, not_found, by_code, CodeHit, taking_begins, taking_lacks, taking_more, taking_ends}
use Rattle.bs_core.proofs.hand.Hand.taken.Goals as goal

pub children-init : goal.children-init
children-init c = (c.arity-place-end.ensures.value, taking_begins (child_codes c.args.code.now) c.args.self.now c.new-names.result c.in_ok-rest.rest.items c.new-names.ensures (c.in_ok-rest.ensures.items ∙ c.deref.ensures.value ∙ c.self.view_is))

pub returns-in-None-clause-all : goal.returns-in-None-clause-all
returns-in-None-clause-all c =
    let cs = child_codes c.args.code.now in
    let rest = c.children.rest.items in
    let d = c.child-child.result in
    let at = sym (c.place_of_code.ensures ∙ ap (position (λ (p : Held). same_code d p.code)) c.deref-in-children.ensures.value) ∙ c.in-None.is in
    sym (taking_lacks c.children.place cs c.args.self.now c.children.names rest d c.children.invariant.1 c.child-child.ensures.value (not_found (λ (p : Held). same_code d p.code) rest (CodeHit d rest) (nat_lt 0 (coded d rest) ≡ false) (by_code d rest) at))

pub children-preserved : goal.children-preserved
children-preserved c =
    let cs = child_codes c.args.code.now in
    let rest = c.children.rest.items in
    let d = c.child-child.result in
    let r = c.remove-pair.result in
    let at = sym (c.place_of_code.ensures ∙ ap (position (λ (p : Held). same_code d p.code)) c.deref-in-children.ensures.value) ∙ c.in-Some.is in
    let f = found_at (λ (p : Held). same_code d p.code) rest (CodeHit d rest) (nat_lt 0 (coded d rest) ≡ false) c.in-Some.at (by_code d rest) at in (
      c.children.invariant.0,
      taking_more c.children.place c.in-Some.at cs c.args.self.now c.children.names rest d r c.push.new.self c.remove-pair.new.self.items c.children.invariant.1 c.child-child.ensures.value f.1
          (c.in_ok-push-in-Some.ensures.ok ∙ ap (λ (h : Held). let ys : List Name = c.children.names ++ h.name ∷ [] in ys) c.remove-pair.ensures.value) c.remove-pair.ensures.items,
    )

pub returns-clause-all : goal.returns-clause-all
returns-clause-all c = sym (taking_ends c.children.place (child_codes c.args.code.now) c.args.self.now c.children.names c.children.rest.items c.children.invariant.1 (subst (λ (n : ℕ). n ≤ c.children.place) c.children.invariant.0 c.children-test.false)).0

pub returns-clause-names : goal.returns-clause-names
returns-clause-names c = (taking_ends c.children.place (child_codes c.args.code.now) c.args.self.now c.children.names c.children.rest.items c.children.invariant.1 (subst (λ (n : ℕ). n ≤ c.children.place) c.children.invariant.0 c.children-test.false)).1

pub returns-clause-rest : goal.returns-clause-rest
returns-clause-rest c = (taking_ends c.children.place (child_codes c.args.code.now) c.args.self.now c.children.names c.children.rest.items c.children.invariant.1 (subst (λ (n : ℕ). n ≤ c.children.place) c.children.invariant.0 c.children-test.false)).2
