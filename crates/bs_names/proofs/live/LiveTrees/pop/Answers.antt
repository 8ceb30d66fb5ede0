use Rattle.std.proofs.Common.{◌∷◌, [], ◌++◌, ◌≡◌, ◌∙◌, sym, ap, subst, Some, None, length, refl}
use Rattle.std.specs.List.Sorted.{IsPermutation}
use Rattle.std.specs.Str.{bytes_eq}
use Rattle.std.proofs.Math.ListN.{length-append}
use Rattle.std.proofs.lemmas.List.Sorted.{IsPermutation-sym, IsPermutation-to_front}
use Rattle.std.proofs.lemmas.Slice.Eq.{bytes_eq-Decides}
use Rattle.bs_names.specs.Names.{at, named, Sets}
use Rattle.bs_names.proofs.Listed.{named-append}
use Rattle.bs_names.proofs.Names.{at-named, Sets-named, lookup-last}
use Rattle.bs_names.proofs.live.LiveTrees.pop.Goals as goal

-- the pair stood last
last : (c : goal.After-drop-branch) → c.args.self.now ≡ named (λ k. k.items) c.pop.new.self.entries ++ (c.in_ok-tree.field-0-0.items, c.in_ok-tree.tree) ∷ []
last c = sym c.self.view_is ∙ ap (named (λ k. k.items)) c.in_ok-tree.ensures.entries ∙ named-append (λ k. k.items) c.pop.new.self.entries ((c.in_ok-tree.field-0-0, c.in_ok-tree.tree) ∷ [])

stood : (c : goal.After-drop-branch) → at c.in_ok-tree.field-0-0.items c.args.self.now ≡ Some c.in_ok-tree.tree
stood c =
    let name = c.in_ok-tree.field-0-0.items in
    ap (at name) (sym c.self.view_is ∙ ap (named (λ k. k.items)) c.in_ok-tree.ensures.entries)
    ∙ at-named (λ k. k.items) name (c.pop.new.self.entries ++ (c.in_ok-tree.field-0-0, c.in_ok-tree.tree) ∷ [])
    ∙ lookup-last (λ k. bytes_eq name k.items) c.pop.new.self.entries (c.in_ok-tree.field-0-0, c.in_ok-tree.tree) c.in_ok-tree.ensures.updates.1 ((bytes_eq-Decides name name).1 refl)

gone : (c : goal.After-drop-branch) → Sets c.args.self.now (named (λ k. k.items) c.pop.new.self.entries) c.in_ok-tree.field-0-0.items None
gone c =
    let u = c.in_ok-tree.ensures.updates in
    subst (λ l. Sets l (named (λ k. k.items) c.pop.new.self.entries) c.in_ok-tree.field-0-0.items None) c.self.view_is (Sets-named (λ k. k.items) c.in_ok-tree.field-0-0.items None c.self.inside.trees.entries c.pop.new.self.entries u.3 u.1)

one_less : (c : goal.After-drop-branch) → IsPermutation ((c.in_ok-tree.field-0-0.items, c.in_ok-tree.tree) ∷ named (λ k. k.items) c.pop.new.self.entries) c.args.self.now
one_less c =
    subst (IsPermutation ((c.in_ok-tree.field-0-0.items, c.in_ok-tree.tree) ∷ named (λ k. k.items) c.pop.new.self.entries)) (sym (last c)) (IsPermutation-sym _ _ (IsPermutation-to_front (named (λ k. k.items) c.pop.new.self.entries) (c.in_ok-tree.field-0-0.items, c.in_ok-tree.tree)))

pub returns-clause-taken : goal.returns-clause-taken
returns-clause-taken c = (
  c.in_ok-tree.field-0-0.items,
  stood c,
  gone c,
  sym (ap length (last c) ∙ length-append (named (λ k. k.items) c.pop.new.self.entries) ((c.in_ok-tree.field-0-0.items, c.in_ok-tree.tree) ∷ [])),
  one_less c,
)
