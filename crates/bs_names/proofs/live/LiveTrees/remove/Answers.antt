use Rattle.std.proofs.Common.{◌∷◌, ◌∙◌, sym, subst, None}
use Rattle.std.specs.List.Sorted.{IsPermutation}
use Rattle.std.specs.Str.{bytes_eq}
use Rattle.std.proofs.lemmas.List.Sorted.{IsPermutation-map}
use Rattle.std.proofs.lemmas.Slice.Eq.{bytes_eq-Decides}
use Rattle.bs_names.specs.Names.{named, Sets}
use Rattle.bs_names.proofs.Listed.{taken_out}
use Rattle.bs_names.proofs.Names.{at-named, Sets-named, IfSome-in}
use Rattle.bs_names.proofs.live.LiveTrees.remove.Goals as goal

pub returns-clause-value : goal.returns-clause-value
returns-clause-value c = rw (← c.self.view_is) (c.swap_remove.ensures.value ∙ sym (at-named (λ k. k.items) c.args.name.now c.self.inside.trees.entries))

pub returns-clause-gone : goal.returns-clause-gone
returns-clause-gone c =
    let u = c.swap_remove.ensures.updates in
    subst (λ l. Sets l (named (λ k. k.items) c.swap_remove.new.self.entries) c.args.name.now None) c.self.view_is (Sets-named (λ k. k.items) c.args.name.now None c.self.inside.trees.entries c.swap_remove.new.self.entries u.3 u.1)

pub returns-clause-one_less : goal.returns-clause-one_less
returns-clause-one_less c = IfSome-in c.swap_remove.result _ (λ tree is.
    let out = taken_out (λ k. bytes_eq c.args.name.now k.items) c.self.inside.trees.entries tree (sym c.swap_remove.ensures.value ∙ is) in
    let entries = subst (λ l. IsPermutation ((out.0, tree) ∷ l) c.self.inside.trees.entries) (sym c.swap_remove.ensures.entries) out.2 in
    let pairs = IsPermutation-map (λ e. (e.0.items, e.1)) _ _ entries in
    let name = subst (λ l. IsPermutation ((l, tree) ∷ named (λ k. k.items) c.swap_remove.new.self.entries) (named (λ k. k.items) c.self.inside.trees.entries)) (sym ((bytes_eq-Decides c.args.name.now out.0.items).0 out.1)) pairs in
    subst (IsPermutation ((c.args.name.now, tree) ∷ named (λ k. k.items) c.swap_remove.new.self.entries)) c.self.view_is name)
