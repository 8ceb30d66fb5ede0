use Rattle.std.proofs.Common.{◌∷◌, [], ◌++◌, ◌≡◌, ◌∙◌, sym, ap, subst, Some, None, length}
use Rattle.std.specs.List.Sorted.{IsPermutation}
use Rattle.std.specs.Map.{lookup}
use Rattle.std.specs.Str.{bytes_eq}
use Rattle.std.proofs.Math.ListN.{length-append}
use Rattle.std.proofs.lemmas.List.Sorted.{IsPermutation-sym, IsPermutation-to_front}
use Rattle.indexmap.proofs.CallerLemmas.{insert_entry-new}
use Rattle.bs_names.specs.Names.{at, named, Sets}
use Rattle.bs_names.proofs.Listed.{named-append}
use Rattle.bs_names.proofs.Names.{at-named, Sets-named}
use Rattle.bs_names.proofs.live.LiveTrees.insert.Goals as goal

-- the name had no tree
free : (c : goal.In_ok-insert) → lookup (λ k. bytes_eq c.in_ok-stored.stored.items k.items) c.self.inside.trees.entries ≡ None
free c =
    let none = sym (at-named (λ k. k.items) c.args.name.now c.self.inside.trees.entries) ∙ ap (at c.args.name.now) c.self.view_is ∙ c.requires.free in
    ap (λ name. lookup (λ k. bytes_eq name k.items) c.self.inside.trees.entries) c.in_ok-stored.ensures.items ∙ none

-- the new pair stands last
last : (c : goal.In_ok-insert) → named (λ k. k.items) c.insert.new.self.entries ≡ c.args.self.now ++ (c.args.name.now, c.args.tree) ∷ []
last c =
    let entries = c.in_ok-insert.ensures.entries ∙ insert_entry-new _ c.self.inside.trees c.in_ok-stored.stored c.args.tree (free c) in
    ap (named (λ k. k.items)) entries ∙ named-append (λ k. k.items) c.self.inside.trees.entries ((c.in_ok-stored.stored, c.args.tree) ∷ [])
    ∙ (λ j. c.self.view_is j ++ (c.in_ok-stored.ensures.items j, c.args.tree) ∷ [])

pub returns-clause-ok : goal.returns-clause-ok
returns-clause-ok c =
    let u = c.in_ok-insert.ensures.updates in
    let sets = Sets-named (λ k. k.items) c.in_ok-stored.stored.items (Some c.args.tree) c.self.inside.trees.entries c.insert.new.self.entries u.3 u.1 in
    let named_so = subst (λ name. Sets (named (λ k. k.items) c.self.inside.trees.entries) (named (λ k. k.items) c.insert.new.self.entries) name (Some c.args.tree)) c.in_ok-stored.ensures.items sets in
    subst (λ l. Sets l (named (λ k. k.items) c.insert.new.self.entries) c.args.name.now (Some c.args.tree)) c.self.view_is named_so

pub returns-clause-len : goal.returns-clause-len
returns-clause-len c = ap length (last c) ∙ length-append c.args.self.now ((c.args.name.now, c.args.tree) ∷ [])

pub returns-clause-one_more : goal.returns-clause-one_more
returns-clause-one_more c =
    subst (IsPermutation ((c.args.name.now, c.args.tree) ∷ c.args.self.now)) (sym (last c)) (IsPermutation-sym _ _ (IsPermutation-to_front c.args.self.now (c.args.name.now, c.args.tree)))
