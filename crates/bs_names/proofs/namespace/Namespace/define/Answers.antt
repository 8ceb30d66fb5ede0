use Rattle.std.proofs.Common.{◌<◌, ◌≡◌, ◌∙◌, List, ℕ, length, Some, None, ap, sym, subst}
use Rattle.std.specs.Map.{lookup}
use Rattle.std.specs.Str.{bytes_eq}
use Rattle.indexmap.proofs.CallerLemmas.{insert_entry-new}
use Rattle.bs_series.specs.Expressions.{series_at}
use Rattle.bs_names.specs.Names.{at, named, Sets}
use Rattle.bs_names.specs.Space.{Space, AreIn, meant}
use Rattle.bs_names.proofs.Names.{Sets-named}
use Rattle.bs_names.proofs.Meant.{AreIn-more, not_found, Sets-meant}
use Rattle.bs_names.proofs.namespace.Namespace.define.Goals as goal

-- the name had no series
free : (c : goal.In_ok-insert) → lookup (λ k. bytes_eq c.in_ok-stored.stored.items k.items) c.self.inside.series.entries ≡ None
free c =
    let none = subst (λ (s : Space). at c.args.name.now s.series ≡ None) (sym c.self.view_is) c.requires.free in
    ap (λ (name : List ℕ). lookup (λ k. bytes_eq name k.items) c.self.inside.series.entries) c.in_ok-stored.ensures.items
    ∙ not_found (λ k. k.items) c.self.inside.book c.args.name.now c.self.inside.series.entries none

pub invariant_of-self-2 : goal.invariant_of-self-2
invariant_of-self-2 c =
    let known : c.args.series < length c.self.inside.book = subst (λ (s : Space). c.args.series < length s.book) (sym c.self.view_is) c.requires.known in
    let entries = c.in_ok-insert.ensures.entries ∙ insert_entry-new _ c.self.inside.series c.in_ok-stored.stored c.args.series (free c) in
    subst (AreIn (length c.self.inside.book)) (sym entries) (AreIn-more (length c.self.inside.book) c.self.inside.series.entries (c.in_ok-stored.stored, c.args.series) c.self.invariant known)

pub returns-clause-ok : goal.returns-clause-ok
returns-clause-ok c =
    let u = c.in_ok-insert.ensures.updates in
    let bare = Sets-named (λ k. k.items) c.in_ok-stored.stored.items (Some c.args.series) c.self.inside.series.entries c.insert.new.self.entries u.3 u.1 in
    let sets = subst (λ name. Sets (named (λ k. k.items) c.self.inside.series.entries) (named (λ k. k.items) c.insert.new.self.entries) name (Some c.args.series)) c.in_ok-stored.ensures.items bare in
    let meaning = Sets-meant (λ k. k.items) c.self.inside.book c.args.name.now c.args.series c.self.inside.series.entries c.insert.new.self.entries sets in
    subst (λ (s : Space). Sets s.series (meant (λ k. k.items) c.self.inside.book c.insert.new.self.entries) c.args.name.now (Some (series_at s.book c.args.series))) c.self.view_is meaning
