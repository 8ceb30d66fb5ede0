use Rattle.std.proofs.Common.{◌≡◌, ◌-◌, List, length, take, sym, ◌∙◌, subst}
use Rattle.lru.specs.LruCache.{LruCache, last_entry}
use Rattle.bs_frac.specs.declared.coef.Coef.{Coef}
use Rattle.bs_core.specs.declared.name.Name.{Name}
use Rattle.bs_memo.specs.Keys.{OfKey}
use Rattle.bs_memo.specs.Entries.{Fits}
use Rattle.bs_memo.proofs.Keeping.{Over, over_held, released, last_over, nothing_held}
use Rattle.bs_memo.proofs.stripe.MemoStripe.emptied.Goals as goal

pub release-requires-clause-held : goal.release-requires-clause-held
release-requires-clause-held g c =
    let es = c.entries.cache.entries in
    let held = c.entries.pass.held in
    let left = take (length es - 1) es in
    let over = last_over g.N.MemoName.tables held es (c.in-Some.key, c.in-Some.field-0-1) c.entries.invariant.1 (sym c.in-Some.ensures.value) in
    over_held g.N.MemoName.tables c.name.result held left (subst (λ (x : Name). Over g.N.MemoName.tables x held left) (sym c.name.ensures) over)

pub entries-preserved : goal.entries-preserved
entries-preserved g c =
    let es = c.entries.cache.entries in
    let held = c.entries.pass.held in
    let left = take (length es - 1) es in
    let over = last_over g.N.MemoName.tables held es (c.in-Some.key, c.in-Some.field-0-1) c.entries.invariant.1 (sym c.in-Some.ensures.value) in
    let named = subst (λ (x : Name). Over g.N.MemoName.tables x held left) (sym c.name.ensures) over in (
      c.release.ensures.same.0 ∙ c.entries.invariant.0,
      subst (λ (l : LruCache OfKey Coef). Fits g.N.MemoName.tables c.release.new.pass.held l.entries) (sym c.pop_lru.ensures.entries)
          (released g.N.MemoName.tables c.name.result held c.release.new.pass.held left named c.known.ensures.sound c.release.ensures.held),
    )

pub returns : goal.returns
returns g c =
    let i = c.entries.invariant in
    (i.0, nothing_held g.N.MemoName.tables c.entries.pass.held c.entries.cache.entries i.1 (sym c.pop_lru.ensures.value ∙ c.in_default.is))
