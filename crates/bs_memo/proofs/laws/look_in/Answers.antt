use Rattle.std.proofs.Common.{◌≡◌, ◌≤◌, ◌∙◌, List, length, sym, ap, subst, Option, Some, None}
use Rattle.std.specs.Map.{lookup}
use Rattle.lru.specs.LruCache.{LruCache, promoted}
use Rattle.bs_frac.specs.declared.coef.Coef.{Coef}
use Rattle.bs_store.specs.Seats.{OfPass}
use Rattle.bs_memo.specs.Keys.{OfKey, same_key}
use Rattle.bs_memo.specs.Entries.{Fits}
use Rattle.bs_memo.specs.Stripes.{OfStripe, with_entries}
use Rattle.bs_memo.proofs.Taking.{Entry, fits_promoted, promoted_none, promoted_long, some_right}
use Rattle.bs_memo.proofs.laws.look_in.Goals as goal

pub returns-in_default-clause-stripe : goal.returns-in_default-clause-stripe
returns-in_default-clause-stripe g c =
    let k = c.args.key.now in
    let missing : lookup (same_key k) c.stripe.inside.cache.entries ≡ None = sym (c.copied.ensures ∙ c.peek.ensures) ∙ c.in_default.is in
    let here = subst (λ (m : OfStripe). lookup (same_key k) m.entries ≡ None) c.stripe.view_is missing in
    sym (ap (with_entries c.args.stripe.now) (promoted_none (same_key k) c.args.stripe.now.entries here))

pub invariant_of-stripe : goal.invariant_of-stripe
invariant_of-stripe g c =
    let i = c.stripe.invariant in
    let same = c.meet.ensures.same.1 in
    let test = same_key c.args.key.now in
    let new = c.bring_to_front.ensures in (
      ap (λ (p : OfPass). p.store) same ∙ i.0,
      ap (λ (l : LruCache OfKey Coef). l.cap) new ∙ i.1,
      subst (λ (l : LruCache OfKey Coef). length l.entries ≤ c.stripe.inside.capacity) (sym new) (promoted_long test c.stripe.inside.cache.entries c.stripe.inside.capacity i.2),
      subst (λ (p : OfPass). Fits g.N.MemoName.tables p.held c.bring_to_front.new.cache.entries) (sym same)
          (subst (λ (l : LruCache OfKey Coef). Fits g.N.MemoName.tables c.stripe.inside.pass.held l.entries) (sym new) (fits_promoted g.N.MemoName.tables test c.stripe.inside.pass.held c.stripe.inside.cache.entries i.3)),
    )

pub returns-clause-value : goal.returns-clause-value
returns-clause-value g c = some_right g.N.MemoName.tables c.args.key.now c.stripe.inside.pass.held c.args.pass.now.held c.stripe.inside.cache.entries c.in-Some.coef c.stripe.invariant.3 (sym (c.copied.ensures ∙ c.peek.ensures) ∙ c.in-Some.is) c.requires.held c.meet.ensures.codes
