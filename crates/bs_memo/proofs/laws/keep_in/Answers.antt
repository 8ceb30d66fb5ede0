use Rattle.std.proofs.Common.{◌≡◌, ◌<◌, ◌≤◌, ◌∙◌, List, length, sym, ap, subst, arith}
use Rattle.lru.specs.LruCache.{LruCache, lru_cache, put_entries}
use Rattle.bs_frac.specs.declared.coef.Coef.{Coef}
use Rattle.bs_core.specs.Machine.{times, code_at}
use Rattle.bs_core.specs.declared.name.Name.{Name}
use Rattle.bs_store.specs.Walks.{Same}
use Rattle.bs_memo.specs.Keys.{OfKey, same_key}
use Rattle.bs_memo.specs.Entries.{Fits}
use Rattle.bs_memo.specs.Stripes.{OfStripe}
use Rattle.bs_memo.proofs.Keeping.{Put, put_held, put_released, given_comes, back_again, once_more_held, keeps, put_long, back_to, come_held, fits_same}
use Rattle.bs_memo.proofs.laws.keep_in.Goals as goal

pub give-requires-clause-held : goal.give-requires-clause-held
give-requires-clause-held g c = once_more_held c.name-name.result c.args.pass.now.held c.hold.new.pass.held c.hold.ensures.held

pub release_gone-requires-clause-held : goal.release_gone-requires-clause-held
release_gone-requires-clause-held g c =
    let own = c.args.pass.now.held in
    let held = c.stripe.inside.pass.held in
    let n = c.name-name.result in
    let k = c.in_ok-copy.copy in
    let room = c.stripe.inside.cache.cap in
    let es = c.stripe.inside.cache.entries in
    let now = put_entries same_key (lru_cache es room) k c.args.coef in
    let put : Put g.N.MemoName.tables c.give.new.to.held now c.in-Ok.gone = keeps g.N.MemoName.tables c.args.key.now k n c.args.coef room es own c.hold.new.pass.held held c.give.new.to.held c.in-Ok.gone c.in_ok-copy.ensures c.name-name.ensures c.requires.held c.hold.ensures.held c.give.ensures.to.0 c.requires.value c.len-entries.ensures.valid.1 c.len-entries.ensures.valid.2 c.stripe.invariant.3 c.in-Ok.ensures.gone in
    put_held g.N.MemoName.tables c.give.new.to.held now c.in-Ok.gone put

pub invariant_of-stripe : goal.invariant_of-stripe
invariant_of-stripe g c =
    let own = c.args.pass.now.held in
    let held = c.stripe.inside.pass.held in
    let n = c.name-name.result in
    let k = c.in_ok-copy.copy in
    let room = c.stripe.inside.cache.cap in
    let es = c.stripe.inside.cache.entries in
    let now = put_entries same_key (lru_cache es room) k c.args.coef in
    let put : Put g.N.MemoName.tables c.give.new.to.held now c.in-Ok.gone = keeps g.N.MemoName.tables c.args.key.now k n c.args.coef room es own c.hold.new.pass.held held c.give.new.to.held c.in-Ok.gone c.in_ok-copy.ensures c.name-name.ensures c.requires.held c.hold.ensures.held c.give.ensures.to.0 c.requires.value c.len-entries.ensures.valid.1 c.len-entries.ensures.valid.2 c.stripe.invariant.3 c.in-Ok.ensures.gone in
    let i = c.stripe.invariant in
    let new = c.in-Ok.ensures.entries in
    let full = put_long k c.args.coef room es c.len-entries.ensures.valid.1 c.len-entries.ensures.valid.2 in
    let long : length c.put_first.new.cache.entries ≤ room = subst (λ (l : LruCache OfKey Coef). length l.entries ≤ room) (sym new) full in
    let cap = i.1 in
    let some_room = c.if-stripe-eq0.false in (
      c.release_gone.ensures.same.0 ∙ c.give.ensures.same.1.0 ∙ i.0,
      ap (λ (l : LruCache OfKey Coef). l.cap) new ∙ i.1,
      omega arith,
      subst (λ (l : LruCache OfKey Coef). Fits g.N.MemoName.tables c.release_gone.new.pass.held l.entries) (sym new)
          (put_released g.N.MemoName.tables c.give.new.to.held c.release_gone.new.pass.held now c.in-Ok.gone put c.known.ensures.sound c.release_gone.ensures.pairs),
    )

pub returns-in-Ok-clause-pairs : goal.returns-in-Ok-clause-pairs
returns-in-Ok-clause-pairs g c =
    let own = c.args.pass.now.held in
    let n = c.name-name.result in
    back_again n own c.hold.new.pass.held c.give.new.from.held (subst (λ (x : Name). 0 < times x own) (sym c.name-name.ensures) c.requires.held) c.hold.ensures.held c.give.ensures.from.0

pub returns-in-Err-clause-pairs : goal.returns-in-Err-clause-pairs
returns-in-Err-clause-pairs g c =
    let own = c.args.pass.now.held in
    let n = c.name-name.result in
    back_again n own c.hold.new.pass.held c.give.new.from.held (subst (λ (x : Name). 0 < times x own) (sym c.name-name.ensures) c.requires.held) c.hold.ensures.held c.give.ensures.from.0

pub release-requires-clause-held : goal.release-requires-clause-held
release-requires-clause-held g c =
    let own = c.args.pass.now.held in
    let held = c.stripe.inside.pass.held in
    let n = c.name-name.result in
    come_held n (code_at n own) held c.give.new.to.held (given_comes n own c.hold.new.pass.held held c.give.new.to.held (subst (λ (x : Name). 0 < times x own) (sym c.name-name.ensures) c.requires.held) c.hold.ensures.held c.give.ensures.to.0)

pub invariant_of-stripe-in-Err : goal.invariant_of-stripe-in-Err
invariant_of-stripe-in-Err g c =
    let own = c.args.pass.now.held in
    let held = c.stripe.inside.pass.held in
    let n = c.name-name.result in
    let i = c.stripe.invariant in
    let comes = given_comes n own c.hold.new.pass.held held c.give.new.to.held (subst (λ (x : Name). 0 < times x own) (sym c.name-name.ensures) c.requires.held) c.hold.ensures.held c.give.ensures.to.0 in
    let same = back_to n (code_at n own) held c.give.new.to.held c.release.new.pass.held comes c.known.ensures.sound c.release.ensures.held in
    let old = c.in-Err.ensures.err in (
      c.release.ensures.same.0 ∙ c.give.ensures.same.1.0 ∙ i.0,
      ap (λ (l : LruCache OfKey Coef). l.cap) old ∙ i.1,
      subst (λ (l : LruCache OfKey Coef). length l.entries ≤ c.stripe.inside.capacity) (sym old) i.2,
      subst (λ (l : LruCache OfKey Coef). Fits g.N.MemoName.tables c.release.new.pass.held l.entries) (sym old) (fits_same _ held c.release.new.pass.held c.stripe.inside.cache.entries same i.3),
    )

pub returns-in-Err-clause-err : goal.returns-in-Err-clause-err
returns-in-Err-clause-err g c =
    let own = c.args.pass.now.held in
    let held = c.stripe.inside.pass.held in
    let n = c.name-name.result in
    let comes = given_comes n own c.hold.new.pass.held held c.give.new.to.held (subst (λ (x : Name). 0 < times x own) (sym c.name-name.ensures) c.requires.held) c.hold.ensures.held c.give.ensures.to.0 in
    let same = back_to n (code_at n own) held c.give.new.to.held c.release.new.pass.held comes c.known.ensures.sound c.release.ensures.held in (
      ap (λ (l : LruCache OfKey Coef). l.entries) c.in-Err.ensures.err ∙ ap (λ (m : OfStripe). m.entries) c.stripe.view_is,
      subst (λ (m : OfStripe). Same m.pass.held c.release.new.pass.held) c.stripe.view_is same,
    )
