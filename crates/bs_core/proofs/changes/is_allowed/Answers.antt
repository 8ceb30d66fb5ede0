use Rattle.std.proofs.Common.{◌≡◌, ◌<◌, ℕ, length, subst}
use Rattle.bs_core.specs.Machine.{party_in, list_at}
use Rattle.bs_core.proofs.Basics.{if_ok}
use Rattle.bs_core.proofs.Moves.{allowed_intern, allowed_held, list_here, table_here}
use lib.ListN.{get_or}
use Rattle.bs_core.proofs.changes.is_allowed.Goals as goal

pub returns-in-Intern : goal.returns-in-Intern
returns-in-Intern c =
    let e = c.args.event.now in
    let ts = c.args.tables.now in
    let hs = c.args.hands.now in
    let y = c.name-name.result in
    let lt : y.stripe < length ts = subst (λ (n : ℕ). n < length ts) c.from-stripe.ensures c.if-stripe-tables.false in
    let l = c.index-hands-party.result in
    let here : l ≡ list_at (party_in e) hs = list_here (party_in e) hs l c.requires.parties.0 (subst (λ (n : ℕ). l ≡ get_or hs n l) c.party.ensures c.index-hands-party.is) in
    let t = c.index-tables-stripe.result in
    if_ok c.may_intern.result _ _ (λ may h. allowed_intern c.args.stripes c.in-Intern.party c.in-Intern.code c.in-Intern.name y ts hs l t e may c.in-Intern.is c.requires.parties c.name-name.ensures lt here
    (table_here c.from-stripe.result y.stripe ts t c.from-stripe.ensures lt c.index-tables-stripe.is) h) c.may_intern.ensures

pub returns-in_default : goal.returns-in_default
returns-in_default c =
    let e = c.args.event.now in
    let ts = c.args.tables.now in
    let hs = c.args.hands.now in
    let y = c.name-name.result in
    let lt : y.stripe < length ts = subst (λ (n : ℕ). n < length ts) c.from-stripe.ensures c.if-stripe-tables.false in
    let l = c.index-hands-party.result in
    let here : l ≡ list_at (party_in e) hs = list_here (party_in e) hs l c.requires.parties.0 (subst (λ (n : ℕ). l ≡ get_or hs n l) c.party.ensures c.index-hands-party.is) in
    allowed_held c.args.stripes y ts hs l e c.has.result c.in_default.not-Intern c.requires.parties c.name-name.ensures lt here c.has.ensures
