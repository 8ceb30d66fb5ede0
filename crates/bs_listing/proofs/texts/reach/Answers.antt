use Rattle.std.proofs.Common.{◌∙◌, ℕ, length, subst}
use Rattle.bs_catalog.specs.Shelf.{Numbers}
use Rattle.bs_listing.proofs.TreeTexts.{holds_push}
use Rattle.bs_listing.proofs.texts.reach.Goals as goal

pub fill-preserved : goal.fill-preserved
fill-preserved c =
    let cs = c.args.catalog.now.codes in
    let code = c.code-code.result in
    let is : Numbers cs (length c.fill.texts) code = subst (λ (n : ℕ). Numbers cs n code) c.len-in-fill.ensures c.code-code.ensures in
    holds_push cs c.fill.texts c.push.new.self code c.deref.result.now c.fill.invariant is (c.deref.ensures.value ∙ c.in_ok-frame.ensures) c.in_ok-push.ensures.ok
