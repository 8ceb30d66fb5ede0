use Rattle.std.proofs.Common.{◌≡◌, ◌∙◌, ◌++◌, ◌-◌, List, ℕ, take, length, ap}
use Rattle.std.proofs.lemmas.Result.{on_ok_weaker}
use Rattle.bs_catalog.specs.Shelf.{Code, Numbers}
use Rattle.bs_listing.proofs.TreeTexts.{text_of, without_bar}
use Rattle.bs_listing.proofs.texts.push_tree.Goals as goal

pub returns-clause-written : goal.returns-clause-written
returns-clause-written c =
    let cs = c.args.catalog.now.codes in
    let text = c.get.result.now in
    let out = c.args.out.now.items in
    let later = c.push_without_bar.new.out.items in
    on_ok_weaker c.push_without_bar.result
    (λ (e : later ≡ out ++ take (length text - 2) text) (code : Code) (is : Numbers cs c.args.number code). e
    ∙ ap (λ (t : List ℕ). out ++ t) (without_bar code text (text_of cs c.reach.new.texts c.args.number text code c.reach.ensures.texts c.in_ok-reach.ensures.reached c.get.ensures is)))
    c.push_without_bar.ensures.written
