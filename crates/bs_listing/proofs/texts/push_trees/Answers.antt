use Rattle.std.proofs.Common.{◌∙◌, ◌++◌, List, ℕ, get_or, ap, arith}
use Rattle.std.proofs.lemmas.List.{take_all}
use Rattle.std.proofs.lemmas.Option.{slice_get-get_or}
use Rattle.bs_reply.specs.Lines.{trees_text}
use Rattle.bs_catalog.specs.Shelf.{Code}
use Rattle.bs_listing.specs.Texts.{spaced}
use Rattle.bs_listing.proofs.Fronts.{item-more}
use Rattle.bs_listing.proofs.TreeTexts.{number_at, numbers_count}
use Rattle.bs_listing.proofs.texts.push_trees.Goals as goal

pub trees-preserved : goal.trees-preserved
trees-preserved c =
    let cs = c.args.catalog.now.codes in
    let row = c.args.row.now in
    let i = c.trees.number-index in
    let n : ℕ = get_or row i 0 in
    let out = c.args.out.now.items in
    record {
      texts = c.push_tree.ensures.texts;
      written = λ trees are.
          let at = number_at cs row trees i n are (slice_get-get_or row i 0 c.trees-test.true) in
          item-more spaced out c.trees.out.items c.push_tree.new.out.items trees i at.code at.is (c.trees.invariant.written trees are)
          (c.in_ok-push_tree.ensures.written at.code at.number);
    }

pub returns-clause-written : goal.returns-clause-written
returns-clause-written c = λ trees are.
    c.trees.invariant.written trees are
    ∙ ap (λ (codes : List Code). c.args.out.now.items ++ trees_text codes)
    (take_all c.trees.number-index trees (omega (arith, numbers_count c.args.catalog.now.codes c.args.row.now trees are)))
