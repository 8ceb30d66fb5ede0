use Rattle.std.proofs.Common.{◌≡◌, ◌∙◌, ◌++◌, List, ℕ, map, drop, ap, sym, subst, arith}
use Rattle.std.proofs.lemmas.List.{take_all}
use Rattle.bs_reply.specs.Lines.{trees_text}
use Rattle.bs_catalog.specs.Shelf.{Code, AreNumbers}
use Rattle.bs_catalog.proofs.Shelving.{same_length}
use Rattle.bs_listing.proofs.BySide.{behind_text}
use Rattle.bs_listing.proofs.Fronts.{mapped-more}
use Rattle.bs_listing.proofs.TreeTexts.{row_at, numbers_drop}
use Rattle.bs_listing.proofs.sides.others_of.Goals as goal

pub rows-preserved : goal.rows-preserved
rows-preserved c =
    let cs = c.args.catalog.now.codes in
    let row = c.get.result.now in
    let count = c.args.count in
    let end = c.args.end.now in
    record {
      texts = c.push_trees.ensures.texts;
      are = λ lists are.
          let at = row_at cs c.args.rows.now lists c.rows.place row are c.get.ensures in
          let numbers : AreNumbers cs c.behind.result.now (drop count at.codes) =
          subst (λ (r : List ℕ). AreNumbers cs r (drop count at.codes)) (sym c.behind.ensures) (numbers_drop cs count row at.codes at.numbers) in
          let text : c.deref.result.now ≡ behind_text count end at.codes =
          c.deref.ensures.value ∙ c.in_ok-extend_from_slice.ensures.items
          ∙ ap (λ (t : List ℕ). t ++ end) (c.in_ok-push_trees.ensures.written (drop count at.codes) numbers ∙ ap (λ (t : List ℕ). t ++ trees_text (drop count at.codes)) c.clear.ensures.items) in
          mapped-more (behind_text count end) c.rows.others c.push.new.self lists c.rows.place at.codes c.deref.result.now at.is (c.rows.invariant.are lists are) c.in_ok-push.ensures.ok text;
    }

pub returns-clause-are : goal.returns-clause-are
returns-clause-are c = λ lists are.
    c.rows.invariant.are lists are
    ∙ ap (λ (xs : List (List Code)). map (behind_text c.args.count c.args.end.now) xs)
    (take_all c.rows.place lists (omega (arith, same_length c.args.catalog.now.codes c.args.rows.now lists are)))
