use Rattle.std.proofs.Common.{◌++◌, ◌∙◌, ℕ, List, [], ◌∷◌, ap, subst, arith}
use Rattle.std.proofs.lemmas.Option.{slice_get_within}
use Rattle.std.proofs.lemmas.Result.{on_ok_weaker}
use Rattle.bs_tree.specs.Code.{IsCode}
use Rattle.bs_catalog.specs.Shelf.{Code, Numbers}
use Rattle.bs_listing.specs.Sides.{line_end}
use Rattle.bs_listing.proofs.Fronts.{front_on, on_ok_any}
use Rattle.bs_listing.proofs.Lines.{WritesPartLine}
use Rattle.bs_listing.proofs.Replies.{partition_reply_of, leaf_part_count, leaf_part_line}
use Rattle.bs_listing.proofs.parts.push_leaf.Goals as goal

pub push_line-requires-clause-root : goal.push_line-requires-clause-root
push_line-requires-clause-root g c =
    slice_get_within c.number.new.self.codes c.args.tree c.args.code (c.number.ensures.grows.codes c.args.tree c.args.code c.requires.is)

pub returns-clause-written : goal.returns-clause-written
returns-clause-written g c =
    let code : IsCode c.args.code = assumption (c.well_formed) in
    let s = c.args.code in
    let cs = c.number.new.self.codes in
    let skeleton = c.in_ok-skeleton.skeleton in
    let out = c.args.out.now.items in
    let front = c.push_count.new.out.items in
    let later = c.push_line.new.out.items in
    let is : Numbers cs skeleton ((1, 0) ∷ []) = subst (λ (x : Code). Numbers cs skeleton x) c.leaf.ensures c.in_ok-skeleton.ensures.is in
    on_ok_weaker c.push_line.result
    (λ (w : WritesPartLine cs skeleton c.args.tree [] line_end front later). partition_reply_of s 1 out front later (leaf_part_count s code c.requires.leaf) c.in_ok-push_count.ensures.written
    (w ((1, 0) ∷ []) s is (c.number.ensures.grows.codes c.args.tree s c.requires.is) ∙ ap (λ (t : List ℕ). front ++ t) (leaf_part_line s code c.requires.leaf)))
    c.push_line.ensures.written

pub returns-clause-front : goal.returns-clause-front
returns-clause-front g c = front_on c.push_count.ensures.front c.push_line.ensures.front

pub returns-clause-counted : goal.returns-clause-counted
returns-clause-counted g c =
    let code : IsCode c.args.code = assumption (c.well_formed) in
    on_ok_any c.push_line.result (omega (arith, c.push_line.ensures.counted, leaf_part_count c.args.code code c.requires.leaf))
