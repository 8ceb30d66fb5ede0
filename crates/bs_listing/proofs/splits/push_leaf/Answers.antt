use Rattle.std.proofs.Common.{◌≡◌, ◌++◌, ◌∙◌, ℕ, List, ap, append_assoc, arith}
use Rattle.bs_tree.specs.Code.{IsCode}
use Rattle.bs_listing.specs.Texts.{head_text}
use Rattle.bs_listing.specs.Sides.{line_end}
use Rattle.bs_listing.proofs.Fronts.{front_on, front_if, appended, on_ok_any}
use Rattle.bs_listing.proofs.Replies.{split_reply_of, leaf_split_count, leaf_split_line}
use Rattle.std.proofs.lemmas.Result.{on_ok_weaker}
use Rattle.bs_listing.proofs.splits.push_leaf.Goals as goal

pub returns-clause-written : goal.returns-clause-written
returns-clause-written g c =
    let code : IsCode c.args.code = assumption (c.well_formed) in
    let s = c.args.code in
    let out = c.args.out.now.items in
    let front = c.push_front.new.out.items in
    let mid = c.push_head.new.out.items in
    let later = c.extend_from_slice.new.self.items in
    let head : mid ≡ front ++ head_text s = c.in_ok-push_head.ensures.written s c.requires.is in
    on_ok_weaker c.extend_from_slice.result
    (λ (e : later ≡ mid ++ line_end). split_reply_of s 2 out front later code (leaf_split_count s code c.requires.leaf) c.in_ok-push_front.ensures.written
    (e ∙ ap (λ (t : List ℕ). t ++ line_end) head ∙ append_assoc front (head_text s) line_end ∙ ap (λ (t : List ℕ). front ++ t) (leaf_split_line s code c.requires.leaf)))
    (appended c.extend_from_slice.result mid line_end later c.extend_from_slice.ensures.items)

pub returns-in_err-push_head-clause-front : goal.returns-in_err-push_head-clause-front
returns-in_err-push_head-clause-front g c = front_on c.push_front.ensures.front c.push_head.ensures.front

pub returns-clause-front : goal.returns-clause-front
returns-clause-front g c =
    front_on (front_on c.push_front.ensures.front c.push_head.ensures.front)
    (front_if c.extend_from_slice.result c.push_head.new.out.items line_end c.extend_from_slice.new.self.items c.extend_from_slice.ensures.items)

pub returns-clause-counted : goal.returns-clause-counted
returns-clause-counted g c =
    let code : IsCode c.args.code = assumption (c.well_formed) in
    on_ok_any c.extend_from_slice.result (omega (arith, c.in_ok-push_front.ensures.counted, c.tick.ensures, leaf_split_count c.args.code code c.requires.leaf))
