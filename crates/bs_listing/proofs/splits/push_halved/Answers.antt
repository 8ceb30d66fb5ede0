use Rattle.std.proofs.Common.{◌≡◌, ◌+◌, ◌*◌, ◌++◌, ◌∙◌, ℕ, List, length, ap, ap₂, sym, arith}
use Rattle.std.proofs.lemmas.Option.{slice_get_within}
use Rattle.std.proofs.lemmas.Result.{on_ok_weaker}
use Rattle.bs_tree.specs.Code.{IsCode}
use Rattle.bs_split.specs.Splitting.{split_codes}
use Rattle.bs_catalog.specs.Making.{without_first}
use Rattle.bs_listing.specs.Sides.{kept_items}
use Rattle.bs_listing.specs.Writes.{WritesSplits}
use Rattle.bs_listing.proofs.BySide.{SplitSides, split_sides, heads_below}
use Rattle.bs_listing.proofs.Fronts.{front_on}
use Rattle.bs_listing.proofs.Replies.{split_reply_of, split_count, splits_fit, split_lines}
use Rattle.bs_listing.proofs.splits.push_halved.Goals as goal

pub splits-requires-2 : goal.splits-requires-2
splits-requires-2 g c =
    let rest = without_first c.args.code in
    slice_get_within c.splits.new.self.codes c.args.halves.rest rest (c.in_ok-kids.ensures.grows.codes c.args.halves.rest rest c.requires.rest_is)

pub count_splits-number-requires : goal.count_splits-number-requires
count_splits-number-requires g c =
    let code : IsCode c.args.code = assumption (c.well_formed) in
    let s = c.args.code in
    let x = c.requires.first in
    let ks = kept_items x in
    let rs = kept_items (without_first s) in
    let kids = c.in_ok-kids.kids in
    let rest = c.in_ok-rest.rest in
    let sides : SplitSides c.splits-2.new.self.codes s x c.args.halves.child kids.heads.items kids.texts rest.heads.items rest.texts =
    split_sides c.args.scribe.now.codes c.splits.new.self.codes c.splits-2.new.self.codes s c.args.halves.child c.args.halves.rest kids.heads.items kids.texts rest.heads.items rest.texts
    c.requires c.in_ok-kids.ensures.grows.codes c.in_ok-rest.ensures.grows.codes c.in_ok-kids.ensures.are c.in_ok-rest.ensures.are in
    let m : c.len.result ≡ length ks = omega (arith, c.len.ensures, kids.heads.ok.0, sides.kids_count) in
    let n : c.len-2.result ≡ length rs = omega (arith, c.len-2.ensures, rest.heads.ok.0, sides.rest_count) in
    let all : c.len.result * c.len-2.result ≡ length ks * length rs = ap₂ (λ (a b : ℕ). a * b) m n in
    record { few = omega (arith, all, n, split_count s x code c.requires.is_first, splits_fit s code) }

pub push_lines-requires : goal.push_lines-requires
push_lines-requires g c =
    let s = c.args.code in
    let x = c.requires.first in
    let cs = c.splits-2.new.self.codes in
    let kids = c.in_ok-kids.kids in
    let rest = c.in_ok-rest.rest in
    let sides : SplitSides cs s x c.args.halves.child kids.heads.items kids.texts rest.heads.items rest.texts =
    split_sides c.args.scribe.now.codes c.splits.new.self.codes cs s c.args.halves.child c.args.halves.rest kids.heads.items kids.texts rest.heads.items rest.texts
    c.requires c.in_ok-kids.ensures.grows.codes c.in_ok-rest.ensures.grows.codes c.in_ok-kids.ensures.are c.in_ok-rest.ensures.are in
    record {
      child = slice_get_within cs c.args.halves.child x sides.child_is;
      heads = heads_below cs rest.heads.items (kept_items (without_first s)) sides.rest_are.heads_are;
      kids = sides.kids_texts;
      rest = sides.rest_texts;
    }

pub returns-clause-written : goal.returns-clause-written
returns-clause-written g c =
    let code : IsCode c.args.code = assumption (c.well_formed) in
    let s = c.args.code in
    let x = c.requires.first in
    let cs = c.splits-2.new.self.codes in
    let ks = kept_items x in
    let rs = kept_items (without_first s) in
    let kids = c.in_ok-kids.kids in
    let rest = c.in_ok-rest.rest in
    let child = c.args.halves.child in
    let out = c.args.out.now.items in
    let front = c.push_front.new.out.items in
    let later = c.push_lines.new.out.items in
    let sides : SplitSides cs s x child kids.heads.items kids.texts rest.heads.items rest.texts =
    split_sides c.args.scribe.now.codes c.splits.new.self.codes cs s child c.args.halves.rest kids.heads.items kids.texts rest.heads.items rest.texts
    c.requires c.in_ok-kids.ensures.grows.codes c.in_ok-rest.ensures.grows.codes c.in_ok-kids.ensures.are c.in_ok-rest.ensures.are in
    let m : c.len.result ≡ length ks = omega (arith, c.len.ensures, kids.heads.ok.0, sides.kids_count) in
    let n : c.len-2.result ≡ length rs = omega (arith, c.len-2.ensures, rest.heads.ok.0, sides.rest_count) in
    let all : c.len.result * c.len-2.result ≡ length ks * length rs = ap₂ (λ (a b : ℕ). a * b) m n in
    let number : c.count_splits-number.result ≡ length (split_codes s) = omega (arith, c.count_splits-number.ensures, all, n, split_count s x code c.requires.is_first) in
    on_ok_weaker c.push_lines.result
    (λ (w : WritesSplits cs child kids.heads.items kids.texts rest.heads.items rest.texts front later).
    split_reply_of s c.count_splits-number.result out front later code number c.in_ok-push_front.ensures.written
    (w x ks rs sides.child_is sides.kids_are sides.rest_are ∙ ap (λ (t : List ℕ). front ++ t) (sym (split_lines s x code c.requires.is_first))))
    c.push_lines.ensures.written

pub returns-clause-front : goal.returns-clause-front
returns-clause-front g c = front_on c.push_front.ensures.front c.push_lines.ensures.front

pub returns-clause-counted : goal.returns-clause-counted
returns-clause-counted g c =
    let code : IsCode c.args.code = assumption (c.well_formed) in
    let s = c.args.code in
    let x = c.requires.first in
    let ks = kept_items x in
    let rs = kept_items (without_first s) in
    let kids = c.in_ok-kids.kids in
    let rest = c.in_ok-rest.rest in
    let sides : SplitSides c.splits-2.new.self.codes s x c.args.halves.child kids.heads.items kids.texts rest.heads.items rest.texts =
    split_sides c.args.scribe.now.codes c.splits.new.self.codes c.splits-2.new.self.codes s c.args.halves.child c.args.halves.rest kids.heads.items kids.texts rest.heads.items rest.texts
    c.requires c.in_ok-kids.ensures.grows.codes c.in_ok-rest.ensures.grows.codes c.in_ok-kids.ensures.are c.in_ok-rest.ensures.are in
    let m : length kids.heads.items ≡ length ks = omega (arith, sides.kids_count) in
    let n : length rest.heads.items ≡ length rs = omega (arith, sides.rest_count) in
    let all : length kids.heads.items * length rest.heads.items ≡ length ks * length rs = ap₂ (λ (a b : ℕ). a * b) m n in
    on_ok_weaker c.push_lines.result
    (λ (e : c.push_lines.new.steps ≡ c.push_front.new.steps + (length rest.heads.items + length kids.heads.items * length rest.heads.items)).
    omega (arith, e, c.in_ok-push_front.ensures.counted, all, n, split_count s x code c.requires.is_first))
    c.push_lines.ensures.counted
