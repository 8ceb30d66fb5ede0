use Rattle.std.proofs.Common.{◌≡◌, ◌+◌, ◌*◌, ◌++◌, ◌∙◌, ℕ, List, [], length, ap, ap₂, sym, arith, append_assoc}
use Rattle.std.proofs.lemmas.Option.{slice_get_within}
use Rattle.std.proofs.lemmas.Result.{on_ok_weaker}
use Rattle.bs_tree.specs.Code.{IsCode}
use Rattle.bs_part.specs.Partition.{part_codes}
use Rattle.bs_catalog.specs.Making.{without_first}
use Rattle.bs_catalog.specs.declared.way.Way.TheVariants.{Join, Sever}
use Rattle.bs_listing.specs.Sides.{parted_row, parted_items, line_end}
use Rattle.bs_listing.specs.Writes.{all_lines, WritesAllSevered}
use Rattle.bs_listing.proofs.BySide.{PartSides, part_sides, parts_more, roots_below, roots_more}
use Rattle.bs_listing.proofs.Fronts.{front_on}
use Rattle.bs_listing.proofs.Replies.{partition_reply_of, part_count, parts_fit, part_lines}
use Rattle.bs_listing.proofs.parts.push_halved.Goals as goal

pub parts-requires-2 : goal.parts-requires-2
parts-requires-2 g c =
    let rest = without_first c.args.code in
    slice_get_within c.parts.new.self.codes c.args.halves.rest rest (c.in_ok-kids.ensures.grows.codes c.args.halves.rest rest c.requires.rest_is)

pub count_parts-requires : goal.count_parts-requires
count_parts-requires g c =
    let code : IsCode c.args.code = assumption (c.well_formed) in
    let s = c.args.code in
    let x = c.requires.first in
    let ks = parted_items x in
    let rs = parted_items (without_first s) in
    let kids = c.in_ok-kids.kids in
    let rest = c.in_ok-rest.rest in
    let sides : PartSides c.parts-2.new.self.codes s x kids.crowns.items kids.texts rest.crowns.items rest.texts =
    part_sides c.args.scribe.now.codes c.parts.new.self.codes c.parts-2.new.self.codes s c.args.halves.child c.args.halves.rest kids.crowns.items kids.texts rest.crowns.items rest.texts
    c.requires c.in_ok-kids.ensures.grows.codes c.in_ok-rest.ensures.grows.codes c.in_ok-kids.ensures.are c.in_ok-rest.ensures.are in
    let m : c.len.result ≡ length ks = omega (arith, c.len.ensures, kids.crowns.ok.0, sides.kids_count) in
    let n : c.len-2.result ≡ length rs = omega (arith, c.len-2.ensures, rest.crowns.ok.0, sides.rest_count) in
    let all : c.len.result * c.len-2.result ≡ length ks * length rs = ap₂ (λ (a b : ℕ). a * b) m n in
    record { few = omega (arith, all, part_count s x code c.requires.is_first, parts_fit s code) }

pub push_joined-requires : goal.push_joined-requires
push_joined-requires g c =
    let s = c.args.code in
    let x = c.requires.first in
    let cs = c.parts-2.new.self.codes in
    let kids = c.in_ok-kids.kids in
    let rest = c.in_ok-rest.rest in
    let sides : PartSides cs s x kids.crowns.items kids.texts rest.crowns.items rest.texts =
    part_sides c.args.scribe.now.codes c.parts.new.self.codes cs s c.args.halves.child c.args.halves.rest kids.crowns.items kids.texts rest.crowns.items rest.texts
    c.requires c.in_ok-kids.ensures.grows.codes c.in_ok-rest.ensures.grows.codes c.in_ok-kids.ensures.are c.in_ok-rest.ensures.are in
    record { kids = sides.kids_texts; rest = sides.rest_texts }

pub push_severed-requires : goal.push_severed-requires
push_severed-requires g c =
    let s = c.args.code in
    let x = c.requires.first in
    let cs = c.parts-2.new.self.codes in
    let later = c.push_joined.new.scribe.codes in
    let kids = c.in_ok-kids.kids in
    let rest = c.in_ok-rest.rest in
    let sides : PartSides cs s x kids.crowns.items kids.texts rest.crowns.items rest.texts =
    part_sides c.args.scribe.now.codes c.parts.new.self.codes cs s c.args.halves.child c.args.halves.rest kids.crowns.items kids.texts rest.crowns.items rest.texts
    c.requires c.in_ok-kids.ensures.grows.codes c.in_ok-rest.ensures.grows.codes c.in_ok-kids.ensures.are c.in_ok-rest.ensures.are in
    record {
      roots = roots_more cs later kids.crowns.items c.push_joined.ensures.grows.codes (roots_below cs kids.crowns.items (parted_items x) sides.kids_are.crowns_are);
      tops = roots_more cs later rest.crowns.items c.push_joined.ensures.grows.codes (roots_below cs rest.crowns.items (parted_items (without_first s)) sides.rest_are.crowns_are);
      kids = sides.kids_texts;
      rest = sides.rest_texts;
    }

pub returns-clause-written : goal.returns-clause-written
returns-clause-written g c =
    let code : IsCode c.args.code = assumption (c.well_formed) in
    let s = c.args.code in
    let x = c.requires.first in
    let cs = c.parts-2.new.self.codes in
    let cs' = c.push_joined.new.scribe.codes in
    let ks = parted_items x in
    let rs = parted_items (without_first s) in
    let kids = c.in_ok-kids.kids in
    let rest = c.in_ok-rest.rest in
    let out = c.args.out.now.items in
    let front = c.push_count.new.out.items in
    let mid = c.push_joined.new.out.items in
    let later = c.push_severed.new.out.items in
    let sides : PartSides cs s x kids.crowns.items kids.texts rest.crowns.items rest.texts =
    part_sides c.args.scribe.now.codes c.parts.new.self.codes cs s c.args.halves.child c.args.halves.rest kids.crowns.items kids.texts rest.crowns.items rest.texts
    c.requires c.in_ok-kids.ensures.grows.codes c.in_ok-rest.ensures.grows.codes c.in_ok-kids.ensures.are c.in_ok-rest.ensures.are in
    let m : c.len.result ≡ length ks = omega (arith, c.len.ensures, kids.crowns.ok.0, sides.kids_count) in
    let n : c.len-2.result ≡ length rs = omega (arith, c.len-2.ensures, rest.crowns.ok.0, sides.rest_count) in
    let all : c.len.result * c.len-2.result ≡ length ks * length rs = ap₂ (λ (a b : ℕ). a * b) m n in
    let number : c.count_parts.result ≡ length (part_codes s) = omega (arith, c.count_parts.ensures, all, part_count s x code c.requires.is_first) in
    let joined = all_lines Join parted_row ks rs in
    let severed = all_lines Sever parted_row ks rs in
    let first : mid ≡ front ++ joined = c.in_ok-push_joined.ensures.written ks rs sides.kids_are sides.rest_are in
    let grown = c.push_joined.ensures.grows.codes in
    on_ok_weaker c.push_severed.result
    (λ (w : WritesAllSevered cs' kids.crowns.items kids.texts rest.crowns.items rest.texts mid later).
    partition_reply_of s c.count_parts.result out front later number c.in_ok-push_count.ensures.written
    (w ks rs (parts_more [] cs cs' kids.crowns.items kids.texts ks grown sides.kids_are) (parts_more line_end cs cs' rest.crowns.items rest.texts rs grown sides.rest_are)
    ∙ ap (λ (t : List ℕ). t ++ severed) first
    ∙ append_assoc front joined severed
    ∙ ap (λ (t : List ℕ). front ++ t) (sym (part_lines s x code c.requires.is_first))))
    c.push_severed.ensures.written

pub returns-in_err-push_joined-clause-front : goal.returns-in_err-push_joined-clause-front
returns-in_err-push_joined-clause-front g c = front_on c.push_count.ensures.front c.push_joined.ensures.front

pub returns-clause-front : goal.returns-clause-front
returns-clause-front g c = front_on (front_on c.push_count.ensures.front c.push_joined.ensures.front) c.push_severed.ensures.front

pub returns-clause-counted : goal.returns-clause-counted
returns-clause-counted g c =
    let code : IsCode c.args.code = assumption (c.well_formed) in
    let s = c.args.code in
    let x = c.requires.first in
    let ks = parted_items x in
    let rs = parted_items (without_first s) in
    let kids = c.in_ok-kids.kids in
    let rest = c.in_ok-rest.rest in
    let sides : PartSides c.parts-2.new.self.codes s x kids.crowns.items kids.texts rest.crowns.items rest.texts =
    part_sides c.args.scribe.now.codes c.parts.new.self.codes c.parts-2.new.self.codes s c.args.halves.child c.args.halves.rest kids.crowns.items kids.texts rest.crowns.items rest.texts
    c.requires c.in_ok-kids.ensures.grows.codes c.in_ok-rest.ensures.grows.codes c.in_ok-kids.ensures.are c.in_ok-rest.ensures.are in
    let m : length kids.crowns.items ≡ length ks = omega (arith, sides.kids_count) in
    let n : length rest.crowns.items ≡ length rs = omega (arith, sides.rest_count) in
    let all : length kids.crowns.items * length rest.crowns.items ≡ length ks * length rs = ap₂ (λ (a b : ℕ). a * b) m n in
    on_ok_weaker c.push_severed.result
    (λ (e : c.push_severed.new.steps ≡ c.push_joined.new.steps + length kids.crowns.items * length rest.crowns.items).
    omega (arith, e, c.in_ok-push_joined.ensures.counted, all, part_count s x code c.requires.is_first))
    c.push_severed.ensures.counted
