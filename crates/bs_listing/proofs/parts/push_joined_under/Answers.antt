use Rattle.std.proofs.Common.{◌<◌, length, append-nil, refl, sym, subst, arith}
use Rattle.std.proofs.lemmas.Option.{slice_get_read}
use Rattle.bs_catalog.specs.Shelf.{Shelf, Grows}
use Rattle.bs_catalog.proofs.Shelving.{grows_refl, grows_on}
use Rattle.bs_listing.proofs.Fronts.{front_refl, front_on}
use Rattle.bs_listing.proofs.Lines.{joined_more, joined_all}
use Rattle.bs_listing.proofs.parts.push_joined_under.Goals as goal

pub rest-init : goal.rest-init
rest-init g c = record {
  grows = grows_refl c.args.scribe.now;
  written = λ k rs skeleton_is root_is others_is are. sym (append-nil c.args.out.now.items);
  counted = omega arith;
  front = front_refl c.args.out.now.items;
}

pub rest-preserved : goal.rest-preserved
rest-preserved g c =
    let crowns = c.args.rest.now.crowns.items in
    let i = c.rest.place in
    let above = c.index.result.now in
    let grown : Grows c.args.scribe.now c.join.new.scribe = grows_on c.rest.invariant.grows c.join.ensures.grows in
    let inside : i < length crowns = omega (arith, c.args.rest.now.crowns.ok.0) in
    record {
      grows = subst (λ (s : Shelf). Grows c.args.scribe.now s) (sym c.push_line.ensures.same) grown;
      written = joined_more c.args.scribe.now.codes c.join.new.scribe.codes c.args.below c.args.others.now crowns c.args.rest.now.texts i above c.in_ok-crown.crown c.get.result.now
          c.args.out.now.items c.rest.out.items c.push_line.new.out.items grown.codes (slice_get_read crowns (length crowns) i above refl inside c.index.ensures) c.get.ensures
          c.in_ok-crown.ensures.skeleton c.in_ok-crown.ensures.root c.in_ok-push_line.ensures.written c.rest.invariant.written;
      counted = omega (arith, c.rest.invariant.counted, c.push_line.ensures.counted);
      front = front_on c.rest.invariant.front c.push_line.ensures.front;
    }

pub returns-in_err-crown-clause-grows : goal.returns-in_err-crown-clause-grows
returns-in_err-crown-clause-grows g c = grows_on c.rest.invariant.grows c.join.ensures.grows

pub returns-in_err-push_line-clause-grows : goal.returns-in_err-push_line-clause-grows
returns-in_err-push_line-clause-grows g c =
    subst (λ (s : Shelf). Grows c.args.scribe.now s) (sym c.push_line.ensures.same) (grows_on c.rest.invariant.grows c.join.ensures.grows)

pub returns-in_err-push_line-clause-front : goal.returns-in_err-push_line-clause-front
returns-in_err-push_line-clause-front g c = front_on c.rest.invariant.front c.push_line.ensures.front

pub returns-clause-written : goal.returns-clause-written
returns-clause-written g c =
    joined_all c.args.scribe.now.codes c.args.below c.args.others.now c.args.rest.now.crowns.items c.args.rest.now.texts c.rest.place c.args.out.now.items c.rest.out.items
    (omega (arith, c.args.rest.now.crowns.ok.0)) c.rest.invariant.written
