use Rattle.std.proofs.Common.{◌<◌, length, get_or, append-nil, refl, sym, subst, arith}
use Rattle.std.proofs.lemmas.List.Elements.{All-get_or}
use Rattle.std.proofs.lemmas.Option.{slice_get_read}
use Rattle.bs_catalog.specs.Shelf.{Shelf, Grows}
use Rattle.bs_catalog.proofs.Shelving.{grows_refl, grows_on}
use Rattle.bs_listing.specs.declared.sides.Crown.{Crown}
use Rattle.bs_listing.proofs.BySide.{below_more}
use Rattle.bs_listing.proofs.Fronts.{front_refl, front_on}
use Rattle.bs_listing.proofs.Lines.{severed_more, severed_all}
use Rattle.bs_listing.proofs.parts.push_severed_under.Goals as goal

pub rest-init : goal.rest-init
rest-init g c = record {
  grows = grows_refl c.args.scribe.now;
  written = λ k rs hung_is parts_is are. sym (append-nil c.args.out.now.items);
  counted = omega arith;
  front = front_refl c.args.out.now.items;
}

pub push_line-requires-clause-root : goal.push_line-requires-clause-root
push_line-requires-clause-root g c =
    let crowns = c.args.rest.now.crowns.items in
    let i = c.rest.place in
    let above = c.index-above.result.now in
    let cs = c.args.scribe.now.codes in
    let grown : Grows c.args.scribe.now c.attach.new.self = grows_on c.rest.invariant.grows c.attach.ensures.grows in
    let inside : i < length crowns = omega (arith, c.args.rest.now.crowns.ok.0) in
    let there : (get_or crowns i above).root < length cs = All-get_or (λ (x : Crown). x.root < length cs) crowns i above inside c.requires.tops in
    below_more cs c.attach.new.self.codes above.root grown.codes (subst (λ (x : Crown). x.root < length cs) (sym c.index-above.ensures) there)

pub rest-preserved : goal.rest-preserved
rest-preserved g c =
    let crowns = c.args.rest.now.crowns.items in
    let i = c.rest.place in
    let above = c.index-above.result.now in
    let grown : Grows c.args.scribe.now c.attach.new.self = grows_on c.rest.invariant.grows c.attach.ensures.grows in
    let inside : i < length crowns = omega (arith, c.args.rest.now.crowns.ok.0) in
    record {
      grows = subst (λ (s : Shelf). Grows c.args.scribe.now s) (sym c.push_line.ensures.same) grown;
      written = severed_more c.args.scribe.now.codes c.attach.new.self.codes c.args.hung c.args.parts.now crowns c.args.rest.now.texts i above c.in_ok-skeleton.skeleton c.get.result.now
          c.args.out.now.items c.rest.out.items c.push_line.new.out.items grown.codes (slice_get_read crowns (length crowns) i above refl inside c.index-above.ensures) c.get.ensures
          c.in_ok-skeleton.ensures.is c.in_ok-push_line.ensures.written c.rest.invariant.written;
      counted = omega (arith, c.rest.invariant.counted, c.push_line.ensures.counted);
      front = front_on c.rest.invariant.front c.push_line.ensures.front;
    }

pub returns-in_err-skeleton-clause-grows : goal.returns-in_err-skeleton-clause-grows
returns-in_err-skeleton-clause-grows g c = grows_on c.rest.invariant.grows c.attach.ensures.grows

pub returns-in_err-push_line-clause-grows : goal.returns-in_err-push_line-clause-grows
returns-in_err-push_line-clause-grows g c =
    subst (λ (s : Shelf). Grows c.args.scribe.now s) (sym c.push_line.ensures.same) (grows_on c.rest.invariant.grows c.attach.ensures.grows)

pub returns-in_err-push_line-clause-front : goal.returns-in_err-push_line-clause-front
returns-in_err-push_line-clause-front g c = front_on c.rest.invariant.front c.push_line.ensures.front

pub returns-clause-written : goal.returns-clause-written
returns-clause-written g c =
    severed_all c.args.scribe.now.codes c.args.hung c.args.parts.now c.args.rest.now.crowns.items c.args.rest.now.texts c.rest.place c.args.out.now.items c.rest.out.items
    (omega (arith, c.args.rest.now.crowns.ok.0)) c.rest.invariant.written
