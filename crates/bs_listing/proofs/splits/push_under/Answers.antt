use Rattle.std.proofs.Common.{◌<◌, length, append-nil, refl, sym, subst, arith}
use Rattle.std.proofs.lemmas.Option.{slice_get_read}
use Rattle.bs_catalog.specs.Shelf.{Shelf, Grows}
use Rattle.bs_catalog.proofs.Shelving.{grows_refl, grows_on}
use Rattle.bs_listing.proofs.Fronts.{front_refl, front_on}
use Rattle.bs_listing.proofs.Lines.{under_more, under_all}
use Rattle.bs_listing.proofs.splits.push_under.Goals as goal

pub rest-init : goal.rest-init
rest-init g c = record {
  grows = grows_refl c.args.scribe.now;
  written = λ k rs below_is cut_is are. sym (append-nil c.args.out.now.items);
  counted = omega arith;
  front = front_refl c.args.out.now.items;
}

pub rest-preserved : goal.rest-preserved
rest-preserved g c =
    let heads = c.args.rest.now.heads.items in
    let i = c.rest.place in
    let n = c.index.result.now in
    let grown : Grows c.args.scribe.now c.attach.new.self = grows_on c.rest.invariant.grows c.attach.ensures.grows in
    let inside : i < length heads = omega (arith, c.args.rest.now.heads.ok.0) in
    record {
      grows = subst (λ (s : Shelf). Grows c.args.scribe.now s) (sym c.push_line.ensures.same) grown;
      written = under_more c.args.scribe.now.codes c.attach.new.self.codes c.args.below c.args.cut.now heads c.args.rest.now.texts i n c.in_ok-head.head c.get.result.now c.args.out.now.items
          c.rest.out.items c.push_line.new.out.items grown.codes (slice_get_read heads (length heads) i n refl inside c.index.ensures) c.get.ensures c.in_ok-head.ensures.is
          c.in_ok-push_line.ensures.written c.rest.invariant.written;
      counted = omega (arith, c.rest.invariant.counted, c.push_line.ensures.counted);
      front = front_on c.rest.invariant.front c.push_line.ensures.front;
    }

pub returns-in_err-head-clause-grows : goal.returns-in_err-head-clause-grows
returns-in_err-head-clause-grows g c = grows_on c.rest.invariant.grows c.attach.ensures.grows

pub returns-in_err-push_line-clause-grows : goal.returns-in_err-push_line-clause-grows
returns-in_err-push_line-clause-grows g c =
    subst (λ (s : Shelf). Grows c.args.scribe.now s) (sym c.push_line.ensures.same) (grows_on c.rest.invariant.grows c.attach.ensures.grows)

pub returns-in_err-push_line-clause-front : goal.returns-in_err-push_line-clause-front
returns-in_err-push_line-clause-front g c = front_on c.rest.invariant.front c.push_line.ensures.front

pub returns-clause-written : goal.returns-clause-written
returns-clause-written g c =
    under_all c.args.scribe.now.codes c.args.below c.args.cut.now c.args.rest.now.heads.items c.args.rest.now.texts c.rest.place c.args.out.now.items c.rest.out.items
    (omega (arith, c.args.rest.now.heads.ok.0)) c.rest.invariant.written
