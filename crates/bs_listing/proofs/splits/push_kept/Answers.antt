use Rattle.std.proofs.Common.{◌<◌, length, append-nil, refl, sym, arith}
use Rattle.std.proofs.lemmas.Option.{slice_get_read}
use Rattle.bs_catalog.proofs.Shelving.{grows_refl, grows_on}
use Rattle.bs_listing.proofs.Fronts.{front_refl, front_on, row_more}
use Rattle.bs_listing.proofs.Lines.{kept_more, kept_all}
use Rattle.bs_listing.proofs.splits.push_kept.Goals as goal

pub kids-init : goal.kids-init
kids-init g c = record {
  grows = grows_refl c.args.scribe.now;
  written = λ ks rs kids_are are. sym (append-nil c.args.out.now.items);
  counted = omega arith;
  front = front_refl c.args.out.now.items;
}

pub kids-preserved : goal.kids-preserved
kids-preserved g c =
    let kids = c.args.kids.now.heads.items in
    let i = c.kids.place in
    let n = c.index.result.now in
    let inside : i < length kids = omega (arith, c.args.kids.now.heads.ok.0) in
    record {
      grows = grows_on c.kids.invariant.grows c.push_under.ensures.grows;
      written = kept_more c.args.scribe.now.codes c.kids.scribe.codes kids c.args.kids.now.texts c.args.rest.now.heads.items c.args.rest.now.texts i n c.get.result.now c.args.out.now.items
          c.kids.out.items c.push_under.new.out.items c.kids.invariant.grows.codes (slice_get_read kids (length kids) i n refl inside c.index.ensures) c.get.ensures
          c.in_ok-push_under.ensures.written c.kids.invariant.written;
      counted = omega (arith, c.kids.invariant.counted, c.in_ok-push_under.ensures.counted, row_more c.kids.place (length c.args.rest.now.heads.items));
      front = front_on c.kids.invariant.front c.push_under.ensures.front;
    }

pub returns-in_err-push_under-clause-grows : goal.returns-in_err-push_under-clause-grows
returns-in_err-push_under-clause-grows g c = grows_on c.kids.invariant.grows c.push_under.ensures.grows

pub returns-in_err-push_under-clause-front : goal.returns-in_err-push_under-clause-front
returns-in_err-push_under-clause-front g c = front_on c.kids.invariant.front c.push_under.ensures.front

pub returns-clause-written : goal.returns-clause-written
returns-clause-written g c =
    kept_all c.args.scribe.now.codes c.args.kids.now.heads.items c.args.kids.now.texts c.args.rest.now.heads.items c.args.rest.now.texts c.kids.place c.args.out.now.items c.kids.out.items
    (omega (arith, c.args.kids.now.heads.ok.0)) c.kids.invariant.written
