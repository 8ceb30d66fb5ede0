use Rattle.std.proofs.Common.{◌∙◌, ◌<◌, length, get_or, append-nil, refl, sym, subst, arith}
use Rattle.std.proofs.lemmas.List.Elements.{All-get_or}
use Rattle.std.proofs.lemmas.Option.{slice_get_read}
use Rattle.bs_catalog.specs.Shelf.{Shelf}
use Rattle.bs_listing.proofs.Fronts.{front_refl, front_on}
use Rattle.bs_listing.proofs.Lines.{WritesLine, cut_off_more, cut_off_all}
use Rattle.bs_listing.proofs.splits.push_cut_off.Goals as goal

pub rest-init : goal.rest-init
rest-init g c = record { same = refl; written = λ x rs cut_is are. sym (append-nil c.args.out.now.items); counted = omega arith; front = front_refl c.args.out.now.items }

pub push_line-requires : goal.push_line-requires
push_line-requires g c =
    let heads = c.args.rest.now.heads.items in
    let i = c.rest.place in
    let n = c.index.result.now in
    let cs = c.args.scribe.now.codes in
    let inside : i < length heads = omega (arith, c.args.rest.now.heads.ok.0) in
    let below : get_or heads i n < length cs = All-get_or (λ m. m < length cs) heads i n inside c.requires.heads in
    subst (λ (s : Shelf). n < length s.codes) (sym c.rest.invariant.same) (omega (arith, below, c.index.ensures))

pub rest-preserved : goal.rest-preserved
rest-preserved g c =
    let heads = c.args.rest.now.heads.items in
    let i = c.rest.place in
    let n = c.index.result.now in
    let cut = c.args.cut.now in
    let end = c.get.result.now in
    let now = c.rest.out.items in
    let later = c.push_line.new.out.items in
    let inside : i < length heads = omega (arith, c.args.rest.now.heads.ok.0) in
    let line : WritesLine c.args.scribe.now.codes n cut end now later =
    subst (λ (s : Shelf). WritesLine s.codes n cut end now later) c.rest.invariant.same c.in_ok-push_line.ensures.written in
    record {
      same = c.push_line.ensures.same ∙ c.rest.invariant.same;
      written = cut_off_more c.args.scribe.now.codes cut heads c.args.rest.now.texts i n end c.args.out.now.items now later (slice_get_read heads (length heads) i n refl inside c.index.ensures)
          c.get.ensures line c.rest.invariant.written;
      counted = omega (arith, c.rest.invariant.counted, c.push_line.ensures.counted);
      front = front_on c.rest.invariant.front c.push_line.ensures.front;
    }

pub returns-in_err-push_line-clause-same : goal.returns-in_err-push_line-clause-same
returns-in_err-push_line-clause-same g c = c.push_line.ensures.same ∙ c.rest.invariant.same

pub returns-in_err-push_line-clause-front : goal.returns-in_err-push_line-clause-front
returns-in_err-push_line-clause-front g c = front_on c.rest.invariant.front c.push_line.ensures.front

pub returns-clause-written : goal.returns-clause-written
returns-clause-written g c =
    cut_off_all c.args.scribe.now.codes c.args.cut.now c.args.rest.now.heads.items c.args.rest.now.texts c.rest.place c.args.out.now.items c.rest.out.items
    (omega (arith, c.args.rest.now.heads.ok.0)) c.rest.invariant.written
