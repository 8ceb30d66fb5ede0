use Rattle.std.proofs.Common.{◌<◌, ◌∙◌, ◌++◌, List, ℕ, length, get_or, append-nil, refl, sym, ap, subst, arith}
use Rattle.std.proofs.lemmas.List.Elements.{All-get_or}
use Rattle.std.proofs.lemmas.Option.{slice_get_read}
use Rattle.std.specs.List.{All}
use Rattle.bs_catalog.specs.Shelf.{Shelf, Code, Numbers, Grows}
use Rattle.bs_catalog.proofs.Shelving.{grows_refl, grows_on}
use Rattle.bs_listing.specs.Texts.{spaced}
use Rattle.bs_listing.specs.Writes.{WritesSevered}
use Rattle.bs_listing.specs.declared.sides.Crown.{Crown}
use Rattle.bs_listing.proofs.BySide.{below_more, roots_more}
use Rattle.bs_listing.proofs.Fronts.{front_refl, front_on, row_more}
use Rattle.bs_listing.proofs.Lines.{all_severed_more, all_severed_all}
use Rattle.bs_listing.proofs.parts.push_severed.Goals as goal

pub kids-init : goal.kids-init
kids-init g c = record {
  grows = grows_refl c.args.scribe.now;
  written = λ ks rs kids_are are. sym (append-nil c.args.out.now.items);
  counted = omega arith;
  front = front_refl c.args.out.now.items;
}

pub push_tree-requires : goal.push_tree-requires
push_tree-requires g c =
    let kids = c.args.kids.now.crowns.items in
    let i = c.kids.place in
    let below = c.index-below.result.now in
    let cs = c.args.scribe.now.codes in
    let inside : i < length kids = omega (arith, c.args.kids.now.crowns.ok.0) in
    let there : (get_or kids i below).root < length cs = All-get_or (λ (x : Crown). x.root < length cs) kids i below inside c.requires.roots in
    below_more cs c.kids.scribe.codes below.root c.kids.invariant.grows.codes (subst (λ (x : Crown). x.root < length cs) (sym c.index-below.ensures) there)

pub push_severed_under-requires-clause-tops : goal.push_severed_under-requires-clause-tops
push_severed_under-requires-clause-tops g c =
    let crowns = c.args.rest.now.crowns.items in
    subst (λ (s : Shelf). All (λ (x : Crown). x.root < length s.codes) crowns) (sym c.push_tree.ensures.same)
    (roots_more c.args.scribe.now.codes c.kids.scribe.codes crowns c.kids.invariant.grows.codes c.requires.tops)

pub kids-preserved : goal.kids-preserved
kids-preserved g c =
    let kids = c.args.kids.now.crowns.items in
    let crowns = c.args.rest.now.crowns.items in
    let ends = c.args.rest.now.texts in
    let i = c.kids.place in
    let below = c.index-below.result.now in
    let others = c.get.result.now in
    let now = c.kids.out.items in
    let later = c.push_severed_under.new.out.items in
    let parts = c.deref.result.now in
    let root : List ℕ = c.push_tree.new.out.items in
    let inside : i < length kids = omega (arith, c.args.kids.now.crowns.ok.0) in
    let writes : WritesSevered c.kids.scribe.codes below.skeleton parts crowns ends now later =
    subst (λ (s : Shelf). WritesSevered s.codes below.skeleton parts crowns ends now later) c.push_tree.ensures.same c.in_ok-push_severed_under.ensures.written in
    record {
      grows = grows_on c.kids.invariant.grows (subst (λ (s : Shelf). Grows s c.push_severed_under.new.scribe) c.push_tree.ensures.same c.push_severed_under.ensures.grows);
      written = all_severed_more c.args.scribe.now.codes c.kids.scribe.codes kids c.args.kids.now.texts crowns ends i below others root parts c.args.out.now.items now later
          c.kids.invariant.grows.codes (slice_get_read kids (length kids) i below refl inside c.index-below.ensures) c.get.ensures
          (λ (code : Code) (is : Numbers c.kids.scribe.codes below.root code). c.in_ok-push_tree.ensures.written code is ∙ ap (λ (t : List ℕ). t ++ spaced code) c.clear.ensures.items)
          (c.deref.ensures.value ∙ c.in_ok-extend_from_slice.ensures.items) writes c.kids.invariant.written;
      counted = omega (arith, c.kids.invariant.counted, c.in_ok-push_severed_under.ensures.counted, row_more c.kids.place (length c.args.rest.now.crowns.items));
      front = front_on c.kids.invariant.front c.push_severed_under.ensures.front;
    }

pub returns-clause-written : goal.returns-clause-written
returns-clause-written g c =
    all_severed_all c.args.scribe.now.codes c.args.kids.now.crowns.items c.args.kids.now.texts c.args.rest.now.crowns.items c.args.rest.now.texts c.kids.place c.args.out.now.items
    c.kids.out.items (omega (arith, c.args.kids.now.crowns.ok.0)) c.kids.invariant.written
