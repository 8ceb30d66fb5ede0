use Rattle.std.proofs.Common.{◌∙◌, ◌++◌, ◌∷◌, [], List, ap, refl, arith, length}
use Rattle.bs_series.specs.Expressions.{node, expressions}
use Rattle.bs_series.specs.declared.book.Node.{Node}
use Rattle.bs_series.proofs.Nodes.{pushed, length-expressions, only_at_seen, length-onto_one}
use Rattle.bs_series.proofs.book.Book.add.Goals as goal

pub invariant_of-self-2 : goal.invariant_of-self-2
invariant_of-self-2 c =
    let n = node c.args.kind c.args.numbers in
    let e = c.push_reserved.ensures.items ∙ ap (λ (ns : List Node). ns ++ n ∷ []) c.in_ok-reserve.ensures.items in
    (pushed c.self.inside.nodes.items c.push_reserved.new.self.items c.args.self.now n c.self.view_is c.self.invariant c.requires e).0

pub returns-clause-ok : goal.returns-clause-ok
returns-clause-ok c =
    let n = node c.args.kind c.args.numbers in
    let e = c.push_reserved.ensures.items ∙ ap (λ (ns : List Node). ns ++ n ∷ []) c.in_ok-reserve.ensures.items in (
      omega (arith, c.of_place.ensures, c.len-place.ensures, ap length c.self.view_is, length-expressions c.self.inside.nodes.items),
      (pushed c.self.inside.nodes.items c.push_reserved.new.self.items c.args.self.now n c.self.view_is c.self.invariant c.requires e).1,
    )

pub returns-clause-once : goal.returns-clause-once
returns-clause-once c =
    let n = node c.args.kind c.args.numbers in
    let ms = c.push_reserved.new.self.items in
    let e = c.push_reserved.ensures.items ∙ ap (λ (ns : List Node). ns ++ n ∷ []) c.in_ok-reserve.ensures.items in
    let p = pushed c.self.inside.nodes.items ms c.args.self.now n c.self.view_is c.self.invariant c.requires e in
    only_at_seen ms (expressions ms) c.of_place.result refl p.0
    (omega (arith, c.of_place.ensures, c.len-place.ensures, ap length c.self.view_is, length-expressions c.self.inside.nodes.items, ap length p.1, length-onto_one c.args.self.now n))
