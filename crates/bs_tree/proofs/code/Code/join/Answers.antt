use Rattle.std.proofs.Common.{◌≡◌, ◌∙◌, sym, ap, arith, ◌≤◌, ◌<◌, ◌++◌, ℕ, length, take, get_or}
use Rattle.std.proofs.lemmas.List.Elements.{All-weaker}
use Rattle.bs_tree.specs.Code.{joined, deeper}
use Rattle.bs_tree.proofs.Joins.{joined_more, length-joined_more}
use Rattle.bs_tree.proofs.code.Code.join.Goals as goal
use Rattle.bs_tree.specs.declared.TheConstants.{MAX_NODES}

pub push_deeper-requires-clause-room : goal.push_deeper-requires-clause-room
push_deeper-requires-clause-room c =
    let cs = c.codes-code-items.result.now in
    let e : c.pairs.result.now ≡ get_or cs c.codes.code-index c.code-item.result = c.pairs.ensures.value ∙ c.code-item.is in
    let all : cs ≡ c.args.codes.now = c.codes-code-items.ensures.value in
    let small : length (joined c.args.colour cs) ≤ MAX_NODES = rw all c.requires.code.small in
    rw (c.codes.invariant, e) (omega (arith, length-joined_more c.args.colour cs c.codes.code-index c.code-item.result c.codes-test.true))

pub push_deeper-requires-clause-levels : goal.push_deeper-requires-clause-levels
push_deeper-requires-clause-levels c = All-weaker (λ (p : ℕ × ℕ). (0 < p.0) × (p.0 ≤ MAX_NODES)) (λ (p : ℕ × ℕ). p.0 < 255) (λ p h. let k = h.1 in omega arith) c.pairs.result.now c.pairs.ensures.levels

pub codes-preserved : goal.codes-preserved
codes-preserved c =
    let cs = c.codes-code-items.result.now in
    let e : c.pairs.result.now ≡ get_or cs c.codes.code-index c.code-item.result = c.pairs.ensures.value ∙ c.code-item.is in
    c.push_deeper.ensures ∙ ap (λ ps. ps ++ deeper c.pairs.result.now) c.codes.invariant ∙ ap (λ ps. joined c.args.colour (take c.codes.code-index cs) ++ deeper ps) e
    ∙ sym (joined_more c.args.colour cs c.codes.code-index c.code-item.result c.codes-test.true)
