use Rattle.std.proofs.Common.{◌≡◌, ◌∙◌, ◌+◌, ◌++◌, ◌-◌, ℕ, ap, arith, take, drop, length, refl}
use Rattle.bs_tree.specs.Insertion.{inserted}
use Rattle.bs_tree.proofs.Insertions.{one_more}
use Rattle.bs_tree.proofs.insertion.insert_each.Goals as goal

pub nodes-preserved : goal.nodes-preserved
nodes-preserved c =
    let old = c.args.pairs.now in
    let now = c.nodes.pairs in
    let node = c.nodes.node in
    let i = node - 1 in
    let here : now ≡ take (i + 1) old ++ inserted (drop (i + 1) old) =
    c.nodes.invariant.placed ∙ ap (λ (n : ℕ). take n old ++ inserted (drop n old)) (let e : node ≡ i + 1 = omega arith in e) in
    record {
      within = omega arith;
      placed = one_more old now c.insert_first.new.pairs i (length now - i) (omega (arith, c.nodes.invariant.within)) here refl c.insert_first.ensures;
    }
