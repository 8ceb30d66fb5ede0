use Rattle.std.proofs.Common.{◌≡◌, ◌∙◌, sym, ap, arith, ◌+◌, ◌-◌, ℕ, List, drop, replicate, length, set}
use Rattle.std.proofs.lemmas.List.{drop-drop, drop-set-lt, drop-replicate, length-take-le}
use Rattle.std.proofs.Math.ListN.{length-set}
use Rattle.bs_tree.proofs.pairs.Pairs.push.Goals as goal
use Rattle.bs_tree.specs.declared.TheConstants.{MAX_NODES}

pad : (len : ℕ) (nodes : List (ℕ × ℕ)) (pair : ℕ × ℕ) → drop len nodes ≡ replicate (MAX_NODES - len) (0, 0) → drop (len + 1) (set nodes len pair) ≡ replicate (MAX_NODES - (len + 1)) (0, 0)
pad len nodes pair h =
    drop-set-lt (len + 1) nodes len pair (omega arith) ∙ sym (drop-drop 1 len nodes) ∙ ap (drop 1) h ∙ drop-replicate 1 (MAX_NODES - len) (0, 0)
    ∙ ap (λ (n : ℕ). let xs : List (ℕ × ℕ) = replicate n (0, 0) in xs) (omega arith)

pub invariant_of-self : goal.invariant_of-self
invariant_of-self c =
    let s = c.self.inside in (
      length-set s.nodes s.len c.args.pair ∙ c.self.invariant.0,
      omega (arith, ap length c.self.view_is, length-take-le s.len s.nodes),
      pad s.len s.nodes c.args.pair c.self.invariant.2,
    )
