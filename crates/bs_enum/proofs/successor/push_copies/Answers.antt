use Rattle.std.proofs.Common.{ℕ, suc, List, ◌≡◌, ◌+◌, ◌-◌, ◌<◌, ◌≤◌, ◌∷◌, [], ap, sym, ◌∙◌, arith, length, length-append, get_or}
use Rattle.bs_enum.proofs.Loops.{copy_more}
use Rattle.bs_enum.proofs.successor.push_copies.Goals as goal

pub copies-preserved : goal.copies-preserved
copies-preserved c =
    let d = c.args.period in
    let n : ℕ = c.args.count - (c.copies.counter + 1) in
    let known = c.as_slice-known.result.now in
    let q = get_or known (length known - d) (0, 0) in
    let more : c.args.count - c.copies.counter ≡ suc n = omega arith in
    let fits : d ≤ length c.copies.pairs = omega (arith, c.copies.invariant.size) in
    record {
      same =
          sym
          (copy_more d (c.args.count - c.copies.counter) n c.copies.pairs c.push.new.self q (0, 0) c.requires.some fits more
          (ap (λ (v : List (ℕ × ℕ)). get_or v (length v - d) (0, 0)) c.as_slice-known.ensures.value) c.push.ensures)
          ∙ c.copies.invariant.same;
      size = omega (arith, ap length c.push.ensures, length-append c.copies.pairs (q ∷ []), c.copies.invariant.size);
    }
