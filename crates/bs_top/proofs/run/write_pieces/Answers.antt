use Rattle.bs_top.proofs.Fronts.{AddsFront-at, on_err}
use Rattle.bs_top.proofs.run.write_pieces.Goals as goal

pub returns-in_err-write_all-clause-front : goal.returns-in_err-write_all-clause-front
returns-in_err-write_all-clause-front g c =
    on_err _ (AddsFront-at (λ piece. piece.now) _ _ _ _ _ _ c.pieces-test.true c.pieces.invariant.written c.in_err-write_all.ensures.prefix)
