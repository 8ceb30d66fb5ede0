use Rattle.std.proofs.Common.{[], ◌∷◌, codes}
use Rattle.bs_make.specs.Made.{commands, session_block}
use Rattle.bs_make.proofs.Texts.{lines_more}
use Rattle.bs_make.proofs.make.write_session.Goals as goal

pub returns-clause-written : goal.returns-clause-written
unfolding session_block
returns-clause-written c =
    lines_more c.args.out.now.items _ _ (codes "session" ∷ commands c.args.generator.now) (codes "end" ∷ [])
    (lines_more c.args.out.now.items _ _ (codes "session" ∷ []) (commands c.args.generator.now) c.in_ok-extend_from_slice.ensures.items c.in_ok-write_commands.ensures.written)
    c.in_ok-extend_from_slice-2.ensures.items
