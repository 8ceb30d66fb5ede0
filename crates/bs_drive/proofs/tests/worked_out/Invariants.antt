use Rattle.std.proofs.Common.{◌≡◌}
use Rattle.bs_session.specs.Machine.{plain_of, IsSound, IsTruthful}
use Rattle.bs_alone.specs.Fits.{Fits}
use Rattle.bs_drive.specs.Alone.{AreKept}
use Rattle.bs_drive.proofs.tests.worked_out.Given as goal

abbrev pub invariant-steps : goal.invariant-steps
invariant-steps g l = record {
  sound : IsSound l.script l.session;
  truthful : IsTruthful l.script l.session l.given;
  kept : AreKept l.codes.items l.session;
  number : l.session.number ≡ 0;
  fits : Fits (plain_of l.script l.session) l.session.space.book l.sheet;
}
