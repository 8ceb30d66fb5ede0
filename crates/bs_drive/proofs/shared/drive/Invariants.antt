use Rattle.std.proofs.Common.{◌≡◌, ◌+◌, ◌≤◌, []}
use Rattle.bs_session.specs.Machine.{session_at, plain_of, found_of, said, lines_left, left, IsSound, IsTruthful}
use Rattle.bs_session.specs.Replies.{session_replies}
use Rattle.bs_session.specs.Needed.{session_need}
use Rattle.bs_session.specs.Listing.{session_listed}
use Rattle.bs_alone.specs.Fits.{Fits}
use Rattle.bs_store.specs.Walks.{SamePass}
use Rattle.bs_drive.specs.Once.{IsOnce}
use Rattle.bs_drive.specs.Shared.{AreHeld, SameBeside}
use Rattle.bs_drive.proofs.shared.drive.Given as goal

abbrev pub invariant-steps : goal.invariant-steps
invariant-steps g l = record {
  sound : IsSound l.script l.session;
  truthful : IsTruthful l.script l.session l.given;
  said : said l.script l.session ≡ session_replies l.script (session_at l.script l.number);
  held : AreHeld l.trees.items l.session;
  fits : Fits (plain_of l.script l.session) l.session.space.book l.sheet;
  number : l.session.number ≡ l.number;
  once : IsOnce (session_need l.script (session_at l.script l.number)) l.session (found_of l.given) l.sheet (l.fn.steps + session_listed l.script (session_at l.script l.number)) (l.steps + lines_left l.script l.session);
  same : SamePass l.fn.pass l.pass;
  beside : SameBeside [] l.fn.pass.held l.trees.items l.pass.held;
  gains : l.fn.pass.gains + l.session.interned ≤ l.pass.gains;
}

abbrev pub decreases-steps : goal.decreases-steps
decreases-steps g l = left l.script l.session
