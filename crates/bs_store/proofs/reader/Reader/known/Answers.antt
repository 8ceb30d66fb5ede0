use Rattle.std.proofs.Common.{ap, subst}
use Rattle.bs_store.specs.Seats.{hand_of}
use Rattle.bs_store.specs.Walks.{Sound}
use Rattle.bs_store.specs.Reading.{OfReader}
use Rattle.bs_store.proofs.Rooms.{known_sound}
use Rattle.bs_store.proofs.Readers.{known_path}
use Rattle.bs_store.proofs.reader.Reader.known.Goals as goal

pub returns-clause-held : goal.returns-clause-held
returns-clause-held c = subst Sound (ap (λ (r : OfReader). r.pass.held) c.self.view_is) (known_sound (hand_of c.self.inside.badge.views) c.self.invariant.known)

pub returns-clause-path : goal.returns-clause-path
returns-clause-path c = subst Sound (ap (λ (r : OfReader). r.path) c.self.view_is) (known_path (hand_of c.self.inside.badge.views) c.self.invariant.known)
