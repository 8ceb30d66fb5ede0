use Rattle.bs_store.specs.Seats.{first_hand}
use Rattle.bs_store.specs.Reading.{entered}
use Rattle.bs_store.proofs.room.Room.enter_reading.Given as goal

abbrev pub ghosts-enter_seat : goal.ghosts-enter_seat
ghosts-enter_seat g a = record { path = entered a._name (first_hand a.pass.me.0.hands).held (first_hand a.pass.me.0.hands).path }
