use Rattle.bs_store.specs.Rule.{lasts}
use Rattle.bs_store.specs.Seats.{first_hand, first_table}
use Rattle.bs_store.specs.Reading.{step_on}
use Rattle.bs_store.proofs.room.Room.leave_reading.Given as goal

abbrev pub ghosts-leave_seat : goal.ghosts-leave_seat
ghosts-leave_seat g a = record { path = step_on a._name a._pending.now.items (first_table a.seat.now.me.0.tables) (first_hand (lasts a.seat.now.me.0.hands)) }
