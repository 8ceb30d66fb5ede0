use Rattle.bs_store.proofs.Makes.{deals_table}
use Rattle.bs_store.proofs.parts.next_desk.Goals as goal

pub split_seat-seat-requires : goal.split_seat-seat-requires
split_seat-seat-requires c = (c.requires.board.0, c.requires.board.1, deals_table _ _ _ _)
