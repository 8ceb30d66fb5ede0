use Rattle.bs_store.proofs.Changes.{changes}
use Rattle.bs_store.proofs.change.step.Goals as goal

pub fetch_add-requires : goal.fetch_add-requires
fetch_add-requires g c = let r = c.requires.board in (r.0, r.1, changes _ _ _ _ _ _ _ c.requires.may)
