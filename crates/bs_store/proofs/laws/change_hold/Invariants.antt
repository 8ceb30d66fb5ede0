use Rattle.bs_core.specs.declared.event.Event.TheVariants.{Hold}
use Rattle.bs_store.proofs.laws.change_hold.Given as goal

abbrev pub ghosts-change : goal.ghosts-change
ghosts-change g a = record { event = Hold a._party a._name }
