use Rattle.bs_core.specs.declared.event.Event.TheVariants.{Release}
use Rattle.bs_store.proofs.laws.change_release.Given as goal

abbrev pub ghosts-change : goal.ghosts-change
ghosts-change g a = record { event = Release a._party a._name }
