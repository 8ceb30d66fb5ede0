use Rattle.bs_core.specs.declared.event.Event.TheVariants.{Give}
use Rattle.bs_store.proofs.laws.change_give.Given as goal

abbrev pub ghosts-change : goal.ghosts-change
ghosts-change g a = record { event = Give a._party a._other a._name }
