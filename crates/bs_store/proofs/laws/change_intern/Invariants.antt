use Rattle.bs_core.specs.declared.event.Event.TheVariants.{Intern}
use Rattle.bs_store.proofs.laws.change_intern.Given as goal

abbrev pub ghosts-change_coded : goal.ghosts-change_coded
ghosts-change_coded g a = record { event = Intern a._party a._code.now a._name }
