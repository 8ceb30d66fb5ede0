use Rattle.bs_make.proofs.Sessions.{made_are_scripts, sessions_are, commands_of_each}
use Rattle.bs_make.proofs.laws.made_inputs_are_scripts.Goals as goal

pub returns-clause-script : goal.returns-clause-script
returns-clause-script c = made_are_scripts

pub returns-clause-sessions : goal.returns-clause-sessions
returns-clause-sessions c = sessions_are

pub returns-clause-commands : goal.returns-clause-commands
returns-clause-commands c = commands_of_each
