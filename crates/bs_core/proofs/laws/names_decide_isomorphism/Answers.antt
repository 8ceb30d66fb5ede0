use Rattle.bs_core.proofs.Runs.{names_agree, names_decide, names_keep}
use Rattle.bs_core.proofs.laws.names_decide_isomorphism.Goals as goal

pub returns-clause-each_state : goal.returns-clause-each_state
returns-clause-each_state c = names_agree

pub returns-clause-each_run : goal.returns-clause-each_run
returns-clause-each_run c = names_decide

pub returns-clause-kept : goal.returns-clause-kept
returns-clause-kept c = names_keep
