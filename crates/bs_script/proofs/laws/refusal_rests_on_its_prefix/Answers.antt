use Rattle.bs_script.proofs.Prefix.{refusal_rests}
use Rattle.bs_script.proofs.laws.refusal_rests_on_its_prefix.Goals as goal

pub returns : goal.returns
returns c = refusal_rests
