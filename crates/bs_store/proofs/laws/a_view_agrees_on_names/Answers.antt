use Rattle.bs_store.proofs.Agreeing.{views_agree}
use Rattle.bs_store.proofs.laws.a_view_agrees_on_names.Goals as goal

pub returns : goal.returns
returns c = views_agree
