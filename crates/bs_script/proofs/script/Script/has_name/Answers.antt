use Rattle.std.proofs.Common.{◌∙◌, ap, is_some}
use Rattle.bs_script.proofs.Places.{place_of-among}
use Rattle.bs_script.proofs.script.Script.has_name.Goals as goal

pub returns : goal.returns
returns c = c.is_some.ensures ∙ ap is_some c.find_table.ensures ∙ place_of-among c.args.name.now c.args.self.now.table_names
