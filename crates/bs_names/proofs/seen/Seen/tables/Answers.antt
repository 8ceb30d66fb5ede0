use Rattle.std.proofs.Common.{◌≡◌, take, subst}
use Rattle.bs_names.specs.Known.{Tables, plain}
use Rattle.bs_names.proofs.TablesSeen.{tables_alone}
use Rattle.bs_names.proofs.seen.Seen.tables.Goals as goal

pub returns : goal.returns
returns c =
    let script = c.self.inside.script.now in
    rw c.tables.ensures.value
    (subst (λ (t : Tables). take c.self.inside.above script.tables ≡ plain t) c.self.view_is (tables_alone script.table_names script.tables c.self.inside.above c.tables.ensures.sound.named))
