use Rattle.std.proofs.Common.{subst}
use Rattle.bs_core.specs.Codes.{Code}
use Rattle.bs_core.specs.Machine.{pair}
use Rattle.bs_store.specs.Walks.{More}
use Rattle.bs_drive.proofs.Places.{has_times, has_code}
use Rattle.bs_drive.proofs.trees.release.Goals as goal

pub release-requires-clause-held : goal.release-requires-clause-held
release-requires-clause-held g c = has_times c.args.pass.now.held c.args.tree c.requires.held

pub returns-clause-less : goal.returns-clause-less
returns-clause-less g c =
    subst (λ (code : Code). More (pair c.args.tree.name code) c.release.new.pass.held c.args.pass.now.held)
    (has_code c.args.pass.now.held c.args.tree c.known.ensures.sound c.requires.held) c.release.ensures.held
