use Rattle.bs_eval.proofs.LeapRows.{composed_leap, inverse_leap, substituted_leap, modified_leap, modifying_leap}
use Rattle.bs_eval.proofs.leap.leap_at.Goals as goal

pub returns-in-Compose-clause-leap : goal.returns-in-Compose-clause-leap
returns-in-Compose-clause-leap c = λ code h.
    composed_leap c.args.book.now c.args.trees.now code c.args.spot.now.tree h.tree h.coded c.args.spot.now.series c.over_splits.result c.in-Compose.first c.in-Compose.second c.in-Compose.ensures.is c.over_splits.ensures

pub returns-in-Inverse-clause-leap : goal.returns-in-Inverse-clause-leap
returns-in-Inverse-clause-leap c = λ code h.
    inverse_leap c.args.book.now c.args.trees.now code c.args.spot.now.tree h.tree h.coded c.args.spot.now.series c.over_splits-in-Inverse.result c.in-Inverse.of c.in-Inverse.ensures.is c.over_splits-in-Inverse.ensures

pub returns-in-Substitute-clause-leap : goal.returns-in-Substitute-clause-leap
returns-in-Substitute-clause-leap c = λ code h.
    substituted_leap c.args.book.now c.args.trees.now code c.args.spot.now.tree h.tree h.coded c.args.spot.now.series c.over_parts.result c.in-Substitute.inner c.in-Substitute.outer c.in-Substitute.ensures.is c.over_parts.ensures

pub returns-in-Modified-clause-leap : goal.returns-in-Modified-clause-leap
returns-in-Modified-clause-leap c = λ code h.
    modified_leap c.args.book.now c.args.trees.now code c.args.spot.now.tree h.tree h.coded c.args.spot.now.series c.over_parts-in-Modified.result c.in-Modified.of c.in-Modified.ensures.is c.over_parts-in-Modified.ensures

pub returns-in-Modifying-clause-leap : goal.returns-in-Modifying-clause-leap
returns-in-Modifying-clause-leap c = λ code h.
    modifying_leap c.args.book.now c.args.trees.now code c.args.spot.now.tree h.tree h.coded c.args.spot.now.series c.over_parts-in-Modifying.result c.in-Modifying.of c.in-Modifying.ensures.is c.over_parts-in-Modifying.ensures
