use Rattle.std.proofs.Common.{[], ◌∷◌, ◌++◌, take}
use Rattle.bs_catalog.specs.Forests.{AreGroups}
use Rattle.bs_catalog.proofs.gathering.grouped.Given as goal

abbrev pub invariant-keys : goal.invariant-keys
invariant-keys l = AreGroups (take l.place l.keys) (l.groups.items ++ l.group ∷ [])
