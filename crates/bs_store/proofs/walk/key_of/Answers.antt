use Rattle.std.proofs.Common.{subst, arith}
use Rattle.bs_tree.specs.Code.{IsCode}
use Rattle.bs_store.proofs.CodeLists.{children_few}
use Rattle.bs_store.proofs.walk.key_of.Goals as goal

pub new-requires-clause-few : goal.new-requires-clause-few
new-requires-clause-few c = let f = children_few c.args.code.now (subst IsCode c.pairs-pairs.ensures.value c.pairs-pairs.ensures.code) in omega (arith, c.requires)
