use Rattle.std.proofs.Common.{◌∙◌, sym}
use Rattle.bs_drive.proofs.Places.{compared_yes, compared_no, name_decides}
use Rattle.bs_drive.proofs.trees.compared.Goals as goal

pub returns-then-eq : goal.returns-then-eq
returns-then-eq c =
    compared_yes c.args.trees.now c.args.pass.now.held c.args.left c.args.right c.in-Some-Some.left c.in-Some-Some.right c.requires.held c.known.ensures.trees
    (sym c.tree_in.ensures ∙ c.in-Some-Some.is-0) (sym c.tree_in-2.ensures ∙ c.in-Some-Some.is-1) ((name_decides c.in-Some-Some.left.name c.in-Some-Some.right.name).0 (sym c.eq.ensures ∙ c.if-eq.true))

pub returns-else-eq : goal.returns-else-eq
returns-else-eq c =
    compared_no c.args.trees.now c.args.pass.now.held c.args.left c.args.right c.in-Some-Some.left c.in-Some-Some.right c.requires.held c.known.ensures.trees
    (sym c.tree_in.ensures ∙ c.in-Some-Some.is-0) (sym c.tree_in-2.ensures ∙ c.in-Some-Some.is-1)
    (λ same. let both = sym c.eq.ensures ∙ c.if-eq.false in let yes_it_is = (name_decides c.in-Some-Some.left.name c.in-Some-Some.right.name).1 same in cc)
