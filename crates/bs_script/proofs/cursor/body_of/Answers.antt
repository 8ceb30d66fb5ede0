use Rattle.std.proofs.Common.{sym, ap, ◌∙◌, [], ◌∷◌, Some, None}
use Rattle.std.proofs.lemmas.Slice.Eq.{strip_suffix_is}
use Rattle.std.proofs.lemmas.Bool.Decides.{Decides-eqb}
use Rattle.bs_script.specs.Lines.{without_return}
use Rattle.bs_script.proofs.Cuts.{without_return-at, without_return-none}
use Rattle.bs_script.proofs.cursor.body_of.Goals as goal

pub returns-in-Some : goal.returns-in-Some
returns-in-Some c =
    let e = strip_suffix_is Decides-eqb c.args.line.now (13 ∷ []) (Some c.in-Some.front) c.in-Some.ensures.cases in
    sym (ap without_return e ∙ without_return-at c.in-Some.front.now)

pub returns-in-None : goal.returns-in-None
returns-in-None c =
    sym (without_return-none c.args.line.now (strip_suffix_is Decides-eqb c.args.line.now (13 ∷ []) None c.in-None.ensures.cases))
