use Rattle.std.proofs.Common.{[], ◌∷◌, sym, ◌∙◌, ap, subst}
use Rattle.bs_frac.specs.Gathered.{Multiplied, multiplied, IsProductOf}
use Rattle.bs_frac.specs.declared.coef.Coef.TheVariants.{Value}
use Rattle.bs_frac.proofs.Gathered.{one_product}
use Rattle.bs_frac.proofs.whole_product.of_fraction.Goals as goal

pub returns : goal.returns
returns c =
    let x = c.args.value.now in
    subst (λ (m : Multiplied). IsProductOf m (Value x ∷ [])) (sym (c.of_parts.ensures ∙ ap multiplied (sym c.parts-negative.ensures.value))) (one_product x c.parts-negative.ensures.reduced)
