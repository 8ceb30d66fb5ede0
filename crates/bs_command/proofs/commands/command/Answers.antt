use Rattle.std.proofs.Common.{Some, refl, sym, ◌∙◌, ap}
use Rattle.bs_command.specs.declared.verb.Verb.{Verb}
use Rattle.bs_command.specs.declared.verb.Verb.TheVariants.{Coeff, Print, Equal}
use Rattle.bs_command.proofs.Begun.{begins-line}
use Rattle.bs_command.proofs.commands.command.Goals as goal

pub returns-in-Ok-coeff-clause-carried : goal.returns-in-Ok-coeff-clause-carried
returns-in-Ok-coeff-clause-carried g c =
    let line = sym c.new-words.ensures ∙ c.in-Some.ensures in
    (begins-line c.args.tables.now c.args.names.now _ _ c.in-Some.first.now Coeff c.coeff.new.work line (sym c.in-Some-Coeff.ensures ∙ ap (λ (v : Verb). Some v) c.in-Some-Coeff.field-0-is) (c.in-Ok-coeff.ensures.begins c.args.tables.now), refl)

pub returns-in-Ok-print-clause-carried : goal.returns-in-Ok-print-clause-carried
returns-in-Ok-print-clause-carried g c =
    let line = sym c.new-words.ensures ∙ c.in-Some.ensures in
    (begins-line c.args.tables.now c.args.names.now _ _ c.in-Some.first.now Print c.print.new.work line (sym c.in-Some-Print.ensures ∙ ap (λ (v : Verb). Some v) c.in-Some-Print.field-0-is) (c.in-Ok-print.ensures.begins c.args.tables.now), refl)

pub returns-in-Ok-equal-clause-carried : goal.returns-in-Ok-equal-clause-carried
returns-in-Ok-equal-clause-carried g c =
    let line = sym c.new-words.ensures ∙ c.in-Some.ensures in
    (begins-line c.args.tables.now c.args.names.now _ _ c.in-Some.first.now Equal c.equal.new.work line (sym c.in-Some-Equal.ensures ∙ ap (λ (v : Verb). Some v) c.in-Some-Equal.field-0-is) (c.in-Ok-equal.ensures.begins c.args.tables.now), refl)
