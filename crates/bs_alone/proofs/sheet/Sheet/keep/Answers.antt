use Rattle.std.proofs.Common.{ap, sym, subst, ◌∙◌}
use Rattle.bs_alone.specs.Packed.{AreKeys, sheet_of}
use Rattle.bs_alone.specs.Sheet.{kept_with}
use Rattle.bs_alone.specs.Fits.{Fits}
use Rattle.bs_alone.proofs.Entries.{sheet_of-insert, keys-insert, is_key-of}
use Rattle.bs_alone.proofs.Fitting.{fits-with}
use Rattle.bs_alone.proofs.sheet.Sheet.keep.Goals as goal

pub returns-clause-kept : goal.returns-clause-kept
returns-clause-kept c =
    ap sheet_of c.in_ok-insert.ensures.entries
    ∙ sheet_of-insert c.args.series c.pack.result c.args.code c.args.coef c.self.inside.pairs.entries (sym c.pack.ensures.value) c.pack.ensures.back c.self.invariant
    ∙ ap (λ sheet. kept_with sheet c.args.series c.args.code c.args.coef) c.self.view_is

pub returns-clause-fits : goal.returns-clause-fits
returns-clause-fits c tables es fits right =
    subst (Fits tables es) (sym (returns-clause-kept c)) (fits-with tables es c.args.self.now c.args.series c.args.code c.args.coef fits right)

pub invariant_of-self-2 : goal.invariant_of-self-2
invariant_of-self-2 c =
    let packs = sym c.pack.ensures.value in
    subst AreKeys (sym c.in_ok-insert.ensures.entries)
    (keys-insert (c.args.series, c.pack.result) c.args.coef c.self.inside.pairs.entries c.self.invariant (is_key-of c.args.series c.pack.result c.args.code packs c.pack.ensures.back))
