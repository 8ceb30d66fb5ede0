use Rattle.std.proofs.Common.{◌≡◌, ap, sym, subst, ◌∙◌}
use Rattle.std.specs.Option.{IfSome}
use Rattle.bs_alone.specs.Sheet.{kept}
use Rattle.bs_alone.specs.Fits.{IsWritten}
use Rattle.bs_alone.proofs.Entries.{kept-of}
use Rattle.bs_alone.proofs.sheet.Sheet.look.Goals as goal

pub returns : goal.returns
returns c =
    let value : c.copied.result ≡ kept c.args.self.now c.args.series c.args.code.now =
    c.copied.ensures
    ∙ c.get.ensures.value
    ∙ sym (kept-of c.args.series c.pack.result c.args.code.now c.self.inside.pairs.entries (sym c.pack.ensures.value) c.pack.ensures.back c.self.invariant)
    ∙ ap (λ sheet. kept sheet c.args.series c.args.code.now) c.self.view_is in
    record {
      value = value;
      fits = λ tables es fits. subst (λ o. IfSome o (IsWritten tables es c.args.series c.args.code.now)) (sym value) (fits c.args.series c.args.code.now);
    }
