use Rattle.std.proofs.Common.{◌≡◌, ◌∙◌, ◌++◌, ℕ, List, sym, ap, subst}
use Rattle.bs_frac.specs.Fraction.{Fraction}
use Rattle.bs_tableau.specs.Table.{Table}
use Rattle.bs_reply.specs.Lines.{series_line}
use Rattle.bs_series.specs.Series.{Series, empty_value, colours_of}
use Rattle.bs_series.specs.Accepted.{IsAccepted}
use Rattle.bs_series.specs.Expressions.{series_at, wanted}
use Rattle.bs_names.specs.Names.{at}
use Rattle.bs_names.specs.Known.{Known, plain, with_series}
use Rattle.bs_command.specs.Commands.{Outcome}
use Rattle.bs_command.specs.Changes.{Says}
use Rattle.bs_names.specs.Space.{IsBookOf}
use Rattle.bs_command.specs.declared.change.Change.TheVariants.{Define}
use Rattle.bs_command.proofs.Named.{no_series, known-stays, answers}
use Rattle.bs_command.proofs.series.make_named.Goals as goal

-- the series that was made
abbrev made : (c : goal.In_ok-write_line) → Series
made c = series_at c.make.new.self.book c.in-Ok.series

accepted : (c : goal.In_ok-write_line) → IsAccepted (plain c.args.tables.now) (wanted (plain c.args.tables.now) c.args.names.now.book c.args.kind)
accepted c = subst (λ (t : List Table). IsAccepted t (wanted t c.args.names.now.book c.args.kind)) c.tables.ensures c.in-Ok.ensures.outcome

is_wanted : (c : goal.In_ok-write_line) → made c ≡ wanted (plain c.args.tables.now) c.args.names.now.book c.args.kind
is_wanted c = subst (λ (t : List Table). made c ≡ wanted t c.args.names.now.book c.args.kind) c.tables.ensures c.in-Ok.ensures.is.1

book : (c : goal.In_ok-write_line) → IsBookOf (plain c.args.tables.now) c.args.names.now c.make.new.self
book c = subst (λ (t : List Table). IsBookOf t c.args.names.now c.make.new.self) c.tables.ensures c.in-Ok.ensures.rest

empty : (c : goal.In_ok-write_line) → c.empty_value-empty.result ≡ empty_value (made c)
empty c = c.empty_value-empty.ensures ∙ ap (λ (es : List Series). empty_value (series_at es c.in-Ok.series)) c.book.ensures

colours : (c : goal.In_ok-write_line) → c.colours-colours.result ≡ colours_of (made c)
colours c = c.colours-colours.ensures.value ∙ ap (λ (es : List Series). colours_of (series_at es c.in-Ok.series)) c.book-2.ensures

line : (c : goal.In_ok-write_line) → c.write_line.new.out.items ≡ c.args.out.now.items ++ series_line c.args.name.now (empty_value (made c)) (colours_of (made c))
line c =
    subst (λ (e : Fraction). c.write_line.new.out.items ≡ c.args.out.now.items ++ series_line c.args.name.now e (colours_of (made c))) (empty c)
    (subst (λ (k : ℕ). c.write_line.new.out.items ≡ c.args.out.now.items ++ series_line c.args.name.now c.empty_value-empty.result k) (colours c) c.in_ok-write_line.ensures.written)

pub returns-clause-says : goal.returns-clause-says
returns-clause-says c =
    let old = c.args.names.now in
    let new = c.make.new.self in
    let name = c.args.name.now in
    subst (λ (o : Outcome). Says new o c.args.out.now.items c.write_line.new.out.items (Define c.args.name c.in-Ok.series)) (sym (answers (plain c.args.tables.now) old name c.args.kind (made c) (is_wanted c) (accepted c)))
    (ap (λ (k : Known). with_series k name (made c)) (known-stays (plain c.args.tables.now) old new (book c)), line c, (c.in-Ok.ensures.is.0, ap (at name) (book c).series ∙ no_series old name c.requires.free))
