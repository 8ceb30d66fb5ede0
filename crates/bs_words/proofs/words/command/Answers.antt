use Rattle.std.proofs.Common.{rules, ◌≡◌, ◌∙◌, ap, ap₂, codes, Some, ℤ, subst}
use Rattle.std.specs.Prelude.{pos}
use Rattle.std.specs.declared.ops.Bound.TheVariants.{Included}
use Rattle.clap.specs.Values.{NarrowsTo, end_of, start_of}
use Rattle.std.proofs.lemmas.Result.{IfOk-weaker}
use Rattle.clap.specs.Words.{Rule, Text, app_of, new_app, new_rule, rule_of, with_rule}
use Rattle.clap.specs.Simple.{app_of_fields}
use Rattle.clap.specs.declared.builder.Arg.{Arg}
use Rattle.clap.specs.declared.builder.ArgAction.TheVariants.{Set}
use Rattle.clap.specs.declared.builder.ValueParser.{ValueParser}
use Rattle.clap.specs.declared.builder.ValueParser.TheVariants.{Unsigned}
use Rattle.bs_words.specs.Words.{nameless, option}
use Rattle.bs_words.proofs.words.command.Goals as goal

abbrev bare : Text → Rule
bare id = record (new_rule id) { long = Some id; action = Some Set }

with_parser : (id : Text) (a r : Arg) (p : ValueParser) → rule_of a ≡ bare id → r ≡ record a { value_parser = r.value_parser } → r.value_parser ≡ Some p
    → rule_of r ≡ option id p
with_parser id a r p bare_is same is =
    ap rule_of same ∙ (ap (λ v. record (rule_of a) { parser = v }) is ∙ ap (λ (q : Rule). record q { parser = Some p }) bare_is)

from_to : (low high : ℤ) (q : ValueParser) → low ≡ pos 1 → high ≡ pos 64
    → NarrowsTo (Unsigned 0 18446744073709551615) (start_of (Included low)) (end_of (Included high)) q → q ≡ Unsigned 1 64
from_to low high q l h narrows =
    subst (λ (k : ℤ). NarrowsTo (Unsigned 0 18446744073709551615) (start_of (Included k)) (end_of (Included (pos 64))) q) l
    (subst (λ (k : ℤ). NarrowsTo (Unsigned 0 18446744073709551615) (start_of (Included low)) (end_of (Included k)) q) h narrows)

pub returns : goal.returns
returns c =
    let workers_parser : c.range.result ≡ Unsigned 1 64 =
    from_to c.new-2.result.start c.new-2.result.end c.range.result c.new-2.ensures.start c.new-2.ensures.end (rw c.value_parser.ensures at c.range.ensures) in
    let memo_parser : c.range-2.result ≡ Unsigned 0 1048576 = rw c.value_parser-2.ensures at c.range-2.ensures in
    let workers_bare : rule_of c.action.result ≡ bare (codes "workers") = search rules in
    let memo_bare : rule_of c.action-2.result ≡ bare (codes "memo") = search rules in
    let make_bare : rule_of c.action-3.result ≡ bare (codes "make") = search rules in
    let workers_given = c.value_parser-workers.ensures.given in
    let memo_given = c.value_parser-memo.ensures.given in
    let make_given = c.value_parser-make.ensures.given in
    let workers_is : rule_of c.value_parser-workers.result ≡ option (codes "workers") (Unsigned 1 64) =
    with_parser _ c.action.result c.value_parser-workers.result _ workers_bare c.value_parser-workers.ensures.others (workers_given.1 ∙ ap (λ (q : ValueParser). Some q) (workers_given.2 ∙ workers_parser)) in
    let memo_is : rule_of c.value_parser-memo.result ≡ option (codes "memo") (Unsigned 0 1048576) =
    with_parser _ c.action-2.result c.value_parser-memo.result _ memo_bare c.value_parser-memo.ensures.others (memo_given.1 ∙ ap (λ (q : ValueParser). Some q) (memo_given.2 ∙ memo_parser)) in
    let make_is : rule_of c.value_parser-make.result ≡ option (codes "make") (Unsigned 0 18446744073709551615) =
    with_parser _ c.action-3.result c.value_parser-make.result _ make_bare c.value_parser-make.ensures.others (make_given.1 ∙ ap (λ (q : ValueParser). Some q) (make_given.2 ∙ c.value_parser-3.ensures)) in
    let start : app_of c.no_binary_name.result ≡ nameless (new_app (codes "bseries")) =
    ap app_of_fields c.no_binary_name.ensures ∙ ap nameless c.new-5.ensures.app in
    let one : app_of c.in_ok-arg.field-0 ≡ with_rule (nameless (new_app (codes "bseries"))) (option (codes "workers") (Unsigned 1 64)) =
    c.in_ok-arg.ensures.shape (search rules) ∙ ap₂ with_rule start workers_is in
    let two : app_of c.in_ok-arg-2.field-0 ≡ with_rule (with_rule (nameless (new_app (codes "bseries"))) (option (codes "workers") (Unsigned 1 64))) (option (codes "memo") (Unsigned 0 1048576)) =
    c.in_ok-arg-2.ensures.shape (search rules) ∙ ap₂ with_rule one memo_is in
    IfOk-weaker c.arg-3.result _ _ (λ r h. h.shape (search rules) ∙ ap₂ with_rule two make_is) c.arg-3.ensures
