use Rattle.std.proofs.Common.{◌≡◌, arith, rules, sym, length, subst}
use Rattle.bs_frac.proofs.Numbers.{IsRead, no_digit, read_step, read_done, read_limit, no_start}
use Rattle.bs_frac.proofs.read.number_within.Goals as goal

pub returns-in_default-clause-value : goal.returns-in_default-clause-value
returns-in_default-clause-value c = no_digit c.args.limit c.bytes.value c.args.word.now c.bytes.byte-index c.bytes-test.true c.bytes.invariant.value_is c.in_default.ensures

pub bytes-preserved : goal.bytes-preserved
bytes-preserved c =
    let e = c.in-Some.ensures in
    rw e.1 (read_step c.args.limit c.bytes.value c.args.word.now c.bytes.byte-index c.bytes-test.true c.bytes.invariant e.0.0 e.0.1)

pub returns-clause-value : goal.returns-clause-value
returns-clause-value c =
    let w = c.args.word.now in
    let e : c.bytes.byte-index ≡ length w = omega arith in
    read_done c.args.limit c.bytes.value w (sym c.if-not-starts_well.ensures) (subst (IsRead c.args.limit c.bytes.value w) e c.bytes.invariant)

pub returns-then-not-starts_well-clause-value : goal.returns-then-not-starts_well-clause-value
returns-then-not-starts_well-clause-value c = no_start c.args.limit c.args.word.now (sym c.if-not-starts_well.ensures)

pub returns-clause-limit : goal.returns-clause-limit
returns-clause-limit c =
    let w = c.args.word.now in
    let e : c.bytes.byte-index ≡ length w = omega arith in
    let bound = read_limit c.args.limit c.bytes.value w (sym c.if-not-starts_well.ensures) (subst (IsRead c.args.limit c.bytes.value w) e c.bytes.invariant) in
    search (rules, bound)
