use Rattle.std.proofs.Common.{◌≡◌, ◌∙◌, ◌++◌, ◌∷◌, [], ◌≤◌, length, ap, sym, subst, arith, ℕ, List}
use Rattle.bs_catalog.specs.RowList.{Ascends}
use Rattle.bs_catalog.proofs.RowLists.{ascends_more, ascends_push, cut_to, puts}
use Rattle.bs_catalog.proofs.rows.Rows.push.Goals as goal

pub invariant_of-self : goal.invariant_of-self
invariant_of-self c =
    let ends = c.self.inside.ends.items in
    let pool = c.self.inside.pool.items in
    let cut = cut_to ends c.deref.result.now pool c.len.result c.start_at-end.result c.self.invariant c.deref.ensures.value (omega (arith, c.len.ensures)) c.start_at-end.ensures in
    let le : c.start_at-end.result ≤ length c.append.new.pool.items = omega (arith, c.append.ensures.longer, cut.long, ap length c.truncate.ensures.items) in
    ascends_more 0 ends c.start_at-end.result (length c.append.new.pool.items) cut.ascends le

pub invariant_of-self-in_err-push : goal.invariant_of-self-in_err-push
invariant_of-self-in_err-push c =
    let ends = c.self.inside.ends.items in
    let pool = c.self.inside.pool.items in
    let cut = cut_to ends c.deref.result.now pool c.len.result c.start_at-end.result c.self.invariant c.deref.ensures.value (omega (arith, c.len.ensures)) c.start_at-end.ensures in
    let le : c.start_at-end.result ≤ length c.append.new.pool.items = omega (arith, c.append.ensures.longer, cut.long, ap length c.truncate.ensures.items) in
    subst (λ (xs : List ℕ). Ascends 0 xs (length c.append.new.pool.items)) (sym c.in_err-push.ensures.items) (ascends_more 0 ends c.start_at-end.result (length c.append.new.pool.items) cut.ascends le)

pub invariant_of-self-2 : goal.invariant_of-self-2
invariant_of-self-2 c =
    let ends = c.self.inside.ends.items in
    let pool = c.self.inside.pool.items in
    let cut = cut_to ends c.deref.result.now pool c.len.result c.start_at-end.result c.self.invariant c.deref.ensures.value (omega (arith, c.len.ensures)) c.start_at-end.ensures in
    let le : c.start_at-end.result ≤ length c.append.new.pool.items = omega (arith, c.append.ensures.longer, cut.long, ap length c.truncate.ensures.items) in
    let m : c.len-2.result ≡ length c.append.new.pool.items = omega (arith, c.len-2.ensures) in
    let h : Ascends 0 c.push.new.self.items c.len-2.result =
    subst (λ (xs : List ℕ). Ascends 0 xs c.len-2.result) (sym c.in_ok-push.ensures.items) (ascends_push 0 ends c.start_at-end.result c.len-2.result cut.ascends (omega (arith, le, m))) in
    subst (λ (n : ℕ). Ascends 0 c.push.new.self.items n) m h

pub returns : goal.returns
returns c =
    let ends = c.self.inside.ends.items in
    let pool = c.self.inside.pool.items in
    let row = c.args.first.now ++ (c.args.second.now ++ c.args.third.now) in
    let cut = cut_to ends c.deref.result.now pool c.len.result c.start_at-end.result c.self.invariant c.deref.ensures.value (omega (arith, c.len.ensures)) c.start_at-end.ensures in
    let m : c.len-2.result ≡ length c.append.new.pool.items = omega (arith, c.len-2.ensures) in
    puts ends pool c.args.self.now row c.push.new.self.items c.append.new.pool.items c.start_at-end.result c.self.view_is cut
    (c.in_ok-append.ensures.items ∙ ap (λ (q : List ℕ). q ++ row) c.truncate.ensures.items)
    (c.in_ok-push.ensures.items ∙ ap (λ (n : ℕ). ends ++ n ∷ []) m)
