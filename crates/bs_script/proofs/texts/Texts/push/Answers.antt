use Rattle.std.proofs.Common.{◌≡◌, ◌≤◌, ◌+◌, length, arith}
use Rattle.bs_script.proofs.Pieces.{ends_more, pieces-push}
use Rattle.bs_script.proofs.texts.Texts.push.Goals as goal

pub invariant_of-self-2 : goal.invariant_of-self-2
invariant_of-self-2 c =
    let whole : length c.extend_from_slice.new.self.items ≡ c.len.result = omega (arith, c.extend_from_slice.new.self.ok.0, c.len.ensures) in
    let grown : length c.self.inside.bytes.items ≤ c.len.result = omega (arith, c.self.inside.bytes.ok.0, c.len.ensures, c.in_ok-extend_from_slice.ensures.len) in
    rw (c.push_reserved.ensures.items, c.in_ok-reserve.ensures.items, whole) (ends_more 0 _ _ _ c.self.invariant grown)

pub returns-clause-ok : goal.returns-clause-ok
returns-clause-ok c =
    let next : c.len.result ≡ length c.self.inside.bytes.items + length c.args.text.now = omega (arith, c.self.inside.bytes.ok.0, c.len.ensures, c.in_ok-extend_from_slice.ensures.len) in
    rw (c.push_reserved.ensures.items, c.in_ok-reserve.ensures.items, c.in_ok-extend_from_slice.ensures.items, ← c.self.view_is) (pieces-push _ _ 0 _ _ c.self.invariant next)
