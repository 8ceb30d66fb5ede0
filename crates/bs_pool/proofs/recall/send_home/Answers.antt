use Rattle.std.proofs.Common.{◌<◌, length, ◌∙◌, ap, sym, arith}
use Rattle.bs_pool.specs.Seats.{deque_of}
use Rattle.bs_pool.specs.Moves.{Got}
use Rattle.bs_pool.proofs.Lists.{upto_more}
use Rattle.bs_pool.proofs.Homes.{lined_first, lined_rest, lined_below, got_of, home_taken}
use Rattle.bs_pool.proofs.recall.send_home.Goals as goal

pub rejoin-requires : goal.rejoin-requires
rejoin-requires c =
    let i = c.loop-thief.invariant in
    let v = c.index_mut.result.now in
    lined_first c.loop-thief.worker _ _ c.in-Some.thief c.args.seats.now.items v c.in-Some.ensures.steps.0 i.lined ∙ sym (ap deque_of (c.index_mut.ensures.value ∙ i.upto.rest c.loop-thief.worker v (omega arith)))

pub loop-thief-preserved : goal.loop-thief-preserved
loop-thief-preserved c =
    let i = c.loop-thief.invariant in
    let k = c.loop-thief.worker in
    let v = c.index_mut.result.now in
    let s = c.in-Some.ensures.steps.0 in
    let below : k < length c.args.seats.now.items = lined_below k _ _ c.in-Some.thief c.args.seats.now.items s i.lined in
    let here : k < length c.loop-thief.seats.items = let o = i.upto.long in omega arith in record {
      upto = upto_more Got k c.args.seats.now.items c.loop-thief.seats.items v c.rejoin.new.self i.upto below c.index_mut.ensures.value (got_of c.in-Some.thief v c.rejoin.new.self c.in-Some.thief.put c.rejoin.ensures);
      lined = lined_rest k _ _ c.in-Some.thief c.args.seats.now.items s i.lined;
      taken = λ x. home_taken x c.loop-thief.seats.items k v c.rejoin.new.self _ _ c.in-Some.thief _ 0 here c.index_mut.ensures.value c.rejoin.ensures s (i.taken x);
    }
