use Rattle.std.proofs.Common.{◌≡◌, ◌+◌, [], ◌∷◌, ◌++◌, List, length, length-append, max, sym, ap, ◌∙◌, subst, arith}
use Rattle.lru.specs.LruCache.{lru_cache}
use Rattle.bs_memo.specs.Stripes.{AreRooms, share_of}
use Rattle.bs_memo.proofs.Filling.{Cache, rooms_push}
use Rattle.bs_memo.proofs.memo.make_caches.Goals as goal

pub stripes-preserved : goal.stripes-preserved
stripes-preserved c =
    let i = c.stripes.invariant in
    let old = c.stripes.caches.items in
    let come = c.in_ok-sparse.field-0 in
    let items : c.push_back.new.self.items ≡ old ++ come ∷ [] = c.in_ok-push_back.ensures.items in
    let room = c.in_ok-sparse.ensures ∙ ap (λ n. lru_cache [] n) (c.room_for-room.ensures ∙ ap (max 1) c.share.ensures) in
    let long = i.long in record {
      long = let e = ap (length {A = Cache}) items ∙ length-append old (come ∷ []) in omega arith;
      rooms = subst (AreRooms c.args.capacity 0 c.args.stripes) (sym items) (rooms_push c.args.capacity 0 c.args.stripes c.stripes.place old come i.rooms (omega arith) room);
    }
