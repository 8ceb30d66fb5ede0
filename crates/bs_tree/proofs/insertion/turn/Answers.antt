use Rattle.std.proofs.Common.{◌≡◌, ◌≤◌, ℕ, List, ◌++◌, ◌-◌, ◌∙◌, sym, ap, take, drop, reverse, length, length-drop, length-append, arith}
use Rattle.std.proofs.lemmas.List.{take_all, length-take-le}
use Rattle.std.proofs.lemmas.Slice.{take-put_mid}
use borrow.Rule.Slice.PartMut.{put_mid, same_len_mid}
use Rattle.bs_tree.proofs.Insertions.{turned_round}
use Rattle.bs_tree.proofs.insertion.turn.Goals as goal

-- the back part is put behind the front
put_back : (n : ℕ) (xs ys : List (ℕ × ℕ)) → n ≤ length xs → length ys ≡ length (take (length xs - n) (drop n xs)) → put_mid n (length xs - n) xs ys ≡ take n xs ++ ys
put_back n xs ys h e =
    let short : length (put_mid n (length xs - n) xs ys) ≡ length xs = same_len_mid n (length xs - n) xs ys e in
    let long : length ys ≡ length xs - n = omega (arith, e, length-take-le (length xs - n) (drop n xs) (omega (arith, length-drop n xs))) in
    sym (take_all (length xs) (put_mid n (length xs - n) xs ys) (omega arith)) ∙ take-put_mid n (length xs - n) xs ys (length xs) (omega arith) h

pub returns : goal.returns
returns c =
    let ps = c.args.pairs.now in
    let n = c.args.count in
    let x = c.reverse.new.self in
    let once = x ++ drop n ps in
    let long : n ≤ length once = omega (arith, c.requires, length-append x (drop n ps), c.reverse.ensures.len, length-take-le n ps c.requires) in
    let whole : take (length once - n) (drop n once) ≡ drop n once = take_all (length once - n) (drop n once) (omega (arith, length-drop n once)) in
    c.reverse-3.ensures.after
    ∙ ap reverse (put_back n once c.reverse-2.new.self long c.reverse-2.ensures.len)
    ∙ ap (λ (z : List (ℕ × ℕ)). reverse (take n once ++ z)) (c.reverse-2.ensures.after ∙ ap reverse whole)
    ∙ ap (λ (z : List (ℕ × ℕ)). reverse (take n (z ++ drop n ps) ++ reverse (drop n (z ++ drop n ps)))) c.reverse.ensures.after
    ∙ turned_round ps n c.requires
