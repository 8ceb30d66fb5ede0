-- Each move keeps the rule of a deque.
use Rattle.std.proofs.Common.{◌≡◌, ℕ, zero, suc, ◌+◌, ◌-◌, ◌<◌, List, [], ◌∷◌, ◌++◌, set, refl, sym, ap, ⊎_elim, arith}
use mathlib.Core.Option.{some, some-injective, some-ne-none}
use lib.ListN.{get_elem?}
use Rattle.crossbeam_deque.specs.Tasks.{Pushes, Takes, Pops, Forks, Merges, Finds}
use Rattle.crossbeam_deque.proofs.Lists.{at_set}
use Rattle.bs_pool.specs.declared.hand.Hand.{Hand}
use Rattle.bs_pool.specs.Hands.{hand, times, total, Each, Idle, Balanced, Spent}
use Rattle.bs_pool.proofs.Totals.{times_append, total_append, total_set, total_one, each_at, each_set, each_append}

pub begins : Balanced [] (hand 1024 [] [] ∷ [])
begins = record { whole = refl; even = λ x. refl; idle = ((λ none. absurd (omega arith)), tt) }

pub deals : (port : ℕ) (v : Hand) (xs : List ℕ) → 0 < v.parts → Pushes Balanced port v xs (λ w. w ≡ hand v.parts (v.put ++ xs) v.taken)
deals port v xs some_part items views b at =
    let w : Hand = hand v.parts (v.put ++ xs) v.taken in (
      w,
      record {
        whole = let s = total_set (λ (u : Hand). u.parts) views port v w at in let p = b.whole in omega arith;
        even = λ x.
            let s = total_set (λ (u : Hand). times x u.put) views port v w at in
            let t = total_set (λ (u : Hand). times x u.taken) views port v w at in
            let a = times_append x v.put xs in
            let c = times_append x items xs in
            let p = b.even x in omega arith;
        idle = each_set Idle views port w b.idle (λ none. absurd (omega arith));
      },
      refl,
    )

pub takes : (port : ℕ) (v : Hand) → 0 < v.parts → Takes Balanced port v 1 (λ xs w. w ≡ hand v.parts v.put (v.taken ++ xs))
takes port v some_part xs items views _ _ b at =
    let w : Hand = hand v.parts v.put (v.taken ++ xs) in (
      w,
      record {
        whole = let s = total_set (λ (u : Hand). u.parts) views port v w at in let p = b.whole in omega arith;
        even = λ x.
            let s = total_set (λ (u : Hand). times x u.put) views port v w at in
            let t = total_set (λ (u : Hand). times x u.taken) views port v w at in
            let a = times_append x v.taken xs in
            let c = times_append x xs items in
            let p = b.even x in omega arith;
        idle = each_set Idle views port w b.idle (λ none. absurd (omega arith));
      },
      refl,
    )

pub pops : (port : ℕ) (v : Hand) → 0 < v.parts → Pops Balanced port v (λ xs w. w ≡ hand v.parts v.put (v.taken ++ xs))
pops port v some_part y items views b at =
    let w : Hand = hand v.parts v.put (v.taken ++ y ∷ []) in (
      w,
      record {
        whole = let s = total_set (λ (u : Hand). u.parts) views port v w at in let p = b.whole in omega arith;
        even = λ x.
            let s = total_set (λ (u : Hand). times x u.put) views port v w at in
            let t = total_set (λ (u : Hand). times x u.taken) views port v w at in
            let a = times_append x v.taken (y ∷ []) in
            let c = times_append x items (y ∷ []) in
            let p = b.even x in omega arith;
        idle = each_set Idle views port w b.idle (λ none. absurd (omega arith));
      },
      refl,
    )

pub forks : (port : ℕ) (v : Hand) → 1 < v.parts → Forks Balanced port v (hand (v.parts - 1) v.put v.taken) (hand 1 [] [])
forks port v more items views b at =
    let l : Hand = hand (v.parts - 1) v.put v.taken in
    let r : Hand = hand 1 [] [] in
    let vs : List Hand = set views port l in record {
      whole = let s = total_set (λ (u : Hand). u.parts) views port v l at in let a = total_append (λ (u : Hand). u.parts) vs (r ∷ []) in let p = b.whole in omega arith;
      even = λ x.
          let s = total_set (λ (u : Hand). times x u.put) views port v l at in
          let t = total_set (λ (u : Hand). times x u.taken) views port v l at in
          let a = total_append (λ (u : Hand). times x u.put) vs (r ∷ []) in
          let c = total_append (λ (u : Hand). times x u.taken) vs (r ∷ []) in
          let p = b.even x in omega arith;
      idle = each_append Idle vs (r ∷ []) (each_set Idle views port l b.idle (λ none. absurd (omega arith))) ((λ none. absurd (omega arith)), tt);
    }

pub merges : (port : ℕ) (v : Hand) (other : ℕ) (u : Hand) → Merges Balanced port v other u (hand (v.parts + u.parts) (v.put ++ u.put) (v.taken ++ u.taken)) (hand 0 [] [])
merges port v other u items views b at two at' =
    let both : Hand = hand (v.parts + u.parts) (v.put ++ u.put) (v.taken ++ u.taken) in
    let spent : Hand = hand 0 [] [] in
    let vs : List Hand = set views port both in
    let was : get_elem? views other ≡ some u = ⊎_elim (λ x. absurd (two x.0)) (λ x. x.1) (at_set views port other both u at') in
    let mine = each_at Idle views port v b.idle at in
    let theirs = each_at Idle views other u b.idle was in record {
      whole =
          let s = total_set (λ (y : Hand). y.parts) views port v both at in
          let t = total_set (λ (y : Hand). y.parts) vs other u spent at' in
          let p = b.whole in omega arith;
      even = λ x.
          let s = total_set (λ (y : Hand). times x y.put) views port v both at in
          let t = total_set (λ (y : Hand). times x y.put) vs other u spent at' in
          let s' = total_set (λ (y : Hand). times x y.taken) views port v both at in
          let t' = total_set (λ (y : Hand). times x y.taken) vs other u spent at' in
          let a = times_append x v.put u.put in
          let c = times_append x v.taken u.taken in
          let p = b.even x in omega arith;
      idle = each_set Idle vs other spent
          (each_set Idle views port both b.idle (λ none x.
          let m = mine (omega arith) x in
          let t = theirs (omega arith) x in
          let a = times_append x v.put u.put in
          let c = times_append x v.taken u.taken in
          (omega arith, omega arith)))
          (λ none x. (refl, refl));
    }

-- where no pass has a part, nothing was done
nothing : (f : Hand → ℕ) (views : List Hand) → Each (λ u. u.parts ≡ 0 → f u ≡ 0) views → total (λ u. u.parts) views ≡ 0 → total f views ≡ 0
nothing f [] h e = refl
nothing f (x ∷ xs) h e = let a = h.0 (omega arith) in let r = nothing f xs h.1 (omega arith) in omega arith

-- where one pass has all parts, only it did something
alone : (f : Hand → ℕ) (views : List Hand) (port : ℕ) (v : Hand) → get_elem? views port ≡ some v → Each (λ u. u.parts ≡ 0 → f u ≡ 0) views → total (λ u. u.parts) views ≡ v.parts → total f views ≡ f v
alone f [] port v at h e = absurd (some-ne-none v (sym at))
alone f (x ∷ xs) zero v at h e =
    let s : f x ≡ f v = ap f (some-injective x v at) in
    let p : x.parts ≡ v.parts = ap (λ (u : Hand). u.parts) (some-injective x v at) in
    let r = nothing f xs h.1 (omega arith) in omega arith
alone f (x ∷ xs) (suc port) v at h e =
    let o = total_one (λ (u : Hand). u.parts) xs port v at in
    let a = h.0 (omega arith) in
    let r = alone f xs port v at h.1 (omega arith) in omega arith

each_mono : (P Q : Hand → Type 0) (views : List Hand) → ((u : Hand) → P u → Q u) → Each P views → Each Q views
each_mono P Q [] m h = tt
each_mono P Q (x ∷ xs) m h = (m x h.0, each_mono P Q xs m h.1)

pub finds : (port : ℕ) (v : Hand) → Finds Balanced port v (Spent v)
finds port v views b at all x =
    let p = alone (λ u. times x u.put) views port v at (each_mono Idle (λ u. u.parts ≡ 0 → times x u.put ≡ 0) views (λ u i none. (i none x).0) b.idle) (let w = b.whole in omega arith) in
    let t = alone (λ u. times x u.taken) views port v at (each_mono Idle (λ u. u.parts ≡ 0 → times x u.taken ≡ 0) views (λ u i none. (i none x).1) b.idle) (let w = b.whole in omega arith) in
    let e = b.even x in omega arith
