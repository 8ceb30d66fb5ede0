-- How a memo gets its stripes, and how its passes come home.
use Rattle.std.proofs.Common.{◌≡◌, ℕ, zero, suc, ◌+◌, ◌<◌, ◌≤◌, List, [], ◌∷◌, ◌++◌, length, take, get_or, max, refl, sym, ap, ◌∙◌, subst, arith, All}
use Rattle.std.proofs.lemmas.List.{take_more}
use Rattle.lru.specs.LruCache.{LruCache, lru_cache}
use Rattle.bs_frac.specs.declared.coef.Coef.{Coef}
use Rattle.bs_store.specs.Seats.{OfPass}
use Rattle.bs_store.specs.Closing.{numbers_of}
use Rattle.bs_memo.specs.Keys.{OfKey}
use Rattle.bs_memo.specs.Stripes.{AreRooms, share_of}

abbrev pub Cache : Type 0
Cache = LruCache OfKey Coef

abbrev pub room_at : ℕ → ℕ → ℕ → Cache
room_at n i s = lru_cache [] (max 1 (share_of n i s))

-- one more table
pub rooms_push : (n i s j : ℕ) (cs : List Cache) (c : Cache) → AreRooms n i s cs → i + length cs ≡ j → c ≡ room_at n j s → AreRooms n i s (cs ++ c ∷ [])
rooms_push n i s j [] c r e is = (is ∙ ap (λ k. room_at n k s) (let q : j ≡ i = omega arith in q), tt)
rooms_push n i s j (x ∷ xs) c r e is = (r.0, rooms_push n (suc i) s j xs c r.1 (omega arith) is)

-- the first table is taken
pub rooms_rest : (n i s : ℕ) (cs ds : List Cache) (c : Cache) → AreRooms n i s cs → cs ≡ c ∷ ds → AreRooms n (i + 1) s ds
rooms_rest n i s cs ds c r e = subst (λ k. AreRooms n k s ds) (let q : suc i ≡ i + 1 = omega arith in q) (subst (AreRooms n i s) e r).1

-- ---- of a list that begins with this
pub rest_all : (P : OfPass → Type 0) (xs ps : List OfPass) (p : OfPass) → xs ≡ p ∷ ps → All P xs → All P ps
rest_all P xs ps p e all k d l = subst (All P) e all (suc k) d (omega arith)

pub one_all : (P : OfPass → Type 0) (p : OfPass) → P p → All P (p ∷ [])
one_all P p h zero d l = h
one_all P p h (suc k) d l = absurd (omega arith)

-- ---- numbers
pub numbers_push : (ps : List OfPass) (p : OfPass) → numbers_of (ps ++ p ∷ []) ≡ numbers_of ps ++ p.number ∷ []
numbers_push [] p = refl
numbers_push (q ∷ qs) p = ap (λ l. q.number ∷ l) (numbers_push qs p)

-- the pass of the next place comes home
pub numbers_home : (ns : List ℕ) (i d : ℕ) (home : List OfPass) (p : OfPass) → numbers_of home ≡ take i ns → p.number ≡ get_or ns i d → i < length ns → numbers_of (home ++ p ∷ []) ≡ take (i + 1) ns
numbers_home ns i d home p before here l = numbers_push home p ∙ ap (λ k. k ++ p.number ∷ []) before ∙ ap (λ x. take i ns ++ x ∷ []) here ∙ sym (take_more ns i d l)
