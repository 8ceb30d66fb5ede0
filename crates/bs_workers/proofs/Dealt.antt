-- The passes of a new store, dealt out to workers and to a memo, and come home.
use Rattle.std.proofs.Common.{◌≡◌, ℕ, suc, List, [], ◌∷◌, ◌++◌, length, map, take, drop, All, refl, sym, ap, ap₂, subst, ◌∙◌}
use Rattle.std.proofs.lemmas.Option.{get_or_from_slice_get}
use Rattle.std.proofs.lemmas.List.{take-append-drop}
use Rattle.std.proofs.lemmas.List.Elements.{All-append, All-take, All-drop}
use Rattle.atomic_table.specs.Seated.{TableId}
use Rattle.bs_store.specs.Seats.{OfPass, new_pass, NewPasses}
use Rattle.bs_store.specs.Closing.{AllNumbers, IsOf, NewPassesAreAll, NumbersDecide, numbers_of}
use Rattle.bs_store.specs.Walks.{Same}
use Rattle.bs_memo.specs.Stripes.{IsEmptyOf}

-- ---- new passes hold nothing
pub new_are_empty : (t : TableId) (ps : List OfPass) → NewPasses t ps → All (IsEmptyOf t) ps
new_are_empty t ps new k d l = subst (IsEmptyOf t) (sym (get_or_from_slice_get ps k (new_pass t k) d (new k l))) (refl, refl)

-- the first ones, and the others, by the store's name
pub first_are_empty : (t u : TableId) (n : ℕ) (ps qs : List OfPass) → NewPasses t ps → t ≡ u → qs ≡ take n ps → All (IsEmptyOf u) qs
first_are_empty t u n ps qs new same is =
    subst (λ s. All (IsEmptyOf s) qs) same (subst (λ l. All (IsEmptyOf t) l) (sym is) (All-take (IsEmptyOf t) n ps (new_are_empty t ps new)))

pub others_are_empty : (t u : TableId) (n : ℕ) (ps qs : List OfPass) → NewPasses t ps → t ≡ u → qs ≡ drop n ps → All (IsEmptyOf u) qs
others_are_empty t u n ps qs new same is =
    subst (λ s. All (IsEmptyOf s) qs) same (subst (λ l. All (IsEmptyOf t) l) (sym is) (All-drop (IsEmptyOf t) n ps (new_are_empty t ps new)))

-- a pass that may do a job: it is of the store, and has each pair as often as the empty list
abbrev pub IsFree : TableId → OfPass → Type 0
IsFree t p = (p.store ≡ t) × Same [] p.held

pub free_of_empty : (t : TableId) (ps : List OfPass) → All (IsEmptyOf t) ps → All (IsFree t) ps
free_of_empty t ps h k d l = ((h k d l).0, subst (λ held. Same [] held) (sym (h k d l).1) (λ x c. refl))

pub own_of_free : (t : TableId) (ps : List OfPass) → All (IsFree t) ps → All (IsOf t) ps
own_of_free t ps h k d l = (h k d l).0

pub own_of_empty : (t : TableId) (ps : List OfPass) → All (IsEmptyOf t) ps → All (IsOf t) ps
own_of_empty t ps h k d l = (h k d l).0

pub both_own : (t u : TableId) (ps qs : List OfPass) → u ≡ t → All (IsOf t) ps → All (IsOf t) qs → All (IsOf u) (ps ++ qs)
both_own t u ps qs same first rest = subst (λ s. All (IsOf s) (ps ++ qs)) (sym same) (All-append (IsOf t) ps qs first rest)

-- ---- numbers of two lists
pub numbers_mapped : (ps : List OfPass) → numbers_of ps ≡ map (λ p. p.number) ps
numbers_mapped [] = refl
numbers_mapped (p ∷ ps) = ap (λ ns. p.number ∷ ns) (numbers_mapped ps)

pub numbers_long : (ps : List OfPass) → length (numbers_of ps) ≡ length ps
numbers_long [] = refl
numbers_long (p ∷ ps) = ap suc (numbers_long ps)

pub numbers_append : (ps qs : List OfPass) → numbers_of (ps ++ qs) ≡ numbers_of ps ++ numbers_of qs
numbers_append [] qs = refl
numbers_append (p ∷ ps) qs = ap (λ ns. p.number ∷ ns) (numbers_append ps qs)

pub as_many : (ps qs : List OfPass) → numbers_of ps ≡ numbers_of qs → length ps ≡ length qs
as_many ps qs e = sym (numbers_long ps) ∙ ap length e ∙ numbers_long qs

-- the first passes and the others have come home, each with its number
pub come_home : NewPassesAreAll → NumbersDecide → (t : TableId) (n m : ℕ) (ps of_workers of_memo : List OfPass) → NewPasses t ps → length ps ≡ m
    → numbers_of of_workers ≡ numbers_of (take n ps) → numbers_of of_memo ≡ numbers_of (drop n ps) → AllNumbers m (of_workers ++ of_memo)
come_home are_all decide t n m ps of_workers of_memo new many first rest =
    let same : numbers_of (of_workers ++ of_memo) ≡ numbers_of ps =
    numbers_append of_workers of_memo ∙ ap₂ (λ (a b : List ℕ). a ++ b) first rest ∙ sym (numbers_append (take n ps) (drop n ps)) ∙ ap numbers_of (take-append-drop n ps) in
    decide m ps (of_workers ++ of_memo) same (subst (λ k. AllNumbers k ps) many (are_all t ps new).1)
