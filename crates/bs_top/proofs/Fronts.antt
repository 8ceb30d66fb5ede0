-- A sink that gains one piece after another.
use Rattle.std.proofs.Common.{◌≡◌, ℕ, suc, ◌<◌, List, [], ◌++◌, Option, Some, None, Result, Ok, Err, length, take, drop, get_or, refl, sym, ap, subst, ◌∙◌, append_assoc, append-nil, drop-cons}
use Rattle.std.proofs.lemmas.Grind.{flat_map-append}
use Rattle.std.proofs.lemmas.List.{take-append-drop}
use Rattle.std.specs.List.{flat_map}
use Rattle.std.specs.Result.{OnErr}
use Rattle.bs_io.specs.Outside.{Adds, AddsFront}

pub Adds-none : (a : Option (List ℕ)) → Adds a [] a
Adds-none None = refl
Adds-none (Some bytes) = ap Some (sym (append-nil bytes))

pub Adds-more : (a : Option (List ℕ)) (p : List ℕ) (b : Option (List ℕ)) (q : List ℕ) (c : Option (List ℕ)) → Adds a p b → Adds b q c → Adds a (p ++ q) c
Adds-more None p None q c e f = f
Adds-more None p (Some x) q c e f = absurd (cc)
Adds-more (Some bytes) p None q c e f = absurd (cc)
Adds-more (Some bytes) p (Some x) q c e f = let r = append_assoc bytes p q in cc (e, f, r)

pub AddsFront-more : (a : Option (List ℕ)) (p : List ℕ) (b : Option (List ℕ)) (piece : List ℕ) (c : Option (List ℕ)) (rest : List ℕ)
    → Adds a p b → AddsFront b piece c → AddsFront a (p ++ (piece ++ rest)) c
AddsFront-more a p b piece c rest e f =
    let whole : p ++ (piece ++ rest) ≡ (p ++ f.0) ++ (f.1 ++ rest) = rw (f.2, append_assoc f.0 f.1 rest, append_assoc p f.0 (f.1 ++ rest)) refl in
    (p ++ f.0, f.1 ++ rest, whole, Adds-more a p b f.0 c e f.3)

flat_map-at : {X : Type 0} (f : X → List ℕ) (xs : List X) (i : ℕ) (d : X) → i < length xs
    → flat_map f xs ≡ flat_map f (take i xs) ++ (f (get_or xs i d) ++ flat_map f (drop (suc i) xs))
flat_map-at f xs i d h =
    sym (ap (flat_map f) (take-append-drop i xs)) ∙ flat_map-append f (take i xs) (drop i xs)
    ∙ ap (λ ys. flat_map f (take i xs) ++ flat_map f ys) (drop-cons xs i d h)

-- the pieces before the one at i were added, and a front of that one
pub AddsFront-at : {X : Type 0} (f : X → List ℕ) (xs : List X) (i : ℕ) (d : X) (a b c : Option (List ℕ)) → i < length xs
    → Adds a (flat_map f (take i xs)) b → AddsFront b (f (get_or xs i d)) c → AddsFront a (flat_map f xs) c
AddsFront-at f xs i d a b c h e g =
    let P : List ℕ → Type 0 = λ w. AddsFront a w c in
    subst P (sym (flat_map-at f xs i d h)) (AddsFront-more a (flat_map f (take i xs)) b (f (get_or xs i d)) c (flat_map f (drop (suc i) xs)) e g)

pub on_err : {T E P : Type 0} (r : Result T E) → P → OnErr r P
on_err (Ok x) p = tt
on_err (Err e) p = p
