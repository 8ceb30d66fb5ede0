-- What a list of names that are held gives, and how it stays.
use Rattle.std.proofs.Common.{◌≡◌, suc, ◌<◌, ◌≤◌, List, [], ◌∷◌, ◌++◌, length, refl, ap, ◌∙◌, arith}
use Rattle.bs_core.specs.Codes.{Code}
use Rattle.bs_core.specs.Machine.{times, code_at, pair, linked, without}
use Rattle.bs_core.specs.Laws.{often}
use Rattle.bs_core.specs.declared.name.Name.{Name}
use Rattle.bs_core.specs.declared.table.Held.{Held}
use Rattle.bs_store.specs.Walks.{Sound, More, Same, Keeps, hits}
use Rattle.bs_store.proofs.Often.{hits_self, often_append, often_times, often_without, code_is}

pub keeps_none : (l : List Held) → Keeps [] l
keeps_none l = ([], refl, λ x c. omega arith)

-- what stays as often is still kept
pub keeps_same : (xs : List Name) (l m : List Held) → Same l m → Keeps xs l → Keeps xs m
keeps_same xs l m same k = (k.0, k.1, λ x c. let a = k.2 x c in let b = same x c in omega arith)

pub keeps_more : (xs : List Name) (p : Held) (l m : List Held) → More p l m → Keeps xs l → Keeps xs m
keeps_more xs p l m more k = (k.0, k.1, λ x c. let a = k.2 x c in let b = more x c in omega arith)

linked_push : (xs : List Name) (cs : List Code) (n : Name) (d : Code) → length cs ≡ length xs → linked (xs ++ n ∷ []) (cs ++ d ∷ []) ≡ linked xs cs ++ pair n d ∷ []
linked_push [] [] n d e = refl
linked_push [] (c ∷ cs) n d e = absurd (omega arith)
linked_push (x ∷ xs) [] n d e = absurd (omega arith)
linked_push (x ∷ xs) (c ∷ cs) n d e = ap (λ (l : List Held). pair x c ∷ l) (linked_push xs cs n d (omega arith))

push_long : {A B : Type 0} (xs : List A) (ys : List B) (x : A) (y : B) → length xs ≡ length ys → length (xs ++ x ∷ []) ≡ length (ys ++ y ∷ [])
push_long [] [] x y e = refl
push_long [] (b ∷ ys) x y e = absurd (omega arith)
push_long (a ∷ xs) [] x y e = absurd (omega arith)
push_long (a ∷ xs) (b ∷ ys) x y e = ap suc (push_long xs ys x y (omega arith))

pub keeps_push : (xs : List Name) (n : Name) (d : Code) (l m : List Held) → More (pair n d) l m → Keeps xs l → Keeps (xs ++ n ∷ []) m
keeps_push xs n d l m more k = (
  k.0 ++ d ∷ [],
  push_long k.0 xs d n k.1,
  λ x c.
      let a = k.2 x c in
      let b = more x c in
      let s = ap (often x c) (linked_push xs k.0 n d k.1) ∙ often_append x c (linked xs k.0) (pair n d ∷ []) in omega arith,
)

-- the first name
pub front_held : (x : Name) (xs : List Name) (l : List Held) → Keeps (x ∷ xs) l → 0 < times x l
front_held x xs l ([], e, w) = absurd (omega arith)
front_held x xs l (c ∷ cs, e, w) = let a = w x c in let s = hits_self (pair x c) in let t = often_times x c l in omega arith

pub front_gone : (x : Name) (xs : List Name) (l m : List Held) → Sound l → Keeps (x ∷ xs) l → More (pair x (code_at x l)) m l → Keeps xs m
front_gone x xs l m s ([], e, w) more = absurd (omega arith)
front_gone x xs l m s (c ∷ cs, e, w) more = (
  cs,
  omega arith,
  λ y d.
      let a = w y d in
      let b = more y d in
      let first : 1 ≤ often x c l = (let f = w x c in let h = hits_self (pair x c) in omega arith) in
      let is = ap (λ (k : Code). hits y d (pair x k)) (code_is x c l s first) in omega arith,
)

-- a list with one pair more at its end
pub more_last : (p : Held) (l : List Held) → More p l (l ++ p ∷ [])
more_last p l x c = let s = often_append x c l (p ∷ []) in omega arith

pub more_without : (n : Name) (l : List Held) → 0 < times n l → More (pair n (code_at n l)) (without n l) l
more_without n l h x c = let s = often_without x c n l h in omega arith

-- the first name goes to the end
pub keeps_turned : (x : Name) (xs : List Name) (l : List Held) → Keeps (x ∷ xs) l → Keeps (xs ++ x ∷ []) l
keeps_turned x xs l ([], e, w) = absurd (omega arith)
keeps_turned x xs l (c ∷ cs, e, w) = (
  cs ++ c ∷ [],
  push_long cs xs c x (omega arith),
  λ y d. let a = w y d in let p = ap (often y d) (linked_push xs cs x c (omega arith)) ∙ often_append y d (linked xs cs) (pair x c ∷ []) in omega arith,
)

pub keeps_rest : (x : Name) (xs : List Name) (l : List Held) → Keeps (x ∷ xs) l → Keeps xs l
keeps_rest x xs l ([], e, w) = absurd (omega arith)
keeps_rest x xs l (c ∷ cs, e, w) = (cs, omega arith, λ y d. let a = w y d in omega arith)
