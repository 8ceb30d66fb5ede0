-- When two keys are the same, and what a key feeds a hasher.
--
--   same_names xs ys   == the test of equality of lists of names
--   same_key k l       == the test of equality of keys
--   key_writes k       == the colour's byte, and the names in order
--
-- Source: this project's own.
use Rattle.std.specs.Prelude.{◌≡◌, ℕ, Bool, true, ◌==◌, ◌&&◌, List, [], ◌∷◌, ◌++◌, refl}
use Rattle.std.specs.Bool.{Decides}
use Rattle.std.specs.Cmp.{IsEquivalence, decided, unsigned_Decides}
use Rattle.std.specs.Cmp.Lexicographic.{pointwise}
use Rattle.std.specs.Hash as fed
use Rattle.std.specs.Hash.{HashWrites}
use Rattle.std.proofs.Common.{false, sym, ap, ap₂, ◌∙◌}
use Rattle.bs_core.specs.Machine.{is_name}
use Rattle.bs_core.specs.Keys.{Key}
use Rattle.bs_core.specs.declared.name.Name.{Name}

abbrev pub same_names : List Name → List Name → Bool
same_names xs ys = pointwise is_name xs ys

abbrev pub same_key : Key → Key → Bool
same_key k l = (k.colour == l.colour) && same_names k.children l.children

abbrev pub name_writes : Name → HashWrites
name_writes x = fed.u16 x.stripe ++ fed.u64 x.slot

abbrev pub key_writes : Key → HashWrites
key_writes k = fed.u8 k.colour ++ fed.slice name_writes k.children

-- ---- the tests decide equality
both_so : (a b : Bool) → (a && b) ≡ true → (a ≡ true) × (b ≡ true)
both_so true true h = (refl, refl)
both_so true false h = cc
both_so false b h = cc

same_name-Decides : (x y : Name) → Decides (is_name x y) (x ≡ y)
same_name-Decides x y = (
  (λ h.
      let b = both_so (x.stripe == y.stripe) (x.slot == y.slot) h in
      let e = (unsigned_Decides x.stripe y.stripe).0 b.0 in
      let f = (unsigned_Decides x.slot y.slot).0 b.1 in
      ap₂ (λ (s : ℕ) (t : ℕ). let n : Name = record { stripe = s; slot = t } in n) e f),
  (λ e. ap₂ (λ (a : Bool) (b : Bool). a && b) ((unsigned_Decides x.stripe y.stripe).1 (ap (λ (n : Name). n.stripe) e)) ((unsigned_Decides x.slot y.slot).1 (ap (λ (n : Name). n.slot) e))),
)

names_same : (xs ys : List Name) → same_names xs ys ≡ true → xs ≡ ys
names_same [] [] h = refl
names_same [] (y ∷ ys) h = cc
names_same (x ∷ xs) [] h = cc
names_same (x ∷ xs) (y ∷ ys) h = let b = both_so (is_name x y) (same_names xs ys) h in ap₂ (λ (n : Name) (ns : List Name). n ∷ ns) ((same_name-Decides x y).0 b.0) (names_same xs ys b.1)

names_itself : (xs : List Name) → same_names xs xs ≡ true
names_itself [] = refl
names_itself (x ∷ xs) = ap₂ (λ (a : Bool) (b : Bool). a && b) ((same_name-Decides x x).1 refl) (names_itself xs)

pub same_key-Decides : (k l : Key) → Decides (same_key k l) (k ≡ l)
same_key-Decides k l = (
  (λ h.
      let b = both_so (k.colour == l.colour) (same_names k.children l.children) h in
      ap₂ (λ (c : ℕ) (ns : List Name). let m : Key = record { colour = c; children = ns } in m) ((unsigned_Decides k.colour l.colour).0 b.0) (names_same k.children l.children b.1)),
  (λ e. ap₂ (λ (a : Bool) (b : Bool). a && b) ((unsigned_Decides k.colour l.colour).1 (ap (λ (m : Key). m.colour) e)) (ap (same_names k.children) (sym (ap (λ (m : Key). m.children) e)) ∙ names_itself k.children)),
)

pub key_equivalence : IsEquivalence same_key
key_equivalence = decided same_key same_key-Decides
