-- Keys of remembered values.
--
--   OfKey               == what is seen of a key: the bytes that tell its series, and the name of its tree
--   digest_of bytes     == 31 h + b modulo 2^64 over the bytes, from 0
--   same_key k l        == the test of equality
--   key_writes k        == what a key feeds a hasher: the digest of its series, and its name
--
-- Source: this project's own.
-- The bytes of a series are some thousand at most, and stand in memory once for all keys that were copied from one.
use Rattle.std.specs.Prelude.{◌≡◌, ℕ, ◌+◌, ◌*◌, ◌%◌, ◌^◌, ◌==◌, Bool, true, ◌&&◌, List, [], ◌∷◌, ◌++◌, refl}
use Rattle.std.specs.Bool.{Decides}
use Rattle.std.specs.Cmp.{IsEquivalence, decided, unsigned_Decides}
use Rattle.std.specs.Cmp.Lexicographic.{pointwise}
use Rattle.std.specs.Hash as fed
use Rattle.std.specs.Hash.{HashWrites}
use Rattle.std.proofs.Common.{nat_eq, false, sym, ap, ap₂, ◌∙◌}
use Rattle.bs_core.specs.Machine.{is_name}
use Rattle.bs_core.specs.KeyEquality.{name_writes}
use Rattle.bs_core.specs.declared.name.Name.{Name}

pub record OfKey : Type 0 where
  pub series : List ℕ
  pub name : Name

abbrev pub digested : ℕ → ℕ → ℕ
digested h b = (31 * h + b) % 2 ^ 64

abbrev pub digest_from : ℕ → List ℕ → ℕ
digest_from h [] = h
digest_from h (b ∷ bs) = digest_from (digested h b) bs

abbrev pub digest_of : List ℕ → ℕ
digest_of bytes = digest_from 0 bytes

abbrev pub same_bytes : List ℕ → List ℕ → Bool
same_bytes xs ys = pointwise nat_eq xs ys

abbrev pub same_key : OfKey → OfKey → Bool
same_key k l = is_name k.name l.name && same_bytes k.series l.series

abbrev pub key_writes : OfKey → HashWrites
key_writes k = fed.u64 (digest_of k.series) ++ name_writes k.name

-- ---- the test decides equality
both_so : (a b : Bool) → (a && b) ≡ true → (a ≡ true) × (b ≡ true)
both_so true true h = (refl, refl)
both_so true false h = cc
both_so false b h = cc

same_name-Decides : (x y : Name) → Decides (is_name x y) (x ≡ y)
same_name-Decides x y = (
  (λ h.
      let b = both_so (x.stripe == y.stripe) (x.slot == y.slot) h in
      let e = (unsigned_Decides x.stripe y.stripe).0 b.0 in
      let f = (unsigned_Decides x.slot y.slot).0 b.1 in
      ap₂ (λ (s : ℕ) (t : ℕ). let n : Name = record { stripe = s; slot = t } in n) e f),
  (λ e. ap₂ (λ (a : Bool) (b : Bool). a && b) ((unsigned_Decides x.stripe y.stripe).1 (ap (λ (n : Name). n.stripe) e)) ((unsigned_Decides x.slot y.slot).1 (ap (λ (n : Name). n.slot) e))),
)

bytes_same : (xs ys : List ℕ) → same_bytes xs ys ≡ true → xs ≡ ys
bytes_same [] [] h = refl
bytes_same [] (y ∷ ys) h = cc
bytes_same (x ∷ xs) [] h = cc
bytes_same (x ∷ xs) (y ∷ ys) h = let b = both_so (x == y) (same_bytes xs ys) h in ap₂ (λ (n : ℕ) (ns : List ℕ). n ∷ ns) ((unsigned_Decides x y).0 b.0) (bytes_same xs ys b.1)

bytes_itself : (xs : List ℕ) → same_bytes xs xs ≡ true
bytes_itself [] = refl
bytes_itself (x ∷ xs) = ap₂ (λ (a : Bool) (b : Bool). a && b) ((unsigned_Decides x x).1 refl) (bytes_itself xs)

pub same_bytes-Decides : (xs ys : List ℕ) → Decides (same_bytes xs ys) (xs ≡ ys)
same_bytes-Decides xs ys = (bytes_same xs ys, λ e. ap (same_bytes xs) (sym e) ∙ bytes_itself xs)

pub same_key-Decides : (k l : OfKey) → Decides (same_key k l) (k ≡ l)
same_key-Decides k l = (
  (λ h.
      let b = both_so (is_name k.name l.name) (same_bytes k.series l.series) h in
      ap₂ (λ (bs : List ℕ) (n : Name). let m : OfKey = record { series = bs; name = n } in m) (bytes_same k.series l.series b.1) ((same_name-Decides k.name l.name).0 b.0)),
  (λ e. ap₂ (λ (a : Bool) (b : Bool). a && b) ((same_name-Decides k.name l.name).1 (ap (λ (m : OfKey). m.name) e)) ((same_bytes-Decides k.series l.series).1 (ap (λ (m : OfKey). m.series) e))),
)

pub key_equivalence : IsEquivalence same_key
key_equivalence = decided same_key same_key-Decides
