-- What the walks over subtrees do to the pairs that a pass holds. Lists are compared by how often they have each pair.
--
--   SamePass p q       == two moments of a pass: its store and its number are the same
--   hits x c p         == 1 where the pair p is (x, c), else 0; often x c l of bs_core adds them up
--   Same old new       == the lists have the same pairs, each as often
--   More p old new     == so, but for one pair p more
--   Mores ps old new   == so, but for the pairs ps more, each as often as it stands there
--   Within ps l        == the list has the pairs ps, each as often
--   Keeps xs l         == the list has a pair for each of the names xs, each as often
--   Sound l            == in a list each name has one code and each code one name, and each code is a code
--   Released r x l l'  == one release of a name: the first such pair is gone, and the links of an entry that left have come
--   Interns c x b l l' == one intern of a node whose children are held: they are gone where the entry is new, and the pair has come
--   Turned x c xs l l' == children that were held under these names are gone, and the pair (x, c) has come
--
-- and what holds in the middle of a walk:
--
--   names l, orders l  == the names of a list of pairs, and the orders of its codes, added up
--   children_of r      == the names of the links of an entry that left; none where no entry left
--   Walks p old l xs   == the pair p is gone, and the pairs of the pending names xs have come; their orders are at most that of p
--   Undoing cs xs ys old l == of the children xs those not among the first ones, ys, are gone
--   Needs, Finishes    == the children's pairs go back where the entry was there
--
-- Source: this project's own.
use Rattle.std.specs.Prelude.{◌≡◌, ℕ, ◌+◌, ◌≤◌, Bool, true, false, ◌&&◌, List, [], ◌∷◌, ◌++◌, length, if◌then◌else◌}
use Rattle.bs_tree.specs.Code.{IsCode}
use Rattle.bs_core.specs.Codes.{Code, children, same}
use Rattle.bs_core.specs.Machine.{is_name, code_at, without, pair, linked, left}
use Rattle.bs_core.specs.Canonical.{Each}
use Rattle.bs_core.specs.Laws.{often}
use Rattle.bs_core.specs.declared.name.Name.{Name}
use Rattle.bs_core.specs.declared.table.Held.{Held}
use Rattle.bs_stripe.specs.declared.stripe.Lowered.{Lowered}
use Rattle.bs_stripe.specs.declared.stripe.Lowered.TheVariants.{Kept, Gone}
use Rattle.bs_store.specs.Seats.{OfPass, Leaves}

abbrev pub SamePass : OfPass → OfPass → Type 0
SamePass p q = (q.store ≡ p.store) × (q.number ≡ p.number)

-- ---- lists of pairs, by how often they have each
abbrev pub hits : Name → Code → Held → ℕ
hits x c p = if is_name x p.name && same c p.code then 1 else 0

abbrev pub Same : List Held → List Held → Type 0
Same old new = (x : Name) (c : Code) → often x c new ≡ often x c old

abbrev pub More : Held → List Held → List Held → Type 0
More p old new = (x : Name) (c : Code) → often x c new ≡ often x c old + hits x c p

abbrev pub Mores : List Held → List Held → List Held → Type 0
Mores ps old new = (x : Name) (c : Code) → often x c new ≡ often x c old + often x c ps

abbrev pub Within : List Held → List Held → Type 0
Within ps l = (x : Name) (c : Code) → often x c ps ≤ often x c l

abbrev pub Keeps : List Name → List Held → Type 0
Keeps xs l = (cs : List Code) × (length cs ≡ length xs) × Within (linked xs cs) l

pub record Sound (l : List Held) : Type 0 where
  pub one_code : Each (λ p. Each (λ q. p.name ≡ q.name → p.code ≡ q.code) l) l
  pub one_name : Each (λ p. Each (λ q. p.code ≡ q.code → p.name ≡ q.name) l) l
  pub codes : Each (λ p. IsCode p.code) l

-- ---- one release
abbrev pub Released : Lowered → Name → List Held → List Held → Type 0
Released r x l l' = (links : List Held) × (l' ≡ without x l ++ links) × Leaves r (code_at x l) links

-- ---- one intern
abbrev pub Interns : Code → Name → Bool → List Held → List Held → Type 0
Interns c x new l l' = l' ≡ (if new then left (children c) l else l) ++ pair x c ∷ []

abbrev pub Turned : Name → Code → List Name → List Held → List Held → Type 0
Turned n d xs old new = (x : Name) (c : Code) → often x c new + often x c (linked xs (children d)) ≡ often x c old + hits x c (pair n d)

-- ---- in the middle of a walk
abbrev pub names : List Held → List Name
names [] = []
names (p ∷ ps) = p.name ∷ names ps

abbrev pub orders : List Held → ℕ
orders [] = 0
orders (p ∷ ps) = length p.code + orders ps

abbrev pub children_of : Lowered → List Name
children_of Kept = []
children_of (Gone k) = k.children

pub record Walks (p : Held) (old l : List Held) (pending : List Name) : Type 0 where
  pub pairs : List Held
  pub named : names pairs ≡ pending
  pub small : orders pairs ≤ length p.code
  pub some : Each (λ q. 1 ≤ length q.code) pairs
  pub counts : (x : Name) (c : Code) → often x c l + hits x c p ≡ often x c old + often x c pairs

pub record Undoing (cs : List Code) (all rest : List Name) (old new : List Held) : Type 0 where
  pub few : length rest ≤ length cs
  pub counts : (x : Name) (c : Code) → often x c new + often x c (linked all cs) ≡ often x c old + often x c (linked rest cs)

abbrev pub Needs : Bool → List Held → List Held → Type 0
Needs true ps l = Unit {0}
Needs false ps l = Within ps l

abbrev pub Finishes : Bool → List Held → List Held → List Held → Type 0
Finishes true ps old new = new ≡ old
Finishes false ps old new = Mores ps new old
