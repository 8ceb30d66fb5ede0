-- Keys decide codes: names that stand for children are equal exactly where the children are.
use Rattle.std.proofs.Common.{◌≡◌, ℕ, zero, suc, List, [], ◌∷◌, length, refl, sym, ap, ◌∙◌, subst, arith}
use mathlib.Core.Option.{some}
use lib.ListN.{get_elem?}
use Rattle.bs_tree.specs.Code.{root_colour}
use Rattle.bs_tree.proofs.CodeFacts.{colour_and_children}
use Rattle.bs_core.specs.Codes.{Code, children}
use Rattle.bs_core.specs.Machine.{State, pair, linked, links_of, taken, list_at}
use Rattle.bs_core.specs.Canonical.{Each, Counts, Stands, Canonical, every, link_lists, links_each}
use Rattle.bs_core.specs.Keys.{Key}
use Rattle.bs_core.specs.Laws.{KeysDecideCodes}
use Rattle.bs_core.specs.declared.name.Name.{Name}
use Rattle.bs_core.specs.declared.table.Held.{Held}
use Rattle.bs_core.specs.declared.table.Entry.{Entry}
use Rattle.bs_core.proofs.Basics.{children_is}
use Rattle.bs_core.proofs.Links.{each_back, links_from, each_taken, taken_long}
use Rattle.bs_core.proofs.Keeps.{party_stands}
use Rattle.bs_core.proofs.Agree.{each_at, stands_agree}

module _ (n : ℕ) (g : State) (c : Canonical n g) where
  names_of : (xs ys : List Name) (cs : List Code) → length xs ≡ length cs → length ys ≡ length cs → Each (Stands g.tables) (linked xs cs) → Each (Stands g.tables) (linked ys cs) → xs ≡ ys
  names_of [] [] [] a b h k = refl
  names_of [] (y ∷ ys) [] a b h k = absurd (omega arith)
  names_of (x ∷ xs) ys [] a b h k = absurd (omega arith)
  names_of [] ys (d ∷ ds) a b h k = absurd (omega arith)
  names_of (x ∷ xs) [] (d ∷ ds) a b h k = absurd (omega arith)
  names_of (x ∷ xs) (y ∷ ys) (d ∷ ds) a b h k =
      let q = (stands_agree n g (pair x d) (pair y d) c h.0 k.0).1 refl in
      let r = names_of xs ys ds (omega arith) (omega arith) h.1 k.1 in λ i. q i ∷ r i

  codes_of : (xs : List Name) (cs ds : List Code) → length xs ≡ length cs → length xs ≡ length ds → Each (Stands g.tables) (linked xs cs) → Each (Stands g.tables) (linked xs ds) → cs ≡ ds
  codes_of [] [] [] a b h k = refl
  codes_of [] [] (y ∷ ys) a b h k = absurd (omega arith)
  codes_of [] (z ∷ zs) ds a b h k = absurd (omega arith)
  codes_of (x ∷ xs) [] ds a b h k = absurd (omega arith)
  codes_of (x ∷ xs) (z ∷ zs) [] a b h k = absurd (omega arith)
  codes_of (x ∷ xs) (z ∷ zs) (y ∷ ys) a b h k =
      let q = (stands_agree n g (pair x z) (pair x y) c h.0 k.0).0 refl in
      let r = codes_of xs zs ys (omega arith) (omega arith) h.1 k.1 in λ i. q i ∷ r i

-- the links of an entry stand
entry_links : (Q : List Held → Type 0) (es : List Entry) (k : ℕ) (e : Entry) → Each Q (links_each es) → get_elem? es k ≡ some e → Q (links_of e)
entry_links Q [] k e h at = each_at (λ (y : Entry). Q (links_of y)) [] k e tt at
entry_links Q (x ∷ xs) zero e h at = each_at (λ (y : Entry). Q (links_of y)) (x ∷ []) zero e (h.0, tt) at
entry_links Q (x ∷ xs) (suc k) e h at = entry_links Q xs k e h.1 at

pub keys_decide : KeysDecideCodes
keys_decide n g i s k t e c can code has at there =
    let S = Stands g.tables in
    let l = list_at i g.lists in
    let xs = taken (children c) l in
    let mine = each_taken S (children c) l has (party_stands i g S can.pairs) in
    let long = taken_long (children c) l in
    let links = entry_links (Each S) t.entries k e (links_from (Each S) s g.tables t at (each_back (Each S) g.lists (link_lists g.tables) can.pairs)) there in
    let counts = each_at (Counts n s t.mark (every g)) t.entries k e (can.tables s t at).entries there in (
      λ q.
          let names : xs ≡ e.links = ap (λ (z : Key). z.children) q in
          let same = codes_of n g can xs (children c) (children e.code) long (ap length names ∙ counts.full) mine (subst (λ (ys : List Name). Each S (linked ys (children e.code))) (sym names) links) in
          colour_and_children c e.code code counts.sound (ap (λ (z : Key). z.colour) q) (sym (children_is c) ∙ same ∙ children_is e.code),
      λ q.
          let names : xs ≡ e.links = names_of n g can xs e.links (children c) long (counts.full ∙ ap (λ (y : Code). length (children y)) (sym q)) mine (subst (λ (y : Code). Each S (linked e.links (children y))) (sym q) links) in
          λ j. record { colour = root_colour (q j); children = names j },
    )
