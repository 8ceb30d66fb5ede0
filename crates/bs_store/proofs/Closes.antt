-- Each entry of a canonical state is that of a held code or of a subtree of one.
use Rattle.std.proofs.Common.{◌≡◌, ◌≢◌, ◌⊎◌, ℕ, zero, suc, ◌+◌, ◌<◌, ◌≤◌, List, [], ◌∷◌, ◌++◌, length, map, sum, refl, sym, ap, ◌∙◌, subst, arith, inl, inr, ⊎_elim, if◌then◌else◌}
use mathlib.Core.Option.{some, some-ne-none, some-injective}
use lib.ListN.{get_elem?}
use Rattle.bs_tree.specs.Code.{IsCode}
use Rattle.bs_core.specs.Codes.{Code, children}
use Rattle.bs_core.specs.Machine.{State, most, times, pair, linked, links_of}
use Rattle.bs_core.specs.Canonical.{Each, all_times, Counts, Stands, Canonical, links_each, link_lists, every}
use Rattle.bs_core.specs.declared.name.Name.{Name}
use Rattle.bs_core.specs.declared.table.Held.{Held}
use Rattle.bs_core.specs.declared.table.Entry.{Entry}
use Rattle.bs_core.specs.declared.table.Table.{Table}
use Rattle.bs_core.proofs.Basics.{by_test, name_test, code_test}
use Rattle.bs_core.proofs.Pairs.{each_mono, each_join, each_both}
use Rattle.bs_core.proofs.Counting.{slot_name}
use Rattle.bs_core.proofs.Links.{all_times_append, each_front, each_back, links_from}
use Rattle.bs_core.proofs.Agree.{each_at, stands_agree}
use Rattle.bs_store.specs.Closing.{count_code, held_codes, lists_codes}
use Rattle.bs_store.proofs.CodeLists.{order_is, sum_cons}

-- a pair with a name that is counted
find_pair : (P : Held → Type 0) (x : Name) (l : List Held) → 1 ≤ times x l → Each P l → (p : Held) × (p.name ≡ x) × P p
find_pair P x [] h e = absurd (omega arith)
find_pair P x (p ∷ ps) h e = name_test x p.name (λ b. 1 ≤ (if b then 1 else 0) + times x ps → (q : Held) × (q.name ≡ x) × P q)
    (λ q z. (p, sym q, e.0))
    (λ q z. find_pair P x ps (omega arith) e.1)
    h

pub find_in : (P : Held → Type 0) (x : Name) (ls : List (List Held)) → 1 ≤ all_times x ls → Each (Each P) ls → (p : Held) × (p.name ≡ x) × P p
find_in P x [] h e = absurd (omega arith)
find_in P x (l ∷ ls) h e = by_test (times x l) 0 (λ b. (p : Held) × (p.name ≡ x) × P p) (λ q. find_in P x ls (omega arith) e.1) (λ q. find_pair P x l (omega arith) e.0)

-- lists by their places
of_tabs : (Q : List Held → Type 0) (ts : List Table) → ((i : ℕ) (t : Table) → get_elem? ts i ≡ some t → Each Q (links_each t.entries)) → Each Q (link_lists ts)
of_tabs Q [] h = tt
of_tabs Q (t ∷ ts) h = each_join Q (links_each t.entries) (link_lists ts) (h zero t refl) (of_tabs Q ts (λ i. h (suc i)))

of_entries : (Q : List Held → Type 0) (es : List Entry) → ((k : ℕ) (e : Entry) → get_elem? es k ≡ some e → Q (links_of e)) → Each Q (links_each es)
of_entries Q [] h = tt
of_entries Q (e ∷ es) h = (h zero e refl, of_entries Q es (λ k. h (suc k)))

abbrev pub Kid : Code → List Code → Type 0
Kid c cs = (i : ℕ) × (get_elem? cs i ≡ some c)

linked_kids : (xs : List Name) (cs : List Code) → Each (λ p. Kid p.code cs) (linked xs cs)
linked_kids [] cs = tt
linked_kids (x ∷ xs) [] = tt
linked_kids (x ∷ xs) (c ∷ cs) = ((zero, refl), each_mono (λ p. Kid p.code cs) (λ p. Kid p.code (c ∷ cs)) (linked xs cs) (λ p k. (suc k.0, k.1)) (linked_kids xs cs))

kid_small : (c : Code) (cs : List Code) → Kid c cs → length c ≤ sum (map length cs)
kid_small c [] k = absurd (some-ne-none c (sym k.1))
kid_small c (d ∷ ds) (zero, at) = let l = sum_cons d ds in let q : length d ≡ length c = ap length (some-injective d c at) in omega arith
kid_small c (d ∷ ds) (suc i, at) = let l = sum_cons d ds in let r = kid_small c ds (i, at) in omega arith

pub count_append : (c : Code) (xs ys : List Code) → count_code c (xs ++ ys) ≡ count_code c xs + count_code c ys
count_append c [] ys = omega arith
count_append c (x ∷ xs) ys = let r = count_append c xs ys in omega arith

pub here_one : (x : Code) (xs : List Code) → 1 ≤ count_code x (x ∷ xs)
here_one x xs = code_test x x (λ b. 1 ≤ (if b then 1 else 0) + count_code x xs) (λ _. omega arith) (λ n. absurd (n refl))

codes_here : (l : List Held) → Each (λ q. 1 ≤ count_code q.code (held_codes l)) l
codes_here [] = tt
codes_here (p ∷ ps) = (here_one p.code (held_codes ps), each_mono (λ q. 1 ≤ count_code q.code (held_codes ps)) (λ q. 1 ≤ count_code q.code (p.code ∷ held_codes ps)) ps (λ q h. omega arith) (codes_here ps))

pub held_here : (ls : List (List Held)) → Each (Each (λ q. 1 ≤ count_code q.code (lists_codes ls))) ls
held_here [] = tt
held_here (l ∷ ls) = (
  each_mono (λ q. 1 ≤ count_code q.code (held_codes l)) (λ q. 1 ≤ count_code q.code (lists_codes (l ∷ ls))) l (λ q h. let r = count_append q.code (held_codes l) (lists_codes ls) in omega arith) (codes_here l),
  each_mono (Each (λ q. 1 ≤ count_code q.code (lists_codes ls))) (Each (λ q. 1 ≤ count_code q.code (lists_codes (l ∷ ls)))) ls (λ k. each_mono (λ q. 1 ≤ count_code q.code (lists_codes ls)) (λ q. 1 ≤ count_code q.code (lists_codes (l ∷ ls))) k (λ q h. let r = count_append q.code (held_codes l) (lists_codes ls) in omega arith)) (held_here ls),
)

pub both_in : (P Q : Held → Type 0) (ls : List (List Held)) → Each (Each P) ls → Each (Each Q) ls → Each (Each (λ q. P q × Q q)) ls
both_in P Q [] a b = tt
both_in P Q (l ∷ ls) a b = (each_both P Q l a.0 b.0, both_in P Q ls a.1 b.1)

-- a code that a party holds, or a child of one that is
abbrev pub Rooted : List (List Held) → ℕ → Code → Type 0
Rooted ls zero c = ⊥
Rooted ls (suc m) c = (1 ≤ count_code c (lists_codes ls)) ⊎ ((d : Code) × Kid c (children d) × Rooted ls m d)

module _ (n : ℕ) (g : State) (c : Canonical n g) where
  -- each child of a code that stands stands
  pub down : (p : Held) (k : Code) → Stands g.tables p → Kid k (children p.code) → (q : Held) × Stands g.tables q × (q.code ≡ k)
  down p k h kid =
      let t = h.0 in
      let o = c.tables p.name.stripe t h.1 in
      let e = each_at (Counts n p.name.stripe t.mark (every g)) t.entries h.2.0 h.2.1 o.entries h.2.2 in
      let all = links_from (Each (Stands g.tables)) p.name.stripe g.tables t h.1 (each_back (Each (Stands g.tables)) g.lists (link_lists g.tables) c.pairs) in
      let mine = at_entry h.2.0 t.entries h.2.1 h.2.2 all in
      pick h.2.1.links (children h.2.1.code) e.full mine (subst (λ (y : Code). Kid k (children y)) (sym h.2.4) kid)
    where
      at_entry : (k : ℕ) (es : List Entry) (e : Entry) → get_elem? es k ≡ some e → Each (Each (Stands g.tables)) (links_each es) → Each (Stands g.tables) (links_of e)
      at_entry k [] e at h = absurd (some-ne-none e (sym at))
      at_entry zero (x ∷ xs) e at h = subst (λ (y : Entry). Each (Stands g.tables) (links_of y)) (some-injective x e at) h.0
      at_entry (suc k) (x ∷ xs) e at h = at_entry k xs e at h.1

      pick : (xs : List Name) (cs : List Code) → length xs ≡ length cs → Each (Stands g.tables) (linked xs cs) → Kid k cs → (q : Held) × Stands g.tables q × (q.code ≡ k)
      pick xs [] l h kid = absurd (some-ne-none k (sym kid.1))
      pick [] (d ∷ ds) l h kid = absurd (omega arith)
      pick (x ∷ xs) (d ∷ ds) l h (zero, at) = (pair x d, h.0, some-injective d k at)
      pick (x ∷ xs) (d ∷ ds) l h (suc i, at) = pick xs ds (omega arith) h.1 (i, at)

module _ (n : ℕ) (g : State) (c : Canonical n g) (few : (i : ℕ) (t : Table) → get_elem? g.tables i ≡ some t → Each (λ (e : Entry). e.count ≢ most) t.entries) where
  abbrev S : Held → Type 0
  S p = Stands g.tables p

  -- the parent of a link
  abbrev Parent : Held → Type 0
  Parent p = Stands g.tables p × ((q : Held) × Stands g.tables q × Kid p.code (children q.code))

  parents : Each (Each Parent) (link_lists g.tables)
  parents = of_tabs (Each Parent) g.tables (λ i t at. of_entries (Each Parent) t.entries (λ k e at'.
      let all = links_from (Each (Stands g.tables)) i g.tables t at (each_back (Each (Stands g.tables)) g.lists (link_lists g.tables) c.pairs) in
      let mine = links_each_at k t.entries e at' all in
      let q : Held = pair (slot_name i e.slot) e.code in
      let here : Stands g.tables q = (t, at, (k, e, at', refl, refl)) in
      each_both (Stands g.tables) (λ p. (q : Held) × Stands g.tables q × Kid p.code (children q.code)) (links_of e) mine (each_mono (λ p. Kid p.code (children e.code)) (λ p. (q : Held) × Stands g.tables q × Kid p.code (children q.code)) (links_of e) (λ p z. (q, here, z)) (linked_kids e.links (children e.code)))))
    where
      links_each_at : (k : ℕ) (es : List Entry) (e : Entry) → get_elem? es k ≡ some e → Each (Each (Stands g.tables)) (links_each es) → Each (Stands g.tables) (links_of e)
      links_each_at k [] e at h = absurd (some-ne-none e (sym at))
      links_each_at zero (x ∷ xs) e at h = subst (λ (y : Entry). Each (Stands g.tables) (links_of y)) (some-injective x e at) h.0
      links_each_at (suc k) (x ∷ xs) e at h = links_each_at k xs e at h.1

  -- each code that stands has a held one above it
  pub up : (m bound : ℕ) (p : Held) → ((q : Held) → Stands g.tables q → length q.code ≤ bound) → Stands g.tables p → bound < length p.code + m → Rooted g.lists m p.code
  up zero bound p small h b = absurd (let s = small p h in omega arith)
  up (suc m) bound p small h b =
      let t = h.0 in
      let k = each_at (Counts n p.name.stripe t.mark (every g)) t.entries h.2.0 h.2.1 (c.tables p.name.stripe t h.1).entries h.2.2 in
      let unsat = each_at (λ (e : Entry). e.count ≢ most) t.entries h.2.0 h.2.1 (few p.name.stripe t h.1) h.2.2 in
      let w : slot_name p.name.stripe h.2.1.slot ≡ p.name = λ j. record { stripe = p.name.stripe; slot = h.2.3 j } in
      let count : h.2.1.count ≡ all_times p.name (every g) = ⊎_elim (λ q. q ∙ ap (λ x. all_times x (every g)) w) (λ q. absurd (unsat q)) k.counted in
      let some_there = k.positive in
      let sum = all_times_append p.name g.lists (link_lists g.tables) in
      by_test (all_times p.name g.lists) 0 (λ b. Rooted g.lists (suc m) p.code)
      (λ zr.
      let f = find_in Parent p.name (link_lists g.tables) (omega arith) parents in
      let same : f.0.code ≡ p.code = (stands_agree n g f.0 p c f.2.0 h).0 f.1 in
      let q = f.2.1.0 in
      let hq = f.2.1.1 in
      let kid : Kid p.code (children q.code) = subst (λ (y : Code). Kid y (children q.code)) same f.2.1.2 in
      let kq = each_at (Counts n q.name.stripe hq.0.mark (every g)) hq.0.entries hq.2.0 hq.2.1 (c.tables q.name.stripe hq.0 hq.1).entries hq.2.2 in
      let code = subst IsCode hq.2.4 kq.sound in
      let bigger = order_is q.code code in
      let small_kid = kid_small p.code (children q.code) kid in
      inr (q.code, kid, up m bound q small hq (omega arith)))
      (λ held.
      let f = find_in (λ q. Stands g.tables q × (1 ≤ count_code q.code (lists_codes g.lists))) p.name g.lists (omega arith) (both_in (Stands g.tables) (λ q. 1 ≤ count_code q.code (lists_codes g.lists)) g.lists (each_front (Each (Stands g.tables)) g.lists (link_lists g.tables) c.pairs) (held_here g.lists)) in
      let same : f.0.code ≡ p.code = (stands_agree n g f.0 p c f.2.0 h).0 f.1 in
      inl (subst (λ y. 1 ≤ count_code y (lists_codes g.lists)) same f.2.1))
