-- What the last view of a store counts.
use Rattle.std.proofs.Common.{◌≡◌, ◌≢◌, ◌⊎◌, ℕ, zero, suc, ◌+◌, ◌<◌, ◌≤◌, ◌==◌, List, [], ◌∷◌, ◌++◌, map, length, refl, sym, ap, ◌∙◌, subst, arith, inl, inr, ⊎_elim, if◌then◌else◌, length-append, append_assoc, All, min}
use mathlib.Core.Option.{some}
use mathlib.Core.Logic.{dite}
use native.Mathlib.Decide.{dec_le}
use lib.ListN.{get_elem?}
use Rattle.atomic_table.specs.Seated.{TableId}
use Rattle.bs_tree.specs.declared.TheConstants.{MAX_NODES}
use Rattle.bs_core.specs.Codes.{Code}
use Rattle.bs_core.specs.Machine.{State, most, pair}
use Rattle.bs_core.specs.Canonical.{Each, Counts, Stands, Canonical, all_times, every}
use Rattle.bs_core.specs.declared.name.Name.{Name}
use Rattle.bs_core.specs.declared.table.Held.{Held}
use Rattle.bs_core.specs.declared.table.Entry.{Entry}
use Rattle.bs_core.specs.declared.table.Table.{Table}
use Rattle.bs_core.proofs.Basics.{by_test, code_test}
use Rattle.bs_core.proofs.Pairs.{each_mono}
use Rattle.bs_core.proofs.Counting.{slot_name}
use Rattle.bs_core.proofs.Links.{each_back}
use Rattle.bs_core.proofs.Agree.{each_at, stands_agree}
use Rattle.bs_store.specs.declared.view.Numbered.{Numbered}
use Rattle.bs_store.specs.declared.view.Hand.{Hand}
use Rattle.bs_store.specs.declared.view.View.{View}
use Rattle.bs_store.specs.Rule.{tables_at, Fits, Kept, state, held_by, sum_gains, size}
use Rattle.bs_store.specs.Seats.{OfPass}
use Rattle.bs_store.specs.Closing.{count_code, different, subtrees, every_child, codes_in, all_codes_in, held_codes, lists_codes, wanted, pass_lists, all_gains, numbered, AllNumbers, pass_hand, IsOf, all_entries}
use Rattle.bs_store.proofs.Steps.{total_one, below_one}
use Rattle.bs_store.proofs.Turns.{HandAt}
use Rattle.bs_store.proofs.Closes.{find_in, both_in, held_here, count_append}
use Rattle.bs_store.proofs.Counted.{cut_one, cut_zero, cut_more, different_is, different_within, all_at, code_entry, once, closing_count, closing_least}
use Rattle.bs_store.proofs.Sums.{pick, weigh, sum_of, covers, fills}

-- ---- lists with the same codes as often have as many different ones
firsts : List Code → List Code
firsts [] = []
firsts (x ∷ xs) = if count_code x xs == 0 then x ∷ firsts xs else firsts xs

count_firsts : (y : Code) (xs : List Code) → count_code y (firsts xs) ≡ cut_one (count_code y xs)
unfolding firsts
count_firsts y [] = refl
count_firsts y (x ∷ xs) =
    let r = count_firsts y xs in
    by_test (count_code x xs) 0 (λ b. count_code y (if b then x ∷ firsts xs else firsts xs) ≡ cut_one (count_code y (x ∷ xs)))
    (λ e. code_test y x (λ b. (if b then 1 else 0) + count_code y (firsts xs) ≡ cut_one ((if b then 1 else 0) + count_code y xs))
    (λ q. let v : count_code y xs ≡ count_code x xs = ap (λ (k : Code). count_code k xs) q in let a = cut_zero (count_code y xs) (omega arith) in let d = cut_more (1 + count_code y xs) (omega arith) in omega arith)
    (λ q. let d : cut_one (0 + count_code y xs) ≡ cut_one (count_code y xs) = ap cut_one (let i : 0 + count_code y xs ≡ count_code y xs = omega arith in i) in omega arith))
    (λ n. code_test y x (λ b. count_code y (firsts xs) ≡ cut_one ((if b then 1 else 0) + count_code y xs))
    (λ q. let v : count_code y xs ≡ count_code x xs = ap (λ (k : Code). count_code k xs) q in let a = cut_more (count_code y xs) (omega arith) in let d = cut_more (1 + count_code y xs) (omega arith) in omega arith)
    (λ q. let d : cut_one (0 + count_code y xs) ≡ cut_one (count_code y xs) = ap cut_one (let i : 0 + count_code y xs ≡ count_code y xs = omega arith in i) in omega arith))

different_same : (xs ys : List Code) → ((y : Code) → count_code y xs ≡ count_code y ys) → different xs ≡ different ys
different_same xs ys same = sym (different_is xs (firsts xs) (λ y. count_firsts y xs)) ∙ different_is ys (firsts xs) (λ y. count_firsts y xs ∙ ap cut_one (same y))

-- ---- the codes that are wanted, pass by pass
every_append : (f : Code → List Code) (xs ys : List Code) → every_child f (xs ++ ys) ≡ every_child f xs ++ every_child f ys
every_append f [] ys = refl
every_append f (x ∷ xs) ys = ap (λ (l : List Code). f x ++ l) (every_append f xs ys) ∙ sym (append_assoc (f x) (every_child f xs) (every_child f ys))

abbrev below_all : List Code → List Code
below_all cs = every_child (subtrees (suc MAX_NODES)) cs

abbrev wants : Code → Hand → ℕ
wants y h = count_code y (below_all (held_codes h.held))

wanted_step : (y : Code) (l : List Held) (ls : List (List Held)) → count_code y (wanted (l ∷ ls)) ≡ count_code y (below_all (held_codes l)) + count_code y (wanted ls)
wanted_step y l ls = ap (count_code y) (every_append (subtrees (suc MAX_NODES)) (held_codes l) (lists_codes ls)) ∙ count_append y (below_all (held_codes l)) (wanted ls)

wanted_sum : (y : Code) (hs : List Hand) → sum_of (wants y) hs ≡ count_code y (wanted (held_by hs))
wanted_sum y [] = refl
wanted_sum y (h ∷ hs) = let r = wanted_sum y hs in let s = wanted_step y h.held (held_by hs) in omega arith

wanted_weigh : (y : Code) (ps : List OfPass) → count_code y (wanted (pass_lists ps)) ≡ weigh (λ (h : Hand). h.number) (wants y) (map pass_hand ps)
wanted_weigh y [] = refl
wanted_weigh y (p ∷ ps) = let r = wanted_weigh y ps in let s = wanted_step y p.held (pass_lists ps) in omega arith

-- ---- there are at most as many entries as pairs and links
codes_long : (l : List Held) → length (held_codes l) ≡ length l
codes_long [] = refl
codes_long (p ∷ ps) = ap suc (codes_long ps)

size_codes : (ls : List (List Held)) → length (lists_codes ls) ≡ size ls
size_codes [] = refl
size_codes (l ∷ ls) = let r = size_codes ls in let a = length-append (held_codes l) (lists_codes ls) in let b = codes_long l in omega arith

module _ (n : ℕ) (g : State) (c : Canonical n g) (few : (i : ℕ) (t : Table) → get_elem? g.tables i ≡ some t → Each (λ (e : Entry). e.count ≢ most) t.entries) where
  counted_code : (y : Code) → 1 ≤ count_code y (all_codes_in g.tables) → 1 ≤ count_code y (lists_codes (every g))
  counted_code y h =
      let a = all_at y g.tables h in
      let e = code_entry a.1.entries y a.3 in
      let k = each_at (Counts n a.0 a.1.mark (every g)) a.1.entries e.1 e.0 (c.tables a.0 a.1 a.2).entries e.2 in
      let u = each_at (λ (x : Entry). x.count ≢ most) a.1.entries e.1 e.0 (few a.0 a.1 a.2) e.2 in
      let x : Name = slot_name a.0 e.0.slot in
      let some_there = k.positive in
      let many : 1 ≤ all_times x (every g) = ⊎_elim (λ (q : e.0.count ≡ all_times x (every g)). subst (λ m. 1 ≤ m) q some_there) (λ (q : e.0.count ≡ most). absurd (u q)) k.counted in
      let f = find_in (λ q. Stands g.tables q × (1 ≤ count_code q.code (lists_codes (every g)))) x (every g) many (both_in (Stands g.tables) (λ q. 1 ≤ count_code q.code (lists_codes (every g))) (every g) c.pairs (held_here (every g))) in
      let stands : Stands g.tables (pair x y) = (a.1, a.2, (e.1, e.0, e.2, refl, e.3)) in
      let same : f.0.code ≡ y = (stands_agree n g f.0 (pair x y) c f.2.0 stands).0 f.1 in
      subst (λ (d : Code). 1 ≤ count_code d (lists_codes (every g))) same f.2.1

  entries_small : length (all_codes_in g.tables) ≤ size (every g)
  entries_small =
      let own = different_is (all_codes_in g.tables) (all_codes_in g.tables) (λ y. let o = (once n g c few y).0 in by_test (count_code y (all_codes_in g.tables)) 0 (λ b. count_code y (all_codes_in g.tables) ≡ (if b then 0 else 1)) (λ q. q) (λ q. omega arith)) in
      let le = different_within (all_codes_in g.tables) (lists_codes (every g)) counted_code in
      let s = size_codes (every g) in omega arith

-- ---- the last view
tables_pick : (k : ℕ) (xs : List Numbered) → pick (λ (t : Numbered). t.number) (λ _. 1) k xs ≡ tables_at k xs
tables_pick k [] = refl
tables_pick k (x ∷ xs) = let r = tables_pick k xs in omega arith

entries_weigh : (xs : List Numbered) → all_entries xs ≡ weigh (λ (t : Numbered). t.number) (λ t. length t.table.entries) xs
entries_weigh [] = refl
entries_weigh (x ∷ xs) = let r = entries_weigh xs in omega arith

codes_of_entries : (es : List Entry) → length (codes_in es) ≡ length es
codes_of_entries [] = refl
codes_of_entries (e ∷ es) = ap suc (codes_of_entries es)

entries_sum : (ts : List Table) → sum_of (λ (t : Table). length t.entries) ts ≡ length (all_codes_in ts)
entries_sum [] = refl
entries_sum (t ∷ ts) = let r = entries_sum ts in let a = length-append (codes_in t.entries) (all_codes_in ts) in let b = codes_of_entries t.entries in omega arith

numbered_pick : (k : ℕ) (ps : List OfPass) → pick (λ (h : Hand). h.number) (λ _. 1) k (map pass_hand ps) ≡ numbered k ps
numbered_pick k [] = refl
numbered_pick k (p ∷ ps) = let r = numbered_pick k ps in omega arith

gains_weigh : (ps : List OfPass) → all_gains ps ≡ weigh (λ (h : Hand). h.number) (λ h. h.gains) (map pass_hand ps)
gains_weigh [] = refl
gains_weigh (p ∷ ps) = let r = gains_weigh ps in omega arith

gains_sum : (hs : List Hand) → sum_of (λ (h : Hand). h.gains) hs ≡ sum_gains hs
gains_sum [] = refl
gains_sum (h ∷ hs) = let r = gains_sum hs in omega arith

module _ (n m id : ℕ) (views : List View) (v : View) (ps : List OfPass) (xs : List Hand) (kept : Kept n m views) (at : get_elem? views id ≡ some v) (long : length v.tables ≡ n) (is : v.hands ≡ xs ++ map pass_hand ps) (all : AllNumbers m ps) where
  own : Fits kept.tables kept.hands v
  own = each_at (Fits kept.tables kept.hands) views id v kept.each at

  hands_fit : Each (HandAt kept.hands) (map pass_hand ps)
  hands_fit = each_back (HandAt kept.hands) xs (map pass_hand ps) (subst (Each (HandAt kept.hands)) is own.hands)

  hand_once : (k : ℕ) → k < length kept.hands → pick (λ (h : Hand). h.number) (λ _. 1) k (map pass_hand ps) ≡ 1
  hand_once k l = numbered_pick k ps ∙ all k (let e = kept.hands_long in omega arith)

  table_once : (k : ℕ) → pick (λ (t : Numbered). t.number) (λ _. 1) k v.tables ≤ 1
  table_once k = let a = tables_pick k v.tables in let b = total_one (λ u. tables_at k u.tables) views id v at in let c = kept.one_table k in let d = below_one k n in omega arith

  -- all entries are in this view
  entries_here : all_entries v.tables ≡ length (all_codes_in kept.tables)
  entries_here =
      entries_weigh v.tables
      ∙ covers (λ (t : Numbered). t.number) (λ t. t.table) (λ (t : Table). length t.entries) kept.tables v.tables own.tables
      (fills (λ (t : Numbered). t.number) (λ t. t.table) (λ (t : Table). length t.entries) kept.tables v.tables own.tables (long ∙ sym kept.tables_long) table_once)
      ∙ entries_sum kept.tables

  wanted_here : different (wanted (held_by kept.hands)) ≡ different (wanted (pass_lists ps))
  wanted_here = different_same (wanted (held_by kept.hands)) (wanted (pass_lists ps)) (λ y.
      sym (wanted_weigh y ps ∙ covers (λ (h : Hand). h.number) (λ h. h) (wants y) kept.hands (map pass_hand ps) hands_fit hand_once ∙ wanted_sum y kept.hands))

  -- a closed store has at least what is wanted
  pub ending_least : different (wanted (pass_lists ps)) ≤ all_entries v.tables
  ending_least = let a = entries_here in let b = wanted_here in let c = closing_least n (state kept.tables kept.hands) kept.good.canonical in omega arith

  -- and exactly that, where few pairs were gained
  pub ending : all_gains ps < most → (all_entries v.tables ≡ different (wanted (pass_lists ps))) × (all_entries v.tables < most)
  ending few =
      let gains = gains_weigh ps ∙ covers (λ (h : Hand). h.number) (λ h. h) (λ (h : Hand). h.gains) kept.hands (map pass_hand ps) hands_fit hand_once ∙ gains_sum kept.hands in
      let unsaturated : (i : ℕ) (t : Table) → get_elem? kept.tables i ≡ some t → Each (λ (e : Entry). e.count ≢ most) t.entries = λ i t at'.
      each_mono (λ (e : Entry). e.count ≡ most → most ≤ sum_gains kept.hands) (λ (e : Entry). e.count ≢ most) t.entries (λ e h q. let r = h q in omega arith)
      (each_at (λ (u : Table). Each (λ (e : Entry). e.count ≡ most → most ≤ sum_gains kept.hands) u.entries) kept.tables i t kept.good.enough.1 at') in
      let g = state kept.tables kept.hands in
      let a = entries_here in
      let b = wanted_here in
      let d = closing_count n g kept.good.canonical unsaturated in
      let s = entries_small n g kept.good.canonical unsaturated in
      let e = kept.good.enough.0 in (omega arith, omega arith)

-- ---- joining all seats
pub entries_append : (xs ys : List Numbered) → all_entries (xs ++ ys) ≡ all_entries xs + all_entries ys
entries_append [] ys = omega arith
entries_append (x ∷ xs) ys = let r = entries_append xs ys in omega arith

pub head_of : (t : TableId) (xs ps : List OfPass) (p : OfPass) → xs ≡ p ∷ ps → All (IsOf t) xs → p.store ≡ t
head_of t xs ps p e all = subst (All (IsOf t)) e all zero p (omega arith)

pub tail_of : (t : TableId) (xs ps : List OfPass) (p : OfPass) → xs ≡ p ∷ ps → All (IsOf t) xs → All (IsOf t) ps
tail_of t xs ps p e all k d l = subst (All (IsOf t)) e all (suc k) d (omega arith)

pub hands_push : (start bs cs ds : List Hand) (ps : List OfPass) (p : OfPass) → ds ≡ bs ++ cs → bs ≡ start ++ map pass_hand ps → cs ≡ pass_hand p ∷ [] → ds ≡ start ++ map pass_hand (ps ++ p ∷ [])
hands_push start bs cs ds ps p a b c = a ∙ ap (λ l. l ++ cs) b ∙ ap (λ l. (start ++ map pass_hand ps) ++ l) c ∙ append_assoc start (map pass_hand ps) (pass_hand p ∷ []) ∙ ap (λ l. start ++ l) (sym (mapped ps))
  where
    mapped : (qs : List OfPass) → map pass_hand (qs ++ p ∷ []) ≡ map pass_hand qs ++ pass_hand p ∷ []
    mapped [] = refl
    mapped (q ∷ qs) = ap (λ l. pass_hand q ∷ l) (mapped qs)

pub cut_off : (d e r : ℕ) → d ≤ e → r ≡ min e most → (d ≤ r) ⊎ (r ≡ most)
cut_off d e r l h = dite (dec_le most e) (λ q. inr (omega arith)) (λ q. inl (omega arith))
