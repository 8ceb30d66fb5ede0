-- How each change keeps what a stripe keeps.
use Rattle.std.proofs.Common.{◌≡◌, ◌≢◌, ℕ, zero, suc, ◌+◌, ◌-◌, ◌<◌, ◌≤◌, ◌==◌, Bool, true, false, cond, List, [], ◌∷◌, ◌++◌, length, refl, sym, ap, ◌∙◌, subst, arith, if◌then◌else◌, Some, None, Option, is_some}
use lib.ListN.{get_or, set}
use mathlib.Core.Logic.{dite}
use native.Mathlib.Decide.{ℕ_discrete}
use Rattle.bs_tree.specs.SortingLaws.{by_cases}
use Rattle.bs_core.specs.Keys.{Key}
use Rattle.bs_core.specs.KeyEquality.{same_key, same_key-Decides}
use Rattle.bs_core.specs.Machine.{at_place}
use Rattle.bs_core.proofs.Basics.{by_test}
use Rattle.bs_stripe.specs.Places.{entry_at, has_key, find, keyed, live, raise, lower, one_less, new_entry, gives_of}
use Rattle.bs_stripe.specs.Chains.{entry_in, next_in, next_of, count_in, raise_in, less_in, entries, next_at, Chain, among, IsKept}
use Rattle.bs_stripe.specs.declared.place.Entry.{Entry}
use Rattle.bs_stripe.specs.declared.place.Place.{Place}
use Rattle.bs_stripe.specs.declared.place.Place.TheVariants.{Taken, Vacant}
use Rattle.bs_stripe.specs.declared.stripe.Lowered.TheVariants.{Kept, Gone}
use Rattle.bs_stripe.proofs.Slots.{count_place, count_push, count_small, find_same, find_none, none_found, find_put, find_last, find_before, long, entry_here, next_here, entries_set, entries_push, next_set, next_else, next_push, vacant_in}

abbrev one_if : Bool → ℕ
one_if b = if b then 1 else 0

-- ---- chains
chain_same : (f : Option ℕ) (ss : List ℕ) (ps ps' : List Place) → ((t : ℕ) → 1 ≤ among t ss → next_at t ps' ≡ next_at t ps) → Chain f ss ps → Chain f ss ps'
chain_same f [] ps ps' h c = c
chain_same f (s ∷ ss) ps ps' h c = (
  c.0,
  (
    c.1.0,
    h s (by_test s s (λ b. 1 ≤ (one_if b) + among s ss) (λ _. omega arith) (λ n. absurd (n refl))) ∙ c.1.1,
    chain_same c.1.0 ss ps ps' (λ t one. h t (elim (t == s) as (λ b. 1 ≤ (one_if b) + among t ss) [ true ↦ omega arith | false ↦ omega arith ])) c.1.2,
  ),
)

chain_set : (f : Option ℕ) (ss : List ℕ) (s : ℕ) (ps : List Place) (y : Place) → among s ss ≡ 0 → Chain f ss ps → Chain f ss (set ps s y)
chain_set f ss s ps y none c = chain_same f ss ps (set ps s y) (λ t one. dite (ℕ_discrete t s) (λ e. let z : among t ss ≡ 0 = ap (λ (k : ℕ). among k ss) e ∙ none in absurd (omega arith)) (λ n. next_else t s ps y n)) c

-- ---- keys
same_sym : (k l : Key) → same_key k l ≡ true → same_key l k ≡ true
same_sym k l h = (same_key-Decides l k).1 (sym ((same_key-Decides k l).0 h))

not_same : (k l : Key) → same_key k l ≡ false → same_key l k ≡ false
not_same k l h = by_cases (same_key l k) (λ e. let r = same_sym l k e in absurd (cc)) (λ e. e)

-- ---- the entry of a slot counts more or less
pub kept_same : (f : Option ℕ) (ps : List Place) (g : Key → Option ℕ) (n s : ℕ) (d y : Place) → s < length ps → d ≡ get_or ps s d → next_in y ≡ next_in d
    → ((k : Key) → has_key k (entry_in y) ≡ has_key k (entry_in d)) → is_some (entry_in y) ≡ is_some (entry_in d) → IsKept f ps g n → IsKept f (set ps s y) g n
kept_same f ps g n s d y lt here next key some kept =
    let es = entries ps in
    let at : entry_at s es ≡ entry_in d = entry_here s ps d lt here in
    let G : Option Entry → Option Entry = λ _. entry_in y in
    let new : entries (set ps s y) ≡ at_place s G es = entries_set s ps y G lt refl in
    let nexts : (t : ℕ) → next_at t (set ps s y) ≡ next_at t ps = λ t. dite (ℕ_discrete t s)
    (λ e. subst (λ k. next_at k (set ps s y) ≡ next_at k ps) (sym e) (next_set s ps y lt ∙ next ∙ sym (next_here s ps d lt here)))
    (λ ne. next_else t s ps y ne) in
    record {
      chain = kept.chain;
      leads = chain_same f kept.chain ps (set ps s y) (λ t _. nexts t) kept.leads;
      once = λ t. kept.once t ∙ ap (λ (o : Option (Option ℕ)). one_if (is_some o)) (sym (nexts t));
      finds = λ k. kept.finds k ∙ sym (ap (find k) new ∙ find_same 0 k s G es (key k ∙ ap (has_key k) (sym at)));
      differ = λ k.
          let c = count_place (has_key k) s G es (subst (λ m. s < m) (sym (long ps)) lt) in
          let b : (one_if (has_key k (entry_in y))) ≡ (one_if (has_key k (entry_at s es))) = ap (λ (b : Bool). one_if b) (key k ∙ ap (has_key k) (sym at)) in
          let e : keyed k (entries (set ps s y)) ≡ keyed k (at_place s G es) = ap (keyed k) new in
          let h = kept.differ k in omega arith;
      counts =
          let c = count_place is_some s G es (subst (λ m. s < m) (sym (long ps)) lt) in
          let b : (one_if (is_some (entry_in y))) ≡ (one_if (is_some (entry_at s es))) = ap (λ (b : Bool). one_if b) (some ∙ ap (λ (x : Option Entry). is_some x) (sym at)) in
          let e : live (entries (set ps s y)) ≡ live (at_place s G es) = ap live new in
          let h = kept.counts in omega arith;
    }

-- ---- an entry leaves
pub kept_gone : (f : Option ℕ) (ps : List Place) (g g' : Key → Option ℕ) (n n' s : ℕ) (d : Place) (e : Entry) → s < length ps → d ≡ get_or ps s d → Some e ≡ entry_in d
    → ((k : Key) → g' k ≡ cond (same_key e.key k) None (g k)) → n' ≡ n - 1 → IsKept f ps g n → IsKept (Some s) (set ps s (Vacant f)) g' n'
kept_gone f ps g g' n n' s d e lt here is keys less kept =
    let es = entries ps in
    let at : entry_at s es ≡ Some e = entry_here s ps d lt here ∙ sym is in
    let G : Option Entry → Option Entry = λ _. None in
    let new : entries (set ps s (Vacant f)) ≡ at_place s G es = entries_set s ps (Vacant f) G lt refl in
    let lt' : s < length es = subst (λ m. s < m) (sym (long ps)) lt in
    let taken : next_at s ps ≡ None = next_here s ps d lt here ∙ no_next d e is in
    let none : among s kept.chain ≡ 0 = kept.once s ∙ ap (λ (o : Option (Option ℕ)). one_if (is_some o)) taken in
    record {
      chain = s ∷ kept.chain;
      leads = (refl, (f, next_set s ps (Vacant f) lt, chain_set f kept.chain s ps (Vacant f) none kept.leads));
      once = λ t. by_test t s (λ b. (one_if b) + among t kept.chain ≡ (if is_some (next_at t (set ps s (Vacant f))) then 1 else 0))
          (λ q.
          let a : among t kept.chain ≡ 0 = ap (λ (k : ℕ). among k kept.chain) q ∙ none in
          let b : (if is_some (next_at t (set ps s (Vacant f))) then 1 else 0) ≡ 1 = ap (λ (k : ℕ). if is_some (next_at k (set ps s (Vacant f))) then 1 else 0) q ∙ ap (λ (o : Option (Option ℕ)). one_if (is_some o)) (next_set s ps (Vacant f) lt) in omega arith)
          (λ q.
          let a = kept.once t in
          let b : (if is_some (next_at t (set ps s (Vacant f))) then 1 else 0) ≡ (one_if (is_some (next_at t ps))) = ap (λ (o : Option (Option ℕ)). one_if (is_some o)) (next_else t s ps (Vacant f) q) in omega arith);
      finds = λ k. keys k ∙ by_cases (same_key e.key k)
          (λ q.
          let c = count_place (has_key k) s G es lt' in
          let one : (one_if (has_key k (entry_at s es))) ≡ 1 = ap (λ (x : Option Entry). one_if (has_key k x)) at ∙ ap (λ (b : Bool). one_if b) (same_sym e.key k q) in
          let h = kept.differ k in
          let z : keyed k (at_place s G es) ≡ 0 = omega arith in
          subst (λ b. cond b None (g k) ≡ find k (entries (set ps s (Vacant f)))) (sym q) (sym (ap (find k) new ∙ find_none 0 k (at_place s G es) z)))
          (λ q. subst (λ b. cond b None (g k) ≡ find k (entries (set ps s (Vacant f)))) (sym q)
          (kept.finds k ∙ sym (ap (find k) new ∙ find_same 0 k s G es (sym (ap (has_key k) at ∙ not_same e.key k q)))));
      differ = λ k.
          let c = count_place (has_key k) s G es lt' in
          let q : keyed k (entries (set ps s (Vacant f))) ≡ keyed k (at_place s G es) = ap (keyed k) new in
          let h = kept.differ k in omega arith;
      counts =
          let c = count_place is_some s G es lt' in
          let one : (one_if (is_some (entry_at s es))) ≡ 1 = ap (λ (x : Option Entry). one_if (is_some x)) at in
          let q : live (entries (set ps s (Vacant f))) ≡ live (at_place s G es) = ap live new in
          let h = kept.counts in omega arith;
    }
  where
    no_next : (d : Place) (e : Entry) → Some e ≡ entry_in d → next_in d ≡ None
    no_next (Taken x) e h = refl
    no_next (Vacant m) e h = absurd (cc)

-- ---- an entry comes at a vacant slot
abbrev pub one_key : Key → Place
one_key k = Taken (record { key = k; count = 1 })

-- the new entry is found, and every other as before
found_new : (k q : Key) (s : ℕ) (es es' : List (Option Entry)) (g g' : Key → Option ℕ) → find k es ≡ None → ((r : Key) → g' r ≡ cond (same_key k r) (Some s) (g r)) → ((r : Key) → g r ≡ find r es)
    → (keyed q es ≡ 0 → has_key q (new_entry k) ≡ true → find q es' ≡ Some s) → (has_key q (new_entry k) ≡ false → find q es' ≡ find q es) → g' q ≡ find q es'
found_new k q s es es' g g' none keys finds hit miss = keys q ∙ by_cases (same_key k q)
    (λ e.
    let is : k ≡ q = (same_key-Decides k q).0 e in
    let z : keyed q es ≡ 0 = subst (λ r. keyed r es ≡ 0) is (none_found 0 k es none) in
    subst (λ b. cond b (Some s) (g q) ≡ find q es') (sym e) (sym (hit z (same_sym k q e))))
    (λ e. subst (λ b. cond b (Some s) (g q) ≡ find q es') (sym e) (finds q ∙ sym (miss (not_same k q e))))

differ_new : (k q : Key) (es : List (Option Entry)) → find k es ≡ None → keyed q es ≤ 1 → keyed q es + (one_if (has_key q (new_entry k))) ≤ 1
differ_new k q es none one = by_cases (same_key q k)
    (λ e.
    let is : q ≡ k = (same_key-Decides q k).0 e in
    let z : keyed q es ≡ 0 = subst (λ r. keyed r es ≡ 0) (sym is) (none_found 0 k es none) in
    subst (λ b. keyed q es + (one_if b) ≤ 1) (sym e) (omega arith))
    (λ e. subst (λ b. keyed q es + (one_if b) ≤ 1) (sym e) (omega arith))

-- the first vacant slot
pub first_vacant : (f : Option ℕ) (s : ℕ) (ps : List Place) (g : Key → Option ℕ) (n : ℕ) → f ≡ Some s → IsKept f ps g n → (m : Option ℕ) × (ss : List ℕ) × (next_at s ps ≡ Some m) × Chain m ss ps × ((t : ℕ) → (one_if (t == s)) + among t ss ≡ (one_if (is_some (next_at t ps))))
first_vacant f s ps g n is kept = begins kept.chain kept.leads kept.once
  where
    begins : (c : List ℕ) → Chain f c ps → ((t : ℕ) → among t c ≡ (one_if (is_some (next_at t ps)))) → (m : Option ℕ) × (ss : List ℕ) × (next_at s ps ≡ Some m) × Chain m ss ps × ((t : ℕ) → (one_if (t == s)) + among t ss ≡ (one_if (is_some (next_at t ps))))
    begins [] c o = let r : None ≡ Some s = sym c ∙ is in absurd (cc)
    begins (t ∷ ts) c o =
        let r : Some s ≡ Some t = sym is ∙ c.0 in
        let q : t ≡ s = cc in
        (c.1.0, ts, subst (λ k. next_at k ps ≡ Some c.1.0) q c.1.1, c.1.2, λ k. subst (λ j. (one_if (k == j)) + among k ts ≡ (one_if (is_some (next_at k ps)))) q (o k))

next_was : (d : Place) (m : Option ℕ) → next_in d ≡ Some m → m ≡ next_of d
next_was (Taken e) m h = absurd (cc)
next_was (Vacant n) m h = cc

pub kept_filled : (f : Option ℕ) (ps : List Place) (g g' : Key → Option ℕ) (n s : ℕ) (d : Place) (k : Key) → f ≡ Some s → d ≡ get_or ps s d → find k (entries ps) ≡ None
    → ((r : Key) → g' r ≡ cond (same_key k r) (Some s) (g r)) → IsKept f ps g n → IsKept (next_of d) (set ps s (one_key k)) g' (n + 1)
kept_filled f ps g g' n s d k is here none keys kept =
    let v = first_vacant f s ps g n is kept in
    let in_it = vacant_in s ps v.0 v.2 in
    let lt = in_it.0 in
    let es = entries ps in
    let y = one_key k in
    let G : Option Entry → Option Entry = λ _. new_entry k in
    let new : entries (set ps s y) ≡ at_place s G es = entries_set s ps y G lt refl in
    let lt' : s < length es = subst (λ m. s < m) (sym (long ps)) lt in
    let at : entry_at s es ≡ None = in_it.1 in
    let next : v.0 ≡ next_of d = next_was d v.0 (sym (next_here s ps d lt here) ∙ v.2) in
    let gone : among s v.1 ≡ 0 =
    let o = v.4 s in
    let a : (one_if (s == s)) ≡ 1 = by_test s s (λ b. (one_if b) ≡ 1) (λ _. refl) (λ ne. absurd (ne refl)) in
    let b : (one_if (is_some (next_at s ps))) ≡ 1 = ap (λ (x : Option (Option ℕ)). one_if (is_some x)) v.2 in omega arith in
    record {
      chain = v.1;
      leads = chain_set (next_of d) v.1 s ps y gone (subst (λ m. Chain m v.1 ps) next v.3);
      once = λ t. dite (ℕ_discrete t s)
          (λ q. ap (λ (j : ℕ). among j v.1) q ∙ gone ∙ sym (ap (λ (j : ℕ). one_if (is_some (next_at j (set ps s y)))) q ∙ ap (λ (x : Option (Option ℕ)). one_if (is_some x)) (next_set s ps y lt)))
          (λ q.
          let o = v.4 t in
          let a : (one_if (t == s)) ≡ 0 = by_test t s (λ b. (one_if b) ≡ 0) (λ e. absurd (q e)) (λ _. refl) in
          let b : (one_if (is_some (next_at t (set ps s y)))) ≡ (one_if (is_some (next_at t ps))) = ap (λ (x : Option (Option ℕ)). one_if (is_some x)) (next_else t s ps y q) in omega arith);
      finds = λ q. found_new k q s es (entries (set ps s y)) g g' none keys kept.finds
          (λ z has. ap (find q) new ∙ find_put 0 q s (new_entry k) es z lt' has ∙ ap (λ (j : ℕ). Some j) (let e : 0 + s ≡ s = omega arith in e))
          (λ no_key. ap (find q) new ∙ find_same 0 q s G es (no_key ∙ sym (ap (has_key q) at)));
      differ = λ q.
          let c = count_place (has_key q) s G es lt' in
          let a : (one_if (has_key q (entry_at s es))) ≡ 0 = ap (λ (x : Option Entry). one_if (has_key q x)) at in
          let e : keyed q (entries (set ps s y)) ≡ keyed q (at_place s G es) = ap (keyed q) new in
          let h = differ_new k q es none (kept.differ q) in omega arith;
      counts =
          let c = count_place is_some s G es lt' in
          let a : (one_if (is_some (entry_at s es))) ≡ 0 = ap (λ (x : Option Entry). one_if (is_some x)) at in
          let e : live (entries (set ps s y)) ≡ live (at_place s G es) = ap live new in
          let h = kept.counts in omega arith;
    }

-- ---- an entry comes at the mark
pub no_chain : (f : Option ℕ) (ps : List Place) (g : Key → Option ℕ) (n : ℕ) → f ≡ None → IsKept f ps g n → (t : ℕ) → is_some (next_at t ps) ≡ false
no_chain f ps g n is kept t = empty kept.chain kept.leads (kept.once t)
  where
    empty : (c : List ℕ) → Chain f c ps → among t c ≡ (one_if (is_some (next_at t ps))) → is_some (next_at t ps) ≡ false
    empty [] c o = by_cases (is_some (next_at t ps)) (λ e. let r : 0 ≡ (one_if true) = subst (λ b. 0 ≡ (one_if b)) e o in absurd (omega arith)) (λ e. e)
    empty (s ∷ ss) c o = let r : None ≡ Some s = sym is ∙ c.0 in absurd (cc)

pub kept_pushed : (f : Option ℕ) (ps : List Place) (g g' : Key → Option ℕ) (n s : ℕ) (k : Key) → f ≡ None → s ≡ length ps → find k (entries ps) ≡ None
    → ((r : Key) → g' r ≡ cond (same_key k r) (Some s) (g r)) → IsKept f ps g n → IsKept f (ps ++ one_key k ∷ []) g' (n + 1)
kept_pushed f ps g g' n s k is last none keys kept =
    let es = entries ps in
    let y = one_key k in
    let x = new_entry k in
    let new : entries (ps ++ y ∷ []) ≡ es ++ x ∷ [] = entries_push ps y in
    record {
      chain = [];
      leads = is;
      once = λ t. sym (ap (λ (o : Option (Option ℕ)). one_if (is_some o)) (next_push t ps y refl) ∙ ap (λ (b : Bool). one_if b) (no_chain f ps g n is kept t));
      finds = λ q. found_new k q s es (entries (ps ++ y ∷ [])) g g' none keys kept.finds
          (λ z has. ap (find q) new ∙ find_last 0 q x es z has ∙ ap (λ (j : ℕ). Some j) (let l = long ps in let e : 0 + length es ≡ s = omega arith in e))
          (λ no_key. ap (find q) new ∙ find_before 0 q x es no_key);
      differ = λ q.
          let c = count_push (has_key q) es x in
          let e : keyed q (entries (ps ++ y ∷ [])) ≡ keyed q (es ++ x ∷ []) = ap (keyed q) new in
          let h = differ_new k q es none (kept.differ q) in omega arith;
      counts =
          let c = count_push is_some es x in
          let e : live (entries (ps ++ y ∷ [])) ≡ live (es ++ x ∷ []) = ap live new in
          let h = kept.counts in omega arith;
    }

-- ---- what the code does to one place
pub raised_place : (d : Place) → (next_in (raise_in d) ≡ next_in d) × (((k : Key) → has_key k (entry_in (raise_in d)) ≡ has_key k (entry_in d)) × ((is_some (entry_in (raise_in d)) ≡ is_some (entry_in d)) × (entry_in (raise_in d) ≡ raise (entry_in d))))
raised_place (Taken e) = (refl, (λ k. refl, (refl, refl)))
raised_place (Vacant m) = (refl, (λ k. refl, (refl, refl)))

pub less_place : (d : Place) → count_in d ≢ 1 → (next_in (less_in d) ≡ next_in d) × (((k : Key) → has_key k (entry_in (less_in d)) ≡ has_key k (entry_in d)) × ((is_some (entry_in (less_in d)) ≡ is_some (entry_in d)) × (entry_in (less_in d) ≡ lower (entry_in d))))
less_place (Taken e) n = (refl, (λ k. refl, (refl, by_test e.count 1 (λ b. Some (let r : Entry = record { key = e.key; count = one_less e.count } in r) ≡ (if b then None else Some (record { key = e.key; count = one_less e.count }))) (λ q. absurd (n q)) (λ _. refl))))
less_place (Vacant m) n = (refl, (λ k. refl, (refl, refl)))

pub gives_kept : (d : Place) → count_in d ≢ 1 → Kept ≡ gives_of (entry_in d)
gives_kept (Taken e) n = by_test e.count 1 (λ b. Kept ≡ (if b then Gone e.key else Kept)) (λ q. absurd (n q)) (λ _. refl)
gives_kept (Vacant m) n = refl

pub gives_gone : (d : Place) (e : Entry) → Some e ≡ entry_in d → count_in d ≡ 1 → Gone e.key ≡ gives_of (entry_in d)
gives_gone (Taken x) e h one =
    let q : e ≡ x = cc in
    ap (λ (y : Entry). Gone y.key) q ∙ by_test x.count 1 (λ b. Gone x.key ≡ (if b then Gone x.key else Kept)) (λ _. refl) (λ n. absurd (n one))
gives_gone (Vacant m) e h one = absurd (cc)

pub lower_gone : (d : Place) → count_in d ≡ 1 → None ≡ lower (entry_in d)
lower_gone (Taken x) one = by_test x.count 1 (λ b. let l : Option Entry = None in let r : Entry = record { key = x.key; count = one_less x.count } in l ≡ (if b then None else Some r)) (λ _. refl) (λ n. absurd (n one))
lower_gone (Vacant m) one = refl

pub read_same : (s : ℕ) (ps : List Place) (d d' : Place) → s < length ps → d ≡ get_or ps s d → d' ≡ get_or ps s d' → d ≡ d'
read_same s [] d d' lt e e' = absurd (omega arith)
read_same zero (p ∷ ps) d d' lt e e' = e ∙ sym e'
read_same (suc s) (p ∷ ps) d d' lt e e' = read_same s ps d d' (omega arith) e e'

-- ---- with what the calls gave
pub kept_again : (f : Option ℕ) (ps ps' : List Place) (g g' : Key → Option ℕ) (n : ℕ) → ps' ≡ ps → ((k : Key) → g' k ≡ g k) → IsKept f ps g n → IsKept f ps' g' n
kept_again f ps ps' g g' n same keys kept = subst (λ (qs : List Place). IsKept f qs g' n) (sym same) (record {
  chain = kept.chain;
  leads = kept.leads;
  once = kept.once;
  finds = λ k. keys k ∙ kept.finds k;
  differ = kept.differ;
  counts = kept.counts;
})

pub filled_as : (f nx : Option ℕ) (ps ps' : List Place) (g g' : Key → Option ℕ) (n s : ℕ) (d y : Place) (k : Key) → f ≡ Some s → ps' ≡ ps → y ≡ one_key k → nx ≡ next_of d → d ≡ get_or ps' s d → find k (entries ps) ≡ None
    → ((r : Key) → g' r ≡ cond (same_key k r) (Some s) (g r)) → IsKept f ps g n → IsKept nx (set ps' s y) g' (n + 1)
filled_as f nx ps ps' g g' n s d y k is ep ey en here none keys kept =
    subst (λ (qs : List Place). IsKept nx (set qs s y) g' (n + 1)) (sym ep)
    (subst (λ (z : Place). IsKept nx (set ps s z) g' (n + 1)) (sym ey)
    (subst (λ (m : Option ℕ). IsKept m (set ps s (one_key k)) g' (n + 1)) (sym en) (kept_filled f ps g g' n s d k is (here ∙ ap (λ (qs : List Place). get_or qs s d) ep) none keys kept)))

pub pushed_as : (f : Option ℕ) (ps qs : List Place) (g g' : Key → Option ℕ) (n s : ℕ) (k : Key) → f ≡ None → s ≡ length ps → qs ≡ ps ++ one_key k ∷ [] → find k (entries ps) ≡ None
    → ((r : Key) → g' r ≡ cond (same_key k r) (Some s) (g r)) → IsKept f ps g n → IsKept f qs g' (n + 1)
pushed_as f ps qs g g' n s k is last eq none keys kept = subst (λ (rs : List Place). IsKept f rs g' (n + 1)) (sym eq) (kept_pushed f ps g g' n s k is last none keys kept)

pub live_small : (f : Option ℕ) (ps : List Place) (g : Key → Option ℕ) (n : ℕ) → IsKept f ps g n → n ≤ length ps
live_small f ps g n kept = let a = kept.counts in let b = count_small is_some (entries ps) in let c = long ps in omega arith
