-- Each frame awaits a pair below its own, that its plan reads: so the pairs that wait are all different, and all are needed.
use Rattle.std.proofs.Common.{◌≡◌, ℕ, zero, suc, ◌+◌, ◌*◌, ◌<◌, ◌≤◌, ◌⊎◌, List, [], ◌∷◌, ◌++◌, map, Option, Some, None, option_map, slice_get, Bool, true, false, cond, inl, inr, arith, refl, sym, ◌∙◌, ap, ap₂, subst, append_assoc, Result, Ok, Err, IfOk}
use Rattle.std.specs.List.{flat_map, AllByRecursion}
use Rattle.std.specs.declared.alloc.AllocError.{AllocError}
use Rattle.bs_frac.specs.Written.{Term, add, subtract}
use Rattle.bs_frac.specs.declared.coef.Coef.{Coef}
use Rattle.bs_tableau.specs.Table.{Table}
use Rattle.bs_tree.specs.Tree.{Tree, order}
use Rattle.bs_tree.specs.Code.{tree_of}
use Rattle.bs_tree.specs.Canonical.{level_sequence}
use Rattle.bs_tree.specs.ListLaws.{all_implied, all_both}
use Rattle.bs_tree.specs.SubtreeLaws.{tree_of-level_sequence}
use Rattle.bs_series.specs.Series.{Series, exact, identity, average, method, compose, inverse, adjoint, substitute, modified, modifying, scale, size}
use Rattle.bs_series.specs.Plan.{Factor, fixed, at, turned, Plan, plan, HasPlan, plan_factors, term_factors, term_map, divisor_factors, IsBelow, OnFactor}
use Rattle.bs_series.specs.PlanItems.{is_looked_up, looked_up as factor_pairs, pair_of as looked_pair, needed}
use Rattle.bs_series.specs.SeriesCode.{Code, coded_factor, plan_at}
use Rattle.bs_series.specs.Expressions.{series_at}
use Rattle.bs_series.proofs.Below.{plan_below}
use Rattle.bs_series.proofs.Needs.{rank, falls, needed_law}
use Rattle.bs_eval.specs.Steps.{Step, term_step, divisor_steps, plan_steps}
use Rattle.bs_eval.specs.Terms.{steps_of}
use Rattle.bs_eval.specs.Pairs.{IsPair, IsLooked}
use Rattle.bs_eval.specs.Frames.{pair_of, steps_at, step_factors, IsFactorOf, Awaits}
use Rattle.bs_eval.specs.Machine.{Stands, IsSound, IsSoundAt, AwaitsAsked, looked_up}
use Rattle.bs_eval.specs.Counted.{frames_waiting, waiting, Moves}
use Rattle.bs_series.specs.Needed.{need, Among, AreApart}
use Rattle.bs_eval.specs.Needs.{tree_pair, pair_need, IsFresh}
use Rattle.bs_eval.specs.declared.pair.Pair.{Pair}
use Rattle.bs_eval.specs.declared.frame.Frame.{Frame}
use Rattle.bs_eval.specs.declared.eval.State.{State}
use Rattle.bs_eval.specs.declared.eval.State.TheVariants.{Begun, Looking, Kept, Ended}
use Rattle.bs_eval.specs.declared.eval.Ask.{Ask}
use Rattle.bs_eval.specs.declared.eval.Ask.TheVariants.{Look, Keep, Done}
use Rattle.bs_eval.specs.declared.eval.Eval.{Eval}
use Rattle.bs_eval.proofs.Falls.{looked}
use Rattle.bs_eval.proofs.Products.{all_get}

-- ---- what holds of the factors of a plan holds of those of its steps, by codes
module _ (P : Series → Tree → Type 0) where
  abbrev OnCoded : Factor Code → Type 0
  OnCoded = OnFactor (λ s code. P s (tree_of code))

  abbrev OnStep : Step → Type 0
  OnStep s = AllByRecursion OnCoded s.factors

  coded : (f : Factor Tree) → OnFactor P f → OnCoded (coded_factor f)
  coded (fixed c) h = tt
  coded (at s t) h = subst (P s) (sym (tree_of-level_sequence t)) h
  coded (turned s t) h = subst (P s) (sym (tree_of-level_sequence t)) h

  all_coded : (fs : List (Factor Tree)) → AllByRecursion (OnFactor P) fs → AllByRecursion OnCoded (map coded_factor fs)
  all_coded [] h = tt
  all_coded (f ∷ fs) h = (coded f h.0, all_coded fs h.1)

  parted : (xs ys : List (Factor Tree)) → AllByRecursion (OnFactor P) (xs ++ ys) → AllByRecursion (OnFactor P) xs × AllByRecursion (OnFactor P) ys
  parted [] ys h = (tt, h)
  parted (x ∷ xs) ys h = let r = parted xs ys h.1 in ((h.0, r.0), r.1)

  on_steps : (ts : List (Term (Factor Tree))) (d : Option (Factor Tree)) → AllByRecursion (OnFactor P) (flat_map term_factors ts ++ divisor_factors d)
      → AllByRecursion OnStep (map term_step (map (term_map coded_factor) ts) ++ divisor_steps (option_map coded_factor d))
  on_steps [] None h = tt
  on_steps [] (Some f) h = ((coded f h.0, tt), tt)
  on_steps (add fs ∷ ts) d h =
      let r = parted fs (flat_map term_factors ts ++ divisor_factors d) (subst (AllByRecursion (OnFactor P)) (append_assoc fs (flat_map term_factors ts) (divisor_factors d)) h) in
      (all_coded fs r.0, on_steps ts d r.1)
  on_steps (subtract fs ∷ ts) d h =
      let r = parted fs (flat_map term_factors ts ++ divisor_factors d) (subst (AllByRecursion (OnFactor P)) (append_assoc fs (flat_map term_factors ts) (divisor_factors d)) h) in
      (all_coded fs r.0, on_steps ts d r.1)

  on_pair : (es : List Series) (p : Pair) (f : Factor Code) → IsFactorOf es p f → OnCoded f → P (series_at es p.series) (tree_of p.code)
  on_pair es p f (inl e) h = subst OnCoded e h
  on_pair es p f (inr e) h = subst OnCoded e h

  on_option : (o : Option Step) (k : ℕ) (f : Factor Code) → ((s : Step) → o ≡ Some s → OnStep s) → slice_get (step_factors o) k ≡ Some f → OnCoded f
  on_option None zero f h e = absurd cc
  on_option None (suc k) f h e = absurd cc
  on_option (Some s) k f h e = all_get OnCoded s.factors k f (h s refl) e

  -- of the pair that a frame awaits
  on_awaited : (es : List Series) (f : Frame) (p : Pair) → Awaits es f p → AllByRecursion (OnFactor P) (plan_factors (plan (series_at es f.spot.series) (tree_of f.code)))
      → P (series_at es p.series) (tree_of p.code)
  on_awaited es f p a h =
      let q = plan (series_at es f.spot.series) (tree_of f.code) in
      let all : AllByRecursion OnStep (steps_at es f) = on_steps q.terms q.divisor h in
      on_pair es p a.factor.factor a.factor.of (on_option (slice_get (steps_at es f) f.place) f.known a.factor.factor (λ s e. all_get OnStep (steps_at es f) f.place s all e) a.factor.is)

-- ---- the rank of a pair
abbrev pair_rank : List Series → Pair → ℕ
pair_rank es p = rank (series_at es p.series) (tree_of p.code)

awaits_lower : (es : List Series) (f : Frame) (p : Pair) → Awaits es f p → pair_rank es p < pair_rank es (pair_of f)
awaits_lower es f p a =
    let s = series_at es f.spot.series in
    let t = tree_of f.code in
    falls s t (series_at es p.series) (tree_of p.code) (on_awaited (IsBelow s t) es f p a (plan_below s t))

-- ---- all that wait are lower than the first
abbrev IsUnder : List Series → ℕ → Pair → Type 0
IsUnder es n p = pair_rank es p ≤ n

under : (es : List Series) (m n : ℕ) → m ≤ n → (ps : List Pair) → AllByRecursion (IsUnder es m) ps → AllByRecursion (IsUnder es n) ps
under es m n l ps h = all_implied (IsUnder es m) (IsUnder es n) (λ p k. omega (arith, l, k)) ps h

all_under : (tables : List Table) (es : List Series) (of : Pair) (fs : List Frame) (p : Pair) → Stands tables es of fs p → AllByRecursion (IsUnder es (pair_rank es of)) (frames_waiting fs ++ p ∷ [])
all_under tables es of [] p h = (let e : pair_rank es p ≡ pair_rank es of = ap (pair_rank es) (sym h) in omega (arith, e), tt)
all_under tables es of (f ∷ fs) p h =
    let l = awaits_lower es f h.0 h.1.awaits in
    let e : pair_rank es (pair_of f) ≡ pair_rank es of = ap (pair_rank es) h.1.of in
    (omega (arith, e), under es (pair_rank es h.0) (pair_rank es of) (omega (arith, l, e)) (frames_waiting fs ++ p ∷ []) (all_under tables es h.0 fs p h.2))

apart_from : (es : List Series) (q : Pair) (n : ℕ) → n < pair_rank es q → (ps : List Pair) → AllByRecursion (IsUnder es n) ps → AllByRecursion (λ p. ¬ (q ≡ p)) ps
apart_from es q n l ps h =
    all_implied (IsUnder es n) (λ p. ¬ (q ≡ p)) (λ p k e. let r : pair_rank es q ≡ pair_rank es p = ap (pair_rank es) e in absurd (omega (arith, r, k, l))) ps h

pub stands_apart : (tables : List Table) (es : List Series) (of : Pair) (fs : List Frame) (p : Pair) → Stands tables es of fs p → AreApart (frames_waiting fs ++ p ∷ [])
stands_apart tables es of [] p h = (tt, tt)
stands_apart tables es of (f ∷ fs) p h = (
  apart_from es (pair_of f) (pair_rank es h.0) (awaits_lower es f h.0 h.1.awaits) (frames_waiting fs ++ p ∷ []) (all_under tables es h.0 fs p h.2),
  stands_apart tables es h.0 fs p h.2,
)

-- the front of a list that is apart
all_but : {X : Type 0} (P : X → Type 0) (xs : List X) (x : X) → AllByRecursion P (xs ++ x ∷ []) → AllByRecursion P xs
all_but P [] x h = tt
all_but P (y ∷ ys) x h = (h.0, all_but P ys x h.1)

front_apart : {X : Type 0} (xs : List X) (x : X) → AreApart (xs ++ x ∷ []) → AreApart xs
front_apart [] x h = tt
front_apart (y ∷ ys) x h = (all_but (λ z. ¬ (y ≡ z)) ys x h.0, front_apart ys x h.1)

abbrev pub IsOpen : State → Type 0
IsOpen Begun = Unit {0}
IsOpen (Looking p n) = Unit {0}
IsOpen (Kept p v) = Unit {0}
IsOpen Ended = ⊥

pub waiting_apart : (tables : List Table) (es : List Series) (of : Pair) (fs : List Frame) (s : State) → IsSoundAt tables es of fs s → IsOpen s → AreApart (frames_waiting fs)
waiting_apart tables es of fs Begun h o = subst (λ (gs : List Frame). AreApart (frames_waiting gs)) (sym h.2) tt
waiting_apart tables es of fs (Looking p n) h o = front_apart (frames_waiting fs) p (stands_apart tables es of fs p h.1)
waiting_apart tables es of fs (Kept p v) h o = front_apart (frames_waiting fs) p (stands_apart tables es of fs p h.1)
waiting_apart tables es of fs Ended h o = absurd o

pub opened_apart : (tables : List Table) (es : List Series) (of : Pair) (fs : List Frame) (s : State) (p : Pair) (n : ℕ) → IsSoundAt tables es of fs s → s ≡ Looking p n → AreApart (frames_waiting fs ++ p ∷ [])
opened_apart tables es of fs s p n h e = stands_apart tables es of fs p (let k : IsSoundAt tables es of fs (Looking p n) = subst (IsSoundAt tables es of fs) e h in k.1)

-- ---- what is needed
pub among_front : {X : Type 0} (x : X) (xs ys : List X) → Among x xs → Among x (xs ++ ys)
among_front x [] ys h = absurd h
among_front x (y ∷ xs) ys (inl e) = inl e
among_front x (y ∷ xs) ys (inr h) = inr (among_front x xs ys h)

pub among_behind : {X : Type 0} (x : X) (xs ys : List X) → Among x ys → Among x (xs ++ ys)
among_behind x [] ys h = h
among_behind x (y ∷ xs) ys h = inr (among_behind x xs ys h)

among_flat : {X Y : Type 0} (f : X → List Y) (x : X) (y : Y) (xs : List X) → Among x xs → Among y (f x) → Among y (flat_map f xs)
among_flat f x y [] h k = absurd h
among_flat {X} f x y (z ∷ zs) (inl e) k = among_front y (f z) (flat_map f zs) (subst (λ (w : X). Among y (f w)) e k)
among_flat f x y (z ∷ zs) (inr h) k = among_behind y (f z) (flat_map f zs) (among_flat f x y zs h k)

-- each factor of a list that is looked up is one of its pairs
abbrev IsRead : List (Series × Tree) → Series → Tree → Type 0
IsRead ps s t = is_looked_up s ≡ true → Among (s, t) ps

read_now : (s : Series) (t : Tree) (ps : List (Series × Tree)) (b : Bool) → b ≡ true → Among (s, t) (cond b ((s, t) ∷ []) [] ++ ps)
read_now s t ps true e = inl refl
read_now s t ps false e = absurd cc

on_first : (f : Factor Tree) (ps : List (Series × Tree)) → OnFactor (IsRead (factor_pairs f ++ ps)) f
on_first (fixed c) ps = tt
on_first (at s t) ps = λ h. read_now s t ps (is_looked_up s) h
on_first (turned s t) ps = λ h. read_now s t ps (is_looked_up s) h

read_behind : (qs ps : List (Series × Tree)) (f : Factor Tree) → OnFactor (IsRead ps) f → OnFactor (IsRead (qs ++ ps)) f
read_behind qs ps (fixed c) h = tt
read_behind qs ps (at s t) h = λ l. among_behind (s, t) qs ps (h l)
read_behind qs ps (turned s t) h = λ l. among_behind (s, t) qs ps (h l)

all_read : (fs : List (Factor Tree)) → AllByRecursion (OnFactor (IsRead (flat_map factor_pairs fs))) fs
all_read [] = tt
all_read (f ∷ fs) =
    let ps = flat_map factor_pairs fs in
    (on_first f ps, all_implied (OnFactor (IsRead ps)) (OnFactor (IsRead (factor_pairs f ++ ps))) (λ g h. read_behind (factor_pairs f) ps g h) fs (all_read fs))

looked_plan : (s : Series) → HasPlan s → is_looked_up s ≡ true
looked_plan (exact k) h = absurd h
looked_plan (identity k) h = absurd h
looked_plan (average k) h = absurd h
looked_plan (method n k) h = absurd h
looked_plan (compose a b) h = refl
looked_plan (inverse a) h = refl
looked_plan (adjoint a) h = refl
looked_plan (substitute b a) h = refl
looked_plan (modified a) h = refl
looked_plan (modifying a) h = refl
looked_plan (scale a c) h = refl

in_need : (s : Series) (t : Tree) (x : Series × Tree) → is_looked_up s ≡ true → Among x (needed s t) → Among x (need s t)
in_need s t x e h = subst (λ (b : Bool). Among x (cond b (needed s t) [])) (sym e) h

of_need : (s : Series) (t : Tree) (x : Series × Tree) → is_looked_up s ≡ true → Among x (need s t) → Among x (needed s t)
of_need s t x e h = subst (λ (b : Bool). Among x (cond b (needed s t) [])) e h

abbrev needs : Series × Tree → List (Series × Tree)
needs p = needed p.0 p.1

needs_itself : (s : Series) (t : Tree) → Among (s, t) (needed s t)
needs_itself s t = subst (λ (ps : List (Series × Tree)). Among (s, t) ps) (sym (needed_law s t)) (inl refl)

needs_further : (s : Series) (t : Tree) (q x : Series × Tree) → Among q (flat_map factor_pairs (plan_factors (plan s t))) → Among x (needs q) → Among x (needed s t)
needs_further s t q x h k =
    let qs = flat_map factor_pairs (plan_factors (plan s t)) in
    subst (λ (ps : List (Series × Tree)). Among x ps) (sym (needed_law s t)) (inr (among_flat needs q x qs h k))

pub stands_needed : (tables : List Table) (es : List Series) (of : Pair) (fs : List Frame) (p : Pair) → Stands tables es of fs p → IsPair es p → Among (tree_pair es p) (pair_need es of)
stands_needed tables es of [] p h is =
    subst (λ (q : Pair). Among (tree_pair es p) (pair_need es q)) (sym h)
    (in_need (series_at es p.series) (tree_of p.code) (tree_pair es p) (looked (series_at es p.series) is.looked) (needs_itself (series_at es p.series) (tree_of p.code)))
stands_needed tables es of (f ∷ fs) p h is =
    let q = h.0 in
    let a = h.1.awaits in
    let s = series_at es f.spot.series in
    let t = tree_of f.code in
    let l : is_looked_up (series_at es q.series) ≡ true = looked (series_at es q.series) a.pair.looked in
    let ps = flat_map factor_pairs (plan_factors (plan s t)) in
    let r : Among (tree_pair es q) ps = on_awaited (IsRead ps) es f q a (all_read (plan_factors (plan s t))) l in
    let k : Among (tree_pair es p) (needed (series_at es q.series) (tree_of q.code)) =
    of_need (series_at es q.series) (tree_of q.code) (tree_pair es p) l (stands_needed tables es q fs p h.2 is) in
    subst (λ (w : Pair). Among (tree_pair es p) (pair_need es w)) h.1.of (in_need s t (tree_pair es p) (looked_plan s a.frame.planned) (needs_further s t (tree_pair es q) (tree_pair es p) r k))

-- ---- answers
fresh_look : (tables : List Table) (es : List Series) (of : Pair) (fs : List Frame) (s : State) (p : Pair) → IsSoundAt tables es of fs s → looked_up s ≡ Some p → AreApart (frames_waiting fs ++ p ∷ []) × Among (tree_pair es p) (pair_need es of)
fresh_look tables es of fs Begun p h e = absurd cc
fresh_look tables es of fs (Looking q n) p h e =
    let k : q ≡ p = cc in
    (subst (λ (x : Pair). AreApart (frames_waiting fs ++ x ∷ [])) k (stands_apart tables es of fs q h.1), subst (λ (x : Pair). Among (tree_pair es x) (pair_need es of)) k (stands_needed tables es of fs q h.1 h.0))
fresh_look tables es of fs (Kept q v) p h e = absurd cc
fresh_look tables es of fs Ended p h e = absurd cc

pub fresh : (tables : List Table) (es : List Series) (of : Pair) (ws : List Pair) (new : Eval) (r : Result Ask AllocError) → AreApart ws → IsSound tables es new → new.asked ≡ of
    → IfOk r (λ it. AwaitsAsked it new) → IfOk r (λ it. Moves ws it (waiting new)) → IfOk r (λ it. IsFresh es of it (waiting new))
fresh tables es of ws new (Ok (Look id code)) h k e a m =
    subst (λ (q : Pair). AreApart (waiting new ++ record { series = id; code = code } ∷ []) × Among (series_at es id, tree_of code) (pair_need es q)) e
    (fresh_look tables es new.asked new.frames.items new.state (record { series = id; code = code }) k a)
fresh tables es of ws new (Ok (Keep id code v)) h k e a m = subst (λ (qs : List Pair). AreApart qs) m h
fresh tables es of ws new (Ok (Done v)) h k e a m = tt
fresh tables es of ws new (Err x) h k e a m = tt
