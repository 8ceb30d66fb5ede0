-- A frame's product and its sum, one value after another.
use Rattle.std.proofs.Common.{◌≡◌, ℕ, zero, suc, ◌+◌, ◌<◌, ◌≤◌, List, [], ◌∷◌, ◌++◌, map, take, drop, fold, length, Option, Some, None, option_map, is_some, false, get_or, slice_get, MatchOption, IsSomeAnd, ◌⊎◌, inl, inr, refl, sym, ◌∙◌, ap, ap₂, subst, arith}
use Rattle.std.specs.List.{AllByRecursion}
use Rattle.std.proofs.lemmas.List.{take_all, length-map, length-replicate}
use Rattle.std.proofs.lemmas.List.Sums.{fold-append}
use Rattle.std.proofs.lemmas.Option.{slice_get-map, slice_get_within, slice_get-get_or}
use Rattle.bs_frac.specs.Fraction.{whole}
use Rattle.bs_frac.specs.Written.{checked, product_all}
use Rattle.bs_frac.specs.declared.coef.Coef.{Coef}
use Rattle.bs_frac.specs.declared.coef.Coef.TheVariants.{Value, Overflow}
use Rattle.bs_tableau.specs.Table.{Table}
use Rattle.bs_series.specs.Series.{Series, exact}
use Rattle.bs_series.specs.Plan.{Factor, fixed, at, turned}
use Rattle.bs_series.specs.Accepted.{Suits}
use Rattle.bs_series.specs.SeriesCode.{Code, factor_at, written_at}
use Rattle.bs_series.specs.Expressions.{series_at}
use Rattle.bs_eval.specs.Pairs.{IsLooked, IsPair, value_at_pair}
use Rattle.bs_eval.specs.Steps.{Step, values, applied, with_step, carried, so_far, brought}
use Rattle.bs_eval.specs.Terms.{code_at, factor_in, wanted_in, steps_of, rest_in, rest_length, step_in, term_length}
use Rattle.bs_eval.specs.declared.plan.Spot.{Spot}
use Rattle.bs_eval.specs.declared.term.Rest.{Rest}
use Rattle.bs_eval.specs.declared.term.Rest.TheVariants as rest
use Rattle.bs_eval.specs.declared.term.Term.{Term}
use Rattle.bs_eval.specs.Values.{value_of, IsLookedUp}
use Rattle.bs_eval.specs.Frames.{pair_of, wanted_pair, steps_at, step_factors, factors_at, Awaits, extended, IsFactorOf, HasFactor, ProductIs, IsAlone, IsReady, IsPlanned, IsOn}
use Rattle.bs_eval.specs.declared.pair.Pair.{Pair}
use Rattle.bs_eval.specs.declared.factor.Factor.{Factor as CodeFactor}
use Rattle.bs_eval.specs.declared.factor.Factor.TheVariants as factor
use Rattle.bs_eval.specs.declared.factor.Wanted.{Wanted}
use Rattle.bs_eval.specs.declared.term.Operation.{Operation}
use Rattle.bs_eval.specs.declared.term.Operation.TheVariants.{Add, Subtract, Divide}
use Rattle.bs_eval.specs.declared.frame.Frame.{Frame}
use Rattle.bs_eval.proofs.Carried.{plan_comes}
use Rattle.bs_eval.proofs.Lists.{take_next, drop_next}

-- ---- one more value
abbrev IsShort : Operation → ℕ → Type 0
IsShort Add k = Unit {0}
IsShort Subtract k = Unit {0}
IsShort Divide k = k ≡ 0

short : (o : Operation) (fs : List (Factor Code)) (k : ℕ) → IsAlone o fs → k < length fs → IsShort o k
short Add fs k h l = tt
short Subtract fs k h l = tt
short Divide fs k h l = omega (arith, h, l)

so_far_next : (o : Operation) (k : ℕ) (ws : List Coef) (v : Coef) → IsShort o k → extended (so_far o (take k ws)) o v ≡ so_far o (take k ws ++ v ∷ [])
so_far_next Add k ws v h = sym (fold-append checked.product (checked.of (whole 1)) (take k ws) (v ∷ []))
so_far_next Subtract k ws v h = sym (fold-append checked.product (checked.of (whole 1)) (take k ws) (v ∷ []))
so_far_next Divide zero ws v h = refl
so_far_next Divide (suc k) ws v h = absurd (omega (arith, h))

pub product_next : (tables : List Table) (es : List Series) (x y : Coef) (k : ℕ) (s : Step) (f : Factor Code) (v : Coef) → IsAlone s.operation s.factors → slice_get s.factors k ≡ Some f
    → v ≡ factor_at checked (written_at tables) f → y ≡ extended x s.operation v → ProductIs tables es x k (Some s) → ProductIs tables es y (k + 1) (Some s)
product_next tables es x y k s f v alone there is new h =
    let g = factor_at checked (written_at tables) in
    let vs = values (written_at tables) s.factors in
    let l : k < length s.factors = slice_get_within s.factors k f there in
    let a : slice_get vs k ≡ Some (g f) = slice_get-map g s.factors k ∙ ap (option_map g) there in
    let more : take (k + 1) vs ≡ take k vs ++ g f ∷ [] = take_next vs k (g f) a in (
      omega (arith, l),
      new
          ∙ ap₂ (λ (z w : Coef). extended z s.operation w) h.1 is
          ∙ so_far_next s.operation k vs (g f) (short s.operation s.factors k alone l)
          ∙ ap (so_far s.operation) (sym more),
    )

-- ---- a step that is worked out
none_yet : (o : Operation) → product_all checked [] ≡ so_far o []
none_yet Add = refl
none_yet Subtract = refl
none_yet Divide = refl

pub fresh : (tables : List Table) (es : List Series) (o : Option Step) → ProductIs tables es (product_all checked []) 0 o
fresh tables es None = tt
fresh tables es (Some s) = (omega arith, none_yet s.operation)

brought_is : (z : Coef) (look : Series → Code → Coef) (o : Operation) (fs : List (Factor Code)) → IsAlone o fs → brought z o (so_far o (values look fs)) ≡ applied z o (values look fs)
brought_is z look Add fs h = refl
brought_is z look Subtract fs h = refl
brought_is z look Divide [] h = absurd (omega (arith, h))
brought_is z look Divide (f ∷ fs) h = refl

pub applied_on : (tables : List Table) (es : List Series) (f g : Frame) (s : Step) → slice_get (steps_at es f) f.place ≡ Some s → IsReady s → f.known ≡ length s.factors
    → g ≡ record f { sum = brought f.sum s.operation f.product; place = suc f.place; known = 0; product = product_all checked [] } → IsOn tables es f → IsOn tables es g
applied_on tables es f g s there r l e on =
    let look = written_at tables in
    let n : Frame = record f { sum = brought f.sum s.operation f.product; place = suc f.place; known = 0; product = product_all checked [] } in
    let p : ProductIs tables es f.product f.known (Some s) = subst (ProductIs tables es f.product f.known) there on.product in
    let vs = values look s.factors in
    let whole_is : take f.known vs ≡ vs = take_all f.known vs (omega (arith, l, length-map s.factors (factor_at checked look))) in
    let now : brought f.sum s.operation f.product ≡ with_step look f.sum s =
    ap (brought f.sum s.operation) (p.1 ∙ ap (so_far s.operation) whole_is) ∙ brought_is f.sum look s.operation s.factors r.divisor in
    let left : drop f.place (steps_at es f) ≡ s ∷ drop (suc f.place) (steps_at es f) = drop_next (steps_at es f) f.place s there ∙ ap (λ (k : ℕ). s ∷ drop k (steps_at es f)) (let z : f.place + 1 ≡ suc f.place = omega arith in z) in
    let z : IsOn tables es n = record {
      comes_to =
          ap (λ (x : Coef). carried look x (drop (suc f.place) (steps_at es f))) now
          ∙ ap (carried look f.sum) (sym left) ∙ on.comes_to;
      product = fresh tables es (slice_get (steps_at es f) (suc f.place));
    } in
    subst (IsOn tables es) (sym e) z

pub settled_on : (tables : List Table) (es : List Series) (f g : Frame) (k : ℕ) (x : Coef) (s : Step) → slice_get (steps_at es f) f.place ≡ Some s → g ≡ record f { known = k; product = x }
    → ProductIs tables es x k (Some s) → IsOn tables es f → IsOn tables es g
settled_on tables es f g k x s there e h on =
    let n : Frame = record f { known = k; product = x } in
    let z : IsOn tables es n = record { comes_to = on.comes_to; product = subst (ProductIs tables es x k) (sym there) h } in
    subst (IsOn tables es) (sym e) z

pub product_at : (tables : List Table) (es : List Series) (f : Frame) (s : Step) → slice_get (steps_at es f) f.place ≡ Some s → IsOn tables es f → ProductIs tables es f.product f.known (Some s)
product_at tables es f s there on = subst (ProductIs tables es f.product f.known) there on.product

-- ---- the first step, and behind the last
pub started_on : (tables : List Table) (es : List Series) (f : Frame) → Suits tables es → IsPlanned es f.spot.series f.code → f.sum ≡ Value (whole 0) → f.place ≡ 0 → f.known ≡ 0 → f.product ≡ product_all checked [] → IsOn tables es f
started_on tables es f suits p s a k x = record {
  comes_to =
      ap₂ (λ (z : Coef) (n : ℕ). carried (written_at tables) z (drop n (steps_at es f))) s a
      ∙ plan_comes tables es f.spot.series f.code suits p.in_book p.planned;
  product =
      subst (λ (y : Coef). ProductIs tables es y f.known (slice_get (steps_at es f) f.place)) (sym x)
      (subst (λ (n : ℕ). ProductIs tables es (product_all checked []) n (slice_get (steps_at es f) f.place)) (sym k)
      (fresh tables es (slice_get (steps_at es f) f.place)));
}

pub none_left : {X : Type 0} (xs : List X) (k : ℕ) → length xs ≤ k → drop k xs ≡ []
none_left [] zero l = refl
none_left [] (suc k) l = refl
none_left (x ∷ xs) zero l = absurd (omega (arith, l))
none_left (x ∷ xs) (suc k) l = none_left xs k (omega (arith, l))

pub come_to : (tables : List Table) (es : List Series) (f : Frame) → length (steps_at es f) ≤ f.place → IsOn tables es f → f.sum ≡ value_at_pair tables es (pair_of f)
come_to tables es f l on = ap (carried (written_at tables) f.sum) (sym (none_left (steps_at es f) f.place l)) ∙ on.comes_to

-- ---- factors by number
pub of_wanted : (es : List Series) (cs : List Code) (f : CodeFactor) (w : Wanted) → wanted_in f ≡ Some w → IsFactorOf es (wanted_pair cs w) (factor_in es cs f)
of_wanted es cs (factor.Fixed v) w e = absurd cc
of_wanted es cs (factor.Flow n) w e = absurd cc
of_wanted es cs (factor.At id n) w e =
    let v : Wanted = record { series = id; tree = n } in
    let z : v ≡ w = cc in
    subst (λ (x : Wanted). IsFactorOf es (wanted_pair cs x) (at (series_at es id) (code_at cs n))) z (inl refl)
of_wanted es cs (factor.Turned id n) w e =
    let v : Wanted = record { series = id; tree = n } in
    let z : v ≡ w = cc in
    subst (λ (x : Wanted). IsFactorOf es (wanted_pair cs x) (turned (series_at es id) (code_at cs n))) z (inr refl)

abbrev read : List Table → Factor Code → Coef
read tables (fixed c) = Overflow
read tables (at s code) = written_at tables s code
read tables (turned s code) = written_at tables s code

abbrev series_in : Factor Code → Series
series_in (fixed c) = exact 0
series_in (at s code) = s
series_in (turned s code) = s

pub handed_value : (tables : List Table) (es : List Series) (cs : List Code) (f : CodeFactor) (p : Pair) (v : Coef) → IsFactorOf es p (factor_in es cs f) → IsPair es p → v ≡ value_at_pair tables es p
    → IsSomeAnd (wanted_in f) (λ w. v ≡ value_of tables es cs w)
handed_value tables es cs (factor.Fixed c) p v (inl e) h is = absurd cc
handed_value tables es cs (factor.Fixed c) p v (inr e) h is = absurd cc
handed_value tables es cs (factor.Flow n) p v (inl e) h is = let z : exact 1 ≡ series_at es p.series = ap series_in e in absurd (subst IsLooked (sym z) h.looked)
handed_value tables es cs (factor.Flow n) p v (inr e) h is = absurd cc
handed_value tables es cs (factor.At id n) p v (inl e) h is = is ∙ sym (ap (read tables) e)
handed_value tables es cs (factor.At id n) p v (inr e) h is = absurd cc
handed_value tables es cs (factor.Turned id n) p v (inl e) h is = absurd cc
handed_value tables es cs (factor.Turned id n) p v (inr e) h is = is ∙ sym (ap (read tables) e)

pub reached : (es : List Series) (cs : List Code) (f : CodeFactor) (fs : List (Factor Code)) (k n : ℕ) (r : Option Wanted) → r ≡ wanted_in f → IsSomeAnd (wanted_in f) (IsLookedUp es cs)
    → slice_get fs k ≡ Some (factor_in es cs f) → MatchOption r (k ≡ n) (λ w. HasFactor es fs k (wanted_pair cs w))
reached es cs (factor.Fixed v) fs k n r e h is = absurd h
reached es cs (factor.Flow m) fs k n r e h is = absurd h
reached es cs (factor.At id m) fs k n r e h is =
    subst (λ o. MatchOption o (k ≡ n) (λ w. HasFactor es fs k (wanted_pair cs w))) (sym e) (record { factor = at (series_at es id) (code_at cs m); is = is; of = inl refl })
reached es cs (factor.Turned id m) fs k n r e h is =
    subst (λ o. MatchOption o (k ≡ n) (λ w. HasFactor es fs k (wanted_pair cs w))) (sym e) (record { factor = turned (series_at es id) (code_at cs m); is = is; of = inr refl })

-- ---- one of a list
pub all_get : {X : Type 0} (P : X → Type 0) (xs : List X) (k : ℕ) (x : X) → AllByRecursion P xs → slice_get xs k ≡ Some x → P x
all_get P [] k x h e = absurd cc
all_get P (y ∷ ys) zero x h e = subst P (let z : y ≡ x = cc in z) h.0
all_get P (y ∷ ys) (suc k) x h e = all_get P ys k x h.1 e

pub same_but : (f g : Frame) (k : ℕ) (x : Coef) → f ≡ record g { known = f.known; product = f.product } → (let y : Frame = record f { known = k; product = x } in y) ≡ record g { known = k; product = x }
same_but f g k x e = ap (λ (y : Frame). let z : Frame = record y { known = k; product = x } in z) e

-- ---- one turn of a frame
pub steps_moved : (es : List Series) (f g : Frame) → f.spot ≡ g.spot → f.code ≡ g.code → steps_at es f ≡ steps_at es g
steps_moved es f g s c = ap₂ (λ (x : Spot) (code : Code). steps_of (series_at es x.series) code) s c

pub step_there : (es : List Series) (f g : Frame) (n : ℕ) (s : Step) → f.spot ≡ g.spot → f.code ≡ g.code → slice_get (steps_at es g) n ≡ Some s → slice_get (steps_at es f) n ≡ Some s
step_there es f g n s x c e = subst (λ ss. slice_get ss n ≡ Some s) (sym (steps_moved es f g x c)) e

pub step_stays : (es : List Series) (f g : Frame) (s : Step) → g ≡ record f { known = g.known; product = g.product } → slice_get (steps_at es f) f.place ≡ Some s → slice_get (steps_at es g) g.place ≡ Some s
step_stays es f g s e h = subst (λ (y : Frame). slice_get (steps_at es y) y.place ≡ Some s) (sym e) h

pub applied_from : (f g h : Frame) (z x : Coef) → g ≡ record f { known = g.known; product = g.product } → h ≡ record g { sum = z; place = suc g.place; known = 0; product = x }
    → h ≡ record f { sum = z; place = suc f.place; known = 0; product = x }
applied_from f g h z x e d = d ∙ ap (λ (y : Frame). let w : Frame = record y { sum = z; place = suc y.place; known = 0; product = x } in w) e

pub none_reached : {X : Type 0} (P : X → Type 0) (k n : ℕ) (r : Option X) → MatchOption r (k ≡ n) P → is_some r ≡ false → k ≡ n
none_reached P k n None h e = h
none_reached P k n (Some x) h e = absurd cc

rest_length_is : (es : List Series) (cs : List Code) (r : Rest) → length (rest_in es cs r) ≡ rest_length r
rest_length_is es cs rest.Nothing = refl
rest_length_is es cs (rest.One f) = refl
rest_length_is es cs (rest.Each id ns) = length-map ns.now (λ n. at (series_at es id) (code_at cs n))
rest_length_is es cs (rest.Turned id ns) = length-map ns.now (λ n. turned (series_at es id) (code_at cs n))
rest_length_is es cs (rest.Powers by count) = length-replicate count (fixed by)

pub term_length_is : (es : List Series) (cs : List Code) (t : Term) → length (step_in es cs t).factors ≡ term_length t
term_length_is es cs t = ap suc (rest_length_is es cs t.rest)

pub factor_there : (es : List Series) (cs : List Code) (t : Term) (k : ℕ) → k < term_length t → (f : Factor Code) × (slice_get (step_in es cs t).factors k ≡ Some f)
factor_there es cs t k l =
    let fs = (step_in es cs t).factors in
    (get_or fs k (fixed (whole 0)), slice_get-get_or fs k (fixed (whole 0)) (omega (arith, l, term_length_is es cs t)))

pub none_case : {X A : Type 0} (P : X → Type 0) (r : Option X) → MatchOption r A P → r ≡ None → A
none_case P None h e = h
none_case P (Some x) h e = absurd cc

-- ---- the value that is awaited, put in
factor_same : {X : Type 0} (o : Option X) (x y : X) → o ≡ Some x → o ≡ Some y → x ≡ y
factor_same o x y e d = let z : Some x ≡ Some y = sym e ∙ d in cc

pub put_on : (tables : List Table) (es : List Series) (cs : List Code) (f g : Frame) (s : Step) (a : CodeFactor) (p : Pair) (v w x : Coef) → slice_get (steps_at es f) f.place ≡ Some s → slice_get s.factors f.known ≡ Some (factor_in es cs a)
    → Awaits es f p → v ≡ value_at_pair tables es p → (IsSomeAnd (wanted_in a) (λ n. v ≡ value_of tables es cs n) → w ≡ factor_at checked (written_at tables) (factor_in es cs a)) → x ≡ extended f.product s.operation w
    → g ≡ record f { known = f.known + 1; product = x } → IsOn tables es f → IsOn tables es g
put_on tables es cs f g s a p v w x there own aw is handed e d on =
    let k = aw.factor in
    let same : k.factor ≡ factor_in es cs a = factor_same (slice_get (factors_at es f) f.known) k.factor (factor_in es cs a) k.is (ap (λ fs. slice_get fs f.known) (ap step_factors there) ∙ own) in
    let of : IsFactorOf es p (factor_in es cs a) = subst (IsFactorOf es p) same k.of in
    let value = handed (handed_value tables es cs a p v of aw.pair is) in
    let alone = (all_get IsReady (steps_at es f) f.place s aw.frame.ready there).divisor in
    settled_on tables es f g (f.known + 1) x s there d
    (product_next tables es f.product x f.known s (factor_in es cs a) w alone own value e (product_at tables es f s there on)) on

pub awaited_within : (es : List Series) (cs : List Code) (f : Frame) (t : Term) (p : Pair) → Awaits es f p → slice_get (steps_at es f) f.place ≡ Some (step_in es cs t) → f.known < term_length t
awaited_within es cs f t p aw there =
    let l : f.known < length (factors_at es f) = slice_get_within (factors_at es f) f.known aw.factor.factor aw.factor.is in
    omega (arith, l, ap length (ap step_factors there), term_length_is es cs t)

pub awaited_before_end : (es : List Series) (f : Frame) (p : Pair) → Awaits es f p → f.place < length (steps_at es f)
awaited_before_end es f p aw = behind_last (steps_at es f) f.place f.known aw.factor.factor aw.factor.is
  where
    behind_last : (ss : List Step) (n k : ℕ) (x : Factor Code) → slice_get (step_factors (slice_get ss n)) k ≡ Some x → n < length ss
    behind_last [] n k x e = absurd cc
    behind_last (s ∷ ss) zero k x e = omega arith
    behind_last (s ∷ ss) (suc n) k x e = let l = behind_last ss n k x e in omega (arith, l)
