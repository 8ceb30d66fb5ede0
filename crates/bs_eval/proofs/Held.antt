-- Frames keep their places in a memory that grows.
use Rattle.std.proofs.Common.{◌≡◌, ℕ, ◌<◌, List, [], ◌∷◌, ◌++◌, length, slice_index_or, Some, sym, ◌∙◌, ap, ap₂, subst}
use Rattle.std.specs.List.{AllByRecursion}
use Rattle.std.proofs.lemmas.Option.{get_or_from_slice_get, slice_get_within}
use Rattle.bs_catalog.specs.Shelf.{Shelf, Numbers, Grows}
use Rattle.bs_series.specs.Series.{Series}
use Rattle.bs_series.specs.SeriesCode.{Code}
use Rattle.bs_eval.specs.Terms.{code_at, IsSpot}
use Rattle.bs_eval.specs.Frames.{IsPlaced, pair_of}
use Rattle.bs_eval.specs.declared.pair.Pair.{Pair}
use Rattle.bs_eval.proofs.Memories.{spot_grows}
use Rattle.bs_eval.specs.declared.plan.Spot.{Spot}
use Rattle.bs_eval.specs.declared.frame.Frame.{Frame}
use Rattle.bs_eval.specs.declared.memory.Memory.{Memory}

pub all_grow : (es : List Series) (m n : Memory) (fs : List Frame) → Grows m.trees n.trees → AllByRecursion (IsPlaced es m) fs → AllByRecursion (IsPlaced es n) fs
all_grow es m n [] g h = tt
all_grow es m n (f ∷ fs) g h = (spot_grows es m.trees n.trees f.spot f.code g h.0, all_grow es m n fs g h.1)

-- ---- the last of some
pub all_push : {X : Type 0} (P : X → Type 0) (xs : List X) (x : X) → AllByRecursion P xs → P x → AllByRecursion P (xs ++ x ∷ [])
all_push P [] x h p = (p, tt)
all_push P (y ∷ ys) x h p = (h.0, all_push P ys x h.1 p)

pub all_pop : {X : Type 0} (P : X → Type 0) (xs : List X) (x : X) → AllByRecursion P (xs ++ x ∷ []) → AllByRecursion P xs × P x
all_pop P [] x h = (tt, h.0)
all_pop P (y ∷ ys) x h = let r = all_pop P ys x h.1 in ((h.0, r.0), r.1)

pub all_popped : {X : Type 0} (P : X → Type 0) (items xs : List X) (x : X) → items ≡ xs ++ x ∷ [] → AllByRecursion P items → AllByRecursion P xs × P x
all_popped P items xs x e h = all_pop P xs x (subst (AllByRecursion P) e h)

-- ---- codes by number
pub code_is : (cs : List Code) (n : ℕ) (code : Code) → Numbers cs n code → code_at cs n ≡ code
code_is cs n code h = get_or_from_slice_get cs n code [] h

pub number_within : (cs : List Code) (n : ℕ) (code : Code) → Numbers cs n code → n < length cs
number_within cs n code h = slice_get_within cs n code h

-- ---- frames that are placed in the same trees
pub still_placed : (es : List Series) (m : Memory) (f g : Frame) → g.spot ≡ f.spot → g.code ≡ f.code → IsPlaced es m f → IsPlaced es m g
still_placed es m f g s c h = subst (λ (x : Spot). IsSpot es m.trees x g.code) (sym s) (subst (λ (code : Code). IsSpot es m.trees f.spot code) (sym c) h)

pub same_pair : (f g : Frame) → g.spot ≡ f.spot → g.code ≡ f.code → pair_of g ≡ pair_of f
same_pair f g s c = ap₂ (λ (x : Spot) (code : Code). let p : Pair = record { series = x.series; code = code } in p) s c
