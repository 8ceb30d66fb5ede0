-- A frame put on the others, and taken off.
use Rattle.std.proofs.Common.{◌≡◌, ℕ, zero, suc, ◌+◌, List, take, [], ◌∷◌, ◌++◌, length, slice_index_or, slice_set, refl, sym, ◌∙◌, ap, subst, arith}
use Rattle.std.proofs.lemmas.List.{take_all, take_more}
use Rattle.bs_tableau.specs.Table.{Table}
use Rattle.bs_series.specs.Series.{Series}
use Rattle.bs_eval.specs.Frames.{pair_of, IsOn, Awaits}
use Rattle.bs_eval.specs.Machine.{Stands}
use Rattle.bs_eval.specs.declared.pair.Pair.{Pair}
use Rattle.bs_eval.specs.declared.frame.Frame.{Frame}

pub stands_push : (tables : List Table) (es : List Series) (of : Pair) (fs : List Frame) (f : Frame) (p : Pair) → Stands tables es of fs (pair_of f) → Awaits es f p → IsOn tables es f
    → Stands tables es of (fs ++ f ∷ []) p
stands_push tables es of [] f p h a on = (p, record { of = sym h; awaits = a; on = on }, refl)
stands_push tables es of (g ∷ gs) f p h a on = (h.0, h.1, stands_push tables es h.0 gs f p h.2 a on)

pub record Popped (tables : List Table) (es : List Series) (of : Pair) (fs : List Frame) (f : Frame) (p : Pair) : Type 0 where
  pub stands : Stands tables es of fs (pair_of f)
  pub awaits : Awaits es f p
  pub on : IsOn tables es f

pub stands_pop : (tables : List Table) (es : List Series) (of : Pair) (fs : List Frame) (f : Frame) (p : Pair) → Stands tables es of (fs ++ f ∷ []) p → Popped tables es of fs f p
stands_pop tables es of [] f p h =
    record { stands = sym h.1.of; awaits = subst (Awaits es f) h.2 h.1.awaits; on = h.1.on }
stands_pop tables es of (g ∷ gs) f p h =
    let r = stands_pop tables es h.0 gs f p h.2 in
    record { stands = (h.0, h.1, r.stands); awaits = r.awaits; on = r.on }

pub popped : (tables : List Table) (es : List Series) (of : Pair) (items fs : List Frame) (f : Frame) (p : Pair) → items ≡ fs ++ f ∷ [] → Stands tables es of items p → Popped tables es of fs f p
popped tables es of items fs f p e h = stands_pop tables es of fs f p (subst (λ xs. Stands tables es of xs p) e h)

-- ---- the last frame, which changes in its place
pub last_is : (items : List Frame) (n : ℕ) (f : Frame) → length items ≡ suc n → f ≡ slice_index_or items n f → items ≡ take n items ++ f ∷ []
last_is items n f l e =
    sym (take_all (n + 1) items (omega (arith, l))) ∙ take_more items n f (omega (arith, l)) ∙ ap (λ (g : Frame). take n items ++ g ∷ []) (sym e)

pub last_changed : (items : List Frame) (n : ℕ) (g : Frame) → length items ≡ suc n → slice_set items n g ≡ take n items ++ g ∷ []
last_changed [] n g l = absurd (omega (arith, l))
last_changed (x ∷ []) zero g l = refl
last_changed (x ∷ (y ∷ ys)) zero g l = absurd (omega (arith, l))
last_changed (x ∷ xs) (suc n) g l = ap (λ (fs : List Frame). x ∷ fs) (last_changed xs n g (omega (arith, l)))

pub alone : (tables : List Table) (es : List Series) (of : Pair) (fs : List Frame) (p : Pair) → length fs ≡ 0 → Stands tables es of fs p → of ≡ p
alone tables es of [] p e h = h
alone tables es of (f ∷ fs) p e h = absurd (omega arith)
