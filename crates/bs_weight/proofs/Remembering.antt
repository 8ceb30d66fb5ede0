-- Entries, as they are made and found again.
use Rattle.std.proofs.Common.{◌≡◌, ℕ, ◌<◌, true, List, [], ◌∷◌, length, get_or, refl, sym, ◌∙◌, ap, subst}
use Rattle.std.proofs.lemmas.List.Elements.{All-get_or}
use Rattle.bs_frac.specs.Written.{checked}
use Rattle.bs_frac.specs.declared.coef.Coef.{Coef}
use Rattle.bs_tree.specs.Code.{tree_of, same_code}
use Rattle.bs_tree.specs.CodeEquality.{same_code-Decides}
use Rattle.bs_tableau.specs.Table.{Table}
use Rattle.bs_tableau.specs.WrittenWeight.{edge_sum, stage_value, root_sum, written_weight}
use Rattle.bs_weight.specs.Walk.{stage_in}
use Rattle.bs_weight.specs.Remembered.{AreStageValues, AreEdgeSums, AreRemembered}
use Rattle.bs_weight.specs.declared.memory.Entry.{Entry}
use Rattle.bs_weight.proofs.Steps.{edge_sum-same, root_sum-same}

root_colour_is : (s : List (ℕ × ℕ)) → (get_or s 0 (0, 0)).1 ≡ (tree_of s).colour
root_colour_is [] = refl
root_colour_is (p ∷ ps) = refl

pub recalled : (t u : Table) (entries : List Entry) (place : ℕ) (entry : Entry) (code : List (ℕ × ℕ)) → u ≡ t → AreRemembered u entries → place < length entries → entry ≡ get_or entries place entry
    → same_code entry.code code ≡ true → AreEdgeSums t code entry.sums
recalled t u entries place entry code e all lt at same =
    let P : Entry → Type 0 = λ x. AreEdgeSums t x.code x.sums in
    let every : AreRemembered t entries = subst (λ w. AreRemembered w entries) e all in
    let here : P entry = subst P (sym at) (All-get_or P entries place entry lt every) in
    subst (λ s. AreEdgeSums t s entry.sums) ((same_code-Decides entry.code code).0 same) here

pub worked_out : (t u : Table) (code pairs : List (ℕ × ℕ)) (colour : ℕ) (values sums : List Coef) → u ≡ t → pairs ≡ code → colour ≡ (get_or pairs 0 (0, 0)).1 → AreStageValues t code values
    → ((i : ℕ) → i < u.stages → stage_in sums i ≡ edge_sum checked u colour i (stage_in values)) → AreEdgeSums t code sums
worked_out t u code pairs colour values sums e p k v h =
    let summed = subst (λ (w : Table). (i : ℕ) → i < w.stages → stage_in sums i ≡ edge_sum checked w colour i (stage_in values)) e h in
    let root : colour ≡ (tree_of code).colour = k ∙ ap (λ (s : List (ℕ × ℕ)). (get_or s 0 (0, 0)).1) p ∙ root_colour_is code in
    λ i lt. summed i lt ∙ edge_sum-same t colour (tree_of code).colour i (stage_in values) (stage_value checked t (tree_of code).below) root v

pub weighed : (t u : Table) (code pairs : List (ℕ × ℕ)) (colour : ℕ) (values : List Coef) → u ≡ t → pairs ≡ code → colour ≡ (get_or pairs 0 (0, 0)).1 → AreStageValues t code values
    → root_sum checked u colour (stage_in values) ≡ written_weight checked t (tree_of code)
weighed t u code pairs colour values e p k v =
    let root : colour ≡ (tree_of code).colour = k ∙ ap (λ (s : List (ℕ × ℕ)). (get_or s 0 (0, 0)).1) p ∙ root_colour_is code in
    ap (λ (w : Table). root_sum checked w colour (stage_in values)) e ∙ root_sum-same t colour (tree_of code).colour (stage_in values) (stage_value checked t (tree_of code).below) root v

pub carried : (t u : Table) (code : List (ℕ × ℕ)) (e f : Entry) → u ≡ t → f ≡ e → AreEdgeSums u code e.sums → AreEdgeSums t code f.sums
carried t u code e f p q h = subst (λ w. AreEdgeSums w code f.sums) p (subst (λ (x : Entry). AreEdgeSums u code x.sums) (sym q) h)
