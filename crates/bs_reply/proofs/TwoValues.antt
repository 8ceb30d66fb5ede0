-- Two texts behind their words, and an end behind both.
use Rattle.std.proofs.Common.{◌≡◌, ℕ, List, ◌++◌, Result, Ok, Err, OnOk, if◌then◌else◌, is_ok, ap, ◌∙◌, append_assoc}

joined : (out words first between second end : List ℕ)
    → out ++ words ++ first ++ between ++ second ++ end ≡ out ++ (words ++ first ++ between ++ second ++ end)
joined out words first between second end =
    ap (λ (text : List ℕ). text ++ between ++ second ++ end) (append_assoc out words first)
    ∙ ap (λ (text : List ℕ). text ++ second ++ end) (append_assoc out (words ++ first) between)
    ∙ ap (λ (text : List ℕ). text ++ end) (append_assoc out (words ++ first ++ between) second)
    ∙ append_assoc out (words ++ first ++ between ++ second) end

pub two-behind : {A E : Type 0} (r : Result A E) (out words first between second end now later last : List ℕ)
    → now ≡ out ++ words ++ first → later ≡ now ++ between ++ second → last ≡ (if is_ok r then later ++ end else later)
    → OnOk r (last ≡ out ++ (words ++ first ++ between ++ second ++ end))
two-behind (Ok x) out words first between second end now later last first_is second_is end_is =
    end_is
    ∙ ap (λ (text : List ℕ). text ++ end) (second_is ∙ ap (λ (text : List ℕ). text ++ between ++ second) first_is)
    ∙ joined out words first between second end
two-behind (Err e) out words first between second end now later last first_is second_is end_is = tt
