-- The text of an input that is a script, from its pieces, and of one that is refused.
use Rattle.std.specs.Prelude.{Vec, slice_index_or, nat_lt, if◌then◌else◌}
use Rattle.std.specs.declared.alloc.Global.{Global}
use Rattle.std.proofs.Common.{◌≡◌, ℕ, suc, ◌+◌, ◌<◌, true, List, [], ◌∷◌, ◌++◌, length, Ok, refl, sym, ◌∙◌, ap, ap₂, arith}
use Rattle.std.proofs.lemmas.Bool.Decides.{nat_tests}
use Rattle.bs_pool.specs.Answers.{AreAnswers}
use Rattle.bs_script.specs.Blocks.{ScriptLines, SessionLines}
use Rattle.bs_script.specs.Grammar.{script}
use Rattle.bs_script.specs.Reading as reading
use Rattle.bs_script.specs.declared.reason.ScriptFault.{ScriptFault}
use Rattle.bs_script.specs.declared.reason.ScriptFault.TheVariants.{Refused, Memory}
use Rattle.bs_top.specs.Output.{text_of, script_text, sessions_text}
use Rattle.bs_session.specs.Machine.{no_session, session_at}
use Rattle.bs_workers.specs.Texts.{session_text, text_at}
use Rattle.bs_top.specs.Run.{Fails, joined}

pub text_of-script : (input : List ℕ) (s : ScriptLines) (text : List ℕ) → script input ≡ Ok s → text ≡ sessions_text s 0 s.sessions → text_of input ≡ Ok text
unfolding text_of
text_of-script input s text read is = ap script_text read ∙ ap Ok (sym is)

pub text_of-refused : (fault : ScriptFault) (input : List ℕ) → reading.Fails fault (script input) → Fails fault (text_of input)
unfolding text_of
text_of-refused (Refused line reason) input h = ap script_text h
text_of-refused (Memory cause) input h = tt

-- ---- from the answers of the jobs
below : (n m : ℕ) → n < m → nat_lt n m ≡ true
below n m h = grind (arith, nat_tests)

text_below : (s : ScriptLines) (n : ℕ) → n < length s.sessions → text_at s n ≡ session_text s n (session_at s n)
text_below s n h = ap (λ b. if b then session_text s n (session_at s n) else []) (below n (length s.sessions) h)

joined_from : (s : ScriptLines) (n : ℕ) (sessions : List SessionLines) (texts : List (Vec ℕ Global)) → length texts ≡ length sessions
    → ((j : ℕ) (d : Vec ℕ Global) → j < length sessions → (slice_index_or texts j d).items ≡ session_text s (n + j) (slice_index_or sessions j no_session))
    → joined texts ≡ sessions_text s n sessions
joined_from s n [] [] long each = refl
joined_from s n [] (t ∷ texts) long each = absurd (omega arith)
joined_from s n (session ∷ sessions) [] long each = absurd (omega arith)
joined_from s n (session ∷ sessions) (t ∷ texts) long each =
    let here : t.items ≡ session_text s n session = each 0 t (omega arith) ∙ ap (λ k. session_text s k session) (let z : n + 0 ≡ n = omega arith in z) in
    ap₂ (λ (a b : List ℕ). a ++ b) here (joined_from s (suc n) sessions texts (omega arith)
    (λ j d l. each (suc j) d (omega arith) ∙ ap (λ k. session_text s k (slice_index_or sessions j no_session)) (let z : n + suc j ≡ suc n + j = omega arith in z)))

pub joined-answers : (s : ScriptLines) (texts : List (Vec ℕ Global)) → AreAnswers (text_at s) (length s.sessions) texts → joined texts ≡ sessions_text s 0 s.sessions
joined-answers s texts answers =
    joined_from s 0 s.sessions texts answers.0 (λ j d l. answers.1 j d l ∙ text_below s j l ∙ ap (λ k. session_text s k (session_at s j)) (let z : j ≡ 0 + j = omega arith in z))
