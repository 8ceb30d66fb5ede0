-- A made input is never refused, and the run that has written its summary.
use Rattle.std.proofs.Common.{◌≡◌, ◌≢◌, ℕ, ◌⊎◌, List, Option, Result, Ok, Err, sym, ◌∙◌, ap, subst, inl, inr, refl}
use Rattle.bs_io.specs.Outside.{Rose, Adds, AddsFront}
use Rattle.bs_make.specs.Made.{made_text}
use Rattle.bs_make.specs.Script.{made_script}
use Rattle.bs_make.proofs.Sessions.{made_are_scripts}
use Rattle.bs_script.specs.declared.reason.Reason.{Reason}
use Rattle.bs_script.specs.declared.reason.ScriptFault.{ScriptFault}
use Rattle.bs_script.specs.declared.reason.ScriptFault.TheVariants.{Refused}
use Rattle.bs_top.specs.Made.{IsMade, Summarizes}
use Rattle.bs_top.specs.Output.{sessions_text, text_of}
use Rattle.bs_top.specs.Run.{Fails, IsFlushed}
use Rattle.bs_top.specs.declared.status.Status.{Status}
use Rattle.bs_top.specs.declared.status.Status.TheVariants.{Done, WriteFault}
use Rattle.bs_top.proofs.Runs.{either_way, not_risen}
use Rattle.bs_top.proofs.Texts.{text_of-script}

not_both : (r : Result (List ℕ) (ℕ × Reason)) (text : List ℕ) (refusal : ℕ × Reason) → r ≡ Ok text → r ≡ Err refusal → ⊥
not_both r text refusal said refused = let bad : Ok text ≡ Err refusal = sym said ∙ refused in absurd (cc)

made_text_of : (seed : ℕ) → text_of (made_text seed) ≡ Ok (sessions_text (made_script seed) 0 (made_script seed).sessions)
made_text_of seed =
    text_of-script (made_text seed) (made_script seed) (sessions_text (made_script seed) 0 (made_script seed).sessions) (made_are_scripts seed) refl

pub never_refused : (seed : ℕ) (input : List ℕ) (fault : ScriptFault) (line : ℕ) (reason : Reason)
    → input ≡ made_text seed → fault ≡ Refused line reason → Fails fault (text_of input) → ⊥
never_refused seed input fault line reason made is fails =
    let said : text_of input ≡ Err (line, reason) = subst (λ f. Fails f (text_of input)) is fails in
    not_both (text_of (made_text seed)) (sessions_text (made_script seed) 0 (made_script seed).sessions) (line, reason)
    (made_text_of seed) (ap text_of (sym made) ∙ said)

module _ {K : Type 0} (written : K → Option (List ℕ)) (flushed : K → Option ℕ) (sink_faults : K → ℕ) where
  -- the summary was put
  pub made_of_summary : (before after : K) (ended : Status) (seed : ℕ) (summary : List ℕ) → Summarizes seed summary
      → (ended ≡ Done) ⊎ (ended ≡ WriteFault)
      → (ended ≡ Done → Adds (written before) summary (written after)) → (ended ≡ Done → IsFlushed (written after) (flushed after))
      → (ended ≡ WriteFault → Rose (sink_faults before) (sink_faults after)) → (ended ≡ WriteFault → AddsFront (written before) summary (written after))
      → (ended ≡ WriteFault → flushed after ≡ flushed before) → (ended ≢ WriteFault → sink_faults after ≡ sink_faults before)
      → IsMade written flushed sink_faults (Unit {0}) seed before after ended
  made_of_summary before after ended seed summary summarizes either done done_flushed risen front unflushed sink_calm = record {
    done = λ e. (summary, summarizes, done e);
    done_flushed = done_flushed;
    write_fault_front = λ e. (summary, summarizes, front e);
    write_fault_unflushed = unflushed;
    unwritten = either_way ended either (λ e. inl e) (λ e. inr (inl e));
    write_fault = risen;
    write_calm = sink_calm;
    complete = λ a sink_steady. either_way ended either (λ e. inl e) (λ e. absurd (not_risen _ _ (risen e) sink_steady));
    others = λ a. either_way ended either (λ e. inl e) (λ e. inr (inl e));
  }
