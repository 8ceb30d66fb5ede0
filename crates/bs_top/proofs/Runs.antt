-- The run that has written its text.
use Rattle.std.proofs.Common.{◌≡◌, ◌≢◌, ℕ, ◌⊎◌, List, Option, Some, Ok, Err, arith, sym, ◌∙◌, ap, subst, inl, inr, length, ◌≤◌}
use Rattle.bs_io.specs.Outside.{Rose, NoFault, TakesAtMost, Adds, AddsFront}
use Rattle.bs_top.specs.Output.{text_of}
use Rattle.bs_top.specs.declared.run.TheConstants.{INPUT_LIMIT}
use Rattle.bs_top.specs.Run.{ReadsAll, IsFlushed, IsRun}
use Rattle.bs_top.specs.declared.status.Status.{Status}
use Rattle.bs_top.specs.declared.status.Status.TheVariants.{Done, Refused, ReadFault, WriteFault, TooLong}

pub either_way : {P : Type 0} (ended : Status) → (ended ≡ Done) ⊎ (ended ≡ WriteFault) → (ended ≡ Done → P) → (ended ≡ WriteFault → P) → P
either_way ended (inl e) f g = f e
either_way ended (inr e) f g = g e

no_other : (ended other : Status) → (ended ≡ Done) ⊎ (ended ≡ WriteFault) → ended ≡ other → (Done ≡ other → ⊥) → (WriteFault ≡ other → ⊥) → ⊥
no_other ended other either e f g = either_way ended either (λ d. f (sym d ∙ e)) (λ d. g (sym d ∙ e))

told_is : (o new : Option (List ℕ)) (input told : List ℕ) → ReadsAll o input new → o ≡ Some told → told ≡ input
told_is o new input told h e = let g : ReadsAll (Some told) input new = subst (λ a. ReadsAll a input new) e h in g.0

pub not_risen : (old new : ℕ) → Rose old new → NoFault old new → ⊥
not_risen old new (inl h) calm = let e = calm.0 in omega arith
not_risen old new (inr h) calm = let e = calm.0 in let l = calm.1 in omega arith

module _ {S K : Type 0} (left : S → Option (List ℕ)) (faults : S → ℕ) (written : K → Option (List ℕ)) (flushed : K → Option ℕ) (sink_faults : K → ℕ) where
  -- the input was read and is a script, and its text was put
  pub run_of_text : (old new : S) (before after : K) (ended : Status) (input text : List ℕ)
      → ReadsAll (left old) input (left new) → length input ≤ INPUT_LIMIT → TakesAtMost (left old) INPUT_LIMIT (left new) → faults new ≡ faults old
      → text_of input ≡ Ok text
      → (ended ≡ Done) ⊎ (ended ≡ WriteFault)
      → (ended ≡ Done → Adds (written before) text (written after)) → (ended ≡ Done → IsFlushed (written after) (flushed after))
      → (ended ≡ WriteFault → Rose (sink_faults before) (sink_faults after)) → (ended ≡ WriteFault → AddsFront (written before) text (written after))
      → (ended ≡ WriteFault → flushed after ≡ flushed before) → (ended ≢ WriteFault → sink_faults after ≡ sink_faults before)
      → IsRun left faults written flushed sink_faults (Unit {0}) old new before after ended
  run_of_text old new before after ended input text reads short most calm said either done done_flushed risen front unflushed sink_calm = record {
    done = λ e. (text, (input, reads, said), done e);
    done_flushed = done_flushed;
    refused = λ line reason e. absurd (no_other ended (Refused line reason) either e (λ q. cc) (λ q. cc));
    write_fault_front = λ e. (text, (input, reads, said), front e);
    write_fault_unflushed = unflushed;
    too_long = λ e. absurd (no_other ended TooLong either e (λ q. cc) (λ q. cc));
    within_limit = λ e. most;
    unwritten = either_way ended either (λ e. inl e) (λ e. inr (inl e));
    read_fault = λ e. absurd (no_other ended ReadFault either e (λ q. cc) (λ q. cc));
    read_calm = λ e. calm;
    write_fault = risen;
    write_calm = sink_calm;
    complete = λ told t a is few says steady sink_steady. either_way ended either (λ e. inl e) (λ e. absurd (not_risen _ _ (risen e) sink_steady));
    refuses = λ told line reason a is few says steady.
        let same : text_of told ≡ text_of input = ap text_of (told_is _ _ input told reads is) in
        let bad : Ok text ≡ Err (line, reason) = sym said ∙ sym same ∙ says in absurd (cc);
    overlong = λ told a is long steady. let same : length told ≡ length input = ap length (told_is _ _ input told reads is) in absurd (omega arith);
  }
