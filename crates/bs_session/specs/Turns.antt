-- One turn of a session, in its parts.
--
--   IsQuiet old new          == commands were carried out that have nothing done by others
--   fits start s             == with the reply from `start` on the accepted replies are not too long
--   GoesOn ts es old step new m == the work asks this step, needs no more than before, and is nearer to the same reply; or it has come to the reply. What the memory
--                               m has is right
--   accepted start s         == the state after this reply is taken, or refused for its length
--   Applies c old new step   == the change was made, and this is to be done for it
--   Settles start c old new step == the reply is taken and the change made; or it is refused, and nothing changed
--
-- Source: this project.
use Rattle.std.specs.Prelude.{◌≡◌, ℕ, ◌+◌, ◌-◌, ◌<◌, Bool, true, false, List, ◌++◌, length, take, Option, Some, None, IsSomeAnd, nat_le, if◌then◌else◌}
use Rattle.bs_reply.specs.Lines.{error_line}
use Rattle.bs_names.specs.Names.{at, Sets}
use Rattle.bs_command.specs.Errors.{error_number}
use Rattle.bs_series.specs.Expressions.{series_at}
use Rattle.bs_eval.specs.Values.{IsMemory}
use Rattle.bs_eval.specs.declared.memory.Memory.{Memory}
use Rattle.bs_tableau.specs.Table.{Table}
use Rattle.bs_series.specs.Series.{Series}
use Rattle.bs_work.specs.WorkNeeded.{KeepsNeed}
use Rattle.bs_work.specs.Works.{IsWork, IsHeldWork, StepsOn, whole_reply, work_left}
use Rattle.bs_work.specs.declared.work.Work.{Work}
use Rattle.bs_session.specs.declared.asked.Asked.TheVariants as asked
use Rattle.bs_session.specs.Machine.{State}
use Rattle.bs_session.specs.declared.TheConstants.{MAX_REPLIES}
use Rattle.bs_command.specs.declared.error.Error.TheVariants.{Replies}
use Rattle.bs_names.specs.declared.live.LiveTree.{LiveTree}
use Rattle.bs_command.specs.declared.change.Change.{Change}
use Rattle.bs_command.specs.declared.change.Change.TheVariants.{Nothing, Name, Drop, Define}
use Rattle.bs_work.specs.declared.step.Step.{Step}
use Rattle.bs_work.specs.declared.step.Step.TheVariants.{Intern, Release, Same, Look, Keep, Done}

pub record IsQuiet (old new : State) : Type 0 where
  pub live : new.space.live ≡ old.space.live
  pub interned : new.interned ≡ old.interned
  pub asked : new.asked ≡ asked.Nothing

abbrev pub fits : ℕ → State → Bool
fits start s = nat_le (s.used + (length s.out - start)) MAX_REPLIES

abbrev pub accepted : ℕ → State → State
accepted start s =
    if fits start s
    then record s { used = s.used + (length s.out - start); place = s.place + 1 }
    else record s { out = take start s.out ++ error_line (error_number Replies); place = s.place + 1 }

abbrev pub Applies : Change → State → State → Option Step → Type 0
Applies Nothing old new None = new ≡ old
Applies (Name name code) old new (Some (Intern tree c)) =
    (new ≡ record old { space = record old.space { live = new.space.live }; interned = old.interned + 1 }) × (tree ≡ old.interned) × (c ≡ code)
    × Sets old.space.live new.space.live name.now (Some (record { number = tree; code = code }))
    × (length new.space.live ≡ length old.space.live + 1)
Applies (Drop name) old new (Some (Release tree)) =
    (new ≡ record old { space = record old.space { live = new.space.live } }) × IsSomeAnd (at name.now old.space.live) (λ t. t.number ≡ tree)
    × Sets old.space.live new.space.live name.now None × (length new.space.live + 1 ≡ length old.space.live)
Applies (Define name id) old new None =
    (new ≡ record old { space = record old.space { series = new.space.series } })
    × Sets old.space.series new.space.series name.now (Some (series_at old.space.book id))
Applies change old new step = ⊥

abbrev pub SettlesBy : Bool → State → Change → State → Option Step → Type 0
SettlesBy true taken change new step = Applies change taken new step
SettlesBy false taken change new step = (new ≡ taken) × (step ≡ None)

abbrev pub Settles : ℕ → Change → State → State → Option Step → Type 0
Settles start change old new step = SettlesBy (fits start old) (accepted start old) change new step

-- what a turn of the work comes to, over the memory that it leaves: a question, or the whole reply
pub record Goes (tables : List Table) (es : List Series) (old : Work) (step : Step) (new : Work) (m : Memory) : Type 0 where
  pub is : StepsOn tables es new step
  pub reply : whole_reply tables es new ≡ whole_reply tables es old
  pub work : IsWork tables es new
  pub held : IsHeldWork es m new
  pub memory : IsMemory tables es m
  pub nearer : work_left es new < work_left es old
  pub need : KeepsNeed es old new step

abbrev pub GoesOn : List Table → List Series → Work → Option Step → Work → Memory → Type 0
GoesOn tables es old None new m = (new.draft.items ≡ whole_reply tables es old) × IsMemory tables es m
GoesOn tables es old (Some step) new m = Goes tables es old step new m
