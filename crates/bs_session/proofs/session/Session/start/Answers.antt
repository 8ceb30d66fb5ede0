use Rattle.std.proofs.Common.{rules, ◌<◌, ◌≤◌, length, All, false, refl, ap}
use Rattle.bs_session.specs.Machine.{State}
use Rattle.bs_names.specs.Space.{Space}
use Rattle.bs_session.specs.declared.asked.Asked.TheVariants as asked
use Rattle.bs_script.specs.declared.TheConstants.{MAX_COMMANDS}
use Rattle.bs_session.proofs.Settled.{said-start, lines-start, sound-start}
use Rattle.bs_session.proofs.session.Session.start.Goals as goal

pub returns-clause-said : goal.returns-clause-said
returns-clause-said c =
    let s : State = record {
      number = c.args.number;
      place = 0;
      interned = 0;
      used = 0;
      space = c.new.result;
      out = c.new-3.result.items;
      asked = asked.Nothing;
      work = c.new-4.result;
      memory = c.over.result;
      failed = false;
    } in
    said-start c.args.script.now s refl refl c.new-3.ensures.items (ap (λ (x : Space). x.live) c.new.ensures) (ap (λ (x : Space). x.series) c.new.ensures)

pub returns-clause-lines : goal.returns-clause-lines
returns-clause-lines c =
    let s : State = record {
      number = c.args.number;
      place = 0;
      interned = 0;
      used = 0;
      space = c.new.result;
      out = c.new-3.result.items;
      asked = asked.Nothing;
      work = c.new-4.result;
      memory = c.over.result;
      failed = false;
    } in
    lines-start c.args.script.now s refl refl (ap (λ (x : Space). x.live) c.new.ensures) (ap (λ (x : Space). x.series) c.new.ensures)

pub returns-clause-sound : goal.returns-clause-sound
returns-clause-sound c =
    let s : State = record {
      number = c.args.number;
      place = 0;
      interned = 0;
      used = 0;
      space = c.new.result;
      out = c.new-3.result.items;
      asked = asked.Nothing;
      work = c.new-4.result;
      memory = c.over.result;
      failed = false;
    } in
    let few : All (λ x. length x.commands ≤ MAX_COMMANDS) c.args.script.now.sessions = search rules in
    let here : c.args.number < length c.args.script.now.sessions = search rules in
    sound-start c.args.script.now s few here refl refl refl (ap (λ (x : Space). x.live) c.new.ensures) (ap (λ (x : Space). x.series) c.new.ensures) (ap (λ (x : Space). x.book) c.new.ensures) c.over.ensures refl
