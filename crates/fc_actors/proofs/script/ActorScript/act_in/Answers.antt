use Rattle.std.proofs.Common.{refl, ap, ◌∙◌, subst}
use Rattle.fc_actors.specs.Scripts.{WorkSuits, work_left}
use Rattle.fc_actors.specs.Spans.{turn_of}
use Rattle.fc_actors.proofs.Lines.{turn_left, turns_more}
use Rattle.fc_actors.proofs.script.ActorScript.act_in.Goals as goal

pub take_turn-requires-clause-left : goal.take_turn-requires-clause-left
take_turn-requires-clause-left g c =
    let self = c.args.self.now in let can = c.requires.can in (turn_left self.grain self.lanes can.i c.in-Turns.next c.in-Turns.turns c.in-Turns.cleans self.work c.in-Turns.is can.needs).0

pub returns-in-Lines-clause-same : goal.returns-in-Lines-clause-same
returns-in-Lines-clause-same g c = record {
  actor = refl;
  grain = refl;
  lanes = refl;
  tray = refl;
  work = λ s suits. c.next_grain.ensures.suits s (subst (WorkSuits s) c.in-Lines.is suits);
}

pub returns-in-Lines-clause-goes : goal.returns-in-Lines-clause-goes
returns-in-Lines-clause-goes g c =
    let self = c.args.self.now in let done = c.next_grain.ensures in record {
      asked = ap (work_left self.grain self.lanes) c.in-Lines.is ∙ done.asked;
      actor = done.actor.0;
      same = refl;
      number = done.actor.1;
      work = λ t suits. done.suits t (subst (WorkSuits t) c.in-Lines.is suits);
    }

pub returns-in-Turns-clause-goes : goal.returns-in-Turns-clause-goes
returns-in-Turns-clause-goes g c =
    let self = c.args.self.now in let can = c.requires.can in let left = turn_left self.grain self.lanes can.i c.in-Turns.next c.in-Turns.turns c.in-Turns.cleans self.work c.in-Turns.is can.needs in
    let asked = c.take_turn.ensures.asked in record {
      asked = turns_more self.grain self.lanes c.in-Turns.next c.in-Turns.turns c.take_turn.new.next c.in-Turns.cleans self.work c.take_turn.result.request c.in-Turns.is left.0 c.take_turn.ensures.next
          (asked.request_is ∙ ap (turn_of c.in-Turns.cleans) (can.has.stands.lane ∙ left.1));
      actor = asked.actor_is;
      same = refl;
      number = asked.number_is;
      work = λ t suits. tt;
    }
