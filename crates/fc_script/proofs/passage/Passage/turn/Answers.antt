-- The work at hand saves its credit or loses it, whether it has paid or not.
use Rattle.std.proofs.Common.{refl, sym, ◌∙◌}
use Rattle.fc_script.specs.declared.passage.Passage.{Passage}
use Rattle.fc_script.proofs.Fills.{turn_over}
use Rattle.fc_script.proofs.passage.Passage.turn.Goals as goal

pub returns-in-Some-clause-passed : goal.returns-in-Some-clause-passed
returns-in-Some-clause-passed g c =
    let new : Passage = record {
      seconds = c.args.self.now.seconds;
      over = c.push_work.new.works;
      at_hand = c.take.new.self;
      paid = c.args.self.now.paid;
      left = c.args.self.now.left;
    } in
    turn_over c.push_work.result c.args.store.now c.args.self.now new c.in-Some.work c.save.new.work (sym c.take.ensures.value ∙ c.in-Some.is) c.take.ensures.after refl refl
    c.push_work.ensures c.save.ensures c.requires.idle
