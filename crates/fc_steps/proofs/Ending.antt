-- The entry of steps that ended so.
use Rattle.std.proofs.Common.{ℕ, Option, Some, None, List, refl}
use Rattle.fc_base.specs.declared.request.Move.{Move}
use Rattle.fc_base.specs.declared.request.Reply.{Reply}
use Rattle.fc_base.specs.declared.request.Request.{Request}
use Rattle.fc_base.specs.declared.request.Torn.{Torn}
use Rattle.fc_entry.specs.declared.entry.Entry.{Entry}
use Rattle.fc_grains.specs.Grains.{GrainsState}
use Rattle.fc_steps.specs.Asking.{steps_entry}
use Rattle.fc_steps.specs.StepsEnd.{StepsEnd, StoppedIn}
use Rattle.fc_steps.specs.declared.stop.Stop.{Stop}
use Rattle.fc_steps.specs.declared.stop.Stop.TheVariants.{Failed, NoMemory as WantsMemory}
use Rattle.fc_rules.specs.Spot.{Spot}
use Rattle.fc_rules.specs.Steps.{HasDone, HasFailed, HasNoMemory, DiskStep as OneStep, StoppedAt}

module _ (lane number actor : ℕ) (request : Request) (done : Reply) (old new : GrainsState) (spot : Spot) (steps : List OneStep) (moves : List Move) (calls : ℕ) where
  abbrev entry : Option Stop → Entry
  entry stop = steps_entry lane number actor request done old.faults new.faults moves calls stop

  stopped_entry : (stop : Option Stop) (step : OneStep) (extra : ℕ) → StoppedIn steps moves calls step extra → StoppedAt steps step extra (entry stop)
  stopped_entry stop step extra s = record { before = s.before; after = s.after; steps_are = s.steps_are; moves = s.moves_are; calls = s.calls_are; within = s.within }

  pub entry_done : StepsEnd spot steps moves calls None old new → HasDone steps (entry None)
  entry_done e = record { moves = e.0; calls = e.1; untorn = refl }

  pub entry_failed : (torn : Option Torn) → StepsEnd spot steps moves calls (Some (Failed torn)) old new → HasFailed spot steps (entry (Some (Failed torn)))
  entry_failed torn e = record {
    step = e.step;
    extra = e.extra;
    stopped = stopped_entry (Some (Failed torn)) e.step e.extra e.stopped;
    called = e.called;
    torn = e.torn_is;
    risen = e.risen;
  }

  pub entry_refused : StepsEnd spot steps moves calls (Some WantsMemory) old new → HasNoMemory spot steps (entry (Some WantsMemory))
  entry_refused e = record {
    step = e.step;
    extra = e.extra;
    stopped = stopped_entry (Some WantsMemory) e.step e.extra e.stopped;
    untorn = refl;
    thin = e.thin;
  }
