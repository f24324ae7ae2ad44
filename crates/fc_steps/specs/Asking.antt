-- What is asked of the steps of an entry, and what is answered.
use Rattle.std.specs.Prelude.{Option, Some, None, ℕ, List, []}
use Rattle.fc_base.specs.declared.request.Reply.{Reply}
use Rattle.fc_base.specs.declared.request.Reply.TheVariants.{Done, Moved, DiskFault, NoMemory}
use Rattle.fc_base.specs.declared.request.Request.{Request}
use Rattle.fc_base.specs.declared.request.Request.TheVariants.{Write as Writes, Copy as Copies, Clean as Cleans}
use Rattle.fc_steps.specs.declared.ask.Ask.{Ask}
use Rattle.fc_steps.specs.declared.ask.Ask.TheVariants.{Write, Copy, Clean}
use Rattle.fc_steps.specs.declared.stop.Stop.{Stop}
use Rattle.fc_steps.specs.declared.stop.Stop.TheVariants.{Failed, NoMemory as WantsMemory}
use Rattle.fc_base.specs.declared.request.Move.{Move}
use Rattle.fc_base.specs.declared.request.Place.TheVariants.{Lane}
use Rattle.fc_entry.specs.declared.entry.Entry.{Entry}
use Rattle.fc_steps.specs.StepsEnd.{torn_in}

-- What is asked of steps, and what is answered when all of them are done.
abbrev pub request_of : Ask → Request
request_of (Write part) = Writes part
request_of (Copy m grain) = Copies m grain
request_of (Clean m grain) = Cleans m grain

abbrev pub done_of : Ask → Reply
done_of (Write part) = Done
done_of (Copy m grain) = Moved m grain
done_of (Clean m grain) = Moved m grain

-- What is answered when steps ended so.
abbrev pub reply_in : Reply → Option Stop → Reply
reply_in reply None = reply
reply_in reply (Some (Failed torn)) = DiskFault
reply_in reply (Some WantsMemory) = NoMemory

-- An entry of a lane, of steps that ended so.
abbrev pub steps_entry : ℕ → ℕ → ℕ → Request → Reply → ℕ → ℕ → List Move → ℕ → Option Stop → Entry
steps_entry lane number actor request done before after moves calls stop =
    record {
      number = number;
      actor = actor;
      place = Lane lane;
      request = request;
      reply = reply_in done stop;
      moves = moves;
      effects = [];
      torn = torn_in stop;
      faults_before = before;
      faults_after = after;
      calls = calls;
    }
