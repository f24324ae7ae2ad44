-- The law, all of it.
use Rattle.fc_kept.specs.Marks.{asked_write}
use Rattle.std.proofs.Common.{None}
use Rattle.law_crash.specs.Law.{CrashLaw}
use Rattle.law_crash.proofs.Answering.{answered}
use Rattle.law_crash.proofs.Costs.{cost_law}
use Rattle.law_crash.proofs.Ending.{all_stopped}
use Rattle.law_crash.proofs.Found.{shows_none, shown_is_read}
use Rattle.law_crash.proofs.Histories.{histories_run}
use Rattle.law_crash.proofs.Lawful.{all_found, all_stand}
use Rattle.law_crash.proofs.Leaving.{leaves_all}
use Rattle.law_crash.proofs.Opening.{opens, rests, turned}
use Rattle.law_crash.proofs.Running.{runs_all, stops_all}
use Rattle.law_crash.proofs.Unchanged.{says_still}

pub crash_law_holds : CrashLaw
crash_law_holds =
    record {
      opens = opens;
      rests = rests;
      read_is = shown_is_read;
      shows_not = shows_none;
      recovers = all_found;
      stands = λ grain w least r steps p q entry i b f told. answered grain w least r (asked_write r) steps None q entry i told (all_stand grain w least r steps p q b f);
      stands_stopped = λ grain w least r front back step torn p q entry i b x told. answered grain w least r None front torn q entry i told (all_stopped grain w least r front back step torn p q b x);
      turned = turned;
      leaves = leaves_all;
      stays = says_still;
      runs = runs_all;
      histories = histories_run;
      stops = stops_all;
      costs = cost_law;
    }
