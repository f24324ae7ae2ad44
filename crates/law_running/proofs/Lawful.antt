-- The law of a block that is run, from its parts.
use Rattle.fc_stands.specs.Store.{StandsFor}
use Rattle.law_running.specs.Law.{RunLaw}
use Rattle.law_running.proofs.Runs.{ran_all, ran_full, ran_some, ran_within}
use Rattle.law_running.proofs.Arming.{armed_run}
use Rattle.law_running.proofs.Frames.{disks_stay, same_grain, stands_named}
use Rattle.law_running.proofs.Blocks.{block_answered}

pub run_law_holds : RunLaw
run_law_holds = record {
  all = λ store new w makings scripts merged old told made run asked m. ran_all store new w makings old told made run scripts merged asked m;
  full = λ store new w makings scripts merged old told made run differ began one full m. ran_full store new w makings old told made run scripts merged differ began one full m;
  some = λ store new left w makings scripts merged front rest old told made run differ began m split. ran_some store new w makings old told made run (StandsFor left) scripts merged front rest differ began m split;
  limit = λ store new w makings merged front rest old told made run m split. ran_within store new w makings old told made run merged front rest m split;
  grain = same_grain;
  disks = disks_stay;
  quiet = λ store new w makings merged old stands told made run m. armed_run store new w makings old told made run stands merged m;
  named_stands = stands_named;
  block = λ result left lines grain read block w mid faults old middle new is_block told before ran. block_answered (StandsFor left) lines grain read block w mid faults old middle new is_block told before result ran;
}
