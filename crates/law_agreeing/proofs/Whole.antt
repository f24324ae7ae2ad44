-- The law, all of it.
use Rattle.law_agreeing.specs.Law.{AgreeingLaw}
use Rattle.law_agreeing.proofs.Coming.{coming_law_holds}
use Rattle.law_agreeing.proofs.Putting.{puts}
use Rattle.law_agreeing.proofs.Recovering.{recovers_agreeing, stands_agreeing, have_agreeing, unnamed_agreeing}

pub agreeing_law_holds : AgreeingLaw
agreeing_law_holds =
    record {
      recovers = recovers_agreeing;
      stands = stands_agreeing;
      have = have_agreeing;
      unnamed = unnamed_agreeing;
      puts = puts;
      coming = coming_law_holds;
    }
