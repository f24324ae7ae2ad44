use Rattle.std.proofs.Common.{arith}
use Rattle.law_volumes.proofs.Steps.{settling_keeps}
use Rattle.law_commanded.proofs.Anew.{anew_all, before_all, sound_all, turned_all}
use Rattle.law_commanded.proofs.Going.{none_goes}
use Rattle.law_commanded.proofs.Leaving.{from_run}
use Rattle.law_commanded.proofs.Unchanged.{comes_still, next_is, rows_stay}
use Rattle.law_commanded.proofs.Whole.{some_lane}
use Rattle.law_commanded.proofs.Without.{without_all}
use Rattle.law_commanded.proofs.commanded_law.Goals as goal

pub returns : goal.returns
returns c =
    record {
      before = λ grain entries w least command old now p asked back come few.
          before_all grain entries w least command old now p asked back (some_lane grain entries w least old p come (omega (arith, few))) come few;
      turned = λ grain entries w least command loop entry old now p kept back come few.
          turned_all grain entries w least command loop entry old now p kept back (some_lane grain entries w least old p come (omega (arith, few))) come few;
      sound = λ grain entries w least command loop entry old p kept come few.
          sound_all grain entries w least command loop entry old p kept (some_lane grain entries w least old p come (omega (arith, few))) come few;
      anew = λ grain entries w least command loop entry old new p kept come few.
          anew_all grain entries w least command loop entry old new p kept (some_lane grain entries w least old p come (omega (arith, few))) come few;
      unchanged = λ grain entries w least command loop entry old new p come few is none stand same. (
        rows_stay grain w command loop none,
        next_is grain entries w least command loop entry old new p come few is none stand same,
        comes_still grain entries w least command loop entry old new p come few is none stand same,
      );
      settled = settling_keeps;
      none_went = λ grain entries w least command loop entry old p come few is e.
          none_goes grain w command loop (from_run grain entries w least p come.run (omega (arith, few))).on.reached.stands.sound e;
      without_is = λ grain entries w least command loop entry gone old now p come few is goes are.
          without_all grain entries w least command loop entry gone old now p come few is goes are (some_lane grain entries w least old p come (omega (arith, few)));
    }
