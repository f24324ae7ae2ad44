-- Nothing is met in the bytes.
use Rattle.std.proofs.Common.{arith}
use Rattle.fc_check.specs.Verdict.{AreAllRight, IsSaid, IsWrongAt}
use Rattle.fc_check.specs.declared.verdict.Verdict.TheVariants.{Yes, No, Malformed}
use Rattle.fc_check.proofs.AnswerLemmas.{said_of}
use Rattle.fc_check.proofs.StopLemmas.{begins-cut, begins-whole}
use Rattle.fc_check.proofs.check.first_met.Goals as goal

pub returns-else-place-count : goal.returns-else-place-count
returns-else-place-count c = λ before after bytes past judged counted ends.
    let place = c.in-Malformed.place in
    let said : IsSaid (Malformed place) bytes = said_of c.args.verdict (Malformed place) bytes c.in-Malformed.is judged in
    c.at_end.ensures before after bytes past said (begins-cut bytes place (omega arith) said.0 said.1) ends

pub returns-in-Yes : goal.returns-in-Yes
returns-in-Yes c = λ before after bytes past judged counted ends.
    let entries = c.in-Yes.entries in
    let said : IsSaid (Yes entries) bytes = said_of c.args.verdict (Yes entries) bytes c.in-Yes.is judged in
    c.at_end-in-Yes.ensures before after bytes past said (begins-whole (AreAllRight entries) bytes said) ends

pub returns-in-No : goal.returns-in-No
returns-in-No c = λ before after bytes past judged counted ends.
    let number = c.in-No.number in
    let said : IsSaid (No number) bytes = said_of c.args.verdict (No number) bytes c.in-No.is judged in
    c.at_end-in-No.ensures before after bytes past said (begins-whole (IsWrongAt number) bytes said) ends
