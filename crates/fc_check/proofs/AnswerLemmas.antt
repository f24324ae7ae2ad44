-- What is answered at the end of the bytes that were taken.
use Rattle.std.proofs.Common.{◌≡◌, ℕ, List, Ok, inr, subst}
use Rattle.fc_io.specs.Source.{SourceState}
use Rattle.fc_check.specs.Checked.{Answers, IsAll}
use Rattle.fc_check.specs.Verdict.{IsSaid}
use Rattle.fc_check.specs.declared.verdict.Verdict.{Verdict}
use Rattle.fc_check.specs.declared.verdict.Verdict.TheVariants.{Yes, No, Malformed}

-- all bytes were taken
pub said_at_end : (verdict : Verdict) (before after : SourceState) (bytes past : List ℕ) → IsSaid verdict bytes → IsAll past after → Answers (Ok verdict) before bytes past after
said_at_end (Yes entries) before after bytes past said all = (said, all)
said_at_end (No number) before after bytes past said all = (said, all)
said_at_end (Malformed place) before after bytes past said all = (said, inr all)

pub said_of : (one two : Verdict) (bytes : List ℕ) → one ≡ two → IsSaid one bytes → IsSaid two bytes
said_of one two bytes is said = subst (λ (v : Verdict). IsSaid v bytes) is said
