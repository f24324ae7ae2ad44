-- The law of parts, from what is proved of decisions and of accesses.
use Rattle.fc_parts.specs.Law.{PartLaw}
use Rattle.fc_parts.proofs.Accesses.{right, told, others, fits}
use Rattle.fc_parts.proofs.Decisions.{opening, decision}
use Rattle.fc_parts.proofs.Standing.{stands}

pub part_law_holds : PartLaw
part_law_holds = record { opening = opening; decision = decision; right = right; told = told; others = others; stands = stands; fits = fits }
