-- The law of decisions: what is decided of a command fits the books, and leaves all as sound as before.
use Rattle.std.specs.Prelude.{◌≡◌, ℕ, ◌^◌, ◌<◌, false, List, length, Option}
use Rattle.fc_base.specs.Need.{IsNeeded}
use Rattle.fc_base.specs.Sheet.{slot_at}
use Rattle.fc_base.specs.declared.command.Command.{Command}
use Rattle.fc_base.specs.declared.ids.VolId.{VolId}
use Rattle.fc_base.specs.declared.size.GrainSize.{GrainSize}
use Rattle.fc_books.specs.Books.{Books}
use Rattle.fc_books.specs.Deciding.{settle, IsLoopOf}
use Rattle.fc_legal.specs.Lawful.{IsLawful}
use Rattle.fc_legal.specs.Stands.{Stands}
use Rattle.fc_legal.specs.Steps.{after_settling, decided_on}
use Rattle.fc_legal.specs.Whole.{Whole}

-- Settled: every old slot is needed.
abbrev pub AreSettled : Books → Type 0
AreSettled b = (k : ℕ) → k < length b.sheet.slots → (slot_at b.sheet.slots k).is_live ≡ false → IsNeeded b.sheet.slots k

pub record DecisionLaw : Type 0 where
  -- of a settling
  pub settled : (grain : GrainSize) (decisions : ℕ) (w : Whole) → decisions < 2 ^ 32 → Stands decisions w → IsLawful grain decisions w (settle w.books)
  pub settles : (grain : GrainSize) (decisions : ℕ) (w : Whole) → decisions < 2 ^ 32 → Stands decisions w → AreSettled (after_settling grain w).books
  -- of a command, which begins on settled books
  pub decided : (grain : GrainSize) (decisions : ℕ) (w : Whole) (command : Command) (loop : Option (List VolId)) → decisions < 2 ^ 32 → Stands decisions w → AreSettled w.books →
      IsLoopOf grain w.books command loop → IsLawful grain decisions w (decided_on grain w command loop)
