-- What telling `main` the faults of a block leaves of the history, and of the store, which stands for what is told.
use Rattle.std.specs.Prelude.{◌≡◌, List, ◌∷◌, [], length, Result, Ok, Err}
use Rattle.fc_base.specs.declared.fault.WordFault.{WordFault}
use Rattle.fc_base.specs.declared.request.Request.{Request}
use Rattle.fc_base.specs.declared.size.GrainSize.{GrainSize}
use Rattle.fc_entry.specs.HistoryState.{HistoryState}
use Rattle.fc_entry.specs.declared.stop.Stop.{Stop}
use Rattle.fc_entry.specs.declared.stop.Stop.TheVariants.{LogFull, NoMemory}
use Rattle.fc_legal.specs.Added.{Adds, IsOf, Reached}
use Rattle.fc_legal.specs.Whole.{Whole}
use Rattle.law_together.specs.Telling.{AreTold}

-- All are told; or the first of them, up to 262,144 entries, and one more is next; or the first of them, for want of memory.
abbrev pub FaultsTold : {A : Type 0} → Result A Stop → (Whole → Type 0) → GrainSize → Whole → List WordFault → HistoryState → HistoryState → Type 0
FaultsTold (Ok _) Stands grain w faults old new =
    Reached Stands new (λ last. Adds old new (λ more. AreTold grain w faults more [] last))
FaultsTold (Err LogFull) Stands grain w faults old new =
    (length new.entries ≡ 262144)
    × Reached Stands new (λ last. Adds old new (λ more. (wanted : Request) × (behind : List Request) × AreTold grain w faults more (wanted ∷ behind) last))
FaultsTold (Err NoMemory) Stands grain w faults old new =
    (last : Whole) × IsOf last new × Adds old new (λ more. (left : List Request) × AreTold grain w faults more left last)
