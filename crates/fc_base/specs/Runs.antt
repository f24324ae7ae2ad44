-- Runs of equal bytes: how the bytes of a read are told.
use Rattle.std.specs.Prelude.{◌≢◌, ℕ, ◌<◌, List, [], ◌∷◌, ◌++◌, replicate}
use Rattle.fc_base.specs.declared.runs.Run.{Run}

-- the bytes that runs stand for
abbrev pub expanded : List Run → List ℕ
expanded [] = []
expanded (run ∷ runs) = replicate run.count run.byte ++ expanded runs

-- the first run, if there is one, has another byte
abbrev pub StartsOtherwise : ℕ → List Run → Type 0
StartsOtherwise byte [] = Unit {0}
StartsOtherwise byte (run ∷ runs) = run.byte ≢ byte

-- the last run, if there is one, has another byte
abbrev pub EndsOtherwise : List Run → ℕ → Type 0
EndsOtherwise [] byte = Unit {0}
EndsOtherwise (run ∷ []) byte = run.byte ≢ byte
EndsOtherwise (_ ∷ run ∷ runs) byte = EndsOtherwise (run ∷ runs) byte

-- no run is empty, and no two neighbours have the same byte
abbrev pub IsCanonical : List Run → Type 0
IsCanonical [] = Unit {0}
IsCanonical (run ∷ runs) = (0 < run.count) × StartsOtherwise run.byte runs × IsCanonical runs
