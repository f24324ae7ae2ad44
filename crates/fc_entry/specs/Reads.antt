-- Which bytes a read may answer.
use Rattle.std.specs.Prelude.{◌≡◌, ℕ, List, take, drop}
use Rattle.fc_base.specs.Runs.{expanded, IsCanonical}
use Rattle.fc_base.specs.declared.runs.Run.{Run}
use Rattle.fc_entry.specs.Picture.{Content, Bytes, Lost}

-- canonical runs that stand for the named bytes of a grain, which isn't lost
abbrev pub IsRightIn : ℕ → ℕ → Content → List Run → Type 0
IsRightIn from length (Bytes bytes) runs = IsCanonical runs × (expanded runs ≡ take length (drop from bytes))
IsRightIn from length Lost runs = ⊥
