-- What a reader's call answers: what reading gives.
use Rattle.std.specs.Prelude.{◌≡◌, ℕ, Result, Ok, Err}
use Rattle.fc_reading.specs.declared.pieces.Malformed.{Malformed}

abbrev pub Reads : {X Y : Type 0} → (X → Y) → Result X Malformed → Result Y ℕ → Type 0
Reads view (Ok found) read = read ≡ Ok (view found)
Reads view (Err stopped) read = read ≡ Err stopped.left
