-- What a reader's call answers that takes memory: what reading gives, or that memory was wanted.
use Rattle.std.specs.Prelude.{◌≡◌, ℕ, Result, Ok, Err}
use Rattle.fc_reading_notes.specs.declared.stop.ReadStop.{ReadStop}
use Rattle.fc_reading_notes.specs.declared.stop.ReadStop.TheVariants.{Malformed, NoMemory}

-- why it answers nothing: the bytes can't go on, or memory was wanted, which says nothing of them
abbrev pub StopsAs : {Y : Type 0} → ReadStop → Result Y ℕ → Type 0
StopsAs (Malformed at) read = read ≡ Err at.left
StopsAs NoMemory read = Unit {0}

abbrev pub ReadsOr : {X Y : Type 0} → (X → Y) → Result X ReadStop → Result Y ℕ → Type 0
ReadsOr view (Ok found) read = read ≡ Ok (view found)
ReadsOr view (Err stop) read = StopsAs stop read
