-- What an entry did, read from the left: its moves, the grain that it tore, its effects, in this order.
use Rattle.std.specs.Prelude.{ℕ, ◌-◌, ◌==◌, Bool, true, false, if◌then◌else◌, List, [], ◌∷◌, ◌++◌, Some, None, fold, Result, codes}
use Rattle.fc_reading.specs.Readers.{map_read, one_of_at, then_read}
use Rattle.fc_reading_notes.specs.Lines.{effect_at, effect_words, move_at, torn_at}
use Rattle.fc_reading_notes.specs.Lists.{while_first}
use Rattle.fc_reading_notes.specs.declared.notes.Note.{Note}
use Rattle.fc_reading_notes.specs.declared.notes.Note.TheVariants.{Moved, Spoiled, Changed}
use Rattle.fc_reading_notes.specs.declared.notes.Notes.{Notes}

-- the words that begin a line, while moves may come
abbrev pub note_words : List (List ℕ)
note_words = codes "+ move " ∷ codes "+ torn " ∷ effect_words

abbrev pub any_note_at : ℕ → List ℕ → Result (Note × List ℕ) ℕ
any_note_at word =
    if word == 0 then map_read Moved move_at else if word == 1 then map_read Spoiled torn_at else map_read Changed (effect_at (word - 2))

-- a line: of anything, or of an effect alone
abbrev pub note_at : Bool → List ℕ → Result (Note × List ℕ) ℕ
note_at true = map_read (λ x. x.1) (then_read (one_of_at note_words) any_note_at)
note_at false = map_read Changed (map_read (λ x. x.1) (then_read (one_of_at effect_words) effect_at))

-- moves may come behind moves alone
abbrev pub still_moving : Bool → Note → Bool
still_moving moving (Moved m) = moving
still_moving moving (Spoiled t) = false
still_moving moving (Changed e) = false

-- one more line: a move and an effect stand behind those before
abbrev pub with_note : Notes → Note → Notes
with_note notes (Moved m) = record notes { moves = notes.moves ++ m ∷ [] }
with_note notes (Spoiled t) = record notes { torn = Some t }
with_note notes (Changed e) = record notes { effects = notes.effects ++ e ∷ [] }

abbrev pub no_notes : Notes
no_notes = record { moves = []; torn = None; effects = [] }

-- all lines
abbrev pub notes_at : List ℕ → Result (Notes × List ℕ) ℕ
notes_at = map_read (fold with_note no_notes) (while_first 43 note_at still_moving true)
