-- What is wrong with the words of a line, read from the left as far as the end of the reply's line.
use Rattle.std.specs.Prelude.{◌≡◌, ℕ, ◌-◌, ◌==◌, if◌then◌else◌, nat_lt, List, [], ◌∷◌, ◌++◌, Result, codes}
use Rattle.fc_base.specs.declared.fault.RequiredOption.TheVariants as required
use Rattle.fc_base.specs.declared.fault.WordFault.{WordFault}
use Rattle.fc_base.specs.declared.fault.WordFault.TheVariants as fault
use Rattle.fc_entry.specs.Text.{fault_text}
use Rattle.fc_reading.specs.Readers.{map_read, the_word, then_read}
use Rattle.fc_reading_notes.specs.Told.{IsId}
use Rattle.fc_reading_replies.specs.Begun.{begun_at, numbered, said}

-- numbers of 32 bits
abbrev pub IsFault : WordFault → Type 0
IsFault (fault.UnknownOption word) = IsId word
IsFault (fault.MissingWord word) = IsId word
IsFault (fault.RepeatedOption word) = IsId word
IsFault (fault.BadNumber word) = IsId word
IsFault (fault.BadName word) = IsId word
IsFault (fault.Limit n) = IsId n
IsFault fault = Unit {0}

-- the whole texts of faults without a number, and how the others begin
abbrev pub fault_words : List (List ℕ)
fault_words =
    codes "unknown command\n" ∷ codes "long line\n" ∷ codes "no actor\n" ∷ codes "not in a block\n"
    ∷ codes "missing option -size\n" ∷ codes "missing option -seconds\n" ∷ codes "missing option -source\n"
    ∷ codes "missing option -target\n" ∷ codes "missing option -preset\n"
    ∷ codes "unknown option at word " ∷ codes "missing word " ∷ codes "option repeated at word "
    ∷ codes "bad number at word " ∷ codes "bad name at word " ∷ codes "limit " ∷ []

abbrev pub fault_of : ℕ → WordFault
fault_of n =
    if n == 0 then fault.UnknownCommand else if n == 1 then fault.LongLine else if n == 2 then fault.NoActor
    else if n == 3 then fault.NotInBlock else if n == 4 then fault.MissingOption required.Size
    else if n == 5 then fault.MissingOption required.Seconds else if n == 6 then fault.MissingOption required.Source
    else if n == 7 then fault.MissingOption required.Target else fault.MissingOption required.Preset

abbrev pub numbered_fault : ℕ → ℕ → WordFault
numbered_fault n number =
    if n == 0 then fault.UnknownOption number else if n == 1 then fault.MissingWord number
    else if n == 2 then fault.RepeatedOption number else if n == 3 then fault.BadNumber number
    else if n == 4 then fault.BadName number else fault.Limit number

abbrev pub fault_behind : ℕ → List ℕ → Result (WordFault × List ℕ) ℕ
fault_behind word = if nat_lt word 9 then said (fault_of word) else numbered (numbered_fault (word - 9))

abbrev pub fault_at : List ℕ → Result (WordFault × List ℕ) ℕ
fault_at = begun_at fault_words fault_behind

-- the reply of a line with a fault in its words, and the end of its line
abbrev pub unread_text : WordFault → List ℕ
unread_text fault = (codes "refused " ++ fault_text fault) ++ codes "\n"

abbrev pub unread_at : List ℕ → Result (WordFault × List ℕ) ℕ
unread_at = map_read (λ x. x.1) (then_read (the_word (codes "refused ")) (λ u. fault_at))

abbrev pub IsUnread : List ℕ → Type 0
IsUnread bytes = (fault : WordFault) × IsFault fault × (bytes ≡ unread_text fault)
