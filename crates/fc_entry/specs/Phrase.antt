-- A text, and what stands behind it.
use Rattle.std.specs.Prelude.{ℕ, List, ◌++◌, decimal}
use Rattle.std.specs.List.{flat_map}
use Rattle.fc_entry.specs.declared.phrase.Phrase.{Phrase}
use Rattle.fc_entry.specs.declared.phrase.Phrase.TheVariants as phrase
use Rattle.fc_entry.specs.Text.{two_numbers, volume_text}

-- the bytes of a phrase
abbrev pub phrase_text : Phrase → List ℕ
phrase_text (phrase.Text text) = text.now
phrase_text (phrase.Word text word) = text.now ++ word.now
phrase_text (phrase.Number text number) = text.now ++ decimal number
phrase_text (phrase.Numbers text first second) = text.now ++ two_numbers first second
phrase_text (phrase.Volumes text volumes) = text.now ++ flat_map volume_text volumes.now
