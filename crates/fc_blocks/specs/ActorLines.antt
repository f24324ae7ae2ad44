-- The name on an `actor` line, also where what stands behind it is faulty.
use Rattle.std.specs.Prelude.{ℕ, if◌then◌else◌, List, [], ◌∷◌, length, Option, Some, None, nat_lt, codes}
use Rattle.std.specs.Str.{bytes_eq}
use Rattle.fc_base.specs.declared.limits.TheConstants.{MAX_LINE_BYTES}
use Rattle.fc_words.specs.Lines.{is_prefix}
use Rattle.fc_words.specs.Values.{name_of}
use Rattle.fc_words.specs.Words.{words_of}

-- words from the one that names the line on: a first `svctask` or `svcinfo` is passed over
abbrev pub naming : List (List ℕ) → List (List ℕ)
naming [] = []
naming (first ∷ words) = if is_prefix first then words else first ∷ words

-- what stands behind the word `actor`
abbrev pub behind_actor : List (List ℕ) → Option (List (List ℕ))
behind_actor [] = None
behind_actor (first ∷ words) = if bytes_eq first (codes "actor") then Some words else None

-- of an `actor` line the words behind `actor`; none of another line, nor of one that is too long to be read
abbrev pub actor_words : List ℕ → Option (List (List ℕ))
actor_words line = if nat_lt MAX_LINE_BYTES (length line) then None else behind_actor (naming (words_of line))

-- the name in front of these words
abbrev pub first_name : List (List ℕ) → Option (List ℕ)
first_name [] = None
first_name (word ∷ words) = name_of word
