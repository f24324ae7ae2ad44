-- What a slot holds.
use Rattle.std.proofs.Common.{◌≡◌, ℕ, false, Bool, List, replicate, ◌∙◌}
use Rattle.std.proofs.lemmas.List.{take_at}
use Rattle.fc_bits.specs.Words.{grains_of}
use Rattle.fc_bits.proofs.Bridge.{length-grains_of}
use Rattle.fc_books.specs.After.{of_length}

-- a set with as many grains as the slot is taken whole
pub taken_whole : (n held : ℕ) (words : List ℕ) (marks : List Bool) → held ≡ n → marks ≡ grains_of n words → of_length held marks ≡ grains_of n words
taken_whole n held words marks size is =
    (λ k. of_length (size k) (is k)) ∙ take_at (grains_of n words) (replicate n false) n (length-grains_of n words)
