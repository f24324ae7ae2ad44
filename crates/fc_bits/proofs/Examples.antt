-- The definitions on small sets and words.
use Rattle.std.proofs.Common.{◌≡◌, Bool, true, false, List, [], ◌∷◌, Some, None, refl}
use Rattle.fc_bits.specs.Grains.{count_set, difference, common, union, least_from, least_set, least_clear}
use Rattle.fc_bits.specs.Words.{bit_in, bit_of, grains_of, bits_of, words_for}

ends : List Bool
ends = true ∷ false ∷ true ∷ []

front : List Bool
front = true ∷ true ∷ false ∷ []

the_first : least_set ends 0 ≡ Some 0
unfolding least_from ends
the_first = refl

from_one : least_set ends 1 ≡ Some 2
unfolding least_from ends
from_one = refl

past_the_end : least_set ends 3 ≡ None
unfolding least_from ends
past_the_end = refl

the_gap : least_clear ends 0 ≡ Some 1
unfolding least_from ends
the_gap = refl

no_gap : least_clear ends 2 ≡ None
unfolding least_from ends
no_gap = refl

two_of_three : count_set ends ≡ 2
unfolding ends
two_of_three = refl

not_in_front : difference ends front ≡ false ∷ false ∷ true ∷ []
unfolding ends front
not_in_front = refl

in_both : common ends front ≡ true ∷ false ∷ false ∷ []
unfolding ends front
in_both = refl

in_either : union ends front ≡ true ∷ true ∷ true ∷ []
unfolding ends front
in_either = refl

-- bit 1 of the first word and bit 0 of the second
second_word : bit_of (2 ∷ 1 ∷ []) 64 ≡ true
unfolding bit_of bit_in
second_word = refl

next_to_it : bit_of (2 ∷ 1 ∷ []) 65 ≡ false
unfolding bit_of bit_in
next_to_it = refl

past_the_words : bit_of (2 ∷ 1 ∷ []) 128 ≡ false
unfolding bit_of bit_in
past_the_words = refl

held_by_five : grains_of 3 (5 ∷ []) ≡ true ∷ false ∷ true ∷ []
unfolding grains_of bit_of bit_in
held_by_five = refl

ones_of_two : count_set (bits_of (7 ∷ 1 ∷ [])) ≡ 4
unfolding grains_of bit_of bit_in
ones_of_two = refl

no_words : words_for 0 ≡ 0
no_words = refl

one_word : words_for 64 ≡ 1
one_word = refl

two_words : words_for 65 ≡ 2
two_words = refl
