-- The bits of a row of words, as they are read.
use Rattle.std.proofs.Common.{◌≡◌, ℕ, ◌/◌, ◌%◌, ◌^◌, ◌≤◌, false, eqb, bit_and, List, length, get_or, refl, sym, ap, subst, ◌∙◌}
use Rattle.std.proofs.lemmas.List.{get_or_past}
use Rattle.std.proofs.lemmas.Nat.Bits.{bit_at-zero, shr_and_one}
use Rattle.fc_bits.specs.Words.{bit_of, is_set}
use Rattle.fc_bits.proofs.Bridge.{bit_of-word}

pub bit_read : (words read : List ℕ) (g : ℕ) → read ≡ words → eqb (bit_and (get_or read (g / 64) 0 / 2 ^ (g % 64)) 1) 1 ≡ bit_of words g
bit_read words read g e =
    ap (λ (x : ℕ). eqb x 1) (shr_and_one (get_or read (g / 64) 0) (g % 64))
    ∙ (ap (λ (z : List ℕ). is_set (get_or z (g / 64) 0) (g % 64)) e ∙ sym (bit_of-word words (g / 64) g refl))

pub bit_past : (words read : List ℕ) (g : ℕ) → read ≡ words → length read ≤ g / 64 → false ≡ bit_of words g
bit_past words read g e le =
    let past : length words ≤ g / 64 = subst (λ (z : List ℕ). length z ≤ g / 64) e le in
    ap (λ (x : ℕ). eqb x 1) (sym (bit_at-zero (g % 64)))
    ∙ (ap (λ (x : ℕ). is_set x (g % 64)) (sym (get_or_past words (g / 64) 0 past)) ∙ sym (bit_of-word words (g / 64) g refl))
