-- Words, bit by bit.
use Rattle.std.proofs.Common.{◌≡◌, ℕ, zero, suc, ◌+◌, Bool, true, not, List, ◌∷◌, length, map, replicate, refl, sym, ap, ◌∙◌, arith}
use Rattle.std.specs.List.{range_with_len}
use Rattle.std.proofs.lemmas.List.FromFn.{length-map-range_with_len}
use Rattle.fc_bits.specs.Words.{words_for}
use Rattle.fc_image.specs.Words.{bit_put}
use Rattle.fc_kept.specs.Images.{words_from, words_with}

-- the bit of one grain more
put_suc : (f : ℕ → Bool) (n a s j k : ℕ) (ws : List ℕ) → s + n ≡ j → a + n ≡ k →
    words_from (map f (range_with_len a (suc n))) s ws ≡ bit_put (words_from (map f (range_with_len a n)) s ws) j (f k)
put_suc f zero a s j k ws e h =
    let at : s ≡ j = omega arith in
    let of : a ≡ k = omega arith in
    λ i. bit_put ws (at i) (f (of i))
put_suc f (suc n) a s j k ws e h = put_suc f n (a + 1) (suc s) j k (bit_put ws s (f a)) (omega arith) (omega arith)

pub put_more : (f : ℕ → Bool) (n : ℕ) (ws zs : List ℕ) (b : Bool) → ws ≡ words_from (map f (range_with_len 0 n)) 0 zs → b ≡ f n →
    bit_put ws n b ≡ words_from (map f (range_with_len 0 (n + 1))) 0 zs
put_more f n ws zs b e h =
    let next : suc n ≡ n + 1 = omega arith in
    (λ i. bit_put (e i) n (h i))
    ∙ (sym (put_suc f n 0 0 n n zs (omega arith) (omega arith))
    ∙ ap (λ (m : ℕ). words_from (map f (range_with_len 0 m)) 0 zs) next)

-- of all grains
pub all_put : (f : ℕ → Bool) (n : ℕ) → words_from (map f (range_with_len 0 n)) 0 (replicate (words_for n) 0) ≡ words_with (map f (range_with_len 0 n))
all_put f n = ap (λ (m : ℕ). words_from (map f (range_with_len 0 n)) 0 (replicate (words_for m) 0)) (sym (length-map-range_with_len f 0 n))

-- ---- the words of a row

pub changed_bits : (same : ℕ → Bool) (a n : ℕ) → map (λ g. not (same g)) (range_with_len a n) ≡ map not (map same (range_with_len a n))
changed_bits same a zero = refl
changed_bits same a (suc n) = ap (λ (z : List Bool). not (same a) ∷ z) (changed_bits same (a + 1) n)

all_bits : (a n : ℕ) → map (λ (g : ℕ). true) (range_with_len a n) ≡ replicate n true
all_bits a zero = refl
all_bits a (suc n) = ap (λ (z : List Bool). true ∷ z) (all_bits (a + 1) n)

pub kept_bits : (same : ℕ → Bool) (n : ℕ) → map (λ (g : ℕ). true) (range_with_len 0 n) ≡ replicate (length (map same (range_with_len 0 n))) true
kept_bits same n = all_bits 0 n ∙ ap (λ (m : ℕ). replicate m true) (sym (length-map-range_with_len same 0 n))
