-- The shift that the body computes is the table, tried at each rate.
use Rattle.std.proofs.Common.{◌≡◌, ℕ, zero, suc, ◌-◌, ◌*◌, ◌/◌, ◌%◌, ◌^◌, ◌<◌, ◌≤◌, Bool, true, false, ◌&&◌, ◌||◌, nat_eq, cond, Option, Some, None, List, [], ◌∷◌, ◌⊎◌, inl, inr, refl, sym, ◌∙◌, ap, arith}
use Rattle.std.specs.Prelude.{nat_le, find}
use Rattle.std.specs.List.{list_all}
use Rattle.std.specs.Option.{option_map_or}
use Rattle.std.proofs.lemmas.Bool.{and_parts, leb-true, lt-leb}
use Rattle.fc_base.specs.Rates.{kib_of_rate, rate_table}

-- the KiB per second of a rate above 0, as the body computes them
abbrev pub shifted : ℕ → ℕ
shifted rate = 128 * 2 ^ ((rate - 1) / 10) % 4294967296

agrees : ℕ → Bool
agrees rate = nat_eq rate 0 || nat_eq (shifted rate) (kib_of_rate rate)

all_agree : ℕ → Bool
all_agree zero = true
all_agree (suc n) = agrees n && all_agree n

agrees_below : (n k : ℕ) → all_agree n ≡ true → k < n → agrees k ≡ true
unfolding all_agree
agrees_below zero k all below = absurd (omega arith)
agrees_below (suc n) k all below = grind (arith, agrees_below n k)

agree_to_150 : all_agree 151 ≡ true
unfolding all_agree agrees kib_of_rate
agree_to_150 = refl

pub shifted_is_table : (rate : ℕ) → (rate ≡ 0 → ⊥) → rate ≤ 150 → shifted rate ≡ kib_of_rate rate
unfolding agrees
shifted_is_table rate some within = let e : agrees rate ≡ true = agrees_below 151 rate agree_to_150 (omega arith) in grind (arith, e)

-- No row reaches past the last rate.
none_reaches : (rate : ℕ) (rows : List (ℕ × ℕ)) → list_all (λ (row : ℕ × ℕ). nat_le row.0 150) rows ≡ true → 150 < rate → find (λ (row : ℕ × ℕ). nat_le rate row.0) rows ≡ None
none_reaches rate [] all past = refl
none_reaches rate (row ∷ rows) all past =
    let both = and_parts (nat_le row.0 150) (list_all (λ (r : ℕ × ℕ). nat_le r.0 150) rows) all in
    let low : row.0 ≤ 150 = leb-true row.0 150 both.0 in
    let above : row.0 < rate = omega (arith, low, past) in
    ap (λ b. cond b (Some row) (find (λ (r : ℕ × ℕ). nat_le rate r.0) rows)) (lt-leb rate row.0 above) ∙ none_reaches rate rows both.1 past

past_is_none : (rate : ℕ) → 150 < rate → kib_of_rate rate ≡ 0
unfolding kib_of_rate
past_is_none rate past = ap (λ (o : Option (ℕ × ℕ)). option_map_or (λ row. row.1) o 0) (none_reaches rate rate_table refl past)

pub zero_is_none : (rate : ℕ) → rate ≡ 0 → kib_of_rate rate ≡ 0
unfolding kib_of_rate
zero_is_none rate is = ap (λ r. option_map_or (λ (row : ℕ × ℕ). row.1) (find (λ (row : ℕ × ℕ). nat_le r row.0) rate_table) 0) is

pub none_at_ends : (rate : ℕ) → (rate ≡ 0) ⊎ ((rate ≡ 0 → ⊥) × (150 < rate)) → 0 ≡ kib_of_rate rate
none_at_ends rate (inl is) = sym (zero_is_none rate is)
none_at_ends rate (inr past) = sym (past_is_none rate past.1)
