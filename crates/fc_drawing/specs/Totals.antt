-- How many moves were made, by pair of volumes.
use Rattle.std.specs.Prelude.{ℕ, zero, suc, ◌+◌, ◌-◌, ◌^◌, Bool, true, false, ◌&&◌, cond, eqb, min, Option, Some, None, List, [], ◌∷◌}
use Rattle.fc_base.specs.declared.ids.VolId.{VolId}
use Rattle.fc_drawing.specs.declared.totals.PairTotal.{PairTotal}

-- Whether two are the same volume, or none both; and whether a total is of this pair.
abbrev pub is_same : Option VolId → Option VolId → Bool
is_same (Some one) (Some other) = eqb one.0 other.0
is_same None None = true
is_same (Some one) None = false
is_same None (Some other) = false

abbrev pub is_of : Option VolId → VolId → PairTotal → Bool
is_of from to total = is_same total.from from && eqb total.to.0 to.0

-- No moves of a pair, and one move more; a count stands still at 2 ^ 64 - 1.
abbrev pub none_of : Option VolId → VolId → PairTotal
none_of from to = record { from = from; to = to; copied = 0; in_place = 0 }

abbrev pub moved_once : Bool → PairTotal → PairTotal
moved_once in_place total =
    cond in_place (record total { in_place = min (total.in_place + 1) (2 ^ 64 - 1) }) (record total { copied = min (total.copied + 1) (2 ^ 64 - 1) })

-- Where a pair stands; past the end where it isn't there.
abbrev pub place_of : Option VolId → VolId → List PairTotal → ℕ
place_of from to [] = zero
place_of from to (total ∷ totals) = cond (is_of from to total) zero (suc (place_of from to totals))

-- All totals after one move more: its pair has one more, and comes last where it is new.
abbrev pub counted : Option VolId → VolId → Bool → List PairTotal → List PairTotal
counted from to in_place [] = moved_once in_place (none_of from to) ∷ []
counted from to in_place (total ∷ totals) = cond (is_of from to total) (moved_once in_place total ∷ totals) (total ∷ counted from to in_place totals)
