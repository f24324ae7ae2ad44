-- The copy of a mapping: what it holds, who needs it, and who depends on it.
use Rattle.std.specs.Prelude.{ℕ, ◌+◌, Bool, true, false, cond, not, ◌&&◌, ◌==◌, nat_le, nat_lt, List, [], ◌∷◌, ◌++◌, length, fold, filter, Option, Some, None}
use Rattle.std.specs.List.{list_any, range_with_len}
use Rattle.std.specs.Option.{option_map_or}
use Rattle.fc_base.specs.Counts.{any_below, reads_some}
use Rattle.fc_base.specs.Sheet.{Slot, slot_at, mapping_place}
use Rattle.fc_base.specs.SheetView.{held_of, needed_of, count_true}
use Rattle.fc_base.specs.Tables.{volume_with}
use Rattle.fc_base.specs.declared.ids.VolId.{VolId}
use Rattle.fc_base.specs.declared.ranges.Range.{Range}
use Rattle.fc_base.specs.declared.volume.Mapping.{Mapping}
use Rattle.fc_books.specs.Books.{Books}

-- ---- what it holds

-- How many grains the mapping's slot holds, of how many; and whether these are all.
abbrev pub held : Books → Mapping → ℕ
held b m = count_true (held_of b.sheet.slots m.id.0)

abbrev pub total : Books → Mapping → ℕ
total b m = option_map_or (λ v. v.grains) (volume_with b.tables m.target) 0

abbrev pub is_whole : Books → Mapping → Bool
is_whole b m = nat_le (total b m) (held b m)

-- Grains as ranges, rising and never touching: those of a list of truth values whose first is that of grain `g`.
abbrev pub put_before : ℕ → List Range → List Range
put_before g [] = record { first = g; last = g } ∷ []
put_before g (range ∷ ranges) =
    cond (range.first == g + 1) (record { first = g; last = range.last } ∷ ranges) (record { first = g; last = g } ∷ range ∷ ranges)

abbrev pub ranges_from : ℕ → List Bool → List Range
ranges_from g [] = []
ranges_from g (true ∷ bits) = put_before g (ranges_from (g + 1) bits)
ranges_from g (false ∷ bits) = ranges_from (g + 1) bits

-- The grains that the mapping's slot holds.
abbrev pub kept : Books → Mapping → List Range
kept b m = ranges_from 0 (held_of b.sheet.slots m.id.0)

-- ---- who needs it

-- Whether another live slot reads from the mapping's slot at some grain.
abbrev pub is_needed : Books → Mapping → Bool
is_needed b m = nat_lt 0 (needed_of b.sheet.slots m.id.0)

-- Whether the volume is used as a source: some slot of it has a live slot behind it in its chain.
abbrev pub is_live_behind : List Slot → ℕ → ℕ → Bool
is_live_behind slots k j =
    nat_lt k j && ((slot_at slots j).is_live && ((slot_at slots j).chain == (slot_at slots k).chain))

abbrev pub is_used : List Slot → VolId → Bool
is_used slots v =
    any_below (λ k. ((slot_at slots k).volume == v.0) && any_below (is_live_behind slots k) (length slots)) (length slots)

-- ---- who depends on it

-- A live slot joins the dependents of slot `k` where it reads, at some grain, from `k` or from one that has joined.
abbrev pub joins_dependents : List Slot → ℕ → List ℕ → ℕ → Bool
joins_dependents slots k joined j =
    ((slot_at slots j).is_live && not (j == k)) && list_any (λ h. reads_some slots h j) (k ∷ joined)

-- The places of all dependents. No slot reads from one behind it, so the slots are taken once, in order.
abbrev pub dependent_places : List Slot → ℕ → List ℕ
dependent_places slots k =
    fold (λ joined j. cond (joins_dependents slots k joined j) (joined ++ j ∷ []) joined) [] (range_with_len 0 (length slots))

abbrev pub places_behind : List Slot → Option ℕ → List ℕ
places_behind slots None = []
places_behind slots (Some k) = dependent_places slots k

-- The mappings, by id, whose slots are dependents of the mapping's slot.
abbrev pub has_slot_among : List Slot → List ℕ → Mapping → Bool
has_slot_among slots places d = option_map_or (λ k. list_any (λ j. j == k) places) (mapping_place slots d.id.0) false

unfoldable pub dependents : Books → Mapping → List Mapping
dependents b m =
    filter (has_slot_among b.sheet.slots (places_behind b.sheet.slots (mapping_place b.sheet.slots m.id.0))) b.tables.mappings
