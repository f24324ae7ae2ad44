-- What each event does to the chains of copies.
use Rattle.std.specs.Prelude.{ℕ, ◌+◌, Bool, true, false, cond, not, ◌&&◌, eqb, ltb, Option, Some, None, List, [], ◌∷◌, ◌++◌, length, map, fold, replicate, slice_set, remove, insert, is_some}
use Rattle.fc_base.specs.declared.ids.MapId.{MapId}
use Rattle.fc_base.specs.declared.request.Pair.{Pair}
use Rattle.fc_base.specs.declared.request.Side.{Side}
use Rattle.fc_base.specs.declared.request.Side.TheVariants.{Now, Under}
use Rattle.fc_base.specs.declared.decision.LaneEvent.{LaneEvent}
use Rattle.fc_base.specs.declared.decision.LaneEvent.TheVariants.{Make, Remove, Trigger, Retire, Detach, Split, Force, Drop, Forget, NoteCut, Access, Work, Arm}
use Rattle.fc_base.specs.Column.{last_below}
use Rattle.fc_base.specs.Sheet.{Slot, Sheet, slot_at, live_place, mapping_place, birth_place, volume_grains}

-- ---- parts of the steps

-- A volume gets a new chain of one live slot that holds every grain. It takes a birth.
abbrev pub with_chain : ℕ → ℕ → Sheet → Sheet
with_chain v grains s =
    let new : Slot = record { birth = s.births; chain = s.births; volume = v; is_live = true; mapping = None; held = replicate grains true } in
    record { births = s.births + 1; slots = s.slots ++ new ∷ [] }

-- The slot at a place is taken out.
abbrev pub without : ℕ → Sheet → Sheet
without k s = record s { slots = remove s.slots k }

-- The slot at a place becomes old, and stays where it stands.
abbrev pub aged : ℕ → Sheet → Sheet
aged k s = record s { slots = slice_set s.slots k (record (slot_at s.slots k) { is_live = false }) }

-- Whether slots stand after a place in its chain.
abbrev pub has_after : List Slot → ℕ → Bool
has_after slots k =
    is_some (last_below (λ j. ltb k j && eqb (slot_at slots j).chain (slot_at slots k).chain) (length slots))

-- What is done at a place, where there is one.
abbrev pub at_place : (ℕ → Sheet → Sheet) → Option ℕ → Sheet → Sheet
at_place f None s = s
at_place f (Some k) s = f k s

-- ---- the events

-- A volume comes: a chain of one live slot that holds every grain.
abbrev pub made : ℕ → ℕ → Sheet → Sheet
made v grains s = with_chain v grains s

-- A volume goes, with its slot.
abbrev pub removed : ℕ → Sheet → Sheet
removed v s = at_place without (live_place s.slots v) s

-- A target leaves its place: its live slot becomes old if slots stand after it, and is taken out otherwise.
abbrev pub left_place : ℕ → Sheet → Sheet
left_place k s = cond (has_after s.slots k) (aged k s) (without k s)

-- A new live slot of a target, directly after the live slot of its source, ahead of the source's older targets. It holds
-- what it starts with.
abbrev pub placed : ℕ → ℕ → List Bool → ℕ → Sheet → Sheet
placed target m held k s =
    let new : Slot = record { birth = s.births; chain = (slot_at s.slots k).chain; volume = target; is_live = true; mapping = Some m; held = held } in
    record { births = s.births + 1; slots = insert s.slots (k + 1) new }

-- One pair of a trigger: the target becomes a copy of the source.
abbrev pub started : ℕ → ℕ → ℕ → List Bool → Sheet → Sheet
started m source target held s =
    let t = at_place left_place (live_place s.slots target) s in
    at_place (placed target m held) (live_place t.slots source) t

-- All pairs of a trigger, in order of mapping; the new slots hold nothing yet.
abbrev pub started_empty : Sheet → Pair → Sheet
started_empty s p = started p.map.0 p.source.0 p.target.0 (replicate (volume_grains s.slots p.target.0) false) s

abbrev pub triggered : List Pair → Sheet → Sheet
triggered pairs s = fold started_empty s pairs

-- Retire: the slot becomes old and stays for those that need it; its volume gets a chain of its own.
abbrev pub retired_at : ℕ → Sheet → Sheet
retired_at k s = with_chain (slot_at s.slots k).volume (length (slot_at s.slots k).held) (aged k s)

-- Detach: the slot is taken out; its volume gets a chain of its own.
abbrev pub detached_at : ℕ → Sheet → Sheet
detached_at k s = with_chain (slot_at s.slots k).volume (length (slot_at s.slots k).held) (without k s)

-- Split: the slot and all after it in its chain become a chain of their own, with the slot first and still live. It takes
-- no birth, and the slot is no mapping's any more.
abbrev pub split_from : ℕ → ℕ → Slot → Slot
split_from chain birth t = cond (eqb t.chain chain) (record t { chain = birth }) t

abbrev pub relabelled : (Slot → Slot) → ℕ → List Slot → List Slot
relabelled f k [] = []
relabelled f ℕ.zero (t ∷ ts) = record t { chain = t.birth; mapping = None } ∷ map f ts
relabelled f (ℕ.suc k) (t ∷ ts) = t ∷ relabelled f k ts

abbrev pub split_at : ℕ → Sheet → Sheet
split_at k s =
    let t = slot_at s.slots k in
    record s { slots = relabelled (split_from t.chain t.birth) k s.slots }

-- Force: the slot is taken out, live or old; a volume whose live slot left gets a chain of its own.
abbrev pub forced_at : ℕ → Sheet → Sheet
forced_at k s = cond (slot_at s.slots k).is_live (detached_at k s) (without k s)

abbrev pub forced_map : Sheet → MapId → Sheet
forced_map s m = at_place forced_at (mapping_place s.slots m.0) s

-- Drop: an old slot that nobody needs is taken out.
abbrev pub dropped : ℕ → Sheet → Sheet
dropped birth s = at_place without (birth_place s.slots birth) s

-- What an event does, where a volume of so many grains has `local` of them on the sheet. Those that aren't about chains do
-- nothing.
abbrev pub sheet_step : (ℕ → ℕ) → Sheet → LaneEvent → Sheet
sheet_step local s (Make volume grains kind) = made volume.0 (local grains) s
sheet_step local s (Remove volume) = removed volume.0 s
sheet_step local s (Trigger pairs) = triggered pairs s
sheet_step local s (Retire m) = at_place retired_at (mapping_place s.slots m.0) s
sheet_step local s (Detach m) = at_place detached_at (mapping_place s.slots m.0) s
sheet_step local s (Split m) = at_place split_at (mapping_place s.slots m.0) s
sheet_step local s (Force m dependents) = fold forced_map (forced_map s m) dependents
sheet_step local s (Drop slot) = dropped slot.0 s
sheet_step local s (Forget m) = s
sheet_step local s (NoteCut m source target) = s
sheet_step local s (Access volume access) = s
sheet_step local s (Work m copies cleans) = s
sheet_step local s (Arm volume grain calls) = s

-- ---- pairs

-- A copy to a volume, or a write: the live slot gets the pair, and each older slot of the volume loses the grain.
abbrev pub grain_taken : ℕ → ℕ → Slot → Slot
grain_taken v g t = cond (eqb t.volume v) (record t { held = slice_set t.held g t.is_live }) t

-- In place the live slot gets the pair, and no other pair changes.
abbrev pub grain_kept : ℕ → ℕ → Slot → Slot
grain_kept v g t = cond (t.is_live && eqb t.volume v) (record t { held = slice_set t.held g true }) t

-- A failed write: each older slot of the volume loses the grain.
abbrev pub grain_lost : ℕ → ℕ → Slot → Slot
grain_lost v g t = cond (not t.is_live && eqb t.volume v) (record t { held = slice_set t.held g false }) t

abbrev pub sheet_moved : ℕ → ℕ → Bool → Sheet → Sheet
sheet_moved v g in_place s = record s { slots = map (cond in_place (grain_kept v g) (grain_taken v g)) s.slots }

abbrev pub sheet_written : ℕ → ℕ → Sheet → Sheet
sheet_written v g s = record s { slots = map (grain_taken v g) s.slots }

-- What the volume shows is lost too where its own grain was what it showed.
abbrev pub sheet_torn : ℕ → ℕ → Side → Sheet → Sheet
sheet_torn v g Now s = record s { slots = map (grain_taken v g) s.slots }
sheet_torn v g Under s = record s { slots = map (grain_lost v g) s.slots }
