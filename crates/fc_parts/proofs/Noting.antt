-- The notes of events and of entries, as a lane's part of the chains tells them.
use Rattle.std.proofs.Common.{◌≡◌, ◌≢◌, ℕ, ◌%◌, Bool, true, false, cond, Option, Some, None, List, [], ◌∷◌, ◌++◌, map, flat_map, fold, option_map, refl, sym, ap, ap₂, ◌∙◌}
use Rattle.std.proofs.lemmas.List.{map-append}
use Rattle.fc_base.specs.Sheet.{Slot, slot_at, mapping_place, volume_grains}
use Rattle.fc_base.specs.declared.decision.LaneEvent.{LaneEvent}
use Rattle.fc_base.specs.declared.decision.LaneEvent.TheVariants.{Trigger, Retire, Detach, Split, Force, Forget, NoteCut}
use Rattle.fc_base.specs.declared.ids.MapId.{MapId}
use Rattle.fc_base.specs.declared.request.Pair.{Pair}
use Rattle.fc_base.specs.declared.request.Side.{Side}
use Rattle.fc_base.specs.declared.request.Side.TheVariants.{Now, Under}
use Rattle.fc_base.specs.declared.request.Torn.{Torn}
use Rattle.fc_base.specs.declared.request.WritePart.{WritePart}
use Rattle.fc_changed.specs.Notes.{Note}
use Rattle.fc_changed.specs.Notes.Note.{Began, Wrote, Left}
use Rattle.fc_changed.specs.Row.{Row, after_note}
use Rattle.fc_entry.specs.Picture.{grain_of_block}
use Rattle.fc_follow.specs.Following.{slot_leaves, leaving, beginning, event_notes, rows_event, write_notes, side_notes, torn_notes}
use Rattle.fc_legal.proofs.Each.{each_append}
use Rattle.fc_legal.specs.Whole.{part, part_of_slot, part_of_rows, single_lane}
use Rattle.fc_rules.specs.LaneTold.{LaneOf, place_of, grains_in}
use Rattle.fc_parts.proofs.Grains.{WriteAt, TornAt, away_same}
use Rattle.fc_parts.proofs.Numbers.{IsLane, IsOf, of_same, all_place}
use Rattle.fc_parts.proofs.Rows.{note_part, IsNoteOf, AreNotesOf, all_note_parts, write_unseen}
use Rattle.fc_parts.proofs.Views.{parts, slot_parts, mapping_parts, grains_parts}

-- ---- a slot that leaves, and a mapping that begins

abbrev left_by : Slot → List Note
left_by slot = cond slot.is_live (Left slot.volume slot.held ∷ []) []

left_part : (l : LaneOf) (slot : Slot) → map (note_part l) (left_by slot) ≡ left_by (part_of_slot l slot)
left_part l slot = by_test slot.is_live
  where
    by_test : (b : Bool) → map (note_part l) (cond b (Left slot.volume slot.held ∷ []) []) ≡ cond b (Left slot.volume (part l false slot.held) ∷ []) []
    by_test true = refl
    by_test false = refl

leaves_part : (l : LaneOf) → IsLane l → (slots : List Slot) (o : Option ℕ) → map (note_part l) (slot_leaves slots o) ≡ slot_leaves (parts l slots) o
leaves_part l i slots None = refl
leaves_part l i slots (Some k) = left_part l (slot_at slots k) ∙ ap left_by (sym (slot_parts l i slots k))

leaving_part : (l : LaneOf) → IsLane l → (slots : List Slot) (m : MapId) → map (note_part l) (leaving slots m) ≡ leaving (parts l slots) m
leaving_part l i slots m = leaves_part l i slots (mapping_place slots m.0) ∙ ap (slot_leaves (parts l slots)) (sym (mapping_parts l i slots m.0))

all_leaving : (l : LaneOf) → IsLane l → (slots : List Slot) (ms : List MapId) → map (note_part l) (flat_map (leaving slots) ms) ≡ flat_map (leaving (parts l slots)) ms
all_leaving l i slots [] = refl
all_leaving l i slots (m ∷ ms) =
    map-append (note_part l) (leaving slots m) (flat_map (leaving slots) ms)
    ∙ ap₂ (λ a b. a ++ b) (leaving_part l i slots m) (all_leaving l i slots ms)

followed_part : (l : LaneOf) (b : Bool) (grains : ℕ) → option_map (grains_in l) (cond b (Some grains) None) ≡ cond b (Some (grains_in l grains)) None
followed_part l true grains = refl
followed_part l false grains = refl

beginning_part : (l : LaneOf) → IsLane l → (slots : List Slot) (p : Pair) → note_part l (beginning slots p) ≡ beginning (parts l slots) p
beginning_part l i slots p =
    ap (λ (z : Option ℕ). Began p.map.0 p.source.0 p.target.0 z)
    (followed_part l p.incremental (volume_grains slots p.target.0)
    ∙ ap (λ n. cond p.incremental (Some n) None) (sym (grains_parts l i slots p.target.0)))

all_beginning : (l : LaneOf) → IsLane l → (slots : List Slot) (pairs : List Pair) → map (note_part l) (map (beginning slots) pairs) ≡ map (beginning (parts l slots)) pairs
all_beginning l i slots [] = refl
all_beginning l i slots (p ∷ ps) = ap₂ (λ a b. a ∷ b) (beginning_part l i slots p) (all_beginning l i slots ps)

-- ---- none of them is a write

left_of : (l : LaneOf) (b : Bool) (volume : ℕ) (held : List Bool) → AreNotesOf l (cond b (Left volume held ∷ []) [])
left_of l true volume held = (tt, tt)
left_of l false volume held = tt

leaves_of : (l : LaneOf) (slots : List Slot) (o : Option ℕ) → AreNotesOf l (slot_leaves slots o)
leaves_of l slots None = tt
leaves_of l slots (Some k) = left_of l (slot_at slots k).is_live (slot_at slots k).volume (slot_at slots k).held

leaving_of : (l : LaneOf) (slots : List Slot) (m : MapId) → AreNotesOf l (leaving slots m)
leaving_of l slots m = leaves_of l slots (mapping_place slots m.0)

all_leaving_of : (l : LaneOf) (slots : List Slot) (ms : List MapId) → AreNotesOf l (flat_map (leaving slots) ms)
all_leaving_of l slots [] = tt
all_leaving_of l slots (m ∷ ms) = each_append (IsNoteOf l) (leaving slots m) (flat_map (leaving slots) ms) (leaving_of l slots m) (all_leaving_of l slots ms)

all_beginning_of : (l : LaneOf) (slots : List Slot) (pairs : List Pair) → AreNotesOf l (map (beginning slots) pairs)
all_beginning_of l slots [] = tt
all_beginning_of l slots (p ∷ ps) = (tt, all_beginning_of l slots ps)

-- ---- the notes of an event

event_notes_part : (l : LaneOf) → IsLane l → (slots : List Slot) (e : LaneEvent) → map (note_part l) (event_notes slots e) ≡ event_notes (parts l slots) e
event_notes_part l i slots (Trigger pairs) = all_beginning l i slots pairs
event_notes_part l i slots (Retire m) = leaving_part l i slots m
event_notes_part l i slots (Detach m) = leaving_part l i slots m
event_notes_part l i slots (Split m) = leaving_part l i slots m
event_notes_part l i slots (Force m dependents) =
    map-append (note_part l) (leaving slots m) (flat_map (leaving slots) dependents)
    ∙ ap₂ (λ a b. a ++ b) (leaving_part l i slots m) (all_leaving l i slots dependents)
event_notes_part l i slots e = refl

event_notes_of : (l : LaneOf) (slots : List Slot) (e : LaneEvent) → AreNotesOf l (event_notes slots e)
event_notes_of l slots (Trigger pairs) = all_beginning_of l slots pairs
event_notes_of l slots (Retire m) = leaving_of l slots m
event_notes_of l slots (Detach m) = leaving_of l slots m
event_notes_of l slots (Split m) = leaving_of l slots m
event_notes_of l slots (Force m dependents) = each_append (IsNoteOf l) (leaving slots m) (flat_map (leaving slots) dependents) (leaving_of l slots m) (all_leaving_of l slots dependents)
event_notes_of l slots (Forget m) = (tt, tt)
event_notes_of l slots (NoteCut m source target) = (tt, tt)
event_notes_of l slots e = tt

pub rows_agree : (l : LaneOf) → IsLane l → (slots : List Slot) (rows : List Row) (e : LaneEvent) → part_of_rows l (rows_event slots rows e) ≡ rows_event (parts l slots) (part_of_rows l rows) e
rows_agree l i slots rows e =
    all_note_parts l i rows (event_notes slots e) (event_notes_of l slots e)
    ∙ ap (fold after_note (part_of_rows l rows)) (event_notes_part l i slots e)

-- ---- the notes of an entry, in the lane of its grain

all_is_of : (l : LaneOf) (x number : ℕ) → x ≡ number → IsOf l number → IsOf l (place_of (single_lane l.grain) x)
all_is_of l x number e is_of = of_same l (place_of (single_lane l.grain) x) number (all_place l.grain x ∙ e) is_of

wrote_here : (l : LaneOf) (volume x : ℕ) → note_part l (Wrote volume (place_of (single_lane l.grain) x)) ≡ Wrote volume (place_of l x)
wrote_here l volume x = ap (λ z. Wrote volume (place_of l z)) (all_place l.grain x)

written_part : (l : LaneOf) (write : Option WritePart) → map (note_part l) (write_notes (single_lane l.grain) write) ≡ write_notes l write
written_part l None = refl
written_part l (Some part) = ap (λ z. z ∷ []) (wrote_here l part.volume.0 (grain_of_block l.grain part.block))

written_of : (l : LaneOf) (number : ℕ) → IsOf l number → (write : Option WritePart) → WriteAt l.grain number write → AreNotesOf l (write_notes (single_lane l.grain) write)
written_of l number is_of None at = tt
written_of l number is_of (Some part) at = (all_is_of l (grain_of_block l.grain part.block) number at is_of, tt)

side_part : (l : LaneOf) (torn : Torn) (side : Side) → map (note_part l) (side_notes (single_lane l.grain) torn side) ≡ side_notes l torn side
side_part l torn Now = ap (λ z. z ∷ []) (wrote_here l torn.volume.0 torn.grain.0)
side_part l torn Under = refl

torn_part : (l : LaneOf) (torn : Option Torn) → map (note_part l) (torn_notes (single_lane l.grain) torn) ≡ torn_notes l torn
torn_part l None = refl
torn_part l (Some torn) = side_part l torn torn.side

side_of : (l : LaneOf) (number : ℕ) → IsOf l number → (torn : Torn) (side : Side) → torn.grain.0 ≡ number → AreNotesOf l (side_notes (single_lane l.grain) torn side)
side_of l number is_of torn Now at = (all_is_of l torn.grain.0 number at is_of, tt)
side_of l number is_of torn Under at = tt

torn_of : (l : LaneOf) (number : ℕ) → IsOf l number → (torn : Option Torn) → TornAt number torn → AreNotesOf l (torn_notes (single_lane l.grain) torn)
torn_of l number is_of None at = tt
torn_of l number is_of (Some torn) at = side_of l number is_of torn torn.side at

abbrev notes_of : LaneOf → Option WritePart → Option Torn → List Note
notes_of l write torn = write_notes l write ++ torn_notes l torn

pub rows_here : (l : LaneOf) → IsLane l → (number : ℕ) → IsOf l number → (rows : List Row) (write : Option WritePart) (torn : Option Torn) →
    WriteAt l.grain number write → TornAt number torn →
    part_of_rows l (fold after_note rows (notes_of (single_lane l.grain) write torn)) ≡ fold after_note (part_of_rows l rows) (notes_of l write torn)
rows_here l i number is_of rows write torn w t =
    let all : LaneOf = single_lane l.grain in
    all_note_parts l i rows (notes_of all write torn)
    (each_append (IsNoteOf l) (write_notes all write) (torn_notes all torn) (written_of l number is_of write w) (torn_of l number is_of torn t))
    ∙ ap (fold after_note (part_of_rows l rows))
    (map-append (note_part l) (write_notes all write) (torn_notes all torn) ∙ ap₂ (λ a b. a ++ b) (written_part l write) (torn_part l torn))

-- ---- on another lane

-- writes alone, of grains of other lanes
abbrev AreAway : LaneOf → List Note → Type 0
AreAway l [] = Unit {0}
AreAway l (Wrote volume grain ∷ notes) = (grain % l.lanes ≢ l.lane) × AreAway l notes
AreAway l (note ∷ notes) = ⊥

away_both : (l : LaneOf) (xs ys : List Note) → AreAway l xs → AreAway l ys → AreAway l (xs ++ ys)
away_both l [] ys a b = b
away_both l (Wrote volume grain ∷ xs) ys a b = (a.0, away_both l xs ys a.1 b)
away_both l (note ∷ xs) ys a b = absurd a

unseen : (l : LaneOf) → IsLane l → (rows : List Row) (notes : List Note) → AreAway l notes → part_of_rows l (fold after_note rows notes) ≡ part_of_rows l rows
unseen l i rows [] are = refl
unseen l i rows (Wrote volume grain ∷ notes) are = unseen l i (after_note rows (Wrote volume grain)) notes are.1 ∙ write_unseen l i volume grain are.0 rows
unseen l i rows (note ∷ notes) are = absurd are

written_away : (l : LaneOf) (number : ℕ) → number % l.lanes ≢ l.lane → (write : Option WritePart) → WriteAt l.grain number write → AreAway l (write_notes (single_lane l.grain) write)
written_away l number other None at = tt
written_away l number other (Some part) at = (away_same l (grain_of_block l.grain part.block) number at other, tt)

side_away : (l : LaneOf) (number : ℕ) → number % l.lanes ≢ l.lane → (torn : Torn) (side : Side) → torn.grain.0 ≡ number → AreAway l (side_notes (single_lane l.grain) torn side)
side_away l number other torn Now at = (away_same l torn.grain.0 number at other, tt)
side_away l number other torn Under at = tt

torn_away : (l : LaneOf) (number : ℕ) → number % l.lanes ≢ l.lane → (torn : Option Torn) → TornAt number torn → AreAway l (torn_notes (single_lane l.grain) torn)
torn_away l number other None at = tt
torn_away l number other (Some torn) at = side_away l number other torn torn.side at

pub rows_away : (l : LaneOf) → IsLane l → (number : ℕ) → number % l.lanes ≢ l.lane → (rows : List Row) (write : Option WritePart) (torn : Option Torn) →
    WriteAt l.grain number write → TornAt number torn → part_of_rows l (fold after_note rows (notes_of (single_lane l.grain) write torn)) ≡ part_of_rows l rows
rows_away l i number other rows write torn w t =
    let all : LaneOf = single_lane l.grain in
    unseen l i rows (notes_of all write torn)
    (away_both l (write_notes all write) (torn_notes all torn) (written_away l number other write w) (torn_away l number other torn t))
