-- What a note does to a lane's part of the rows is the part of what it does to all.
use Rattle.std.proofs.Common.{◌≡◌, ◌≢◌, ℕ, ◌%◌, Bool, true, false, cond, not, ◌&&◌, ◌==◌, Option, Some, None, List, [], ◌∷◌, ◌++◌, length, set, map, find, fold, replicate, option_map, refl, sym, ap, ◌∙◌}
use Rattle.std.specs.List.{list_any}
use Rattle.std.specs.Prelude.{if◌then◌else◌}
use Rattle.std.proofs.lemmas.List.{map-append}
use Rattle.fc_changed.specs.Notes.{Note, joins}
use Rattle.fc_changed.specs.Notes.Note.{Began, Wrote, Left, Cut, Forgotten}
use Rattle.fc_changed.specs.Row.{Row, is_of, row_names, with_all, with_none, row_began, row_wrote, row_left, row_cut, with_new, after_note, row_restart, restart_in}
use Rattle.fc_legal.proofs.Each.{Each}
use Rattle.fc_legal.specs.Whole.{part, part_of_row, part_of_rows}
use Rattle.fc_pick.proofs.Rows.{list_any-map, map-filter}
use Rattle.fc_rules.specs.LaneTold.{LaneOf, place_of, grains_in}
use Rattle.fc_parts.proofs.Lists.{all_seen, none_seen}
use Rattle.fc_parts.proofs.Numbers.{IsLane, IsOf, part_length, part_replicate, part_set, part_set_other}
use Rattle.fc_parts.proofs.Sets.{part_of_both}
use Rattle.fc_parts.proofs.Views.{part_nil}

-- ---- the part of a note

-- Grains are counted by their places in the lane.
abbrev pub note_part : LaneOf → Note → Note
note_part l (Began m source target followed) = Began m source target (option_map (grains_in l) followed)
note_part l (Wrote volume grain) = Wrote volume (place_of l grain)
note_part l (Left target held) = Left target (part l false held)
note_part l (Cut target) = Cut target
note_part l (Forgotten m) = Forgotten m

-- Where a grain was written, it is the lane's.
abbrev pub IsNoteOf : LaneOf → Note → Type 0
IsNoteOf l (Wrote volume grain) = IsOf l grain
IsNoteOf l note = Unit {0}

abbrev pub AreNotesOf : LaneOf → List Note → Type 0
AreNotesOf l notes = Each (IsNoteOf l) notes

-- ---- one row

abbrev with_same : Row → List Bool → Row
with_same row same = record row { same = same }

part_of_all : (l : LaneOf) → IsLane l → (same : List Bool) (bit : Bool) → part l false (replicate (length same) bit) ≡ replicate (length (part l false same)) bit
part_of_all l i same bit = sym (part_replicate l i false (length same) bit) ∙ ap (λ n. replicate n bit) (sym (part_length l false same))

all_part : (l : LaneOf) → IsLane l → (row : Row) → part_of_row l (with_all row) ≡ with_all (part_of_row l row)
all_part l i row = ap (with_same row) (part_of_all l i row.same true)

none_part : (l : LaneOf) → IsLane l → (row : Row) → part_of_row l (with_none row) ≡ with_none (part_of_row l row)
none_part l i row = ap (with_same row) (part_of_all l i row.same false)

part_if : (l : LaneOf) (b : Bool) (x y x' y' : Row) → part_of_row l x ≡ x' → part_of_row l y ≡ y' → part_of_row l (if b then x else y) ≡ (if b then x' else y')
part_if l true x y x' y' e f = e
part_if l false x y x' y' e f = f

began_part : (l : LaneOf) → IsLane l → (source target : ℕ) (row : Row) → part_of_row l (row_began source target row) ≡ row_began source target (part_of_row l row)
began_part l i source target row =
    part_if l (joins row.source row.target source target) _ _ _ _
    (ap (λ (z : Row). record z { into = target }) (all_part l i row))
    (part_if l (row_names row target) _ _ _ _ (none_part l i row) refl)

wrote_part : (l : LaneOf) → IsLane l → (volume grain : ℕ) → IsOf l grain → (row : Row) → part_of_row l (row_wrote volume grain row) ≡ row_wrote volume (place_of l grain) (part_of_row l row)
wrote_part l i volume grain is_of row =
    part_if l (row_names row volume) _ _ _ _ (ap (with_same row) (sym (part_set l i false row.same grain false is_of))) refl

left_part : (l : LaneOf) → IsLane l → (target : ℕ) (held : List Bool) (row : Row) → part_of_row l (row_left target held row) ≡ row_left target (part l false held) (part_of_row l row)
left_part l i target held row =
    part_if l (row_names row target) _ _ _ _ (ap (with_same row) (part_of_both l i row.same held)) refl

cut_part : (l : LaneOf) → IsLane l → (target : ℕ) (row : Row) → part_of_row l (row_cut target row) ≡ row_cut target (part_of_row l row)
cut_part l i target row = part_if l (row_names row target && not (row.into == target)) _ _ _ _ (none_part l i row) refl

-- ---- all rows

new_part : (l : LaneOf) → IsLane l → (m source target : ℕ) (followed : Option ℕ) (rows : List Row) →
    part_of_rows l (with_new m source target followed rows) ≡ with_new m source target (option_map (grains_in l) followed) (part_of_rows l rows)
new_part l i m source target None rows = refl
new_part l i m source target (Some grains) rows =
    by_test (list_any (is_of m) rows)
    ∙ ap (λ b. if b then part_of_rows l rows else (part_of_rows l rows ++ new (replicate (grains_in l grains) true) ∷ [])) (sym (list_any-map (part_of_row l) (is_of m) rows))
  where
    new : List Bool → Row
    new same = record { map = m; source = source; target = target; into = target; same = same }

    by_test : (b : Bool) → part_of_rows l (if b then rows else (rows ++ new (replicate grains true) ∷ []))
        ≡ (if b then part_of_rows l rows else (part_of_rows l rows ++ new (replicate (grains_in l grains) true) ∷ []))
    by_test true = refl
    by_test false =
        map-append (part_of_row l) rows (new (replicate grains true) ∷ [])
        ∙ ap (λ z. part_of_rows l rows ++ new z ∷ []) (sym (part_replicate l i false grains true))

note_parts : (l : LaneOf) → IsLane l → (rows : List Row) (note : Note) → IsNoteOf l note → part_of_rows l (after_note rows note) ≡ after_note (part_of_rows l rows) (note_part l note)
note_parts l i rows (Began m source target followed) of_lane =
    new_part l i m source target followed (map (row_began source target) rows)
    ∙ ap (with_new m source target (option_map (grains_in l) followed)) (all_seen (part_of_row l) (row_began source target) (row_began source target) (began_part l i source target) rows)
note_parts l i rows (Wrote volume grain) of_lane = all_seen (part_of_row l) (row_wrote volume grain) (row_wrote volume (place_of l grain)) (wrote_part l i volume grain of_lane) rows
note_parts l i rows (Left target held) of_lane = all_seen (part_of_row l) (row_left target held) (row_left target (part l false held)) (left_part l i target held) rows
note_parts l i rows (Cut target) of_lane = all_seen (part_of_row l) (row_cut target) (row_cut target) (cut_part l i target) rows
note_parts l i rows (Forgotten m) of_lane = map-filter (part_of_row l) (λ (row : Row). not (is_of m row)) rows

pub all_note_parts : (l : LaneOf) → IsLane l → (rows : List Row) (notes : List Note) → AreNotesOf l notes → part_of_rows l (fold after_note rows notes) ≡ fold after_note (part_of_rows l rows) (map (note_part l) notes)
all_note_parts l i rows [] are = refl
all_note_parts l i rows (note ∷ notes) are =
    all_note_parts l i (after_note rows note) notes are.1
    ∙ ap (λ (z : List Row). fold after_note z (map (note_part l) notes)) (note_parts l i rows note are.0)

-- ---- a write on another lane

unseen_write : (l : LaneOf) → IsLane l → (volume grain : ℕ) → grain % l.lanes ≢ l.lane → (row : Row) → part_of_row l (row_wrote volume grain row) ≡ part_of_row l row
unseen_write l i volume grain other row = by_test (row_names row volume)
  where
    by_test : (b : Bool) → part_of_row l (if b then record row { same = set row.same grain false } else row) ≡ part_of_row l row
    by_test true = ap (with_same row) (sym (part_set_other l i false row.same grain false other))
    by_test false = refl

pub write_unseen : (l : LaneOf) → IsLane l → (volume grain : ℕ) → grain % l.lanes ≢ l.lane → (rows : List Row) → part_of_rows l (map (row_wrote volume grain) rows) ≡ part_of_rows l rows
write_unseen l i volume grain other rows = none_seen (part_of_row l) (row_wrote volume grain) (unseen_write l i volume grain other) rows

-- ---- the row of a mapping

pub find_part : (l : LaneOf) (m : ℕ) (rows : List Row) → find (is_of m) (part_of_rows l rows) ≡ option_map (part_of_row l) (find (is_of m) rows)
find_part l m [] = refl
find_part l m (row ∷ rows) = by_test (is_of m row) _ _ (find_part l m rows)
  where
    by_test : (b : Bool) (o o' : Option Row) → o' ≡ option_map (part_of_row l) o → cond b (Some (part_of_row l row)) o' ≡ option_map (part_of_row l) (cond b (Some row) o)
    by_test true o o' e = refl
    by_test false o o' e = e

restart_of_part : (l : LaneOf) → IsLane l → (o : Option Row) → row_restart (option_map (part_of_row l) o) ≡ part l false (row_restart o)
restart_of_part l i None = sym (part_nil l i false)
restart_of_part l i (Some row) = refl

pub restart_part : (l : LaneOf) → IsLane l → (m : ℕ) (rows : List Row) → restart_in m (part_of_rows l rows) ≡ part l false (restart_in m rows)
restart_part l i m rows = ap row_restart (find_part l m rows) ∙ restart_of_part l i (find (is_of m) rows)
