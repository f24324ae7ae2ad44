-- Grains that are marked as the same and held, one by one.
use Rattle.std.proofs.Common.{◌≡◌, ℕ, ◌+◌, ◌<◌, ◌≤◌, Bool, false, ◌&&◌, List, ◌++◌, take, drop, set, get_or, length, sym, ap, ◌∙◌, arith}
use Rattle.std.proofs.lemmas.List.FromFn.{length-map-range_with_len, get_or-map-range_with_len}
use Rattle.fc_changed.specs.Notes.{has}
use Rattle.fc_check_rows.specs.Marks.{same_and_held}
use Rattle.model_slots.proofs.Marks.{mark_more, mark_to_come, marks_done}

length_kept : (same held : List Bool) → length (same_and_held same held) ≡ length same
length_kept same held = length-map-range_with_len (λ g. has same g && has held g) 0 (length same)

kept_at : (same held : List Bool) (i : ℕ) → i < length same → get_or (same_and_held same held) i false ≡ (has same i && has held i)
kept_at same held i lt = get_or-map-range_with_len (λ g. has same g && has held g) 0 (length same) i i false lt (omega arith)

pub keep_more : (same held now : List Bool) (i : ℕ) (m : Bool) → i < length same → now ≡ take i (same_and_held same held) ++ drop i same → m ≡ (has now i && has held i) →
    set now i m ≡ take (i + 1) (same_and_held same held) ++ drop (i + 1) same
keep_more same held now i m lt is q =
    mark_more (same_and_held same held) same now i m lt (length_kept same held) is
    (q ∙ (ap (λ a. a && has held i) (ap (λ z. get_or z i false) is ∙ mark_to_come (same_and_held same held) same i lt (length_kept same held)) ∙ sym (kept_at same held i lt)))

pub keep_done : (same held now : List Bool) (i : ℕ) → length same ≤ i → now ≡ take i (same_and_held same held) ++ drop i same → now ≡ same_and_held same held
keep_done same held now i le is = marks_done (same_and_held same held) same now i le (length_kept same held) is
