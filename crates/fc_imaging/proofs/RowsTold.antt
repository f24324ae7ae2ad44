-- A row of the image is the row of all grains, as the lanes have it together.
use Rattle.std.proofs.Common.{◌≡◌, ℕ, zero, suc, ◌<◌, Bool, true, not, ◌==◌, if◌then◌else◌, Some, List, [], ◌∷◌, length, map, get_or, replicate, ap, ◌∙◌, arith}
use Rattle.std.specs.List.{range_with_len, sum_by}
use Rattle.fc_changed.specs.Row.{Row}
use Rattle.fc_image.specs.declared.image.MetaChanges.{MetaChanges}
use Rattle.fc_imaging.specs.Bits.{bit_told}
use Rattle.fc_imaging.specs.declared.bits.Bits.TheVariants.{Changed, Kept}
use Rattle.fc_kept.specs.Images.{words_with, changes_told}
use Rattle.fc_lane.specs.Lane.{LaneView}
use Rattle.fc_lane_sheet.specs.LaneSheet.{rows_of}
use Rattle.fc_sums.specs.Parts.{rows_at, row_at, same_at, joined_row}
use Rattle.fc_imaging.proofs.Putting.{changed_bits, kept_bits}

row_here : (rows : List Row) (k : ℕ) (row : Row) → k < length rows → row ≡ get_or rows k row → row ≡ row_at rows k
row_here [] k row lt is = absurd (omega arith)
row_here (r ∷ rows) zero row lt is = is
row_here (r ∷ rows) (suc k) row lt is = row_here rows k row (omega arith) is

abbrev pub made : (id source into : ℕ) (changed kept : List ℕ) → MetaChanges
made id source into changed kept =
    record { map = record { 0 = id }; last_source = Some record { 0 = source }; last_target = Some record { 0 = into }; changed = changed; kept = kept }

-- the volume of a row that the last trigger didn't go into
abbrev other_in : Row → ℕ
other_in row = if row.into == row.target then row.source else row.target

pub row_is_told : (lanes : List LaneView) (rows : List Row) (k grains : ℕ) (row : Row) (id source into : ℕ) (changed kept : List ℕ) →
    rows ≡ rows_at (rows_of lanes) 0 → k < length rows → row ≡ get_or rows k row →
    grains ≡ sum_by (λ (part : List Row). length (row_at part k).same) (rows_of lanes) →
    changed ≡ words_with (map (bit_told lanes (Changed k)) (range_with_len 0 grains)) →
    kept ≡ words_with (map (bit_told lanes Kept) (range_with_len 0 grains)) →
    id ≡ row.map → source ≡ other_in row → into ≡ row.into →
    made id source into changed kept ≡ changes_told (joined_row (rows_of lanes) k)
row_is_told lanes rows k grains row id source into changed kept first there is size changed_is kept_is id_is source_is into_is =
    let same : ℕ → Bool = same_at (rows_of lanes) k in
    let own : row ≡ row_at (rows_at (rows_of lanes) 0) k = row_here rows k row there is ∙ ap (λ (xs : List Row). row_at xs k) first in
    let c : changed ≡ words_with (map not (map same (range_with_len 0 (sum_by (λ (part : List Row). length (row_at part k).same) (rows_of lanes))))) =
    changed_is ∙ ap words_with (changed_bits same 0 grains ∙ ap (λ (n : ℕ). map not (map same (range_with_len 0 n))) size) in
    let h : kept ≡ words_with (replicate (length (map same (range_with_len 0 (sum_by (λ (part : List Row). length (row_at part k).same) (rows_of lanes))))) true) =
    kept_is ∙ ap words_with (kept_bits same grains ∙ ap (λ (n : ℕ). replicate (length (map same (range_with_len 0 n))) true) size) in
    let m = id_is ∙ ap (λ (r : Row). r.map) own in
    let s = source_is ∙ ap other_in own in
    let t = into_is ∙ ap (λ (r : Row). r.into) own in
    λ i. made (m i) (s i) (t i) (c i) (h i)
