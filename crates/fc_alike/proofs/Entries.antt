-- Rows after an entry: a write and a failed write take their grain from each row that names the volume.
use Rattle.std.proofs.Common.{◌≡◌, ◌≢◌, ℕ, Bool, true, false, ◌++◌, Option, Some, None, IsSome, List, [], ◌∷◌, length, get_or, slice_set, map, All, refl, sym, ap, subst, ◌∙◌, ◌⊎◌, inl, inr, length-set, get_or-set_other}
use Rattle.std.proofs.lemmas.Bool.{both_ways, cases_eq, cond_both}
use Rattle.std.proofs.lemmas.List.Elements.{All-weaker, All-map}
use Rattle.fc_base.specs.Sheet.{Slot, Sheet}
use Rattle.fc_base.specs.declared.ids.VolId.{VolId}
use Rattle.fc_base.specs.declared.request.Side.{Side}
use Rattle.fc_base.specs.declared.request.Side.TheVariants.{Now, Under}
use Rattle.fc_base.specs.declared.request.Torn.{Torn}
use Rattle.fc_base.specs.declared.request.WritePart.{WritePart}
use Rattle.fc_changed.specs.Notes.{has}
use Rattle.fc_changed.specs.Row.{Row, row_names, row_wrote}
use Rattle.fc_entry.specs.Picture.{Lost, PlainVolume, Picture, volume_in, changed_at, content_at, now_at, grain_of_block}
use Rattle.fc_entry.specs.declared.entry.Entry.{Entry}
use Rattle.fc_follow.specs.Alike.{IsAlike, AreAlike}
use Rattle.fc_follow.specs.Following.{Followed, write_notes, side_notes, torn_notes, followed_entry}
use Rattle.fc_moves.proofs.Search.{cases_option}
use Rattle.fc_pictures.specs.Law.{now_of}
use Rattle.fc_pictures.proofs.Slots.{Stay, live_stay, grains_stay, entry_stay}
use Rattle.fc_pictures.proofs.Volumes.{id_of, KeepsIds, map_none, at_id, at_id_keeps, changed_here, changed_other}
use Rattle.fc_rules.specs.LaneRight.{done_write}
use Rattle.fc_rules.specs.LaneTold.{LaneOf, place_of, sheet_entry, write_volume, picture_write, tear_volume, picture_tear}
use Rattle.fc_alike.proofs.Rows.{AreDistinct, unnamed, with_same, distinct_map}
use Rattle.fc_alike.proofs.Leaving.{noted, noted_append}

-- ---- chains keep their slots but for what these hold

row_stay : (old new : List Slot) (picture : Picture) (row : Row) → Stay old new → IsAlike old picture row → IsAlike new picture row
row_stay old new picture row s a =
    record {
      apart = a.apart;
      source_there = subst IsSome (sym (live_stay old new s row.source)) a.source_there;
      target_there = subst IsSome (sym (live_stay old new s row.target)) a.target_there;
      source_size = grains_stay old new s row.source ∙ a.source_size;
      target_size = grains_stay old new s row.target ∙ a.target_size;
      alike = a.alike;
    }

-- ---- one grain of one volume

-- What volumes show is as it was, but for one grain of one of them.
abbrev ButFor : Picture → Picture → ℕ → ℕ → Type 0
ButFor picture next v g = (w y : ℕ) → (w ≢ v) ⊎ (y ≢ g) → now_of next w y ≡ now_of picture w y

-- a change of a volume that leaves what it shows at its other grains
abbrev Elsewhere : (PlainVolume → PlainVolume) → ℕ → Type 0
Elsewhere f g = (p : PlainVolume) (y : ℕ) → y ≢ g → content_at (f p).now y ≡ content_at p.now y

changed_but_for : (picture : Picture) (id : VolId) (f : PlainVolume → PlainVolume) (g : ℕ) → KeepsIds f → Elsewhere f g → ButFor picture (changed_at id f picture) id.0 g
changed_but_for picture id f g keeps same w y other =
    elim (cases_option (volume_in picture (id_of w))) [
      | inl none ↦ ap (λ o. now_at o y) (map_none (at_id id f) (at_id_keeps id f keeps) picture (id_of w) none ∙ sym none)
      | inr p ↦ elim (cases_eq w id.0) [
        | inr ne ↦ ap (λ o. now_at o y) (changed_other id f keeps picture (id_of w) p.0 p.1 ne ∙ sym p.1)
        | inl e ↦ elim other [
          | inl ne ↦ absurd (ne e)
          | inr ne ↦ ap (λ o. now_at o y) (changed_here id f keeps picture (id_of w) p.0 p.1 e) ∙ same p.0 y ne ∙ ap (λ o. now_at o y) (sym p.1)
        ]
      ]
    ]

-- a change of what a volume was before leaves what all show
changed_under : (picture : Picture) (id : VolId) (f : PlainVolume → PlainVolume) → KeepsIds f → ((p : PlainVolume) → (f p).now ≡ p.now) → (w y : ℕ) → now_of (changed_at id f picture) w y ≡ now_of picture w y
changed_under picture id f keeps same w y =
    elim (cases_option (volume_in picture (id_of w))) [
      | inl none ↦ ap (λ o. now_at o y) (map_none (at_id id f) (at_id_keeps id f keeps) picture (id_of w) none ∙ sym none)
      | inr p ↦ elim (cases_eq w id.0) [
        | inr ne ↦ ap (λ o. now_at o y) (changed_other id f keeps picture (id_of w) p.0 p.1 ne ∙ sym p.1)
        | inl e ↦ ap (λ o. now_at o y) (changed_here id f keeps picture (id_of w) p.0 p.1 e) ∙ ap (λ z. content_at z y) (same p.0) ∙ ap (λ o. now_at o y) (sym p.1)
      ]
    ]

-- ---- rows

record RowsAlike (slots : List Slot) (picture : Picture) (rows : List Row) : Type 0 where
  each : All (IsAlike slots picture) rows
  distinct : AreDistinct rows

unset : (same : List Bool) (g : ℕ) → get_or (slice_set same g false) g false ≡ false
unset [] g = refl
unset (b ∷ bs) ℕ.zero = refl
unset (b ∷ bs) (ℕ.suc g) = unset bs g

-- a row that keeps its grains but one, where something else changed at that one at most
row_wrote_alike : (slots : List Slot) (picture next : Picture) (v g : ℕ) (row : Row) → ButFor picture next v g → IsAlike slots picture row → IsAlike slots next (row_wrote v g row)
row_wrote_alike slots picture next v g row but a =
    let same : List Bool = slice_set row.same g false in
    let size : length same ≡ length row.same = length-set row.same g false in
    cond_both (row_names row v) (with_same row same) row (IsAlike slots next)
    (λ e. record {
      apart = a.apart;
      source_there = a.source_there;
      target_there = a.target_there;
      source_size = a.source_size ∙ sym size;
      target_size = a.target_size ∙ sym size;
      alike = λ y h.
          let ne : y ≢ g = λ f. both_ways (has same g) (unset row.same g) (subst (λ (z : ℕ). has same z ≡ true) f h) in
          let before : has row.same y ≡ true = sym (get_or-set_other row.same g y false false ne) ∙ h in
          but row.source y (inr ne) ∙ a.alike y before ∙ sym (but row.target y (inr ne));
    })
    (λ e.
    let u = unnamed row v e in
    record {
      apart = a.apart;
      source_there = a.source_there;
      target_there = a.target_there;
      source_size = a.source_size;
      target_size = a.target_size;
      alike = λ y h. but row.source y (inl (λ f. u.0 (sym f))) ∙ a.alike y h ∙ sym (but row.target y (inl (λ f. u.1 (sym f))));
    })

wrote_map : (v g : ℕ) (row : Row) → (row_wrote v g row).map ≡ row.map
wrote_map v g row = cond_both (row_names row v) (with_same row (slice_set row.same g false)) row (λ (z : Row). z.map ≡ row.map) (λ e. refl) (λ e. refl)

wrote_alike : (slots : List Slot) (picture next : Picture) (v g : ℕ) (rows : List Row) → ButFor picture next v g → RowsAlike slots picture rows → RowsAlike slots next (map (row_wrote v g) rows)
wrote_alike slots picture next v g rows but a =
    record {
      each = All-map (IsAlike slots next) (row_wrote v g) rows (All-weaker (IsAlike slots picture) (λ row. IsAlike slots next (row_wrote v g row)) (λ row x. row_wrote_alike slots picture next v g row but x) rows a.each);
      distinct = distinct_map (row_wrote v g) (wrote_map v g) rows a.distinct;
    }

same_now : (slots : List Slot) (picture next : Picture) (rows : List Row) → ((w y : ℕ) → now_of next w y ≡ now_of picture w y) → RowsAlike slots picture rows → RowsAlike slots next rows
same_now slots picture next rows same a =
    record {
      each = All-weaker (IsAlike slots picture) (IsAlike slots next)
          (λ row x. record {
            apart = x.apart;
            source_there = x.source_there;
            target_there = x.target_there;
            source_size = x.source_size;
            target_size = x.target_size;
            alike = λ y h. same row.source y ∙ x.alike y h ∙ sym (same row.target y);
          }) rows a.each;
      distinct = a.distinct;
    }

write_alike : (l : LaneOf) (slots : List Slot) (picture : Picture) (rows : List Row) (write : Option WritePart) → RowsAlike slots picture rows → RowsAlike slots (picture_write l picture write) (noted (write_notes l write) rows)
write_alike l slots picture rows None a = a
write_alike l slots picture rows (Some part) a =
    let g : ℕ = place_of l (grain_of_block l.grain part.block) in
    wrote_alike slots picture (picture_write l picture (Some part)) part.volume.0 g rows
    (changed_but_for picture part.volume (write_volume l part) g (λ p. refl) (λ p y ne. get_or-set_other p.now g y _ Lost ne)) a

side_alike : (l : LaneOf) (slots : List Slot) (picture : Picture) (rows : List Row) (torn : Torn) (side : Side) → RowsAlike slots picture rows →
    RowsAlike slots (changed_at torn.volume (tear_volume side (place_of l torn.grain.0)) picture) (noted (side_notes l torn side) rows)
side_alike l slots picture rows torn Now a =
    let g : ℕ = place_of l torn.grain.0 in
    wrote_alike slots picture (changed_at torn.volume (tear_volume Now g) picture) torn.volume.0 g rows
    (changed_but_for picture torn.volume (tear_volume Now g) g (λ p. refl) (λ p y ne. get_or-set_other p.now g y Lost Lost ne)) a
side_alike l slots picture rows torn Under a =
    let g : ℕ = place_of l torn.grain.0 in
    same_now slots picture (changed_at torn.volume (tear_volume Under g) picture) rows (changed_under picture torn.volume (tear_volume Under g) (λ p. refl) (λ p. refl)) a

tear_alike : (l : LaneOf) (slots : List Slot) (picture : Picture) (rows : List Row) (torn : Option Torn) → RowsAlike slots picture rows → RowsAlike slots (picture_tear l picture torn) (noted (torn_notes l torn) rows)
tear_alike l slots picture rows None a = a
tear_alike l slots picture rows (Some torn) a = side_alike l slots picture rows torn torn.side a

-- ---- the entry

pub entry_alike : (l : LaneOf) (f : Followed) (entry : Entry) → AreAlike f → AreAlike (followed_entry l f entry)
entry_alike l f entry a =
    let write : Option WritePart = done_write entry.request entry.reply in
    let old : List Slot = f.told.sheet.slots in
    let new : Sheet = sheet_entry l f.told.sheet write entry.moves entry.torn in
    let picture : Picture = f.told.picture in
    let wrote : Picture = picture_write l picture write in
    let next : Picture = picture_tear l wrote entry.torn in
    let first : List Row = noted (write_notes l write) f.rows in
    let r : RowsAlike old next (noted (torn_notes l entry.torn) first) =
    tear_alike l old wrote first entry.torn (write_alike l old picture f.rows write (record { each = a.each; distinct = a.distinct })) in
    let all : RowsAlike old next (noted (write_notes l write ++ torn_notes l entry.torn) f.rows) =
    subst (RowsAlike old next) (sym (noted_append (write_notes l write) (torn_notes l entry.torn) f.rows)) r in
    record {
      each = All-weaker (IsAlike old next) (IsAlike new.slots next) (λ row x. row_stay old new.slots next row (entry_stay l f.told.sheet write entry.moves entry.torn).slots x) (noted (write_notes l write ++ torn_notes l entry.torn) f.rows) all.each;
      distinct = all.distinct;
    }
