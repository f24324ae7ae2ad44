-- A step that stopped, and what its failed write tore.
use Rattle.std.proofs.Common.{◌≡◌, ℕ, ◌<◌, false, List, refl, sym, subst}
use Rattle.fc_base.specs.Sheet.{Sheet, slot_at}
use Rattle.fc_base.specs.SheetFacts.{IsSound}
use Rattle.fc_base.specs.SheetStep.{sheet_torn}
use Rattle.fc_base.specs.Tables.{Tables}
use Rattle.fc_base.specs.declared.ids.VolId.{VolId}
use Rattle.fc_base.specs.declared.request.Side.{Side}
use Rattle.fc_base.specs.declared.request.Side.TheVariants.{Now, Under}
use Rattle.fc_base.specs.declared.size.GrainSize.{GrainSize}
use Rattle.fc_changed.specs.Row.{Row}
use Rattle.fc_entry.specs.Picture.{Content, Lost, changed_at}
use Rattle.fc_image.specs.declared.record.MetaRecord.{MetaRecord}
use Rattle.fc_image.specs.declared.record.MetaRecord.TheVariants.{Torn}
use Rattle.fc_legal.specs.Whole.{Whole}
use Rattle.fc_pictures.specs.Law.{LosesSide, StoredAt}
use Rattle.fc_pictures.proofs.Fitting.{move_fits, write_fits}
use Rattle.fc_pictures.proofs.Grains.{torn_move_shown, torn_write_shown}
use Rattle.fc_rules.specs.LaneTold.{tear_volume}
use Rattle.fc_rules.specs.Shows.{Shows}
use Rattle.fc_kept.specs.Disks.{NamedDisk}
use Rattle.fc_kept.specs.Images.{size_in}
use Rattle.fc_kept.specs.Kept.{rows_kept}
use Rattle.fc_kept.specs.Marks.{AreMarked}
use Rattle.fc_kept.specs.Sound.{FitsChains}
use Rattle.law_crash.specs.Points.{Point, stored_by, StandsFor}
use Rattle.law_crash.specs.Doing.{IsWritten, noted, with_disks}
use Rattle.law_crash.proofs.Disks.{says_written}
use Rattle.law_crash.proofs.Found.{chains_sound}
use Rattle.law_crash.proofs.Lost.{stored_lost}
use Rattle.law_crash.proofs.Moving.{CanMoveAt}
use Rattle.law_crash.proofs.Noting.{with_all, says_noted}
use Rattle.law_crash.proofs.Owning.{CanWriteAt}

abbrev pub torn_of : ℕ → ℕ → Side → MetaRecord
torn_of v g side = Torn record { 0 = v } record { 0 = g } side

-- what stands behind the record of a torn grain, with these rows
abbrev pub StandsTorn : GrainSize → Whole → List Row → List Row → Point → List (List NamedDisk) → ℕ → Side → ℕ → Type 0
StandsTorn grain w rows least p disks g side v =
    StandsFor grain (with_all w (sheet_torn v g side w.books.sheet) (changed_at record { 0 = v } (tear_volume side g) w.picture) rows) least (noted (torn_of v g side) (with_disks disks p))

room_kept : (t u : Tables) (v x g : ℕ) → u ≡ t → x ≡ v → (let id : VolId = record { 0 = x } in g < size_in t id) → let id : VolId = record { 0 = v } in g < size_in u id
room_kept t u v x g e q lt = subst (λ (z : Tables). let id : VolId = record { 0 = v } in g < size_in z id) (sym e) (subst (λ (z : ℕ). let id : VolId = record { 0 = z } in g < size_in t id) q lt)

-- ---- a move

pub move_torn : (grain : GrainSize) (w : Whole) (least least' : List Row) (p : Point) (disks : List (List NamedDisk)) (g k v : ℕ) (content : Content) → StandsFor grain w least p →
    CanMoveAt w.books.tables w.books.sheet g k false → (slot_at w.books.sheet.slots k).volume ≡ v → IsWritten grain w v g content p.disks disks → AreMarked p.kept.rows w.rows least' →
    StandsTorn grain w w.rows least' p disks g Under v
move_torn grain w least least' p disks g k v content st can e x marked =
    let s : Sheet = w.books.sheet in
    let sound : IsSound s = chains_sound grain w least p st in
    let q : Point = noted (torn_of v g Under) (with_disks disks p) in
    let fits = move_fits s.slots k g can.safe (sym can.mark) in
    let after : StoredAt (stored_by grain w p) v g Lost (stored_by grain w q) = stored_lost grain w p q v g x.stored.elsewhere refl st.says.sound.lost
    (room_kept w.books.tables p.kept.tables v (slot_at s.slots k).volume g st.says.tables e can.room) in
    record {
      says = says_noted grain w (changed_at record { 0 = v } (tear_volume Under g) w.picture) w.rows least least' disks p.kept (torn_of v g Under) (says_written grain w w least p.kept v g content p.disks disks x st.says)
          (subst (λ (z : ℕ). FitsChains s (torn_of z g Under)) e fits.1) marked;
      shows = subst (λ (z : ℕ). StoredAt (stored_by grain w p) z g Lost (stored_by grain w q) → let id : VolId = record { 0 = z } in Shows (sheet_torn z g Under s).slots (changed_at id (tear_volume Under g) w.picture) (stored_by grain w q)) e
          (λ a. torn_move_shown s w.picture (stored_by grain w p) (stored_by grain w q) k g sound can.safe can.inside (sym can.mark) st.shows a) after;
    }

-- ---- the write itself

side_fits : (s : Sheet) (g t v : ℕ) (side : Side) → CanWriteAt s g t v → LosesSide s.slots g t side → FitsChains s (torn_of (slot_at s.slots t).volume g side)
side_fits s g t v Now can loses = (write_fits s.slots t g can.safe).0
side_fits s g t v Under can loses = (write_fits s.slots t g can.safe).1 loses

pub write_torn : (grain : GrainSize) (w : Whole) (rows least least' : List Row) (p : Point) (disks : List (List NamedDisk)) (g t v : ℕ) (side : Side) (content : Content) → StandsFor grain w least p →
    CanWriteAt w.books.sheet g t v → LosesSide w.books.sheet.slots g t side → (let id : VolId = record { 0 = v } in g < size_in w.books.tables id) → IsWritten grain w v g content p.disks disks →
    AreMarked (rows_kept p.kept.rows (torn_of v g side)) rows least' → StandsTorn grain w rows least' p disks g side v
write_torn grain w rows least least' p disks g t v side content st can loses room x marked =
    let s : Sheet = w.books.sheet in
    let sound : IsSound s = chains_sound grain w least p st in
    let q : Point = noted (torn_of v g side) (with_disks disks p) in
    let after : StoredAt (stored_by grain w p) v g Lost (stored_by grain w q) = stored_lost grain w p q v g x.stored.elsewhere refl st.says.sound.lost (room_kept w.books.tables p.kept.tables v v g st.says.tables refl room) in
    record {
      says = says_noted grain w (changed_at record { 0 = v } (tear_volume side g) w.picture) rows least least' disks p.kept (torn_of v g side) (says_written grain w w least p.kept v g content p.disks disks x st.says)
          (subst (λ (z : ℕ). FitsChains s (torn_of z g side)) can.of_volume (side_fits s g t v side can loses)) marked;
      shows = subst (λ (z : ℕ). StoredAt (stored_by grain w p) z g Lost (stored_by grain w q) → let id : VolId = record { 0 = z } in Shows (sheet_torn z g side s).slots (changed_at id (tear_volume side g) w.picture) (stored_by grain w q)) can.of_volume
          (λ a. torn_write_shown s w.picture (stored_by grain w p) (stored_by grain w q) t g side sound can.there can.is_live can.inside can.safe loses st.shows a) after;
    }
