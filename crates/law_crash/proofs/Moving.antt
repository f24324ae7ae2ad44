-- A move, its data and its record.
use Rattle.std.proofs.Common.{◌≡◌, ℕ, ◌<◌, Bool, true, false, Some, List, length, refl, sym, ap, subst, ◌∙◌}
use Rattle.fc_base.specs.Moves.{is_in_place}
use Rattle.fc_base.specs.Safety.{IsSafeMove}
use Rattle.fc_base.specs.Sheet.{Sheet, slot_at, column}
use Rattle.fc_base.specs.SheetFacts.{IsSound}
use Rattle.fc_base.specs.SheetStep.{sheet_moved}
use Rattle.fc_base.specs.Tables.{Tables}
use Rattle.fc_base.specs.declared.ids.SlotId.{SlotId}
use Rattle.fc_base.specs.declared.ids.VolId.{VolId}
use Rattle.fc_base.specs.declared.size.GrainSize.{GrainSize}
use Rattle.fc_changed.specs.Row.{Row}
use Rattle.fc_entry.specs.Picture.{Content, Lost, Picture}
use Rattle.fc_image.specs.declared.record.MetaRecord.{MetaRecord}
use Rattle.fc_image.specs.declared.record.MetaRecord.TheVariants.{Pair}
use Rattle.fc_legal.specs.Whole.{Whole}
use Rattle.fc_pictures.specs.Law.{StoredAt, StoredMoved, now_of}
use Rattle.fc_pictures.proofs.Fitting.{move_fits, read_is}
use Rattle.fc_pictures.proofs.Grains.{moved_shows}
use Rattle.fc_kept.specs.Disks.{NamedDisk}
use Rattle.fc_kept.specs.Images.{size_in}
use Rattle.fc_kept.specs.Recoverable.{Says}
use Rattle.fc_kept.proofs.Dropping.{drops_sound}
use Rattle.fc_rules.specs.Shows.{Stored, Shows}
use Rattle.law_crash.specs.Points.{Point, stored_by, StandsFor}
use Rattle.law_crash.specs.Doing.{IsWritten, noted, with_disks}
use Rattle.law_crash.proofs.Disks.{says_written}
use Rattle.law_crash.proofs.Found.{chains_sound}
use Rattle.law_crash.proofs.Lost.{stored_whole, stored_lost}
use Rattle.law_crash.proofs.Noting.{with_sheet, says_noted}

-- a move of slot `k` that can be made
pub record CanMoveAt (t : Tables) (s : Sheet) (g k : ℕ) (in_place : Bool) : Type 0 where
  pub safe : IsSafeMove (column s.slots g) k
  pub inside : g < length (slot_at s.slots k).held
  pub mark : in_place ≡ is_in_place (column s.slots g) k
  pub room : g < size_in t record { 0 = (slot_at s.slots k).volume }

abbrev pub pair_of : SlotId → ℕ → ℕ → Bool → Bool → MetaRecord
pair_of slot v g in_place empty = Pair slot record { 0 = v } record { 0 = g } in_place empty

-- what stands behind its record
abbrev pub StandsMoved : GrainSize → Whole → List Row → Point → SlotId → ℕ → Bool → Bool → ℕ → Type 0
StandsMoved grain w least p slot g in_place empty v = StandsFor grain (with_sheet w (sheet_moved v g in_place w.books.sheet)) least (noted (pair_of slot v g in_place empty) p)

-- as what is stored then is right for a move of slot `k`
abbrev StoredFor : GrainSize → Whole → Point → SlotId → ℕ → ℕ → Bool → Bool → Stored → ℕ → Type 0
StoredFor grain w p slot g k in_place empty old v = StoredMoved w.books.sheet.slots old k g in_place (stored_by grain w (noted (pair_of slot v g in_place empty) p))

move_stands : (grain : GrainSize) (w : Whole) (least : List Row) (p : Point) (slot : SlotId) (g k v : ℕ) (in_place empty : Bool) (old : Stored) → Says grain p.disks p.kept w least → Shows w.books.sheet.slots w.picture old →
    CanMoveAt w.books.tables w.books.sheet g k in_place → (slot_at w.books.sheet.slots k).volume ≡ v → StoredFor grain w p slot g k in_place empty old v → StandsMoved grain w least p slot g in_place empty v
move_stands grain w least p slot g k v in_place empty old says shows can e =
    let s : Sheet = w.books.sheet in
    let sound : IsSound s = drops_sound says.slots says.sound.books.sheet in
    subst (λ (z : ℕ). StoredFor grain w p slot g k in_place empty old z → StandsMoved grain w least p slot g in_place empty z) e (λ st. record {
      says = says_noted grain w w.picture w.rows least least p.disks p.kept (pair_of slot (slot_at s.slots k).volume g in_place empty) says
          (λ f. (move_fits s.slots k g can.safe (sym can.mark ∙ f)).0) says.rows;
      shows = moved_shows s w.picture old (stored_by grain w (noted (pair_of slot (slot_at s.slots k).volume g in_place empty) p)) k g in_place sound can.safe can.inside can.mark shows st;
    })

-- ---- in place nothing is written

pub stands_in_place : (grain : GrainSize) (w : Whole) (least : List Row) (p : Point) (slot : SlotId) (g k v : ℕ) (empty : Bool) → StandsFor grain w least p →
    CanMoveAt w.books.tables w.books.sheet g k true → (slot_at w.books.sheet.slots k).volume ≡ v → StandsMoved grain w least p slot g true empty v
stands_in_place grain w least p slot g k v empty st can e =
    move_stands grain w least p slot g k v true empty (stored_by grain w p) st.says st.shows can e (λ x y. refl)

-- ---- out of place the volume gets what it shows

shown_is : (s : Sheet) (picture : Picture) (old after : Stored) (k g : ℕ) (content : Content) → IsSound s → Shows s.slots picture old → IsSafeMove (column s.slots g) k → g < length (slot_at s.slots k).held →
    now_of picture (slot_at s.slots k).volume g ≡ content → StoredAt old (slot_at s.slots k).volume g content after → StoredMoved s.slots old k g false after
shown_is s picture old after k g content sound w safe inside n st h e =
    let r = read_is s picture old k g sound w safe.there safe.is_live inside in
    let q : r.0 ≡ h = some_is r.0 h (sym r.1 ∙ e) in
    subst (λ (z : Content). StoredAt old (slot_at s.slots k).volume g z after) (sym n ∙ (r.2 ∙ ap (λ (z : ℕ). old (slot_at s.slots z).volume g) q)) st
  where
    some_is : (a b : ℕ) → Some a ≡ Some b → a ≡ b
    some_is a b f = cc

-- by another name of the volume
stored_out : (s : Sheet) (picture : Picture) (old after : Stored) (k g v : ℕ) (content : Content) → IsSound s → Shows s.slots picture old → IsSafeMove (column s.slots g) k → g < length (slot_at s.slots k).held →
    (slot_at s.slots k).volume ≡ v → now_of picture v g ≡ content → StoredAt old v g content after → StoredMoved s.slots old k g false after
stored_out s picture old after k g v content sound w safe inside e =
    subst (λ (z : ℕ). now_of picture z g ≡ content → StoredAt old z g content after → StoredMoved s.slots old k g false after) e
    (λ n st. shown_is s picture old after k g content sound w safe inside n st)

-- where that is lost, its record alone
pub stands_empty : (grain : GrainSize) (w : Whole) (least : List Row) (p : Point) (slot : SlotId) (g k v : ℕ) → StandsFor grain w least p →
    CanMoveAt w.books.tables w.books.sheet g k false → (slot_at w.books.sheet.slots k).volume ≡ v → now_of w.picture v g ≡ Lost → StandsMoved grain w least p slot g false true v
stands_empty grain w least p slot g k v st can e lost =
    let s : Sheet = w.books.sheet in
    let sound : IsSound s = chains_sound grain w least p st in
    let q : Point = noted (pair_of slot v g false true) p in
    let room : g < size_in p.kept.tables record { 0 = v } =
    subst (λ (t : Tables). g < size_in t record { 0 = v }) (sym st.says.tables) (subst (λ (z : ℕ). let id : VolId = record { 0 = z } in g < size_in w.books.tables id) e can.room) in
    move_stands grain w least p slot g k v false true (stored_by grain w p) st.says st.shows can e
    (stored_out s w.picture (stored_by grain w p) (stored_by grain w q) k g v Lost sound st.shows can.safe can.inside e lost
    (stored_lost grain w p q v g (λ x y other. refl) refl st.says.sound.lost room))

-- and else its data, and then its record
pub stands_copied : (grain : GrainSize) (w : Whole) (least : List Row) (p : Point) (disks : List (List NamedDisk)) (slot : SlotId) (g k v : ℕ) → StandsFor grain w least p →
    CanMoveAt w.books.tables w.books.sheet g k false → (slot_at w.books.sheet.slots k).volume ≡ v → IsWritten grain w v g (now_of w.picture v g) p.disks disks →
    StandsMoved grain w least (with_disks disks p) slot g false false v
stands_copied grain w least p disks slot g k v st can e x =
    let s : Sheet = w.books.sheet in
    let sound : IsSound s = chains_sound grain w least p st in
    let mid : Point = with_disks disks p in
    let q : Point = noted (pair_of slot v g false false) mid in
    move_stands grain w least mid slot g k v false false (stored_by grain w p) (says_written grain w w least p.kept v g (now_of w.picture v g) p.disks disks x st.says) st.shows can e
    (stored_out s w.picture (stored_by grain w p) (stored_by grain w q) k g v (now_of w.picture v g) sound st.shows can.safe can.inside e refl
    (stored_whole grain w p q v g (now_of w.picture v g) x.stored refl))
