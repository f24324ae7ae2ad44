-- A record that fits is put into metadata.
use Rattle.std.proofs.Common.{◌≡◌, ℕ, ◌%◌, cond, List, length, sym, subst, ◌∙◌}
use Rattle.fc_base.specs.Room.{Room}
use Rattle.fc_base.specs.Sheet.{Sheet}
use Rattle.fc_base.specs.SheetFacts.{IsSound}
use Rattle.fc_base.specs.declared.size.GrainSize.{GrainSize}
use Rattle.fc_changed.specs.Row.{Row}
use Rattle.fc_entry.specs.Picture.{Content, Lost, Picture}
use Rattle.fc_image.specs.declared.record.MetaRecord.{MetaRecord}
use Rattle.fc_legal.specs.Whole.{Whole, lanes}
use Rattle.fc_rules.specs.LaneTold.{LaneOf, place_of}
use Rattle.fc_rules.specs.Shows.{Stored, Shows}
use Rattle.fc_kept.specs.Disks.{NamedDisk, FitDisks, disk_of, on_disk}
use Rattle.fc_kept.specs.Kept.{Kept, is_lost_in, sheet_kept, rows_kept, kept_after}
use Rattle.fc_kept.specs.Marks.{AreMarked}
use Rattle.fc_kept.specs.Recoverable.{Says, disks_at}
use Rattle.fc_kept.specs.Sound.{FitsChains}
use Rattle.fc_kept.proofs.Lawful.{kept_law_holds}
use Rattle.law_crash.specs.Points.{Point, StandsFor}
use Rattle.law_crash.specs.Doing.{IsWritten}

-- what is told, with these chains, plain volumes and rows
abbrev pub with_all : Whole → Sheet → Picture → List Row → Whole
with_all w s picture rows = record w { books = record w.books { sheet = s }; picture = picture; rows = rows }

abbrev pub with_sheet : Whole → Sheet → Whole
with_sheet w s = with_all w s w.picture w.rows

-- the same disks are written
pub written_sheet : (grain : GrainSize) (w : Whole) (s : Sheet) (v g : ℕ) (content : Content) (old new : List (List NamedDisk)) → IsWritten grain w v g content old new → IsWritten grain (with_sheet w s) v g content old new
written_sheet grain w s v g content old new x = record { count = x.count; same = x.same; stored = x.stored }

pub says_noted : (grain : GrainSize) (w : Whole) (picture : Picture) (rows least least' : List Row) (disks : List (List NamedDisk)) (k : Kept) (r : MetaRecord) → Says grain disks k w least → FitsChains w.books.sheet r →
    AreMarked (rows_kept k.rows r) rows least' → Says grain disks (kept_after k r) (with_all w (sheet_kept w.books.sheet r) picture rows) least'
says_noted grain w picture rows least least' disks k r s fits marked =
    let d = kept_law_holds.drops in
    let chains : IsSound k.sheet = s.sound.books.sheet in
    let fits_kept : FitsChains k.sheet r = d.fits k.sheet w.books.sheet r s.slots fits in
    record {
      sound = kept_law_holds.images.sound k r s.sound fits_kept;
      tables = s.tables;
      next_volume = s.next_volume;
      next_mapping = s.next_mapping;
      next_group = s.next_group;
      slots = d.stays k.sheet w.books.sheet r chains s.slots fits;
      rows = marked;
      count = s.count;
      fit = s.fit;
    }

-- ---- what doesn't count of what is told

fit_lanes : (grain : GrainSize) (disks : List (List NamedDisk)) (k : Kept) (n m i : ℕ) → m ≡ n →
    (let l : LaneOf = record { lane = i; lanes = n; grain = grain } in FitDisks l (disks_at disks i) k.tables) → let l : LaneOf = record { lane = i; lanes = m; grain = grain } in FitDisks l (disks_at disks i) k.tables
fit_lanes grain disks k n m i e f = subst (λ (z : ℕ). let l : LaneOf = record { lane = i; lanes = z; grain = grain } in FitDisks l (disks_at disks i) k.tables) (sym e) f

abbrev stored_lanes : GrainSize → ℕ → Point → Stored
stored_lanes grain n p v g =
    let l : LaneOf = record { lane = g % n; lanes = n; grain = grain } in
    cond (is_lost_in p.kept.lost v g) Lost (on_disk l (disk_of (disks_at p.disks (g % n)) v) (place_of l g))

-- which grains occupy memory, the faults, the calls and the number of entries
abbrev counted : Whole → List Room → (faults calls : List ℕ) → (entries : ℕ) → Whole
counted w rooms faults calls entries = record w { books = record w.books { rooms = rooms }; faults = faults; calls = calls; entries = entries }

pub stands_counted : (grain : GrainSize) (w : Whole) (least : List Row) (p : Point) (rooms : List Room) (faults calls : List ℕ) (entries : ℕ) → length faults ≡ lanes w → StandsFor grain w least p →
    StandsFor grain (counted w rooms faults calls entries) least p
stands_counted grain w least p rooms faults calls entries e st =
    let s = st.says in
    record {
      says = record {
        sound = s.sound;
        tables = s.tables;
        next_volume = s.next_volume;
        next_mapping = s.next_mapping;
        next_group = s.next_group;
        slots = s.slots;
        rows = s.rows;
        count = s.count ∙ sym e;
        fit = λ i il. fit_lanes grain p.disks p.kept (lanes w) (length faults) i e (s.fit i il);
      };
      shows = subst (λ (n : ℕ). Shows w.books.sheet.slots w.picture (stored_lanes grain n p)) (sym e) st.shows;
    }
