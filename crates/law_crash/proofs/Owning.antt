-- The write itself: first its mark, then its data, and then its record.
use Rattle.std.proofs.Common.{◌≡◌, ℕ, zero, suc, ◌<◌, Bool, true, false, cond, ◌&&◌, List, [], ◌∷◌, length, get_or, set, map, refl, sym, ap, subst, ◌∙◌}
use Rattle.std.specs.List.{list_any}
use Rattle.std.proofs.lemmas.Bool.{both_ways}
use Rattle.std.proofs.lemmas.List.Elements.{All-map}
use Rattle.fc_base.specs.Safety.{IsSafeWrite}
use Rattle.fc_base.specs.Sheet.{Sheet, slot_at, column}
use Rattle.fc_base.specs.SheetFacts.{IsSound}
use Rattle.fc_base.specs.SheetStep.{sheet_written}
use Rattle.fc_base.specs.declared.size.GrainSize.{GrainSize}
use Rattle.fc_changed.specs.Notes.{has}
use Rattle.fc_changed.specs.Notes.Note.{Wrote}
use Rattle.fc_changed.specs.Row.{Row, row_names, row_wrote, after_note}
use Rattle.fc_decided.proofs.Lists.{all_from, any_in}
use Rattle.fc_entry.specs.Picture.{Content, changed_at}
use Rattle.fc_image.specs.declared.record.MetaRecord.{MetaRecord}
use Rattle.fc_image.specs.declared.record.MetaRecord.TheVariants.{Written, Changing}
use Rattle.fc_legal.specs.Whole.{Whole}
use Rattle.fc_pictures.specs.Law.{changed_now, now_of}
use Rattle.fc_pictures.proofs.Fitting.{write_fits}
use Rattle.fc_pictures.proofs.Grains.{written_shows}
use Rattle.fc_kept.specs.Actions.{is_unmarked}
use Rattle.fc_kept.specs.Disks.{NamedDisk}
use Rattle.fc_kept.specs.Marks.{AreMarked}
use Rattle.fc_kept.specs.OneGrain.{Another, IsChangedIn}
use Rattle.fc_kept.proofs.Marking.{mark_law}
use Rattle.law_crash.specs.Points.{Point, stored_by, StandsFor}
use Rattle.law_crash.specs.Doing.{IsWritten, noted, with_disks}
use Rattle.law_crash.proofs.Disks.{says_written}
use Rattle.law_crash.proofs.Found.{chains_sound, CanChange}
use Rattle.law_crash.proofs.Lost.{stored_whole}
use Rattle.law_crash.proofs.Noting.{with_all, says_noted}

-- a write to the volume of slot `t` that can be made
pub record CanWriteAt (s : Sheet) (g t v : ℕ) : Type 0 where
  pub there : t < length s.slots
  pub is_live : (slot_at s.slots t).is_live ≡ true
  pub inside : g < length (slot_at s.slots t).held
  pub safe : IsSafeWrite (column s.slots g) t
  pub of_volume : (slot_at s.slots t).volume ≡ v

abbrev pub changing_of : ℕ → ℕ → MetaRecord
changing_of v g = Changing record { 0 = v } record { 0 = g }

abbrev pub written_of : ℕ → ℕ → MetaRecord
written_of v g = Written record { 0 = v } record { 0 = g }

-- ---- the mark

pub marked_stands : (grain : GrainSize) (w : Whole) (least : List Row) (p : Point) (v g : ℕ) → AreMarked p.kept.rows w.rows least → StandsFor grain w (after_note least (Wrote v g)) p →
    StandsFor grain w (after_note least (Wrote v g)) (noted (changing_of v g) p)
marked_stands grain w least p v g marked st =
    record {
      says = says_noted grain w w.picture w.rows (after_note least (Wrote v g)) (after_note least (Wrote v g)) p.disks p.kept (changing_of v g) st.says tt (mark_law.begun p.kept.rows w.rows least v g marked);
      shows = st.shows;
    }

-- after it the grain counts as changed in all rows that name the volume
cleared : (xs : List Bool) (g : ℕ) → has (set xs g false) g ≡ false
cleared [] g = refl
cleared (x ∷ xs) zero = refl
cleared (x ∷ xs) (suc g) = cleared xs g

row_changed : (v g : ℕ) (row : Row) (b : Bool) → row_names row v ≡ b → row_names (row_wrote v g row) v ≡ true → has (row_wrote v g row).same g ≡ false
row_changed v g row true e named = ap (λ (z : Bool). has (cond z (record row { same = set row.same g false }) row).same g) e ∙ cleared row.same g
row_changed v g row false e named =
    absurd (both_ways (row_names row v) e (sym (ap (λ (z : Bool). row_names (cond z (record row { same = set row.same g false }) row) v) e) ∙ named))

pub all_changed : (content : Content) (v g : ℕ) (rows : List Row) → let a : Another = record { volume = v; grain = g; content = content } in IsChangedIn a (map (row_wrote v g) rows)
all_changed content v g rows =
    All-map (λ (row : Row). row_names row v ≡ true → has row.same g ≡ false) (row_wrote v g) rows (λ k d kl. let row = get_or rows k d in row_changed v g row (row_names row v) refl)

-- where it isn't due it does so already
unmarked_row : (named same : Bool) → (named && same) ≡ false → named ≡ true → same ≡ false
unmarked_row true same e n = e
unmarked_row false same e n = absurd cc

pub changed_before : (content : Content) (v g : ℕ) (rows : List Row) → list_any (is_unmarked v g) rows ≡ false → let a : Another = record { volume = v; grain = g; content = content } in IsChangedIn a rows
changed_before content v g rows none =
    all_from (λ (row : Row). row_names row v ≡ true → has row.same g ≡ false) rows (λ row c. unmarked_row (row_names row v) (has row.same g) (any_in (is_unmarked v g) rows row none c))

-- ---- the data

pub own_change : (s : Sheet) (g t v : ℕ) (rows : List Row) → CanWriteAt s g t v → ((content : Content) → let a : Another = record { volume = v; grain = g; content = content } in IsChangedIn a rows) → CanChange s.slots v g t rows
own_change s g t v rows can changed =
    record { there = can.there; is_live = can.is_live; free = can.safe.free; of_volume = can.of_volume; marked = λ content own. changed content }

-- ---- the record

-- a volume by another name
abbrev WrittenAs : GrainSize → Whole → List Row → List Row → Point → ℕ → (Content → Content) → List (List NamedDisk) → ℕ → Type 0
WrittenAs grain w rows least p g change disks v =
    IsWritten grain w v g (change (now_of w.picture v g)) p.disks disks → AreMarked (after_note p.kept.rows (Wrote v g)) rows least →
    StandsFor grain (with_all w (sheet_written v g w.books.sheet) (changed_at record { 0 = v } (changed_now g change) w.picture) rows) least (noted (written_of v g) (with_disks disks p))

pub written_stands : (grain : GrainSize) (w : Whole) (rows least least' : List Row) (p : Point) (g t v : ℕ) (change : Content → Content) (disks : List (List NamedDisk)) → StandsFor grain w least p →
    CanWriteAt w.books.sheet g t v → WrittenAs grain w rows least' p g change disks v
written_stands grain w rows least least' p g t v change disks st can =
    let s : Sheet = w.books.sheet in
    let sound : IsSound s = chains_sound grain w least p st in
    let mid : Point = with_disks disks p in
    subst (WrittenAs grain w rows least' p g change disks) can.of_volume (λ x marked.
    let u : ℕ = (slot_at s.slots t).volume in
    let content : Content = change (now_of w.picture u g) in
    record {
      says = says_noted grain w (changed_at record { 0 = u } (changed_now g change) w.picture) rows least least' disks p.kept (written_of u g) (says_written grain w w least p.kept u g content p.disks disks x st.says)
          (write_fits s.slots t g can.safe).0 marked;
      shows = written_shows s w.picture (stored_by grain w p) (stored_by grain w (noted (written_of u g) mid)) t g change sound can.there can.is_live can.inside can.safe st.shows
          (stored_whole grain w p (noted (written_of u g) mid) u g content x.stored refl);
    })
