-- What the lane of all grains is told with its rows, event by event: as without rows, but for what the new slots of a trigger
-- hold.
use Rattle.std.proofs.Common.{◌≡◌, ◌≢◌, ℕ, ◌<◌, ◌^◌, Bool, List, [], ◌∷◌, fold, refl, sym, ap, subst, ◌∙◌, inl, inr}
use Rattle.std.proofs.lemmas.List.Elements.{All-contains}
use Rattle.fc_base.specs.Sheet.{Slot, Sheet}
use Rattle.fc_base.specs.SheetFits.{FitsEvent, FitsEvents}
use Rattle.fc_base.specs.SheetStep.{sheet_step, triggered}
use Rattle.fc_base.specs.Tables.{Tables, volume_with}
use Rattle.fc_base.specs.declared.decision.LaneEvent.{LaneEvent}
use Rattle.fc_base.specs.declared.decision.LaneEvent.TheVariants.{Trigger, Access, Work}
use Rattle.fc_base.specs.declared.size.GrainSize.{GrainSize}
use Rattle.fc_books.specs.After.{sheet_after}
use Rattle.fc_books.specs.Sound.{HasGrains}
use Rattle.fc_changed.specs.Row.{Row}
use Rattle.fc_decided.proofs.Apart.{sheet_through, picture_through}
use Rattle.fc_decided.proofs.Fuller.{AreFuller, all_same}
use Rattle.fc_decided.proofs.Keeping.{AreForgotten, Keeps, StaysAmong}
use Rattle.fc_decided.proofs.Noting.{AreById, Lack, HaveSizes, spared_rows, spared_lack, spared_fits, forgotten_lack, began_rows, pairs_fit, rows_kept}
use Rattle.fc_decided.proofs.Restarting.{triggered_fuller, sheet_after-plain}
use Rattle.fc_decided.proofs.Sparing.{Spares, AreSparing, AreStill, IsStill, Begins, sparing, starting, still_sparing}
use Rattle.fc_entry.specs.Picture.{Picture}
use Rattle.fc_follow.specs.Following.{Followed, told_with, followed_event, restarts}
use Rattle.fc_legal.proofs.Events.{step_alike}
use Rattle.fc_legal.specs.Lawful.{FitAsOne}
use Rattle.fc_legal.specs.Stands.{IsOfMapping, AreRows}
use Rattle.fc_legal.specs.Whole.{single_lane}
use Rattle.fc_rules.specs.LaneTold.{LaneTold, picture_event, told_event}

-- ---- what is told with an event

spared_told : (t : Tables) (grain : GrainSize) (restarts : ℕ → List Bool) (told : LaneTold) (e : LaneEvent) → Spares t e → told_with restarts (single_lane grain) told e ≡ told_event (single_lane grain) told e
spared_told t grain restarts told (Trigger pairs) none = absurd none
spared_told t grain restarts told e none = refl

-- the same told, whatever the rows
pub told_alone : (t : Tables) (grain : GrainSize) (f : Followed) (es : List LaneEvent) → AreSparing t es → (fold (followed_event (single_lane grain)) f es).told ≡ fold (told_event (single_lane grain)) f.told es
told_alone t grain f [] all = refl
told_alone t grain f (e ∷ es) all =
    told_alone t grain (followed_event (single_lane grain) f e) es all.1
    ∙ ap (λ (x : LaneTold). fold (told_event (single_lane grain)) x es) (spared_told t grain (restarts f.rows) f.told e all.0)

spared_sheet : (t : Tables) (grain : GrainSize) (f : Followed) (e : LaneEvent) → Spares t e → (followed_event (single_lane grain) f e).told.sheet ≡ sheet_step (λ grains. grains) f.told.sheet e
spared_sheet t grain f e all = ap (λ (x : LaneTold). x.sheet) (spared_told t grain (restarts f.rows) f.told e all) ∙ step_alike grain f.told.sheet e

-- ---- the chains

pub sheet_led : (t : Tables) (restarts : ℕ → List Bool) (s : Sheet) (es : List LaneEvent) → AreSparing t es → fold (sheet_after restarts) s es ≡ sheet_through s es
sheet_led t restarts s [] all = refl
sheet_led t restarts s (e ∷ es) all =
    ap (λ (x : Sheet). fold (sheet_after restarts) x es) (sheet_after-plain t restarts s e all.0)
    ∙ sheet_led t restarts (sheet_step (λ grains. grains) s e) es all.1

still_sheet : (s : Sheet) (e : LaneEvent) → IsStill e → sheet_step (λ grains. grains) s e ≡ s
still_sheet s (Access volume access) still = refl
still_sheet s (Work m copies cleans) still = refl
still_sheet s e still = absurd still

pub all_still : (s : Sheet) (es : List LaneEvent) → AreStill es → sheet_through s es ≡ s
all_still s [] still = refl
all_still s (e ∷ es) still = ap (λ (x : Sheet). sheet_through x es) (still_sheet s e still.0) ∙ all_still s es still.1

-- They are fuller than where the new slots of a trigger hold nothing.
pub led_fuller : (t : Tables) (restarts : ℕ → List Bool) (s : Sheet) (es : List LaneEvent) → Begins t es → FitsEvents (λ grains. grains) s es → AreFuller (sheet_through s es) (fold (sheet_after restarts) s es)
led_fuller t restarts s es (sparing all) fits = subst (AreFuller (sheet_through s es)) (sym (sheet_led t restarts s es all)) (all_same (sheet_through s es))
led_fuller t restarts s es (starting {pairs} {rest} are still) fits =
    let next = sheet_after restarts s (Trigger pairs) in
    let all = still_sparing t rest still in
    subst (λ (x : Sheet). AreFuller x (fold (sheet_after restarts) s (Trigger pairs ∷ rest))) (sym (all_still (triggered pairs s) rest still))
    (subst (AreFuller (triggered pairs s)) (sym (sheet_led t restarts next rest all ∙ all_still next rest still))
    (triggered_fuller restarts s pairs fits.0))

-- ---- plain volumes

still_picture : (grain : GrainSize) (slots : List Slot) (picture : Picture) (e : LaneEvent) → IsStill e → picture_event (single_lane grain) slots picture e ≡ picture
still_picture grain slots picture (Access volume access) still = refl
still_picture grain slots picture (Work m copies cleans) still = refl
still_picture grain slots picture e still = absurd still

pub all_still_picture : (grain : GrainSize) (s : Sheet) (picture : Picture) (es : List LaneEvent) → AreStill es → picture_through grain s picture es ≡ picture
all_still_picture grain s picture [] still = refl
all_still_picture grain s picture (e ∷ es) still =
    ap (λ (p : Picture). picture_through grain (sheet_step (λ grains. grains) s e) p es) (still_picture grain s.slots picture e still.0)
    ∙ all_still_picture grain (sheet_step (λ grains. grains) s e) picture es still.1

-- ---- the rows

-- What is left of rows after events that trigger nothing.
pub record Led (t : Tables) (rows left : List Row) (es : List LaneEvent) : Type 0 where
  pub are : AreRows t left
  pub lack : (i : ℕ) → Lack i rows → Lack i left
  pub forgotten : (i : ℕ) → AreForgotten i es → Lack i left

rows_led : (t : Tables) (grain : GrainSize) (f : Followed) (es : List LaneEvent) → AreSparing t es → AreRows t f.rows → Led t f.rows (fold (followed_event (single_lane grain)) f es).rows es
rows_led t grain f [] all rows = record { are = rows; lack = λ i l. l; forgotten = λ i none. absurd none }
rows_led t grain f (e ∷ es) all rows =
    let slots = f.told.sheet.slots in
    let next = followed_event (single_lane grain) f e in
    let rest = rows_led t grain next es all.1 (spared_rows t slots f.rows e all.0 rows) in
    record {
      are = rest.are;
      lack = λ i l. rest.lack i (spared_lack t i slots f.rows e all.0 l);
      forgotten = λ i gone. elim gone [ inl here ↦ rest.lack i (forgotten_lack i slots f.rows e here) | inr later ↦ rest.forgotten i later ];
    }

-- and after events that may begin with a trigger
pub record LedFrom (t : Tables) (left : List Row) (es : List LaneEvent) : Type 0 where
  pub are : AreRows t left
  pub forgotten : (i : ℕ) → AreForgotten i es → Lack i left

pub begun_led : (t : Tables) (grain : GrainSize) (f : Followed) (es : List LaneEvent) → Begins t es → HaveSizes t f.told.sheet.slots → AreRows t f.rows → LedFrom t (fold (followed_event (single_lane grain)) f es).rows es
begun_led t grain f es (sparing all) sizes rows = let l = rows_led t grain f es all rows in record { are = l.are; forgotten = l.forgotten }
begun_led t grain f es (starting {pairs} {rest} are still) sizes rows =
    let l = rows_led t grain (followed_event (single_lane grain) f (Trigger pairs)) rest (still_sparing t rest still) (began_rows t f.told.sheet.slots f.rows pairs sizes are rows) in
    record { are = l.are; forgotten = λ i gone. elim gone [ inl here ↦ absurd here | inr later ↦ l.forgotten i later ] }

-- Rows of the tables before are rows of the tables after.
row_kept : (t u : Tables) (es : List LaneEvent) (row : Row) → Keeps t u es → (AreForgotten row.map es → ⊥) → IsOfMapping t row → IsOfMapping u row
row_kept t u es row keeps known i = by (keeps.stay i.mapping i.there)
  where
    by : StaysAmong u.mappings es i.mapping → IsOfMapping u row
    by (inl there) =
        let n = there.0 in
        let same = there.2 in
        record {
          mapping = n;
          there = there.1;
          id_is = same.id ∙ i.id_is;
          source_is = same.source ∙ i.source_is;
          target_is = same.target ∙ i.target_is;
          incremental = same.incremental ∙ i.incremental;
          size = subst (λ (v : ℕ). HasGrains (volume_with u record { 0 = v }) _) (sym same.target) (keeps.as_large i.mapping i.there _ i.size);
        }
    by (inr gone) = absurd (known (subst (λ (n : ℕ). AreForgotten n es) i.id_is gone))

pub led_rows : (t u : Tables) (left : List Row) (es : List LaneEvent) → Keeps t u es → LedFrom t left es → AreRows u left
led_rows t u left es keeps l =
    rows_kept t u left
    (λ row i found. row_kept t u es row keeps (λ gone. All-contains (λ (r : Row). r.map ≢ row.map) left row (l.forgotten row.map gone) found refl) i)
    l.are

-- ---- which events fit

fit_led : (t : Tables) (grain : GrainSize) (f : Followed) (es : List LaneEvent) → AreSparing t es → FitsEvents (λ grains. grains) f.told.sheet es → AreRows t f.rows → FitAsOne grain f es
fit_led t grain f [] all fits rows = fits
fit_led t grain f (e ∷ es) all fits rows = (
  fits.0,
  spared_fits t f.rows e all.0 rows,
  fit_led t grain (followed_event (single_lane grain) f e) es all.1
      (subst (λ (s : Sheet). FitsEvents (λ grains. grains) s es) (sym (spared_sheet t grain f e all.0)) fits.1)
      (spared_rows t f.told.sheet.slots f.rows e all.0 rows),
)

still_fits : (s : Sheet) (es : List LaneEvent) → AreStill es → s.births < 2 ^ 64 → FitsEvents (λ grains. grains) s es
still_fits s [] still few = few
still_fits s (e ∷ es) still few =
    (fits_still s e still.0, subst (λ (x : Sheet). FitsEvents (λ grains. grains) x es) (sym (still_sheet s e still.0)) (still_fits s es still.1 few))
  where
    fits_still : (s : Sheet) (e : LaneEvent) → IsStill e → FitsEvent s e
    fits_still s (Access volume access) still = tt
    fits_still s (Work m copies cleans) still = tt
    fits_still s e still = absurd still

still_few : (s : Sheet) (es : List LaneEvent) → AreStill es → FitsEvents (λ grains. grains) s es → s.births < 2 ^ 64
still_few s [] still fits = fits
still_few s (e ∷ es) still fits = still_few s es still.1 (subst (λ (x : Sheet). FitsEvents (λ grains. grains) x es) (still_sheet s e still.0) fits.1)

pub fit_begun : (t : Tables) (grain : GrainSize) (f : Followed) (es : List LaneEvent) → AreById t.mappings → Begins t es → HaveSizes t f.told.sheet.slots → FitsEvents (λ grains. grains) f.told.sheet es → AreRows t f.rows → FitAsOne grain f es
fit_begun t grain f es ordered (sparing all) sizes fits rows = fit_led t grain f es all fits rows
fit_begun t grain f es ordered (starting {pairs} {rest} are still) sizes fits rows =
    let next = followed_event (single_lane grain) f (Trigger pairs) in
    let fuller = triggered_fuller (restarts f.rows) f.told.sheet pairs fits.0 in
    let few = still_few (triggered pairs f.told.sheet) rest still fits.1 in (
      fits.0,
      pairs_fit t f.rows pairs ordered are rows,
      fit_led t grain next rest (still_sparing t rest still)
          (still_fits next.told.sheet rest still (subst (λ (n : ℕ). n < 2 ^ 64) (sym fuller.births) few))
          (began_rows t f.told.sheet.slots f.rows pairs sizes are rows),
    )
