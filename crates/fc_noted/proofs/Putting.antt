-- A record that an entry under way puts: what metadata says behind it, and what a stop leaves at each moment of it.
use Rattle.std.proofs.Common.{◌≡◌, ℕ, ◌≤◌, Option, Some, None, List, [], ◌∷◌, refl, sym, ap, subst, ◌∙◌, inl, inr, Vec, Global}
use Rattle.fc_base.specs.declared.size.GrainSize.{GrainSize}
use Rattle.fc_changed.specs.Row.{Row}
use Rattle.fc_entry.specs.HistoryState.{HistoryState}
use Rattle.fc_format.specs.Halves.{Found, Image, recovered}
use Rattle.fc_held.specs.Held.{HaveVolumes, MatchAll}
use Rattle.fc_image.specs.Records.{after_record}
use Rattle.fc_image.specs.declared.image.MetaImage.{MetaImage}
use Rattle.fc_image.specs.declared.record.MetaRecord.{MetaRecord}
use Rattle.fc_kept.proofs.Recorded.{recorded}
use Rattle.fc_kept.specs.Images.{kept_in}
use Rattle.fc_kept.specs.Kept.{Kept, kept_after}
use Rattle.fc_kept.specs.Sound.{IsSoundImage}
use Rattle.fc_lane.specs.Lane.{LaneView}
use Rattle.fc_legal.specs.Whole.{Whole}
use Rattle.fc_marks.specs.Marks.{marked}
use Rattle.fc_marks.specs.declared.marks.Mark.{Mark}
use Rattle.fc_meta.proofs.Moments.{weaker}
use Rattle.fc_meta.specs.Answers.{LeavesEither, found_with}
use Rattle.fc_meta.specs.States.{IsResting, found}
use Rattle.fc_meta.specs.declared.meta.Meta.{Meta}
use Rattle.fc_metadisk.specs.Disk.{LeavesOnly}
use Rattle.fc_noted.proofs.Fitting.{IsFit}
use Rattle.fc_noted.proofs.InHand.{doing_counted, stands_recovered}
use Rattle.fc_noted.proofs.Tidying.{ids_with, image_with}
use Rattle.fc_noted.specs.Noted.{CountsSoFar, IsDoing, Keeps}
use Rattle.fc_noted.specs.Stopping.{AreCounted, HasStopped, LeavesRecoverable, MayBeRecovered, MayHold}
use Rattle.fc_noted.specs.declared.noted.Noted.{Noted}
use Rattle.fc_noted.specs.declared.noted.UnderWay.{UnderWay}
use Rattle.fc_script.specs.declared.script.Script.{Script}
use Rattle.fc_stands.specs.Store.{StoreView}
use Rattle.fc_store.specs.Stepping.{lane_in}
use Rattle.law_crash.specs.Doing.{noted}
use Rattle.law_crash.specs.Points.{Point}
use Rattle.law_noted.specs.DataSteps.{IsInHand}

-- ---- the image with it

pub put_says : (image : MetaImage) (k : Kept) (x : MetaRecord) → IsSoundImage image → kept_in image ≡ k → IsFit k x → IsSoundImage (after_record image x) × (kept_in (after_record image x) ≡ kept_after k x)
put_says image k x sound says fit =
    let f : IsFit (kept_in image) x = subst (λ (z : Kept). IsFit z x) (sym says) fit in
    (image_with image x sound f.fits f.sound, recorded image x sound f.fits ∙ ap (λ (z : Kept). kept_after z x) says)

module _ {C D : Type 0} (seen : D → List ℕ) (may_leave : D → List ℕ → Type 0) where
  -- metadata behind it
  pub put_keeps : (grain : GrainSize) (old new : Noted C D) (w : Whole) (due : Option MetaRecord) (q : Point) (x : MetaRecord) → Keeps seen may_leave grain old.meta old w due q → IsFit q.kept x → IsResting seen may_leave new.meta →
      found seen new.meta ≡ found_with (found seen old.meta) (x ∷ []) → new.named ≡ old.named → (kept_after q.kept x).rows ≡ marked new.marks.items w.rows → HaveVolumes new.disks new.store →
      MatchAll grain new.named (kept_after q.kept x) new.store.lanes q.disks → Keeps seen may_leave grain new.meta new w None (noted x q)
  put_keeps grain old new w due q x k fit rests says named rows volumes matches =
      let both = put_says k.image q.kept x k.sound k.kept fit in
      record {
        rests = rests;
        image = after_record k.image x;
        says = says ∙ ap (λ (f : Found). found_with f (x ∷ [])) k.says;
        sound = both.0;
        good = ids_with k.image x k.good;
        kept = both.1;
        rows = rows;
        named = named ∙ k.named;
        volumes = volumes;
        matches = matches;
      }

  -- the entry, where its steps are as they were
  pub put_doing : (old : Noted C D) (way : UnderWay) (history : HistoryState) (w : Whole) (least : List Row) (x : MetaRecord) (meta : Meta D) (calls : ℕ) (marks : Vec Mark Global) (d : IsDoing seen may_leave old way history w least) →
      IsInHand d.begun.control.grain w least way.place way.doing (lane_in d.begun way.place) (lane_in old.store way.place) d.steps d.before None (noted x d.point) →
      let way_new : UnderWay = record { place = way.place; doing = way.doing; due = None } in
      let new : Noted C D = record old { meta = meta; calls = calls; marks = marks; under_way = Some way_new } in
      Keeps seen may_leave d.begun.control.grain meta new w None (noted x d.point) →
      CountsSoFar seen may_leave d.begun.control.grain new way_new history.entries w d.steps d.before.kept.rows (noted x d.point).kept.rows → IsDoing seen may_leave new way_new history w least
  put_doing old way history w least x meta calls marks d h keeps counts =
      record {
        begun = d.begun;
        few = d.few;
        told = d.told;
        inside = d.inside;
        since = d.since;
        fits = d.fits;
        under = d.under;
        number = d.number;
        by_main = d.by_main;
        asked = d.asked;
        steps = d.steps;
        in_volume = d.in_volume;
        steps_are = d.steps_are;
        before = d.before;
        run = d.run;
        point = noted x d.point;
        came = h.came;
        keeps = keeps;
        counts = counts;
      }

-- ---- at each moment

module _ {C D : Type 0} (seen : D → List ℕ) (may_leave : D → List ℕ → Type 0) (moment : D → ℕ) (left_since : D → ℕ → List ℕ → Type 0) (counts_now : (disk : D) (t : ℕ) (c : List ℕ) → t ≤ moment disk → may_leave disk c → left_since disk t c)
    (old new : Noted C D) (w : Whole) (least : List Row) (image : MetaImage) (x : MetaRecord) (says : found seen old.meta ≡ Image image)
    (run : LeavesOnly moment left_since old.meta.disk new.meta.disk (LeavesEither (found seen old.meta) (found_with (found seen old.meta) (x ∷ [])))) where
  -- by that metadata and these lanes
  abbrev Recovers : ℕ → List LaneView → MetaImage → Type 0
  Recovers named lanes i = MayBeRecovered old.store.control.grain old.script named lanes w least i

  with_it : (c : List ℕ) → recovered c ≡ found_with (found seen old.meta) (x ∷ []) → recovered c ≡ Image (after_record image x)
  with_it c e = e ∙ ap (λ (f : Found). found_with f (x ∷ [])) says

  pub put_leaves : ((lanes : List LaneView) → MayHold old.store new.store lanes → Recovers old.named lanes image × Recovers old.named lanes (after_record image x)) →
      LeavesOnly moment left_since old.meta.disk new.meta.disk (LeavesRecoverable old new w least)
  put_leaves holds =
      weaker moment left_since old.meta.disk new.meta.disk (LeavesEither (found seen old.meta) (found_with (found seen old.meta) (x ∷ []))) (LeavesRecoverable old new w least)
      (λ c either. elim either [
        | inl e ↦ (image, e ∙ says, λ lanes may. (holds lanes may).0)
        | inr e ↦ (after_record image x, with_it c e, λ lanes may. (holds lanes may).1)
      ])
      run

  pub put_stops : HaveVolumes new.disks new.store → AreCounted w new.store.lanes → Recovers new.named new.store.lanes image → Recovers new.named new.store.lanes (after_record image x) → HasStopped may_leave old new w least
  put_stops volumes counted without with_record =
      record {
        volumes = volumes;
        counted = counted;
        leaves = λ c left. elim (run.each c (counts_now new.meta.disk (moment old.meta.disk) c run.later left)) [
          | inl e ↦ (image, e ∙ says, without)
          | inr e ↦ (after_record image x, with_it c e, with_record)
        ];
      }

-- where the lanes stay as they were
pub hold_both : (old new : StoreView) (script : Script) (named : ℕ) (w : Whole) (least : List Row) (image : MetaImage) (x : MetaRecord) → new.lanes ≡ old.lanes → MayBeRecovered old.control.grain script named old.lanes w least image →
    MayBeRecovered old.control.grain script named old.lanes w least (after_record image x) → (lanes : List LaneView) → MayHold old new lanes →
    MayBeRecovered old.control.grain script named lanes w least image × MayBeRecovered old.control.grain script named lanes w least (after_record image x)
hold_both old new script named w least image x same without with_record lanes may =
    let Both : List LaneView → Type 0 = λ ls. MayBeRecovered old.control.grain script named ls w least image × MayBeRecovered old.control.grain script named ls w least (after_record image x) in
    elim may [
      | inl e ↦ subst Both (sym e) (without, with_record)
      | inr e ↦ subst Both (sym (e.0 ∙ same)) (without, with_record)
    ]

-- ---- for the entry that is under way

module _ {C D : Type 0} (seen : D → List ℕ) (may_leave : D → List ℕ → Type 0) (n : Noted C D) (way : UnderWay) (history : HistoryState) (w : Whole) (least : List Row) (d : IsDoing seen may_leave (record n { under_way = Some way }) way history w least)
    (x : MetaRecord) (fit : IsFit d.point.kept x)
    (recovers : (image : MetaImage) → IsSoundImage image → kept_in image ≡ kept_after d.point.kept x → MayBeRecovered d.begun.control.grain n.script n.named n.store.lanes w least image) where
  abbrev old : Noted C D
  old = record n { under_way = Some way }

  -- by the size of grains that the store has
  pub by_grain : (lanes : List LaneView) (image : MetaImage) → MayBeRecovered d.begun.control.grain n.script n.named lanes w least image → MayBeRecovered n.store.control.grain n.script n.named lanes w least image
  by_grain lanes image m = subst (λ (g : GrainSize). MayBeRecovered g n.script n.named lanes w least image) (sym (ap (λ (s : StoreView). s.control.grain) d.since)) m

  pub recovers_without : MayBeRecovered n.store.control.grain n.script n.named n.store.lanes w least d.keeps.image
  recovers_without = by_grain n.store.lanes d.keeps.image (stands_recovered seen may_leave old way history w least d)

  pub recovers_with : MayBeRecovered n.store.control.grain n.script n.named n.store.lanes w least (after_record d.keeps.image x)
  recovers_with =
      let both = put_says d.keeps.image d.point.kept x d.keeps.sound d.keeps.kept fit in
      by_grain n.store.lanes (after_record d.keeps.image x) (recovers (after_record d.keeps.image x) both.0 both.1)

  module _ (moment : D → ℕ) (left_since : D → ℕ → List ℕ → Type 0) (counts_now : (disk : D) (t : ℕ) (c : List ℕ) → t ≤ moment disk → may_leave disk c → left_since disk t c) (meta : Meta D) (calls : ℕ) (marks : Vec Mark Global)
      (run : LeavesOnly moment left_since n.meta.disk meta.disk (LeavesEither (found seen n.meta) (found_with (found seen n.meta) (x ∷ [])))) where
    pub way_leaves : (next : Option UnderWay) → LeavesOnly moment left_since n.meta.disk meta.disk (LeavesRecoverable (record n { under_way = Some way }) (record n { meta = meta; calls = calls; marks = marks; under_way = next }) w least)
    way_leaves next =
        put_leaves seen may_leave moment left_since counts_now old (record n { meta = meta; calls = calls; marks = marks; under_way = next }) w least d.keeps.image x d.keeps.says run
        (hold_both n.store n.store n.script n.named w least d.keeps.image x refl recovers_without recovers_with)

    pub way_stopped : HasStopped may_leave (record n { under_way = Some way }) (record n { meta = meta; calls = calls; marks = marks }) w least
    way_stopped =
        put_stops seen may_leave moment left_since counts_now old (record n { meta = meta; calls = calls; marks = marks }) w least d.keeps.image x d.keeps.says run d.keeps.volumes (doing_counted seen may_leave old way history w least d)
        recovers_without recovers_with
