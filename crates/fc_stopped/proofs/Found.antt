-- What is found after a stop: it may be read, and its text is that of what may be recovered.
use Rattle.std.proofs.Common.{◌≡◌, ◌⊎◌, ℕ, ◌%◌, ◌==◌, Bool, true, false, List, [], inl, inr, length, refl, sym, ap, subst, ◌∙◌, Option, None, if◌then◌else◌}
use Rattle.std.proofs.lemmas.List.{append-nil}
use Rattle.fc_base.specs.declared.limits.TheConstants.{LANES}
use Rattle.fc_base.specs.declared.request.Request.{Request}
use Rattle.fc_base.specs.declared.size.GrainSize.TheVariants.{K64}
use Rattle.fc_base.specs.declared.volume.Volume.{Volume}
use Rattle.fc_call.specs.Call.{Call}
use Rattle.fc_changed.specs.Row.{Row}
use Rattle.fc_format.specs.Halves.{Found, Image, NoImage, recovered}
use Rattle.fc_held.specs.Held.{HoldAllOf}
use Rattle.fc_image.specs.declared.image.MetaImage.{MetaImage}
use Rattle.fc_kept.specs.Disks.{NamedDisk}
use Rattle.fc_kept.specs.Images.{kept_in}
use Rattle.fc_kept.specs.Kept.{Kept}
use Rattle.fc_kept.specs.Recoverable.{Recoverable, disks_at}
use Rattle.fc_kept.specs.Sound.{IsSoundImage}
use Rattle.fc_lanes.specs.Dealing.{pools_dealt}
use Rattle.fc_legal.specs.Agenda.{Agenda}
use Rattle.fc_legal.specs.Whole.{Whole}
use Rattle.fc_marks.specs.declared.error.NotedStop.{NotedStop}
use Rattle.fc_marks.specs.declared.error.NotedStop.TheVariants.{LogFull}
use Rattle.fc_mdisk.specs.Disk.{DiskState}
use Rattle.fc_metadisk.specs.Stop.{StopLeaves, StopState, found_after}
use Rattle.fc_noted.proofs.Safe.{as_it_was}
use Rattle.fc_noted.specs.Stopping.{IsAskedSoon, Leaves, LeavesFirst, MoreFailed}
use Rattle.fc_noted.specs.declared.noted.Noted.{Noted}
use Rattle.fc_owner.specs.FirstTold.{first_told}
use Rattle.fc_recovered.specs.Readying.{readied}
use Rattle.fc_recovered.specs.Recovered.{CanRecover}
use Rattle.fc_recovered.specs.Showing.{lane_over}
use Rattle.fc_recovery_text.proofs.Fronts.{image_front}
use Rattle.fc_recovery_text.specs.Recovering.{AreRead, AreRead.all, IsFirstFront, IsFirstText, IsFoundGood, IsImageText, IsStateFront, IsStateText}
use Rattle.fc_recovery_text.specs.Text.{lines_text, rows_in}
use Rattle.law_crash.proofs.Whole.{crash_law_holds}
use Rattle.law_crash.specs.Points.{Point, nothing_kept}
use Rattle.law_noted.proofs.OldOrNew.{safe_by}
use Rattle.law_noted.specs.One.{IsSafe}
use Rattle.fc_stopped.proofs.Counted.{disks_failed_more}
use Rattle.fc_stopped.proofs.Lanes.{can_recover}
use Rattle.fc_stopped.specs.Ending.{IsUnopened, all_disks, over_disks}
use Rattle.fc_stopped.specs.Lines.{HasLanes}
use Rattle.fc_stopped.specs.Stopped.{DisksFailedMore, IsLeftFront, IsState}

-- ---- the disk of metadata

either : (odd : Bool) (x y : List ℕ) → ((if odd then x else y) ≡ x) ⊎ ((if odd then x else y) ≡ y)
either true x y = inl refl
either false x y = inr refl

-- What is found is what a crash leaves.
pub found_leaves : (d : StopState) → StopLeaves d (found_after d)
found_leaves d = either ((d.stop % 2) == 1) d.bytes d.synced

same_image : (f : Found) (image other : MetaImage) → f ≡ Image image → f ≡ Image other → image ≡ other
same_image f image other is also =
    let same : Image image ≡ Image other = sym is ∙ also in
    cc same

-- ---- what may be recovered

module _ {C : Type 0} (n : Noted C StopState) (last : Whole) (left : Agenda) (old : List DiskState) (leaves : Leaves K64 StopLeaves n last left) where
  pub found_good : IsFoundGood (recovered (found_after n.meta.disk))
  found_good =
      let l = leaves.found (found_after n.meta.disk) (found_leaves n.meta.disk) in
      subst IsFoundGood (sym l.1) tt

  pub found_can : (back : List (List NamedDisk)) (image : MetaImage) → HasLanes (over_disks old) n.store.lanes → HoldAllOf n.named n.store.lanes back → recovered (found_after n.meta.disk) ≡ Image image →
      CanRecover K64 image back
  found_can back image has hold is =
      let l = leaves.found (found_after n.meta.disk) (found_leaves n.meta.disk) in
      let r = l.3 back hold in
      subst (λ (i : MetaImage). CanRecover K64 i back) (same_image (recovered (found_after n.meta.disk)) l.0 image l.1 is)
      (can_recover (over_disks old) n.named n.store.lanes l.0 back last r.0 r.1 r.3.one has hold l.2 r.3.recoverable)

  -- It is an image, safe with the disks that came back.
  found_safe : (back : List (List NamedDisk)) → HoldAllOf n.named n.store.lanes back →
      (image : MetaImage) × (least : List Row) × (asked : Option Request) × (recovered (found_after n.meta.disk) ≡ Image image) × IsAskedSoon K64 last left asked
      × IsSafe K64 back (kept_in image) last least asked (DisksFailedMore last (all_disks back))
  found_safe back hold =
      let l = leaves.found (found_after n.meta.disk) (found_leaves n.meta.disk) in
      let r = l.3 back hold in
      let more = disks_failed_more n.named n.store.lanes back last hold leaves.counted in
      (l.0, r.0, r.1, l.1, r.2, safe_by K64 back (kept_in l.0) last r.0 r.1 (MoreFailed last n.store.lanes) (DisksFailedMore last (all_disks back)) more r.3)

  pub found_state : (call : Call) (back behind : List (List NamedDisk)) (text : List ℕ) → HoldAllOf n.named n.store.lanes back →
      IsStateText K64 (recovered (found_after n.meta.disk)) back text behind → call.disks' ≡ all_disks behind → IsState call last left text
  found_state call back behind text hold is came =
      let s = found_safe back hold in
      IsState.first s.0 back text behind s.1 s.2 s.4 s.5 (subst (λ (f : Found). IsStateText K64 f back text behind) s.3 is) came

  -- and what was put of it, where the sink failed or memory was wanted
  pub found_front : (call : Call) (back behind : List (List NamedDisk)) (text : List ℕ) → HoldAllOf n.named n.store.lanes back →
      IsStateFront K64 (recovered (found_after n.meta.disk)) back text behind → call.disks' ≡ all_disks behind → IsLeftFront call last left text
  found_front call back behind text hold is came =
      let s = found_safe back hold in
      IsLeftFront.first s.0 back text behind s.1 s.2 s.4 s.5 (subst (λ (f : Found). IsStateFront K64 f back text behind) s.3 is) came

-- ---- before the first image stands

without_volumes : (image : MetaImage) → kept_in image ≡ nothing_kept → image.volumes ≡ []
without_volumes image is = ap (λ (k : Kept). k.tables.volumes) is

pub unopened : (bytes : List ℕ) (stop : NotedStop) → (stop ≡ LogFull → ⊥) → LeavesFirst bytes → IsUnopened bytes stop
unopened bytes stop not_full leaves = record { not_full = not_full; found = found leaves }
  where
    found : LeavesFirst bytes → (recovered bytes ≡ NoImage) ⊎ ((image : MetaImage) × (recovered bytes ≡ Image image) × IsSoundImage image × (image.volumes ≡ []))
    found (inl none) = inl none
    found (inr some) = inr (some.0, some.1, some.2, without_volumes some.0 some.3)

pub unopened_good : (bytes : List ℕ) (stop : NotedStop) → IsUnopened bytes stop → IsFoundGood (recovered bytes)
unopened_good bytes stop un = good un.found
  where
    good : (recovered bytes ≡ NoImage) ⊎ ((image : MetaImage) × (recovered bytes ≡ Image image) × IsSoundImage image × (image.volumes ≡ [])) → IsFoundGood (recovered bytes)
    good (inl none) = subst IsFoundGood (sym none) tt
    good (inr some) = subst IsFoundGood (sym some.1) tt

pub unopened_bare : (bytes : List ℕ) (stop : NotedStop) → IsUnopened bytes stop → (image : MetaImage) → recovered bytes ≡ Image image → IsSoundImage image × (image.volumes ≡ [])
unopened_bare bytes stop un image is = bare un.found
  where
    bare : (recovered bytes ≡ NoImage) ⊎ ((image : MetaImage) × (recovered bytes ≡ Image image) × IsSoundImage image × (image.volumes ≡ [])) → IsSoundImage image × (image.volumes ≡ [])
    bare (inl none) =
        let same : Image image ≡ NoImage = sym is ∙ none in
        absurd (cc same)
    bare (inr some) = subst (λ (i : MetaImage). IsSoundImage i × (i.volumes ≡ [])) (same_image (recovered bytes) some.0 image some.1 is) (some.2, some.3)

nothing_read : (image : MetaImage) (disks : List (List NamedDisk)) (text : List ℕ) → image.volumes ≡ [] → text ≡ lines_text (rows_in K64 image) → IsImageText K64 image disks text disks
nothing_read image disks text none is =
    record {
      ready = disks;
      are_ready = record {
        count = refl;
        each = λ i il. sym (ap (λ (vs : List Volume). readied (lane_over K64 disks i) vs (disks_at disks i)) none);
      };
      reads = [];
      read = subst (λ (vs : List Volume). AreRead K64 image vs disks [] disks) (sym none) (all disks);
      text_is = is ∙ sym (append-nil (lines_text (rows_in K64 image)));
    }

-- Of what was put whole a front was put.
whole_left : (call : Call) (last : Whole) (left : Agenda) (text : List ℕ) → IsState call last left text → IsLeftFront call last left text
whole_left call last left text (IsState.none no_entry) = IsLeftFront.none no_entry
whole_left call last left text (IsState.first image disks same behind least asked soon safe is back) =
    IsLeftFront.first image disks text behind least asked soon safe (image_front K64 image disks text behind is) back

-- The text of no image, or of one that says nothing: no disk was read.
module _ (call : Call) (left : Agenda) (bytes text : List ℕ) (lanes : List (List NamedDisk)) (many : length lanes ≡ length (pools_dealt LANES call.disks)) (came : call.disks' ≡ all_disks lanes) where
  abbrev told : Whole
  told = first_told call.disks

  pub first_state : call.history.entries ≡ [] → LeavesFirst bytes → IsFirstText K64 (recovered bytes) text → IsState call told left text
  first_state no_entry leaves first = state leaves
    where
      state : LeavesFirst bytes → IsState call told left text
      state (inl none) =
          let is = subst (λ (f : Found). IsFirstText K64 f text) none first in
          subst (λ (t : List ℕ). IsState call told left t) (sym is) (IsState.none no_entry)
      state (inr some) =
          let point : Point = record { kept = nothing_kept; disks = lanes } in
          let here : Recoverable K64 lanes nothing_kept told [] None None =
          crash_law_holds.rests K64 told [] None point (crash_law_holds.opens K64 (pools_dealt LANES call.disks) lanes many) in
          let is = subst (λ (f : Found). IsFirstText K64 f text) some.1 first in
          let safe : IsSafe K64 lanes nothing_kept told [] None (DisksFailedMore told (all_disks lanes)) =
          as_it_was K64 lanes nothing_kept told [] None (DisksFailedMore told (all_disks lanes)) here in
          IsState.first some.0 lanes text lanes [] None tt
          (subst (λ (k : Kept). IsSafe K64 lanes k told [] None (DisksFailedMore told (all_disks lanes))) (sym some.3) safe)
          (nothing_read some.0 lanes text (without_volumes some.0 some.3) is) came

  -- What was put of it, where the sink failed or memory was wanted: nothing, or that.
  pub first_put : call.history.entries ≡ [] → LeavesFirst bytes → IsFirstFront K64 (recovered bytes) text → IsLeftFront call told left text
  first_put no_entry leaves (inl nothing) = subst (λ (t : List ℕ). IsLeftFront call told left t) (sym nothing) IsLeftFront.nothing
  first_put no_entry leaves (inr first) = whole_left call told left text (first_state no_entry leaves first)
