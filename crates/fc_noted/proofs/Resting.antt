-- Between two entries, what stands on metadata's disk may be recovered with whatever disks the lanes give back.
use Rattle.std.proofs.Common.{ℕ, ◌≤◌, Option, None, List, sym, subst}
use Rattle.fc_base.specs.declared.request.Request.{Request}
use Rattle.fc_base.specs.declared.size.GrainSize.{GrainSize}
use Rattle.fc_changed.specs.Row.{Row}
use Rattle.fc_entry.specs.HistoryState.{HistoryState}
use Rattle.fc_kept.specs.Disks.{NamedDisk}
use Rattle.fc_kept.specs.Images.{kept_in}
use Rattle.fc_kept.specs.Kept.{Kept}
use Rattle.fc_kept.specs.Recoverable.{Recoverable}
use Rattle.fc_legal.specs.Whole.{Whole}
use Rattle.fc_store.specs.Stepping.{no_lane}
use Rattle.law_agreeing.proofs.Recovering.{recovers_agreeing}
use Rattle.law_crash.proofs.Whole.{crash_law_holds}
use Rattle.law_crash.specs.Points.{Point, StandsFor}
use Rattle.fc_held.specs.Held.{HoldAllOf}
use Rattle.fc_noted.specs.Noted.{IsNotedAt}
use Rattle.fc_noted.proofs.Safe.{as_it_was}
use Rattle.law_noted.specs.One.{IsSafe}
use Rattle.law_noted.specs.Runs.{HasRun}
use Rattle.fc_noted.specs.declared.noted.Noted.{Noted}
use Rattle.fc_held.proofs.Holding.{all_agree}

pub rests : {C D : Type 0} (seen : D → List ℕ) (may_leave : D → List ℕ → Type 0) (n : Noted C D) (history : HistoryState) (w : Whole) (least : List Row) (asked : Option Request) →
    (at : IsNotedAt seen may_leave n history w least) (back : List (List NamedDisk)) → w.entries ≤ 262144 → HoldAllOf n.named n.store.lanes back →
    Recoverable n.store.control.grain back (kept_in at.keeps.image) w least asked None
rests seen may_leave n history w least asked at back few hold =
    let grain : GrainSize = n.store.control.grain in
    let p : Point = at.point in
    let r : HasRun grain history.entries w least p = at.run in
    let stands : StandsFor grain w least p = (crash_law_holds.runs grain r.pools r.disks history.entries w least p r.some r.count r.unnamed r.run few).1 in
    let found : Recoverable grain p.disks p.kept w least asked None = crash_law_holds.rests grain w least asked p stands in
    let here : Recoverable grain back p.kept w least asked None =
    recovers_agreeing grain p.disks back p.kept w least asked None (all_agree grain n.named p.kept n.store.lanes p.disks back no_lane at.keeps.matches hold) found in
    subst (λ (k : Kept). Recoverable grain back k w least asked None) (sym at.keeps.kept) here

-- no grain is otherwise
pub rests_safe : {C D : Type 0} (seen : D → List ℕ) (may_leave : D → List ℕ → Type 0) (n : Noted C D) (history : HistoryState) (w : Whole) (least : List Row) (asked : Option Request) (Failed : Type 0) →
    (at : IsNotedAt seen may_leave n history w least) (back : List (List NamedDisk)) → w.entries ≤ 262144 → HoldAllOf n.named n.store.lanes back →
    IsSafe n.store.control.grain back (kept_in at.keeps.image) w least asked Failed
rests_safe seen may_leave n history w least asked Failed at back few hold =
    as_it_was n.store.control.grain back (kept_in at.keeps.image) w least asked Failed (rests seen may_leave n history w least asked at back few hold)
