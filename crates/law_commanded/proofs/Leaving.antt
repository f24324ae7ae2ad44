-- What a command may leave stands on the disks as they are, with metadata made anew.
use Rattle.std.proofs.Common.{◌≡◌, ℕ, ◌+◌, ◌*◌, ◌<◌, ◌≤◌, Bool, Option, Some, None, List, [], ◌∷◌, length, Contains, refl, sym, ap, subst, ◌∙◌, arith}
use Rattle.fc_base.specs.Sheet.{Sheet}
use Rattle.fc_base.specs.declared.command.Command.{Command}
use Rattle.fc_base.specs.declared.decision.Decision.{Decision}
use Rattle.fc_base.specs.declared.decision.LaneEvent.{LaneEvent}
use Rattle.fc_base.specs.declared.ids.VolId.{VolId}
use Rattle.fc_base.specs.declared.size.GrainSize.{GrainSize}
use Rattle.fc_base.specs.declared.volume.Volume.{Volume}
use Rattle.fc_books.specs.After.{sheet_after}
use Rattle.fc_books.specs.Deciding.{settle}
use Rattle.fc_books.specs.Sound.{AreSound}
use Rattle.fc_changed.specs.Row.{Row}
use Rattle.fc_decided.proofs.Ordered.{one_of_id}
use Rattle.fc_entry.specs.declared.entry.Entry.{Entry}
use Rattle.fc_follow.specs.Following.{restarts, rows_event}
use Rattle.fc_kept.specs.Disks.{NamedDisk}
use Rattle.fc_kept.specs.Kept.{Kept, LostGrains, is_lost_in}
use Rattle.fc_kept.specs.Marks.{AreMarked, LeastLeft, LeastLeft.decided, LeastLeft.settled_alone, LeastLeft.unsettled, least_by, least_events}
use Rattle.fc_kept.proofs.Lawful.{kept_law_holds}
use Rattle.fc_lane.specs.Lane.{LaneView}
use Rattle.fc_legal.specs.Steps.{after_settling, decided_on, left_by, one_more, rows_after}
use Rattle.fc_legal.specs.Whole.{Whole, lanes}
use Rattle.law_crash.proofs.Whole.{crash_law_holds}
use Rattle.law_crash.specs.Leaving.{GoesOn, HaveTheirDisks, Leaves, Leaves.anew, made_anew}
use Rattle.law_crash.specs.Points.{Point, StandsFor}
use Rattle.law_noted.specs.Runs.{HasRun}
use Rattle.law_commanded.proofs.Lost.{in_table}

-- ---- what a history led to

pub record Here (grain : GrainSize) (w : Whole) (least : List Row) (p : Point) : Type 0 where
  pub stands : StandsFor grain w least p
  pub on : GoesOn (2 * w.entries) w p.disks
  pub have : HaveTheirDisks w p.disks

pub from_run : (grain : GrainSize) (entries : List Entry) (w : Whole) (least : List Row) (p : Point) → HasRun grain entries w least p → w.entries ≤ 262144 → Here grain w least p
from_run grain entries w least p r few =
    let x = crash_law_holds.runs grain r.pools r.disks entries w least p r.some r.count r.unnamed r.run few in
    record { stands = x.1; on = x.2; have = r.have }

-- ---- rows between: those of the history themselves

same_rows : (s : Sheet) (rows : List Row) (es : List LaneEvent) → least_events s rows rows es ≡ rows_after s rows es
same_rows s rows [] = refl
same_rows s rows (e ∷ es) = same_rows (sheet_after (restarts rows) s e) (rows_event s.slots rows e) es

now_marked : (kept now least : List Row) → AreMarked kept now least → AreMarked now now least
now_marked [] [] [] m = tt
now_marked (k ∷ ks) (n ∷ ns) (l ∷ ls) m = (
  record {
    kept_is = refl;
    least_is = m.0.least_is;
    kept_size = refl;
    least_size = m.0.least_size;
    true_now = λ g h. h;
    not_less = λ g h. m.0.true_now g (m.0.not_less g h);
  },
  now_marked ks ns ls m.1,
)
now_marked kept now least m = absurd m

by_decision : (grain : GrainSize) (w : Whole) (least : List Row) (d : Decision) → AreMarked w.rows w.rows least → AreMarked (left_by grain w d).rows (left_by grain w d).rows (least_by w least d)
by_decision grain w least d m =
    subst (λ (rows : List Row). AreMarked rows (left_by grain w d).rows (least_by w least d)) (same_rows w.books.sheet w.rows d.events)
    (kept_law_holds.marks.decided w.books.sheet w.rows w.rows least d.events m)

left_marked : (grain : GrainSize) (w : Whole) (least kept : List Row) (command : Command) (left : Whole) (least_left : List Row) → AreMarked kept w.rows least → LeastLeft grain w least command left least_left →
    AreMarked left.rows left.rows least_left
left_marked grain w least kept command left least_left m (decided loop told) =
    let settled : Whole = after_settling grain w in
    by_decision grain settled (least_by w least (settle w.books)) (decided_on grain settled command loop) (by_decision grain w least (settle w.books) (now_marked kept w.rows least m))
left_marked grain w least kept command left least_left m unsettled = now_marked kept w.rows least m
left_marked grain w least kept command left least_left m settled_alone = by_decision grain w least (settle w.books) (now_marked kept w.rows least m)

same_faults : (grain : GrainSize) (w : Whole) (least : List Row) (command : Command) (left : Whole) (least_left : List Row) → LeastLeft grain w least command left least_left → left.faults ≡ w.faults
same_faults grain w least command left least_left (decided loop told) = refl
same_faults grain w least command left least_left unsettled = refl
same_faults grain w least command left least_left settled_alone = refl

-- ---- what may be left

module _ (grain : GrainSize) (w : Whole) (least : List Row) (command : Command) (p : Point) (here : Here grain w least p) (few : w.entries < 262144) (left : Whole) (least_left : List Row)
    (marks : LeastLeft grain w least command left least_left) where
  abbrev pub anew_kept : Kept
  anew_kept = made_anew left left.rows p.kept.lost

  pub leaves_anew : Leaves grain w least p.kept command left least_left anew_kept
  leaves_anew = anew left least_left left.rows marks (left_marked grain w least p.kept.rows command left least_left here.stands.says.rows marks)

  -- over disks that agree, too
  abbrev pub Behind : List (List NamedDisk) → Type 0
  Behind disks = StandsFor grain (one_more left) least_left (record { kept = anew_kept; disks = disks }) × GoesOn (2 * w.entries + 2) (one_more left) disks

  pub behind : (disks : List (List NamedDisk)) → StandsFor grain w least (record { kept = p.kept; disks = disks }) → GoesOn (2 * w.entries) w disks → HaveTheirDisks w disks → Behind disks
  behind disks st on have =
      crash_law_holds.leaves grain (2 * w.entries) w left least least_left command (record { kept = p.kept; disks = disks }) anew_kept (omega (arith, few)) on st have leaves_anew

  pub all_behind : Behind p.disks
  all_behind = behind p.disks here.stands here.on here.have

  pub left_sound : AreSound left.books
  left_sound = all_behind.1.reached.stands.sound

  pub as_many : lanes left ≡ lanes w
  as_many = ap (λ (f : List ℕ). length f) (same_faults grain w least command left least_left marks)

  one_volume : (v : Volume) → Contains left.books.tables.volumes v → (z : Volume) → Contains left.books.tables.volumes z → z.id.0 ≡ v.id.0 → z ≡ v
  one_volume v i z j e = one_of_id (λ (x : Volume). x.id.0) (λ (x : Volume). x.name) left.books.tables.volumes z v left_sound.tables.volumes j i e

  pub lost_anew : (v : Volume) (g : ℕ) → Contains left.books.tables.volumes v → g < v.grains → is_lost_in anew_kept.lost v.id.0 g ≡ is_lost_in p.kept.lost v.id.0 g
  lost_anew v g i gl = in_table (is_lost_in p.kept.lost) left.books.tables.volumes v g i gl (one_volume v i)

pub some_lanes : (grain : GrainSize) (w : Whole) (least : List Row) (p : Point) → Here grain w least p → 0 < lanes w
some_lanes grain w least p here = here.on.reached.stands.each_lane.some
