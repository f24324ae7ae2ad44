-- Metadata made anew: what it says, what a stop finds, and what stands behind it.
use Rattle.std.proofs.Common.{◌≡◌, ◌⊎◌, ℕ, ◌+◌, ◌*◌, ◌<◌, ◌≤◌, Bool, true, false, Option, Some, None, List, [], ◌∷◌, ◌++◌, length, get_or, Contains, inl, inr, refl, sym, ap, subst, ◌∙◌, arith}
use Rattle.std.specs.List.{filter}
use Rattle.fc_base.specs.Pools.{of_kind}
use Rattle.fc_base.specs.declared.command.Command.{Command}
use Rattle.fc_base.specs.declared.disk.DiskKind.{DiskKind}
use Rattle.fc_base.specs.declared.ids.VolId.{VolId}
use Rattle.fc_base.specs.declared.request.Request.TheVariants.{Command as Asked}
use Rattle.fc_base.specs.declared.request.Request.{Request}
use Rattle.fc_base.specs.declared.size.GrainSize.{GrainSize}
use Rattle.fc_base.specs.declared.volume.Volume.{Volume}
use Rattle.fc_changed.specs.Row.{Row}
use Rattle.fc_entry.specs.declared.entry.Entry.{Entry}
use Rattle.fc_imaging.specs.Imaging.{is_lost_at, kept_of}
use Rattle.fc_kept.specs.Disks.{NamedDisk}
use Rattle.fc_kept.specs.Kept.{Kept, is_lost_in}
use Rattle.fc_kept.specs.Marks.{LeastLeft, LeastLeft.decided, LeastStep}
use Rattle.fc_kept.specs.Recoverable.{Recoverable, disks_at}
use Rattle.fc_kept.specs.Sound.{IsSoundKept}
use Rattle.fc_lane.specs.Lane.{LaneView}
use Rattle.fc_lanes.specs.AllLanes.{EachLane}
use Rattle.fc_legal.specs.Steps.{one_more}
use Rattle.fc_legal.specs.Whole.{Whole, lanes, pool_at}
use Rattle.law_agreeing.proofs.Recovering.{have_agreeing, recovers_agreeing, stands_agreeing, unnamed_agreeing}
use Rattle.law_agreeing.specs.Agreeing.{AllAgree}
use Rattle.law_crash.proofs.Whole.{crash_law_holds}
use Rattle.law_crash.proofs.Lost.{all_in_is}
use Rattle.law_crash.specs.Leaving.{GoesOn}
use Rattle.law_crash.specs.Points.{Point, StandsFor}
use Rattle.law_crash.specs.Running.{Does.commanded, Run.more, Run.named}
use Rattle.fc_held.specs.Held.{HoldAllOf, is_known}
use Rattle.fc_held.proofs.Holding.{all_agree}
use Rattle.law_noted.specs.Runs.{HasRun}
use Rattle.law_commanded.specs.Lanes.{HasSameDisks, HaveLanes, NoneCame}
use Rattle.law_commanded.specs.Law.{AreLanesIn, HasCome, IsAnew, IsCommanded, by_lanes, least_behind, left_behind}
use Rattle.law_commanded.proofs.Leaving.{Here, all_behind, anew_kept, behind, from_run, leaves_anew, left_sound, lost_anew, some_lanes}
use Rattle.law_commanded.proofs.Lost.{tables_alike}
use Rattle.law_commanded.proofs.Naming.{IsSet, all_disks, have_disks, match_named, stay_as}
use Rattle.law_commanded.proofs.Now.{all_given, bytes_left, given_kind, lost_left, match_now, still_lanes}
use Rattle.law_commanded.proofs.Pools.{command_no_more, how_many}
use Rattle.law_commanded.proofs.Standing.{LaneHas, lane_has}

-- ---- what stood before the command

pub before_all : (grain : GrainSize) (entries : List Entry) (w : Whole) (least : List Row) (command : Command) (old now : List LaneView) (p : Point) (asked : Option Request) (back : List (List NamedDisk)) → LaneView →
    HasCome grain entries w least old p → w.entries < 262144 → AreLanesIn grain w least command old now → HoldAllOf w.books.next_volume now back → Recoverable grain back p.kept w least asked None
before_all grain entries w least command old now p asked back other come few x hold =
    let here = from_run grain entries w least p come.run (omega (arith, few)) in
    recovers_agreeing grain p.disks back p.kept w least asked None
    (all_agree grain w.books.next_volume p.kept now p.disks back other (match_now grain entries w least command old now p come here few x) hold) (crash_law_holds.rests grain w least asked p here.stands)

-- ---- a command

module _ (grain : GrainSize) (entries : List Entry) (w : Whole) (least : List Row) (command : Command) (loop : Option (List VolId)) (entry : Entry) (old : List LaneView) (p : Point)
    (come : HasCome grain entries w least old p) (few : w.entries < 262144) (c : IsCommanded grain w command loop entry) (other : LaneView) where
  abbrev pub left : Whole
  left = left_behind grain w command loop

  abbrev pub least_left : List Row
  least_left = least_behind grain w least command loop

  pub here : Here grain w least p
  here = from_run grain entries w least p come.run (omega (arith, few))

  pub marks : LeastLeft grain w least command left least_left
  marks = decided loop c.told

  abbrev pub kept_left : Kept
  kept_left = anew_kept grain w least command p here few left least_left marks

  pub sound_left : IsSoundKept kept_left
  sound_left = (all_behind grain w least command p here few left least_left marks).0.says.sound

  -- ---- metadata made anew may be recovered

  pub recovers_anew : (back : List (List NamedDisk)) → AllAgree grain p.kept p.disks back → Recoverable grain back kept_left w least (Some (Asked command)) None
  recovers_anew back a =
      let x : Point = record { kept = p.kept; disks = back } in
      let q : Point = record { kept = kept_left; disks = back } in
      let st : StandsFor grain w least x = stands_agreeing grain w least p back (some_lanes grain w least p here) a here.stands in
      let on : GoesOn (2 * w.entries) w back = record { reached = here.on.reached; alike = here.on.alike; unnamed = unnamed_agreeing grain w p.kept p.disks back a here.on.unnamed } in
      let b = behind grain w least command p here few left least_left marks back st on (have_agreeing grain w p.kept p.disks back a here.have) in
      let step : LeastStep grain w least entry.request entry (one_more left) least_left =
      subst (λ (r : Request). LeastStep grain w least r entry (one_more left) least_left) (sym c.request_is) (left, marks, refl) in
      subst (λ (r : Request). Recoverable grain back kept_left w least (Some r) None) c.request_is
      (crash_law_holds.turned grain w (one_more left) least least_left entry x q q None c.step step st b.0 (inr (refl, refl, inl refl)))

  -- ---- what it says

  pub says_by : (for : Whole) (least_for : List Row) → LeastLeft grain w least command for least_for → (ls : List LaneView) → HaveLanes grain for ls → NoneCame for left → by_lanes left ls ≡ kept_left
  says_by for least_for leaves ls stand none =
      ap (kept_of left) (tables_alike (is_lost_at ls) (is_lost_in p.kept.lost) left.books.tables.volumes (λ v g i gl. lost_left grain w least command p here few for least_for leaves ls stand other v g (none v i) gl))

  pub anew_is : (kept : Kept) → IsAnew grain w least command loop kept → kept ≡ kept_left
  anew_is kept x = x.kept_is ∙ says_by x.for x.least_for x.leaves x.lanes_for x.stand x.none_came

  -- ---- behind it the disks have the names of the volumes that are left

  module _ (new : List LaneView) (stand : HaveLanes grain left new) (same : EachLane HasSameDisks old new) where
    in_old : (i : ℕ) → i < lanes w → i < length old
    in_old i il = subst (λ (n : ℕ). i < n) (sym come.lanes_are.count) il

    -- there are disks enough
    room : (i : ℕ) (d : LaneView) (kind : DiskKind) → i < lanes w → of_kind kind (pool_at left.books.pools i) + how_many kind left.books.tables.volumes ≤ of_kind kind (get_or new i d).grains.disks
    room i d kind il =
        let vs : List Volume = w.books.tables.volumes in
        let count : length p.disks ≡ lanes w = here.stands.says.count in
        let pools : length w.books.pools ≡ lanes w = here.on.reached.stands.each_lane.pools in
        let there : i < length p.disks = subst (λ (n : ℕ). i < n) (sym count) il in
        let less = command_no_more grain (2 * w.entries) w command loop kind i (omega (arith, few)) here.on.reached.stands c.told (subst (λ (n : ℕ). i < n) (sym pools) il) in
        let free = here.have.free i kind there in
        let match = (come.matches.each i d there).free kind in
        let old_has = lane_has grain w i (get_or old i d) il here.on.reached.stands.sound (come.lanes_are.each i d (in_old i il)) in
        let known : length (filter (is_known w.books.next_volume kind) (get_or old i d).grains.volumes) ≡ how_many kind vs =
        old_has.known_are w.books.next_volume kind
        ∙ (given_kind w kind w.books.tables vs ∙ ap (how_many kind) (all_given w vs (all_in_is (λ (v : Volume). v.id.0 < w.books.next_volume) vs here.on.reached.stands.sound.tables.new_volume))) in
        let disks : of_kind kind (get_or new i d).grains.disks ≡ of_kind kind (get_or old i d).grains.disks = ap (of_kind kind) (same.each i d (in_old i il)) in
        omega (arith, less, free, match, known, disks)

    pub is_set : IsSet grain (one_more left) p.disks new
    is_set =
        record {
          sound = left_sound grain w least command p here few left least_left marks;
          count = here.stands.says.count;
          some = some_lanes grain w least p here;
          lanes_are = still_lanes grain left new stand;
          room = room;
        }

    abbrev disks : List (List NamedDisk)
    disks = all_disks grain (one_more left) p.disks new other is_set

    abbrev pub point_left : Point
    point_left = record { kept = kept_left; disks = disks }

    runs : HasRun grain (entries ++ entry ∷ []) (one_more left) least_left point_left
    runs =
        let r = come.run in
        record {
          pools = r.pools;
          disks = r.disks;
          some = r.some;
          count = r.count;
          unnamed = r.unnamed;
          run = named (entries ++ entry ∷ []) (one_more left) least_left (record { kept = kept_left; disks = p.disks }) disks
              (more entries w least p entry (one_more left) least_left (record { kept = kept_left; disks = p.disks }) r.run c.step
              (commanded command left least_left kept_left c.request_is r.have (leaves_anew grain w least command p here few left least_left marks)))
              (stay_as grain (one_more left) p.disks new other is_set);
          have = have_disks grain (one_more left) p.disks new other is_set;
        }

    pub comes : HasCome grain (entries ++ entry ∷ []) (one_more left) least_left new point_left
    comes =
        record {
          run = runs;
          lanes_are = still_lanes grain left new stand;
          matches = match_named grain (one_more left) p.disks new other is_set kept_left (bytes_left grain w least command p here few left least_left marks new stand other);
        }

-- ---- the law's parts

pub turned_all : (grain : GrainSize) (entries : List Entry) (w : Whole) (least : List Row) (command : Command) (loop : Option (List VolId)) (entry : Entry) →
    (old now : List LaneView) (p : Point) (kept : Kept) (back : List (List NamedDisk)) → LaneView →
    HasCome grain entries w least old p → w.entries < 262144 → IsCommanded grain w command loop entry → IsAnew grain w least command loop kept →
    AreLanesIn grain w least command old now → HoldAllOf w.books.next_volume now back → Recoverable grain back kept w least (Some (Asked command)) None
turned_all grain entries w least command loop entry old now p kept back other come few c is x hold =
    let begin = here grain entries w least command loop entry old p come few c other in
    subst (λ (k : Kept). Recoverable grain back k w least (Some (Asked command)) None) (sym (anew_is grain entries w least command loop entry old p come few c other kept is))
    (recovers_anew grain entries w least command loop entry old p come few c other back
    (all_agree grain w.books.next_volume p.kept now p.disks back other (match_now grain entries w least command old now p come begin few x) hold))

pub sound_all : (grain : GrainSize) (entries : List Entry) (w : Whole) (least : List Row) (command : Command) (loop : Option (List VolId)) (entry : Entry) (old : List LaneView) (p : Point) (kept : Kept) → LaneView →
    HasCome grain entries w least old p → w.entries < 262144 → IsCommanded grain w command loop entry → IsAnew grain w least command loop kept → IsSoundKept kept
sound_all grain entries w least command loop entry old p kept other come few c is =
    subst IsSoundKept (sym (anew_is grain entries w least command loop entry old p come few c other kept is)) (sound_left grain entries w least command loop entry old p come few c other)

pub anew_all : (grain : GrainSize) (entries : List Entry) (w : Whole) (least : List Row) (command : Command) (loop : Option (List VolId)) (entry : Entry) →
    (old new : List LaneView) (p : Point) (kept : Kept) → LaneView → let left = left_behind grain w command loop in
    HasCome grain entries w least old p → w.entries < 262144 → IsCommanded grain w command loop entry → IsAnew grain w least command loop kept → HaveLanes grain left new → EachLane HasSameDisks old new →
    (q : Point) × (q.kept ≡ kept) × HasCome grain (entries ++ entry ∷ []) (one_more left) (least_behind grain w least command loop) new q
anew_all grain entries w least command loop entry old new p kept other come few c is stand same = (
  point_left grain entries w least command loop entry old p come few c other new stand same,
  sym (anew_is grain entries w least command loop entry old p come few c other kept is),
  comes grain entries w least command loop entry old p come few c other new stand same,
)
