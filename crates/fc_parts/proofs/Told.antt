-- What a lane is told of events, beside what the lane of all grains is told.
use Rattle.std.proofs.Common.{◌≡◌, ℕ, ◌^◌, ◌<◌, Bool, false, Option, Some, None, List, [], ◌∷◌, length, get_or, find, fold, option_map, All, refl, sym, ap, ap₂, subst, ◌∙◌, arith}
use Rattle.std.proofs.lemmas.List.{get_or-map, length-map}
use Rattle.std.proofs.lemmas.List.Elements.{All-map}
use Rattle.std.specs.Option.{unwrap_or, ForSome}
use Rattle.fc_base.specs.Pools.{Pool, of_kind, pool_without}
use Rattle.fc_base.specs.Room.{Room, rooms_after}
use Rattle.fc_base.specs.Sheet.{Sheet}
use Rattle.fc_base.specs.SheetFits.{FitsEvent}
use Rattle.fc_base.specs.SheetStep.{sheet_step}
use Rattle.fc_base.specs.declared.decision.LaneEvent.{LaneEvent}
use Rattle.fc_base.specs.declared.decision.LaneEvent.TheVariants.{Make, Remove, Trigger}
use Rattle.fc_base.specs.declared.volume.Change.{Change}
use Rattle.fc_base.specs.declared.request.Pair.{Pair}
use Rattle.fc_books.specs.After.{begun, after_event, after_table_change, pools_after, after_all}
use Rattle.fc_books.specs.Books.{Books}
use Rattle.fc_entry.specs.Picture.{Picture}
use Rattle.fc_changed.specs.Row.{Row, is_of, row_names, restart_in}
use Rattle.fc_follow.specs.Following.{Followed, rows_event, restarts, told_with, followed_event, IsOfPair, FitsRows, FitsFollowed}
use Rattle.fc_legal.proofs.Events.{all_in}
use Rattle.fc_legal.specs.Lawful.{HasDisks, HaveDisks, FitAsOne}
use Rattle.fc_legal.specs.Whole.{Whole, part_of_sheet, part_of_picture, part_of_row, part_of_rows, part_of_rooms, single_lane, lane_at, part_at, pool_at, volumes_told}
use Rattle.fc_pick.specs.declared.work.WorkFlags.{WorkFlags}
use Rattle.fc_rules.specs.LaneFits.{HasDisk}
use Rattle.fc_rules.specs.LaneTold.{LaneOf, LaneVolume, LaneTold, grains_in, picture_event, volumes_event, flags_event, pool_event, told_event}
use Rattle.fc_parts.proofs.Numbers.{IsLane}
use Rattle.fc_parts.proofs.Events.{step_agrees}
use Rattle.fc_parts.proofs.Beginning.{ArePartsOf, all_begun}
use Rattle.fc_parts.proofs.Fitting.{fits_event}
use Rattle.fc_parts.proofs.Pictures.{picture_agrees}
use Rattle.fc_parts.proofs.Noting.{rows_agree}
use Rattle.fc_parts.proofs.Rooms.{rooms_agree}
use Rattle.fc_parts.proofs.Rows.{find_part, restart_part}

-- ---- all that is told, by its fields

abbrev pub part_told : LaneOf → Sheet → Picture → List LaneVolume → List WorkFlags → Pool → ℕ → ℕ → LaneTold
part_told l sheet picture volumes flags pool faults calls =
    record { sheet = part_of_sheet l sheet; picture = part_of_picture l picture; volumes = volumes; flags = flags; pool = pool; faults = faults; calls = calls }

pub part_is : (grain : _) (w : Whole) (i : ℕ) →
    part_at grain w i ≡ part_told (lane_at grain w i) w.books.sheet w.picture (volumes_told w.books.tables) w.books.flags (pool_at w.books.pools i) (get_or w.faults i 0) (get_or w.calls i 0)
unfolding part_at
part_is grain w i = refl

pub same_told : (a b : LaneTold) → a.sheet ≡ b.sheet → a.picture ≡ b.picture → a.volumes ≡ b.volumes → a.flags ≡ b.flags → a.pool ≡ b.pool → a.faults ≡ b.faults → a.calls ≡ b.calls → a ≡ b
same_told a b sheet picture volumes flags pool faults calls =
    λ i. record { sheet = sheet i; picture = picture i; volumes = volumes i; flags = flags i; pool = pool i; faults = faults i; calls = calls i }

-- ---- what is told to both

-- The lane's chains and plain volumes are its part of those of all grains; volumes and background work are the same.
pub record Follows (l : LaneOf) (big small : LaneTold) : Type 0 where
  pub sheet : small.sheet ≡ part_of_sheet l big.sheet
  pub picture : small.picture ≡ part_of_picture l big.picture
  pub volumes : small.volumes ≡ big.volumes
  pub flags : small.flags ≡ big.flags

follows_event : (l : LaneOf) → IsLane l → (big small : LaneTold) (e : LaneEvent) → Follows l big small → Follows l (told_event (single_lane l.grain) big e) (told_event l small e)
follows_event l i big small e f =
    record {
      sheet = ap (λ (s : Sheet). sheet_step (grains_in l) s e) f.sheet
          ∙ (sym (step_agrees l i big.sheet e) ∙ ap (λ (local : ℕ → ℕ). part_of_sheet l (sheet_step local big.sheet e)) (sym (all_in l.grain)));
      picture = ap₂ (λ (s : Sheet) (p : Picture). picture_event l s.slots p e) f.sheet f.picture ∙ sym (picture_agrees l i big.sheet.slots big.picture e);
      volumes = ap (λ (z : List LaneVolume). volumes_event z e) f.volumes;
      flags = ap (λ (z : List WorkFlags). flags_event z e) f.flags;
    }

-- new slots of a trigger hold restart sets
follows_with : (l : LaneOf) → IsLane l → (whole some : ℕ → List Bool) → ArePartsOf l whole some → (big small : LaneTold) (e : LaneEvent) → Follows l big small →
    Follows l (told_with whole (single_lane l.grain) big e) (told_with some l small e)
follows_with l i whole some are big small (Trigger pairs) f =
    let after = follows_event l i big small (Trigger pairs) f in
    record {
      sheet = ap (λ (s : Sheet). fold (begun some) s pairs) after.sheet ∙ sym (all_begun l i whole some are (told_event (single_lane l.grain) big (Trigger pairs)).sheet pairs);
      picture = after.picture;
      volumes = after.volumes;
      flags = after.flags;
    }
follows_with l i whole some are big small e f = follows_event l i big small e f

-- The rows and the rooms too are the lane's part of those of all grains.
pub record FollowsAll (l : LaneOf) (big small : Followed) : Type 0 where
  pub told : Follows l big.told small.told
  pub rows : small.rows ≡ part_of_rows l big.rows
  pub rooms : small.rooms ≡ part_of_rooms l big.rooms

restarts_part : (l : LaneOf) → IsLane l → (big small : Followed) → FollowsAll l big small → ArePartsOf l (restarts big.rows) (restarts small.rows)
restarts_part l i big small f m = ap (restart_in m) f.rows ∙ restart_part l i m big.rows

follows_one : (l : LaneOf) → IsLane l → (big small : Followed) (e : LaneEvent) → FollowsAll l big small → FollowsAll l (followed_event (single_lane l.grain) big e) (followed_event l small e)
follows_one l i big small e f =
    record {
      told = follows_with l i (restarts big.rows) (restarts small.rows) (restarts_part l i big small f) big.told small.told e f.told;
      rows = ap₂ (λ (s : Sheet) (rows : List Row). rows_event s.slots rows e) f.told.sheet f.rows ∙ sym (rows_agree l i big.told.sheet.slots big.rows e);
      rooms = ap (λ (rooms : List Room). rooms_after (grains_in l) rooms e) f.rooms ∙ sym (rooms_agree l i big.rooms e);
    }

pub follows_all : (l : LaneOf) → IsLane l → (events : List LaneEvent) (big small : Followed) → FollowsAll l big small →
    FollowsAll l (fold (followed_event (single_lane l.grain)) big events) (fold (followed_event l) small events)
follows_all l i [] big small f = f
follows_all l i (e ∷ es) big small f = follows_all l i es (followed_event (single_lane l.grain) big e) (followed_event l small e) (follows_one l i big small e f)

-- ---- disks

pool_agrees : (pools : List Pool) (k : ℕ) (e : LaneEvent) → k < length pools → pool_event (pool_at pools k) e ≡ pool_at (pools_after pools e) k
pool_agrees pools k (Make volume grains kind) lt = sym (get_or-map (pool_without kind) pools k (record { flat = 0; thin = 0 }) (record { flat = 0; thin = 0 }) lt)
pool_agrees pools k e lt = refl

pools_left : (pools : List Pool) (e : LaneEvent) → length (pools_after pools e) ≡ length pools
pools_left pools (Make volume grains kind) = length-map pools (pool_without kind)
pools_left pools e = refl

-- what an event does but for the chains doesn't ask for restart sets
volumes_with : (sets : ℕ → List Bool) (l : LaneOf) (told : LaneTold) (e : LaneEvent) → (told_with sets l told e).volumes ≡ volumes_event told.volumes e
volumes_with sets l told (Trigger pairs) = refl
volumes_with sets l told e = refl

pool_with : (sets : ℕ → List Bool) (l : LaneOf) (told : LaneTold) (e : LaneEvent) → (told_with sets l told e).pool ≡ pool_event told.pool e
pool_with sets l told (Trigger pairs) = refl
pool_with sets l told e = refl

counts_with : (sets : ℕ → List Bool) (l : LaneOf) (told : LaneTold) (e : LaneEvent) → ((told_with sets l told e).faults ≡ told.faults) × ((told_with sets l told e).calls ≡ told.calls)
counts_with sets l told (Trigger pairs) = (refl, refl)
counts_with sets l told e = (refl, refl)

pool_one : (l : LaneOf) (small : Followed) (pools : List Pool) (e : LaneEvent) → small.told.pool ≡ pool_at pools l.lane → l.lane < length pools →
    (followed_event l small e).told.pool ≡ pool_at (pools_after pools e) l.lane
pool_one l small pools e pool lt = pool_with (restarts small.rows) l small.told e ∙ (ap (λ z. pool_event z e) pool ∙ pool_agrees pools l.lane e lt)

pub pool_all : (l : LaneOf) (events : List LaneEvent) (small : Followed) (pools : List Pool) → small.told.pool ≡ pool_at pools l.lane → l.lane < length pools →
    (fold (followed_event l) small events).told.pool ≡ pool_at (fold pools_after pools events) l.lane
pool_all l [] small pools e lt = e
pool_all l (event ∷ events) small pools e lt =
    let n : length (pools_after pools event) ≡ length pools = pools_left pools event in
    pool_all l events (followed_event l small event) (pools_after pools event) (pool_one l small pools event e lt) (omega arith)

pub faults_all : (l : LaneOf) (events : List LaneEvent) (small : Followed) →
    ((fold (followed_event l) small events).told.faults ≡ small.told.faults) × ((fold (followed_event l) small events).told.calls ≡ small.told.calls)
faults_all l [] small = (refl, refl)
faults_all l (e ∷ es) small =
    let rest = faults_all l es (followed_event l small e) in
    let one = counts_with (restarts small.rows) l small.told e in (rest.0 ∙ one.0, rest.1 ∙ one.1)

has_disk : (k : ℕ) (pools : List Pool) (big small : LaneTold) (e : LaneEvent) → HasDisks pools big.volumes e → small.volumes ≡ big.volumes → small.pool ≡ pool_at pools k → k < length pools → HasDisk small e
has_disk k pools big small (Make volume grains kind) d v p lt = (
  subst (λ (z : Pool). 0 < of_kind kind z) (sym p) (d.0 k (record { flat = 0; thin = 0 }) lt),
  subst (λ (z : List LaneVolume). All (λ (x : LaneVolume). x.volume.0 < volume.0) z) (sym v) d.1,
)
has_disk k pools big small e d v p lt = tt

-- ---- all events fit

pair_part : (l : LaneOf) (p : Pair) (o : Option Row) → ForSome o (IsOfPair p) → ForSome (option_map (part_of_row l) o) (IsOfPair p)
pair_part l p None fits row e = absurd (let never : None ≡ Some row = e in cc)
pair_part l p (Some whole) fits row e = subst (IsOfPair p) (ap (λ (o : Option Row). unwrap_or o row) e) (fits whole refl)

fits_rows : (l : LaneOf) (rows : List Row) (e : LaneEvent) → FitsRows rows e → FitsRows (part_of_rows l rows) e
fits_rows l rows (Trigger pairs) fits =
    λ k d lt. subst (λ (o : Option Row). ForSome o (IsOfPair (get_or pairs k d))) (sym (find_part l (get_or pairs k d).map.0 rows))
    (pair_part l (get_or pairs k d) (find (is_of (get_or pairs k d).map.0) rows) (fits k d lt))
fits_rows l rows (Remove volume) fits = All-map (λ (row : Row). row_names row volume.0 ≡ false) (part_of_row l) rows fits
fits_rows l rows e fits = tt

pub fits_all : (l : LaneOf) → IsLane l → (events : List LaneEvent) (big small : Followed) (pools : List Pool) → FollowsAll l big small → FitAsOne l.grain big events →
    HaveDisks pools big.told.volumes events → small.told.pool ≡ pool_at pools l.lane → l.lane < length pools → FitsFollowed l small events
fits_all l i [] big small pools f fits disks pool lt = subst (λ (s : Sheet). s.births < 2 ^ 64) (sym f.told.sheet) fits
fits_all l i (e ∷ es) big small pools f fits disks pool lt =
    let n : length (pools_after pools e) ≡ length pools = pools_left pools e in (
      subst (λ (s : Sheet). FitsEvent s e) (sym f.told.sheet) (fits_event l i big.told.sheet e fits.0),
      has_disk l.lane pools big.told small.told e disks.0 f.told.volumes pool lt,
      subst (λ (rows : List Row). FitsRows rows e) (sym f.rows) (fits_rows l big.rows e fits.1),
      fits_all l i es (followed_event (single_lane l.grain) big e) (followed_event l small e) (pools_after pools e) (follows_one l i big small e f)
          fits.2
          (subst (λ (volumes : List LaneVolume). HaveDisks (pools_after pools e) volumes es) (sym (volumes_with (restarts big.rows) (single_lane l.grain) big.told e)) disks.1)
          (pool_one l small pools e pool lt)
          (omega arith),
    )

-- ---- the pools that a decision leaves

pools_of_changes : (b : Books) (changes : List Change) → (fold after_table_change b changes).pools ≡ b.pools
pools_of_changes b [] = refl
pools_of_changes b (change ∷ changes) = pools_of_changes (after_table_change b change) changes ∙ one change
  where
    one : (change : Change) → (after_table_change b change).pools ≡ b.pools
    one (Change.AddVolume v) = refl
    one (Change.AddMapping m) = refl
    one (Change.AddGroup g) = refl
    one change = refl

pools_of_events : (restarts : ℕ → List Bool) (b : Books) (events : List LaneEvent) → (fold (after_event restarts) b events).pools ≡ fold pools_after b.pools events
pools_of_events restarts b [] = refl
pools_of_events restarts b (e ∷ es) = pools_of_events restarts (after_event restarts b e) es

pub pools_of_all : (restarts : ℕ → List Bool) (events : List LaneEvent) (changes : List Change) (b : Books) → (after_all restarts events changes b).pools ≡ fold pools_after b.pools events
pools_of_all restarts events changes b =
    pools_of_events restarts (fold after_table_change b changes) events ∙ ap (λ (z : List Pool). fold pools_after z events) (pools_of_changes b changes)
