-- What one access asks of the lane of its grain, and what a refusal leaves.
use Rattle.std.proofs.Common.{◌≡◌, ℕ, ◌+◌, ◌-◌, ◌*◌, ◌%◌, ◌<◌, ◌≤◌, max, min, [], Option, Contains, refl, sym, ◌∙◌, ap, subst, arith}
use Rattle.fc_base.specs.Grain.{grain_blocks}
use Rattle.fc_base.specs.declared.command.Command.TheVariants as command
use Rattle.fc_base.specs.declared.fault.Refusal.{Refusal}
use Rattle.fc_base.specs.declared.ids.VolId.{VolId}
use Rattle.fc_base.specs.declared.request.Place.TheVariants.{Control}
use Rattle.fc_base.specs.declared.request.Reply.TheVariants.{Refused}
use Rattle.fc_base.specs.declared.request.Request.{Request}
use Rattle.fc_base.specs.declared.request.Request.TheVariants.{Command as Asked, Unread, Read, Write, Copy, Clean, CopyTurn, CleanTurn}
use Rattle.fc_base.specs.declared.size.GrainSize.{GrainSize}
use Rattle.fc_base.specs.declared.size.GrainSize.TheVariants.{K64, K256}
use Rattle.fc_base.specs.declared.volume.Volume.{Volume}
use Rattle.fc_entry.specs.Picture.{grain_of_block}
use Rattle.fc_entry.specs.declared.entry.Entry.{Entry}
use Rattle.fc_lane.specs.Lane.{LaneView, of}
use Rattle.fc_legal.specs.Asked.{end_in, first_in}
use Rattle.fc_legal.specs.Stands.{Stands}
use Rattle.fc_legal.specs.Steps.{RequestStep, IsInside, IsRefused, MustBeRefused, one_more}
use Rattle.fc_legal.specs.Whole.{Whole, lanes, lane_of_grain, lane_at, part_at}
use Rattle.fc_parts.proofs.Lawful.{part_law_holds}
use Rattle.fc_parts.specs.Law.{IsAt, IsInVolume}
use Rattle.fc_rules.specs.LaneFits.{FitsPart}
use Rattle.fc_stands.specs.Apart.{entry_apart, IsRefusalOf}
use Rattle.fc_stands.specs.Leading.{LeadsOn}
use Rattle.fc_lanes.specs.Asking.{request_of}
use Rattle.fc_stands.specs.Store.{StoreView, IsLaneAt, StandsFor}
use Rattle.fc_lanes.specs.declared.access.Access.{Access}
use Rattle.fc_lanes.specs.declared.access.Access.TheVariants as access
use Rattle.fc_stands.proofs.PhaseStands.{entry_stands, stands_at}

-- ---- an access

-- Blocks of a grain, the first of them and the first behind them.
pub record IsInGrain (grain : GrainSize) (first count g : ℕ) : Type 0 where
  pub some : 1 ≤ count
  pub fits : first % grain_blocks grain + count ≤ grain_blocks grain
  pub of_grain : grain_of_block grain first ≡ g

in_grain :
    (grain : GrainSize) (block count g width first end : ℕ) →
    width ≡ grain_blocks grain →
    first ≡ max block (g * width) →
    end ≡ min (block + count) ((g + 1) * width) →
    0 < count →
    block < (g + 1) * grain_blocks grain →
    g * grain_blocks grain < block + count →
    IsInGrain grain first (end - first) g
in_grain K64 block count g width first end is_width is_first is_end some begins ends =
    let starts : first ≡ max block (g * 128) = is_first ∙ ap (λ (n : ℕ). max block (g * n)) is_width in
    let stops : end ≡ min (block + count) ((g + 1) * 128) = is_end ∙ ap (λ (n : ℕ). min (block + count) ((g + 1) * n)) is_width in
    record { some = omega arith; fits = omega arith; of_grain = omega arith }
in_grain K256 block count g width first end is_width is_first is_end some begins ends =
    let starts : first ≡ max block (g * 512) = is_first ∙ ap (λ (n : ℕ). max block (g * n)) is_width in
    let stops : end ≡ min (block + count) ((g + 1) * 512) = is_end ∙ ap (λ (n : ℕ). min (block + count) ((g + 1) * n)) is_width in
    record { some = omega arith; fits = omega arith; of_grain = omega arith }

-- As the store's grain size says it.
pub is_in_grain : (grain size : GrainSize) (block count g first many : ℕ) → size ≡ grain → first ≡ first_in size block g → many ≡ end_in size (block + count) g - first → 0 < count →
    block < (g + 1) * grain_blocks grain → g * grain_blocks grain < block + count → IsInGrain grain first many g
is_in_grain grain size block count g first many same is_first is_many some begins ends =
    let starts : first ≡ first_in grain block g = is_first ∙ ap (λ (s : GrainSize). first_in s block g) same in
    let are : many ≡ end_in grain (block + count) g - first = is_many ∙ ap (λ (s : GrainSize). end_in s (block + count) g - first) same in
    subst (λ (n : ℕ). IsInGrain grain first n g) (sym are) (in_grain grain block count g (grain_blocks grain) first (end_in grain (block + count) g) refl starts refl some begins ends)

-- It is at that grain.
pub at_grain : (grain : GrainSize) (access : Access) (volume : VolId) (first count g : ℕ) → grain_of_block grain first ≡ g →
    IsAt grain g (request_of access volume first count)
at_grain grain access.Read volume first count g is = is
at_grain grain (access.Write byte) volume first count g is = is

-- Which lane a lane is, as its calls say it.
pub same_lane : (grain : GrainSize) (w : Whole) (i : ℕ) (v : LaneView) → IsLaneAt grain w i v → of v ≡ lane_at grain w i
same_lane grain w i v is =
    ap (λ (l : ℕ). record { lane = l; lanes = v.lanes; grain = v.grains.grain }) is.lane
    ∙ ap (λ (n : ℕ). record { lane = i; lanes = n; grain = v.grains.grain }) is.lanes_are
    ∙ ap (λ (g : GrainSize). record { lane = i; lanes = lanes w; grain = g }) is.grain_is

-- An access of a volume of the table is inside it, and fits the lane of its grain.
pub is_inside : (grain : GrainSize) (w : Whole) (volume : VolId) (v : Volume) (first count g : ℕ) → Contains w.books.tables.volumes v → v.id ≡ volume → IsInGrain grain first count g → g < v.grains →
    IsInside grain w.books.tables volume first count
is_inside grain w volume v first count g there named inside within = record {
  of = v;
  there = there;
  id_is = named;
  some = inside.some;
  in_one = inside.fits;
  inside = subst (λ n. n < v.grains) (sym inside.of_grain) within;
}

pub part_fits :
    (grain : GrainSize) (decisions : ℕ) (w : Whole) (volume : VolId) (v : Volume) (first count g : ℕ) →
    Stands decisions w →
    Contains w.books.tables.volumes v →
    v.id ≡ volume →
    IsInGrain grain first count g →
    g < v.grains →
    FitsPart (lane_at grain w (lane_of_grain w g)) (part_at grain w (lane_of_grain w g)) volume first count
part_fits grain decisions w volume v first count g stands there named inside within =
    let P : ℕ → Type 0 = λ n. FitsPart (lane_at grain w (lane_of_grain w n)) (part_at grain w (lane_of_grain w n)) volume first count in
    subst P inside.of_grain (part_law_holds.fits grain decisions w volume first count stands (is_inside grain w volume v first count g there named inside within))

-- As its request says it.
pub inside_of : (grain : GrainSize) (w : Whole) (access : Access) (volume : VolId) (first count : ℕ) → IsInside grain w.books.tables volume first count → IsInVolume grain w (request_of access volume first count)
inside_of grain w access.Read volume first count inside = inside
inside_of grain w (access.Write byte) volume first count inside = inside

-- ---- a refusal

pub by_request :
    (grain : GrainSize) (w : Whole) (entry : Entry) (request : Request) (refusal : Refusal) →
    IsRefusalOf grain w request refusal →
    IsRefused refusal w entry (one_more w) →
    RequestStep grain w request entry (one_more w)
by_request grain w entry (Asked (command.Read volume block count)) refusal is refused =
    let P : Option Refusal → Type 0 = λ o. MustBeRefused o w entry (one_more w) in
    subst P (sym is) refused
by_request grain w entry (Asked (command.Write volume block count byte)) refusal is refused =
    let P : Option Refusal → Type 0 = λ o. MustBeRefused o w entry (one_more w) in
    subst P (sym is) refused
by_request grain w entry (Asked (command.Mkpreset source preset name)) refusal is refused =
    let P : Option Refusal → Type 0 = λ o. MustBeRefused o w entry (one_more w) in
    subst P (sym is) refused
by_request grain w entry (Unread fault) refusal is refused =
    let P : Refusal → Type 0 = λ r. IsRefused r w entry (one_more w) in
    subst P is refused
by_request grain w entry (Asked (command.Mkvdisk a b c d)) refusal is refused = absurd is
by_request grain w entry (Asked (command.Rmvdisk a)) refusal is refused = absurd is
by_request grain w entry (Asked (command.Armfault a b c)) refusal is refused = absurd is
by_request grain w entry (Asked (command.Advance a)) refusal is refused = absurd is
by_request grain w entry (Asked (command.Mkfcmap a b c d e f g h i)) refusal is refused = absurd is
by_request grain w entry (Asked (command.Prestartfcmap a b)) refusal is refused = absurd is
by_request grain w entry (Asked (command.Startfcmap a b c)) refusal is refused = absurd is
by_request grain w entry (Asked (command.Stopfcmap a b)) refusal is refused = absurd is
by_request grain w entry (Asked (command.Rmfcmap a b)) refusal is refused = absurd is
by_request grain w entry (Asked (command.Mkfcconsistgrp a)) refusal is refused = absurd is
by_request grain w entry (Asked (command.Prestartfcconsistgrp a b)) refusal is refused = absurd is
by_request grain w entry (Asked (command.Startfcconsistgrp a b c)) refusal is refused = absurd is
by_request grain w entry (Asked (command.Stopfcconsistgrp a b)) refusal is refused = absurd is
by_request grain w entry (Asked (command.Rmfcconsistgrp a b)) refusal is refused = absurd is
by_request grain w entry (Asked (command.Lsfcmap a b)) refusal is refused = absurd is
by_request grain w entry (Asked (command.Lsfcconsistgrp a b)) refusal is refused = absurd is
by_request grain w entry (Asked (command.Lsvdisk a)) refusal is refused = absurd is
by_request grain w entry (Asked (command.Lsfcmapprogress a b)) refusal is refused = absurd is
by_request grain w entry (Asked (command.Lsfcmapdependentmaps a b)) refusal is refused = absurd is
by_request grain w entry (Asked (command.Lsvdiskroom a)) refusal is refused = absurd is
by_request grain w entry (Read part) refusal is refused = absurd is
by_request grain w entry (Write part) refusal is refused = absurd is
by_request grain w entry (Copy m g) refusal is refused = absurd is
by_request grain w entry (Clean m g) refusal is refused = absurd is
by_request grain w entry (CopyTurn lane) refusal is refused = absurd is
by_request grain w entry (CleanTurn lane) refusal is refused = absurd is

pub one_more_stands : (s : StoreView) (w : Whole) → StandsFor s w → StandsFor s (one_more w)
one_more_stands s w stands = entry_stands stands.decisions s w (stands_at s w stands) (omega (arith, stands.few))

pub refused_leads : (s : StoreView) (w : Whole) (actor : ℕ) (request : Request) (refusal : Refusal) → StandsFor s w → IsRefusalOf s.control.grain w request refusal →
    LeadsOn s.control.grain w (entry_apart 0 actor Control request (Refused refusal) []) s
refused_leads s w actor request refusal stands is = (
  one_more w,
  record {
    number = refl;
    right = by_request s.control.grain w (entry_apart w.entries actor Control request (Refused refusal) []) request refusal is
        record {
          place = refl;
          apart = record { no_moves = refl; untorn = refl; no_calls = refl; no_faults_before = refl; no_faults_after = refl };
          reply = refl;
          no_effects = refl;
          next_is = refl;
        };
  },
  refl,
  refl,
  one_more_stands s w stands,
)
