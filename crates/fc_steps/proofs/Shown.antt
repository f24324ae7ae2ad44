-- The volume from which a read of another is read, and how the read of its grain ends.
use Rattle.std.proofs.Common.{◌≡◌, ℕ, ◌<◌, ◌%◌, ◌/◌, Bool, true, false, Some, Result, is_err, length, sym, ap, subst, ◌∙◌}
use Rattle.fc_base.specs.Column.{holder}
use Rattle.fc_base.specs.Sheet.{Sheet, slot_at, column, live_place}
use Rattle.fc_base.specs.SheetFacts.{IsSound}
use Rattle.fc_chain.specs.Chains.{Chains, in_lane}
use Rattle.fc_grains.specs.Calls.{HasRead}
use Rattle.fc_grains.specs.Grains.{GrainsState}
use Rattle.fc_grains.specs.Volumes.{volume_of, is_there, rooms_of}
use Rattle.fc_steps.specs.Moving.{SameRooms}
use Rattle.fc_steps.specs.Reading.{CanRead, GrainEnds, HasHolder, IsOfHolder, ReadEnds}
use Rattle.fc_steps.specs.declared.read.GrainRead.{GrainRead}
use Rattle.fc_steps.specs.declared.read.GrainRead.TheVariants.{Done, IsLost, Failed}
use Rattle.fc_steps.proofs.Moving.{Source, source_at, read_done}
use Rattle.fc_rules.specs.LaneTold.{LaneOf, place_of}

-- the chains of a lane have this sheet, in which the volume's live slot, at place `t`, has the slot at place `h` as holder of a grain
pub record ShownIn (l : LaneOf) (s : Sheet) (v t number h : ℕ) (chains : Chains) : Type 0 where
  pub lane_is : chains.lane ≡ l.lane
  pub lanes_are : chains.lanes ≡ l.lanes
  pub sheet_is : chains.sheet ≡ s
  pub sound : IsSound s
  pub place : live_place s.slots v ≡ Some t
  pub of_lane : number % l.lanes ≡ l.lane
  pub holds : holder (column s.slots (place_of l number)) t ≡ Some h

module _ (l : LaneOf) (s : Sheet) (v t number h : ℕ) (chains : Chains) (x : ShownIn l s v t number h chains) where
  pub holder_shown : (n : ℕ) → n ≡ number → HasHolder chains (live_place chains.sheet.slots v) n
  holder_shown n e = record {
    sound = subst IsSound (sym x.sheet_is) x.sound;
    of_lane = (λ i. e i % x.lanes_are i) ∙ (x.of_lane ∙ sym x.lane_is);
    slot = t;
    there = ap (λ (z : Sheet). live_place z.slots v) x.sheet_is ∙ x.place;
    source = h;
    holds = (λ i. holder (column (x.sheet_is i).slots (e i / x.lanes_are i)) t) ∙ x.holds;
  }

  pub volume_shown : (from n : ℕ) → n ≡ number → IsOfHolder chains (live_place chains.sheet.slots v) n from → from ≡ (slot_at s.slots h).volume
  unfolding holder_shown
  volume_shown from n e is =
      let y = holder_shown n e in
      is t h y.there y.holds ∙ ap (λ (z : Sheet). (slot_at z.slots h).volume) x.sheet_is

-- a read reaches no grain
ended_rooms : (old new : GrainsState) (from place : ℕ) (end : GrainRead) → is_there old.volumes from ≡ true → GrainEnds old from place end new → SameRooms old.volumes new.volumes
ended_rooms old new from place Done t e = (read_done old new from place false t e.1).rooms_same
ended_rooms old new from place IsLost t e = ap (λ (s : GrainsState). rooms_of s.volumes) e.1
ended_rooms old new from place Failed t e = (read_done old new from place true t e.1).rooms_same

-- the holder of the slot that is read
pub record Shown (chains : Chains) (grains : GrainsState) (place number reader : ℕ) : Type 0 where
  pub source : ℕ
  pub holds : holder (column chains.sheet.slots (in_lane chains number)) reader ≡ Some source
  pub from : Source chains.sheet grains.volumes place reader source

module _ (chains : Chains) (grains : GrainsState) (volume number place : ℕ) (can : CanRead chains grains volume number place) where
  pub shown : Shown chains grains place number can.reader
  shown =
      let src = source_at chains.sheet grains.volumes place can.reader can.sound can.sized can.there.there can.there.is_live can.there.inside in
      record {
        source = src.0;
        holds = ap (λ z. holder (column chains.sheet.slots z) can.reader) can.place_is ∙ src.1.holds;
        from = src.1;
      }

  pub can_show : HasHolder chains (live_place chains.sheet.slots volume) number
  can_show = record { sound = can.sound; of_lane = can.of_lane; slot = can.reader; there = can.live; source = shown.source; holds = shown.holds }

  -- a read from its volume
  module _ (from : ℕ) (is : IsOfHolder chains (live_place chains.sheet.slots volume) number from) where
    from_source : (slot_at chains.sheet.slots shown.source).volume ≡ from
    from_source = sym (is can.reader shown.source can.live shown.holds)

    pub from_inside : place < length (volume_of grains.volumes from).contents
    from_inside = subst (λ (v : ℕ). place < length (volume_of grains.volumes v).contents) from_source shown.from.inside

    pub read_ended : (end : GrainRead) (new : GrainsState) → GrainEnds grains from place end new → ReadEnds chains.sheet grains volume place end new
    read_ended end new ends = record {
      reader = can.reader;
      source = shown.source;
      live = can.live;
      there = can.there;
      holds = shown.from.holds;
      is_there = shown.from.there;
      ends = subst (λ (v : ℕ). GrainEnds grains v place end new) (sym from_source) ends;
      rooms = ended_rooms grains new from place end (ap (is_there grains.volumes) (sym from_source) ∙ shown.from.there) ends;
    }

pub read_was : {A E : Type 0} (old new : GrainsState) (from place : ℕ) (answer : Result A E) (failed : Bool) → is_err answer ≡ failed → HasRead old from place (is_err answer) new → HasRead old from place failed new
read_was old new from place answer failed e read = subst (λ (b : Bool). HasRead old from place b new) e read
