-- What the read of a grain leaves.
use Rattle.std.specs.Prelude.{◌≡◌, ℕ, ◌/◌, ◌%◌, true, false, Option, Some}
use Rattle.fc_base.specs.Column.{holder}
use Rattle.fc_base.specs.Sheet.{Sheet, slot_at, column, live_place}
use Rattle.fc_base.specs.SheetFacts.{IsSound}
use Rattle.fc_chain.specs.Chains.{Chains, IsOfLane, in_lane}
use Rattle.fc_entry.specs.Picture.{is_lost}
use Rattle.fc_grains.specs.Calls.{HasRead}
use Rattle.fc_grains.specs.Grains.{GrainsState}
use Rattle.fc_grains.specs.Volumes.{is_there, stored}
use Rattle.fc_steps.specs.Moving.{SameRooms}
use Rattle.fc_steps.specs.Standing.{AllSized}
use Rattle.fc_steps.specs.declared.read.GrainRead.{GrainRead}
use Rattle.fc_steps.specs.declared.read.GrainRead.TheVariants.{Done, IsLost, Failed}
use Rattle.fc_pictures.specs.StepsLaw.{IsLiveAt}

-- The slot at this place, if it is one, has a holder of the grain of this number, which is one of the lane's.
pub record HasHolder (chains : Chains) (place : Option ℕ) (number : ℕ) : Type 0 where
  pub sound : IsSound chains.sheet
  pub of_lane : IsOfLane chains number
  pub slot : ℕ
  pub there : place ≡ Some slot
  pub source : ℕ
  pub holds : holder (column chains.sheet.slots (in_lane chains number)) slot ≡ Some source

-- This is the volume of that holder.
abbrev pub IsOfHolder : Chains → Option ℕ → ℕ → ℕ → Type 0
IsOfHolder chains place number volume =
    (k h : ℕ) → place ≡ Some k → holder (column chains.sheet.slots (in_lane chains number)) k ≡ Some h → volume ≡ (slot_at chains.sheet.slots h).volume

-- The volume has the grain of this number, at this place among the lane's.
pub record CanRead (chains : Chains) (grains : GrainsState) (volume number place : ℕ) : Type 0 where
  pub sound : IsSound chains.sheet
  pub sized : AllSized chains.sheet grains.volumes
  pub of_lane : number % chains.lanes ≡ chains.lane
  pub place_is : number / chains.lanes ≡ place
  pub reader : ℕ
  pub live : live_place chains.sheet.slots volume ≡ Some reader
  pub there : IsLiveAt chains.sheet.slots place reader

-- It was read from the disk of this volume; or it is lost, and nothing was done; or the call failed.
abbrev pub GrainEnds : GrainsState → ℕ → ℕ → GrainRead → GrainsState → Type 0
GrainEnds old source place Done new = (is_lost (stored old.volumes source place) ≡ false) × HasRead old source place false new
GrainEnds old source place IsLost new = (is_lost (stored old.volumes source place) ≡ true) × (new ≡ old)
GrainEnds old source place Failed new = (is_lost (stored old.volumes source place) ≡ false) × HasRead old source place true new

-- The volume's live slot was read, from the volume of its holder. This reached no grain.
pub record ReadEnds (sheet : Sheet) (old : GrainsState) (volume place : ℕ) (end : GrainRead) (new : GrainsState) : Type 0 where
  pub reader : ℕ
  pub source : ℕ
  pub live : live_place sheet.slots volume ≡ Some reader
  pub there : IsLiveAt sheet.slots place reader
  pub holds : holder (column sheet.slots place) reader ≡ Some source
  pub is_there : is_there old.volumes (slot_at sheet.slots source).volume ≡ true
  pub ends : GrainEnds old (slot_at sheet.slots source).volume place end new
  pub rooms : SameRooms old.volumes new.volumes
