-- The least volume on a loop, and the way from there.
use Rattle.std.specs.Prelude.{◌≡◌, ◌⊎◌, ℕ, ◌<◌, ◌≤◌, Option, Some, None, List, length, Contains, slice_index_or}
use Rattle.fc_base.specs.Sheet.{Slot, slot_at, shape_of}
use Rattle.fc_base.specs.SheetView.{LoopAnswer}
use Rattle.fc_base.specs.declared.ids.VolId.{VolId}
use Rattle.fc_loops.specs.Routes.{RouteBy}
use Rattle.fc_check_sheet.specs.declared.distances.Distance.{Distance}
use Rattle.fc_check_sheet.specs.declared.links.Link.{Link}
use Rattle.fc_check_sheet.specs.Distances.{distance_in}
use Rattle.fc_check_sheet.specs.Links.{AreEdges, HasLink}

abbrev pub IsLess : ℕ → Option ℕ → Type 0
IsLess v None = Unit {0}
IsLess v (Some least) = v < least

-- The volumes of all slots are among these.
abbrev pub HasVolumes : List Slot → List ℕ → Type 0
HasVolumes slots volumes = (k : ℕ) → k < length slots → Contains volumes (slot_at slots k).volume

-- A link leads from the volume.
abbrev pub LeadsOn : List Link → ℕ → Type 0
LeadsOn links v = (w : ℕ) × HasLink links v w

-- A way leads from the volume back to it.
abbrev pub IsOnLoop : (ℕ → ℕ → Type 0) → ℕ → Type 0
IsOnLoop E v = (xs : List ℕ) × RouteBy E v xs v

-- The least of the first volumes that are on a loop, or none.
pub record IsLeastOnLoop (E : ℕ → ℕ → Type 0) (volumes : List ℕ) (bound v : ℕ) : Type 0 where
  pub on_loop : IsOnLoop E v
  pub least : (k : ℕ) → k < bound → IsOnLoop E (slice_index_or volumes k 0) → v ≤ slice_index_or volumes k 0

abbrev pub LeastOnLoop : (ℕ → ℕ → Type 0) → List ℕ → ℕ → Option ℕ → Type 0
LeastOnLoop E volumes bound None = (k : ℕ) → k < bound → IsOnLoop E (slice_index_or volumes k 0) → ⊥
LeastOnLoop E volumes bound (Some v) = IsLeastOnLoop E volumes bound v

-- The volume is less than the least so far and on a loop, and takes its place; or that stays.
abbrev pub TriesLoop : (ℕ → ℕ → Type 0) → ℕ → Option ℕ → Option ℕ → Type 0
TriesLoop E v least new = (IsLess v least × IsOnLoop E v × (new ≡ Some v)) ⊎ ((IsLess v least → IsOnLoop E v → ⊥) × (new ≡ least))

-- A link leads from here to a volume that is so far away and less than the least so far.
abbrev pub Betters : Link → List Distance → ℕ → ℕ → Option ℕ → Type 0
Betters link distances here away next = (link.from ≡ here) × IsLess link.to next × (distance_in distances link.to ≡ Some away)

-- One of the first links leads from here to the volume, which is so far away.
pub record IsStep (links : List Link) (distances : List Distance) (here away bound v : ℕ) : Type 0 where
  pub at : ℕ
  pub below : at < bound
  pub link : slice_index_or links at (record { from = 0; to = 0 }) ≡ record { from = here; to = v }
  pub away_is : distance_in distances v ≡ Some away

-- The least such volume, or none.
pub record IsLeastNext (links : List Link) (distances : List Distance) (here away bound v : ℕ) : Type 0 where
  pub step : IsStep links distances here away bound v
  pub least : (w : ℕ) → IsStep links distances here away bound w → v ≤ w

abbrev pub LeastNext : List Link → List Distance → ℕ → ℕ → ℕ → Option ℕ → Type 0
LeastNext links distances here away bound None = (v : ℕ) → IsStep links distances here away bound v → ⊥
LeastNext links distances here away bound (Some v) = IsLeastNext links distances here away bound v

-- The loop that is told of chains whose edges are these links, and whose volumes are all among these.
abbrev pub ToldOfLinks : List Link → List ℕ → Option (List VolId) → Type 0
ToldOfLinks links volumes found = (slots : List Slot) → AreEdges (shape_of slots) links → HasVolumes slots volumes → LoopAnswer (shape_of slots) found
