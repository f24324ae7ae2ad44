-- How many links it takes from each volume to one of them.
use Rattle.std.specs.Prelude.{◌≡◌, ◌⊎◌, ℕ, ◌+◌, ◌<◌, ◌≤◌, Bool, true, false, cond, eqb, is_none, Option, Some, None, IsSome, List, [], ◌∷◌, ◌++◌, length, count_by}
use Rattle.fc_loops.specs.Routes.{RouteBy}
use Rattle.fc_check_sheet.specs.declared.distances.Distance.{Distance}
use Rattle.fc_check_sheet.specs.declared.links.Link.{Link}
use Rattle.fc_check_sheet.specs.Links.{HasLink}

-- The distance that is noted of a volume.
abbrev pub distance_in : List Distance → ℕ → Option ℕ
distance_in [] v = None
distance_in (d ∷ ds) v = cond (eqb d.volume v) (Some d.links) (distance_in ds v)

-- A volume is so far away from the start: the start itself by none, another by what is noted.
abbrev pub IsAway : ℕ → ℕ → List Distance → ℕ → Type 0
IsAway start away distances v = ((away ≡ 0) × (v ≡ start)) ⊎ ((0 < away) × (distance_in distances v ≡ Some away))

-- A distance is that of a route.
abbrev pub AreReal : (ℕ → ℕ → Type 0) → ℕ → List Distance → Type 0
AreReal E start distances =
    (v k : ℕ) → distance_in distances v ≡ Some k → (xs : List ℕ) × (length xs + 1 ≡ k) × RouteBy E v xs start

-- A distance is noted, and is no more than so many.
pub record IsWithin (distances : List Distance) (v most : ℕ) : Type 0 where
  pub links : ℕ
  pub noted : distance_in distances v ≡ Some links
  pub near : links ≤ most

-- Distances of so many links or fewer: of each volume from which a route is as short, the least.
pub record AreNear (E : ℕ → ℕ → Type 0) (start away : ℕ) (distances : List Distance) : Type 0 where
  pub low : (v k : ℕ) → distance_in distances v ≡ Some k → k ≤ away
  pub real : AreReal E start distances
  pub near : (v : ℕ) (xs : List ℕ) → length xs + 1 ≤ away → RouteBy E v xs start → IsWithin distances v (length xs + 1)

-- The least distance of each volume from which a route leads to the start, and of no other.
pub record AreDistances (E : ℕ → ℕ → Type 0) (start : ℕ) (distances : List Distance) : Type 0 where
  pub real : AreReal E start distances
  pub near : (v : ℕ) (xs : List ℕ) → RouteBy E v xs start → IsWithin distances v (length xs + 1)

-- A link leads to a volume that is so far away from one without a distance, which gets one; or nothing changes.
abbrev pub NotesLink : Link → ℕ → ℕ → List Distance → List Distance → Bool → Type 0
NotesLink link start away old new true =
    (distance_in old link.from ≡ None) × IsAway start away old link.to × (new ≡ old ++ (record { volume = link.from; links = away + 1 }) ∷ [])
NotesLink link start away old new false =
    (IsSome (distance_in old link.from) ⊎ (IsAway start away old link.to → ⊥)) × (new ≡ old)

-- How many links lead from volumes without a distance.
abbrev pub unnoted : List Link → List Distance → ℕ
unnoted links distances = count_by (λ (l : Link). is_none (distance_in distances l.from)) links

-- The volumes one link further away are noted.
pub record NotesLevel (links : List Link) (start away : ℕ) (old new : List Distance) (noted : Bool) : Type 0 where
  pub near : AreNear (HasLink links) start (away + 1) new
  pub fewer : noted ≡ true → unnoted links new < unnoted links old
  pub longer : noted ≡ true → length old < length new
  pub same : noted ≡ false → new ≡ old
