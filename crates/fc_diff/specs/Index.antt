-- How the rows are found, those that stand ready among them.
use Rattle.std.specs.Prelude.{◌≡◌, ◌≢◌, ℕ, zero, suc, Bool, true, ◌==◌, if◌then◌else◌, List, [], ◌∷◌, map, take, drop, length, replicate, All, AllPairs, Vec}
use Rattle.std.specs.List.{list_any}
use Rattle.fc_changed.specs.Row.{Row}
use Rattle.fc_diff.specs.State.{NewRow, ChangesState}

-- ---- The mappings that name a volume

-- the list beside the volume; none, where it isn't there
abbrev pub list_of : List ℕ → List (List ℕ) → ℕ → List ℕ
list_of [] lists volume = []
list_of (v ∷ volumes) [] volume = []
list_of (v ∷ volumes) (list ∷ lists) volume = if volume == v then list else list_of volumes lists volume

-- the volumes that some mapping names, and beside each the mappings
pub record Listing : Type 0 where
  pub volumes : List ℕ
  pub lists : List (List ℕ)

abbrev pub named_by : Listing → ℕ → List ℕ
named_by listing volume = list_of listing.volumes listing.lists volume

abbrev pub numbers : {Z : Type 0} → List (Vec ℕ Z) → List (List ℕ)
numbers lists = map (λ list. list.items) lists

abbrev pub is_listed : ℕ → List ℕ → Bool
is_listed m list = list_any (λ k. m == k) list

-- ---- The rows

abbrev pub map_numbers : List Row → List ℕ
map_numbers rows = map (λ row. row.map) rows

-- what counts of a row that stands ready
abbrev pub new_of : Row → NewRow
new_of row = record { map = row.map; source = row.source; target = row.target; grains = length row.same }

-- The first so many of the rows are followed; the others stand ready.
abbrev pub state_of : ℕ → List Row → ChangesState
state_of followed rows = record { rows = take followed rows; ready = map new_of (drop followed rows) }

-- the row at this place has its first trigger
abbrev pub begun : Row → Row
begun row = record row { into = row.target; same = replicate (length row.same) true }

abbrev pub begun_at : ℕ → List Row → List Row
begun_at place [] = []
begun_at zero (row ∷ rows) = begun row ∷ rows
begun_at (suc place) (row ∷ rows) = row ∷ begun_at place rows

-- The numbers of the mappings stand beside the rows, no two rows are of one mapping, and each is listed with both volumes
-- that it names.
pub record IsFound (ids : List ℕ) (namers : Listing) (rows : List Row) : Type 0 where
  pub beside : ids ≡ map_numbers rows
  pub distinct : AllPairs (λ x y. x.map ≢ y.map) rows
  pub by_source : All (λ row. is_listed row.map (named_by namers row.source) ≡ true) rows
  pub by_target : All (λ row. is_listed row.map (named_by namers row.target) ≡ true) rows
