-- The volumes that have old rows, and the links that chains make between them.
use Rattle.std.specs.Prelude.{◌≡◌, ◌≢◌, ◌⊎◌, ℕ, ◌<◌, ◌≤◌, true, false, Option, Some, None, List, [], ◌∷◌, ◌++◌, length, slice_index_or}
use Rattle.fc_loops.specs.declared.loops.Link.{Link}
use Rattle.fc_loops.specs.declared.rows.Row.{Row}
use Rattle.fc_loops.specs.Links.{HasLink}
use Rattle.fc_loops.specs.Rows.{row_at}

-- The rows of one chain stand together.
abbrev pub AreTogether : List Row → Type 0
AreTogether rows = (i j k : ℕ) → i < j → j < k → k < length rows → (row_at rows i).chain ≡ (row_at rows k).chain → (row_at rows j).chain ≡ (row_at rows k).chain

abbrev pub volume_at : List ℕ → ℕ → ℕ
volume_at volumes k = slice_index_or volumes k 0

-- One of the first rows is an old one of the volume.
pub record HasOld (rows : List Row) (bound v : ℕ) : Type 0 where
  pub at : ℕ
  pub there : at < bound
  pub is_old : (row_at rows at).is_live ≡ false
  pub of_volume : (row_at rows at).volume ≡ v

-- The volume stands in the list.
pub record IsListedAt (volumes : List ℕ) (v at : ℕ) : Type 0 where
  pub there : at < length volumes
  pub is : volume_at volumes at ≡ v

abbrev pub IsListed : List ℕ → ℕ → Type 0
IsListed volumes v = (at : ℕ) × IsListedAt volumes v at

abbrev pub FoundNode : List ℕ → ℕ → Option ℕ → Type 0
FoundNode volumes v None = (at : ℕ) → IsListedAt volumes v at → ⊥
FoundNode volumes v (Some at) = IsListedAt volumes v at

abbrev pub IsRising : List ℕ → Type 0
IsRising volumes = (i j : ℕ) → i < j → j < length volumes → volume_at volumes i < volume_at volumes j

abbrev pub NeverFalls : List ℕ → Type 0
NeverFalls volumes = (i j : ℕ) → i ≤ j → j < length volumes → volume_at volumes i ≤ volume_at volumes j

-- The volumes in rising order, each once, with all that have an old row.
pub record AreOldVolumes (rows : List Row) (volumes : List ℕ) : Type 0 where
  pub rising : IsRising volumes
  pub all : (v : ℕ) → HasOld rows (length rows) v → IsListed volumes v

-- An old row and a live one behind it in its chain join two volumes of the list.
pub record IsJoin (rows : List Row) (volumes : List ℕ) (old live i j : ℕ) : Type 0 where
  pub before : old < live
  pub there : live < length rows
  pub one_chain : (row_at rows old).chain ≡ (row_at rows live).chain
  pub old_is_old : (row_at rows old).is_live ≡ false
  pub live_is_live : (row_at rows live).is_live ≡ true
  pub from_is : IsListedAt volumes (row_at rows old).volume i
  pub to_is : IsListedAt volumes (row_at rows live).volume j
  pub other : i ≢ j

-- The node to which a row is linked that stands behind an old row of the one node.
pub record IsLinkedTo (row : Row) (volumes : List ℕ) (from to : ℕ) : Type 0 where
  pub live : row.is_live ≡ true
  pub to_is : IsListedAt volumes row.volume to
  pub other : from ≢ to

abbrev pub LinkedTo : Row → List ℕ → ℕ → Option ℕ → Type 0
LinkedTo row volumes from None = (to : ℕ) → IsLinkedTo row volumes from to → ⊥
LinkedTo row volumes from (Some to) = IsLinkedTo row volumes from to

abbrev pub with_link : List Link → ℕ → Option ℕ → List Link
with_link links from None = links
with_link links from (Some to) = links ++ (record { from = from; to = to }) ∷ []

-- An old row of the same volume stands before the row in its chain.
pub record IsRepeated (rows : List Row) (place : ℕ) : Type 0 where
  pub at : ℕ
  pub before : at < place
  pub one_chain : (row_at rows at).chain ≡ (row_at rows place).chain
  pub is_old : (row_at rows at).is_live ≡ false
  pub of_volume : (row_at rows at).volume ≡ (row_at rows place).volume

-- The pair of rows stands among the first.
abbrev pub IsDone : ℕ → ℕ → ℕ → ℕ → Type 0
IsDone place behind old live = (old < place) ⊎ ((old ≡ place) × (live < behind))

-- The links are those that the first pairs of rows make.
pub record AreLinked (rows : List Row) (volumes : List ℕ) (links : List Link) (place behind : ℕ) : Type 0 where
  pub only : (v w : ℕ) → HasLink links v w → (old : ℕ) × (live : ℕ) × IsJoin rows volumes old live v w
  pub all : (old live i j : ℕ) → IsJoin rows volumes old live i j → IsDone place behind old live → HasLink links i j

abbrev pub AllBelow : ℕ → List ℕ → Type 0
AllBelow bound nodes = (k : ℕ) → k < length nodes → slice_index_or nodes k 0 < bound
