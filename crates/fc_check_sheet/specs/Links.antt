-- The edges of the restore graph, as a list of links.
use Rattle.std.specs.Prelude.{◌≡◌, ◌≢◌, ◌⊎◌, ℕ, ◌<◌, true, false, List, length, Contains}
use Rattle.fc_base.specs.Column.{Shape}
use Rattle.fc_base.specs.RestoreGraph.{Edge}
use Rattle.fc_base.specs.Sheet.{Slot, slot_at, shape_of}
use Rattle.fc_check_sheet.specs.declared.links.Link.{Link}

-- One of the links leads from the one volume to the other.
abbrev pub HasLink : List Link → ℕ → ℕ → Type 0
HasLink links v w = Contains links (record { from = v; to = w })

-- The links are those edges.
pub record AreEdges (s : Shape) (links : List Link) : Type 0 where
  pub only : (v w : ℕ) → HasLink links v w → Edge s v w
  pub all : (v w : ℕ) → Edge s v w → HasLink links v w

-- Two slots that make an edge.
pub record IsEdgeAt (slots : List Slot) (old live : ℕ) : Type 0 where
  pub before : old < live
  pub old_is_old : (slot_at slots old).is_live ≡ false
  pub live_is_live : (slot_at slots live).is_live ≡ true
  pub one_chain : (slot_at slots old).chain ≡ (slot_at slots live).chain
  pub other : (slot_at slots old).volume ≢ (slot_at slots live).volume

-- The edges that one old slot makes with the first slots are added, and no others.
pub record AddsFirst (slots : List Slot) (old bound : ℕ) (before after : List Link) : Type 0 where
  pub kept : (v w : ℕ) → HasLink before v w → HasLink after v w
  pub only : (v w : ℕ) → HasLink after v w → HasLink before v w ⊎ Edge (shape_of slots) v w
  pub added : (live : ℕ) → live < bound → IsEdgeAt slots old live → HasLink after (slot_at slots old).volume (slot_at slots live).volume

-- Those that it makes with all slots.
abbrev pub AddsLinks : List Slot → ℕ → List Link → List Link → Type 0
AddsLinks slots old before after = AddsFirst slots old (length slots) before after
