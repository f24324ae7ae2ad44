-- What holds of all that is told after a legal history.
use Rattle.std.specs.Prelude.{◌≡◌, ◌≢◌, ℕ, ◌+◌, ◌*◌, ◌^◌, ◌<◌, ◌≤◌, true, None, List, [], ◌∷◌, length, All, AllPairs, Contains}
use Rattle.fc_base.specs.Sheet.{Slot, slot_at}
use Rattle.fc_base.specs.Tables.{Tables, volume_with}
use Rattle.fc_base.specs.declared.volume.Mapping.{Mapping}
use Rattle.fc_base.specs.declared.volume.Volume.{Volume}
use Rattle.fc_books.specs.Books.{Books}
use Rattle.fc_books.specs.Sound.{AreSound, HasGrains}
use Rattle.fc_changed.specs.Row.{Row}
use Rattle.fc_entry.specs.Picture.{Picture}
use Rattle.fc_legal.specs.Whole.{Whole, lanes}

-- Plain volumes are those of the table, in its order, with its grains.
abbrev pub ArePlain : List Volume → Picture → Type 0
ArePlain [] [] = Unit {0}
ArePlain (v ∷ vs) (p ∷ ps) = (p.volume ≡ v.id) × (length p.now ≡ v.grains) × (length p.under ≡ v.grains) × ArePlain vs ps
ArePlain vs ps = ⊥

-- After so many decisions there are few ids, births and mappings.
pub record AreFew (b : Books) (decisions : ℕ) : Type 0 where
  pub volumes : b.next_volume ≤ decisions
  pub mappings : b.next_mapping ≤ decisions
  pub groups : b.next_group ≤ decisions + 1
  pub births : b.sheet.births ≤ decisions * 2 ^ 20
  pub at_once : length b.tables.mappings ≤ 512
  pub volumes_at_once : length b.tables.volumes ≤ 512

-- A live slot that is no mapping's is first in its chain.
abbrev pub AreFirst : List Slot → Type 0
AreFirst slots =
    (j k : ℕ) → j < length slots → k < length slots → (slot_at slots k).is_live ≡ true → (slot_at slots k).mapping ≡ None → (slot_at slots j).chain ≡ (slot_at slots k).chain → k ≤ j

-- There is a lane, and pools, faults and calls are told of each.
pub record AreLanes (w : Whole) : Type 0 where
  pub some : 0 < lanes w
  pub pools : length w.books.pools ≡ lanes w
  pub calls : length w.calls ≡ lanes w

-- A mapping that is followed is an incremental one of the table, with its volumes and as many grains as they have; and no two rows
-- are of one mapping.
pub record IsOfMapping (t : Tables) (row : Row) : Type 0 where
  pub mapping : Mapping
  pub there : Contains t.mappings mapping
  pub id_is : mapping.id.0 ≡ row.map
  pub source_is : mapping.source.0 ≡ row.source
  pub target_is : mapping.target.0 ≡ row.target
  pub incremental : mapping.incremental ≡ true
  pub size : HasGrains (volume_with t mapping.target) (length row.same)

pub record AreRows (t : Tables) (rows : List Row) : Type 0 where
  pub each : All (IsOfMapping t) rows
  pub distinct : AllPairs (λ (x y : Row). x.map ≢ y.map) rows

pub record Stands (decisions : ℕ) (w : Whole) : Type 0 where
  pub sound : AreSound w.books
  pub few : AreFew w.books decisions
  pub plain : ArePlain w.books.tables.volumes w.picture
  pub each_lane : AreLanes w
  pub firsts : AreFirst w.books.sheet.slots
  pub rows : AreRows w.books.tables w.rows
