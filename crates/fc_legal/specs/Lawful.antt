-- What decisions keep to, so that lanes and tables can do them.
use Rattle.std.specs.Prelude.{◌≡◌, ℕ, ◌+◌, ◌^◌, ◌<◌, All, List, [], ◌∷◌, fold}
use Rattle.fc_base.specs.Pools.{Pool, of_kind}
use Rattle.fc_base.specs.SheetFits.{FitsEvent}
use Rattle.fc_base.specs.Tables.{Tables, Fits, after_change}
use Rattle.fc_base.specs.declared.decision.Decision.{Decision}
use Rattle.fc_base.specs.declared.decision.LaneEvent.{LaneEvent}
use Rattle.fc_base.specs.declared.decision.LaneEvent.TheVariants.{Make}
use Rattle.fc_base.specs.declared.size.GrainSize.{GrainSize}
use Rattle.fc_base.specs.declared.volume.Change.{Change}
use Rattle.fc_books.specs.After.{pools_after}
use Rattle.fc_follow.specs.Following.{Followed, FitsRows, TriggersFirst, followed_event}
use Rattle.fc_legal.specs.Steps.{left_by}
use Rattle.fc_legal.specs.Whole.{Whole, single_lane, all_followed, volumes_told}
use Rattle.fc_rules.specs.LaneFits.{WorksFirst}
use Rattle.fc_rules.specs.LaneTold.{LaneVolume, volumes_event}
use Rattle.fc_legal.specs.Stands.{Stands}

-- A volume that comes has an id above those that are there, and each lane has a disk for it.
abbrev pub HasDisks : List Pool → List LaneVolume → LaneEvent → Type 0
HasDisks pools volumes (Make volume grains kind) =
    All (λ (pool : Pool). 0 < of_kind kind pool) pools × All (λ (v : LaneVolume). v.volume.0 < volume.0) volumes
HasDisks pools volumes event = Unit {0}

abbrev pub HaveDisks : List Pool → List LaneVolume → List LaneEvent → Type 0
HaveDisks pools volumes [] = Unit {0}
HaveDisks pools volumes (e ∷ es) = HasDisks pools volumes e × HaveDisks (pools_after pools e) (volumes_event volumes e) es

-- Changes fit the tables, each after those before it.
abbrev pub FitChanges : Tables → List Change → Type 0
FitChanges t [] = Unit {0}
FitChanges t (change ∷ changes) = Fits t change × FitChanges (after_change t change) changes

-- Events fit the chains and what is kept of incremental mappings, each after those before it, with the births after them below
-- 2^64.
abbrev pub FitAsOne : GrainSize → Followed → List LaneEvent → Type 0
FitAsOne grain f [] = f.told.sheet.births < 2 ^ 64
FitAsOne grain f (e ∷ es) = FitsEvent f.told.sheet e × FitsRows f.rows e × FitAsOne grain (followed_event (single_lane grain) f e) es

-- A decision on what is told: its events fit the chains, disks and background work, and tell the lane of all grains what the
-- decision leaves; its changes fit the tables; and all still stands.
pub record IsLawful (grain : GrainSize) (decisions : ℕ) (w : Whole) (d : Decision) : Type 0 where
  pub events : FitAsOne grain (all_followed w) d.events
  pub disks : HaveDisks w.books.pools (volumes_told w.books.tables) d.events
  pub works : WorksFirst d.events
  pub triggers : TriggersFirst d.events
  pub changes : FitChanges w.books.tables d.changes
  pub told : fold (followed_event (single_lane grain)) (all_followed w) d.events ≡ all_followed (left_by grain w d)
  pub stands : Stands (decisions + 1) (left_by grain w d)
