-- When a decision can be done to a record, and what it leaves, part by part.
use Rattle.std.specs.Prelude.{◌≡◌, ◌^◌, ◌<◌, ◌≤◌, List, length, filter, fold, map}
use Rattle.fc_base.specs.SheetView.{SheetView}
use Rattle.fc_base.specs.declared.decision.Decision.{Decision}
use Rattle.fc_books.specs.After.{after_table_change, flags_after}
use Rattle.fc_books.specs.Deciding.{after_decision}
use Rattle.fc_changed.specs.Row.{Row}
use Rattle.fc_check_lane.specs.Known.{Known, size_of}
use Rattle.fc_check_record.specs.Chains.{chains_after}
use Rattle.fc_check_record.specs.declared.chains.Chains.{Chains}
use Rattle.fc_desk.specs.Changes.{AreCountable, FitChanges, adds}
use Rattle.fc_desk.specs.Control.{ControlState, books_of}
use Rattle.fc_entry.specs.PlainStep.{after_effects}
use Rattle.fc_follow.specs.Following.{TriggersFirst, restarts}
use Rattle.fc_legal.specs.Whole.{Whole, volumes_told}

-- Its changes fit the tables; one object comes at most, whose id isn't the last that there is; only the first of
-- its events is a trigger; and after them fewer than 2^64 births were given.
pub record CanBeLeft (w : Whole) (d : Decision) : Type 0 where
  pub fits : FitChanges w.books.tables d.changes
  pub one : length (filter adds d.changes) ≤ 1
  pub countable : AreCountable d.changes
  pub triggers : TriggersFirst d.events
  pub births : (after_decision (restarts w.rows) w.books d).sheet.births < 2 ^ 64

-- The books of a control part after a decision: its changes, and the flags of background work by its events.
abbrev pub AreBooksLeft : ControlState → ControlState → Decision → Type 0
AreBooksLeft c after d =
    (view : SheetView) → books_of after view ≡ record (fold after_table_change (books_of c view) d.changes) { flags = fold flags_after c.flags d.events }

-- What entries of lanes are judged by, with the volumes, sizes and background work of a control part.
abbrev pub renewed : ControlState → Known → Known
renewed c k = record k { volumes = volumes_told c.tables; sizes = map size_of c.tables.volumes; flags = c.flags }

-- Chains and changed grains after a decision.
abbrev pub chains_left : Known → List Row → Decision → Chains
chains_left k rows d = chains_after (record { sheet = k.sheet; rows = rows }) d.events

-- All that entries of lanes are judged by after a decision that made the control part this.
abbrev pub known_left : ControlState → Known → List Row → Decision → Known
known_left c k rows d =
    record (renewed c k) { sheet = (chains_left k rows d).sheet; picture = after_effects k.grain k.picture d.effects }
