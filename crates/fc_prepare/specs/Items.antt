-- What the lines of an actor ask, as items of its script.
use Rattle.std.specs.Prelude.{◌≡◌, ℕ, ◌+◌, ◌-◌, Bool, true, false, List, [], Option, Some, None, All, flat_map}
use Rattle.fc_actors.specs.Scripts.{ItemSuits, item_left}
use Rattle.fc_actors.specs.declared.script.Item.{Item}
use Rattle.fc_actors.specs.declared.span.Span.{Span}
use Rattle.fc_base.specs.declared.command.Command.{Command}
use Rattle.fc_base.specs.declared.command.Command.TheVariants.{Armfault}
use Rattle.fc_base.specs.declared.command.Line.TheVariants.{Command as CommandLine}
use Rattle.fc_base.specs.declared.command.ScriptLine.{ScriptLine}
use Rattle.fc_base.specs.declared.command.ScriptLine.TheVariants.{Read}
use Rattle.fc_base.specs.declared.ids.VolId.{VolId}
use Rattle.fc_base.specs.declared.size.GrainSize.{GrainSize}
use Rattle.fc_books.specs.Books.{Books}
use Rattle.fc_desk.specs.Control.{ControlState}
use Rattle.fc_entry.specs.Picture.{grain_of_block}
use Rattle.fc_lanes.specs.declared.access.Access.{Access}
use Rattle.fc_legal.specs.Scripts.{line_asked}
use Rattle.fc_shares.specs.Situation.{Situation}
use Rattle.law_volumes.specs.Law.{asks_for_volume}

-- ---- lines of actors

-- A command that arms a fault.
abbrev pub arms_fault : Command → Bool
arms_fault (Armfault volume grain calls) = true
arms_fault command = false

-- A line as it stands under an actor: no command in it asks to make or remove a volume, as a preset does, or arms a fault.
abbrev pub IsOfActor : ScriptLine → Type 0
IsOfActor (Read (CommandLine command)) = (asks_for_volume command ≡ false) × (arms_fault command ≡ false)
IsOfActor line = Unit {0}

-- ---- items

-- An access of which all grains are left.
abbrev pub whole_span : GrainSize → Access → VolId → ℕ → ℕ → Span
whole_span grain access volume block count =
    record {
      access = access;
      volume = volume;
      block = block;
      count = count;
      next = grain_of_block grain block;
      end = grain_of_block grain (block + count - 1) + 1;
    }

-- What is told is told with the objects and the grain size of a control part.
pub record IsToldBy (c : ControlState) (s : Situation) : Type 0 where
  pub grain : s.grain ≡ c.grain
  pub tables : s.whole.books.tables ≡ c.tables

-- The item asks what the line asks, and can be done.
pub record IsItemOf (c : ControlState) (line : ScriptLine) (item : Item) : Type 0 where
  pub asked : (b : Books) → b.tables ≡ c.tables → item_left c.grain item ≡ line_asked c.grain b line
  pub suits : (s : Situation) → IsToldBy c s → IsOfActor line → ItemSuits s item

-- A line that asks nothing has no item.
abbrev pub IsItemIf : ControlState → ScriptLine → Option Item → Type 0
IsItemIf c line None = (b : Books) → line_asked c.grain b line ≡ []
IsItemIf c line (Some item) = IsItemOf c line item

-- The items ask, in order, what the lines ask, and can be done.
pub record AreItemsOf (c : ControlState) (lines : List ScriptLine) (items : List Item) : Type 0 where
  pub asked : (b : Books) → b.tables ≡ c.tables → flat_map (item_left c.grain) items ≡ flat_map (line_asked c.grain b) lines
  pub suit : (s : Situation) → IsToldBy c s → All IsOfActor lines → All (ItemSuits s) items
