-- Chains, and what is kept of incremental mappings, event by event.
use Rattle.std.specs.Prelude.{fold, List}
use Rattle.fc_base.specs.declared.decision.LaneEvent.{LaneEvent}
use Rattle.fc_books.specs.After.{sheet_after}
use Rattle.fc_follow.specs.Following.{restarts, rows_event}
use Rattle.fc_check_record.specs.declared.chains.Chains.{Chains}

-- An event notes what it does to the chains as they are before it; the new slots of a trigger hold the restart
-- sets before it.
abbrev pub chains_event : Chains → LaneEvent → Chains
chains_event c event =
    record {
      sheet = sheet_after (restarts c.rows) c.sheet event;
      rows = rows_event c.sheet.slots c.rows event;
    }

abbrev pub chains_after : Chains → List LaneEvent → Chains
chains_after c events = fold chains_event c events
