use Rattle.std.proofs.Common.{sym, ◌∙◌, ◌≤◌, ap, fold, subst}
use Rattle.fc_books.specs.After.{flags_after}
use Rattle.fc_desk.specs.Applied.{changed}
use Rattle.fc_desk.specs.Changes.{works}
use Rattle.fc_desk.proofs.Applying.{still_room, applied_books, applied_tables, applied_grain}
use Rattle.fc_desk.proofs.control.Control.apply.Goals as goal

pub apply_events-requires : goal.apply_events-requires
apply_events-requires c = record {
  room = still_room c.args.self.now c.apply_changes.new.self c.apply_changes.new.self c.as_slice.result.now c.as_slice-2.result.now c.apply_changes.ensures (works c.as_slice-2.result.now)
      (subst (λ es. works es ≤ c.args.self.now.room) (sym c.as_slice-2.ensures) c.requires.ready.room);
}

pub returns-clause-books : goal.returns-clause-books
returns-clause-books c =
    applied_books c.args.self.now c.apply_changes.new.self c.apply_events.new.self c.args.decision.now.changes c.args.decision.now.events
    (c.apply_changes.ensures ∙ ap (fold changed c.args.self.now) c.as_slice.ensures) c.apply_events.ensures.same
    (c.apply_events.ensures.flags ∙ ap (fold flags_after c.apply_changes.new.self.flags) c.as_slice-2.ensures)

pub returns-clause-tables : goal.returns-clause-tables
returns-clause-tables c =
    applied_tables c.args.self.now c.apply_changes.new.self c.apply_events.new.self c.args.decision.now.changes c.args.decision.now.events
    (c.apply_changes.ensures ∙ ap (fold changed c.args.self.now) c.as_slice.ensures) c.apply_events.ensures.same

pub returns-clause-grain : goal.returns-clause-grain
returns-clause-grain c =
    applied_grain c.args.self.now c.apply_changes.new.self c.apply_events.new.self c.args.decision.now.changes c.args.decision.now.events
    (c.apply_changes.ensures ∙ ap (fold changed c.args.self.now) c.as_slice.ensures) c.apply_events.ensures.same
