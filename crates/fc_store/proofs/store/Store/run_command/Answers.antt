use Rattle.std.proofs.Common.{◌≡◌, ℕ, Bool, [], ◌∷◌, ◌++◌, Result, length, sym, subst, arith}
use Rattle.std.specs.Prelude.{IfOk}
use Rattle.fc_stands.specs.Store.{StandsFor, StoreView}
use Rattle.fc_entry.specs.HistoryState.{HistoryState}
use Rattle.fc_entry.specs.declared.entry.Entry.{Entry}
use Rattle.fc_entry.specs.declared.stop.Stop.{Stop}
use Rattle.fc_legal.specs.Added.{StaysUp}
use Rattle.fc_legal.specs.Agenda.{is_done}
use Rattle.fc_legal.specs.Whole.{Whole}
use Rattle.fc_stands.specs.Leading.{LeadsOn}
use Rattle.fc_stands.specs.Logged.{Logged, whether_done}
use Rattle.fc_stands.specs.Quiet.{QuietBy}
use Rattle.fc_base.specs.declared.request.Request.TheVariants.{Command as Asked}
use Rattle.fc_stands.proofs.CommandLogs.{IsLoggedAs, log_led, log_quiet}
use Rattle.fc_stands.proofs.Frames.{same_disks}
use Rattle.fc_stands.proofs.Turns.{history_full}
use Rattle.fc_store.proofs.Coming.{volumes_come, volumes_ordered}
use Rattle.fc_store.proofs.store.Store.run_command.Goals as goal

pub returns-then-is_full-clause-answered : goal.returns-then-is_full-clause-answered
returns-then-is_full-clause-answered g c = λ w told.
    let Answers : Result Bool Stop → Type 0 = λ result.
    Logged result whether_done (StandsFor c.args.self.now) c.args.self.now.control.grain w (Asked c.args.command) c.args.history.now c.args.history.now in
    subst Answers (sym c.full.ensures)
    (history_full (StandsFor c.args.self.now) w c.args.history.now told c.requires.room (omega (arith, c.if-is_full.ensures.full)))

pub returns-then-is_full-clause-quiet : goal.returns-then-is_full-clause-quiet
returns-then-is_full-clause-quiet g c = λ quiet.
    let P : Result Bool Stop → Type 0 = λ result. StaysUp result (QuietBy c.args.history.now.entries c.args.self.now) in
    subst P (sym c.full.ensures) quiet

pub command_entry-entry-requires-clause-can : goal.command_entry-entry-requires-clause-can
command_entry-entry-requires-clause-can g c =
    (c.requires.stands.0, c.requires.stands.1.0, omega (arith, c.if-is_full.ensures.room, c.requires.stands.1.1.entries))

-- The entry, with its number, and what is said of it.
numbered : (result : Result Bool Stop) (before after : HistoryState) (entry : Entry) (number : ℕ) (told : Bool) → number ≡ length before.entries → told ≡ is_done entry.reply →
    IfOk result (λ tells. (tells ≡ told) × (after ≡ record before { entries = before.entries ++ record entry { number = number } ∷ [] })) →
    IsLoggedAs result before after (record entry { number = length before.entries })
numbered result before after entry number told is done logged =
    let Says : Bool → Type 0 = λ b. IfOk result (λ tells. (tells ≡ b) × (after ≡ record before { entries = before.entries ++ record entry { number = number } ∷ [] })) in
    subst (λ (n : ℕ). IsLoggedAs result before after (record entry { number = n })) is (subst Says done logged)

pub returns-clause-answered : goal.returns-clause-answered
returns-clause-answered g c = λ w told.
    log_led c.log_telling.result c.command_entry-entry.new.self c.args.self.now.control.grain w c.args.command c.args.history.now c.log_telling.new.history c.command_entry-entry.result
    (c.command_entry-entry.ensures.right w told.0 (omega (arith, c.if-is_full.ensures.room, told.1.entries))) c.command_entry-entry.ensures.asked told.1
    (numbered c.log_telling.result c.args.history.now c.log_telling.new.history c.command_entry-entry.result _ _ c.len.ensures c.is_done-done.ensures c.log_telling.ensures.ok) c.log_telling.ensures.err c.log_telling.ensures.stop

pub returns-clause-disks : goal.returns-clause-disks
returns-clause-disks g c = same_disks c.args.self.now.lanes c.command_entry-entry.new.self.lanes c.command_entry-entry.ensures.lanes

pub returns-clause-quiet : goal.returns-clause-quiet
returns-clause-quiet g c = λ quiet.
    let old : StoreView = c.args.self.now in
    let new : StoreView = c.command_entry-entry.new.self in
    let entry : Entry = c.command_entry-entry.result in
    let w : Whole = c.requires.stands.0 in
    let leads : LeadsOn old.control.grain w entry new = c.command_entry-entry.ensures.right w c.requires.stands.1.0 (omega (arith, c.if-is_full.ensures.room, c.requires.stands.1.1.entries)) in
    log_quiet c.log_telling.result old new c.args.command c.args.history.now c.log_telling.new.history entry
    c.command_entry-entry.ensures.quiet c.command_entry-entry.ensures.asked (volumes_ordered new leads.0 leads.4)
    (volumes_come old new w c.args.command entry c.requires.stands.1.0 leads c.command_entry-entry.ensures.asked.request_is)
    c.command_entry-entry.ensures.lanes c.command_entry-entry.ensures.armed
    (numbered c.log_telling.result c.args.history.now c.log_telling.new.history entry _ _ c.len.ensures c.is_done-done.ensures c.log_telling.ensures.ok) c.log_telling.ensures.stop quiet
