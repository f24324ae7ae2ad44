-- The entry of a command, numbered and logged.
use Rattle.std.proofs.Common.{◌≡◌, Bool, [], ◌∷◌, ◌++◌, length, Result, OnErr, IfErr, false, sym, subst}
use Rattle.std.specs.Prelude.{IfOk}
use Rattle.fc_base.specs.declared.command.Command.{Command}
use Rattle.fc_base.specs.declared.request.Request.{Request}
use Rattle.fc_base.specs.declared.request.Request.TheVariants.{Command as Asked}
use Rattle.fc_base.specs.declared.size.GrainSize.{GrainSize}
use Rattle.fc_entry.specs.HistoryState.{HistoryState}
use Rattle.fc_entry.specs.declared.entry.Entry.{Entry}
use Rattle.fc_entry.specs.declared.stop.Stop.{Stop}
use Rattle.fc_entry.specs.declared.stop.Stop.TheVariants.{NoMemory}
use Rattle.fc_lane.specs.Lane.{IsAsked, IsSameLane, KeepsQuiet}
use Rattle.fc_lanes.specs.AllLanes.{EachLane}
use Rattle.fc_legal.specs.Added.{IsOf, StaysUp}
use Rattle.fc_legal.specs.Agenda.{is_done}
use Rattle.fc_legal.specs.Whole.{Whole}
use Rattle.fc_stands.specs.Armed.{ArmsAs}
use Rattle.fc_stands.specs.Arming.{arms}
use Rattle.fc_stands.specs.Leading.{LeadsOn}
use Rattle.fc_stands.specs.Logged.{Logged, whether_done}
use Rattle.fc_stands.specs.Quiet.{QuietBy}
use Rattle.fc_stands.specs.Store.{StoreView, StandsFor}
use Rattle.fc_stands.proofs.Quieting.{each_keeps, quiet_says}
use Rattle.fc_stands.proofs.Turns.{led_turn, turn_says}
use Rattle.fc_stands.proofs.Since.{AreOfOne, ComeBy, command_goes_by}

-- What the call that logs says of it.
abbrev pub IsLoggedAs : Result Bool Stop → HistoryState → HistoryState → Entry → Type 0
IsLoggedAs result before after entry = IfOk result (λ done. (done ≡ is_done entry.reply) × (after ≡ record before { entries = before.entries ++ entry ∷ [] }))

pub log_led : (result : Result Bool Stop) (s : StoreView) (grain : GrainSize) (w : Whole) (command : Command) (before after : HistoryState) (entry : Entry) →
    LeadsOn grain w entry s → IsAsked 0 0 (Asked command) entry → IsOf w before →
    IsLoggedAs result before after (record entry { number = length before.entries }) → OnErr result (after ≡ before) → IfErr result (λ stop. stop ≡ NoMemory) →
    Logged result whether_done (StandsFor s) grain w (Asked command) before after
log_led result s grain w command before after entry leads asked told ok err stop =
    let turn = led_turn s grain w (Asked command) (length before.entries) entry leads (sym told.entries) asked in
    turn_says (StandsFor s) grain w leads.0 (Asked command) before after (record entry { number = length before.entries }) turn told Bool result whether_done ok err stop

pub log_quiet : (result : Result Bool Stop) (old new : StoreView) (command : Command) (before after : HistoryState) (entry : Entry) →
    (arms (Asked command) entry.reply ≡ false → EachLane KeepsQuiet old.lanes new.lanes) → IsAsked 0 0 (Asked command) entry →
    AreOfOne new.control.tables.volumes → ComeBy (Asked command) entry.reply old.control.tables.volumes new.control.tables.volumes →
    EachLane IsSameLane old.lanes new.lanes → EachLane (ArmsAs new.control.tables command entry.reply) old.lanes new.lanes →
    IsLoggedAs result before after (record entry { number = length before.entries }) → IfErr result (λ stop. stop ≡ NoMemory) →
    QuietBy before.entries old → StaysUp result (QuietBy after.entries new)
log_quiet result old new command before after entry keeps asked ordered come same arm ok stop quiet =
    let Unarmed : Request → Type 0 = λ r. arms r entry.reply ≡ false in
    quiet_says result old new before after (record entry { number = length before.entries }) (is_done entry.reply)
    (λ none unarmed. each_keeps old.lanes new.lanes (keeps (subst Unarmed asked.request_is unarmed)) (quiet.quiet none))
    (command_goes_by new.control.tables command (record entry { number = length before.entries }) old.control.tables.volumes old.lanes new.lanes asked.request_is ordered come same arm)
    quiet.armed ok stop
