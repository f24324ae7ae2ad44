-- The law of presets: a line that wasn't whole leaves no trace.
use Rattle.std.specs.Prelude.{◌≡◌, ℕ, ◌+◌, ◌^◌, ◌<◌, List, [], Option, Ok}
use Rattle.fc_agenda.specs.Goes.{GoesToEnd}
use Rattle.fc_base.specs.declared.command.Command.TheVariants.{Mkpreset}
use Rattle.fc_base.specs.declared.command.Line.TheVariants.{Command as CommandLine}
use Rattle.fc_base.specs.declared.command.Preset.{Preset}
use Rattle.fc_base.specs.declared.name.Ref.{Ref}
use Rattle.fc_base.specs.declared.size.GrainSize.{GrainSize}
use Rattle.fc_entry.specs.declared.entry.Entry.{Entry}
use Rattle.fc_legal.specs.Agenda.{Reading, line_read, session_rules}
use Rattle.fc_legal.specs.Whole.{Whole}
use Rattle.law_presets.specs.Left.{IsAsBefore}
use Rattle.law_presets.specs.Lines.{AreUndone, IsWhole, preset_line}
use Rattle.law_stands.specs.Reached.{IsReached}

pub record PresetsLaw : Type 0 where
  -- a line `mkpreset` asks this
  pub line : (grain : GrainSize) (w : Whole) (source : Ref) (preset : Preset) (name : Option (List ℕ)) →
      line_read grain w (Ok (CommandLine (Mkpreset source preset name))) [] ≡ preset_line grain w source preset name
  -- where it was answered to its end, wasn't whole, and nothing that undoes wanted memory, all is as before it
  pub undone : (grain : GrainSize) (read : Reading) (decisions : ℕ) (w last : Whole) (source : Ref) (preset : Preset)
      (name : Option (List ℕ)) (entries : List Entry) →
      decisions + 10 < 2 ^ 32 → IsReached decisions w →
      GoesToEnd (session_rules grain read) (preset_line grain w source preset name) w entries last →
      (IsWhole entries → ⊥) → AreUndone entries →
      IsAsBefore w.books.tables last.books.tables
