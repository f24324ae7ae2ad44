-- The line that a preset asks first.
use Rattle.std.proofs.Common.{◌≡◌, ℕ, List, [], ◌∷◌, Option, Some, None, Ok, refl, sym, ◌∙◌, ap, subst}
use Rattle.std.specs.Option.{option_map}
use Rattle.std.proofs.lemmas.Option.{none-some}
use Rattle.fc_base.specs.Tables.{Tables, volume_named}
use Rattle.fc_base.specs.declared.behind.Behind.TheVariants.{Mapping as MappingOf}
use Rattle.fc_base.specs.declared.command.Command.{Command}
use Rattle.fc_base.specs.declared.command.Command.TheVariants.{Mkpreset}
use Rattle.fc_base.specs.declared.command.Line.TheVariants.{Command as CommandLine}
use Rattle.fc_base.specs.declared.command.Preset.{Preset}
use Rattle.fc_base.specs.declared.name.Ref.{Ref}
use Rattle.fc_base.specs.declared.request.Request.TheVariants.{Command as Asked}
use Rattle.fc_base.specs.declared.volume.Volume.{Volume}
use Rattle.fc_desk.specs.Control.{ControlState}
use Rattle.fc_legal.specs.Agenda.{Own, line_read}
use Rattle.fc_legal.specs.Presets.{behind_preset, preset_asked, volume_line}
use Rattle.fc_legal.specs.Whole.{Whole}

-- It is that of the volume that the source names.
pub record IsFirst (c : ControlState) (source : Ref) (preset : Preset) (name : Option (List ℕ)) (line : Command) : Type 0 where
  pub volume : Volume
  pub named : volume_named c.tables source ≡ Some volume
  pub line_is : line ≡ volume_line c.grain preset name volume

pub some_named : (c : ControlState) (source : Ref) (preset : Preset) (name : Option (List ℕ)) (line : Command) →
    Some line ≡ option_map (volume_line c.grain preset name) (volume_named c.tables source) → IsFirst c source preset name line
some_named c source preset name line is = by (volume_named c.tables source) refl is
  where
    by : (o : Option Volume) → volume_named c.tables source ≡ o → Some line ≡ option_map (volume_line c.grain preset name) o → IsFirst c source preset name line
    by None named same = absurd (none-some line (sym same))
    by (Some v) named same = record { volume = v; named = named; line_is = cc same }

pub none_named : (c : ControlState) (source : Ref) (preset : Preset) (name : Option (List ℕ)) →
    None ≡ option_map (volume_line c.grain preset name) (volume_named c.tables source) → volume_named c.tables source ≡ None
none_named c source preset name is = by (volume_named c.tables source) is
  where
    by : (o : Option Volume) → None ≡ option_map (volume_line c.grain preset name) o → o ≡ None
    by None none = refl
    by (Some v) none = absurd (none-some (volume_line c.grain preset name v) none)

-- So the preset is read, with these tables.
pub preset_line : (c : ControlState) (w : Whole) (source : Ref) (preset : Preset) (name : Option (List ℕ)) (line : Command) → c.tables ≡ w.books.tables → IsFirst c source preset name line →
    line_read c.grain w (Ok (CommandLine (Mkpreset source preset name))) [] ≡ Own (Asked line ∷ []) (MappingOf source preset name) []
preset_line c w source preset name line tables first =
    let named : volume_named w.books.tables source ≡ Some first.volume = subst (λ (t : Tables). volume_named t source ≡ Some first.volume) tables first.named in
    ap (λ (o : Option Volume). Own (preset_asked c.grain source preset name o) (behind_preset source preset name o) []) named
    ∙ ap (λ (l : Command). Own (Asked l ∷ []) (MappingOf source preset name) []) (sym first.line_is)
