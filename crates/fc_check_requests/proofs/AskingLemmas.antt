-- What a command asks: an access its grains, and a preset a volume; or itself, where it is refused.
use Rattle.std.proofs.Common.{◌≡◌, ℕ, Option, Some, None, List, [], ◌∷◌, map, refl, sym, ap, ap₂, ◌∙◌}
use Rattle.fc_base.specs.Tables.{volume_named}
use Rattle.fc_base.specs.declared.behind.Behind.{Behind}
use Rattle.fc_base.specs.declared.behind.Behind.TheVariants.{Passing, Mapping as MappingOf}
use Rattle.fc_base.specs.declared.command.Command.{Command}
use Rattle.fc_base.specs.declared.command.Command.TheVariants.{Mkpreset}
use Rattle.fc_base.specs.declared.command.Preset.{Preset}
use Rattle.fc_base.specs.declared.fault.Refusal.{Refusal}
use Rattle.fc_base.specs.declared.ids.VolId.{VolId}
use Rattle.fc_base.specs.declared.name.Ref.{Ref}
use Rattle.fc_base.specs.declared.request.Request.{Request}
use Rattle.fc_base.specs.declared.request.Request.TheVariants.{Command as Asked}
use Rattle.fc_base.specs.declared.size.GrainSize.{GrainSize}
use Rattle.fc_base.specs.declared.volume.Volume.{Volume}
use Rattle.fc_books.specs.Books.{Books}
use Rattle.fc_books.specs.Refused.{access_refused}
use Rattle.fc_check_requests.specs.Accesses.{IsTo, command_of}
use Rattle.fc_check_requests.specs.Requests.{part_asked}
use Rattle.fc_legal.specs.Asked.{access_requests, command_asked, touched}
use Rattle.fc_legal.specs.Presets.{behind_preset, preset_asked, volume_line}

-- ---- accesses

-- the two kinds of accesses are asked alike
abbrev asked_by : GrainSize → Books → Ref → ℕ → ℕ → Option ℕ → Option Refusal → Option Volume → List Request
asked_by grain b volume block count byte refused found =
    access_requests grain (command_of volume block count byte) block count (λ id. part_asked grain id block count byte) refused found

as_access : (grain : GrainSize) (b : Books) (volume : Ref) (block count : ℕ) (byte : Option ℕ) →
    command_asked grain b (command_of volume block count byte) ≡ asked_by grain b volume block count byte (access_refused grain b volume block count) (volume_named b.tables volume)
as_access grain b volume block count None = refl
as_access grain b volume block count (Some byte) = refl

taken_asked : (grain : GrainSize) (b : Books) (volume : Ref) (block count : ℕ) (byte : Option ℕ) (id : VolId) (command : Command) →
    command ≡ command_of volume block count byte →
    IsTo id grain b volume block count →
    map (part_asked grain id block count byte) (touched grain block count) ≡ command_asked grain b command
taken_asked grain b volume block count byte id command is to =
    ap (λ i. map (part_asked grain i block count byte) (touched grain block count)) (sym to.id_is)
    ∙ sym (ap₂ (asked_by grain b volume block count byte) to.taken to.is_named)
    ∙ sym (as_access grain b volume block count byte)
    ∙ ap (command_asked grain b) (sym is)

-- What is asked of an access that isn't refused, over a grain size that is the one told.
pub span_asked : (size grain : GrainSize) (b : Books) (volume : Ref) (block count : ℕ) (byte : Option ℕ) (id : VolId) (command : Command) (requests : List Request) →
    requests ≡ map (part_asked size id block count byte) (touched size block count) →
    command ≡ command_of volume block count byte →
    IsTo id size b volume block count →
    size ≡ grain →
    requests ≡ command_asked grain b command
span_asked size grain b volume block count byte id command requests all is to same =
    let asked : map (part_asked size id block count byte) (touched size block count) ≡ command_asked size b command =
    taken_asked size b volume block count byte id command is to in
    all ∙ asked ∙ ap (λ (s : GrainSize). command_asked s b command) same

-- ---- presets

-- A volume is asked where the source names one, over a grain size that is the one told.
pub volume_asked : (size grain : GrainSize) (b : Books) (source : Ref) (preset : Preset) (name : Option (List ℕ)) (v : Volume) (command line : Command) →
    line ≡ volume_line size preset name v →
    command ≡ Mkpreset source preset name →
    size ≡ grain →
    volume_named b.tables source ≡ Some v →
    Asked line ∷ [] ≡ command_asked grain b command
volume_asked size grain b source preset name v command line is of same found =
    ap (λ (c : Command). Asked c ∷ []) (is ∙ ap (λ (s : GrainSize). volume_line s preset name v) same)
    ∙ sym (ap (preset_asked grain source preset name) found)
    ∙ sym (ap (command_asked grain b) of)

-- Else it is asked itself.
pub itself_asked : (grain : GrainSize) (b : Books) (source : Ref) (preset : Preset) (name : Option (List ℕ)) (command line : Command) →
    line ≡ command →
    command ≡ Mkpreset source preset name →
    volume_named b.tables source ≡ None →
    Asked line ∷ [] ≡ command_asked grain b command
itself_asked grain b source preset name command line same of none =
    ap (λ (c : Command). Asked c ∷ []) (same ∙ of)
    ∙ sym (ap (preset_asked grain source preset name) none)
    ∙ sym (ap (command_asked grain b) of)

-- Behind the volume a mapping is asked, and behind the preset itself nothing.
pub mapping_behind : (from source : Ref) (preset : Preset) (given name : Option (List ℕ)) (v : Volume) (found : Option Volume) →
    from ≡ source →
    given ≡ name →
    found ≡ Some v →
    MappingOf from preset given ≡ behind_preset source preset name found
mapping_behind from source preset given name v found same_ref same_name is =
    ap₂ (λ (r : Ref) (n : Option (List ℕ)). MappingOf r preset n) same_ref same_name ∙ sym (ap (behind_preset source preset name) is)

pub none_behind : (source : Ref) (preset : Preset) (name : Option (List ℕ)) (found : Option Volume) → found ≡ None → Passing 0 ≡ behind_preset source preset name found
none_behind source preset name found is = sym (ap (behind_preset source preset name) is)
