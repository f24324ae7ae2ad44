-- What an actor asks goes by the volumes alone.
use Rattle.std.proofs.Common.{◌≡◌, ℕ, List, [], ◌∷◌, ◌++◌, Option, find, get_or, refl, ap, ◌∙◌}
use Rattle.std.specs.List.{flat_map}
use Rattle.std.proofs.lemmas.List.{append-nil}
use Rattle.fc_base.specs.Tables.{refers_to, volume_named}
use Rattle.fc_base.specs.declared.command.Command.{Command}
use Rattle.fc_base.specs.declared.command.Command.TheVariants.{Read as ReadLine, Write as WriteLine, Mkpreset}
use Rattle.fc_base.specs.declared.command.Line.TheVariants.{Blank, Command as CommandLine, Together, Actor, End}
use Rattle.fc_base.specs.declared.command.Preset.{Preset}
use Rattle.fc_base.specs.declared.command.Role.{Role}
use Rattle.fc_base.specs.declared.command.Role.TheVariants.{Host, Admin, Copier, Cleaner}
use Rattle.fc_base.specs.declared.command.ScriptLine.{ScriptLine}
use Rattle.fc_base.specs.declared.command.ScriptLine.TheVariants.{Read, Unread}
use Rattle.fc_base.specs.declared.fault.Kind.TheVariants.{Vdisk}
use Rattle.fc_base.specs.declared.ids.VolId.{VolId}
use Rattle.fc_base.specs.declared.name.Ref.{Ref}
use Rattle.fc_base.specs.declared.request.Request.{Request}
use Rattle.fc_base.specs.declared.size.GrainSize.{GrainSize}
use Rattle.fc_base.specs.declared.volume.Volume.{Volume}
use Rattle.fc_blocks.specs.declared.block.ActorRead.{ActorRead}
use Rattle.fc_books.specs.Books.{Books}
use Rattle.fc_books.specs.Refused.{of_one}
use Rattle.fc_entry.specs.Refused.{blocks_refusal}
use Rattle.fc_entry.specs.HistoryState.{number_of_actor}
use Rattle.fc_entry.specs.declared.entry.Entry.{Entry}
use Rattle.fc_legal.specs.Asked.{access_requests, access_asked, command_asked, read_in, write_in}
use Rattle.fc_legal.specs.Presets.{preset_asked}
use Rattle.fc_scripts.proofs.Numbers.{differ_law, not_main_law}
use Rattle.fc_scripts.proofs.Through.{asking_law, into_law, through_law}
use Rattle.fc_scripts.specs.Actors.{asks_of, AreAll, AreFirst}
use Rattle.fc_scripts.specs.Law.{ScriptsLaw}
use Rattle.fc_legal.specs.Scripts.{Script, line_asked, asked_as, script_of, scripts_of}

access_fixed : (grain : GrainSize) (b c : Books) (command : Command) (volume : Ref) (block count : ℕ) (request : VolId → ℕ → Request) → b.tables.volumes ≡ c.tables.volumes →
    access_asked grain b command volume block count request ≡ access_asked grain c command volume block count request
access_fixed grain b c command volume block count request e =
    ap (λ (volumes : List Volume). access_requests grain command block count request (of_one Vdisk (find (λ (v : Volume). refers_to volume v.id.0 v.name) volumes) (λ (v : Volume). blocks_refusal grain v block count)) (find (λ (v : Volume). refers_to volume v.id.0 v.name) volumes)) e

preset_fixed : (grain : GrainSize) (b c : Books) (source : Ref) (preset : Preset) (name : Option (List ℕ)) → b.tables.volumes ≡ c.tables.volumes →
    preset_asked grain source preset name (volume_named b.tables source) ≡ preset_asked grain source preset name (volume_named c.tables source)
preset_fixed grain b c source preset name e =
    ap (λ (volumes : List Volume). preset_asked grain source preset name (find (λ (v : Volume). refers_to source v.id.0 v.name) volumes)) e

command_fixed : (grain : GrainSize) (b c : Books) (command : Command) → b.tables.volumes ≡ c.tables.volumes → command_asked grain b command ≡ command_asked grain c command
command_fixed grain b c (ReadLine volume block count) e = access_fixed grain b c (ReadLine volume block count) volume block count (λ id. read_in grain id block count) e
command_fixed grain b c (WriteLine volume block count byte) e = access_fixed grain b c (WriteLine volume block count byte) volume block count (λ id. write_in grain id block count byte) e
command_fixed grain b c (Mkpreset source preset name) e = preset_fixed grain b c source preset name e
command_fixed grain b c command e = refl

line_fixed : (grain : GrainSize) (b c : Books) (line : ScriptLine) → b.tables.volumes ≡ c.tables.volumes → line_asked grain b line ≡ line_asked grain c line
line_fixed grain b c (Read (CommandLine command)) e = command_fixed grain b c command e
line_fixed grain b c (Read Blank) e = refl
line_fixed grain b c (Read Together) e = refl
line_fixed grain b c (Read (Actor name role)) e = refl
line_fixed grain b c (Read End) e = refl
line_fixed grain b c (Unread fault) e = refl

lines_fixed : (grain : GrainSize) (b c : Books) (lines : List ScriptLine) → b.tables.volumes ≡ c.tables.volumes → flat_map (line_asked grain b) lines ≡ flat_map (line_asked grain c) lines
lines_fixed grain b c [] e = refl
lines_fixed grain b c (line ∷ lines) e =
    ap (λ asked. asked ++ flat_map (line_asked grain b) lines) (line_fixed grain b c line e) ∙ ap (λ more. line_asked grain c line ++ more) (lines_fixed grain b c lines e)

asked_fixed : (role : Role) (grain : GrainSize) (lanes : ℕ) (b c : Books) (lines : List ScriptLine) → b.tables.volumes ≡ c.tables.volumes → asked_as role grain lanes b lines ≡ asked_as role grain lanes c lines
asked_fixed Host grain lanes b c lines e = lines_fixed grain b c lines e
asked_fixed Admin grain lanes b c lines e = lines_fixed grain b c lines e
asked_fixed (Copier turns) grain lanes b c lines e = refl
asked_fixed (Cleaner turns) grain lanes b c lines e = refl

scripts_fixed : (grain : GrainSize) (lanes : ℕ) (b c : Books) (names : List (List ℕ)) (actors : List ActorRead) → b.tables.volumes ≡ c.tables.volumes → scripts_of grain lanes b names actors ≡ scripts_of grain lanes c names actors
scripts_fixed grain lanes b c names [] e = refl
scripts_fixed grain lanes b c names (a ∷ actors) e =
    let Of : List Request → Script = λ requests. record { actor = number_of_actor names a.name; requests = requests } in
    ap (λ requests. Of requests ∷ scripts_of grain lanes b names actors) (asked_fixed a.role grain lanes b c a.lines e)
    ∙ ap (λ more. script_of grain lanes c names a ∷ more) (scripts_fixed grain lanes b c names actors e)

all_first : (scripts : List Script) (entries : List Entry) → AreAll scripts entries → AreFirst scripts entries
all_first scripts entries all =
    record {
      left = λ actor. [];
      each = λ k d inside. append-nil (asks_of (get_or scripts k d).actor entries) ∙ all.each k d inside;
      nobody_else = all.nobody_else;
    }

pub scripts_law_holds : ScriptsLaw
scripts_law_holds = record {
  fixed = scripts_fixed;
  differ = differ_law;
  not_main = not_main_law;
  whole = all_first;
  through = through_law;
  into = into_law;
  asking = asking_law;
}
