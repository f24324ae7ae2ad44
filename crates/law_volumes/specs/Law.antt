-- The law of volumes: nothing but `mkvdisk` and `rmvdisk` changes the table of volumes, and nobody in a block asks for one of
-- them, nor for a preset, in place of which a `mkvdisk` is asked.
use Rattle.std.specs.Prelude.{◌≡◌, ◌≢◌, ◌⊎◌, ℕ, Bool, true, false, List, Option, Ok, All, Contains}
use Rattle.fc_base.specs.declared.command.Command.{Command}
use Rattle.fc_base.specs.declared.command.Command.TheVariants.{Mkvdisk, Rmvdisk, Mkpreset}
use Rattle.fc_base.specs.declared.command.Line.TheVariants.{Command as CommandLine}
use Rattle.fc_base.specs.declared.command.Scope.{Scope}
use Rattle.fc_base.specs.declared.command.Scope.TheVariants.{Free}
use Rattle.fc_base.specs.declared.decision.Decision.{Decision}
use Rattle.fc_base.specs.declared.fault.Kind.TheVariants.{Vdisk}
use Rattle.fc_base.specs.declared.ids.VolId.{VolId}
use Rattle.fc_base.specs.declared.request.Reply.{Reply}
use Rattle.fc_base.specs.declared.request.Reply.TheVariants.{Made}
use Rattle.fc_base.specs.declared.request.Request.{Request}
use Rattle.fc_base.specs.declared.request.Request.TheVariants.{Command as Asked}
use Rattle.fc_base.specs.declared.size.GrainSize.{GrainSize}
use Rattle.fc_base.specs.declared.volume.Volume.{Volume}
use Rattle.fc_blocks.specs.Segments.{together, cut}
use Rattle.fc_blocks.specs.declared.block.BlockRead.{BlockRead}
use Rattle.fc_books.specs.Books.{Books}
use Rattle.fc_books.specs.Deciding.{settle, decide, after_decision}
use Rattle.fc_entry.specs.declared.entry.Entry.{Entry}
use Rattle.fc_legal.specs.Asked.{asked}
use Rattle.fc_legal.specs.Scripts.{Script, scripts_of}
use Rattle.fc_legal.specs.Steps.{Step}
use Rattle.fc_legal.specs.Whole.{Whole}
use Rattle.fc_words.specs.Lines.{line_of}

-- The commands that make or remove a volume.
abbrev pub is_of_volumes : Command → Bool
is_of_volumes (Mkvdisk name size unit thin) = true
is_of_volumes (Rmvdisk volume) = true
is_of_volumes command = false

-- The commands whose lines ask for one of them: themselves, and a preset.
abbrev pub asks_for_volume : Command → Bool
asks_for_volume (Mkpreset source preset name) = true
asks_for_volume command = is_of_volumes command

-- The requests that do.
abbrev pub asks_of_volumes : Request → Bool
asks_of_volumes (Asked command) = is_of_volumes command
asks_of_volumes request = false

-- A request that was answered so made the volume with this id.
abbrev pub Makes : Request → Reply → ℕ → Type 0
Makes (Asked (Mkvdisk name size unit thin)) (Made Vdisk made) id = made ≡ id
Makes request reply id = ⊥

-- Some requests of which none does.
abbrev pub AskOfNoVolume : List Request → Type 0
AskOfNoVolume requests = All (λ request. asks_of_volumes request ≡ false) requests

-- What a decision leaves has the volumes that were there before it, whatever the restart sets are.
abbrev pub KeepsVolumes : Books → Decision → Type 0
KeepsVolumes b d = (restarts : ℕ → List Bool) → (after_decision restarts b d).tables.volumes ≡ b.tables.volumes

pub record VolumesLaw : Type 0 where
  -- a settling keeps the volumes, and so does what is decided on every command but those two
  pub settled : (b : Books) → KeepsVolumes b (settle b)
  pub decided : (restarts : ℕ → List Bool) (grain : GrainSize) (b : Books) (command : Command) (loop : Option (List VolId)) →
      is_of_volumes command ≡ false → KeepsVolumes b (decide restarts grain b command loop)
  -- so does each entry that is right after what was told, but for those two: a turn, an access, a refusal and a preset among them,
  -- of which an entry stands only where it is refused
  pub steps : (grain : GrainSize) (w : Whole) (entry : Entry) (next : Whole) →
      asks_of_volumes entry.request ≡ false → Step grain w entry next → next.books.tables.volumes ≡ w.books.tables.volumes
  -- and what is there after any entry that is right was there before it, or a `mkvdisk` made it
  pub comes : (grain : GrainSize) (w : Whole) (entry : Entry) (next : Whole) → Step grain w entry next →
      (v : Volume) → Contains next.books.tables.volumes v → Contains w.books.tables.volumes v ⊎ Makes entry.request entry.reply v.id.0
  -- no line in a block is one of those two commands or a preset, and none asks for it
  pub lines : (scope : Scope) (line : List ℕ) (command : Command) →
      scope ≢ Free → line_of scope line ≡ Ok (CommandLine command) → asks_for_volume command ≡ false
  pub lines_ask : (grain : GrainSize) (b : Books) (scope : Scope) (line : List ℕ) →
      scope ≢ Free → AskOfNoVolume (asked grain b (line_of scope line))
  -- so no script of a block's actors asks for it, whatever the lines of the session are
  pub scripts_ask : (lines : List (List ℕ)) (block : BlockRead) (grain : GrainSize) (lanes : ℕ) (b : Books) (names : List (List ℕ)) →
      Contains (cut lines).segments (together block) →
      All (λ (s : Script). AskOfNoVolume s.requests) (scripts_of grain lanes b names block.actors)
