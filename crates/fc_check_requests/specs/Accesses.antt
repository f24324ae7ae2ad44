-- Reads and writes of blocks: the volume that they are to, and their grains.
use Rattle.std.specs.Prelude.{◌≡◌, ◌≢◌, ℕ, ◌<◌, ◌≤◌, ◌+◌, ◌*◌, ◌^◌, Option, Some, None, map}
use Rattle.fc_base.specs.Grain.{grain_blocks}
use Rattle.fc_base.specs.Tables.{volume_named}
use Rattle.fc_base.specs.declared.command.Command.{Command}
use Rattle.fc_base.specs.declared.command.Command.TheVariants.{Read, Write}
use Rattle.fc_base.specs.declared.ids.VolId.{VolId}
use Rattle.fc_base.specs.declared.name.Ref.{Ref}
use Rattle.fc_base.specs.declared.size.GrainSize.{GrainSize}
use Rattle.fc_base.specs.declared.volume.Volume.{Volume}
use Rattle.fc_books.specs.Books.{Books}
use Rattle.fc_books.specs.Refused.{access_refused}
use Rattle.fc_check_requests.specs.Requests.{part_asked, span_left}
use Rattle.fc_check_requests.specs.declared.span.Span.{Span}
use Rattle.fc_legal.specs.Asked.{touched}

-- The command that asks for it: a read, or a write with this byte.
abbrev pub command_of : Ref → ℕ → ℕ → Option ℕ → Command
command_of volume block count None = Read volume block count
command_of volume block count (Some byte) = Write volume block count byte

-- So many blocks from this one on lie inside a volume of so many grains, and aren't more than an access may have.
pub record AreInside (grain : GrainSize) (grains block count : ℕ) : Type 0 where
  pub some : 0 < count
  pub few : count ≤ 8192
  pub inside : block + count ≤ grains * grain_blocks grain

-- It isn't refused, and to this volume; or it is refused.
pub record IsTo (id : VolId) (grain : GrainSize) (b : Books) (volume : Ref) (block count : ℕ) : Type 0 where
  pub of : Volume
  pub is_named : volume_named b.tables volume ≡ Some of
  pub id_is : of.id ≡ id
  pub taken : access_refused grain b volume block count ≡ None
  pub some : 0 < count
  pub few : count ≤ 8192

abbrev pub IsAccessed : Option VolId → GrainSize → Books → Ref → ℕ → ℕ → Type 0
IsAccessed None grain b volume block count = access_refused grain b volume block count ≢ None
IsAccessed (Some id) grain b volume block count = IsTo id grain b volume block count

-- All grains that it touches are left, one or more.
pub record IsSpanOf (grain : GrainSize) (id : VolId) (block count : ℕ) (byte : Option ℕ) (s : Span) : Type 0 where
  pub left : span_left s ≡ map (part_asked grain id block count byte) (touched grain block count)
  pub some : 0 < s.left
  pub counted : s.next + s.left ≤ 2 ^ 32
