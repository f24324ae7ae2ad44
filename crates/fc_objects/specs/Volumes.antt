-- Why a volume of so many bytes isn't made.
use Rattle.std.specs.Prelude.{ℕ, ◌+◌, ◌/◌, ◌%◌, Bool, not, ◌||◌, ◌==◌, nat_le, nat_lt, List, [], ◌∷◌, length, Option}
use Rattle.fc_base.specs.Grain.{grain_bytes}
use Rattle.fc_base.specs.Tables.{Tables}
use Rattle.fc_base.specs.declared.fault.Kind.TheVariants.{Vdisk}
use Rattle.fc_base.specs.declared.fault.Refusal.{Refusal}
use Rattle.fc_base.specs.declared.fault.Refusal.TheVariants.{Limit, NoDisk, BadValue}
use Rattle.fc_base.specs.declared.fault.ValueOf.TheVariants.{Size}
use Rattle.fc_base.specs.declared.size.GrainSize.{GrainSize}
use Rattle.fc_books.specs.Books.{Books}
use Rattle.fc_books.specs.Refused.{name_taken}
use Rattle.fc_entry.specs.Refused.{first_of, where_, lacks_disk, all_grains}
use Rattle.fc_entry.specs.Volumes.{kind_of}
use Rattle.fc_desk.specs.Refusing.{or_else}

-- For its size.
abbrev pub size_refused : GrainSize → Tables → ℕ → Option Refusal
size_refused grain t bytes =
    first_of
    (where_ ((bytes == 0) || not (bytes % grain_bytes grain == 0)) (BadValue Size)
    ∷ where_ (nat_le 512 (length t.volumes)) (Limit 512)
    ∷ where_ (nat_lt 8192 (all_grains t.volumes + bytes / grain_bytes grain)) (Limit 8192)
    ∷ [])

-- For its size, its name or its disks.
abbrev pub volume_refused : GrainSize → Books → List ℕ → ℕ → Bool → Option Refusal
volume_refused grain b name bytes thin =
    or_else (size_refused grain b.tables bytes)
    (or_else (name_taken b Vdisk name) (where_ (lacks_disk (kind_of thin) b.pools) NoDisk))
