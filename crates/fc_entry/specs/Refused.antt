-- Refusals in the stated order, and those that a new volume and the blocks of an access may meet.
use Rattle.std.specs.Prelude.{ℕ, ◌+◌, ◌*◌, Bool, ◌==◌, ◌||◌, nat_lt, cond, List, [], ◌∷◌, Option, Some, None, sum, map}
use Rattle.std.specs.List.{list_any}
use Rattle.fc_base.specs.Grain.{grain_blocks}
use Rattle.fc_base.specs.declared.disk.DiskKind.{DiskKind}
use Rattle.fc_base.specs.declared.fault.Refusal.{Refusal}
use Rattle.fc_base.specs.declared.fault.Refusal.TheVariants.{NameTaken, Limit, BadValue}
use Rattle.fc_base.specs.declared.fault.ValueOf.TheVariants.{Blocks}
use Rattle.fc_base.specs.declared.size.GrainSize.{GrainSize}
use Rattle.fc_base.specs.declared.volume.Volume.{Volume}
use Rattle.fc_base.specs.Pools.{Pool, of_kind}

-- the first refusal of a list, if there is one
abbrev pub first_of : List (Option Refusal) → Option Refusal
first_of [] = None
first_of (Some refusal ∷ _) = Some refusal
first_of (None ∷ rest) = first_of rest

-- a refusal where a test says so
abbrev pub where_ : Bool → Refusal → Option Refusal
where_ test refusal = cond test (Some refusal) None

-- `name taken` by the object with this id
abbrev pub taken_by : Option ℕ → Option Refusal
taken_by None = None
taken_by (Some id) = Some (NameTaken id)

-- whether some lane's pool has no disk of the kind
abbrev pub lacks_disk : DiskKind → List Pool → Bool
lacks_disk kind pools = list_any (λ pool. of_kind kind pool == 0) pools

-- the grains of all volumes
abbrev pub all_grains : List Volume → ℕ
all_grains volumes = sum (map (λ v. v.grains) volumes)

-- an access of a volume is refused for more than 8,192 blocks, for none, and for a block past the volume's end
abbrev pub blocks_refusal : GrainSize → Volume → ℕ → ℕ → Option Refusal
blocks_refusal grain volume block count =
    first_of
    (where_ (nat_lt 8192 count) (Limit 8192)
    ∷ where_ ((count == 0) || nat_lt (volume.grains * grain_blocks grain) (block + count)) (BadValue Blocks)
    ∷ [])
