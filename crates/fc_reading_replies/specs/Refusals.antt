-- Why a command was refused, read from the left as far as the end of the reply's line. No fault of words is
-- among it.
use Rattle.std.specs.Prelude.{ℕ, ◌-◌, ◌/◌, ◌%◌, ◌==◌, Bool, if◌then◌else◌, nat_lt, List, [], ◌∷◌, Result, codes}
use Rattle.fc_base.specs.declared.fault.Kind.{Kind}
use Rattle.fc_base.specs.declared.fault.Kind.TheVariants.{Vdisk, Fcmap, Group}
use Rattle.fc_base.specs.declared.fault.Refusal.{Refusal}
use Rattle.fc_base.specs.declared.fault.Refusal.TheVariants as refusal
use Rattle.fc_base.specs.declared.fault.ValueOf.{ValueOf}
use Rattle.fc_base.specs.declared.fault.ValueOf.TheVariants as value
use Rattle.fc_base.specs.declared.ids.VolId.{VolId}
use Rattle.fc_base.specs.declared.size.GrainSize.{GrainSize}
use Rattle.fc_base.specs.declared.size.GrainSize.TheVariants.{K64, K256}
use Rattle.fc_reading.specs.Readers.{map_read}
use Rattle.fc_reading_notes.specs.Lines.{ending_at, state_of}
use Rattle.fc_reading_notes.specs.Lists.{chain}
use Rattle.fc_reading_notes.specs.Told.{Each, IsId}
use Rattle.fc_reading_replies.specs.Begun.{begun_at, numbered, said, twice_numbered}

-- numbers of 32 bits
abbrev pub IsRefusal : Refusal → Type 0
IsRefusal (refusal.Words fault) = ⊥
IsRefusal (refusal.NameTaken id) = IsId id
IsRefusal (refusal.Limit n) = IsId n
IsRefusal (refusal.InUse volume) = IsId volume.0
IsRefusal (refusal.InGroup group) = IsId group.0
IsRefusal (refusal.TargetTwice volume) = IsId volume.0
IsRefusal (refusal.SourceIsTarget volume) = IsId volume.0
IsRefusal (refusal.SourceNotReady volume) = IsId volume.0
IsRefusal (refusal.TargetActive map) = IsId map.0
IsRefusal (refusal.TargetIsSource volume) = IsId volume.0
IsRefusal (refusal.RestoreLoop volumes) = Each (λ volume. IsId volume.0) volumes
IsRefusal (refusal.NotComplete held total) = IsId held × IsId total
IsRefusal (refusal.SizeDiffers source target) = IsId source × IsId target
IsRefusal (refusal.PairTaken map) = IsId map.0
IsRefusal refusal = Unit {0}

-- the whole texts of refusals without a number of their own, and how the others begin
abbrev pub refusal_words : List (List ℕ)
refusal_words =
    codes "no such vdisk\n" ∷ codes "no such fcmap\n" ∷ codes "no such group\n"
    ∷ codes "bad value of size\n" ∷ codes "bad value of copyrate\n" ∷ codes "bad value of cleanrate\n"
    ∷ codes "bad value of seconds\n" ∷ codes "bad value of blocks\n" ∷ codes "bad value of grain\n"
    ∷ codes "not allowed in empty\n" ∷ codes "not allowed in idle_or_copied\n" ∷ codes "not allowed in preparing\n"
    ∷ codes "not allowed in prepared\n" ∷ codes "not allowed in copying\n" ∷ codes "not allowed in stopping\n"
    ∷ codes "not allowed in stopped\n"
    ∷ codes "grain differs 64 64\n" ∷ codes "grain differs 64 256\n" ∷ codes "grain differs 256 64\n"
    ∷ codes "grain differs 256 256\n"
    ∷ codes "no disk\n" ∷ codes "not prepared\n" ∷ codes "empty group\n" ∷ codes "needs force\n" ∷ codes "same volume\n"
    ∷ codes "restore loop\n"
    ∷ codes "name taken " ∷ codes "limit " ∷ codes "in use " ∷ codes "in group " ∷ codes "target twice "
    ∷ codes "source is target " ∷ codes "source not ready " ∷ codes "target active " ∷ codes "target is source "
    ∷ codes "pair taken " ∷ codes "not complete " ∷ codes "size differs " ∷ codes "restore loop " ∷ []

abbrev pub kind_of : ℕ → Kind
kind_of n = if n == 0 then Vdisk else if n == 1 then Fcmap else Group

abbrev pub value_of : ℕ → ValueOf
value_of n =
    if n == 0 then value.Size else if n == 1 then value.CopyRate else if n == 2 then value.CleanRate
    else if n == 3 then value.Seconds else if n == 4 then value.Blocks else value.Grain

abbrev pub grain_of : ℕ → GrainSize
grain_of n = if n == 0 then K64 else K256

abbrev pub plain_refusal : ℕ → Refusal
plain_refusal n =
    if n == 0 then refusal.NoDisk else if n == 1 then refusal.NotPrepared else if n == 2 then refusal.Empty
    else if n == 3 then refusal.NeedsForce else if n == 4 then refusal.SameVolume else refusal.RestoreLoop []

abbrev pub refusal_of : ℕ → Refusal
refusal_of n =
    if nat_lt n 3 then refusal.NoSuch (kind_of n)
    else if nat_lt n 9 then refusal.BadValue (value_of (n - 3))
    else if nat_lt n 16 then refusal.NotAllowed (state_of (n - 9))
    else if nat_lt n 20 then refusal.GrainDiffers (grain_of ((n - 16) / 2)) (grain_of ((n - 16) % 2))
    else plain_refusal (n - 20)

abbrev pub numbered_refusal : ℕ → ℕ → Refusal
numbered_refusal n number =
    if n == 0 then refusal.NameTaken number else if n == 1 then refusal.Limit number
    else if n == 2 then refusal.InUse (record { 0 = number }) else if n == 3 then refusal.InGroup (record { 0 = number })
    else if n == 4 then refusal.TargetTwice (record { 0 = number })
    else if n == 5 then refusal.SourceIsTarget (record { 0 = number })
    else if n == 6 then refusal.SourceNotReady (record { 0 = number })
    else if n == 7 then refusal.TargetActive (record { 0 = number })
    else if n == 8 then refusal.TargetIsSource (record { 0 = number }) else refusal.PairTaken (record { 0 = number })

abbrev pub not_complete : ℕ × ℕ → Refusal
not_complete x = refusal.NotComplete x.0 x.1

abbrev pub size_differs : ℕ × ℕ → Refusal
size_differs x = refusal.SizeDiffers x.0 x.1

-- a volume of a loop, and whether one more follows
abbrev pub volume_of : ℕ × ℕ → VolId × Bool
volume_of x = (record { 0 = x.0 }, x.1 == 1)

abbrev pub volume_at : List ℕ → Result ((VolId × Bool) × List ℕ) ℕ
volume_at = map_read volume_of (ending_at (codes "\n" ∷ codes " " ∷ []))

abbrev pub volumes_at : List ℕ → Result (List VolId × List ℕ) ℕ
volumes_at = chain (λ (state : Unit {0}). volume_at) (λ state volume. tt) tt

abbrev pub refusal_behind : ℕ → List ℕ → Result (Refusal × List ℕ) ℕ
refusal_behind word =
    if nat_lt word 26 then said (refusal_of word)
    else if nat_lt word 36 then numbered (numbered_refusal (word - 26))
    else if word == 36 then twice_numbered not_complete
    else if word == 37 then twice_numbered size_differs
    else map_read refusal.RestoreLoop volumes_at

abbrev pub refusal_at : List ℕ → Result (Refusal × List ℕ) ℕ
refusal_at = begun_at refusal_words refusal_behind
