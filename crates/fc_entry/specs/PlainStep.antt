-- What an entry does to plain volumes.
use Rattle.std.specs.Prelude.{ℕ, ◌+◌, ◌*◌, ◌==◌, not, cond, List, [], ◌∷◌, ◌++◌, map, filter, replicate, slice_set, Option, Some, None}
use Rattle.fc_base.specs.Grain.{block_bytes}
use Rattle.fc_base.specs.Ranges.{is_kept}
use Rattle.fc_base.specs.declared.ids.VolId.{VolId}
use Rattle.fc_base.specs.declared.ranges.Range.{Range}
use Rattle.fc_base.specs.declared.size.GrainSize.{GrainSize}
use Rattle.fc_base.specs.declared.request.Effect.{Effect}
use Rattle.fc_base.specs.declared.request.Effect.TheVariants.{Make, Remove, Trigger, Cut, State, Gone}
use Rattle.fc_base.specs.declared.request.Pair.{Pair}
use Rattle.fc_base.specs.declared.request.Reply.{Reply}
use Rattle.fc_base.specs.declared.request.Reply.TheVariants.{Done}
use Rattle.fc_base.specs.declared.request.Request.{Request}
use Rattle.fc_base.specs.declared.request.Request.TheVariants.{Write}
use Rattle.fc_base.specs.declared.request.Side.{Side}
use Rattle.fc_base.specs.declared.request.Side.TheVariants.{Now, Under}
use Rattle.fc_base.specs.declared.request.Torn.{Torn}
use Rattle.fc_base.specs.declared.request.WritePart.{WritePart}
use Rattle.fc_entry.specs.declared.entry.Entry.{Entry}
use Rattle.fc_entry.specs.Picture.{Content, Lost, PlainVolume, Picture, zeros, volume_in, changed_at, content_at, grain_of_block, byte_in_grain, written}

-- the volume after a write of blocks of one grain
abbrev pub after_write : GrainSize → WritePart → PlainVolume → PlainVolume
after_write grain part v =
    let g = grain_of_block grain part.block in
    record v {
      now = slice_set v.now g
          (written (byte_in_grain grain part.block) (block_bytes * part.count) part.byte (content_at v.now g));
    }

-- the volume after a failed write left any bytes in a grain
abbrev pub after_torn : Torn → PlainVolume → PlainVolume
after_torn torn v = torn_at torn.side torn.grain.0 v
  where
    torn_at : Side → ℕ → PlainVolume → PlainVolume
    torn_at Now g v = record v { now = slice_set v.now g Lost }
    torn_at Under g v = record v { under = slice_set v.under g Lost }

-- the source of a volume in a trigger's pairs, if it is a target there
abbrev pub source_in : List Pair → VolId → Option VolId
source_in [] target = None
source_in (pair ∷ pairs) target = cond (pair.target.0 == target.0) (Some pair.source) (source_in pairs target)

-- what a volume of the old picture holds now; of a volume that isn't there, nothing
abbrev pub now_in : Picture → VolId → List Content
now_in picture id = held (volume_in picture id)
  where
    held : Option PlainVolume → List Content
    held None = []
    held (Some v) = v.now

-- a volume after a trigger: a target holds what its source held, over what it held itself
abbrev pub after_trigger : Picture → List Pair → PlainVolume → PlainVolume
after_trigger old pairs v = copied (source_in pairs v.volume)
  where
    copied : Option VolId → PlainVolume
    copied None = v
    copied (Some source) = record v { now = now_in old source; under = v.now }

-- grain by grain from `g` on: what is kept of the one, and else the other
abbrev pub cut_from : List Range → ℕ → List Content → List Content → List Content
cut_from kept g [] under = []
cut_from kept g (now ∷ nows) [] = now ∷ nows
cut_from kept g (now ∷ nows) (under ∷ unders) = cond (is_kept kept g) now under ∷ cut_from kept (g + 1) nows unders

-- the picture after one effect of a command
abbrev pub after_effect : GrainSize → Picture → Effect → Picture
after_effect grain picture (Make volume grains) =
    picture ++ record { volume = volume; now = replicate grains (zeros grain); under = replicate grains (zeros grain) } ∷ []
after_effect grain picture (Remove volume) = filter (λ v. not (v.volume.0 == volume.0)) picture
after_effect grain picture (Trigger pairs) = map (after_trigger picture pairs) picture
after_effect grain picture (Cut volume kept) =
    changed_at volume (λ v. record v { now = cut_from kept 0 v.now v.under }) picture
after_effect grain picture (State map state) = picture
after_effect grain picture (Gone map) = picture

-- the picture after all effects, in their order
abbrev pub after_effects : GrainSize → Picture → List Effect → Picture
after_effects grain picture [] = picture
after_effects grain picture (effect ∷ effects) = after_effects grain (after_effect grain picture effect) effects

-- the picture after a write that was done, and after nothing else that was asked
abbrev pub after_request : GrainSize → Picture → Request → Reply → Picture
after_request grain picture (Write part) Done = changed_at part.volume (after_write grain part) picture
after_request grain picture _ _ = picture

-- the picture after a torn grain, if there is one
abbrev pub after_loss : Picture → Option Torn → Picture
after_loss picture None = picture
after_loss picture (Some torn) = changed_at torn.volume (after_torn torn) picture

-- what an entry does to plain volumes: a done write, a torn grain, the effects; moves change nothing
abbrev pub plain_step : GrainSize → Picture → Entry → Picture
plain_step grain picture entry =
    after_effects grain (after_loss (after_request grain picture entry.request entry.reply) entry.torn) entry.effects
