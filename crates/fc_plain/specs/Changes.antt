-- The parts of the plain step, as calls do them.
use Rattle.std.specs.Prelude.{ℕ, ◌*◌, ◌==◌, ◌&&◌, not, nat_lt, cond, length, slice_set, List, Option, Some, None}
use Rattle.fc_base.specs.Grain.{block_bytes}
use Rattle.fc_base.specs.Ranges.{is_kept}
use Rattle.fc_base.specs.declared.ids.VolId.{VolId}
use Rattle.fc_base.specs.declared.ranges.Range.{Range}
use Rattle.fc_base.specs.declared.request.Reply.{Reply}
use Rattle.fc_base.specs.declared.request.Reply.TheVariants.{Done}
use Rattle.fc_base.specs.declared.request.Request.{Request}
use Rattle.fc_base.specs.declared.request.Request.TheVariants.{Write}
use Rattle.fc_base.specs.declared.request.Torn.{Torn}
use Rattle.fc_base.specs.declared.request.WritePart.{WritePart}
use Rattle.fc_base.specs.declared.size.GrainSize.{GrainSize}
use Rattle.fc_entry.specs.Picture.{Content, PlainVolume, Picture, changed_at, content_at, grain_of_block, byte_in_grain, written}
use Rattle.fc_entry.specs.PlainStep.{after_write, after_torn, cut_from}

-- the write that was done, if one was
abbrev pub write_of : Request → Reply → Option WritePart
write_of (Write part) Done = Some part
write_of _ _ = None

-- a volume after a write, where it is the volume that was written
abbrev pub write_if : GrainSize → WritePart → PlainVolume → PlainVolume
write_if grain part v = cond (v.volume.0 == part.volume.0) (after_write grain part v) v

-- a volume after a torn grain, where it is the volume whose grain it is
abbrev pub tear_if : Torn → PlainVolume → PlainVolume
tear_if torn v = cond (v.volume.0 == torn.volume.0) (after_torn torn v) v

-- the picture after a write, if there is one
abbrev pub after_done : GrainSize → Picture → Option WritePart → Picture
after_done grain picture None = picture
after_done grain picture (Some part) = changed_at part.volume (after_write grain part) picture

-- what the grain of a write becomes, in the volume that is written
abbrev pub fresh_of : GrainSize → WritePart → PlainVolume → Option Content
fresh_of grain part v =
    cond (v.volume.0 == part.volume.0)
    (Some (written (byte_in_grain grain part.block) (block_bytes * part.count) part.byte (content_at v.now (grain_of_block grain part.block))))
    None

-- a grain of a volume becomes another, if there is one
abbrev pub put_if : ℕ → Option Content → PlainVolume → PlainVolume
put_if place None v = v
put_if place (Some content) v = record v { now = slice_set v.now place content }

-- a grain after a cut: what it holds now where it is kept or held nothing before, and else what it held before
abbrev pub cut_at : List Range → List Content → List Content → ℕ → Content
cut_at kept now under g = cond (nat_lt g (length under) && not (is_kept kept g)) (content_at under g) (content_at now g)

-- a volume after a cut, where it is the one that is cut
abbrev pub cut_if : VolId → List Range → PlainVolume → PlainVolume
cut_if id kept v = cond (v.volume.0 == id.0) (record v { now = cut_from kept 0 v.now v.under }) v
