-- Which record follows a step of data, and what a decision takes away.
use Rattle.std.specs.Prelude.{ℕ, ◌==◌, ◌&&◌, not, List, [], ◌∷◌, Option, Some, None}
use Rattle.fc_base.specs.declared.decision.LaneEvent.{LaneEvent}
use Rattle.fc_base.specs.declared.decision.LaneEvent.TheVariants.{Remove}
use Rattle.fc_base.specs.declared.ids.GrainNo.{GrainNo}
use Rattle.fc_base.specs.declared.ids.VolId.{VolId}
use Rattle.fc_image.specs.declared.record.MetaRecord.{MetaRecord}
use Rattle.fc_image.specs.declared.record.MetaRecord.TheVariants.{Pair, Written, Torn}
use Rattle.fc_kept.specs.Kept.{Kept, kept_after}
use Rattle.fc_steps.specs.declared.body.StepEnd.{StepEnd}
use Rattle.fc_steps.specs.declared.stepping.Next.{Next}
use Rattle.fc_steps.specs.declared.stepping.Next.TheVariants.{Move as NextMove, Own, Over}
use Rattle.fc_steps.specs.declared.stop.Stop.{Stop}
use Rattle.fc_steps.specs.declared.stop.Stop.TheVariants.{Failed, NoMemory}

-- Of a step that was done: a move, or the write itself.
abbrev pub record_done : Next → ℕ → GrainNo → Option MetaRecord
record_done (NextMove m) calls grain = Some (Pair m.slot m.volume m.grain m.in_place ((calls == 0) && not m.in_place))
record_done (Own part) calls grain = Some (Written part.volume grain)
record_done Over calls grain = None

-- Of one that stopped: what it tore, if anything.
abbrev pub record_by : Next → Option Stop → ℕ → GrainNo → Option MetaRecord
record_by next None calls grain = record_done next calls grain
record_by next (Some (Failed None)) calls grain = None
record_by next (Some (Failed (Some torn))) calls grain = Some (Torn torn.volume torn.grain torn.side)
record_by next (Some NoMemory) calls grain = None

abbrev pub record_after : Next → StepEnd → GrainNo → Option MetaRecord
record_after next end grain = record_by next end.stop end.calls grain

-- Metadata with the record that is due, if one is.
abbrev pub kept_by : Option MetaRecord → Kept → Kept
kept_by None k = k
kept_by (Some r) k = kept_after k r

-- The volume that goes by events, if one does.
abbrev pub removed_by : List LaneEvent → Option VolId
removed_by [] = None
removed_by (Remove volume ∷ events) = Some volume
removed_by (event ∷ events) = removed_by events
