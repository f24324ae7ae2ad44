-- In which form the history of a run is written.
use Rattle.std.specs.Prelude.{if◌then◌else◌, List, map}
use Rattle.fc_args.specs.declared.asked.RunOptions.{RunOptions}
use Rattle.fc_base.specs.Pools.{Pool}
use Rattle.fc_base.specs.declared.limits.TheConstants.{LANES}
use Rattle.fc_base.specs.declared.size.GrainSize.{GrainSize}
use Rattle.fc_lanes.specs.Dealing.{pools_dealt}
use Rattle.fc_mdisk.specs.Disk.{DiskState}
use Rattle.fc_run.specs.declared.form.Form.{Form}
use Rattle.fc_run.specs.declared.form.Form.TheVariants.{Text, Trace}
use Rattle.fc_trace.specs.declared.header.Header.{Header}
use Rattle.fc_trace.specs.declared.header.LaneDisks.{LaneDisks}

-- The disks of a lane, as the first line of a trace says them.
abbrev pub lane_disks : Pool → LaneDisks
lane_disks pool = record { flat = pool.flat; thin = pool.thin }

-- What the first line of a trace says of the store over these disks, which are dealt to the lanes.
abbrev pub header_of : GrainSize → List DiskState → Header
header_of grain disks = record { grain = grain; lanes = map lane_disks (pools_dealt LANES disks) }

-- As a trace where it is asked for, else in text.
abbrev pub run_form : RunOptions → List DiskState → Form
run_form options disks = if options.trace then Trace (header_of options.grain disks) else Text
