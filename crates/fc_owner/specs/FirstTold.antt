-- What is told before the first entry of a session.
use Rattle.std.specs.Prelude.{List}
use Rattle.fc_base.specs.declared.limits.TheConstants.{LANES}
use Rattle.fc_lanes.specs.Dealing.{pools_dealt}
use Rattle.fc_legal.specs.Whole.{Whole, opened}
use Rattle.fc_mdisk.specs.Disk.{DiskState}

-- With these disks, which are dealt to the lanes.
abbrev pub first_told : List DiskState → Whole
first_told disks = opened (pools_dealt LANES disks)
