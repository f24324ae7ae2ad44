-- Which stop follows from which error below.
use Rattle.fc_entry.specs.declared.stop.Stop.{Stop}
use Rattle.fc_entry.specs.declared.stop.Stop.TheVariants.{LogFull as Full, NoMemory as NoRoom}
use Rattle.fc_meta.specs.declared.error.MetaError.{MetaError}
use Rattle.fc_meta.specs.declared.error.MetaError.TheVariants.{Failed, NoMemory, Full as NoSpace}
use Rattle.fc_marks.specs.declared.error.NotedStop.{NotedStop}
use Rattle.fc_marks.specs.declared.error.NotedStop.TheVariants.{LogFull, NoMemory as WantsMemory, MetaFailed, MetaFull}

abbrev pub stop_of_meta : MetaError → NotedStop
stop_of_meta Failed = MetaFailed
stop_of_meta NoMemory = WantsMemory
stop_of_meta NoSpace = MetaFull

abbrev pub stop_of_log : Stop → NotedStop
stop_of_log Full = LogFull
stop_of_log NoRoom = WantsMemory
