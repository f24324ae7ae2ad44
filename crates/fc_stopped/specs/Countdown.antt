-- A disk that stops, by how far it is from its stop.
use Rattle.std.specs.Prelude.{ℕ, ◌-◌, ◌^◌, max, if◌then◌else◌}
use Rattle.fc_metadisk.specs.Stop.{StopState, has_stopped}

-- Its calls, counted so that the count comes to its last value at the stop and not before.
abbrev pub calls_by_stop : StopState → ℕ
calls_by_stop d = if has_stopped d then 2 ^ 64 - 1 else 2 ^ 64 - 1 - (d.stop - d.calls)

-- Its faults: none before the stop, and one at least behind it.
abbrev pub faults_by_stop : StopState → ℕ
faults_by_stop d = if has_stopped d then max 1 d.faults else 0
