-- Several disks, each at its place.
use Rattle.std.specs.Prelude.{◌≡◌, ℕ, List, slice_set, slice_index_or, None}
use Rattle.std.specs.List.{sum_by}
use Rattle.fc_base.specs.declared.disk.DiskKind.TheVariants.{Flat}
use Rattle.fc_mdisk.specs.Disk.{DiskState, blank, formatted}

abbrev pub disk_at : List DiskState → ℕ → DiskState
disk_at disks place = slice_index_or disks place (blank Flat None)

-- At most the disk at that place changed.
abbrev pub ChangesOnly : List DiskState → ℕ → List DiskState → Type 0
ChangesOnly old place new = new ≡ slice_set old place (disk_at new place)

-- The disk at that place was formatted.
abbrev pub formatted_at : ℕ → ℕ → ℕ → List DiskState → List DiskState
formatted_at place count bytes disks = slice_set disks place (formatted (disk_at disks place) count bytes)

-- The counts of all disks together.
abbrev pub calls_of : List DiskState → ℕ
calls_of disks = sum_by (λ d. d.calls) disks

abbrev pub faults_of : List DiskState → ℕ
faults_of disks = sum_by (λ d. d.faults) disks

abbrev pub write_faults_of : List DiskState → ℕ
write_faults_of disks = sum_by (λ d. d.write_faults) disks
