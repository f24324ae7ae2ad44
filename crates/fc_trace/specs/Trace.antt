-- How a history is printed in trace form. Its first line says what the store was made of. Then each entry has its line,
-- the lines of what it did, which begin with `+`, the rows of its report, and a line `.`:
--     trace 64 4 flat 1 1 1 1 thin 0 0 0 0
--     0 main mkvdisk -name A -size 1 -> Virtual Disk, id [0], successfully created
--     + make 0 16
--     .
use Rattle.std.specs.Prelude.{ℕ, List, [], ◌++◌, length, codes, decimal, slice_index_or}
use Rattle.std.specs.List.{flat_map}
use Rattle.fc_base.specs.Grain.{grain_kib}
use Rattle.fc_base.specs.declared.disk.DiskKind.{DiskKind}
use Rattle.fc_base.specs.declared.disk.DiskKind.TheVariants.{Flat, Thin}
use Rattle.fc_base.specs.declared.size.GrainSize.{GrainSize}
use Rattle.fc_entry.specs.declared.entry.Entry.{Entry}
use Rattle.fc_entry.specs.HistoryState.{HistoryState}
use Rattle.fc_entry.specs.Text.{line_text, rows_text}
use Rattle.fc_trace.specs.declared.header.LaneDisks.{LaneDisks}
use Rattle.fc_trace.specs.Notes.{notes_text}

-- how many disks of a kind were handed in for a lane
abbrev pub disks_of : DiskKind → LaneDisks → ℕ
disks_of Flat lane = lane.flat
disks_of Thin lane = lane.thin

-- the first line: the grain in KiB, the lanes, and how many disks of each kind were handed in for each lane
abbrev pub header_text : GrainSize → List LaneDisks → List ℕ
header_text grain lanes =
    codes "trace " ++ decimal (grain_kib grain) ++ codes " " ++ decimal (length lanes)
    ++ codes " flat" ++ flat_map (λ lane. codes " " ++ decimal lane.flat) lanes
    ++ codes " thin" ++ flat_map (λ lane. codes " " ++ decimal lane.thin) lanes
    ++ codes "\n"

-- an entry of the actor with this name: its line, what it did, the rows of its report, and its end
abbrev pub traced_by : List ℕ → Entry → List ℕ
traced_by actor entry = line_text actor entry ++ notes_text entry ++ rows_text entry.reply ++ codes ".\n"

-- an entry, where these are the names of actors
abbrev pub traced_text : List (List ℕ) → Entry → List ℕ
traced_text actors entry = traced_by (slice_index_or actors entry.actor []) entry

-- a whole history
abbrev pub trace_text : GrainSize → List LaneDisks → HistoryState → List ℕ
trace_text grain lanes history = header_text grain lanes ++ flat_map (traced_text history.actors) history.entries
