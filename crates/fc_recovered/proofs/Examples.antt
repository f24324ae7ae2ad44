-- What volumes show, on closed examples: volume 1 is a copy of volume 0, of two grains each, and holds the second itself. There are
-- two lanes, so that each has one grain of both.
use Rattle.std.proofs.Common.{◌≡◌, ℕ, Bool, true, false, Option, Some, None, List, [], ◌∷◌, refl}
use Rattle.fc_base.specs.Column.{last_below, first_below, holder}
use Rattle.fc_base.specs.Sheet.{Slot, live_place}
use Rattle.fc_base.specs.Tables.{no_tables}
use Rattle.fc_base.specs.declared.disk.DiskKind.TheVariants.{Flat, Thin}
use Rattle.fc_base.specs.declared.ids.VolId.{VolId}
use Rattle.fc_base.specs.declared.size.GrainSize.TheVariants.{K64}
use Rattle.fc_entry.specs.Picture.{Bytes, Lost}
use Rattle.fc_kept.specs.Disks.{NamedDisk, is_free}
use Rattle.fc_kept.specs.Kept.{Kept}
use Rattle.fc_mdisk.specs.Disk.{blank}
use Rattle.fc_recovered.specs.Showing.{shown_at}
use Rattle.fc_recovered.specs.Walk.{holder_volume}

abbrev vol : ℕ → VolId
vol v = record { 0 = v }

abbrev source : Slot
source = record { birth = 0; chain = 0; volume = 0; is_live = true; mapping = None; held = true ∷ true ∷ [] }

abbrev target : Slot
target = record { birth = 1; chain = 0; volume = 1; is_live = true; mapping = Some 7; held = false ∷ true ∷ [] }

abbrev kept : List Bool → Kept
kept lost =
    record {
      tables = no_tables;
      next_volume = 2;
      next_mapping = 8;
      next_group = 1;
      sheet = record { births = 2; slots = source ∷ target ∷ [] };
      rows = [];
      lost = record { volume = 0; lost = lost } ∷ record { volume = 1; lost = false ∷ false ∷ [] } ∷ [];
    }

abbrev disk : Option VolId → ℕ → NamedDisk
disk volume byte = record { volume = volume; disk = record (blank Flat None) { grains = (byte ∷ []) ∷ [] } }

abbrev disks : List (List NamedDisk)
disks = (disk (Some (vol 0)) 10 ∷ disk None 99 ∷ disk (Some (vol 1)) 20 ∷ []) ∷ (disk (Some (vol 1)) 21 ∷ disk (Some (vol 0)) 11 ∷ []) ∷ []

-- it shows the source's first grain, of the first lane, and its own second one, of the second
shows_source : shown_at K64 disks (kept (false ∷ false ∷ [])) 1 0 ≡ Bytes (10 ∷ [])
unfolding live_place first_below holder last_below
shows_source = refl

shows_own : shown_at K64 disks (kept (false ∷ false ∷ [])) 1 1 ≡ Bytes (21 ∷ [])
unfolding live_place first_below holder last_below
shows_own = refl

source_shows : shown_at K64 disks (kept (false ∷ false ∷ [])) 0 1 ≡ Bytes (11 ∷ [])
unfolding live_place first_below holder last_below
source_shows = refl

-- what is lost of the source is lost where the source shows through, and nowhere else
lost_through : shown_at K64 disks (kept (true ∷ true ∷ [])) 1 0 ≡ Lost
unfolding live_place first_below holder last_below
lost_through = refl

not_lost : shown_at K64 disks (kept (true ∷ true ∷ [])) 1 1 ≡ Bytes (21 ∷ [])
unfolding live_place first_below holder last_below
not_lost = refl

-- a volume that isn't there shows nothing
nothing_there : shown_at K64 disks (kept (false ∷ false ∷ [])) 2 0 ≡ Lost
unfolding live_place first_below holder last_below
nothing_there = refl

-- the walk finds the same
walk_source : holder_volume 1 0 (source ∷ target ∷ []) ≡ Some 0
walk_source = refl

walk_own : holder_volume 1 1 (source ∷ target ∷ []) ≡ Some 1
walk_own = refl

-- which disk is for a new volume
nobodys : is_free Flat (disk None 99) ≡ true
nobodys = refl

is_named : is_free Flat (disk (Some (vol 0)) 10) ≡ false
is_named = refl

is_flat : is_free Thin (disk None 99) ≡ false
is_flat = refl
