-- The room that volumes take, on a closed example: the chain A, B, C in four lanes, where B has thin disks.
use Rattle.std.proofs.Common.{Bool, true, false, None, Some, List, [], ◌∷◌, codes, refl, arith}
use Rattle.std.specs.Fmt.{digits}
use Rattle.fc_base.specs.Column.{first_below, last_below, holder, first_reader, places_by_birth, old_slots}
use Rattle.fc_base.specs.Moves.{is_in_place, asks, list_with_asked, list_all_with_asked, fill_moves}
use Rattle.fc_base.specs.Sheet.{live_place, mapping_place}
use Rattle.fc_base.specs.declared.command.Command.TheVariants.{Lsvdiskroom}
use Rattle.fc_base.specs.declared.disk.DiskKind.TheVariants.{Thin}
use Rattle.fc_base.specs.declared.request.Place.TheVariants.{Every}
use Rattle.fc_base.specs.declared.request.Reply.TheVariants.{Listed}
use Rattle.fc_base.specs.declared.request.Request.TheVariants.{Command as Asked}
use Rattle.fc_base.specs.declared.size.GrainSize.TheVariants.{K64}
use Rattle.fc_books.proofs.Examples.{vol, volume}
use Rattle.fc_books.specs.Reports.{report_rows}
use Rattle.fc_books.specs.Settling.{settling}
use Rattle.fc_books.specs.Work.{work_events}
use Rattle.fc_entry.specs.declared.entry.Entry.{Entry}
use Rattle.fc_legal.proofs.SecondsExamples.{all, lacking, lacking_one, first_copy}
use Rattle.fc_legal.specs.Steps.{Step}
use Rattle.fc_legal.specs.Steps.CommandLeft.{decided}
use Rattle.fc_legal.specs.Whole.{Whole}

-- of B these grains occupy memory
abbrev with_room : List Bool → Whole → Whole
with_room b w =
    record w {
      books = record w.books {
        tables = record w.books.tables {
          volumes = volume 0 (codes "A") 3 ∷ record (volume 1 (codes "B") 3) { kind = Thin } ∷ volume 2 (codes "C") 3 ∷ [];
        };
        rooms = record { volume = vol 0; reached = all } ∷ record { volume = vol 1; reached = b } ∷ record { volume = vol 2; reached = all } ∷ [];
      };
    }

abbrev before : Whole
before = with_room (false ∷ true ∷ false ∷ []) lacking

abbrev after : Whole
after = with_room (true ∷ true ∷ false ∷ []) lacking_one

-- B lacks grains 0 and 2. The copy of grain 0 writes it, and then it occupies memory
copy_is_reached : Step K64 before first_copy after
unfolding first_below last_below holder first_reader places_by_birth old_slots is_in_place asks list_with_asked list_all_with_asked fill_moves mapping_place live_place
copy_is_reached =
    record {
      number = refl;
      right = record {
        place = refl;
        faults_before = refl;
        faults_kept = omega arith;
        no_effects = refl;
        answers = (refl, refl, record { moves = refl; calls = refl; untorn = refl });
        next_is = refl;
      };
    }

-- and so it is told
abbrev room_told : Entry
room_told =
    record {
      number = 10;
      actor = 0;
      place = Every;
      request = Asked (Lsvdiskroom (Some 58));
      reply = Listed (codes "id:name:kind:used:grains" ∷ codes "0:A:flat:3:3" ∷ codes "1:B:thin:2:3" ∷ codes "2:C:flat:3:3" ∷ []);
      moves = [];
      effects = [];
      torn = None;
      faults_before = 0;
      faults_after = 0;
      calls = 0;
    }

room_is_told : Step K64 after room_told (record after { entries = 11 })
unfolding first_below last_below holder first_reader live_place mapping_place settling work_events report_rows digits
room_is_told =
    record {
      number = refl;
      right = record {
        place = refl;
        apart = record { no_moves = refl; untorn = refl; no_calls = refl; no_faults_before = refl; no_faults_after = refl };
        left = after;
        leaves = decided None refl;
        next_is = refl;
      };
    }
