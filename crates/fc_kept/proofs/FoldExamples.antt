-- A stop in a fold, on a closed example: a mapping from A to B is made.
use Rattle.std.proofs.Common.{◌≡◌, ℕ, true, false, Some, None, List, [], ◌∷◌, codes, refl}
use Rattle.fc_base.specs.Column.{first_below, last_below, holder, first_reader}
use Rattle.fc_base.specs.Sheet.{Sheet, live_place, mapping_place}
use Rattle.fc_base.specs.declared.command.Command.{Command}
use Rattle.fc_base.specs.declared.command.Command.TheVariants.{Mkfcmap}
use Rattle.fc_base.specs.declared.fault.Kind.TheVariants.{Fcmap}
use Rattle.fc_base.specs.declared.name.Ref.TheVariants.{Name}
use Rattle.fc_base.specs.declared.request.Place.TheVariants.{Every}
use Rattle.fc_base.specs.declared.request.Reply.TheVariants.{Made}
use Rattle.fc_base.specs.declared.request.Request.TheVariants.{Command as Asked}
use Rattle.fc_base.specs.declared.size.GrainSize.TheVariants.{K64}
use Rattle.fc_base.specs.declared.state.MapState.TheVariants.{IdleOrCopied}
use Rattle.fc_base.specs.declared.volume.Mapping.{Mapping}
use Rattle.fc_books.proofs.Examples.{volume, mapping, slot}
use Rattle.fc_books.specs.Deciding.{settle}
use Rattle.fc_books.specs.Settling.{settling}
use Rattle.fc_books.specs.Work.{work_events}
use Rattle.fc_entry.specs.declared.entry.Entry.{Entry}
use Rattle.fc_legal.specs.Steps.{Step, CommandLeft.decided, after_settling, decided_on}
use Rattle.fc_legal.specs.Whole.{Whole}
use Rattle.std.specs.Fmt.{digits}
use Rattle.fc_kept.specs.Actions.{Action.Fold, actions_of_command}
use Rattle.fc_kept.specs.Marks.{LeastStep, LeastLeft.decided as least_decided}
use Rattle.fc_kept.specs.Prefix.{Prefix, Prefix.acknowledged, Prefix.whole}
use Rattle.fc_kept.proofs.Examples.{nulls, plain}

abbrev apart : Sheet
apart = record { births = 2; slots = slot 0 0 0 None (true ∷ true ∷ []) ∷ slot 1 1 1 None (true ∷ true ∷ []) ∷ [] }

-- two volumes, and these mappings
abbrev whole_of : List Mapping → ℕ → ℕ → Whole
whole_of mappings next entries =
    record {
      actors = codes "main" ∷ [];
      books = record {
        tables = record { volumes = volume 0 (codes "A") 2 ∷ volume 1 (codes "B") 2 ∷ []; mappings = mappings; groups = [] };
        next_volume = 2;
        next_mapping = next;
        next_group = 1;
        sheet = apart;
        flags = [];
        pools = record { flat = 0; thin = 0 } ∷ [];
        rooms = [];
      };
      picture = plain 0 nulls nulls ∷ plain 1 nulls nulls ∷ [];
      rows = [];
      faults = 0 ∷ [];
      calls = 0 ∷ [];
      entries = entries;
    }

abbrev unmade : Whole
unmade = whole_of [] 0 2

abbrev made : Whole
made = whole_of (mapping 0 (codes "fcmap0") 0 1 IdleOrCopied ∷ []) 1 3

abbrev making : Command
making = Mkfcmap (Name (codes "A")) (Name (codes "B")) None None (Some 0) None None false false

abbrev entry : Entry
entry =
    record {
      number = 2;
      actor = 0;
      place = Every;
      request = Asked making;
      reply = Made Fcmap 0;
      moves = [];
      effects = [];
      torn = None;
      faults_before = 0;
      faults_after = 0;
      calls = 0;
    }

-- it changes the tables, and so metadata is made anew
is_a_fold : actions_of_command (settle unmade.books) (decided_on K64 (after_settling K64 unmade) making None) ≡ Fold ∷ []
unfolding first_below last_below holder first_reader live_place mapping_place work_events digits settling
is_a_fold = refl

is_right : Step K64 unmade entry made
unfolding first_below last_below holder first_reader live_place mapping_place work_events digits settling
is_right =
    record {
      number = refl;
      right = record {
        place = refl;
        apart = record { no_moves = refl; untorn = refl; no_calls = refl; no_faults_before = refl; no_faults_after = refl };
        left = record made { entries = 2 };
        leaves = decided None refl;
        next_is = refl;
      };
    }

least_is : LeastStep K64 unmade [] entry.request entry made []
unfolding first_below last_below holder first_reader live_place mapping_place work_events digits settling
least_is = (record made { entries = 2 }, least_decided None refl, refl)

-- before it is turned to: what was answered
stop_before : Prefix K64 unmade [] (Some (Asked making)) unmade []
stop_before = acknowledged (Some (Asked making))

-- and behind that, before it is answered: with the mapping
stop_behind : Prefix K64 unmade [] (Some (Asked making)) made []
stop_behind = whole entry made [] is_right least_is
