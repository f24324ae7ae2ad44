-- Lines and mappings, on closed examples.
use Rattle.std.proofs.Common.{Bool, true, false, [], ◌∷◌, None, codes, refl}
use Rattle.fc_base.specs.declared.fault.Kind.TheVariants.{Vdisk, Fcmap}
use Rattle.fc_base.specs.declared.fault.Refusal.TheVariants.{NoDisk, NotPrepared}
use Rattle.fc_base.specs.declared.request.Place.TheVariants.{Every}
use Rattle.fc_base.specs.declared.request.Reply.{Reply}
use Rattle.fc_base.specs.declared.request.Reply.TheVariants.{Done, Made, NoMemory, Refused}
use Rattle.fc_base.specs.declared.request.Request.TheVariants.{CopyTurn}
use Rattle.fc_base.specs.declared.state.MapState.{MapState}
use Rattle.fc_base.specs.declared.state.MapState.TheVariants.{IdleOrCopied, Copying, Stopping}
use Rattle.fc_base.specs.declared.volume.Mapping.{Mapping}
use Rattle.fc_entry.specs.declared.entry.Entry.{Entry}
use Rattle.law_presets.specs.Left.{AreLeft, finished, gone, none}
use Rattle.law_presets.specs.Lines.{IsWhole}

-- ---- lines

-- An entry of which its reply alone counts.
abbrev answered : Reply → Entry
answered reply =
    record {
      number = 0;
      actor = 0;
      place = Every;
      request = CopyTurn 0;
      reply = reply;
      moves = [];
      effects = [];
      torn = None;
      faults_before = 0;
      faults_after = 0;
      calls = 0;
    }

all_done : IsWhole (answered (Made Vdisk 4) ∷ answered (Made Fcmap 2) ∷ answered Done ∷ [])
all_done = (refl, refl, refl)

no_volume : IsWhole (answered (Refused NoDisk) ∷ []) → ⊥
no_volume whole = whole

no_mapping : IsWhole (answered (Made Vdisk 4) ∷ answered NoMemory ∷ answered Done ∷ []) → ⊥
no_mapping whole = absurd (cc whole.1)

not_started : IsWhole (answered (Made Vdisk 4) ∷ answered (Made Fcmap 2) ∷ answered (Refused NotPrepared) ∷ answered Done ∷ answered Done ∷ []) → ⊥
not_started whole = whole

-- ---- mappings

abbrev mapping : MapState → Bool → Mapping
mapping state autodelete =
    record {
      id = record { 0 = 3 };
      name = codes "nightly";
      source = record { 0 = 0 };
      target = record { 0 = 1 };
      group = None;
      state = state;
      copy_rate = 50;
      clean_rate = 50;
      incremental = false;
      autodelete = autodelete;
      restoring = false;
      held_at_leave = 0;
      complete = false;
    }

-- One that copies may come to rest with a whole copy, and goes then with `-autodelete`.
copied : AreLeft (mapping Copying false ∷ []) (record (mapping IdleOrCopied false) { held_at_leave = 8; complete = true } ∷ [])
copied = finished (record { was = refl; rests = refl; same = refl }) none

deleted : AreLeft (mapping Copying true ∷ []) []
deleted = gone (record { was = refl; autodelete = refl }) none

-- No other goes, and an idle one stays.
not_gone : AreLeft (mapping Stopping false ∷ []) [] → ⊥
not_gone (gone h rest) = absurd (cc h.autodelete)

not_idle : AreLeft (mapping IdleOrCopied true ∷ []) [] → ⊥
not_idle (gone h rest) = absurd (cc h.was)
