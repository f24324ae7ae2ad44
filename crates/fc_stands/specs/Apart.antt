-- An entry that no lane makes.
use Rattle.std.specs.Prelude.{◌≡◌, ℕ, List, [], Some, None}
use Rattle.fc_base.specs.declared.command.Command.TheVariants.{Read as ReadLine, Write as WriteLine, Mkpreset}
use Rattle.fc_base.specs.declared.fault.Refusal.{Refusal}
use Rattle.fc_base.specs.declared.fault.Refusal.TheVariants.{Words}
use Rattle.fc_base.specs.declared.request.Request.TheVariants.{Command as Asked, Unread}
use Rattle.fc_base.specs.declared.size.GrainSize.{GrainSize}
use Rattle.fc_books.specs.Refused.{access_refused, preset_refused}
use Rattle.fc_legal.specs.Whole.{Whole}
use Rattle.fc_base.specs.declared.request.Effect.{Effect}
use Rattle.fc_base.specs.declared.request.Place.{Place}
use Rattle.fc_base.specs.declared.request.Reply.{Reply}
use Rattle.fc_base.specs.declared.request.Request.{Request}
use Rattle.fc_entry.specs.declared.entry.Entry.{Entry}

-- By number and actor.
abbrev pub entry_apart : ℕ → ℕ → Place → Request → Reply → List Effect → Entry
entry_apart number actor place request reply effects =
    record {
      number = number;
      actor = actor;
      place = place;
      request = request;
      reply = reply;
      moves = [];
      effects = effects;
      torn = None;
      faults_before = 0;
      faults_after = 0;
      calls = 0;
    }

-- A request that is refused for this: an access by its volume and blocks, a preset by its source, or a line with a fault in its words.
abbrev pub IsRefusalOf : GrainSize → Whole → Request → Refusal → Type 0
IsRefusalOf grain w (Asked (ReadLine volume block count)) refusal = access_refused grain w.books volume block count ≡ Some refusal
IsRefusalOf grain w (Asked (WriteLine volume block count byte)) refusal = access_refused grain w.books volume block count ≡ Some refusal
IsRefusalOf grain w (Asked (Mkpreset source preset name)) refusal = preset_refused w.books source ≡ Some refusal
IsRefusalOf grain w (Unread fault) refusal = refusal ≡ Words fault
IsRefusalOf grain w request refusal = ⊥
