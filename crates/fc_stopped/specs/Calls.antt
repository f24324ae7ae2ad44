-- How many calls of metadata's disk a session costs, and where it stopped.
use Rattle.std.specs.Prelude.{◌≡◌, ◌⊎◌, ℕ, ◌<◌, ◌≤◌, List, [], Option, None, Some}
use Rattle.fc_base.specs.declared.request.Request.{Request}
use Rattle.fc_base.specs.declared.size.GrainSize.TheVariants.{K64}
use Rattle.fc_entry.specs.declared.entry.Entry.{Entry}
use Rattle.fc_legal.specs.Agenda.{Agenda}
use Rattle.fc_legal.specs.Whole.{Whole}
use Rattle.fc_marks.specs.Meter.{FitsUpTo, Meter}
use Rattle.fc_marks.specs.declared.error.NotedStop.{NotedStop}
use Rattle.fc_marks.specs.declared.error.NotedStop.TheVariants.{MetaFailed, MetaFull}
use Rattle.fc_noted.specs.Metered.{FirstPasses, GoesInto, Metered}
use Rattle.fc_noted.specs.Stopping.{IsAskedSoon}
use Rattle.fc_stopped.specs.declared.far.Far.{Far}
use Rattle.fc_stopped.specs.declared.far.Far.TheVariants.{ToEnd, ToCall, ToFull}

-- How many bytes a half of the disk has.
abbrev pub half_of_disk : ℕ
half_of_disk = 33554432

-- The entries cost fewer calls than this one, and nothing passed the half.
abbrev pub CostLess : ℕ → ℕ → List Entry → Whole → Type 0
CostLess number half entries last = (m : Meter) × Metered K64 half entries last m × (m.calls < number) × (m.full ≡ None)

-- They do, and what is asked next goes so far that this holds of the meter.
pub record GoesTo (number half : ℕ) (entries : List Entry) (last : Whole) (left : Agenda) (Holds : Meter → Type 0) : Type 0 where
  pub costs : CostLess number half entries last
  pub request : Request
  pub asked : IsAskedSoon K64 last left (Some request)
  pub into : Meter
  pub goes : GoesInto K64 half last costs.0 request into
  pub holds : Holds into

-- It comes to this call, and nothing passes the half before it; or before it something does.
abbrev pub ComesTo : ℕ → Meter → Type 0
ComesTo number m = (number ≤ m.calls) × FitsUpTo number m

abbrev pub PassesBefore : ℕ → Meter → Type 0
PassesBefore number m = (at : ℕ) × (m.full ≡ Some at) × (at < number)

-- Why a session came so far, with a stop at a call by its number. All was answered before that call. Or the call came while the first
-- image was written, or in what is asked next. Or before it something passed the half: the first image, or an image or a batch of what
-- is asked next.
abbrev pub CallsBy : ℕ → ℕ → Far → List Entry → Whole → Agenda → Type 0
CallsBy number half ToEnd entries last left = CostLess number half entries last
CallsBy number half (ToCall failed) entries last left =
    (failed ≡ number) × (((entries ≡ []) × (number ≤ 4)) ⊎ GoesTo number half entries last left (ComesTo number))
CallsBy number half ToFull entries last left =
    ((entries ≡ []) × FirstPasses half) ⊎ GoesTo number half entries last left (PassesBefore number)

-- The same by why the store answers no line any more: where it does, or memory was wanted, nothing.
abbrev pub CallsLeft : ℕ → ℕ → Option NotedStop → List Entry → Whole → Agenda → Type 0
CallsLeft number half (Some MetaFailed) entries last left = GoesTo number half entries last left (ComesTo number)
CallsLeft number half (Some MetaFull) entries last left = GoesTo number half entries last left (PassesBefore number)
CallsLeft number half stop entries last left = Unit {0}
