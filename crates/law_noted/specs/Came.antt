-- How far the actions of an entry came.
use Rattle.std.specs.Prelude.{◌≡◌, ℕ, ◌+◌, ◌≤◌, Bool, cond, List, [], ◌∷◌, ◌++◌, length, Option, Some, None}
use Rattle.fc_base.specs.declared.request.Request.{Request}
use Rattle.fc_base.specs.declared.request.Torn.{Torn as TornGrain}
use Rattle.fc_base.specs.declared.size.GrainSize.{GrainSize}
use Rattle.fc_changed.specs.Row.{Row}
use Rattle.fc_image.specs.declared.record.MetaRecord.{MetaRecord}
use Rattle.fc_image.specs.declared.record.MetaRecord.TheVariants.{Torn as TornRecord}
use Rattle.fc_kept.specs.Actions.{Action, Action.Note, mark_of}
use Rattle.fc_legal.specs.Whole.{Whole}
use Rattle.fc_rules.specs.Steps.{DiskStep}
use Rattle.fc_steps.specs.StepsEnd.{torn_in}
use Rattle.fc_steps.specs.declared.stepping.Steps.{Steps}
use Rattle.fc_steps.specs.declared.stop.Stop.{Stop}
use Rattle.fc_steps.specs.declared.stop.Stop.TheVariants.{Failed}
use Rattle.law_crash.specs.Doing.{Did, Stopped, actions_of_step, actions_of_steps, chains_behind, marks_by_move, number_of}
use Rattle.law_crash.specs.Points.{Point}

-- How many steps were done: the moves that were made, and the write itself, where no step stopped.
abbrev pub own_done : Option Stop → Bool → ℕ
own_done None written = cond written 1 0
own_done (Some stop) written = 0

abbrev pub steps_done : Steps → ℕ
steps_done s = s.made + own_done s.stop s.written

-- By how many steps were done, why the next one stopped, and the record that is due: what stands then. The rows are those of metadata when the entry began.
pub data Came (grain : GrainSize) (w : Whole) (request : Request) (rows : List Row) (steps : List DiskStep) (p : Point) : ℕ → Option Stop → Option MetaRecord → Point → Type 0 where
  -- all actions of the steps that were done
  behind : (front back : List DiskStep) (q : Point) → steps ≡ front ++ back →
      Did grain w request w.books.sheet (actions_of_steps rows (number_of grain request) front) p q →
      Came grain w request rows steps p (length front) None None q
  -- and the mark of the write itself, which is next
  marked : (front : List DiskStep) (own : DiskStep) (q : Point) → steps ≡ front ++ own ∷ [] → own.move ≡ None →
      Did grain w request w.books.sheet (actions_of_steps rows (number_of grain request) front ++ mark_of rows own.volume (number_of grain request)) p q →
      Came grain w request rows steps p (length front) None None q
  -- all actions of them but the last record, which waits behind the data of its step
  waits : (front back : List DiskStep) (step : DiskStep) (first : List Action) (r : MetaRecord) (q : Point) → steps ≡ front ++ step ∷ back → 1 ≤ step.calls →
      actions_of_step rows (number_of grain request) step ≡ first ++ Note r ∷ [] →
      Did grain w request w.books.sheet (actions_of_steps rows (number_of grain request) front ++ first) p q →
      Came grain w request rows steps p (length front + 1) None (Some r) q
  -- a step stopped, and what it tore is noted
  stopped : (front back : List DiskStep) (step : DiskStep) (stop : Stop) (q : Point) → steps ≡ front ++ step ∷ back →
      Stopped grain w request rows front step (torn_in (Some stop)) p q →
      Came grain w request rows steps p (length front) (Some stop) None q
  -- or it isn't yet
  tears : (front back : List DiskStep) (step : DiskStep) (torn : TornGrain) (begun q : Point) → steps ≡ front ++ step ∷ back → 1 ≤ step.calls →
      torn ≡ record { volume = record { 0 = step.volume }; grain = record { 0 = number_of grain request }; side = step.side } →
      Did grain w request w.books.sheet (actions_of_steps rows (number_of grain request) front) p begun →
      Did grain w request (chains_behind grain w front) (marks_by_move rows (number_of grain request) step step.move) begun q →
      Came grain w request rows steps p (length front) (Some (Failed (Some torn))) (Some (TornRecord torn.volume torn.grain torn.side)) q
