-- How many calls of its disk the metadata of a history costs, entry by entry, and how full it gets.
use Rattle.std.specs.Prelude.{◌≡◌, ◌≢◌, ◌⊎◌, ℕ, ◌+◌, ◌<◌, ◌≤◌, List, [], ◌∷◌, ◌++◌, fold, length, Option, Some, None}
use Rattle.fc_base.specs.declared.command.Command.{Command}
use Rattle.fc_base.specs.declared.ids.VolId.{VolId}
use Rattle.fc_base.specs.declared.request.Place.TheVariants.{Every}
use Rattle.fc_base.specs.declared.request.Request.{Request}
use Rattle.fc_base.specs.declared.request.Request.TheVariants.{Command as Asked}
use Rattle.fc_base.specs.declared.request.Torn.{Torn}
use Rattle.fc_base.specs.declared.size.GrainSize.{GrainSize}
use Rattle.fc_books.specs.Deciding.{IsLoopOf, settle}
use Rattle.fc_changed.specs.Row.{Row}
use Rattle.fc_entry.specs.declared.entry.Entry.{Entry}
use Rattle.fc_image.specs.declared.image.MetaImage.{MetaImage}
use Rattle.fc_image.specs.declared.record.MetaRecord.{MetaRecord}
use Rattle.fc_image.specs.declared.record.MetaRecord.TheVariants.{Torn as TornRecord}
use Rattle.fc_kept.specs.Actions.{Action, Action.Data, Action.Note, Action.Fold, actions_of_command, actions_of_stop, mark_of}
use Rattle.fc_imaging.specs.Without.{leaving_out}
use Rattle.fc_kept.specs.Images.{kept_in, meta_of}
use Rattle.fc_kept.specs.Kept.{LostGrains, rows_kept}
use Rattle.fc_kept.specs.Marks.{asked_write}
use Rattle.fc_kept.specs.Prefix.{AreStepsOf}
use Rattle.fc_legal.specs.Steps.{Step, after_settling, decided_on}
use Rattle.fc_legal.specs.Whole.{Whole}
use Rattle.fc_marks.specs.Meter.{Meter, filled_size, with_fold, with_record}
use Rattle.fc_rules.specs.Steps.{DiskStep}
use Rattle.fc_steps.specs.StepsEnd.{torn_in}
use Rattle.fc_steps.specs.declared.stop.Stop.{Stop}
use Rattle.fc_steps.specs.declared.stop.Stop.TheVariants.{Failed}
use Rattle.law_crash.specs.Doing.{Tells, actions_of_step, actions_of_steps, marks_by_move, number_of}
use Rattle.law_crash.specs.Leaving.{made_anew}
use Rattle.law_crash.specs.Points.{nothing_kept}

-- ---- an access

-- Records are put one after the other. Data make no call of the disk of metadata.
abbrev pub after_action : ℕ → Meter → Action → Meter
after_action half m (Data step) = m
after_action half m (Note note) = with_record half note m
after_action half m Fold = with_fold half m.image m

abbrev pub after_actions : ℕ → Meter → List Action → Meter
after_actions half m actions = fold (after_action half) m actions

-- The actions of the steps before one that stopped, and what is noted of that one.
abbrev pub actions_stopped : GrainSize → List Row → Request → List DiskStep → DiskStep → Option Torn → List Action
actions_stopped grain rows request front step torn =
    actions_of_steps rows (number_of grain request) front
    ++ (marks_by_move rows (number_of grain request) step step.move ++ actions_of_stop torn)

-- The actions of an entry that is no command's, by the rows that metadata has when it begins: none, where it has no steps; those of
-- all its steps; or those up to a step that stopped.
pub data AreActionsOf (grain : GrainSize) (w : Whole) (rows : List Row) (entry : Entry) : List Action → Type 0 where
  still : Tells entry.request None [] None entry → AreActionsOf grain w rows entry []
  whole : (steps : List DiskStep) → AreStepsOf grain w entry.request steps →
      Tells entry.request (asked_write entry.request) steps None entry →
      AreActionsOf grain w rows entry (actions_of_steps rows (number_of grain entry.request) steps)
  stopped : (front back : List DiskStep) (step : DiskStep) (torn : Option Torn) →
      AreStepsOf grain w entry.request (front ++ step ∷ back) → Tells entry.request None front torn entry →
      AreActionsOf grain w rows entry (actions_stopped grain rows entry.request front step torn)

-- ---- an entry that is under way

-- What actions make of metadata's rows.
abbrev pub rows_by_action : List Row → Action → List Row
rows_by_action rows (Data step) = rows
rows_by_action rows (Note note) = rows_kept rows note
rows_by_action rows Fold = rows

abbrev pub rows_behind : List Row → List Action → List Row
rows_behind rows actions = fold rows_by_action rows actions

-- By how many steps were done, why the next one stopped, and the record that is due: the actions so far. The rows are those of metadata
-- when the entry began.
pub data SoFar (grain : GrainSize) (rows : List Row) (request : Request) (steps : List DiskStep) : ℕ → Option Stop → Option MetaRecord → List Action → Type 0 where
  -- all actions of the steps that were done
  behind : (front back : List DiskStep) → steps ≡ front ++ back →
      SoFar grain rows request steps (length front) None None (actions_of_steps rows (number_of grain request) front)
  -- and the mark of the write itself, which is next
  marked : (front : List DiskStep) (own : DiskStep) → steps ≡ front ++ own ∷ [] → own.move ≡ None →
      SoFar grain rows request steps (length front) None None
      (actions_of_steps rows (number_of grain request) front ++ mark_of rows own.volume (number_of grain request))
  -- all actions of them but the last record, which waits
  waits : (front back : List DiskStep) (step : DiskStep) (first : List Action) (note : MetaRecord) → steps ≡ front ++ step ∷ back →
      actions_of_step rows (number_of grain request) step ≡ first ++ Note note ∷ [] →
      SoFar grain rows request steps (length front + 1) None (Some note) (actions_of_steps rows (number_of grain request) front ++ first)
  -- a step stopped, and what it tore is noted
  stopped : (front back : List DiskStep) (step : DiskStep) (stop : Stop) → steps ≡ front ++ step ∷ back →
      SoFar grain rows request steps (length front) (Some stop) None (actions_stopped grain rows request front step (torn_in (Some stop)))
  -- or it isn't yet
  tears : (front back : List DiskStep) (step : DiskStep) (torn : Torn) → steps ≡ front ++ step ∷ back →
      SoFar grain rows request steps (length front) (Some (Failed (Some torn))) (Some (TornRecord torn.volume torn.grain torn.side))
      (actions_of_steps rows (number_of grain request) front ++ marks_by_move rows (number_of grain request) step step.move)

-- The same, and the rows that metadata has behind them.
pub record Acted (grain : GrainSize) (request : Request) (steps : List DiskStep) (n : ℕ) (stop : Option Stop) (due : Option MetaRecord) (rows now : List Row) (actions : List Action) : Type 0 where
  pub so_far : SoFar grain rows request steps n stop due actions
  pub rows_are : rows_behind rows actions ≡ now

-- ---- a command

-- What a command that is decided does to metadata, with its settling: it is made anew, or nothing is done.
pub record CommandActs (grain : GrainSize) (w : Whole) (command : Command) (actions : List Action) : Type 0 where
  pub loop : Option (List VolId)
  pub is_loop : IsLoopOf grain (after_settling grain w).books command loop
  pub are : actions_of_command (settle w.books) (decided_on grain (after_settling grain w) command loop) ≡ actions

-- What it says is put as it is; or, where a volume goes, what is told behind the settling is, and then that volume left out.
abbrev pub IsPutAnew : Whole → List LostGrains → MetaImage → Type 0
IsPutAnew settled lost image = (image ≡ meta_of (kept_in image)) ⊎ ((gone : VolId) × (image ≡ leaving_out gone (meta_of (made_anew settled settled.rows lost))))

-- It makes metadata anew by an image of what is told with its entry. Grains are lost that were by the image before.
pub record MakesAnew (grain : GrainSize) (w : Whole) (before : MetaImage) (command : Command) (entry : Entry) (next : Whole) (image : MetaImage) : Type 0 where
  pub step : Step grain w entry next
  pub every : entry.place ≡ Every
  pub asked : entry.request ≡ Asked command
  pub acts : CommandActs grain w command (Fold ∷ [])
  pub says : kept_in image ≡ made_anew next next.rows (kept_in before).lost
  pub put : IsPutAnew (after_settling grain w) (kept_in before).lost image

-- ---- a history

-- The first image says nothing. With the gate before it, it passes the half.
abbrev pub first_image : MetaImage
first_image = meta_of nothing_kept

abbrev pub FirstPasses : ℕ → Type 0
FirstPasses half = half < 1 + filled_size first_image

-- What metadata was asked for behind these entries: four calls to open it, and then by each entry in its turn.
pub data Metered (grain : GrainSize) (half : ℕ) : List Entry → Whole → Meter → Type 0 where
  opened : (w : Whole) → w.entries ≡ 0 → 1 + filled_size first_image ≤ half →
      Metered grain half [] w (record { image = first_image; generation = 1; used = filled_size first_image; calls = 4; full = None })
  access : (entries : List Entry) (w : Whole) (m : Meter) (entry : Entry) (next : Whole) (actions : List Action) →
      Metered grain half entries w m → Step grain w entry next → entry.place ≢ Every →
      AreActionsOf grain w (kept_in m.image).rows entry actions →
      Metered grain half (entries ++ entry ∷ []) next (after_actions half m actions)
  anew : (entries : List Entry) (w : Whole) (m : Meter) (entry : Entry) (next : Whole) (command : Command) (image : MetaImage) →
      Metered grain half entries w m → MakesAnew grain w m.image command entry next image →
      Metered grain half (entries ++ entry ∷ []) next (with_fold half image m)
  unchanged : (entries : List Entry) (w : Whole) (m : Meter) (entry : Entry) (next : Whole) (command : Command) →
      Metered grain half entries w m → Step grain w entry next → entry.place ≡ Every → entry.request ≡ Asked command →
      CommandActs grain w command [] →
      Metered grain half (entries ++ entry ∷ []) next m

-- ---- a request that isn't answered

-- What it asks metadata for on the way: by some first actions of its steps, by the record of what a failed write tore, or by metadata
-- made anew.
pub data GoesInto (grain : GrainSize) (half : ℕ) (w : Whole) (m : Meter) : Request → Meter → Type 0 where
  first : (request : Request) (steps : List DiskStep) (front back : List Action) → AreStepsOf grain w request steps →
      actions_of_steps (kept_in m.image).rows (number_of grain request) steps ≡ front ++ back →
      GoesInto grain half w m request (after_actions half m front)
  tears : (request : Request) (front back : List DiskStep) (step : DiskStep) (torn : Torn) →
      AreStepsOf grain w request (front ++ step ∷ back) →
      GoesInto grain half w m request (after_actions half m (actions_stopped grain (kept_in m.image).rows request front step (Some torn)))
  anew : (command : Command) (entry : Entry) (next : Whole) (image : MetaImage) → MakesAnew grain w m.image command entry next image →
      GoesInto grain half w m (Asked command) (with_fold half image m)
