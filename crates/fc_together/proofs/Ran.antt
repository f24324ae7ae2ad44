-- What running the scripts of a block's actors leaves, from what they did over the store and what of it is told.
use Rattle.std.proofs.Common.{◌≡◌, ℕ, ◌+◌, ◌==◌, ◌≤◌, true, List, [], ◌∷◌, length, All, Result, Ok, Err, refl, sym, ◌∙◌, ap, subst, arith}
use Rattle.std.specs.List.{list_any}
use Rattle.std.proofs.lemmas.List.{append-nil}
use Rattle.std.proofs.lemmas.List.Elements.{All-head, All-nil, All-tail}
use Rattle.fc_base.specs.declared.size.GrainSize.{GrainSize}
use Rattle.fc_entry.specs.HistoryState.{HistoryState}
use Rattle.fc_entry.specs.declared.entry.Entry.{Entry}
use Rattle.fc_entry.specs.declared.stop.Stop.{Stop}
use Rattle.fc_entry.specs.declared.stop.Stop.TheVariants.{LogFull, NoMemory}
use Rattle.fc_lanes.specs.Dealing.{disks_in}
use Rattle.fc_legal.specs.Added.{IsOf, IsTold, StaysUp}
use Rattle.fc_legal.specs.Scripts.{Script}
use Rattle.fc_legal.specs.Whole.{Whole}
use Rattle.fc_scripts.proofs.Left.{left_by, own}
use Rattle.fc_scripts.specs.Ways.{AreOfDifferent}
use Rattle.fc_shares.specs.Law.{situation_of}
use Rattle.fc_stands.specs.Quiet.{QuietBy}
use Rattle.fc_stands.specs.Store.{StandsFor, StoreView}
use Rattle.fc_store.specs.StoreParts.{parts_view}
use Rattle.fc_store.specs.declared.store_part.StorePart.{StorePart}
use Rattle.fc_tasks.specs.Acting.{AllSuit}
use Rattle.fc_tasks.specs.declared.actor.Answered.{Answered}
use Rattle.fc_actors.specs.Scripts.{Suits, WorkSuits, needs_of}
use Rattle.fc_actors.specs.declared.script.ActorScript.{ActorScript}
use Rattle.law_running.proofs.Lawful.{run_law_holds}
use Rattle.law_running.specs.Running.{IsRun, ScriptsRan}
use Rattle.law_together.specs.Making.{AreDrawn, AreMakings, Making, all_made}
use Rattle.fc_together.specs.Answers.{AllTold, AnswersTold, FirstTold, makings_of}
use Rattle.fc_together.specs.Prepared.{AreScripts}
use Rattle.fc_together.proofs.Asking.{GoesOn, SuitsYard, same_made}
use Rattle.fc_together.proofs.Composing.{ActedOver, all_asked, all_began, are_makings, is_run}
use Rattle.fc_together.proofs.Parts.{opens}
use Rattle.fc_together.proofs.Stopping.{all_ended, one_wants}

-- ---- what is told

pub first_of : (makings : List Making) (old new : HistoryState) → AllTold makings old new → FirstTold makings old new
first_of makings old new t =
    record { merged = t.merged; merges = t.merges; front = t.merged; rest = []; split = sym (append-nil t.merged); new_is = t.new_is }

-- However they stopped, the first of what they made is told.
pub told_first : {D : Type 0} (result : Result (Unit {0}) Stop) (answers : List (Answered Entry (ActorScript D))) (old new : HistoryState) →
    AnswersTold result answers old new → FirstTold (makings_of answers) old new
told_first (Ok done) answers old new told = first_of (makings_of answers) old new told.1
told_first (Err LogFull) answers old new told = first_of (makings_of answers) old new told.1
told_first (Err NoMemory) answers old new told = told

pub same_names : (makings : List Making) (old new : HistoryState) → FirstTold makings old new → new.actors ≡ old.actors
same_names makings old new t = ap (λ (h : HistoryState). h.actors) t.new_is

-- ---- nothing was done

-- None of what the scripts ask was asked.
pub ran_none : (Stands : Whole → Type 0) (grain : GrainSize) (w : Whole) (asked : List Script) (history : HistoryState) → IsOf w history → AreOfDifferent asked →
    ScriptsRan {A = Unit {0}} (Err NoMemory) Stands grain w asked history history
ran_none Stands grain w asked history is differ = (
  w,
  is,
  record {
    more = [];
    entries = sym (append-nil history.entries);
    are = (
      refl,
      record {
        left = left_by asked;
        each = own asked differ;
        nobody_else = All-nil (λ (e : Entry). list_any (λ (s : Script). s.actor == e.actor) asked ≡ true);
      },
    );
  },
)

-- ---- what was done

module _ {D : Type 0} where
  pub all_suit : (parts : List (StorePart D)) (scripts : List (ActorScript D)) → All (λ (s : ActorScript D). Suits s parts 262144) scripts →
      AllSuit {E = Entry} {P = StorePart D} needs_of SuitsYard GoesOn scripts parts 262144
  all_suit parts [] suit = tt
  all_suit parts (s ∷ ss) suit =
      (All-head (λ (t : ActorScript D). Suits t parts 262144) s ss suit, all_suit parts ss (All-tail (λ (t : ActorScript D). Suits t parts 262144) s ss suit))

  module _ (old new : StoreView) (first : ℕ) (scripts : List (ActorScript D)) (answers : List (Answered Entry (ActorScript D))) (before : HistoryState)
      (counted : first ≡ length before.entries) (acted : ActedOver old new first scripts answers) where
    pub makings_made : (asked : List Script) → AreScripts scripts asked → AreOfDifferent asked → AreMakings (makings_of answers)
    makings_made asked same differ = are_makings 262144 acted.low scripts asked answers same acted.answered differ

    pub makings_drawn : AreDrawn (length before.entries) acted.entries (all_made (makings_of answers))
    makings_drawn =
        let P : ℕ → Type 0 = λ n. AreDrawn n acted.entries (all_made (makings_of answers)) in
        let Q : List (ℕ × Entry) → Type 0 = λ ms. AreDrawn first acted.entries ms in
        subst P counted (subst Q (sym (same_made answers)) record { stand = acted.stand; numbers = acted.numbers })

    module _ (w : Whole) (told : IsTold (StandsFor old) before w) where
      run : IsRun old new w (makings_of answers)
      run = is_run old new first scripts answers w told.0 (told.1.entries ∙ sym counted) acted

      pub same_grain : new.control.grain ≡ old.control.grain
      same_grain = run_law_holds.grain old new w (makings_of answers) run

      pub same_disks : disks_in new.lanes ≡ disks_in old.lanes
      same_disks = run_law_holds.disks old new w (makings_of answers) told.0 run

      module _ (asked : List Script) (same : AreScripts scripts asked) (differ : AreOfDifferent asked) where
        makings : AreMakings (makings_of answers)
        makings = makings_made asked same differ

        quiet_told : (after : HistoryState) → AllTold (makings_of answers) before after → QuietBy before.entries old → QuietBy after.entries new
        quiet_told after t quiet =
            let P : HistoryState → Type 0 = λ h. QuietBy h.entries new in
            subst P (sym t.new_is) (run_law_holds.quiet old new w (makings_of answers) t.merged before told.0 told.1 makings run t.merges quiet)

        pub quiet_result : (result : Result (Unit {0}) Stop) (after : HistoryState) → AnswersTold result answers before after →
            QuietBy before.entries old → StaysUp result (QuietBy after.entries new)
        quiet_result (Ok done) after t quiet = quiet_told after t.1 quiet
        quiet_result (Err LogFull) after t quiet = quiet_told after t.1 quiet
        quiet_result (Err NoMemory) after t quiet = tt

        pub limit_kept : (after : HistoryState) → FirstTold (makings_of answers) before after → length after.entries ≤ 262144
        limit_kept after t =
            let within = run_law_holds.limit old new w (makings_of answers) t.merged t.front t.rest before told.1 makings run t.merges t.split in
            let P : HistoryState → Type 0 = λ h. length h.entries ≤ 262144 in
            subst P (sym t.new_is) within

        pub ran : All (λ (s : ActorScript D). Suits s (parts_view old) 262144) scripts → (result : Result (Unit {0}) Stop) (after : HistoryState) → AnswersTold result answers before after →
            ScriptsRan result (StandsFor new) old.control.grain w asked before after
        unfolding run is_run
        ran suit (Ok done) after t =
            let P : HistoryState → Type 0 = λ h. ScriptsRan {A = Unit {0}} (Ok done) (StandsFor new) old.control.grain w asked before h in
            subst P (sym t.1.new_is)
            (run_law_holds.all old new w (makings_of answers) asked t.1.merged before told.1 makings run
            (all_asked 262144 acted.low scripts asked answers same acted.answered (all_ended answers t.0)) t.1.merges)
        ran suit (Err LogFull) after t =
            let P : HistoryState → Type 0 = λ h. ScriptsRan {A = Unit {0}} (Err LogFull) (StandsFor new) old.control.grain w asked before h in
            let work : All (λ (s : ActorScript D). WorkSuits (situation_of old w) s.work) scripts =
            (λ k d inside. (suit k d inside).work w.entries (situation_of old w) (opens old w w.entries told.0 refl)) in
            let one = one_wants (situation_of old w) 262144 acted.low scripts asked answers same acted.answered work t.0 in
            let full : 262144 ≤ w.entries + length acted.entries = omega (arith, one.1, acted.within.1, counted, told.1.entries) in
            subst P (sym t.1.new_is)
            (run_law_holds.full old new w (makings_of answers) asked t.1.merged before told.1 makings run differ
            (all_began 262144 acted.low scripts asked answers same acted.answered) one.0 full t.1.merges)
        ran suit (Err NoMemory) after t =
            let P : HistoryState → Type 0 = λ h. ScriptsRan {A = Unit {0}} (Err NoMemory) (StandsFor new) old.control.grain w asked before h in
            subst P (sym t.new_is)
            (run_law_holds.some old new new w (makings_of answers) asked t.merged t.front t.rest before told.1 makings run differ
            (all_began 262144 acted.low scripts asked answers same acted.answered) t.merges t.split)
