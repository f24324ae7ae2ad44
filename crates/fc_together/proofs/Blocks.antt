-- A block that is run: its faults, the names of its actors, and what their scripts leave.
use Rattle.std.proofs.Common.{◌≡◌, ℕ, suc, ◌+◌, ◌<◌, List, [], ◌∷◌, ◌++◌, length, All, Contains, Result, Ok, Err, codes, sym, ◌∙◌, ap, subst, arith}
use Rattle.std.proofs.lemmas.List.{append-nil, length-append}
use Rattle.fc_actors.specs.declared.script.ActorScript.{ActorScript}
use Rattle.fc_base.specs.declared.fault.WordFault.{WordFault}
use Rattle.fc_base.specs.declared.size.GrainSize.{GrainSize}
use Rattle.fc_blocks.specs.Segments.{together, cut}
use Rattle.fc_blocks.specs.declared.block.ActorRead.{ActorRead}
use Rattle.fc_blocks.specs.declared.block.BlockRead.{BlockRead}
use Rattle.fc_entry.specs.HistoryState.{HistoryState}
use Rattle.fc_entry.specs.Text.{HasNames}
use Rattle.fc_entry.specs.declared.stop.Stop.{Stop}
use Rattle.fc_entry.specs.declared.stop.Stop.TheVariants.{LogFull, NoMemory}
use Rattle.fc_legal.proofs.Naming.{HasMore, names_more}
use Rattle.fc_legal.specs.Added.{Answered, IsOf, IsTold}
use Rattle.fc_legal.specs.Agenda.{Reading, session_rules}
use Rattle.fc_legal.specs.Scripts.{Script, names_with, scripts_of}
use Rattle.fc_legal.specs.Whole.{Whole, lanes}
use Rattle.fc_opening.specs.Telling.{FaultsTold}
use Rattle.fc_prepare.specs.Scripts.{AskTheirs}
use Rattle.fc_scripts.proofs.Fixed.{scripts_law_holds}
use Rattle.fc_scripts.specs.Ways.{AreOfDifferent}
use Rattle.fc_stands.specs.Store.{StandsFor, StoreView}
use Rattle.law_running.proofs.Lawful.{run_law_holds}
use Rattle.law_running.specs.Running.{ScriptsRan}
use Rattle.law_together.proofs.Block.{block_law_holds}
use Rattle.law_together.proofs.Steps.{steps_law_holds}
use Rattle.law_together.specs.Telling.{block_alone, named, scripts_then}
use Rattle.fc_together.specs.Prepared.{AreScripts}
use Rattle.fc_together.proofs.Naming.{has_names_added, scripts_keep_names, scripts_named}
use Rattle.fc_together.proofs.Ran.{ran_none}

-- The history with the names of a block's actors among its own.
abbrev pub with_names_of : HistoryState → BlockRead → HistoryState
with_names_of history block = record history { actors = names_with history.actors block.actors }

-- ---- what telling the faults keeps

module _ (Stands : Whole → Type 0) (grain : GrainSize) (faults : List WordFault) (w : Whole) where
  -- However it ends, the first of them are told.
  some_told : (result : Result (Unit {0}) Stop) (old new : HistoryState) → FaultsTold result Stands grain w faults old new →
      FaultsTold {A = Unit {0}} (Err NoMemory) Stands grain w faults old new
  some_told (Ok done) old new told =
      (told.0, told.1.1, record { more = told.2.more; entries = told.2.entries; are = ([], told.2.are) })
  some_told (Err LogFull) old new told =
      let adds = told.1.2 in
      (told.1.0, told.1.1.1, record { more = adds.more; entries = adds.entries; are = (adds.are.0 ∷ adds.are.1, adds.are.2) })
  some_told (Err NoMemory) old new told = told

  pub same_actors : (result : Result (Unit {0}) Stop) (old new : HistoryState) → IsOf w old → FaultsTold result Stands grain w faults old new → new.actors ≡ old.actors
  same_actors result old new is told =
      let some = some_told result old new told in
      let counted = steps_law_holds.counted grain w some.0 some.2.more some.2.are.1.steps in
      sym some.1.actors ∙ counted.2 ∙ is.actors

  pub faults_keep_names : (result : Result (Unit {0}) Stop) (old new : HistoryState) (names : List (List ℕ)) → IsOf w old → old.actors ≡ codes "main" ∷ names →
      FaultsTold result Stands grain w faults old new → HasNames old → HasNames new
  faults_keep_names result old new names is main told has =
      let some = some_told result old new told in
      let same : length new.actors ≡ length old.actors = ap (λ (ns : List (List ℕ)). length ns) (same_actors result old new is told) in
      let long : length old.actors ≡ suc (length names) = ap (λ (ns : List (List ℕ)). length ns) main in
      has_names_added old new some.2.more some.2.entries (omega (arith, same)) has
      (λ k d inside. let by_main = some.2.are.1.by_main k d inside in omega (arith, by_main, same, long))

-- Those of the block, however they are written.
pub of_block : (result : Result (Unit {0}) Stop) (Stands : Whole → Type 0) (grain : GrainSize) (w : Whole) (faults of : List WordFault) (old new : HistoryState) → faults ≡ of →
    FaultsTold result Stands grain w faults old new → FaultsTold result Stands grain w of old new
of_block result Stands grain w faults of old new is told =
    let P : List WordFault → Type 0 = λ fs. FaultsTold result Stands grain w fs old new in
    subst P is told

-- ---- it stops before the actors begin

module _ (Stands : Whole → Type 0) (grain : GrainSize) (read : Reading) (block : BlockRead) (w : Whole) where
  -- At a fault.
  pub faults_stopped : (stop : Stop) (old new : HistoryState) → FaultsTold {A = Unit {0}} (Err stop) Stands grain w block.faults old new →
      Answered {A = Unit {0}} (Err stop) Stands (session_rules grain read) (block_alone block) w old new
  faults_stopped LogFull old new told =
      let adds = told.1.2 in (
        told.0,
        (
          told.1.0,
          told.1.1,
          record {
            more = adds.more;
            entries = adds.entries;
            are = block_law_holds.told_asking grain read block w told.1.0 adds.more adds.are.0 adds.are.1 adds.are.2;
          },
        ),
      )
  faults_stopped NoMemory old new told =
      let adds = told.2 in (
        told.0,
        told.1,
        record { more = adds.more; entries = adds.entries; are = block_law_holds.told grain read block w told.0 adds.more adds.are.0 adds.are.1 },
      )

  -- All of them are told, and no name came.
  pub names_stopped : (Left : Whole → Type 0) (old mid new : HistoryState) → new ≡ mid → FaultsTold {A = Unit {0}} (Ok tt) Stands grain w block.faults old mid →
      Answered {A = Unit {0}} (Err NoMemory) Left (session_rules grain read) (block_alone block) w old new
  names_stopped Left old mid new same told =
      let adds = told.2 in
      let P : HistoryState → Type 0 = λ h. Answered {A = Unit {0}} (Err NoMemory) Left (session_rules grain read) (block_alone block) w old h in
      subst P (sym same) (
        told.0,
        told.1.1,
        record { more = adds.more; entries = adds.entries; are = block_law_holds.told grain read block w told.0 adds.more [] adds.are },
      )

-- ---- the names come

pub none_behind : (old mid : HistoryState) → mid.actors ≡ old.actors → (names : List (List ℕ)) × (mid.actors ≡ old.actors ++ names)
none_behind old mid same = ([], same ∙ sym (append-nil old.actors))

pub same_keeps : (mid new : HistoryState) → new ≡ mid → HasNames mid → HasNames new
same_keeps mid new same has =
    let P : HistoryState → Type 0 = λ h. HasNames h in
    subst P (sym same) has

module _ (block : BlockRead) (mid come : HistoryState) (named_is : come ≡ with_names_of mid block) where
  pub names_behind : (old : HistoryState) → mid.actors ≡ old.actors → (names : List (List ℕ)) × (come.actors ≡ old.actors ++ names)
  names_behind old same =
      let has : HasMore mid.actors (names_with mid.actors block.actors) = names_more mid.actors block.actors in
      (has.more, ap (λ (h : HistoryState). h.actors) named_is ∙ has.is ∙ ap (λ (ns : List (List ℕ)). ns ++ has.more) same)

  pub named_keeps : HasNames mid → HasNames come
  named_keeps has =
      let more : HasMore mid.actors (names_with mid.actors block.actors) = names_more mid.actors block.actors in
      let long : length (names_with mid.actors block.actors) ≡ length mid.actors + length more.more =
      ap (λ (ns : List (List ℕ)). length ns) more.is ∙ length-append mid.actors more.more in
      same_keeps (with_names_of mid block) come named_is (λ k d inside. let below = has k d inside in omega (arith, below, long))

  pub same_entries : come.entries ≡ mid.entries
  same_entries = ap (λ (h : HistoryState). h.entries) named_is

  module _ (store : StoreView) (m : Whole) (told : IsTold (StandsFor store) mid m) where
    -- The store goes on to stand for what is told, with the names.
    pub named_told : IsTold (StandsFor store) come (named m block)
    named_told =
        let P : HistoryState → Type 0 = λ h. IsTold (StandsFor store) h (named m block) in
        subst P (sym named_is) (
          run_law_holds.named_stands store m block told.0,
          record { actors = ap (λ (names : List (List ℕ)). names_with names block.actors) told.1.actors; entries = told.1.entries },
        )

    -- And the actors' scripts go by it.
    pub are_scripts : {D : Type 0} (scripts : List (ActorScript D)) (actors : List ActorRead) → actors ≡ block.actors →
        ((v : Whole) → StandsFor store v → AskTheirs scripts (scripts_of store.control.grain (lanes v) v.books come.actors actors)) →
        AreScripts scripts (scripts_then store.control.grain m block)
    are_scripts {D} scripts actors is asked =
        let v : Whole = named m block in
        let P : List (List ℕ) → Type 0 = λ names. AskTheirs scripts (scripts_of store.control.grain (lanes v) v.books names actors) in
        let Q : List ActorRead → Type 0 = λ xs. AskTheirs scripts (scripts_of store.control.grain (lanes v) v.books v.actors xs) in
        subst Q is (subst P (sym named_told.1.actors) (asked v named_told.0))

    pub ran_keeps_names : (left : StoreView) (result : Result (Unit {0}) Stop) (new : HistoryState) →
        ScriptsRan result (StandsFor left) store.control.grain (named m block) (scripts_then store.control.grain m block) come new →
        new.actors ≡ come.actors → HasNames mid → HasNames new
    ran_keeps_names left result new ran same has =
        let P : List (List ℕ) → Type 0 = λ names. All (λ (s : Script). s.actor < length names) (scripts_then store.control.grain m block) in
        scripts_keep_names result (StandsFor left) store.control.grain (named m block) (scripts_then store.control.grain m block) come new ran same
        (subst P named_told.1.actors (scripts_named store.control.grain (lanes m) m.books m.actors block.actors))
        (named_keeps has)

-- The scripts of a block are of different actors.
pub different : (lines : List (List ℕ)) (block : BlockRead) (grain : GrainSize) (m : Whole) → Contains (cut lines).segments (together block) → AreOfDifferent (scripts_then grain m block)
different lines block grain m is_block = scripts_law_holds.differ lines block grain (lanes m) m.books m.actors is_block

-- ---- the actors are run

module _ (store left : StoreView) (lines : List (List ℕ)) (read : Reading) (block : BlockRead) (w : Whole) (old mid come : HistoryState)
    (named_is : come ≡ with_names_of mid block) (is_block : Contains (cut lines).segments (together block))
    (told : FaultsTold {A = Unit {0}} (Ok tt) (StandsFor store) store.control.grain w block.faults old mid) where
  pub scripts_ran : (result : Result (Unit {0}) Stop) (new : HistoryState) →
      ScriptsRan result (StandsFor left) store.control.grain (named told.0 block) (scripts_then store.control.grain told.0 block) come new →
      Answered result (StandsFor left) (session_rules store.control.grain read) (block_alone block) w old new
  scripts_ran result new ran =
      run_law_holds.block result left lines store.control.grain read block w told.0 told.2.more old come new is_block told.2.are
      (same_entries block mid come named_is ∙ told.2.entries) ran

  -- None of them began.
  pub none_ran : Answered {A = Unit {0}} (Err NoMemory) (StandsFor left) (session_rules store.control.grain read) (block_alone block) w old come
  none_ran =
      let now = named_told block mid come named_is store told.0 told.1 in
      scripts_ran (Err NoMemory) come
      (ran_none (StandsFor left) store.control.grain (named told.0 block) (scripts_then store.control.grain told.0 block) come now.1
      (different lines block store.control.grain told.0 is_block))
