-- What actors made beside each other is right, and theirs, once it is merged.
use Rattle.std.proofs.Common.{◌≡◌, ℕ, suc, ◌+◌, ◌≤◌, List, [], ◌∷◌, ◌++◌, length, map, Ok, Err, refl, sym, ◌∙◌, ap, subst, arith}
use Rattle.std.proofs.lemmas.List.{length-append}
use Rattle.fc_entry.specs.HistoryState.{HistoryState}
use Rattle.fc_entry.specs.declared.entry.Entry.{Entry}
use Rattle.fc_entry.specs.declared.stop.Stop.TheVariants.{LogFull, NoMemory}
use Rattle.fc_legal.specs.Added.{IsOf}
use Rattle.fc_legal.specs.Legal.{AreSteps}
use Rattle.fc_legal.specs.Scripts.{Script}
use Rattle.fc_legal.specs.Whole.{Whole}
use Rattle.fc_merge.specs.Merging.{AreOwn, IsMerged, all_of}
use Rattle.fc_scripts.specs.Ways.{AreOfDifferent}
use Rattle.fc_shares.proofs.Lawful.{share_law_holds}
use Rattle.fc_shares.specs.Law.{numbered, situation_of}
use Rattle.fc_stands.specs.Store.{StandsFor, StoreView}
use Rattle.law_together.proofs.Asked.{ask_law_holds}
use Rattle.law_together.proofs.Drawn.{merge_law_holds}
use Rattle.law_together.proofs.Steps.{steps_law_holds}
use Rattle.law_together.specs.Asking.{AllAsked, AllBegan, OneWants}
use Rattle.law_together.specs.Making.{AreMakings, Making, own_of}
use Rattle.law_running.specs.Law.{MergesTo, with_entries}
use Rattle.law_running.specs.Running.{IsRun, ScriptsRan}

length-numbered : (n : ℕ) (entries : List Entry) → length (numbered n entries) ≡ length entries
length-numbered n [] = refl
length-numbered n (entry ∷ entries) = omega (arith, length-numbered (suc n) entries)

module _ (store new : StoreView) (w : Whole) (makings : List Making) (old : HistoryState) (told : IsOf w old) (made : AreMakings makings) (run : IsRun store new w makings) where
  pub merged_is : (merged : List Entry) → MergesTo old makings merged → merged ≡ numbered w.entries run.entries
  merged_is merged m =
      let P : ℕ → Type 0 = λ n. IsMerged n (length (all_of (map own_of makings))) (map own_of makings) merged in
      merge_law_holds.merged w.entries run.entries merged makings made run.drawn (subst P (sym told.entries) m)

  are_own : AreOwn (map own_of makings)
  are_own = merge_law_holds.own makings made

  are_steps : (merged : List Entry) → MergesTo old makings merged → AreSteps store.control.grain w merged run.last.whole
  are_steps merged m =
      let P : List Entry → Type 0 = λ es. AreSteps store.control.grain w es run.last.whole in
      subst P (sym (merged_is merged m)) (share_law_holds.steps (situation_of store w) run.last w.entries run.entries run.leads)

  is_of : (last : Whole) (more : List Entry) → AreSteps store.control.grain w more last → IsOf last (with_entries old more)
  is_of last more steps =
      let counted = steps_law_holds.counted store.control.grain w last more steps in
      record {
        actors = counted.2 ∙ told.actors;
        entries = omega (arith, counted.0, told.entries, length-append old.entries more);
      }

  pub last_entries : run.last.whole.entries ≡ w.entries + length run.entries
  last_entries =
      let steps = share_law_holds.steps (situation_of store w) run.last w.entries run.entries run.leads in
      omega (arith, (steps_law_holds.counted store.control.grain w run.last.whole (numbered w.entries run.entries) steps).0, length-numbered w.entries run.entries)

  pub stands : StandsFor new run.last.whole
  stands = share_law_holds.closing (situation_of store w) run.last store.lanes new run.shares

  pub ran_all : (scripts : List Script) (merged : List Entry) → AllAsked (map own_of makings) scripts → MergesTo old makings merged →
      ScriptsRan {A = Unit {0}} (Ok tt) (StandsFor new) store.control.grain w scripts old (with_entries old merged)
  ran_all scripts merged asked m =
      let steps = are_steps merged m in (
        run.last.whole,
        (stands, is_of run.last.whole merged steps),
        record {
          more = merged;
          entries = refl;
          are = (steps, ask_law_holds.all (length old.entries) (length (all_of (map own_of makings))) (map own_of makings) scripts merged are_own asked m);
        },
      )

  pub length-merged : (merged : List Entry) → MergesTo old makings merged → length merged ≡ length run.entries
  length-merged merged m = ap length (merged_is merged m) ∙ length-numbered w.entries run.entries

  pub ran_full : (scripts : List Script) (merged : List Entry) → AreOfDifferent scripts → AllBegan (map own_of makings) scripts →
      OneWants (map own_of makings) scripts → 262144 ≤ w.entries + length run.entries → MergesTo old makings merged →
      ScriptsRan {A = Unit {0}} (Err LogFull) (StandsFor new) store.control.grain w scripts old (with_entries old merged)
  ran_full scripts merged differ began one full m =
      let steps = are_steps merged m in (
        omega (arith, full, run.room, told.entries, length-append old.entries merged, length-merged merged m),
        (
          run.last.whole,
          (stands, is_of run.last.whole merged steps),
          record {
            more = merged;
            entries = refl;
            are = (steps, ask_law_holds.wants (length old.entries) (length (all_of (map own_of makings))) (map own_of makings) scripts merged differ are_own began one m);
          },
        ),
      )

  pub ran_some : (Stands : Whole → Type 0) (scripts : List Script) (merged front rest : List Entry) → AreOfDifferent scripts →
      AllBegan (map own_of makings) scripts → MergesTo old makings merged → merged ≡ front ++ rest →
      ScriptsRan {A = Unit {0}} (Err NoMemory) Stands store.control.grain w scripts old (with_entries old front)
  ran_some Stands scripts merged front rest differ began m split =
      let P : List Entry → Type 0 = λ es. AreSteps store.control.grain w es run.last.whole in
      let Q : List Entry → Type 0 = λ es. MergesTo old makings es in
      let cut = steps_law_holds.front store.control.grain w run.last.whole front rest (subst P split (are_steps merged m)) in (
        cut.0,
        is_of cut.0 front cut.1,
        record {
          more = front;
          entries = refl;
          are = (cut.1, ask_law_holds.began (length old.entries) (length (all_of (map own_of makings))) (map own_of makings) scripts front rest differ are_own began (subst Q split m));
        },
      )

  pub ran_within : (merged front rest : List Entry) → MergesTo old makings merged → merged ≡ front ++ rest → length (old.entries ++ front) ≤ 262144
  ran_within merged front rest m split =
      omega (arith, run.room, told.entries, length-append old.entries front, length-append front rest, ap length split, length-merged merged m)
