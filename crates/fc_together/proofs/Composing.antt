-- What was done over a store, put together: the actors' makings, and how far they came with their scripts.
use Rattle.std.proofs.Common.{◌≡◌, ℕ, ◌≤◌, List, [], ◌∷◌, map, All, Option, Some, None, refl, sym, ap₂, subst, arith}
use Rattle.std.proofs.lemmas.List.Elements.{All-cons, All-head, All-nil, All-tail}
use Rattle.fc_base.specs.declared.request.Request.{Request}
use Rattle.fc_entry.specs.declared.entry.Entry.{Entry}
use Rattle.fc_entry.specs.declared.stop.Stop.{Stop}
use Rattle.fc_entry.specs.declared.stop.Stop.TheVariants.{LogFull}
use Rattle.fc_legal.specs.Scripts.{Script}
use Rattle.fc_legal.specs.Whole.{Whole}
use Rattle.fc_scripts.specs.Ways.{AreOfDifferent, numbers_of}
use Rattle.fc_shares.specs.Situation.{Situation}
use Rattle.fc_stands.specs.Store.{StandsFor, StoreView}
use Rattle.fc_store.specs.declared.store_part.StorePart.{StorePart}
use Rattle.fc_tasks.specs.Acting.{AllAnswered, HasAnswered, Stopped}
use Rattle.fc_tasks.specs.declared.actor.Answered.{Answered}
use Rattle.fc_actors.specs.Scripts.{WorkSuits, left_of, needs_of}
use Rattle.fc_actors.specs.declared.script.ActorScript.{ActorScript}
use Rattle.law_running.specs.Running.{IsRun}
use Rattle.law_together.proofs.Drawn.{merge_law_holds}
use Rattle.law_together.specs.Asking.{AllAsked, AllBegan, LeavesOf}
use Rattle.law_together.specs.Making.{AreDrawn, AreMakings, IsMaking, Making, own_of}
use Rattle.law_together.specs.Making as makings
use Rattle.fc_together.specs.Answers.{making_of}
use Rattle.fc_together.specs.Over.{HaveActedOver}
use Rattle.fc_together.specs.Prepared.{AreScripts}
use Rattle.fc_together.proofs.Asking.{GoesOn, OneLeft, SuitsYard, done_left, is_making, leaves, more_left, same_made}

module _ {D : Type 0} where
  abbrev pub AllAnswer : ℕ → ℕ → List (ActorScript D) → List (Answered Entry (ActorScript D)) → Type 0
  AllAnswer limit low scripts answers = AllAnswered {P = StorePart D} needs_of SuitsYard GoesOn limit low scripts answers

  abbrev pub ActedOver : StoreView → StoreView → ℕ → List (ActorScript D) → List (Answered Entry (ActorScript D)) → Type 0
  ActedOver old new first scripts answers = HaveActedOver needs_of SuitsYard GoesOn old new first scripts answers

  -- Entries led from the one store to the other.
  unfoldable pub is_run : (old new : StoreView) (first : ℕ) (scripts : List (ActorScript D)) (answers : List (Answered Entry (ActorScript D))) (w : Whole) →
      StandsFor old w → w.entries ≡ first → ActedOver old new first scripts answers → IsRun old new w (map making_of answers)
  is_run old new first scripts answers w stands counted h =
      let led = h.led w stands counted in
      let P : ℕ → Type 0 = λ n. AreDrawn n h.entries (makings.all_made (map making_of answers)) in
      let Q : List (ℕ × Entry) → Type 0 = λ ms. AreDrawn first h.entries ms in
      record {
        entries = h.entries;
        drawn = subst P (sym counted) (subst Q (sym (same_made answers)) record { stand = h.stand; numbers = h.numbers });
        last = led.last;
        leads = led.leads;
        shares = led.shares;
        room = let within = h.within.0 in omega (arith, within, counted);
      }

  -- How far they came.
  pub all_began : (limit low : ℕ) (scripts : List (ActorScript D)) (asked : List Script) (answers : List (Answered Entry (ActorScript D))) →
      AreScripts scripts asked → AllAnswer limit low scripts answers → AllBegan (map own_of (map making_of answers)) asked
  all_began limit low [] [] [] same h = tt
  all_began limit low (s ∷ ss) (x ∷ xs) (a ∷ answers) same h =
      ((left_of a.left, leaves limit low s a x same.0.0 same.0.1 h.0), all_began limit low ss xs answers same.1 h.1)
  all_began limit low [] (x ∷ xs) answers same h = absurd same
  all_began limit low (s ∷ ss) [] answers same h = absurd same
  all_began limit low [] [] (a ∷ answers) same h = absurd h
  all_began limit low (s ∷ ss) (x ∷ xs) [] same h = absurd h

  abbrev pub HasEnded : Answered Entry (ActorScript D) → Type 0
  HasEnded a = a.stop ≡ None

  ended_left : (limit low : ℕ) (s : ActorScript D) (a : Answered Entry (ActorScript D)) → HasEnded a → HasAnswered {P = StorePart D} needs_of SuitsYard GoesOn limit low s a → left_of a.left ≡ []
  ended_left limit low s a ended h =
      let P : Option Stop → Type 0 = λ o. Stopped {E = Entry} {P = StorePart D} needs_of SuitsYard GoesOn limit low a.left o in
      done_left a.left (subst P ended h.stopped)

  pub all_asked : (limit low : ℕ) (scripts : List (ActorScript D)) (asked : List Script) (answers : List (Answered Entry (ActorScript D))) →
      AreScripts scripts asked → AllAnswer limit low scripts answers → All HasEnded answers → AllAsked (map own_of (map making_of answers)) asked
  all_asked limit low [] [] [] same h ended = tt
  all_asked limit low (s ∷ ss) (x ∷ xs) (a ∷ answers) same h ended =
      let P : List Request → Type 0 = λ rs. LeavesOf x (own_of (making_of a)) rs in (
        subst P (ended_left limit low s a (All-head HasEnded a answers ended) h.0) (leaves limit low s a x same.0.0 same.0.1 h.0),
        all_asked limit low ss xs answers same.1 h.1 (All-tail HasEnded a answers ended),
      )
  all_asked limit low [] (x ∷ xs) answers same h ended = absurd same
  all_asked limit low (s ∷ ss) [] answers same h ended = absurd same
  all_asked limit low [] [] (a ∷ answers) same h ended = absurd h
  all_asked limit low (s ∷ ss) (x ∷ xs) [] same h ended = absurd h

  -- One that stopped at the limit wants one more.
  pub wants_more : (told : Situation) (limit low : ℕ) (s : ActorScript D) (a : Answered Entry (ActorScript D)) → WorkSuits told a.left.work → a.stop ≡ Some LogFull →
      HasAnswered {P = StorePart D} needs_of SuitsYard GoesOn limit low s a → OneLeft (left_of a.left) × (limit ≤ low)
  wants_more told limit low s a suits full h =
      let P : Option Stop → Type 0 = λ o. Stopped {E = Entry} {P = StorePart D} needs_of SuitsYard GoesOn limit low a.left o in
      let stopped = subst P full h.stopped in
      (more_left told a.left suits stopped.0, stopped.1)

  -- What they made.
  numbers : (limit low : ℕ) (scripts : List (ActorScript D)) (asked : List Script) (answers : List (Answered Entry (ActorScript D))) →
      AreScripts scripts asked → AllAnswer limit low scripts answers → map (λ (m : Making). m.actor) (map making_of answers) ≡ numbers_of asked
  numbers limit low [] [] [] same h = refl
  numbers limit low (s ∷ ss) (x ∷ xs) (a ∷ answers) same h =
      ap₂ (λ (n : ℕ) (ns : List ℕ). n ∷ ns) (leaves limit low s a x same.0.0 same.0.1 h.0).actor (numbers limit low ss xs answers same.1 h.1)
  numbers limit low [] (x ∷ xs) answers same h = absurd same
  numbers limit low (s ∷ ss) [] answers same h = absurd same
  numbers limit low [] [] (a ∷ answers) same h = absurd h
  numbers limit low (s ∷ ss) (x ∷ xs) [] same h = absurd h

  each_making : (limit low : ℕ) (scripts : List (ActorScript D)) (answers : List (Answered Entry (ActorScript D))) → AllAnswer limit low scripts answers → All IsMaking (map making_of answers)
  each_making limit low [] [] h = All-nil IsMaking
  each_making limit low (s ∷ ss) (a ∷ answers) h = All-cons IsMaking (making_of a) (map making_of answers) (is_making limit low s a h.0) (each_making limit low ss answers h.1)
  each_making limit low [] (a ∷ answers) h = absurd h
  each_making limit low (s ∷ ss) [] h = absurd h

  pub are_makings : (limit low : ℕ) (scripts : List (ActorScript D)) (asked : List Script) (answers : List (Answered Entry (ActorScript D))) →
      AreScripts scripts asked → AllAnswer limit low scripts answers → AreOfDifferent asked → AreMakings (map making_of answers)
  are_makings limit low scripts asked answers same h differ =
      (each_making limit low scripts answers h, merge_law_holds.differ (map making_of answers) asked (numbers limit low scripts asked answers same h) differ)
