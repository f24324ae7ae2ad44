-- Why actors stopped: none of them did before the end of its script, or one of them wants one more.
use Rattle.std.proofs.Common.{◌≡◌, ℕ, ◌≤◌, ◌||◌, Bool, true, false, cond, List, [], ◌∷◌, map, All, Option, Some, None, refl, sym, subst}
use Rattle.std.proofs.lemmas.List.Elements.{All-cons, All-head, All-nil, All-tail}
use Rattle.fc_base.specs.declared.request.Request.{Request}
use Rattle.fc_entry.specs.declared.entry.Entry.{Entry}
use Rattle.fc_entry.specs.declared.stop.Stop.{Stop}
use Rattle.fc_entry.specs.declared.stop.Stop.TheVariants.{LogFull, NoMemory}
use Rattle.fc_legal.specs.Scripts.{Script}
use Rattle.fc_shares.specs.Situation.{Situation}
use Rattle.fc_store.specs.declared.store_part.StorePart.{StorePart}
use Rattle.fc_tasks.specs.Acting.{HasAnswered, Went, entries_of}
use Rattle.fc_tasks.specs.declared.actor.Answered.{Answered}
use Rattle.fc_actors.specs.Scripts.{WorkSuits, left_of, needs_of}
use Rattle.fc_actors.specs.declared.script.ActorScript.{ActorScript}
use Rattle.law_together.proofs.Asked.{ask_law_holds}
use Rattle.law_together.specs.Asking.{LeavesOf, OneWants}
use Rattle.law_together.specs.Making.{own_of}
use Rattle.fc_together.specs.Answers.{making_of, makings_of, one_stops, stops_for, why_stopped}
use Rattle.fc_together.specs.Prepared.{AreScripts}
use Rattle.fc_together.proofs.Asking.{GoesOn, SuitsYard, leaves}
use Rattle.fc_together.proofs.Composing.{AllAnswer, HasEnded, wants_more}

-- ---- by the tests

-- For no reason, none stopped for either.
none_case : (memory full : Bool) → cond memory (Some NoMemory) (cond full (Some LogFull) None) ≡ None → (memory ≡ false) × (full ≡ false)
none_case true full e = absurd (cc e)
none_case false true e = absurd (cc e)
none_case false false e = (refl, refl)

-- At the limit, one stopped there.
full_case : (memory full : Bool) → cond memory (Some NoMemory) (cond full (Some LogFull) None) ≡ Some LogFull → full ≡ true
full_case true full e = absurd (cc e)
full_case false true e = refl
full_case false false e = absurd (cc e)

neither : (one other : Bool) → (one || other) ≡ false → (one ≡ false) × (other ≡ false)
neither true other e = absurd (cc e)
neither false other e = (refl, e)

not_stopped : (stop : Option Stop) → stops_for NoMemory stop ≡ false → stops_for LogFull stop ≡ false → stop ≡ None
not_stopped None memory full = refl
not_stopped (Some LogFull) memory full = absurd (cc full)
not_stopped (Some NoMemory) memory full = absurd (cc memory)

is_full : (stop : Option Stop) → stops_for LogFull stop ≡ true → stop ≡ Some LogFull
is_full None e = absurd (cc e)
is_full (Some LogFull) e = refl
is_full (Some NoMemory) e = absurd (cc e)

module _ {D : Type 0} where
  -- ---- none stopped

  none_stopped : (answers : List (Answered Entry (ActorScript D))) → one_stops NoMemory answers ≡ false → one_stops LogFull answers ≡ false → All HasEnded answers
  none_stopped [] memory full = All-nil HasEnded
  none_stopped (a ∷ answers) memory full =
      let no_memory = neither (stops_for NoMemory a.stop) (one_stops NoMemory answers) memory in
      let not_full = neither (stops_for LogFull a.stop) (one_stops LogFull answers) full in
      All-cons HasEnded a answers (not_stopped a.stop no_memory.0 not_full.0) (none_stopped answers no_memory.1 not_full.1)

  pub all_ended : (answers : List (Answered Entry (ActorScript D))) → why_stopped answers ≡ None → All HasEnded answers
  all_ended answers why =
      let none = none_case (one_stops NoMemory answers) (one_stops LogFull answers) why in
      none_stopped answers none.0 none.1

  -- ---- one stopped at the limit

  -- What suited a script suits what is left of it.
  still_suits : (told : Situation) (s last : ActorScript D) (made : List (ℕ × Entry)) →
      Went {P = StorePart D} needs_of SuitsYard GoesOn s (entries_of made) last → WorkSuits told s.work → WorkSuits told last.work
  still_suits told s last [] went suits =
      let P : ActorScript D → Type 0 = λ x. WorkSuits told x.work in
      subst P (sym went) suits
  still_suits told s last (m ∷ ms) went suits = still_suits told went.0 last ms went.2 (went.1.work told suits)

  abbrev OneStopped : ℕ → ℕ → List (Answered Entry (ActorScript D)) → List Script → Type 0
  OneStopped limit low answers asked = OneWants (map own_of (makings_of answers)) asked × (limit ≤ low)

  -- It is the first.
  first_wants : (told : Situation) (limit low : ℕ) (s : ActorScript D) (x : Script) (a : Answered Entry (ActorScript D)) (asked : List Script) (answers : List (Answered Entry (ActorScript D))) →
      (s.actor ≡ x.actor) → (left_of s ≡ x.requests) → HasAnswered {P = StorePart D} needs_of SuitsYard GoesOn limit low s a → WorkSuits told s.work → a.stop ≡ Some LogFull →
      OneStopped limit low (a ∷ answers) (x ∷ asked)
  first_wants told limit low s x a asked answers same asks h suits full =
      let more = wants_more told limit low s a (still_suits told s a.left a.made.items h.went suits) full h in
      let P : List Request → Type 0 = λ rs. LeavesOf x (own_of (making_of a)) rs in (
        ask_law_holds.one (own_of (making_of a)) x (map own_of (makings_of answers)) asked more.0.wanted more.0.behind_it (subst P more.0.is (leaves limit low s a x same asks h)),
        more.1,
      )

  one_stopped : (told : Situation) (limit low : ℕ) (scripts : List (ActorScript D)) (asked : List Script) (answers : List (Answered Entry (ActorScript D))) →
      AreScripts scripts asked → AllAnswer limit low scripts answers → All (λ (s : ActorScript D). WorkSuits told s.work) scripts →
      one_stops LogFull answers ≡ true → OneStopped limit low answers asked
  one_stopped told limit low [] [] [] same h suits e = absurd (cc e)
  one_stopped told limit low (s ∷ ss) (x ∷ xs) (a ∷ answers) same h suits e =
      by_first (stops_for LogFull a.stop) refl e (λ others. one_stopped told limit low ss xs answers same.1 h.1 (All-tail (λ (t : ActorScript D). WorkSuits told t.work) s ss suits) others)
    where
      by_first : (test : Bool) → stops_for LogFull a.stop ≡ test → (test || one_stops LogFull answers) ≡ true →
          (one_stops LogFull answers ≡ true → OneStopped limit low answers xs) → OneStopped limit low (a ∷ answers) (x ∷ xs)
      by_first true is either behind =
          first_wants told limit low s x a xs answers same.0.0 same.0.1 h.0 (All-head (λ (t : ActorScript D). WorkSuits told t.work) s ss suits) (is_full a.stop is)
      by_first false is either behind =
          let rest = behind either in
          (ask_law_holds.other (own_of (making_of a)) x (map own_of (makings_of answers)) xs rest.0, rest.1)
  one_stopped told limit low [] (x ∷ xs) answers same h suits e = absurd same
  one_stopped told limit low (s ∷ ss) [] answers same h suits e = absurd same
  one_stopped told limit low [] [] (a ∷ answers) same h suits e = absurd h
  one_stopped told limit low (s ∷ ss) (x ∷ xs) [] same h suits e = absurd h

  pub one_wants : (told : Situation) (limit low : ℕ) (scripts : List (ActorScript D)) (asked : List Script) (answers : List (Answered Entry (ActorScript D))) →
      AreScripts scripts asked → AllAnswer limit low scripts answers → All (λ (s : ActorScript D). WorkSuits told s.work) scripts →
      why_stopped answers ≡ Some LogFull → OneStopped limit low answers asked
  one_wants told limit low scripts asked answers same h suits why =
      one_stopped told limit low scripts asked answers same h suits (full_case (one_stops NoMemory answers) (one_stops LogFull answers) why)
