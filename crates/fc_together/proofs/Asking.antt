-- What actors of a store answered is the first of what their scripts ask; all of it where nothing is needed any more.
use Rattle.std.proofs.Common.{◌≡◌, ◌≢◌, ℕ, suc, ◌+◌, ◌-◌, ◌%◌, ◌<◌, Bool, true, false, cond, nat_lt, List, [], ◌∷◌, ◌++◌, map, flat_map, All, refl, sym, ◌∙◌, ap, arith}
use Rattle.std.specs.List.{AllPairs, range_with_len}
use Rattle.std.proofs.lemmas.Bool.{ltb-true, ltb-false}
use Rattle.std.proofs.lemmas.List.Elements.{All-cons, All-head, All-nil}
use Rattle.std.proofs.lemmas.List.Kept.{AllPairs-cons}
use Rattle.fc_base.specs.declared.request.Request.{Request}
use Rattle.fc_base.specs.declared.size.GrainSize.{GrainSize}
use Rattle.fc_entry.specs.declared.entry.Entry.{Entry}
use Rattle.fc_legal.specs.Scripts.{Script}
use Rattle.fc_shares.specs.Situation.{Situation}
use Rattle.fc_store.specs.declared.store_part.StorePart.{StorePart}
use Rattle.fc_tasks.specs.Acting.{AllAbove, AreRising, HasAnswered, Went, all_made, entries_of}
use Rattle.fc_tasks.specs.declared.actor.Answered.{Answered}
use Rattle.fc_tasks.specs.declared.script.Needs.TheVariants.{Part, Nothing}
use Rattle.fc_actors.proofs.Lines.{behind, request_next, span_more}
use Rattle.fc_actors.specs.Scripts.{Goes, ItemSuits, Suits, WorkSuits, item_left, item_needs, left_of, needs_of, work_left, work_needs}
use Rattle.fc_actors.specs.Spans.{span_left, turn_of}
use Rattle.fc_actors.specs.declared.script.ActorScript.{ActorScript}
use Rattle.fc_actors.specs.declared.script.Item.{Item}
use Rattle.fc_actors.specs.declared.script.Item.TheVariants.{Access, Refused, Command}
use Rattle.fc_actors.specs.declared.script.Left.{Left}
use Rattle.fc_actors.specs.declared.script.Left.TheVariants.{Lines, Turns}
use Rattle.law_together.specs.Asking.{LeavesOf}
use Rattle.law_together.specs.Making.{IsMaking, own_of, with_number}
use Rattle.law_together.specs.Making as makings
use Rattle.fc_together.specs.Answers.{making_of}

-- ---- what is left

pub record OneLeft (left : List Request) : Type 0 where
  pub wanted : Request
  pub behind_it : List Request
  pub is : left ≡ wanted ∷ behind_it

items_done : (grain : GrainSize) (lanes : ℕ) (items : List Item) → item_needs lanes items ≡ Nothing → flat_map (item_left grain) items ≡ []
items_done grain lanes [] needs = refl
items_done grain lanes (Access span ∷ items) needs = absurd cc
items_done grain lanes (Refused request refusal ∷ items) needs = absurd cc
items_done grain lanes (Command command ∷ items) needs = absurd cc

turns_done : (test : Bool) (lanes next turns a : ℕ) (cleans : Bool) → nat_lt next turns ≡ test → cond test (Part a) Nothing ≡ Nothing →
    map (λ k. turn_of cleans (k % lanes)) (range_with_len next (turns - next)) ≡ []
turns_done true lanes next turns a cleans e needs = absurd cc
turns_done false lanes next turns a cleans e needs =
    let over = ltb-false next turns e in
    let none : turns - next ≡ 0 = omega (arith, over) in
    ap (λ n. map (λ k. turn_of cleans (k % lanes)) (range_with_len next n)) none

work_done : (grain : GrainSize) (lanes : ℕ) (work : Left) → work_needs lanes work ≡ Nothing → work_left grain lanes work ≡ []
work_done grain lanes (Lines items) needs = items_done grain lanes items.items needs
work_done grain lanes (Turns cleans next turns) needs = turns_done (nat_lt next turns) lanes next turns (suc (next % lanes)) cleans refl needs

items_more : (s : Situation) (grain : GrainSize) (lanes : ℕ) (items : List Item) → All (ItemSuits s) items → item_needs lanes items ≢ Nothing → OneLeft (flat_map (item_left grain) items)
items_more s grain lanes [] suit needs = absurd (needs refl)
items_more s grain lanes (Access span ∷ items) suit needs =
    let first = All-head (ItemSuits s) (Access span) items suit in record {
      wanted = request_next grain span;
      behind_it = span_left grain (behind span) ++ flat_map (item_left grain) items;
      is = ap (λ (l : List Request). l ++ flat_map (item_left grain) items) (span_more grain span first.left);
    }
items_more s grain lanes (Refused request refusal ∷ items) suit needs = record { wanted = request; behind_it = flat_map (item_left grain) items; is = refl }
items_more s grain lanes (Command command ∷ items) suit needs =
    record { wanted = Rattle.fc_base.specs.declared.request.Request.TheVariants.Command command; behind_it = flat_map (item_left grain) items; is = refl }

turns_more : (test : Bool) (lanes next turns a : ℕ) (cleans : Bool) → nat_lt next turns ≡ test → cond test (Part a) Nothing ≢ Nothing →
    OneLeft (map (λ k. turn_of cleans (k % lanes)) (range_with_len next (turns - next)))
turns_more false lanes next turns a cleans e needs = absurd (needs refl)
turns_more true lanes next turns a cleans e needs =
    let under = ltb-true next turns e in
    let one : turns - next ≡ suc (turns - (next + 1)) = omega (arith, under) in record {
      wanted = turn_of cleans (next % lanes);
      behind_it = map (λ k. turn_of cleans (k % lanes)) (range_with_len (next + 1) (turns - (next + 1)));
      is = ap (λ n. map (λ k. turn_of cleans (k % lanes)) (range_with_len next n)) one;
    }

work_more : (s : Situation) (grain : GrainSize) (lanes : ℕ) (work : Left) → WorkSuits s work → work_needs lanes work ≢ Nothing → OneLeft (work_left grain lanes work)
work_more s grain lanes (Lines items) suits needs = items_more s grain lanes items.items suits needs
work_more s grain lanes (Turns cleans next turns) suits needs = turns_more (nat_lt next turns) lanes next turns (suc (next % lanes)) cleans refl needs

-- ---- what was done

requests_numbered : (made : List (ℕ × Entry)) → map (λ (e : Entry). e.request) (map with_number made) ≡ map (λ (e : Entry). e.request) (entries_of made)
requests_numbered [] = refl
requests_numbered (m ∷ ms) = ap (λ (rs : List Request). m.1.request ∷ rs) (requests_numbered ms)

above_all : (n : ℕ) (e : Entry) (ms : List (ℕ × Entry)) → AllAbove n ms → All (λ (y : ℕ × Entry). n < y.0) ms
above_all n e [] above = All-nil (λ (y : ℕ × Entry). n < y.0)
above_all n e (m ∷ ms) above = All-cons (λ (y : ℕ × Entry). n < y.0) m ms above.0 (above_all n e ms above.1)

rising_pairs : (ms : List (ℕ × Entry)) → AreRising ms → AllPairs (λ (x y : ℕ × Entry). x.0 < y.0) ms
rising_pairs [] rises = λ i j d lt within. absurd (omega (arith, within))
rising_pairs (m ∷ ms) rises = AllPairs-cons (λ (x y : ℕ × Entry). x.0 < y.0) m ms (above_all m.0 m.1 ms rises.0) (rising_pairs ms rises.1)

module _ {D : Type 0} where
  abbrev pub GoesOn : ActorScript D → Entry → ActorScript D → Type 0
  GoesOn s e next = Goes s e next

  abbrev pub SuitsYard : ActorScript D → List (StorePart D) → ℕ → Type 0
  SuitsYard s parts limit = Suits s parts limit

  pub done_left : (s : ActorScript D) → needs_of s ≡ Nothing → left_of s ≡ []
  done_left s needs = work_done s.grain s.lanes s.work needs

  pub more_left : (told : Situation) (s : ActorScript D) → WorkSuits told s.work → needs_of s ≢ Nothing → OneLeft (left_of s)
  more_left told s suits needs = work_more told s.grain s.lanes s.work suits needs

  abbrev GoesBy : ActorScript D → List (ℕ × Entry) → ActorScript D → Type 0
  GoesBy s made last = Went {P = StorePart D} needs_of SuitsYard GoesOn s (entries_of made) last

  same_actor : (s last : ActorScript D) (made : List (ℕ × Entry)) → GoesBy s made last → last.actor ≡ s.actor
  same_actor s last [] went = ap (λ (x : ActorScript D). x.actor) went
  same_actor s last (m ∷ ms) went = same_actor went.0 last ms went.2 ∙ went.1.same

  asked_of : (s last : ActorScript D) (made : List (ℕ × Entry)) → GoesBy s made last → map (λ (e : Entry). e.request) (entries_of made) ++ left_of last ≡ left_of s
  asked_of s last [] went = ap left_of went
  asked_of s last (m ∷ ms) went = ap (λ (rs : List Request). m.1.request ∷ rs) (asked_of went.0 last ms went.2) ∙ sym went.1.asked

  all_his : (actor : ℕ) (s last : ActorScript D) (made : List (ℕ × Entry)) → s.actor ≡ actor → GoesBy s made last → All (λ (x : ℕ × Entry). x.1.actor ≡ actor) made
  all_his actor s last [] is went = All-nil (λ (x : ℕ × Entry). x.1.actor ≡ actor)
  all_his actor s last (m ∷ ms) is went =
      All-cons (λ (x : ℕ × Entry). x.1.actor ≡ actor) m ms (went.1.actor ∙ is) (all_his actor went.0 last ms (went.1.same ∙ is) went.2)

  pub is_making : (limit low : ℕ) (s : ActorScript D) (a : Answered Entry (ActorScript D)) → HasAnswered {P = StorePart D} needs_of SuitsYard GoesOn limit low s a → IsMaking (making_of a)
  is_making limit low s a h = (all_his a.left.actor s a.left a.made.items (sym (same_actor s a.left a.made.items h.went)) h.went, rising_pairs a.made.items h.rises)

  pub leaves : (limit low : ℕ) (s : ActorScript D) (a : Answered Entry (ActorScript D)) (script : Script) → s.actor ≡ script.actor → left_of s ≡ script.requests →
      HasAnswered {P = StorePart D} needs_of SuitsYard GoesOn limit low s a → LeavesOf script (own_of (making_of a)) (left_of a.left)
  leaves limit low s a script same asks h = record {
    actor = same_actor s a.left a.made.items h.went ∙ same;
    asked = ap (λ (rs : List Request). rs ++ left_of a.left) (requests_numbered a.made.items) ∙ asked_of s a.left a.made.items h.went ∙ asks;
  }

  -- all of them
  pub same_made : (answers : List (Answered Entry (ActorScript D))) → makings.all_made (map making_of answers) ≡ all_made answers
  same_made [] = refl
  same_made (a ∷ answers) = ap (λ (ms : List (ℕ × Entry)). a.made.items ++ ms) (same_made answers)
