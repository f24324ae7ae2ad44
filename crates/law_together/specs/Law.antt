-- The law of what is done together: entries that were merged are those of all actors in the order of their numbers, and they are a
-- way through the block.
use Rattle.std.specs.Prelude.{◌≡◌, ◌≢◌, ℕ, ◌+◌, List, [], ◌∷◌, ◌++◌, length, map, AllPairs, Contains}
use Rattle.fc_agenda.specs.Goes.{GoesAsking, GoesSome, GoesToEnd}
use Rattle.fc_base.specs.declared.request.Request.{Request}
use Rattle.fc_base.specs.declared.size.GrainSize.{GrainSize}
use Rattle.fc_blocks.specs.Segments.{together, cut}
use Rattle.fc_blocks.specs.declared.block.BlockRead.{BlockRead}
use Rattle.fc_entry.specs.declared.entry.Entry.{Entry}
use Rattle.fc_legal.specs.Agenda.{Reading, session_rules}
use Rattle.fc_legal.specs.Legal.{AreSteps}
use Rattle.fc_legal.specs.Scripts.{Script}
use Rattle.fc_legal.specs.Whole.{Whole, lanes}
use Rattle.fc_merge.specs.Merging.{AreNumbered, AreOwn, IsMerged, Own, all_of}
use Rattle.fc_scripts.specs.Actors.{AreAll, AreFirst, WantMore}
use Rattle.fc_scripts.specs.Ways.{AreOfDifferent, numbers_of}
use Rattle.fc_shares.specs.Law.{numbered}
use Rattle.law_together.specs.Asking.{AllAsked, AllBegan, LeavesOf, OneWants}
use Rattle.law_together.specs.Making.{AreDrawn, AreMakings, Making, all_made, own_of}
use Rattle.law_together.specs.Telling.{AreTold, block_alone, named, scripts_then}

-- Lists of what actors made can be merged, and they merge to all entries in the order of their numbers.
pub record MergeLaw : Type 0 where
  -- those of different scripts are of different actors
  pub differ : (makings : List Making) (scripts : List Script) →
      map (λ (m : Making). m.actor) makings ≡ numbers_of scripts → AreOfDifferent scripts →
      AllPairs (λ (a b : Making). a.actor ≢ b.actor) makings
  -- they can be merged
  pub own : (makings : List Making) → AreMakings makings → AreOwn (map own_of makings)
  pub numbers : (first : ℕ) (entries : List Entry) (makings : List Making) →
      AreDrawn first entries (all_made makings) →
      AreNumbered first (length entries) (map own_of makings)
  -- to this alone
  pub merged : (first : ℕ) (entries merged : List Entry) (makings : List Making) →
      AreMakings makings → AreDrawn first entries (all_made makings) →
      IsMerged first (length (all_of (map own_of makings))) (map own_of makings) merged →
      merged ≡ numbered first entries

-- What the actors asked, each by its own list, they asked by the merged one.
pub record AskLaw : Type 0 where
  -- who asked all of it asked the first of it; and one that wants more, by itself or behind others
  pub started : (lists : List Own) (scripts : List Script) → AllAsked lists scripts → AllBegan lists scripts
  pub one : (own : Own) (script : Script) (lists : List Own) (scripts : List Script) (wanted : Request) (behind : List Request) →
      LeavesOf script own (wanted ∷ behind) → OneWants (own ∷ lists) (script ∷ scripts)
  pub other : (own : Own) (script : Script) (lists : List Own) (scripts : List Script) →
      OneWants lists scripts → OneWants (own ∷ lists) (script ∷ scripts)
  -- by the merged list they asked all
  pub all : (first count : ℕ) (lists : List Own) (scripts : List Script) (merged : List Entry) →
      AreOwn lists → AllAsked lists scripts →
      IsMerged first count lists merged →
      AreAll scripts merged
  -- or the first, by all of it and by the first of it
  pub began : (first count : ℕ) (lists : List Own) (scripts : List Script) (front rest : List Entry) →
      AreOfDifferent scripts → AreOwn lists → AllBegan lists scripts →
      IsMerged first count lists (front ++ rest) →
      AreFirst scripts front
  -- and it wants one more where one of them does
  pub wants : (first count : ℕ) (lists : List Own) (scripts : List Script) (merged : List Entry) →
      AreOfDifferent scripts → AreOwn lists → AllBegan lists scripts → OneWants lists scripts →
      IsMerged first count lists merged →
      WantMore scripts merged

-- All of a block's faults were told, the names came, and its actors asked all; or the first; or the first, and one of them wants
-- one more.
pub record GoesOn (grain : GrainSize) (read : Reading) (block : BlockRead) (w mid last : Whole) (entries more : List Entry) : Type 0 where
  pub through : AreAll (scripts_then grain mid block) more →
      GoesToEnd (session_rules grain read) (block_alone block) w (entries ++ more) last
  pub into : AreFirst (scripts_then grain mid block) more →
      GoesSome (session_rules grain read) (block_alone block) w (entries ++ more) last
  pub asking : WantMore (scripts_then grain mid block) more →
      GoesAsking (session_rules grain read) (block_alone block) w (entries ++ more) last

-- A block, from its faults on.
pub record BlockLaw : Type 0 where
  -- `main` was told some of the faults; or it was, and one more is next
  pub told :
      (grain : GrainSize) (read : Reading) (block : BlockRead) (w last : Whole) (entries : List Entry) (left : List Request) →
      AreTold grain w block.faults entries left last →
      GoesSome (session_rules grain read) (block_alone block) w entries last
  pub told_asking :
      (grain : GrainSize) (read : Reading) (block : BlockRead) (w last : Whole) (entries : List Entry)
      (wanted : Request) (behind : List Request) →
      AreTold grain w block.faults entries (wanted ∷ behind) last →
      GoesAsking (session_rules grain read) (block_alone block) w entries last
  -- it was told all of them, and the actors were answered
  pub goes_on :
      (lines : List (List ℕ)) (grain : GrainSize) (read : Reading) (block : BlockRead) (w mid last : Whole)
      (entries more : List Entry) →
      Contains (cut lines).segments (together block) →
      AreTold grain w block.faults entries [] mid →
      AreSteps grain (named mid block) more last →
      GoesOn grain read block w mid last entries more

-- The first of some right entries are right, and so are more behind them; each is one more, of as many lanes and the same actors.
pub record StepsLaw : Type 0 where
  pub front : (grain : GrainSize) (w last : Whole) (front rest : List Entry) →
      AreSteps grain w (front ++ rest) last →
      (mid : Whole) × AreSteps grain w front mid × AreSteps grain mid rest last
  pub append : (grain : GrainSize) (w mid last : Whole) (entries more : List Entry) →
      AreSteps grain w entries mid → AreSteps grain mid more last →
      AreSteps grain w (entries ++ more) last
  pub counted : (grain : GrainSize) (w last : Whole) (entries : List Entry) →
      AreSteps grain w entries last →
      (last.entries ≡ w.entries + length entries) × (lanes last ≡ lanes w) × (last.actors ≡ w.actors)
