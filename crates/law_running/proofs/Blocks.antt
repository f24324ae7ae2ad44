-- The faults of a block and what its actors did are the answer of the block.
use Rattle.std.proofs.Common.{◌≡◌, ℕ, List, [], ◌++◌, Contains, Result, Ok, Err, ◌∙◌, ap}
use Rattle.std.proofs.lemmas.List.{append_assoc}
use Rattle.fc_base.specs.declared.size.GrainSize.{GrainSize}
use Rattle.fc_blocks.specs.Segments.{together, cut}
use Rattle.fc_blocks.specs.declared.block.BlockRead.{BlockRead}
use Rattle.fc_entry.specs.HistoryState.{HistoryState}
use Rattle.fc_entry.specs.declared.entry.Entry.{Entry}
use Rattle.fc_entry.specs.declared.stop.Stop.{Stop}
use Rattle.fc_entry.specs.declared.stop.Stop.TheVariants.{LogFull, NoMemory}
use Rattle.fc_legal.specs.Added.{Adds, Answered}
use Rattle.fc_legal.specs.Agenda.{Reading, session_rules}
use Rattle.fc_legal.specs.Whole.{Whole}
use Rattle.law_together.proofs.Block.{block_law_holds}
use Rattle.law_together.specs.Telling.{AreTold, block_alone, named, scripts_then}
use Rattle.law_running.specs.Running.{ScriptsRan}

module _ (Stands : Whole → Type 0) (lines : List (List ℕ)) (grain : GrainSize) (read : Reading) (block : BlockRead) (w mid : Whole) (faults : List Entry) (old middle new : HistoryState)
    (is_block : Contains (cut lines).segments (together block)) (told : AreTold grain w block.faults faults [] mid) (before : middle.entries ≡ old.entries ++ faults) where
  adds_both : (Are Both : List Entry → Type 0) → ((more : List Entry) → Are more → Both (faults ++ more)) → Adds middle new Are → Adds old new Both
  adds_both Are Both go adds = record {
    more = faults ++ adds.more;
    entries = adds.entries ∙ ap (λ es. es ++ adds.more) before ∙ append_assoc old.entries faults adds.more;
    are = go adds.more adds.are;
  }

  pub block_answered : (result : Result (Unit {0}) Stop) → ScriptsRan result Stands grain (named mid block) (scripts_then grain mid block) middle new →
      Answered result Stands (session_rules grain read) (block_alone block) w old new
  block_answered (Ok done) ran =
      (ran.0, ran.1, adds_both _ _ (λ more are. (block_law_holds.goes_on lines grain read block w mid ran.0 faults more is_block told are.0).through are.1) ran.2)
  block_answered (Err LogFull) ran =
      (ran.0, (ran.1.0, ran.1.1, adds_both _ _ (λ more are. (block_law_holds.goes_on lines grain read block w mid ran.1.0 faults more is_block told are.0).asking are.1) ran.1.2))
  block_answered (Err NoMemory) ran =
      (ran.0, ran.1, adds_both _ _ (λ more are. (block_law_holds.goes_on lines grain read block w mid ran.0 faults more is_block told are.0).into are.1) ran.2)
