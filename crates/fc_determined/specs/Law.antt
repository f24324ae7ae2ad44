-- The law of one outcome: where nothing failed and no block is among what is to be asked, that determines the history.
use Rattle.std.specs.Prelude.{◌≡◌, ◌≤◌, List, ◌++◌, length}
use Rattle.fc_agenda.specs.Goes.{GoesToEnd, GoesSome}
use Rattle.fc_agenda.specs.Rules.{Rules}
use Rattle.fc_base.specs.declared.size.GrainSize.{GrainSize}
use Rattle.fc_determined.specs.Smooth.{AreSmooth, TellTheSame, told_by}
use Rattle.fc_entry.specs.HistoryState.{HistoryState}
use Rattle.fc_entry.specs.Text.{history_text}
use Rattle.fc_entry.specs.declared.entry.Entry.{Entry}
use Rattle.fc_legal.specs.Agenda.{Agenda, Reading, session_rules}
use Rattle.fc_legal.specs.Whole.{Whole}
use Rattle.fc_legal.specs.WithoutBlocks.{IsWithoutBlocks}

-- Two histories: their entries tell the same, and so do the wholes after them.
pub record IsOneOutcome (xs ys : List Entry) (last other : Whole) : Type 0 where
  pub entries : told_by ys ≡ told_by xs
  pub told : TellTheSame last other

-- The entries of the one history are the first of those of the other.
pub record IsFront (xs ys : List Entry) : Type 0 where
  pub rest : List Entry
  pub begins : told_by ys ≡ told_by xs ++ rest

-- How far an agenda was answered: to its end, or the first of it.
abbrev pub HowFar : Type 1
HowFar = Rules Whole Agenda → Agenda → Whole → List Entry → Whole → Type 0

-- Of two histories that answer one agenda without blocks, after what tells the same, and in which nothing failed, this holds.
abbrev pub OfTwo : HowFar → HowFar → (List Entry → List Entry → Whole → Whole → Type 0) → Type 0
OfTwo One Other Holds =
    (grain : GrainSize) (read : Reading) (a : Agenda) (w v last other : Whole) (xs ys : List Entry) → IsWithoutBlocks a → TellTheSame w v → AreSmooth xs → AreSmooth ys →
    One (session_rules grain read) a w xs last → Other (session_rules grain read) a v ys other → Holds xs ys last other

pub record DeterminedLaw : Type 0 where
  -- where both answer it to its end, they have one outcome
  pub whole : OfTwo GoesToEnd GoesToEnd (λ xs ys last other. IsOneOutcome xs ys last other)
  -- so they have where both have as many entries, as where both histories are full
  pub as_many : OfTwo GoesSome GoesSome (λ xs ys last other. length xs ≡ length ys → IsOneOutcome xs ys last other)
  -- one that ended early has the first entries of the whole one
  pub early : OfTwo GoesSome GoesToEnd (λ xs ys last other. IsFront xs ys)
  -- and of two that ended early the shorter has the first entries of the longer
  pub both_early : OfTwo GoesSome GoesSome (λ xs ys last other. length xs ≤ length ys → IsFront xs ys)
  -- the text that is written of one outcome is the same
  pub text : (history other : HistoryState) → other.actors ≡ history.actors → told_by other.entries ≡ told_by history.entries → history_text other ≡ history_text history
