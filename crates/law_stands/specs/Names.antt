-- The law of names: which entries are right doesn't go by the names of actors.
use Rattle.std.specs.Prelude.{◌≡◌, ℕ, List, []}
use Rattle.fc_base.specs.declared.size.GrainSize.{GrainSize}
use Rattle.fc_entry.specs.declared.entry.Entry.{Entry}
use Rattle.fc_legal.specs.Legal.{AreSteps, IsLegal}
use Rattle.fc_legal.specs.Steps.{Step}
use Rattle.fc_legal.specs.Whole.{Whole}
use Rattle.law_stands.specs.Reached.{IsReached}

-- The same, where actors have these names; and where they have none.
abbrev pub named : List (List ℕ) → Whole → Whole
named names w = record w { actors = names }

abbrev pub nameless : Whole → Whole
nameless w = named [] w

pub record NamesLaw : Type 0 where
  -- an entry that is right is right with any names, and leaves them
  pub step : (grain : GrainSize) (names : List (List ℕ)) (w : Whole) (entry : Entry) (next : Whole) → Step grain w entry next →
      Step grain (named names w) entry (named names next)
  pub kept : (grain : GrainSize) (w : Whole) (entry : Entry) (next : Whole) → Step grain w entry next → next.actors ≡ w.actors
  -- so one that is right without names is right with those that there are
  pub back : (grain : GrainSize) (w : Whole) (entry : Entry) (next : Whole) → Step grain (nameless w) entry next →
      Step grain w entry (named w.actors next)
  -- what stands does so with any names
  pub reached : (decisions : ℕ) (names : List (List ℕ)) (w : Whole) → IsReached decisions w → IsReached decisions (named names w)
  -- a legal history is a run of right entries where nobody has a name; and the other way round
  pub without : (grain : GrainSize) (w : Whole) (entries : List Entry) (last : Whole) → IsLegal grain w entries last →
      AreSteps grain (nameless w) entries (nameless last)
  pub within : (grain : GrainSize) (w : Whole) (entries : List Entry) (last : Whole) → AreSteps grain (nameless w) entries last →
      IsLegal grain w entries (named w.actors last)
