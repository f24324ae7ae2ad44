-- When a history is legal, and what it tells at its end.
use Rattle.std.specs.Prelude.{◌≡◌, ℕ, List, [], ◌∷◌, ◌++◌}
use Rattle.fc_base.specs.declared.size.GrainSize.{GrainSize}
use Rattle.fc_entry.specs.declared.entry.Entry.{Entry}
use Rattle.fc_legal.specs.Whole.{Whole}
use Rattle.fc_legal.specs.Steps.{Step}

-- More actors have names: they stand behind those that had one.
pub record IsNamed (w v : Whole) : Type 0 where
  pub more : List (List ℕ)
  pub named : v ≡ record w { actors = w.actors ++ more }

-- An entry that is right, before which actors may come to have names.
pub record IsNext (grain : GrainSize) (w : Whole) (entry : Entry) (next : Whole) : Type 0 where
  pub before : Whole
  pub named : IsNamed w before
  pub step : Step grain before entry next

-- Each entry is right after what was told before it, from the one to the other; and at the end too actors may come to have names.
abbrev pub IsLegal : GrainSize → Whole → List Entry → Whole → Type 0
IsLegal grain w [] last = IsNamed w last
IsLegal grain w (entry ∷ entries) last = (next : Whole) × IsNext grain w entry next × IsLegal grain next entries last

-- The same where no actor comes to have a name.
abbrev pub AreSteps : GrainSize → Whole → List Entry → Whole → Type 0
AreSteps grain w [] last = last ≡ w
AreSteps grain w (entry ∷ entries) last = (next : Whole) × Step grain w entry next × AreSteps grain next entries last
