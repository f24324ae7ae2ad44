-- What scripts leave that were done beside each other, in a yard that was opened for them and closed behind them.
use Rattle.std.specs.Prelude.{◌≡◌, ℕ, ◌+◌, ◌≤◌, List, length}
use Rattle.fc_tasks.specs.Acting.{AllAnswered, all_made}
use Rattle.fc_tasks.specs.declared.actor.Answered.{Answered}
use Rattle.fc_tasks.specs.declared.script.Needs.{Needs}
use Rattle.fc_yard.specs.Lists.{AllStand, once_below, times}
use Rattle.fc_yard.specs.Whole.{Ends, OpensWith}

module _ {W E P S : Type 0} (fits : P → W → ℕ → P → Type 0) (sound : W → W → Type 0) (count : W → ℕ) (steps : W → ℕ → E → W → Type 0)
    (needed : S → Needs) (suits : S → List P → ℕ → Type 0) (goes : S → E → S → Type 0) where
  -- The entries in the order of their numbers, from the first number on and below the limit, are those of the answers, each once.
  -- They led from whatever the yard was opened on to something of which each part that came back has its share.
  pub record HaveActed (parts : List P) (first limit : ℕ) (scripts : List S) (answers : List (Answered E S)) (xs : List P) : Type 0 where
    pub low : ℕ
    pub answered : AllAnswered needed suits goes limit low scripts answers
    pub long : length xs ≡ length parts
    pub entries : List E
    pub stand : AllStand first entries (all_made answers)
    pub numbers : (x : ℕ) → times x (all_made answers) + once_below x first ≡ once_below x (first + length entries)
    pub within : (first + length entries ≤ limit) × (low ≤ first + length entries)
    pub ends : (w0 : W) → OpensWith fits sound count steps parts first w0 → Ends fits sound count steps parts first entries xs w0
