-- What scripts leave that were done beside each other over a store.
use Rattle.std.specs.Prelude.{◌≡◌, ℕ, ◌+◌, ◌≤◌, List, length}
use Rattle.fc_entry.specs.declared.entry.Entry.{Entry}
use Rattle.fc_legal.specs.Whole.{Whole}
use Rattle.fc_shares.specs.Law.{HaveShares, LeadOn, situation_of}
use Rattle.fc_shares.specs.Situation.{Situation}
use Rattle.fc_stands.specs.Store.{StandsFor, StoreView}
use Rattle.fc_store.specs.declared.store_part.StorePart.{StorePart}
use Rattle.fc_tasks.specs.Acting.{AllAnswered, all_made}
use Rattle.fc_tasks.specs.declared.actor.Answered.{Answered}
use Rattle.fc_tasks.specs.declared.script.Needs.{Needs}
use Rattle.fc_yard.specs.Lists.{AllStand, once_below, times}

-- The entries led from what the old store stood for to something of which all parts of the new one have their shares.
pub record LedOver (old new : StoreView) (w : Whole) (entries : List Entry) : Type 0 where
  pub last : Situation
  pub leads : LeadOn (situation_of old w) w.entries entries last
  pub shares : HaveShares (situation_of old w) last old.lanes new

module _ {D S : Type 0} (needed : S → Needs) (suits : S → List (StorePart D) → ℕ → Type 0) (goes : S → Entry → S → Type 0) where
  -- The entries in the order of their numbers, from the first number on, are those of the answers, each once.
  pub record HaveActedOver (old new : StoreView) (first : ℕ) (scripts : List S) (answers : List (Answered Entry S)) : Type 0 where
    pub low : ℕ
    pub answered : AllAnswered needed suits goes 262144 low scripts answers
    pub entries : List Entry
    pub stand : AllStand first entries (all_made answers)
    pub numbers : (x : ℕ) → times x (all_made answers) + once_below x first ≡ once_below x (first + length entries)
    pub within : (first + length entries ≤ 262144) × (low ≤ first + length entries)
    pub led : (w : Whole) → StandsFor old w → w.entries ≡ first → LedOver old new w entries
