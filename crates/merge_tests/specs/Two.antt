-- Two entries of an actor.
use Rattle.std.specs.Prelude.{◌≡◌, ℕ, [], ◌∷◌}
use Rattle.fc_entry.specs.declared.entry.Entry.{Entry}
use Rattle.fc_merge.specs.Merging.{Own}

pub record IsEntry (actor number : ℕ) (entry : Entry) : Type 0 where
  pub number_is : entry.number ≡ number
  pub actor_is : entry.actor ≡ actor

pub record HasTwo (actor first second : ℕ) (own : Own) : Type 0 where
  pub one : Entry
  pub other : Entry
  pub actor_is : own.actor ≡ actor
  pub entries_are : own.entries ≡ one ∷ other ∷ []
  pub one_is : IsEntry actor first one
  pub other_is : IsEntry actor second other
