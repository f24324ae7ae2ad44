-- What follows one way by an entry, piece by piece, and how it comes to a list of ways.
use Rattle.std.specs.Prelude.{◌≡◌, ◌⊎◌, ℕ, ◌<◌, Contains, List, [], Option}
use Rattle.fc_base.specs.declared.command.Command.{Command}
use Rattle.fc_base.specs.declared.decision.Decision.{Decision}
use Rattle.fc_base.specs.declared.fault.Refusal.{Refusal}
use Rattle.fc_base.specs.declared.ids.VolId.{VolId}
use Rattle.fc_base.specs.declared.request.Effect.{Effect}
use Rattle.fc_base.specs.declared.request.Place.TheVariants.{Control, Every}
use Rattle.fc_base.specs.declared.request.Reply.{Reply}
use Rattle.fc_base.specs.declared.request.Reply.TheVariants.{Refused}
use Rattle.fc_base.specs.declared.size.GrainSize.{GrainSize}
use Rattle.fc_books.specs.Deciding.{IsLoopOf, settle}
use Rattle.fc_check_record.specs.Judged.{Judged}
use Rattle.fc_entry.specs.declared.entry.Entry.{Entry}
use Rattle.fc_legal.specs.Steps.{IsApart, Step, after_settling, decided_on, left_by, one_more}
use Rattle.fc_legal.specs.Whole.{Whole}
use Rattle.law_stands.specs.Reached.{IsReachedByEntries}

-- ---- lists of ways

-- To a list of ways came just those, of this grain size, of which so much is told.
pub record Came (grain : GrainSize) (Told : Whole → Type 0) (old new : List Judged) : Type 0 where
  pub only : (next : Judged) → Contains new next → Contains old next ⊎ ((next.grain ≡ grain) × Told next.whole)
  pub kept : (next : Judged) → Contains old next → Contains new next
  pub all : (next : Whole) → Told next → Contains new record { grain = grain; whole = next }

-- ---- ways

-- What is told in a way was reached by right entries, and there is room for one more.
pub record IsOpen (w : Whole) : Type 0 where
  pub few : w.entries < 262144
  pub reached : IsReachedByEntries w

-- It is such a way, settled.
pub record IsSettled (way : Judged) : Type 0 where
  pub before : Whole
  pub is_open : IsOpen before
  pub whole_is : way.whole ≡ after_settling way.grain before

-- It was reached by right entries, so many of them.
pub record IsReachedAt (entries : ℕ) (way : Judged) : Type 0 where
  pub entries_are : way.whole.entries ≡ entries
  pub reached : IsReachedByEntries way.whole

abbrev pub AreReachedAt : ℕ → List Judged → Type 0
AreReachedAt entries ways = (way : Judged) → Contains ways way → IsReachedAt entries way

-- All ways after so many entries, of one grain size.
pub record AreCandidates (grain : GrainSize) (entries : ℕ) (ways : List Judged) : Type 0 where
  pub reached : AreReachedAt entries ways
  pub grains : (way : Judged) → Contains ways way → way.grain ≡ grain

-- A way that follows one of these.
pub record FollowsOne (old : List Judged) (entry : Entry) (next : Judged) : Type 0 where
  pub way : Judged
  pub there : Contains old way
  pub grain_is : next.grain ≡ way.grain
  pub step : Step way.grain way.whole entry next.whole

-- Just all that follow.
pub record AreFollowing (old : List Judged) (entry : Entry) (new : List Judged) : Type 0 where
  pub only : (next : Judged) → Contains new next → FollowsOne old entry next
  pub all : (way : Judged) (next : Whole) → Contains old way → Step way.grain way.whole entry next → Contains new record { grain = way.grain; whole = next }

-- Some of the ways are left to be followed.
pub record AreUnderWay (old : List Judged) (entry : Entry) (left new : List Judged) : Type 0 where
  pub left_of_old : (way : Judged) → Contains left way → Contains old way
  pub only : (next : Judged) → Contains new next → FollowsOne old entry next
  pub all : (way : Judged) (next : Whole) → Contains old way → Step way.grain way.whole entry next →
      Contains left way ⊎ Contains new record { grain = way.grain; whole = next }

-- ---- entries of no lane

-- An entry says that it was refused so.
pub record SaysRefused (refusal : Refusal) (entry : Entry) : Type 0 where
  pub place : entry.place ≡ Control
  pub apart : IsApart entry
  pub reply : entry.reply ≡ Refused refusal
  pub no_effects : entry.effects ≡ []

-- An entry of a command, whatever it answers.
pub record IsOfCommand (entry : Entry) : Type 0 where
  pub place : entry.place ≡ Every
  pub apart : IsApart entry

-- A command that had no memory left all as it was, or settled.
pub record LeavesAll (w : Whole) (entry : Entry) (next : Whole) : Type 0 where
  pub no_effects : entry.effects ≡ []
  pub next_is : next ≡ one_more w

pub record LeavesSettled (grain : GrainSize) (w : Whole) (entry : Entry) (next : Whole) : Type 0 where
  pub effects : entry.effects ≡ (settle w.books).effects
  pub next_is : next ≡ one_more (after_settling grain w)

-- On settled books a command was decided with these effects.
pub record LeavesDecided (grain : GrainSize) (settled : Whole) (command : Command) (reply : Reply) (effects : List Effect) (next : Whole) : Type 0 where
  pub loop : Option (List VolId)
  pub is_loop : IsLoopOf grain settled.books command loop
  pub reply_is : reply ≡ (decided_on grain settled command loop).reply
  pub effects_are : effects ≡ (decided_on grain settled command loop).effects
  pub next_is : next ≡ one_more (left_by grain settled (decided_on grain settled command loop))

-- A decision that does nothing.
pub record DoesNothing (d : Decision) : Type 0 where
  pub no_effects : d.effects ≡ []
  pub no_events : d.events ≡ []
  pub no_changes : d.changes ≡ []
