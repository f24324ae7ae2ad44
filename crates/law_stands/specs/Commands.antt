-- The law of commands: what a right entry may leave, by its place and its reply.
use Rattle.std.specs.Prelude.{◌≡◌, ◌≢◌, ◌⊎◌, ℕ, ◌<◌, Bool, List, [], ◌++◌, Option}
use Rattle.fc_base.specs.declared.command.Command.{Command}
use Rattle.fc_base.specs.declared.ids.VolId.{VolId}
use Rattle.fc_base.specs.declared.request.Effect.{Effect}
use Rattle.fc_base.specs.declared.request.Place.{Place}
use Rattle.fc_base.specs.declared.request.Place.TheVariants.{Lane, Every, Control}
use Rattle.fc_base.specs.declared.request.Reply.{Reply}
use Rattle.fc_base.specs.declared.request.Reply.TheVariants.{NoMemory}
use Rattle.fc_base.specs.declared.request.Request.TheVariants.{Command as Asked}
use Rattle.fc_base.specs.declared.size.GrainSize.{GrainSize}
use Rattle.fc_books.specs.Books.{Books}
use Rattle.fc_books.specs.Deciding.{IsLoopOf, decide, settle}
use Rattle.fc_entry.specs.declared.entry.Entry.{Entry}
use Rattle.fc_legal.specs.Steps.{CommandLeft, CommandStep, Step, after_access, after_settling, decided_on, left_by, one_more}
use Rattle.fc_legal.specs.Whole.{Whole, lanes}
use Rattle.fc_parts.specs.Law.{IsOfLane}

-- By the place of an entry: a lane's did what it says, one of no lane is a refusal, and one of every lane a command.
abbrev pub LeftAt : GrainSize → Whole → Entry → Place → Whole → Type 0
LeftAt grain w entry (Lane i) next = (i < lanes w) × IsOfLane grain w i entry.request × (next ≡ after_access grain w i entry)
LeftAt grain w entry Control next = next ≡ one_more w
LeftAt grain w entry Every next = (command : Command) × (entry.request ≡ Asked command) × CommandStep grain w command entry next

-- A command was decided on what its settling left, by this loop of restores.
pub record WasDecided (grain : GrainSize) (w : Whole) (command : Command) (loop : Option (List VolId)) (reply : Reply) (effects : List Effect) (left : Whole) : Type 0 where
  pub reply_is : reply ≡ (decided_on grain (after_settling grain w) command loop).reply
  pub effects_are : effects ≡ (settle w.books).effects ++ (decided_on grain (after_settling grain w) command loop).effects
  pub left_is : left ≡ left_by grain (after_settling grain w) (decided_on grain (after_settling grain w) command loop)

-- Or it was not, for want of memory: then all is as it was, or settled.
pub record WasUndone (w : Whole) (reply : Reply) (effects : List Effect) (left : Whole) : Type 0 where
  pub reply_is : reply ≡ NoMemory
  pub effects_are : effects ≡ []
  pub left_is : left ≡ w

pub record WasSettled (grain : GrainSize) (w : Whole) (reply : Reply) (effects : List Effect) (left : Whole) : Type 0 where
  pub reply_is : reply ≡ NoMemory
  pub effects_are : effects ≡ (settle w.books).effects
  pub left_is : left ≡ after_settling grain w

pub record CommandsLaw : Type 0 where
  -- of an entry its place says what kind it is
  pub placed : (grain : GrainSize) (w : Whole) (entry : Entry) (next : Whole) → 0 < lanes w → Step grain w entry next →
      LeftAt grain w entry entry.place next
  -- no decision on a command answers that there is no memory
  pub answers : (restarts : ℕ → List Bool) (grain : GrainSize) (b : Books) (command : Command) (loop : Option (List VolId)) →
      (decide restarts grain b command loop).reply ≢ NoMemory
  -- one loop of restores is told
  pub loop : (grain : GrainSize) (b : Books) (command : Command) (first second : Option (List VolId)) →
      IsLoopOf grain b command first → IsLoopOf grain b command second → first ≡ second
  -- so a command leaves one of three, whichever loop is told
  pub leaves : (grain : GrainSize) (w : Whole) (command : Command) (loop : Option (List VolId)) (reply : Reply) (effects : List Effect) (left : Whole) →
      IsLoopOf grain (after_settling grain w).books command loop → CommandLeft grain w command reply effects left →
      WasDecided grain w command loop reply effects left ⊎ (WasUndone w reply effects left ⊎ WasSettled grain w reply effects left)
  -- and where it answers that there is no memory one of two; else it was decided
  pub wanting : (grain : GrainSize) (w : Whole) (command : Command) (effects : List Effect) (left : Whole) →
      CommandLeft grain w command NoMemory effects left → WasUndone w NoMemory effects left ⊎ WasSettled grain w NoMemory effects left
  pub answered : (grain : GrainSize) (w : Whole) (command : Command) (loop : Option (List VolId)) (reply : Reply) (effects : List Effect) (left : Whole) →
      IsLoopOf grain (after_settling grain w).books command loop → reply ≢ NoMemory → CommandLeft grain w command reply effects left →
      WasDecided grain w command loop reply effects left
