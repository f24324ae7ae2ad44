-- Whose script it is.
use Rattle.std.specs.Prelude.{◌≡◌, ℕ, ◌≤◌, List, [], All, length, vec_capacity}
use Rattle.std.specs.List.{AllZip}
use Rattle.fc_actors.specs.Scripts.{WorkSuits, left_of, work_left}
use Rattle.fc_actors.specs.declared.script.ActorScript.{ActorScript}
use Rattle.fc_actors.specs.declared.script.Left.{Left}
use Rattle.fc_blocks.specs.declared.block.ActorRead.{ActorRead}
use Rattle.fc_books.specs.Books.{Books}
use Rattle.fc_desk.specs.Control.{ControlState}
use Rattle.fc_entry.specs.HistoryState.{number_of_actor}
use Rattle.fc_legal.specs.Scripts.{Script, asked_as}
use Rattle.fc_shares.specs.Situation.{Situation}
use Rattle.fc_stands.specs.Store.{StoreView}
use Rattle.fc_prepare.specs.Items.{IsOfActor, IsToldBy}

-- The work asks what the actor asks by its role and lines, in a store of so many lanes, and can be done.
pub record IsWorkOf (c : ControlState) (lanes : ℕ) (actor : ActorRead) (work : Left) : Type 0 where
  pub asked : (b : Books) → b.tables ≡ c.tables → work_left c.grain lanes work ≡ asked_as actor.role c.grain lanes b actor.lines
  pub suits : (s : Situation) → IsToldBy c s → All IsOfActor actor.lines → WorkSuits s work

-- It is the script of an actor whose number is the place of its name, over a store.
pub record IsScriptOf {D : Type 0} (store : StoreView) (names : List (List ℕ)) (actor : ActorRead) (script : ActorScript D) : Type 0 where
  pub number : script.actor ≡ number_of_actor names actor.name
  pub grain : script.grain ≡ store.control.grain
  pub lanes : script.lanes ≡ length store.lanes
  pub work : IsWorkOf store.control (length store.lanes) actor script.work
  pub tray : (script.tray.items ≡ []) × (length store.lanes ≤ vec_capacity script.tray)

-- The scripts of all actors, in order.
abbrev pub AreScriptsOf : {D : Type 0} → StoreView → List (List ℕ) → List ActorRead → List (ActorScript D) → Type 0
AreScriptsOf store names actors scripts = AllZip (IsScriptOf store names) actors scripts

-- Scripts that ask, in order, what these actors ask.
abbrev pub AskTheirs : {D : Type 0} → List (ActorScript D) → List Script → Type 0
AskTheirs scripts asked = AllZip (λ (script : ActorScript _) (s : Script). (script.actor ≡ s.actor) × (left_of script ≡ s.requests)) scripts asked
