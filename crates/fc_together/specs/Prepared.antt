-- Scripts that were prepared over a store.
use Rattle.std.specs.Prelude.{◌≡◌, List}
use Rattle.std.specs.List.{AllZip}
use Rattle.fc_actors.specs.Scripts.{left_of}
use Rattle.fc_actors.specs.declared.script.ActorScript.{ActorScript}
use Rattle.fc_legal.specs.Scripts.{Script}

-- Each is of the same actor, and asks the same.
abbrev pub AreScripts : {D : Type 0} → List (ActorScript D) → List Script → Type 0
AreScripts {D} scripts asked = AllZip (λ (s : ActorScript D) (x : Script). (s.actor ≡ x.actor) × (left_of s ≡ x.requests)) scripts asked
