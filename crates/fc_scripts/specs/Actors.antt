-- When entries are those of the actors of a block, whatever their order among each other.
use Rattle.std.specs.Prelude.{◌≡◌, ℕ, ◌==◌, true, List, ◌∷◌, ◌++◌, map, filter, All, Contains}
use Rattle.std.specs.List.{list_any}
use Rattle.fc_base.specs.declared.request.Request.{Request}
use Rattle.fc_entry.specs.declared.entry.Entry.{Entry}
use Rattle.fc_legal.specs.Scripts.{Script}

-- What an actor's entries ask, in their order.
abbrev pub asks_of : ℕ → List Entry → List Request
asks_of actor entries =
    map (λ (entry : Entry). entry.request) (filter (λ (entry : Entry). entry.actor == actor) entries)

-- Each entry is that of an actor who has a script.
abbrev pub AreTheirs : List Script → List Entry → Type 0
AreTheirs scripts entries =
    All (λ (entry : Entry). list_any (λ (s : Script). s.actor == entry.actor) scripts ≡ true) entries

-- All of them: of each actor its entries, in their order, ask what its script asks; and nobody else asks anything.
pub record AreAll (scripts : List Script) (entries : List Entry) : Type 0 where
  pub each : All (λ (s : Script). asks_of s.actor entries ≡ s.requests) scripts
  pub nobody_else : AreTheirs scripts entries

-- A first part: of each actor they ask the first of what its script asks, and the rest is left.
pub record AreFirst (scripts : List Script) (entries : List Entry) : Type 0 where
  pub left : ℕ → List Request
  pub each : All (λ (s : Script). asks_of s.actor entries ++ left s.actor ≡ s.requests) scripts
  pub nobody_else : AreTheirs scripts entries

-- A first part that wants one more: of some actor a request is left.
pub record WantMore (scripts : List Script) (entries : List Entry) : Type 0 where
  pub first : AreFirst scripts entries
  pub script : Script
  pub is_one : Contains scripts script
  pub wanted : Request
  pub behind : List Request
  pub is_left : first.left script.actor ≡ wanted ∷ behind
