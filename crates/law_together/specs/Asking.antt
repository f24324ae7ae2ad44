-- How far actors came with their scripts, each by what it was answered.
use Rattle.std.specs.Prelude.{◌≡◌, List, [], ◌∷◌, ◌++◌, map, Contains}
use Rattle.std.specs.List.{AllZip}
use Rattle.fc_base.specs.declared.request.Request.{Request}
use Rattle.fc_entry.specs.declared.entry.Entry.{Entry}
use Rattle.fc_legal.specs.Scripts.{Script}
use Rattle.fc_merge.specs.Merging.{Own}

-- The actor asked what its script asks, and this is left.
pub record LeavesOf (script : Script) (own : Own) (left : List Request) : Type 0 where
  pub actor : own.actor ≡ script.actor
  pub asked : map (λ (e : Entry). e.request) own.entries ++ left ≡ script.requests

-- All of it, or the first.
abbrev pub AskedAll : Own → Script → Type 0
AskedAll own script = LeavesOf script own []

abbrev pub AskedFirst : Own → Script → Type 0
AskedFirst own script = (left : List Request) × LeavesOf script own left

-- Each actor did, in the order of the scripts.
abbrev pub AllAsked : List Own → List Script → Type 0
AllAsked lists scripts = AllZip AskedAll lists scripts

abbrev pub AllBegan : List Own → List Script → Type 0
AllBegan lists scripts = AllZip AskedFirst lists scripts

-- One of them wants one more.
pub record OneWants (lists : List Own) (scripts : List Script) : Type 0 where
  pub own : Own
  pub script : Script
  pub is_list : Contains lists own
  pub is_script : Contains scripts script
  pub wanted : Request
  pub behind : List Request
  pub leaves : LeavesOf script own (wanted ∷ behind)
