-- How many calls of its disk the metadata of a history costs: writes and syncs.
use Rattle.std.specs.Prelude.{◌≡◌, ℕ, ◌+◌, ◌≤◌, ltb, Bool, if◌then◌else◌, List, [], ◌∷◌, ◌++◌, fold}
use Rattle.std.specs.List.{sum_by}
use Rattle.fc_image.specs.declared.record.MetaRecord.{MetaRecord}
use Rattle.fc_kept.specs.Actions.{Action, Action.Data, Action.Note, Action.Fold}

-- To open metadata; to put the batch of a record, by a note and its sync; and to fold.
abbrev pub calls_to_open : ℕ
calls_to_open = 4

abbrev pub calls_to_put : ℕ
calls_to_put = 4

abbrev pub calls_to_fold : ℕ
calls_to_fold = 6

-- How many bytes of a half the batch of a record takes, and how many stand before the closed gate behind an image; and how many
-- bytes a half has, which is room for an image and any one batch.
pub record Sizes : Type 0 where
  pub batch : MetaRecord → ℕ
  pub image : ℕ
  pub half : ℕ

-- A batch begins behind the closed gate, which stands behind the used bytes. Where it would pass the half, metadata is folded first.
abbrev pub must_fold : Sizes → ℕ → MetaRecord → Bool
must_fold s used r = ltb s.half (used + 1 + s.batch r)

-- ---- an action's calls, and the bytes that are used behind it

abbrev pub calls_of_action : Sizes → ℕ → Action → ℕ
calls_of_action s used (Data step) = 0
calls_of_action s used (Note r) = if must_fold s used r then calls_to_fold + calls_to_put else calls_to_put
calls_of_action s used Fold = calls_to_fold

abbrev pub used_behind : Sizes → ℕ → Action → ℕ
used_behind s used (Data step) = used
used_behind s used (Note r) = (if must_fold s used r then s.image else used) + s.batch r
used_behind s used Fold = s.image

-- ---- those of actions, one after the other

abbrev pub calls_of_actions : Sizes → ℕ → List Action → ℕ
calls_of_actions s used [] = 0
calls_of_actions s used (action ∷ actions) = calls_of_action s used action + calls_of_actions s (used_behind s used action) actions

abbrev pub used_behind_all : Sizes → ℕ → List Action → ℕ
used_behind_all s used actions = fold (used_behind s) used actions

-- ---- those of a history

-- The actions of each entry, with the sizes in it: a command makes an image of another size.
abbrev pub calls_of_entries : ℕ → List (Sizes × List Action) → ℕ
calls_of_entries used [] = 0
calls_of_entries used ((sizes, actions) ∷ entries) = calls_of_actions sizes used actions + calls_of_entries (used_behind_all sizes used actions) entries

-- Metadata is opened first, with an image of so many bytes.
abbrev pub calls_of_history : ℕ → List (Sizes × List Action) → ℕ
calls_of_history image entries = calls_to_open + calls_of_entries image entries

-- ---- the least and the most

-- Where each batch fits, and where there is a fold before each.
abbrev pub least_calls : Action → ℕ
least_calls (Data step) = 0
least_calls (Note r) = calls_to_put
least_calls Fold = calls_to_fold

abbrev pub most_calls : Action → ℕ
most_calls (Data step) = 0
most_calls (Note r) = calls_to_fold + calls_to_put
most_calls Fold = calls_to_fold

abbrev pub batch_of : Sizes → Action → ℕ
batch_of s (Data step) = 0
batch_of s (Note r) = s.batch r
batch_of s Fold = 0

pub record CostLaw : Type 0 where
  -- actions cost what the first of them cost, and what the others cost behind these
  pub both : (s : Sizes) (used : ℕ) (front back : List Action) →
      calls_of_actions s used (front ++ back) ≡ calls_of_actions s used front + calls_of_actions s (used_behind_all s used front) back
  pub least : (s : Sizes) (used : ℕ) (actions : List Action) → sum_by least_calls actions ≤ calls_of_actions s used actions
  pub most : (s : Sizes) (used : ℕ) (actions : List Action) → calls_of_actions s used actions ≤ sum_by most_calls actions
  -- they cost the least where all batches fit behind the bytes that are used, at least those of an image
  pub fit : (s : Sizes) (used : ℕ) (actions : List Action) → s.image ≤ used → used + 1 + sum_by (batch_of s) actions ≤ s.half →
      calls_of_actions s used actions ≡ sum_by least_calls actions
