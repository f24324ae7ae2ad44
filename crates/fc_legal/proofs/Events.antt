-- What the lane of all grains is told of events: its chains are those of the books, its rows follow from chains and rows alone, and
-- its rooms from rooms alone.
use Rattle.std.proofs.Common.{◌≡◌, ℕ, Bool, List, [], ◌∷◌, fold, refl, ap, ◌∙◌, arith}
use Rattle.fc_base.specs.Room.{Room, rooms_after}
use Rattle.fc_base.specs.Sheet.{Sheet}
use Rattle.fc_base.specs.SheetStep.{sheet_step}
use Rattle.fc_base.specs.declared.decision.LaneEvent.{LaneEvent}
use Rattle.fc_base.specs.declared.decision.LaneEvent.TheVariants.{Trigger}
use Rattle.fc_base.specs.declared.size.GrainSize.{GrainSize}
use Rattle.fc_books.specs.After.{begun, sheet_after}
use Rattle.fc_follow.specs.Following.{Followed, restarts, rows_event, told_with, followed_event}
use Rattle.fc_legal.specs.Steps.{rows_after}
use Rattle.fc_legal.specs.Whole.{single_lane}
use Rattle.fc_rules.specs.LaneTold.{LaneTold, grains_in}

-- ---- the lane of all grains has each of them

pub one_lane : (grain : GrainSize) (n : ℕ) → grains_in (single_lane grain) n ≡ n
one_lane grain n = omega arith

pub all_in : (grain : GrainSize) → grains_in (single_lane grain) ≡ (λ (n : ℕ). n)
all_in grain = λ k n. one_lane grain n k

pub step_alike : (grain : GrainSize) (s : Sheet) (e : LaneEvent) → sheet_step (grains_in (single_lane grain)) s e ≡ sheet_step (λ grains. grains) s e
step_alike grain s e = ap (λ (f : ℕ → ℕ). sheet_step f s e) (all_in grain)

-- ---- chains and rows

sheet_told : (sets : ℕ → List Bool) (grain : GrainSize) (told : LaneTold) (e : LaneEvent) → (told_with sets (single_lane grain) told e).sheet ≡ sheet_after sets told.sheet e
sheet_told sets grain told (Trigger pairs) = ap (λ (s : Sheet). fold (begun sets) s pairs) (step_alike grain told.sheet (Trigger pairs))
sheet_told sets grain told e = step_alike grain told.sheet e

pub rows_told : (grain : GrainSize) (f : Followed) (events : List LaneEvent) → (fold (followed_event (single_lane grain)) f events).rows ≡ rows_after f.told.sheet f.rows events
rows_told grain f [] = refl
rows_told grain f (e ∷ es) =
    rows_told grain (followed_event (single_lane grain) f e) es
    ∙ ap (λ (s : Sheet). rows_after s (rows_event f.told.sheet.slots f.rows e) es) (sheet_told (restarts f.rows) grain f.told e)

-- ---- which grains occupy memory

rooms_alike : (grain : GrainSize) (rooms : List Room) (e : LaneEvent) → rooms_after (grains_in (single_lane grain)) rooms e ≡ rooms_after (λ grains. grains) rooms e
rooms_alike grain rooms e = ap (λ (f : ℕ → ℕ). rooms_after f rooms e) (all_in grain)

pub rooms_through : (grain : GrainSize) (f : Followed) (events : List LaneEvent) → (fold (followed_event (single_lane grain)) f events).rooms ≡ fold (rooms_after (λ grains. grains)) f.rooms events
rooms_through grain f [] = refl
rooms_through grain f (e ∷ es) =
    rooms_through grain (followed_event (single_lane grain) f e) es
    ∙ ap (λ (rooms : List Room). fold (rooms_after (λ grains. grains)) rooms es) (rooms_alike grain f.rooms e)
