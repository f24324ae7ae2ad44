-- Calls of a writer, one after the other: in which order they come, and what stands behind them.
use Rattle.std.specs.Prelude.{◌≡◌, ◌<◌, ℕ, false, ◌+◌, List, [], ◌∷◌, ◌++◌, length, Result, Ok, Err, ⊤}
use Rattle.fc_format.specs.Bytes.{batch_bytes, half_bytes}
use Rattle.fc_format.specs.Ranges.{HasGoodIds}
use Rattle.fc_format.specs.Halves.{Found, Image, recovered}
use Rattle.fc_meta.specs.declared.series.Call.{Call}
use Rattle.fc_meta.specs.declared.series.Call.TheVariants.{Note, Sync, ClearOther, FillOther, Turn}
use Rattle.fc_meta.specs.declared.error.MetaError.{MetaError}
use Rattle.fc_meta.specs.declared.error.MetaError.TheVariants.{Failed, NoMemory, Full}
use Rattle.fc_meta.specs.declared.meta.Meta.{Meta}
use Rattle.fc_meta.specs.Answers.{found_with, PassesHalf}
use Rattle.fc_meta.specs.States.{Head, head_of, head_turned, generation_of, used_of, next_of, room_of, found, awaited, filled, IsResting, IsWaiting, IsCleared, IsFilled}

-- ---- One call

module _ {D : Type 0} (seen : D → List ℕ) (may_leave : D → List ℕ → Type 0) where
  -- the state that a call asks for
  abbrev pub IsReadyFor : Call → Meta D → Type 0
  IsReadyFor (Note records) meta = IsResting seen may_leave meta
  IsReadyFor Sync meta = IsWaiting seen may_leave meta
  IsReadyFor ClearOther meta = IsResting seen may_leave meta
  IsReadyFor (FillOther image) meta = IsCleared seen may_leave meta × HasGoodIds image
  IsReadyFor Turn meta = IsFilled seen may_leave meta

  -- what it leaves when it answers Ok
  abbrev pub IsMade : Call → Meta D → Meta D → Type 0
  IsMade (Note records) old new =
      IsWaiting seen may_leave new × (found seen new ≡ found seen old) × (awaited seen new ≡ found_with (found seen old) records)
      × (next_of new ≡ used_of old + length (batch_bytes records))
  IsMade Sync old new = IsResting seen may_leave new × (found seen new ≡ awaited seen old)
  IsMade ClearOther old new = IsCleared seen may_leave new × (found seen new ≡ found seen old)
  IsMade (FillOther image) old new =
      IsFilled seen may_leave new × (found seen new ≡ found seen old) × (filled seen new ≡ Image image)
      × (next_of new ≡ length (half_bytes (generation_of old + 1) image))
  IsMade Turn old new = IsResting seen may_leave new × (found seen new ≡ filled seen old)

-- where the writer then stands
abbrev pub head_behind : {D : Type 0} → Call → Meta D → Head
head_behind (Note records) meta = head_of meta
head_behind Sync meta = record (head_of meta) { used = next_of meta }
head_behind ClearOther meta = record (head_of meta) { other_is_open = false }
head_behind (FillOther image) meta = record (head_of meta) { other_is_open = false }
head_behind Turn meta = head_turned (next_of meta) (head_of meta)

module _ {D : Type 0} (seen : D → List ℕ) where
  -- what stands once it has answered Ok
  abbrev pub coming : Call → Meta D → Found
  coming (Note records) meta = found seen meta
  coming Sync meta = awaited seen meta
  coming ClearOther meta = found seen meta
  coming (FillOther image) meta = found seen meta
  coming Turn meta = filled seen meta

  -- its bytes pass the half, or its generation passes the last one
  abbrev pub HasNoRoom : Call → Meta D → Type 0
  HasNoRoom (Note records) meta = room_of seen meta < used_of meta + 1 + length (batch_bytes records)
  HasNoRoom Sync meta = ⊥
  HasNoRoom ClearOther meta = ⊥
  HasNoRoom (FillOther image) meta = PassesHalf (generation_of meta) image (room_of seen meta)
  HasNoRoom Turn meta = ⊥

-- it takes memory
abbrev pub TakesMemory : Call → Type 0
TakesMemory (Note records) = ⊤
TakesMemory Sync = ⊥
TakesMemory ClearOther = ⊥
TakesMemory (FillOther image) = ⊤
TakesMemory Turn = ⊥

-- the first of these calls has it
abbrev pub OfFirst : (Call → Type 0) → List Call → Type 0
OfFirst P [] = ⊥
OfFirst P (call ∷ calls) = P call

-- how many calls of the disk it makes
abbrev pub disk_calls : Call → ℕ
disk_calls (Note records) = 1
disk_calls Sync = 3
disk_calls ClearOther = 2
disk_calls (FillOther image) = 2
disk_calls Turn = 2

-- ---- Calls in their order

-- how far a writer is
pub data Stage : Type 0 where
  AtRest : Stage
  BatchNoted : Stage
  OtherCleared : Stage
  OtherFilled : Stage

-- behind a call
abbrev pub behind : Call → Stage
behind (Note records) = BatchNoted
behind Sync = AtRest
behind ClearOther = OtherCleared
behind (FillOther image) = OtherFilled
behind Turn = AtRest

-- behind calls that begin here
abbrev pub stage_behind : Stage → List Call → Stage
stage_behind stage [] = stage
stage_behind stage (call ∷ calls) = stage_behind (behind call) calls

-- the call comes here
abbrev pub Comes : Stage → Call → Type 0
Comes AtRest (Note records) = ⊤
Comes BatchNoted Sync = ⊤
Comes AtRest ClearOther = ⊤
Comes OtherCleared (FillOther image) = HasGoodIds image
Comes OtherFilled Turn = ⊤
Comes stage call = ⊥

-- each call comes where the one before it leads
abbrev pub AreInOrder : Stage → List Call → Type 0
AreInOrder stage [] = ⊤
AreInOrder stage (call ∷ calls) = Comes stage call × AreInOrder (behind call) calls

-- the state of a writer there
abbrev pub IsAt : {D : Type 0} (seen : D → List ℕ) (may_leave : D → List ℕ → Type 0) → Stage → Meta D → Type 0
IsAt seen may_leave AtRest meta = IsResting seen may_leave meta
IsAt seen may_leave BatchNoted meta = IsWaiting seen may_leave meta
IsAt seen may_leave OtherCleared meta = IsCleared seen may_leave meta
IsAt seen may_leave OtherFilled meta = IsFilled seen may_leave meta

-- ---- What stands behind them

-- What stands behind calls that begin at rest: the image of the last fold that was turned to, with each batch behind it that was
-- synced, in order. A batch or a fold that they only begin adds nothing.
unfoldable pub stands : Found → List Call → Found
stands before (Note records ∷ Sync ∷ calls) = stands (found_with before records) calls
stands before (ClearOther ∷ FillOther image ∷ Turn ∷ calls) = stands (Image image) calls
stands before begun = before

-- a crash leaves what stands behind some first ones of the calls
abbrev pub LeavesFront : Found → List Call → List ℕ → Type 0
LeavesFront before calls c = (front : List Call) × (rest : List Call) × (front ++ rest ≡ calls) × (recovered c ≡ stands before front)

-- it holds, unless the disk has failed
abbrev pub UnlessFailed : {A : Type 0} → Result A MetaError → Type 0 → Type 0
UnlessFailed (Ok a) holds = holds
UnlessFailed (Err Failed) holds = ⊤
UnlessFailed (Err NoMemory) holds = holds
UnlessFailed (Err Full) holds = holds
