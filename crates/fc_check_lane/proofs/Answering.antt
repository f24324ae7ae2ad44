-- The parts of an answer together: by the access of a volume, and by the steps that are owed.
use Rattle.std.proofs.Common.{◌≡◌, ◌↔◌, ℕ, ◌+◌, ◌≤◌, ◌%◌, Bool, true, false, IsTrue, Option, Some, None, Result, IfOk, List, length, refl, sym, ap, subst, ◌∙◌}
use Rattle.std.specs.Prelude.{MatchOption}
use Rattle.std.proofs.lemmas.Bool.{both_ways}
use Rattle.std.proofs.lemmas.Result.{IfOk-weaker}
use Rattle.fc_base.specs.Grain.{grain_blocks}
use Rattle.fc_base.specs.Sheet.{Slot, Sheet, live_place}
use Rattle.fc_base.specs.declared.ids.GrainNo.{GrainNo}
use Rattle.fc_base.specs.declared.ids.MapId.{MapId}
use Rattle.fc_base.specs.declared.ids.VolId.{VolId}
use Rattle.fc_base.specs.declared.outcome.NoMemory.{NoMemory}
use Rattle.fc_base.specs.declared.request.ReadPart.{ReadPart}
use Rattle.fc_base.specs.declared.request.Reply.{Reply}
use Rattle.fc_base.specs.declared.request.Reply.TheVariants.{Done, DiskFault, Idle, MediumError, NoMemory as WantsMemory}
use Rattle.fc_base.specs.declared.request.WritePart.{WritePart}
use Rattle.fc_base.specs.declared.size.GrainSize.{GrainSize}
use Rattle.fc_base.specs.declared.state.Access.{Access}
use Rattle.fc_base.specs.declared.state.Access.TheVariants.{Online}
use Rattle.fc_entry.specs.Picture.{grain_of_block}
use Rattle.fc_entry.specs.declared.entry.Entry.{Entry}
use Rattle.fc_rules.specs.GrainAnswers.{ByAccess, ReadAnswers, WriteAnswers, FillAnswers, cannot_write}
use Rattle.fc_rules.specs.LaneRight.{TurnAnswers}
use Rattle.fc_rules.specs.LaneTold.{LaneVolume, lane_access, is_thin_in}
use Rattle.fc_rules.specs.Spot.{Spot}
use Rattle.fc_rules.specs.Steps.{DiskStep, HasDoneNothing, HasFailed, HasNoMemory, steps_of_fill, steps_of_write}
use Rattle.fc_check_lane.specs.Known.{Known, spot_in}
use Rattle.fc_check_lane.specs.Steps.{CanWrite, CanWriteTo}
use Rattle.fc_check_lane.specs.Turns.{filled_in, next_in}
use Rattle.fc_check_lane.specs.Answers.{HasGrain, IsInsideIn, IsOfLane, IsOfGrain, ReadIn, WriteIn, VolumeWriteIn, MappingFillIn, FillIn, TurnIn, CanBeWritten}
use Rattle.fc_check_lane.specs.declared.turn.Work.{Work}
use Rattle.fc_check_lane.proofs.Verdicts.{iff_along, iff_trans, false_is}

-- ---- by the access of a volume

pub access_is : (a b : Access) (entry : Entry) (P : Type 0) → a ≡ b → ByAccess a entry P ↔ ByAccess b entry P
access_is a b entry P e = iff_along (λ (z : Access). ByAccess z entry P) a b e

pub access_fit : (a : Access) (volumes kept : List LaneVolume) (id : VolId) (entry : Entry) (P : Type 0) (so : Bool) → volumes ≡ kept → a ≡ lane_access volumes id → IsTrue so ↔ ByAccess a entry P → IsTrue so ↔ ByAccess (lane_access kept id) entry P
access_fit a volumes kept id entry P so same is f = iff_trans f (access_is a (lane_access kept id) entry P (is ∙ ap (λ (z : List LaneVolume). lane_access z id) same))

pub read_online : (k : Known) (volumes : List LaneVolume) (part : ReadPart) (number : ℕ) (entry : Entry) (r : Result Bool NoMemory) → volumes ≡ k.volumes → Online ≡ lane_access volumes part.volume →
    number ≡ grain_of_block k.grain part.block → IfOk r (λ so. IsTrue so ↔ ReadAnswers k.grain (spot_in k number) part entry entry.reply) → IfOk r (λ so. IsTrue so ↔ ReadIn k part entry)
read_online k volumes part number entry r same is at found =
    let P : ℕ → Type 0 = λ n. ReadAnswers k.grain (spot_in k n) part entry entry.reply in
    IfOk-weaker r (λ so. IsTrue so ↔ P number) (λ so. IsTrue so ↔ ReadIn k part entry)
    (λ so f. access_fit Online volumes k.volumes part.volume entry (P (grain_of_block k.grain part.block)) so same is (iff_trans f (iff_along P number (grain_of_block k.grain part.block) at)))
    found

pub write_online : (k : Known) (volumes : List LaneVolume) (part : WritePart) (number : ℕ) (entry : Entry) (r : Result Bool NoMemory) → volumes ≡ k.volumes → Online ≡ lane_access volumes part.volume →
    IfOk r (λ so. CanWriteTo k part.volume.0 number → IsTrue so ↔ VolumeWriteIn k part (live_place k.sheet.slots part.volume.0) entry) → IfOk r (λ so. CanWriteTo k part.volume.0 number → IsTrue so ↔ WriteIn k part entry)
write_online k volumes part number entry r same is found =
    IfOk-weaker r (λ so. CanWriteTo k part.volume.0 number → IsTrue so ↔ VolumeWriteIn k part (live_place k.sheet.slots part.volume.0) entry) (λ so. CanWriteTo k part.volume.0 number → IsTrue so ↔ WriteIn k part entry)
    (λ so f can. access_fit Online volumes k.volumes part.volume entry (VolumeWriteIn k part (live_place k.sheet.slots part.volume.0) entry) so same is (f can))
    found

-- ---- the live slot of a volume that is written

pub live_fit : (k : Known) (part : WritePart) (number t : ℕ) (entry : Entry) (r : Result Bool NoMemory) → Some t ≡ live_place k.sheet.slots part.volume.0 → number ≡ grain_of_block k.grain part.block →
    IfOk r (λ so. CanWrite k number t → IsTrue so ↔ WriteAnswers k.grain (spot_in k number) part t entry entry.reply) →
    IfOk r (λ so. CanWriteTo k part.volume.0 number → IsTrue so ↔ VolumeWriteIn k part (live_place k.sheet.slots part.volume.0) entry)
live_fit k part number t entry r is at found =
    let P : ℕ → Type 0 = λ n. WriteAnswers k.grain (spot_in k n) part t entry entry.reply in
    IfOk-weaker r (λ so. CanWrite k number t → IsTrue so ↔ P number) (λ so. CanWriteTo k part.volume.0 number → IsTrue so ↔ VolumeWriteIn k part (live_place k.sheet.slots part.volume.0) entry)
    (λ so f can. iff_trans (f (can t (sym is))) (iff_trans (iff_along P number (grain_of_block k.grain part.block) at) (iff_along (λ (o : Option ℕ). VolumeWriteIn k part o entry) (Some t) (live_place k.sheet.slots part.volume.0) is)))
    found

pub no_live_fit : (k : Known) (part : WritePart) (entry : Entry) → None ≡ live_place k.sheet.slots part.volume.0 → IsTrue false ↔ VolumeWriteIn k part (live_place k.sheet.slots part.volume.0) entry
no_live_fit k part entry is = false_is (λ a. subst (λ (o : Option ℕ). VolumeWriteIn k part o entry) (sym is) a)

-- ---- what a write owes

-- a medium error is the answer where a part of a lost grain is written
pub cannot_fit : (k : Known) (part : WritePart) (number t : ℕ) (entry : Entry) (reply : Reply) (cannot so : Bool) → cannot ≡ true → cannot ≡ cannot_write k.grain (spot_in k number) part →
    IsTrue so ↔ ((reply ≡ MediumError) × HasDoneNothing entry) → IsTrue so ↔ WriteAnswers k.grain (spot_in k number) part t entry reply
cannot_fit k part number t entry reply cannot so on is f = iff_trans f (by_reply reply)
  where
    lost : cannot_write k.grain (spot_in k number) part ≡ true
    lost = sym is ∙ on

    by_reply : (answer : Reply) → ((answer ≡ MediumError) × HasDoneNothing entry) ↔ WriteAnswers k.grain (spot_in k number) part t entry answer
    by_reply MediumError = (λ p. (lost, p.1), λ p. (refl, p.1))
    by_reply Done = (λ p. absurd (cc p.0), λ p. absurd (both_ways _ p.0 lost))
    by_reply DiskFault = (λ p. absurd (cc p.0), λ p. absurd (both_ways _ p.0 lost))
    by_reply WantsMemory = (λ p. absurd (cc p.0), λ p. absurd (both_ways _ p.0 lost))
    by_reply answer = (λ p. absurd (cc p.0), λ p. absurd p)

-- and else it is that of its steps
pub write_fit : (k : Known) (part : WritePart) (number t : ℕ) (Holds : List DiskStep → Type 0) (cannot : Bool) (slice steps : List DiskStep) (r : Result Bool NoMemory) →
    cannot ≡ false → cannot ≡ cannot_write k.grain (spot_in k number) part → slice ≡ steps → (CanWrite k number t → steps ≡ steps_of_write k.grain (spot_in k number) part t) →
    IfOk r (λ so. IsTrue so ↔ Holds slice) → IfOk r (λ so. CanWrite k number t → IsTrue so ↔ ((cannot_write k.grain (spot_in k number) part ≡ false) × Holds (steps_of_write k.grain (spot_in k number) part t)))
write_fit k part number t Holds cannot slice steps r off is same made found =
    IfOk-weaker r (λ so. IsTrue so ↔ Holds slice) (λ so. CanWrite k number t → IsTrue so ↔ ((cannot_write k.grain (spot_in k number) part ≡ false) × Holds (steps_of_write k.grain (spot_in k number) part t)))
    (λ so f can. iff_trans f (iff_trans (iff_along Holds slice (steps_of_write k.grain (spot_in k number) part t) (same ∙ made can)) (λ h. (sym is ∙ off, h), λ p. p.1)))
    found

pub answers_as : (k : Known) (part : WritePart) (number t : ℕ) (entry : Entry) (r : Result Bool NoMemory) (reply same : Reply) → reply ≡ same →
    IfOk r (λ so. CanWrite k number t → IsTrue so ↔ WriteAnswers k.grain (spot_in k number) part t entry same) →
    IfOk r (λ so. CanWrite k number t → IsTrue so ↔ WriteAnswers k.grain (spot_in k number) part t entry reply)
answers_as k part number t entry r reply same is found =
    subst (λ (a : Reply). IfOk r (λ so. CanWrite k number t → IsTrue so ↔ WriteAnswers k.grain (spot_in k number) part t entry a)) (sym is) found

-- what a failure and want of memory say of a spot
pub failed_fit : (k : Known) (number : ℕ) (slice : List DiskStep) (entry : Entry) (r : Result Bool NoMemory) →
    IfOk r (λ so. (spot : Spot) → spot.number ≡ number → IsTrue so ↔ HasFailed spot slice entry) → IfOk r (λ so. IsTrue so ↔ HasFailed (spot_in k number) slice entry)
failed_fit k number slice entry r found =
    IfOk-weaker r (λ so. (spot : Spot) → spot.number ≡ number → IsTrue so ↔ HasFailed spot slice entry) (λ so. IsTrue so ↔ HasFailed (spot_in k number) slice entry)
    (λ so f. f (spot_in k number) refl) found

pub want_fit : (k : Known) (volumes : List LaneVolume) (number : ℕ) (slice : List DiskStep) (entry : Entry) (r : Result Bool NoMemory) → volumes ≡ k.volumes →
    IfOk r (λ so. (spot : Spot) → ((v : ℕ) → spot.is_thin v ≡ is_thin_in volumes v) → IsTrue so ↔ HasNoMemory spot slice entry) → IfOk r (λ so. IsTrue so ↔ HasNoMemory (spot_in k number) slice entry)
want_fit k volumes number slice entry r same found =
    IfOk-weaker r (λ so. (spot : Spot) → ((v : ℕ) → spot.is_thin v ≡ is_thin_in volumes v) → IsTrue so ↔ HasNoMemory spot slice entry) (λ so. IsTrue so ↔ HasNoMemory (spot_in k number) slice entry)
    (λ so f. f (spot_in k number) (λ v. ap (λ (z : List LaneVolume). is_thin_in z v) (sym same))) found

-- ---- what a fill owes

pub fill_fit : (k : Known) (number p : ℕ) (Holds : List DiskStep → Type 0) (slice steps : List DiskStep) (r : Result Bool NoMemory) → slice ≡ steps → steps ≡ steps_of_fill (spot_in k number) p →
    IfOk r (λ so. IsTrue so ↔ Holds slice) → IfOk r (λ so. IsTrue so ↔ Holds (steps_of_fill (spot_in k number) p))
fill_fit k number p Holds slice steps r same made found =
    IfOk-weaker r (λ so. IsTrue so ↔ Holds slice) (λ so. IsTrue so ↔ Holds (steps_of_fill (spot_in k number) p))
    (λ so f. iff_trans f (iff_along Holds slice (steps_of_fill (spot_in k number) p) (same ∙ made))) found

pub moved_fit : (A B H : Type 0) (r : Result Bool NoMemory) → A → B → IfOk r (λ so. IsTrue so ↔ H) → IfOk r (λ so. IsTrue so ↔ (A × B × H))
moved_fit A B H r a b found = IfOk-weaker r (λ so. IsTrue so ↔ H) (λ so. IsTrue so ↔ (A × B × H)) (λ so f. iff_trans f (λ h. (a, b, h), λ p. p.2)) found

-- of the slot that is found
pub place_fit : (k : Known) (work : Work) (m : MapId) (grain : GrainNo) (p : ℕ) (entry : Entry) (r : Result Bool NoMemory) → Some p ≡ filled_in work k m.0 grain.0 →
    IfOk r (λ so. IsTrue so ↔ FillAnswers (spot_in k grain.0) m.0 p entry entry.reply) → IfOk r (λ so. IsTrue so ↔ FillIn work k m grain entry)
place_fit k work m grain p entry r is found =
    IfOk-weaker r (λ so. IsTrue so ↔ FillAnswers (spot_in k grain.0) m.0 p entry entry.reply) (λ so. IsTrue so ↔ FillIn work k m grain entry)
    (λ so f. iff_trans f (iff_along (λ (o : Option ℕ). MappingFillIn k m.0 grain.0 o entry) (Some p) (filled_in work k m.0 grain.0) is)) found

pub no_place_fit : (k : Known) (work : Work) (m : MapId) (grain : GrainNo) (entry : Entry) → None ≡ filled_in work k m.0 grain.0 → IsTrue false ↔ FillIn work k m grain entry
no_place_fit k work m grain entry is = false_is (λ a. subst (λ (o : Option ℕ). MappingFillIn k m.0 grain.0 o entry) (sym is) a)

-- ---- a turn

pub turn_fit : (k : Known) (work : Work) (i : ℕ) (m : MapId) (grain : GrainNo) (entry : Entry) (r : Result Bool NoMemory) → Some (m, grain) ≡ next_in work k i →
    IfOk r (λ so. IsTrue so ↔ FillIn work k m grain entry) → IfOk r (λ so. IsTrue so ↔ TurnIn work k i entry)
turn_fit k work i m grain entry r is found =
    IfOk-weaker r (λ so. IsTrue so ↔ FillIn work k m grain entry) (λ so. IsTrue so ↔ TurnIn work k i entry)
    (λ so f. iff_trans f (iff_along (λ (o : Option (MapId × GrainNo)). TurnAnswers (λ m grain e. FillIn work k m grain e) o entry) (Some (m, grain)) (next_in work k i) is)) found

-- ---- inside, and in a lane

pub inside_fit : (k : Known) (volume : VolId) (block count number : ℕ) (o : Option ℕ) → number ≡ grain_of_block k.grain block → 1 ≤ count → block % grain_blocks k.grain + count ≤ grain_blocks k.grain →
    MatchOption o (HasGrain k volume number → ⊥) (λ g. HasGrain k volume number × (g ≡ number)) →
    MatchOption o (IsInsideIn k volume block count → ⊥) (λ g. IsInsideIn k volume block count × (g ≡ grain_of_block k.grain block))
inside_fit k volume block count number None at some in_one found = λ i. found (subst (λ n. HasGrain k volume n) (sym at) i.has)
inside_fit k volume block count number (Some g) at some in_one found =
    (record { has = subst (λ n. HasGrain k volume n) at found.0; some = some; in_one = in_one }, found.1 ∙ at)

pub of_grain_fit : (k : Known) (number lanes : ℕ) (entry : Entry) (so : Bool) → lanes ≡ length k.faults → IsTrue so ↔ IsOfLane k (number % lanes) entry → IsTrue so ↔ IsOfGrain k number entry
of_grain_fit k number lanes entry so same f = iff_trans f (iff_along (λ n. IsOfLane k (number % n) entry) lanes (length k.faults) same)

-- two questions, the second asked where the first is answered with so
pub and_fit : (A B : Type 0) (r : Result Bool NoMemory) → A → IfOk r (λ so. IsTrue so ↔ B) → IfOk r (λ so. IsTrue so ↔ (A × B))
and_fit A B r a found = IfOk-weaker r (λ so. IsTrue so ↔ B) (λ so. IsTrue so ↔ (A × B)) (λ so f. iff_trans f (λ b. (a, b), λ p. p.1)) found

-- a volume that isn't online
pub read_away : (k : Known) (volumes : List LaneVolume) (part : ReadPart) (a : Access) (entry : Entry) (so : Bool) → volumes ≡ k.volumes → a ≡ lane_access volumes part.volume →
    IsTrue so ↔ ByAccess a entry (ReadAnswers k.grain (spot_in k (grain_of_block k.grain part.block)) part entry entry.reply) → IsTrue so ↔ ReadIn k part entry
read_away k volumes part a entry so same is f =
    access_fit a volumes k.volumes part.volume entry (ReadAnswers k.grain (spot_in k (grain_of_block k.grain part.block)) part entry entry.reply) so same is f

pub write_away : (k : Known) (volumes : List LaneVolume) (part : WritePart) (a : Access) (entry : Entry) (so : Bool) → volumes ≡ k.volumes → a ≡ lane_access volumes part.volume →
    IsTrue so ↔ ByAccess a entry (VolumeWriteIn k part (live_place k.sheet.slots part.volume.0) entry) → IsTrue so ↔ WriteIn k part entry
write_away k volumes part a entry so same is f =
    access_fit a volumes k.volumes part.volume entry (VolumeWriteIn k part (live_place k.sheet.slots part.volume.0) entry) so same is f

-- a slot of the chains as they are kept
pub at_sheet : {X : Type 0} (f : List Slot → X) (x : X) (sheet kept : Sheet) → sheet ≡ kept → x ≡ f sheet.slots → x ≡ f kept.slots
at_sheet f x sheet kept same is = is ∙ ap (λ (s : Sheet). f s.slots) same

-- ---- the questions of an access together

pub here_fit : (A B : Type 0) (here : Bool) (r : Result Bool NoMemory) → here ≡ true → IsTrue here ↔ A → IfOk r (λ so. IsTrue so ↔ B) → IfOk r (λ so. IsTrue so ↔ (A × B))
here_fit A B here r e f found = and_fit A B r (f.0 e) found

pub elsewhere_fit : {A B : Type 0} (here : Bool) → here ≡ false → IsTrue here ↔ A → IsTrue false ↔ (A × B)
elsewhere_fit here e f = false_is (λ p. both_ways here e (f.1 p.0))

-- where a premise is asked
pub here_can_fit : (A B C : Type 0) (here : Bool) (r : Result Bool NoMemory) → here ≡ true → IsTrue here ↔ A → IfOk r (λ so. C → IsTrue so ↔ B) → IfOk r (λ so. C → IsTrue so ↔ (A × B))
here_can_fit A B C here r e f found = IfOk-weaker r (λ so. C → IsTrue so ↔ B) (λ so. C → IsTrue so ↔ (A × B)) (λ so g c. iff_trans (g c) (λ b. (f.0 e, b), λ p. p.1)) found

-- inside a volume
pub read_inside : (k : Known) (part : ReadPart) (number : ℕ) (entry : Entry) (r : Result Bool NoMemory) → IsInsideIn k part.volume part.block part.count × (number ≡ grain_of_block k.grain part.block) →
    IfOk r (λ so. IsTrue so ↔ (IsOfGrain k number entry × ReadIn k part entry)) →
    IfOk r (λ so. IsTrue so ↔ (IsInsideIn k part.volume part.block part.count × IsOfGrain k (grain_of_block k.grain part.block) entry × ReadIn k part entry))
read_inside k part number entry r inside found =
    let P : ℕ → Type 0 = λ n. IsOfGrain k n entry × ReadIn k part entry in
    IfOk-weaker r (λ so. IsTrue so ↔ P number) (λ so. IsTrue so ↔ (IsInsideIn k part.volume part.block part.count × IsOfGrain k (grain_of_block k.grain part.block) entry × ReadIn k part entry))
    (λ so f. iff_trans f (iff_trans (iff_along P number (grain_of_block k.grain part.block) inside.1) (λ p. (inside.0, p.0, p.1), λ q. (q.1, q.2)))) found

pub write_inside : (k : Known) (part : WritePart) (number : ℕ) (entry : Entry) (r : Result Bool NoMemory) → IsInsideIn k part.volume part.block part.count × (number ≡ grain_of_block k.grain part.block) →
    IfOk r (λ so. CanWriteTo k part.volume.0 number → IsTrue so ↔ (IsOfGrain k number entry × WriteIn k part entry)) →
    IfOk r (λ so. CanBeWritten k → IsTrue so ↔ (IsInsideIn k part.volume part.block part.count × IsOfGrain k (grain_of_block k.grain part.block) entry × WriteIn k part entry))
write_inside k part number entry r inside found =
    let P : ℕ → Type 0 = λ n. IsOfGrain k n entry × WriteIn k part entry in
    IfOk-weaker r (λ so. CanWriteTo k part.volume.0 number → IsTrue so ↔ P number) (λ so. CanBeWritten k → IsTrue so ↔ (IsInsideIn k part.volume part.block part.count × IsOfGrain k (grain_of_block k.grain part.block) entry × WriteIn k part entry))
    (λ so f can. iff_trans (f (can part.volume number (subst (λ n. HasGrain k part.volume n) (sym inside.1) inside.0.has))) (iff_trans (iff_along P number (grain_of_block k.grain part.block) inside.1) (λ p. (inside.0, p.0, p.1), λ q. (q.1, q.2)))) found

pub outside_fit : {A B C : Type 0} → (A → ⊥) → IsTrue false ↔ (A × B × C)
outside_fit out = false_is (λ p. out p.0)

-- a turn of a lane that is there
pub turn_there : (A B C : Type 0) (here : Bool) (r : Result Bool NoMemory) → A → here ≡ true → IsTrue here ↔ B → IfOk r (λ so. IsTrue so ↔ C) → IfOk r (λ so. IsTrue so ↔ (A × B × C))
turn_there A B C here r a e f found = moved_fit A B C r a (f.0 e) found

pub turn_elsewhere : {A B C : Type 0} (here : Bool) → here ≡ false → IsTrue here ↔ B → IsTrue false ↔ (A × B × C)
turn_elsewhere here e f = false_is (λ p. both_ways here e (f.1 p.1))

pub idle_fit : (k : Known) (work : Work) (i : ℕ) (entry : Entry) (so : Bool) → None ≡ next_in work k i → IsTrue so ↔ ((entry.reply ≡ Idle) × HasDoneNothing entry) → IsTrue so ↔ TurnIn work k i entry
idle_fit k work i entry so is f = iff_trans f (iff_along (λ (o : Option (MapId × GrainNo)). TurnAnswers (λ m grain e. FillIn work k m grain e) o entry) None (next_in work k i) is)

-- ---- where an access lies

pub inside_then : (k : Known) (volume : VolId) (block count : ℕ) (size : GrainSize) (number : ℕ) (so : Bool) (o : Option ℕ) → size ≡ k.grain → so ≡ true →
    (IsTrue so ↔ ((1 ≤ count) × (block % grain_blocks size + count ≤ grain_blocks size))) → number ≡ grain_of_block size block →
    MatchOption o (HasGrain k volume number → ⊥) (λ g. HasGrain k volume number × (g ≡ number)) →
    MatchOption o (IsInsideIn k volume block count → ⊥) (λ g. IsInsideIn k volume block count × (g ≡ grain_of_block k.grain block))
inside_then k volume block count size number so o same e f at found =
    let one = subst (λ (z : GrainSize). (1 ≤ count) × (block % grain_blocks z + count ≤ grain_blocks z)) same (f.0 e) in
    inside_fit k volume block count number o (at ∙ ap (λ (z : GrainSize). grain_of_block z block) same) one.0 one.1 found

pub inside_else : (k : Known) (volume : VolId) (block count : ℕ) (size : GrainSize) (so : Bool) → size ≡ k.grain → so ≡ false →
    (IsTrue so ↔ ((1 ≤ count) × (block % grain_blocks size + count ≤ grain_blocks size))) → IsInsideIn k volume block count → ⊥
inside_else k volume block count size so same e f i =
    both_ways so e (f.1 (i.some, subst (λ (z : GrainSize). block % grain_blocks z + count ≤ grain_blocks z) (sym same) i.in_one))

-- ---- a reply of a fill

pub reply_fit : (k : Known) (number m p : ℕ) (entry : Entry) (a b : Reply) (r : Result Bool NoMemory) → b ≡ a → IfOk r (λ so. IsTrue so ↔ FillAnswers (spot_in k number) m p entry a) → IfOk r (λ so. IsTrue so ↔ FillAnswers (spot_in k number) m p entry b)
reply_fit k number m p entry a b r is found =
    IfOk-weaker r (λ so. IsTrue so ↔ FillAnswers (spot_in k number) m p entry a) (λ so. IsTrue so ↔ FillAnswers (spot_in k number) m p entry b)
    (λ so f. iff_trans f (iff_along (λ (z : Reply). FillAnswers (spot_in k number) m p entry z) a b (sym is))) found
