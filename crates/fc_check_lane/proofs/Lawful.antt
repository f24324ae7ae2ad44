-- What may come next by what is kept is a right step.
use Rattle.std.proofs.Common.{◌≡◌, ◌↔◌, ℕ, ◌<◌, Bool, IsTrue, Option, Some, None, Result, IfOk, refl, sym, subst}
use Rattle.std.proofs.lemmas.Result.{IfOk-weaker}
use Rattle.fc_base.specs.declared.ids.GrainNo.{GrainNo}
use Rattle.fc_base.specs.declared.ids.MapId.{MapId}
use Rattle.fc_base.specs.declared.outcome.NoMemory.{NoMemory}
use Rattle.fc_base.specs.declared.request.Request.{Request}
use Rattle.fc_base.specs.declared.request.Request.TheVariants.{Command, Unread, Read, Write, Copy, Clean, CopyTurn, CleanTurn}
use Rattle.fc_base.specs.declared.size.GrainSize.{GrainSize}
use Rattle.fc_books.specs.Sound.{AreSound}
use Rattle.fc_entry.specs.Picture.{grain_of_block}
use Rattle.fc_entry.specs.declared.entry.Entry.{Entry}
use Rattle.fc_legal.specs.Steps.{RequestStep, LaneStep, AccessStep, TurnStep, after_access}
use Rattle.fc_legal.specs.Whole.{Whole, lanes, lane_of_grain, lane_at, part_at, single_lane, as_one}
use Rattle.fc_rules.specs.LaneRight.{LaneAnswers, CopyAnswers, CleanAnswers, TurnAnswers}
use Rattle.fc_rules.specs.LaneTurn.{next_copy, next_clean}
use Rattle.fc_check_lane.specs.Known.{Known, known_of}
use Rattle.fc_check_lane.specs.Answers.{IsOfLane, IsOfGrain, ReadIn, WriteIn, FillIn, TurnIn, RequestIn, IsNextIn, CanBeWritten}
use Rattle.fc_check_lane.specs.Next.{IsOfLanes, IsNext}
use Rattle.fc_check_lane.specs.declared.turn.Work.TheVariants.{Copying, Cleaning}
use Rattle.fc_check_lane.proofs.Within.{inside_same, can_be_written}
use Rattle.fc_check_lane.proofs.Spots.{read_same, write_same, copy_same, clean_same}
use Rattle.fc_check_lane.proofs.Turning.{next_copy_is, next_clean_is}
use Rattle.fc_check_lane.proofs.Verdicts.{iff_along, iff_sym, iff_trans}

-- a right step, whatever is told after it
abbrev Steps : GrainSize → Whole → Request → Entry → Type 0
Steps grain w request entry = (next : Whole) × RequestStep grain w request entry next

-- an entry of a lane leads on to what is told after it
lane_steps : (grain : GrainSize) (w : Whole) (i : ℕ) (Answers : Entry → Type 0) (entry : Entry) (A : Type 0) → A ↔ Answers entry →
    (IsOfLane (known_of grain w) i entry × A) ↔ ((next : Whole) × LaneStep grain w i Answers entry next)
lane_steps grain w i Answers entry A f = (
  λ p. (after_access grain w i entry, record { place = p.0.place; faults_before = p.0.faults_before; faults_kept = p.0.faults_kept; no_effects = p.0.no_effects; answers = f.0 p.1; next_is = refl }),
  λ q. (record { place = q.1.place; faults_before = q.1.faults_before; faults_kept = q.1.faults_kept; no_effects = q.1.no_effects }, f.1 q.1.answers),
)

-- an access, at its grain
access_steps : (grain : GrainSize) (w : Whole) (number : ℕ) (request : Request) (entry : Entry) (A : Type 0) → entry.request ≡ request →
    A ↔ LaneAnswers (single_lane grain) (as_one w) request entry →
    (IsOfGrain (known_of grain w) number entry × A) ↔ ((next : Whole) × AccessStep grain w number entry next)
access_steps grain w number request entry A q f =
    lane_steps grain w (lane_of_grain w number) (λ (e : Entry). LaneAnswers (single_lane grain) (as_one w) e.request e) entry A
    (iff_trans f (iff_along (λ (r : Request). LaneAnswers (single_lane grain) (as_one w) r entry) request entry.request (sym q)))

-- inside its volume
inside_steps : {A B C D : Type 0} (S : Whole → Type 0) → A ↔ D → (B × C) ↔ ((next : Whole) × S next) → (A × B × C) ↔ ((next : Whole) × (D × S next))
inside_steps S f g = (
  λ p. (let r = g.0 (p.1, p.2) in (r.0, (f.0 p.0, r.1))),
  λ q. (let r = g.1 (q.0, q.1.1) in (f.1 q.1.0, r.0, r.1)),
)

-- a turn
turn_same : (Small Big : MapId → GrainNo → Entry → Type 0) (o o' : Option (MapId × GrainNo)) (entry : Entry) → o ≡ o' → ((m : MapId) (g : GrainNo) → Small m g entry ↔ Big m g entry) →
    TurnAnswers Big o' entry ↔ TurnAnswers Small o entry
turn_same Small Big o o' entry e f = iff_trans (by o') (iff_along (λ (z : Option (MapId × GrainNo)). TurnAnswers Small z entry) o' o (sym e))
  where
    by : (z : Option (MapId × GrainNo)) → TurnAnswers Big z entry ↔ TurnAnswers Small z entry
    by None = (λ a. a, λ a. a)
    by (Some work) = ((f work.0 work.1).1, (f work.0 work.1).0)

turn_steps : (grain : GrainSize) (w : Whole) (i : ℕ) (Answers : MapId → GrainNo → Entry → Type 0) (work : Option (MapId × GrainNo)) (entry : Entry) (A : Type 0) →
    (i < lanes w → A ↔ TurnAnswers Answers work entry) →
    ((i < lanes w) × IsOfLane (known_of grain w) i entry × A) ↔ ((next : Whole) × TurnStep grain w i Answers work entry next)
turn_steps grain w i Answers work entry A f = (
  λ p. (let r = (lane_steps grain w i (TurnAnswers Answers work) entry A (f p.0)).0 (p.1, p.2) in (r.0, record { within = p.0; step = r.1 })),
  λ q. (let r = (lane_steps grain w i (TurnAnswers Answers work) entry A (f q.1.within)).1 (q.0, q.1.step) in (q.1.within, r.0, r.1)),
)

-- ---- by the request

with_lanes : {A B : Type 0} → A ↔ B → A ↔ (Unit {0} × B)
with_lanes f = (λ a. (tt, f.0 a), λ p. f.1 p.1)

request_steps : (grain : GrainSize) (w : Whole) (request : Request) (entry : Entry) → entry.request ≡ request →
    RequestIn (known_of grain w) request entry ↔ (IsOfLanes request × Steps grain w request entry)
request_steps grain w (Command command) entry q = (λ a. absurd a, λ a. absurd a.0)
request_steps grain w (Unread fault) entry q = (λ a. absurd a, λ a. absurd a.0)
request_steps grain w (Read part) entry q =
    with_lanes (inside_steps (λ next. AccessStep grain w (grain_of_block grain part.block) entry next) (inside_same grain w part.volume part.block part.count)
    (access_steps grain w (grain_of_block grain part.block) (Read part) entry (ReadIn (known_of grain w) part entry) q (iff_sym (read_same (known_of grain w) part entry))))
request_steps grain w (Write part) entry q =
    with_lanes (inside_steps (λ next. AccessStep grain w (grain_of_block grain part.block) entry next) (inside_same grain w part.volume part.block part.count)
    (access_steps grain w (grain_of_block grain part.block) (Write part) entry (WriteIn (known_of grain w) part entry) q (iff_sym (write_same (known_of grain w) part entry))))
request_steps grain w (Copy m g) entry q =
    with_lanes (access_steps grain w g.0 (Copy m g) entry (FillIn Copying (known_of grain w) m g entry) q (iff_sym (copy_same (known_of grain w) m g entry)))
request_steps grain w (Clean m g) entry q =
    with_lanes (access_steps grain w g.0 (Clean m g) entry (FillIn Cleaning (known_of grain w) m g entry) q (iff_sym (clean_same (known_of grain w) m g entry)))
request_steps grain w (CopyTurn lane) entry q =
    with_lanes (turn_steps grain w lane (CopyAnswers (single_lane grain) (as_one w)) (next_copy (lane_at grain w lane) (part_at grain w lane)) entry (TurnIn Copying (known_of grain w) lane entry)
    (λ il. turn_same (CopyAnswers (single_lane grain) (as_one w)) (λ m g e. FillIn Copying (known_of grain w) m g e) _ _ entry (next_copy_is grain w lane il) (λ m g. copy_same (known_of grain w) m g entry)))
request_steps grain w (CleanTurn lane) entry q =
    with_lanes (turn_steps grain w lane (CleanAnswers (single_lane grain) (as_one w)) (next_clean (lane_at grain w lane) (part_at grain w lane)) entry (TurnIn Cleaning (known_of grain w) lane entry)
    (λ il. turn_same (CleanAnswers (single_lane grain) (as_one w)) (λ m g e. FillIn Cleaning (known_of grain w) m g e) _ _ entry (next_clean_is grain w lane il) (λ m g. clean_same (known_of grain w) m g entry)))

next_steps : (grain : GrainSize) (w : Whole) (entry : Entry) → IsNextIn (known_of grain w) entry ↔ IsNext grain w entry
next_steps grain w entry =
    let f = request_steps grain w entry.request entry refl in (
      λ n. (let r = f.0 n.right in record { of_lanes = r.0; next = r.1.0; step = record { number = n.number; right = r.1.1 } }),
      λ n. record { number = n.step.number; right = f.1 (n.of_lanes, (n.next, n.step.right)) },
    )

-- ---- and so it is answered

pub next_law : (k : Known) (entry : Entry) (so : Bool) → (CanBeWritten k → IsTrue so ↔ IsNextIn k entry) →
    (grain : GrainSize) (w : Whole) → AreSound w.books → k ≡ known_of grain w → IsTrue so ↔ IsNext grain w entry
next_law k entry so found grain w sound is =
    iff_trans (subst (λ (z : Known). CanBeWritten z → IsTrue so ↔ IsNextIn z entry) is found (can_be_written grain w sound)) (next_steps grain w entry)

pub next_all : (k : Known) (entry : Entry) (r : Result Bool NoMemory) → IfOk r (λ so. CanBeWritten k → IsTrue so ↔ IsNextIn k entry) →
    IfOk r (λ so. (grain : GrainSize) (w : Whole) → AreSound w.books → k ≡ known_of grain w → IsTrue so ↔ IsNext grain w entry)
next_all k entry r found =
    IfOk-weaker r (λ so. CanBeWritten k → IsTrue so ↔ IsNextIn k entry) (λ so. (grain : GrainSize) (w : Whole) → AreSound w.books → k ≡ known_of grain w → IsTrue so ↔ IsNext grain w entry)
    (λ so f. next_law k entry so f) found
