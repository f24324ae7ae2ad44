-- Online volumes, and all together.
use Rattle.std.proofs.Common.{◌≡◌, ◌⊎◌, inl, inr, ℕ, ◌*◌, ◌^◌, ◌<◌, ◌≤◌, Option, List, length, subst, arith}
use Rattle.std.proofs.lemmas.List.Elements.{All-nil}
use Rattle.fc_base.specs.Grain.{block_bytes}
use Rattle.fc_base.specs.Pools.{Pool}
use Rattle.fc_base.specs.Sheet.{live_place}
use Rattle.fc_base.specs.declared.request.ReadPart.{ReadPart}
use Rattle.fc_base.specs.declared.request.Reply.TheVariants.{Done, NoMemory}
use Rattle.fc_base.specs.declared.request.Request.{Request}
use Rattle.fc_base.specs.declared.request.Request.TheVariants.{Read, Write}
use Rattle.fc_base.specs.declared.request.WritePart.{WritePart}
use Rattle.fc_base.specs.declared.size.GrainSize.{GrainSize}
use Rattle.fc_base.specs.declared.state.Access.{Access}
use Rattle.fc_base.specs.declared.state.Access.TheVariants.{Online}
use Rattle.fc_complete.proofs.Answers.{AreBytes, read_gives, write_does, answers_of}
use Rattle.fc_complete.proofs.Histories.{history_faultless, history_served}
use Rattle.fc_complete.specs.Law.{AreServed, IsOnline, GivesBytes, CompletionLaw}
use Rattle.fc_complete.specs.Served.{AreFaultless, IsUnharmedVolume, IsServed}
use Rattle.fc_decided.proofs.Opening.{lanes_told, opening_stands}
use Rattle.fc_entry.specs.Picture.{volume_in, now_at, grain_of_block, byte_in_grain}
use Rattle.fc_entry.specs.Reads.{IsRightIn}
use Rattle.fc_entry.specs.declared.entry.Entry.{Entry}
use Rattle.fc_legal.specs.Legal.{IsLegal}
use Rattle.fc_legal.specs.Steps.{Step, RequestStep, AccessStep}
use Rattle.fc_legal.specs.Whole.{Whole, opened, single_lane, as_one}
use Rattle.fc_parts.proofs.Numbers.{all_place}
use Rattle.fc_rules.specs.GrainAnswers.{ByAccess, ReadAnswers}
use Rattle.fc_rules.specs.LaneRight.{LaneAnswers, VolumeWrite}
use Rattle.fc_rules.specs.LaneTold.{lane_access}
use Rattle.fc_rules.specs.LaneTurn.{spot_at}
use Rattle.fc_rules.specs.Spot.{Spot}

-- ---- volumes that are online

of_online : (entry : Entry) (access : Access) (P : Type 0) → access ≡ Online → ByAccess access entry P → P
of_online entry access P online h =
    let Q : Access → Type 0 = λ a. ByAccess a entry P in
    subst Q online h

right_of : (grain : GrainSize) (w : Whole) (entry : Entry) (next : Whole) (request : Request) → entry.request ≡ request → RequestStep grain w entry.request entry next → RequestStep grain w request entry next
right_of grain w entry next request asked h =
    let P : Request → Type 0 = λ r. RequestStep grain w r entry next in
    subst P asked h

-- The bytes are those of the plain volume.
gives_bytes :
    (grain : GrainSize) (w : Whole) (part : ReadPart) (entry : Entry) →
    AreBytes grain (spot_at (single_lane grain) (as_one w) (grain_of_block grain part.block)) part entry.reply →
    GivesBytes grain w part entry
gives_bytes grain w part entry h =
    let P : ℕ → Type 0 = λ g. IsRightIn (byte_in_grain grain part.block) (block_bytes * part.count) (now_at (volume_in w.picture part.volume) g) h.runs in
    record { runs = h.runs; reply = h.reply; right = subst P (all_place grain (grain_of_block grain part.block)) h.right }

bytes_or_memory :
    (grain : GrainSize) (w : Whole) (part : ReadPart) (entry : Entry) →
    AreBytes grain (spot_at (single_lane grain) (as_one w) (grain_of_block grain part.block)) part entry.reply ⊎ (entry.reply ≡ NoMemory) →
    GivesBytes grain w part entry ⊎ (entry.reply ≡ NoMemory)
bytes_or_memory grain w part entry (inl h) = inl (gives_bytes grain w part entry h)
bytes_or_memory grain w part entry (inr none) = inr none

reads_online :
    (grain : GrainSize) (w : Whole) (part : ReadPart) (entry : Entry) (next : Whole) →
    Step grain w entry next →
    entry.request ≡ Read part →
    IsOnline w part.volume →
    IsServed entry →
    GivesBytes grain w part entry ⊎ (entry.reply ≡ NoMemory)
reads_online grain w part entry next step asked online served =
    let spot : Spot = spot_at (single_lane grain) (as_one w) (grain_of_block grain part.block) in
    let access : AccessStep grain w (grain_of_block grain part.block) entry next = (right_of grain w entry next (Read part) asked step.right).1 in
    let answers : LaneAnswers (single_lane grain) (as_one w) (Read part) entry = answers_of (single_lane grain) (as_one w) entry (Read part) asked access.answers in
    let gives : ReadAnswers grain spot part entry entry.reply =
    of_online entry (lane_access (as_one w).volumes part.volume) (ReadAnswers grain spot part entry entry.reply) online answers in
    bytes_or_memory grain w part entry (read_gives grain spot part entry entry.reply gives served.answered)

writes_online :
    (grain : GrainSize) (w : Whole) (part : WritePart) (entry : Entry) (next : Whole) →
    Step grain w entry next →
    entry.request ≡ Write part →
    IsOnline w part.volume →
    IsServed entry →
    (entry.reply ≡ Done) ⊎ (entry.reply ≡ NoMemory)
writes_online grain w part entry next step asked online served =
    let live : Option ℕ = live_place w.books.sheet.slots part.volume.0 in
    let access : AccessStep grain w (grain_of_block grain part.block) entry next = (right_of grain w entry next (Write part) asked step.right).1 in
    let answers : LaneAnswers (single_lane grain) (as_one w) (Write part) entry = answers_of (single_lane grain) (as_one w) entry (Write part) asked access.answers in
    let does : VolumeWrite (single_lane grain) (as_one w) part live entry =
    of_online entry (lane_access (as_one w).volumes part.volume) (VolumeWrite (single_lane grain) (as_one w) part live entry) online answers in
    write_does (single_lane grain) (as_one w) part live entry does served.answered

-- ---- the law

-- Entries that follow the opening.
from_the_opening :
    (grain : GrainSize) (pools : List Pool) (entries : List Entry) (last : Whole) →
    length entries ≤ 2 ^ 31 →
    IsLegal grain (opened pools) entries last →
    AreFaultless last →
    AreServed entries last
from_the_opening grain pools entries last few h faultless =
    let first : AreFaultless (opened pools) = history_faultless grain (opened pools) last entries h faultless in
    let some : 0 < length pools = omega (arith, first.some, lanes_told pools) in
    history_served grain 0 (opened pools) last entries (opening_stands pools some) (omega (arith, few)) h faultless (All-nil IsUnharmedVolume)

pub completion_law_holds : CompletionLaw
completion_law_holds = record { sessions = from_the_opening; served = history_served; reads = reads_online; writes = writes_online }
