-- A call of the program is complete, by how it ends and by the of completeness.
use Rattle.std.proofs.Common.{◌≡◌, ◌≢◌, ◌⊎◌, ℕ, ◌+◌, ◌≤◌, List, [], ◌∷◌, length, refl, sym, subst, arith, ◌∙◌, inl, inr}
use Rattle.std.specs.List.{All, sum}
use Rattle.std.proofs.lemmas.List.{length-map, length-replicate}
use Rattle.std.proofs.lemmas.List.Elements.{All-cons, All-head, All-nil, All-tail}
use Rattle.std.proofs.lemmas.List.FromFn.{length-map-range_with_len}
use Rattle.std.proofs.lemmas.List.Sums.{sum_by-cons}
use Rattle.fc_base.specs.Pools.{Pool}
use Rattle.fc_base.specs.declared.limits.TheConstants.{LANES}
use Rattle.fc_base.specs.declared.request.Request.{Request}
use Rattle.fc_base.specs.declared.request.Request.TheVariants.{Command as Asked, Unread, Read, Write, Copy, Clean, CopyTurn, CleanTurn}
use Rattle.fc_base.specs.declared.size.GrainSize.{GrainSize}
use Rattle.fc_call.specs.Call.{Call, session_of, status_of}
use Rattle.fc_call.specs.declared.status.Status.{Status}
use Rattle.fc_call.specs.declared.status.Status.TheVariants as status
use Rattle.fc_complete.proofs.Complete.{completion_law_holds}
use Rattle.fc_complete.specs.Served.{AreFaultless, IsServed}
use Rattle.fc_entry.specs.declared.entry.Entry.{Entry}
use Rattle.fc_grains.specs.Grains.{pool_of}
use Rattle.fc_io.specs.Source.{SourceState}
use Rattle.fc_legal.specs.Legal.{IsLegal}
use Rattle.fc_legal.specs.Steps.{Step}
use Rattle.fc_legal.specs.Whole.{Whole, lanes, opened}
use Rattle.fc_mdisk.specs.Disk.{DiskState}
use Rattle.fc_run.specs.Headline.{EndsAs}
use Rattle.fc_run.specs.Runs.{Runs}
use Rattle.fc_run.specs.declared.ended.Ended.{Ended}
use Rattle.fc_run.specs.declared.ended.Ended.TheVariants as ended
use Rattle.fc_run.specs.declared.form.Form.{Form}
use Rattle.fc_lanes.specs.Dealing.{all_dealt, dealt, pools_dealt}
use Rattle.fc_top.specs.Complete.{AnswersOnline, Completes, IsAnswered, NoDiskFailed, NoneFailed}
use Rattle.fc_owner.specs.FirstTold.{first_told}
use Rattle.fc_top.specs.DisksBack.{DisksAfter}
use Rattle.law_together.proofs.Kept.{IsLegal-keeps}

-- ---- accesses are answered

answers-online :
    (grain : GrainSize) (w : Whole) (request : Request) (entry : Entry) (next : Whole) →
    entry.request ≡ request →
    Step grain w entry next →
    IsServed entry →
    AnswersOnline grain w request entry
answers-online grain w (Read part) entry next is step served = λ online. completion_law_holds.reads grain w part entry next step is online served
answers-online grain w (Write part) entry next is step served = λ online. completion_law_holds.writes grain w part entry next step is online served
answers-online grain w (Asked command) entry next is step served = tt
answers-online grain w (Unread fault) entry next is step served = tt
answers-online grain w (Copy m g) entry next is step served = tt
answers-online grain w (Clean m g) entry next is step served = tt
answers-online grain w (CopyTurn lane) entry next is step served = tt
answers-online grain w (CleanTurn lane) entry next is step served = tt

all-answered :
    (grain : GrainSize) (w last : Whole) (entries : List Entry) →
    IsLegal grain w entries last →
    All IsServed entries →
    IsAnswered grain w entries last
all-answered grain w last [] legal served = legal
all-answered grain w last (entry ∷ entries) legal served = (
  legal.0,
  legal.1,
  answers-online grain legal.1.before entry.request entry legal.0 refl legal.1.step (All-head IsServed entry entries served),
  all-answered grain legal.0 last entries legal.2 (All-tail IsServed entry entries served),
)

-- ---- no disk failed

abbrev IsNone : ℕ → Type 0
IsNone n = n ≡ 0

-- numbers without a sum
none_of_sum : (ns : List ℕ) → sum ns ≡ 0 → All IsNone ns
none_of_sum [] none = All-nil IsNone
none_of_sum (n ∷ ns) none =
    let cut : sum (n ∷ ns) ≡ n + sum ns = sum_by-cons (λ x. x) n ns in
    All-cons IsNone n ns (omega (arith, cut, none)) (none_of_sum ns (omega (arith, cut, none)))

-- the lanes told none
told_none :
    (ended : Status) (old new : List DiskState) (entries : List Entry) (last : Whole) →
    DisksAfter ended old new entries last →
    NoDiskFailed ended new last →
    All IsNone last.faults
told_none status.NoMemory old new entries last after none = none
told_none status.Done old new entries last after none = none_of_sum last.faults (omega (arith, after.counted, none))
told_none status.Usage old new entries last after none = none_of_sum last.faults (omega (arith, after.counted, none))
told_none status.ReadFault old new entries last after none = none_of_sum last.faults (omega (arith, after.counted, none))
told_none status.WriteFault old new entries last after none = none_of_sum last.faults (omega (arith, after.counted, none))
told_none status.LogFull old new entries last after none = none_of_sum last.faults (omega (arith, after.counted, none))
told_none status.TooLong old new entries last after none = none_of_sum last.faults (omega (arith, after.counted, none))
told_none status.Unended old new entries last after none = none_of_sum last.faults (omega (arith, after.counted, none))
told_none status.Refuted old new entries last after none = none_of_sum last.faults (omega (arith, after.counted, none))

-- some disks' pools, and as many lanes
dealt-some : (disks : List DiskState) → length (pools_dealt LANES disks) ≡ LANES
dealt-some disks = length-map (all_dealt LANES disks) pool_of ∙ length-map-range_with_len (dealt LANES disks) 0 LANES

opened-lanes : (pools : List Pool) → lanes (opened pools) ≡ length pools
opened-lanes pools = length-replicate (length pools) 0

-- there are lanes at the end
faultless :
    (grain : GrainSize) (disks : List DiskState) (entries : List Entry) (last : Whole) →
    IsLegal grain (first_told disks) entries last →
    All IsNone last.faults →
    AreFaultless last
faultless grain disks entries last legal none =
    record {
      some =
          omega (arith, (IsLegal-keeps grain (first_told disks) last entries legal).lanes_are, opened-lanes (pools_dealt LANES disks), dealt-some disks);
      none = none;
    }

-- ---- it is done

-- but for faults, a full history, too long an input and a block that the input doesn't end
done-by :
    (e : Ended) (form : Form) (source source' : SourceState) (call : Call) (runs : Runs) (bytes : List ℕ) →
    EndsAs e (session_of e form source source' call) runs bytes →
    NoneFailed source.faults source'.faults →
    NoneFailed call.sink.faults call.sink'.faults →
    status_of e ≢ status.LogFull →
    status_of e ≢ status.TooLong →
    status_of e ≢ status.Unended →
    (status_of e ≡ status.Done) ⊎ (status_of e ≡ status.NoMemory)
done-by ended.Done form source source' call runs bytes ends readable writable room short whole = inl refl
done-by ended.Unended form source source' call runs bytes ends readable writable room short whole = absurd (whole refl)
done-by ended.ReadFault form source source' call runs bytes ends readable writable room short whole = absurd (readable ends.0)
done-by ended.TooLong form source source' call runs bytes ends readable writable room short whole = absurd (short refl)
done-by ended.LogFull form source source' call runs bytes ends readable writable room short whole = absurd (room refl)
done-by ended.WriteFault form source source' call runs bytes ends readable writable room short whole = absurd (writable ends.0)
done-by ended.NoMemory form source source' call runs bytes ends readable writable room short whole = inr refl

-- ---- both

pub completes :
    (e : Ended) (form : Form) (grain : GrainSize) (source source' : SourceState) (call : Call) (runs : Runs) (bytes : List ℕ) (last : Whole) →
    call.status ≡ status_of e →
    EndsAs e (session_of e form source source' call) runs bytes →
    IsLegal grain (first_told call.disks) call.history.entries last →
    length call.history.entries ≤ 262144 →
    DisksAfter call.status call.disks call.disks' call.history.entries last →
    Completes grain source source' call last
completes e form grain source source' call runs bytes last is ends legal few after =
    let Done : Status → Type 0 = λ s. s ≢ status.LogFull → s ≢ status.TooLong → s ≢ status.Unended → (s ≡ status.Done) ⊎ (s ≡ status.NoMemory) in
    record {
      done = λ readable writable. subst Done (sym is) (done-by e form source source' call runs bytes ends readable writable);
      served = λ none.
          let quiet : AreFaultless last =
          faultless grain call.disks call.history.entries last legal
          (told_none call.status call.disks call.disks' call.history.entries last after none) in
          let served = completion_law_holds.sessions grain (pools_dealt LANES call.disks) call.history.entries last (omega (arith, few)) legal quiet in
          record { served = served; answered = all-answered grain (first_told call.disks) last call.history.entries legal served.each };
    }
