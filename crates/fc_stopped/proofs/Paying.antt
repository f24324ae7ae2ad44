-- What a history cost of the calls of metadata's disk, while it hadn't failed, and why it came to a stop.
use Rattle.std.proofs.Common.{◌≡◌, ℕ, ◌+◌, ◌-◌, ◌^◌, ◌<◌, ◌≤◌, List, Some, refl, sym, ap, subst, ◌∙◌, arith, Ok, Err}
use Rattle.fc_base.specs.Count.{HasRisen}
use Rattle.fc_base.specs.declared.size.GrainSize.{GrainSize}
use Rattle.fc_base.specs.declared.size.GrainSize.TheVariants.{K64}
use Rattle.fc_entry.specs.declared.entry.Entry.{Entry}
use Rattle.fc_legal.specs.Agenda.{Agenda}
use Rattle.fc_legal.specs.Whole.{Whole}
use Rattle.fc_marks.specs.Meter.{FitsUpTo, Meter}
use Rattle.fc_marks.specs.declared.error.NotedStop.{NotedStop}
use Rattle.fc_marks.specs.declared.error.NotedStop.TheVariants.{LogFull, MetaFailed, MetaFull, NoMemory}
use Rattle.fc_meta.specs.Answers.{more_calls}
use Rattle.fc_meta.specs.States.{disk_of, room_of}
use Rattle.fc_noted.specs.Making.{KeepsCount}
use Rattle.fc_noted.specs.Metered.{GoesInto, Metered}
use Rattle.fc_noted.specs.Noted.{Counts}
use Rattle.fc_noted.specs.Stopping.{LeftAt, OfMetadata, Paid}
use Rattle.fc_noted.specs.declared.noted.Noted.{Noted}
use Rattle.fc_stopped.proofs.Counting.{more_are, more_then, risen_some}
use Rattle.fc_stopped.specs.Calls.{CallsLeft, ComesTo, CostLess, GoesTo, PassesBefore}
use Rattle.fc_stopped.specs.Lines.{HasCounted, StopStart}

-- Where the disk's own count stood before the first call.
abbrev base : StopStart → ℕ
base s = 2 ^ 64 - 1 - s.number

module _ {C D : Type 0} (seen : D → List ℕ) (may_leave : D → List ℕ → Type 0) (fault_count calls : D → ℕ) (s : StopStart) where
  -- ---- while it hadn't failed

  pub counted_on : {T : Type 0} (a : T) (old new : Noted C D) → HasCounted seen may_leave fault_count calls old s → KeepsCount {T = T} seen fault_count calls (Ok a) old new → HasCounted seen may_leave fault_count calls new s
  counted_on a old new c k =
      record {
        few = c.few;
        made = k.counted + c.made;
        count = k.count ∙ ap (more_calls k.counted) c.count ∙ more_then k.counted c.made 0 (omega arith);
        called = k.called ∙ ap (λ (n : ℕ). more_calls n (calls (disk_of old.meta))) k.whole.0 ∙ ap (more_calls k.counted) c.called ∙ more_then k.counted c.made (base s) (omega arith);
        quiet = k.whole.1 ∙ c.quiet;
        size = k.size ∙ c.size;
        before = c.before;
        at = c.at;
      }

  made_less : (n : Noted C D) (c : HasCounted seen may_leave fault_count calls n s) → c.made < s.number
  made_less n c = omega (arith, c.few, c.called, more_are c.made (base s) (omega arith), c.before (disk_of n.meta) c.quiet)

  -- Between two entries all that was counted is the history's.
  pub cost_less : (n : Noted C D) (entries : List Entry) (w : Whole) → n.store.control.grain ≡ K64 → HasCounted seen may_leave fault_count calls n s → Counts seen may_leave n entries w → CostLess s.number s.half entries w
  cost_less n entries w grain c counts = (
    counts.meter,
    subst (λ (half : ℕ). Metered K64 half entries w counts.meter) c.size (subst (λ (g : GrainSize). Metered g (room_of seen n.meta) entries w counts.meter) grain counts.metered),
    omega (arith, c.few, made_less n c, c.count, more_are c.made 0 (omega arith), counts.calls, more_are counts.meter.calls 0 (omega arith)),
    counts.is.fits,
  )

  -- ---- where it stopped

  module _ (old new : Noted C D) (next : Whole) (left : Agenda) (entries : List Entry) (meter : Meter) (c : HasCounted seen may_leave fault_count calls old s) (paid : Paid seen fault_count calls K64 old new next entries meter)
      {T : Type 0} (stop : NotedStop) (k : KeepsCount {T = T} seen fault_count calls (Err stop) old new) where
    size : room_of seen new.meta ≡ s.half
    size = k.size ∙ c.size

    metered : Metered K64 s.half entries next meter
    metered = subst (λ (half : ℕ). Metered K64 half entries next meter) size paid.metered

    -- more calls of the disk, and of the count
    of_disk : (n made : ℕ) → n ≡ more_calls made (calls (disk_of old.meta)) → n ≡ more_calls (made + c.made) (base s)
    of_disk n made called = called ∙ ap (more_calls made) c.called ∙ more_then made c.made (base s) (omega arith)

    in_count : (made : ℕ) → more_calls made old.calls ≡ more_calls (made + c.made) 0
    in_count made = ap (more_calls made) c.count ∙ more_then made c.made 0 (omega arith)

    -- they are too few for the stop while the disk hasn't failed, and enough where it has
    quiet_less : (disk : D) (made : ℕ) → calls disk ≡ more_calls made (calls (disk_of old.meta)) → fault_count disk ≡ fault_count (disk_of old.meta) → made + c.made < s.number
    quiet_less disk made called quiet =
        omega (arith, c.few, c.before disk (quiet ∙ c.quiet), of_disk (calls disk) made called, more_are (made + c.made) (base s) (omega arith))

    risen_reached : (made : ℕ) → calls (disk_of new.meta) ≡ more_calls made (calls (disk_of old.meta)) → HasRisen (fault_count (disk_of old.meta)) (fault_count (disk_of new.meta)) → s.number ≤ made + c.made
    risen_reached made called rose =
        let last : calls (disk_of new.meta) ≡ 2 ^ 64 - 1 = c.at (disk_of new.meta) (risen_some (fault_count (disk_of old.meta)) (fault_count (disk_of new.meta)) rose) in
        omega (arith, c.few, last, of_disk (calls (disk_of new.meta)) made called, more_are (made + c.made) (base s) (omega arith))

    -- before the disk failed
    paid_less : meter.calls < s.number
    paid_less =
        omega (
          arith,
          c.few,
          quiet_less paid.disk paid.unfailed paid.called paid.quiet,
          in_count paid.unfailed,
          more_are (paid.unfailed + c.made) 0 (omega arith),
          more_are meter.calls 0 (omega arith),
          paid.before,
        )

    module _ (l : LeftAt seen calls K64 stop old new next left meter) where
      in_all : more_calls (l.stops.made + c.made) 0 ≡ more_calls l.stops.all 0
      in_all = sym (in_count l.stops.made) ∙ l.stops.in_all

      goes_to : (Holds : Meter → Type 0) → Holds l.into → GoesTo s.number s.half entries next left Holds
      goes_to Holds holds =
          record {
            costs = (meter, metered, paid_less, paid.fits);
            request = l.request;
            asked = l.asked;
            into = l.into;
            goes = subst (λ (half : ℕ). GoesInto K64 half next meter l.request l.into) size l.goes;
            holds = holds;
          }

      -- it failed with the calls of the request that is asked next, and nothing passed the half before
      left_failed : HasRisen (fault_count (disk_of old.meta)) (fault_count (disk_of new.meta)) → FitsUpTo l.stops.all l.into → GoesTo s.number s.half entries next left (ComesTo s.number)
      left_failed rose fits =
          let all : s.number ≤ l.stops.all =
          omega (
            arith,
            c.few,
            risen_reached l.stops.made l.stops.called rose,
            in_all,
            more_are (l.stops.made + c.made) 0 (omega arith),
            more_are l.stops.all 0 (omega arith),
          ) in
          let counted : new.calls ≡ more_calls (k.counted + c.made) 0 = k.count ∙ in_count k.counted in
          let reached : s.number ≤ l.into.calls =
          omega (
            arith,
            c.few,
            risen_reached k.made k.called rose,
            k.within,
            counted,
            more_are (k.counted + c.made) 0 (omega arith),
            l.stops.counted,
            more_are l.into.calls 0 (omega arith),
          ) in
          goes_to (ComesTo s.number) (reached, λ at full. omega (arith, all, fits at full))

      -- it didn't fail, and something passed the half
      left_full : fault_count (disk_of new.meta) ≡ fault_count (disk_of old.meta) → l.into.full ≡ Some l.stops.all → GoesTo s.number s.half entries next left (PassesBefore s.number)
      left_full quiet full =
          goes_to (PassesBefore s.number) (
            l.stops.all,
            full,
            omega (
              arith,
              c.few,
              quiet_less (disk_of new.meta) l.stops.made l.stops.called quiet,
              in_all,
              more_are (l.stops.made + c.made) 0 (omega arith),
              more_are l.stops.all 0 (omega arith),
            ),
          )

  pub calls_left : (old new : Noted C D) (next : Whole) (left : Agenda) (entries : List Entry) (meter : Meter) → HasCounted seen may_leave fault_count calls old s → Paid seen fault_count calls K64 old new next entries meter →
      {T : Type 0} (stop : NotedStop) → KeepsCount {T = T} seen fault_count calls (Err stop) old new → OfMetadata stop (LeftAt seen calls K64 stop old new next left meter) → CallsLeft s.number s.half (Some stop) entries next left
  calls_left old new next left entries meter c paid MetaFailed k l = left_failed old new next left entries meter c paid MetaFailed k l (k.failed refl) l.stops.cause
  calls_left old new next left entries meter c paid MetaFull k l = left_full old new next left entries meter c paid MetaFull k l (k.unfailed refl) l.stops.cause
  calls_left old new next left entries meter c paid LogFull k l = tt
  calls_left old new next left entries meter c paid NoMemory k l = tt
