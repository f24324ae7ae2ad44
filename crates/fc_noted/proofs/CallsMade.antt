-- What the count of calls says of a noted store whose metadata stays, or is made anew.
use Rattle.std.proofs.Common.{◌≡◌, ℕ, ◌+◌, ◌/◌, ◌≤◌, List, length, Result, Ok, Err, IfErr, IsErrAnd, OnOk, refl, sym, ap, subst, ◌∙◌, arith}
use Rattle.std.specs.Prelude.{IsErrOf}
use Rattle.fc_base.specs.Count.{HasRisen}
use Rattle.fc_desk.specs.Control.{ControlState}
use Rattle.fc_entry.specs.declared.entry.Entry.{Entry}
use Rattle.fc_legal.specs.Whole.{Whole}
use Rattle.fc_marks.specs.Meter.{HasCause, IsCalledUpTo, IsMetered, Meter}
use Rattle.fc_marks.specs.declared.error.NotedStop.TheVariants.{LogFull, MetaFailed, MetaFull, NoMemory as WantsMemory}
use Rattle.fc_marks.specs.declared.error.NotedStop.{NotedStop}
use Rattle.fc_meta.proofs.Asked.{calls_added}
use Rattle.fc_meta.specs.Answers.{more_calls}
use Rattle.fc_meta.specs.States.{disk_of, room_of}
use Rattle.fc_noted.specs.Making.{KeepsCount}
use Rattle.fc_noted.specs.Metered.{Metered}
use Rattle.fc_noted.specs.Noted.{Counts}
use Rattle.fc_noted.specs.Stopping.{OfMetadata, StopsInto}
use Rattle.fc_noted.specs.declared.noted.Noted.{Noted}

pub on_ok : {T E : Type 0} (result : Result T E) (P : Type 0) → P → OnOk result P
on_ok (Ok x) P p = p
on_ok (Err e) P p = tt

-- an error told by another result
pub failed_as : {T U : Type 0} {told : NotedStop} (stop : NotedStop) → IsErrOf {T = T} (Err stop) told → IsErrOf {T = U} (Err stop) told
failed_as stop e = cc

-- what is done is no error; and the disk hasn't failed where memory was wanted, or where the history is full
pub no_error : {T : Type 0} {told : NotedStop} (x : T) → IsErrOf {T = T} (Ok x) told → ⊥
no_error x e = cc

pub memory_wanted : {T : Type 0} → IsErrOf {T = T} (Err WantsMemory) MetaFailed → ⊥
memory_wanted e = cc

pub log_full : {T : Type 0} → IsErrOf {T = T} (Err LogFull) MetaFailed → ⊥
log_full e = cc

-- nor has anything passed the half where memory alone was wanted
pub memory_alone_full : {T : Type 0} (result : Result T NotedStop) → IfErr result (λ stop. stop ≡ WantsMemory) → IsErrOf result MetaFull → ⊥
memory_alone_full (Ok x) wanted told = cc
memory_alone_full (Err stop) wanted told = let full : stop ≡ MetaFull = cc in let same : WantsMemory ≡ MetaFull = sym wanted ∙ full in cc

-- calls behind others
pub calls_more : (n calls old new : ℕ) → old ≡ more_calls calls 0 → new ≡ more_calls n old → new ≡ more_calls (calls + n) 0
calls_more n calls old new is added = added ∙ (ap (more_calls n) is ∙ (calls_added n calls 0 ∙ ap (λ (k : ℕ). more_calls k 0) (let e : n + calls ≡ calls + n = omega arith in e)))

-- ---- errors of metadata

pub of_metadata : (stop : NotedStop) {P Q : Type 0} → (P → Q) → OfMetadata stop P → OfMetadata stop Q
of_metadata MetaFailed f p = f p
of_metadata MetaFull f p = f p
of_metadata LogFull f p = tt
of_metadata WantsMemory f p = tt

pub any_metadata : (stop : NotedStop) {P : Type 0} → P → OfMetadata stop P
any_metadata MetaFailed p = p
any_metadata MetaFull p = p
any_metadata LogFull p = tt
any_metadata WantsMemory p = tt

-- memory was wanted
pub wanted_alone : {T : Type 0} (result : Result T NotedStop) (P : NotedStop → Type 0) → IsErrAnd result (λ stop. stop ≡ WantsMemory) → IfErr result (λ stop. OfMetadata stop (P stop))
wanted_alone (Ok x) P wanted = absurd wanted
wanted_alone (Err stop) P wanted = subst (λ (s : NotedStop). OfMetadata s (P s)) (sym wanted) tt

-- it is no error of metadata
pub never_failed : {T : Type 0} (stop : NotedStop) → OfMetadata stop ⊥ → IsErrOf {T = T} (Err stop) MetaFailed → ⊥
never_failed MetaFailed never told = never
never_failed MetaFull never told = never
never_failed LogFull never told = cc
never_failed WantsMemory never told = cc

-- the disk stopped behind so many calls, for a cause that the meter has
pub stops_into : {C D : Type 0} (calls : D → ℕ) (stop : NotedStop) (old new : Noted C D) (m into : Meter) → old.calls ≡ more_calls m.calls 0 → new.calls ≡ more_calls into.calls 0 →
    (made : ℕ) × (calls (disk_of new.meta) ≡ more_calls made (calls (disk_of old.meta))) × (m.calls + made ≤ into.calls) × HasCause stop (m.calls + made) into → StopsInto calls stop old new into
stops_into calls stop old new m into was counted p =
    record { counted = counted; made = p.0; called = p.1; all = m.calls + p.0; in_all = calls_more p.0 m.calls old.calls (more_calls p.0 old.calls) was refl; cause = p.3 }

-- ---- metadata stays

pub counts_still : {C D : Type 0} (seen : D → List ℕ) (may_leave : D → List ℕ → Type 0) (old new : Noted C D) (entries : List Entry) (w : Whole) → new.store.control ≡ old.store.control → new.meta ≡ old.meta → new.calls ≡ old.calls →
    Counts seen may_leave old entries w → Counts seen may_leave new entries w
counts_still seen may_leave old new entries w control meta calls c =
    record {
      meter = c.meter;
      metered = subst (λ m. Metered new.store.control.grain (room_of seen m) entries w c.meter) (sym meta)
          (subst (λ (k : ControlState). Metered k.grain (room_of seen old.meta) entries w c.meter) (sym control) c.metered);
      is = subst (λ m. IsMetered seen m c.meter) (sym meta) c.is;
      calls = calls ∙ c.calls;
    }

-- ---- it is made anew, by six calls, or by fewer where it was cut short

module _ {C D : Type 0} (seen : D → List ℕ) (fault_count calls : D → ℕ) (old new : Noted C D) (count : new.calls ≡ more_calls 6 old.calls) (size : length (seen (disk_of new.meta)) ≡ length (seen (disk_of old.meta))) where
  pub fold_made : {T : Type 0} (x : T) → calls (disk_of new.meta) ≡ more_calls 6 (calls (disk_of old.meta)) → fault_count (disk_of new.meta) ≡ fault_count (disk_of old.meta) → KeepsCount seen fault_count calls (Ok x) old new
  fold_made x called quiet =
      record { counted = 6; made = 6; count = count; called = called; within = omega arith; whole = (refl, quiet); failed = λ e. absurd cc; unfailed = λ e. absurd cc; size = ap (λ (n : ℕ). n / 2) size }

  pub fold_short : {T : Type 0} (stop : NotedStop) → IsCalledUpTo 6 (calls (disk_of old.meta)) (calls (disk_of new.meta)) → (IsErrOf {T = T} (Err stop) MetaFailed → HasRisen (fault_count (disk_of old.meta)) (fault_count (disk_of new.meta))) →
      (IsErrOf {T = T} (Err stop) MetaFull → fault_count (disk_of new.meta) ≡ fault_count (disk_of old.meta)) → KeepsCount {T = T} seen fault_count calls (Err stop) old new
  fold_short stop called risen quiet = record { counted = 6; made = called.0; count = count; called = called.1; within = called.2; whole = tt; failed = risen; unfailed = quiet; size = ap (λ (n : ℕ). n / 2) size }
