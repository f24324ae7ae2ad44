-- A disk that stops, counted towards its stop; and how often a disk was called.
use Rattle.std.proofs.Common.{◌≡◌, ℕ, zero, suc, ◌+◌, ◌-◌, ◌^◌, ◌<◌, ◌≤◌, leb, inl, inr, refl, ap, ◌∙◌, arith, if◌then◌else◌}
use Rattle.std.specs.Prelude.{max, min}
use Rattle.std.proofs.lemmas.Bool.{cases_lt, le-leb, lt-leb}
use Rattle.fc_base.specs.Count.{HasRisen, one_more}
use Rattle.fc_meta.specs.Answers.{more_calls}
use Rattle.fc_metadisk.specs.Stop.{StopState}
use Rattle.fc_stopped.specs.Countdown.{calls_by_stop, faults_by_stop}

-- ---- a disk that stops

abbrev towards : ℕ → ℕ → ℕ
towards stop calls = if leb stop calls then 2 ^ 64 - 1 else 2 ^ 64 - 1 - (stop - calls)

towards_at : (stop calls : ℕ) → stop ≤ calls → towards stop calls ≡ 2 ^ 64 - 1
towards_at stop calls le = rw (le-leb stop calls le) refl

towards_before : (stop calls : ℕ) → calls < stop → towards stop calls ≡ 2 ^ 64 - 1 - (stop - calls)
towards_before stop calls lt = rw (lt-leb stop calls lt) refl

-- Before the first call.
pub counted_first : (d : StopState) → d.calls ≡ 0 → 0 < d.stop → calls_by_stop d ≡ 2 ^ 64 - 1 - d.stop
counted_first d none some = towards_before d.stop d.calls (omega (arith, none, some)) ∙ omega (arith, none)

pub quiet_first : (d : StopState) → d.calls ≡ 0 → 0 < d.stop → faults_by_stop d ≡ 0
quiet_first d none some = rw (lt-leb d.stop d.calls (omega (arith, none, some))) refl

-- Without a fault the count isn't at its last value; with one it is.
pub quiet_before : (d : StopState) → faults_by_stop d ≡ 0 → calls_by_stop d < 2 ^ 64 - 1
quiet_before d none =
    elim (cases_lt d.calls d.stop) [
      | inl lt ↦ omega (arith, towards_before d.stop d.calls lt, lt)
      | inr past ↦
          let one : faults_by_stop d ≡ max 1 d.faults = rw (le-leb d.stop d.calls past) refl in
          absurd (omega (arith, one, none))
    ]

pub faulted_at : (d : StopState) → 0 < faults_by_stop d → calls_by_stop d ≡ 2 ^ 64 - 1
faulted_at d some =
    elim (cases_lt d.calls d.stop) [
      | inl lt ↦
          let none : faults_by_stop d ≡ 0 = rw (lt-leb d.stop d.calls lt) refl in
          absurd (omega (arith, none, some))
      | inr past ↦ towards_at d.stop d.calls past
    ]

-- ---- more calls

-- Up to the last value of a count.
pub more_are : (n calls : ℕ) → calls ≤ 2 ^ 64 - 1 → more_calls n calls ≡ min (n + calls) (2 ^ 64 - 1)
more_are zero calls few = omega (arith, few)
more_are (suc n) calls few = ap one_more (more_are n calls few) ∙ omega (arith)

-- Some calls, and more of them.
pub more_then : (n m calls : ℕ) → calls ≤ 2 ^ 64 - 1 → more_calls n (more_calls m calls) ≡ more_calls (n + m) calls
more_then n m calls few =
    let first : more_calls m calls ≡ min (m + calls) (2 ^ 64 - 1) = more_are m calls few in
    more_are n (more_calls m calls) (omega (arith, first)) ∙ omega (arith, first, more_are (n + m) calls few)

-- ---- faults

pub risen_some : (n m : ℕ) → HasRisen n m → 0 < m
risen_some n m (inl lt) = omega (arith, lt)
risen_some n m (inr last) = omega (arith, last)
