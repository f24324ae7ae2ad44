-- What a sink in memory leaves after a `put` that failed, and how what a writer holds grows.
use Rattle.std.proofs.Common.{◌≡◌, ℕ, ◌+◌, ◌-◌, ◌<◌, ◌≤◌, ◌^◌, min, Bool, true, false, if◌then◌else◌, List, [], ◌++◌, length, take, drop, Option, Some, None, refl, sym, ◌∙◌, ap, inl, inr, arith}
use Rattle.std.specs.Bool.{OnTrue}
use Rattle.std.specs.Io.KnownBytes.{Appends}
use Rattle.std.proofs.lemmas.Bool.{cases_lt}
use Rattle.std.proofs.lemmas.List.{append-nil, append_assoc, take-append-drop, take-append-le, take_rest}
use Rattle.fc_base.specs.Count.{FaultsAfter}
use Rattle.fc_io.specs.Calls.{fails_now, one_call_on}
use Rattle.fc_io.specs.Sink.{AddsFront, AfterPut}

-- the half of the part was added, if there was memory for it
half_added : (ok : Bool) (held held' part : List ℕ) (n : ℕ) → held' ≡ (if ok then held ++ take n part else held) → AddsFront (Some held) part (Some held')
half_added true held held' part n e = record { front = take n part; rest = drop n part; split = sym (take-append-drop n part); added = ap Some e }
half_added false held held' part n e = record { front = []; rest = part; split = refl; added = ap Some (e ∙ sym (append-nil held)) }

on_true : {P : Type 0} (b : Bool) → P → OnTrue b P
on_true true p = p
on_true false p = tt

-- what was sent on is still the first of what is held
half_sent : (ok : Bool) (held held' part : List ℕ) (sent n : ℕ) → sent ≤ length held → held' ≡ (if ok then held ++ take n part else held) → take sent held' ≡ take sent held
half_sent true held held' part sent n within e = ap (take sent) e ∙ take-append-le sent held (take n part) within
half_sent false held held' part sent n within e = ap (take sent) e

pub failed_put : (ok : Bool) (held held' part failing : List ℕ) (sent n faults faults' : ℕ) → sent ≤ length held → held' ≡ (if ok then held ++ take n part else held) → FaultsAfter true true faults faults'
    → AfterPut (record { held = Some held; sent = Some (take sent held); failing = Some failing; faults = faults }) part true
    (record { held = Some held'; sent = Some (take sent held'); failing = Some (one_call_on failing); faults = faults' })
failed_put ok held held' part failing sent n faults faults' within held_is counted = record {
  held = tt;
  front = half_added ok held held' part n held_is;
  sent = ap Some (half_sent ok held held' part sent n within held_is);
  failing = refl;
  fails_as_told = on_true (fails_now failing) refl;
  faults = counted;
}

pub one_fault : (faults faults' : ℕ) → faults < 2 ^ 64 → faults' ≡ min (faults + 1) (2 ^ 64 - 1) → FaultsAfter true true faults faults'
one_fault faults faults' in_u64 e =
    elim (cases_lt (faults + 1) (2 ^ 64 - 1)) [
      | inl below ↦ record { kept = omega arith; cause = inl (omega arith); quiet = tt }
      | inr above ↦ record { kept = omega arith; cause = inr (omega arith); quiet = tt }
    ]

-- nothing was added, and one part after another
pub Appends-nil : (held : Option (List ℕ)) → Appends held held []
Appends-nil None = tt
Appends-nil (Some bytes) = sym (append-nil bytes)

pub Appends-join : (a b c : Option (List ℕ)) (xs ys : List ℕ) → Appends a b xs → Appends b c ys → Appends a c (xs ++ ys)
Appends-join None b c xs ys p q = tt
Appends-join (Some as') None c xs ys p q = absurd p
Appends-join (Some as') (Some bs) None xs ys p q = absurd q
Appends-join (Some as') (Some bs) (Some cs) xs ys p q = q ∙ ap (λ (l : List ℕ). l ++ ys) p ∙ append_assoc as' xs ys

-- one more write of n bytes of the rest
pub one_more_write : (a b c : Option (List ℕ)) (part front rest : List ℕ) (n : ℕ) → part ≡ front ++ rest → Appends a b front → Appends b c (take n rest)
    → (x : List ℕ) × (part ≡ x ++ take (length rest - n) (drop n rest)) × Appends a c x
one_more_write a b c part front rest n split so_far more = (
  front ++ take n rest,
  split ∙ rw (take_rest rest n, append_assoc front (take n rest) (drop n rest), take-append-drop n rest) refl,
  Appends-join a b c front (take n rest) so_far more,
)
