-- The words of a disk on closed examples.
use Rattle.std.proofs.Common.{◌≡◌, ℕ, ◌-◌, ◌^◌, true, false, List, [], ◌∷◌, Ok, Err, Some, refl, inl, arith, ap, slice_index}
use Rattle.fc_base.specs.Count.{one_more}
use Rattle.fc_base.specs.declared.disk.DiskKind.TheVariants.{Flat, Thin}
use Rattle.fc_base.specs.declared.disk.DiskError.TheVariants.{Failed, NoMemory}
use Rattle.fc_mdisk.specs.Disk.{DiskState, used_of, formatted, AfterRead, AfterWrite}
use Rattle.fc_mdisk.specs.Cut.{cut}

-- a thin disk of two grains of two bytes, of which the second was written; a fault is armed two calls away
abbrev thin : DiskState
thin = record {
  kind = Thin;
  grains = (0 ∷ 0 ∷ []) ∷ (7 ∷ 8 ∷ []) ∷ [];
  occupied = false ∷ true ∷ [];
  calls = 3;
  faults = 0;
  write_faults = 0;
  due = Some 2;
}

one_grain_is_used : used_of thin ≡ 1
one_grain_is_used = refl

a_flat_disk_uses_all : used_of (record thin { kind = Flat }) ≡ 2
a_flat_disk_uses_all = refl

zeros : (formatted thin 1 3).grains ≡ (0 ∷ 0 ∷ 0 ∷ []) ∷ []
zeros = refl

nothing_used : used_of (formatted thin 1 3) ≡ 0
nothing_used = refl

a_count_stands_still : one_more (2 ^ 64 - 1) ≡ 2 ^ 64 - 1
a_count_stands_still = refl

two_grains : cut 2 2 (1 ∷ 2 ∷ 3 ∷ 4 ∷ []) ≡ (1 ∷ 2 ∷ []) ∷ (3 ∷ 4 ∷ []) ∷ []
two_grains = refl

-- a read of the second grain brings the fault one call nearer
a_read : AfterRead thin 1 false (7 ∷ 8 ∷ []) (record thin { calls = 4; due = Some 1 })
a_read = record {
  bytes = refl;
  grains = refl;
  occupied = refl;
  write_faults = refl;
  call = record {
    kind = refl;
    calls = refl;
    faults = record { kept = omega arith; cause = tt; quiet = refl };
    due = refl;
    fails_as_told = refl;
  };
}

no_read_of_other_bytes : (after : DiskState) → AfterRead thin 1 false (0 ∷ 0 ∷ []) after → ⊥
no_read_of_other_bytes after read = omega (arith, ap (λ (bytes : List ℕ). slice_index bytes 0) read.bytes)

no_read_that_is_not_counted : AfterRead thin 1 false (7 ∷ 8 ∷ []) (record thin { due = Some 1 }) → ⊥
no_read_that_is_not_counted read = omega (arith, read.call.calls)

-- the call after it writes, and is torn
abbrev torn : DiskState
torn = record thin {
  grains = (1 ∷ 0 ∷ []) ∷ (7 ∷ 8 ∷ []) ∷ [];
  occupied = true ∷ true ∷ [];
  calls = 4;
  faults = 1;
  write_faults = 1;
  due = Some 0;
}

a_torn_write : AfterWrite {A = Unit {0}} (record thin { due = Some 1 }) 0 (1 ∷ 2 ∷ []) (Err Failed) torn
a_torn_write = record {
  grain = refl;
  others = refl;
  occupied = refl;
  write_faults = record { kept = omega arith; cause = inl (omega arith); quiet = tt };
  call = record {
    kind = refl;
    calls = refl;
    faults = record { kept = omega arith; cause = inl (omega arith); quiet = tt };
    due = refl;
    fails_as_told = refl;
  };
  allowed = tt;
}

no_torn_write_is_done : AfterWrite {A = Unit {0}} (record thin { due = Some 1 }) 0 (1 ∷ 2 ∷ []) (Ok tt) torn → ⊥
no_torn_write_is_done write = cc

no_flat_disk_wants_memory : (bytes : List ℕ) (after : DiskState) → AfterWrite {A = Unit {0}} (record thin { kind = Flat }) 0 bytes (Err NoMemory) after → ⊥
no_flat_disk_wants_memory bytes after write = cc (write.allowed)
