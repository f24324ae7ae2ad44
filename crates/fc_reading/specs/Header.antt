-- The first line of a trace, read back. Its store has four lanes.
use Rattle.std.specs.Prelude.{◌≡◌, ℕ, zero, suc, ◌≤◌, List, [], ◌∷◌, Result, codes}
use Rattle.fc_base.specs.declared.size.GrainSize.{GrainSize}
use Rattle.fc_base.specs.declared.size.GrainSize.TheVariants.{K64, K256}
use Rattle.fc_trace.specs.Trace.{header_text}
use Rattle.fc_trace.specs.declared.header.LaneDisks.{LaneDisks}
use Rattle.fc_trace.specs.declared.header.Header.{Header}
use Rattle.fc_reading.specs.Readers.{four_at, map_read, one_of_at, then_read}

-- numbers of disks below 2^32
abbrev pub IsLane : LaneDisks → Type 0
IsLane lane = (lane.flat ≤ 4294967295) × (lane.thin ≤ 4294967295)

-- four lanes
abbrev pub AreFour : List LaneDisks → Type 0
AreFour (a ∷ b ∷ c ∷ d ∷ []) = IsLane a × IsLane b × IsLane c × IsLane d
AreFour _ = ⊥

-- the first line of a trace of a store of four lanes
abbrev pub IsHeader : List ℕ → Type 0
IsHeader bytes = (header : Header) × AreFour header.lanes × (bytes ≡ header_text header.grain header.lanes)

-- how the line begins, by the grain
abbrev pub beginnings : List (List ℕ)
beginnings = codes "trace 64 4 flat " ∷ codes "trace 256 4 flat " ∷ []

abbrev pub grain_of : ℕ → GrainSize
grain_of zero = K64
grain_of (suc n) = K256

-- the line of these numbers: of flat disks in each lane, and of thin ones
abbrev pub header_of : ℕ × ((ℕ × (ℕ × (ℕ × ℕ))) × (ℕ × (ℕ × (ℕ × ℕ)))) → Header
header_of x = record {
  grain = grain_of x.0;
  lanes =
      record { flat = x.1.0.0; thin = x.1.1.0 }
      ∷ record { flat = x.1.0.1.0; thin = x.1.1.1.0 }
      ∷ record { flat = x.1.0.1.1.0; thin = x.1.1.1.1.0 }
      ∷ record { flat = x.1.0.1.1.1; thin = x.1.1.1.1.1 }
      ∷ [];
}

-- the line, read from the left
abbrev pub header_at : List ℕ → Result (Header × List ℕ) ℕ
header_at =
    map_read header_of (then_read (one_of_at beginnings) (λ grain. then_read (four_at (codes " thin ")) (λ flat. four_at (codes "\n"))))
