-- The definitions on small sessions. A is volume 0, B is volume 1, K is volume 2; each has four grains. Mapping 0 copies A to
-- B, and mapping 1 copies B to A.
use Rattle.std.proofs.Common.{◌≡◌, true, false, List, Bool, [], ◌∷◌, ◌++◌, Some, None, refl}
use Rattle.fc_bits.specs.Grains.{count_set}
use Rattle.fc_changed.specs.Notes.{Note}
use Rattle.fc_changed.specs.Notes.Note.{Began, Wrote, Left, Cut, Forgotten}
use Rattle.fc_changed.specs.Changed.{restart_set}
use Rattle.fc_changed.specs.Row.{restart_in}
use Rattle.fc_diff.specs.State.{ChangesState, after_beginning, with_ready}
use Rattle.fc_diff.specs.Law.{rows_of}

abbrev grains : Bool → Bool → Bool → Bool → List Bool
grains a b c d = a ∷ b ∷ c ∷ d ∷ []

abbrev all : List Bool
all = grains true true true true

abbrev none : List Bool
none = grains false false false false

-- A to B was copied whole
abbrev copied : List Note
copied = Began 0 0 1 (Some 4) ∷ Left 1 all ∷ []

-- writes on the source and on the target both count
abbrev written : List Note
written = copied ++ Wrote 0 1 ∷ Wrote 1 2 ∷ []

written_on_both : restart_set 0 written ≡ grains true false false true
written_on_both = refl

written_on_both_by_rows : restart_in 0 (rows_of written) ≡ grains true false false true
written_on_both_by_rows = refl

written_on_both_count : count_set (restart_in 0 (rows_of written)) ≡ 2
written_on_both_count = refl

-- B to A has no row before its first trigger; that makes all the same, for either of the two.
abbrev copied_back : List Note
copied_back = copied ++ Wrote 0 0 ∷ Began 1 1 0 (Some 4) ∷ []

partner_is_new : restart_set 1 (copied ++ Wrote 0 0 ∷ []) ≡ []
partner_is_new = refl

partner_began : restart_set 1 copied_back ≡ all
partner_began = refl

partners_share : restart_set 0 copied_back ≡ all
partners_share = refl

partners_share_by_rows : restart_in 0 (rows_of copied_back) ≡ all
partners_share_by_rows = refl

-- A trigger that joins the two counts also where its own mapping isn't followed.
joined_by_another : restart_set 0 (copied ++ Wrote 0 0 ∷ Began 5 1 0 None ∷ []) ≡ all
joined_by_another = refl

-- A to B was stopped after two grains, with a cut of B
abbrev stopped_early : List Note
stopped_early = Began 0 0 1 (Some 4) ∷ Left 1 (grains true true false false) ∷ Cut 1 ∷ []

early_stop : restart_set 0 stopped_early ≡ grains true true false false
early_stop = refl

early_stop_by_rows : restart_in 0 (rows_of stopped_early) ≡ grains true true false false
early_stop_by_rows = refl

-- a cut of the source, as another copy to A left incomplete
source_cut : restart_set 0 (stopped_early ++ Cut 0 ∷ []) ≡ none
source_cut = refl

source_cut_by_rows : restart_in 0 (rows_of (stopped_early ++ Cut 0 ∷ [])) ≡ none
source_cut_by_rows = refl

-- K to A made A a copy of another volume; B to K only reads from B.
other_trigger : restart_set 0 (copied ++ Began 2 2 0 None ∷ []) ≡ none
other_trigger = refl

other_source : restart_set 0 (copied ++ Began 3 1 2 None ∷ []) ≡ all
other_source = refl

-- a mapping that is followed no more
forgotten : restart_set 0 (copied ++ Forgotten 0 ∷ []) ≡ []
forgotten = refl

-- ---- what stands ready

abbrev nothing : ChangesState
nothing = record { rows = []; ready = [] }

abbrev made_ready : ChangesState
made_ready = record nothing { ready = with_ready nothing.rows (record { map = 0; source = 0; target = 1; grains = 4 }) nothing.ready }

followed_from_here : after_beginning made_ready 0 0 1 true ≡ record { rows = rows_of (Began 0 0 1 (Some 4) ∷ []); ready = [] }
followed_from_here = refl

-- a trigger of another mapping leaves it
still_ready : after_beginning made_ready 5 0 1 false ≡ made_ready
still_ready = refl
