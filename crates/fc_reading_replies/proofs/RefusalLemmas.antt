-- Refusals are read exactly.
use Rattle.std.proofs.Common.{◌≡◌, ℕ, zero, suc, ◌≤◌, Bool, true, false, List, [], ◌∷◌, ◌++◌, length, get_or, codes, decimal, refl, ap, ◌∙◌, append_assoc, length-append, arith}
use Rattle.std.specs.Fmt.{digits}
use Rattle.std.specs.List.{flat_map}
use Rattle.std.proofs.lemmas.List.{append-nil}
use Rattle.fc_base.specs.declared.fault.Kind.TheVariants.{Vdisk, Fcmap, Group}
use Rattle.fc_base.specs.declared.fault.Refusal.{Refusal}
use Rattle.fc_base.specs.declared.fault.Refusal.TheVariants as refusal
use Rattle.fc_base.specs.declared.fault.ValueOf.TheVariants as value
use Rattle.fc_base.specs.declared.ids.VolId.{VolId}
use Rattle.fc_base.specs.declared.size.GrainSize.TheVariants.{K64, K256}
use Rattle.fc_base.specs.declared.state.MapState.{MapState}
use Rattle.fc_base.specs.declared.state.MapState.TheVariants as state
use Rattle.fc_entry.specs.Text.{refusal_text, volume_text}
use Rattle.fc_reading_notes.specs.Lines.{ending_at}
use Rattle.fc_reading_notes.specs.Told.{Each, IsId}
use Rattle.fc_reading_replies.specs.Refusals.{IsRefusal, not_complete, numbered_refusal, refusal_at, refusal_behind, refusal_words, size_differs, volume_at, volume_of, volumes_at}
use Rattle.fc_reading.proofs.Exact.{Exact, Exact-map}
use Rattle.fc_reading.proofs.Words.{IsIndexOf, nothing}
use Rattle.fc_reading_notes.proofs.Choices.{Exact-ending, IsEnding, ending_text}
use Rattle.fc_reading_notes.proofs.Lists.{AllFit, ChainOf, Exact-chain, all_text}
use Rattle.fc_reading_notes.proofs.Below.{AllBelow}
use Rattle.fc_reading_replies.proofs.Cases.{Case, Exact-begun, Given, NumberedCases, SaidCases, TwiceCases, case_image, case_numbered, case_said, case_twice, given_image, given_numbered, given_said, given_twice, later_words, two_text}

-- ---- the volumes of a loop

abbrev volume_ends : List (List ℕ)
volume_ends = codes "\n" ∷ codes " " ∷ []

abbrev more_text : Bool → List ℕ
more_text true = codes " "
more_text false = codes "\n"

abbrev pub volume_line : VolId × Bool → List ℕ
volume_line x = decimal x.0.0 ++ more_text x.1

abbrev IsVolume : VolId × Bool → Type 0
IsVolume x = IsId x.0.0

volume_to : (x : ℕ × ℕ) → IsEnding volume_ends x → IsVolume (volume_of x) × (volume_line (volume_of x) ≡ ending_text volume_ends x)
volume_to (v, zero) fits = (fits.0, refl)
volume_to (v, suc zero) fits = (fits.0, refl)
volume_to (v, suc (suc n)) fits = absurd (omega (arith, fits.1))

volume_from : (v : ℕ) (more : Bool) → IsId v → (x : ℕ × ℕ) × IsEnding volume_ends x × (volume_of x ≡ (record { 0 = v }, more))
volume_from v false is = ((v, 0), (is, omega arith), refl)
volume_from v true is = ((v, 1), (is, omega arith), refl)

Exact-volume : Exact IsVolume volume_line nothing volume_at
Exact-volume =
    Exact-map {V = ℕ × ℕ} {W = VolId × Bool} (IsEnding volume_ends) (ending_text volume_ends) nothing (ending_at volume_ends) IsVolume volume_line volume_of
    (Exact-ending (codes "\n") (codes " " ∷ []) refl refl) volume_to (λ x is. volume_from x.0.0 x.1 is)

abbrev Anywhere : Unit {0} → Type 0
Anywhere state = Unit {0}

abbrev pub FitsVolume : Unit {0} → VolId × Bool → Type 0
FitsVolume state x = IsId x.0.0

abbrev pub volume_next : Unit {0} → VolId → Unit {0}
volume_next state volume = tt

has_end : (digits : List ℕ) (more : Bool) → 1 ≤ length (digits ++ more_text more)
has_end digits true = omega (arith, length-append digits (codes " "))
has_end digits false = omega (arith, length-append digits (codes "\n"))

volume_chain : ChainOf Anywhere FitsVolume volume_line (λ (state : Unit {0}). volume_at) volume_next
volume_chain = record {
  exact = λ s good. Exact-volume;
  some = λ s x fits. has_end (decimal x.0.0) x.1;
  next_good = λ s v good fits. tt;
  ends = λ s good. (record { 0 = 0 }, omega arith);
}

abbrev AreVolumes : List VolId → Type 0
AreVolumes = AllFit FitsVolume volume_next tt

Exact-volumes : Exact AreVolumes (all_text volume_line) nothing volumes_at
Exact-volumes = Exact-chain Anywhere FitsVolume volume_line (λ (state : Unit {0}). volume_at) volume_next volume_chain tt tt

volumes_fit : (volume : VolId) (volumes : List VolId) → Each (λ (v : VolId). IsId v.0) (volume ∷ volumes) → AreVolumes (volume ∷ volumes)
volumes_fit volume [] each = each.0
volumes_fit volume (next ∷ volumes) each = (each.0, volumes_fit next volumes each.1)

volumes_each : (volumes : List VolId) → AreVolumes volumes → Each (λ (v : VolId). IsId v.0) volumes
volumes_each [] fits = absurd fits
volumes_each (volume ∷ []) fits = (fits, tt)
volumes_each (volume ∷ next ∷ volumes) fits = (fits.0, volumes_each (next ∷ volumes) fits.1)

last_joined : (s v n : List ℕ) → ((s ++ v) ++ []) ++ n ≡ s ++ (v ++ n)
last_joined s v n = simp (append_assoc, append-nil)

next_joined : (s v others n : List ℕ) → ((s ++ v) ++ others) ++ n ≡ (s ++ v) ++ (others ++ n)
next_joined s v others n = append_assoc (s ++ v) others n

again_joined : (s v others : List ℕ) → (s ++ v) ++ (s ++ others) ≡ s ++ ((v ++ s) ++ others)
again_joined s v others = simp (append_assoc)

volumes_joined : (volume : VolId) (volumes : List VolId) → flat_map volume_text (volume ∷ volumes) ++ codes "\n" ≡ codes " " ++ all_text volume_line (volume ∷ volumes)
volumes_joined volume [] = last_joined (codes " ") (decimal volume.0) (codes "\n")
volumes_joined volume (next ∷ volumes) =
    next_joined (codes " ") (decimal volume.0) (flat_map volume_text (next ∷ volumes)) (codes "\n")
    ∙ ap (λ t. volume_text volume ++ t) (volumes_joined next volumes)
    ∙ again_joined (codes " ") (decimal volume.0) (all_text volume_line (next ∷ volumes))

-- ---- all refusals

abbrev pub refusal_line : Refusal → List ℕ
refusal_line refusal = refusal_text refusal ++ codes "\n"

-- the same behind its words
abbrev refusal_end : Refusal → List ℕ
refusal_end (refusal.NameTaken id) = decimal id ++ codes "\n"
refusal_end (refusal.Limit n) = decimal n ++ codes "\n"
refusal_end (refusal.InUse volume) = decimal volume.0 ++ codes "\n"
refusal_end (refusal.InGroup group) = decimal group.0 ++ codes "\n"
refusal_end (refusal.TargetTwice volume) = decimal volume.0 ++ codes "\n"
refusal_end (refusal.SourceIsTarget volume) = decimal volume.0 ++ codes "\n"
refusal_end (refusal.SourceNotReady volume) = decimal volume.0 ++ codes "\n"
refusal_end (refusal.TargetActive map) = decimal map.0 ++ codes "\n"
refusal_end (refusal.TargetIsSource volume) = decimal volume.0 ++ codes "\n"
refusal_end (refusal.PairTaken map) = decimal map.0 ++ codes "\n"
refusal_end (refusal.NotComplete held total) = two_text (held, total)
refusal_end (refusal.SizeDiffers source target) = two_text (source, target)
refusal_end (refusal.RestoreLoop volumes) = all_text volume_line volumes
refusal_end refusal = []

whole : SaidCases IsRefusal refusal_line refusal_end
whole = case_said IsRefusal refusal_line refusal_end

number : NumberedCases IsRefusal refusal_line refusal_end
number = case_numbered IsRefusal refusal_line refusal_end

two : TwiceCases IsRefusal refusal_line refusal_end
two = case_twice IsRefusal refusal_line refusal_end

loop_line : (volumes : List VolId) → AreVolumes volumes → refusal_line (refusal.RestoreLoop volumes) ≡ codes "restore loop " ++ all_text volume_line volumes
loop_line [] fits = absurd fits
loop_line (volume ∷ volumes) fits =
    append_assoc (codes "restore loop") (flat_map volume_text (volume ∷ volumes)) (codes "\n")
    ∙ ap (λ t. codes "restore loop" ++ t) (volumes_joined volume volumes)

loop : Case IsRefusal refusal_line refusal_end (codes "restore loop ") (refusal_behind 38)
loop =
    case_image {R = List VolId} {V = Refusal} IsRefusal refusal_line refusal_end (codes "restore loop ") AreVolumes (all_text volume_line) volumes_at refusal.RestoreLoop
    Exact-volumes (record { 0 = 0 } ∷ []) (omega arith) volumes_each (λ volumes fits. refl) loop_line

grains_64_64 : refusal_line (refusal.GrainDiffers K64 K64) ≡ codes "grain differs 64 64\n"
unfolding digits
grains_64_64 = refl

grains_64_256 : refusal_line (refusal.GrainDiffers K64 K256) ≡ codes "grain differs 64 256\n"
unfolding digits
grains_64_256 = refl

grains_256_64 : refusal_line (refusal.GrainDiffers K256 K64) ≡ codes "grain differs 256 64\n"
unfolding digits
grains_256_64 = refl

grains_256_256 : refusal_line (refusal.GrainDiffers K256 K256) ≡ codes "grain differs 256 256\n"
unfolding digits
grains_256_256 = refl

abbrev RefusalAt : ℕ → Type 0
RefusalAt i = Case IsRefusal refusal_line refusal_end (get_or refusal_words i []) (refusal_behind i)

value_cases : AllBelow RefusalAt 9
value_cases =
    let to_1 : AllBelow RefusalAt 1 = (tt, whole (codes "no such vdisk\n") (refusal.NoSuch Vdisk) tt refl refl) in
    let to_2 : AllBelow RefusalAt 2 = (to_1, whole (codes "no such fcmap\n") (refusal.NoSuch Fcmap) tt refl refl) in
    let to_3 : AllBelow RefusalAt 3 = (to_2, whole (codes "no such group\n") (refusal.NoSuch Group) tt refl refl) in
    let to_4 : AllBelow RefusalAt 4 = (to_3, whole (codes "bad value of size\n") (refusal.BadValue value.Size) tt refl refl) in
    let to_5 : AllBelow RefusalAt 5 = (to_4, whole (codes "bad value of copyrate\n") (refusal.BadValue value.CopyRate) tt refl refl) in
    let to_6 : AllBelow RefusalAt 6 = (to_5, whole (codes "bad value of cleanrate\n") (refusal.BadValue value.CleanRate) tt refl refl) in
    let to_7 : AllBelow RefusalAt 7 = (to_6, whole (codes "bad value of seconds\n") (refusal.BadValue value.Seconds) tt refl refl) in
    let to_8 : AllBelow RefusalAt 8 = (to_7, whole (codes "bad value of blocks\n") (refusal.BadValue value.Blocks) tt refl refl) in
    (to_8, whole (codes "bad value of grain\n") (refusal.BadValue value.Grain) tt refl refl)

state_cases : AllBelow RefusalAt 16
state_cases =
    let to_10 : AllBelow RefusalAt 10 = (value_cases, whole (codes "not allowed in empty\n") (refusal.NotAllowed state.Empty) tt refl refl) in
    let to_11 : AllBelow RefusalAt 11 = (to_10, whole (codes "not allowed in idle_or_copied\n") (refusal.NotAllowed state.IdleOrCopied) tt refl refl) in
    let to_12 : AllBelow RefusalAt 12 = (to_11, whole (codes "not allowed in preparing\n") (refusal.NotAllowed state.Preparing) tt refl refl) in
    let to_13 : AllBelow RefusalAt 13 = (to_12, whole (codes "not allowed in prepared\n") (refusal.NotAllowed state.Prepared) tt refl refl) in
    let to_14 : AllBelow RefusalAt 14 = (to_13, whole (codes "not allowed in copying\n") (refusal.NotAllowed state.Copying) tt refl refl) in
    let to_15 : AllBelow RefusalAt 15 = (to_14, whole (codes "not allowed in stopping\n") (refusal.NotAllowed state.Stopping) tt refl refl) in
    (to_15, whole (codes "not allowed in stopped\n") (refusal.NotAllowed state.Stopped) tt refl refl)

whole_cases : AllBelow RefusalAt 26
whole_cases =
    let to_17 : AllBelow RefusalAt 17 = (state_cases, whole (codes "grain differs 64 64\n") (refusal.GrainDiffers K64 K64) tt refl grains_64_64) in
    let to_18 : AllBelow RefusalAt 18 = (to_17, whole (codes "grain differs 64 256\n") (refusal.GrainDiffers K64 K256) tt refl grains_64_256) in
    let to_19 : AllBelow RefusalAt 19 = (to_18, whole (codes "grain differs 256 64\n") (refusal.GrainDiffers K256 K64) tt refl grains_256_64) in
    let to_20 : AllBelow RefusalAt 20 = (to_19, whole (codes "grain differs 256 256\n") (refusal.GrainDiffers K256 K256) tt refl grains_256_256) in
    let to_21 : AllBelow RefusalAt 21 = (to_20, whole (codes "no disk\n") refusal.NoDisk tt refl refl) in
    let to_22 : AllBelow RefusalAt 22 = (to_21, whole (codes "not prepared\n") refusal.NotPrepared tt refl refl) in
    let to_23 : AllBelow RefusalAt 23 = (to_22, whole (codes "empty group\n") refusal.Empty tt refl refl) in
    let to_24 : AllBelow RefusalAt 24 = (to_23, whole (codes "needs force\n") refusal.NeedsForce tt refl refl) in
    let to_25 : AllBelow RefusalAt 25 = (to_24, whole (codes "same volume\n") refusal.SameVolume tt refl refl) in
    (to_25, whole (codes "restore loop\n") (refusal.RestoreLoop []) tt refl refl)

numbered_cases : AllBelow RefusalAt 36
numbered_cases =
    let to_27 : AllBelow RefusalAt 27 = (whole_cases, number (codes "name taken ") (numbered_refusal 0) (λ n is. is) (λ n. refl) (λ n. refl)) in
    let to_28 : AllBelow RefusalAt 28 = (to_27, number (codes "limit ") (numbered_refusal 1) (λ n is. is) (λ n. refl) (λ n. refl)) in
    let to_29 : AllBelow RefusalAt 29 = (to_28, number (codes "in use ") (numbered_refusal 2) (λ n is. is) (λ n. refl) (λ n. refl)) in
    let to_30 : AllBelow RefusalAt 30 = (to_29, number (codes "in group ") (numbered_refusal 3) (λ n is. is) (λ n. refl) (λ n. refl)) in
    let to_31 : AllBelow RefusalAt 31 = (to_30, number (codes "target twice ") (numbered_refusal 4) (λ n is. is) (λ n. refl) (λ n. refl)) in
    let to_32 : AllBelow RefusalAt 32 = (to_31, number (codes "source is target ") (numbered_refusal 5) (λ n is. is) (λ n. refl) (λ n. refl)) in
    let to_33 : AllBelow RefusalAt 33 = (to_32, number (codes "source not ready ") (numbered_refusal 6) (λ n is. is) (λ n. refl) (λ n. refl)) in
    let to_34 : AllBelow RefusalAt 34 = (to_33, number (codes "target active ") (numbered_refusal 7) (λ n is. is) (λ n. refl) (λ n. refl)) in
    let to_35 : AllBelow RefusalAt 35 = (to_34, number (codes "target is source ") (numbered_refusal 8) (λ n is. is) (λ n. refl) (λ n. refl)) in
    (to_35, number (codes "pair taken ") (numbered_refusal 9) (λ n is. is) (λ n. refl) (λ n. refl))

refusal_cases : AllBelow RefusalAt 39
refusal_cases =
    let to_37 : AllBelow RefusalAt 37 = (numbered_cases, two (codes "not complete ") not_complete (λ x is. is) (λ x. refl) (λ x. refl)) in
    let to_38 : AllBelow RefusalAt 38 = (to_37, two (codes "size differs ") size_differs (λ x is. is) (λ x. refl) (λ x. refl)) in
    (to_38, loop)

state_from : (s : MapState) → (i : ℕ) × IsIndexOf refusal_words i × Given (refusal_behind i) (refusal.NotAllowed s)
state_from state.Empty = (9, omega arith, given_said (refusal.NotAllowed state.Empty))
state_from state.IdleOrCopied = (10, omega arith, given_said (refusal.NotAllowed state.IdleOrCopied))
state_from state.Preparing = (11, omega arith, given_said (refusal.NotAllowed state.Preparing))
state_from state.Prepared = (12, omega arith, given_said (refusal.NotAllowed state.Prepared))
state_from state.Copying = (13, omega arith, given_said (refusal.NotAllowed state.Copying))
state_from state.Stopping = (14, omega arith, given_said (refusal.NotAllowed state.Stopping))
state_from state.Stopped = (15, omega arith, given_said (refusal.NotAllowed state.Stopped))

refusal_from : (refusal : Refusal) → IsRefusal refusal → (i : ℕ) × IsIndexOf refusal_words i × Given (refusal_behind i) refusal
refusal_from (refusal.Words fault) is = absurd is
refusal_from (refusal.NoSuch Vdisk) is = (0, omega arith, given_said (refusal.NoSuch Vdisk))
refusal_from (refusal.NoSuch Fcmap) is = (1, omega arith, given_said (refusal.NoSuch Fcmap))
refusal_from (refusal.NoSuch Group) is = (2, omega arith, given_said (refusal.NoSuch Group))
refusal_from (refusal.BadValue value.Size) is = (3, omega arith, given_said (refusal.BadValue value.Size))
refusal_from (refusal.BadValue value.CopyRate) is = (4, omega arith, given_said (refusal.BadValue value.CopyRate))
refusal_from (refusal.BadValue value.CleanRate) is = (5, omega arith, given_said (refusal.BadValue value.CleanRate))
refusal_from (refusal.BadValue value.Seconds) is = (6, omega arith, given_said (refusal.BadValue value.Seconds))
refusal_from (refusal.BadValue value.Blocks) is = (7, omega arith, given_said (refusal.BadValue value.Blocks))
refusal_from (refusal.BadValue value.Grain) is = (8, omega arith, given_said (refusal.BadValue value.Grain))
refusal_from (refusal.NotAllowed s) is = state_from s
refusal_from (refusal.GrainDiffers K64 K64) is = (16, omega arith, given_said (refusal.GrainDiffers K64 K64))
refusal_from (refusal.GrainDiffers K64 K256) is = (17, omega arith, given_said (refusal.GrainDiffers K64 K256))
refusal_from (refusal.GrainDiffers K256 K64) is = (18, omega arith, given_said (refusal.GrainDiffers K256 K64))
refusal_from (refusal.GrainDiffers K256 K256) is = (19, omega arith, given_said (refusal.GrainDiffers K256 K256))
refusal_from refusal.NoDisk is = (20, omega arith, given_said refusal.NoDisk)
refusal_from refusal.NotPrepared is = (21, omega arith, given_said refusal.NotPrepared)
refusal_from refusal.Empty is = (22, omega arith, given_said refusal.Empty)
refusal_from refusal.NeedsForce is = (23, omega arith, given_said refusal.NeedsForce)
refusal_from refusal.SameVolume is = (24, omega arith, given_said refusal.SameVolume)
refusal_from (refusal.RestoreLoop []) is = (25, omega arith, given_said (refusal.RestoreLoop []))
refusal_from (refusal.NameTaken id) is = (26, omega arith, given_numbered (numbered_refusal 0) id is)
refusal_from (refusal.Limit n) is = (27, omega arith, given_numbered (numbered_refusal 1) n is)
refusal_from (refusal.InUse volume) is = (28, omega arith, given_numbered (numbered_refusal 2) volume.0 is)
refusal_from (refusal.InGroup group) is = (29, omega arith, given_numbered (numbered_refusal 3) group.0 is)
refusal_from (refusal.TargetTwice volume) is = (30, omega arith, given_numbered (numbered_refusal 4) volume.0 is)
refusal_from (refusal.SourceIsTarget volume) is = (31, omega arith, given_numbered (numbered_refusal 5) volume.0 is)
refusal_from (refusal.SourceNotReady volume) is = (32, omega arith, given_numbered (numbered_refusal 6) volume.0 is)
refusal_from (refusal.TargetActive map) is = (33, omega arith, given_numbered (numbered_refusal 7) map.0 is)
refusal_from (refusal.TargetIsSource volume) is = (34, omega arith, given_numbered (numbered_refusal 8) volume.0 is)
refusal_from (refusal.PairTaken map) is = (35, omega arith, given_numbered (numbered_refusal 9) map.0 is)
refusal_from (refusal.NotComplete held total) is = (36, omega arith, given_twice not_complete (held, total) is)
refusal_from (refusal.SizeDiffers source target) is = (37, omega arith, given_twice size_differs (source, target) is)
refusal_from (refusal.RestoreLoop (volume ∷ volumes)) is = (
  38,
  omega arith,
  given_image {R = List VolId} {V = Refusal} AreVolumes (all_text volume_line) volumes_at refusal.RestoreLoop Exact-volumes (volume ∷ volumes)
      (volumes_fit volume volumes is),
)

pub Exact-refusal : Exact IsRefusal refusal_line nothing refusal_at
Exact-refusal = Exact-begun IsRefusal refusal_line refusal_end (codes "no such vdisk\n") (later_words refusal_words) refusal_behind refl refusal_cases refusal_from
