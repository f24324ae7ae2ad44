-- The disks of all lanes, made ready.
use Rattle.std.proofs.Common.{◌≡◌, ℕ, ◌+◌, ◌^◌, ◌<◌, ◌≤◌, All, Option, List, [], length, get_or, set, refl, sym, ap, subst, ◌∙◌, arith, inl, inr, length-set, get_or-set_same, get_or-set_other}
use Rattle.std.proofs.lemmas.Bool.{cases_lt, cases_eq}
use Rattle.std.proofs.lemmas.List.{get_or_default}
use Rattle.fc_base.specs.Grain.{grain_bytes}
use Rattle.fc_base.specs.declared.size.GrainSize.{GrainSize}
use Rattle.fc_base.specs.declared.volume.Volume.{Volume}
use Rattle.fc_image.specs.declared.image.MetaImage.{MetaImage}
use Rattle.fc_changed.specs.Row.{Row}
use Rattle.fc_kept.specs.Disks.{NamedDisk, FitDisks}
use Rattle.fc_kept.specs.Images.{tables_in, kept_in}
use Rattle.fc_kept.specs.OneGrain.{Another}
use Rattle.fc_kept.specs.Recoverable.{disks_at, Says}
use Rattle.fc_kept.specs.Sound.{IsSoundImage}
use Rattle.fc_legal.specs.Whole.{Whole}
use Rattle.fc_rules.specs.LaneTold.{LaneOf}
use Rattle.fc_recovered.specs.Readying.{HasWholeGrains, AllHaveDisks, readied}
use Rattle.fc_recovered.specs.Recovered.{CanRecover, AreReadied, AreHandedBack, IsRecovered, RecoversTo}
use Rattle.fc_recovered.specs.Showing.{lane_over}
use Rattle.fc_recovered.proofs.Carrying.{stands_on}
use Rattle.fc_recovered.proofs.Giving.{MadeReady, made_ready}

-- ---- lane by lane

abbrev numbered : GrainSize → ℕ → ℕ → LaneOf
numbered grain i n = record { lane = i; lanes = n; grain = grain }

-- the lanes so far are ready, and the others as they were
pub record ReadySoFar (grain : GrainSize) (volumes : List Volume) (old new : List (List NamedDisk)) (lane : ℕ) : Type 0 where
  pub count : length new ≡ length old
  pub ready : (i : ℕ) → i < lane → disks_at new i ≡ readied (lane_over grain old i) volumes (disks_at old i)
  pub rest : (i : ℕ) → lane ≤ i → disks_at new i ≡ disks_at old i

pub none_ready : (grain : GrainSize) (volumes : List Volume) (old : List (List NamedDisk)) → ReadySoFar grain volumes old old 0
none_ready grain volumes old = record { count = refl; ready = λ i lt. absurd (omega arith); rest = λ i le. refl }

pub one_more_ready : (grain : GrainSize) (volumes : List Volume) (old so_far new : List (List NamedDisk)) (lane : ℕ) (disks : List NamedDisk) → lane < length so_far →
    new ≡ set so_far lane disks → disks ≡ readied (lane_over grain old lane) volumes (disks_at so_far lane) →
    ReadySoFar grain volumes old so_far lane → ReadySoFar grain volumes old new (lane + 1)
one_more_ready grain volumes old so_far new lane disks lt put e r =
    record {
      count = ap (length {A = List NamedDisk}) put ∙ (length-set so_far lane disks ∙ r.count);
      ready = λ i il. elim (cases_eq i lane) [
        | inl same ↦ subst (λ (x : ℕ). disks_at new x ≡ readied (lane_over grain old x) volumes (disks_at old x)) (sym same)
            (ap (λ (z : List (List NamedDisk)). disks_at z lane) put
            ∙ (get_or-set_same so_far lane disks [] lt ∙ (e ∙ ap (readied (lane_over grain old lane) volumes) (r.rest lane (omega arith)))))
        | inr ne ↦ ap (λ (z : List (List NamedDisk)). disks_at z i) put ∙ (get_or-set_other so_far lane i disks [] ne ∙ r.ready i (omega arith))
      ];
      rest = λ i le. ap (λ (z : List (List NamedDisk)). disks_at z i) put ∙ (get_or-set_other so_far lane i disks [] (omega arith) ∙ r.rest i (omega arith));
    }

pub one_more : (grain : GrainSize) (volumes : List Volume) (old so_far : List (List NamedDisk)) (lane lanes : ℕ) (disks made : List NamedDisk) → lane < lanes → lanes ≡ length old →
    disks ≡ get_or so_far lane disks → made ≡ readied (numbered grain lane lanes) volumes disks → ReadySoFar grain volumes old so_far lane → ReadySoFar grain volumes old (set so_far lane made) (lane + 1)
one_more grain volumes old so_far lane lanes disks made lt count is e r =
    let below : lane < length so_far = omega (arith, r.count) in
    one_more_ready grain volumes old so_far (set so_far lane made) lane made below refl
    (subst (λ (n : ℕ). made ≡ readied (numbered grain lane n) volumes (disks_at so_far lane)) count
    (e ∙ ap (readied (numbered grain lane lanes) volumes) (is ∙ get_or_default so_far lane disks [] below))) r

-- where this lane isn't made ready
pub handed_back : (grain : GrainSize) (volumes : List Volume) (old so_far : List (List NamedDisk)) (lane lanes : ℕ) (disks left : List NamedDisk) → lane < lanes → lanes ≡ length old →
    disks ≡ get_or so_far lane disks → left ≡ disks → ReadySoFar grain volumes old so_far lane → AreHandedBack grain volumes old (set so_far lane left)
handed_back grain volumes old so_far lane lanes disks left lt count is e r =
    let below : lane < length so_far = omega (arith, r.count) in
    record {
      count = length-set so_far lane left ∙ r.count;
      each = λ i il. elim (cases_lt i lane) [
        | inl before ↦ inr (get_or-set_other so_far lane i left [] (omega arith) ∙ r.ready i before)
        | inr from ↦ inl (elim (cases_eq i lane) [
          | inl same ↦ subst (λ (x : ℕ). disks_at (set so_far lane left) x ≡ disks_at old x) (sym same)
              (get_or-set_same so_far lane left [] below ∙ (e ∙ (is ∙ (get_or_default so_far lane disks [] below ∙ r.rest lane (omega arith)))))
          | inr ne ↦ get_or-set_other so_far lane i left [] ne ∙ r.rest i from
        ])
      ];
    }

pub all_ready : (grain : GrainSize) (volumes : List Volume) (old new : List (List NamedDisk)) (lane : ℕ) → length old ≤ lane → ReadySoFar grain volumes old new lane → AreReadied grain volumes old new
all_ready grain volumes old new lane le r = record { count = r.count; each = λ i il. r.ready i (omega arith) }

-- ---- all of it

-- disks over which metadata says what is told may be read
pub says_can : (grain : GrainSize) (image : MetaImage) (disks : List (List NamedDisk)) (now : Whole) (least : List Row) → IsSoundImage image → Says grain disks (kept_in image) now least →
    0 < length disks → length disks < 2 ^ 32 → ((i : ℕ) → i < length disks → All (HasWholeGrains grain) (disks_at disks i)) → CanRecover grain image disks
says_can grain image disks now least sound says some few whole =
    record {
      sound = sound;
      some = some;
      few = few;
      fit = λ i il. subst (λ (n : ℕ). FitDisks (numbered grain i n) (disks_at disks i) (tables_in image)) (sym says.count) (says.fit i il);
      whole = whole;
    }

made_at : (grain : GrainSize) (image : MetaImage) (old new : List (List NamedDisk)) → CanRecover grain image old → AreReadied grain image.volumes old new → (i : ℕ) → i < length old →
    MadeReady (lane_over grain old i) (tables_in image) (disks_at old i) (disks_at new i)
made_at grain image old new can r i il =
    subst (λ (ds : List NamedDisk). MadeReady (lane_over grain old i) (tables_in image) (disks_at old i) ds) (sym (r.each i il))
    (made_ready (lane_over grain old i) (tables_in image) (disks_at old i) (can.fit i il) can.sound.says.books.tables.volumes (can.whole i il))

ready_at : (grain : GrainSize) (image : MetaImage) (old new : List (List NamedDisk)) → CanRecover grain image old → AreReadied grain image.volumes old new → (i : ℕ) → i < length new →
    AllHaveDisks (lane_over grain new i) image.volumes (disks_at new i)
ready_at grain image old new can r i il =
    let count : length new ≡ length old = r.count in
    subst (λ (n : ℕ). AllHaveDisks (numbered grain i n) image.volumes (disks_at new i)) (sym count) (made_at grain image old new can r i (omega arith)).ready

pub made : (grain : GrainSize) (image : MetaImage) (old new : List (List NamedDisk)) (buffer : List ℕ) → CanRecover grain image old → AreReadied grain image.volumes old new →
    length buffer ≡ grain_bytes grain → IsRecovered grain image new buffer
made grain image old new buffer can r room =
    let count : length new ≡ length old = r.count in
    let some : 0 < length old = can.some in
    record { sound = can.sound; some = omega arith; ready = ready_at grain image old new can r; room = room }

pub made_stands : (grain : GrainSize) (image : MetaImage) (old new : List (List NamedDisk)) → CanRecover grain image old → AreReadied grain image.volumes old new →
    (now : Whole) (one : Option Another) → RecoversTo grain old (kept_in image) now one → RecoversTo grain new (kept_in image) now one
made_stands grain image old new can r now one s =
    stands_on grain (kept_in image) old new r.count
    (λ i il. (ready_at grain image old new can r i il).each)
    (λ i il. (made_at grain image old new can r i il).stores) now one s
