-- Disks that are given back, one after the other.
use Rattle.std.proofs.Common.{◌≡◌, ◌+◌, List, [], ◌∷◌, ◌++◌, length, map, sym, ap, ap₂, ◌∙◌, arith, append_assoc, length-append, Result, Ok, Err, IsOk, is_ok, if◌then◌else◌}
use Rattle.std.proofs.lemmas.List.{flat_map_more, length-map, map-append}
use Rattle.fc_kept.specs.Disks.{NamedDisk}
use Rattle.fc_mdisk.specs.Disk.{DiskState}
use Rattle.fc_stopped.specs.Ending.{all_disks, own_disks}

pub pushed : {X E : Type 0} (r : Result (Unit {0}) E) (new put old : List X) → IsOk r → new ≡ (if is_ok r then put else old) → new ≡ put
pushed (Ok done) new put old ok is = is
pushed (Err e) new put old ok is = absurd (cc ok)

-- One disk more of a lane.
pub disk_given : {X : Type 0} (m : X → DiskState) (items new : List X) (x : X) (first : List DiskState) (done : List NamedDisk) (named : NamedDisk) → m x ≡ named.disk → new ≡ items ++ x ∷ [] →
    map m items ≡ first ++ own_disks done → map m new ≡ first ++ own_disks (done ++ named ∷ [])
disk_given m items new x first done named same is given =
    ap (map m) is
    ∙ map-append m items (x ∷ [])
    ∙ ap₂ (λ (front back : List DiskState). front ++ back) given (ap (λ (d : DiskState). d ∷ []) same)
    ∙ append_assoc first (own_disks done) (named.disk ∷ [])
    ∙ ap (λ (ds : List DiskState). first ++ ds) (sym (map-append (λ (d : NamedDisk). d.disk) done (named ∷ [])))

-- One lane more.
pub lane_given : {X : Type 0} (m : X → DiskState) (items new : List X) (done : List (List NamedDisk)) (lane : List NamedDisk) → map m items ≡ all_disks done → map m new ≡ map m items ++ own_disks lane →
    map m new ≡ all_disks (done ++ lane ∷ [])
lane_given m items new done lane given more = more ∙ ap (λ (ds : List DiskState). ds ++ own_disks lane) given ∙ flat_map_more own_disks [] done lane

-- The room that a lane takes, and that of the lanes behind it.
pub room_of_lane : (lane : List NamedDisk) (rest : List (List NamedDisk)) → length (all_disks (lane ∷ rest)) ≡ length lane + length (all_disks rest)
room_of_lane lane rest = omega (arith, length-append (own_disks lane) (all_disks rest), length-map lane (λ (d : NamedDisk). d.disk))

pub given_count : {X : Type 0} (m : X → DiskState) (items new : List X) (lane : List NamedDisk) → map m new ≡ map m items ++ own_disks lane → length new ≡ length items + length lane
given_count m items new lane more =
    omega (
      arith,
      ap (length {A = DiskState}) more,
      length-append (map m items) (own_disks lane),
      length-map new m,
      length-map items m,
      length-map lane (λ (d : NamedDisk). d.disk),
    )
