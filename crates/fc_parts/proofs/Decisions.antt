-- What a lane is told as it opens, and of a decision.
use Rattle.std.proofs.Common.{◌≡◌, ℕ, ◌<◌, List, [], length, get_or, fold, refl, sym, ap, ◌∙◌, arith}
use Rattle.std.proofs.lemmas.List.{get_or-replicate}
use Rattle.fc_base.specs.Pools.{Pool}
use Rattle.fc_base.specs.Sheet.{no_slots}
use Rattle.fc_base.specs.declared.decision.Decision.{Decision}
use Rattle.fc_base.specs.declared.size.GrainSize.{GrainSize}
use Rattle.fc_follow.specs.Following.{Followed, restarts, followed_event, FitsFollowed}
use Rattle.fc_legal.specs.Lawful.{IsLawful}
use Rattle.fc_legal.specs.Stands.{Stands}
use Rattle.fc_legal.specs.Steps.{left_by}
use Rattle.fc_legal.specs.Whole.{Whole, opened, lanes, lane_at, part_at, part_of_sheet, part_of_picture, part_of_rows, part_of_rooms, pool_at, as_one, all_followed, followed_at}
use Rattle.fc_rules.specs.LaneTold.{LaneOf, nothing_told}
use Rattle.fc_parts.proofs.Told.{part_told, part_is, same_told, Follows, FollowsAll, follows_all, pool_all, faults_all, fits_all, pools_of_all}

pub opening : (grain : GrainSize) (pools : List Pool) (i : ℕ) → i < length pools → part_at grain (opened pools) i ≡ record nothing_told { pool = pool_at pools i }
opening grain pools i lt =
    part_is grain (opened pools) i
    ∙ ap (λ (n : ℕ). part_told (lane_at grain (opened pools) i) no_slots [] [] [] (pool_at pools i) n n) (get_or-replicate (length pools) i 0 0 lt)

-- a lane's part is told as all grains are
pub part_follows : (grain : GrainSize) (w : Whole) (i : ℕ) → Follows (lane_at grain w i) (as_one w) (part_at grain w i)
unfolding part_at
part_follows grain w i = record { sheet = refl; picture = refl; volumes = refl; flags = refl }

pub pool_of_part : (grain : GrainSize) (w : Whole) (i : ℕ) → (part_at grain w i).pool ≡ pool_at w.books.pools i
unfolding part_at
pool_of_part grain w i = refl

pub faults_of_part : (grain : GrainSize) (w : Whole) (i : ℕ) → (part_at grain w i).faults ≡ get_or w.faults i 0
unfolding part_at
faults_of_part grain w i = refl

pub calls_of_part : (grain : GrainSize) (w : Whole) (i : ℕ) → (part_at grain w i).calls ≡ get_or w.calls i 0
unfolding part_at
calls_of_part grain w i = refl

follows_part : (grain : GrainSize) (w : Whole) (i : ℕ) → FollowsAll (lane_at grain w i) (all_followed w) (followed_at grain w i)
follows_part grain w i = record { told = part_follows grain w i; rows = refl; rooms = refl }

pub same_followed : (a b : Followed) → a.told ≡ b.told → a.rows ≡ b.rows → a.rooms ≡ b.rooms → a ≡ b
same_followed a b told rows rooms = λ i. record { told = told i; rows = rows i; rooms = rooms i }

pub decision : (grain : GrainSize) (decisions : ℕ) (w : Whole) (d : Decision) (i : ℕ) → Stands decisions w → IsLawful grain decisions w d → i < lanes w →
    FitsFollowed (lane_at grain w i) (followed_at grain w i) d.events
    × (fold (followed_event (lane_at grain w i)) (followed_at grain w i) d.events ≡ followed_at grain (left_by grain w d) i)
decision grain decisions w d i stands lawful lt =
    let l : LaneOf = lane_at grain w i in
    let small : Followed = followed_at grain w i in
    let next : Whole = left_by grain w d in
    let last : Followed = fold (followed_event l) small d.events in
    let n : length w.books.pools ≡ lanes w = stands.each_lane.pools in
    let f = follows_part grain w i in
    let after = follows_all l lt d.events (all_followed w) small f in
    let counts = faults_all l d.events small in (
      fits_all l lt d.events (all_followed w) small w.books.pools f lawful.events lawful.disks (pool_of_part grain w i) (omega arith),
      same_followed last (followed_at grain next i)
          (same_told last.told (part_told l next.books.sheet next.picture (as_one next).volumes next.books.flags (pool_at next.books.pools i) (get_or w.faults i 0) (get_or w.calls i 0))
          (after.told.sheet ∙ ap (λ (t : Followed). part_of_sheet l t.told.sheet) lawful.told)
          (after.told.picture ∙ ap (λ (t : Followed). part_of_picture l t.told.picture) lawful.told)
          (after.told.volumes ∙ ap (λ (t : Followed). t.told.volumes) lawful.told)
          (after.told.flags ∙ ap (λ (t : Followed). t.told.flags) lawful.told)
          (pool_all l d.events small w.books.pools (pool_of_part grain w i) (omega arith)
          ∙ ap (λ (z : List Pool). pool_at z i) (sym (pools_of_all (restarts w.rows) d.events d.changes w.books)))
          (counts.0 ∙ faults_of_part grain w i)
          (counts.1 ∙ calls_of_part grain w i)
          ∙ sym (part_is grain next i))
          (after.rows ∙ ap (λ (t : Followed). part_of_rows l t.rows) lawful.told)
          (after.rooms ∙ ap (λ (t : Followed). part_of_rooms l t.rooms) lawful.told),
    )
