-- The disks fit the tables that a command leaves.
use Rattle.std.proofs.Common.{◌≡◌, ℕ, ◌+◌, ◌<◌, ◌≤◌, ◌==◌, ◌^◌, Bool, not, Option, Some, None, IsSome, List, [], ◌∷◌, length, fold, map, All, Contains, ◌⊎◌, inl, inr, refl, sym, ap, subst, ◌∙◌, arith}
use Rattle.std.specs.List.{filter}
use Rattle.std.proofs.lemmas.List.{get_or-map, length-map}
use Rattle.std.proofs.lemmas.List.Elements.{Contains-append_cases}
use Rattle.fc_base.specs.Pools.{Pool, of_kind, pool_without}
use Rattle.fc_base.specs.Tables.{Tables, volume_named}
use Rattle.fc_base.specs.declared.command.Command.{Command}
use Rattle.fc_base.specs.declared.command.Command.TheVariants.{Mkvdisk, Rmvdisk}
use Rattle.fc_base.specs.declared.command.Unit.{Unit as SizeUnit}
use Rattle.fc_base.specs.declared.decision.Decision.{Decision}
use Rattle.fc_base.specs.declared.decision.LaneEvent.{LaneEvent}
use Rattle.fc_base.specs.declared.decision.LaneEvent.TheVariants.{Make}
use Rattle.fc_base.specs.declared.disk.DiskKind.{DiskKind}
use Rattle.fc_base.specs.declared.disk.DiskKind.TheVariants.{Flat, Thin}
use Rattle.fc_base.specs.declared.fault.Refusal.{Refusal}
use Rattle.fc_base.specs.declared.ids.VolId.{VolId}
use Rattle.fc_base.specs.declared.name.Ref.{Ref}
use Rattle.fc_base.specs.declared.size.GrainSize.{GrainSize}
use Rattle.fc_base.specs.declared.volume.Volume.{Volume}
use Rattle.fc_books.specs.After.{after_deed, after_table_change, pools_after}
use Rattle.fc_books.specs.Books.{Books}
use Rattle.fc_books.specs.Deciding.{after_decision, answered, decide, for_one, refused, settle, IsLoopOf}
use Rattle.fc_books.specs.Making.{make_volume, new_volume, remove_volume}
use Rattle.fc_books.specs.Work.{work_events}
use Rattle.fc_changed.specs.Row.{Row}
use Rattle.fc_decided.proofs.Lists.{filter_from, first_in, in_cases, none_in}
use Rattle.fc_follow.specs.Following.{restarts}
use Rattle.fc_legal.specs.Lawful.{HaveDisks, IsLawful}
use Rattle.fc_legal.specs.Steps.{after_settling, decided_on, left_by}
use Rattle.fc_legal.specs.Whole.{Whole, lane_at, lanes, pool_at, volumes_told}
use Rattle.fc_parts.proofs.Told.{pools_of_all}
use Rattle.fc_rules.specs.LaneTold.{LaneOf}
use Rattle.fc_kept.specs.Disks.{NamedDisk, FitDisks, disk_of, is_free}
use Rattle.fc_kept.specs.Recoverable.{disks_at}
use Rattle.fc_kept.proofs.Free.{free_is}
use Rattle.law_crash.specs.Leaving.{AreFit, GoesOn, HaveTheirDisks}
use Rattle.law_crash.specs.Points.{Point, StandsFor}
use Rattle.law_crash.proofs.Coming.{AreAbove, settle_above, settle_new, next_later}
use Rattle.law_stands.proofs.Standing.{command_lawful}
use Rattle.law_volumes.proofs.Changes.{events_keep}
use Rattle.law_volumes.proofs.Deeds.{decide_keeps}
use Rattle.law_volumes.proofs.Steps.{settling_keeps}

-- ---- a free disk

abbrev pub FreeOne : DiskKind → List NamedDisk → Type 0
FreeOne kind disks = (d : NamedDisk) × Contains disks d × (d.volume ≡ None) × (d.disk.kind ≡ kind)

free_in : (kind : DiskKind) (disks some : List NamedDisk) → filter (is_free kind) disks ≡ some → 0 < length some → FreeOne kind disks
free_in kind disks [] e lt = absurd (omega (arith, lt))
free_in kind disks (d ∷ ds) e lt =
    let c = filter_from (is_free kind) disks d (subst (λ (z : List NamedDisk). Contains z d) (sym e) (first_in d ds)) in
    let f = free_is kind d c.1 in
    (d, c.0, f.0, f.1)

pub free_one : (kind : DiskKind) (disks : List NamedDisk) → 0 < length (filter (is_free kind) disks) → FreeOne kind disks
free_one kind disks lt = free_in kind disks (filter (is_free kind) disks) refl lt

-- ---- pools never grow

abbrev none : Pool
none = record { flat = 0; thin = 0 }

fewer_of : (kind other : DiskKind) (pool : Pool) → of_kind kind (pool_without other pool) ≤ of_kind kind pool
fewer_of Flat Flat pool = omega arith
fewer_of Flat Thin pool = omega arith
fewer_of Thin Flat pool = omega arith
fewer_of Thin Thin pool = omega arith

one_fewer : (kind : DiskKind) (pool : Pool) → 0 < of_kind kind pool → of_kind kind (pool_without kind pool) < of_kind kind pool
one_fewer Flat pool lt = omega (arith, lt)
one_fewer Thin pool lt = omega (arith, lt)

pub pools_fewer : (es : List LaneEvent) (pools : List Pool) (i : ℕ) (kind : DiskKind) → i < length pools → of_kind kind (pool_at (fold pools_after pools es) i) ≤ of_kind kind (pool_at pools i)
pools_fewer [] pools i kind il = omega arith
pools_fewer (Make volume grains other ∷ es) pools i kind il =
    let next : List Pool = map (pool_without other) pools in
    let count : length next ≡ length pools = length-map pools (pool_without other) in
    let rest = pools_fewer es next i kind (omega (arith, count, il)) in
    let here : pool_at next i ≡ pool_without other (pool_at pools i) = get_or-map (pool_without other) pools i none none il in
    let one : of_kind kind (pool_at next i) ≤ of_kind kind (pool_at pools i) = subst (λ (x : Pool). of_kind kind x ≤ of_kind kind (pool_at pools i)) (sym here) (fewer_of kind other (pool_at pools i)) in
    omega (arith, rest, one)
pools_fewer (e ∷ es) pools i kind il = pools_fewer es pools i kind il

takes_one : (kind : DiskKind) (pools : List Pool) (es : List LaneEvent) → All (λ (pool : Pool). 0 < of_kind kind pool) pools → (i : ℕ) → i < length pools →
    of_kind kind (pool_at (fold pools_after (map (pool_without kind) pools) es) i) < of_kind kind (pool_at pools i)
takes_one kind pools es all i il =
    let next : List Pool = map (pool_without kind) pools in
    let count : length next ≡ length pools = length-map pools (pool_without kind) in
    let rest = pools_fewer es next i kind (omega (arith, count, il)) in
    let here : pool_at next i ≡ pool_without kind (pool_at pools i) = get_or-map (pool_without kind) pools i none none il in
    let one : of_kind kind (pool_at next i) < of_kind kind (pool_at pools i) = subst (λ (x : Pool). of_kind kind x < of_kind kind (pool_at pools i)) (sym here) (one_fewer kind (pool_at pools i) (all i none il)) in
    omega (arith, rest, one)

-- ---- a volume that a decision leaves was there, or it comes: it has the next id then, and takes a disk in each lane

abbrev pub TakesDisks : DiskKind → List LaneEvent → List Pool → Type 0
TakesDisks kind events pools = (i : ℕ) → i < length pools → of_kind kind (pool_at (fold pools_after pools events) i) < of_kind kind (pool_at pools i)

abbrev pub Comes : Books → List LaneEvent → Volume → Type 0
Comes b events v = (v.id.0 ≡ b.next_volume) × TakesDisks v.kind events b.pools

abbrev pub WasOrComes : Books → List LaneEvent → Volume → Type 0
WasOrComes b events v = Contains b.tables.volumes v ⊎ Comes b events v

module _ (sets restarts : ℕ → List Bool) (grain : GrainSize) (b : Books) where
  abbrev After : Command → Option Refusal → Option (List VolId) → Volume → Type 0
  After command refusal loop v = Contains (after_decision sets b (answered restarts grain b command refusal loop)).tables.volumes v

  by_changes : (d : Decision) (v : Volume) → Contains (after_decision sets b d).tables.volumes v → Contains (fold after_table_change b d.changes).tables.volumes v
  by_changes d v there = subst (λ (t : Tables). Contains t.volumes v) (events_keep sets (fold after_table_change b d.changes) d.events) there

  made_comes : (name : Option (List ℕ)) (size : ℕ) (unit : Option SizeUnit) (thin : Bool) (refusal : Option Refusal) (loop : Option (List VolId)) (v : Volume) →
      HaveDisks b.pools (volumes_told b.tables) (answered restarts grain b (Mkvdisk name size unit thin) refusal loop).events →
      After (Mkvdisk name size unit thin) refusal loop v → WasOrComes b (answered restarts grain b (Mkvdisk name size unit thin) refusal loop).events v
  made_comes name size unit thin (Some refusal) loop v disks there = inl (by_changes (answered restarts grain b (Mkvdisk name size unit thin) (Some refusal) loop) v there)
  made_comes name size unit thin None (Some loop) v disks there = inl (by_changes (answered restarts grain b (Mkvdisk name size unit thin) None (Some loop)) v there)
  made_comes name size unit thin None None v disks there =
      let made : Volume = new_volume grain b name size unit thin in
      elim (Contains-append_cases b.tables.volumes (made ∷ []) v (by_changes (answered restarts grain b (Mkvdisk name size unit thin) None None) v there)) [
        | inl before ↦ inl before
        | inr new ↦ elim (in_cases made v [] new) [
          | inl e ↦ inr (subst (Comes b (answered restarts grain b (Mkvdisk name size unit thin) None None).events) e (refl, takes_one made.kind b.pools (work_events (after_deed restarts b (make_volume made))) disks.0.0))
          | inr n ↦ absurd (none_in v n)
        ]
      ]

  gone_by : (found : Option Volume) (v : Volume) → Contains (fold after_table_change b (for_one found remove_volume).changes).tables.volumes v → Contains b.tables.volumes v
  gone_by None v there = there
  gone_by (Some x) v there = (filter_from (λ (u : Volume). not (x.id.0 == u.id.0)) b.tables.volumes v there).0

  removed_was : (volume : Ref) (refusal : Option Refusal) (loop : Option (List VolId)) (v : Volume) → After (Rmvdisk volume) refusal loop v → Contains b.tables.volumes v
  removed_was volume (Some refusal) loop v there = by_changes (answered restarts grain b (Rmvdisk volume) (Some refusal) loop) v there
  removed_was volume None (Some loop) v there = by_changes (answered restarts grain b (Rmvdisk volume) None (Some loop)) v there
  removed_was volume None None v there = gone_by (volume_named b.tables volume) v (by_changes (answered restarts grain b (Rmvdisk volume) None None) v there)

  pub decided_comes : (command : Command) (loop : Option (List VolId)) (v : Volume) → HaveDisks b.pools (volumes_told b.tables) (decide restarts grain b command loop).events →
      Contains (after_decision sets b (decide restarts grain b command loop)).tables.volumes v → WasOrComes b (decide restarts grain b command loop).events v
  decided_comes (Mkvdisk name size unit thin) loop v disks there = made_comes name size unit thin (refused grain b (Mkvdisk name size unit thin)) loop v disks there
  decided_comes (Rmvdisk volume) loop v disks there = inl (removed_was volume (refused grain b (Rmvdisk volume)) loop v there)
  decided_comes command loop v disks there = inl (subst (λ (vs : List Volume). Contains vs v) (decide_keeps restarts grain b command loop refl sets) there)

-- ---- a settling takes no disk

pools_stay : (es : List LaneEvent) (pools : List Pool) → ((n : ℕ) → AreAbove n es) → fold pools_after pools es ≡ pools
pools_stay [] pools above = refl
pools_stay (Make volume grains kind ∷ es) pools above = absurd (let a = (above (volume.0 + 1)).0 in omega (arith, a))
pools_stay (e ∷ es) pools above = pools_stay es pools (λ n. (above n).1)

pub settling_pools : (grain : GrainSize) (w : Whole) → (after_settling grain w).books.pools ≡ w.books.pools
settling_pools grain w =
    pools_of_all (restarts w.rows) (settle w.books).events (settle w.books).changes w.books
    ∙ pools_stay (settle w.books).events w.books.pools (λ n. settle_above n w.books)

-- ---- so the disks fit

-- of one lane
fit_left : (l : LaneOf) (disks : List NamedDisk) (t u : Tables) (next : ℕ) (pool : Pool) → FitDisks l disks t → ((v : Volume) → Contains t.volumes v → IsSome (disk_of disks v.id.0)) →
    ((v : ℕ) → next ≤ v → disk_of disks v ≡ None) → ((kind : DiskKind) → of_kind kind pool ≤ length (filter (is_free kind) disks)) →
    ((v : Volume) → Contains u.volumes v → Contains t.volumes v ⊎ ((v.id.0 ≡ next) × (0 < of_kind v.kind pool))) → FitDisks l disks u
fit_left l disks t u next pool f named unnamed free comes =
    let new : (v : Volume) → Contains u.volumes v → disk_of disks v.id.0 ≡ None → (v.id.0 ≡ next) × (0 < of_kind v.kind pool) = λ v c e. elim (comes v c) [
      | inl was ↦ absurd (let some : IsSome (disk_of disks v.id.0) = named v was in let no : IsSome (let o : Option NamedDisk = None in o) = subst (λ (o : Option NamedDisk). IsSome o) e some in cc)
      | inr new ↦ new
    ] in
    record {
      named = λ v d c e. elim (comes v c) [
        | inl was ↦ f.named v d was e
        | inr new ↦ absurd (let no : Some d ≡ None = sym e ∙ unnamed v.id.0 (let q = new.0 in omega (arith, q)) in cc)
      ];
      unnamed = λ v c e.
          let n = new v c e in
          let some = free v.kind in
          let lt = n.1 in
          free_one v.kind disks (omega (arith, some, lt));
      one = λ v x vc xc e q. (new v vc e).0 ∙ sym (new x xc q).0;
    }

-- disks that fit a table fit one with the same volumes
fit_volumes : (l : LaneOf) (disks : List NamedDisk) (t u : Tables) → u.volumes ≡ t.volumes → FitDisks l disks t → FitDisks l disks u
fit_volumes l disks t u e f =
    let was : (v : Volume) → Contains u.volumes v → Contains t.volumes v = λ v c. subst (λ (z : List Volume). Contains z v) e c in
    record {
      named = λ v d c q. f.named v d (was v c) q;
      unnamed = λ v c q. f.unnamed v (was v c) q;
      one = λ v x vc xc p q. f.one v x (was v vc) (was x xc) p q;
    }

pub fits_now : (grain : GrainSize) (w : Whole) (least : List Row) (p : Point) → StandsFor grain w least p → AreFit grain w p.disks
fits_now grain w least p st i il =
    fit_volumes (lane_at grain w i) (disks_at p.disks i) p.kept.tables w.books.tables (sym (ap (λ (t : Tables). t.volumes) st.says.tables)) (st.says.fit i il)

pub settled_fit : (grain : GrainSize) (w : Whole) (least : List Row) (p : Point) → StandsFor grain w least p → AreFit grain (after_settling grain w) p.disks
settled_fit grain w least p st i il =
    let settled : Whole = after_settling grain w in
    fit_volumes (lane_at grain settled i) (disks_at p.disks i) w.books.tables settled.books.tables (settling_keeps grain w) (fits_now grain w least p st i il)

pub decided_fit : (grain : GrainSize) (decisions : ℕ) (w : Whole) (least : List Row) (p : Point) (command : Command) (loop : Option (List VolId)) → decisions + 1 < 2 ^ 32 → GoesOn decisions w p.disks → StandsFor grain w least p →
    HaveTheirDisks w p.disks → IsLoopOf grain (after_settling grain w).books command loop → AreFit grain (left_by grain (after_settling grain w) (decided_on grain (after_settling grain w) command loop)) p.disks
decided_fit grain decisions w least p command loop few on st have told i il =
    let settled : Whole = after_settling grain w in
    let left : Whole = left_by grain settled (decided_on grain settled command loop) in
    let sets : ℕ → List Bool = restarts settled.rows in
    let pools : settled.books.pools ≡ w.books.pools = settling_pools grain w in
    let lawful : IsLawful grain (decisions + 1) settled (decided_on grain settled command loop) = command_lawful grain decisions w command loop few on.reached.stands told in
    let later : w.books.next_volume ≤ settled.books.next_volume = next_later (restarts w.rows) w.books (settle w.books).events (settle w.books).changes (settle_new w.books).1 in
    let count : length w.books.pools ≡ lanes w = on.reached.stands.each_lane.pools in
    let given : length p.disks ≡ lanes w = st.says.count in
    let here : i < length settled.books.pools = subst (λ (ps : List Pool). i < length ps) (sym pools) (omega (arith, il, count, given)) in
    fit_left (lane_at grain left i) (disks_at p.disks i) settled.books.tables left.books.tables settled.books.next_volume (pool_at settled.books.pools i) (settled_fit grain w least p st i il)
    (λ v c. have.named i v il (subst (λ (vs : List Volume). Contains vs v) (settling_keeps grain w) c))
    (λ v le. on.unnamed i v (omega (arith, later, le)))
    (λ kind. subst (λ (ps : List Pool). of_kind kind (pool_at ps i) ≤ length (filter (is_free kind) (disks_at p.disks i))) (sym pools) (have.free i kind il))
    (λ v c. elim (decided_comes sets sets grain settled.books command loop v lawful.disks c) [
      | inl was ↦ inl was
      | inr new ↦ inr (new.0, let lt = new.1 i here in omega (arith, lt))
    ])
