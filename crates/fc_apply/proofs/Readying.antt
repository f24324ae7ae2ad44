-- Room for the events of a command: disks for the volumes that come, and mappings that are known.
use Rattle.std.proofs.Common.{◌≡◌, ◌≢◌, ℕ, suc, ◌+◌, ◌<◌, ◌≤◌, Bool, true, false, not, cond, ◌||◌, eqb, nat_lt, List, [], ◌∷◌, ◌++◌, length, get_or, filter, map, refl, sym, ap, subst, ◌∙◌, arith, inl, inr, Result, Ok, Err, OnOk, OnErr, true≢false, append_assoc, append-nil}
use Rattle.std.specs.List.{list_any, count_by}
use Rattle.std.proofs.lemmas.Bool.{cases_Bool, cases_eq, cases_lt, eqb-true, eq-eqb, ne_eqb}
use Rattle.std.proofs.lemmas.Bool.Decides.{nat_tests}
use Rattle.std.proofs.lemmas.List.Sums.{fold-append}
use Rattle.fc_base.specs.Pools.{Pool, of_kind, pool_without}
use Rattle.fc_base.specs.declared.decision.LaneEvent.{LaneEvent}
use Rattle.fc_base.specs.declared.decision.LaneEvent.TheVariants.{Make, Remove, Trigger, Retire, Detach, Split, Force, Drop, Forget, NoteCut, Access, Work, Arm}
use Rattle.fc_base.specs.declared.disk.DiskKind.{DiskKind}
use Rattle.fc_base.specs.declared.disk.DiskKind.TheVariants.{Flat, Thin}
use Rattle.fc_base.specs.declared.ids.MapId.{MapId}
use Rattle.fc_base.specs.declared.outcome.NoMemory.{NoMemory}
use Rattle.fc_chain.specs.Chains.{Chains}
use Rattle.fc_chain.specs.Room.{HasRoomFor}
use Rattle.fc_grains.specs.Calls.{HasReadied}
use Rattle.fc_grains.specs.Volumes.{VolumeGrains}
use Rattle.fc_steps.specs.Standing.{Stands, kind_of_grains, lane_of}
use Rattle.fc_grains.specs.Grains.{GrainsState, NewVolume, is_of_kind, reserved_of}
use Rattle.fc_pick.specs.Flags.{WorkState, is_known, with_number, without_number}
use Rattle.fc_follow.specs.Following.{FitsFollowed, Followed, followed_event}
use Rattle.fc_rules.specs.LaneTold.{LaneOf, LaneTold, grains_in}
use Rattle.fc_apply.specs.Accesses.{AccessState}
use Rattle.fc_rules.specs.LaneFits.{IsNotGone, WorksFirst}
use Rattle.fc_apply.specs.Parts.{FitParts, IsReadyFor, StandsFor, HasDisks, AreKnown, KnowsMore, KnowsOf, KnowsAll, known_event, new_of, new_volumes}
use Rattle.fc_apply.proofs.Telling.{length_both}

-- ---- new volumes

pub record Reserving (l : LaneOf) (g : GrainsState) (events : List LaneEvent) (g' : GrainsState) (rest : List LaneEvent) : Type 0 where
  pub state : HasReadied g g'.reserved g'
  pub volumes : g'.reserved ++ new_volumes l rest ≡ new_volumes l events
  pub disks : HasDisks l g.pool g'.reserved rest

pub reserving_none : (l : LaneOf) (g : GrainsState) (events : List LaneEvent) → g.reserved ≡ [] → HasDisks l g.pool [] events → Reserving l g events g events
reserving_none l g events fresh disks = record {
  state = record { pooled = refl; rest = refl };
  volumes = ap (λ (z : List NewVolume). z ++ new_volumes l events) fresh;
  disks = subst (λ (z : List NewVolume). HasDisks l g.pool z events) (sym fresh) disks;
}

pub reserving_next : (l : LaneOf) (g : GrainsState) (events : List LaneEvent) (g' g'' : GrainsState) (e : LaneEvent) (rest : List LaneEvent) → Reserving l g events g' (e ∷ rest) →
    HasReadied g' (g'.reserved ++ new_of l e) g'' → Reserving l g events g'' rest
reserving_next l g events g' g'' e rest r is =
    let more : g''.reserved ≡ g'.reserved ++ new_of l e = ap (λ (z : GrainsState). z.reserved) is.rest in
    record {
      state = record {
        pooled = is.pooled ∙ r.state.pooled;
        rest =
            is.rest
            ∙ ((λ k. record (r.state.rest k) { reserved = g'.reserved ++ new_of l e; pooled = g''.pooled })
            ∙ ap (λ (z : List NewVolume). record g { reserved = z; pooled = g''.pooled }) (sym more));
      };
      volumes = ap (λ (z : List NewVolume). z ++ new_volumes l rest) more ∙ (append_assoc g'.reserved (new_of l e) (new_volumes l rest) ∙ r.volumes);
      disks = subst (λ (z : List NewVolume). HasDisks l g.pool z rest) (sym more) r.disks.1;
    }

pub reserving_last : (l : LaneOf) (g : GrainsState) (events : List LaneEvent) (g' : GrainsState) → Reserving l g events g' [] → HasReadied g (new_volumes l events) g'
reserving_last l g events g' r = subst (λ (z : List NewVolume). HasReadied g z g') (sym (append-nil g'.reserved) ∙ r.volumes) r.state

pub reserving_released : (l : LaneOf) (g : GrainsState) (events : List LaneEvent) (g' : GrainsState) (rest : List LaneEvent) → Reserving l g events g' rest → HasReadied g [] (record g' { reserved = [] })
reserving_released l g events g' rest r = record { pooled = r.state.pooled; rest = λ k. record (r.state.rest k) { reserved = [] } }

-- ---- known mappings

pub record Tracking (w : WorkState) (events : List LaneEvent) (i : ℕ) (w' : WorkState) : Type 0 where
  pub flags : w'.flags ≡ w.flags
  pub known : (j : ℕ) (d : LaneEvent) → j < i → KnowsOf w'.known (get_or events j d)

knows_more : (known more : List ℕ) (x : LaneEvent) → KnowsMore known more → KnowsOf known x → KnowsOf more x
knows_more known more (Work n copies cleans) f k = f n k
knows_more known more (Make volume grains kind) f k = tt
knows_more known more (Remove volume) f k = tt
knows_more known more (Trigger pairs) f k = tt
knows_more known more (Retire m) f k = tt
knows_more known more (Detach m) f k = tt
knows_more known more (Split m) f k = tt
knows_more known more (Force m dependents) f k = tt
knows_more known more (Drop slot) f k = tt
knows_more known more (Forget m) f k = tt
knows_more known more (NoteCut m source target) f k = tt
knows_more known more (Access volume access) f k = tt
knows_more known more (Arm volume grain calls) f k = tt

pub tracking_next : (w : WorkState) (events : List LaneEvent) (i : ℕ) (w' w'' : WorkState) (e : LaneEvent) → ((d : LaneEvent) → get_or events i d ≡ e) → Tracking w events i w' → w''.flags ≡ w'.flags →
    KnowsMore w'.known w''.known → KnowsOf w''.known e → Tracking w events (i + 1) w''
tracking_next w events i w' w'' e is t flags more own = record {
  flags = flags ∙ t.flags;
  known = λ j d lt. elim (cases_eq j i) [
    | inl same ↦ subst (λ (x : LaneEvent). KnowsOf w''.known x) (sym (ap (λ (z : ℕ). get_or events z d) same ∙ is d)) own
    | inr other ↦ knows_more w'.known w''.known (get_or events j d) more (t.known j d (omega arith))
  ];
}

-- ---- numbers

any_left : (p : ℕ → Bool) (xs zs : List ℕ) → list_any p xs ≡ true → list_any p (xs ++ zs) ≡ true
any_left p [] zs t = absurd (true≢false (sym t))
any_left p (x ∷ xs) zs t =
    elim (cases_Bool (p x)) [
      | inl passed ↦ ap (λ b. b || list_any p (xs ++ zs)) passed
      | inr failed ↦ ap (λ b. b || list_any p (xs ++ zs)) failed ∙ any_left p xs zs (ap (λ b. b || list_any p xs) (sym failed) ∙ t)
    ]

any_right : (p : ℕ → Bool) (xs zs : List ℕ) → list_any p zs ≡ true → list_any p (xs ++ zs) ≡ true
any_right p [] zs t = t
any_right p (x ∷ xs) zs t =
    elim (cases_Bool (p x)) [
      | inl passed ↦ ap (λ b. b || list_any p (xs ++ zs)) passed
      | inr failed ↦ ap (λ b. b || list_any p (xs ++ zs)) failed ∙ any_right p xs zs t
    ]

any_filter : (n : ℕ) (q : ℕ → Bool) (xs : List ℕ) → q n ≡ true → list_any (λ k. eqb n k) xs ≡ true → list_any (λ k. eqb n k) (filter q xs) ≡ true
any_filter n q [] own t = absurd (true≢false (sym t))
any_filter n q (x ∷ xs) own t =
    elim (cases_Bool (eqb n x)) [
      | inl same ↦
          let passes : q x ≡ true = ap q (sym (eqb-true n x same)) ∙ own in
          rw passes (ap (λ b. b || list_any (λ k. eqb n k) (filter q xs)) same)
      | inr other ↦
          let rest : list_any (λ k. eqb n k) (filter q xs) ≡ true = any_filter n q xs own (ap (λ b. b || list_any (λ k. eqb n k) xs) (sym other) ∙ t) in
          elim (cases_Bool (q x)) [
            | inl passed ↦ rw passed (ap (λ b. b || list_any (λ k. eqb n k) (filter q xs)) other ∙ rest)
            | inr failed ↦ rw failed rest
          ]
    ]

below_is : (a b : ℕ) → a < b → nat_lt a b ≡ true
below_is a b lt = grind (arith, nat_tests)

pub known_with : (m : ℕ) (n : MapId) (known : List ℕ) → is_known n known ≡ true → is_known n (with_number m known) ≡ true
known_with m n known t =
    let p : ℕ → Bool = λ k. eqb n.0 k in
    elim (cases_eq n.0 m) [
      | inl same ↦ any_right p (filter (λ k. nat_lt k m) known) (m ∷ filter (λ k. nat_lt m k) known) (ap (λ b. b || list_any p (filter (λ k. nat_lt m k) known)) (eq-eqb n.0 m same))
      | inr other ↦ elim (cases_lt n.0 m) [
        | inl lower ↦ any_left p (filter (λ k. nat_lt k m) known) (m ∷ filter (λ k. nat_lt m k) known) (any_filter n.0 (λ k. nat_lt k m) known (below_is n.0 m lower) t)
        | inr above ↦
            let higher : m < n.0 = omega (arith, other) in
            any_right p (filter (λ k. nat_lt k m) known) (m ∷ filter (λ k. nat_lt m k) known)
            (ap (λ b. b || list_any p (filter (λ k. nat_lt m k) known)) (ne_eqb n.0 m other) ∙ any_filter n.0 (λ k. nat_lt m k) known (below_is m n.0 higher) t)
      ]
    ]

pub known_without : (m n : MapId) (known : List ℕ) → m.0 ≢ n.0 → is_known n known ≡ true → is_known n (without_number m known) ≡ true
known_without m n known other t = any_filter n.0 (λ k. not (eqb m.0 k)) known (ap not (ne_eqb m.0 n.0 other)) t

pub tracks_more : (r : Result (Unit {0}) NoMemory) (m : ℕ) (known more : List ℕ) → OnOk r (more ≡ with_number m known) → OnErr r (more ≡ known) → KnowsMore known more
tracks_more (Ok x) m known more ok err n t = subst (λ (z : List ℕ). is_known n z ≡ true) (sym ok) (known_with m n known t)
tracks_more (Err e) m known more ok err n t = subst (λ (z : List ℕ). is_known n z ≡ true) (sym err) t

keeps_known : (known : List ℕ) (e x : LaneEvent) → KnowsOf known x → IsNotGone e x → KnowsOf (known_event known e) x
keeps_known known (Work m c d) (Work n copies cleans) k g = known_with m.0 n known k
keeps_known known (Forget m) (Work n copies cleans) k g = known_without m n known g k
keeps_known known (Make volume grains kind) (Work n copies cleans) k g = k
keeps_known known (Remove volume) (Work n copies cleans) k g = k
keeps_known known (Trigger pairs) (Work n copies cleans) k g = k
keeps_known known (Retire m) (Work n copies cleans) k g = k
keeps_known known (Detach m) (Work n copies cleans) k g = k
keeps_known known (Split m) (Work n copies cleans) k g = k
keeps_known known (Force m dependents) (Work n copies cleans) k g = k
keeps_known known (Drop slot) (Work n copies cleans) k g = k
keeps_known known (NoteCut m source target) (Work n copies cleans) k g = k
keeps_known known (Access volume access) (Work n copies cleans) k g = k
keeps_known known (Arm volume grain calls) (Work n copies cleans) k g = k
keeps_known known e (Make volume grains kind) k g = tt
keeps_known known e (Remove volume) k g = tt
keeps_known known e (Trigger pairs) k g = tt
keeps_known known e (Retire m) k g = tt
keeps_known known e (Detach m) k g = tt
keeps_known known e (Split m) k g = tt
keeps_known known e (Force m dependents) k g = tt
keeps_known known e (Drop slot) k g = tt
keeps_known known e (Forget m) k g = tt
keeps_known known e (NoteCut m source target) k g = tt
keeps_known known e (Access volume access) k g = tt
keeps_known known e (Arm volume grain calls) k g = tt

pub knows_all : (known : List ℕ) (es : List LaneEvent) → AreKnown known es → WorksFirst es → KnowsAll known es
knows_all known [] all works = tt
knows_all known (e ∷ es) all works = (
  all 0 e (omega arith),
  knows_all (known_event known e) es (λ j d lt. keeps_known known e (get_or es j d) (all (suc j) d (omega arith)) (works.0 j d lt)) works.1,
)

-- ---- disks

count_push : (p : NewVolume → Bool) (xs : List NewVolume) (x : NewVolume) → count_by p (xs ++ x ∷ []) ≡ count_by p xs + cond (p x) 1 0
count_push p xs x = fold-append (λ (n : ℕ) (y : NewVolume). n + cond (p y) 1 0) 0 xs (x ∷ [])

count_in : (p : NewVolume → Bool) (xs : List NewVolume) (x : NewVolume) → p x ≡ true → count_by p (xs ++ x ∷ []) ≡ count_by p xs + 1
count_in p xs x e = count_push p xs x ∙ ap (λ (b : Bool). count_by p xs + cond b 1 0) e

count_out : (p : NewVolume → Bool) (xs : List NewVolume) (x : NewVolume) → p x ≡ false → count_by p (xs ++ x ∷ []) ≡ count_by p xs + 0
count_out p xs x e = count_push p xs x ∙ ap (λ (b : Bool). count_by p xs + cond b 1 0) e

abbrev AddsUp : Pool → List NewVolume → Pool → Type 0
AddsUp left reserved pool = (k : DiskKind) → reserved_of k reserved + of_kind k left ≡ of_kind k pool

made_adds : (left pool : Pool) (reserved : List NewVolume) (grains : ℕ) (kind : DiskKind) → 0 < of_kind kind left → AddsUp left reserved pool →
    AddsUp (pool_without kind left) (reserved ++ record { kind = kind; grains = grains } ∷ []) pool
made_adds left pool reserved grains Flat some sum Flat = omega (arith, sum Flat, count_in (is_of_kind Flat) reserved (record { kind = Flat; grains = grains }) refl)
made_adds left pool reserved grains Flat some sum Thin = omega (arith, sum Thin, count_out (is_of_kind Thin) reserved (record { kind = Flat; grains = grains }) refl)
made_adds left pool reserved grains Thin some sum Flat = omega (arith, sum Flat, count_out (is_of_kind Flat) reserved (record { kind = Thin; grains = grains }) refl)
made_adds left pool reserved grains Thin some sum Thin = omega (arith, sum Thin, count_in (is_of_kind Thin) reserved (record { kind = Thin; grains = grains }) refl)

same_adds : (left pool : Pool) (reserved : List NewVolume) → AddsUp left reserved pool → AddsUp left (reserved ++ []) pool
same_adds left pool reserved sum = subst (λ (z : List NewVolume). AddsUp left z pool) (sym (append-nil reserved)) sum

pub disks_fit : (l : LaneOf) (es : List LaneEvent) (f : Followed) (pool : Pool) (reserved : List NewVolume) → FitsFollowed l f es → AddsUp f.told.pool reserved pool → HasDisks l pool reserved es
disks_fit l [] f pool reserved fit sum = tt
disks_fit l (Make volume grains kind ∷ es) f pool reserved fit sum =
    (omega (arith, sum kind, fit.1.0), disks_fit l es (followed_event l f (Make volume grains kind)) pool (reserved ++ record { kind = kind; grains = grains_in l grains } ∷ []) fit.3 (made_adds f.told.pool pool reserved (grains_in l grains) kind fit.1.0 sum))
disks_fit l (Remove volume ∷ es) f pool reserved fit sum = (tt, disks_fit l es (followed_event l f (Remove volume)) pool (reserved ++ []) fit.3 (same_adds f.told.pool pool reserved sum))
disks_fit l (Trigger pairs ∷ es) f pool reserved fit sum = (tt, disks_fit l es (followed_event l f (Trigger pairs)) pool (reserved ++ []) fit.3 (same_adds f.told.pool pool reserved sum))
disks_fit l (Retire m ∷ es) f pool reserved fit sum = (tt, disks_fit l es (followed_event l f (Retire m)) pool (reserved ++ []) fit.3 (same_adds f.told.pool pool reserved sum))
disks_fit l (Detach m ∷ es) f pool reserved fit sum = (tt, disks_fit l es (followed_event l f (Detach m)) pool (reserved ++ []) fit.3 (same_adds f.told.pool pool reserved sum))
disks_fit l (Split m ∷ es) f pool reserved fit sum = (tt, disks_fit l es (followed_event l f (Split m)) pool (reserved ++ []) fit.3 (same_adds f.told.pool pool reserved sum))
disks_fit l (Force m dependents ∷ es) f pool reserved fit sum = (tt, disks_fit l es (followed_event l f (Force m dependents)) pool (reserved ++ []) fit.3 (same_adds f.told.pool pool reserved sum))
disks_fit l (Drop slot ∷ es) f pool reserved fit sum = (tt, disks_fit l es (followed_event l f (Drop slot)) pool (reserved ++ []) fit.3 (same_adds f.told.pool pool reserved sum))
disks_fit l (Forget m ∷ es) f pool reserved fit sum = (tt, disks_fit l es (followed_event l f (Forget m)) pool (reserved ++ []) fit.3 (same_adds f.told.pool pool reserved sum))
disks_fit l (NoteCut m source target ∷ es) f pool reserved fit sum = (tt, disks_fit l es (followed_event l f (NoteCut m source target)) pool (reserved ++ []) fit.3 (same_adds f.told.pool pool reserved sum))
disks_fit l (Access volume access ∷ es) f pool reserved fit sum = (tt, disks_fit l es (followed_event l f (Access volume access)) pool (reserved ++ []) fit.3 (same_adds f.told.pool pool reserved sum))
disks_fit l (Work m copies cleans ∷ es) f pool reserved fit sum = (tt, disks_fit l es (followed_event l f (Work m copies cleans)) pool (reserved ++ []) fit.3 (same_adds f.told.pool pool reserved sum))
disks_fit l (Arm volume grain calls ∷ es) f pool reserved fit sum = (tt, disks_fit l es (followed_event l f (Arm volume grain calls)) pool (reserved ++ []) fit.3 (same_adds f.told.pool pool reserved sum))

pub disks_there : (l : LaneOf) (c : Chains) (g : GrainsState) (a : AccessState) (w : WorkState) (events : List LaneEvent) → FitParts l c g a w events → HasDisks l g.pool [] events
disks_there l c g a w events (f, st, fit) = disks_fit l events f g.pool [] fit (λ k. let same : of_kind k f.told.pool ≡ of_kind k g.pool = ap (of_kind k) (sym st.beside.pool_is) in omega (arith, same))

-- ---- all parts

row_of : (l : LaneOf) (e : LaneEvent) → length (new_of l e) ≤ 1
row_of l (Make volume grains kind) = omega arith
row_of l (Remove volume) = omega arith
row_of l (Trigger pairs) = omega arith
row_of l (Retire m) = omega arith
row_of l (Detach m) = omega arith
row_of l (Split m) = omega arith
row_of l (Force m dependents) = omega arith
row_of l (Drop slot) = omega arith
row_of l (Forget m) = omega arith
row_of l (NoteCut m source target) = omega arith
row_of l (Access volume access) = omega arith
row_of l (Work m copies cleans) = omega arith
row_of l (Arm volume grain calls) = omega arith

rows_of : (l : LaneOf) (es : List LaneEvent) → length (new_volumes l es) ≤ length es
rows_of l [] = omega arith
rows_of l (e ∷ es) = omega (arith, row_of l e, rows_of l es, length_both (new_of l e) (new_volumes l es))

pub is_ready : (lane lanes : ℕ) (c : Chains) (g g' : GrainsState) (a : AccessState) (w : WorkState) (events : List LaneEvent) (r : Result (Unit {0}) NoMemory) → HasRoomFor c events →
    OnOk r (HasReadied g (new_volumes (lane_of lane lanes g.grain) events) g') → length events ≤ a.room → AreKnown w.known events → WorksFirst events →
    OnOk r (IsReadyFor (lane_of lane lanes g.grain) c g' a w events)
is_ready lane lanes c g g' a w events (Err e) room is rows known works = tt
is_ready lane lanes c g g' a w events (Ok x) room is rows known works = record {
  room = room;
  beside = record {
    volumes = ap (λ (z : GrainsState). z.reserved) is.rest;
    rows = omega (arith, rows, rows_of (lane_of lane lanes g.grain) events);
    works = knows_all w.known events known works;
  };
}

pub grains_stay : (l : LaneOf) (g g' : GrainsState) (events : List LaneEvent) (r : Result (Unit {0}) NoMemory) → OnOk r (HasReadied g (new_volumes l events) g') → OnErr r (HasReadied g [] g') →
    HasReadied g g'.reserved g'
grains_stay l g g' events (Ok x) ok err = subst (λ (z : List NewVolume). HasReadied g z g') (sym (ap (λ (z : GrainsState). z.reserved) ok.rest)) ok
grains_stay l g g' events (Err e) ok err = subst (λ (z : List NewVolume). HasReadied g z g') (sym (ap (λ (z : GrainsState). z.reserved) err.rest)) err

pub none_ready : (g g' : GrainsState) (r : Result (Unit {0}) NoMemory) → OnErr r (HasReadied g [] g') → OnErr r (g'.reserved ≡ [])
none_ready g g' (Ok x) err = tt
none_ready g g' (Err e) err = ap (λ (z : GrainsState). z.reserved) err.rest

-- room changes nothing that is told
pub still_stand : (l : LaneOf) (c c' : Chains) (g g' : GrainsState) (a a' : AccessState) (w w' : WorkState) → c' ≡ record c { room = c'.room; width = c'.width } → HasReadied g g'.reserved g' →
    a'.volumes ≡ a.volumes → w'.flags ≡ w.flags → (told : LaneTold) → StandsFor l c g a w told → StandsFor l c' g' a' w' told
still_stand l c c' g g' a a' w w' chains readied volumes flags told st =
    let grains = readied.rest in
    let vs : g'.volumes ≡ g.volumes = ap (λ (z : GrainsState). z.volumes) grains in
    record {
      lane_is = ap (λ (z : Chains). z.lane) chains ∙ st.lane_is;
      lanes_are = ap (λ (z : Chains). z.lanes) chains ∙ st.lanes_are;
      sheet_is = ap (λ (z : Chains). z.sheet) chains ∙ st.sheet_is;
      beside = record {
        grain = ap (λ (z : GrainsState). z.grain) grains ∙ st.beside.grain;
        stands = subst (λ (z : List VolumeGrains). Stands told.sheet told.picture z) (sym vs) st.beside.stands;
        same = ap (map kind_of_grains) vs ∙ st.beside.same;
        volumes_are = volumes ∙ st.beside.volumes_are;
        flags_are = flags ∙ st.beside.flags_are;
        pool_is = ap (λ (z : GrainsState). z.pool) grains ∙ st.beside.pool_is;
      };
    }
