-- How hosts reach volumes: by the one mapping that isn't idle, and as lanes are told.
use Rattle.std.proofs.Common.{◌≡◌, Bool, true, false, cond, not, ◌&&◌, List, [], ◌∷◌, map, fold, Some, refl, sym, ap, ◌∙◌, Contains, inl, inr}
use Rattle.std.specs.Prelude.{◌==◌, find}
use Rattle.std.proofs.lemmas.Bool.{cases_Bool, eqb-true, eq-eqb, and_parts, and_from, both_ways}
use Rattle.fc_base.specs.States.{access_of}
use Rattle.fc_base.specs.Tables.{Tables}
use Rattle.fc_base.specs.declared.decision.LaneEvent.{LaneEvent}
use Rattle.fc_base.specs.declared.decision.LaneEvent.TheVariants.{Make, Remove, Access as SetAccess}
use Rattle.fc_base.specs.declared.ids.VolId.{VolId}
use Rattle.fc_base.specs.declared.state.Access.{Access}
use Rattle.fc_base.specs.declared.state.Access.TheVariants.{Online}
use Rattle.fc_base.specs.declared.volume.Mapping.{Mapping}
use Rattle.fc_base.specs.declared.volume.Volume.{Volume}
use Rattle.fc_books.specs.Accesses.{is_idle, deciding, access_by, access_in}
use Rattle.fc_legal.proofs.Each.{Each}
use Rattle.fc_legal.specs.Whole.{volume_told, volumes_told}
use Rattle.fc_rules.specs.LaneTold.{LaneVolume, volumes_event}
use Rattle.fc_decided.proofs.Lists.{first_in, later_in, find_none, find_one, map_alike}
use Rattle.fc_decided.proofs.Setting.{AreOrdered, one_mapping}

-- ---- what decides

abbrev pub decides : VolId → Mapping → Bool
decides v m = (m.target.0 == v.0) && not (is_idle m.state)

pub decides_from : (v : VolId) (m : Mapping) → decides v m ≡ true → (m.target.0 ≡ v.0) × (is_idle m.state ≡ false)
decides_from v m e =
    let p = and_parts (m.target.0 == v.0) (not (is_idle m.state)) e in
    (eqb-true m.target.0 v.0 p.0, negated (is_idle m.state) p.1)
  where
    negated : (b : Bool) → not b ≡ true → b ≡ false
    negated true e = absurd cc
    negated false e = refl

pub decides_is : (v : VolId) (m : Mapping) → m.target.0 ≡ v.0 → is_idle m.state ≡ false → decides v m ≡ true
decides_is v m e busy = and_from (m.target.0 == v.0) (not (is_idle m.state)) (eq-eqb m.target.0 v.0 e) (ap not busy)

-- Of mappings with one target at most one isn't idle.
abbrev pub OneBusy : List Mapping → Type 0
OneBusy maps = (m n : Mapping) → Contains maps m → Contains maps n → m.target.0 ≡ n.target.0 → is_idle m.state ≡ false → is_idle n.state ≡ false → m.id.0 ≡ n.id.0

pub deciding_is : (t : Tables) (v : VolId) (m : Mapping) → AreOrdered t.mappings → OneBusy t.mappings → Contains t.mappings m → m.target.0 ≡ v.0 → is_idle m.state ≡ false → deciding t v ≡ Some m
deciding_is t v m o one found e busy =
    find_one (decides v) t.mappings m found (decides_is v m e busy)
    (λ n other d. let p = decides_from v n d in one_mapping t.mappings n m o other found (one n m other found (p.0 ∙ sym e) p.1 busy))

pub access_is : (t : Tables) (v : VolId) (m : Mapping) → AreOrdered t.mappings → OneBusy t.mappings → Contains t.mappings m → m.target.0 ≡ v.0 → is_idle m.state ≡ false → access_in t v ≡ access_of m.id m.state m.complete
access_is t v m o one found e busy = ap access_by (deciding_is t v m o one found e busy)

pub access_online : (t : Tables) (v : VolId) → ((m : Mapping) → Contains t.mappings m → m.target.0 ≡ v.0 → is_idle m.state ≡ true) → access_in t v ≡ Online
access_online t v idle =
    ap access_by (find_none (decides v) t.mappings (λ m found. undecided v m (idle m found)))
  where
    undecided : (v : VolId) (m : Mapping) → (m.target.0 ≡ v.0 → is_idle m.state ≡ true) → decides v m ≡ false
    undecided v m idle = elim (cases_Bool (decides v m)) [
      | inl d ↦ (let p = decides_from v m d in absurd (both_ways (is_idle m.state) p.1 (idle p.0)))
      | inr e ↦ e
    ]

-- Where each mapping with the target is as it was, so is the access.
find_mapped : (p : Mapping → Bool) (f : Mapping → Mapping) (maps : List Mapping) → ((m : Mapping) → Contains maps m → p (f m) ≡ p m) → ((m : Mapping) → Contains maps m → p m ≡ true → f m ≡ m) → find p (map f maps) ≡ find p maps
find_mapped p f [] same kept = refl
find_mapped p f (m ∷ ms) same kept =
    ap (λ b. cond b (Some (f m)) (find p (map f ms))) (same m (first_in m ms))
    ∙ by (p m) refl
    ∙ ap (λ o. cond (p m) (Some m) o) (find_mapped p f ms (λ x found. same x (later_in m x ms found)) (λ x found. kept x (later_in m x ms found)))
  where
    by : (b : Bool) → p m ≡ b → cond b (Some (f m)) (find p (map f ms)) ≡ cond b (Some m) (find p (map f ms))
    by true e = ap Some (kept m (first_in m ms) e)
    by false e = refl

pub access_kept : (t u : Tables) (f : Mapping → Mapping) (v : VolId) → u.mappings ≡ map f t.mappings → ((m : Mapping) → Contains t.mappings m → (f m).target ≡ m.target) → ((m : Mapping) → Contains t.mappings m → m.target.0 ≡ v.0 → f m ≡ m) → access_in u v ≡ access_in t v
access_kept t u f v maps targets kept =
    ap access_by (ap (find (decides v)) maps ∙ find_mapped (decides v) f t.mappings
    (λ m found. alike m found) (λ m found d. kept m found (decides_from v m d).0))
  where
    alike : (m : Mapping) → Contains t.mappings m → decides v (f m) ≡ decides v m
    alike m found = elim (cases_Bool (m.target.0 == v.0)) [
      | inl e ↦ ap (decides v) (kept m found (eqb-true m.target.0 v.0 e))
      | inr n ↦ ap (λ (x : VolId). (x.0 == v.0) && not (is_idle (f m).state)) (targets m found) ∙ ap (λ b. b && not (is_idle (f m).state)) n ∙ sym (ap (λ b. b && not (is_idle m.state)) n)
    ]

-- ---- what lanes are told

-- How a volume is reached after events.
abbrev pub reached : VolId → Access → LaneEvent → Access
reached id access (SetAccess volume now) = cond (id.0 == volume.0) now access
reached id access event = access

abbrev pub told_with : (VolId → Access) → Volume → LaneVolume
told_with access v = record { volume = v.id; kind = v.kind; access = access v.id }

-- Events of which no volume comes or goes.
abbrev pub IsWithin : LaneEvent → Type 0
IsWithin (Make volume grains kind) = ⊥
IsWithin (Remove volume) = ⊥
IsWithin event = Unit {0}

abbrev pub AreWithin : List LaneEvent → Type 0
AreWithin es = Each IsWithin es

set_access : (access : VolId → Access) (volume : VolId) (now : Access) (vs : List Volume) →
    volumes_event (map (told_with access) vs) (SetAccess volume now) ≡ map (told_with (λ id. reached id (access id) (SetAccess volume now))) vs
set_access access volume now [] = refl
set_access access volume now (v ∷ vs) = (λ k. one (v.id.0 == volume.0) k ∷ set_access access volume now vs k)
  where
    one : (b : Bool) → cond b (record (told_with access v) { access = now }) (told_with access v) ≡ record { volume = v.id; kind = v.kind; access = cond b now (access v.id) }
    one true = refl
    one false = refl

event_told : (access : VolId → Access) (vs : List Volume) (e : LaneEvent) → IsWithin e → volumes_event (map (told_with access) vs) e ≡ map (told_with (λ id. reached id (access id) e)) vs
event_told access vs (SetAccess volume now) within = set_access access volume now vs
event_told access vs (Make volume grains kind) within = absurd within
event_told access vs (Remove volume) within = absurd within
event_told access vs e within = refl

events_told : (access : VolId → Access) (vs : List Volume) (es : List LaneEvent) → AreWithin es → fold volumes_event (map (told_with access) vs) es ≡ map (told_with (λ id. fold (reached id) (access id) es)) vs
events_told access vs [] within = refl
events_told access vs (e ∷ es) within =
    ap (λ (volumes : List LaneVolume). fold volumes_event volumes es) (event_told access vs e within.0)
    ∙ events_told (λ id. reached id (access id) e) vs es within.1

-- Lanes are told the accesses of the new tables, where each volume's is what the events say.
pub volumes_through : (t u : Tables) (es : List LaneEvent) → AreWithin es → u.volumes ≡ t.volumes → ((v : Volume) → Contains t.volumes v → fold (reached v.id) (access_in t v.id) es ≡ access_in u v.id) →
    fold volumes_event (volumes_told t) es ≡ volumes_told u
volumes_through t u es within same each =
    events_told (access_in t) t.volumes es within
    ∙ map_alike (told_with (λ id. fold (reached id) (access_in t id) es)) (volume_told u) t.volumes (λ v found. ap (λ (a : Access). record { volume = v.id; kind = v.kind; access = a }) (each v found))
    ∙ ap (map (volume_told u)) (sym same)
