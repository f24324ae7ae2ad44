-- The disks that a lane gives back, with their names.
use Rattle.std.proofs.Common.{◌≡◌, ℕ, zero, suc, ◌-◌, ◌<◌, ◌≤◌, cond, Option, Some, None, List, [], ◌∷◌, ◌++◌, length, map, drop, get_or, reverse, slice_get, Contains, inl, inr, refl, sym, ap, subst, ◌∙◌, arith}
use Rattle.std.specs.List.{All, AllZip}
use Rattle.std.specs.Prelude.{ltb}
use Rattle.std.proofs.lemmas.Grind.{reverse_onto}
use Rattle.std.proofs.lemmas.List.Elements.{All-cons, All-map, All-nil}
use Rattle.std.proofs.lemmas.List.{append-nil, append_assoc, get_or-reverse, length-map, length-reverse, map-append}
use Rattle.std.proofs.lemmas.Option.{slice_get-get_or, slice_get_past}
use Rattle.fc_base.specs.declared.ids.VolId.{VolId}
use Rattle.fc_base.specs.declared.volume.Volume.{Volume}
use Rattle.fc_decided.proofs.Lists.{in_cases, none_in}
use Rattle.fc_grains.specs.Grains.{AreAllOf, GrainsState, HasWholeGrains, pool_of, stopped}
use Rattle.fc_grains.specs.Volumes.{HoldAll, VolumeGrains}
use Rattle.fc_kept.specs.Disks.{NamedDisk}
use Rattle.fc_lane.specs.Lane.{LaneView}
use Rattle.fc_mdisk.specs.Disk.{DiskState}
use Rattle.fc_mdisk.specs.Disks.{calls_of, faults_of}
use Rattle.fc_held.specs.Held.{HasNoName, HeldBy, HoldAllOf, HoldLane, name_in, name_of}

-- ---- the name at a place

pub past_name : (vs : List Volume) (named place : ℕ) → length vs ≤ place → None ≡ name_in vs named place
past_name vs named place le =
    sym (ap (name_of named) (slice_get_past (reverse vs) place (subst (λ (n : ℕ). n ≤ place) (sym (length-reverse vs)) le)))

pub name_there : (vs : List Volume) (named place : ℕ) (d : Volume) → place < length vs →
    (if_known : Option VolId) → if_known ≡ name_of named (Some (get_or vs (length vs - 1 - place) d)) → if_known ≡ name_in vs named place
name_there vs named place d lt o e =
    e
    ∙ (ap (λ (v : Volume). name_of named (Some v)) (sym (get_or-reverse vs place d lt))
    ∙ sym (ap (name_of named) (slice_get-get_or (reverse vs) place d (subst (λ (n : ℕ). place < n) (sym (length-reverse vs)) lt))))

-- ---- disks with the names of these volumes, in order; behind them disks without a name

abbrev pub with_name : Option VolId → DiskState → NamedDisk
with_name o d = record { volume = o; disk = d }

abbrev pub with_names : ℕ → List Volume → List DiskState → List NamedDisk
with_names named [] ds = map (with_name None) ds
with_names named (v ∷ vs) [] = []
with_names named (v ∷ vs) (d ∷ ds) = with_name (name_of named (Some v)) d ∷ with_names named vs ds

pub no_disks : (named : ℕ) (vs : List Volume) → with_names named vs [] ≡ []
no_disks named [] = refl
no_disks named (v ∷ vs) = refl

pub next_named : (named place : ℕ) (vs : List Volume) (d : DiskState) (ds : List DiskState) →
    with_names named (drop place vs) (d ∷ ds) ≡ with_name (name_of named (slice_get vs place)) d ∷ with_names named (drop (suc place) vs) ds
next_named named zero [] d ds = refl
next_named named (suc place) [] d ds = refl
next_named named zero (v ∷ vs) d ds = refl
next_named named (suc place) (v ∷ vs) d ds = next_named named place vs d ds

parted : (named : ℕ) (vs : List Volume) (own rest : List DiskState) → length own ≡ length vs →
    with_names named vs (own ++ rest) ≡ with_names named vs own ++ map (with_name None) rest
parted named [] [] rest e = refl
parted named [] (d ∷ own) rest e = absurd (omega (arith, e))
parted named (v ∷ vs) [] rest e = absurd (omega (arith, e))
parted named (v ∷ vs) (d ∷ own) rest e = ap (λ (ds : List NamedDisk). with_name (name_of named (Some v)) d ∷ ds) (parted named vs own rest (omega (arith, e)))

-- ---- they are what the lane holds

abbrev numbers_held : List VolumeGrains → List VolId
numbers_held xs = map (λ (x : VolumeGrains). x.volume) xs

abbrev numbers_of : List Volume → List VolId
numbers_of vs = map (λ (v : Volume). v.id) vs

as_many : (xs : List VolumeGrains) (own : List DiskState) → HoldAll xs own → length own ≡ length xs
as_many [] [] h = refl
as_many [] (d ∷ own) h = absurd h
as_many (x ∷ xs) [] h = absurd h
as_many (x ∷ xs) (d ∷ own) h = ap suc (as_many xs own h.1)

held_named : (named : ℕ) (xs : List VolumeGrains) (vs : List Volume) (own : List DiskState) → numbers_held xs ≡ numbers_of vs → HoldAll xs own →
    AllZip (HeldBy named) xs (with_names named vs own)
held_named named [] [] [] e h = tt
held_named named [] [] (d ∷ own) e h = absurd h
held_named named [] (v ∷ vs) own e h = absurd cc
held_named named (x ∷ xs) [] own e h = absurd cc
held_named named (x ∷ xs) (v ∷ vs) [] e h = absurd h
held_named named (x ∷ xs) (v ∷ vs) (d ∷ own) e h =
    let same : x.volume ≡ v.id = cc in
    let rest : numbers_held xs ≡ numbers_of vs = cc in
    (record { name = ap (λ (i : VolId). cond (ltb i.0 named) (Some i) None) (sym same); holds = h.0 }, held_named named xs vs own rest h.1)

whole_named : (P : DiskState → Type 0) (named : ℕ) (vs : List Volume) (ds : List DiskState) → All P ds → All (λ (d : NamedDisk). P d.disk) (with_names named vs ds)
whole_named P named [] ds all = All-map (λ (d : NamedDisk). P d.disk) (with_name None) ds all
whole_named P named (v ∷ vs) [] all = All-nil (λ (d : NamedDisk). P d.disk)
whole_named P named (v ∷ vs) (d ∷ ds) all =
    All-cons (λ (x : NamedDisk). P x.disk) (with_name (name_of named (Some v)) d) (with_names named vs ds) (all 0 d (omega arith))
    (whole_named P named vs ds (λ k x within. all (suc k) x (omega arith)))

map_reverse : {X Y : Type 0} (f : X → Y) (xs : List X) → map f (reverse xs) ≡ reverse (map f xs)
map_reverse f [] = refl
map_reverse f (x ∷ xs) =
    ap (map f) (reverse_onto xs x []) ∙ (map-append f (reverse xs) (x ∷ [])
    ∙ (ap (λ ys. ys ++ (f x ∷ [])) (map_reverse f xs) ∙ sym (reverse_onto (map f xs) (f x) [])))

numbers_back : (xs : List VolumeGrains) (vs : List Volume) → numbers_held xs ≡ numbers_of vs → numbers_held (reverse xs) ≡ numbers_of (reverse vs)
numbers_back xs vs e =
    map_reverse (λ (x : VolumeGrains). x.volume) xs ∙ (ap (reverse {A = VolId}) e ∙ sym (map_reverse (λ (v : Volume). v.id) vs))

pub same_disks : (ds : List DiskState) → map (λ (d : NamedDisk). d.disk) (map (with_name None) ds) ≡ ds
same_disks [] = refl
same_disks (d ∷ ds) = ap (λ (xs : List DiskState). d ∷ xs) (same_disks ds)

named_disks : (named : ℕ) (vs : List Volume) (ds : List DiskState) → map (λ (d : NamedDisk). d.disk) (with_names named vs ds) ≡ ds
named_disks named [] ds = same_disks ds
named_disks named (v ∷ vs) [] = refl
named_disks named (v ∷ vs) (d ∷ ds) = ap (λ (xs : List DiskState). d ∷ xs) (named_disks named vs ds)

pub without_names : (ds : List DiskState) (d : NamedDisk) → Contains (map (with_name None) ds) d → HasNoName d
without_names [] d c = absurd (none_in d c)
without_names (x ∷ ds) d c = elim (in_cases (with_name None x) d (map (with_name None) ds) c) [
  | inl same ↦ ap (λ (z : NamedDisk). z.volume) (sym same)
  | inr later ↦ without_names ds d later
]

-- what a lane counted, its disks counted
at_most : (n c : ℕ) → stopped n ≡ c → c ≤ n
at_most n c is = grind (arith, is)

pub lane_held : (named : ℕ) (volumes : List Volume) (g : GrainsState) (disks : List DiskState) (back : List NamedDisk) →
    back ≡ with_names named (reverse volumes) disks → AreAllOf g disks → numbers_held g.volumes ≡ numbers_of volumes → HoldLane named g back
lane_held named volumes g disks back e all has =
    let numbers : numbers_held (reverse g.volumes) ≡ numbers_of (reverse volumes) = numbers_back g.volumes volumes has in
    let count : length all.own ≡ length (reverse volumes) =
    as_many (reverse g.volumes) all.own all.held
    ∙ (sym (length-map (reverse g.volumes) (λ (x : VolumeGrains). x.volume))
    ∙ (ap (length {A = VolId}) numbers ∙ length-map (reverse volumes) (λ (v : Volume). v.id))) in
    let are : map (λ (d : NamedDisk). d.disk) back ≡ disks = ap (map (λ (d : NamedDisk). d.disk)) e ∙ named_disks named (reverse volumes) disks in
    record {
      own = with_names named (reverse volumes) all.own;
      rest = map (with_name None) (g.pooled ++ g.aside);
      in_order =
          e
          ∙ (ap (with_names named (reverse volumes)) all.in_order ∙ parted named (reverse volumes) all.own (g.pooled ++ g.aside) count);
      held = held_named named (reverse g.volumes) (reverse volumes) all.own numbers all.held;
      whole = whole_named (HasWholeGrains g.grain) named (reverse volumes) all.own all.whole;
      free = same_disks (g.pooled ++ g.aside);
      unnamed = without_names (g.pooled ++ g.aside);
      kinds = ap pool_of are ∙ all.kinds;
      calls = at_most (calls_of (map (λ (d : NamedDisk). d.disk) back)) g.calls (ap (λ (ds : List DiskState). stopped (calls_of ds)) are ∙ all.calls);
      faults = at_most (faults_of (map (λ (d : NamedDisk). d.disk) back)) g.faults (ap (λ (ds : List DiskState). stopped (faults_of ds)) are ∙ all.faults);
    }

-- ---- one disk after the other

pub one_named : (named place next : ℕ) (vs : List Volume) (d : DiskState) (rest : List DiskState) (o : Option VolId) (new : NamedDisk) (before after all : List NamedDisk) →
    next ≡ suc place → o ≡ name_of named (slice_get vs place) → new ≡ with_name o d → after ≡ before ++ new ∷ [] →
    before ++ with_names named (drop place vs) (d ∷ rest) ≡ all → after ++ with_names named (drop next vs) rest ≡ all
one_named named place next vs d rest o new before after all n name is pushed so =
    let left : List NamedDisk = with_names named (drop next vs) rest in
    let here : new ∷ left ≡ with_names named (drop place vs) (d ∷ rest) =
    ap (λ (z : NamedDisk). z ∷ left) (is ∙ ap (λ (p : Option VolId). with_name p d) name)
    ∙ (ap (λ (k : ℕ). with_name (name_of named (slice_get vs place)) d ∷ with_names named (drop k vs) rest) n ∙ sym (next_named named place vs d rest)) in
    ap (λ (zs : List NamedDisk). zs ++ left) pushed ∙ (append_assoc before (new ∷ []) left ∙ (ap (λ (zs : List NamedDisk). before ++ zs) here ∙ so))

pub all_named : (named place : ℕ) (vs : List Volume) (back all : List NamedDisk) → back ++ with_names named (drop place vs) [] ≡ all → back ≡ all
all_named named place vs back all so =
    sym (append-nil back) ∙ (ap (λ (zs : List NamedDisk). back ++ zs) (sym (no_disks named (drop place vs))) ∙ so)

-- ---- lane by lane

abbrev pub HoldsLane : ℕ → LaneView → List NamedDisk → Type 0
HoldsLane named v ds = HoldLane named v.grains ds

pub zip_push : {X Y : Type 0} (R : X → Y → Type 0) (xs : List X) (ys : List Y) (x : X) (y : Y) → AllZip R xs ys → R x y → AllZip R (xs ++ x ∷ []) (ys ++ y ∷ [])
zip_push R [] [] x y z r = (r, tt)
zip_push R [] (b ∷ ys) x y z r = absurd z
zip_push R (a ∷ xs) [] x y z r = absurd z
zip_push R (a ∷ xs) (b ∷ ys) x y z r = (z.0, zip_push R xs ys x y z.1 r)

zip_count : {X Y : Type 0} (R : X → Y → Type 0) (xs : List X) (ys : List Y) → AllZip R xs ys → length ys ≡ length xs
zip_count R [] [] z = refl
zip_count R [] (b ∷ ys) z = absurd z
zip_count R (a ∷ xs) [] z = absurd z
zip_count R (a ∷ xs) (b ∷ ys) z = ap suc (zip_count R xs ys z.1)

zip_at : {X Y : Type 0} (R : X → Y → Type 0) (xs : List X) (ys : List Y) (k : ℕ) (d : X) (e : Y) → AllZip R xs ys → k < length xs → R (get_or xs k d) (get_or ys k e)
zip_at R [] ys k d e z lt = absurd (omega (arith, lt))
zip_at R (a ∷ xs) [] k d e z lt = absurd z
zip_at R (a ∷ xs) (b ∷ ys) zero d e z lt = z.0
zip_at R (a ∷ xs) (b ∷ ys) (suc k) d e z lt = zip_at R xs ys k d e z.1 (omega (arith, lt))

pub lanes_held : (named : ℕ) (done lanes : List LaneView) (ds : List (List NamedDisk)) → done ++ [] ≡ lanes → AllZip (HoldsLane named) done ds → HoldAllOf named lanes ds
lanes_held named done lanes ds e z =
    let zip : AllZip (HoldsLane named) lanes ds = subst (λ (xs : List LaneView). AllZip (HoldsLane named) xs ds) (sym (append-nil done) ∙ e) z in
    record {
      count = zip_count (HoldsLane named) lanes ds zip;
      each = λ i d lt. zip_at (HoldsLane named) lanes ds i d [] zip lt;
    }

pub first_of : {X : Type 0} (P : X → Type 0) (x : X) (xs : List X) → All P (x ∷ xs) → P x
first_of P x xs all = all 0 x (omega arith)

pub rest_of : {X : Type 0} (P : X → Type 0) (x : X) (xs : List X) → All P (x ∷ xs) → All P xs
rest_of P x xs all k d lt = all (suc k) d (omega (arith, lt))

pub moved_on : {X : Type 0} (done : List X) (x : X) (rest all : List X) → done ++ x ∷ rest ≡ all → (done ++ x ∷ []) ++ rest ≡ all
moved_on done x rest all e = append_assoc done (x ∷ []) rest ∙ e

-- ---- the end of a queue

pub none_left : {X : Type 0} (xs ys : List X) → xs ≡ ys → ys ≡ drop 1 xs → xs ≡ []
none_left [] ys e f = refl
none_left {X} (x ∷ xs) ys e f = absurd (omega (arith, ap (length {A = X}) e, ap (length {A = X}) f))
