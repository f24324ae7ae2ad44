-- Data can be written: what disks hold behind a write, and behind all actions of an entry.
use Rattle.std.proofs.Common.{◌≡◌, ◌≢◌, ℕ, suc, ◌<◌, ◌==◌, Bool, true, false, cond, not, ◌&&◌, is_some, Option, Some, None, IsSome, option_map, List, [], ◌∷◌, ◌++◌, length, set, map, ◌⊎◌, inl, inr, refl, sym, ap, subst, ◌∙◌, arith, length-set, get_or-set_same, get_or-set_other, mod-lt}
use Rattle.std.specs.List.{AllZip, filter}
use Rattle.std.proofs.lemmas.Bool.{cases_Bool, cases_eq, cond_both, eqb-true}
use Rattle.fc_base.specs.Sheet.{Sheet}
use Rattle.fc_base.specs.Tables.{Tables, volume_with}
use Rattle.fc_base.specs.declared.disk.DiskKind.{DiskKind}
use Rattle.fc_base.specs.declared.ids.VolId.{VolId}
use Rattle.fc_base.specs.declared.request.Request.{Request}
use Rattle.fc_base.specs.declared.size.GrainSize.{GrainSize}
use Rattle.fc_base.specs.declared.volume.Volume.{Volume}
use Rattle.fc_decided.proofs.Lists.{find_from}
use Rattle.fc_entry.specs.Picture.{Content, Bytes}
use Rattle.fc_kept.specs.Actions.{Action, Action.Data, Action.Note, Action.Fold}
use Rattle.fc_kept.specs.Disks.{NamedDisk, is_of, disk_of, on_disk, is_free, is_kind}
use Rattle.fc_kept.specs.Images.{grains_told, size_in}
use Rattle.fc_kept.specs.Kept.{sheet_kept}
use Rattle.fc_kept.specs.Recoverable.{disks_at}
use Rattle.fc_legal.specs.Whole.{Whole, lane_of_grain, lane_at, lanes}
use Rattle.fc_mdisk.specs.Disk.{DiskState}
use Rattle.fc_parts.proofs.Numbers.{grain_below, number_of_place}
use Rattle.fc_rules.specs.LaneTold.{LaneOf, place_of, number_at, grains_in}
use Rattle.fc_rules.specs.Steps.{DiskStep}
use Rattle.law_crash.specs.Doing.{SameDisk, IsWritten, StepWrites, number_of, content_of, noted, with_kept, with_disks, Did}
use Rattle.law_crash.specs.Leaving.{AreFit, HaveTheirDisks}
use Rattle.law_crash.specs.Points.{Point}
use Rattle.law_crash.proofs.Disks.{same_name, find_by, fit_still}
use Rattle.law_crash.proofs.Leaving.{some_volume}

-- ---- a disk

abbrev with_grain : ℕ → List ℕ → NamedDisk → NamedDisk
with_grain place bytes d = record d { disk = record d.disk { grains = set d.disk.grains place bytes } }

abbrev put : ℕ → ℕ → List ℕ → NamedDisk → NamedDisk
put v place bytes d = cond (is_of v d) (with_grain place bytes d) d

put_same : (v place : ℕ) (bytes : List ℕ) (d : NamedDisk) → SameDisk d (put v place bytes d)
put_same v place bytes d =
    cond_both (is_of v d) (with_grain place bytes d) d (SameDisk d)
    (λ e. record { volume = refl; kind = refl; grains = length-set d.disk.grains place bytes }) (λ e. record { volume = refl; kind = refl; grains = refl })

puts_same : (v place : ℕ) (bytes : List ℕ) (ds : List NamedDisk) → AllZip SameDisk ds (map (put v place bytes) ds)
puts_same v place bytes [] = tt
puts_same v place bytes (d ∷ ds) = (put_same v place bytes d, puts_same v place bytes ds)

all_same : (ds : List NamedDisk) → AllZip SameDisk ds ds
all_same [] = tt
all_same (d ∷ ds) = (record { volume = refl; kind = refl; grains = refl }, all_same ds)

find_put : (v place x : ℕ) (bytes : List ℕ) (ds : List NamedDisk) → disk_of (map (put v place bytes) ds) x ≡ option_map (put v place bytes) (disk_of ds x)
find_put v place x bytes [] = refl
find_put v place x bytes (d ∷ ds) =
    let f : NamedDisk → NamedDisk = put v place bytes in
    let name : is_of x (f d) ≡ is_of x d = same_name x d (f d) (put_same v place bytes d) in
    elim (cases_Bool (is_of x d)) [
      | inl e ↦ find_by x (f d) (map f ds) true (name ∙ e) ∙ ap (option_map f) (sym (find_by x d ds true e))
      | inr e ↦ find_by x (f d) (map f ds) false (name ∙ e) ∙ (find_put v place x bytes ds ∙ ap (option_map f) (sym (find_by x d ds false e)))
    ]

-- a disk has one name
name_by : (v : ℕ) (o : Option VolId) (disk : DiskState) → is_of v (record { volume = o; disk = disk }) ≡ true → (id : VolId) × (o ≡ Some id) × (id.0 ≡ v)
name_by v None disk e = absurd cc
name_by v (Some id) disk e = (id, refl, eqb-true id.0 v e)

one_name : (v x : ℕ) (d : NamedDisk) → is_of v d ≡ true → is_of x d ≡ true → x ≡ v
one_name v x d e q =
    let a = name_by v d.volume d.disk e in
    let b = name_by x d.volume d.disk q in
    let same : a.0 ≡ b.0 = (let s : Some a.0 ≡ Some b.0 = sym a.1 ∙ b.1 in cc) in
    sym b.2 ∙ (ap (λ (id : VolId). id.0) (sym same) ∙ a.2)

pub found_name : (v : ℕ) (ds : List NamedDisk) (d : NamedDisk) → disk_of ds v ≡ Some d → is_of v d ≡ true
found_name v ds d e = (find_from (is_of v) ds d e).1

put_else : (l : LaneOf) (v place x p : ℕ) (bytes : List ℕ) (d : NamedDisk) → is_of x d ≡ true → (x ≢ v) ⊎ (p ≢ place) → on_disk l (Some (put v place bytes d)) p ≡ on_disk l (Some d) p
put_else l v place x p bytes d named other =
    elim (cases_Bool (is_of v d)) [
      | inr e ↦ ap (λ (b : Bool). on_disk l (Some (cond b (with_grain place bytes d) d)) p) e
      | inl e ↦ elim other [
        | inl n ↦ absurd (n (one_name v x d e named))
        | inr n ↦ ap (λ (b : Bool). on_disk l (Some (cond b (with_grain place bytes d) d)) p) e ∙ ap Bytes (get_or-set_other d.disk.grains place p bytes [] n)
      ]
    ]

shown_else : (l : LaneOf) (v place x p : ℕ) (bytes : List ℕ) (ds : List NamedDisk) (o : Option NamedDisk) → disk_of ds x ≡ o → (x ≢ v) ⊎ (p ≢ place) → on_disk l (option_map (put v place bytes) o) p ≡ on_disk l o p
shown_else l v place x p bytes ds None e other = refl
shown_else l v place x p bytes ds (Some d) e other = put_else l v place x p bytes d (found_name x ds d e) other

put_here : (l : LaneOf) (v place : ℕ) (bytes : List ℕ) (d : NamedDisk) → is_of v d ≡ true → place < length d.disk.grains → on_disk l (Some (put v place bytes d)) place ≡ Bytes bytes
put_here l v place bytes d e lt =
    ap (λ (b : Bool). on_disk l (Some (cond b (with_grain place bytes d) d)) place) e ∙ ap Bytes (get_or-set_same d.disk.grains place bytes [] lt)

-- ---- all lanes

-- a place on a disk
pub record HasPlace (grain : GrainSize) (w : Whole) (v g : ℕ) (disks : List (List NamedDisk)) : Type 0 where
  pub within : lane_of_grain w g < length disks
  pub disk : NamedDisk
  pub is_there : disk_of (disks_at disks (lane_of_grain w g)) v ≡ Some disk
  pub room : place_of (lane_at grain w (lane_of_grain w g)) g < length disk.disk.grains

abbrev Written : GrainSize → Whole → ℕ → ℕ → List ℕ → List (List NamedDisk) → List (List NamedDisk)
Written grain w v g bytes disks =
    let i : ℕ = lane_of_grain w g in
    set disks i (map (put v (place_of (lane_at grain w i) g) bytes) (disks_at disks i))

pub can_be_written : (grain : GrainSize) (w : Whole) (v g : ℕ) (bytes : List ℕ) (disks : List (List NamedDisk)) → HasPlace grain w v g disks → (new : List (List NamedDisk)) × IsWritten grain w v g (Bytes bytes) disks new
can_be_written grain w v g bytes disks h =
    let i : ℕ = lane_of_grain w g in
    let l : LaneOf = lane_at grain w i in
    let place : ℕ = place_of l g in
    let f : NamedDisk → NamedDisk = put v place bytes in
    let mine : List NamedDisk = map f (disks_at disks i) in
    let new : List (List NamedDisk) = Written grain w v g bytes disks in
    let here : (j : ℕ) → j ≡ i → disks_at new j ≡ map f (disks_at disks j) = λ j e.
    subst (λ (n : ℕ). disks_at new n ≡ map f (disks_at disks n)) (sym e) (get_or-set_same disks i mine [] h.within) in
    let there : (j : ℕ) → j ≢ i → disks_at new j ≡ disks_at disks j = λ j n. get_or-set_other disks i j mine [] n in (
      new,
      record {
        count = length-set disks i mine;
        same = λ j. elim (cases_eq j i) [
          | inl e ↦ subst (λ (ds : List NamedDisk). AllZip SameDisk (disks_at disks j) ds) (sym (here j e)) (puts_same v place bytes (disks_at disks j))
          | inr n ↦ subst (λ (ds : List NamedDisk). AllZip SameDisk (disks_at disks j) ds) (sym (there j n)) (all_same (disks_at disks j))
        ];
        stored = record {
          here = ap (λ (ds : List NamedDisk). on_disk l (disk_of ds v) place) (here i refl)
              ∙ (ap (λ (o : Option NamedDisk). on_disk l o place) (find_put v place v bytes (disks_at disks i) ∙ ap (option_map f) h.is_there)
              ∙ put_here l v place bytes h.disk (found_name v (disks_at disks i) h.disk h.is_there) h.room);
          elsewhere = λ x y other.
              let j : ℕ = lane_of_grain w y in
              let m : LaneOf = lane_at grain w j in
              let p : ℕ = place_of m y in
              elim (cases_eq j i) [
                | inr n ↦ ap (λ (ds : List NamedDisk). on_disk m (disk_of ds x) p) (there j n)
                | inl e ↦
                    let apart : (x ≢ v) ⊎ (p ≢ place) = elim other [
                      | inl n ↦ inl n
                      | inr n ↦ inr (λ q. n (sym (number_of_place l y e) ∙ (ap (λ (z : ℕ). number_at l z) q ∙ number_of_place l g refl)))
                    ] in
                    ap (λ (ds : List NamedDisk). on_disk m (disk_of ds x) p) (here j e)
                    ∙ (ap (λ (o : Option NamedDisk). on_disk m o p) (find_put v place x bytes (disks_at disks j))
                    ∙ shown_else m v place x p bytes (disks_at disks j) (disk_of (disks_at disks j) x) refl apart)
              ];
        };
      },
    )

-- ---- each volume has its disk, still

pub record Disked (grain : GrainSize) (w : Whole) (disks : List (List NamedDisk)) : Type 0 where
  pub some : 0 < lanes w
  pub count : length disks ≡ lanes w
  pub fit : AreFit grain w disks
  pub have : HaveTheirDisks w disks

some_disk : (o : Option NamedDisk) → IsSome o → (d : NamedDisk) × (o ≡ Some d)
some_disk None some = absurd cc
some_disk (Some d) some = (d, refl)

below_told : (o : Option Volume) (v : Volume) (g : ℕ) → o ≡ Some v → g < grains_told o → g < v.grains
below_told o v g e lt = subst (λ (z : Option Volume). g < grains_told z) e lt

is_told : (o : Option Volume) (g : ℕ) → g < grains_told o → IsSome o
is_told None g lt = absurd (omega (arith, lt))
is_told (Some v) g lt = refl

pub has_place : (grain : GrainSize) (w : Whole) (v g : ℕ) (disks : List (List NamedDisk)) → (let id : VolId = record { 0 = v } in g < size_in w.books.tables id) → Disked grain w disks → HasPlace grain w v g disks
has_place grain w v g disks lt d =
    let id : VolId = record { 0 = v } in
    let t : Tables = w.books.tables in
    let i : ℕ = lane_of_grain w g in
    let l : LaneOf = lane_at grain w i in
    let below : i < lanes w = mod-lt g d.some in
    let il : i < length disks = subst (λ (n : ℕ). i < n) (sym d.count) below in
    let x = some_volume (volume_with t id) (is_told (volume_with t id) g lt) in
    let f = find_from (λ (y : Volume). v == y.id.0) t.volumes x.0 x.1 in
    let named : v ≡ x.0.id.0 = eqb-true v x.0.id.0 f.1 in
    let o = some_disk (disk_of (disks_at disks i) x.0.id.0) (d.have.named i x.0 il f.0) in
    let size = ((d.fit i il).named x.0 o.0 f.0 o.1).1 in
    let room : place_of l g < grains_in l x.0.grains = grain_below l below g x.0.grains refl (below_told (volume_with t id) x.0 g x.1 lt) in
    record {
      within = il;
      disk = o.0;
      is_there = ap (disk_of (disks_at disks i)) named ∙ o.1;
      room = subst (λ (n : ℕ). place_of l g < n) (sym size) room;
    }

free_still : (kind : DiskKind) (x y : NamedDisk) → SameDisk x y → is_free kind y ≡ is_free kind x
free_still kind x y s = λ i. not (is_some (s.volume i)) && is_kind kind (s.kind i)

counted_as : (x y : NamedDisk) (xs ys : List NamedDisk) (b : Bool) → length ys ≡ length xs → length (cond b (y ∷ ys) ys) ≡ length (cond b (x ∷ xs) xs)
counted_as x y xs ys true e = ap suc e
counted_as x y xs ys false e = e

pub as_many : (kind : DiskKind) (xs ys : List NamedDisk) → AllZip SameDisk xs ys → length (filter (is_free kind) ys) ≡ length (filter (is_free kind) xs)
as_many kind [] [] s = refl
as_many kind [] (y ∷ ys) s = absurd s
as_many kind (x ∷ xs) [] s = absurd s
as_many kind (x ∷ xs) (y ∷ ys) s =
    let name : is_free kind y ≡ is_free kind x = free_still kind x y s.0 in
    let rest : length (filter (is_free kind) ys) ≡ length (filter (is_free kind) xs) = as_many kind xs ys s.1 in
    ap (λ (b : Bool). length (cond b (y ∷ filter (is_free kind) ys) (filter (is_free kind) ys))) name ∙ counted_as x y (filter (is_free kind) xs) (filter (is_free kind) ys) (is_free kind x) rest

still_there : (xs ys : List NamedDisk) (v : ℕ) → AllZip SameDisk xs ys → IsSome (disk_of xs v) → IsSome (disk_of ys v)
still_there [] [] v s some = some
still_there [] (y ∷ ys) v s some = absurd s
still_there (x ∷ xs) [] v s some = absurd s
still_there (x ∷ xs) (y ∷ ys) v s some =
    let name : is_of v y ≡ is_of v x = same_name v x y s.0 in
    elim (cases_Bool (is_of v x)) [
      | inl e ↦ subst (λ (o : Option NamedDisk). IsSome o) (sym (find_by v y ys true (name ∙ e))) refl
      | inr e ↦ subst (λ (o : Option NamedDisk). IsSome o) (sym (find_by v y ys false (name ∙ e))) (still_there xs ys v s.1 (subst (λ (o : Option NamedDisk). IsSome o) (find_by v x xs false e) some))
    ]

pub disked_still : (grain : GrainSize) (w : Whole) (v g : ℕ) (content : Content) (old new : List (List NamedDisk)) → IsWritten grain w v g content old new → Disked grain w old → Disked grain w new
disked_still grain w v g content old new x d =
    let was : (i : ℕ) → i < length new → i < length old = λ i il. subst (λ (n : ℕ). i < n) x.count il in
    record {
      some = d.some;
      count = x.count ∙ d.count;
      fit = λ i il. fit_still (lane_at grain w i) (disks_at old i) (disks_at new i) w.books.tables (x.same i) (d.fit i (was i il));
      have = record {
        named = λ i y il c. still_there (disks_at old i) (disks_at new i) y.id.0 (x.same i) (d.have.named i y (was i il) c);
        free = λ i kind il. let same = as_many kind (disks_at old i) (disks_at new i) (x.same i) in let le = d.have.free i kind (was i il) in omega (arith, same, le);
      };
    }

-- ---- all actions can be done

-- a step's data are bytes, and its volume has the grain
pub record CanBeDone (grain : GrainSize) (w : Whole) (r : Request) (step : DiskStep) : Type 0 where
  pub room : let id : VolId = record { 0 = step.volume } in number_of grain r < size_in w.books.tables id
  pub bytes : List ℕ
  pub content_is : content_of grain w r step ≡ Bytes bytes

abbrev pub AreDoable : GrainSize → Whole → Request → List Action → Type 0
AreDoable grain w r [] = Unit {0}
AreDoable grain w r (Data step ∷ rest) = CanBeDone grain w r step × AreDoable grain w r rest
AreDoable grain w r (Note x ∷ rest) = AreDoable grain w r rest
AreDoable grain w r (Fold ∷ rest) = ⊥

pub record DoneTo (grain : GrainSize) (w : Whole) (r : Request) (chains : Sheet) (actions : List Action) (p : Point) : Type 0 where
  pub behind : Point
  pub did : Did grain w r chains actions p behind
  pub disked : Disked grain w behind.disks

pub can_do : (grain : GrainSize) (w : Whole) (r : Request) (chains : Sheet) (actions : List Action) (p : Point) → AreDoable grain w r actions → Disked grain w p.disks → DoneTo grain w r chains actions p
can_do grain w r chains [] p can d = record { behind = p; did = refl; disked = d }
can_do grain w r chains (Data step ∷ rest) p can d =
    let v : ℕ = step.volume in
    let g : ℕ = number_of grain r in
    let x = can_be_written grain w v g can.0.bytes p.disks (has_place grain w v g p.disks can.0.room d) in
    let writes : StepWrites grain w r step (content_of grain w r step) p.disks x.0 = subst (λ (c : Content). StepWrites grain w r step c p.disks x.0) (sym can.0.content_is) x.1 in
    let more = can_do grain w r chains rest (with_disks x.0 p) can.1 (disked_still grain w v g (content_of grain w r step) p.disks x.0 writes d) in
    record { behind = more.behind; did = (x.0, writes, more.did); disked = more.disked }
can_do grain w r chains (Note x ∷ rest) p can d =
    let more = can_do grain w r (sheet_kept chains x) rest (noted x (with_kept p.kept p)) can d in
    record { behind = more.behind; did = (p.kept, inl refl, more.did); disked = more.disked }
can_do grain w r chains (Fold ∷ rest) p can d = absurd can

pub both_doable : (grain : GrainSize) (w : Whole) (r : Request) (xs ys : List Action) → AreDoable grain w r xs → AreDoable grain w r ys → AreDoable grain w r (xs ++ ys)
both_doable grain w r [] ys first second = second
both_doable grain w r (Data step ∷ xs) ys first second = (first.0, both_doable grain w r xs ys first.1 second)
both_doable grain w r (Note x ∷ xs) ys first second = both_doable grain w r xs ys first second
both_doable grain w r (Fold ∷ xs) ys first second = absurd first

pub split_doable : (grain : GrainSize) (w : Whole) (r : Request) (xs ys : List Action) → AreDoable grain w r (xs ++ ys) → AreDoable grain w r xs × AreDoable grain w r ys
split_doable grain w r [] ys all = (tt, all)
split_doable grain w r (Data step ∷ xs) ys all = let s = split_doable grain w r xs ys all.1 in ((all.0, s.0), s.1)
split_doable grain w r (Note x ∷ xs) ys all = split_doable grain w r xs ys all
split_doable grain w r (Fold ∷ xs) ys all = absurd all
