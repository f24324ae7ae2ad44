-- A volume that came gets a free disk of each lane.
use Rattle.std.proofs.Common.{◌≡◌, ◌≢◌, ℕ, suc, ◌+◌, ◌<◌, ◌≤◌, Bool, true, false, cond, not, ◌&&◌, is_some, Option, Some, None, List, [], ◌∷◌, length, inl, inr, refl, sym, ap, subst, ◌∙◌, arith}
use Rattle.std.specs.List.{filter}
use Rattle.std.proofs.lemmas.Bool.{cases_Bool, eq-eqb, ne_eqb}
use Rattle.fc_base.specs.declared.disk.DiskKind.{DiskKind}
use Rattle.fc_base.specs.declared.ids.VolId.{VolId}
use Rattle.fc_kept.specs.Disks.{NamedDisk, is_of, disk_of, is_free, is_kind}
use Rattle.fc_kept.specs.Recoverable.{disks_at}
use Rattle.fc_kept.proofs.Free.{free_is, nobodys}
use Rattle.law_crash.proofs.Disks.{find_by}

-- the disk, with the name and these grains
abbrev pub with_name : VolId → List (List ℕ) → NamedDisk → NamedDisk
with_name id grains d = record { volume = Some id; disk = record d.disk { grains = grains } }

-- the first one that is free
abbrev pub name_first : DiskKind → VolId → List (List ℕ) → List NamedDisk → List NamedDisk
name_first kind id grains [] = []
name_first kind id grains (d ∷ ds) = cond (is_free kind d) (with_name id grains d ∷ ds) (d ∷ name_first kind id grains ds)

first_by : (kind : DiskKind) (id : VolId) (grains : List (List ℕ)) (d : NamedDisk) (ds : List NamedDisk) (b : Bool) → is_free kind d ≡ b → name_first kind id grains (d ∷ ds) ≡ cond b (with_name id grains d ∷ ds) (d ∷ name_first kind id grains ds)
first_by kind id grains d ds b e = ap (λ (c : Bool). cond c (with_name id grains d ∷ ds) (d ∷ name_first kind id grains ds)) e

filter_by : (kind : DiskKind) (d : NamedDisk) (ds : List NamedDisk) (b : Bool) → is_free kind d ≡ b → filter (is_free kind) (d ∷ ds) ≡ cond b (d ∷ filter (is_free kind) ds) (filter (is_free kind) ds)
filter_by kind d ds b e = ap (λ (c : Bool). cond c (d ∷ filter (is_free kind) ds) (filter (is_free kind) ds)) e

-- a free disk is no volume's
free_of_none : (kind : DiskKind) (d : NamedDisk) (v : ℕ) → is_free kind d ≡ true → is_of v d ≡ false
free_of_none kind d v e = nobodys v d (free_is kind d e).0

-- ---- whose disk it is then

pub record IsNamed (kind : DiskKind) (grains : List (List ℕ)) (o : Option NamedDisk) : Type 0 where
  pub disk : NamedDisk
  pub is_there : o ≡ Some disk
  pub kind_is : disk.disk.kind ≡ kind
  pub grains_are : disk.disk.grains ≡ grains

named_now : (kind : DiskKind) (grains : List (List ℕ)) (o p : Option NamedDisk) → p ≡ o → IsNamed kind grains o → IsNamed kind grains p
named_now kind grains o p e n = record { disk = n.disk; is_there = e ∙ n.is_there; kind_is = n.kind_is; grains_are = n.grains_are }

pub first_named : (kind : DiskKind) (id : VolId) (grains : List (List ℕ)) (ds : List NamedDisk) → 0 < length (filter (is_free kind) ds) → disk_of ds id.0 ≡ None → IsNamed kind grains (disk_of (name_first kind id grains ds) id.0)
first_named kind id grains [] lt none = absurd (omega (arith, lt))
first_named kind id grains (d ∷ ds) lt none =
    elim (cases_Bool (is_free kind d)) [
      | inl e ↦
          let now : disk_of (name_first kind id grains (d ∷ ds)) id.0 ≡ Some (with_name id grains d) =
          ap (λ (xs : List NamedDisk). disk_of xs id.0) (first_by kind id grains d ds true e) ∙ find_by id.0 (with_name id grains d) ds true (eq-eqb id.0 id.0 refl) in
          record { disk = with_name id grains d; is_there = now; kind_is = (free_is kind d e).1; grains_are = refl }
      | inr e ↦
          let other : is_of id.0 d ≡ false = elim (cases_Bool (is_of id.0 d)) [
            | inl t ↦ absurd (let q : Some d ≡ None = sym (find_by id.0 d ds true t) ∙ none in cc)
            | inr f ↦ f
          ] in
          let some : 0 < length (filter (is_free kind) ds) = subst (λ (xs : List NamedDisk). 0 < length xs) (filter_by kind d ds false e) lt in
          named_now kind grains (disk_of (name_first kind id grains ds) id.0) (disk_of (name_first kind id grains (d ∷ ds)) id.0)
          (ap (λ (xs : List NamedDisk). disk_of xs id.0) (first_by kind id grains d ds false e) ∙ find_by id.0 d (name_first kind id grains ds) false other)
          (first_named kind id grains ds some (sym (find_by id.0 d ds false other) ∙ none))
    ]

pub others_named : (kind : DiskKind) (id : VolId) (grains : List (List ℕ)) (ds : List NamedDisk) (x : ℕ) → x ≢ id.0 → disk_of (name_first kind id grains ds) x ≡ disk_of ds x
others_named kind id grains [] x ne = refl
others_named kind id grains (d ∷ ds) x ne =
    elim (cases_Bool (is_free kind d)) [
      | inl e ↦
          ap (λ (xs : List NamedDisk). disk_of xs x) (first_by kind id grains d ds true e)
          ∙ (find_by x (with_name id grains d) ds false (ne_eqb id.0 x (λ q. ne (sym q))) ∙ sym (find_by x d ds false (free_of_none kind d x e)))
      | inr e ↦
          let rest : disk_of (name_first kind id grains ds) x ≡ disk_of ds x = others_named kind id grains ds x ne in
          ap (λ (xs : List NamedDisk). disk_of xs x) (first_by kind id grains d ds false e) ∙ ap (λ (o : Option NamedDisk). cond (is_of x d) (Some d) o) rest
    ]

-- ---- how many are free then

abbrev pub free_count : DiskKind → List NamedDisk → ℕ
free_count kind ds = length (filter (is_free kind) ds)

count_by : (kind : DiskKind) (d : NamedDisk) (ds : List NamedDisk) (b : Bool) → is_free kind d ≡ b → free_count kind (d ∷ ds) ≡ cond b (suc (free_count kind ds)) (free_count kind ds)
count_by kind d ds true e = ap (λ (xs : List NamedDisk). length xs) (filter_by kind d ds true e)
count_by kind d ds false e = ap (λ (xs : List NamedDisk). length xs) (filter_by kind d ds false e)

pub one_less : (kind : DiskKind) (id : VolId) (grains : List (List ℕ)) (ds : List NamedDisk) → free_count kind ds ≤ free_count kind (name_first kind id grains ds) + 1
one_less kind id grains [] = omega arith
one_less kind id grains (d ∷ ds) =
    elim (cases_Bool (is_free kind d)) [
      | inl e ↦
          let now : free_count kind (name_first kind id grains (d ∷ ds)) ≡ free_count kind ds =
          ap (free_count kind) (first_by kind id grains d ds true e) ∙ count_by kind (with_name id grains d) ds false refl in
          let was = count_by kind d ds true e in
          omega (arith, now, was)
      | inr e ↦
          let now : free_count kind (name_first kind id grains (d ∷ ds)) ≡ free_count kind (name_first kind id grains ds) =
          ap (free_count kind) (first_by kind id grains d ds false e) ∙ count_by kind d (name_first kind id grains ds) false e in
          let was = count_by kind d ds false e in
          let rest = one_less kind id grains ds in
          omega (arith, now, was, rest)
    ]

-- of another kind as many as before
free_by : (kind : DiskKind) (d : NamedDisk) (other : DiskKind) → is_kind other kind ≡ false → is_free kind d ≡ true → is_free other d ≡ false
free_by kind d other ne e = let f = free_is kind d e in λ i. not (is_some (f.0 i)) && (ap (is_kind other) f.1 ∙ ne) i

pub no_less : (kind other : DiskKind) (id : VolId) (grains : List (List ℕ)) (ds : List NamedDisk) → is_kind other kind ≡ false → free_count other ds ≤ free_count other (name_first kind id grains ds)
no_less kind other id grains [] ne = omega arith
no_less kind other id grains (d ∷ ds) ne =
    elim (cases_Bool (is_free kind d)) [
      | inl e ↦
          let now : free_count other (name_first kind id grains (d ∷ ds)) ≡ free_count other ds =
          ap (free_count other) (first_by kind id grains d ds true e) ∙ count_by other (with_name id grains d) ds false refl in
          let was = count_by other d ds false (free_by kind d other ne e) in
          omega (arith, now, was)
      | inr e ↦
          let rest = no_less kind other id grains ds ne in
          let split : free_count other (name_first kind id grains (d ∷ ds)) ≡ free_count other (d ∷ name_first kind id grains ds) = ap (free_count other) (first_by kind id grains d ds false e) in
          elim (cases_Bool (is_free other d)) [
            | inl t ↦
                let now = count_by other d (name_first kind id grains ds) true t in
                let was = count_by other d ds true t in
                omega (arith, split, now, was, rest)
            | inr f ↦
                let now = count_by other d (name_first kind id grains ds) false f in
                let was = count_by other d ds false f in
                omega (arith, split, now, was, rest)
          ]
    ]

-- ---- in all lanes

abbrev pub name_lanes : DiskKind → VolId → (ℕ → List (List ℕ)) → List (List NamedDisk) → List (List NamedDisk)
name_lanes kind id grains [] = []
name_lanes kind id grains (ds ∷ rest) = name_first kind id (grains 0) ds ∷ name_lanes kind id (λ i. grains (suc i)) rest

pub lane_named : (kind : DiskKind) (id : VolId) (grains : ℕ → List (List ℕ)) (all : List (List NamedDisk)) (i : ℕ) → disks_at (name_lanes kind id grains all) i ≡ name_first kind id (grains i) (disks_at all i)
lane_named kind id grains [] i = refl
lane_named kind id grains (ds ∷ rest) ℕ.zero = refl
lane_named kind id grains (ds ∷ rest) (ℕ.suc i) = lane_named kind id (λ j. grains (suc j)) rest i

pub as_many_lanes : (kind : DiskKind) (id : VolId) (grains : ℕ → List (List ℕ)) (all : List (List NamedDisk)) → length (name_lanes kind id grains all) ≡ length all
as_many_lanes kind id grains [] = refl
as_many_lanes kind id grains (ds ∷ rest) = ap suc (as_many_lanes kind id (λ i. grains (suc i)) rest)
