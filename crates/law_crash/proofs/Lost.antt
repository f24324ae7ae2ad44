-- Which grains are lost after a record, and so what is stored.
use Rattle.std.proofs.Common.{◌≡◌, ◌≢◌, ℕ, zero, suc, ◌<◌, Bool, true, false, cond, ◌==◌, Option, Some, None, List, [], ◌∷◌, length, set, map, All, Contains, refl, sym, ap, subst, ◌∙◌, arith, ◌⊎◌, inl, inr, get_or-set_same, get_or-set_other}
use Rattle.std.proofs.lemmas.Bool.{cases_eq, eq-eqb, ne_eqb, eqb-true}
use Rattle.fc_base.specs.Tables.{Tables, volume_with}
use Rattle.fc_base.specs.declared.ids.VolId.{VolId}
use Rattle.fc_base.specs.declared.size.GrainSize.{GrainSize}
use Rattle.fc_base.specs.declared.volume.Volume.{Volume}
use Rattle.fc_changed.specs.Notes.{has}
use Rattle.fc_decided.proofs.Lists.{first_in, later_in, in_cases, none_in, map_in, find_from}
use Rattle.fc_entry.specs.Picture.{Content, Lost}
use Rattle.fc_legal.specs.Whole.{Whole}
use Rattle.fc_pictures.specs.Law.{StoredAt}
use Rattle.fc_rules.specs.Shows.{Stored}
use Rattle.fc_kept.specs.Disks.{NamedDisk}
use Rattle.fc_kept.specs.Kept.{LostGrains, Kept, is_lost_in, lost_put}
use Rattle.fc_kept.specs.Images.{grains_told, size_in}
use Rattle.fc_kept.specs.Sound.{AreLost}
use Rattle.law_crash.specs.Points.{Point, on_disks, stored_by}

-- ---- one row

pub row_of : (row : LostGrains) (rows : List LostGrains) (v g : ℕ) (b : Bool) → (row.volume == v) ≡ b → is_lost_in (row ∷ rows) v g ≡ cond b (has row.lost g) (is_lost_in rows v g)
row_of row rows v g b e = ap (λ (z : Bool). cond z (has row.lost g) (is_lost_in rows v g)) e

put_row : (v g : ℕ) (b : Bool) (row : LostGrains) (z : Bool) → (row.volume == v) ≡ z → lost_put v g b row ≡ cond z (record row { lost = set row.lost g b }) row
put_row v g b row z e = ap (λ (x : Bool). cond x (record row { lost = set row.lost g b }) row) e

-- ---- elsewhere nothing changed

put_else : (row : LostGrains) (v g w y : ℕ) (b rest : Bool) → row.volume ≡ v → (w ≢ v) ⊎ (y ≢ g) →
    cond (row.volume == w) (has (set row.lost g b) y) rest ≡ cond (row.volume == w) (has row.lost y) rest
put_else row v g w y b rest e other =
    elim other [
      | inr ne ↦ ap (λ (z : Bool). cond (row.volume == w) z rest) (get_or-set_other row.lost g y b false ne)
      | inl ne ↦ let f : (row.volume == w) ≡ false = ne_eqb row.volume w (λ q. ne (sym q ∙ e)) in
          ap (λ (z : Bool). cond z (has (set row.lost g b) y) rest) f ∙ sym (ap (λ (z : Bool). cond z (has row.lost y) rest) f)
    ]

pub lost_elsewhere : (v g : ℕ) (b : Bool) (rows : List LostGrains) (w y : ℕ) → (w ≢ v) ⊎ (y ≢ g) → is_lost_in (map (lost_put v g b) rows) w y ≡ is_lost_in rows w y
lost_elsewhere v g b [] w y other = refl
lost_elsewhere v g b (row ∷ rows) w y other =
    elim (cases_eq row.volume v) [
      | inr ne ↦ ap (λ (z : LostGrains). is_lost_in (z ∷ map (lost_put v g b) rows) w y) (put_row v g b row false (ne_eqb row.volume v ne))
          ∙ ap (λ (z : Bool). cond (row.volume == w) (has row.lost y) z) (lost_elsewhere v g b rows w y other)
      | inl e ↦ ap (λ (z : LostGrains). is_lost_in (z ∷ map (lost_put v g b) rows) w y) (put_row v g b row true (eq-eqb row.volume v e))
          ∙ (ap (λ (z : Bool). cond (row.volume == w) (has (set row.lost g b) y) z) (lost_elsewhere v g b rows w y other)
          ∙ put_else row v g w y b (is_lost_in rows w y) e other)
    ]

-- ---- there it is whole, or lost

cleared : (xs : List Bool) (g : ℕ) → has (set xs g false) g ≡ false
cleared [] g = refl
cleared (x ∷ xs) zero = refl
cleared (x ∷ xs) (suc g) = cleared xs g

pub whole_here : (v g : ℕ) (rows : List LostGrains) → is_lost_in (map (lost_put v g false) rows) v g ≡ false
whole_here v g [] = refl
whole_here v g (row ∷ rows) =
    let rest : List LostGrains = map (lost_put v g false) rows in
    elim (cases_eq row.volume v) [
      | inr ne ↦ ap (λ (z : LostGrains). is_lost_in (z ∷ rest) v g) (put_row v g false row false (ne_eqb row.volume v ne))
          ∙ (row_of row rest v g false (ne_eqb row.volume v ne) ∙ whole_here v g rows)
      | inl e ↦ let new : LostGrains = record row { lost = set row.lost g false } in
          ap (λ (z : LostGrains). is_lost_in (z ∷ rest) v g) (put_row v g false row true (eq-eqb row.volume v e))
          ∙ (row_of new rest v g true (eq-eqb row.volume v e) ∙ cleared row.lost g)
    ]

pub lost_here : (v g : ℕ) (rows : List LostGrains) → Contains (map (λ (row : LostGrains). row.volume) rows) v → ((row : LostGrains) → Contains rows row → row.volume ≡ v → g < length row.lost) →
    is_lost_in (map (lost_put v g true) rows) v g ≡ true
lost_here v g [] there sizes = absurd (none_in v there)
lost_here v g (row ∷ rows) there sizes =
    let rest : List LostGrains = map (lost_put v g true) rows in
    elim (cases_eq row.volume v) [
      | inl e ↦ let new : LostGrains = record row { lost = set row.lost g true } in
          ap (λ (z : LostGrains). is_lost_in (z ∷ rest) v g) (put_row v g true row true (eq-eqb row.volume v e))
          ∙ (row_of new rest v g true (eq-eqb row.volume v e) ∙ get_or-set_same row.lost g true false (sizes row (first_in row rows) e))
      | inr ne ↦ ap (λ (z : LostGrains). is_lost_in (z ∷ rest) v g) (put_row v g true row false (ne_eqb row.volume v ne))
          ∙ (row_of row rest v g false (ne_eqb row.volume v ne)
          ∙ lost_here v g rows
          (elim (in_cases row.volume v (map (λ (r : LostGrains). r.volume) rows) there) [ inl e ↦ absurd (ne e) | inr r ↦ r ])
          (λ r c e. sizes r (later_in row r rows c) e))
    ]

pub all_in_is : {X : Type 0} (P : X → Type 0) (xs : List X) → All P xs → (x : X) → Contains xs x → P x
all_in_is P xs all x (k, lt, e) = subst P e (all k x lt)

-- a volume of the tables has its row of lost grains
size_there : (t : Tables) (id : VolId) (g : ℕ) → g < size_in t id → (o : Option Volume) → volume_with t id ≡ o → (v : Volume) × (volume_with t id ≡ Some v)
size_there t id g lt None e = absurd (let z : size_in t id ≡ 0 = ap grains_told e in omega (arith, lt, z))
size_there t id g lt (Some v) e = (v, e)

pub lost_by_tables : (t : Tables) (rows : List LostGrains) (v g : ℕ) → AreLost t rows → g < size_in t record { 0 = v } → is_lost_in (map (lost_put v g true) rows) v g ≡ true
lost_by_tables t rows v g all lt =
    let id : VolId = record { 0 = v } in
    let x = size_there t id g lt (volume_with t id) refl in
    let f = find_from (λ (z : Volume). id.0 == z.id.0) t.volumes x.0 x.1 in
    let q : v ≡ x.0.id.0 = eqb-true v x.0.id.0 f.1 in
    lost_here v g rows
    (subst (λ (z : List ℕ). Contains z v) (sym all.volumes) (subst (λ (z : ℕ). Contains (map (λ (y : Volume). y.id.0) t.volumes) z) (sym q) (map_in (λ (y : Volume). y.id.0) t.volumes x.0 f.0)))
    (λ row c e.
    let size : length row.lost ≡ size_in t record { 0 = row.volume } = all_in_is (λ (r : LostGrains). length r.lost ≡ size_in t record { 0 = r.volume }) rows all.sizes row c in
    let same : size_in t record { 0 = row.volume } ≡ size_in t id = ap (λ (z : ℕ). let w : VolId = record { 0 = z } in size_in t w) e in
    omega (arith, size, same, lt))

-- ---- what is stored

abbrev pub SameElsewhere : Stored → ℕ → ℕ → Stored → Type 0
SameElsewhere old v g new = (w y : ℕ) → (w ≢ v) ⊎ (y ≢ g) → new w y ≡ old w y

-- the data are written, and metadata doesn't tell
pub stored_in : (grain : GrainSize) (w : Whole) (k : Kept) (old new : List (List NamedDisk)) (v g : ℕ) (content : Content) → StoredAt (on_disks grain w old) v g content (on_disks grain w new) →
    let p : Point = record { kept = k; disks = old } in
    let q : Point = record { kept = k; disks = new } in
    StoredAt (stored_by grain w p) v g (stored_by grain w q v g) (stored_by grain w q)
stored_in grain w k old new v g content s =
    record { here = refl; elsewhere = λ x y other. ap (λ (z : Content). cond (is_lost_in k.lost x y) Lost z) (s.elsewhere x y other) }

-- and then its record
pub stored_whole : (grain : GrainSize) (w : Whole) (p q : Point) (v g : ℕ) (content : Content) → StoredAt (on_disks grain w p.disks) v g content (on_disks grain w q.disks) →
    q.kept.lost ≡ map (lost_put v g false) p.kept.lost → StoredAt (stored_by grain w p) v g content (stored_by grain w q)
stored_whole grain w p q v g content s e =
    record {
      here = ap (λ (z : Bool). cond z Lost (on_disks grain w q.disks v g)) (ap (λ (z : List LostGrains). is_lost_in z v g) e ∙ whole_here v g p.kept.lost) ∙ s.here;
      elsewhere = λ x y other. ap (λ (z : Bool). cond z Lost (on_disks grain w q.disks x y)) (ap (λ (z : List LostGrains). is_lost_in z x y) e ∙ lost_elsewhere v g false p.kept.lost x y other)
          ∙ ap (λ (z : Content). cond (is_lost_in p.kept.lost x y) Lost z) (s.elsewhere x y other);
    }

-- a record that the grain is lost, whatever is on the disk
pub stored_lost : (grain : GrainSize) (w : Whole) (p q : Point) (v g : ℕ) → SameElsewhere (on_disks grain w p.disks) v g (on_disks grain w q.disks) →
    q.kept.lost ≡ map (lost_put v g true) p.kept.lost → AreLost p.kept.tables p.kept.lost → g < size_in p.kept.tables record { 0 = v } → StoredAt (stored_by grain w p) v g Lost (stored_by grain w q)
stored_lost grain w p q v g s e all lt =
    record {
      here = ap (λ (z : Bool). cond z Lost (on_disks grain w q.disks v g)) (ap (λ (z : List LostGrains). is_lost_in z v g) e ∙ lost_by_tables p.kept.tables p.kept.lost v g all lt);
      elsewhere = λ x y other. ap (λ (z : Bool). cond z Lost (on_disks grain w q.disks x y)) (ap (λ (z : List LostGrains). is_lost_in z x y) e ∙ lost_elsewhere v g true p.kept.lost x y other)
          ∙ ap (λ (z : Content). cond (is_lost_in p.kept.lost x y) Lost z) (s x y other);
    }
