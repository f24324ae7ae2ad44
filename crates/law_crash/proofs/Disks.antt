-- Disks that keep their volumes, kinds and sizes fit what they fitted.
use Rattle.std.proofs.Common.{◌≡◌, ℕ, ◌<◌, Bool, true, false, cond, Option, Some, None, List, [], ◌∷◌, Contains, refl, sym, ap, subst, ◌∙◌, inl, inr}
use Rattle.std.specs.List.{AllZip}
use Rattle.std.proofs.lemmas.Bool.{cases_Bool}
use Rattle.fc_base.specs.Tables.{Tables}
use Rattle.fc_base.specs.declared.ids.VolId.{VolId}
use Rattle.fc_base.specs.declared.size.GrainSize.{GrainSize}
use Rattle.fc_changed.specs.Row.{Row}
use Rattle.fc_decided.proofs.Lists.{first_in, later_in, in_cases, none_in}
use Rattle.fc_entry.specs.Picture.{Content}
use Rattle.fc_legal.specs.Whole.{Whole, lane_at}
use Rattle.fc_rules.specs.LaneTold.{LaneOf}
use Rattle.fc_kept.specs.Disks.{NamedDisk, is_of, disk_of, FitDisks}
use Rattle.fc_kept.specs.Kept.{Kept}
use Rattle.fc_kept.specs.Recoverable.{Says, disks_at}
use Rattle.law_crash.specs.Doing.{SameDisk, IsWritten}

abbrev SameDisks : List NamedDisk → List NamedDisk → Type 0
SameDisks xs ys = AllZip SameDisk xs ys

-- ---- a volume's disk

pub same_name : (v : ℕ) (x y : NamedDisk) → SameDisk x y → is_of v y ≡ is_of v x
same_name v x y s = ap (λ (o : Option VolId). is_of v (record x { volume = o })) s.volume

pub find_by : (v : ℕ) (x : NamedDisk) (xs : List NamedDisk) (b : Bool) → is_of v x ≡ b → disk_of (x ∷ xs) v ≡ cond b (Some x) (disk_of xs v)
find_by v x xs b e = ap (λ (z : Bool). cond z (Some x) (disk_of xs v)) e

-- it was the volume's before
pub was_of : (xs ys : List NamedDisk) (v : ℕ) (d : NamedDisk) → SameDisks xs ys → disk_of ys v ≡ Some d → (old : NamedDisk) × (disk_of xs v ≡ Some old) × SameDisk old d
was_of [] [] v d s e = absurd cc
was_of [] (y ∷ ys) v d s e = absurd s
was_of (x ∷ xs) [] v d s e = absurd s
was_of (x ∷ xs) (y ∷ ys) v d s e =
    elim (cases_Bool (is_of v y)) [
      | inl t ↦ let q : y ≡ d = (let f : Some y ≡ Some d = sym (find_by v y ys true t) ∙ e in cc) in
          (x, find_by v x xs true (sym (same_name v x y s.0) ∙ t), subst (λ (z : NamedDisk). SameDisk x z) q s.0)
      | inr f ↦ let r = was_of xs ys v d s.1 (sym (find_by v y ys false f) ∙ e) in
          (r.0, find_by v x xs false (sym (same_name v x y s.0) ∙ f) ∙ r.1, r.2)
    ]

-- and the other way round
turned : (xs ys : List NamedDisk) → SameDisks xs ys → SameDisks ys xs
turned [] [] s = tt
turned [] (y ∷ ys) s = absurd s
turned (x ∷ xs) [] s = absurd s
turned (x ∷ xs) (y ∷ ys) s = (record { volume = sym s.0.volume; kind = sym s.0.kind; grains = sym s.0.grains }, turned xs ys s.1)

pub now_of : (xs ys : List NamedDisk) (v : ℕ) (d : NamedDisk) → SameDisks xs ys → disk_of xs v ≡ Some d → (new : NamedDisk) × (disk_of ys v ≡ Some new) × SameDisk d new
now_of xs ys v d s e =
    let r = was_of ys xs v d (turned xs ys s) e in
    (r.0, r.1, record { volume = sym r.2.volume; kind = sym r.2.kind; grains = sym r.2.grains })

was_none : (xs ys : List NamedDisk) (v : ℕ) → SameDisks xs ys → disk_of ys v ≡ None → disk_of xs v ≡ None
was_none [] [] v s e = refl
was_none [] (y ∷ ys) v s e = absurd s
was_none (x ∷ xs) [] v s e = absurd s
was_none (x ∷ xs) (y ∷ ys) v s e =
    elim (cases_Bool (is_of v y)) [
      | inl t ↦ absurd (let f : Some y ≡ None = sym (find_by v y ys true t) ∙ e in cc)
      | inr f ↦ find_by v x xs false (sym (same_name v x y s.0) ∙ f) ∙ was_none xs ys v s.1 (sym (find_by v y ys false f) ∙ e)
    ]

-- and each disk is there still
still_in : (xs ys : List NamedDisk) (d : NamedDisk) → SameDisks xs ys → Contains xs d → (new : NamedDisk) × Contains ys new × SameDisk d new
still_in [] ys d s c = absurd (none_in d c)
still_in (x ∷ xs) [] d s c = absurd s
still_in (x ∷ xs) (y ∷ ys) d s c =
    elim (in_cases x d xs c) [
      | inl e ↦ (y, first_in y ys, subst (λ (z : NamedDisk). SameDisk z y) e s.0)
      | inr r ↦ let q = still_in xs ys d s.1 r in (q.0, later_in y q.0 ys q.1, q.2)
    ]

pub fit_still : (l : LaneOf) (xs ys : List NamedDisk) (t : Tables) → SameDisks xs ys → FitDisks l xs t → FitDisks l ys t
fit_still l xs ys t s f =
    record {
      named = λ v d c e.
          let o = was_of xs ys v.id.0 d s e in
          let p = f.named v o.0 c o.1 in
          (o.2.kind ∙ p.0, o.2.grains ∙ p.1);
      unnamed = λ v c e.
          let p = f.unnamed v c (was_none xs ys v.id.0 s e) in
          let n = still_in xs ys p.0 s p.1 in
          (n.0, n.1, n.2.volume ∙ p.2, n.2.kind ∙ p.3);
      one = λ v w vc wc e q. f.one v w vc wc (was_none xs ys v.id.0 s e) (was_none xs ys w.id.0 s q);
    }

-- ---- metadata says the same over them

pub says_written : (grain : GrainSize) (w now : Whole) (least : List Row) (k : Kept) (v g : ℕ) (content : Content) (old new : List (List NamedDisk)) →
    IsWritten grain w v g content old new → Says grain old k now least → Says grain new k now least
says_written grain w now least k v g content old new x s =
    record {
      sound = s.sound;
      tables = s.tables;
      next_volume = s.next_volume;
      next_mapping = s.next_mapping;
      next_group = s.next_group;
      slots = s.slots;
      rows = s.rows;
      count = x.count ∙ s.count;
      fit = λ i il. fit_still (lane_at grain now i) (disks_at old i) (disks_at new i) k.tables (x.same i) (s.fit i (subst (λ (n : ℕ). i < n) x.count il));
    }
