-- Queues of disks, from the disks themselves.
use Rattle.std.proofs.Common.{◌≡◌, ℕ, ◌<◌, List, ◌∷◌, length, map, get_or, slice_set, suc, Option, None, IfSome, Result, Ok, Err, OnOk, OnErr, refl, sym, ◌∙◌, ap, subst, arith}
use Rattle.std.specs.List.{All}
use Rattle.std.proofs.lemmas.List.{map-set, set-get_or, length-set}
use Rattle.std.proofs.lemmas.List.Elements.{All-set}
use Rattle.fc_base.specs.declared.disk.DiskKind.{DiskKind}
use Rattle.fc_base.specs.declared.disk.DiskKind.TheVariants.{Flat, Thin}
use Rattle.fc_base.specs.declared.outcome.NoMemory.{NoMemory}
use Rattle.fc_mdisk.specs.Disk.{DiskState, blank, formatted}
use Rattle.fc_mdisk.specs.Disks.{disk_at}
use Rattle.fc_mdisk.proofs.DiskList.{was_at}
use Rattle.fc_grains.specs.Grains.{IsUnarmed}
use Rattle.fc_grains.specs.Parts.{AreSorted}

-- what a disk that was formatted, or would have been, still is
same_kind : (r : Result (Unit {0}) NoMemory) (was now : DiskState) (grains bytes : ℕ) → OnOk r (now ≡ formatted was grains bytes) → OnErr r (now ≡ was) → now.kind ≡ was.kind
same_kind (Ok a) was now grains bytes ok err = ap (λ (d : DiskState). d.kind) ok
same_kind (Err e) was now grains bytes ok err = ap (λ (d : DiskState). d.kind) err

same_due : (r : Result (Unit {0}) NoMemory) (was now : DiskState) (grains bytes : ℕ) → OnOk r (now ≡ formatted was grains bytes) → OnErr r (now ≡ was) → now.due ≡ was.due
same_due (Ok a) was now grains bytes ok err = ap (λ (d : DiskState). d.due) ok
same_due (Err e) was now grains bytes ok err = ap (λ (d : DiskState). d.due) err

abbrev DuesUnarmed : Option ℕ → Type 0
DuesUnarmed due = IfSome due (λ n. n ≡ 0)

module _ {D : Type 0} (meaning : D → DiskState) (disks : List D) (place : ℕ) (was now : D) (within : place < length (map meaning disks)) (read : was ≡ get_or disks place was) where
  meant : disk_at (map meaning disks) place ≡ meaning was
  meant = was_at meaning disks (map meaning disks) place was refl within read

  all_set : (P : DiskState → Type 0) → (P (meaning was) → P (meaning now)) → All P (map meaning disks) → All P (map meaning (slice_set disks place now))
  all_set P keeps all =
      let Q : List DiskState → Type 0 = λ ds. All P ds in
      subst Q (sym (map-set meaning disks place now))
      (All-set P (map meaning disks) place (meaning now) (keeps (subst P meant (all place (blank Flat None) within))) all)

  module _ (r : Result (Unit {0}) NoMemory) (grains bytes : ℕ) (ok : OnOk r (meaning now ≡ formatted (meaning was) grains bytes)) (err : OnErr r (meaning now ≡ meaning was)) where
    keeps_kind : (kind : DiskKind) → All (λ (d : DiskState). d.kind ≡ kind) (map meaning disks) → All (λ (d : DiskState). d.kind ≡ kind) (map meaning (slice_set disks place now))
    keeps_kind kind = all_set (λ (d : DiskState). d.kind ≡ kind) (λ is. same_kind r (meaning was) (meaning now) grains bytes ok err ∙ is)

    keeps_unarmed : All IsUnarmed (map meaning disks) → All IsUnarmed (map meaning (slice_set disks place now))
    keeps_unarmed = all_set IsUnarmed (subst DuesUnarmed (sym (same_due r (meaning was) (meaning now) grains bytes ok err)))

    same_number : length (map meaning (slice_set disks place now)) ≡ length (map meaning disks)
    same_number = ap (length {A = DiskState}) (map-set meaning disks place now) ∙ length-set (map meaning disks) place (meaning now)

    pub flat_formatted : (thin : List DiskState) → AreSorted (map meaning disks) thin → AreSorted (map meaning (slice_set disks place now)) thin
    flat_formatted thin s = record {
      all_flat = keeps_kind Flat s.all_flat;
      all_thin = s.all_thin;
      flat_unarmed = keeps_unarmed s.flat_unarmed;
      thin_unarmed = s.thin_unarmed;
      few = omega (arith, s.few, same_number);
    }

    pub thin_formatted : (flat : List DiskState) → AreSorted flat (map meaning disks) → AreSorted flat (map meaning (slice_set disks place now))
    thin_formatted flat s = record {
      all_flat = s.all_flat;
      all_thin = keeps_kind Thin s.all_thin;
      flat_unarmed = s.flat_unarmed;
      thin_unarmed = keeps_unarmed s.thin_unarmed;
      few = omega (arith, s.few, same_number);
    }

  pub list_formatted : (grains bytes : ℕ) → meaning now ≡ formatted (meaning was) grains bytes
      → map meaning (slice_set disks place now) ≡ slice_set (map meaning disks) place (formatted (disk_at (map meaning disks) place) grains bytes)
  list_formatted grains bytes done =
      map-set meaning disks place now
      ∙ ap (λ (d : DiskState). slice_set (map meaning disks) place d) (done ∙ ap (λ (d : DiskState). formatted d grains bytes) (sym meant))

  pub list_same : meaning now ≡ meaning was → map meaning (slice_set disks place now) ≡ map meaning disks
  list_same same =
      map-set meaning disks place now
      ∙ ap (λ (d : DiskState). slice_set (map meaning disks) place d) (same ∙ sym meant)
      ∙ set-get_or (map meaning disks) place (blank Flat None)

-- the first disk is taken
behind : {X : Type 0} (P : X → Type 0) (x : X) (xs : List X) → All P (x ∷ xs) → All P xs
behind P x xs all k d within = all (suc k) d (omega arith)

module _ {D : Type 0} (meaning : D → DiskState) (disks rest : List D) (first : D) (items : disks ≡ first ∷ rest) where
  split : (P : List DiskState → Type 0) → P (map meaning disks) → P (meaning first ∷ map meaning rest)
  split P = subst P (ap (map meaning) items)

  pub flat_taken : (thin : List DiskState) → AreSorted (map meaning disks) thin → AreSorted (map meaning rest) thin
  flat_taken thin s =
      let P : List DiskState → Type 0 = λ flat. AreSorted flat thin in
      let t : AreSorted (meaning first ∷ map meaning rest) thin = split P s in
      record {
        all_flat = behind (λ (d : DiskState). d.kind ≡ Flat) (meaning first) (map meaning rest) t.all_flat;
        all_thin = t.all_thin;
        flat_unarmed = behind IsUnarmed (meaning first) (map meaning rest) t.flat_unarmed;
        thin_unarmed = t.thin_unarmed;
        few = omega (arith, t.few);
      }

  pub thin_taken : (flat : List DiskState) → AreSorted flat (map meaning disks) → AreSorted flat (map meaning rest)
  thin_taken flat s =
      let P : List DiskState → Type 0 = λ thin. AreSorted flat thin in
      let t : AreSorted flat (meaning first ∷ map meaning rest) = split P s in
      record {
        all_flat = t.all_flat;
        all_thin = behind (λ (d : DiskState). d.kind ≡ Thin) (meaning first) (map meaning rest) t.all_thin;
        flat_unarmed = t.flat_unarmed;
        thin_unarmed = behind IsUnarmed (meaning first) (map meaning rest) t.thin_unarmed;
        few = omega (arith, t.few);
      }

  pub first_has : (P : DiskState → Type 0) → All P (map meaning disks) → P (meaning first)
  first_has P all =
      let Q : List DiskState → Type 0 = λ ds. All P ds in
      split Q all 0 (meaning first) (omega arith)
