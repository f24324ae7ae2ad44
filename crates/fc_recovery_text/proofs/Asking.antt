-- What reports ask of the chains of a sound image.
use Rattle.std.proofs.Common.{◌≡◌, ℕ, zero, suc, ◌<◌, ◌^◌, Bool, true, false, cond, List, [], ◌∷◌, length, Option, None, Some, Result, IfOk, All, inl, inr, sym, subst, arith}
use Rattle.std.specs.Prelude.{find}
use Rattle.std.proofs.lemmas.Bool.{cases_lt}
use Rattle.std.proofs.lemmas.List.{get_or_past}
use Rattle.fc_base.specs.Sheet.{Sheet, Slot, no_slot, slot_at}
use Rattle.fc_base.specs.Tables.{Tables}
use Rattle.fc_base.specs.declared.command.Command.TheVariants.{Lsfcmap}
use Rattle.fc_base.specs.declared.size.GrainSize.{GrainSize}
use Rattle.fc_base.specs.declared.volume.Mapping.{Mapping}
use Rattle.fc_base.specs.declared.volume.Volume.{Volume}
use Rattle.fc_books.specs.Reports.{report_rows}
use Rattle.fc_check_sheet.specs.View.{AreListed, IsSmall, Plain, view_of}
use Rattle.fc_image.specs.declared.image.MetaImage.{MetaImage}
use Rattle.fc_kept.specs.Images.{grains_told, kept_in, tables_in}
use Rattle.fc_kept.specs.Kept.{Kept}
use Rattle.fc_kept.specs.Sound.{IsSoundKept, books_of}
use Rattle.fc_kept.proofs.Sizes.{slot_size}
use Rattle.fc_recovery_text.specs.Text.{rows_in}
use Rattle.fc_report.specs.Asked.{asked}

-- ---- grains can be counted

module _ (most : ℕ) where
  told_small : (found : Bool) (v : Volume) (other : Option Volume) → v.grains < most → grains_told other < most → grains_told (cond found (Some v) other) < most
  told_small true v other this that = this
  told_small false v other this that = that

  grains_small : 0 < most → (test : Volume → Bool) (vs : List Volume) → All (λ (v : Volume). v.grains < most) vs → grains_told (find test vs) < most
  grains_small some test [] all = some
  grains_small some test (v ∷ vs) all =
      told_small (test v) v (find test vs) (all zero v (omega arith)) (grains_small some test vs (λ k d lt. all (suc k) d (omega arith)))

held_small : (k : Kept) → IsSoundKept k → (p : ℕ) → length (slot_at k.sheet.slots p).held < 2 ^ 32
held_small k sound p =
    let slots : List Slot = k.sheet.slots in
    elim (cases_lt p (length slots)) [
      | inl lt ↦ subst (λ (n : ℕ). n < 2 ^ 32) (sym (slot_size (books_of k) sound.books p lt)) (grains_small (2 ^ 32) (omega arith) _ k.tables.volumes sound.grains)
      | inr past ↦ subst (λ (s : Slot). length s.held < 2 ^ 32) (sym (get_or_past slots p no_slot past)) (omega arith)
    ]

-- ---- what a view asks

-- all that it is made of
abbrev pub plain_of : Kept → Plain
plain_of k = record { sheet = k.sheet; rows = []; pools = []; rooms = [] }

pub asked_small : (k : Kept) → IsSoundKept k → (p : Plain) → p ≡ plain_of k → IsSmall p.sheet.slots p.rows
asked_small k sound p is =
    subst (λ (q : Plain). IsSmall q.sheet.slots q.rows) (sym is) (record { held = held_small k sound; restarts = λ m. omega arith })

pub asked_listed : (k : Kept) → IsSoundKept k → (s : Sheet) (mappings : List Mapping) → s ≡ k.sheet → mappings ≡ k.tables.mappings → AreListed s.slots mappings
asked_listed k sound s mappings is of =
    subst (λ (z : Sheet). AreListed z.slots mappings) (sym is)
    (subst (λ (z : List Mapping). AreListed k.sheet.slots z) (sym of)
    (record { rising = sound.books.tables.mappings.rising; owned = λ p n lt at. sound.books.agree.owned p lt n at }))

-- ---- what is answered

-- the rows of a report on the image's tables and chains are those of the image
pub answered_rows : {E : Type 0} (grain : GrainSize) (image : MetaImage) (t : Tables) (p : Plain) (answer : Result (List (List ℕ)) E) → t ≡ tables_in image → p ≡ plain_of (kept_in image) →
    IfOk answer (λ rows. rows ≡ report_rows grain (asked t (view_of p)) (Lsfcmap None (Some 58))) → IfOk answer (λ rows. rows ≡ rows_in grain image)
answered_rows grain image t p answer tables is rows_are =
    subst (λ (u : Tables). IfOk answer (λ rows. rows ≡ report_rows grain (asked u (view_of (plain_of (kept_in image)))) (Lsfcmap None (Some 58)))) tables
    (subst (λ (q : Plain). IfOk answer (λ rows. rows ≡ report_rows grain (asked t (view_of q)) (Lsfcmap None (Some 58)))) is rows_are)
