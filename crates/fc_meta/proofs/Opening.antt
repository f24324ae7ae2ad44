-- What the writing of the first image leaves.
use Rattle.std.proofs.Common.{◌≡◌, inl, ℕ, ◌+◌, ◌^◌, ◌<◌, ◌≤◌, false, List, [], ◌∷◌, length, replicate, refl, sym, ap, ◌∙◌, subst, arith}
use Rattle.fc_image.specs.declared.image.MetaImage.{MetaImage}
use Rattle.fc_metadisk.specs.Disk.{Torn, Only, LeavesOnly, bytes_put}
use Rattle.fc_format.specs.declared.half.Half.TheVariants.{First, Second}
use Rattle.fc_format.specs.Bytes.{half_bytes}
use Rattle.fc_format.specs.Ranges.{IsTypedImage, HasGoodIds}
use Rattle.fc_format.specs.Halves.{Image, NoImage, recovered, is_open, half_of, half_size}
use Rattle.fc_meta.specs.Standing.{Rests, IsStagedImage}
use Rattle.fc_meta.specs.Answers.{with_gate, LeavesEither, MayTear}
use Rattle.fc_meta.proofs.Sides.{same_size}
use Rattle.fc_meta.proofs.Crash.{none_found, torn_blank, torn_opening, zeros_shut}
use Rattle.fc_meta.proofs.Done.{first_row, first_torn, first_staged, first_rests}
use Rattle.fc_meta.proofs.Moments.{started, joined}
use Rattle.fc_meta.proofs.Calls.{torn_run}

module _ {D : Type 0} (seen : D → List ℕ) (may_leave : D → List ℕ → Type 0) (moment : D → ℕ) (left_since : D → ℕ → List ℕ → Type 0)
    (only_now : (disk : D) (c : List ℕ) → left_since disk (moment disk) c → may_leave disk c) (disk : D) (i : MetaImage) (zeros : seen disk ≡ replicate (length (seen disk)) 0)
    (synced : Only (seen disk) (may_leave disk)) where
  first_shut : is_open (half_of First (seen disk)) ≡ false
  first_shut = ap (λ (z : List ℕ). is_open (half_of First z)) zeros ∙ zeros_shut First (length (seen disk))

  second_shut : is_open (half_of Second (seen disk)) ≡ false
  second_shut = ap (λ (z : List ℕ). is_open (half_of Second z)) zeros ∙ zeros_shut Second (length (seen disk))

  pub blank : LeavesOnly moment left_since disk disk (LeavesEither NoImage (Image i))
  blank =
      started moment left_since disk (LeavesEither NoImage (Image i))
      (λ r left. inl (ap recovered (synced r (only_now disk r left)) ∙ none_found (seen disk) first_shut second_shut))

  module _ (bytes : List ℕ) (is : bytes ≡ half_bytes 1 i) (inside : 1 + length (half_bytes 1 i) ≤ half_size (seen disk)) where
    pub first_run : (mid : D) → LeavesOnly moment left_since disk mid (MayTear 1 (length bytes) (may_leave disk)) → LeavesOnly moment left_since disk mid (LeavesEither NoImage (Image i))
    first_run mid run =
        torn_run seen may_leave moment left_since disk mid (seen disk) 1 1 (length bytes) (LeavesEither NoImage (Image i)) synced refl
        (λ r t. let shut = torn_blank (seen disk) first_shut second_shut 1 (length bytes) r t (omega arith) (let l = ap length is in omega (arith, l, inside)) in inl (none_found r shut.0 shut.1))
        run

    module _ (typed : IsTypedImage i) (good : HasGoodIds i) (small : length (seen disk) < 2 ^ 32) (mid : D) (put : seen mid ≡ bytes_put 1 bytes (seen disk)) where
      abbrev row : List ℕ
      row = first_row (seen disk) first_shut second_shut i typed good small inside

      stands : seen mid ≡ row
      stands = put ∙ ap (λ (b : List ℕ). bytes_put 1 b (seen disk)) is

      torn_to : Torn 1 (length (half_bytes 1 i)) (seen disk) row
      torn_to = first_torn (seen disk) first_shut second_shut i typed good small inside

      both_shut : (is_open (half_of First row) ≡ false) × (is_open (half_of Second row) ≡ false)
      both_shut = torn_blank (seen disk) first_shut second_shut 1 (length (half_bytes 1 i)) row torn_to (omega arith) inside

      row_room : 1 ≤ half_size row
      row_room = let s = same_size (seen disk) row torn_to.size in omega (arith, s, inside)

      staged : IsStagedImage First 1 (length (half_bytes 1 i)) i row
      staged = first_staged (seen disk) first_shut second_shut i typed good small inside

      pub second_room : 1 ≤ half_size (seen mid)
      second_room = subst (λ (z : List ℕ). 1 ≤ half_size z) (sym stands) row_room

      second_run : (new : D) → Only (seen mid) (may_leave mid) → LeavesOnly moment left_since mid new (MayTear 0 1 (may_leave mid)) → LeavesOnly moment left_since mid new (LeavesEither NoImage (Image i))
      second_run new only run =
          torn_run seen may_leave moment left_since mid new (seen mid) 0 0 1 (LeavesEither NoImage (Image i)) only refl
          (λ r t. torn_opening row both_shut.0 both_shut.1 1 (length (half_bytes 1 i)) i r staged (subst (λ (z : List ℕ). Torn 0 1 z r) stands t) row_room) run

      pub whole_run : (new : D) → LeavesOnly moment left_since disk mid (MayTear 1 (length bytes) (may_leave disk)) → Only (seen mid) (may_leave mid)
          → LeavesOnly moment left_since mid new (MayTear 0 1 (may_leave mid)) → LeavesOnly moment left_since disk new (LeavesEither NoImage (Image i))
      whole_run new first only second = joined moment left_since disk mid new (LeavesEither NoImage (Image i)) (first_run mid first) (second_run new only second)

      pub opened_rests : (new : D) (next : ℕ) → seen new ≡ bytes_put 0 (1 ∷ []) (seen mid) → next ≡ length bytes → Rests First 1 next false i (seen new)
      opened_rests new next gate ends =
          subst (λ (z : List ℕ). Rests First 1 next false i z) (sym (gate ∙ ap (bytes_put 0 (1 ∷ [])) stands))
          (subst (λ (k : ℕ). Rests First 1 k false i (with_gate First 0 row)) (sym (ends ∙ ap length is))
          (first_rests row both_shut.0 both_shut.1 i (length (half_bytes 1 i)) staged row_room))
