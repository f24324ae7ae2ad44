-- Grains that aren't lost have all their bytes.
use Rattle.std.proofs.Common.{◌≡◌, ℕ, zero, suc, Bool, true, false, cond, eqb, List, [], ◌∷◌, length, map, sym, ap, ◌∙◌, inl, inr, arith}
use Rattle.std.specs.List.{All}
use Rattle.std.proofs.lemmas.Bool.{cases_Bool}
use Rattle.fc_entry.specs.Picture.{Content, Bytes, Lost, content_at}
use Rattle.fc_grains.specs.Parts.{VolumeDiskState, IsWhole, content, contents, grains_of}
use Rattle.fc_grains.specs.Volumes.{volume_of, stored}

content_size : (mark : Bool) (held bytes : List ℕ) → content mark held ≡ Bytes bytes → length bytes ≡ length held
content_size true held bytes e = absurd cc
content_size false held bytes e = sym (ap size e)
  where
    size : Content → ℕ
    size (Bytes b) = length b
    size Lost = 0

contents_whole : (n : ℕ) (lost : List Bool) (grains : List (List ℕ)) (g : ℕ) (bytes : List ℕ) → All (λ grain. length grain ≡ n) grains → content_at (contents lost grains) g ≡ Bytes bytes → length bytes ≡ n
contents_whole n [] grains g bytes all e = absurd cc
contents_whole n (m ∷ ms) [] g bytes all e = absurd cc
contents_whole n (m ∷ ms) (x ∷ xs) zero bytes all e = content_size m x bytes e ∙ all 0 x (omega arith)
contents_whole n (m ∷ ms) (x ∷ xs) (suc g) bytes all e = contents_whole n ms xs g bytes (λ k d within. all (suc k) d (omega arith)) e

pub stored_whole : (n : ℕ) (vs : List VolumeDiskState) (v g : ℕ) (bytes : List ℕ) → All (IsWhole n) vs → stored (map grains_of vs) v g ≡ Bytes bytes → length bytes ≡ n
stored_whole n [] v g bytes all e = absurd cc
stored_whole n (x ∷ xs) v g bytes all e =
    elim (cases_Bool (eqb x.volume.0 v)) [
      | inl hit ↦ contents_whole n x.lost x.disk.grains g bytes (all 0 x (omega arith)).whole (ap (λ b. content_at (cond b (grains_of x) (volume_of (map grains_of xs) v)).contents g) (sym hit) ∙ e)
      | inr miss ↦ stored_whole n xs v g bytes (λ k d within. all (suc k) d (omega arith)) (ap (λ b. content_at (cond b (grains_of x) (volume_of (map grains_of xs) v)).contents g) (sym miss) ∙ e)
    ]
