-- What the grains of a flat disk stand for, all of which occupy memory.
use Rattle.std.proofs.Common.{◌≡◌, ℕ, true, List, ◌∷◌, ◌++◌, length, drop, replicate, slice_set, zero, suc, refl, sym, ◌∙◌, ap, arith}
use Rattle.std.proofs.lemmas.List.{length-set, length-replicate, drop_all, append-nil}
use Rattle.fc_mdisk.specs.Disk.{grain_at}
use Rattle.fc_mdisk.specs.Grains.{GrainsState}

abbrev flat_state : List (List ℕ) → GrainsState
flat_state grains = record { grains = grains; occupied = replicate (length grains) true }

set-replicate : {A : Type 0} (n g : ℕ) (a : A) → slice_set (replicate n a) g a ≡ replicate n a
set-replicate zero g a = refl
set-replicate (suc n) zero a = refl
set-replicate {A} (suc n) (suc g) a = ap (λ (rest : List A). a ∷ rest) (set-replicate n g a)

-- a write reaches a grain that occupies memory already
pub all_occupied : (grains new : List (List ℕ)) (g : ℕ) (bytes : List ℕ) → new ≡ slice_set grains g bytes
    → replicate (length new) true ≡ slice_set (replicate (length grains) true) g true
all_occupied grains new g bytes e =
    ap (λ (n : ℕ). replicate n true) (ap (length {A = List ℕ}) e ∙ length-set grains g bytes) ∙ sym (set-replicate (length grains) g true)

pub formatted_state : (grains : List (List ℕ)) (count width : ℕ) → grains ≡ replicate count (replicate width 0)
    → flat_state grains ≡ record { grains = replicate count (replicate width 0); occupied = replicate count true }
formatted_state grains count width e = λ i. record {
  grains = e i;
  occupied = (ap (λ (all : List (List ℕ)). replicate (length all) true) e ∙ ap (λ (n : ℕ). replicate n true) (length-replicate count (replicate width 0))) i;
}

-- the bytes of a whole grain are put at its front, and nothing is left behind them
pub written_state : (grains new : List (List ℕ)) (g : ℕ) (bytes : List ℕ) → new ≡ slice_set grains g (bytes ++ drop (length bytes) (grain_at grains g))
    → length bytes ≡ length (grain_at grains g) → flat_state new ≡ record { grains = slice_set grains g bytes; occupied = slice_set (replicate (length grains) true) g true }
written_state grains new g bytes e same_size =
    let whole : bytes ++ drop (length bytes) (grain_at grains g) ≡ bytes =
    ap (λ (rest : List ℕ). bytes ++ rest) (drop_all (length bytes) (grain_at grains g) (omega arith)) ∙ append-nil bytes in
    λ i. record {
      grains = (e ∙ ap (λ (x : List ℕ). slice_set grains g x) whole) i;
      occupied = all_occupied grains new g _ e i;
    }
