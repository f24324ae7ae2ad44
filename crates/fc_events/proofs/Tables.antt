-- The room that stands beside slots that change.
use Rattle.std.proofs.Common.{◌≡◌, ℕ, suc, ◌+◌, ◌<◌, ◌≤◌, Bool, List, [], ◌∷◌, ◌++◌, map, take, drop, length, refl, sym, ap, subst, ◌∙◌, arith}
use Rattle.fc_base.specs.Sheet.{Slot, slot_at}
use Rattle.fc_base.specs.SheetStep.{grain_taken, grain_kept, grain_lost}
use Rattle.fc_sheets.proofs.Holding.{at_map, Regrained, regrained, bit_taken, bit_kept, bit_lost}
use Rattle.fc_sheets.proofs.Splitting.{split_same, split_list, split_count}
use Rattle.fc_events.specs.Table.{IsRoomy}

length_map : (f : Slot → Slot) (ts : List Slot) → length (map f ts) ≡ length ts
length_map f [] = refl
length_map f (t ∷ ts) = ap suc (length_map f ts)

take_whole : (xs ys : List Slot) → take (length xs) (xs ++ ys) ≡ xs
take_whole [] ys = refl
take_whole (x ∷ xs) ys = ap (λ z. x ∷ z) (take_whole xs ys)

-- the slots after a call on all of them that keeps their number
pub written_back : (items now new : List Slot) (n : ℕ) → length now ≡ n → length new ≡ length now → take n (new ++ drop (length new) items) ≡ new
written_back items now new n l e =
    let size : n ≡ length new = sym l ∙ sym e in
    ap (λ z. take z (new ++ drop (length new) items)) size ∙ take_whole new (drop (length new) items)

roomy_like : (spare : List (List Bool)) (width cap : ℕ) (old new : List Slot) → IsRoomy old spare width cap → length new ≡ length old →
    ((k : ℕ) → k < length old → length (slot_at new k).held ≡ length (slot_at old k).held) → IsRoomy new spare width cap
roomy_like spare width cap old new r e f =
    record {
      fits = (let a : length old + length spare ≤ cap = r.fits in omega arith);
      sets = r.sets;
      wide = λ k lt. (let o : k < length old = omega arith in let a : length (slot_at new k).held ≡ length (slot_at old k).held = f k o in let b : length (slot_at old k).held ≤ width = r.wide k o in omega arith);
    }

roomy_back : (spare : List (List Bool)) (width cap : ℕ) (items now new : List Slot) (n : ℕ) → IsRoomy items spare width cap → now ≡ items → length now ≡ n → length new ≡ length now →
    ((k : ℕ) → k < length now → length (slot_at new k).held ≡ length (slot_at now k).held) → IsRoomy (take n (new ++ drop (length new) items)) spare width cap
roomy_back spare width cap items now new n r e l same f =
    subst (λ (z : List Slot). IsRoomy z spare width cap) (sym (written_back items now new n l same))
    (roomy_like spare width cap now new (subst (λ (z : List Slot). IsRoomy z spare width cap) (sym e) r) same f)

roomy_mapped : (f : Slot → Slot) → Regrained f → (spare : List (List Bool)) (width cap : ℕ) (items now new : List Slot) (n : ℕ) → IsRoomy items spare width cap → now ≡ items → length now ≡ n → new ≡ map f now →
    IsRoomy (take n (new ++ drop (length new) items)) spare width cap
roomy_mapped f g spare width cap items now new n r e l q =
    roomy_back spare width cap items now new n r e l (ap length q ∙ length_map f now)
    (λ k lt. ap (λ z. length (slot_at z k).held) q ∙ (ap (λ (t : Slot). length t.held) (at_map f now k g.none) ∙ g.size (slot_at now k)))

pub roomy_taken : (v g : ℕ) (spare : List (List Bool)) (width cap : ℕ) (items now new : List Slot) (n : ℕ) → IsRoomy items spare width cap → now ≡ items → length now ≡ n → new ≡ map (grain_taken v g) now →
    IsRoomy (take n (new ++ drop (length new) items)) spare width cap
roomy_taken v g = roomy_mapped (grain_taken v g) (regrained (grain_taken v g) g (bit_taken v g))

pub roomy_kept : (v g : ℕ) (spare : List (List Bool)) (width cap : ℕ) (items now new : List Slot) (n : ℕ) → IsRoomy items spare width cap → now ≡ items → length now ≡ n → new ≡ map (grain_kept v g) now →
    IsRoomy (take n (new ++ drop (length new) items)) spare width cap
roomy_kept v g = roomy_mapped (grain_kept v g) (regrained (grain_kept v g) g (bit_kept v g))

pub roomy_lost : (v g : ℕ) (spare : List (List Bool)) (width cap : ℕ) (items now new : List Slot) (n : ℕ) → IsRoomy items spare width cap → now ≡ items → length now ≡ n → new ≡ map (grain_lost v g) now →
    IsRoomy (take n (new ++ drop (length new) items)) spare width cap
roomy_lost v g = roomy_mapped (grain_lost v g) (regrained (grain_lost v g) g (bit_lost v g))

pub roomy_split : (k : ℕ) (spare : List (List Bool)) (width cap : ℕ) (items now new : List Slot) (n : ℕ) → IsRoomy items spare width cap → now ≡ items → length now ≡ n → k < length items → new ≡ split_list now k →
    IsRoomy (take n (new ++ drop (length new) items)) spare width cap
roomy_split k spare width cap items now new n r e l lt q =
    let kl : k < length now = (let c : length now ≡ length items = ap length e in omega arith) in
    roomy_back spare width cap items now new n r e l (ap length q ∙ split_count now k)
    (λ j jl. ap (λ z. length (slot_at z j).held) q ∙ ap length (split_same now k j kl jl).held)
