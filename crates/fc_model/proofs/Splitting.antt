-- A chain that is split.
use Rattle.std.proofs.Common.{◌≡◌, ℕ, zero, suc, ◌+◌, ◌-◌, ◌<◌, ◌≤◌, None, get_or, List, [], ◌∷◌, ◌++◌, map, take, drop, set, length, refl, sym, ap, ◌∙◌, arith, add-one}
use Rattle.std.proofs.lemmas.Slice.{put_mid-paste}
use Rattle.std.proofs.lemmas.List.{take_all, take_rest, drop_all, length-set, length-drop}
use borrow.Rule.Slice.PartMut.{put_mid}
use Rattle.fc_base.specs.Sheet.{Slot, slot_at}
use Rattle.fc_base.specs.SheetStep.{split_from, relabelled}

abbrev pub begun : Slot → Slot
begun t = record t { chain = t.birth; mapping = None }

relabelled_is : (f : Slot → Slot) (ts : List Slot) (k : ℕ) → k < length ts → take (suc k) (set ts k (begun (slot_at ts k))) ++ map f (drop (suc k) (set ts k (begun (slot_at ts k)))) ≡ relabelled f k ts
relabelled_is f [] k lt = absurd (omega arith)
relabelled_is f (t ∷ ts) zero lt = refl
relabelled_is f (t ∷ ts) (suc k) lt = ap (λ z. t ∷ z) (relabelled_is f ts k (omega arith))

nil_at_end : (ys zs : List Slot) → zs ≡ [] → ys ++ zs ≡ ys
nil_at_end [] zs e = e
nil_at_end (y ∷ ys) zs e = ap (λ z. y ∷ z) (nil_at_end ys zs e)

length_map : (f : Slot → Slot) (ts : List Slot) → length (map f ts) ≡ length ts
length_map f [] = refl
length_map f (t ∷ ts) = ap suc (length_map f ts)

put_at_end : (xs ys : List Slot) (a n : ℕ) → length ys ≡ n → length xs ≤ a + n → put_mid a n xs ys ≡ take a xs ++ ys
put_at_end xs ys a n l le =
    put_mid-paste a n xs ys ys n refl refl (sym l) ∙
    (ap (λ z. take a xs ++ z ++ drop (a + n) xs) (take_all n ys (omega arith)) ∙ nil_at_end (take a xs ++ ys) (drop (a + n) xs) (drop_all (a + n) xs le))

pub split_written : (f : Slot → Slot) (ts mid new : List Slot) (k : ℕ) (u : Slot) → k < length ts → u ≡ begun (slot_at ts k) → mid ≡ drop (k + 1) (set ts k u) → new ≡ map f mid →
    put_mid (k + 1) (length (set ts k u) - (k + 1)) (set ts k u) new ≡ relabelled f k ts
split_written f ts mid new k u lt q m n =
    let size : length (set ts k u) ≡ length ts = length-set ts k u in
    let made : new ≡ map f (drop (k + 1) (set ts k u)) = n ∙ ap (map f) m in
    let room : length new ≡ length (set ts k u) - (k + 1) = ap length made ∙ (length_map f (drop (k + 1) (set ts k u)) ∙ length-drop (k + 1) (set ts k u)) in
    put_at_end (set ts k u) new (k + 1) (length (set ts k u) - (k + 1)) room (omega arith) ∙
    (ap (λ z. take (k + 1) (set ts k u) ++ z) made ∙
    (ap (λ z. take (k + 1) (set ts k z) ++ map f (drop (k + 1) (set ts k z))) q ∙
    (ap (λ z. take z (set ts k (begun (slot_at ts k))) ++ map f (drop z (set ts k (begun (slot_at ts k))))) (add-one k) ∙ relabelled_is f ts k lt)))

any_default : (slots : List Slot) (k : ℕ) (d : Slot) → k < length slots → get_or slots k d ≡ slot_at slots k
any_default [] k d lt = absurd (omega arith)
any_default (x ∷ xs) zero d lt = refl
any_default (x ∷ xs) (suc k) d lt = any_default xs k d (omega arith)

pub split_done : (chain birth : ℕ) (ts new : List Slot) (k : ℕ) (u d e t : Slot) → k < length ts → u ≡ begun (get_or ts k t) → chain ≡ (get_or ts k d).chain → birth ≡ (get_or ts k e).birth →
    new ≡ map (split_from chain birth) (take (length (set ts k u) - (k + 1)) (drop (k + 1) (set ts k u))) →
    put_mid (k + 1) (length (set ts k u) - (k + 1)) (set ts k u) new ≡ relabelled (split_from (slot_at ts k).chain (slot_at ts k).birth) k ts
split_done chain birth ts new k u d e t lt q cq bq n =
    let mid : List Slot = take (length (set ts k u) - (k + 1)) (drop (k + 1) (set ts k u)) in
    split_written (split_from (slot_at ts k).chain (slot_at ts k).birth) ts mid new k u lt (q ∙ ap begun (any_default ts k t lt)) (take_rest (set ts k u) (k + 1))
    (n ∙ (ap (λ z. map (split_from z birth) mid) (cq ∙ ap (λ (x : Slot). x.chain) (any_default ts k d lt)) ∙ ap (λ z. map (split_from (slot_at ts k).chain z) mid) (bq ∙ ap (λ (x : Slot). x.birth) (any_default ts k e lt))))
