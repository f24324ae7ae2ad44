-- A write past a volume's grains changes no chain.
use Rattle.std.proofs.Common.{◌≡◌, ℕ, ◌<◌, ◌≤◌, Bool, true, false, cond, not, ◌&&◌, eqb, List, [], ◌∷◌, ◌++◌, length, set, map, refl, ap, ◌∙◌, arith, inl, inr}
use Rattle.std.proofs.lemmas.Bool.{and_parts, eqb-true}
use Rattle.std.proofs.lemmas.List.{set_past}
use Rattle.fc_base.specs.Column.{Column}
use Rattle.fc_base.specs.Moves.{is_in, write_asks, Must, Must.root, Must.asked, write_moves}
use Rattle.fc_base.specs.Sheet.{Slot, Sheet, slot_at, column}
use Rattle.fc_base.specs.SheetFacts.{HasSizes, IsSound}
use Rattle.fc_base.specs.SheetStep.{grain_taken, grain_kept, grain_lost, sheet_moved, sheet_written, sheet_torn}
use Rattle.fc_base.specs.declared.request.Side.{Side}
use Rattle.fc_base.specs.declared.request.Side.TheVariants.{Now, Under}
use Rattle.fc_moves.proofs.Lawful.{write_law}
use Rattle.fc_moves.proofs.Members.{in_head, in_tail, asks_parts, write_asks_parts}
use Rattle.fc_moves.proofs.Readers.{next_is}
use Rattle.fc_sheets.proofs.Holding.{held_in_range}
use Rattle.fc_parts.proofs.Views.{sheet_of}

-- ---- a change past the end

-- All slots of the volume end at or before the place.
abbrev pub EndsBefore : List Slot → ℕ → ℕ → Type 0
EndsBefore slots v g = (j : ℕ) → j < length slots → (slot_at slots j).volume ≡ v → length (slot_at slots j).held ≤ g

bit_past : (changes bit : Bool) (g : ℕ) (t : Slot) → (changes ≡ true → length t.held ≤ g) → cond changes (record t { held = set t.held g bit }) t ≡ t
bit_past true bit g t past = ap (λ (z : List Bool). record t { held = z }) (set_past t.held g bit (past refl))
bit_past false bit g t past = refl

all_same : (f : Slot → Slot) (slots : List Slot) → ((j : ℕ) → j < length slots → f (slot_at slots j) ≡ slot_at slots j) → map f slots ≡ slots
all_same f [] same = refl
all_same f (t ∷ ts) same =
    ap (λ (z : Slot). z ∷ map f ts) (same ℕ.zero (omega arith)) ∙ ap (λ (z : List Slot). t ∷ z) (all_same f ts (λ j lt. same (ℕ.suc j) (omega arith)))

taken_past : (v g : ℕ) (slots : List Slot) → EndsBefore slots v g → map (grain_taken v g) slots ≡ slots
taken_past v g slots ends = all_same (grain_taken v g) slots (λ j lt. bit_past (eqb (slot_at slots j).volume v) (slot_at slots j).is_live g (slot_at slots j) (λ e. ends j lt (eqb-true _ _ e)))

kept_past : (v g : ℕ) (slots : List Slot) → EndsBefore slots v g → map (grain_kept v g) slots ≡ slots
kept_past v g slots ends =
    all_same (grain_kept v g) slots
    (λ j lt. bit_past ((slot_at slots j).is_live && eqb (slot_at slots j).volume v) true g (slot_at slots j) (λ e. ends j lt (eqb-true _ _ (and_parts (slot_at slots j).is_live _ e).1)))

lost_past : (v g : ℕ) (slots : List Slot) → EndsBefore slots v g → map (grain_lost v g) slots ≡ slots
lost_past v g slots ends =
    all_same (grain_lost v g) slots
    (λ j lt. bit_past (not (slot_at slots j).is_live && eqb (slot_at slots j).volume v) false g (slot_at slots j) (λ e. ends j lt (eqb-true _ _ (and_parts (not (slot_at slots j).is_live) _ e).1)))

pub moved_past : (v g : ℕ) (in_place : Bool) (s : Sheet) → EndsBefore s.slots v g → sheet_moved v g in_place s ≡ s
moved_past v g true s ends = ap (sheet_of s.births) (kept_past v g s.slots ends)
moved_past v g false s ends = ap (sheet_of s.births) (taken_past v g s.slots ends)

pub written_past : (v g : ℕ) (s : Sheet) → EndsBefore s.slots v g → sheet_written v g s ≡ s
written_past v g s ends = ap (sheet_of s.births) (taken_past v g s.slots ends)

pub torn_past : (v g : ℕ) (side : Side) (s : Sheet) → EndsBefore s.slots v g → sheet_torn v g side s ≡ s
torn_past v g Now s ends = ap (sheet_of s.births) (taken_past v g s.slots ends)
torn_past v g Under s ends = ap (sheet_of s.births) (lost_past v g s.slots ends)

-- ---- the slots that move

-- A slot whose grains end at or before the place.
abbrev pub IsOut : List Slot → ℕ → ℕ → Type 0
IsOut slots g k = (k < length slots) × (length (slot_at slots k).held ≤ g)

pub out_ends : (slots : List Slot) → HasSizes slots → (g k v : ℕ) → IsOut slots g k → v ≡ (slot_at slots k).volume → EndsBefore slots v g
out_ends slots sizes g k v out e j lt of_volume =
    let size : length (slot_at slots j).held ≡ length (slot_at slots k).held = sizes.of_volume j k lt out.0 (of_volume ∙ e) in
    let o : length (slot_at slots k).held ≤ g = out.1 in
    omega arith

-- no old slot of the volume holds the place
none_old : (slots : List Slot) → HasSizes slots → (g m o : ℕ) → IsOut slots g m → o < length slots → (slot_at slots o).volume ≡ (slot_at slots m).volume → (column slots g).held o ≡ true → ⊥
none_old slots sizes g m o out lt of_volume holds =
    let h : g < length (slot_at slots o).held = held_in_range (slot_at slots o).held g holds in
    let e : length (slot_at slots o).held ≤ g = out_ends slots sizes g m (slot_at slots m).volume out refl o lt of_volume in
    omega arith

out_must : (slots : List Slot) → HasSizes slots → (g : ℕ) (roots : List ℕ) → ((r : ℕ) → is_in r roots ≡ true → IsOut slots g r) → (x : ℕ) → Must (column slots g) roots x → IsOut slots g x
out_must slots sizes g roots first x (root e) = first x e
out_must slots sizes g roots first x (asked {m = m} k e) =
    let p = asks_parts (column slots g) m x e in
    let q = p.1 in
    absurd (none_old slots sizes g m p.0 (out_must slots sizes g roots first m k) q.is_old.there q.is_old.of_volume q.holds)

out_root : (slots : List Slot) → HasSizes slots → (g t : ℕ) → IsOut slots g t → (r : ℕ) → is_in r (write_asks (column slots g) t) ≡ true → IsOut slots g r
out_root slots sizes g t out r e =
    elim (write_asks_parts (column slots g) t r e) [
      | inl p ↦ let q = p.1 in absurd (none_old slots sizes g t p.0 out q.is_old.there q.is_old.of_volume q.holds)
      | inr n ↦ let i = next_is (column slots g) t r n in
          let w = i.waits in
          let size : length (slot_at slots r).held ≡ length (slot_at slots t).held = sizes.of_chain r t i.there out.0 w.one_chain in
          let o : length (slot_at slots t).held ≤ g = out.1 in
          (i.there, omega arith)
    ]

abbrev pub AllOut : List Slot → ℕ → List ℕ → Type 0
AllOut slots g [] = Unit {0}
AllOut slots g (k ∷ ks) = IsOut slots g k × AllOut slots g ks

all_out : (slots : List Slot) (g : ℕ) (ks : List ℕ) → ((k : ℕ) → is_in k ks ≡ true → IsOut slots g k) → AllOut slots g ks
all_out slots g [] f = tt
all_out slots g (k ∷ ks) f = (f k (in_head k k ks refl), all_out slots g ks (λ j e. f j (in_tail j k ks e)))

pub write_out : (s : Sheet) → IsSound s → (g t : ℕ) → (slot_at s.slots t).is_live ≡ true → IsOut s.slots g t → AllOut s.slots g (write_moves (column s.slots g) t)
write_out s sound g t live out =
    let c : Column = column s.slots g in
    let law = (write_law c sound.one_live sound.no_loop t out.0 live).list in
    all_out s.slots g (write_moves c t) (λ k e. out_must s.slots sound.sizes g (write_asks c t) (out_root s.slots sound.sizes g t out) k (law.only k e))

pub out_before : (slots : List Slot) (g : ℕ) (done rest : List ℕ) (k : ℕ) → AllOut slots g (done ++ k ∷ rest) → AllOut slots g done × IsOut slots g k
out_before slots g [] rest k out = (tt, out.0)
out_before slots g (d ∷ done) rest k out = let r = out_before slots g done rest k out.1 in ((out.0, r.0), r.1)
