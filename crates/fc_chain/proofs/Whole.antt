-- The whole plan of a fill and of a write.
use Rattle.std.proofs.Common.{◌≡◌, ℕ, zero, suc, ◌+◌, ◌<◌, ◌≤◌, true, false, cond, eqb, Option, Some, None, option_to_list, List, [], ◌∷◌, ◌++◌, length, map, reverse, filter, filter_map, refl, sym, ap, ◌∙◌, arith, inl, inr}
use Rattle.std.specs.List.{IsDistinct, AllByRecursion}
use Rattle.std.specs.Cmp.{nat_eq_equiv}
use Rattle.std.proofs.lemmas.Bool.{cases_Bool, both_ways, or_parts}
use Rattle.std.proofs.lemmas.Map.Made.{length-le_from_is_member}
use Rattle.std.proofs.lemmas.Map.Keys.{IsDistinct-cons}
use Rattle.std.proofs.lemmas.List.Sums.{sum_by-cons}
use Rattle.fc_base.specs.declared.request.Move.{Move}
use Rattle.fc_base.specs.MovePlan.{PlannedMoves}
use Rattle.fc_base.specs.Column.{Column, first_reader, old_slots}
use Rattle.fc_base.specs.Moves.{is_in, next_behind, write_asks, list_with_asked, list_all_with_asked, fill_moves, write_moves}
use Rattle.fc_base.specs.Plan.{move_at, moves_of_fill, moves_of_write}
use Rattle.fc_base.specs.Sheet.{Slot, slot_at, column}
use Rattle.fc_places.specs.Olds.{old_after, IsNextOld}
use Rattle.fc_chain.specs.Planning.{IsPlanned, HasRoom, FillFits, WriteFits}
use Rattle.fc_places.specs.Directory.{volume_count}
use Rattle.fc_moves.proofs.Search.{cases_option}
use Rattle.fc_moves.proofs.Readers.{is_reader_none}
use Rattle.fc_moves.proofs.Members.{in_head, in_tail, not_in_nil}
use Rattle.fc_moves.proofs.Prefixes.{Fits, Fits.fits_none, Fits.fits_more, kept_after}
use Rattle.fc_moves.proofs.Listing.{list_all, reached_root}
use Rattle.fc_moves.proofs.Filling.{filled}
use Rattle.fc_moves.proofs.Writing.{written}
use Rattle.fc_chain.proofs.Plans.{all_old, longer, all_longer}

-- ---- how long a plan can be

abbrev live_places : ℕ → List Slot → List ℕ
live_places i [] = []
live_places i (t ∷ ts) = cond t.is_live (i ∷ live_places (suc i) ts) (live_places (suc i) ts)

live_count : (i : ℕ) (slots : List Slot) → length (live_places i slots) ≡ volume_count slots
live_count i [] = refl
live_count i (t ∷ ts) =
    elim (cases_Bool t.is_live) [
      | inl y ↦ let a : live_places i (t ∷ ts) ≡ i ∷ live_places (suc i) ts = rw y refl in
          let b : volume_count (t ∷ ts) ≡ volume_count ts + 1 = count_true t ts y in
          ap length a ∙ (let e : length (live_places (suc i) ts) ≡ volume_count ts = live_count (suc i) ts in omega arith)
      | inr n ↦ let a : live_places i (t ∷ ts) ≡ live_places (suc i) ts = rw n refl in
          let b : volume_count (t ∷ ts) ≡ volume_count ts = count_false t ts n in
          ap length a ∙ (live_count (suc i) ts ∙ sym b)
    ]
  where
    count_true : (t : Slot) (ts : List Slot) → t.is_live ≡ true → volume_count (t ∷ ts) ≡ volume_count ts + 1
    count_true t ts y = let e : volume_count (t ∷ ts) ≡ cond t.is_live 1 0 + volume_count ts = sum_by-cons (λ (x : Slot). cond x.is_live 1 0) t ts in let q : cond {A = ℕ} t.is_live 1 0 ≡ 1 = rw y refl in omega arith

    count_false : (t : Slot) (ts : List Slot) → t.is_live ≡ false → volume_count (t ∷ ts) ≡ volume_count ts
    count_false t ts n = let e : volume_count (t ∷ ts) ≡ cond t.is_live 1 0 + volume_count ts = sum_by-cons (λ (x : Slot). cond x.is_live 1 0) t ts in let q : cond {A = ℕ} t.is_live 1 0 ≡ 0 = rw n refl in omega arith

in_live : (i k j : ℕ) (slots : List Slot) → k ≡ i + j → j < length slots → (slot_at slots j).is_live ≡ true → is_in k (live_places i slots) ≡ true
in_live i k j [] e lt l = absurd (omega arith)
in_live i k zero (t ∷ ts) e lt l =
    let a : live_places i (t ∷ ts) ≡ i ∷ live_places (suc i) ts = rw l refl in
    ap (is_in k) a ∙ in_head k i (live_places (suc i) ts) (omega arith)
in_live i k (suc j) (t ∷ ts) e lt l =
    let r : is_in k (live_places (suc i) ts) ≡ true = in_live (suc i) k j ts (omega arith) (omega arith) l in
    elim (cases_Bool t.is_live) [
      | inl y ↦ let a : live_places i (t ∷ ts) ≡ i ∷ live_places (suc i) ts = rw y refl in ap (is_in k) a ∙ in_tail k i (live_places (suc i) ts) r
      | inr n ↦ let a : live_places i (t ∷ ts) ≡ live_places (suc i) ts = rw n refl in ap (is_in k) a ∙ r
    ]

fits_distinct : (c : Column) (done : List ℕ) → Fits c done → IsDistinct eqb done
unfolding IsDistinct
fits_distinct c done fits_none = tt
fits_distinct c done (fits_more {m = m} {done = before} f can) = IsDistinct-cons eqb m before (apart m before can.fresh) (fits_distinct c before f)
  where
    apart : (m : ℕ) (ks : List ℕ) → is_in m ks ≡ false → AllByRecursion (λ y. eqb m y ≡ false) ks
    apart m [] e = tt
    apart m (k ∷ ks) e = let p = or_parts (eqb m k) (is_in m ks) e in (p.0, apart m ks p.1)

pub fits_short : (slots : List Slot) (g : ℕ) (done : List ℕ) → Fits (column slots g) done → length done ≤ volume_count slots
fits_short slots g done f =
    let kept = kept_after (column slots g) done f in
    let le : length done ≤ length (live_places 0 slots) = length-le_from_is_member nat_eq_equiv done (live_places 0 slots) (fits_distinct (column slots g) done f)
    (λ q e. let l = kept.live q e in in_live 0 q q slots (omega arith) l.1 l.0) in
    let e : length (live_places 0 slots) ≡ volume_count slots = live_count 0 slots in
    omega arith

-- ---- a fill

none_planned : (slots : List Slot) (g number : ℕ) (moves : List Move) → moves ≡ [] → IsPlanned slots g number moves []
none_planned slots g number moves e = record { moves_are = e; there = λ k i. absurd (not_in_nil k i) }

fill_fits : (slots : List Slot) (g place : ℕ) → FillFits slots g place → Fits (column slots g) (list_with_asked (column slots g) (length slots) place [])
fill_fits slots g place f =
    (filled (column slots g) f.sheet.one_live f.sheet.no_loop (length slots) [] place [] (reached_root (column slots g) place f.there f.is_live f.lacks) (λ n o p t i h. absurd (not_in_nil p h)) fits_none).fits

pub room_to_fill : (slots : List Slot) (g number place : ℕ) (moves : List Move) (room : ℕ) → FillFits slots g place → moves ≡ [] → volume_count slots ≤ room → HasRoom slots g number moves room (length slots) place
room_to_fill slots g number place moves room f e le =
    record { listed = []; planned = none_planned slots g number moves e; fits = (let s : length (list_with_asked (column slots g) (length slots) place []) ≤ volume_count slots = fits_short slots g _ (fill_fits slots g place f) in omega arith) }

pub fill_planned : (slots : List Slot) (g number place : ℕ) (first moves : List Move) → first ≡ [] →
    ((listed : List ℕ) → IsPlanned slots g number first listed → IsPlanned slots g number moves (list_with_asked (column slots g) (length slots) place listed)) → moves ≡ moves_of_fill slots g number place
unfolding fill_moves list_all_with_asked
fill_planned slots g number place first moves e f = (f [] (none_planned slots g number first e)).moves_are

-- ---- a write

abbrev pub write_readers : Column → ℕ → List ℕ → List ℕ
write_readers c t os = filter_map (first_reader c t) os

pub record WrittenSoFar (slots : List Slot) (g number t : ℕ) (moves : List Move) (room volume : ℕ) (after : Option ℕ) : Type 0 where
  pub done : List ℕ
  pub planned : IsPlanned slots g number moves done
  pub rest : list_all_with_asked (column slots g) (write_asks (column slots g) t) ≡
      list_all (column slots g) (length slots) (write_readers (column slots g) t (old_after slots volume after) ++ option_to_list (next_behind (column slots g) t)) done
  pub fits : length (list_all_with_asked (column slots g) (write_asks (column slots g) t)) ≤ room

none_reads : (c : Column) (t o : ℕ) → c.held o ≡ false → first_reader c t o ≡ None
none_reads c t o f = is_reader_none c t o (λ k kc l ne i. both_ways _ f i.holds)

write_readers_held : (c : Column) (t : ℕ) (os : List ℕ) → filter_map (first_reader c t) (filter c.held os) ≡ write_readers c t os
write_readers_held c t [] = refl
write_readers_held c t (o ∷ os) =
    elim (cases_Bool (c.held o)) [
      | inl y ↦ let e : filter c.held (o ∷ os) ≡ o ∷ filter c.held os = rw y refl in
          ap (filter_map (first_reader c t)) e ∙ cons_same c t o (filter c.held os) os (write_readers_held c t os)
      | inr f ↦ let e : filter c.held (o ∷ os) ≡ filter c.held os = rw f refl in
          let n : first_reader c t o ≡ None = none_reads c t o f in
          let q : write_readers c t (o ∷ os) ≡ write_readers c t os = rw n refl in
          ap (filter_map (first_reader c t)) e ∙ (write_readers_held c t os ∙ sym q)
    ]
  where
    cons_same : (c : Column) (t o : ℕ) (xs ys : List ℕ) → write_readers c t xs ≡ write_readers c t ys → write_readers c t (o ∷ xs) ≡ write_readers c t (o ∷ ys)
    cons_same c t o xs ys e =
        elim (cases_option (first_reader c t o)) [
          | inl n ↦ let p : write_readers c t (o ∷ xs) ≡ write_readers c t xs = rw n refl in let q : write_readers c t (o ∷ ys) ≡ write_readers c t ys = rw n refl in p ∙ (e ∙ sym q)
          | inr s ↦ let p : write_readers c t (o ∷ xs) ≡ s.0 ∷ write_readers c t xs = rw s.1 refl in let q : write_readers c t (o ∷ ys) ≡ s.0 ∷ write_readers c t ys = rw s.1 refl in p ∙ (ap (λ z. s.0 ∷ z) e ∙ sym q)
        ]

write_list : (slots : List Slot) (g t : ℕ) → list_all_with_asked (column slots g) (write_asks (column slots g) t) ≡
    list_all (column slots g) (length slots) (write_readers (column slots g) t (old_after slots (slot_at slots t).volume None) ++ option_to_list (next_behind (column slots g) t)) []
unfolding list_all_with_asked write_asks
write_list slots g t =
    let c : Column = column slots g in
    ap (λ z. list_all c (length slots) (z ++ option_to_list (next_behind c t)) []) (write_readers_held c t (old_slots c.shape (slot_at slots t).volume) ∙ ap (write_readers c t) (sym (all_old slots (slot_at slots t).volume)))

pub write_begins : (slots : List Slot) (g number t : ℕ) (moves : List Move) (room v : ℕ) → WriteFits slots t → moves ≡ [] → volume_count slots ≤ room → v ≡ (slot_at slots t).volume → WrittenSoFar slots g number t moves room v None
write_begins slots g number t moves room v f e le ev =
    let c : Column = column slots g in
    let w = written c t (record { one = f.sheet.one_live; loops = f.sheet.no_loop; there = f.there; is_live = f.is_live }) in
    record {
      done = [];
      planned = none_planned slots g number moves e;
      rest = write_list slots g t ∙ ap (λ z. list_all c (length slots) (write_readers c t (old_after slots z None) ++ option_to_list (next_behind c t)) []) (sym ev);
      fits = (let s : length (list_all_with_asked c (write_asks c t)) ≤ volume_count slots = fits_short slots g _ w.fits in omega arith);
    }

pub write_skip : (slots : List Slot) (g number t : ℕ) (moves : List Move) (room v : ℕ) (after : Option ℕ) (o : ℕ) → WrittenSoFar slots g number t moves room v after → IsNextOld slots v after o → None ≡ first_reader (column slots g) t o →
    WrittenSoFar slots g number t moves room v (Some (slot_at slots o).birth)
write_skip slots g number t moves room v after o a n e =
    let c : Column = column slots g in
    let later : List ℕ = old_after slots v (Some (slot_at slots o).birth) in
    let q : write_readers c t (o ∷ later) ≡ write_readers c t later = rw (sym e) refl in
    record {
      done = a.done;
      planned = a.planned;
      fits = a.fits;
      rest = a.rest ∙ ap (λ z. list_all c (length slots) (z ++ option_to_list (next_behind c t)) a.done) (ap (write_readers c t) n.rest ∙ q);
    }

write_step : (slots : List Slot) (g number t : ℕ) (moves : List Move) (room v : ℕ) (after : Option ℕ) (o r : ℕ) → (a : WrittenSoFar slots g number t moves room v after) → IsNextOld slots v after o → Some r ≡ first_reader (column slots g) t o →
    list_all_with_asked (column slots g) (write_asks (column slots g) t) ≡
    list_all (column slots g) (length slots) (write_readers (column slots g) t (old_after slots v (Some (slot_at slots o).birth)) ++ option_to_list (next_behind (column slots g) t)) (list_with_asked (column slots g) (length slots) r a.done)
write_step slots g number t moves room v after o r a n e =
    let c : Column = column slots g in
    let later : List ℕ = old_after slots v (Some (slot_at slots o).birth) in
    let q : write_readers c t (o ∷ later) ≡ r ∷ write_readers c t later = rw (sym e) refl in
    a.rest ∙ ap (λ z. list_all c (length slots) (z ++ option_to_list (next_behind c t)) a.done) (ap (write_readers c t) n.rest ∙ q)

pub write_more : (slots : List Slot) (g number t : ℕ) (moves new : List Move) (room v : ℕ) (after : Option ℕ) (o r : ℕ) → WrittenSoFar slots g number t moves room v after → IsNextOld slots v after o → Some r ≡ first_reader (column slots g) t o →
    ((listed : List ℕ) → IsPlanned slots g number moves listed → IsPlanned slots g number new (list_with_asked (column slots g) (length slots) r listed)) → WrittenSoFar slots g number t new room v (Some (slot_at slots o).birth)
write_more slots g number t moves new room v after o r a n e filled' =
    record { done = list_with_asked (column slots g) (length slots) r a.done; planned = filled' a.done a.planned; fits = a.fits; rest = write_step slots g number t moves room v after o r a n e }

pub room_for_write : (slots : List Slot) (g number t : ℕ) (moves : List Move) (room now v : ℕ) (after : Option ℕ) (o r : ℕ) → WrittenSoFar slots g number t moves room v after → now ≡ room → IsNextOld slots v after o → Some r ≡ first_reader (column slots g) t o →
    HasRoom slots g number moves now (length slots) r
room_for_write slots g number t moves room now v after o r a er n e =
    let c : Column = column slots g in
    let inner : List ℕ = list_with_asked c (length slots) r a.done in
    let roots : List ℕ = write_readers c t (old_after slots v (Some (slot_at slots o).birth)) ++ option_to_list (next_behind c t) in
    let grows : length inner ≤ length (list_all c (length slots) roots inner) = all_longer c (length slots) (longer c (length slots)) roots inner in
    let q : length (list_all_with_asked c (write_asks c t)) ≡ length (list_all c (length slots) roots inner) = ap length (write_step slots g number t moves room v after o r a n e) in
    let le : length (list_all_with_asked c (write_asks c t)) ≤ room = a.fits in
    record { listed = a.done; planned = a.planned; fits = omega arith }

after_olds : (slots : List Slot) (g number t : ℕ) (moves : List Move) (room v : ℕ) (after : Option ℕ) → (a : WrittenSoFar slots g number t moves room v after) → old_after slots v after ≡ [] → (o : Option ℕ) → o ≡ next_behind (column slots g) t →
    list_all_with_asked (column slots g) (write_asks (column slots g) t) ≡ list_all (column slots g) (length slots) (option_to_list o) a.done
after_olds slots g number t moves room v after a none o e =
    let c : Column = column slots g in
    a.rest ∙ (ap (λ z. list_all c (length slots) (write_readers c t z ++ option_to_list (next_behind c t)) a.done) none ∙ ap (λ z. list_all c (length slots) (option_to_list z) a.done) (sym e))

pub room_for_next : (slots : List Slot) (g number t : ℕ) (moves : List Move) (room now v : ℕ) (after : Option ℕ) (n : ℕ) → WrittenSoFar slots g number t moves room v after → now ≡ room → old_after slots v after ≡ [] → Some n ≡ next_behind (column slots g) t →
    HasRoom slots g number moves now (length slots) n
room_for_next slots g number t moves room now v after n a er none e =
    let q : length (list_all_with_asked (column slots g) (write_asks (column slots g) t)) ≡ length (list_with_asked (column slots g) (length slots) n a.done) = ap length (after_olds slots g number t moves room v after a none (Some n) e) in
    let le : length (list_all_with_asked (column slots g) (write_asks (column slots g) t)) ≤ room = a.fits in
    record { listed = a.done; planned = a.planned; fits = omega arith }

told_by : (slots : List Slot) (g number t : ℕ) (moves : List Move) (listed : List ℕ) → IsPlanned slots g number moves listed → list_all_with_asked (column slots g) (write_asks (column slots g) t) ≡ listed → moves ≡ moves_of_write slots g number (Some t)
unfolding write_moves
told_by slots g number t moves listed p e = p.moves_are ∙ ap (λ z. map (move_at slots g number) (reverse z)) (sym e)

pub write_alone : (slots : List Slot) (g number t : ℕ) (moves : List Move) (room v : ℕ) (after : Option ℕ) → WrittenSoFar slots g number t moves room v after → old_after slots v after ≡ [] → None ≡ next_behind (column slots g) t → moves ≡ moves_of_write slots g number (Some t)
write_alone slots g number t moves room v after a none e = told_by slots g number t moves a.done a.planned (after_olds slots g number t moves room v after a none None e)

pub write_last : (slots : List Slot) (g number t : ℕ) (moves new : List Move) (room v : ℕ) (after : Option ℕ) (n : ℕ) → WrittenSoFar slots g number t moves room v after → old_after slots v after ≡ [] → Some n ≡ next_behind (column slots g) t →
    ((listed : List ℕ) → IsPlanned slots g number moves listed → IsPlanned slots g number new (list_with_asked (column slots g) (length slots) n listed)) → new ≡ moves_of_write slots g number (Some t)
write_last slots g number t moves new room v after n a none e filled' =
    told_by slots g number t new (list_with_asked (column slots g) (length slots) n a.done) (filled' a.done a.planned) (after_olds slots g number t moves room v after a none (Some n) e)

-- a plan is its moves and its room
pub plan_is : (p : PlannedMoves) (moves : List Move) (room : ℕ) → p.moves ≡ moves → p.room ≡ room → let q : PlannedMoves = record { moves = moves; room = room } in p ≡ q
plan_is p moves room e f = λ i. record { moves = e i; room = f i }
