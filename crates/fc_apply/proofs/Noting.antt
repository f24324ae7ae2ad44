-- What is noted of incremental mappings as slots leave and triggers begin.
use Rattle.std.proofs.Common.{◌≡◌, ◌≢◌, ℕ, zero, suc, ◌+◌, ◌<◌, Bool, true, false, not, cond, ◌&&◌, ◌||◌, eqb, Option, Some, None, List, [], ◌∷◌, ◌++◌, length, get_or, take, drop, map, fold, flat_map, All, append-nil, Result, Ok, Err, OnOk, is_err, refl, sym, ap, subst, ◌∙◌, arith, inl, inr}
use Rattle.std.specs.List.{list_any}
use Rattle.std.proofs.lemmas.Bool.{cases_Bool, ne_eqb}
use Rattle.std.proofs.lemmas.List.{get_or-take, get_or-drop, get_or_default, length-take, length-drop}
use Rattle.std.proofs.lemmas.List.Elements.{All-map}
use Rattle.std.proofs.lemmas.List.Sums.{fold-append}
use Rattle.fc_alike.proofs.Sets.{length_with}
use Rattle.fc_base.specs.Sheet.{Slot, slot_at, mapping_place, volume_grains}
use Rattle.fc_base.specs.declared.ids.MapId.{MapId}
use Rattle.fc_base.specs.declared.outcome.NoMemory.{NoMemory}
use Rattle.fc_base.specs.declared.request.Pair.{Pair}
use Rattle.fc_changed.specs.Notes.{has, joins}
use Rattle.fc_changed.specs.Notes.Note.{Began, Left}
use Rattle.fc_changed.specs.Row.{Row, after_note, is_of, row_began, row_left, row_names, with_new}
use Rattle.fc_diff.specs.State.{CanBegin, ChangesState, NewRow, after_beginning, with_ready}
use Rattle.fc_follow.specs.Following.{beginning, leaving, slot_leaves}
use Rattle.fc_apply.specs.Events.{AreOfOthers, IsSized, new_row, new_rows}
use Rattle.fc_apply.proofs.Telling.{next_left}

-- ---- slots that leave

sized_row : (slots : List Slot) (v : ℕ) (held : List Bool) (row : Row) → IsSized slots row → IsSized slots (row_left v held row)
sized_row slots v held row s =
    elim (cases_Bool (row_names row v)) [
      | inl named ↦
          let e : row_left v held row ≡ record row { same = _ } = rw named refl in
          subst (IsSized slots) (sym e) (λ k kl names. length_with (λ g. has row.same g && has held g) (length row.same) ∙ s k kl names)
      | inr other ↦ (let e : row_left v held row ≡ row = rw other refl in subst (IsSized slots) (sym e) s)
    ]

sized_left : (slots : List Slot) (v : ℕ) (held : List Bool) (rows : List Row) → All (IsSized slots) rows → All (IsSized slots) (after_note rows (Left v held))
sized_left slots v held rows s = All-map (IsSized slots) (row_left v held) rows (λ i d lt. sized_row slots v held (get_or rows i d) (s i d lt))

pub sized_leaving : (slots : List Slot) (rows : List Row) (m : MapId) → All (IsSized slots) rows → All (IsSized slots) (fold after_note rows (leaving slots m))
sized_leaving slots rows m s = by (mapping_place slots m.0)
  where
    at : (k : ℕ) (b : Bool) → All (IsSized slots) (fold after_note rows (cond b (Left (slot_at slots k).volume (slot_at slots k).held ∷ []) []))
    at k true = sized_left slots (slot_at slots k).volume (slot_at slots k).held rows s
    at k false = s

    by : (o : Option ℕ) → All (IsSized slots) (fold after_note rows (slot_leaves slots o))
    by None = s
    by (Some k) = at k (slot_at slots k).is_live

-- what is noted of a mapping without a slot, of an old slot, and of a live one
pub none_leaves : (slots : List Slot) (rows : List Row) (m : MapId) → mapping_place slots m.0 ≡ None → rows ≡ fold after_note rows (leaving slots m)
none_leaves slots rows m none = ap (λ (o : Option ℕ). fold after_note rows (slot_leaves slots o)) (sym none)

leaves_as : (slots : List Slot) (rows : List Row) (k : ℕ) (b : Bool) → (slot_at slots k).is_live ≡ b →
    fold after_note rows (slot_leaves slots (Some k)) ≡ fold after_note rows (cond b (Left (slot_at slots k).volume (slot_at slots k).held ∷ []) [])
leaves_as slots rows k b is = ap (λ (z : Bool). fold after_note rows (cond z (Left (slot_at slots k).volume (slot_at slots k).held ∷ []) [])) is

pub old_leaves : (slots : List Slot) (rows : List Row) (m : MapId) (k : ℕ) → mapping_place slots m.0 ≡ Some k → (slot_at slots k).is_live ≡ false → rows ≡ fold after_note rows (leaving slots m)
old_leaves slots rows m k at old = sym (ap (λ (o : Option ℕ). fold after_note rows (slot_leaves slots o)) at ∙ leaves_as slots rows k false old)

pub live_leaves : (slots : List Slot) (rows : List Row) (m : MapId) (k : ℕ) → mapping_place slots m.0 ≡ Some k → (slot_at slots k).is_live ≡ true →
    after_note rows (Left (slot_at slots k).volume (slot_at slots k).held) ≡ fold after_note rows (leaving slots m)
live_leaves slots rows m k at live = sym (ap (λ (o : Option ℕ). fold after_note rows (slot_leaves slots o)) at ∙ leaves_as slots rows k true live)

-- ---- mappings that are followed

any_same : (n : ℕ) (f : Row → Row) → ((row : Row) → (f row).map ≡ row.map) → (rows : List Row) → list_any (is_of n) (map f rows) ≡ list_any (is_of n) rows
any_same n f same [] = refl
any_same n f same (row ∷ rows) = λ i. eqb n (same row i) || any_same n f same rows i

any_last : (n : ℕ) (rows : List Row) (row : Row) → is_of n row ≡ false → list_any (is_of n) (rows ++ row ∷ []) ≡ list_any (is_of n) rows
any_last n [] row other = ap (λ b. b || false) other
any_last n (r ∷ rows) row other = ap (λ b. is_of n r || b) (any_last n rows row other)

began_map : (source target : ℕ) (row : Row) → (row_began source target row).map ≡ row.map
began_map source target row =
    elim (cases_Bool (joins row.source row.target source target)) [
      | inl joined ↦ rw joined refl
      | inr apart ↦ elim (cases_Bool (row_names row target)) [ inl named ↦ rw apart (rw named refl) | inr other ↦ rw apart (rw other refl) ]
    ]

-- the mapping is followed after a trigger, and no other is more than before
others_new : (rows : List Row) (m source target n : ℕ) (grains : Option ℕ) → n ≢ m → list_any (is_of n) (with_new m source target grains rows) ≡ list_any (is_of n) rows
others_new rows m source target n None ne = refl
others_new rows m source target n (Some grains) ne =
    elim (cases_Bool (list_any (is_of m) rows)) [
      | inl there ↦ rw there refl
      | inr none ↦ rw none (any_last n rows _ (ne_eqb n m ne))
    ]

pub others_began : (rows : List Row) (m source target n : ℕ) (grains : Option ℕ) → n ≢ m → list_any (is_of n) (after_note rows (Began m source target grains)) ≡ list_any (is_of n) rows
others_began rows m source target n grains ne =
    others_new (map (row_began source target) rows) m source target n grains ne ∙ any_same n (row_began source target) (began_map source target) rows

-- a mapping that is followed already needs no grains
followed_new : (rows : List Row) (m source target g h : ℕ) → list_any (is_of m) rows ≡ true → with_new m source target (Some g) rows ≡ with_new m source target (Some h) rows
followed_new rows m source target g h there = rw there refl

-- ---- a trigger of one pair

abbrev first_ready : ChangesState → (m source target grains : ℕ) → Bool → List NewRow → List NewRow
first_ready s m source target grains incremental rest =
    cond (incremental && not (list_any (is_of m) s.rows)) (record { map = m; source = source; target = target; grains = grains } ∷ rest) rest

pub record HasBegun (s : ChangesState) (m source target grains : ℕ) (incremental : Bool) (rest : List NewRow) : Type 0 where
  pub can : CanBegin s m source target incremental
  pub rows : (after_beginning s m source target incremental).rows ≡ after_note s.rows (Began m source target (cond incremental (Some grains) None))
  pub ready : (after_beginning s m source target incremental).ready ≡ rest

pub has_begun : (s : ChangesState) (m source target grains : ℕ) (incremental : Bool) (rest : List NewRow) → s.ready ≡ first_ready s m source target grains incremental rest →
    HasBegun s m source target grains incremental rest
has_begun s m source target grains false rest is = record { can = λ e. absurd cc; rows = refl; ready = is }
has_begun s m source target grains true rest is = by (list_any (is_of m) s.rows) refl
  where
    began : List Row
    began = map (row_began source target) s.rows

    by : (b : Bool) → list_any (is_of m) s.rows ≡ b → HasBegun s m source target grains true rest
    by true there =
        let ready : s.ready ≡ rest = is ∙ ap (λ (b : Bool). cond (not b) (record { map = m; source = source; target = target; grains = grains } ∷ rest) rest) there in
        record {
          can = λ e. absurd (let f : not (list_any (is_of m) s.rows) ≡ false = ap not there in cc);
          rows = followed_new began m source target _ grains (any_same m (row_began source target) (began_map source target) s.rows ∙ there);
          ready = rw there ready;
        }
    by false none =
        let ready : s.ready ≡ record { map = m; source = source; target = target; grains = grains } ∷ rest =
        is ∙ ap (λ (b : Bool). cond (not b) (record { map = m; source = source; target = target; grains = grains } ∷ rest) rest) none in
        record {
          can = λ e. rw ready (refl, refl, refl);
          rows = rw ready refl;
          ready = rw none (rw ready refl);
        }

-- ---- the rows that pairs begin

new_same : (slots : List Slot) (rows more : List Row) (m : ℕ) → ((n : ℕ) → n ≢ m → list_any (is_of n) more ≡ list_any (is_of n) rows) → (ps : List Pair) → All (λ (q : Pair). q.map.0 ≢ m) ps →
    new_rows slots more ps ≡ new_rows slots rows ps
new_same slots rows more m same [] others = refl
new_same slots rows more m same (p ∷ ps) others =
    let rest : new_rows slots more ps ≡ new_rows slots rows ps = new_same slots rows more m same ps (λ i d lt. others (suc i) d (omega arith)) in
    let first : list_any (is_of p.map.0) more ≡ list_any (is_of p.map.0) rows = same p.map.0 (others 0 p (omega arith)) in
    λ i. cond (p.incremental && not (first i)) (new_row slots p ∷ rest i) (rest i)

-- The first of the pairs begins.
pub record FirstBegins (slots : List Slot) (s : ChangesState) (p : Pair) (ps : List Pair) (s' : ChangesState) : Type 0 where
  pub ready : s'.ready ≡ new_rows slots s'.rows ps
  pub rows : s'.rows ≡ after_note s.rows (beginning slots p)

pub first_can : (slots : List Slot) (s : ChangesState) (p : Pair) (ps : List Pair) → s.ready ≡ new_rows slots s.rows (p ∷ ps) → CanBegin s p.map.0 p.source.0 p.target.0 p.incremental
first_can slots s p ps ready = (has_begun s p.map.0 p.source.0 p.target.0 _ p.incremental (new_rows slots s.rows ps) ready).can

pub first_begins : (slots : List Slot) (s : ChangesState) (p : Pair) (ps : List Pair) (s' : ChangesState) → All (λ (q : Pair). q.map.0 ≢ p.map.0) ps → s.ready ≡ new_rows slots s.rows (p ∷ ps) →
    s' ≡ after_beginning s p.map.0 p.source.0 p.target.0 p.incremental → FirstBegins slots s p ps s'
first_begins slots s p ps s' others ready is =
    let b = has_begun s p.map.0 p.source.0 p.target.0 _ p.incremental (new_rows slots s.rows ps) ready in
    let rows : s'.rows ≡ after_note s.rows (beginning slots p) = ap (λ (z : ChangesState). z.rows) is ∙ b.rows in
    record {
      ready =
          ap (λ (z : ChangesState). z.ready) is ∙ b.ready
          ∙ sym (ap (λ (z : List Row). new_rows slots z ps) rows ∙ new_same slots s.rows (after_note s.rows (beginning slots p)) p.map.0 (λ n ne. others_began s.rows p.map.0 p.source.0 p.target.0 n _ ne) ps others);
      rows = rows;
    }

-- ---- rows that stand ready

pub new_append : (slots : List Slot) (rows : List Row) (ps qs : List Pair) → new_rows slots rows (ps ++ qs) ≡ new_rows slots rows ps ++ new_rows slots rows qs
new_append slots rows [] qs = refl
new_append slots rows (p ∷ ps) qs = by (p.incremental && not (list_any (is_of p.map.0) rows)) (new_append slots rows ps qs)
  where
    by : (b : Bool) → new_rows slots rows (ps ++ qs) ≡ new_rows slots rows ps ++ new_rows slots rows qs → cond b (new_row slots p ∷ new_rows slots rows (ps ++ qs)) (new_rows slots rows (ps ++ qs)) ≡ cond b (new_row slots p ∷ new_rows slots rows ps) (new_rows slots rows ps) ++ new_rows slots rows qs
    by true rest = ap (λ z. new_row slots p ∷ z) rest
    by false rest = rest

module _ (slots : List Slot) (rows : List Row) (before : List Pair) (p : Pair) where
  -- a pair that isn't incremental begins no row
  pub plain_new : p.incremental ≡ false → new_rows slots rows (before ++ p ∷ []) ≡ new_rows slots rows before
  plain_new plain =
      new_append slots rows before (p ∷ [])
      ∙ (ap (λ b. new_rows slots rows before ++ cond (b && not (list_any (is_of p.map.0) rows)) (new_row slots p ∷ []) []) plain ∙ append-nil (new_rows slots rows before))

  -- another one's stands ready
  pub incremental_new : p.incremental ≡ true → with_ready rows (new_row slots p) (new_rows slots rows before) ≡ new_rows slots rows (before ++ p ∷ [])
  incremental_new incremental =
      by (list_any (is_of p.map.0) rows) refl
      ∙ sym (new_append slots rows before (p ∷ []) ∙ ap (λ b. new_rows slots rows before ++ cond (b && not (list_any (is_of p.map.0) rows)) (new_row slots p ∷ []) []) incremental)
    where
      by : (b : Bool) → list_any (is_of p.map.0) rows ≡ b → with_ready rows (new_row slots p) (new_rows slots rows before) ≡ new_rows slots rows before ++ cond (not (list_any (is_of p.map.0) rows)) (new_row slots p ∷ []) []
      by true there = rw there (sym (append-nil (new_rows slots rows before)))
      by false none = rw none refl

cons_apart : (m : ℕ) (r : NewRow) (rs : List NewRow) → r.map ≢ m → All (λ (x : NewRow). x.map ≢ m) rs → All (λ (x : NewRow). x.map ≢ m) (r ∷ rs)
cons_apart m r rs first rest zero d lt = first
cons_apart m r rs first rest (suc i) d lt = rest i d (omega arith)

-- which is no row of the pairs before
pub new_apart : (slots : List Slot) (rows : List Row) (m : ℕ) (ps : List Pair) → All (λ (q : Pair). q.map.0 ≢ m) ps → All (λ (r : NewRow). r.map ≢ m) (new_rows slots rows ps)
new_apart slots rows m [] apart = λ i d lt. absurd (omega arith)
new_apart slots rows m (p ∷ ps) apart = by (p.incremental && not (list_any (is_of p.map.0) rows)) (apart 0 p (omega arith)) (new_apart slots rows m ps (λ i d lt. apart (suc i) d (omega arith)))
  where
    by : (b : Bool) → p.map.0 ≢ m → All (λ (r : NewRow). r.map ≢ m) (new_rows slots rows ps) → All (λ (r : NewRow). r.map ≢ m) (cond b (new_row slots p ∷ new_rows slots rows ps) (new_rows slots rows ps))
    by true first rest = cons_apart m (new_row slots p) (new_rows slots rows ps) first rest
    by false first rest = rest

take_apart : (pairs : List Pair) (i : ℕ) (p : Pair) → AreOfOthers pairs → i < length pairs → get_or pairs i p ≡ p → All (λ (q : Pair). q.map.0 ≢ p.map.0) (take i pairs)
take_apart pairs i p others lt here j d jl =
    let short : j < i = omega (arith, jl, length-take i pairs) in
    subst (λ (q : Pair). q.map.0 ≢ p.map.0) (sym (get_or-take i pairs j d short))
    (subst (λ (q : Pair). (get_or pairs j d).map.0 ≢ q.map.0) (get_or_default pairs i d p lt ∙ here) (others j i d short lt))

ready_apart : (slots : List Slot) (rows : List Row) (pairs : List Pair) (i : ℕ) (d : Pair) → AreOfOthers pairs → i < length pairs → All (λ (r : NewRow). r.map ≢ (get_or pairs i d).map.0) (new_rows slots rows (take i pairs))
ready_apart slots rows pairs i d others lt =
    let p : Pair = get_or pairs i d in
    new_apart slots rows p.map.0 (take i pairs) (take_apart pairs i p others lt (get_or_default pairs i p d lt))

pub now_apart : (slots : List Slot) (s now : ChangesState) (pairs : List Pair) (i : ℕ) (d : Pair) → AreOfOthers pairs → i < length pairs → now ≡ record s { ready = new_rows slots s.rows (take i pairs) } →
    All (λ (r : NewRow). r.map ≢ (get_or pairs i d).map.0) now.ready
now_apart slots s now pairs i d others lt at =
    subst (λ (z : ChangesState). All (λ (r : NewRow). r.map ≢ (get_or pairs i d).map.0) z.ready) (sym at) (ready_apart slots s.rows pairs i d others lt)

pub drop_apart : (pairs : List Pair) (i : ℕ) (p : Pair) → AreOfOthers pairs → i < length pairs → get_or pairs i p ≡ p → All (λ (q : Pair). q.map.0 ≢ p.map.0) (drop (i + 1) pairs)
drop_apart pairs i p others lt here j d jl same =
    let long : i + 1 + j < length pairs = omega (arith, jl, length-drop (i + 1) pairs) in
    let at : get_or (drop (i + 1) pairs) j d ≡ get_or pairs (i + 1 + j) d = get_or-drop (i + 1) pairs j d in
    others i (i + 1 + j) d (omega arith) long
    (ap (λ (q : Pair). q.map.0) (get_or_default pairs i d p lt ∙ here) ∙ (sym same ∙ ap (λ (q : Pair). q.map.0) at))

-- ---- slots that leave, as they are told

-- the sizes that a leaving needs
pub leaving_sized : (slots : List Slot) (rows : List Row) (k v : ℕ) (held : List Bool) → All (IsSized slots) rows → k < length slots → v ≡ (slot_at slots k).volume → held ≡ (slot_at slots k).held →
    All (λ (row : Row). row_names row v ≡ true → length row.same ≡ length held) rows
leaving_sized slots rows k v held sized kl volume is i d lt names =
    sized i d lt k kl (subst (λ z. row_names (get_or rows i d) z ≡ true) volume names) ∙ ap length (sym is)

-- ---- loops over pairs and mappings

-- Some pairs have begun, and these are left.
pub record BeginsRest (slots : List Slot) (s : ChangesState) (pairs : List Pair) (now : ChangesState) (rest : List Pair) : Type 0 where
  pub ready : now.ready ≡ new_rows slots now.rows rest
  pub rows : fold after_note now.rows (map (beginning slots) rest) ≡ fold after_note s.rows (map (beginning slots) pairs)

pub begins_can : (slots : List Slot) (s : ChangesState) (pairs : List Pair) (now : ChangesState) (i : ℕ) (d : Pair) → i < length pairs → BeginsRest slots s pairs now (drop i pairs) →
    CanBegin now (get_or pairs i d).map.0 (get_or pairs i d).source.0 (get_or pairs i d).target.0 (get_or pairs i d).incremental
begins_can slots s pairs now i d lt b =
    let p : Pair = get_or pairs i d in
    first_can slots now p (drop (i + 1) pairs) (b.ready ∙ ap (new_rows slots now.rows) (next_left pairs i p lt (get_or_default pairs i p d lt)))

begins_next : (slots : List Slot) (s : ChangesState) (pairs : List Pair) (now now' : ChangesState) (p : Pair) (rest : List Pair) → All (λ (q : Pair). q.map.0 ≢ p.map.0) rest →
    BeginsRest slots s pairs now (p ∷ rest) → now' ≡ after_beginning now p.map.0 p.source.0 p.target.0 p.incremental → BeginsRest slots s pairs now' rest
begins_next slots s pairs now now' p rest others b is =
    let f = first_begins slots now p rest now' others b.ready is in
    record { ready = f.ready; rows = ap (λ (z : List Row). fold after_note z (map (beginning slots) rest)) f.rows ∙ b.rows }

pub begins_next_at : (slots : List Slot) (s : ChangesState) (pairs : List Pair) (now now' : ChangesState) (i : ℕ) (d : Pair) → AreOfOthers pairs → i < length pairs → BeginsRest slots s pairs now (drop i pairs) →
    now' ≡ after_beginning now (get_or pairs i d).map.0 (get_or pairs i d).source.0 (get_or pairs i d).target.0 (get_or pairs i d).incremental → BeginsRest slots s pairs now' (drop (i + 1) pairs)
begins_next_at slots s pairs now now' i d others lt b is =
    let p : Pair = get_or pairs i d in
    let here : get_or pairs i p ≡ p = get_or_default pairs i p d lt in
    begins_next slots s pairs now now' p (drop (i + 1) pairs) (drop_apart pairs i p others lt here) (subst (λ z. BeginsRest slots s pairs now z) (next_left pairs i p lt here) b) is

-- It is noted that some mappings leave, and these are left.
pub record LeavesRest (slots : List Slot) (s : ChangesState) (maps : List MapId) (now : ChangesState) (rest : List MapId) : Type 0 where
  pub sized : All (IsSized slots) now.rows
  pub rows : record now { rows = fold after_note now.rows (flat_map (leaving slots) rest) } ≡ record s { rows = fold after_note s.rows (flat_map (leaving slots) maps) }

leaves_next : (slots : List Slot) (s : ChangesState) (maps : List MapId) (now now' : ChangesState) (m : MapId) (rest : List MapId) → LeavesRest slots s maps now (m ∷ rest) →
    now' ≡ record now { rows = fold after_note now.rows (leaving slots m) } → LeavesRest slots s maps now' rest
leaves_next slots s maps now now' m rest b is = record {
  sized = subst (λ (z : ChangesState). All (IsSized slots) z.rows) (sym is) (sized_leaving slots now.rows m b.sized);
  rows =
      ap (λ (z : ChangesState). record z { rows = fold after_note z.rows (flat_map (leaving slots) rest) }) is
      ∙ (ap (λ (z : List Row). record now { rows = z }) (sym (fold-append after_note now.rows (leaving slots m) (flat_map (leaving slots) rest))) ∙ b.rows);
}

pub leaves_next_at : (slots : List Slot) (s : ChangesState) (maps : List MapId) (now now' : ChangesState) (i : ℕ) (d : MapId) → i < length maps → LeavesRest slots s maps now (drop i maps) →
    now' ≡ record now { rows = fold after_note now.rows (leaving slots (get_or maps i d)) } → LeavesRest slots s maps now' (drop (i + 1) maps)
leaves_next_at slots s maps now now' i d lt b is =
    let m : MapId = get_or maps i d in
    leaves_next slots s maps now now' m (drop (i + 1) maps) (subst (λ z. LeavesRest slots s maps now z) (next_left maps i m lt (get_or_default maps i m d lt)) b) is

-- ---- rows that stand ready, pair after pair

take_suc : (pairs : List Pair) (i : ℕ) (d : Pair) → i < length pairs → take (suc i) pairs ≡ take i pairs ++ get_or pairs i d ∷ []
take_suc [] i d lt = absurd (omega arith)
take_suc (p ∷ ps) zero d lt = refl
take_suc (p ∷ ps) (suc i) d lt = ap (λ z. p ∷ z) (take_suc ps i d (omega arith))

take_next : (pairs : List Pair) (i : ℕ) (d : Pair) → i < length pairs → take (i + 1) pairs ≡ take i pairs ++ get_or pairs i d ∷ []
take_next pairs i d lt = let next : i + 1 ≡ suc i = omega arith in ap (λ n. take n pairs) next ∙ take_suc pairs i d lt

pub plain_next : (slots : List Slot) (rows : List Row) (pairs : List Pair) (i : ℕ) (d : Pair) → i < length pairs → (get_or pairs i d).incremental ≡ false → new_rows slots rows (take (i + 1) pairs) ≡ new_rows slots rows (take i pairs)
plain_next slots rows pairs i d lt plain = ap (new_rows slots rows) (take_next pairs i d lt) ∙ plain_new slots rows (take i pairs) (get_or pairs i d) plain

pub incremental_next : (slots : List Slot) (rows : List Row) (pairs : List Pair) (i : ℕ) (d : Pair) → i < length pairs → (get_or pairs i d).incremental ≡ true →
    with_ready rows (new_row slots (get_or pairs i d)) (new_rows slots rows (take i pairs)) ≡ new_rows slots rows (take (i + 1) pairs)
incremental_next slots rows pairs i d lt incremental = incremental_new slots rows (take i pairs) (get_or pairs i d) incremental ∙ sym (ap (new_rows slots rows) (take_next pairs i d lt))

pub plain_ready : (slots : List Slot) (s now : ChangesState) (pairs : List Pair) (i : ℕ) (d : Pair) → i < length pairs → now ≡ record s { ready = new_rows slots s.rows (take i pairs) } → (get_or pairs i d).incremental ≡ false →
    now ≡ record s { ready = new_rows slots s.rows (take (i + 1) pairs) }
plain_ready slots s now pairs i d lt at plain = at ∙ ap (λ (z : List NewRow). record s { ready = z }) (sym (plain_next slots s.rows pairs i d lt plain))

pub made_ready : (slots : List Slot) (s now new : ChangesState) (pairs : List Pair) (i : ℕ) (d : Pair) (grains : ℕ) (result : Result (Unit {0}) NoMemory) → i < length pairs →
    now ≡ record s { ready = new_rows slots s.rows (take i pairs) } → (get_or pairs i d).incremental ≡ true → grains ≡ volume_grains slots (get_or pairs i d).target.0 →
    OnOk result (new ≡ record now { ready = with_ready now.rows (record { map = (get_or pairs i d).map.0; source = (get_or pairs i d).source.0; target = (get_or pairs i d).target.0; grains = grains }) now.ready }) →
    is_err result ≡ false → new ≡ record s { ready = new_rows slots s.rows (take (i + 1) pairs) }
made_ready slots s now new pairs i d grains (Ok x) lt at incremental size ok done =
    let p : Pair = get_or pairs i d in
    ok
    ∙ ((λ k. record (at k) { ready = with_ready (at k).rows (record { map = p.map.0; source = p.source.0; target = p.target.0; grains = size k }) (at k).ready })
    ∙ ap (λ (z : List NewRow). record s { ready = z }) (incremental_next slots s.rows pairs i d lt incremental))
made_ready slots s now new pairs i d grains (Err e) lt at incremental size ok done = absurd cc
