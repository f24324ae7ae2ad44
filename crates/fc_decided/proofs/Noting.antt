-- What is kept of incremental mappings, through events: each row stays one of a mapping of the table.
use Rattle.std.proofs.Common.{◌≡◌, ◌≢◌, ℕ, Bool, true, false, not, cond, List, [], ◌∷◌, ◌++◌, get_or, map, fold, filter, replicate, Option, Some, None, refl, sym, ap, subst, ◌∙◌, Contains, All}
use Rattle.std.specs.Prelude.{◌||◌, ◌==◌, find, flat_map}
use Rattle.std.specs.List.{list_any}
use Rattle.std.specs.Option.{ForSome}
use Rattle.std.proofs.lemmas.Bool.{eqb-true, eq-eqb, ne_eqb, both_ways}
use Rattle.std.proofs.lemmas.List.{length-replicate}
use Rattle.std.proofs.lemmas.List.Elements.{All-contains, All-map, All-push, All-filter, Contains-get_or}
use Rattle.std.proofs.lemmas.List.Quantifiers.{all_pairs_push}
use Rattle.fc_base.specs.Sheet.{Slot, slot_at, mapping_place, volume_grains}
use Rattle.fc_base.specs.Tables.{Tables, IsOrdered, volume_with}
use Rattle.fc_base.specs.declared.decision.LaneEvent.{LaneEvent}
use Rattle.fc_base.specs.declared.decision.LaneEvent.TheVariants.{Make, Remove, Trigger, Retire, Detach, Split, Force, Drop, Forget, NoteCut, Access, Work, Arm}
use Rattle.fc_base.specs.declared.ids.MapId.{MapId}
use Rattle.fc_base.specs.declared.request.Pair.{Pair}
use Rattle.fc_base.specs.declared.volume.Mapping.{Mapping}
use Rattle.fc_books.specs.Sound.{HasGrains}
use Rattle.fc_books.specs.Starting.{pair_of}
use Rattle.fc_changed.specs.Notes.{Note}
use Rattle.fc_changed.specs.Notes.Note.{Began, Wrote, Left, Cut, Forgotten}
use Rattle.fc_changed.specs.Row.{Row, is_of, row_names, row_began, row_wrote, row_left, row_cut, with_new, after_note}
use Rattle.fc_decided.proofs.Keeping.{IsForgotten}
use Rattle.fc_decided.proofs.Lists.{all_from, filter_from, find_from, any_in, first_in, later_in}
use Rattle.fc_decided.proofs.Ordered.{one_of_id}
use Rattle.fc_decided.proofs.Sparing.{Spares, ArePairs}
use Rattle.fc_follow.specs.Following.{slot_leaves, leaving, beginning, event_notes, rows_event, IsOfPair, FitsRows}
use Rattle.fc_legal.proofs.Rows.{IsLike, like_began, like_wrote, like_left, like_cut, rows_map, IsMild, AreMild, mild_append, all_mild_rows}
use Rattle.fc_legal.specs.Stands.{IsOfMapping, AreRows}

-- ---- rows that come, and rows that lack a mapping

rows_push : (t : Tables) (rows : List Row) (row : Row) → ((r : Row) → Contains rows r → r.map ≢ row.map) → IsOfMapping t row → AreRows t rows → AreRows t (rows ++ row ∷ [])
rows_push t rows row other i all =
    record {
      each = All-push (IsOfMapping t) rows row all.each i;
      distinct = all_pairs_push (λ (x y : Row). x.map ≢ y.map) rows row all.distinct (λ k d kl. other (get_or rows k d) (Contains-get_or rows k d kl));
    }

-- No row is of this mapping.
abbrev pub Lack : ℕ → List Row → Type 0
Lack i rows = All (λ (row : Row). row.map ≢ i) rows

lack_map : (i : ℕ) (f : Row → Row) (rows : List Row) → ((r : Row) → IsLike r (f r)) → Lack i rows → Lack i (map f rows)
lack_map i f rows like all =
    All-map (λ (row : Row). row.map ≢ i) f rows (λ k d kl e. all k d kl (sym (like (get_or rows k d)).map_is ∙ e))

mild_lack : (i : ℕ) (rows : List Row) (note : Note) → IsMild note → Lack i rows → Lack i (after_note rows note)
mild_lack i rows (Began m source target followed) mild all = absurd mild
mild_lack i rows (Wrote volume grain) mild all = lack_map i (row_wrote volume grain) rows (like_wrote volume grain) all
mild_lack i rows (Left target held) mild all = lack_map i (row_left target held) rows (like_left target held) all
mild_lack i rows (Cut target) mild all = lack_map i (row_cut target) rows (like_cut target) all
mild_lack i rows (Forgotten m) mild all = All-filter (λ row. not (is_of m row)) (λ (row : Row). row.map ≢ i) rows all

all_mild_lack : (i : ℕ) (rows : List Row) (notes : List Note) → AreMild notes → Lack i rows → Lack i (fold after_note rows notes)
all_mild_lack i rows [] mild all = all
all_mild_lack i rows (n ∷ ns) mild all = all_mild_lack i (after_note rows n) ns mild.1 (mild_lack i rows n mild.0 all)

-- ---- events that trigger nothing

mild_leaves : (slots : List Slot) (o : Option ℕ) → AreMild (slot_leaves slots o)
mild_leaves slots None = tt
mild_leaves slots (Some k) = by (slot_at slots k).is_live
  where
    by : (b : Bool) → AreMild (cond b (Left (slot_at slots k).volume (slot_at slots k).held ∷ []) [])
    by true = (tt, tt)
    by false = tt

mild_leaving : (slots : List Slot) (ms : List MapId) → AreMild (flat_map (leaving slots) ms)
mild_leaving slots [] = tt
mild_leaving slots (m ∷ ms) = mild_append (leaving slots m) (flat_map (leaving slots) ms) (mild_leaves slots (mapping_place slots m.0)) (mild_leaving slots ms)

spared_mild : (t : Tables) (slots : List Slot) (e : LaneEvent) → Spares t e → AreMild (event_notes slots e)
spared_mild t slots (Trigger pairs) none = absurd none
spared_mild t slots (Retire m) none = mild_leaves slots (mapping_place slots m.0)
spared_mild t slots (Detach m) none = mild_leaves slots (mapping_place slots m.0)
spared_mild t slots (Split m) none = mild_leaves slots (mapping_place slots m.0)
spared_mild t slots (Force m dependents) none = mild_append (leaving slots m) (flat_map (leaving slots) dependents) (mild_leaves slots (mapping_place slots m.0)) (mild_leaving slots dependents)
spared_mild t slots (Forget m) none = (tt, tt)
spared_mild t slots (NoteCut m source target) none = (tt, tt)
spared_mild t slots e none = tt

pub spared_rows : (t : Tables) (slots : List Slot) (rows : List Row) (e : LaneEvent) → Spares t e → AreRows t rows → AreRows t (rows_event slots rows e)
spared_rows t slots rows e spare all = all_mild_rows t rows (event_notes slots e) (spared_mild t slots e spare) all

pub spared_lack : (t : Tables) (i : ℕ) (slots : List Slot) (rows : List Row) (e : LaneEvent) → Spares t e → Lack i rows → Lack i (rows_event slots rows e)
spared_lack t i slots rows e spare all = all_mild_lack i rows (event_notes slots e) (spared_mild t slots e spare) all

pub forgotten_lack : (i : ℕ) (slots : List Slot) (rows : List Row) (e : LaneEvent) → IsForgotten i e → Lack i (rows_event slots rows e)
forgotten_lack i slots rows (Forget m) is =
    all_from (λ (row : Row). row.map ≢ i) (filter (λ row. not (is_of m.0 row)) rows) (λ row found e.
    let f = filter_from (λ (r : Row). not (is_of m.0 r)) rows row found in
    both_ways (not (m.0 == row.map)) (ap not (eq-eqb m.0 row.map (is ∙ sym e))) f.1)
forgotten_lack i slots rows (Make volume grains kind) none = absurd none
forgotten_lack i slots rows (Remove volume) none = absurd none
forgotten_lack i slots rows (Trigger pairs) none = absurd none
forgotten_lack i slots rows (Retire m) none = absurd none
forgotten_lack i slots rows (Detach m) none = absurd none
forgotten_lack i slots rows (Split m) none = absurd none
forgotten_lack i slots rows (Force m dependents) none = absurd none
forgotten_lack i slots rows (Drop slot) none = absurd none
forgotten_lack i slots rows (NoteCut m source target) none = absurd none
forgotten_lack i slots rows (Access volume access) none = absurd none
forgotten_lack i slots rows (Work m copies cleans) none = absurd none
forgotten_lack i slots rows (Arm volume grain calls) none = absurd none

-- ---- it fits the rows

not_named : (row : Row) (v : ℕ) → row.source ≢ v → row.target ≢ v → row_names row v ≡ false
not_named row v source target =
    ap (λ b. b || (v == row.target)) (ne_eqb v row.source (λ e. source (sym e))) ∙ ne_eqb v row.target (λ e. target (sym e))

pub spared_fits : (t : Tables) (rows : List Row) (e : LaneEvent) → Spares t e → AreRows t rows → FitsRows rows e
spared_fits t rows (Remove volume) spare all = λ k d kl.
    let i = all.each k d kl in
    let out = spare i.mapping i.there in
    not_named (get_or rows k d) volume.0 (λ e. out.0 (i.source_is ∙ e)) (λ e. out.1 (i.target_is ∙ e))
spared_fits t rows (Trigger pairs) spare all = absurd spare
spared_fits t rows e spare all = tt

-- ---- triggers

-- A mapping's target has so many grains in the chains as in the table.
abbrev pub HaveSizes : Tables → List Slot → Type 0
HaveSizes t slots = (m : Mapping) → Contains t.mappings m → HasGrains (volume_with t m.target) (volume_grains slots m.target.0)

new_row : (t : Tables) (slots : List Slot) (m : Mapping) → HaveSizes t slots → Contains t.mappings m → m.incremental ≡ true →
    IsOfMapping t (record { map = m.id.0; source = m.source.0; target = m.target.0; into = m.target.0; same = replicate (volume_grains slots m.target.0) true })
new_row t slots m sizes found e =
    record {
      mapping = m;
      there = found;
      id_is = refl;
      source_is = refl;
      target_is = refl;
      incremental = e;
      size = subst (HasGrains (volume_with t m.target)) (sym (length-replicate (volume_grains slots m.target.0) true)) (sizes m found);
    }

with_rows : (t : Tables) (slots : List Slot) (m : Mapping) (rows : List Row) (b : Bool) → m.incremental ≡ b → HaveSizes t slots → Contains t.mappings m → AreRows t rows →
    AreRows t (with_new m.id.0 m.source.0 m.target.0 (cond b (Some (volume_grains slots m.target.0)) None) rows)
with_rows t slots m rows false e sizes found all = all
with_rows t slots m rows true e sizes found all = by (list_any (is_of m.id.0) rows) refl
  where
    more : List Row
    more = rows ++ record { map = m.id.0; source = m.source.0; target = m.target.0; into = m.target.0; same = replicate (volume_grains slots m.target.0) true } ∷ []

    by : (any : Bool) → list_any (is_of m.id.0) rows ≡ any → AreRows t (cond any rows (rows ++ record { map = m.id.0; source = m.source.0; target = m.target.0; into = m.target.0; same = replicate (volume_grains slots m.target.0) true } ∷ []))
    by true any = all
    by false any =
        rows_push t rows _ (λ r there same. both_ways (m.id.0 == r.map) (any_in (is_of m.id.0) rows r any there) (eq-eqb m.id.0 r.map (sym same))) (new_row t slots m sizes found e) all

began_one : (t : Tables) (slots : List Slot) (rows : List Row) (m : Mapping) → HaveSizes t slots → Contains t.mappings m → AreRows t rows → AreRows t (after_note rows (beginning slots (pair_of m)))
began_one t slots rows m sizes found all =
    with_rows t slots m (map (row_began m.source.0 m.target.0) rows) m.incremental refl sizes found
    (rows_map t (row_began m.source.0 m.target.0) rows (like_began m.source.0 m.target.0) all)

pub began_rows : (t : Tables) (slots : List Slot) (rows : List Row) (pairs : List Pair) → HaveSizes t slots → ArePairs t pairs → AreRows t rows → AreRows t (fold after_note rows (map (beginning slots) pairs))
began_rows t slots rows [] sizes are all = all
began_rows t slots rows (p ∷ ps) sizes are all =
    let m = are p (first_in p ps) in
    began_rows t slots (after_note rows (beginning slots p)) ps sizes (λ q found. are q (later_in p q ps found))
    (subst (λ (q : Pair). AreRows t (after_note rows (beginning slots q))) m.2 (began_one t slots rows m.0 sizes m.1 all))

-- Its mappings are in order of ids.
abbrev pub AreById : List Mapping → Type 0
AreById maps = IsOrdered (λ (m : Mapping). m.id.0) (λ (m : Mapping). m.name) maps

-- Each row of a pair's mapping is from its source to its target.
pub pairs_fit : (t : Tables) (rows : List Row) (pairs : List Pair) → AreById t.mappings → ArePairs t pairs → AreRows t rows → FitsRows rows (Trigger pairs)
pairs_fit t rows pairs ordered are all =
    all_from (λ (p : Pair). ForSome (find (is_of p.map.0) rows) (IsOfPair p)) pairs (λ p found row e.
    let m = are p found in
    let f = find_from (is_of p.map.0) rows row e in
    let i = All-contains (IsOfMapping t) rows row all.each f.0 in
    let id : p.map.0 ≡ row.map = eqb-true p.map.0 row.map f.1 in
    let same : i.mapping ≡ m.0 = one_of_id (λ (x : Mapping). x.id.0) (λ (x : Mapping). x.name) t.mappings i.mapping m.0 ordered i.there m.1 (i.id_is ∙ sym id ∙ ap (λ (q : Pair). q.map.0) (sym m.2)) in (
      sym i.source_is ∙ ap (λ (x : Mapping). x.source.0) same ∙ ap (λ (q : Pair). q.source.0) m.2,
      sym i.target_is ∙ ap (λ (x : Mapping). x.target.0) same ∙ ap (λ (q : Pair). q.target.0) m.2,
    ))

-- ---- rows of the tables after it

-- Rows of a table, where each mapping stays or no row is of it.
pub rows_kept : (t u : Tables) (rows : List Row) → ((row : Row) (i : IsOfMapping t row) → Contains rows row → IsOfMapping u row) → AreRows t rows → AreRows u rows
rows_kept t u rows keeps all =
    record {
      each = all_from (IsOfMapping u) rows (λ row found. keeps row (All-contains (IsOfMapping t) rows row all.each found) found);
      distinct = all.distinct;
    }
