-- Which grains count as changed: the rows of metadata stay between the least rows and those of the history.
use Rattle.std.proofs.Common.{◌≡◌, ◌≢◌, ℕ, zero, suc, ◌<◌, Bool, true, false, not, ◌&&◌, ◌||◌, cond, Option, Some, None, List, [], ◌∷◌, ◌++◌, length, get_or, set, map, fold, filter, replicate, refl, sym, ap, subst, ◌∙◌, arith, length-set, get_or-set_other}
use Rattle.std.specs.List.{list_any}
use Rattle.std.specs.Prelude.{◌==◌}
use Rattle.std.proofs.lemmas.Bool.{and_parts, and_from}
use Rattle.std.proofs.lemmas.List.{set-set}
use Rattle.std.proofs.lemmas.List.FromFn.{get_or-map-range_with_len}
use Rattle.fc_alike.proofs.Sets.{length_with, passes}
use Rattle.fc_base.specs.Sheet.{Sheet}
use Rattle.fc_base.specs.declared.decision.LaneEvent.{LaneEvent}
use Rattle.fc_base.specs.declared.request.Request.{Request}
use Rattle.fc_base.specs.declared.request.WritePart.{WritePart}
use Rattle.fc_changed.specs.Notes.{Note, has, grains_with, joins}
use Rattle.fc_changed.specs.Notes.Note.{Began, Wrote, Left, Cut, Forgotten}
use Rattle.fc_changed.specs.Row.{Row, is_of, row_names, row_began, row_wrote, row_left, row_cut, with_new, after_note}
use Rattle.fc_entry.specs.Picture.{grain_of_block}
use Rattle.fc_books.specs.After.{sheet_after}
use Rattle.fc_follow.specs.Following.{write_notes, event_notes, rows_event, restarts}
use Rattle.fc_legal.specs.Steps.{rows_after}
use Rattle.fc_rules.specs.LaneTold.{LaneOf, place_of}
use Rattle.fc_sheets.proofs.Holding.{held_in_range}
use Rattle.fc_kept.specs.Law.{MarkLaw}
use Rattle.fc_kept.specs.Marks.{IsMarked, AreMarked, asked_write, least_asked, least_events}
use Rattle.fc_kept.proofs.Unneeded.{cleared_held}

-- ---- sets, one between two

record Between (least kept now : List Bool) : Type 0 where
  kept_size : length kept ≡ length now
  least_size : length least ≡ length now
  true_now : (g : ℕ) → has kept g ≡ true → has now g ≡ true
  not_less : (g : ℕ) → has least g ≡ true → has kept g ≡ true

abbrev row_of : Row → List Bool → Row
row_of row grains = record row { same = grains }

marked : (now : Row) (least kept : List Bool) → Between least kept now.same → IsMarked (row_of now kept) now (row_of now least)
marked now least kept b =
    record {
      kept_is = refl;
      least_is = refl;
      kept_size = b.kept_size;
      least_size = b.least_size;
      true_now = b.true_now;
      not_less = b.not_less;
    }

between : (kept now least : Row) → IsMarked kept now least → Between least.same kept.same now.same
between kept now least m = record { kept_size = m.kept_size; least_size = m.least_size; true_now = m.true_now; not_less = m.not_less }

-- what is so of three such rows of one row is so of all that are marked
by_sets : (P : Row → Row → Row → Type 0) → ((now : Row) (least kept : List Bool) → Between least kept now.same → P (row_of now kept) now (row_of now least)) →
    (kept now least : Row) → IsMarked kept now least → P kept now least
by_sets P all kept now least m =
    subst (λ (z : Row). P z now least) (sym m.kept_is)
    (subst (λ (z : Row). P (row_of now kept.same) now z) (sym m.least_is) (all now least.same kept.same (between kept now least m)))

cleared_other : (held : List Bool) (g x : ℕ) → get_or (set held g false) x false ≡ true → x ≢ g
cleared_other [] g x e = absurd cc
cleared_other (b ∷ bs) zero zero e = absurd cc
cleared_other (b ∷ bs) zero (suc x) e = λ q. omega arith
cleared_other (b ∷ bs) (suc g) zero e = λ q. omega arith
cleared_other (b ∷ bs) (suc g) (suc x) e = λ q. cleared_other bs g x e (omega arith)

still_there : (xs ys : List Bool) (g x : ℕ) → ((y : ℕ) → has xs y ≡ true → has ys y ≡ true) → has (set xs g false) x ≡ true → has (set ys g false) x ≡ true
still_there xs ys g x more e =
    let ne : x ≢ g = cleared_other xs g x e in
    get_or-set_other ys g x false false ne ∙ more x (cleared_held xs g x e)

set_between : (least kept now : List Bool) (g : ℕ) → Between least kept now → Between (set least g false) (set kept g false) (set now g false)
set_between least kept now g b =
    record {
      kept_size = length-set kept g false ∙ (b.kept_size ∙ sym (length-set now g false));
      least_size = length-set least g false ∙ (b.least_size ∙ sym (length-set now g false));
      true_now = λ x e. still_there kept now g x b.true_now e;
      not_less = λ x e. still_there least kept g x b.not_less e;
    }

all_between : (least kept now : List Bool) (v : Bool) → Between least kept now → Between (replicate (length least) v) (replicate (length kept) v) (replicate (length now) v)
all_between least kept now v b =
    record {
      kept_size = ap (λ (n : ℕ). length (replicate n v)) b.kept_size;
      least_size = ap (λ (n : ℕ). length (replicate n v)) b.least_size;
      true_now = λ x e. ap (λ (n : ℕ). has (replicate n v) x) (sym b.kept_size) ∙ e;
      not_less = λ x e. ap (λ (n : ℕ). has (replicate n v) x) (b.kept_size ∙ sym b.least_size) ∙ e;
    }

abbrev common : List Bool → List Bool → List Bool
common held xs = grains_with (λ g. has xs g && has held g) (length xs)

common_more : (held xs ys : List Bool) (x : ℕ) → length xs ≡ length ys → ((y : ℕ) → has xs y ≡ true → has ys y ≡ true) → has (common held xs) x ≡ true → has (common held ys) x ≡ true
common_more held xs ys x size more e =
    let p = and_parts (has xs x) (has held x) (passes (λ g. has xs g && has held g) (length xs) x e) in
    let inside : x < length xs = held_in_range xs x p.0 in
    get_or-map-range_with_len (λ g. has ys g && has held g) 0 (length ys) x x false (omega arith) (omega arith)
    ∙ and_from (has ys x) (has held x) (more x p.0) p.1

common_between : (held least kept now : List Bool) → Between least kept now → Between (common held least) (common held kept) (common held now)
common_between held least kept now b =
    record {
      kept_size = length_with (λ g. has kept g && has held g) (length kept) ∙ (b.kept_size ∙ sym (length_with (λ g. has now g && has held g) (length now)));
      least_size = length_with (λ g. has least g && has held g) (length least) ∙ (b.least_size ∙ sym (length_with (λ g. has now g && has held g) (length now)));
      true_now = λ x e. common_more held kept now x b.kept_size b.true_now e;
      not_less = λ x e. common_more held least kept x (b.least_size ∙ sym b.kept_size) b.not_less e;
    }

-- ---- what a note does to a row

abbrev Alike : (Row → Row) → Type 0
Alike f = (now : Row) (least kept : List Bool) → Between least kept now.same → IsMarked (f (row_of now kept)) (f now) (f (row_of now least))

-- by a test that doesn't look at the grains
by_test : (b : Bool) (kept now least kept' now' least' : Row) → IsMarked kept now least → IsMarked kept' now' least' →
    IsMarked (cond b kept kept') (cond b now now') (cond b least least')
by_test true kept now least kept' now' least' first second = first
by_test false kept now least kept' now' least' first second = second

alike_wrote : (v g : ℕ) → Alike (row_wrote v g)
alike_wrote v g now least kept b =
    by_test (row_names now v) (row_of now (set kept g false)) (row_of now (set now.same g false)) (row_of now (set least g false)) (row_of now kept) now (row_of now least)
    (marked (row_of now (set now.same g false)) (set least g false) (set kept g false) (set_between least kept now.same g b))
    (marked now least kept b)

abbrev all_of : Row → Bool → Row
all_of row v = record row { same = replicate (length row.same) v }

alike_all : (v : Bool) → Alike (λ row. all_of row v)
alike_all v now least kept b =
    marked (all_of now v) (replicate (length least) v) (replicate (length kept) v) (all_between least kept now.same v b)

abbrev into_of : ℕ → Row → Row
into_of target row = record (all_of row true) { into = target }

alike_into : (target : ℕ) → Alike (into_of target)
alike_into target now least kept b =
    marked (into_of target now) (replicate (length least) true) (replicate (length kept) true) (all_between least kept now.same true b)

alike_began : (source target : ℕ) → Alike (row_began source target)
alike_began source target now least kept b =
    let K : Row = row_of now kept in
    let L : Row = row_of now least in
    by_test (joins now.source now.target source target) (into_of target K) (into_of target now) (into_of target L)
    (cond (row_names now target) (all_of K false) K) (cond (row_names now target) (all_of now false) now) (cond (row_names now target) (all_of L false) L)
    (alike_into target now least kept b)
    (by_test (row_names now target) (all_of K false) (all_of now false) (all_of L false) K now L (alike_all false now least kept b) (marked now least kept b))

alike_left : (target : ℕ) (held : List Bool) → Alike (row_left target held)
alike_left target held now least kept b =
    by_test (row_names now target) (row_of now (common held kept)) (row_of now (common held now.same)) (row_of now (common held least)) (row_of now kept) now (row_of now least)
    (marked (row_of now (common held now.same)) (common held least) (common held kept) (common_between held least kept now.same b))
    (marked now least kept b)

alike_cut : (target : ℕ) → Alike (row_cut target)
alike_cut target now least kept b =
    let K : Row = row_of now kept in
    let L : Row = row_of now least in
    by_test (row_names now target && not (now.into == target)) (all_of K false) (all_of now false) (all_of L false) K now L (alike_all false now least kept b) (marked now least kept b)

-- ---- all rows

map_marked : (f : Row → Row) → Alike f → (kept now least : List Row) → AreMarked kept now least → AreMarked (map f kept) (map f now) (map f least)
map_marked f alike [] [] [] m = tt
map_marked f alike (k ∷ ks) (n ∷ ns) (l ∷ ls) m = (by_sets (λ x y z. IsMarked (f x) (f y) (f z)) alike k n l m.0, map_marked f alike ks ns ls m.1)
map_marked f alike kept now least m = absurd m

itself : (rows : List Row) → AreMarked rows rows rows
itself [] = tt
itself (row ∷ rows) = (
  marked row row.same row.same (record { kept_size = refl; least_size = refl; true_now = λ g e. e; not_less = λ g e. e }),
  itself rows,
)

append_marked : (kept now least : List Row) (row : Row) → AreMarked kept now least → AreMarked (kept ++ row ∷ []) (now ++ row ∷ []) (least ++ row ∷ [])
append_marked [] [] [] row m = itself (row ∷ [])
append_marked (k ∷ ks) (n ∷ ns) (l ∷ ls) row m = (m.0, append_marked ks ns ls row m.1)
append_marked kept now least row m = absurd m

-- a test of the mapping alone says of all three what it says of one
any_marked : (m : ℕ) (kept now least : List Row) → AreMarked kept now least →
    (list_any (is_of m) kept ≡ list_any (is_of m) now) × (list_any (is_of m) least ≡ list_any (is_of m) now)
any_marked m [] [] [] h = (refl, refl)
any_marked m (k ∷ ks) (n ∷ ns) (l ∷ ls) h =
    let rest = any_marked m ks ns ls h.1 in
    let one = h.0 in (
      ap (λ (z : Row). m == z.map || list_any (is_of m) ks) one.kept_is ∙ ap (λ (z : Bool). m == n.map || z) rest.0,
      ap (λ (z : Row). m == z.map || list_any (is_of m) ls) one.least_is ∙ ap (λ (z : Bool). m == n.map || z) rest.1,
    )
any_marked m kept now least h = absurd h

new_marked : (b : Bool) (row : Row) (kept now least : List Row) → AreMarked kept now least →
    AreMarked (cond b kept (kept ++ row ∷ [])) (cond b now (now ++ row ∷ [])) (cond b least (least ++ row ∷ []))
new_marked true row kept now least m = m
new_marked false row kept now least m = append_marked kept now least row m

with_new_marked : (m source target : ℕ) (followed : Option ℕ) (kept now least : List Row) → AreMarked kept now least →
    AreMarked (with_new m source target followed kept) (with_new m source target followed now) (with_new m source target followed least)
with_new_marked m source target None kept now least h = h
with_new_marked m source target (Some grains) kept now least h =
    let row : Row = record { map = m; source = source; target = target; into = target; same = replicate grains true } in
    let same = any_marked m kept now least h in
    subst (λ (z : Bool). AreMarked (cond z kept (kept ++ row ∷ [])) (with_new m source target (Some grains) now) (with_new m source target (Some grains) least)) (sym same.0)
    (subst (λ (z : Bool). AreMarked (cond (list_any (is_of m) now) kept (kept ++ row ∷ [])) (with_new m source target (Some grains) now) (cond z least (least ++ row ∷ []))) (sym same.1)
    (new_marked (list_any (is_of m) now) row kept now least h))

abbrev others : ℕ → List Row → List Row
others m rows = filter (λ row. not (is_of m row)) rows

one_filtered : (b : Bool) (kept now least : Row) (ks ns ls : List Row) → IsMarked kept now least → AreMarked ks ns ls →
    AreMarked (cond b (kept ∷ ks) ks) (cond b (now ∷ ns) ns) (cond b (least ∷ ls) ls)
one_filtered true kept now least ks ns ls one rest = (one, rest)
one_filtered false kept now least ks ns ls one rest = rest

filter_marked : (m : ℕ) (kept now least : List Row) → AreMarked kept now least → AreMarked (others m kept) (others m now) (others m least)
filter_marked m [] [] [] h = tt
filter_marked m (k ∷ ks) (n ∷ ns) (l ∷ ls) h =
    let rest = filter_marked m ks ns ls h.1 in
    by_sets (λ x y z. AreMarked (others m (x ∷ ks)) (others m (y ∷ ns)) (others m (z ∷ ls)))
    (λ now least kept b.
    one_filtered (not (m == now.map)) (row_of now kept) now (row_of now least) (others m ks) (others m ns) (others m ls) (marked now least kept b) rest) k n l h.0
filter_marked m kept now least h = absurd h

-- ---- notes

note_marked : (kept now least : List Row) (note : Note) → AreMarked kept now least → AreMarked (after_note kept note) (after_note now note) (after_note least note)
note_marked kept now least (Began m source target followed) h =
    with_new_marked m source target followed (map (row_began source target) kept) (map (row_began source target) now) (map (row_began source target) least)
    (map_marked (row_began source target) (alike_began source target) kept now least h)
note_marked kept now least (Wrote v g) h = map_marked (row_wrote v g) (alike_wrote v g) kept now least h
note_marked kept now least (Left target held) h = map_marked (row_left target held) (alike_left target held) kept now least h
note_marked kept now least (Cut target) h = map_marked (row_cut target) (alike_cut target) kept now least h
note_marked kept now least (Forgotten m) h = filter_marked m kept now least h

noted : (kept now least : List Row) (notes : List Note) → AreMarked kept now least → AreMarked (fold after_note kept notes) (fold after_note now notes) (fold after_note least notes)
noted kept now least [] h = h
noted kept now least (n ∷ ns) h = noted (after_note kept n) (after_note now n) (after_note least n) ns (note_marked kept now least n h)

decided : (s : Sheet) (kept now least : List Row) (events : List LaneEvent) → AreMarked kept now least →
    AreMarked (least_events s now kept events) (rows_after s now events) (least_events s now least events)
decided s kept now least [] h = h
decided s kept now least (e ∷ es) h =
    decided (sheet_after (restarts now) s e) (rows_event s.slots kept e) (rows_event s.slots now e) (rows_event s.slots least e) es
    (noted kept now least (event_notes s.slots e) h)

-- ---- a write that is under way

-- the least set loses a grain; and so may the one between
less : (least kept now : List Bool) (g : ℕ) → Between least kept now → Between (set least g false) kept now
less least kept now g b =
    record {
      kept_size = b.kept_size;
      least_size = length-set least g false ∙ b.least_size;
      true_now = b.true_now;
      not_less = λ x e. b.not_less x (cleared_held least g x e);
    }

less_both : (least kept now : List Bool) (g : ℕ) → Between least kept now → Between (set least g false) (set kept g false) now
less_both least kept now g b =
    record {
      kept_size = length-set kept g false ∙ b.kept_size;
      least_size = length-set least g false ∙ b.least_size;
      true_now = λ x e. b.true_now x (cleared_held kept g x e);
      not_less = λ x e. still_there least kept g x b.not_less e;
    }

by_least : (b : Bool) (kept now least least' : Row) → IsMarked kept now least → IsMarked kept now least' → IsMarked kept now (cond b least least')
by_least true kept now least least' first second = first
by_least false kept now least least' first second = second

by_both : (b : Bool) (kept now least kept' least' : Row) → IsMarked kept now least → IsMarked kept' now least' → IsMarked (cond b kept kept') now (cond b least least')
by_both true kept now least kept' least' first second = first
by_both false kept now least kept' least' first second = second

least_wrote : (v g : ℕ) (kept now least : List Row) → AreMarked kept now least → AreMarked kept now (map (row_wrote v g) least)
least_wrote v g [] [] [] m = tt
least_wrote v g (k ∷ ks) (n ∷ ns) (l ∷ ls) m = (
  by_sets (λ x y z. IsMarked x y (row_wrote v g z))
      (λ now least kept b.
      by_least (row_names now v) (row_of now kept) now (row_of now (set least g false)) (row_of now least)
      (marked now (set least g false) kept (less least kept now.same g b)) (marked now least kept b)) k n l m.0,
  least_wrote v g ks ns ls m.1,
)
least_wrote v g kept now least m = absurd m

begun : (kept now least : List Row) (v g : ℕ) → AreMarked kept now least → AreMarked (map (row_wrote v g) kept) now (map (row_wrote v g) least)
begun [] [] [] v g m = tt
begun (k ∷ ks) (n ∷ ns) (l ∷ ls) v g m = (
  by_sets (λ x y z. IsMarked (row_wrote v g x) y (row_wrote v g z))
      (λ now least kept b.
      by_both (row_names now v) (row_of now (set kept g false)) now (row_of now (set least g false)) (row_of now kept) (row_of now least)
      (marked now (set least g false) (set kept g false) (less_both least kept now.same g b)) (marked now least kept b)) k n l m.0,
  begun ks ns ls v g m.1,
)
begun kept now least v g m = absurd m

asked_marked : (l : LaneOf) (kept now least : List Row) (asked : Option Request) → AreMarked kept now least → AreMarked kept now (least_asked l least asked)
asked_marked l kept now least None m = m
asked_marked l kept now least (Some r) m = by (asked_write r)
  where
    by : (o : Option WritePart) → AreMarked kept now (fold after_note least (write_notes l o))
    by None = m
    by (Some part) = least_wrote part.volume.0 (place_of l (grain_of_block l.grain part.block)) kept now least m

-- ---- twice

wrote_twice : (v g : ℕ) (row : Row) → row_wrote v g (row_wrote v g row) ≡ row_wrote v g row
wrote_twice v g row = by (row_names row v) refl
  where
    by : (b : Bool) → row_names row v ≡ b → row_wrote v g (cond b (row_of row (set row.same g false)) row) ≡ cond b (row_of row (set row.same g false)) row
    by true e =
        ap (λ (z : Bool). cond z (row_of row (set (set row.same g false) g false)) (row_of row (set row.same g false))) e
        ∙ ap (row_of row) (set-set row.same g false false)
    by false e = ap (λ (z : Bool). cond z (row_of row (set row.same g false)) row) e

twice : (rows : List Row) (v g : ℕ) → map (row_wrote v g) (map (row_wrote v g) rows) ≡ map (row_wrote v g) rows
twice [] v g = refl
twice (row ∷ rows) v g =
    ap (λ (z : Row). z ∷ map (row_wrote v g) (map (row_wrote v g) rows)) (wrote_twice v g row)
    ∙ ap (λ (z : List Row). row_wrote v g row ∷ z) (twice rows v g)

pub mark_law : MarkLaw
mark_law = record { itself = itself; noted = noted; decided = decided; asked = asked_marked; begun = begun; twice = twice }
