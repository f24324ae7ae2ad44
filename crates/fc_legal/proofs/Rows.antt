-- What is kept of incremental mappings, through notes: each row stays one of a mapping of the table.
use Rattle.std.proofs.Common.{◌≡◌, ◌≢◌, ℕ, ◌<◌, Bool, true, false, not, cond, List, [], ◌∷◌, ◌++◌, length, get_or, map, fold, filter, refl, sym, ap, subst, ◌∙◌, arith, length-set}
use Rattle.std.specs.Prelude.{◌&&◌, ◌==◌}
use Rattle.std.proofs.lemmas.List.{get_or-map, length-map, length-replicate}
use Rattle.std.proofs.lemmas.List.Elements.{All-map, All-filter}
use Rattle.std.proofs.lemmas.List.FromFn.{length-map-range_with_len}
use Rattle.std.proofs.lemmas.List.Kept.{AllPairs-filter}
use Rattle.fc_base.specs.Tables.{Tables, volume_with}
use Rattle.fc_books.specs.Sound.{HasGrains}
use Rattle.fc_changed.specs.Notes.{Note, has, joins}
use Rattle.fc_changed.specs.Notes.Note.{Began, Wrote, Left, Cut, Forgotten}
use Rattle.fc_changed.specs.Row.{Row, is_of, row_names, with_all, with_none, row_began, row_wrote, row_left, row_cut, after_note}
use Rattle.fc_legal.specs.Stands.{IsOfMapping, AreRows}
use Rattle.fc_legal.proofs.Each.{Each, each_append}

-- ---- rows that differ in their grains alone

-- Of the same mapping, and as large.
pub record IsLike (r s : Row) : Type 0 where
  pub map_is : s.map ≡ r.map
  pub source_is : s.source ≡ r.source
  pub target_is : s.target ≡ r.target
  pub size : length s.same ≡ length r.same

like_itself : (r : Row) → IsLike r r
like_itself r = record { map_is = refl; source_is = refl; target_is = refl; size = refl }

like_if : (b : Bool) (r x y : Row) → IsLike r x → IsLike r y → IsLike r (cond b x y)
like_if true r x y first second = first
like_if false r x y first second = second

like_none : (r : Row) → IsLike r (with_none r)
like_none r = record { map_is = refl; source_is = refl; target_is = refl; size = length-replicate (length r.same) false }

pub like_began : (source target : ℕ) (r : Row) → IsLike r (row_began source target r)
like_began source target r =
    like_if (joins r.source r.target source target) r (record (with_all r) { into = target }) (cond (row_names r target) (with_none r) r)
    (record { map_is = refl; source_is = refl; target_is = refl; size = length-replicate (length r.same) true })
    (like_if (row_names r target) r (with_none r) r (like_none r) (like_itself r))

pub like_wrote : (volume grain : ℕ) (r : Row) → IsLike r (row_wrote volume grain r)
like_wrote volume grain r =
    like_if (row_names r volume) r _ r (record { map_is = refl; source_is = refl; target_is = refl; size = length-set r.same grain false }) (like_itself r)

pub like_left : (target : ℕ) (held : List Bool) (r : Row) → IsLike r (row_left target held r)
like_left target held r =
    like_if (row_names r target) r _ r
    (record { map_is = refl; source_is = refl; target_is = refl; size = length-map-range_with_len (λ g. has r.same g && has held g) 0 (length r.same) })
    (like_itself r)

pub like_cut : (target : ℕ) (r : Row) → IsLike r (row_cut target r)
like_cut target r = like_if (row_names r target && not (r.into == target)) r (with_none r) r (like_none r) (like_itself r)

-- ---- rows of mappings

like_mapping : (t : Tables) (r s : Row) → IsLike r s → IsOfMapping t r → IsOfMapping t s
like_mapping t r s l i =
    record {
      mapping = i.mapping;
      there = i.there;
      id_is = i.id_is ∙ sym l.map_is;
      source_is = i.source_is ∙ sym l.source_is;
      target_is = i.target_is ∙ sym l.target_is;
      incremental = i.incremental;
      size = subst (HasGrains (volume_with t i.mapping.target)) (sym l.size) i.size;
    }

pub rows_map : (t : Tables) (f : Row → Row) (rows : List Row) → ((r : Row) → IsLike r (f r)) → AreRows t rows → AreRows t (map f rows)
rows_map t f rows like all =
    let n = length-map rows f in
    record {
      each = All-map (IsOfMapping t) f rows (λ k d kl. like_mapping t (get_or rows k d) (f (get_or rows k d)) (like (get_or rows k d)) (all.each k d kl));
      distinct = λ i j d lt jl e.
          let jl' : j < length rows = omega (arith, jl, n) in
          let il' : i < length rows = omega (arith, jl', lt) in
          all.distinct i j d lt jl'
          (sym (like (get_or rows i d)).map_is ∙ ap (λ (r : Row). r.map) (sym (get_or-map f rows i d d il')) ∙ e
          ∙ ap (λ (r : Row). r.map) (get_or-map f rows j d d jl') ∙ (like (get_or rows j d)).map_is);
    }

rows_filter : (t : Tables) (p : Row → Bool) (rows : List Row) → AreRows t rows → AreRows t (filter p rows)
rows_filter t p rows all =
    record { each = All-filter p (IsOfMapping t) rows all.each; distinct = AllPairs-filter (λ (x y : Row). x.map ≢ y.map) p rows all.distinct }

-- ---- notes that begin nothing

abbrev pub IsMild : Note → Type 0
IsMild (Began m source target followed) = ⊥
IsMild note = Unit {0}

abbrev pub AreMild : List Note → Type 0
AreMild notes = Each IsMild notes

pub mild_append : (ns ms : List Note) → AreMild ns → AreMild ms → AreMild (ns ++ ms)
mild_append ns ms first second = each_append IsMild ns ms first second

mild_rows : (t : Tables) (rows : List Row) (note : Note) → IsMild note → AreRows t rows → AreRows t (after_note rows note)
mild_rows t rows (Began m source target followed) mild all = absurd mild
mild_rows t rows (Wrote volume grain) mild all = rows_map t (row_wrote volume grain) rows (like_wrote volume grain) all
mild_rows t rows (Left target held) mild all = rows_map t (row_left target held) rows (like_left target held) all
mild_rows t rows (Cut target) mild all = rows_map t (row_cut target) rows (like_cut target) all
mild_rows t rows (Forgotten m) mild all = rows_filter t (λ row. not (is_of m row)) rows all

pub all_mild_rows : (t : Tables) (rows : List Row) (notes : List Note) → AreMild notes → AreRows t rows → AreRows t (fold after_note rows notes)
all_mild_rows t rows [] mild all = all
all_mild_rows t rows (n ∷ ns) mild all = all_mild_rows t (after_note rows n) ns mild.1 (mild_rows t rows n mild.0 all)
