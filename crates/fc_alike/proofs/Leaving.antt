-- Rows after events other than triggers: what leaves a chain, comes, goes or is forgotten.
use Rattle.std.proofs.Common.{◌≡◌, ℕ, Bool, true, false, cond, Option, Some, None, List, [], ◌∷◌, ◌++◌, length, get_or, fold, flat_map, All, refl, sym, subst, ◌∙◌, inl, inr}
use Rattle.std.proofs.lemmas.Bool.{cases_eq, cond_both}
use Rattle.fc_base.specs.Sheet.{Slot, slot_at, mapping_place}
use Rattle.fc_base.specs.declared.ids.MapId.{MapId}
use Rattle.fc_base.specs.declared.ids.VolId.{VolId}
use Rattle.fc_changed.specs.Notes.{Note, has}
use Rattle.fc_changed.specs.Notes.Note.{Left}
use Rattle.fc_changed.specs.Row.{Row, row_names, row_left, after_note}
use Rattle.fc_entry.specs.Picture.{Content, PlainVolume, Picture, volume_in, changed_at, content_at}
use Rattle.fc_follow.specs.Following.{slot_leaves, leaving}
use Rattle.fc_pictures.proofs.Volumes.{id_of, changed_here, changed_other, push_in, without_id, without_in, length_cut, cut_keeps}
use Rattle.fc_rules.specs.LaneTold.{cut_by, cut_volume, cut_at, leaves}
use Rattle.fc_alike.proofs.Rows.{AlikeIn, AreAlikeIn, unnamed, with_same, held_too, held_parts, size_held, map_alike, same_alike, left_map, left_less}

-- ---- one volume is cut

-- at a grain that was held it shows what it did
cut_kept : (held : List Bool) (now under : List Content) (g : ℕ) → has held g ≡ true → content_at (cut_by held now under) g ≡ content_at now g
cut_kept [] now under g h = absurd cc
cut_kept (true ∷ held) [] under g h = refl
cut_kept (true ∷ held) (x ∷ now) [] g h = refl
cut_kept (true ∷ held) (x ∷ now) (y ∷ under) ℕ.zero h = refl
cut_kept (true ∷ held) (x ∷ now) (y ∷ under) (ℕ.suc g) h = cut_kept held now under g h
cut_kept (false ∷ held) [] under g h = refl
cut_kept (false ∷ held) (x ∷ now) [] g h = refl
cut_kept (false ∷ held) (x ∷ now) (y ∷ under) ℕ.zero h = absurd cc
cut_kept (false ∷ held) (x ∷ now) (y ∷ under) (ℕ.suc g) h = cut_kept held now under g h

-- A volume of the picture after a change: as large, and at some grains it shows what it did.
record KeptAt (next : Picture) (w : ℕ) (p : PlainVolume) (grains : List Bool) : Type 0 where
  plain : PlainVolume
  there : volume_in next (id_of w) ≡ Some plain
  size : length plain.now ≡ length p.now
  same : (g : ℕ) → has grains g ≡ true → content_at plain.now g ≡ content_at p.now g

cut_one : (picture : Picture) (v w : ℕ) (held : List Bool) (p : PlainVolume) → volume_in picture (id_of w) ≡ Some p → KeptAt (changed_at (id_of v) (cut_volume held) picture) w p held
cut_one picture v w held p e =
    elim (cases_eq w v) [
      | inl same ↦ record {
        plain = cut_volume held p;
        there = changed_here (id_of v) (cut_volume held) (cut_keeps held) picture (id_of w) p e same;
        size = length_cut held p.now p.under;
        same = λ g h. cut_kept held p.now p.under g h;
      }
      | inr ne ↦ record { plain = p; there = changed_other (id_of v) (cut_volume held) (cut_keeps held) picture (id_of w) p e ne; size = refl; same = λ g h. refl }
    ]

-- a row whose volumes stay in the picture
pub row_stays : (picture next : Picture) (row : Row) → ((p : PlainVolume) → volume_in picture (id_of row.source) ≡ Some p → volume_in next (id_of row.source) ≡ Some p) →
    ((p : PlainVolume) → volume_in picture (id_of row.target) ≡ Some p → volume_in next (id_of row.target) ≡ Some p) → AlikeIn picture row → AlikeIn next row
row_stays picture next row source target a =
    record {
      apart = a.apart;
      source = a.source;
      target = a.target;
      source_there = source a.source a.source_there;
      target_there = target a.target a.target_there;
      source_size = a.source_size;
      target_size = a.target_size;
      alike = a.alike;
    }

cut_row : (picture : Picture) (v : ℕ) (held : List Bool) (row : Row) → AlikeIn picture row → AlikeIn (changed_at (id_of v) (cut_volume held) picture) (row_left v held row)
cut_row picture v held row a =
    let next : Picture = changed_at (id_of v) (cut_volume held) picture in
    cond_both (row_names row v) (with_same row (held_too row held)) row (AlikeIn next)
    (λ e.
    let s = cut_one picture v row.source held a.source a.source_there in
    let t = cut_one picture v row.target held a.target a.target_there in
    record {
      apart = a.apart;
      source = s.plain;
      target = t.plain;
      source_there = s.there;
      target_there = t.there;
      source_size = s.size ∙ a.source_size ∙ sym (size_held row held);
      target_size = t.size ∙ a.target_size ∙ sym (size_held row held);
      alike = λ g h. let p = held_parts row held g h in s.same g p.1 ∙ a.alike g p.0 ∙ sym (t.same g p.1);
    })
    (λ e.
    let u = unnamed row v e in
    row_stays picture next row
    (λ p q. changed_other (id_of v) (cut_volume held) (cut_keeps held) picture (id_of row.source) p q (λ f. u.0 (sym f)))
    (λ p q. changed_other (id_of v) (cut_volume held) (cut_keeps held) picture (id_of row.target) p q (λ f. u.1 (sym f))) a)

-- ---- slots that leave

abbrev pub noted : List Note → List Row → List Row
noted notes rows = fold after_note rows notes

-- by the place of the slot
place_leaves : (slots : List Slot) (picture : Picture) (rows : List Row) (o : Option ℕ) → AreAlikeIn picture rows → AreAlikeIn (cut_at slots o picture) (noted (slot_leaves slots o) rows)
place_leaves slots picture rows None a = a
place_leaves slots picture rows (Some k) a = by (slot_at slots k).is_live
  where
    by : (live : Bool) →
        AreAlikeIn (cond live (changed_at (id_of (slot_at slots k).volume) (cut_volume (slot_at slots k).held) picture) picture)
        (noted (cond live (Left (slot_at slots k).volume (slot_at slots k).held ∷ []) []) rows)
    by true =
        let v : ℕ = (slot_at slots k).volume in
        let held : List Bool = (slot_at slots k).held in
        map_alike (row_left v held) picture (changed_at (id_of v) (cut_volume held) picture) rows (left_map v held) (cut_row picture v held) a
    by false = a

pub one_leaves : (slots : List Slot) (picture : Picture) (rows : List Row) (m : MapId) → AreAlikeIn picture rows → AreAlikeIn (leaves slots picture m) (noted (leaving slots m) rows)
one_leaves slots picture rows m a = place_leaves slots picture rows (mapping_place slots m.0) a

pub noted_append : (xs ys : List Note) (rows : List Row) → noted (xs ++ ys) rows ≡ noted ys (noted xs rows)
noted_append [] ys rows = refl
noted_append (x ∷ xs) ys rows = noted_append xs ys (after_note rows x)

all_leave : (slots : List Slot) (ms : List MapId) (picture : Picture) (rows : List Row) → AreAlikeIn picture rows → AreAlikeIn (fold (leaves slots) picture ms) (noted (flat_map (leaving slots) ms) rows)
all_leave slots [] picture rows a = a
all_leave slots (m ∷ ms) picture rows a =
    subst (AreAlikeIn (fold (leaves slots) picture (m ∷ ms))) (sym (noted_append (leaving slots m) (flat_map (leaving slots) ms) rows))
    (all_leave slots ms (leaves slots picture m) (noted (leaving slots m) rows) (one_leaves slots picture rows m a))

pub force_leaves : (slots : List Slot) (picture : Picture) (rows : List Row) (m : MapId) (ms : List MapId) → AreAlikeIn picture rows →
    AreAlikeIn (fold (leaves slots) (leaves slots picture m) ms) (noted (leaving slots m ++ flat_map (leaving slots) ms) rows)
force_leaves slots picture rows m ms a =
    subst (AreAlikeIn (fold (leaves slots) (leaves slots picture m) ms)) (sym (noted_append (leaving slots m) (flat_map (leaving slots) ms) rows))
    (all_leave slots ms (leaves slots picture m) (noted (leaving slots m) rows) (one_leaves slots picture rows m a))

-- a slot that leaves while its volume shows what it did
pub split_leaves : (slots : List Slot) (picture : Picture) (rows : List Row) (m : MapId) → AreAlikeIn picture rows → AreAlikeIn picture (noted (leaving slots m) rows)
split_leaves slots picture rows m a = by (mapping_place slots m.0)
  where
    by_live : (k : ℕ) (live : Bool) → AreAlikeIn picture (noted (cond live (Left (slot_at slots k).volume (slot_at slots k).held ∷ []) []) rows)
    by_live k true = left_less picture rows (slot_at slots k).volume (slot_at slots k).held a
    by_live k false = a

    by : (o : Option ℕ) → AreAlikeIn picture (noted (slot_leaves slots o) rows)
    by None = a
    by (Some k) = by_live k (slot_at slots k).is_live

-- ---- a volume comes or goes

pub come_alike : (picture : Picture) (rows : List Row) (new : PlainVolume) → AreAlikeIn picture rows → AreAlikeIn (picture ++ new ∷ []) rows
come_alike picture rows new a =
    same_alike picture (picture ++ new ∷ []) rows
    (λ row x. row_stays picture (picture ++ new ∷ []) row (λ p e. push_in picture new (id_of row.source) p e) (λ p e. push_in picture new (id_of row.target) p e) x) a

pub go_alike : (picture : Picture) (rows : List Row) (id : VolId) → All (λ (row : Row). row_names row id.0 ≡ false) rows → AreAlikeIn picture rows → AreAlikeIn (without_id id picture) rows
go_alike picture rows id free a =
    record {
      distinct = a.distinct;
      each = λ k d kl.
          let row : Row = get_or rows k d in
          let u = unnamed row id.0 (free k d kl) in
          row_stays picture (without_id id picture) row
          (λ p e. without_in id (id_of row.source) picture (λ f. u.0 (sym f)) ∙ e)
          (λ p e. without_in id (id_of row.target) picture (λ f. u.1 (sym f)) ∙ e) (a.each k d kl);
    }
