-- Grains of slots and of restart sets are few, and ids of slots below the numbers of ids.
use Rattle.std.proofs.Common.{◌≡◌, inl, inr, ℕ, ◌^◌, ◌<◌, ◌≤◌, ◌==◌, Contains, IsSome, List, [], ◌∷◌, find, length, Option, Some, None, refl, sym, ap, subst, ◌∙◌, arith}
use Rattle.std.proofs.lemmas.Bool.{cases_lt, eqb-true}
use Rattle.std.proofs.lemmas.List.Elements.{All-contains}
use Rattle.std.specs.Option.{option_map_or}
use Rattle.fc_base.specs.Sheet.{Slot, no_slot, slot_at}
use Rattle.fc_base.specs.Tables.{Tables, volume_with}
use Rattle.fc_base.specs.declared.ids.VolId.{VolId}
use Rattle.fc_base.specs.declared.volume.Mapping.{Mapping}
use Rattle.fc_base.specs.declared.volume.Volume.{Volume}
use Rattle.fc_books.specs.Books.{Books}
use Rattle.fc_books.specs.Copies.{total}
use Rattle.fc_books.specs.Sound.{AreSound, HasGrains}
use Rattle.fc_changed.specs.Row.{Row, is_of, row_restart}
use Rattle.fc_decided.proofs.Lists.{find_from}
use Rattle.fc_decided.proofs.Ordered.{one_of_id}
use Rattle.fc_entry.specs.Refused.{all_grains}
use Rattle.fc_legal.specs.Stands.{AreRows, IsOfMapping}
use Rattle.fc_legal.specs.Whole.{Whole}
use Rattle.fc_sheets.proofs.Finding.{live_place_at}
use Rattle.law_stands.proofs.Few.{one_of_all}
use Rattle.law_stands.specs.Deciders.{CanDecide}
use Rattle.law_stands.specs.Reached.{IsReached}

-- ---- volumes that are found

record IsIn (t : Tables) (id : ℕ) : Type 0 where
  volume : Volume
  there : Contains t.volumes volume
  is : volume.id.0 ≡ id

found_in : (t : Tables) (id : VolId) (o : Option Volume) → volume_with t id ≡ o → IsSome o → IsIn t id.0
found_in t id None e some = absurd cc
found_in t id (Some v) e some =
    let f = find_from (λ (x : Volume). id.0 == x.id.0) t.volumes v e in
    record { volume = v; there = f.0; is = sym (eqb-true _ _ f.1) }

-- ---- grains of slots

past_end : (slots : List Slot) (k : ℕ) → length slots ≤ k → slot_at slots k ≡ no_slot
past_end [] k le = refl
past_end (s ∷ slots) ℕ.zero le = absurd (omega (arith, le))
past_end (s ∷ slots) (ℕ.suc k) le = past_end slots k (omega (arith, le))

module _ (b : Books) (sound : AreSound b) where
  of_slot : (k : ℕ) → k < length b.sheet.slots → IsIn b.tables (slot_at b.sheet.slots k).volume
  of_slot k kl =
      let id : VolId = record { 0 = (slot_at b.sheet.slots k).volume } in
      found_in b.tables id (volume_with b.tables id) refl (sound.agree.slots k kl)

  -- as many as its volume has
  slot_grains : (k : ℕ) (kl : k < length b.sheet.slots) → length (slot_at b.sheet.slots k).held ≡ (of_slot k kl).volume.grains
  slot_grains k kl =
      let of = of_slot k kl in
      let live = sound.agree.volumes of.volume of.there in
      let at = live_place_at b.sheet.slots of.volume.id.0 live.0 live.1 in
      sound.sheet.sizes.of_volume k live.0 kl at.there (sym (at.of_volume ∙ of.is)) ∙ live.2

  few_held : all_grains b.tables.volumes ≤ 8192 → (k : ℕ) → length (slot_at b.sheet.slots k).held ≤ 8192
  few_held few k =
      elim (cases_lt k (length b.sheet.slots)) [
        | inl kl ↦ (let of = of_slot k kl in let le = one_of_all b.tables.volumes of.volume of.there in let same = slot_grains k kl in omega (arith, few, le, same))
        | inr le ↦ (let none : length (slot_at b.sheet.slots k).held ≡ 0 = ap (λ (s : Slot). length s.held) (past_end b.sheet.slots k le) in omega (arith, none))
      ]

-- ---- restart sets

-- The row that is found is of a mapping of the table.
of_found : (t : Tables) (rows : List Row) (m : ℕ) (row : Row) → AreRows t rows → find (is_of m) rows ≡ Some row → IsOfMapping t row
of_found t rows m row are e = All-contains (IsOfMapping t) rows row are.each (find_from (is_of m) rows row e).0

few_grains : (t : Tables) (m : Mapping) (n : ℕ) → all_grains t.volumes ≤ 8192 → (o : Option Volume) → volume_with t m.target ≡ o → HasGrains o n → n ≤ 8192
few_grains t m n few None e size = absurd size
few_grains t m n few (Some v) e size =
    let le = one_of_all t.volumes v (find_from (λ (x : Volume). m.target.0 == x.id.0) t.volumes v e).0 in
    omega (arith, few, le, size)

few_restart : (t : Tables) (rows : List Row) (m : ℕ) → AreRows t rows → all_grains t.volumes ≤ 8192 → (o : Option Row) → find (is_of m) rows ≡ o → length (row_restart o) ≤ 8192
few_restart t rows m are few None e = omega arith
few_restart t rows m are few (Some row) e =
    let is : IsOfMapping t row = of_found t rows m row are e in
    few_grains t is.mapping (length row.same) few (volume_with t is.mapping.target) refl is.size

-- ---- room in the copy

as_large : (n : ℕ) (o : Option Volume) → HasGrains o n → n ≤ option_map_or (λ (v : Volume). v.grains) o 0
as_large n None size = absurd size
as_large n (Some v) size = omega (arith, size)

room_found : (b : Books) (rows : List Row) (m : Mapping) → AreSound b → AreRows b.tables rows → Contains b.tables.mappings m → (o : Option Row) → find (is_of m.id.0) rows ≡ o →
    length (row_restart o) ≤ total b m
room_found b rows m sound are there None e = omega arith
room_found b rows m sound are there (Some row) e =
    let is : IsOfMapping b.tables row = of_found b.tables rows m.id.0 row are e in
    let of_id : m.id.0 ≡ row.map = eqb-true m.id.0 row.map (find_from (is_of m.id.0) rows row e).1 in
    let same : is.mapping ≡ m =
    one_of_id (λ (x : Mapping). x.id.0) (λ (x : Mapping). x.name) b.tables.mappings is.mapping m sound.tables.mappings is.there there (is.id_is ∙ sym of_id) in
    as_large (length row.same) (volume_with b.tables m.target) (subst (λ (x : Mapping). HasGrains (volume_with b.tables x.target) (length row.same)) same is.size)

-- ---- all that deciding needs

pub reached_decides : (decisions : ℕ) (w : Whole) → decisions < 2 ^ 32 → IsReached decisions w → CanDecide w
reached_decides decisions w small reached =
    let b : Books = w.books in
    let sound : AreSound b = reached.stands.sound in
    let few = reached.stands.few in
    let are : AreRows b.tables w.rows = reached.stands.rows in
    record {
      sound = sound;
      lanes = omega (arith, reached.stands.each_lane.some, reached.stands.each_lane.pools);
      room = λ m there. room_found b w.rows m sound are there (find (is_of m.id.0) w.rows) refl;
      held = few_held b sound reached.grains;
      restart = λ m. few_restart b.tables w.rows m are reached.grains (find (is_of m) w.rows) refl;
      births = λ k kl. omega (arith, sound.sheet.names.births k kl, few.births, small);
      volumes = λ k kl.
          let of = of_slot b sound k kl in
          let lt : of.volume.id.0 < b.next_volume = All-contains (λ (v : Volume). v.id.0 < b.next_volume) b.tables.volumes of.volume sound.tables.new_volume of.there in
          omega (arith, lt, few.volumes, of.is, small);
      mappings = λ k kl n e.
          let of = sound.agree.owned k kl n e in
          let lt : of.0.id.0 < b.next_mapping = All-contains (λ (m : Mapping). m.id.0 < b.next_mapping) b.tables.mappings of.0 sound.tables.new_mapping of.1 in
          omega (arith, lt, few.mappings, of.2, small);
      rising = sound.tables.mappings.rising;
      owned = λ k n kl e. sound.agree.owned k kl n e;
    }
