-- What disks show others show, where they store the same of all grains of all volumes.
use Rattle.std.proofs.Common.{◌≡◌, ℕ, ◌<◌, Option, Some, None, List, length, cond, sym, ap, subst, ◌∙◌, arith, Contains}
use Rattle.std.specs.Prelude.{◌==◌}
use Rattle.std.proofs.lemmas.Bool.{eqb-true}
use Rattle.fc_base.specs.Sheet.{Slot, slot_at, column}
use Rattle.fc_base.specs.SheetFacts.{HasSizes}
use Rattle.fc_base.specs.Tables.{Tables, volume_with}
use Rattle.fc_base.specs.declared.ids.VolId.{VolId}
use Rattle.fc_base.specs.declared.size.GrainSize.{GrainSize}
use Rattle.fc_base.specs.declared.volume.Volume.{Volume}
use Rattle.fc_decided.proofs.Agreeing.{some_from}
use Rattle.fc_decided.proofs.Lists.{find_from}
use Rattle.fc_entry.specs.Picture.{Content, Lost, Picture}
use Rattle.fc_kept.specs.Disks.{NamedDisk, FitDisks, disk_of, on_disk, stored_on}
use Rattle.fc_kept.specs.Kept.{Kept, is_lost_in}
use Rattle.fc_kept.specs.OneGrain.{Another, with_another}
use Rattle.fc_kept.specs.Recoverable.{disks_at}
use Rattle.fc_kept.specs.Sound.{books_of, IsSoundKept}
use Rattle.fc_kept.proofs.Sizes.{size_is, slot_size}
use Rattle.fc_legal.specs.Whole.{Whole, lanes, lane_at, part_of_picture}
use Rattle.fc_moves.proofs.Readers.{holder_is}
use Rattle.fc_rules.specs.LaneTold.{LaneOf, number_at, grains_in}
use Rattle.fc_rules.specs.Shows.{Stored, Shows}
use Rattle.fc_parts.proofs.Numbers.{IsLane}
use Rattle.fc_parts.proofs.Views.{parts, slot_parts, count_parts, size_parts}
use Rattle.fc_recovered.specs.Readying.{HasOwnDisk}
use Rattle.fc_recovered.specs.Recovered.{RecoversTo}
use Rattle.fc_recovered.specs.Showing.{lane_over}

-- ---- in a lane

-- every slot's own grains are stored alike
abbrev Alike : List Slot → Stored → Stored → Type 0
Alike slots old new = (h g : ℕ) → h < length slots → g < length (slot_at slots h).held → new (slot_at slots h).volume g ≡ old (slot_at slots h).volume g

shows_alike : (slots : List Slot) (picture : Picture) (old new : Stored) → HasSizes slots → Alike slots old new → Shows slots picture old → Shows slots picture new
shows_alike slots picture old new sizes alike s =
    record {
      each = λ k kl live.
          let w = s.each k kl live in
          record {
            plain = w.plain;
            there = w.there;
            nows = w.nows;
            unders = w.unders;
            now = λ g h gl e.
                let i = holder_is (column slots g) k h e in
                let hl : h < length slots = omega (arith, i.before) in
                let size : length (slot_at slots h).held ≡ length (slot_at slots k).held = sizes.of_chain h k hl kl i.one_chain in
                w.now g h gl e ∙ sym (alike h g hl (omega arith));
            under = λ g gl e. w.under g gl e ∙ sym (alike k g kl gl);
          };
      only = s.only;
      apart = s.apart;
    }

part_sizes : (l : LaneOf) → IsLane l → (slots : List Slot) → HasSizes slots → HasSizes (parts l slots)
part_sizes l i slots s =
    let n : length (parts l slots) ≡ length slots = count_parts l slots in
    let at : (k : ℕ) → length (slot_at (parts l slots) k).held ≡ grains_in l (length (slot_at slots k).held) = size_parts l i slots in
    record {
      of_chain = λ a b al bl e.
          at a
          ∙ (ap (grains_in l) (s.of_chain a b (omega arith) (omega arith) (sym (ap (λ (z : Slot). z.chain) (slot_parts l i slots a)) ∙ (e ∙ ap (λ (z : Slot). z.chain) (slot_parts l i slots b))))
          ∙ sym (at b));
      of_volume = λ a b al bl e.
          at a
          ∙ (ap (grains_in l) (s.of_volume a b (omega arith) (omega arith) (sym (ap (λ (z : Slot). z.volume) (slot_parts l i slots a)) ∙ (e ∙ ap (λ (z : Slot). z.volume) (slot_parts l i slots b))))
          ∙ sym (at b));
    }

-- ---- on the disks

-- the disks store the same of each volume of the tables
abbrev pub StoreSame : LaneOf → List Volume → List NamedDisk → List NamedDisk → Type 0
StoreSame l volumes old new = (v : Volume) → Contains volumes v → (g : ℕ) → g < grains_in l v.grains → on_disk l (disk_of new v.id.0) g ≡ on_disk l (disk_of old v.id.0) g

stored_alike : (l : LaneOf) → IsLane l → (k : Kept) → IsSoundKept k → (old new : List NamedDisk) → StoreSame l k.tables.volumes old new →
    Alike (parts l k.sheet.slots) (stored_on l old k) (stored_on l new k)
stored_alike l i k sound old new same h g hl gl =
    let slots : List Slot = k.sheet.slots in
    let n : length (parts l slots) ≡ length slots = count_parts l slots in
    let below : h < length slots = omega arith in
    let id : VolId = record { 0 = (slot_at slots h).volume } in
    let x = some_from (volume_with k.tables id) (sound.books.agree.slots h below) in
    let f = find_from (λ (v : Volume). id.0 == v.id.0) k.tables.volumes x.0 x.1 in
    let own : id.0 ≡ x.0.id.0 = eqb-true id.0 x.0.id.0 f.1 in
    let size : length (slot_at slots h).held ≡ x.0.grains = slot_size (books_of k) sound.books h below ∙ size_is k.tables id x.0 x.1 in
    let part : length (slot_at (parts l slots) h).held ≡ grains_in l x.0.grains = size_parts l i slots h ∙ ap (grains_in l) size in
    let volume : (slot_at (parts l slots) h).volume ≡ x.0.id.0 = ap (λ (z : Slot). z.volume) (slot_parts l i slots h) ∙ own in
    subst (λ (v : ℕ). stored_on l new k v g ≡ stored_on l old k v g) (sym volume)
    (ap (λ (c : Content). cond (is_lost_in k.lost x.0.id.0 (number_at l g)) Lost c) (same x.0 f.0 g (omega arith)))

-- ---- all of it

fits : (l : LaneOf) (t : Tables) (disks : List NamedDisk) → ((v : Volume) → Contains t.volumes v → HasOwnDisk l disks v) → FitDisks l disks t
fits l t disks each =
    record {
      named = λ v disk c e.
          let h = each v c in
          let same : h.disk ≡ disk = some_same h.disk disk (sym h.there ∙ e) in
          (ap (λ (d : NamedDisk). d.disk.kind) (sym same) ∙ h.kind, ap (λ (d : NamedDisk). length d.disk.grains) (sym same) ∙ h.grains);
      unnamed = λ v c none. absurd (no_some v.id.0 (each v c).disk (sym (each v c).there ∙ none));
      one = λ v w c d none other. absurd (no_some v.id.0 (each v c).disk (sym (each v c).there ∙ none));
    }
  where
    some_same : (a b : NamedDisk) → Some a ≡ Some b → a ≡ b
    some_same a b e = cc

    no_some : (v : ℕ) (a : NamedDisk) → Some a ≡ None → ⊥
    no_some v a e = cc

abbrev numbered : GrainSize → ℕ → ℕ → LaneOf
numbered grain i n = record { lane = i; lanes = n; grain = grain }

-- what the disks stand for the others stand for
pub stands_on : (grain : GrainSize) (k : Kept) (old new : List (List NamedDisk)) → length new ≡ length old →
    ((i : ℕ) → i < length new → (v : Volume) → Contains k.tables.volumes v → HasOwnDisk (lane_over grain new i) (disks_at new i) v) →
    ((i : ℕ) → i < length old → StoreSame (lane_over grain old i) k.tables.volumes (disks_at old i) (disks_at new i)) →
    (now : Whole) (one : Option Another) → RecoversTo grain old k now one → RecoversTo grain new k now one
stands_on grain k old new count ready same now one s =
    let all : length new ≡ lanes now = count ∙ s.says.count in
    record {
      least = s.least;
      says = record {
        sound = s.says.sound;
        tables = s.says.tables;
        next_volume = s.says.next_volume;
        next_mapping = s.says.next_mapping;
        next_group = s.says.next_group;
        slots = s.says.slots;
        rows = s.says.rows;
        count = all;
        fit = λ i il.
            subst (λ (n : ℕ). FitDisks (numbered grain i n) (disks_at new i) k.tables) all
            (fits (numbered grain i (length new)) k.tables (disks_at new i) (ready i il));
      };
      shows = λ i il.
          let below : i < length old = subst (λ (n : ℕ). i < n) count il in
          let lane : i < lanes now = subst (λ (n : ℕ). i < n) all il in
          let l : LaneOf = lane_at grain now i in
          let alike : StoreSame l k.tables.volumes (disks_at old i) (disks_at new i) =
          subst (λ (n : ℕ). StoreSame (numbered grain i n) k.tables.volumes (disks_at old i) (disks_at new i)) s.says.count (same i below) in
          shows_alike (parts l k.sheet.slots) (part_of_picture l (with_another one k.sheet.slots now.picture)) (stored_on l (disks_at old i) k) (stored_on l (disks_at new i) k)
          (part_sizes l lane k.sheet.slots s.says.sound.books.sheet.sizes)
          (stored_alike l lane k s.says.sound (disks_at old i) (disks_at new i) alike) (s.shows i below);
    }
