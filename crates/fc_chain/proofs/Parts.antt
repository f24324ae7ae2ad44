-- What always holds of a cascade's parts is kept by each call.
use Rattle.std.proofs.Common.{◌≡◌, ℕ, ◌+◌, ◌-◌, ◌/◌, ◌<◌, ◌≤◌, suc, List, [], ◌∷◌, length, map, max, refl, sym, ap, subst, ◌∙◌, arith, inl, inr}
use Rattle.fc_bits.specs.Words.{words_for}
use Rattle.fc_base.specs.declared.decision.LaneEvent.{LaneEvent}
use Rattle.fc_base.specs.Sheet.{Slot, Sheet, slot_at}
use Rattle.fc_base.specs.SheetStep.{sheet_step}
use Rattle.fc_base.specs.SheetFits.{FitsTaken, FitsLost}
use Rattle.fc_chain.specs.Chains.{Chains, IsKept, AreParts, in_lane}
use Rattle.fc_events.specs.LaneGrains.{AreNumbered, lane_grains}
use Rattle.fc_events.specs.Room.{slots_made}
use Rattle.fc_events.specs.Table.{Table}
use Rattle.fc_tallies.specs.Ledger.{Ledger, IsCounted}
use Rattle.fc_tallies.specs.Tallies.{tally_at, AreTallies, Countable}
use Rattle.fc_places.specs.Directory.{Directory, ListsSlots, HasPlaces}
use Rattle.std.proofs.lemmas.Bool.{cases_lt}
use Rattle.fc_sheets.proofs.Holding.{Regrained}
use Rattle.fc_places.proofs.Listed.{lists_map, places_fewer}
use Rattle.fc_chain.proofs.Keeps.{view_of}
use Rattle.fc_events.proofs.Growing.{step_grows}
use Rattle.fc_events.proofs.Numbered.{wider_numbered}

pub countable : (lane lanes : ℕ) (sheet : Sheet) → IsKept lane lanes sheet → Countable sheet.slots
countable lane lanes sheet k = record { one_live = k.sound.one_live; one_size = k.sound.sizes.of_chain; together = k.together }

pub taken_fits : (value : Chains) (lane lanes room width v g : ℕ) (table : Table) → view_of lane lanes table room width ≡ value → FitsTaken value.sheet.slots v (in_lane value g) → FitsTaken table.sheet.slots v (g / lanes)
taken_fits value lane lanes room width v g table view fits = subst (λ (c : Chains). FitsTaken c.sheet.slots v (in_lane c g)) (sym view) fits

pub lost_fits : (value : Chains) (lane lanes room width v g : ℕ) (table : Table) → view_of lane lanes table room width ≡ value → FitsLost value.sheet.slots v (in_lane value g) → FitsLost table.sheet.slots v (g / lanes)
lost_fits value lane lanes room width v g table view fits = subst (λ (c : Chains). FitsLost c.sheet.slots v (in_lane c g)) (sym view) fits

pub slots_fit : (table : Table) (ledger : Ledger) (room width : ℕ) → IsCounted table ledger room width → length table.sheet.slots ≤ length ledger.tallies
slots_fit table ledger room width c = omega (arith, c.fits)

length_map : (f : Slot → Slot) (ts : List Slot) → length (map f ts) ≡ length ts
length_map f [] = refl
length_map f (t ∷ ts) = ap suc (length_map f ts)

-- pairs change
pub mapped_parts : (f : Slot → Slot) → Regrained f → (lane lanes : ℕ) (table new : Table) (ledger after : Ledger) (d : Directory) (room width : ℕ) → AreParts lane lanes table ledger d room width → IsKept lane lanes new.sheet →
    new ≡ record table { sheet = record table.sheet { slots = map f table.sheet.slots } } → AreTallies new.sheet.slots after.tallies → length after.tallies ≡ length ledger.tallies → after.words ≡ ledger.words → AreParts lane lanes new after d room width
mapped_parts f regrained lane lanes table new ledger after d room width p k e t l w =
    let size : length new.sheet.slots ≡ length table.sheet.slots = ap (λ (z : Table). length z.sheet.slots) e ∙ length_map f table.sheet.slots in
    let r : new.room ≡ table.room = ap (λ (z : Table). z.room) e in
    let wide : new.width ≡ table.width = ap (λ (z : Table). z.width) e in
    let c : IsCounted table ledger room width = p.counted in
    record {
      kept = k;
      counted = record {
        tallied = t;
        fits = (let a : length table.sheet.slots + room ≤ length ledger.tallies = c.fits in omega arith);
        spare = (let a : room ≤ table.room = c.spare in omega arith);
        wide = (let a : width ≤ table.width = c.wide in omega arith);
        words = (let a : words_for table.width ≤ ledger.words = c.words in let b : words_for new.width ≡ words_for table.width = ap words_for wide in omega arith);
      };
      listed = subst (λ (z : List Slot). ListsSlots z d) (sym (ap (λ (z : Table). z.sheet.slots) e)) (lists_map f regrained table.sheet.slots d p.listed);
      places = places_fewer (length new.sheet.slots + room) (length table.sheet.slots + room) d (omega arith) p.places;
      numbered = subst (AreNumbered lane lanes) (sym wide) p.numbered;
    }

-- an event happens: there is room for all that it makes
pub room_after : (value : Chains) (lane lanes room width : ℕ) (table new : Table) (ledger : Ledger) (e : LaneEvent) → view_of lane lanes table room width ≡ value → IsCounted table ledger room width → slots_made e ≤ value.room →
    new.sheet ≡ sheet_step (lane_grains lane lanes) table.sheet e → length new.sheet.slots ≤ length ledger.tallies
room_after value lane lanes room width table new ledger e view c has q =
    let made : slots_made e ≤ room = subst (λ (z : Chains). slots_made e ≤ z.room) (sym view) has in
    let grows : length (sheet_step (lane_grains lane lanes) table.sheet e).slots ≤ length table.sheet.slots + slots_made e = step_grows (lane_grains lane lanes) e table.sheet in
    let size : length new.sheet.slots ≡ length (sheet_step (lane_grains lane lanes) table.sheet e).slots = ap (λ (s : Sheet). length s.slots) q in
    let f : length table.sheet.slots + room ≤ length ledger.tallies = c.fits in
    omega arith

pub left_after : (value : Chains) (lane lanes room width : ℕ) (table : Table) (e : LaneEvent) (slots : ℕ) → view_of lane lanes table room width ≡ value → slots_made e ≤ value.room → slots ≡ slots_made e → room - slots + slots_made e ≡ room
left_after value lane lanes room width table e slots view has s =
    let made : slots_made e ≤ room = subst (λ (z : Chains). slots_made e ≤ z.room) (sym view) has in
    omega arith

words_more : (n m : ℕ) → n ≤ m → words_for n ≤ words_for m
words_more n m le = omega arith

pub words_after : (table new : Table) (ledger : Ledger) (room width : ℕ) (now : List Slot) → IsCounted table ledger room width → new.width ≡ table.width → ((k : ℕ) → k < length now → length (slot_at now k).held ≤ new.width) →
    (k : ℕ) → k < length now → words_for (length (slot_at now k).held) ≤ ledger.words
words_after table new ledger room width now c e wide k lt =
    let a : words_for table.width ≤ ledger.words = c.words in
    let b : words_for (length (slot_at now k).held) ≤ words_for new.width = words_more _ _ (wide k lt) in
    let d : words_for new.width ≡ words_for table.width = ap words_for e in
    omega arith

pub stepped_parts : (value : Chains) (lane lanes room width left : ℕ) (table new : Table) (ledger after : Ledger) (old dir : Directory) (e : LaneEvent) (now again : List Slot) → view_of lane lanes table room width ≡ value → AreParts lane lanes table ledger old room width →
    IsKept lane lanes new.sheet → slots_made e ≤ value.room → new.sheet ≡ sheet_step (lane_grains lane lanes) table.sheet e → left + slots_made e ≡ room → table.room ≤ new.room + slots_made e → new.width ≡ table.width →
    now ≡ new.sheet.slots → AreTallies now after.tallies → length after.tallies ≡ length ledger.tallies → after.words ≡ ledger.words →
    again ≡ new.sheet.slots → ListsSlots again dir → HasPlaces (length table.sheet.slots + room) dir → AreParts lane lanes new after dir left width
stepped_parts value lane lanes room width left table new ledger after old dir e now again view p k has q rest spare d en t l w ea listed places =
    let c : IsCounted table ledger room width = p.counted in
    let made : slots_made e ≤ room = subst (λ (z : Chains). slots_made e ≤ z.room) (sym view) has in
    let grows : length (sheet_step (lane_grains lane lanes) table.sheet e).slots ≤ length table.sheet.slots + slots_made e = step_grows (lane_grains lane lanes) e table.sheet in
    let size : length new.sheet.slots ≡ length (sheet_step (lane_grains lane lanes) table.sheet e).slots = ap (λ (s : Sheet). length s.slots) q in
    record {
      kept = k;
      counted = record {
        tallied = subst (λ (z : List Slot). AreTallies z after.tallies) en t;
        fits = (let a : length table.sheet.slots + room ≤ length ledger.tallies = c.fits in omega arith);
        spare = (let a : room ≤ table.room = c.spare in omega arith);
        wide = (let a : width ≤ table.width = c.wide in omega arith);
        words = (let a : words_for table.width ≤ ledger.words = c.words in let b : words_for new.width ≡ words_for table.width = ap words_for d in omega arith);
      };
      listed = subst (λ (z : List Slot). ListsSlots z dir) ea listed;
      places = places_fewer (length new.sheet.slots + left) (length table.sheet.slots + room) dir (omega arith) places;
      numbered = subst (AreNumbered lane lanes) (sym d) p.numbered;
    }

-- there are places for all that an event makes
pub places_after : (value : Chains) (lane lanes room width : ℕ) (table new : Table) (d : Directory) (e : LaneEvent) → view_of lane lanes table room width ≡ value → HasPlaces (length table.sheet.slots + room) d → slots_made e ≤ value.room →
    new.sheet ≡ sheet_step (lane_grains lane lanes) table.sheet e → HasPlaces (length new.sheet.slots) d
places_after value lane lanes room width table new d e view h has q =
    let made : slots_made e ≤ room = subst (λ (z : Chains). slots_made e ≤ z.room) (sym view) has in
    let grows : length (sheet_step (lane_grains lane lanes) table.sheet e).slots ≤ length table.sheet.slots + slots_made e = step_grows (lane_grains lane lanes) e table.sheet in
    let size : length new.sheet.slots ≡ length (sheet_step (lane_grains lane lanes) table.sheet e).slots = ap (λ (s : Sheet). length s.slots) q in
    places_fewer (length new.sheet.slots) (length table.sheet.slots + room) d (omega arith) h

-- more room
still_tallies : (slots : List Slot) (old new : Ledger) → AreTallies slots old.tallies → length slots ≤ length old.tallies → ((k : ℕ) → k < length old.tallies → tally_at new.tallies k ≡ tally_at old.tallies k) → AreTallies slots new.tallies
still_tallies slots old new t fit stay k lt = stay k (omega arith) ∙ t k lt

pub refused_parts : (lane lanes : ℕ) (table : Table) (ledger after : Ledger) (d e : Directory) (room width : ℕ) → AreParts lane lanes table ledger d room width → ((k : ℕ) → k < length ledger.tallies → tally_at after.tallies k ≡ tally_at ledger.tallies k) →
    length ledger.tallies ≤ length after.tallies → ledger.words ≤ after.words → ListsSlots table.sheet.slots e → HasPlaces (length table.sheet.slots + room) e → AreParts lane lanes table after e room width
refused_parts lane lanes table ledger after d e room width p stay l w listed has =
    let c : IsCounted table ledger room width = p.counted in
    let f : length table.sheet.slots + room ≤ length ledger.tallies = c.fits in
    record {
      kept = p.kept;
      counted = record {
        tallied = still_tallies table.sheet.slots ledger after c.tallied (omega arith) stay;
        fits = omega arith;
        spare = c.spare;
        wide = c.wide;
        words = (let a : words_for table.width ≤ ledger.words = c.words in omega arith);
      };
      listed = listed;
      places = has;
      numbered = p.numbered;
    }

pub roomy_parts : (lane lanes : ℕ) (table new : Table) (ledger after : Ledger) (d dir : Directory) (room width slots new_width wider more : ℕ) → AreParts lane lanes table ledger d room width → wider ≡ max new_width table.width → AreNumbered lane lanes new_width → ((k : ℕ) → k < length ledger.tallies → tally_at after.tallies k ≡ tally_at ledger.tallies k) →
    length ledger.tallies ≤ length after.tallies → length table.sheet.slots + slots ≤ length after.tallies → words_for wider ≤ after.words →
    new.sheet ≡ table.sheet → table.room ≤ new.room → slots ≤ new.room → table.width ≤ wider → wider ≤ new.width → new.width ≤ max table.width wider → more ≡ max room slots →
    ListsSlots table.sheet.slots dir → HasPlaces (length table.sheet.slots + room) dir → HasPlaces (length table.sheet.slots + slots) dir → AreParts lane lanes new after dir more wider
roomy_parts lane lanes table new ledger after d dir room width slots new_width wider more p we few stay l ls w e r rs dw dn dm em listed has wants =
    let c : IsCounted table ledger room width = p.counted in
    let f : length table.sheet.slots + room ≤ length ledger.tallies = c.fits in
    let s : room ≤ table.room = c.spare in
    let size : length new.sheet.slots ≡ length table.sheet.slots = ap (λ (z : Sheet). length z.slots) e in
    let top : new.width ≡ wider = omega arith in
    record {
      kept = subst (λ (z : Sheet). IsKept lane lanes z) (sym e) p.kept;
      counted = record {
        tallied = subst (λ (z : Sheet). AreTallies z.slots after.tallies) (sym e) (still_tallies table.sheet.slots ledger after c.tallied (omega arith) stay);
        fits = omega arith;
        spare = omega arith;
        wide = dn;
        words = (let b : words_for new.width ≡ words_for wider = ap words_for top in omega arith);
      };
      listed = subst (λ (z : Sheet). ListsSlots z.slots dir) (sym e) listed;
      places = elim (cases_lt room slots) [
        | inl lt ↦ places_fewer (length new.sheet.slots + more) (length table.sheet.slots + slots) dir (omega arith) wants
        | inr ge ↦ places_fewer (length new.sheet.slots + more) (length table.sheet.slots + room) dir (omega arith) has
      ];
      numbered = subst (AreNumbered lane lanes) (sym top) (subst (AreNumbered lane lanes) (sym we) (wider_numbered lane lanes new_width table.width few p.numbered));
    }
