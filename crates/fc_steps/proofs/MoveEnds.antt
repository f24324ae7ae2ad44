-- How a move ends, by what the chains and the grains did.
use Rattle.std.proofs.Common.{◌≡◌, ℕ, ◌<◌, ◌/◌, Bool, true, false, cond, Option, Some, None, Ok, Err, List, length, refl, sym, ap, subst, ◌∙◌, arith}
use Rattle.fc_base.specs.Column.{holder}
use Rattle.fc_base.specs.Count.{HasRisen}
use Rattle.fc_base.specs.Room.{Room, reach}
use Rattle.fc_base.specs.Sheet.{Sheet, slot_at, column, birth_place}
use Rattle.fc_base.specs.SheetFacts.{IsSound}
use Rattle.fc_base.specs.SheetStep.{sheet_moved, sheet_torn}
use Rattle.fc_base.specs.declared.disk.DiskError.TheVariants.{Failed as Fails, NoMemory as NoRoom}
use Rattle.fc_base.specs.declared.disk.DiskKind.TheVariants.{Thin}
use Rattle.fc_base.specs.declared.request.Move.{Move}
use Rattle.fc_base.specs.declared.request.Side.TheVariants.{Under}
use Rattle.fc_base.specs.declared.request.Torn.{Torn}
use Rattle.fc_chain.specs.Chains.{Chains}
use Rattle.fc_entry.specs.Picture.{Content, Bytes, Lost, is_lost}
use Rattle.fc_grains.specs.Grains.{GrainsState}
use Rattle.fc_grains.specs.declared.copy_error.CopyError.{CopyError}
use Rattle.fc_grains.specs.declared.copy_error.CopyError.TheVariants.{Write}
use Rattle.fc_grains.specs.Calls.{HasRead, HasCopied}
use Rattle.fc_grains.specs.Volumes.{VolumeGrains, volume_of, stored, is_there, changed, holding, rooms_of}
use Rattle.fc_pictures.specs.Law.{StoredAt, StoredMoved}
use Rattle.fc_steps.specs.Moving.{CanMove, Counted, MoveEnds, SameLane, SameRooms}
use Rattle.fc_steps.specs.declared.body.StepEnd.{StepEnd}
use Rattle.fc_steps.specs.declared.stop.Stop.{Stop}
use Rattle.fc_steps.specs.declared.stop.Stop.TheVariants.{Failed, NoMemory}
use Rattle.fc_steps.proofs.Moving.{not_counted, one_holder, lost_is, source_at, changed_same, Source, ReadDone, read_done, wrote_done, wrote_stored, wrote_reached, failed_done, failed_stored, failed_reached, refused_done, refused_stored, refused_rooms, stored_after, counted_then, risen_then, same_then}
use Rattle.fc_steps.specs.Reading.{HasHolder, IsOfHolder}
use Rattle.fc_steps.specs.Standing.{AllSized}
use Rattle.fc_steps.proofs.Nearer.{come_changed, come_still, nearer_still}
use Rattle.fc_steps.proofs.Rooms.{rooms_stay, reached_after}
use Rattle.fc_steps.proofs.Stored.{stored_at, holds_size}

abbrev moved_to : Chains → ℕ → ℕ → Bool → Chains
moved_to chains v g in_place = record chains { sheet = sheet_moved v g in_place chains.sheet }

abbrev torn_to : Chains → ℕ → ℕ → Chains
torn_to chains v g = record chains { sheet = sheet_torn v g Under chains.sheet }

pub in_place_ends : (chains after : Chains) (old : GrainsState) (g k : ℕ) (m : Move) → CanMove chains g m k → m.in_place ≡ true →
    after ≡ record chains { sheet = sheet_moved (slot_at chains.sheet.slots k).volume (m.grain.0 / chains.lanes) true chains.sheet } → MoveEnds chains old g k m 0 None after old
in_place_ends chains after old g k m can t e =
    let v : ℕ = (slot_at chains.sheet.slots k).volume in (
      record {
        chains_are = e ∙ (ap (λ (z : ℕ). moved_to chains v z true) can.place ∙ ap (λ (b : Bool). moved_to chains v g b) (sym t));
        stored_is = subst (λ (b : Bool). StoredMoved chains.sheet.slots (stored old.volumes) k g b (stored old.volumes)) (sym t) (λ w y. refl);
        calls_are = λ h q. rw t refl;
        rooms = λ h q. rw t refl;
      },
      not_counted old old refl refl refl (come_still old.volumes),
    )

pub out_ends : (chains after : Chains) (old new : GrainsState) (g k h calls : ℕ) (m : Move) → CanMove chains g m k → m.in_place ≡ false → holder (column chains.sheet.slots g) k ≡ Some h →
    after ≡ record chains { sheet = sheet_moved (slot_at chains.sheet.slots k).volume (m.grain.0 / chains.lanes) false chains.sheet } →
    StoredAt (stored old.volumes) (slot_at chains.sheet.slots k).volume g (stored old.volumes (slot_at chains.sheet.slots h).volume g) (stored new.volumes) →
    calls ≡ cond (is_lost (stored old.volumes (slot_at chains.sheet.slots h).volume g)) 0 2 →
    rooms_of new.volumes ≡ cond (is_lost (stored old.volumes (slot_at chains.sheet.slots h).volume g)) (rooms_of old.volumes) (reach m.volume.0 g (rooms_of old.volumes)) → Counted old calls false new →
    MoveEnds chains old g k m calls None after new
out_ends chains after old new g k h calls m can f q e st c rooms counted =
    let v : ℕ = (slot_at chains.sheet.slots k).volume in
    let same : (i : ℕ) → holder (column chains.sheet.slots g) k ≡ Some i → h ≡ i = λ i r. one_holder (holder (column chains.sheet.slots g) k) h i q r in (
      record {
        chains_are = e ∙ (ap (λ (z : ℕ). moved_to chains v z false) can.place ∙ ap (λ (b : Bool). moved_to chains v g b) (sym f));
        stored_is = subst (λ (b : Bool). StoredMoved chains.sheet.slots (stored old.volumes) k g b (stored new.volumes)) (sym f)
            (λ i r. subst (λ (z : ℕ). StoredAt (stored old.volumes) v g (stored old.volumes (slot_at chains.sheet.slots z).volume g) (stored new.volumes)) (same i r) st);
        calls_are = λ i r. c ∙ (ap (λ (z : ℕ). cond (is_lost (stored old.volumes (slot_at chains.sheet.slots z).volume g)) 0 2) (same i r) ∙ rw f refl);
        rooms = λ i r. rooms ∙ (ap (λ (z : ℕ). cond (is_lost (stored old.volumes (slot_at chains.sheet.slots z).volume g)) (rooms_of old.volumes) (reach m.volume.0 g (rooms_of old.volumes))) (same i r) ∙ rw f refl);
      },
      counted,
    )

pub read_fails : (chains : Chains) (old new : GrainsState) (g k h : ℕ) (m : Move) → m.in_place ≡ false → holder (column chains.sheet.slots g) k ≡ Some h →
    is_lost (stored old.volumes (slot_at chains.sheet.slots h).volume g) ≡ false → ((w y : ℕ) → stored new.volumes w y ≡ stored old.volumes w y) → SameRooms old.volumes new.volumes →
    Counted old 1 true new → MoveEnds chains old g k m 1 (Some (Failed None)) chains new
read_fails chains old new g k h m f q lost same rooms counted = (record { out = f; holder_is = h; holds = q; readable = lost }, (refl, refl, same, rooms), counted)

pub write_fails : (chains after : Chains) (old new : GrainsState) (g k h : ℕ) (m : Move) (torn : Torn) → CanMove chains g m k → m.in_place ≡ false → holder (column chains.sheet.slots g) k ≡ Some h →
    is_lost (stored old.volumes (slot_at chains.sheet.slots h).volume g) ≡ false → torn ≡ record { volume = m.volume; grain = m.grain; side = Under } →
    after ≡ record chains { sheet = sheet_torn m.volume.0 (m.grain.0 / chains.lanes) Under chains.sheet } →
    StoredAt (stored old.volumes) (slot_at chains.sheet.slots k).volume g Lost (stored new.volumes) → HasRisen old.write_faults new.write_faults →
    rooms_of new.volumes ≡ reach m.volume.0 g (rooms_of old.volumes) → Counted old 2 true new → MoveEnds chains old g k m 2 (Some (Failed (Some torn))) after new
write_fails chains after old new g k h m torn can f q lost is e st by_write rooms counted = (
  record { out = f; holder_is = h; holds = q; readable = lost },
  (refl, is, e ∙ (ap (λ (z : ℕ). torn_to chains m.volume.0 z) can.place ∙ ap (λ (z : ℕ). torn_to chains z g) can.volume), st, by_write, rooms),
  counted,
)

pub no_memory_ends : (chains : Chains) (old new : GrainsState) (g k h : ℕ) (m : Move) → m.in_place ≡ false → holder (column chains.sheet.slots g) k ≡ Some h →
    is_lost (stored old.volumes (slot_at chains.sheet.slots h).volume g) ≡ false → ((w y : ℕ) → stored new.volumes w y ≡ stored old.volumes w y) → SameRooms old.volumes new.volumes →
    (volume_of old.volumes (slot_at chains.sheet.slots k).volume).kind ≡ Thin → Counted old 2 false new → MoveEnds chains old g k m 2 (Some NoMemory) chains new
no_memory_ends chains old new g k h m f q lost same rooms thin counted = (record { out = f; holder_is = h; holds = q; readable = lost }, refl, refl, same, rooms, thin, counted)

pub ends_as : (chains after : Chains) (old new : GrainsState) (g k n : ℕ) (o : Option Stop) (m : Move) (end : StepEnd) → end ≡ record { calls = n; stop = o } → MoveEnds chains old g k m n o after new →
    MoveEnds chains old g k m end.calls end.stop after new
ends_as chains after old new g k n o m end e x = subst (λ (z : StepEnd). MoveEnds chains old g k m z.calls z.stop after new) (sym e) x

-- ---- one copy

-- what a write after a read finds
pub record Target (old mid : GrainsState) (to g : ℕ) : Type 0 where
  pub there : is_there mid.volumes to ≡ true
  pub inside : g < length (volume_of mid.volumes to).contents

target_at : (s : Sheet) (old mid : GrainsState) (g k h to : ℕ) → Source s old.volumes g k h → to ≡ (slot_at s.slots k).volume → ReadDone old mid false → Target old mid to g
target_at s old mid g k h to src et r =
    let size_to = r.same.sizes to in
    let same_to : length (volume_of old.volumes to).contents ≡ length (volume_of old.volumes (slot_at s.slots k).volume).contents = ap (λ z. length (volume_of old.volumes z).contents) et in
    let inside = src.target_inside in
    record {
      there = r.same.there to ∙ (ap (λ z. is_there old.volumes z) et ∙ src.target_there);
      inside = omega arith;
    }

-- the calls of a copy that was done
pub copied_ends : {A : Type 0} (chains after : Chains) (old new : GrainsState) (g k h from to : ℕ) (m : Move) (a : A) → CanMove chains g m k → m.in_place ≡ false → Source chains.sheet old.volumes g k h →
    from ≡ (slot_at chains.sheet.slots h).volume → to ≡ (slot_at chains.sheet.slots k).volume → is_lost (stored old.volumes from g) ≡ false →
    after ≡ record chains { sheet = sheet_moved (slot_at chains.sheet.slots k).volume (m.grain.0 / chains.lanes) false chains.sheet } →
    HasCopied {A = A} old from to g (Ok a) new → MoveEnds chains old g k m 2 None after new × SameLane old new
copied_ends {A} chains after old new g k h from to m a can f src ef et lost e x =
    let mid : GrainsState = x.0 in
    let r = read_done old mid from g false (ap (λ z. is_there old.volumes z) ef ∙ src.there) x.1 in
    let t = target_at chains.sheet old mid g k h to src et r in
    let w = wrote_done {A = A} mid new to g a t.there x.2 in
    let st : StoredAt (stored mid.volumes) to g (Bytes mid.buffer) (stored new.volumes) = wrote_stored {A = A} mid new to g a t.there t.inside x.2 in
    let content : Bytes mid.buffer ≡ stored old.volumes (slot_at chains.sheet.slots h).volume g = sym x.1.bytes ∙ ap (λ z. stored old.volumes z g) ef in
    let st_old : StoredAt (stored old.volumes) (slot_at chains.sheet.slots k).volume g (stored old.volumes (slot_at chains.sheet.slots h).volume g) (stored new.volumes) =
    subst (λ (z : ℕ). StoredAt (stored old.volumes) z g (stored old.volumes (slot_at chains.sheet.slots h).volume g) (stored new.volumes)) et
    (subst (λ (z : Content). StoredAt (stored old.volumes) to g z (stored new.volumes)) content (stored_after old.volumes mid.volumes new.volumes to g (Bytes mid.buffer) r.stored_same st)) in
    let lost_h : is_lost (stored old.volumes (slot_at chains.sheet.slots h).volume g) ≡ false = ap (λ z. is_lost (stored old.volumes z g)) (sym ef) ∙ lost in
    let rooms : List Room = rooms_of old.volumes in
    let reached : rooms_of new.volumes ≡ reach m.volume.0 g rooms = reached_after rooms (rooms_of mid.volumes) (rooms_of new.volumes) to m.volume.0 g g (et ∙ sym can.volume) refl r.rooms_same (wrote_reached {A = A} mid new to g a x.2) in (
      out_ends chains after old new g k h 2 m can f src.holds e st_old (ap (λ (b : Bool). cond b 0 2) (sym lost_h)) (reached ∙ ap (λ (b : Bool). cond b rooms (reach m.volume.0 g rooms)) (sym lost_h)) (counted_then old mid new 1 1 false r.counted w.counted refl),
      same_then old mid new r.same w.same,
    )

-- the read failed
pub read_failed_ends : (chains : Chains) (old new : GrainsState) (g k h from : ℕ) (m : Move) → m.in_place ≡ false → Source chains.sheet old.volumes g k h →
    from ≡ (slot_at chains.sheet.slots h).volume → is_lost (stored old.volumes from g) ≡ false → HasRead old from g true new →
    MoveEnds chains old g k m 1 (Some (Failed None)) chains new × SameLane old new
read_failed_ends chains old new g k h from m f src ef lost x =
    let r = read_done old new from g true (ap (λ z. is_there old.volumes z) ef ∙ src.there) x in
    let lost_h : is_lost (stored old.volumes (slot_at chains.sheet.slots h).volume g) ≡ false = ap (λ z. is_lost (stored old.volumes z g)) (sym ef) ∙ lost in
    (read_fails chains old new g k h m f src.holds lost_h r.stored_same r.rooms_same r.counted, r.same)

-- the write failed
pub write_failed_ends : {A : Type 0} (chains after : Chains) (old new : GrainsState) (g k h from to : ℕ) (m : Move) (torn : Torn) → CanMove chains g m k → m.in_place ≡ false → Source chains.sheet old.volumes g k h →
    from ≡ (slot_at chains.sheet.slots h).volume → to ≡ (slot_at chains.sheet.slots k).volume → is_lost (stored old.volumes from g) ≡ false →
    torn ≡ record { volume = m.volume; grain = m.grain; side = Under } → after ≡ record chains { sheet = sheet_torn m.volume.0 (m.grain.0 / chains.lanes) Under chains.sheet } →
    HasCopied {A = A} old from to g (Err (Write Fails)) new → MoveEnds chains old g k m 2 (Some (Failed (Some torn))) after new × SameLane old new
write_failed_ends {A} chains after old new g k h from to m torn can f src ef et lost is e (mid, x, y) =
    let r = read_done old mid from g false (ap (λ z. is_there old.volumes z) ef ∙ src.there) x in
    let t = target_at chains.sheet old mid g k h to src et r in
    let w = failed_done {A = A} mid new to g t.there y in
    let st = stored_after old.volumes mid.volumes new.volumes to g Lost r.stored_same (failed_stored {A = A} mid new to g t.there t.inside y) in
    let st_k : StoredAt (stored old.volumes) (slot_at chains.sheet.slots k).volume g Lost (stored new.volumes) = subst (λ (z : ℕ). StoredAt (stored old.volumes) z g Lost (stored new.volumes)) et st in
    let lost_h : is_lost (stored old.volumes (slot_at chains.sheet.slots h).volume g) ≡ false = ap (λ z. is_lost (stored old.volumes z g)) (sym ef) ∙ lost in
    let reached = reached_after (rooms_of old.volumes) (rooms_of mid.volumes) (rooms_of new.volumes) to m.volume.0 g g (et ∙ sym can.volume) refl r.rooms_same (failed_reached {A = A} mid new to g y) in
    (write_fails chains after old new g k h m torn can f src.holds lost_h is e st_k (risen_then old.write_faults mid.write_faults new.write_faults r.counted.writes_kept (w.torn_by_write refl)) reached (counted_then old mid new 1 1 true r.counted w.counted refl), same_then old mid new r.same w.same)

-- the write wanted memory
pub refused_ends : {A : Type 0} (chains : Chains) (old new : GrainsState) (g k h from to : ℕ) (m : Move) → m.in_place ≡ false → Source chains.sheet old.volumes g k h →
    from ≡ (slot_at chains.sheet.slots h).volume → to ≡ (slot_at chains.sheet.slots k).volume → is_lost (stored old.volumes from g) ≡ false →
    HasCopied {A = A} old from to g (Err (Write NoRoom)) new → MoveEnds chains old g k m 2 (Some NoMemory) chains new × SameLane old new
refused_ends {A} chains old new g k h from to m f src ef et lost (mid, x, y) =
    let r = read_done old mid from g false (ap (λ z. is_there old.volumes z) ef ∙ src.there) x in
    let t = target_at chains.sheet old mid g k h to src et r in
    let w = refused_done {A = A} mid new to g t.there y in
    let same : (v z : ℕ) → stored new.volumes v z ≡ stored old.volumes v z = λ v z. refused_stored {A = A} mid new to g t.there y v z ∙ r.stored_same v z in
    let thin : (volume_of old.volumes (slot_at chains.sheet.slots k).volume).kind ≡ Thin = ap (λ z. (volume_of old.volumes z).kind) (sym et) ∙ (sym (r.same.kinds to) ∙ y.allowed) in
    let lost_h : is_lost (stored old.volumes (slot_at chains.sheet.slots h).volume g) ≡ false = ap (λ z. is_lost (stored old.volumes z g)) (sym ef) ∙ lost in
    (no_memory_ends chains old new g k h m f src.holds lost_h same (refused_rooms {A = A} mid new to g y ∙ r.rooms_same) thin (counted_then old mid new 1 1 false r.counted w.counted refl), same_then old mid new r.same w.same)

-- an empty move
pub empty_ends : (chains after : Chains) (old new : GrainsState) (g k h from : ℕ) (m : Move) → CanMove chains g m k → m.in_place ≡ false → Source chains.sheet old.volumes g k h →
    from ≡ (slot_at chains.sheet.slots h).volume → is_lost (stored old.volumes from g) ≡ true →
    new ≡ record old { volumes = changed m.volume.0 (holding g Lost) old.volumes } →
    after ≡ record chains { sheet = sheet_moved (slot_at chains.sheet.slots k).volume (m.grain.0 / chains.lanes) false chains.sheet } →
    MoveEnds chains old g k m 0 None after new × SameLane old new
empty_ends chains after old new g k h from m can f src ef lost n e =
    let v : ℕ = (slot_at chains.sheet.slots k).volume in
    let there : is_there old.volumes m.volume.0 ≡ true = ap (λ z. is_there old.volumes z) can.volume ∙ src.target_there in
    let same_size : length (volume_of old.volumes m.volume.0).contents ≡ length (volume_of old.volumes v).contents = ap (λ z. length (volume_of old.volumes z).contents) can.volume in
    let inside = src.target_inside in
    let lt : g < length (volume_of old.volumes m.volume.0).contents = omega arith in
    let lost_h : is_lost (stored old.volumes (slot_at chains.sheet.slots h).volume g) ≡ true = ap (λ z. is_lost (stored old.volumes z g)) (sym ef) ∙ lost in
    let content : Lost ≡ stored old.volumes (slot_at chains.sheet.slots h).volume g = sym (lost_is _ lost_h) in
    let at_m : StoredAt (stored old.volumes) m.volume.0 g Lost (stored (changed m.volume.0 (holding g Lost) old.volumes)) =
    stored_at (holding g Lost) g Lost (λ x. refl) (λ x. refl) old.volumes m.volume.0 there lt in
    let st : StoredAt (stored old.volumes) v g (stored old.volumes (slot_at chains.sheet.slots h).volume g) (stored new.volumes) =
    subst (λ (z : List VolumeGrains). StoredAt (stored old.volumes) v g (stored old.volumes (slot_at chains.sheet.slots h).volume g) (stored z)) (sym (ap (λ (s : GrainsState). s.volumes) n))
    (subst (λ (z : Content). StoredAt (stored old.volumes) v g z (stored (changed m.volume.0 (holding g Lost) old.volumes))) content
    (subst (λ (z : ℕ). StoredAt (stored old.volumes) z g Lost (stored (changed m.volume.0 (holding g Lost) old.volumes))) can.volume at_m)) in
    let rooms : List Room = rooms_of old.volumes in
    let stays : rooms_of new.volumes ≡ rooms = ap (λ (s : GrainsState). rooms_of s.volumes) n ∙ rooms_stay (holding g Lost) (λ x. refl) m.volume.0 old.volumes in (
      out_ends chains after old new g k h 0 m can f src.holds e st (ap (λ (b : Bool). cond b 0 2) (sym lost_h)) (stays ∙ ap (λ (b : Bool). cond b rooms (reach m.volume.0 g rooms)) (sym lost_h)) (not_counted old new (ap (λ (s : GrainsState). s.calls) n) (ap (λ (s : GrainsState). s.faults) n) (ap (λ (s : GrainsState). s.write_faults) n)
          (come_changed 0 (holding g Lost) (λ x. refl) (λ x. nearer_still 0 x.due) m.volume.0 old.volumes new.volumes there (ap (λ (s : GrainsState). s.volumes) n))),
      changed_same old new (holding g Lost) m.volume.0 (λ x. refl) (λ x. refl) (holds_size (holding g Lost) g Lost (λ x. refl)) (λ x. refl) there
          (n ∙ ap (λ (b : List ℕ). record old { volumes = changed m.volume.0 (holding g Lost) old.volumes; buffer = b }) (sym (ap (λ (s : GrainsState). s.buffer) n))),
    )

-- the holder of the slot that is moved
pub can_source : (chains : Chains) (vs : List VolumeGrains) (g k : ℕ) (m : Move) → IsSound chains.sheet → AllSized chains.sheet vs → CanMove chains g m k → HasHolder chains (birth_place chains.sheet.slots m.slot.0) m.grain.0
can_source chains vs g k m sound sized can =
    let src = source_at chains.sheet vs g k sound sized can.safe.there can.safe.is_live can.inside in
    record {
      sound = sound;
      of_lane = can.of_lane;
      slot = k;
      there = can.is_there;
      source = src.0;
      holds = subst (λ (z : ℕ). holder (column chains.sheet.slots z) k ≡ Some src.0) (sym can.place) src.1.holds;
    }

-- the volume that a move reads
pub sourced : (chains : Chains) (vs : List VolumeGrains) (g k from : ℕ) (m : Move) → IsSound chains.sheet → AllSized chains.sheet vs → CanMove chains g m k → IsOfHolder chains (birth_place chains.sheet.slots m.slot.0) m.grain.0 from →
    (h : ℕ) × Source chains.sheet vs g k h × (from ≡ (slot_at chains.sheet.slots h).volume)
unfolding can_source
sourced chains vs g k from m sound sized can is =
    let src = source_at chains.sheet vs g k sound sized can.safe.there can.safe.is_live can.inside in
    (src.0, src.1, is k src.0 can.is_there (can_source chains vs g k m sound sized can).holds)

-- why a copy wasn't done
pub copied_as : (A : Type 0) (old new : GrainsState) (from to g : ℕ) (e d : CopyError) → e ≡ d → HasCopied {A = A} old from to g (Err e) new → HasCopied {A = A} old from to g (Err d) new
copied_as A old new from to g e d q x = subst (λ (z : CopyError). HasCopied {A = A} old from to g (Err z) new) q x
