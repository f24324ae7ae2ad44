-- What an entry of a lane leaves as it is: slots but for what they hold, and volumes but for their contents.
use Rattle.std.proofs.Common.{◌≡◌, ℕ, ◌<◌, Bool, true, false, cond, ◌==◌, Option, Some, None, List, [], ◌∷◌, length, IsSome, refl, sym, subst, ◌∙◌, length-set}
use Rattle.fc_base.specs.Room.{Room}
use Rattle.fc_base.specs.Sheet.{Slot, Sheet}
use Rattle.fc_base.specs.SheetFacts.{IsSound}
use Rattle.fc_base.specs.Tables.{volume_with}
use Rattle.fc_base.specs.declared.ids.GrainNo.{GrainNo}
use Rattle.fc_base.specs.declared.ids.VolId.{VolId}
use Rattle.fc_base.specs.declared.request.Reply.{Reply}
use Rattle.fc_base.specs.declared.request.Reply.TheVariants.{Done}
use Rattle.fc_base.specs.declared.request.Request.{Request}
use Rattle.fc_base.specs.declared.request.Request.TheVariants.{Write}
use Rattle.fc_base.specs.declared.request.Side.{Side}
use Rattle.fc_base.specs.declared.request.Side.TheVariants.{Now, Under}
use Rattle.fc_base.specs.declared.request.Torn.{Torn}
use Rattle.fc_base.specs.declared.request.WritePart.{WritePart}
use Rattle.fc_base.specs.declared.size.GrainSize.{GrainSize}
use Rattle.fc_base.specs.declared.state.MapState.{MapState}
use Rattle.fc_base.specs.declared.state.MapState.TheVariants.{Copying, Stopping}
use Rattle.fc_base.specs.declared.volume.Mapping.{Mapping}
use Rattle.fc_base.specs.declared.volume.Volume.{Volume}
use Rattle.fc_books.specs.Books.{Books}
use Rattle.fc_books.specs.Sound.{HasSlot, SlotByState, Agree, AreSound}
use Rattle.fc_entry.specs.Picture.{PlainVolume, Picture, changed_at}
use Rattle.fc_entry.specs.PlainStep.{after_write, after_torn, after_request, after_loss}
use Rattle.fc_legal.specs.Stands.{ArePlain, AreFirst}
use Rattle.fc_pictures.proofs.Slots.{Stay, live_stay, mapping_stay, below_stay}

-- A live slot of no mapping stays first in its chain.
pub firsts_stay : (old new : List Slot) → Stay old new → AreFirst old → AreFirst new
firsts_stay old new s firsts j k first second live none same =
    firsts j k (subst (λ n. j < n) s.count first) (subst (λ n. k < n) s.count second) (sym (s.is_live k) ∙ live) (sym (s.mapping k) ∙ none)
    (sym (s.chain j) ∙ same ∙ s.chain k)

-- ---- the books

slot_stay : (old new : List Slot) → Stay old new → (m : Mapping) (is_live : Bool) → HasSlot old m is_live → HasSlot new m is_live
slot_stay old new s m is_live h =
    record { place = h.place; is_there = mapping_stay old new s m.id.0 ∙ h.is_there; of_target = s.volume h.place ∙ h.of_target; liveness = s.is_live h.place ∙ h.liveness }

by_state_stay : (old new : List Slot) → Stay old new → (state : MapState) (m : Mapping) → SlotByState state old m → SlotByState state new m
by_state_stay old new s Copying m h = slot_stay old new s m true h
by_state_stay old new s Stopping m h = slot_stay old new s m false h
by_state_stay old new s state m h = mapping_stay old new s m.id.0 ∙ h

agree_stay : (b : Books) (new : Sheet) (rooms : List Room) → Stay b.sheet.slots new.slots → Agree b → Agree (record b { sheet = new; rooms = rooms })
agree_stay b new rooms s a =
    let old : List Slot = b.sheet.slots in
    record {
      volumes = λ v c. let p = a.volumes v c in (p.0, live_stay old new.slots s v.id.0 ∙ p.1, s.size p.0 ∙ p.2);
      slots = λ k lt. subst (λ (v : ℕ). IsSome (volume_with b.tables record { 0 = v })) (sym (s.volume k)) (a.slots k (below_stay old new.slots s k lt));
      owned = λ k lt n e. a.owned k (below_stay old new.slots s k lt) n (sym (s.mapping k) ∙ e);
      mappings = a.mappings;
      by_state = λ m c. by_state_stay old new.slots s m.state m (a.by_state m c);
      one_busy = a.one_busy;
    }

-- whatever occupies memory
pub books_stay : (b : Books) (new : Sheet) (rooms : List Room) → Stay b.sheet.slots new.slots → AreSound b → IsSound new → AreSound (record b { sheet = new; rooms = rooms })
books_stay b new rooms s a sound =
    record {
      tables = record {
        volumes = a.tables.volumes;
        mappings = a.tables.mappings;
        groups = a.tables.groups;
        new_volume = a.tables.new_volume;
        new_mapping = a.tables.new_mapping;
        new_group = a.tables.new_group;
      };
      flags = record { rising = a.flags.rising; given = a.flags.given };
      sheet = sound;
      agree = agree_stay b new rooms s a.agree;
    }

-- ---- plain volumes

-- a volume with another content, as large
record SameSize (f : PlainVolume → PlainVolume) : Type 0 where
  volume : (p : PlainVolume) → (f p).volume ≡ p.volume
  now : (p : PlainVolume) → length (f p).now ≡ length p.now
  under : (p : PlainVolume) → length (f p).under ≡ length p.under

at_one : (f : PlainVolume → PlainVolume) → SameSize f → (b : Bool) (p : PlainVolume) → let q : PlainVolume = cond b (f p) p in (q.volume ≡ p.volume) × (length q.now ≡ length p.now) × (length q.under ≡ length p.under)
at_one f s true p = (s.volume p, s.now p, s.under p)
at_one f s false p = (refl, refl, refl)

changed_plain : (id : VolId) (f : PlainVolume → PlainVolume) → SameSize f → (vs : List Volume) (ps : Picture) → ArePlain vs ps → ArePlain vs (changed_at id f ps)
changed_plain id f s [] [] a = a
changed_plain id f s (v ∷ vs) (p ∷ ps) a =
    let o = at_one f s (p.volume.0 == id.0) p in (o.0 ∙ a.0, o.1 ∙ a.1, o.2 ∙ a.2, changed_plain id f s vs ps a.3)
changed_plain id f s [] (p ∷ ps) a = absurd a
changed_plain id f s (v ∷ vs) [] a = absurd a

written_size : (grain : GrainSize) (part : WritePart) → SameSize (after_write grain part)
written_size grain part = record { volume = λ p. refl; now = λ p. length-set p.now _ _; under = λ p. refl }

torn_size : (volume : VolId) (grain : GrainNo) (side : Side) → SameSize (after_torn (record { volume = volume; grain = grain; side = side }))
torn_size volume grain Now = record { volume = λ p. refl; now = λ p. length-set p.now _ _; under = λ p. refl }
torn_size volume grain Under = record { volume = λ p. refl; now = λ p. refl; under = λ p. length-set p.under _ _ }

request_plain : (grain : GrainSize) (vs : List Volume) (ps : Picture) (request : Request) (reply : Reply) → ArePlain vs ps → ArePlain vs (after_request grain ps request reply)
request_plain grain vs ps (Write part) Done a = changed_plain part.volume (after_write grain part) (written_size grain part) vs ps a
request_plain grain vs ps (Write part) reply a = a
request_plain grain vs ps request reply a = a

loss_plain : (vs : List Volume) (ps : Picture) (torn : Option Torn) → ArePlain vs ps → ArePlain vs (after_loss ps torn)
loss_plain vs ps None a = a
loss_plain vs ps (Some torn) a = changed_plain torn.volume (after_torn torn) (torn_size torn.volume torn.grain torn.side) vs ps a

pub plain_stay : (grain : GrainSize) (vs : List Volume) (ps : Picture) (request : Request) (reply : Reply) (torn : Option Torn) → ArePlain vs ps → ArePlain vs (after_loss (after_request grain ps request reply) torn)
plain_stay grain vs ps request reply torn a = loss_plain vs (after_request grain ps request reply) torn (request_plain grain vs ps request reply a)
