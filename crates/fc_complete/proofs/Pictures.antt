-- Nothing is lost by what commands do, nor by a write that is done.
use Rattle.std.proofs.Common.{◌≡◌, inl, inr, ℕ, ◌+◌, ◌*◌, Bool, true, false, cond, not, ◌==◌, Option, Some, None, List, [], ◌∷◌, map, replicate, All, refl, sym, subst}
use Rattle.std.proofs.lemmas.List.Elements.{All-nil, All-cons, All-head, All-tail, All-replicate, All-append, All-set, All-weaker, All-map, All-filter, All-contains}
use Rattle.fc_base.specs.Grain.{block_bytes}
use Rattle.fc_base.specs.Ranges.{is_kept}
use Rattle.fc_base.specs.declared.ids.VolId.{VolId}
use Rattle.fc_base.specs.declared.ranges.Range.{Range}
use Rattle.fc_base.specs.declared.request.Effect.{Effect}
use Rattle.fc_base.specs.declared.request.Effect.TheVariants.{Make, Remove, Trigger, Cut, State, Gone}
use Rattle.fc_base.specs.declared.request.Pair.{Pair}
use Rattle.fc_base.specs.declared.request.Reply.{Reply}
use Rattle.fc_base.specs.declared.request.Reply.TheVariants.{Done}
use Rattle.fc_base.specs.declared.request.Request.{Request}
use Rattle.fc_base.specs.declared.request.Request.TheVariants.{Write}
use Rattle.fc_base.specs.declared.request.Torn.{Torn}
use Rattle.fc_base.specs.declared.request.WritePart.{WritePart}
use Rattle.fc_base.specs.declared.size.GrainSize.{GrainSize}
use Rattle.fc_complete.specs.Served.{IsThere, IsUnharmedVolume, IsUnharmed}
use Rattle.fc_entry.specs.Picture.{Content, Bytes, Lost, PlainVolume, Picture, zeros, volume_in, changed_at, content_at, grain_of_block, byte_in_grain, written}
use Rattle.fc_entry.specs.PlainStep.{after_write, source_in, now_in, after_trigger, cut_from, after_effect, after_effects, after_request, after_loss, plain_step}
use Rattle.fc_entry.specs.declared.entry.Entry.{Entry}
use Rattle.fc_moves.proofs.Search.{cases_option}
use Rattle.fc_pictures.proofs.Volumes.{found}

-- ---- one volume

abbrev ByTest : Bool → (PlainVolume → PlainVolume) → PlainVolume → Type 0
ByTest test change v = IsUnharmedVolume (cond test (change v) v)

by_test : (test : Bool) (change : PlainVolume → PlainVolume) (v : PlainVolume) → (IsUnharmedVolume v → IsUnharmedVolume (change v)) → IsUnharmedVolume v → ByTest test change v
by_test true change v keeps h = keeps h
by_test false change v keeps h = h

pub changed_unharmed :
    (id : VolId) (change : PlainVolume → PlainVolume) (picture : Picture) →
    ((v : PlainVolume) → IsUnharmedVolume v → IsUnharmedVolume (change v)) →
    IsUnharmed picture →
    IsUnharmed (changed_at id change picture)
changed_unharmed id change picture keeps h =
    All-map IsUnharmedVolume (λ v. cond (v.volume.0 == id.0) (change v) v) picture
    (All-weaker IsUnharmedVolume (λ v. ByTest (v.volume.0 == id.0) change v) (λ v one. by_test (v.volume.0 == id.0) change v (keeps v) one) picture h)

-- ---- writes

written_there : (from length byte : ℕ) (content : Content) → IsThere (written from length byte content)
written_there from length byte (Bytes bytes) = refl
written_there from length byte Lost = refl

write_unharmed : (grain : GrainSize) (part : WritePart) (v : PlainVolume) → IsUnharmedVolume v → IsUnharmedVolume (after_write grain part v)
write_unharmed grain part v h =
    let g : ℕ = grain_of_block grain part.block in
    let first : ℕ = byte_in_grain grain part.block in
    let size : ℕ = block_bytes * part.count in
    record {
      now = All-set IsThere v.now g (written first size part.byte (content_at v.now g)) (written_there first size part.byte (content_at v.now g)) h.now;
      under = h.under;
    }

request_unharmed : (grain : GrainSize) (picture : Picture) (request : Request) (reply : Reply) → IsUnharmed picture → IsUnharmed (after_request grain picture request reply)
request_unharmed grain picture (Write part) Done h = changed_unharmed part.volume (after_write grain part) picture (write_unharmed grain part) h
request_unharmed grain picture (Write part) reply h = h
request_unharmed grain picture request reply h = h

loss_unharmed : (picture : Picture) (torn : Option Torn) → torn ≡ None → IsUnharmed picture → IsUnharmed (after_loss picture torn)
loss_unharmed picture torn untorn h =
    let P : Option Torn → Type 0 = λ t. IsUnharmed (after_loss picture t) in
    subst P (sym untorn) h

-- ---- effects

now_found : (picture : Picture) (id : VolId) (p : PlainVolume) → volume_in picture id ≡ Some p → now_in picture id ≡ p.now
now_found picture id p e = rw e refl

now_missing : (picture : Picture) (id : VolId) → volume_in picture id ≡ None → now_in picture id ≡ []
now_missing picture id e = rw e refl

now_unharmed : (picture : Picture) (id : VolId) → IsUnharmed picture → All IsThere (now_in picture id)
now_unharmed picture id h =
    let P : List Content → Type 0 = λ grains. All IsThere grains in
    elim (cases_option (volume_in picture id)) [
      | inl none ↦ subst P (sym (now_missing picture id none)) (All-nil IsThere)
      | inr some ↦ subst P (sym (now_found picture id some.0 some.1)) (All-contains IsUnharmedVolume picture some.0 h (found picture id some.0 some.1).0).now
    ]

abbrev copied_from : List Content → PlainVolume → PlainVolume
copied_from now v = record v { now = now; under = v.now }

trigger_apart : (old : Picture) (pairs : List Pair) (v : PlainVolume) → source_in pairs v.volume ≡ None → after_trigger old pairs v ≡ v
trigger_apart old pairs v e = rw e refl

trigger_copies : (old : Picture) (pairs : List Pair) (v : PlainVolume) (source : VolId) → source_in pairs v.volume ≡ Some source → after_trigger old pairs v ≡ copied_from (now_in old source) v
trigger_copies old pairs v source e = rw e refl

trigger_unharmed : (old : Picture) (pairs : List Pair) (v : PlainVolume) → IsUnharmed old → IsUnharmedVolume v → IsUnharmedVolume (after_trigger old pairs v)
trigger_unharmed old pairs v all h =
    elim (cases_option (source_in pairs v.volume)) [
      | inl none ↦ subst IsUnharmedVolume (sym (trigger_apart old pairs v none)) h
      | inr some ↦ subst IsUnharmedVolume (sym (trigger_copies old pairs v some.0 some.1))
          (let copied : IsUnharmedVolume (copied_from (now_in old some.0) v) = record { now = now_unharmed old some.0 all; under = h.now } in copied)
    ]

chosen_there : (keeps : Bool) (now under : Content) → IsThere now → IsThere under → IsThere (cond keeps now under)
chosen_there true now under h k = h
chosen_there false now under h k = k

cut_there : (kept : List Range) (g : ℕ) (nows unders : List Content) → All IsThere nows → All IsThere unders → All IsThere (cut_from kept g nows unders)
cut_there kept g [] unders h k = All-nil IsThere
cut_there kept g (now ∷ nows) [] h k = h
cut_there kept g (now ∷ nows) (under ∷ unders) h k =
    All-cons IsThere (cond (is_kept kept g) now under) (cut_from kept (g + 1) nows unders)
    (chosen_there (is_kept kept g) now under (All-head IsThere now nows h) (All-head IsThere under unders k))
    (cut_there kept (g + 1) nows unders (All-tail IsThere now nows h) (All-tail IsThere under unders k))

cut_unharmed : (kept : List Range) (v : PlainVolume) → IsUnharmedVolume v → IsUnharmedVolume (record v { now = cut_from kept 0 v.now v.under })
cut_unharmed kept v h = record { now = cut_there kept 0 v.now v.under h.now h.under; under = h.under }

abbrev zero_volume : GrainSize → VolId → ℕ → PlainVolume
zero_volume grain id grains = record { volume = id; now = replicate grains (zeros grain); under = replicate grains (zeros grain) }

zeros_unharmed : (grain : GrainSize) (id : VolId) (grains : ℕ) → IsUnharmedVolume (zero_volume grain id grains)
zeros_unharmed grain id grains = record { now = All-replicate IsThere grains (zeros grain) refl; under = All-replicate IsThere grains (zeros grain) refl }

effect_unharmed : (grain : GrainSize) (picture : Picture) (effect : Effect) → IsUnharmed picture → IsUnharmed (after_effect grain picture effect)
effect_unharmed grain picture (Make volume grains) h =
    All-append IsUnharmedVolume picture (zero_volume grain volume grains ∷ []) h
    (All-cons IsUnharmedVolume (zero_volume grain volume grains) [] (zeros_unharmed grain volume grains) (All-nil IsUnharmedVolume))
effect_unharmed grain picture (Remove volume) h = All-filter (λ (v : PlainVolume). not (v.volume.0 == volume.0)) IsUnharmedVolume picture h
effect_unharmed grain picture (Trigger pairs) h =
    All-map IsUnharmedVolume (after_trigger picture pairs) picture
    (All-weaker IsUnharmedVolume (λ v. IsUnharmedVolume (after_trigger picture pairs v)) (λ v one. trigger_unharmed picture pairs v h one) picture h)
effect_unharmed grain picture (Cut volume kept) h = changed_unharmed volume (λ v. record v { now = cut_from kept 0 v.now v.under }) picture (cut_unharmed kept) h
effect_unharmed grain picture (State map state) h = h
effect_unharmed grain picture (Gone map) h = h

pub effects_unharmed : (grain : GrainSize) (picture : Picture) (effects : List Effect) → IsUnharmed picture → IsUnharmed (after_effects grain picture effects)
effects_unharmed grain picture [] h = h
effects_unharmed grain picture (effect ∷ effects) h = effects_unharmed grain (after_effect grain picture effect) effects (effect_unharmed grain picture effect h)

-- ---- an entry

pub plain_unharmed : (grain : GrainSize) (picture : Picture) (entry : Entry) → entry.torn ≡ None → IsUnharmed picture → IsUnharmed (plain_step grain picture entry)
plain_unharmed grain picture entry untorn h =
    let asked : Picture = after_request grain picture entry.request entry.reply in
    effects_unharmed grain (after_loss asked entry.torn) entry.effects
    (loss_unharmed asked entry.torn untorn (request_unharmed grain picture entry.request entry.reply h))
