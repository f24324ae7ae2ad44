-- Where each origin stands for its byte, origins are what plain volumes hold.
use Rattle.std.proofs.Common.{◌≡◌, ℕ, zero, suc, ◌+◌, ◌*◌, Bool, true, false, cond, not, Option, Some, None, List, [], ◌∷◌, ◌++◌, map, take, drop, set, get_or, length, replicate, refl, sym, ap, ap₂, ◌∙◌, arith, append_assoc, length-append, subst}
use Rattle.std.specs.Prelude.{fold, slice_get, slice_index_or, slice_set, ◌==◌}
use Rattle.std.specs.List.{filter}
use Rattle.std.proofs.lemmas.List.{map-append, map-set, take-map, drop-map}
use Rattle.std.proofs.Math.ListN.{get_or-map}
use Rattle.fc_base.specs.Grain.{block_bytes, grain_bytes}
use Rattle.fc_base.specs.Ranges.{is_kept}
use Rattle.fc_base.specs.declared.ids.VolId.{VolId}
use Rattle.fc_base.specs.declared.ranges.Range.{Range}
use Rattle.fc_base.specs.declared.request.Effect.{Effect}
use Rattle.fc_base.specs.declared.request.Effect.TheVariants.{Make, Remove, Trigger, Cut, State, Gone}
use Rattle.fc_base.specs.declared.request.Pair.{Pair}
use Rattle.fc_base.specs.declared.request.Reply.{Reply}
use Rattle.fc_base.specs.declared.request.Reply.TheVariants.{Done}
use Rattle.fc_base.specs.declared.request.Request.{Request}
use Rattle.fc_base.specs.declared.request.Request.TheVariants.{Write}
use Rattle.fc_base.specs.declared.request.Side.{Side}
use Rattle.fc_base.specs.declared.request.Side.TheVariants.{Now, Under}
use Rattle.fc_base.specs.declared.request.Torn.{Torn}
use Rattle.fc_base.specs.declared.request.WritePart.{WritePart}
use Rattle.fc_base.specs.declared.size.GrainSize.{GrainSize}
use Rattle.fc_entry.specs.Picture.{Content, Bytes, Lost, PlainVolume, Picture, zeros, volume_in, changed_at, content_at, grain_of_block, byte_in_grain, written}
use Rattle.fc_entry.specs.PlainStep.{after_write, after_torn, source_in, now_in, after_trigger, cut_from, after_effect, after_effects, after_request, after_loss, plain_step}
use Rattle.fc_entry.specs.declared.entry.Entry.{Entry}
use Rattle.fc_check_picture.specs.Blocks.{marked_part}
use Rattle.fc_origins.specs.Origins.{marked_request, marked, origin_step, origins_of}
use Rattle.fc_origins.specs.Explains.{byte_asked, byte_of_entry, byte_by, content_by, volume_by, picture_by, AreNumbered, OriginLaw}

-- ---- lists

map_equal : (f : ℕ → ℕ) (n x : ℕ) → map f (replicate n x) ≡ replicate n (f x)
map_equal f zero x = refl
map_equal f (suc n) x = ap (λ z. f x ∷ z) (map_equal f n x)

map_replicate : {X Y : Type 0} (f : X → Y) (n : ℕ) (x : X) → map f (replicate n x) ≡ replicate n (f x)
map_replicate f zero x = refl
map_replicate f (suc n) x = ap (λ z. f x ∷ z) (map_replicate f n x)

map_both : {X : Type 0} (f g h : X → X) (xs : List X) → ((x : X) → f (g x) ≡ g (h x)) → map f (map g xs) ≡ map g (map h xs)
map_both f g h [] e = refl
map_both f g h (x ∷ xs) e = ap₂ (λ y ys. y ∷ ys) (e x) (map_both f g h xs e)

-- ---- one grain and one volume

written_by : (f : ℕ → ℕ) (from count byte origin : ℕ) (content : Content) → f origin ≡ byte → written from count byte (content_by f content) ≡ content_by f (written from count origin content)
written_by f from count byte origin (Bytes bytes) e =
    let middle : replicate count byte ≡ map f (replicate count origin) = ap (replicate count) (sym e) ∙ sym (map_equal f count origin) in
    let front : take from (map f bytes) ++ replicate count byte ≡ map f (take from bytes ++ replicate count origin) =
    ap₂ (λ (xs ys : List ℕ). xs ++ ys) (take-map f from bytes) middle ∙ sym (map-append f (take from bytes) (replicate count origin)) in
    ap Bytes (ap₂ (λ (xs ys : List ℕ). xs ++ ys) front (drop-map f (from + count) bytes) ∙ sym (map-append f (take from bytes ++ replicate count origin) (drop (from + count) bytes)))
written_by f from count byte origin Lost e = ap Bytes (ap (replicate count) (sym e) ∙ sym (map_equal f count origin))

content_there : (f : ℕ → ℕ) (grains : List Content) (g : ℕ) → content_at (map (content_by f) grains) g ≡ content_by f (content_at grains g)
content_there f grains g = get_or-map (content_by f) grains g Lost

write_by : (f : ℕ → ℕ) (grain : GrainSize) (number : ℕ) (part : WritePart) (v : PlainVolume) → f (number + 1) ≡ part.byte → after_write grain part (volume_by f v) ≡ volume_by f (after_write grain (marked_part (number + 1) part) v)
write_by f grain number part v e =
    let g : ℕ = grain_of_block grain part.block in
    let from : ℕ = byte_in_grain grain part.block in
    let count : ℕ = block_bytes * part.count in
    let now : List Content = map (content_by f) v.now in
    let there : written from count part.byte (content_at now g) ≡ content_by f (written from count (number + 1) (content_at v.now g)) =
    ap (written from count part.byte) (content_there f v.now g) ∙ written_by f from count part.byte (number + 1) (content_at v.now g) e in
    ap (λ (c : List Content). record { volume = v.volume; now = c; under = map (content_by f) v.under })
    (ap (set now g) there ∙ sym (map-set (content_by f) v.now g (written from count (number + 1) (content_at v.now g))))

torn_by : (f : ℕ → ℕ) (torn : Torn) (v : PlainVolume) → after_torn torn (volume_by f v) ≡ volume_by f (after_torn torn v)
torn_by f torn v = by_side torn.side refl
  where
    by_side : (side : Side) → torn.side ≡ side → after_torn torn (volume_by f v) ≡ volume_by f (after_torn torn v)
    by_side Now e =
        rw e (ap (λ (c : List Content). record { volume = v.volume; now = c; under = map (content_by f) v.under }) (sym (map-set (content_by f) v.now torn.grain.0 Lost)))
    by_side Under e =
        rw e (ap (λ (c : List Content). record { volume = v.volume; now = map (content_by f) v.now; under = c }) (sym (map-set (content_by f) v.under torn.grain.0 Lost)))

cut_by_origin : (f : ℕ → ℕ) (kept : List Range) (g : ℕ) (nows unders : List Content) → cut_from kept g (map (content_by f) nows) (map (content_by f) unders) ≡ map (content_by f) (cut_from kept g nows unders)
cut_by_origin f kept g [] unders = refl
cut_by_origin f kept g (now ∷ nows) [] = refl
cut_by_origin f kept g (now ∷ nows) (under ∷ unders) = ap₂ (λ (x : Content) (xs : List Content). x ∷ xs) (either (is_kept kept g)) (cut_by_origin f kept (g + 1) nows unders)
  where
    either : (b : Bool) → cond b (content_by f now) (content_by f under) ≡ content_by f (cond b now under)
    either true = refl
    either false = refl

-- ---- all volumes

changed_by : (f : ℕ → ℕ) (id : VolId) (change mark : PlainVolume → PlainVolume) (p : Picture) → ((v : PlainVolume) → change (volume_by f v) ≡ volume_by f (mark v)) → changed_at id change (picture_by f p) ≡ picture_by f (changed_at id mark p)
changed_by f id change mark p e =
    map_both (λ (v : PlainVolume). cond (v.volume.0 == id.0) (change v) v) (volume_by f) (λ (v : PlainVolume). cond (v.volume.0 == id.0) (mark v) v) p
    (λ v. either (v.volume.0 == id.0) v)
  where
    either : (b : Bool) (v : PlainVolume) → cond b (change (volume_by f v)) (volume_by f v) ≡ volume_by f (cond b (mark v) v)
    either true v = e v
    either false v = refl

there_by : (f : ℕ → ℕ) (p : Picture) (id : VolId) → now_in (picture_by f p) id ≡ map (content_by f) (now_in p id)
there_by f [] id = refl
there_by f (v ∷ vs) id = either (v.volume.0 == id.0) refl (there_by f vs id)
  where
    either : (b : Bool) → (v.volume.0 == id.0) ≡ b → now_in (picture_by f vs) id ≡ map (content_by f) (now_in vs id) → now_in (picture_by f (v ∷ vs)) id ≡ map (content_by f) (now_in (v ∷ vs) id)
    either true e behind = rw e refl
    either false e behind = rw e behind

trigger_by : (f : ℕ → ℕ) (p : Picture) (pairs : List Pair) (v : PlainVolume) → after_trigger (picture_by f p) pairs (volume_by f v) ≡ volume_by f (after_trigger p pairs v)
trigger_by f p pairs v = by_source (source_in pairs v.volume) refl
  where
    by_source : (o : Option VolId) → source_in pairs v.volume ≡ o → after_trigger (picture_by f p) pairs (volume_by f v) ≡ volume_by f (after_trigger p pairs v)
    by_source None e = rw e refl
    by_source (Some source) e = rw e (ap (λ (c : List Content). record { volume = v.volume; now = c; under = map (content_by f) v.now }) (there_by f p source))

others_by : (f : ℕ → ℕ) (id : VolId) (p : Picture) → filter (λ (v : PlainVolume). not (v.volume.0 == id.0)) (picture_by f p) ≡ picture_by f (filter (λ (v : PlainVolume). not (v.volume.0 == id.0)) p)
others_by f id [] = refl
others_by f id (v ∷ vs) = either (not (v.volume.0 == id.0)) (others_by f id vs)
  where
    either : (b : Bool) → filter (λ (v : PlainVolume). not (v.volume.0 == id.0)) (picture_by f vs) ≡ picture_by f (filter (λ (v : PlainVolume). not (v.volume.0 == id.0)) vs) →
        cond b (volume_by f v ∷ filter (λ (v : PlainVolume). not (v.volume.0 == id.0)) (picture_by f vs)) (filter (λ (v : PlainVolume). not (v.volume.0 == id.0)) (picture_by f vs))
        ≡ picture_by f (cond b (v ∷ filter (λ (v : PlainVolume). not (v.volume.0 == id.0)) vs) (filter (λ (v : PlainVolume). not (v.volume.0 == id.0)) vs))
    either true e = ap (λ (z : List PlainVolume). volume_by f v ∷ z) e
    either false e = e

zeros_by : (f : ℕ → ℕ) (grain : GrainSize) (n : ℕ) → f 0 ≡ 0 → replicate n (zeros grain) ≡ map (content_by f) (replicate n (zeros grain))
zeros_by f grain n e =
    let one : content_by f (zeros grain) ≡ zeros grain = ap Bytes (map_equal f (grain_bytes grain) 0 ∙ ap (replicate (grain_bytes grain)) e) in
    ap (replicate n) (sym one) ∙ sym (map_replicate (content_by f) n (zeros grain))

-- ---- effects and entries

effect_by : (f : ℕ → ℕ) (grain : GrainSize) (p : Picture) (effect : Effect) → f 0 ≡ 0 → after_effect grain (picture_by f p) effect ≡ picture_by f (after_effect grain p effect)
effect_by f grain p (Make volume grains) e =
    let z : List Content = replicate grains (zeros grain) in
    let new : PlainVolume = record { volume = volume; now = z; under = z } in
    ap (λ (c : List Content). picture_by f p ++ record { volume = volume; now = c; under = c } ∷ []) (zeros_by f grain grains e) ∙ sym (map-append (volume_by f) p (new ∷ []))
effect_by f grain p (Remove volume) e = others_by f volume p
effect_by f grain p (Trigger pairs) e = map_both (after_trigger (picture_by f p) pairs) (volume_by f) (after_trigger p pairs) p (trigger_by f p pairs)
effect_by f grain p (Cut volume kept) e =
    changed_by f volume (λ (v : PlainVolume). record v { now = cut_from kept 0 v.now v.under }) (λ (v : PlainVolume). record v { now = cut_from kept 0 v.now v.under }) p
    (λ v. ap (λ (c : List Content). record { volume = v.volume; now = c; under = map (content_by f) v.under }) (cut_by_origin f kept 0 v.now v.under))
effect_by f grain p (State map state) e = refl
effect_by f grain p (Gone map) e = refl

effects_by : (f : ℕ → ℕ) (grain : GrainSize) (p : Picture) (effects : List Effect) → f 0 ≡ 0 → after_effects grain (picture_by f p) effects ≡ picture_by f (after_effects grain p effects)
effects_by f grain p [] e = refl
effects_by f grain p (effect ∷ effects) e = ap (λ (z : Picture). after_effects grain z effects) (effect_by f grain p effect e) ∙ effects_by f grain (after_effect grain p effect) effects e

request_by : (f : ℕ → ℕ) (grain : GrainSize) (number : ℕ) (p : Picture) (request : Request) (reply : Reply) → f (number + 1) ≡ byte_asked request →
    after_request grain (picture_by f p) request reply ≡ picture_by f (after_request grain p (marked_request number request) reply)
request_by f grain number p (Write part) Done e = changed_by f part.volume (after_write grain part) (after_write grain (marked_part (number + 1) part)) p (λ v. write_by f grain number part v e)
request_by f grain number p _ _ e = refl

loss_by : (f : ℕ → ℕ) (p : Picture) (torn : Option Torn) → after_loss (picture_by f p) torn ≡ picture_by f (after_loss p torn)
loss_by f p None = refl
loss_by f p (Some torn) = changed_by f torn.volume (after_torn torn) (after_torn torn) p (torn_by f torn)

step_by : (f : ℕ → ℕ) (grain : GrainSize) (p : Picture) (entry : Entry) → f 0 ≡ 0 → f (entry.number + 1) ≡ byte_asked entry.request → plain_step grain (picture_by f p) entry ≡ picture_by f (origin_step grain p entry)
step_by f grain p entry none e =
    let asked : Picture = after_request grain p (marked_request entry.number entry.request) entry.reply in
    ap (λ (z : Picture). after_effects grain (after_loss z entry.torn) entry.effects) (request_by f grain entry.number p entry.request entry.reply e)
    ∙ (ap (λ (z : Picture). after_effects grain z entry.effects) (loss_by f asked entry.torn) ∙ effects_by f grain (after_loss asked entry.torn) entry.effects none)

-- ---- a history

-- each of these entries has its byte
abbrev AreTold : (ℕ → ℕ) → List Entry → Type 0
AreTold f [] = Unit {0}
AreTold f (entry ∷ entries) = (f (entry.number + 1) ≡ byte_asked entry.request) × AreTold f entries

all_by : (f : ℕ → ℕ) (grain : GrainSize) (p : Picture) (entries : List Entry) → f 0 ≡ 0 → AreTold f entries → fold (plain_step grain) (picture_by f p) entries ≡ picture_by f (fold (origin_step grain) p entries)
all_by f grain p [] none told = refl
all_by f grain p (entry ∷ entries) none told =
    ap (λ (z : Picture). fold (plain_step grain) z entries) (step_by f grain p entry none told.0) ∙ all_by f grain (origin_step grain p entry) entries none told.1

get_seam : (front rest : List Entry) (entry : Entry) → slice_get (front ++ entry ∷ rest) (length front) ≡ Some entry
get_seam [] rest entry = refl
get_seam (x ∷ front) rest entry = get_seam front rest entry

told_all : (front rest : List Entry) → AreNumbered (length front) rest → AreTold (byte_by (front ++ rest)) rest
told_all front [] numbered = tt
told_all front (entry ∷ rest) numbered =
    let all : List Entry = front ++ entry ∷ rest in
    let n : entry.number + 1 ≡ suc (length front) = omega (arith, numbered.0) in
    let here : byte_by all (entry.number + 1) ≡ byte_asked entry.request = ap (byte_by all) n ∙ ap byte_of_entry (get_seam front rest entry) in
    let same : (front ++ entry ∷ []) ++ rest ≡ all = append_assoc front (entry ∷ []) rest in
    let more : length (front ++ entry ∷ []) ≡ length front + 1 = length-append front (entry ∷ []) in
    let behind : AreTold (byte_by ((front ++ entry ∷ []) ++ rest)) rest = told_all (front ++ entry ∷ []) rest (subst (λ k. AreNumbered k rest) (sym more) numbered.1) in
    (here, subst (λ (z : List Entry). AreTold (byte_by z) rest) same behind)

pub origins_explain : OriginLaw
origins_explain = record { bytes = λ grain entries numbered. all_by (byte_by entries) grain [] entries refl (told_all [] entries numbered) }
