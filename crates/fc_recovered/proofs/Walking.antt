-- The chains of an image are walked as their slots are.
use Rattle.std.proofs.Common.{◌≡◌, ℕ, suc, ◌+◌, ◌<◌, Bool, true, false, ◌&&◌, ◌||◌, cond, Option, Some, List, [], ◌∷◌, ◌++◌, length, get_or, map, drop, drop-cons, add-one, refl, sym, ap, subst, ◌∙◌, All}
use Rattle.std.specs.Prelude.{◌==◌}
use Rattle.std.specs.List.{flat_map, list_any}
use Rattle.std.proofs.lemmas.Bool.{eq-eqb}
use Rattle.fc_base.specs.Sheet.{Slot}
use Rattle.fc_base.specs.Tables.{Tables}
use Rattle.fc_base.specs.declared.ids.VolId.{VolId}
use Rattle.fc_bits.specs.Grains.{has}
use Rattle.fc_bits.specs.Words.{bit_of, grains_of, IsTidy}
use Rattle.fc_bits.proofs.Bridge.{has-tidy}
use Rattle.fc_image.specs.declared.image.MetaChain.{MetaChain}
use Rattle.fc_image.specs.declared.image.MetaLost.{MetaLost}
use Rattle.fc_image.specs.declared.image.MetaSlot.{MetaSlot}
use Rattle.fc_kept.specs.Images.{size_in, slot_in, slots_in, lost_in}
use Rattle.fc_kept.specs.Kept.{is_lost_in}
use Rattle.fc_kept.specs.Sound.{HasTidyLost}
use Rattle.fc_recovered.specs.Walk.{chain_with, seen_with, walked, id_number}

-- ---- where the live slot stands

abbrev pub is_live_in : ℕ → MetaSlot → Bool
is_live_in v slot = slot.live && (slot.volume.0 == v)

either_chain : (b more : Bool) (label : ℕ) (found rest : Option ℕ) → found ≡ cond more (Some label) rest → cond b (Some label) found ≡ cond (b || more) (Some label) rest
either_chain true more label found rest e = refl
either_chain false more label found rest e = e

chain_here : (t : Tables) (label v : ℕ) (slots : List MetaSlot) (rest : List Slot) →
    chain_with v (map (slot_in t label) slots ++ rest) ≡ cond (list_any (is_live_in v) slots) (Some label) (chain_with v rest)
chain_here t label v [] rest = refl
chain_here t label v (s ∷ ss) rest =
    either_chain (is_live_in v s) (list_any (is_live_in v) ss) label (chain_with v (map (slot_in t label) ss ++ rest)) (chain_with v rest)
    (chain_here t label v ss rest)

chain_step : (t : Tables) (v : ℕ) (chains : List MetaChain) (i : ℕ) (d : MetaChain) → i < length chains →
    chain_with v (flat_map (slots_in t) (drop i chains))
    ≡ cond (list_any (is_live_in v) (get_or chains i d).slots) (Some (get_or chains i d).label) (chain_with v (flat_map (slots_in t) (drop (suc i) chains)))
chain_step t v chains i d lt =
    let c : MetaChain = get_or chains i d in
    ap (λ (z : List MetaChain). chain_with v (flat_map (slots_in t) z)) (drop-cons chains i d lt)
    ∙ chain_here t c.label v c.slots (flat_map (slots_in t) (drop (suc i) chains))

-- a chain in which it stands, and one in which it doesn't
pub found_chain : (t : Tables) (v : ℕ) (chains : List MetaChain) (i : ℕ) (chain : MetaChain) (b : Bool) → i < length chains → chain ≡ get_or chains i chain →
    b ≡ list_any (is_live_in v) chain.slots → b ≡ true → chain_with v (flat_map (slots_in t) (drop i chains)) ≡ chain_with v (flat_map (slots_in t) chains) →
    Some chain.label ≡ chain_with v (flat_map (slots_in t) chains)
found_chain t v chains i chain b lt is any does before =
    let rest : Option ℕ = chain_with v (flat_map (slots_in t) (drop (suc i) chains)) in
    ap (λ (z : Bool). cond z (Some chain.label) rest) (sym does ∙ any)
    ∙ (ap (λ (z : MetaChain). cond (list_any (is_live_in v) z.slots) (Some z.label) rest) is
    ∙ (sym (chain_step t v chains i chain lt) ∙ before))

pub next_chain : (t : Tables) (v : ℕ) (chains : List MetaChain) (i : ℕ) (chain : MetaChain) (b : Bool) → i < length chains → chain ≡ get_or chains i chain →
    b ≡ list_any (is_live_in v) chain.slots → b ≡ false → chain_with v (flat_map (slots_in t) (drop i chains)) ≡ chain_with v (flat_map (slots_in t) chains) →
    chain_with v (flat_map (slots_in t) (drop (i + 1) chains)) ≡ chain_with v (flat_map (slots_in t) chains)
next_chain t v chains i chain b lt is any misses before =
    let rest : Option ℕ = chain_with v (flat_map (slots_in t) (drop (suc i) chains)) in
    ap (λ (z : ℕ). chain_with v (flat_map (slots_in t) (drop z chains))) (add-one i)
    ∙ (ap (λ (z : Bool). cond z (Some chain.label) rest) (sym misses ∙ any)
    ∙ (ap (λ (z : MetaChain). cond (list_any (is_live_in v) z.slots) (Some z.label) rest) is
    ∙ (sym (chain_step t v chains i chain lt) ∙ before)))

-- ---- who holds the grain

pick_volume : (a b c : Bool) (own : VolId) (seen : Option VolId) → b ≡ c → cond (a && b) (Some own.0) (id_number seen) ≡ id_number (cond (a && c) (Some own) seen)
pick_volume true true true own seen e = refl
pick_volume true false false own seen e = refl
pick_volume true true false own seen e = absurd cc
pick_volume true false true own seen e = absurd cc
pick_volume false b c own seen e = refl

abbrev pub HasTidy : Tables → List MetaSlot → Type 0
HasTidy t slots = All (λ (slot : MetaSlot). IsTidy (size_in t slot.volume) slot.held) slots

noted_in : (t : Tables) (label own g : ℕ) (slot : MetaSlot) (seen : Option VolId) → IsTidy (size_in t slot.volume) slot.held →
    seen_with g label (slot_in t own slot) (id_number seen) ≡ id_number (cond ((own == label) && bit_of slot.held g) (Some slot.volume) seen)
noted_in t label own g slot seen tidy =
    pick_volume (own == label) (has (grains_of (size_in t slot.volume) slot.held) g) (bit_of slot.held g) slot.volume seen
    (has-tidy (size_in t slot.volume) slot.held tidy g)

slot_step : (t : Tables) (v g label own : ℕ) (slots : List MetaSlot) (rest : List Slot) (j : ℕ) (d : MetaSlot) (seen : Option ℕ) → j < length slots →
    walked v g label (map (slot_in t own) (drop j slots) ++ rest) seen
    ≡ cond (is_live_in v (get_or slots j d)) (seen_with g label (slot_in t own (get_or slots j d)) seen)
    (walked v g label (map (slot_in t own) (drop (suc j) slots) ++ rest) (seen_with g label (slot_in t own (get_or slots j d)) seen))
slot_step t v g label own slots rest j d seen lt =
    ap (λ (z : List MetaSlot). walked v g label (map (slot_in t own) z ++ rest) seen) (drop-cons slots j d lt)

-- with a slot, the walk from it on
walk_slot : (t : Tables) (v g label own : ℕ) (slots : List MetaSlot) (rest : List Slot) (j : ℕ) (slot : MetaSlot) (seen next : Option VolId) →
    j < length slots → slot ≡ get_or slots j slot → HasTidy t slots →
    next ≡ cond ((own == label) && bit_of slot.held g) (Some slot.volume) seen →
    walked v g label (map (slot_in t own) (drop j slots) ++ rest) (id_number seen)
    ≡ cond (is_live_in v slot) (id_number next) (walked v g label (map (slot_in t own) (drop (suc j) slots) ++ rest) (id_number next))
walk_slot t v g label own slots rest j slot seen next lt is tidy e =
    let more : List Slot = map (slot_in t own) (drop (suc j) slots) ++ rest in
    let own_tidy : IsTidy (size_in t slot.volume) slot.held = subst (λ (z : MetaSlot). IsTidy (size_in t z.volume) z.held) (sym is) (tidy j slot lt) in
    slot_step t v g label own slots rest j slot (id_number seen) lt
    ∙ (ap (λ (z : MetaSlot). cond (is_live_in v z) (seen_with g label (slot_in t own z) (id_number seen)) (walked v g label more (seen_with g label (slot_in t own z) (id_number seen)))) (sym is)
    ∙ ap (λ (o : Option ℕ). cond (is_live_in v slot) o (walked v g label more o)) (noted_in t label own g slot seen own_tidy ∙ ap id_number (sym e)))

pub found_slot : (t : Tables) (v g label own : ℕ) (slots items : List MetaSlot) (rest : List Slot) (j : ℕ) (slot : MetaSlot) (seen next : Option VolId) (all : Option ℕ) (b : Bool) →
    items ≡ slots → j < length items → slot ≡ get_or items j slot → HasTidy t slots →
    next ≡ cond ((own == label) && bit_of slot.held g) (Some slot.volume) seen → b ≡ is_live_in v slot → b ≡ true →
    walked v g label (map (slot_in t own) (drop j slots) ++ rest) (id_number seen) ≡ all → all ≡ id_number next
found_slot t v g label own slots items rest j slot seen next all b q lt is tidy e live does before =
    sym before
    ∙ (walk_slot t v g label own slots rest j slot seen next (subst (λ (z : List MetaSlot). j < length z) q lt) (subst (λ (z : List MetaSlot). slot ≡ get_or z j slot) q is) tidy e
    ∙ ap (λ (z : Bool). cond z (id_number next) (walked v g label (map (slot_in t own) (drop (suc j) slots) ++ rest) (id_number next))) (sym live ∙ does))

pub next_slot : (t : Tables) (v g label own : ℕ) (slots items : List MetaSlot) (rest : List Slot) (j : ℕ) (slot : MetaSlot) (seen next : Option VolId) (all : Option ℕ) (b : Bool) →
    items ≡ slots → j < length items → slot ≡ get_or items j slot → HasTidy t slots →
    next ≡ cond ((own == label) && bit_of slot.held g) (Some slot.volume) seen → b ≡ is_live_in v slot → b ≡ false →
    walked v g label (map (slot_in t own) (drop j slots) ++ rest) (id_number seen) ≡ all →
    walked v g label (map (slot_in t own) (drop (j + 1) slots) ++ rest) (id_number next) ≡ all
next_slot t v g label own slots items rest j slot seen next all b q lt is tidy e live misses before =
    ap (λ (z : ℕ). walked v g label (map (slot_in t own) (drop z slots) ++ rest) (id_number next)) (add-one j)
    ∙ (ap (λ (z : Bool). cond z (id_number next) (walked v g label (map (slot_in t own) (drop (suc j) slots) ++ rest) (id_number next))) (sym misses ∙ live)
    ∙ (sym (walk_slot t v g label own slots rest j slot seen next (subst (λ (z : List MetaSlot). j < length z) q lt) (subst (λ (z : List MetaSlot). slot ≡ get_or z j slot) q is) tidy e)
    ∙ before))

-- ---- what is lost

lost_step : (t : Tables) (v g : ℕ) (rows : List MetaLost) (i : ℕ) (row : MetaLost) → i < length rows → row ≡ get_or rows i row → All (HasTidyLost t) rows →
    is_lost_in (map (lost_in t) (drop i rows)) v g ≡ cond (row.volume.0 == v) (bit_of row.lost g) (is_lost_in (map (lost_in t) (drop (suc i) rows)) v g)
lost_step t v g rows i row lt is tidy =
    let more : Bool = is_lost_in (map (lost_in t) (drop (suc i) rows)) v g in
    let own : IsTidy (size_in t row.volume) row.lost = subst (HasTidyLost t) (sym is) (tidy i row lt) in
    ap (λ (z : List MetaLost). is_lost_in (map (lost_in t) z) v g) (drop-cons rows i row lt)
    ∙ (ap (λ (z : MetaLost). cond (z.volume.0 == v) (has (grains_of (size_in t z.volume) z.lost) g) more) (sym is)
    ∙ ap (λ (z : Bool). cond (row.volume.0 == v) z more) (has-tidy (size_in t row.volume) row.lost own g))

pub found_row : (t : Tables) (v g : ℕ) (rows : List MetaLost) (i : ℕ) (row : MetaLost) (b : Bool) → i < length rows → row ≡ get_or rows i row → All (HasTidyLost t) rows →
    row.volume.0 ≡ v → b ≡ bit_of row.lost g → is_lost_in (map (lost_in t) (drop i rows)) v g ≡ is_lost_in (map (lost_in t) rows) v g → b ≡ is_lost_in (map (lost_in t) rows) v g
found_row t v g rows i row b lt is tidy own bit before =
    bit
    ∙ (ap (λ (z : Bool). cond z (bit_of row.lost g) (is_lost_in (map (lost_in t) (drop (suc i) rows)) v g)) (sym (eq-eqb row.volume.0 v own))
    ∙ (sym (lost_step t v g rows i row lt is tidy) ∙ before))
