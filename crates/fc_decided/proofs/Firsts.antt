-- Events keep it so that a live slot of no mapping is first in its chain.
use Rattle.std.proofs.Common.{◌≡◌, ◌≢◌, ℕ, zero, suc, ◌+◌, ◌<◌, ◌≤◌, Bool, true, false, cond, eqb, List, [], ◌∷◌, length, fold, set, remove, insert, replicate, Option, Some, None, refl, sym, ap, ◌∙◌, arith, inl, inr}
use Rattle.std.proofs.lemmas.Bool.{cases_eq}
use Rattle.std.proofs.lemmas.List.{get_or-map}
use Rattle.fc_base.specs.Sheet.{Slot, Sheet, slot_at, no_slot, live_place, mapping_place, birth_place, volume_grains}
use Rattle.fc_base.specs.SheetFacts.{HasNames, IsSound}
use Rattle.fc_base.specs.SheetFits.{FitsEvent, FitsEvents}
use Rattle.fc_base.specs.SheetStep.{sheet_step, at_place, without, aged, left_place, has_after, placed, started_empty, triggered, with_chain, retired_at, detached_at, split_at, split_from, relabelled, forced_at, forced_map}
use Rattle.fc_base.specs.declared.decision.LaneEvent.{LaneEvent}
use Rattle.fc_base.specs.declared.decision.LaneEvent.TheVariants.{Make, Remove, Trigger, Retire, Detach, Split, Force, Drop}
use Rattle.fc_base.specs.declared.ids.MapId.{MapId}
use Rattle.fc_base.specs.declared.request.Pair.{Pair}
use Rattle.fc_legal.specs.Stands.{AreFirst}
use Rattle.fc_sheets.proofs.Aging.{age, alone, with_alone, aged_is, names_aged, names_alone}
use Rattle.fc_sheets.proofs.Finding.{live_place_at, mapping_place_at, birth_place_at}
use Rattle.fc_sheets.proofs.Lawful.{event_sound}
use Rattle.fc_sheets.proofs.Places.{Removed, up, up_in, up_le, le_up, up_low, down, removed_at, big_at, remove_is, insert_is, insert_here, push_is, push_here}
use Rattle.fc_sheets.proofs.Removing.{names_small}
use Rattle.fc_sheets.proofs.Splitting.{CanSplit, split_list, split_same, split_chain, split_refines, split_count}
use Rattle.fc_decided.proofs.Apart.{sheet_through}

-- ---- parts of the steps

first_small : (big small : List Slot) (p : ℕ) → Removed big small p → AreFirst big → AreFirst small
first_small big small p r first j k jl kl live none chain =
    let ej = removed_at big small p r j in
    let ek = removed_at big small p r k in
    up_le p k j
    (first (up p j) (up p k) (up_in big small p r j jl) (up_in big small p r k kl) (ap (λ (t : Slot). t.is_live) (sym ek) ∙ live) (ap (λ (t : Slot). t.mapping) (sym ek) ∙ none)
    (ap (λ (t : Slot). t.chain) (sym ej) ∙ chain ∙ ap (λ (t : Slot). t.chain) ek))

first_without : (k : ℕ) (s : Sheet) → k < length s.slots → AreFirst s.slots → AreFirst (without k s).slots
first_without k s kl first = first_small s.slots (remove s.slots k) k (remove_is s.slots k kl) first

first_aged : (k : ℕ) (s : Sheet) → k < length s.slots → AreFirst s.slots → AreFirst (aged k s).slots
first_aged k s kl first i j il jl live none chain =
    let a = aged_is s.slots k kl in
    let c : length (aged k s).slots ≡ length s.slots = a.count in
    first i j (omega (arith, il, c)) (omega (arith, jl, c)) (a.live j live) (sym (a.mapping j) ∙ none) (sym (a.chain i) ∙ chain ∙ a.chain j)

-- a new chain behind all
first_alone : (b : ℕ) (slots : List Slot) (v grains : ℕ) → HasNames (record { births = b; slots = slots }) → AreFirst slots → AreFirst (with_alone slots b v grains)
first_alone b slots v grains names first j k jl kl live none chain =
    let n : Slot = alone b v grains in
    let big : List Slot = with_alone slots b v grains in
    let r = push_is slots n in
    let here : slot_at big (length slots) ≡ n = push_here slots n in
    let count : length slots + 1 ≡ length big = r.count in
    elim (cases_eq j (length slots)) [
      | inl last ↦ omega (arith, last, kl, count)
      | inr other_j ↦ elim (cases_eq k (length slots)) [
        | inl last ↦
            let low : j < length slots = omega (arith, jl, count, other_j) in
            let below : (slot_at slots j).chain < b = names.chains j low in
            let same : (slot_at slots j).chain ≡ b = ap (λ (t : Slot). t.chain) (r.low j low) ∙ chain ∙ ap (λ (i : ℕ). (slot_at big i).chain) last ∙ ap (λ (t : Slot). t.chain) here in
            absurd (omega (arith, below, same))
        | inr other_k ↦
            let low_j : j < length slots = omega (arith, jl, count, other_j) in
            let low_k : k < length slots = omega (arith, kl, count, other_k) in
            let ej = r.low j low_j in
            let ek = r.low k low_k in
            first j k low_j low_k (ap (λ (t : Slot). t.is_live) ek ∙ live) (ap (λ (t : Slot). t.mapping) ek ∙ none) (ap (λ (t : Slot). t.chain) ej ∙ chain ∙ ap (λ (t : Slot). t.chain) (sym ek))
      ]
    ]

-- a mapping's new slot behind another of its chain
first_placed : (target m : ℕ) (held : List Bool) (x : ℕ) (s : Sheet) → x < length s.slots → AreFirst s.slots → AreFirst (placed target m held x s).slots
first_placed target m held x s xl first j k jl kl live none chain =
    let n : Slot = record { birth = s.births; chain = (slot_at s.slots x).chain; volume = target; is_live = true; mapping = Some m; held = held } in
    let big : List Slot = insert s.slots (x + 1) n in
    let r = insert_is s.slots (x + 1) n (omega (arith, xl)) in
    let here : slot_at big (x + 1) ≡ n = insert_here s.slots (x + 1) n (omega (arith, xl)) in
    elim (down big s.slots (x + 1) r k kl) [
      | inl new ↦ (let some : None ≡ Some m = sym none ∙ ap (λ (i : ℕ). (slot_at big i).mapping) new ∙ ap (λ (t : Slot). t.mapping) here in absurd cc)
      | inr old ↦
          let ek = big_at big s.slots (x + 1) r old.0 k old.2 in
          let was : (i : ℕ) → i < length s.slots → (slot_at s.slots i).chain ≡ (slot_at big k).chain → old.0 ≤ i =
          λ i il same. first i old.0 il old.1 (ap (λ (t : Slot). t.is_live) (sym ek) ∙ live) (ap (λ (t : Slot). t.mapping) (sym ek) ∙ none) (same ∙ ap (λ (t : Slot). t.chain) ek) in
          elim (down big s.slots (x + 1) r j jl) [
            | inl new ↦
                let le = was x xl (sym (ap (λ (i : ℕ). (slot_at big i).chain) new ∙ ap (λ (t : Slot). t.chain) here) ∙ chain) in
                let stays = up_low (x + 1) old.0 (omega (arith, le)) in
                let is = old.2 in
                omega (arith, le, stays, is, new)
            | inr old_j ↦
                let ej = big_at big s.slots (x + 1) r old_j.0 j old_j.2 in
                let le = was old_j.0 old_j.1 (ap (λ (t : Slot). t.chain) (sym ej) ∙ chain) in
                let rise = le_up (x + 1) old.0 old_j.0 le in
                let a = old.2 in
                let b = old_j.2 in
                omega (arith, rise, a, b)
          ]
    ]

-- a split
kept_mapping : (f : Slot → Slot) → ((t : Slot) → (f t).mapping ≡ t.mapping) → (k : ℕ) (ts : List Slot) (j : ℕ) → j < length ts → j ≢ k → (slot_at (relabelled f k ts) j).mapping ≡ (slot_at ts j).mapping
kept_mapping f keeps k [] j lt other = absurd (omega (arith, lt))
kept_mapping f keeps zero (t ∷ ts) zero lt other = absurd (other refl)
kept_mapping f keeps zero (t ∷ ts) (suc j) lt other = ap (λ (x : Slot). x.mapping) (get_or-map f ts j no_slot no_slot (omega (arith, lt))) ∙ keeps (slot_at ts j)
kept_mapping f keeps (suc k) (t ∷ ts) zero lt other = refl
kept_mapping f keeps (suc k) (t ∷ ts) (suc j) lt other = kept_mapping f keeps k ts j (omega (arith, lt)) (λ e. other (ap suc e))

split_keeps_mapping : (chain birth : ℕ) (t : Slot) → (split_from chain birth t).mapping ≡ t.mapping
split_keeps_mapping chain birth t = by (eqb t.chain chain)
  where
    by : (b : Bool) → (cond b (record t { chain = birth }) t).mapping ≡ t.mapping
    by true = refl
    by false = refl

first_split : (b : ℕ) (slots : List Slot) (c : ℕ) → CanSplit b slots c → AreFirst slots → AreFirst (split_list slots c)
first_split b slots c can first j k jl kl live none chain =
    let count = split_count slots c in
    let jl_old : j < length slots = omega (arith, jl, count) in
    let kl_old : k < length slots = omega (arith, kl, count) in
    elim (cases_eq k c) [
      | inl cut ↦ elim (split_chain slots c j can.there jl_old) [
        | inl behind ↦ (let le = behind.0 in omega (arith, le, cut))
        | inr out ↦ elim (split_chain slots c k can.there kl_old) [
          | inl own ↦ absurd (can.label j jl_old (sym out.1 ∙ chain ∙ own.2))
          | inr far ↦ elim far.0 [
            | inl apart ↦ absurd (apart.1 (ap (λ (i : ℕ). (slot_at slots i).chain) cut))
            | inr low ↦ absurd (omega (arith, low, cut))
          ]
        ]
      ]
      | inr other ↦
          let same = split_same slots c k can.there kl_old in
          let mapping = kept_mapping (split_from (slot_at slots c).chain (slot_at slots c).birth) (split_keeps_mapping (slot_at slots c).chain (slot_at slots c).birth) c slots k kl_old other in
          first j k jl_old kl_old (sym same.is_live ∙ live) (sym mapping ∙ none) (split_refines b slots c j k can jl_old kl_old chain)
    ]

-- ---- the events

at_some : (P : Sheet → Type 0) (f : ℕ → Sheet → Sheet) (o : Option ℕ) (s : Sheet) → ((k : ℕ) → o ≡ Some k → P (f k s)) → P s → P (at_place f o s)
at_some P f None s there same = same
at_some P f (Some k) s there same = there k refl

-- Names, and the first of each chain.
abbrev AreNamed : Sheet → Type 0
AreNamed s = HasNames s × AreFirst s.slots

named_chain : (v grains : ℕ) (s : Sheet) → AreNamed s → AreNamed (with_chain v grains s)
named_chain v grains s named = (names_alone s.births s.slots v grains named.0, first_alone s.births s.slots v grains named.0 named.1)

named_without : (k : ℕ) (s : Sheet) → k < length s.slots → AreNamed s → AreNamed (without k s)
named_without k s kl named = (names_small s.births s.slots (remove s.slots k) k (remove_is s.slots k kl) named.0, first_without k s kl named.1)

named_detached : (k : ℕ) (s : Sheet) → k < length s.slots → AreNamed s → AreNamed (detached_at k s)
named_detached k s kl named = named_chain (slot_at s.slots k).volume (length (slot_at s.slots k).held) (without k s) (named_without k s kl named)

named_retired : (k : ℕ) (s : Sheet) → k < length s.slots → AreNamed s → AreNamed (retired_at k s)
named_retired k s kl named =
    named_chain (slot_at s.slots k).volume (length (slot_at s.slots k).held) (aged k s)
    (names_aged s.births s.slots (set s.slots k (age (slot_at s.slots k))) (aged_is s.slots k kl) named.0, first_aged k s kl named.1)

named_forced : (k : ℕ) (s : Sheet) → k < length s.slots → AreNamed s → AreNamed (forced_at k s)
named_forced k s kl named = by (slot_at s.slots k).is_live
  where
    by : (b : Bool) → AreNamed (cond b (detached_at k s) (without k s))
    by true = named_detached k s kl named
    by false = named_without k s kl named

named_map : (s : Sheet) (m : MapId) → AreNamed s → AreNamed (forced_map s m)
named_map s m named = at_some AreNamed forced_at (mapping_place s.slots m.0) s (λ k e. named_forced k s (mapping_place_at s.slots m.0 k e).0 named) named

named_maps : (ms : List MapId) (s : Sheet) → AreNamed s → AreNamed (fold forced_map s ms)
named_maps [] s named = named
named_maps (m ∷ ms) s named = named_maps ms (forced_map s m) (named_map s m named)

first_left : (k : ℕ) (s : Sheet) → k < length s.slots → AreFirst s.slots → AreFirst (left_place k s).slots
first_left k s kl first = by (has_after s.slots k)
  where
    by : (b : Bool) → AreFirst (cond b (aged k s) (without k s)).slots
    by true = first_aged k s kl first
    by false = first_without k s kl first

abbrev FirstIn : Sheet → Type 0
FirstIn s = AreFirst s.slots

first_started : (s : Sheet) (p : Pair) → AreFirst s.slots → AreFirst (started_empty s p).slots
first_started s p first =
    let t = at_place left_place (live_place s.slots p.target.0) s in
    let kept : FirstIn t = at_some FirstIn left_place (live_place s.slots p.target.0) s (λ k e. first_left k s (live_place_at s.slots p.target.0 k e).there first) first in
    at_some FirstIn (placed p.target.0 p.map.0 (replicate (volume_grains s.slots p.target.0) false)) (live_place t.slots p.source.0) t
    (λ k e. first_placed p.target.0 p.map.0 (replicate (volume_grains s.slots p.target.0) false) k t (live_place_at t.slots p.source.0 k e).there kept) kept

first_triggered : (pairs : List Pair) (s : Sheet) → AreFirst s.slots → AreFirst (triggered pairs s).slots
first_triggered [] s first = first
first_triggered (p ∷ ps) s first = first_triggered ps (started_empty s p) (first_started s p first)

first_after : (s : Sheet) (e : LaneEvent) → IsSound s → FitsEvent s e → AreFirst s.slots → AreFirst (sheet_step (λ grains. grains) s e).slots
first_after s (Make volume grains kind) sound f first = (named_chain volume.0 grains s (sound.names, first)).1
first_after s (Remove volume) sound f first = at_some FirstIn without (live_place s.slots volume.0) s (λ k e. first_without k s (live_place_at s.slots volume.0 k e).there first) first
first_after s (Trigger pairs) sound f first = first_triggered pairs s first
first_after s (Retire m) sound f first = at_some FirstIn retired_at (mapping_place s.slots m.0) s (λ k e. (named_retired k s (mapping_place_at s.slots m.0 k e).0 (sound.names, first)).1) first
first_after s (Detach m) sound f first = at_some FirstIn detached_at (mapping_place s.slots m.0) s (λ k e. (named_detached k s (mapping_place_at s.slots m.0 k e).0 (sound.names, first)).1) first
first_after s (Split m) sound f first =
    at_some FirstIn split_at (mapping_place s.slots m.0) s
    (λ k e.
    let at = mapping_place_at s.slots m.0 k e in
    first_split s.births s.slots k (record { there = at.0; names = sound.names; label = λ j jl. sound.names.fresh k j m.0 at.0 jl at.1 }) first) first
first_after s (Force m dependents) sound f first = (named_maps dependents (forced_map s m) (named_map s m (sound.names, first))).1
first_after s (Drop slot) sound f first = at_some FirstIn without (birth_place s.slots slot.0) s (λ k e. first_without k s (birth_place_at s.slots slot.0 k e).0 first) first
first_after s e sound f first = first

pub firsts_through : (s : Sheet) (es : List LaneEvent) → IsSound s → FitsEvents (λ grains. grains) s es → AreFirst s.slots → AreFirst (sheet_through s es).slots
firsts_through s [] sound fits first = first
firsts_through s (e ∷ es) sound fits first =
    firsts_through (sheet_step (λ grains. grains) s e) es (event_sound (λ grains. grains) s e sound fits.0) fits.1 (first_after s e sound fits.0 first)
