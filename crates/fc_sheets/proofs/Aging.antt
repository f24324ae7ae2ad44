-- A slot becomes old where it stands, and a volume gets a chain of its own: what of the facts stays.
use Rattle.std.proofs.Common.{◌≡◌, ◌≢◌, ℕ, zero, suc, ◌+◌, ◌<◌, Bool, true, false, Some, None, List, [], ◌∷◌, ◌++◌, length, get_or, set, replicate, refl, sym, ap, subst, ◌∙◌, arith, ◌⊎◌, inl, inr, length-set, get_or-set_same, get_or-set_other}
use Rattle.std.specs.List.{list_all}
use Rattle.std.proofs.lemmas.Bool.{both_ways, cases_eq}
use Rattle.fc_base.specs.Column.{Shape}
use Rattle.fc_base.specs.Sheet.{Slot, slot_at, no_slot, shape_of}
use Rattle.fc_base.specs.SheetFacts.{HasNames, HasSizes, HasMappings}
use Rattle.fc_base.specs.Need.{is_complete}
use Rattle.fc_base.specs.RestoreGraph.{HasOneLive, HasNoLoop, Edge, Way, Way.last_edge, Way.next_edge}
use Rattle.fc_sheets.proofs.Places.{push_is, push_here}
use Rattle.fc_sheets.proofs.Removing.{HeldFor, held_for, names_big, sizes_big, mappings_big, one_live_big, way_map}

-- `new` is `old` but that a slot may be old now
pub record Aged (old new : List Slot) : Type 0 where
  pub count : length new ≡ length old
  pub birth : (j : ℕ) → (slot_at new j).birth ≡ (slot_at old j).birth
  pub chain : (j : ℕ) → (slot_at new j).chain ≡ (slot_at old j).chain
  pub volume : (j : ℕ) → (slot_at new j).volume ≡ (slot_at old j).volume
  pub mapping : (j : ℕ) → (slot_at new j).mapping ≡ (slot_at old j).mapping
  pub held : (j : ℕ) → (slot_at new j).held ≡ (slot_at old j).held
  pub live : (j : ℕ) → (slot_at new j).is_live ≡ true → (slot_at old j).is_live ≡ true

abbrev pub age : Slot → Slot
age t = record t { is_live = false }

age_at : (slots : List Slot) (k j : ℕ) → k < length slots → (slot_at (set slots k (age (slot_at slots k))) j ≡ slot_at slots j) ⊎ ((j ≡ k) × (slot_at (set slots k (age (slot_at slots k))) j ≡ age (slot_at slots j)))
age_at slots k j lt =
    elim (cases_eq j k) [
      | inl e ↦ inr (e, (let P : ℕ → Type 0 = λ z. slot_at (set slots k (age (slot_at slots k))) z ≡ age (slot_at slots z) in subst P (sym e) (get_or-set_same slots k (age (slot_at slots k)) no_slot lt)))
      | inr ne ↦ inl (let ne' : j ≢ k = ne in rw get_or-set_other refl)
    ]

pub aged_is : (slots : List Slot) (k : ℕ) → k < length slots → Aged slots (set slots k (age (slot_at slots k)))
aged_is slots k lt =
    record {
      count = length-set slots k (age (slot_at slots k));
      birth = λ j. elim (age_at slots k j lt) [ inl e ↦ ap (λ (t : Slot). t.birth) e | inr e ↦ ap (λ (t : Slot). t.birth) e.1 ];
      chain = λ j. elim (age_at slots k j lt) [ inl e ↦ ap (λ (t : Slot). t.chain) e | inr e ↦ ap (λ (t : Slot). t.chain) e.1 ];
      volume = λ j. elim (age_at slots k j lt) [ inl e ↦ ap (λ (t : Slot). t.volume) e | inr e ↦ ap (λ (t : Slot). t.volume) e.1 ];
      mapping = λ j. elim (age_at slots k j lt) [ inl e ↦ ap (λ (t : Slot). t.mapping) e | inr e ↦ ap (λ (t : Slot). t.mapping) e.1 ];
      held = λ j. elim (age_at slots k j lt) [ inl e ↦ ap (λ (t : Slot). t.held) e | inr e ↦ ap (λ (t : Slot). t.held) e.1 ];
      live = λ j l. elim (age_at slots k j lt) [ inl e ↦ ap (λ (t : Slot). t.is_live) (sym e) ∙ l | inr e ↦ absurd (both_ways _ (ap (λ (t : Slot). t.is_live) e.1) l) ];
    }

-- the aged slot is old, every other is live as before
pub aged_here : (slots : List Slot) (k : ℕ) → k < length slots → (slot_at (set slots k (age (slot_at slots k))) k).is_live ≡ false
aged_here slots k lt = ap (λ (t : Slot). t.is_live) (get_or-set_same slots k (age (slot_at slots k)) no_slot lt)

pub aged_other : (slots : List Slot) (k j : ℕ) → k < length slots → j ≢ k → slot_at (set slots k (age (slot_at slots k))) j ≡ slot_at slots j
aged_other slots k j lt ne = elim (age_at slots k j lt) [ inl e ↦ e | inr e ↦ absurd (ne e.0) ]

pub names_aged : (b : ℕ) (old new : List Slot) → Aged old new → HasNames (record { births = b; slots = old }) → HasNames (record { births = b; slots = new })
names_aged b old new a n =
    let c : length new ≡ length old = a.count in
    record {
      births = λ k lt. subst (λ x. x < b) (sym (a.birth k)) (n.births k (omega arith));
      apart = λ i j il jl e. n.apart i j (omega arith) (omega arith) (sym (a.birth i) ∙ (e ∙ a.birth j));
      chains = λ k lt. subst (λ x. x < b) (sym (a.chain k)) (n.chains k (omega arith));
      fresh = λ i j m il jl e q. n.fresh i j m (omega arith) (omega arith) (sym (a.mapping i) ∙ e) (sym (a.chain j) ∙ (q ∙ a.birth i));
    }

pub sizes_aged : (old new : List Slot) → Aged old new → HasSizes old → HasSizes new
sizes_aged old new a n =
    let c : length new ≡ length old = a.count in
    record {
      of_chain = λ i j il jl e. ap length (a.held i) ∙ (n.of_chain i j (omega arith) (omega arith) (sym (a.chain i) ∙ (e ∙ a.chain j)) ∙ ap length (sym (a.held j)));
      of_volume = λ i j il jl e. ap length (a.held i) ∙ (n.of_volume i j (omega arith) (omega arith) (sym (a.volume i) ∙ (e ∙ a.volume j)) ∙ ap length (sym (a.held j)));
    }

pub mappings_aged : (old new : List Slot) → Aged old new → HasMappings old → HasMappings new
mappings_aged old new a n =
    let c : length new ≡ length old = a.count in
    record {
      one_slot = λ i j m il jl e f. n.one_slot i j m (omega arith) (omega arith) (sym (a.mapping i) ∙ e) (sym (a.mapping j) ∙ f);
      complete = λ k lt l e. ap (list_all (λ b. b)) (a.held k) ∙ n.complete k (omega arith) (a.live k l) (sym (a.mapping k) ∙ e);
    }

pub one_live_aged : (old new : List Slot) → Aged old new → HasOneLive (shape_of old) → HasOneLive (shape_of new)
one_live_aged old new a one i j il jl p q e =
    let c : length new ≡ length old = a.count in
    one i j (omega arith) (omega arith) (a.live i p) (a.live j q) (sym (a.volume i) ∙ (e ∙ a.volume j))

pub held_aged : (old new : List Slot) → Aged old new → (g k : ℕ) → HeldFor old g k → HeldFor new g k
held_aged old new a g k x =
    let i = x.1 in
    held_for new g k x.0 i.before (a.chain x.0 ∙ (i.one_chain ∙ sym (a.chain k))) (ap (λ z. get_or z g false) (a.held x.0) ∙ i.holds)

-- ---- a chain of its own

abbrev pub alone : ℕ → ℕ → ℕ → Slot
alone b v grains = record { birth = b; chain = b; volume = v; is_live = true; mapping = None; held = replicate grains true }

pub complete_full : (n : ℕ) → list_all (λ b. b) (replicate n true) ≡ true
complete_full zero = refl
complete_full (suc n) = complete_full n

pub length_full : (n : ℕ) (b : Bool) → length (replicate n b) ≡ n
length_full zero b = refl
length_full (suc n) b = ap suc (length_full n b)

pub full_at : (n g : ℕ) → g < n → get_or (replicate n true) g false ≡ true
full_at zero g lt = absurd (omega arith)
full_at (suc n) zero lt = refl
full_at (suc n) (suc g) lt = full_at n g (omega arith)

abbrev pub with_alone : List Slot → ℕ → ℕ → ℕ → List Slot
with_alone slots b v grains = slots ++ alone b v grains ∷ []

pub names_alone : (b : ℕ) (slots : List Slot) (v grains : ℕ) → HasNames (record { births = b; slots = slots }) → HasNames (record { births = b + 1; slots = with_alone slots b v grains })
names_alone b slots v grains n =
    let h : slot_at (with_alone slots b v grains) (length slots) ≡ alone b v grains = push_here slots (alone b v grains) in
    let c : (slot_at (with_alone slots b v grains) (length slots)).chain ≡ b = ap (λ (t : Slot). t.chain) h in
    names_big b (b + 1) (with_alone slots b v grains) slots (length slots) (push_is slots (alone b v grains)) n (omega arith)
    (ap (λ (t : Slot). t.birth) h) (omega (arith, c))
    (λ i m il e q. let a : (slot_at slots i).birth < b = n.births i il in omega (arith, c, q))
    (λ m e. let f : None ≡ Some m = sym (ap (λ (t : Slot). t.mapping) h) ∙ e in absurd cc)

pub sizes_alone : (b : ℕ) (slots : List Slot) (v grains : ℕ) → HasNames (record { births = b; slots = slots }) → HasSizes slots →
    ((i : ℕ) → i < length slots → (slot_at slots i).volume ≡ v → length (slot_at slots i).held ≡ grains) → HasSizes (with_alone slots b v grains)
sizes_alone b slots v grains n s size =
    let h : slot_at (with_alone slots b v grains) (length slots) ≡ alone b v grains = push_here slots (alone b v grains) in
    let l : length (slot_at (with_alone slots b v grains) (length slots)).held ≡ grains = ap (λ (t : Slot). length t.held) h ∙ length_full grains true in
    sizes_big (with_alone slots b v grains) slots (length slots) (push_is slots (alone b v grains)) s
    (λ i il e. let a : (slot_at slots i).chain < b = n.chains i il in absurd (let c : (slot_at slots i).chain ≡ b = e ∙ ap (λ (t : Slot). t.chain) h in omega arith))
    (λ i il e. size i il (e ∙ ap (λ (t : Slot). t.volume) h) ∙ sym l)

pub mappings_alone : (b : ℕ) (slots : List Slot) (v grains : ℕ) → HasMappings slots → HasMappings (with_alone slots b v grains)
mappings_alone b slots v grains n =
    let h : slot_at (with_alone slots b v grains) (length slots) ≡ alone b v grains = push_here slots (alone b v grains) in
    mappings_big (with_alone slots b v grains) slots (length slots) (push_is slots (alone b v grains)) n
    (λ i m il e f. let q : None ≡ Some m = sym (ap (λ (t : Slot). t.mapping) h) ∙ f in cc)
    (λ l e. ap is_complete h ∙ complete_full grains)

pub one_live_alone : (b : ℕ) (slots : List Slot) (v grains : ℕ) → HasOneLive (shape_of slots) →
    ((i : ℕ) → i < length slots → (slot_at slots i).is_live ≡ true → (slot_at slots i).volume ≢ v) → HasOneLive (shape_of (with_alone slots b v grains))
one_live_alone b slots v grains one apart =
    let h : slot_at (with_alone slots b v grains) (length slots) ≡ alone b v grains = push_here slots (alone b v grains) in
    one_live_big (with_alone slots b v grains) slots (length slots) (push_is slots (alone b v grains)) one (λ i il l e. apart i il l (e ∙ ap (λ (t : Slot). t.volume) h))

-- ---- no loop

-- an edge of the longer list that doesn't end in its last slot is one of the shorter list
edge_not_last : (b : ℕ) (slots : List Slot) (v grains : ℕ) → HasNames (record { births = b; slots = slots }) → (x w : ℕ) → Edge (shape_of (with_alone slots b v grains)) x w → Edge (shape_of slots) x w
edge_not_last b slots v grains n x w e =
    let r = push_is slots (alone b v grains) in
    let h : slot_at (with_alone slots b v grains) (length slots) ≡ alone b v grains = push_here slots (alone b v grains) in
    let c : length slots + 1 ≡ length (with_alone slots b v grains) = r.count in
    let there : e.live < length (with_alone slots b v grains) = e.there in
    let before : e.old < e.live = e.before in
    let old_low : slot_at slots e.old ≡ slot_at (with_alone slots b v grains) e.old = r.low e.old (omega arith) in
    elim (cases_eq e.live (length slots)) [
      | inl last ↦ absurd (
          let a : (slot_at slots e.old).chain < b = n.chains e.old (omega arith) in
          let q : (slot_at slots e.old).chain ≡ b = ap (λ (t : Slot). t.chain) old_low ∙ (e.one_chain ∙ (ap (λ z. (slot_at (with_alone slots b v grains) z).chain) last ∙ ap (λ (t : Slot). t.chain) h)) in
          omega arith)
      | inr ne ↦ let live_low : slot_at slots e.live ≡ slot_at (with_alone slots b v grains) e.live = r.low e.live (omega arith) in
          record {
            other = e.other;
            old = e.old;
            live = e.live;
            before = before;
            there = omega arith;
            one_chain = ap (λ (t : Slot). t.chain) old_low ∙ (e.one_chain ∙ ap (λ (t : Slot). t.chain) (sym live_low));
            old_is_old = ap (λ (t : Slot). t.is_live) old_low ∙ e.old_is_old;
            old_is_from = ap (λ (t : Slot). t.volume) old_low ∙ e.old_is_from;
            live_is_live = ap (λ (t : Slot). t.is_live) live_low ∙ e.live_is_live;
            live_is_to = ap (λ (t : Slot). t.volume) live_low ∙ e.live_is_to;
          }
    ]

pub no_loop_alone : (b : ℕ) (slots : List Slot) (v grains : ℕ) → HasNames (record { births = b; slots = slots }) → HasNoLoop (shape_of slots) → HasNoLoop (shape_of (with_alone slots b v grains))
no_loop_alone b slots v grains n free w k =
    free w (way_map (shape_of (with_alone slots b v grains)) (shape_of slots) (edge_not_last b slots v grains n) w w k)

-- an edge after a slot became old is one before, or runs from its volume
edge_aged : (slots : List Slot) (k : ℕ) → k < length slots → (v w : ℕ) → v ≢ (slot_at slots k).volume → Edge (shape_of (set slots k (age (slot_at slots k)))) v w → Edge (shape_of slots) v w
edge_aged slots k lt v w ne e =
    let a = aged_is slots k lt in
    let c : length (set slots k (age (slot_at slots k))) ≡ length slots = a.count in
    let there : e.live < length (set slots k (age (slot_at slots k))) = e.there in
    let other : e.old ≢ k = λ q. ne (sym e.old_is_from ∙ (a.volume e.old ∙ ap (λ z. (slot_at slots z).volume) q)) in
    record {
      other = e.other;
      old = e.old;
      live = e.live;
      before = e.before;
      there = omega arith;
      one_chain = sym (a.chain e.old) ∙ (e.one_chain ∙ a.chain e.live);
      old_is_old = ap (λ (t : Slot). t.is_live) (sym (aged_other slots k e.old lt other)) ∙ e.old_is_old;
      old_is_from = sym (a.volume e.old) ∙ e.old_is_from;
      live_is_live = a.live e.live e.live_is_live;
      live_is_to = sym (a.volume e.live) ∙ e.live_is_to;
    }

-- no edge runs to the volume of a live slot that became old
no_edge_to : (slots : List Slot) (k : ℕ) → k < length slots → (slot_at slots k).is_live ≡ true → HasOneLive (shape_of slots) → (v : ℕ) → Edge (shape_of (set slots k (age (slot_at slots k)))) v (slot_at slots k).volume → ⊥
no_edge_to slots k lt kl one v e =
    let a = aged_is slots k lt in
    let c : length (set slots k (age (slot_at slots k))) ≡ length slots = a.count in
    let there : e.live < length (set slots k (age (slot_at slots k))) = e.there in
    let same : e.live ≡ k = one e.live k (omega arith) lt (a.live e.live e.live_is_live) kl (sym (a.volume e.live) ∙ e.live_is_to) in
    both_ways _ (aged_here slots k lt) (ap (λ z. (slot_at (set slots k (age (slot_at slots k))) z).is_live) (sym same) ∙ e.live_is_live)

way_ends : (s : Shape) (v w : ℕ) → Way s v w → (u : ℕ) × Edge s u w
way_ends s v w (last_edge e) = (v, e)
way_ends s v x (next_edge {w = w} e k) = way_ends s w x k

way_avoids : (s t : Shape) (y : ℕ) → ((v w : ℕ) → v ≢ y → Edge s v w → Edge t v w) → ((v : ℕ) → Edge s v y → ⊥) → (v w : ℕ) → v ≢ y → Way s v w → Way t v w
way_avoids s t y f no' v w ne (last_edge e) = last_edge (f v w ne e)
way_avoids s t y f no' v x ne (next_edge {w = w} e k) =
    next_edge (f v w ne e) (way_avoids s t y f no' w x (λ q. no' v (subst (λ (z : ℕ). Edge s v z) q e)) k)

pub no_loop_aged : (slots : List Slot) (k : ℕ) → k < length slots → (slot_at slots k).is_live ≡ true → HasOneLive (shape_of slots) → HasNoLoop (shape_of slots) →
    HasNoLoop (shape_of (set slots k (age (slot_at slots k))))
no_loop_aged slots k lt kl one free v way =
    let s : Shape = shape_of (set slots k (age (slot_at slots k))) in
    let last = way_ends s v v way in
    free v (way_avoids s (shape_of slots) (slot_at slots k).volume (edge_aged slots k lt) (no_edge_to slots k lt kl one) v v
    (λ q. no_edge_to slots k lt kl one last.0 (subst (λ (z : ℕ). Edge s last.0 z) q last.1)) way)
