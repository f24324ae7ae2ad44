-- The slots of one chain stand together, whatever is done to them.
use Rattle.std.proofs.Common.{◌≡◌, ◌≢◌, ℕ, zero, suc, ◌+◌, ◌<◌, ◌≤◌, Bool, true, Option, Some, None, List, [], ◌∷◌, ◌++◌, length, remove, insert, map, fold, refl, sym, ap, subst, ◌∙◌, arith, ◌⊎◌, inl, inr}
use Rattle.std.proofs.lemmas.Bool.{cases_Bool, cases_eq, cases_lt}
use Rattle.fc_base.specs.declared.ids.MapId.{MapId}
use Rattle.fc_base.specs.declared.request.Pair.{Pair}
use Rattle.fc_base.specs.declared.decision.LaneEvent.{LaneEvent}
use Rattle.fc_base.specs.declared.decision.LaneEvent.TheVariants.{Make, Remove, Trigger, Retire, Detach, Split, Force, Drop, Forget, NoteCut, Access, Work, Arm}
use Rattle.fc_base.specs.Sheet.{Slot, Sheet, slot_at, live_place, mapping_place, birth_place}
use Rattle.fc_base.specs.SheetStep.{at_place, has_after, with_chain, without, aged, left_place, placed, started_empty, retired_at, detached_at, split_at, forced_at, forced_map, sheet_step}
use Rattle.fc_base.specs.SheetFacts.{IsSound}
use Rattle.fc_base.specs.SheetFits.{FitsEvent}
use Rattle.fc_sheets.proofs.Places.{Removed, up, up_rises, up_in, removed_at, remove_is, insert_is, insert_here, push_is, push_here}
use Rattle.fc_sheets.proofs.Aging.{aged_is}
use Rattle.fc_sheets.proofs.Splitting.{split_list, split_chain, split_count}
use Rattle.fc_sheets.proofs.Finding.{live_place_at, mapping_place_at, birth_place_at}
use Rattle.fc_sheets.proofs.Holding.{Regrained, at_map}
use Rattle.fc_slots.specs.Contiguous.{IsContiguous}

-- The labels of chains are births that were given, and chains stand together.
pub record Together (births : ℕ) (slots : List Slot) : Type 0 where
  pub labels : (k : ℕ) → k < length slots → (slot_at slots k).chain < births
  pub one_place : IsContiguous slots

abbrev pub SheetTogether : Sheet → Type 0
SheetTogether s = Together s.births s.slots

-- ---- changes that leave the labels in their order

-- Each slot has the label of a slot of the other list, in the same order, where several may have one.
record Follows (new old : List Slot) : Type 0 where
  place : ℕ → ℕ
  there : (j : ℕ) → j < length new → place j < length old
  chain : (j : ℕ) → j < length new → (slot_at new j).chain ≡ (slot_at old (place j)).chain
  rises : (i j : ℕ) → i < j → place i ≤ place j

contiguous_after : (new old : List Slot) → Follows new old → IsContiguous old → IsContiguous new
contiguous_after new old f c i j k ij jk kl e =
    let a : f.place i ≤ f.place j = f.rises i j ij in
    let b : f.place j ≤ f.place k = f.rises j k jk in
    let ci : (slot_at new i).chain ≡ (slot_at old (f.place i)).chain = f.chain i (omega arith) in
    let cj : (slot_at new j).chain ≡ (slot_at old (f.place j)).chain = f.chain j (omega arith) in
    let ck : (slot_at new k).chain ≡ (slot_at old (f.place k)).chain = f.chain k kl in
    elim (cases_eq (f.place i) (f.place j)) [
      | inl same ↦ cj ∙ (ap (λ z. (slot_at old z).chain) (sym same) ∙ (sym ci ∙ e))
      | inr apart ↦ elim (cases_eq (f.place j) (f.place k)) [
        | inl same ↦ cj ∙ (ap (λ z. (slot_at old z).chain) same ∙ sym ck)
        | inr apart' ↦ cj ∙ (c (f.place i) (f.place j) (f.place k) (omega arith) (omega arith) (f.there k kl) (sym ci ∙ (e ∙ ck)) ∙ sym ck)
      ]
    ]

follows : (b c : ℕ) (new old : List Slot) → Follows new old → b ≤ c → Together b old → Together c new
follows b c new old f le t =
    record {
      labels = λ k kl. (let a : (slot_at old (f.place k)).chain < b = t.labels (f.place k) (f.there k kl) in let e : (slot_at new k).chain ≡ (slot_at old (f.place k)).chain = f.chain k kl in omega arith);
      one_place = contiguous_after new old f t.one_place;
    }

le_less : (i j : ℕ) → i < j → i ≤ j
le_less i j lt = omega arith

same_places : (new old : List Slot) → length new ≡ length old → ((j : ℕ) → j < length new → (slot_at new j).chain ≡ (slot_at old j).chain) → Follows new old
same_places new old e f = record { place = λ j. j; there = λ j lt. omega arith; chain = f; rises = le_less }

small_follows : (big small : List Slot) (p : ℕ) → Removed big small p → Follows small big
small_follows big small p r = record { place = up p; there = up_in big small p r; chain = λ j lt. ap (λ (t : Slot). t.chain) (removed_at big small p r j); rises = λ i j lt. le_less (up p i) (up p j) (up_rises p i j lt) }

-- a new slot has the label of the slot before it
big_follows : (big small : List Slot) (k : ℕ) → Removed big small (suc k) → k < length small → (slot_at big (suc k)).chain ≡ (slot_at small k).chain → Follows big small
big_follows big small k r kl e = record { place = pull k; there = within; chain = chain_of; rises = pull_rises k }
  where
    pull : ℕ → ℕ → ℕ
    pull k zero = zero
    pull k (suc j) = elim (cases_lt k (suc j)) [ inl lt ↦ j | inr le ↦ suc j ]

    pull_cases : (k j : ℕ) → ((j ≤ k) × (pull k j ≡ j)) ⊎ ((k < j) × (suc (pull k j) ≡ j))
    pull_cases k zero = inl (omega arith, refl)
    pull_cases k (suc j) =
        elim (cases_lt k (suc j)) as (λ c. ((suc j ≤ k) × (elim c [ inl lt ↦ j | inr le ↦ suc j ] ≡ suc j)) ⊎ ((k < suc j) × (suc (elim c [ inl lt ↦ j | inr le ↦ suc j ]) ≡ suc j))) [ inl lt ↦ inr (lt, refl) | inr le ↦ inl (le, refl) ]

    pull_rises : (k i j : ℕ) → i < j → pull k i ≤ pull k j
    pull_rises k i j lt =
        elim (pull_cases k i) [
          | inl a ↦ elim (pull_cases k j) [ inl b ↦ omega (arith, a.1, b.1) | inr b ↦ omega (arith, a.0, a.1, b.0, b.1) ]
          | inr a ↦ elim (pull_cases k j) [ inl b ↦ absurd (omega (arith, a.0, b.0)) | inr b ↦ omega (arith, a.1, b.1) ]
        ]

    within : (j : ℕ) → j < length big → pull k j < length small
    within j lt = let c : length small + 1 ≡ length big = r.count in elim (pull_cases k j) [ inl a ↦ omega (arith, a.0, a.1) | inr a ↦ omega (arith, a.0, a.1) ]

    chain_of : (j : ℕ) → j < length big → (slot_at big j).chain ≡ (slot_at small (pull k j)).chain
    chain_of j lt =
        elim (pull_cases k j) [
          | inl a ↦ ap (λ (t : Slot). t.chain) (sym (r.low j (omega (arith, a.0)))) ∙ ap (λ z. (slot_at small z).chain) (sym a.1)
          | inr a ↦ elim (cases_eq (pull k j) k) [
            | inl q ↦ ap (λ z. (slot_at big z).chain) (sym a.1 ∙ ap suc q) ∙ (e ∙ ap (λ z. (slot_at small z).chain) (sym q))
            | inr ne ↦ ap (λ z. (slot_at big z).chain) (sym a.1) ∙ ap (λ (t : Slot). t.chain) (sym (r.high (pull k j) (omega (arith, a.0, a.1))))
          ]
        ]

without_together : (b : ℕ) (slots : List Slot) (p : ℕ) → p < length slots → Together b slots → Together b (remove slots p)
without_together b slots p lt = follows b b (remove slots p) slots (small_follows slots (remove slots p) p (remove_is slots p lt)) (omega arith)

aged_together : (s : Sheet) (k : ℕ) → k < length s.slots → SheetTogether s → SheetTogether (aged k s)
aged_together s k lt =
    let a = aged_is s.slots k lt in
    follows s.births s.births (aged k s).slots s.slots (same_places (aged k s).slots s.slots a.count (λ j jl. a.chain j)) (omega arith)

placed_follows : (target m : ℕ) (held : List Bool) (k : ℕ) (s : Sheet) → k < length s.slots → Follows (placed target m held k s).slots s.slots
placed_follows target m held k s lt =
    let new : Slot = record { birth = s.births; chain = (slot_at s.slots k).chain; volume = target; is_live = true; mapping = Some m; held = held } in
    let big : List Slot = insert s.slots (k + 1) new in
    let next : k + 1 ≡ suc k = omega arith in
    let r : Removed big s.slots (suc k) = subst (λ (z : ℕ). Removed big s.slots z) next (insert_is s.slots (k + 1) new (omega arith)) in
    let here : (slot_at big (suc k)).chain ≡ (slot_at s.slots k).chain = ap (λ z. (slot_at big z).chain) (sym next) ∙ ap (λ (t : Slot). t.chain) (insert_here s.slots (k + 1) new (omega arith)) in
    big_follows big s.slots k r lt here

placed_together : (target m : ℕ) (held : List Bool) (k : ℕ) (s : Sheet) → k < length s.slots → SheetTogether s → SheetTogether (placed target m held k s)
placed_together target m held k s lt = follows s.births (s.births + 1) (placed target m held k s).slots s.slots (placed_follows target m held k s lt) (omega arith)

-- ---- a new chain

pushed_together : (b : ℕ) (slots : List Slot) (t : Slot) → t.chain ≡ b → Together b slots → Together (b + 1) (slots ++ t ∷ [])
pushed_together b slots t e c = record { labels = labels; one_place = one_place }
  where
    big : List Slot
    big = slots ++ t ∷ []

    r : Removed big slots (length slots)
    r = push_is slots t

    count : length slots + 1 ≡ length big
    count = r.count

    here : (slot_at big (length slots)).chain ≡ b
    here = ap (λ (z : Slot). z.chain) (push_here slots t) ∙ e

    low : (j : ℕ) → j < length slots → (slot_at big j).chain ≡ (slot_at slots j).chain
    low j lt = ap (λ (z : Slot). z.chain) (sym (r.low j lt))

    labels : (k : ℕ) → k < length big → (slot_at big k).chain < b + 1
    labels k kl =
        elim (cases_lt k (length slots)) [
          | inl lt ↦ (let a : (slot_at slots k).chain < b = c.labels k lt in let q : (slot_at big k).chain ≡ (slot_at slots k).chain = low k lt in omega arith)
          | inr ge ↦ (let q : (slot_at big k).chain ≡ b = ap (λ z. (slot_at big z).chain) (let s : k ≡ length slots = omega (arith, count) in s) ∙ here in omega arith)
        ]

    one_place : IsContiguous big
    one_place i j k ij jk kl q =
        elim (cases_lt k (length slots)) [
          | inl lt ↦ low j (omega arith) ∙ (c.one_place i j k ij jk lt (sym (low i (omega arith)) ∙ (q ∙ low k lt)) ∙ sym (low k lt))
          | inr ge ↦ absurd (
              let s : k ≡ length slots = omega (arith, count) in
              let a : (slot_at slots i).chain < b = c.labels i (omega arith) in
              let p : (slot_at slots i).chain ≡ b = sym (low i (omega arith)) ∙ (q ∙ (ap (λ z. (slot_at big z).chain) s ∙ here)) in
              omega arith)
        ]

chain_together : (v grains : ℕ) (s : Sheet) → SheetTogether s → SheetTogether (with_chain v grains s)
chain_together v grains s = pushed_together s.births s.slots _ refl

-- ---- a chain in two

module _ (slots : List Slot) (k : ℕ) (kl : k < length slots) (fresh : (j : ℕ) → j < length slots → (slot_at slots j).chain ≢ (slot_at slots k).birth) where
  Moves : ℕ → Type 0
  Moves j = (k ≤ j) × ((slot_at slots j).chain ≡ (slot_at slots k).chain) × ((slot_at (split_list slots k) j).chain ≡ (slot_at slots k).birth)

  Stays : ℕ → Type 0
  Stays j = ((k ≤ j) × ((slot_at slots j).chain ≢ (slot_at slots k).chain) ⊎ (j < k)) × ((slot_at (split_list slots k) j).chain ≡ (slot_at slots j).chain)

  split_together : IsContiguous slots → IsContiguous (split_list slots k)
  split_together c i j l ij jl ll e =
      let count : length (split_list slots k) ≡ length slots = split_count slots k in
      let il : i < length slots = omega arith in
      let jl' : j < length slots = omega arith in
      let ll' : l < length slots = omega arith in
      elim (split_chain slots k i kl il) [
        | inl a ↦ elim (split_chain slots k l kl ll') [
          | inl b ↦ elim (split_chain slots k j kl jl') [
            | inl d ↦ d.2 ∙ sym b.2
            | inr d ↦ absurd (elim d.0 [ inl x ↦ x.1 (c i j l ij jl ll' (a.1 ∙ sym b.1) ∙ b.1) | inr x ↦ omega (arith, a.0, x) ])
          ]
          | inr b ↦ absurd (fresh l ll' (sym b.1 ∙ (sym e ∙ a.2)))
        ]
        | inr a ↦ elim (split_chain slots k l kl ll') [
          | inl b ↦ absurd (fresh i il (sym a.1 ∙ (e ∙ b.2)))
          | inr b ↦ let one : (slot_at slots i).chain ≡ (slot_at slots l).chain = sym a.1 ∙ (e ∙ b.1) in
              let mid : (slot_at slots j).chain ≡ (slot_at slots l).chain = c i j l ij jl ll' one in
              elim (split_chain slots k j kl jl') [
                | inl d ↦ absurd (elim b.0 [ inl x ↦ x.1 (sym mid ∙ d.1) | inr x ↦ omega (arith, d.0, x) ])
                | inr d ↦ d.1 ∙ (mid ∙ sym b.1)
              ]
        ]
      ]

-- ---- the events

-- what holds of a sheet holds after what was done at a place of it, if there is one
at_place_kept : (P : Sheet → Type 0) (f : ℕ → Sheet → Sheet) (s : Sheet) (o : Option ℕ) → ((k : ℕ) → o ≡ Some k → P (f k s)) → P s → P (at_place f o s)
at_place_kept P f s None h t = t
at_place_kept P f s (Some k) h t = h k refl

-- and after a pair of a trigger, if a target's leave and its being put keep it
start_kept : (P : Sheet → Type 0) (s : Sheet) (p : Pair) → ((k : ℕ) → k < length s.slots → P s → P (left_place k s)) →
    ((held : List Bool) (k : ℕ) (u : Sheet) → k < length u.slots → P u → P (placed p.target.0 p.map.0 held k u)) → P s → P (started_empty s p)
start_kept P s p leaves puts t =
    let u : Sheet = at_place left_place (live_place s.slots p.target.0) s in
    let a : P u = at_place_kept P left_place s (live_place s.slots p.target.0) (λ k e. leaves k (live_place_at s.slots p.target.0 k e).there t) t in
    at_place_kept P (placed p.target.0 p.map.0 _) u (live_place u.slots p.source.0) (λ k e. puts _ k u (live_place_at u.slots p.source.0 k e).there a) a

place_together : (f : ℕ → Sheet → Sheet) (s : Sheet) (o : Option ℕ) → ((k : ℕ) → o ≡ Some k → SheetTogether (f k s)) → SheetTogether s → SheetTogether (at_place f o s)
place_together = at_place_kept SheetTogether

left_together : (k : ℕ) (s : Sheet) → k < length s.slots → SheetTogether s → SheetTogether (left_place k s)
left_together k s lt t =
    elim (cases_Bool (has_after s.slots k)) [
      | inl y ↦ (let e : left_place k s ≡ aged k s = rw y refl in subst (λ (z : Sheet). SheetTogether z) (sym e) (aged_together s k lt t))
      | inr n ↦ (let e : left_place k s ≡ without k s = rw n refl in subst (λ (z : Sheet). SheetTogether z) (sym e) (without_together s.births s.slots k lt t))
    ]

start_together : (s : Sheet) (p : Pair) → SheetTogether s → SheetTogether (started_empty s p)
start_together s p = start_kept SheetTogether s p (λ k. left_together k s) (placed_together p.target.0 p.map.0)

forced_together : (k : ℕ) (s : Sheet) → k < length s.slots → SheetTogether s → SheetTogether (forced_at k s)
forced_together k s lt t =
    elim (cases_Bool (slot_at s.slots k).is_live) [
      | inl y ↦ (let e : forced_at k s ≡ detached_at k s = rw y refl in subst (λ (z : Sheet). SheetTogether z) (sym e) (chain_together (slot_at s.slots k).volume (length (slot_at s.slots k).held) (without k s) (without_together s.births s.slots k lt t)))
      | inr n ↦ (let e : forced_at k s ≡ without k s = rw n refl in subst (λ (z : Sheet). SheetTogether z) (sym e) (without_together s.births s.slots k lt t))
    ]

force_together : (s : Sheet) (m : MapId) → SheetTogether s → SheetTogether (forced_map s m)
force_together s m t = place_together forced_at s (mapping_place s.slots m.0) (λ k e. forced_together k s (mapping_place_at s.slots m.0 k e).0 t) t

all_together : {A : Type 0} (f : Sheet → A → Sheet) → ((s : Sheet) (x : A) → SheetTogether s → SheetTogether (f s x)) → (xs : List A) (s : Sheet) → SheetTogether s → SheetTogether (fold f s xs)
all_together f h [] s t = t
all_together f h (x ∷ xs) s t = all_together f h xs (f s x) (h s x t)

abbrev Spread : Sheet → Type 0
Spread s = IsContiguous s.slots

-- a trigger leaves them together, whatever the labels are
left_spread : (k : ℕ) (s : Sheet) → k < length s.slots → Spread s → Spread (left_place k s)
left_spread k s lt c =
    elim (cases_Bool (has_after s.slots k)) [
      | inl y ↦ (let e : left_place k s ≡ aged k s = rw y refl in let a = aged_is s.slots k lt in
          subst (λ (z : Sheet). Spread z) (sym e) (contiguous_after (aged k s).slots s.slots (same_places (aged k s).slots s.slots a.count (λ j jl. a.chain j)) c))
      | inr n ↦ (let e : left_place k s ≡ without k s = rw n refl in
          subst (λ (z : Sheet). Spread z) (sym e) (contiguous_after (without k s).slots s.slots (small_follows s.slots (remove s.slots k) k (remove_is s.slots k lt)) c))
    ]

started_spread : (s : Sheet) (p : Pair) → Spread s → Spread (started_empty s p)
started_spread s p =
    start_kept Spread s p (λ k. left_spread k s) (λ held k u there. contiguous_after (placed p.target.0 p.map.0 held k u).slots u.slots (placed_follows p.target.0 p.map.0 held k u there))

pub triggered_together : (pairs : List Pair) (s : Sheet) → IsContiguous s.slots → IsContiguous (fold started_empty s pairs).slots
triggered_together [] s c = c
triggered_together (p ∷ ps) s c = triggered_together ps (started_empty s p) (started_spread s p c)

pub step_together : (local : ℕ → ℕ) (s : Sheet) (e : LaneEvent) → IsSound s → FitsEvent s e → Spread s → Spread (sheet_step local s e)
step_together local s e i f c = by_event local s e i f (record { labels = i.names.chains; one_place = c })
  where
    by_event : (local : ℕ → ℕ) (s : Sheet) (e : LaneEvent) → IsSound s → FitsEvent s e → SheetTogether s → Spread (sheet_step local s e)
    by_event local s (Make volume grains kind) i f t = (chain_together volume.0 (local grains) s t).one_place
    by_event local s (Remove volume) i f t =
        (place_together without s (live_place s.slots volume.0) (λ k e. without_together s.births s.slots k (live_place_at s.slots volume.0 k e).there t) t).one_place
    by_event local s (Trigger pairs) i f t = (all_together started_empty start_together pairs s t).one_place
    by_event local s (Retire m) i f t =
        (place_together retired_at s (mapping_place s.slots m.0)
        (λ k e. chain_together (slot_at s.slots k).volume (length (slot_at s.slots k).held) (aged k s) (aged_together s k (mapping_place_at s.slots m.0 k e).0 t)) t).one_place
    by_event local s (Detach m) i f t =
        (place_together detached_at s (mapping_place s.slots m.0)
        (λ k e. chain_together (slot_at s.slots k).volume (length (slot_at s.slots k).held) (without k s) (without_together s.births s.slots k (mapping_place_at s.slots m.0 k e).0 t)) t).one_place
    by_event local s (Split m) i f t = split_place s m.0 i t (mapping_place s.slots m.0) (λ k e. mapping_place_at s.slots m.0 k e)
      where
        split_place : (s : Sheet) (m : ℕ) → IsSound s → SheetTogether s → (o : Option ℕ) → ((k : ℕ) → o ≡ Some k → (k < length s.slots) × ((slot_at s.slots k).mapping ≡ Some m)) → Spread (at_place split_at o s)
        split_place s m i t None h = t.one_place
        split_place s m i t (Some k) h = let p = h k refl in split_together s.slots k p.0 (λ j jl. i.names.fresh k j m p.0 jl p.1) t.one_place
    by_event local s (Force m dependents) i f t = (all_together forced_map force_together dependents (forced_map s m) (force_together s m t)).one_place
    by_event local s (Drop slot) i f t =
        (place_together without s (birth_place s.slots slot.0) (λ k e. without_together s.births s.slots k (birth_place_at s.slots slot.0 k e).0 t) t).one_place
    by_event local s (Forget m) i f t = t.one_place
    by_event local s (NoteCut m source target) i f t = t.one_place
    by_event local s (Access volume access) i f t = t.one_place
    by_event local s (Work m copies cleans) i f t = t.one_place
    by_event local s (Arm volume grain calls) i f t = t.one_place

-- ---- moves and writes

pub map_together : (f : Slot → Slot) → Regrained f → (slots : List Slot) → IsContiguous slots → IsContiguous (map f slots)
map_together f g slots = contiguous_after (map f slots) slots (same_places (map f slots) slots (length_map f slots) (λ j jl. ap (λ (t : Slot). t.chain) (at_map f slots j g.none) ∙ g.chain (slot_at slots j)))
  where
    length_map : (f : Slot → Slot) (ts : List Slot) → length (map f ts) ≡ length ts
    length_map f [] = refl
    length_map f (t ∷ ts) = ap suc (length_map f ts)
