-- Chains of an image without those that begin with a volume's slot, where that slot stands alone.
use Rattle.std.proofs.Common.{◌≡◌, ◌≢◌, ℕ, suc, ◌<◌, ◌==◌, Bool, true, false, cond, not, List, [], ◌∷◌, length, map, All, Contains, inl, inr, refl, sym, ap, subst, ◌∙◌, arith}
use Rattle.std.specs.List.{filter, flat_map, remove}
use Rattle.std.proofs.lemmas.Bool.{eqb-true, eq-eqb, ne_eqb}
use Rattle.fc_base.specs.Sheet.{Slot, slot_at}
use Rattle.fc_base.specs.Tables.{Tables}
use Rattle.fc_base.specs.declared.ids.VolId.{VolId}
use Rattle.fc_bits.specs.Words.{IsTidy}
use Rattle.fc_decided.proofs.Lists.{all_from, first_in, in_cases, later_in, none_in}
use Rattle.fc_image.specs.declared.image.MetaChain.{MetaChain}
use Rattle.fc_image.specs.declared.image.MetaSlot.{MetaSlot}
use Rattle.fc_imaging.specs.Without.{begins_else, first_is_other}
use Rattle.fc_kept.specs.Images.{alone_told, before_chains, chains_told, size_in, slot_in, slot_told, slots_in}
use Rattle.fc_kept.specs.Sound.{HasTidySlots}
use Rattle.fc_kept.proofs.Said.{head_of, rest_of}
use Rattle.law_crash.proofs.Lost.{all_in_is}

-- ---- slots of other volumes

abbrev pub is_else : VolId → Slot → Bool
is_else gone s = not (s.volume == gone.0)

abbrev pub back : Tables → Slot → Slot
back t s = slot_in t s.chain (slot_told s)

-- No two neighbours of one chain are the volume's.
abbrev pub AreApart : VolId → List Slot → Type 0
AreApart gone slots =
    (i : ℕ) → suc i < length slots → (slot_at slots i).chain ≡ (slot_at slots (suc i)).chain → ((slot_at slots i).volume ≢ gone.0) × ((slot_at slots (suc i)).volume ≢ gone.0)

-- ---- the first chain is the first slot's

abbrev IsHead : VolId → Slot → List MetaChain → Type 0
IsHead gone s [] = ⊥
IsHead gone s (c ∷ cs) = (c.label ≡ s.chain) × (first_is_other gone c.slots ≡ is_else gone s)

head_before : (gone : VolId) (s : Slot) (chains : List MetaChain) → IsHead gone s (before_chains s chains)
head_before gone s [] = (refl, refl)
head_before gone s (c ∷ cs) = by (c.label == s.chain) refl
  where
    by : (b : Bool) → (c.label == s.chain) ≡ b → IsHead gone s (cond b (record c { slots = slot_told s ∷ c.slots } ∷ cs) (alone_told s ∷ c ∷ cs))
    by true e = (eqb-true c.label s.chain e, refl)
    by false e = (refl, refl)

-- Where a slot joins the first chain, neither is the volume's.
abbrev MayJoin : VolId → Slot → List MetaChain → Type 0
MayJoin gone s [] = Unit {0}
MayJoin gone s (c ∷ cs) = (c.label == s.chain) ≡ true → (is_else gone s ≡ true) × (first_is_other gone c.slots ≡ true)

else_by : (gone : VolId) (s : Slot) → s.volume ≢ gone.0 → is_else gone s ≡ true
else_by gone s ne = ap not (ne_eqb s.volume gone.0 ne)

may_join : (gone : VolId) (s : Slot) (ss : List Slot) → AreApart gone (s ∷ ss) → MayJoin gone s (chains_told ss)
may_join gone s [] apart = tt
may_join gone s (x ∷ xs) apart = by (chains_told (x ∷ xs)) (head_before gone x (chains_told xs))
  where
    by : (chains : List MetaChain) → IsHead gone x chains → MayJoin gone s chains
    by [] h = absurd h
    by (c ∷ cs) h = λ e.
        let same : s.chain ≡ x.chain = sym (eqb-true c.label s.chain e) ∙ h.0 in
        let p = apart 0 (omega arith) same in
        (else_by gone s p.0, h.1 ∙ else_by gone x p.1)

rest_apart : (gone : VolId) (s : Slot) (ss : List Slot) → AreApart gone (s ∷ ss) → AreApart gone ss
rest_apart gone s ss apart i il e = apart (suc i) (omega (arith, il)) e

-- ---- the slots that are left

abbrev left_chains : VolId → List MetaChain → List MetaChain
left_chains gone chains = filter (begins_else gone) chains

flat_step : (t : Tables) (gone : VolId) (s : Slot) (chains : List MetaChain) (xs : List Slot) → MayJoin gone s chains → flat_map (slots_in t) (left_chains gone chains) ≡ xs →
    flat_map (slots_in t) (left_chains gone (before_chains s chains)) ≡ cond (is_else gone s) (back t s ∷ xs) xs
flat_step t gone s [] xs join e = by (is_else gone s)
  where
    by : (b : Bool) → flat_map (slots_in t) (cond b (alone_told s ∷ []) []) ≡ cond b (back t s ∷ xs) xs
    by true = ap (λ (ys : List Slot). back t s ∷ ys) e
    by false = e
flat_step t gone s (c ∷ cs) xs join e = by (c.label == s.chain) refl
  where
    joined : MetaChain
    joined = record c { slots = slot_told s ∷ c.slots }

    rest : List MetaChain
    rest = left_chains gone cs

    alone : (b : Bool) → flat_map (slots_in t) (cond b (alone_told s ∷ left_chains gone (c ∷ cs)) (left_chains gone (c ∷ cs))) ≡ cond b (back t s ∷ xs) xs
    alone true = ap (λ (ys : List Slot). back t s ∷ ys) e
    alone false = e

    by : (b : Bool) → (c.label == s.chain) ≡ b → flat_map (slots_in t) (left_chains gone (cond b (joined ∷ cs) (alone_told s ∷ c ∷ cs))) ≡ cond (is_else gone s) (back t s ∷ xs) xs
    by true q =
        let j = join q in
        let label : c.label ≡ s.chain = eqb-true c.label s.chain q in
        let whole : flat_map (slots_in t) (c ∷ rest) ≡ xs = ap (λ (b : Bool). flat_map (slots_in t) (cond b (c ∷ rest) rest)) (sym j.1) ∙ e in
        ap (λ (b : Bool). flat_map (slots_in t) (cond b (joined ∷ rest) rest)) j.0
        ∙ (ap (λ (n : ℕ). slot_in t n (slot_told s) ∷ flat_map (slots_in t) (c ∷ rest)) label
        ∙ (ap (λ (ys : List Slot). back t s ∷ ys) whole ∙ ap (λ (b : Bool). cond b (back t s ∷ xs) xs) (sym j.0)))
    by false q = alone (is_else gone s)

pub flat_left : (t : Tables) (gone : VolId) (ss : List Slot) → AreApart gone ss → flat_map (slots_in t) (left_chains gone (chains_told ss)) ≡ map (back t) (filter (is_else gone) ss)
flat_left t gone [] apart = refl
flat_left t gone (s ∷ ss) apart =
    flat_step t gone s (chains_told ss) (map (back t) (filter (is_else gone) ss)) (may_join gone s ss apart) (flat_left t gone ss (rest_apart gone s ss apart)) ∙ by (is_else gone s)
  where
    by : (b : Bool) → cond b (back t s ∷ map (back t) (filter (is_else gone) ss)) (map (back t) (filter (is_else gone) ss)) ≡ map (back t) (cond b (s ∷ filter (is_else gone) ss) (filter (is_else gone) ss))
    by true = refl
    by false = refl

-- as by the chains of those alone
flat_before : (t : Tables) (s : Slot) (chains : List MetaChain) → flat_map (slots_in t) (before_chains s chains) ≡ back t s ∷ flat_map (slots_in t) chains
flat_before t s [] = refl
flat_before t s (c ∷ cs) = by (c.label == s.chain) refl
  where
    by : (b : Bool) → (c.label == s.chain) ≡ b → flat_map (slots_in t) (cond b (record c { slots = slot_told s ∷ c.slots } ∷ cs) (alone_told s ∷ c ∷ cs)) ≡ back t s ∷ flat_map (slots_in t) (c ∷ cs)
    by true e = ap (λ (n : ℕ). slot_in t n (slot_told s) ∷ flat_map (slots_in t) (c ∷ cs)) (eqb-true c.label s.chain e)
    by false e = refl

pub flat_told : (t : Tables) (ss : List Slot) → flat_map (slots_in t) (chains_told ss) ≡ map (back t) ss
flat_told t [] = refl
flat_told t (s ∷ ss) = flat_before t s (chains_told ss) ∙ ap (λ (ys : List Slot). back t s ∷ ys) (flat_told t ss)

-- ---- their words

abbrev pub AreTidy : Tables → List MetaChain → Type 0
AreTidy t chains = All (HasTidySlots t) chains

one_more : {X : Type 0} (P : X → Type 0) (x : X) (xs : List X) → P x → All P xs → All P (x ∷ xs)
one_more P x xs p ps = all_from P (x ∷ xs) (λ y c. elim (in_cases x y xs c) [
  | inl e ↦ subst P e p
  | inr later ↦ all_in_is P xs ps y later
])

no_more : {X : Type 0} (P : X → Type 0) → All P []
no_more P = all_from P [] (λ y c. absurd (none_in y c))

abbrev pub TidyHeld : Tables → MetaSlot → Type 0
TidyHeld t m = IsTidy (size_in t m.volume) m.held

tidy_step : (t : Tables) (gone : VolId) (s : Slot) (chains : List MetaChain) → MayJoin gone s chains → (is_else gone s ≡ true → TidyHeld t (slot_told s)) → AreTidy t (left_chains gone chains) →
    AreTidy t (left_chains gone (before_chains s chains))
tidy_step t gone s [] join tidy all = by (is_else gone s) refl
  where
    by : (b : Bool) → is_else gone s ≡ b → AreTidy t (cond b (alone_told s ∷ []) [])
    by true e = one_more (HasTidySlots t) (alone_told s) [] (one_more (TidyHeld t) (slot_told s) [] (tidy e) (no_more (TidyHeld t))) (no_more (HasTidySlots t))
    by false e = no_more (HasTidySlots t)
tidy_step t gone s (c ∷ cs) join tidy all = by (c.label == s.chain) refl
  where
    joined : MetaChain
    joined = record c { slots = slot_told s ∷ c.slots }

    rest : List MetaChain
    rest = left_chains gone cs

    alone : (b : Bool) → is_else gone s ≡ b → AreTidy t (cond b (alone_told s ∷ left_chains gone (c ∷ cs)) (left_chains gone (c ∷ cs)))
    alone true e = one_more (HasTidySlots t) (alone_told s) (left_chains gone (c ∷ cs)) (one_more (TidyHeld t) (slot_told s) [] (tidy e) (no_more (TidyHeld t))) all
    alone false e = all

    by : (b : Bool) → (c.label == s.chain) ≡ b → AreTidy t (left_chains gone (cond b (joined ∷ cs) (alone_told s ∷ c ∷ cs)))
    by true q =
        let j = join q in
        let whole : AreTidy t (c ∷ rest) = subst (λ (b : Bool). AreTidy t (cond b (c ∷ rest) rest)) j.1 all in
        subst (λ (b : Bool). AreTidy t (cond b (joined ∷ rest) rest)) (sym j.0)
        (one_more (HasTidySlots t) joined rest (one_more (TidyHeld t) (slot_told s) c.slots (tidy j.0) (head_of (HasTidySlots t) c rest whole)) (rest_of (HasTidySlots t) c rest whole))
    by false q = alone (is_else gone s) refl

pub tidy_left : (t : Tables) (gone : VolId) (ss : List Slot) → AreApart gone ss → ((s : Slot) → Contains ss s → is_else gone s ≡ true → TidyHeld t (slot_told s)) → AreTidy t (left_chains gone (chains_told ss))
tidy_left t gone [] apart tidy = no_more (HasTidySlots t)
tidy_left t gone (s ∷ ss) apart tidy =
    tidy_step t gone s (chains_told ss) (may_join gone s ss apart) (tidy s (first_in s ss)) (tidy_left t gone ss (rest_apart gone s ss apart) (λ x c. tidy x (later_in s x ss c)))

-- those of a slot among chains
before_in : (t : Tables) (s : Slot) (chains : List MetaChain) → AreTidy t (before_chains s chains) → TidyHeld t (slot_told s) × AreTidy t chains
before_in t s [] all = (head_of (TidyHeld t) (slot_told s) [] (head_of (HasTidySlots t) (alone_told s) [] all), no_more (HasTidySlots t))
before_in t s (c ∷ cs) all = by (c.label == s.chain) all
  where
    joined : MetaChain
    joined = record c { slots = slot_told s ∷ c.slots }

    by : (b : Bool) → AreTidy t (cond b (joined ∷ cs) (alone_told s ∷ c ∷ cs)) → TidyHeld t (slot_told s) × AreTidy t (c ∷ cs)
    by true a =
        let first = head_of (HasTidySlots t) joined cs a in
        (head_of (TidyHeld t) (slot_told s) c.slots first, one_more (HasTidySlots t) c cs (rest_of (TidyHeld t) (slot_told s) c.slots first) (rest_of (HasTidySlots t) joined cs a))
    by false a = (head_of (TidyHeld t) (slot_told s) [] (head_of (HasTidySlots t) (alone_told s) (c ∷ cs) a), rest_of (HasTidySlots t) (alone_told s) (c ∷ cs) a)

pub tidy_slot : (t : Tables) (ss : List Slot) → AreTidy t (chains_told ss) → (s : Slot) → Contains ss s → TidyHeld t (slot_told s)
tidy_slot t [] all s c = absurd (none_in s c)
tidy_slot t (x ∷ xs) all s c =
    let b = before_in t x (chains_told xs) all in
    elim (in_cases x s xs c) [
      | inl e ↦ subst (λ (y : Slot). TidyHeld t (slot_told y)) e b.0
      | inr later ↦ tidy_slot t xs b.1 s later
    ]

-- ---- one slot is taken out

all_else : (gone : VolId) (ss : List Slot) → ((i : ℕ) → i < length ss → (slot_at ss i).volume ≢ gone.0) → filter (is_else gone) ss ≡ ss
all_else gone [] none = refl
all_else gone (s ∷ ss) none =
    ap (λ (b : Bool). cond b (s ∷ filter (is_else gone) ss) (filter (is_else gone) ss)) (else_by gone s (none 0 (omega arith)))
    ∙ ap (λ (ys : List Slot). s ∷ ys) (all_else gone ss (λ i il. none (suc i) (omega (arith, il))))

pub taken_out : (gone : VolId) (ss : List Slot) (k : ℕ) → k < length ss → (slot_at ss k).volume ≡ gone.0 → ((j : ℕ) → j < length ss → (slot_at ss j).volume ≡ gone.0 → j ≡ k) → filter (is_else gone) ss ≡ remove ss k
taken_out gone [] k kl is one = absurd (omega (arith, kl))
taken_out gone (s ∷ ss) ℕ.zero kl is one =
    ap (λ (b : Bool). cond (not b) (s ∷ filter (is_else gone) ss) (filter (is_else gone) ss)) (eq-eqb s.volume gone.0 is)
    ∙ all_else gone ss (λ i il e. let z : suc i ≡ 0 = one (suc i) (omega (arith, il)) e in absurd (omega (arith, z)))
taken_out gone (s ∷ ss) (ℕ.suc k) kl is one =
    ap (λ (b : Bool). cond b (s ∷ filter (is_else gone) ss) (filter (is_else gone) ss))
    (else_by gone s (λ e. let z : 0 ≡ suc k = one 0 (omega arith) e in absurd (omega (arith, z))))
    ∙ ap (λ (ys : List Slot). s ∷ ys) (taken_out gone ss k (omega (arith, kl)) is (λ j jl e. let z : suc j ≡ suc k = one (suc j) (omega (arith, jl)) e in omega (arith, z)))
