-- Which mappings still have a slot, as slots leave.
use Rattle.std.proofs.Common.{◌≡◌, ◌∙◌, sym, ap, subst, ℕ, ◌<◌, Bool, true, false, cond, ◌||◌, ◌==◌, Option, Some, None, List, [], ◌∷◌, ◌++◌, length, remove, fold, inl, inr, refl, arith}
use Rattle.std.specs.List.{list_any}
use Rattle.std.proofs.lemmas.Bool.{eqb-true, eq-eqb, or_left}
use Rattle.fc_base.specs.Sheet.{Slot, Sheet, slot_at, mapping_place}
use Rattle.fc_base.specs.SheetFacts.{HasMappings}
use Rattle.fc_base.specs.SheetStep.{at_place, without, detached_at, forced_at, forced_map}
use Rattle.fc_base.specs.declared.ids.MapId.{MapId}
use Rattle.fc_sheets.proofs.Aging.{alone, mappings_alone}
use Rattle.fc_sheets.proofs.Finding.{mapping_place_at, mapping_place_none}
use Rattle.fc_sheets.proofs.Places.{Removed, up, up_in, up_apart, down, removed_at, remove_is, push_is, push_here}
use Rattle.fc_sheets.proofs.Removing.{mappings_small}
use Rattle.fc_stops.proofs.StopReads.{Reads, Quiet, reads_small, reads_big, reads_push, push_reads}

-- The mapping has a slot of which this holds.
pub record Has (P : Slot → Type 0) (slots : List Slot) (n : ℕ) : Type 0 where
  pub place : ℕ
  pub there : place < length slots
  pub named : (slot_at slots place).mapping ≡ Some n
  pub is : P (slot_at slots place)

abbrev pub Any : Slot → Type 0
Any t = Unit {0}

abbrev pub Live : Slot → Type 0
Live t = t.is_live ≡ true

pub has_small : (P : Slot → Type 0) (big small : List Slot) (p n : ℕ) → Removed big small p → ((slot_at big p).mapping ≡ Some n → ⊥) → Has P big n → Has P small n
has_small P big small p n r other x =
    elim (down big small p r x.place x.there) [
      | inl same ↦ absurd (other (let Q : ℕ → Type 0 = λ z. (slot_at big z).mapping ≡ Some n in subst Q same x.named))
      | inr i ↦
          let e : slot_at small i.0 ≡ slot_at big x.place = removed_at big small p r i.0 ∙ ap (slot_at big) i.2 in
          record { place = i.0; there = i.1; named = ap (λ (t : Slot). t.mapping) e ∙ x.named; is = subst P (sym e) x.is }
    ]

pub has_big : (P : Slot → Type 0) (big small : List Slot) (p n : ℕ) → Removed big small p → Has P small n → Has P big n
has_big P big small p n r x =
    let e = removed_at big small p r x.place in
    record { place = up p x.place; there = up_in big small p r x.place x.there; named = ap (λ (t : Slot). t.mapping) (sym e) ∙ x.named; is = subst P e x.is }

last_none : (slots : List Slot) (t : Slot) (n : ℕ) → t.mapping ≡ None → (slot_at (slots ++ t ∷ []) (length slots)).mapping ≡ Some n → ⊥
last_none slots t n none e =
    let bad : None ≡ Some n = sym none ∙ (ap (λ (s : Slot). s.mapping) (sym (push_here slots t)) ∙ e) in
    grind (arith, bad)

pub has_push : (P : Slot → Type 0) (slots : List Slot) (t : Slot) (n : ℕ) → Has P slots n → Has P (slots ++ t ∷ []) n
has_push P slots t n x = has_big P (slots ++ t ∷ []) slots (length slots) n (push_is slots t) x

pub push_has : (P : Slot → Type 0) (slots : List Slot) (t : Slot) (n : ℕ) → t.mapping ≡ None → Has P (slots ++ t ∷ []) n → Has P slots n
push_has P slots t n none x = has_small P (slots ++ t ∷ []) slots (length slots) n (push_is slots t) (last_none slots t n none) x

-- the one slot of a mapping is gone once it is taken out
pub has_none : (slots : List Slot) (p n : ℕ) → HasMappings slots → p < length slots → (slot_at slots p).mapping ≡ Some n → Has Any (remove slots p) n → ⊥
has_none slots p n maps lt named x =
    let r = remove_is slots p lt in
    let same : up p x.place ≡ p = maps.one_slot (up p x.place) p n (up_in slots (remove slots p) p r x.place x.there) lt (ap (λ (t : Slot). t.mapping) (sym (removed_at slots (remove slots p) p r x.place)) ∙ x.named) named in
    up_apart p x.place same

-- ---- what stays of a sheet from which some mappings left

pub record Stays (out : ℕ → Bool) (old new : List Slot) : Type 0 where
  pub reads : (m n : ℕ) → out m ≡ false → out n ≡ false → Reads old m n → Reads new m n
  pub back : (m n : ℕ) → out m ≡ false → out n ≡ false → Reads new m n → Reads old m n
  pub has : (n : ℕ) → out n ≡ false → Has Any old n → Has Any new n
  pub live : (n : ℕ) → out n ≡ false → Has Live old n → Has Live new n
  pub had : (n : ℕ) → Has Any new n → Has Any old n

pub stays_same : (out : ℕ → Bool) (slots : List Slot) → Stays out slots slots
stays_same out slots = record { reads = λ m n p q x. x; back = λ m n p q x. x; has = λ n p x. x; live = λ n p x. x; had = λ n x. x }

pub stays_then : (out : ℕ → Bool) (a b c : List Slot) → Stays out a b → Stays out b c → Stays out a c
stays_then out a b c x y =
    record {
      reads = λ m n p q r. y.reads m n p q (x.reads m n p q r);
      back = λ m n p q r. x.back m n p q (y.back m n p q r);
      has = λ n p h. y.has n p (x.has n p h);
      live = λ n p h. y.live n p (x.live n p h);
      had = λ n h. x.had n (y.had n h);
    }

pub stays_more : (out more : ℕ → Bool) (a b : List Slot) → ((n : ℕ) → more n ≡ false → out n ≡ false) → Stays out a b → Stays more a b
stays_more out more a b less x =
    record {
      reads = λ m n p q r. x.reads m n (less m p) (less n q) r;
      back = λ m n p q r. x.back m n (less m p) (less n q) r;
      has = λ n p h. x.has n (less n p) h;
      live = λ n p h. x.live n (less n p) h;
      had = x.had;
    }

pub stays_push : (out : ℕ → Bool) (slots : List Slot) (t : Slot) → t.mapping ≡ None → Stays out slots (slots ++ t ∷ [])
stays_push out slots t none =
    record {
      reads = λ m n p q x. reads_push slots t m n none x;
      back = λ m n p q x. push_reads slots t m n none x;
      has = λ n p x. has_push Any slots t n x;
      live = λ n p x. has_push Live slots t n x;
      had = λ n x. push_has Any slots t n none x;
    }

-- the slot of a mapping that is out is taken out, and nobody who isn't out reads from it
apart_from : (out : ℕ → Bool) (o : Option ℕ) (y n : ℕ) → o ≡ Some y → out y ≡ true → out n ≡ false → o ≡ Some n → ⊥
apart_from out o y n is is_out isn't e =
    let both : Some y ≡ Some n = sym is ∙ e in
    let same : y ≡ n = grind (arith, both) in
    let bad : true ≡ false = sym is_out ∙ (ap out same ∙ isn't) in
    grind (arith, bad)

pub stays_removed : (out : ℕ → Bool) (slots : List Slot) (p y : ℕ) → p < length slots → (slot_at slots p).mapping ≡ Some y → out y ≡ true → ((n : ℕ) → out n ≡ false → Quiet slots p n) → Stays out slots (remove slots p)
stays_removed out slots p y lt named is_out quiet =
    let r = remove_is slots p lt in
    record {
      reads = λ m n im in' x. reads_small slots (remove slots p) p m n r (apart_from out (slot_at slots p).mapping y m named is_out im) (apart_from out (slot_at slots p).mapping y n named is_out in') x;
      back = λ m n im in' x. reads_big slots (remove slots p) p m n r (quiet n in') x;
      has = λ n in' x. has_small Any slots (remove slots p) p n r (apart_from out (slot_at slots p).mapping y n named is_out in') x;
      live = λ n in' x. has_small Live slots (remove slots p) p n r (apart_from out (slot_at slots p).mapping y n named is_out in') x;
      had = λ n x. has_big Any slots (remove slots p) p n r x;
    }

-- ---- by force

-- whoever reads from one that is out is out
abbrev pub ClosedOut : (ℕ → Bool) → List Slot → Type 0
ClosedOut out slots = (e n : ℕ) → Reads slots e n → out e ≡ true → out n ≡ true

pub quiet_out : (out : ℕ → Bool) (slots : List Slot) (p y : ℕ) → p < length slots → (slot_at slots p).mapping ≡ Some y → out y ≡ true → ClosedOut out slots → (n : ℕ) → out n ≡ false → Quiet slots p n
quiet_out out slots p y lt named is_out closed n in' g j jl live reader h =
    let reads : Reads slots y n = record { from = p; reader = j; grain = g; there = jl; from_is = named; reader_is = reader; live = live; holds = h } in
    let bad : true ≡ false = sym (closed y n reads is_out) ∙ in' in
    grind (arith, bad)

closed_by : (out : ℕ → Bool) (old new : List Slot) (e n : ℕ) (b : Bool) → out n ≡ b → (out n ≡ false → Reads new e n → Reads old e n) → ClosedOut out old → Reads new e n → out e ≡ true → out n ≡ true
closed_by out old new e n true is back closed x is_out = is
closed_by out old new e n false is back closed x is_out = closed e n (back is x) is_out

pub record Forced (out : ℕ → Bool) (old new : List Slot) : Type 0 where
  pub stays : Stays out old new
  pub mappings : HasMappings new
  pub closed : ClosedOut out new

removed_forced : (out : ℕ → Bool) (slots : List Slot) (p y : ℕ) → p < length slots → (slot_at slots p).mapping ≡ Some y → out y ≡ true → HasMappings slots → ClosedOut out slots → Forced out slots (remove slots p)
removed_forced out slots p y lt named is_out maps closed =
    let r = remove_is slots p lt in
    let quiet = quiet_out out slots p y lt named is_out closed in
    record {
      stays = stays_removed out slots p y lt named is_out quiet;
      mappings = mappings_small slots (remove slots p) p r maps;
      closed = λ e n x is. closed_by out slots (remove slots p) e n (out n) refl (λ in' z. reads_big slots (remove slots p) p e n r (quiet n in') z) closed x is;
    }

alone_forced : (out : ℕ → Bool) (old slots : List Slot) (births v grains : ℕ) → Forced out old slots → Forced out old (slots ++ alone births v grains ∷ [])
alone_forced out old slots births v grains f =
    record {
      stays = stays_then out old slots (slots ++ alone births v grains ∷ []) f.stays (stays_push out slots (alone births v grains) refl);
      mappings = mappings_alone births slots v grains f.mappings;
      closed = λ e n x is. f.closed e n (push_reads slots (alone births v grains) e n refl x) is;
    }

forced_by : (out : ℕ → Bool) (s : Sheet) (p y : ℕ) (b : Bool) → Forced out s.slots (remove s.slots p) → Forced out s.slots (cond b (detached_at p s) (without p s)).slots
forced_by out s p y true f = alone_forced out s.slots (remove s.slots p) s.births (slot_at s.slots p).volume (length (slot_at s.slots p).held) f
forced_by out s p y false f = f

none_by : (s : Sheet) (p y : ℕ) (b : Bool) → (Has Any (remove s.slots p) y → ⊥) → Has Any (cond b (detached_at p s) (without p s)).slots y → ⊥
none_by s p y true none x = none (push_has Any (remove s.slots p) _ y refl x)
none_by s p y false none x = none x

abbrev Both : (ℕ → Bool) → Sheet → ℕ → Sheet → Type 0
Both out s y t = Forced out s.slots t.slots × (Has Any t.slots y → ⊥)

at_forced : (out : ℕ → Bool) (s : Sheet) (y : ℕ) (o : Option ℕ) → mapping_place s.slots y ≡ o → out y ≡ true → HasMappings s.slots → ClosedOut out s.slots → Both out s y (at_place forced_at o s)
at_forced out s y None is is_out maps closed =
    (record { stays = stays_same out s.slots; mappings = maps; closed = closed }, λ x. mapping_place_none s.slots y is x.place x.there x.named)
at_forced out s y (Some p) is is_out maps closed =
    let at = mapping_place_at s.slots y p is in (
      forced_by out s p y (slot_at s.slots p).is_live (removed_forced out s.slots p y at.0 at.1 is_out maps closed),
      none_by s p y (slot_at s.slots p).is_live (has_none s.slots p y maps at.0 at.1),
    )

first_or_rest : (y n : ℕ) (b rest : Bool) (P : Type 0) → (y == n) ≡ b → ((y ≡ n) → P) → (rest ≡ true → P) → (b || rest) ≡ true → P
first_or_rest y n true rest P is first later e = first (eqb-true y n is)
first_or_rest y n false rest P is first later e = later e

-- All of these mappings are taken out, and no slot of them stays.
pub all_forced : (out : ℕ → Bool) (s : Sheet) (ys : List MapId) → ((n : ℕ) → list_any (λ (y : MapId). y.0 == n) ys ≡ true → out n ≡ true) → HasMappings s.slots → ClosedOut out s.slots →
    Forced out s.slots (fold forced_map s ys).slots × ((n : ℕ) → list_any (λ (y : MapId). y.0 == n) ys ≡ true → Has Any (fold forced_map s ys).slots n → ⊥)
all_forced out s [] are maps closed = (record { stays = stays_same out s.slots; mappings = maps; closed = closed }, λ n e x. grind (arith, e))
all_forced out s (y ∷ ys) are maps closed =
    let one = at_forced out s y.0 (mapping_place s.slots y.0) refl (are y.0 (or_left (y.0 == y.0) (list_any (λ (z : MapId). z.0 == y.0) ys) (eq-eqb y.0 y.0 refl))) maps closed in
    let rest = all_forced out (forced_map s y) ys (λ n e. are n (later (y.0 == n) (list_any (λ (z : MapId). z.0 == n) ys) e)) one.0.mappings one.0.closed in (
      record { stays = stays_then out s.slots (forced_map s y).slots (fold forced_map (forced_map s y) ys).slots one.0.stays rest.0.stays; mappings = rest.0.mappings; closed = rest.0.closed },
      λ n e x. first_or_rest y.0 n (y.0 == n) (list_any (λ (z : MapId). z.0 == n) ys) ⊥ refl
          (λ same. one.1 (let P : ℕ → Type 0 = λ z. Has Any (forced_map s y).slots z in subst P (sym same) (rest.0.stays.had n x)))
          (λ there. rest.1 n there x) e,
    )
  where
    later : (a b : Bool) → b ≡ true → (a || b) ≡ true
    later true b e = refl
    later false b e = e
