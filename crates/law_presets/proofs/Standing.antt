-- The tables while a preset's line goes on: what it made stands behind all that was there.
use Rattle.std.proofs.Common.{◌≡◌, ◌≢◌, ℕ, ◌<◌, Bool, false, not, ◌||◌, cond, List, [], ◌∷◌, ◌++◌, Some, IsSome, find, filter, refl, sym, ap, subst, ◌∙◌, arith, Contains, inl, inr}
use Rattle.std.specs.Prelude.{◌==◌}
use Rattle.std.specs.List.{list_any}
use Rattle.std.proofs.lemmas.Bool.{eq-eqb, eqb-true, ne_eqb}
use Rattle.std.proofs.lemmas.List.Elements.{All-contains, Contains-push, Contains-push_cases}
use Rattle.fc_base.specs.Sheet.{slot_at}
use Rattle.fc_base.specs.Tables.{Tables, volume_with}
use Rattle.fc_base.specs.declared.ids.VolId.{VolId}
use Rattle.fc_base.specs.declared.state.MapState.TheVariants.{IdleOrCopied}
use Rattle.fc_base.specs.declared.volume.Mapping.{Mapping}
use Rattle.fc_base.specs.declared.volume.Volume.{Volume}
use Rattle.fc_books.specs.Books.{Books}
use Rattle.fc_books.specs.Deciding.{after_decision, settle}
use Rattle.fc_books.specs.Sound.{AreSound}
use Rattle.fc_decided.proofs.Agreeing.{volume_from}
use Rattle.fc_decided.proofs.Lists.{find_one, first_in, later_in}
use Rattle.fc_decided.proofs.Setting.{AreOrdered}
use Rattle.law_presets.proofs.Alone.{Alone, alone_after, loose_settling}
use Rattle.law_presets.proofs.Lefts.{IsFrom, LastStays, last_stays, left_from, left_then}
use Rattle.law_presets.proofs.Settles.{IsApart, SettlesTo, settles_to}
use Rattle.law_presets.specs.Left.{AreLeft, IsAsBefore, may_finish}

-- ---- one at the end of a list, by its id

pub last_found : {X : Type 0} (id_of : X → ℕ) (n : ℕ) (xs : List X) (y : X) → n ≡ id_of y → ((x : X) → Contains xs x → id_of x ≢ n) →
    find (λ (x : X). n == id_of x) (xs ++ y ∷ []) ≡ Some y
last_found {X} id_of n xs y is others =
    find_one (λ (x : X). n == id_of x) (xs ++ y ∷ []) y (Contains-push xs y) (eq-eqb n (id_of y) is)
    (λ x found e. elim (Contains-push_cases xs y x found) [
      | inl there ↦ absurd (others x there (sym (eqb-true n (id_of x) e)))
      | inr same ↦ sym same
    ])

pub last_removed : {X : Type 0} (id_of : X → ℕ) (n : ℕ) (xs : List X) (y : X) → n ≡ id_of y → ((x : X) → Contains xs x → id_of x ≢ n) →
    filter (λ (x : X). not (n == id_of x)) (xs ++ y ∷ []) ≡ xs
last_removed {X} id_of n [] y is others = ap (λ (b : Bool). cond (not b) (y ∷ []) []) (eq-eqb n (id_of y) is)
last_removed {X} id_of n (x ∷ xs) y is others =
    let rest : List X = filter (λ (z : X). not (n == id_of z)) (xs ++ y ∷ []) in
    ap (λ (b : Bool). cond (not b) (x ∷ rest) rest) (ne_eqb n (id_of x) (λ e. others x (first_in x xs) (sym e)))
    ∙ ap (λ (zs : List X). x ∷ zs) (last_removed id_of n xs y is (λ z found. others z (later_in x z xs found)))

pub any_none : {X : Type 0} (p : X → Bool) (xs : List X) → ((x : X) → Contains xs x → p x ≡ false) → list_any p xs ≡ false
any_none p [] none = refl
any_none p (x ∷ xs) none =
    ap (λ (b : Bool). b || list_any p xs) (none x (first_in x xs)) ∙ any_none p xs (λ y found. none y (later_in x y xs found))

-- ---- ids that were never given

pub named_below : (b : Books) → AreSound b → (id : VolId) → IsSome (volume_with b.tables id) → id.0 < b.next_volume
named_below b sound id some =
    let f = volume_from b.tables id some in
    let below : f.0.id.0 < b.next_volume = All-contains (λ (v : Volume). v.id.0 < b.next_volume) b.tables.volumes f.0 sound.tables.new_volume f.1 in
    let is : id.0 ≡ f.0.id.0 = f.2 in
    omega (arith, below, is)

-- The volume that comes next has no slot yet.
pub next_alone : (b : Books) → AreSound b → Alone b.next_volume b.sheet
next_alone b sound =
    record {
      below = sound.sheet.names.chains;
      alone = λ j k jl kl volume chain.
          let below : (slot_at b.sheet.slots k).volume < b.next_volume = named_below b sound (record { 0 = (slot_at b.sheet.slots k).volume }) (sound.agree.slots k kl) in
          absurd (omega (arith, below, volume));
    }

-- ---- what stands

-- No mapping is from or to the volume with this id.
abbrev pub AreOfOthers : ℕ → List Mapping → Type 0
AreOfOthers id ms = (m : Mapping) → Contains ms m → (m.source.0 ≢ id) × (m.target.0 ≢ id)

-- A volume was made, with this id.
pub record HasVolume (before : Tables) (id : ℕ) (now : Tables) : Type 0 where
  pub volume : Volume
  pub id_is : id ≡ volume.id.0
  pub fresh : (v : Volume) → Contains before.volumes v → v.id.0 ≢ id
  pub volumes : now.volumes ≡ before.volumes ++ volume ∷ []
  pub groups : now.groups ≡ before.groups
  pub mappings : AreLeft before.mappings now.mappings
  pub of_others : AreOfOthers id now.mappings

-- And so was a mapping, with this id, which is idle.
pub record HasBoth (before : Tables) (id n : ℕ) (now : Tables) : Type 0 where
  pub volume : Volume
  pub id_is : id ≡ volume.id.0
  pub fresh : (v : Volume) → Contains before.volumes v → v.id.0 ≢ id
  pub volumes : now.volumes ≡ before.volumes ++ volume ∷ []
  pub groups : now.groups ≡ before.groups
  pub rest : List Mapping
  pub mapping : Mapping
  pub map_is : n ≡ mapping.id.0
  pub idle : mapping.state ≡ IdleOrCopied
  pub mappings_are : now.mappings ≡ rest ++ mapping ∷ []
  pub mappings : AreLeft before.mappings rest
  pub apart : IsApart n rest
  pub of_others : AreOfOthers id rest

-- Nothing is copied from the volume.
abbrev pub VolumeIn : Tables → ℕ → Books → Type 0
VolumeIn before id b = HasVolume before id b.tables × Alone id b.sheet

abbrev pub BothIn : Tables → ℕ → ℕ → Books → Type 0
BothIn before id n b = HasBoth before id n b.tables × Alone id b.sheet

-- ---- behind a settling

others_left : (id : ℕ) (old new : List Mapping) → AreLeft old new → AreOfOthers id old → AreOfOthers id new
others_left id old new left others x found =
    let f : IsFrom old x = left_from old new x left found in
    let apart = others f.m f.there in
    ((λ e. apart.0 (f.source ∙ e)), (λ e. apart.1 (f.target ∙ e)))

apart_left : (n : ℕ) (old new : List Mapping) → AreLeft old new → IsApart n old → IsApart n new
apart_left n old new left apart x found e =
    let f : IsFrom old x = left_from old new x left found in
    apart f.m f.there (f.id ∙ e)

before_settled : (before old new : Tables) → SettlesTo old new → IsAsBefore before old → IsAsBefore before new
before_settled before old new to h =
    subst (IsAsBefore before) (sym to.is) (record {
      volumes = h.volumes;
      groups = h.groups;
      mappings = left_then before.mappings old.mappings to.mappings h.mappings to.left;
    })

volume_settled : (before : Tables) (id : ℕ) (old new : Tables) → SettlesTo old new → HasVolume before id old → HasVolume before id new
volume_settled before id old new to h =
    subst (HasVolume before id) (sym to.is) (record {
      volume = h.volume;
      id_is = h.id_is;
      fresh = h.fresh;
      volumes = h.volumes;
      groups = h.groups;
      mappings = left_then before.mappings old.mappings to.mappings h.mappings to.left;
      of_others = others_left id old.mappings to.mappings to.left h.of_others;
    })

both_settled : (before : Tables) (id n : ℕ) (old new : Tables) → SettlesTo old new → HasBoth before id n old → HasBoth before id n new
both_settled before id n old new to h =
    let last : LastStays h.rest h.mapping to.mappings =
    last_stays h.rest h.mapping to.mappings (ap may_finish h.idle) (subst (λ (ms : List Mapping). AreLeft ms to.mappings) h.mappings_are to.left) in
    subst (HasBoth before id n) (sym to.is) (record {
      volume = h.volume;
      id_is = h.id_is;
      fresh = h.fresh;
      volumes = h.volumes;
      groups = h.groups;
      rest = last.rest;
      mapping = h.mapping;
      map_is = h.map_is;
      idle = h.idle;
      mappings_are = last.is;
      mappings = left_then before.mappings h.rest last.rest h.mappings last.left;
      apart = apart_left n h.rest last.rest last.left h.apart;
      of_others = others_left id h.rest last.rest last.left h.of_others;
    })

module _ (before : Tables) (sets : ℕ → List Bool) (b : Books) (ordered : AreOrdered b.tables.mappings) where
  pub before_then : IsAsBefore before b.tables → IsAsBefore before (after_decision sets b (settle b)).tables
  before_then h = before_settled before b.tables (after_decision sets b (settle b)).tables (settles_to sets b ordered) h

  settled_alone : (id : ℕ) → Alone id b.sheet → Alone id (after_decision sets b (settle b)).sheet
  settled_alone id a = alone_after id sets b (settle b).events (settle b).changes (loose_settling b) a

  pub volume_then : (id : ℕ) → VolumeIn before id b → VolumeIn before id (after_decision sets b (settle b))
  volume_then id h = (volume_settled before id b.tables (after_decision sets b (settle b)).tables (settles_to sets b ordered) h.0, settled_alone id h.1)

  pub both_then : (id n : ℕ) → BothIn before id n b → BothIn before id n (after_decision sets b (settle b))
  both_then id n h = (both_settled before id n b.tables (after_decision sets b (settle b)).tables (settles_to sets b ordered) h.0, settled_alone id h.1)
