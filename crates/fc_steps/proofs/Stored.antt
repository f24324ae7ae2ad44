-- What is stored after one volume changed.
use Rattle.std.proofs.Common.{◌≡◌, ◌≢◌, ℕ, ◌<◌, true, false, cond, eqb, List, [], ◌∷◌, length, set, refl, sym, ap, subst, ◌∙◌, inl, inr, length-set, get_or-set_same, get_or-set_other}
use Rattle.std.proofs.lemmas.Bool.{cases_Bool, cases_eq, eq-eqb, ne_eqb}
use Rattle.fc_base.specs.Sheet.{Slot, slot_at}
use Rattle.fc_entry.specs.Picture.{Content, content_at}
use Rattle.fc_grains.specs.Volumes.{VolumeGrains, is_there, volume_of, stored, changed}
use Rattle.fc_pictures.specs.Law.{StoredAt}
use Rattle.fc_steps.specs.Standing.{HasGrains}

-- a change that leaves the volume's id
abbrev pub KeepsId : (VolumeGrains → VolumeGrains) → Type 0
KeepsId f = (v : VolumeGrains) → (f v).volume ≡ v.volume

pub changed_here : (f : VolumeGrains → VolumeGrains) → KeepsId f → (vs : List VolumeGrains) (id : ℕ) → is_there vs id ≡ true → volume_of (changed id f vs) id ≡ f (volume_of vs id)
changed_here f keeps [] id t = absurd cc
changed_here f keeps (v ∷ vs) id t =
    elim (cases_Bool (eqb v.volume.0 id)) [
      | inl hit ↦
          let same : eqb (f v).volume.0 id ≡ true = ap (λ z. eqb z.0 id) (keeps v) ∙ hit in
          rw hit (rw same refl)
      | inr miss ↦
          let rest : is_there vs id ≡ true = rw miss at t in
          rw miss (rw miss (changed_here f keeps vs id rest))
    ]

pub changed_other : (f : VolumeGrains → VolumeGrains) → KeepsId f → (vs : List VolumeGrains) (id x : ℕ) → x ≢ id → volume_of (changed id f vs) x ≡ volume_of vs x
changed_other f keeps [] id x ne = refl
changed_other f keeps (v ∷ vs) id x ne =
    elim (cases_eq v.volume.0 id) [
      | inl e ↦
          let hit : eqb v.volume.0 id ≡ true = eq-eqb _ _ e in
          let skip : eqb v.volume.0 x ≡ false = ne_eqb _ _ (λ q. ne (sym q ∙ e)) in
          let skip_new : eqb (f v).volume.0 x ≡ false = ap (λ z. eqb z.0 x) (keeps v) ∙ skip in
          rw hit (rw skip_new (rw skip (changed_other f keeps vs id x ne)))
      | inr n ↦
          let miss : eqb v.volume.0 id ≡ false = ne_eqb _ _ n in
          rw miss (ap (λ (z : VolumeGrains). cond (eqb v.volume.0 x) v z) (changed_other f keeps vs id x ne))
    ]

-- ---- what is stored

-- a change that leaves what the grains hold
abbrev pub KeepsContents : (VolumeGrains → VolumeGrains) → Type 0
KeepsContents f = (v : VolumeGrains) → (f v).contents ≡ v.contents

-- a change of one grain
abbrev pub Holds : (VolumeGrains → VolumeGrains) → ℕ → Content → Type 0
Holds f g content = (v : VolumeGrains) → (f v).contents ≡ set v.contents g content

pub stored_stays : (f : VolumeGrains → VolumeGrains) → KeepsId f → KeepsContents f → (vs : List VolumeGrains) (id : ℕ) → is_there vs id ≡ true → (w y : ℕ) → stored (changed id f vs) w y ≡ stored vs w y
stored_stays f keeps same vs id t w y =
    elim (cases_eq w id) [
      | inl e ↦
          subst (λ (z : ℕ). stored (changed id f vs) z y ≡ stored vs z y) (sym e)
          (ap (λ (v : VolumeGrains). content_at v.contents y) (changed_here f keeps vs id t) ∙ ap (λ (c : List Content). content_at c y) (same (volume_of vs id)))
      | inr n ↦ ap (λ (v : VolumeGrains). content_at v.contents y) (changed_other f keeps vs id w n)
    ]

pub stored_at : (f : VolumeGrains → VolumeGrains) (g : ℕ) (content : Content) → KeepsId f → Holds f g content → (vs : List VolumeGrains) (id : ℕ) → is_there vs id ≡ true →
    g < length (volume_of vs id).contents → StoredAt (stored vs) id g content (stored (changed id f vs))
stored_at f g content keeps holds vs id t lt =
    let grains : List Content = (volume_of vs id).contents in
    let now : (changed id f vs) ≡ changed id f vs = refl in
    let here_is : (y : ℕ) → stored (changed id f vs) id y ≡ content_at (set grains g content) y =
    λ y. ap (λ (v : VolumeGrains). content_at v.contents y) (changed_here f keeps vs id t) ∙ ap (λ (c : List Content). content_at c y) (holds (volume_of vs id)) in
    record {
      here = here_is g ∙ get_or-set_same grains g content _ lt;
      elsewhere = λ w y apart. elim (cases_eq w id) [
        | inr n ↦ ap (λ (v : VolumeGrains). content_at v.contents y) (changed_other f keeps vs id w n)
        | inl e ↦ elim apart [
          | inl n ↦ absurd (n e)
          | inr n ↦ subst (λ (z : ℕ). stored (changed id f vs) z y ≡ stored vs z y) (sym e) (here_is y ∙ get_or-set_other grains g y content _ n)
        ]
      ];
    }

-- ---- sizes

abbrev pub KeepsSize : (VolumeGrains → VolumeGrains) → Type 0
KeepsSize f = (v : VolumeGrains) → length (f v).contents ≡ length v.contents

pub holds_size : (f : VolumeGrains → VolumeGrains) (g : ℕ) (content : Content) → Holds f g content → KeepsSize f
holds_size f g content holds v = ap (λ (c : List Content). length c) (holds v) ∙ length-set v.contents g content

pub contents_size : (f : VolumeGrains → VolumeGrains) → KeepsContents f → KeepsSize f
contents_size f same v = ap (λ (c : List Content). length c) (same v)

pub there_stays : (f : VolumeGrains → VolumeGrains) → KeepsId f → (vs : List VolumeGrains) (id x : ℕ) → is_there (changed id f vs) x ≡ is_there vs x
there_stays f keeps [] id x = refl
there_stays f keeps (v ∷ vs) id x =
    let rest = there_stays f keeps vs id x in
    elim (cases_Bool (eqb v.volume.0 id)) [
      | inl hit ↦
          let same : eqb (f v).volume.0 x ≡ eqb v.volume.0 x = ap (λ z. eqb z.0 x) (keeps v) in
          rw hit (rw same (rw rest refl))
      | inr miss ↦ rw miss (rw rest refl)
    ]

pub size_stays : (f : VolumeGrains → VolumeGrains) → KeepsId f → KeepsSize f → (vs : List VolumeGrains) (id x : ℕ) → is_there vs id ≡ true →
    length (volume_of (changed id f vs) x).contents ≡ length (volume_of vs x).contents
size_stays f keeps size vs id x t =
    elim (cases_eq x id) [
      | inl e ↦
          subst (λ (z : ℕ). length (volume_of (changed id f vs) z).contents ≡ length (volume_of vs z).contents) (sym e)
          (ap (λ (v : VolumeGrains). length v.contents) (changed_here f keeps vs id t) ∙ size (volume_of vs id))
      | inr n ↦ ap (λ (v : VolumeGrains). length v.contents) (changed_other f keeps vs id x n)
    ]

pub grains_stay : (f : VolumeGrains → VolumeGrains) → KeepsId f → KeepsSize f → (slots now : List Slot) (vs : List VolumeGrains) (id : ℕ) → is_there vs id ≡ true →
    (k : ℕ) → (slot_at now k).volume ≡ (slot_at slots k).volume → length (slot_at now k).held ≡ length (slot_at slots k).held → HasGrains slots vs k → HasGrains now (changed id f vs) k
grains_stay f keeps size slots now vs id t k same long h = record {
  there = ap (λ z. is_there (changed id f vs) z) same ∙ (there_stays f keeps vs id (slot_at slots k).volume ∙ h.there);
  size = ap (λ z. length (volume_of (changed id f vs) z).contents) same ∙ (size_stays f keeps size vs id (slot_at slots k).volume t ∙ (h.size ∙ sym long));
}
