-- Which grains occupy memory after one volume changed.
use Rattle.std.proofs.Common.{◌≡◌, ℕ, ◌==◌, Bool, true, false, cond, List, [], ◌∷◌, refl, ◌∙◌}
use Rattle.fc_base.specs.Room.{Room, reaching, reach}
use Rattle.fc_grains.specs.Volumes.{VolumeGrains, changed, room_of, rooms_of}

-- a change that leaves what a volume occupies, and one that reaches a grain
abbrev pub KeepsRoom : (VolumeGrains → VolumeGrains) → Type 0
KeepsRoom f = (v : VolumeGrains) → room_of (f v) ≡ room_of v

abbrev pub Reaches : (VolumeGrains → VolumeGrains) → ℕ → Type 0
Reaches f g = (v : VolumeGrains) → room_of (f v) ≡ reaching g (room_of v)

kept_if : (f : VolumeGrains → VolumeGrains) → KeepsRoom f → (v : VolumeGrains) (b : Bool) → room_of (cond b (f v) v) ≡ room_of v
kept_if f keeps v true = keeps v
kept_if f keeps v false = refl

reached_if : (f : VolumeGrains → VolumeGrains) (g : ℕ) → Reaches f g → (v : VolumeGrains) (b : Bool) → room_of (cond b (f v) v) ≡ cond b (reaching g (room_of v)) (room_of v)
reached_if f g reaches v true = reaches v
reached_if f g reaches v false = refl

pub rooms_stay : (f : VolumeGrains → VolumeGrains) → KeepsRoom f → (id : ℕ) (vs : List VolumeGrains) → rooms_of (changed id f vs) ≡ rooms_of vs
rooms_stay f keeps id [] = refl
rooms_stay f keeps id (v ∷ vs) =
    let one = kept_if f keeps v (v.volume.0 == id) in
    let rest = rooms_stay f keeps id vs in
    λ i. one i ∷ rest i

pub rooms_reached : (f : VolumeGrains → VolumeGrains) (g : ℕ) → Reaches f g → (id : ℕ) (vs : List VolumeGrains) → rooms_of (changed id f vs) ≡ reach id g (rooms_of vs)
rooms_reached f g reaches id [] = refl
rooms_reached f g reaches id (v ∷ vs) =
    let one = reached_if f g reaches v (v.volume.0 == id) in
    let rest = rooms_reached f g reaches id vs in
    λ i. one i ∷ rest i

-- after a read, which left all that volumes occupy
pub reached_after : (old mid new : List Room) (v w g h : ℕ) → v ≡ w → g ≡ h → mid ≡ old → new ≡ reach v g mid → new ≡ reach w h old
reached_after old mid new v w g h e p same is = is ∙ λ i. reach (e i) (p i) (same i)
