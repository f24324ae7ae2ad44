-- Armed faults come nearer by the calls alone.
use Rattle.std.proofs.Common.{◌≡◌, ℕ, ◌+◌, ◌-◌, true, Option, Some, None, List, sym, subst, inl, inr, arith}
use Rattle.std.proofs.lemmas.Bool.{cases_eq}
use Rattle.std.specs.Option.{option_map}
use Rattle.fc_grains.specs.Volumes.{VolumeGrains, ComeNearer, ComesNearer, changed, is_there, volume_of}
use Rattle.fc_steps.proofs.Stored.{KeepsId, changed_here, changed_other}

pub nearer_still : (calls : ℕ) (due : Option ℕ) → ComesNearer calls due due
nearer_still calls None = tt
nearer_still calls (Some n) = (omega arith, omega arith)

pub nearer_called : (due : Option ℕ) → ComesNearer 1 due (option_map (λ n. n - 1) due)
nearer_called None = tt
nearer_called (Some n) = (omega arith, omega arith)

nearer_then : (n m : ℕ) (a b c : Option ℕ) → ComesNearer n a b → ComesNearer m b c → ComesNearer (m + n) a c
nearer_then n m None None None x y = tt
nearer_then n m (Some a) (Some b) (Some c) x y = (omega (arith, x.0, y.0), omega (arith, x.1, y.1))
nearer_then n m None (Some b) c x y = absurd x
nearer_then n m (Some a) None c x y = absurd x
nearer_then n m None None (Some c) x y = absurd y
nearer_then n m (Some a) (Some b) None x y = absurd y

pub come_still : (volumes : List VolumeGrains) → ComeNearer 0 volumes volumes
come_still volumes id = nearer_still 0 (volume_of volumes id).due

pub come_then : (n m : ℕ) (a b c : List VolumeGrains) → ComeNearer n a b → ComeNearer m b c → ComeNearer (m + n) a c
come_then n m a b c x y id = nearer_then n m (volume_of a id).due (volume_of b id).due (volume_of c id).due (x id) (y id)

-- where one volume changed
pub come_changed : (calls : ℕ) (f : VolumeGrains → VolumeGrains) → KeepsId f → ((v : VolumeGrains) → ComesNearer calls v.due (f v).due) → (id : ℕ) (old new : List VolumeGrains) → is_there old id ≡ true →
    new ≡ changed id f old → ComeNearer calls old new
come_changed calls f keeps near id old new t e w =
    let P : List VolumeGrains → Type 0 = λ z. ComesNearer calls (volume_of old w).due (volume_of z w).due in
    let Q : VolumeGrains → Type 0 = λ v. ComesNearer calls (volume_of old id).due v.due in
    let R : VolumeGrains → Type 0 = λ v. ComesNearer calls (volume_of old w).due v.due in
    let S : ℕ → Type 0 = λ z. ComesNearer calls (volume_of old z).due (volume_of (changed id f old) z).due in
    subst P (sym e) (elim (cases_eq w id) [
      | inl same ↦ subst S (sym same) (subst Q (sym (changed_here f keeps old id t)) (near (volume_of old id)))
      | inr other ↦ subst R (sym (changed_other f keeps old id w other)) (nearer_still calls (volume_of old w).due)
    ])
