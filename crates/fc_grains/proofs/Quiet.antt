-- Quiet disks stay quiet, for crates above.
use Rattle.std.proofs.Common.{◌≡◌, ℕ, zero, suc, ◌-◌, ◌==◌, Bool, true, false, cond, ◌||◌, nat_eq, List, [], ◌∷◌, is_some, IfSome, Option, Some, Result, Ok, Err, sym, ◌∙◌, ap, subst, true≢false, arith}
use Rattle.std.specs.Bool.{OnTrue, OnFalse}
use Rattle.std.specs.List.{All}
use Rattle.std.specs.Option.{option_map}
use Rattle.std.proofs.lemmas.List.Elements.{All-push}
use Rattle.fc_base.specs.Count.{FaultsAfter}
use Rattle.fc_base.specs.declared.disk.DiskError.{DiskError}
use Rattle.fc_base.specs.declared.disk.DiskError.TheVariants.{Failed, NoMemory}
use Rattle.fc_mdisk.specs.Disk.{write_failed}
use Rattle.fc_grains.specs.Calls.{HasMade, HasRead, HasWritten}
use Rattle.fc_grains.specs.Grains.{GrainsState}
use Rattle.fc_grains.specs.Quiet.{IsQuiet, StaysQuiet}
use Rattle.fc_grains.specs.Volumes.{VolumeGrains, after_write, called, changed, is_there, volume_of}

abbrev Unarmed : VolumeGrains → Type 0
Unarmed v = v.due ≡ Some 0

behind : (P : VolumeGrains → Type 0) (v : VolumeGrains) (vs : List VolumeGrains) → All P (v ∷ vs) → All P vs
behind P v vs all k d within = all (suc k) d (omega arith)

front : (P : VolumeGrains → Type 0) (v : VolumeGrains) (vs : List VolumeGrains) → P v → All P vs → All P (v ∷ vs)
front P v vs first all zero d within = first
front P v vs first all (suc k) d within = all k d (omega arith)

either : (P : VolumeGrains → Type 0) (t : Bool) (v w : VolumeGrains) → P v → P w → P (cond t v w)
either P true v w p q = p
either P false v w p q = q

due_step : (t more : Bool) (v rest : VolumeGrains) → Unarmed v → (t || more) ≡ true → (more ≡ true → Unarmed rest) → Unarmed (cond t v rest)
due_step true more v rest own there later = own
due_step false more v rest own there later = later there

pub due_of : (vs : List VolumeGrains) (id : ℕ) → All Unarmed vs → is_there vs id ≡ true → (volume_of vs id).due ≡ Some 0
due_of [] id all there = absurd (true≢false (sym there))
due_of (v ∷ vs) id all there =
    due_step (nat_eq v.volume.0 id) (is_there vs id) v (volume_of vs id) (all 0 v (omega arith)) there (λ later. due_of vs id (behind Unarmed v vs all) later)

all_changed : (vs : List VolumeGrains) (id : ℕ) (change : VolumeGrains → VolumeGrains) → ((v : VolumeGrains) → Unarmed v → Unarmed (change v)) → All Unarmed vs → All Unarmed (changed id change vs)
all_changed [] id change keeps all = all
all_changed (v ∷ vs) id change keeps all =
    front Unarmed (cond (nat_eq v.volume.0 id) (change v) v) (changed id change vs)
    (either Unarmed (nat_eq v.volume.0 id) (change v) v (keeps v (all 0 v (omega arith))) (all 0 v (omega arith)))
    (all_changed vs id change keeps (behind Unarmed v vs all))

called_unarmed : (v : VolumeGrains) → Unarmed v → Unarmed (called v)
called_unarmed v own = ap (λ (due : Option ℕ). option_map (λ n. n - 1) due) own

written_unarmed : {A : Type 0} (answer : Result A DiskError) (place : ℕ) (bytes : List ℕ) (v : VolumeGrains) → Unarmed v → Unarmed (after_write answer place bytes v)
written_unarmed (Ok a) place bytes v own = called_unarmed v own
written_unarmed (Err Failed) place bytes v own = called_unarmed v own
written_unarmed (Err NoMemory) place bytes v own = called_unarmed v own

-- a call of a disk that tells that it doesn't fail
call_done : (failed : Bool) (due : Option ℕ) → due ≡ Some 0 → IfSome due (λ n. failed ≡ (n == 1)) → failed ≡ false
call_done failed due is told =
    let P : Option ℕ → Type 0 = λ d. IfSome d (λ n. failed ≡ (n == 1)) in
    subst P is told

call_quiet : (failed : Bool) (due : Option ℕ) (old new : ℕ) → due ≡ Some 0 → failed ≡ false → FaultsAfter (is_some due) failed old new → new ≡ old
call_quiet failed due old new is done after =
    let P : Bool → Type 0 = λ told. OnTrue told (OnFalse failed (new ≡ old)) in
    let Q : Bool → Type 0 = λ f. OnFalse f (new ≡ old) in
    subst Q done (subst P (ap is_some is) after.quiet)

pub quiet_read : (old new : GrainsState) (volume place : ℕ) (failed : Bool) → IsQuiet old → is_there old.volumes volume ≡ true → HasRead old volume place failed new → StaysQuiet old failed new
quiet_read old new volume place failed quiet there read =
    let due : (volume_of old.volumes volume).due ≡ Some 0 = due_of old.volumes volume quiet.unarmed there in
    let done : failed ≡ false = call_done failed (volume_of old.volumes volume).due due read.call.fails_as_told in
    let P : List VolumeGrains → Type 0 = λ vs. All Unarmed vs in
    record {
      done = done;
      faults = call_quiet failed (volume_of old.volumes volume).due old.faults new.faults due done read.call.faults;
      quiet = record {
        told = ap (λ (s : GrainsState). s.silent) read.rest ∙ quiet.told;
        unarmed = subst P (sym (ap (λ (s : GrainsState). s.volumes) read.rest)) (all_changed old.volumes volume called called_unarmed quiet.unarmed);
      };
    }

pub quiet_written : {A : Type 0} (old new : GrainsState) (volume place : ℕ) (answer : Result A DiskError) → IsQuiet old → is_there old.volumes volume ≡ true → HasWritten old volume place answer new
    → StaysQuiet old (write_failed answer) new
quiet_written old new volume place answer quiet there written =
    let due : (volume_of old.volumes volume).due ≡ Some 0 = due_of old.volumes volume quiet.unarmed there in
    let done : write_failed answer ≡ false = call_done (write_failed answer) (volume_of old.volumes volume).due due written.call.fails_as_told in
    let P : List VolumeGrains → Type 0 = λ vs. All Unarmed vs in
    record {
      done = done;
      faults = call_quiet (write_failed answer) (volume_of old.volumes volume).due old.faults new.faults due done written.call.faults;
      quiet = record {
        told = ap (λ (s : GrainsState). s.silent) written.rest ∙ quiet.told;
        unarmed = subst P (sym (ap (λ (s : GrainsState). s.volumes) written.rest))
            (all_changed old.volumes volume (after_write answer place old.buffer) (written_unarmed answer place old.buffer) quiet.unarmed);
      };
    }

pub quiet_made : (old new : GrainsState) (volume : ℕ) → IsQuiet old → HasMade old volume new → IsQuiet new
quiet_made old new volume quiet made =
    let P : List VolumeGrains → Type 0 = λ vs. All Unarmed vs in
    record {
      told = ap (λ (s : GrainsState). s.silent) made.made ∙ quiet.told;
      unarmed = subst P (sym (ap (λ (s : GrainsState). s.volumes) made.made)) (All-push Unarmed old.volumes _ quiet.unarmed (made.told quiet.told));
    }
