-- Armed faults after an event, and the disks that no volume has.
use Rattle.std.proofs.Common.{◌≡◌, ℕ, ◌<◌, ◌%◌, ◌==◌, ◌&&◌, ◌||◌, Bool, true, false, cond, eqb, fold, List, [], ◌∷◌, ◌++◌, All, Option, None, Some, IfSome, refl, sym, ap, subst, ◌∙◌, inl, inr, true≢false}
use Rattle.std.specs.List.{remove}
use Rattle.std.specs.Option.{option_map}
use Rattle.std.proofs.lemmas.Bool.{cases_Bool, cases_eq, eq-eqb, ne_eqb}
use Rattle.std.proofs.lemmas.List.{append-nil, append_assoc}
use Rattle.std.proofs.lemmas.List.Elements.{All-append, All-cons, All-nil}
use Rattle.std.proofs.lemmas.List.Sums.{fold-append}
use Rattle.fc_base.specs.declared.decision.LaneEvent.{LaneEvent}
use Rattle.fc_base.specs.declared.decision.LaneEvent.TheVariants.{Make, Remove, Trigger, Retire, Detach, Split, Force, Drop, Forget, NoteCut, Access, Work, Arm}
use Rattle.fc_mdisk.specs.Disk.{DiskState, cleared}
use Rattle.fc_grains.specs.Calls.{HasMade, HasRemoved}
use Rattle.fc_grains.specs.Grains.{GrainsState, next_place}
use Rattle.fc_grains.specs.Volumes.{VolumeGrains, HoldsNothing, armed, changed, is_there, volume_of, without}
use Rattle.fc_rules.specs.LaneTold.{LaneOf}
use Rattle.fc_steps.proofs.Stored.{changed_here, changed_other}
use Rattle.fc_apply.specs.Accesses.{AccessState}
use Rattle.fc_apply.specs.Parts.{ArmedBy, CanDo, GrainsAfter, IdleAfter, IsArmedAt, armed_event, new_grains}
use Rattle.fc_apply.proofs.Volumes.{push_here, push_other, without_other}
use Rattle.fc_pick.specs.Flags.{WorkState}

-- ---- armed faults

absent_due : (vs : List VolumeGrains) (id : ℕ) → is_there vs id ≡ false → (volume_of vs id).due ≡ None
absent_due [] id none = refl
absent_due (v ∷ vs) id none =
    elim (cases_Bool (eqb v.volume.0 id)) [
      | inl here ↦ absurd (true≢false (ap (λ (b : Bool). b || is_there vs id) (sym here) ∙ none))
      | inr other ↦ let rest : is_there vs id ≡ false = rw other at none in rw other (absent_due vs id rest)
    ]

gone_due : (vs : List VolumeGrains) (id : ℕ) → (volume_of (without id vs) id).due ≡ None
gone_due [] id = refl
gone_due (v ∷ vs) id =
    elim (cases_Bool (eqb v.volume.0 id)) [
      | inl here ↦ rw here (gone_due vs id)
      | inr other ↦ rw other (rw other (gone_due vs id))
    ]

same_due : (n : ℕ) (a b : Option ℕ) → a ≡ b → IsArmedAt n a → IsArmedAt n b
same_due n a b e at = subst (IsArmedAt n) e at

set_due : (calls : ℕ) (due : Option ℕ) → IsArmedAt calls (option_map (λ _. calls) due)
set_due calls None = tt
set_due calls (Some n) = refl

-- a fault is armed
arm_here : (vs : List VolumeGrains) (id calls : ℕ) → IsArmedAt calls (volume_of (changed id (armed calls) vs) id).due
arm_here vs id calls =
    elim (cases_Bool (is_there vs id)) [
      | inl there ↦
          same_due calls _ _ (ap (λ (v : VolumeGrains). v.due) (sym (changed_here (armed calls) (λ v. refl) vs id there))) (set_due calls (volume_of vs id).due)
      | inr absent ↦ same_due calls None _ (sym (still_absent vs absent)) tt
    ]
  where
    still_absent : (ws : List VolumeGrains) → is_there ws id ≡ false → (volume_of (changed id (armed calls) ws) id).due ≡ None
    still_absent [] none = refl
    still_absent (v ∷ ws) none =
        elim (cases_Bool (eqb v.volume.0 id)) [
          | inl here ↦ absurd (true≢false (ap (λ (b : Bool). b || is_there ws id) (sym here) ∙ none))
          | inr other ↦ let rest : is_there ws id ≡ false = rw other at none in rw other (rw other (still_absent ws rest))
        ]

arm_one : (vs : List VolumeGrains) (id calls x n : ℕ) (b : Bool) → IsArmedAt n (volume_of vs x).due →
    IsArmedAt (cond (b && (id == x)) calls n) (volume_of (cond b (changed id (armed calls) vs) vs) x).due
arm_one vs id calls x n false at = at
arm_one vs id calls x n true at =
    elim (cases_eq id x) [
      | inl same ↦
          subst (λ (z : ℕ). IsArmedAt (cond (id == z) calls n) (volume_of (changed id (armed calls) vs) z).due) same
          (subst (λ (b : Bool). IsArmedAt (cond b calls n) (volume_of (changed id (armed calls) vs) id).due) (sym (eq-eqb id id refl)) (arm_here vs id calls))
      | inr other ↦
          subst (λ (b : Bool). IsArmedAt (cond b calls n) (volume_of (changed id (armed calls) vs) x).due) (sym (ne_eqb id x other))
          (same_due n _ _ (ap (λ (v : VolumeGrains). v.due) (sym (changed_other (armed calls) (λ v. refl) vs id x (λ q. other (sym q))))) at)
    ]

-- a volume comes
come_one : (vs : List VolumeGrains) (come : VolumeGrains) (x n : ℕ) → All (λ (v : VolumeGrains). v.volume.0 < come.volume.0) vs → IfSome come.due (λ m. m ≡ 0) → IsArmedAt n (volume_of vs x).due →
    IsArmedAt (cond (come.volume.0 == x) 0 n) (volume_of (vs ++ come ∷ []) x).due
come_one vs come x n newest unarmed at =
    elim (cases_eq come.volume.0 x) [
      | inl same ↦
          subst (λ (z : ℕ). IsArmedAt (cond (come.volume.0 == z) 0 n) (volume_of (vs ++ come ∷ []) z).due) same
          (subst (λ (b : Bool). IsArmedAt (cond b 0 n) (volume_of (vs ++ come ∷ []) come.volume.0).due) (sym (eq-eqb come.volume.0 come.volume.0 refl))
          (same_due 0 come.due _ (ap (λ (v : VolumeGrains). v.due) (sym (push_here vs come newest))) unarmed))
      | inr other ↦
          subst (λ (b : Bool). IsArmedAt (cond b 0 n) (volume_of (vs ++ come ∷ []) x).due) (sym (ne_eqb come.volume.0 x other))
          (same_due n _ _ (ap (λ (v : VolumeGrains). v.due) (sym (push_other vs come x (λ q. other (sym q))))) at)
    ]

-- a volume goes
go_one : (vs : List VolumeGrains) (id x n : ℕ) → IsArmedAt n (volume_of vs x).due → IsArmedAt n (volume_of (without id vs) x).due
go_one vs id x n at =
    elim (cases_eq x id) [
      | inl same ↦ same_due n None _ (sym (ap (λ (z : ℕ). (volume_of (without id vs) z).due) same ∙ gone_due vs id)) tt
      | inr other ↦ same_due n _ _ (ap (λ (v : VolumeGrains). v.due) (sym (without_other vs id x other))) at
    ]

still_one : (old new : List VolumeGrains) (x n : ℕ) → new ≡ old → IsArmedAt n (volume_of old x).due → IsArmedAt n (volume_of new x).due
still_one old new x n e at = subst (λ (vs : List VolumeGrains). IsArmedAt n (volume_of vs x).due) (sym e) at

pub armed_one : (l : LaneOf) (e : LaneEvent) (g : GrainsState) (a : AccessState) (w : WorkState) (new : List VolumeGrains) → CanDo l g a w e → GrainsAfter l g.volumes e new → ArmedBy l (e ∷ []) g.volumes new
armed_one l (Make volume grains kind) g a w new can (due, unarmed, is) x n at =
    let come : VolumeGrains = new_grains l volume grains kind due in
    subst (λ (vs : List VolumeGrains). IsArmedAt (cond (volume.0 == x) 0 n) (volume_of vs x).due) (sym is) (come_one g.volumes come x n can.2 unarmed at)
armed_one l (Remove volume) g a w new can is x n at = subst (λ (vs : List VolumeGrains). IsArmedAt n (volume_of vs x).due) (sym is) (go_one g.volumes volume.0 x n at)
armed_one l (Arm volume grain calls) g a w new can is x n at =
    subst (λ (vs : List VolumeGrains). IsArmedAt (cond ((grain.0 % l.lanes == l.lane) && (volume.0 == x)) calls n) (volume_of vs x).due) (sym is)
    (arm_one g.volumes volume.0 calls x n (grain.0 % l.lanes == l.lane) at)
armed_one l (Trigger pairs) g a w new can is x n at = still_one g.volumes new x n is at
armed_one l (Retire m) g a w new can is x n at = still_one g.volumes new x n is at
armed_one l (Detach m) g a w new can is x n at = still_one g.volumes new x n is at
armed_one l (Split m) g a w new can is x n at = still_one g.volumes new x n is at
armed_one l (Force m dependents) g a w new can is x n at = still_one g.volumes new x n is at
armed_one l (Drop slot) g a w new can is x n at = still_one g.volumes new x n is at
armed_one l (Forget m) g a w new can is x n at = still_one g.volumes new x n is at
armed_one l (NoteCut m source target) g a w new can is x n at = still_one g.volumes new x n is at
armed_one l (Access volume access) g a w new can is x n at = still_one g.volumes new x n is at
armed_one l (Work m copies cleans) g a w new can is x n at = still_one g.volumes new x n is at

-- one event, and then the others
pub armed_then : (l : LaneOf) (e : LaneEvent) (es : List LaneEvent) (a b c : List VolumeGrains) → ArmedBy l (e ∷ []) a b → ArmedBy l es b c → ArmedBy l (e ∷ es) a c
armed_then l e es a b c one rest id n at = rest id (armed_event l id n e) (one id n at)

pub armed_more : (l : LaneOf) (e : LaneEvent) (es : List LaneEvent) (a b c : List VolumeGrains) → ArmedBy l es a b → ArmedBy l (e ∷ []) b c → ArmedBy l (es ++ e ∷ []) a c
armed_more l e es a b c all one id n at =
    subst (λ (m : ℕ). IsArmedAt m (volume_of c id).due) (sym (fold-append (armed_event l id) n es (e ∷ []))) (one id (fold (armed_event l id) n es) (all id n at))

-- ---- disks that no volume has

pub idle_by : (old new : GrainsState) → new.pooled ≡ old.pooled → new.aside ≡ old.aside → IdleAfter old new
idle_by old new pooled aside =
    record { places = []; taken = pooled; more = []; put = aside ∙ sym (append-nil old.aside); empty = All-nil HoldsNothing }

pub idle_same : (g : GrainsState) → IdleAfter g g
idle_same g = idle_by g g refl refl

pub idle_made : (old new : GrainsState) (id : ℕ) → HasMade old id new → IdleAfter old new
idle_made old new id made = record {
  places = next_place old.reserved old.pool ∷ [];
  taken = ap (λ (g : GrainsState). g.pooled) made.made;
  more = [];
  put = ap (λ (g : GrainsState). g.aside) made.made ∙ sym (append-nil old.aside);
  empty = All-nil HoldsNothing;
}

pub idle_removed : (old new : GrainsState) (id : ℕ) → HasRemoved old id new → IdleAfter old new
idle_removed old new id removed = record {
  places = [];
  taken = ap (λ (g : GrainsState). g.pooled) removed.removed;
  more = cleared removed.disk ∷ [];
  put = ap (λ (g : GrainsState). g.aside) removed.removed;
  empty = All-cons HoldsNothing (cleared removed.disk) [] refl (All-nil HoldsNothing);
}

pub idle_then : (a b c : GrainsState) → IdleAfter a b → IdleAfter b c → IdleAfter a c
idle_then a b c x y = record {
  places = x.places ++ y.places;
  taken = y.taken ∙ ap (λ (ds : List DiskState). fold remove ds y.places) x.taken ∙ sym (fold-append remove a.pooled x.places y.places);
  more = x.more ++ y.more;
  put = y.put ∙ ap (λ (ds : List DiskState). ds ++ y.more) x.put ∙ append_assoc a.aside x.more y.more;
  empty = All-append HoldsNothing x.more y.more x.empty y.empty;
}
