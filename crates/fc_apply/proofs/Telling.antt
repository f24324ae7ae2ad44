-- The events of a command: the parts beside the chains stand for what is told after each, and each can be done.
use Rattle.std.proofs.Common.{◌≡◌, ℕ, suc, ◌+◌, ◌<◌, true, List, [], ◌∷◌, ◌++◌, length, drop, drop-cons, get_or, All, refl, sym, ap, subst, ◌∙◌, arith}
use Rattle.fc_base.specs.Pools.{Pool}
use Rattle.fc_base.specs.SheetFits.{FitsEvent}
use Rattle.fc_base.specs.declared.decision.LaneEvent.{LaneEvent}
use Rattle.fc_base.specs.declared.decision.LaneEvent.TheVariants.{Make, Remove, Trigger, Retire, Detach, Split, Force, Drop, Forget, NoteCut, Access, Work, Arm}
use Rattle.fc_grains.specs.Grains.{GrainsState, NewVolume, next_of}
use Rattle.fc_grains.specs.Volumes.{is_there}
use Rattle.fc_pick.specs.Flags.{WorkState}
use Rattle.fc_pick.specs.declared.work.WorkFlags.{WorkFlags}
use Rattle.fc_rules.specs.LaneTold.{LaneOf, LaneTold, LaneVolume, grains_in, told_event, volumes_event, flags_event, pool_event}
use Rattle.fc_sheets.proofs.Finding.{live_place_at}
use Rattle.fc_apply.specs.Accesses.{AccessState}
use Rattle.fc_rules.specs.LaneFits.{HasDisk}
use Rattle.fc_apply.specs.Parts.{BesideFor, CanDo, HasDone, IsReadyBeside, KnowsAll, SameCounts, new_of, new_volumes}
use Rattle.fc_steps.specs.Standing.{HasGrains}
use Rattle.fc_apply.proofs.Eventing.{event_stands, event_volumes}
use Rattle.fc_apply.proofs.Volumes.{newest_of}

-- after one event the parts stand for what is then told
pub event_told : (l : LaneOf) (told : LaneTold) (e : LaneEvent) (g g' : GrainsState) (a a' : AccessState) (w w' : WorkState) → BesideFor l g a w told → FitsEvent told.sheet e → HasDisk told e →
    HasDone l g a w e g' a' w' → BesideFor l g' a' w' (told_event l told e)
event_told l told e g g' a a' w w' b fits disk d = record {
  grain = d.kept.grain ∙ b.grain;
  stands = event_stands l told g.volumes g'.volumes e b.stands b.same fits disk d.volumes;
  same = event_volumes l g.volumes g'.volumes told.volumes e b.same d.volumes;
  volumes_are = d.accesses_are ∙ ap (λ (vs : List LaneVolume). volumes_event vs e) b.volumes_are;
  flags_are = d.flags ∙ ap (λ (fs : List WorkFlags). flags_event fs e) b.flags_are;
  pool_is = d.pool ∙ ap (λ (p : Pool). pool_event p e) b.pool_is;
}

-- the next event can be done
pub can_do : (l : LaneOf) (told : LaneTold) (e : LaneEvent) (es : List LaneEvent) (g : GrainsState) (a : AccessState) (w : WorkState) → BesideFor l g a w told → FitsEvent told.sheet e → HasDisk told e →
    IsReadyBeside l g a w (e ∷ es) → CanDo l g a w e
can_do l told (Make volume grains kind) es g a w b fits disk r =
    let made : List NewVolume = record { kind = kind; grains = grains_in l grains } ∷ new_volumes l es in (
      subst (λ (z : List NewVolume). 0 < length z) (sym r.volumes) (omega arith),
      ap (λ (z : List NewVolume). next_of z) r.volumes,
      newest_of volume.0 g.volumes told.volumes b.same disk.1,
      subst (λ (z : List LaneVolume). All (λ (v : LaneVolume). v.volume.0 < volume.0) z) (sym b.volumes_are) disk.1,
      omega (arith, r.rows),
    )
can_do l told (Remove volume) es g a w b fits disk r =
    let at = live_place_at told.sheet.slots volume.0 fits.place fits.is_there in
    let h : HasGrains told.sheet.slots g.volumes fits.place = b.stands.sized fits.place at.there in
    subst (λ (z : ℕ). is_there g.volumes z ≡ true) at.of_volume h.there
can_do l told (Work m copies cleans) es g a w b fits disk r = r.works.0
can_do l told (Trigger pairs) es g a w b fits disk r = tt
can_do l told (Retire m) es g a w b fits disk r = tt
can_do l told (Detach m) es g a w b fits disk r = tt
can_do l told (Split m) es g a w b fits disk r = tt
can_do l told (Force m dependents) es g a w b fits disk r = tt
can_do l told (Drop slot) es g a w b fits disk r = tt
can_do l told (Forget m) es g a w b fits disk r = tt
can_do l told (NoteCut m source target) es g a w b fits disk r = tt
can_do l told (Access volume access) es g a w b fits disk r = tt
can_do l told (Arm volume grain calls) es g a w b fits disk r = tt

drop_first : {X : Type 0} (xs ys : List X) → drop (length xs) (xs ++ ys) ≡ ys
drop_first [] ys = refl
drop_first (x ∷ xs) ys = drop_first xs ys

pub length_both : {X : Type 0} (xs ys : List X) → length (xs ++ ys) ≡ length xs + length ys
length_both [] ys = omega arith
length_both (x ∷ xs) ys = omega (arith, length_both xs ys)

-- and then the others are still ready
pub still_ready : (l : LaneOf) (e : LaneEvent) (es : List LaneEvent) (g g' : GrainsState) (a a' : AccessState) (w w' : WorkState) → IsReadyBeside l g a w (e ∷ es) → HasDone l g a w e g' a' w' →
    IsReadyBeside l g' a' w' es
still_ready l e es g g' a a' w w' r d = record {
  volumes = d.reserved ∙ (ap (λ (z : List NewVolume). drop (length (new_of l e)) z) r.volumes ∙ drop_first (new_of l e) (new_volumes l es));
  rows = omega (arith, r.rows, d.room, length_both (new_of l e) (new_volumes l es));
  works = subst (λ (k : List ℕ). KnowsAll k es) (sym d.known) r.works.1;
}

pub counts_then : (a b c : GrainsState) → SameCounts a b → SameCounts b c → SameCounts a c
counts_then a b c x y = record {
  grain = y.grain ∙ x.grain;
  disks = y.disks ∙ x.disks;
  silent = y.silent ∙ x.silent;
  calls = y.calls ∙ x.calls;
  faults = y.faults ∙ x.faults;
  write_faults = y.write_faults ∙ x.write_faults;
}

pub counts_same : (a : GrainsState) → SameCounts a a
counts_same a = record { grain = refl; disks = refl; silent = refl; calls = refl; faults = refl; write_faults = refl }

-- ---- the events that are left

pub next_left : {X : Type 0} (xs : List X) (i : ℕ) (x : X) → i < length xs → get_or xs i x ≡ x → drop i xs ≡ x ∷ drop (i + 1) xs
next_left xs i x lt is =
    let next : suc i ≡ i + 1 = omega arith in
    drop-cons xs i x lt ∙ (λ k. is k ∷ drop (next k) xs)
