-- A lane through the events of a command.
use Rattle.std.proofs.Common.{◌≡◌, sym, suc, List, ◌∷◌, refl, arith}
use Rattle.fc_lane.specs.Lane.{LaneView, IsSameLane, of, ArmsNone}
use Rattle.fc_apply.specs.Parts.{SameCounts, ArmsNot}
use Rattle.fc_base.specs.declared.decision.LaneEvent.{LaneEvent}
use Rattle.fc_base.specs.declared.decision.LaneEvent.TheVariants.{Make, Remove, Trigger, Retire, Detach, Split, Force, Drop, Forget, NoteCut, Access, Work, Arm}

pub of_same : (v v' : LaneView) → IsSameLane v v' → of v ≡ of v'
of_same v v' s = sym (λ k. record { lane = s.lane k; lanes = s.lanes k; grain = s.grain k })

pub same_counts : (v v' : LaneView) → v'.lane ≡ v.lane → v'.lanes ≡ v.lanes → SameCounts v.grains v'.grains → IsSameLane v v'
same_counts v v' lane lanes s = record { lane = lane; lanes = lanes; grain = s.grain; disks = s.disks; silent = s.silent }

-- no fault is armed by the first event, nor by the others
pub arms_first : (e : LaneEvent) (es : List LaneEvent) → ArmsNone (e ∷ es) → ArmsNot e
arms_first (Make volume grains kind) es none = tt
arms_first (Remove volume) es none = tt
arms_first (Work m copies cleans) es none = tt
arms_first (Trigger pairs) es none = tt
arms_first (Retire m) es none = tt
arms_first (Detach m) es none = tt
arms_first (Split m) es none = tt
arms_first (Force m dependents) es none = tt
arms_first (Drop slot) es none = tt
arms_first (Forget m) es none = tt
arms_first (NoteCut m source target) es none = tt
arms_first (Access volume access) es none = tt
arms_first (Arm volume grain calls) es none = none volume grain calls (0, omega arith, refl)

pub arms_rest : (e : LaneEvent) (es : List LaneEvent) → ArmsNone (e ∷ es) → ArmsNone es
arms_rest e es none volume grain calls c = none volume grain calls (suc c.0, omega (arith, c.1), c.2)
