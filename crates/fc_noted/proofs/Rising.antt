-- While an entry is under way in a lane, no count of its calls and faults falls.
use Rattle.std.proofs.Common.{◌≡◌, ℕ, ◌+◌, ◌≤◌, Bool, true, false, Option, Some, None, List, drop, take, ap, ◌∙◌, arith}
use Rattle.fc_base.specs.declared.request.Move.{Move}
use Rattle.fc_chain.specs.Chains.{Chains}
use Rattle.fc_grains.specs.Grains.{GrainsState, stopped}
use Rattle.fc_lane.proofs.Entering.{more_stopped}
use Rattle.fc_lane.specs.Doing.{IsUnderWay}
use Rattle.fc_lane.specs.Lane.{LaneView, of}
use Rattle.fc_lane.specs.declared.doing.Doing.{Doing}
use Rattle.fc_rules.specs.LaneTold.{LaneOf, LaneTold}
use Rattle.fc_steps.specs.Moving.{Counted, more}
use Rattle.fc_steps.specs.UnderWay.{StepsCame}
use Rattle.fc_steps.specs.declared.ask.Ask.{Ask}
use Rattle.fc_steps.specs.declared.stepping.Steps.{Steps}
use Rattle.fc_steps.specs.declared.stop.Stop.{Stop}

-- by its steps
counted_by : (l : LaneOf) (told : LaneTold) (ask : Ask) (x : ℕ) (made rest : List Move) (calls : ℕ) (stop : Option Stop) (written : Bool) (chains after : Chains) (old new : GrainsState) →
    StepsCame l told ask x made rest calls stop written chains old after new → Counted old calls false new
counted_by l told ask x made rest calls None false chains after old new c = c.stands.counted
counted_by l told ask x made rest calls None true chains after old new c = c.1.counted
counted_by l told ask x made rest calls (Some stop) written chains after old new c = c.1.counted

no_less : (old new told calls : ℕ) → old ≡ stopped told → new ≡ more calls old → old ≤ new
no_less old new told calls is then =
    let all : new ≡ stopped (told + calls) = then ∙ (ap (more calls) is ∙ more_stopped calls told) in
    omega (arith, is, all)

pub rising : (lane : LaneView) (doing : Doing) (now : LaneView) → IsUnderWay lane doing now → (lane.grains.calls ≤ now.grains.calls) × (lane.grains.faults ≤ now.grains.faults)
rising lane doing now way =
    let told : LaneTold = way.can.0 in
    let c = way.came told way.can.1 way.can.2 in
    let s : Steps = doing.steps in
    let counted : Counted lane.grains s.calls false now.grains =
    counted_by (of lane) told s.ask c.slot (take s.made s.planned.moves) (drop s.made s.planned.moves) s.calls s.stop s.written lane.chains now.chains lane.grains now.grains c.way.came in
    (no_less lane.grains.calls now.grains.calls told.calls s.calls way.can.1.calls counted.calls_are, counted.kept)
