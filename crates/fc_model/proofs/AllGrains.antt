-- One lane that has every grain.
use mathlib.Core.Path.{fun_ext}
use Rattle.std.proofs.Common.{◌≡◌, ℕ, ◌+◌, ◌-◌, ◌/◌, refl, ap, ◌∙◌, arith, div-one}
use Rattle.fc_base.specs.Sheet.{Sheet}
use Rattle.fc_base.specs.SheetStep.{sheet_step}
use Rattle.fc_base.specs.declared.decision.LaneEvent.{LaneEvent}
use Rattle.fc_model.specs.Lanes.{grains_in_lane}

every_grain : (grains : ℕ) → grains_in_lane 0 1 grains ≡ grains
every_grain grains = let e : grains + 1 - 1 - 0 ≡ grains = omega arith in ap (λ n. n / 1) e ∙ div-one grains

pub step_every : (s : Sheet) (event : LaneEvent) → sheet_step (grains_in_lane 0 1) s event ≡ sheet_step (λ grains. grains) s event
step_every s event = ap (λ (local : ℕ → ℕ). sheet_step local s event) (fun_ext every_grain)
