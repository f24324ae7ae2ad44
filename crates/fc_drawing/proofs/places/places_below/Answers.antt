use Rattle.std.proofs.Common.{arith, ◌∙◌}
use Rattle.fc_drawing.specs.Places.{places_below}
use Rattle.fc_drawing.proofs.Placing.{kept_with, places_none, places_step, so_far_all, so_far_more}
use Rattle.fc_drawing.proofs.places.places_below.Goals as goal

pub loop-place-init : goal.loop-place-init
loop-place-init g c = λ test tests. c.new-places.ensures.items ∙ places_none test

pub loop-place-preserved : goal.loop-place-preserved
loop-place-preserved g c =
    λ test tests. so_far_more (places_below test) kept_with test (places_step test) _ _ _ _ (c.loop-place.invariant test tests) (tests _ _ c.passes.ensures) c.in_ok-push_if.ensures

pub returns : goal.returns
returns g c = λ test tests. so_far_all (places_below test) _ _ _ (c.loop-place.invariant test tests) (omega arith) (omega arith)
