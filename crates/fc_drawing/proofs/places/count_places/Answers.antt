use Rattle.std.proofs.Common.{arith, length}
use Rattle.fc_drawing.specs.Places.{places_below}
use Rattle.fc_drawing.proofs.Placing.{count_none, count_step, count_within, counted_with, so_far_all, so_far_more}
use Rattle.fc_drawing.proofs.places.count_places.Goals as goal

pub loop-place-init : goal.loop-place-init
loop-place-init g c = record { so_far = λ test tests. count_none test; within = omega arith }

pub loop-place-preserved : goal.loop-place-preserved
loop-place-preserved g c = record {
  so_far = λ test tests. so_far_more (λ n. length (places_below test n)) counted_with test (count_step test) _ _ _ _ (c.loop-place.invariant.so_far test tests) (tests _ _ c.passes.ensures) c.counted-count.ensures;
  within = count_within _ _ _ c.passes.result c.loop-place.invariant.within c.counted-count.ensures;
}

pub returns : goal.returns
returns g c = λ test tests. so_far_all (λ n. length (places_below test n)) _ _ _ (c.loop-place.invariant.so_far test tests) (omega arith) (omega arith)
