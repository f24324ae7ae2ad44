use Rattle.std.proofs.Common.{arith}
use Rattle.model_slots.proofs.Searching.{first_start, first_more, first_done, within_more}
use Rattle.model_slots.proofs.search.first_place.Goals as goal

pub loop-place-init : goal.loop-place-init
loop-place-init g c = record { value = λ test tests. first_start test; bound = tt }

pub loop-place-preserved : goal.loop-place-preserved
loop-place-preserved g c = record {
  value = λ test tests. first_more test _ _ _ _ (c.loop-place.invariant.value test tests) (tests _ _ c.passes.ensures) c.first_so_far-found.ensures;
  bound = within_more _ _ _ _ c.loop-place.invariant.bound c.first_so_far-found.ensures;
}

pub returns-clause-value : goal.returns-clause-value
returns-clause-value g c = λ test tests. first_done test _ _ _ (c.loop-place.invariant.value test tests) (omega arith) (omega arith)
