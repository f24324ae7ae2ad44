use Rattle.std.proofs.lemmas.List.Sorted.{IsNonDecreasingBy-from_sort}
use Rattle.fc_loops.proofs.links.sort.Goals as goal

pub returns-clause-order : goal.returns-clause-order
returns-clause-order c = λ i j le lt. IsNonDecreasingBy-from_sort (λ n. n) c.sort_unstable.new.self c.sort_unstable.ensures.sorted i j 0 le lt
