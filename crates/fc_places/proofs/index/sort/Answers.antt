use Rattle.fc_places.proofs.Sorting.{rising_of}
use Rattle.fc_places.proofs.index.sort.Goals as goal

pub returns-clause-rising : goal.returns-clause-rising
returns-clause-rising c = rising_of c.sort_unstable.new.self c.sort_unstable.ensures.sorted
