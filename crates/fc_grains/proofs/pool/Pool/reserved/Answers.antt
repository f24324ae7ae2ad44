use Rattle.fc_grains.proofs.Pooling.{enough}
use Rattle.fc_grains.proofs.pool.Pool.reserved.Goals as goal

pub returns-clause-few : goal.returns-clause-few
returns-clause-few g c = rw (← c.self.view_is) (enough _ _ _ c.self.invariant)
