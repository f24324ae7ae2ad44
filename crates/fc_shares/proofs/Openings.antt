-- A store that is taken apart, and put together again.
use Rattle.std.proofs.Common.{slice_index_or, List, refl, sym, subst, arith}
use Rattle.fc_base.specs.declared.size.GrainSize.{GrainSize}
use Rattle.fc_lane.specs.Lane.{LaneView}
use Rattle.fc_legal.specs.Whole.{Whole, part_at}
use Rattle.fc_stands.specs.Store.{AreLanesOf, StandsFor, StoreView}
use Rattle.fc_shares.specs.Law.{HaveShares, Opens}
use Rattle.fc_shares.specs.Situation.{Situation}
use Rattle.fc_shares.proofs.Lanes.{faults_here, same_here}

pub opening : (store : StoreView) (w : Whole) → StandsFor store w → Opens store w
opening store w stands = record {
  sound = record {
    grain = refl;
    lanes_are = refl;
    actors = refl;
    volumes = refl;
    decisions = stands.decisions;
    few = stands.few;
    stands = stands.stands;
    calls = stands.calls;
  };
  control = record { books = stands.control; grain = refl };
  each = λ i d inside.
      let v : LaneView = slice_index_or store.lanes i d in
      record { within = omega (arith, inside, stands.count); stands = stands.each i d inside; same = same_here v; faults = faults_here v (part_at store.control.grain w i).calls (stands.each i d inside).stands.lane.calls };
}

pub closing : (first s : Situation) (openings : List LaneView) (store : StoreView) → HaveShares first s openings store → StandsFor store s.whole
closing first s openings store shares = record {
  control = shares.control.books;
  count = shares.count;
  each =
      let P : GrainSize → Type 0 = λ grain. AreLanesOf grain s.whole store.lanes in
      subst P (sym shares.control.grain) (λ i d inside. (shares.each i d inside).stands);
  decisions = shares.sound.decisions;
  few = shares.sound.few;
  stands = shares.sound.stands;
  calls = shares.sound.calls;
}
