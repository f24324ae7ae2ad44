-- Right entries: the first of them, and more behind them.
use Rattle.std.proofs.Common.{List, [], ◌∷◌, ◌++◌, refl, subst}
use Rattle.fc_base.specs.declared.size.GrainSize.{GrainSize}
use Rattle.fc_entry.specs.declared.entry.Entry.{Entry}
use Rattle.fc_legal.specs.Legal.{AreSteps}
use Rattle.fc_legal.specs.Whole.{Whole}
use Rattle.law_together.proofs.Kept.{AreSteps-keeps}
use Rattle.law_together.specs.Law.{StepsLaw}

steps_front : (grain : GrainSize) (w last : Whole) (front rest : List Entry) → AreSteps grain w (front ++ rest) last →
    (mid : Whole) × AreSteps grain w front mid × AreSteps grain mid rest last
steps_front grain w last [] rest steps = (w, refl, steps)
steps_front grain w last (e ∷ front) rest steps =
    let behind = steps_front grain steps.0 last front rest steps.2 in
    (behind.0, (steps.0, steps.1, behind.1), behind.2)

steps_append : (grain : GrainSize) (w mid last : Whole) (entries more : List Entry) → AreSteps grain w entries mid → AreSteps grain mid more last →
    AreSteps grain w (entries ++ more) last
steps_append grain w mid last [] more before after =
    let P : Whole → Type 0 = λ v. AreSteps grain v more last in
    subst P before after
steps_append grain w mid last (e ∷ entries) more before after =
    (before.0, before.1, steps_append grain before.0 mid last entries more before.2 after)

pub steps_law_holds : StepsLaw
steps_law_holds = record {
  front = steps_front;
  append = steps_append;
  counted = λ grain w last entries steps.
      let kept = AreSteps-keeps grain w last entries steps in
      (kept.entries, kept.lanes_are, kept.actors);
}
