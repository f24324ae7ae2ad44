use Rattle.std.proofs.Common.{◌++◌, ◌∷◌, [], ap, sym, ◌∙◌, subst, Ok}
use mathlib.Core.List.{map-append}
use Rattle.fc_tasks.specs.Acting.{HasDone, Stepped, Went}
use Rattle.fc_tasks.proofs.Doing.{more_behind, still_same, went_more}
use Rattle.fc_tasks.proofs.actor.Actor.run.Goals as goal

pub loop-stop-preserved : goal.loop-stop-preserved
loop-stop-preserved g c =
    let inv = c.loop-stop.invariant in let before = inv.went in let done : HasDone g.S.Script.needed g.S.Script.suits g.S.Script.goes c.loop-stop.self c.step.new.self = subst (λ b. Stepped g.S.Script.needed g.S.Script.suits g.S.Script.goes (Ok b) c.loop-stop.self c.step.new.self) c.in-Ok-true.field-0-test c.in-Ok-true.ensures.stepped in let first = c.args.self.now in let last = c.step.new.self in
    let n = done.number in let e = done.entry in record {
      acting = c.step.ensures.acting;
      same = still_same first.pass.view c.loop-stop.self.pass.view last.pass.view inv.same c.step.ensures.same;
      went = record {
        more = before.more ++ (n, e) ∷ [];
        made = done.made ∙ ap (λ l. l ++ (n, e) ∷ []) before.made ∙ more_behind first.made.items before.more (n, e);
        went = subst (λ es. Went g.S.Script.needed g.S.Script.suits g.S.Script.goes first.script es last.script) (sym (map-append (λ m. m.1) before.more ((n, e) ∷ [])))
            (went_more g.S.Script.needed g.S.Script.suits g.S.Script.goes first.script c.loop-stop.self.script last.script (Rattle.fc_tasks.specs.Acting.entries_of before.more) e before.went done.went);
      };
    }
