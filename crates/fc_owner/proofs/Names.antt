-- The names that a legal history tells of are those that were there before it, and more behind them.
use Rattle.std.proofs.Common.{List, [], ◌∷◌, ◌++◌, append_assoc, refl, ◌≡◌, ◌∙◌, ap}
use Rattle.fc_base.specs.declared.size.GrainSize.{GrainSize}
use Rattle.fc_entry.specs.declared.entry.Entry.{Entry}
use Rattle.fc_legal.proofs.Naming.{HasMore}
use Rattle.fc_legal.specs.Legal.{IsLegal}
use Rattle.fc_legal.specs.Whole.{Whole}
use Rattle.law_together.proofs.Kept.{AreSteps-keeps}

pub legal_names :
    (grain : GrainSize) (w last : Whole) (entries : List Entry) →
    IsLegal grain w entries last →
    HasMore w.actors last.actors
legal_names grain w last [] legal = record { more = legal.more; is = ap (λ (x : Whole). x.actors) legal.named }
legal_names grain w last (entry ∷ entries) legal =
    let rest : HasMore legal.0.actors last.actors = legal_names grain legal.0 last entries legal.2 in
    let named : legal.1.before ≡ record w { actors = w.actors ++ legal.1.named.more } = legal.1.named.named in
    let kept : legal.0.actors ≡ legal.1.before.actors =
    (AreSteps-keeps grain legal.1.before legal.0 (entry ∷ []) (legal.0, legal.1.step, refl)).actors in
    record {
      more = legal.1.named.more ++ rest.more;
      is =
          rest.is
          ∙ ap (λ names. names ++ rest.more) (kept ∙ ap (λ (x : Whole). x.actors) named)
          ∙ append_assoc w.actors legal.1.named.more rest.more;
    }
