use Rattle.std.proofs.Common.{rules}
use Rattle.std.proofs.lemmas.List.Sorted.{answers_always}
use Rattle.fc_apply.specs.declared.access.AccessRow.{AccessRow}
use Rattle.fc_apply.proofs.Accessing.{hit, missed}
use Rattle.fc_apply.proofs.access.place_of.Goals as goal

pub returns-in-Ok-clause-found : goal.returns-in-Ok-clause-found
returns-in-Ok-clause-found c =
    hit c.args.rows.now c.args.volume.0 c.in-Ok.place
    (c.in-Ok.ensures.position (λ (v : AccessRow). v.volume.0) (answers_always _ _ _ (λ f a r g called. search rules)))

pub returns-in-Err-clause-none : goal.returns-in-Err-clause-none
returns-in-Err-clause-none c =
    missed c.args.rows.now c.requires c.args.volume.0 c.in-Err.field-0
    (c.in-Err.ensures.position (λ (v : AccessRow). v.volume.0) (answers_always _ _ _ (λ f a r g called. search rules)))
