use Rattle.std.proofs.Common.{List, ℕ, [], ◌∷◌, ◌++◌, ap, ◌∙◌}
use Rattle.fc_format.specs.Bytes.{batch_bytes, records_bytes}
use Rattle.fc_format.proofs.Puts.{gated_known}
use Rattle.fc_format.proofs.write.batch_with.Goals as goal

pub returns-clause-bytes : goal.returns-clause-bytes
unfolding batch_bytes
returns-clause-bytes c =
    gated_known [] (records_bytes c.args.records.now) (0 ∷ []) c.new-bytes.ensures.items
    (c.deref.ensures.value ∙ (c.in_ok-put_items.ensures.bytes ∙ ap (λ (z : List ℕ). z ++ records_bytes c.args.records.now) c.new-written.ensures.items))
    c.in_ok-put_gated.ensures
