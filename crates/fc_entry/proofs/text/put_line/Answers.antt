use Rattle.std.proofs.Common.{ℕ, List, [], ap, sym, ◌∙◌}
use Rattle.std.proofs.lemmas.Option.{get_or_from_slice_get}
use Rattle.fc_entry.specs.Text.{line_text}
use Rattle.fc_entry.proofs.PartLemmas.{Written-as}
use Rattle.fc_entry.proofs.text.put_line.Goals as goal

pub actor_name-actor-requires : goal.actor_name-actor-requires
actor_name-actor-requires g c = c.requires.named _ c.entry-entry.ensures

pub returns : goal.returns
returns g c =
    rw c.entry-entry.ensures
    (
    Written-as (ap (λ (actor : List ℕ). line_text actor c.entry-entry.result.now) (c.as_bytes.ensures.value ∙ sym (get_or_from_slice_get c.args.history.now.actors _ _ [] c.actor_name-actor.ensures)))
    c.put_line_by.ensures
    )
