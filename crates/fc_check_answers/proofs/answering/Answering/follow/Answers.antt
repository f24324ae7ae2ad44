use Rattle.std.proofs.Common.{◌≡◌, ℕ, List, [], ◌∷◌, ◌++◌, map, slice_index_or, refl, sym, subst}
use Rattle.fc_base.specs.Pools.{Pool}
use Rattle.fc_blocks.specs.Segments.{Segment}
use Rattle.fc_check_answers.proofs.Reaching.{next_places}
use Rattle.fc_check_answers.specs.Places.{Answers, AreAllPlaces}
use Rattle.fc_check_answers.specs.Runs.{AreNext, AreRunsAt, place_at}
use Rattle.fc_check_answers.specs.declared.run.Run.{Run}
use Rattle.fc_entry.specs.declared.entry.Entry.{Entry}
use Rattle.fc_legal.specs.Whole.{opened}
use Rattle.fc_check_answers.proofs.answering.Answering.follow.Goals as goal

pub runs_after-requires-clause-runs : goal.runs_after-requires-clause-runs
runs_after-requires-clause-runs c =
    let same : c.replace-runs.result.items ≡ c.self.inside.runs.items = cc in
    subst (AreRunsAt c.self.inside.grain c.self.inside.entries) (sym same) c.self.invariant

pub returns-clause-places : goal.returns-clause-places
returns-clause-places c =
    let same : c.replace-runs.result.items ≡ c.self.inside.runs.items = cc in
    let new : List Run = c.in_ok-self-inside.field-0.items in
    let next : AreNext c.self.inside.grain c.args.name.now c.args.entry.now (map place_at c.self.inside.runs.items) (map place_at new) =
    subst (λ (runs : List Run). AreNext c.self.inside.grain c.args.name.now c.args.entry.now (map place_at runs) (map place_at new)) same c.in_ok-self-inside.ensures.places
    in
    subst
    (λ (v : Answers). (pools : List Pool) (segs : List Segment) (own : List (List ℕ)) (told : List Entry) → slice_index_or own c.args.entry.now.actor [] ≡ c.args.name.now →
    AreAllPlaces v.grain (opened pools) segs own told v.places → AreAllPlaces v.grain (opened pools) segs own (told ++ c.args.entry.now ∷ []) (map place_at new))
    c.self.view_is
    (λ pools segs own told is. next_places c.self.inside.grain (opened pools) segs own told c.args.entry.now c.args.name.now is refl (map place_at c.self.inside.runs.items) (map place_at new) next)
