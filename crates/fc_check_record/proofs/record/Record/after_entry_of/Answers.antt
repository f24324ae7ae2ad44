use Rattle.std.proofs.Common.{◌≡◌, ℕ, ◌+◌, ◌<◌, ◌≤◌, ◌^◌, List, slice_index_or, slice_set, subst, sym, ap, ◌∙◌, arith}
use Rattle.std.proofs.lemmas.List.{with_items_is}
use Rattle.fc_base.specs.declared.size.GrainSize.{GrainSize}
use Rattle.fc_check_record.proofs.Agreeing.{calls_few, one_after}
use Rattle.fc_check_record.proofs.Telling.{entry_told}
use Rattle.fc_check_record.specs.Judged.{Judged, most_calls}
use Rattle.fc_check_sheet.specs.View.{pools_of}
use Rattle.fc_follow.specs.Following.{rows_entry}
use Rattle.fc_legal.specs.Whole.{single_lane}
use Rattle.fc_check_record.proofs.record.Record.after_entry_of.Goals as goal

pub follow-requires : goal.follow-requires
follow-requires c =
    let same : c.self.inside.kept.known.entries ≡ c.args.self.whole.entries = ap (λ (j : Judged). j.whole.entries) c.self.view_is in
    record { no_effects = c.requires.no_effects; few = omega arith }

pub count_calls-requires : goal.count_calls-requires
count_calls-requires c =
    let same : c.self.inside.kept.known.entries ≡ c.args.self.whole.entries = ap (λ (j : Judged). j.whole.entries) c.self.view_is in
    let few : c.self.inside.kept.known.entries < 262144 = omega arith in
    λ i. subst (λ (z : List ℕ). slice_index_or z i 0 < 2 ^ 63) (sym c.as_mut_slice.ensures.value) (calls_few c.self.inside.kept.known.entries c.self.inside.kept.calls.items few c.self.invariant.few i)

-- the calls after it
counted : (c : goal.After-kept-1) → c.count_calls.new.calls ≡ slice_set c.self.inside.kept.calls.items c.args.lane (slice_index_or c.self.inside.kept.calls.items c.args.lane 0 + c.args.entry.now.calls)
counted c = c.count_calls.ensures ∙ ap (λ (z : List ℕ). slice_set z c.args.lane (slice_index_or z c.args.lane 0 + c.args.entry.now.calls)) c.as_mut_slice.ensures.value

pub invariant_of-result : goal.invariant_of-result
invariant_of-result c =
    let i = c.self.inside.kept in
    let small : c.args.entry.now.calls ≤ most_calls = omega arith in
    one_after i.control i.known c.follow.new.self i.calls.items _ c.args.lane c.args.entry.now small c.in_ok-follow.ensures (with_items_is i.calls c.count_calls.new.calls (omega arith) ∙ counted c) c.self.invariant

pub returns : goal.returns
returns c =
    let i = c.self.inside.kept in
    entry_told i.control i.known c.follow.new.self i.rows c.follow_rows.new.rows (pools_of i.pools.items) i.rooms c.follow_rooms.new.rooms i.calls.items _ c.args.self c.args.lane c.args.entry.now c.self.invariant c.self.view_is c.in_ok-follow.ensures
    (c.follow_rows.ensures ∙ ap (λ (size : GrainSize). rows_entry (single_lane size) i.rows c.args.entry.now) c.grain.ensures)
    c.follow_rooms.ensures
    (with_items_is i.calls c.count_calls.new.calls (omega arith) ∙ counted c)
