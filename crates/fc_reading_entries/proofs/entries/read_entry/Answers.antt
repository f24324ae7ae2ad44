use Rattle.std.proofs.Common.{◌≡◌, ℕ, ◌-◌, length, List, Result, Ok, Err, sym, ap, ◌∙◌}
use Rattle.fc_base.specs.declared.size.GrainSize.{GrainSize}
use Rattle.fc_reading_entries.specs.Entries.{parts_at}
use Rattle.fc_reading_entries.specs.declared.parts.Parts.{Parts}
use Rattle.fc_reading_notes.proofs.Steps.{stop_malformed}
use Rattle.fc_reading_entries.proofs.EntryLemmas.{entry-found, entry-left, entry-stops, entry-within}
use Rattle.fc_reading_entries.proofs.entries.read_entry.Goals as goal

-- as an entry of the number that comes next
at : (size : GrainSize) (known number : ℕ) (bytes : List ℕ) (r : Result (Parts × List ℕ) ℕ) → known ≡ number → parts_at size known bytes ≡ r → parts_at size number bytes ≡ r
at size known number bytes r same e = sym (ap (λ n. parts_at size n bytes) same) ∙ e

pub overflow_sub-result : goal.overflow_sub-result
overflow_sub-result c = entry-within c.args.size c.len.result c.args.bytes.now c.in-Ok.parts c.in-Ok.rest.now c.in-Ok.ensures

pub returns-in-Ok-add-clause-found : goal.returns-in-Ok-add-clause-found
returns-in-Ok-add-clause-found c =
    entry-found c.args.size c.args.history.now c.add.new.history c.args.bytes.now c.in-Ok.parts c.in-Ok.rest.now
    (at c.args.size c.len.result (length c.args.history.now.entries) c.args.bytes.now (Ok (c.in-Ok.parts, c.in-Ok.rest.now)) c.len.ensures c.in-Ok.ensures)
    c.in-Ok-add.ensures.ok

pub overflow_sub-result-in-Err-Malformed : goal.overflow_sub-result-in-Err-Malformed
overflow_sub-result-in-Err-Malformed c =
    rw c.in-Err-Malformed.field-0-is
    (
    entry-left c.args.size c.len.result c.args.bytes.now c.in-Err-Malformed.stopped.left
    (stop_malformed (parts_at c.args.size c.len.result c.args.bytes.now) c.in-Err-Malformed.field-0 c.in-Err-Malformed.stopped c.in-Err-Malformed.field-0-is c.in-Err-Malformed.ensures)
    )

pub returns-in-Err-Malformed-clause-malformed : goal.returns-in-Err-Malformed-clause-malformed
returns-in-Err-Malformed-clause-malformed c =
    rw c.in-Err-Malformed.field-0-is
    (
    entry-stops c.args.size (length c.args.history.now.entries) c.args.bytes.now c.in-Err-Malformed.stopped.left
    (
    at c.args.size c.len.result (length c.args.history.now.entries) c.args.bytes.now (Err c.in-Err-Malformed.stopped.left) c.len.ensures
    (stop_malformed (parts_at c.args.size c.len.result c.args.bytes.now) c.in-Err-Malformed.field-0 c.in-Err-Malformed.stopped c.in-Err-Malformed.field-0-is c.in-Err-Malformed.ensures)
    )
    )
