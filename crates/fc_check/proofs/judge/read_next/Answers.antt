-- The entry that was read is followed, and named where it is the first that isn't right.
use Rattle.std.proofs.Common.{◌-◌, ◌≡◌, List, ℕ, length, refl, arith}
use Rattle.fc_base.specs.declared.size.GrainSize.{GrainSize}
use Rattle.fc_entry.specs.HistoryState.{HistoryState}
use Rattle.fc_reading_entries.specs.Entries.{ReadNext}
use Rattle.fc_check.proofs.WayLemmas.{is_true, not_true, progress_first_wrong, progress_right, read_counted}
use Rattle.fc_check.proofs.judge.read_next.Goals as goal

-- the last of all entries is the one that was read
last_read : (size : GrainSize) (old new : HistoryState) (bytes : List ℕ) (count entries : ℕ) → entries ≡ length new.entries → ReadNext size old bytes count new →
    entries - 1 ≡ length old.entries
last_read size old new bytes count entries counted read = omega (arith, counted, read_counted size old new bytes count read)

pub returns-in-Ok-true-clause-known : goal.returns-in-Ok-true-clause-known
returns-in-Ok-true-clause-known c =
    let number : ℕ = c.len.result - 1 in
    let is : number ≡ length c.args.progress.now.history.entries =
    last_read c.args.header.now.grain c.args.progress.now.history c.read_entry.new.history c.args.bytes.now c.in-Ok.count c.len.result c.len.ensures c.in-Ok.ensures.found in
    progress_first_wrong c.args.header.now c.args.progress.now _ c.args.bytes.now c.in-Ok.count c.requires.known c.requires.room c.in-Ok.ensures.found number c.in-None.is refl is
    c.in-Ok-true.ensures.after (c.in-Ok-true.ensures.wrong.0 (is_true c.in-Ok-true.field-0 c.in-Ok-true.field-0-test))

pub returns-in-Ok-true-clause-named : goal.returns-in-Ok-true-clause-named
returns-in-Ok-true-clause-named c =
    let is : c.len.result - 1 ≡ length c.args.progress.now.history.entries =
    last_read c.args.header.now.grain c.args.progress.now.history c.read_entry.new.history c.args.bytes.now c.in-Ok.count c.len.result c.len.ensures c.in-Ok.ensures.found in
    λ right. is

pub returns-in-Ok-false-clause-known : goal.returns-in-Ok-false-clause-known
returns-in-Ok-false-clause-known c =
    progress_right c.args.header.now c.args.progress.now _ c.args.bytes.now c.in-Ok.count c.requires.known c.requires.room c.in-Ok.ensures.found c.in-None.is c.in-None.is
    c.in-Ok-false.ensures.after c.in-Ok-false.ensures.grain c.in-Ok-false.ensures.counted
    (λ none. not_true c.in-Ok-false.field-0 c.in-Ok-false.field-0-test (c.in-Ok-false.ensures.wrong.1 none))
