use Rattle.std.proofs.Common.{ℕ, List, ◌++◌, codes, get_or}
use Rattle.fc_base.specs.declared.runs.Run.{Run}
use Rattle.fc_entry.specs.Text.{run_text}
use Rattle.fc_entry.proofs.JoinLemmas.{join_with_byte-first}
use Rattle.fc_entry.proofs.WrittenLemmas.{Written-then, Written-cut}
use Rattle.fc_entry.proofs.reply_text.put_bytes.Goals as goal

-- what is put before the second run
abbrev first_run : List Run → List ℕ
first_run runs = codes "data " ++ run_text (get_or runs 0 (record { count = 0; byte = 0 }))

pub returns-in_err-put_run-in-len1-up : goal.returns-in_err-put_run-in-len1-up
returns-in_err-put_run-in-len1-up g c =
    rw (
      c.from_residual.ensures.0,
      join_with_byte-first 44 run_text c.args.runs.now (record { count = 0; byte = 0 }) c.in-len1-up.len_at_least,
    )
    (Written-cut _ (first_run c.args.runs.now) _ _ c.in_err-put_run-in-len1-up.ensures)

pub returns-in_ok-put_run-in-len1-up : goal.returns-in_ok-put_run-in-len1-up
returns-in_ok-put_run-in-len1-up g c =
    rw (join_with_byte-first 44 run_text c.args.runs.now (record { count = 0; byte = 0 }) c.in-len1-up.len_at_least)
    (
    Written-then _ (first_run c.args.runs.now) _ _ _ _ c.in_ok-put_run-in-len1-up.ensures c.put_next_runs.ensures
    )
