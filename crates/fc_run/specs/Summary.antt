-- What a session writes: the text of its history, the same as a trace, or a summary of it in one line:
--     entries E reads R writes W moves M refused F sum S
use Rattle.std.specs.Prelude.{ℕ, ◌%◌, ◌^◌, Bool, true, false, List, ◌++◌, length, codes, decimal}
use Rattle.std.specs.List.{count_by, sum, sum_by}
use Rattle.fc_base.specs.Runs.{expanded}
use Rattle.fc_base.specs.declared.request.Request.{Request}
use Rattle.fc_base.specs.declared.request.Request.TheVariants.{Write}
use Rattle.fc_base.specs.declared.request.Reply.{Reply}
use Rattle.fc_base.specs.declared.request.Reply.TheVariants.{Bytes, Done, Refused}
use Rattle.fc_entry.specs.declared.entry.Entry.{Entry}
use Rattle.fc_entry.specs.HistoryState.{HistoryState}
use Rattle.fc_entry.specs.Text.{history_text}
use Rattle.fc_trace.specs.Trace.{trace_text}
use Rattle.fc_run.specs.declared.form.Form.{Form}
use Rattle.fc_run.specs.declared.form.Form.TheVariants as form

-- the reply of a read that gave its bytes
abbrev pub gives_bytes : Reply → Bool
gives_bytes (Bytes runs) = true
gives_bytes _ = false

-- a write that was done
abbrev pub is_done_write : Request → Reply → Bool
is_done_write (Write part) Done = true
is_done_write _ _ = false

-- a refusal
abbrev pub refuses : Reply → Bool
refuses (Refused refusal) = true
refuses _ = false

-- the sum of the bytes that a reply gives
abbrev pub bytes_sum : Reply → ℕ
bytes_sum (Bytes runs) = sum (expanded runs)
bytes_sum _ = 0

-- how many reads of these entries gave bytes
abbrev pub reads_of : List Entry → ℕ
reads_of entries = count_by (λ entry. gives_bytes entry.reply) entries

-- how many of their writes were done
abbrev pub writes_of : List Entry → ℕ
writes_of entries = count_by (λ entry. is_done_write entry.request entry.reply) entries

-- how many grains they moved
abbrev pub moves_in : List Entry → ℕ
moves_in entries = sum_by (λ entry. length entry.moves) entries

-- how many of them are refused
abbrev pub refused_of : List Entry → ℕ
refused_of entries = count_by (λ entry. refuses entry.reply) entries

-- the sum of all bytes that they read, of which 32 bits are kept
abbrev pub sum_of : List Entry → ℕ
sum_of entries = sum_by (λ entry. bytes_sum entry.reply) entries % 2 ^ 32

-- the summary of a history, its one line
abbrev pub summary_text : HistoryState → List ℕ
summary_text history =
    codes "entries " ++ decimal (length history.entries) ++ codes " reads " ++ decimal (reads_of history.entries) ++ codes " writes "
    ++ decimal (writes_of history.entries) ++ codes " moves " ++ decimal (moves_in history.entries) ++ codes " refused "
    ++ decimal (refused_of history.entries) ++ codes " sum " ++ decimal (sum_of history.entries) ++ codes "\n"

-- the text of a history in this form
abbrev pub form_text : Form → HistoryState → List ℕ
form_text form.Text history = history_text history
form_text (form.Trace header) history = trace_text header.grain header.lanes history
form_text form.Summary history = summary_text history
