-- All that a text tells of an entry is read exactly.
use Rattle.std.proofs.Common.{◌≡◌, ℕ, ◌==◌, Bool, true, false, List, [], ◌∷◌, ◌++◌, length, codes, decimal, Option, Some, None, Result, refl, sym, ap, subst, ◌∙◌, append_assoc, arith}
use Rattle.std.specs.List.{flat_map}
use Rattle.std.proofs.lemmas.List.{append-nil}
use Rattle.fc_base.specs.declared.request.Reply.{Reply}
use Rattle.fc_base.specs.declared.request.Reply.TheVariants as reply
use Rattle.fc_base.specs.declared.size.GrainSize.{GrainSize}
use Rattle.fc_entry.specs.Text.{rows_text}
use Rattle.fc_reading.specs.Readers.{the_word, then_read}
use Rattle.fc_words.specs.Canonical.{IsName}
use Rattle.fc_reading_notes.specs.Lists.{starts_with}
use Rattle.fc_reading_notes.specs.Notes.{no_notes, notes_at}
use Rattle.fc_reading_notes.specs.Told.{AreNotes, Each, HasCalls, head_at, head_text}
use Rattle.fc_reading_notes.specs.declared.lines.LaneCalls.{LaneCalls}
use Rattle.fc_reading_notes.specs.declared.notes.Notes.{Notes}
use Rattle.fc_reading_replies.specs.Replies.{said_line, reply_line}
use Rattle.fc_reading_replies.specs.Rows.{AreRows, IsRow, row_line, rows_at, rows_lines}
use Rattle.fc_reading_replies.specs.declared.replies.ReplyLine.{ReplyLine}
use Rattle.fc_reading_replies.specs.declared.replies.ReplyLine.TheVariants.{Whole, Rows}
use Rattle.fc_reading_requests.specs.Asked.{IsAsked, asked_line}
use Rattle.fc_reading_requests.specs.Parts.{ended_by, name_at}
use Rattle.fc_reading_requests.specs.Requests.{asked_at}
use Rattle.fc_reading_requests.specs.declared.asked.Asked.{Asked}
use Rattle.fc_reading_requests.specs.declared.asked.Asked.TheVariants.{Unread}
use Rattle.fc_reading_entries.specs.Entries.{Behind, Raw, behind_line, is_lane, number_at, turn_of, raw_at, reply_behind}
use Rattle.fc_reading_entries.specs.Exchanges.{line_at, request_by}
use Rattle.fc_reading.proofs.Exact.{Ends, Exact, Exact-then}
use Rattle.fc_reading.proofs.Fields.{AnyUnit, Exact-and, Exact-word}
use Rattle.fc_reading.proofs.Words.{Ends-nothing, nothing}
use Rattle.fc_reading_notes.proofs.Choices.{Exact-none, Is}
use Rattle.fc_reading_notes.proofs.Effects.{Exact-image, Image}
use Rattle.fc_reading_notes.proofs.NoteLemmas.{Exact-notes, lines_text}
use Rattle.fc_reading_notes.proofs.Told.{Exact-head, some_head}
use Rattle.fc_reading_notes.proofs.Whiles.{first_joins}
use Rattle.fc_reading_replies.proofs.RowLemmas.{Exact-rows, row_starts, some_rows}
use Rattle.fc_reading_requests.proofs.AllAsked.{Exact-asked}
use Rattle.fc_reading_requests.proofs.Exactness.{Exact-ended as Exact-with_word}
use Rattle.fc_reading_requests.proofs.Objects.{Exact-name_and}
use Rattle.fc_reading_entries.proofs.ExchangeLemmas.{Exact-line, FitsLine, some_line}

-- ---- the rows of a report

abbrev pub FitsReport : ReplyLine → Reply → Type 0
FitsReport (Whole told) answered = Is told answered
FitsReport (Rows count) answered = Image (AreRows count) reply.Listed answered

abbrev pub report_text : ReplyLine → Reply → List ℕ
report_text (Whole told) answered = []
report_text (Rows count) answered = rows_text answered

Exact-report : (line : ReplyLine) → Exact (FitsReport line) (report_text line) nothing (reply_behind line)
Exact-report (Whole told) = Exact-none told
Exact-report (Rows count) =
    Exact-image {V = List (List ℕ)} {W = Reply} (AreRows count) rows_lines nothing (rows_at count) rows_text reply.Listed (Exact-rows count) (λ rows are. refl)

some_report : (line : ReplyLine) → (answered : Reply) × FitsReport line answered
some_report (Whole told) = (told, refl)
some_report (Rows count) = let rows = some_rows count in (reply.Listed rows.0, (rows.0, rows.1, refl))

-- ---- what stands behind the line

abbrev Ended : Type 0
Ended = Reply × Unit {0}

abbrev FitsEnded : ReplyLine → Ended → Type 0
FitsEnded line x = FitsReport line x.0 × AnyUnit x.1

abbrev ended_text : ReplyLine → Ended → List ℕ
ended_text line x = report_text line x.0 ++ codes ".\n"

abbrev ended_at : ReplyLine → List ℕ → Result (Ended × List ℕ) ℕ
ended_at line = then_read (reply_behind line) (λ reply. the_word (codes ".\n"))

Exact-ended : (line : ReplyLine) → Exact (FitsEnded line) (ended_text line) nothing (ended_at line)
Exact-ended line =
    Exact-and {V = Reply} {W = Unit {0}} (FitsReport line) (report_text line) (reply_behind line) AnyUnit (λ u. codes ".\n") (the_word (codes ".\n"))
    (Exact-report line) (Exact-word (codes ".\n")) tt tt

-- no `+` begins it
joins_plus : (bytes : List ℕ) → starts_with 43 bytes ≡ false → Ends (first_joins 43) bytes
joins_plus [] off = tt
joins_plus (byte ∷ bytes) off = off

rows_start : (count : ℕ) (rows : List (List ℕ)) (rest : List ℕ) → AreRows count rows → starts_with 43 ((rows_lines rows ++ codes ".\n") ++ rest) ≡ false
rows_start count [] rest are = refl
rows_start count (row ∷ rows) rest are =
    ap (λ t. starts_with 43 (t ++ rest)) (append_assoc (row_line row) (rows_lines rows) (codes ".\n"))
    ∙ ap (starts_with 43) (append_assoc (row_line row) (rows_lines rows ++ codes ".\n") rest)
    ∙ row_starts row ((rows_lines rows ++ codes ".\n") ++ rest)
    ∙ are.1.0.1

ended_start : (line : ReplyLine) (x : Ended) (rest : List ℕ) → FitsEnded line x → starts_with 43 (ended_text line x ++ rest) ≡ false
ended_start (Whole told) x rest fits = refl
ended_start (Rows count) x rest fits =
    subst (λ (r : Reply). starts_with 43 ((rows_text r ++ codes ".\n") ++ rest) ≡ false) fits.0.2 (rows_start count fits.0.0 rest fits.0.1)

abbrev Noted : Type 0
Noted = Notes × Ended

abbrev FitsNoted : ReplyLine → Noted → Type 0
FitsNoted line x = AreNotes x.0 × FitsEnded line x.1

abbrev noted_text : ReplyLine → Noted → List ℕ
noted_text line x = lines_text x.0 ++ ended_text line x.1

abbrev noted_at : ReplyLine → List ℕ → Result (Noted × List ℕ) ℕ
noted_at line = then_read notes_at (λ notes. ended_at line)

some_ended : (line : ReplyLine) → (x : Ended) × FitsEnded line x
some_ended line = let r = some_report line in ((r.0, tt), (r.1, tt))

Exact-noted : (line : ReplyLine) → Exact (FitsNoted line) (noted_text line) nothing (noted_at line)
Exact-noted line =
    Exact-then {V = Notes} {W = Ended} AreNotes lines_text (first_joins 43) notes_at (λ notes. FitsEnded line) (λ notes. ended_text line) nothing (λ notes. ended_at line)
    Exact-notes (λ notes are. Exact-ended line) (λ notes are. some_ended line)
    (λ notes x rest are fits ends. joins_plus (ended_text line x ++ rest) (ended_start line x rest fits))

abbrev pub FitsBehind : Bool → ReplyLine → Behind → Type 0
FitsBehind in_lane line x = HasCalls in_lane x.0 × FitsNoted line x.1

abbrev pub behind_text : ReplyLine → Behind → List ℕ
behind_text line x = head_text x.0 ++ noted_text line x.1

some_noted : (line : ReplyLine) → (x : Noted) × FitsNoted line x
some_noted line = let e = some_ended line in ((no_notes, e.0), ((tt, (tt, tt)), e.1))

Exact-behind : (size : GrainSize) (asked : Asked) (line : ReplyLine) → Exact (FitsBehind (is_lane (turn_of size (request_by asked line))) line) (behind_text line) nothing (behind_line size asked line)
Exact-behind size asked line =
    let in_lane : Bool = is_lane (turn_of size (request_by asked line)) in
    let some = some_noted line in
    Exact-and {V = Option LaneCalls} {W = Noted} (HasCalls in_lane) head_text (head_at in_lane) (FitsNoted line) (noted_text line) (noted_at line)
    (Exact-head in_lane) (Exact-noted line) some.0 some.1

some_behind : (size : GrainSize) (asked : Asked) (line : ReplyLine) → (x : Behind) × FitsBehind (is_lane (turn_of size (request_by asked line))) line x
some_behind size asked line =
    let head = some_head (is_lane (turn_of size (request_by asked line))) in
    let noted = some_noted line in
    ((head.0, noted.0), (head.1, noted.1))

-- ---- the line, and what stands behind it

abbrev Lined : Type 0
Lined = ReplyLine × Behind

abbrev FitsLined : GrainSize → Asked → Lined → Type 0
FitsLined size asked x = FitsLine asked x.0 × FitsBehind (is_lane (turn_of size (request_by asked x.0))) x.0 x.1

abbrev lined_text : Lined → List ℕ
lined_text x = reply_line x.0 ++ behind_text x.0 x.1

Exact-lined : (size : GrainSize) (asked : Asked) → Exact (FitsLined size asked) lined_text nothing (then_read (line_at asked) (behind_line size asked))
Exact-lined size asked =
    Exact-then {V = ReplyLine} {W = Behind} (FitsLine asked) reply_line nothing (line_at asked)
    (λ line. FitsBehind (is_lane (turn_of size (request_by asked line))) line) behind_text nothing (behind_line size asked)
    (Exact-line asked) (λ line fits. Exact-behind size asked line) (λ line fits. some_behind size asked line)
    (λ line x rest fits is ends. Ends-nothing (behind_text line x ++ rest))

some_lined : (size : GrainSize) (asked : Asked) → (x : Lined) × FitsLined size asked x
some_lined size asked =
    let line = some_line asked in
    let behind = some_behind size asked line.0 in
    ((line.0, behind.0), (line.1, behind.1))

abbrev Told : Type 0
Told = Asked × Lined

abbrev FitsTold : GrainSize → Told → Type 0
FitsTold size x = IsAsked x.0 × FitsLined size x.0 x.1

abbrev told_text : Told → List ℕ
told_text x = asked_line x.0 ++ lined_text x.1

abbrev told_at : GrainSize → List ℕ → Result (Told × List ℕ) ℕ
told_at size = then_read asked_at (λ asked. then_read (line_at asked) (behind_line size asked))

Exact-told : (size : GrainSize) → Exact (FitsTold size) told_text nothing (told_at size)
Exact-told size =
    Exact-then {V = Asked} {W = Lined} IsAsked asked_line nothing asked_at (FitsLined size) (λ asked. lined_text) nothing
    (λ asked. then_read (line_at asked) (behind_line size asked))
    Exact-asked (λ asked is. Exact-lined size asked) (λ asked is. some_lined size asked)
    (λ asked x rest is fits ends. Ends-nothing (lined_text x ++ rest))

some_told : (size : GrainSize) → (x : Told) × FitsTold size x
some_told size = let lined = some_lined size Unread in ((Unread, lined.0), (tt, lined.1))

-- ---- all of it

abbrev Named : Type 0
Named = List ℕ × Told

abbrev FitsNamed : GrainSize → Named → Type 0
FitsNamed size x = IsName x.0 × FitsTold size x.1

abbrev named_text : Named → List ℕ
named_text x = (x.0 ++ codes " ") ++ told_text x.1

Exact-named : (size : GrainSize) → Exact (FitsNamed size) named_text nothing (then_read (ended_by name_at (codes " ")) (λ name. told_at size))
Exact-named size =
    let some = some_told size in
    Exact-and {V = List ℕ} {W = Told} IsName (λ name. name ++ codes " ") (ended_by name_at (codes " ")) (FitsTold size) told_text (told_at size)
    (Exact-name_and (codes " ") (λ rest. refl)) (Exact-told size) some.0 some.1

abbrev pub FitsRaw : GrainSize → Raw → Type 0
FitsRaw size x = AnyUnit x.0 × FitsNamed size x.1

abbrev pub raw_text : ℕ → Raw → List ℕ
raw_text number x = (decimal number ++ codes " ") ++ named_text x.1

Exact-number : (number : ℕ) → Exact AnyUnit (λ u. decimal number ++ codes " ") nothing (number_at number)
Exact-number number =
    Exact-with_word {V = Unit {0}} AnyUnit (λ u. decimal number) nothing (the_word (decimal number)) (codes " ") (Exact-word (decimal number))
    (λ rest. Ends-nothing (codes " " ++ rest))

pub Exact-raw : (size : GrainSize) (number : ℕ) → Exact (FitsRaw size) (raw_text number) nothing (raw_at size number)
Exact-raw size number =
    let some = some_told size in
    Exact-and {V = Unit {0}} {W = Named} AnyUnit (λ u. decimal number ++ codes " ") (number_at number) (FitsNamed size) named_text
    (then_read (ended_by name_at (codes " ")) (λ name. told_at size))
    (Exact-number number) (Exact-named size) (codes "main", some.0) (refl, some.1)
