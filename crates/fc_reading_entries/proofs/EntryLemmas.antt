-- Entries are read exactly.
use Rattle.std.proofs.Common.{◌≡◌, ℕ, ◌+◌, ◌-◌, ◌<◌, ◌≤◌, Bool, true, false, List, [], ◌∷◌, ◌++◌, length, take, codes, decimal, Option, Some, None, Result, Ok, Err, refl, sym, ap, subst, ◌∙◌, append_assoc, arith}
use Rattle.std.specs.List.{flat_map}
use Rattle.fc_base.specs.declared.fault.WordFault.{WordFault}
use Rattle.fc_base.specs.declared.fault.Refusal.{Refusal}
use Rattle.fc_base.specs.declared.fault.Refusal.TheVariants.{Words}
use Rattle.fc_base.specs.declared.request.Place.{Place}
use Rattle.fc_base.specs.declared.request.Place.TheVariants as place
use Rattle.fc_base.specs.declared.request.Reply.{Reply}
use Rattle.fc_base.specs.declared.request.Reply.TheVariants as reply
use Rattle.fc_base.specs.declared.request.Request.{Request}
use Rattle.fc_base.specs.declared.size.GrainSize.{GrainSize}
use Rattle.fc_entry.specs.HistoryState.{HistoryState, number_of_actor}
use Rattle.fc_entry.specs.Text.{reply_text, request_text, rows_text}
use Rattle.fc_entry.specs.declared.entry.Entry.{Entry}
use Rattle.fc_reading.specs.Stops.{StopsAt}
use Rattle.fc_trace.specs.Notes.{calls_text, effect_text, move_text, torn_text}
use Rattle.fc_trace.specs.Trace.{traced_by}
use Rattle.fc_words.specs.Canonical.{IsName}
use Rattle.fc_reading_notes.specs.Told.{AreNotes, Each, HasCalls, IsCalls, head_text}
use Rattle.fc_reading_notes.specs.declared.lines.LaneCalls.{LaneCalls}
use Rattle.fc_reading_notes.specs.declared.notes.Notes.{Notes}
use Rattle.fc_reading_replies.specs.Replies.{MayBeSaid, said_line, refused_of, reply_line}
use Rattle.fc_reading_replies.specs.Rows.{IsRow}
use Rattle.fc_reading_replies.specs.declared.replies.ReplyLine.{ReplyLine}
use Rattle.fc_reading_replies.specs.declared.replies.ReplyLine.TheVariants.{Whole, Rows}
use Rattle.fc_reading_requests.specs.Asked.{asked_line, asked_of, asked_text}
use Rattle.fc_reading_requests.specs.declared.asked.Asked.{Asked}
use Rattle.fc_reading_requests.specs.declared.asked.Asked.TheVariants.{Unread, Read, Write, Copy, Clean, CopyTurn, CleanTurn, Command as OfCommand}
use Rattle.fc_reading_entries.specs.Entries.{AreCalls, AreRowsOf, IsEntry, IsEntryText, Raw, ReadNext, entry_calls, calls_or_none, entry_of, is_lane, notes_of, parts_at, parts_of, turn_of, raw_at, with_entry}
use Rattle.fc_reading_entries.specs.Exchanges.{IsExchange, fault_told, is_id, is_short, request_by}
use Rattle.fc_reading_entries.specs.declared.parts.Parts.{Parts}
use Rattle.fc_reading.proofs.Exact.{Exact, Exact-map}
use Rattle.fc_reading.proofs.StopsLemmas.{Exact-stops_at, IsTextOf}
use Rattle.fc_reading.proofs.Words.{nothing}
use Rattle.fc_reading_notes.proofs.NoteLemmas.{lines_text}
use Rattle.fc_reading_replies.proofs.Read.{Found, found_by, left_by}
use Rattle.fc_reading_requests.proofs.Requested.{request_line}
use Rattle.fc_reading_entries.proofs.ExchangeLemmas.{Exchanged, FitsAccess, FitsLine, asked_from, exchange_to, line_from, request_from}
use Rattle.fc_reading_entries.proofs.PartLemmas.{Exact-raw, FitsRaw, FitsReport, raw_text, report_text}

-- ---- a line and its reply

said_whole : (refusable : Bool) (told : Reply) → MayBeSaid refusable (Whole told) → said_line told ≡ Whole told
said_whole refusable reply.Done said = refl
said_whole refusable (reply.Made kind id) said = refl
said_whole refusable (reply.Bytes runs) said = refl
said_whole refusable (reply.Listed rows) said = absurd said
said_whole refusable (reply.Moved map grain) said = refl
said_whole refusable reply.Idle said = refl
said_whole refusable (reply.Offline map state) said = refl
said_whole refusable (reply.NotAccessible map) said = refl
said_whole refusable reply.DiskFault said = refl
said_whole refusable reply.MediumError said = refl
said_whole refusable reply.NoMemory said = refl
said_whole refusable (reply.Refused refusal) said = refl

refused_whole : (refusal : Refusal) (told : Reply) → refused_of refusal ≡ Whole told → said_line told ≡ Whole told
refused_whole refusal told e =
    let same : reply.Refused refusal ≡ told = cc in
    subst (λ (r : Reply). said_line r ≡ Whole r) same refl

access_whole : (refusable of_host : Bool) (told : Reply) → FitsAccess refusable of_host (Whole told) → said_line told ≡ Whole told
access_whole refusable true told fits = said_whole refusable told fits
access_whole refusable false told fits = refused_whole fits.0 told fits.2

line_whole : (asked : Asked) (told : Reply) → FitsLine asked (Whole told) → said_line told ≡ Whole told
line_whole Unread told fits = refused_whole (Words fits.0) told fits.2
line_whole (Read volume block count) told fits = access_whole (is_short block) (is_id volume) told fits
line_whole (Write volume block count byte) told fits = access_whole (is_short block) (is_id volume) told fits
line_whole (Copy map grain) told fits = said_whole true told fits
line_whole (Clean map grain) told fits = said_whole true told fits
line_whole (CopyTurn lane) told fits = said_whole true told fits
line_whole (CleanTurn lane) told fits = said_whole true told fits
line_whole (OfCommand command) told fits = said_whole true told fits

-- the reply of a line, with the rows that stand behind it
abbrev ReportOf : ReplyLine → Reply → Type 0
ReportOf line answered = (said_line answered ≡ line) × AreRowsOf answered × (rows_text answered ≡ report_text line answered)

no_rows : (told : Reply) → said_line told ≡ Whole told → AreRowsOf told × (rows_text told ≡ [])
no_rows reply.Done e = (tt, refl)
no_rows (reply.Made kind id) e = (tt, refl)
no_rows (reply.Bytes runs) e = (tt, refl)
no_rows (reply.Listed rows) e = absurd cc
no_rows (reply.Moved map grain) e = (tt, refl)
no_rows reply.Idle e = (tt, refl)
no_rows (reply.Offline map state) e = (tt, refl)
no_rows (reply.NotAccessible map) e = (tt, refl)
no_rows reply.DiskFault e = (tt, refl)
no_rows reply.MediumError e = (tt, refl)
no_rows reply.NoMemory e = (tt, refl)
no_rows (reply.Refused refusal) e = (tt, refl)

report_to : (asked : Asked) (line : ReplyLine) (answered : Reply) → FitsLine asked line → FitsReport line answered → ReportOf line answered
report_to asked (Whole told) answered fits report =
    let whole = line_whole asked told fits in
    let none = no_rows told whole in
    let at : ReportOf (Whole told) told = (whole, none.0, none.1) in
    subst (ReportOf (Whole told)) (sym report) at
report_to asked (Rows count) answered fits report =
    let at : ReportOf (Rows count) (reply.Listed report.0) = (ap Rows report.1.0, report.1.1, refl) in
    subst (ReportOf (Rows count)) report.2 at

report_from : (answered : Reply) → AreRowsOf answered → FitsReport (said_line answered) answered
report_from reply.Done rows = refl
report_from (reply.Made kind id) rows = refl
report_from (reply.Bytes runs) rows = refl
report_from (reply.Listed list) rows = (list, (refl, rows), refl)
report_from (reply.Moved map grain) rows = refl
report_from reply.Idle rows = refl
report_from (reply.Offline map state) rows = refl
report_from (reply.NotAccessible map) rows = refl
report_from reply.DiskFault rows = refl
report_from reply.MediumError rows = refl
report_from reply.NoMemory rows = refl
report_from (reply.Refused refusal) rows = refl

text_of_line : (answered : Reply) → reply_text answered ++ codes "\n" ≡ reply_line (said_line answered)
text_of_line reply.Done = refl
text_of_line (reply.Made kind id) = refl
text_of_line (reply.Bytes runs) = refl
text_of_line (reply.Listed rows) = refl
text_of_line (reply.Moved map grain) = refl
text_of_line reply.Idle = refl
text_of_line (reply.Offline map state) = refl
text_of_line (reply.NotAccessible map) = refl
text_of_line reply.DiskFault = refl
text_of_line reply.MediumError = refl
text_of_line reply.NoMemory = refl
text_of_line (reply.Refused refusal) = refl

-- ---- parts

pub record FitsParts (size : GrainSize) (p : Parts) : Type 0 where
  pub is_name : IsName p.name
  pub exchange : IsExchange p.request p.reply
  pub rows : AreRowsOf p.reply
  pub calls : HasCalls (is_lane (turn_of size p.request)) p.calls
  pub notes : AreNotes p.notes

abbrev pub parts_text : GrainSize → ℕ → Parts → List ℕ
parts_text size number p = traced_by p.name (entry_of size number 0 p)

calls_same : (turn : Place) (calls : Option LaneCalls) → HasCalls (is_lane turn) calls →
    calls_text turn (calls_or_none calls).calls (calls_or_none calls).faults_before (calls_or_none calls).faults_after ≡ head_text calls
calls_same (place.Lane lane) (Some calls) has = refl
calls_same (place.Lane lane) None has = absurd has
calls_same place.Every (Some calls) has = absurd has
calls_same place.Every None has = refl
calls_same place.Control (Some calls) has = absurd has
calls_same place.Control None has = refl

entry_joined :
    (n sp name q arrow rp nl calls moves torn effects rows end : List ℕ) →
    n ++ sp ++ name ++ sp ++ q ++ arrow ++ rp ++ nl ++ (calls ++ moves ++ torn ++ effects) ++ rows ++ end
    ≡ (n ++ sp) ++ ((name ++ sp) ++ ((q ++ arrow) ++ ((rp ++ nl) ++ (calls ++ ((moves ++ (torn ++ effects)) ++ (rows ++ end))))))
entry_joined n sp name q arrow rp nl calls moves torn effects rows end = simp (append_assoc)

-- the same, piece by piece
pieces :
    (head name q q2 line line2 calls calls2 notes rows rows2 end : List ℕ) → q ≡ q2 → line ≡ line2 → calls ≡ calls2 → rows ≡ rows2 →
    head ++ (name ++ (q ++ (line ++ (calls ++ (notes ++ (rows ++ end)))))) ≡ head ++ (name ++ (q2 ++ (line2 ++ (calls2 ++ (notes ++ (rows2 ++ end))))))
pieces head name q q2 line line2 calls calls2 notes rows rows2 end a b c d = rw (a, b, c, d) refl

parts_to : (size : GrainSize) (number : ℕ) (x : Raw) → FitsRaw size x → FitsParts size (parts_of x) × (parts_text size number (parts_of x) ≡ raw_text number x)
parts_to size number (u, (name, (asked, (line, (calls, (notes, (answered, v))))))) fits =
    let report = report_to asked line answered fits.1.1.1.0 fits.1.1.1.1.1.1.0 in
    let exchanged = exchange_to asked line answered fits.1.1.0 fits.1.1.1.0 report.0 in
    let r : Request = request_by asked line in
    let turn : Place = turn_of size r in
    let c : LaneCalls = calls_or_none calls in (
      record {
        is_name = fits.1.0;
        exchange = exchanged.is;
        rows = report.1;
        calls = fits.1.1.1.1.0;
        notes = fits.1.1.1.1.1.0;
      },
      entry_joined (decimal number) (codes " ") name (request_text r) (codes " -> ") (reply_text answered) (codes "\n") (calls_text turn c.calls c.faults_before c.faults_after)
          (flat_map move_text notes.moves) (torn_text notes.torn) (flat_map effect_text notes.effects) (rows_text answered) (codes ".\n")
          ∙ pieces (decimal number ++ codes " ") (name ++ codes " ") (request_text r ++ codes " -> ") (asked_line asked) (reply_text answered ++ codes "\n") (reply_line line)
          (calls_text turn c.calls c.faults_before c.faults_after) (head_text calls) (lines_text notes) (rows_text answered) (report_text line answered) (codes ".\n")
          (ap (λ t. t ++ codes " -> ") ((request_line r exchanged.is.request).1 ∙ ap asked_text exchanged.asks))
          (text_of_line answered ∙ ap reply_line report.0)
          (calls_same turn calls fits.1.1.1.1.0)
          report.2,
    )

parts_from : (size : GrainSize) (p : Parts) → FitsParts size p → (x : Raw) × FitsRaw size x × (parts_of x ≡ p)
parts_from size p fits =
    let same : request_by (asked_of p.request) (said_line p.reply) ≡ p.request = request_from p.request p.reply fits.exchange in (
      (tt, (p.name, (asked_of p.request, (said_line p.reply, (p.calls, (p.notes, (p.reply, tt))))))),
      (
        tt,
        (
          fits.is_name,
          (
            asked_from p.request p.reply fits.exchange,
            (
              line_from p.request p.reply fits.exchange,
              (
                subst (λ (r : Request). HasCalls (is_lane (turn_of size r)) p.calls) (sym same) fits.calls,
                (fits.notes, (report_from p.reply fits.rows, tt)),
              ),
            ),
          ),
        ),
      ),
      ap (λ (r : Request). record { name = p.name; request = r; reply = p.reply; calls = p.calls; notes = p.notes }) same,
    )

pub Exact-parts : (size : GrainSize) (number : ℕ) → Exact (FitsParts size) (parts_text size number) nothing (parts_at size number)
Exact-parts size number =
    Exact-map {V = Raw} {W = Parts} (FitsRaw size) (raw_text number) nothing (raw_at size number) (FitsParts size) (parts_text size number) parts_of (Exact-raw size number)
    (parts_to size number) (parts_from size)

-- ---- entries

are_calls : (in_lane : Bool) (calls : Option LaneCalls) → HasCalls in_lane calls → AreCalls in_lane (calls_or_none calls)
are_calls true (Some calls) has = has
are_calls true None has = absurd has
are_calls false (Some calls) has = absurd has
are_calls false None has = refl

entry_to : (size : GrainSize) (number actor : ℕ) (p : Parts) → FitsParts size p → IsEntry size number (entry_of size number actor p)
entry_to size number actor p fits = record {
  number_is = refl;
  place_is = refl;
  exchange = fits.exchange;
  rows = fits.rows;
  calls = are_calls (is_lane (turn_of size p.request)) p.calls fits.calls;
  notes = fits.notes;
}

-- the parts of an entry
abbrev pub calls_if : Bool → LaneCalls → Option LaneCalls
calls_if true calls = Some calls
calls_if false calls = None

abbrev pub parts_with : GrainSize → List ℕ → Entry → Parts
parts_with size name entry = record {
  name = name;
  request = entry.request;
  reply = entry.reply;
  calls = calls_if (is_lane (turn_of size entry.request)) (entry_calls entry);
  notes = notes_of entry;
}

has_calls : (in_lane : Bool) (calls : LaneCalls) → AreCalls in_lane calls → HasCalls in_lane (calls_if in_lane calls)
has_calls true calls are = are
has_calls false calls are = tt

pub entry_from : (size : GrainSize) (number : ℕ) (name : List ℕ) (entry : Entry) → IsName name → IsEntry size number entry → FitsParts size (parts_with size name entry)
entry_from size number name entry is_name is = record {
  is_name = is_name;
  exchange = is.exchange;
  rows = is.rows;
  calls = has_calls (is_lane (turn_of size entry.request)) (entry_calls entry) is.calls;
  notes = is.notes;
}

calls_told : (turn : Place) (c : LaneCalls) →
    calls_text turn c.calls c.faults_before c.faults_after
    ≡ calls_text turn (calls_or_none (calls_if (is_lane turn) c)).calls (calls_or_none (calls_if (is_lane turn) c)).faults_before (calls_or_none (calls_if (is_lane turn) c)).faults_after
calls_told (place.Lane lane) c = refl
calls_told place.Every c = refl
calls_told place.Control c = refl

-- a text of an entry, by its number, its turn and its calls
abbrev text_by : List ℕ → Entry → ℕ → List ℕ → List ℕ
text_by name entry number calls =
    (decimal number ++ codes " " ++ name ++ codes " " ++ request_text entry.request ++ codes " -> " ++ reply_text entry.reply ++ codes "\n")
    ++ (calls ++ flat_map move_text entry.moves ++ torn_text entry.torn ++ flat_map effect_text entry.effects) ++ rows_text entry.reply ++ codes ".\n"

pub text_from : (size : GrainSize) (number : ℕ) (name : List ℕ) (entry : Entry) → IsEntry size number entry → traced_by name entry ≡ parts_text size number (parts_with size name entry)
text_from size number name entry is =
    let turn : Place = turn_of size entry.request in
    let c : LaneCalls = entry_calls entry in
    ap (λ n. text_by name entry n (calls_text entry.place c.calls c.faults_before c.faults_after)) is.number_is
    ∙ ap (λ (t : Place). text_by name entry number (calls_text t c.calls c.faults_before c.faults_after)) is.place_is
    ∙ ap (text_by name entry number) (calls_told turn c)

-- the texts of parts are those of entries
abbrev IsPartsText : GrainSize → ℕ → List ℕ → Type 0
IsPartsText size number = IsTextOf (FitsParts size) (parts_text size number)

text_of_parts : (size : GrainSize) (number : ℕ) (bytes : List ℕ) → IsPartsText size number bytes → IsEntryText size number bytes
text_of_parts size number bytes is =
    (is.0.name, entry_of size number 0 is.0, is.1.is_name, entry_to size number 0 is.0 is.1, is.2)

parts_of_text : (size : GrainSize) (number : ℕ) (bytes : List ℕ) → IsEntryText size number bytes → IsPartsText size number bytes
parts_of_text size number bytes is = (
  parts_with size is.0 is.1,
  entry_from size number is.0 is.1 is.2 is.3,
  is.4 ∙ text_from size number is.0 is.1 is.3,
)

pub entry-stops : (size : GrainSize) (number : ℕ) (bytes : List ℕ) (left : ℕ) → parts_at size number bytes ≡ Err left → StopsAt (IsEntryText size number) bytes (length bytes - left)
entry-stops size number bytes left e =
    let s = Exact-stops_at (FitsParts size) (parts_text size number) (parts_at size number) (Exact-parts size number) bytes left e in
    record {
      within = s.within;
      begins = (s.begins.0, text_of_parts size number (take (length bytes - left) bytes ++ s.begins.0) s.begins.1);
      stops = λ inside more is. s.stops inside more (parts_of_text size number (take (length bytes - left + 1) bytes ++ more) is);
      none = λ count is. s.none count (parts_of_text size number (take count bytes) is);
    }

pub entry-left : (size : GrainSize) (number : ℕ) (bytes : List ℕ) (left : ℕ) → parts_at size number bytes ≡ Err left → left ≤ length bytes
entry-left size number bytes left e = left_by (FitsParts size) (parts_text size number) (parts_at size number) (Exact-parts size number) bytes left e

pub entry-within : (size : GrainSize) (number : ℕ) (bytes : List ℕ) (p : Parts) (rest : List ℕ) → parts_at size number bytes ≡ Ok (p, rest) → length rest ≤ length bytes
entry-within size number bytes p rest e =
    (found_by (FitsParts size) (parts_text size number) (parts_at size number) (Exact-parts size number) bytes p rest e).within

pub entry-found :
    (size : GrainSize) (old new : HistoryState) (bytes : List ℕ) (p : Parts) (rest : List ℕ) →
    parts_at size (length old.entries) bytes ≡ Ok (p, rest) → new ≡ with_entry size p old → ReadNext size old bytes (length bytes - length rest) new
entry-found size old new bytes p rest e after =
    let number : ℕ = length old.entries in
    let actor : ℕ = number_of_actor old.actors p.name in
    let f = found_by (FitsParts size) (parts_text size number) (parts_at size number) (Exact-parts size number) bytes p rest e in
    record {
      name = p.name;
      entry = entry_of size number actor p;
      is_name = f.fits.is_name;
      actor = refl;
      is = entry_to size number actor p f.fits;
      text = f.front;
      after = after;
    }
