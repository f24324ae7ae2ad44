-- Each entry is read back from its text, and what is read next is one.
use Rattle.std.proofs.Common.{◌≡◌, ℕ, ◌-◌, ◌≤◌, Bool, true, false, List, [], ◌∷◌, ◌++◌, length, take, drop, Ok, refl, sym, ap, subst, ◌∙◌, arith}
use Rattle.std.proofs.lemmas.List.{length-drop, take-append-drop, take_at}
use Rattle.fc_base.specs.declared.request.Place.{Place}
use Rattle.fc_base.specs.declared.size.GrainSize.{GrainSize}
use Rattle.fc_entry.specs.HistoryState.{HistoryState, number_of_actor, with_actor}
use Rattle.fc_entry.specs.declared.entry.Entry.{Entry}
use Rattle.fc_reading.specs.Stops.{StopsAt}
use Rattle.fc_trace.specs.Trace.{traced_by}
use Rattle.fc_words.specs.Canonical.{IsName}
use Rattle.fc_reading_notes.specs.declared.lines.LaneCalls.{LaneCalls}
use Rattle.fc_reading_entries.specs.Entries.{AreCalls, IsEntry, IsEntryText, ReadNext, entry_calls, calls_or_none, entry_of, is_lane, parts_at, turn_of, with_entry}
use Rattle.fc_reading_entries.specs.Laws.{ReadEntriesLaw, with_next}
use Rattle.fc_reading_entries.specs.declared.parts.Parts.{Parts}
use Rattle.fc_reading.proofs.Exact.{ok_is}
use Rattle.fc_reading.proofs.Words.{Ends-nothing}
use Rattle.fc_reading_entries.proofs.EntryLemmas.{Exact-parts, calls_if, entry_from, parts_with, text_from}

-- the text of an entry is read as its parts, whatever stands behind it
parts_read : (size : GrainSize) (number : ℕ) (name : List ℕ) (entry : Entry) (rest : List ℕ) → IsName name → IsEntry size number entry →
    parts_at size number (traced_by name entry ++ rest) ≡ Ok (parts_with size name entry, rest)
parts_read size number name entry rest is_name is =
    ap (λ t. parts_at size number (t ++ rest)) (text_from size number name entry is)
    ∙ (Exact-parts size number).again (parts_with size name entry) rest (entry_from size number name entry is_name is) (Ends-nothing rest)

-- ---- its parts are those of the entry

calls_back : (in_lane : Bool) (calls : LaneCalls) → AreCalls in_lane calls → calls_or_none (calls_if in_lane calls) ≡ calls
calls_back true calls are = refl
calls_back false calls are = sym are

abbrev with_all : Entry → ℕ → Place → LaneCalls → Entry
with_all entry number turn calls = record entry {
  number = number;
  place = turn;
  faults_before = calls.faults_before;
  faults_after = calls.faults_after;
  calls = calls.calls;
}

entry_back : (size : GrainSize) (number : ℕ) (name : List ℕ) (entry : Entry) → IsEntry size number entry → entry_of size number entry.actor (parts_with size name entry) ≡ entry
entry_back size number name entry is =
    let turn : Place = turn_of size entry.request in
    ap (with_all entry number turn) (calls_back (is_lane turn) (entry_calls entry) is.calls)
    ∙ ap (λ (n : ℕ). with_all entry n turn (entry_calls entry)) (sym is.number_is)
    ∙ ap (λ (t : Place). with_all entry entry.number t (entry_calls entry)) (sym is.place_is)

-- what was read next, by its parts
after_parts : (size : GrainSize) (old : HistoryState) (bytes : List ℕ) (count : ℕ) (new : HistoryState) (r : ReadNext size old bytes count new) →
    new ≡ with_entry size (parts_with size r.name r.entry) old
after_parts size old bytes count new r =
    let number : ℕ = length old.entries in
    let same : entry_of size number (number_of_actor old.actors r.name) (parts_with size r.name r.entry) ≡ r.entry =
    ap (λ (a : ℕ). entry_of size number a (parts_with size r.name r.entry)) (sym r.actor) ∙ entry_back size number r.name r.entry r.is in
    r.after ∙ ap (λ (e : Entry). record { actors = with_actor old.actors r.name; entries = old.entries ++ e ∷ [] }) (sym same)

parts_next : (size : GrainSize) (old : HistoryState) (bytes : List ℕ) (count : ℕ) (new : HistoryState) (r : ReadNext size old bytes count new) →
    parts_at size (length old.entries) bytes ≡ Ok (parts_with size r.name r.entry, drop count bytes)
parts_next size old bytes count new r =
    ap (parts_at size (length old.entries)) (sym (take-append-drop count bytes) ∙ ap (λ t. t ++ drop count bytes) r.text)
    ∙ parts_read size (length old.entries) r.name r.entry (drop count bytes) r.is_name r.is

one_reading :
    (size : GrainSize) (old : HistoryState) (bytes : List ℕ) (count other : ℕ) (new next : HistoryState) → count ≤ length bytes → other ≤ length bytes →
    ReadNext size old bytes count new → ReadNext size old bytes other next → (count ≡ other) × (new ≡ next)
one_reading size old bytes count other new next within also one two =
    let both : ◌≡◌ {A = Parts × List ℕ} (parts_with size one.name one.entry, drop count bytes) (parts_with size two.name two.entry, drop other bytes) =
    ok_is _ _ (sym (parts_next size old bytes count new one) ∙ parts_next size old bytes other next two) in
    let rests : length (drop count bytes) ≡ length (drop other bytes) = ap (λ (x : Parts × List ℕ). length x.1) both in (
      omega (arith, rests, length-drop count bytes, length-drop other bytes),
      after_parts size old bytes count new one
          ∙ ap (λ (x : Parts × List ℕ). with_entry size x.0 old) both
          ∙ sym (after_parts size old bytes other next two),
    )

read_back :
    (size : GrainSize) (old : HistoryState) (name : List ℕ) (entry : Entry) (rest : List ℕ) → IsName name → IsEntry size (length old.entries) entry →
    ReadNext size old (traced_by name entry ++ rest) (length (traced_by name entry)) (with_next name entry old)
read_back size old name entry rest is_name is = record {
  name = name;
  entry = record entry { actor = number_of_actor old.actors name };
  is_name = is_name;
  actor = refl;
  is = record { number_is = is.number_is; place_is = is.place_is; exchange = is.exchange; rows = is.rows; calls = is.calls; notes = is.notes };
  text = take_at (traced_by name entry) rest (length (traced_by name entry)) refl;
  after = refl;
}

never_stops :
    (size : GrainSize) (number : ℕ) (text rest : List ℕ) (place : ℕ) → IsEntryText size number text → StopsAt (IsEntryText size number) (text ++ rest) place → ⊥
never_stops size number text rest place is stops =
    stops.none (length text) (subst (IsEntryText size number) (sym (take_at text rest (length text) refl)) is)

pub read_entries_law_holds : ReadEntriesLaw
read_entries_law_holds = record { read_back = read_back; never_stops = never_stops; one_reading = one_reading }
