-- From how a session was read and written to how it ended.
use Rattle.std.proofs.Common.{◌≡◌, ℕ, ◌+◌, ◌≤◌, Bool, true, false, List, [], ◌∷◌, ◌++◌, length, length-append, refl, sym, subst, arith, inl, inr, Option, Some, None}
use Rattle.std.specs.Option.{option_map}
use Rattle.std.proofs.lemmas.List.{append-nil}
use Rattle.fc_entry.specs.HistoryState.{HistoryState}
use Rattle.fc_entry.specs.Lines.{ended_lines, all_lines}
use Rattle.fc_entry.proofs.LineLemmas.{Grows, ended_lines-grow}
use Rattle.fc_entry.specs.declared.stop.Stop.TheVariants.{LogFull, NoMemory}
use Rattle.fc_io.specs.Sink.{SinkState}
use Rattle.fc_io.specs.Source.{SourceState}
use Rattle.fc_run.specs.Headline.{EndsAs, EndsAtEnd, Session, SessionEnds}
use Rattle.fc_run.specs.Input.{OfFirst, OfFirstTaken, input_limit}
use Rattle.fc_run.specs.Output.{HasFailed, HasGot, IsPut, IsWritten, behind_first_line, first_line, text_so_far}
use Rattle.fc_run.specs.ReadTo.{EndsInput, SessionRead, ended_for, is_write_fault}
use Rattle.fc_run.specs.Runs.{Runs}
use Rattle.fc_run.proofs.OutputLemmas.{HasFailed-unbegun, HasFailed-whole, IsWritten-behind, held_nothing}
use Rattle.fc_run.specs.Summary.{form_text}
use Rattle.fc_run.specs.declared.ended.Ended.{Ended}
use Rattle.fc_run.specs.declared.ended.Ended.TheVariants as ended
use Rattle.fc_run.specs.declared.form.Form.{Form}
use Rattle.fc_run.specs.declared.reading.Ending.{Ending}
use Rattle.fc_run.specs.declared.reading.Ending.TheVariants as ending

-- whole lines are some first ones
OfFirst-all : (lines : List (List ℕ)) (Holds : List (List ℕ) → Type 0) → Holds lines → OfFirst lines Holds
OfFirst-all lines Holds holds = record { first = lines; rest = []; split = sym (append-nil lines); holds = holds }

OfFirst-map :
    (lines : List (List ℕ)) (Holds Also : List (List ℕ) → Type 0) →
    ((first : List (List ℕ)) → Holds first → Also first) →
    OfFirst lines Holds →
    OfFirst lines Also
OfFirst-map lines Holds Also also of = record { first = of.first; rest = of.rest; split = of.split; holds = also of.first of.holds }

-- a session from outside
abbrev pub session_of : Ended → Form → SourceState → SourceState → SinkState → SinkState → HistoryState → Session
session_of e form source source' sink sink' history =
    record { ended = e; form = form; source = source; source' = source'; sink = sink; sink' = sink'; history = history }

-- the lines that ended before the byte past the limit are some first ones
kept_first :
    (source : SourceState) (bytes kept : List ℕ) (past : ℕ) (Holds : List (List ℕ) → Type 0) →
    bytes ≡ kept ++ past ∷ [] →
    Holds (ended_lines kept) →
    OfFirstTaken source bytes Holds
kept_first source bytes kept past Holds is holds =
    let P : List ℕ → Type 0 = λ all. OfFirstTaken source all Holds in
    let grows : Grows (ended_lines kept) (ended_lines (kept ++ past ∷ [])) = ended_lines-grow kept (past ∷ []) in
    subst P (sym is)
    record {
      lines = ended_lines (kept ++ past ∷ []);
      are = inl refl;
      of = record { first = ended_lines kept; rest = grows.more; split = grows.is; holds = holds };
    }

past_length : (bytes kept : List ℕ) (past : ℕ) → bytes ≡ kept ++ past ∷ [] → length kept ≡ input_limit → length bytes ≤ input_limit + 1
past_length bytes kept past is full =
    let P : List ℕ → Type 0 = λ all. length all ≤ input_limit + 1 in
    subst P (sym is) (omega (arith, length-append kept (past ∷ []), full))

-- the sink failed before the end of input
pub SessionEnds-unwritten :
    (of form : Form) (put : ℕ) (source source' : SourceState) (sink begun sink' : SinkState) (runs : Runs) (history : HistoryState) →
    of ≡ form →
    HasGot sink (first_line of) begun →
    SessionRead ending.WriteFault source source' runs history →
    IsPut begun of put history true sink' →
    SessionEnds (session_of ended.WriteFault form source source' sink sink' history) runs
SessionEnds-unwritten of form put source source' sink begun sink' runs history same begins read puts =
    let P : Form → Type 0 = λ f. HasFailed sink (form_text f history) sink' in
    let cut : HasFailed sink (form_text form history) sink' = subst P same (HasFailed-whole sink begun sink' of history begins puts.cut) in
    record {
      bytes = read.bytes;
      gave = read.gave;
      ends = (
        cut.risen,
        omega (arith, read.ends.0),
        record { lines = ended_lines read.bytes; are = inl refl; of = OfFirst-all (ended_lines read.bytes) _ (inl read.ends.1) },
        cut.front,
      );
    }

-- all lines were answered at the end of input, inside something open or not, and the sink failed
unwritten_at_end :
    (is_open : Bool) (form : Form) (source source' : SourceState) (sink sink' : SinkState) (runs : Runs) (history : HistoryState) (bytes : List ℕ) →
    EndsInput is_open source' runs bytes history →
    HasFailed sink (form_text form history) sink' →
    EndsAs ended.WriteFault (session_of ended.WriteFault form source source' sink sink' history) runs bytes
unwritten_at_end is_open form source source' sink sink' runs history bytes ends cut = (
  cut.risen,
  omega (arith, ends.1),
  record { lines = all_lines bytes; are = inr (ends.0, refl); of = OfFirst-all (all_lines bytes) _ (inl ends.2) },
  cut.front,
)

-- they were, and the text was written
written_at_end :
    (is_open : Bool) (e : Ended) (form : Form) (source source' : SourceState) (sink sink' : SinkState) (runs : Runs) (history : HistoryState) (bytes : List ℕ) →
    EndsInput is_open source' runs bytes history →
    IsWritten sink (form_text form history) false sink' →
    EndsAtEnd is_open (session_of e form source source' sink sink' history) runs bytes
written_at_end is_open e form source source' sink sink' runs history bytes ends written = (ends.0, ends.1, ends.2, ends.3, (written.got.held, written.sent))

-- the session was read to another end, and what was left of the text was to be written
SessionEnds-written :
    (e : Ending) (failed : Bool) (form : Form) (source source' : SourceState) (sink sink' : SinkState) (runs : Runs) (history : HistoryState) →
    (e ≡ ending.WriteFault → ⊥) →
    SessionRead e source source' runs history →
    IsWritten sink (form_text form history) failed sink' →
    SessionEnds (session_of (ended_for e failed) form source source' sink sink' history) runs
SessionEnds-written ending.End false form source source' sink sink' runs history other read written = record {
  bytes = read.bytes;
  gave = read.gave;
  ends = written_at_end false ended.Done form source source' sink sink' runs history read.bytes read.ends written;
}
SessionEnds-written ending.End true form source source' sink sink' runs history other read written = record {
  bytes = read.bytes;
  gave = read.gave;
  ends = unwritten_at_end false form source source' sink sink' runs history read.bytes read.ends written.cut;
}
SessionEnds-written ending.Unended false form source source' sink sink' runs history other read written = record {
  bytes = read.bytes;
  gave = read.gave;
  ends = written_at_end true ended.Unended form source source' sink sink' runs history read.bytes read.ends written;
}
SessionEnds-written ending.Unended true form source source' sink sink' runs history other read written = record {
  bytes = read.bytes;
  gave = read.gave;
  ends = unwritten_at_end true form source source' sink sink' runs history read.bytes read.ends written.cut;
}
SessionEnds-written ending.ReadFault false form source source' sink sink' runs history other read written = record {
  bytes = read.bytes;
  gave = read.gave;
  ends = (read.ends.0, read.ends.1, read.ends.2, (written.got.held, written.sent));
}
SessionEnds-written ending.ReadFault true form source source' sink sink' runs history other read written = record {
  bytes = read.bytes;
  gave = read.gave;
  ends = (
    written.cut.risen,
    omega (arith, read.ends.1),
    record { lines = ended_lines read.bytes; are = inl refl; of = OfFirst-all (ended_lines read.bytes) _ (inl read.ends.2) },
    written.cut.front,
  );
}
SessionEnds-written ending.TooLong false form source source' sink sink' runs history other read written = record {
  bytes = read.bytes;
  gave = read.gave;
  ends = (read.ends.0, read.ends.1, read.ends.2, read.ends.3, read.ends.4, (written.got.held, written.sent));
}
SessionEnds-written ending.TooLong true form source source' sink sink' runs history other read written = record {
  bytes = read.bytes;
  gave = read.gave;
  ends = (
    written.cut.risen,
    past_length read.bytes read.ends.0 read.ends.1 read.ends.2 read.ends.3,
    kept_first source' read.bytes read.ends.0 read.ends.1 _ read.ends.2 (inl read.ends.4),
    written.cut.front,
  );
}
SessionEnds-written ending.WriteFault failed form source source' sink sink' runs history other read written = absurd (other refl)
SessionEnds-written (ending.Stopped LogFull) false form source source' sink sink' runs history other read written = record {
  bytes = read.bytes;
  gave = read.gave;
  ends = (
    read.ends.0,
    record { lines = read.ends.1.0; are = read.ends.1.1; of = read.ends.1.2.0 },
    read.ends.1.2.1,
    (written.got.held, written.sent),
  );
}
SessionEnds-written (ending.Stopped LogFull) true form source source' sink sink' runs history other read written = record {
  bytes = read.bytes;
  gave = read.gave;
  ends = (
    written.cut.risen,
    omega (arith, read.ends.0),
    record {
      lines = read.ends.1.0;
      are = read.ends.1.1;
      of = OfFirst-map read.ends.1.0 _ _ (λ first full. inr full) read.ends.1.2.0;
    },
    written.cut.front,
  );
}
SessionEnds-written (ending.Stopped NoMemory) false form source source' sink sink' runs history other read written = record {
  bytes = read.bytes;
  gave = read.gave;
  ends = (
    read.ends.0,
    record { lines = read.ends.1.0; are = read.ends.1.1; of = read.ends.1.2 },
    record { front = form_text form history; rest = []; split = sym (append-nil (form_text form history)); added = written.got.held },
  );
}
SessionEnds-written (ending.Stopped NoMemory) true form source source' sink sink' runs history other read written = record {
  bytes = read.bytes;
  gave = read.gave;
  ends = (
    read.ends.0,
    record { lines = read.ends.1.0; are = read.ends.1.1; of = read.ends.1.2 },
    written.cut.front,
  );
}

is_write_fault-other : (e : Ending) → (e ≡ ending.WriteFault → ⊥) → is_write_fault e ≡ false
is_write_fault-other ending.End other = refl
is_write_fault-other ending.Unended other = refl
is_write_fault-other ending.ReadFault other = refl
is_write_fault-other ending.TooLong other = refl
is_write_fault-other ending.WriteFault other = absurd (other refl)
is_write_fault-other (ending.Stopped stop) other = refl

-- what was left of the text was to be written behind what was put
written_behind :
    (e : Ending) (failed : Bool) (first out form : Form) (put : ℕ) (sink begun mid sink' : SinkState) (history : HistoryState) →
    (e ≡ ending.WriteFault → ⊥) →
    first ≡ form →
    out ≡ first →
    HasGot sink (first_line first) begun →
    IsPut begun first put history (is_write_fault e) mid →
    ((start : SinkState) → HasGot start (text_so_far out put history) mid → IsWritten start (behind_first_line out history) failed sink') →
    IsWritten sink (form_text form history) failed sink'
written_behind e failed first out form put sink begun mid sink' history other same kept begins puts writes =
    let P : Bool → Type 0 = λ b. IsPut begun first put history b mid in
    let Q : Form → Type 0 = λ f. HasGot begun (text_so_far f put history) mid → IsWritten begun (behind_first_line f history) failed sink' in
    let R : Form → Type 0 = λ f. IsWritten sink (form_text f history) failed sink' in
    let so_far : IsPut begun first put history false mid = subst P (is_write_fault-other e other) puts in
    subst R same (IsWritten-behind sink begun sink' first history failed begins (subst Q kept (writes begun) so_far.got))

-- how the session ended is what was computed
pub SessionEnds-by :
    (result : Ended) (e : Ending) (failed : Bool) (first out form : Form) (put : ℕ) (source source' : SourceState) (sink begun mid sink' : SinkState) (runs : Runs) (history : HistoryState) →
    result ≡ ended_for e failed →
    (e ≡ ending.WriteFault → ⊥) →
    first ≡ form →
    out ≡ first →
    HasGot sink (first_line first) begun →
    SessionRead e source source' runs history →
    IsPut begun first put history (is_write_fault e) mid →
    ((start : SinkState) → HasGot start (text_so_far out put history) mid → IsWritten start (behind_first_line out history) failed sink') →
    SessionEnds (session_of result form source source' sink sink' history) runs
SessionEnds-by result e failed first out form put source source' sink begun mid sink' runs history is other same kept begins read puts writes =
    let P : Ended → Type 0 = λ r. SessionEnds (session_of r form source source' sink sink' history) runs in
    subst P (sym is)
    (SessionEnds-written e failed form source source' sink sink' runs history other read
    (written_behind e failed first out form put sink begun mid sink' history other same kept begins puts writes))

gave_nothing : (left : Option (List ℕ)) → left ≡ option_map (λ rest. [] ++ rest) left
gave_nothing None = refl
gave_nothing (Some rest) = refl

-- the sink failed before anything was read
pub SessionEnds-unbegun :
    (of form : Form) (source : SourceState) (sink sink' : SinkState) (runs : Runs) (history : HistoryState) →
    of ≡ form →
    runs.Whole [] history →
    HasFailed sink (first_line of) sink' →
    SessionEnds (session_of ended.WriteFault form source source sink sink' history) runs
SessionEnds-unbegun of form source sink sink' runs history same whole failed =
    let P : Form → Type 0 = λ f. HasFailed sink (form_text f history) sink' in
    let cut : HasFailed sink (form_text form history) sink' = subst P same (HasFailed-unbegun sink sink' of history failed) in
    record {
      bytes = [];
      gave = gave_nothing source.left;
      ends = (
        cut.risen,
        omega arith,
        record { lines = []; are = inl refl; of = OfFirst-all [] _ (inl whole) },
        cut.front,
      );
    }

-- memory was wanted before anything was read
pub SessionEnds-starved :
    (form : Form) (source : SourceState) (sink : SinkState) (runs : Runs) (history : HistoryState) →
    runs.Whole [] history →
    SessionEnds (session_of ended.NoMemory form source source sink sink history) runs
SessionEnds-starved form source sink runs history whole = record {
  bytes = [];
  gave = gave_nothing source.left;
  ends = (
    omega arith,
    record { lines = []; are = inl refl; of = OfFirst-all [] _ (inl whole) },
    record { front = []; rest = form_text form history; split = refl; added = held_nothing sink.held },
  );
}
