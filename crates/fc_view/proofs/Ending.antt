-- What was drawn so far, and how a view ends.
use Rattle.std.proofs.Common.{◌≡◌, ℕ, ◌+◌, ◌-◌, ◌<◌, ◌≤◌, Option, Some, None, IfSome, Ok, Err, Result, IfErr, MatchResult, OnOk, List, [], ◌++◌, length, take, drop, inl, inr, refl, sym, ap, subst, ◌∙◌, arith}
use Rattle.std.proofs.lemmas.List.{drop_all, length-drop, take_rest}
use Rattle.fc_check.specs.Checked.{IsAll}
use Rattle.fc_check.specs.Input.{TakenSome, TakenTo}
use Rattle.fc_check.specs.declared.input.InputEnd.TheVariants.{Over, Fault, TooLong as InputTooLong}
use Rattle.fc_check.specs.Traces.{IsTraceOf, nothing_told}
use Rattle.fc_check.proofs.StopLemmas.{read_some, trace_read}
use Rattle.fc_check.proofs.TraceLemmas.{trace_opened}
use Rattle.fc_check.proofs.WayLemmas.{legal_of_right}
use Rattle.fc_drawing.specs.Drawn.{Drawn}
use Rattle.fc_drawing.specs.declared.drawing.Seen.{Seen}
use Rattle.fc_drawing.specs.declared.drawing.Seen.TheVariants.{Malformed, Right}
use Rattle.fc_entry.specs.HistoryState.{HistoryState}
use Rattle.fc_entry.specs.declared.entry.Entry.{Entry}
use Rattle.fc_io.specs.Source.{SourceState}
use Rattle.fc_reading.specs.Header.{AreFour, IsHeader}
use Rattle.fc_reading.specs.Stops.{StopsAt}
use Rattle.fc_trace.specs.Trace.{header_text}
use Rattle.fc_trace.specs.declared.header.Header.{Header}
use Rattle.fc_view.specs.Behind.{IsBehind, IsNextDrawn, IsWant}
use Rattle.fc_view.specs.Drawings.{AreDrawings}
use Rattle.fc_view.specs.Views.{EndsAs, IsView, IsViewOf, Views, behind_those}
use Rattle.fc_view.specs.declared.behind.Behind.{Behind}
use Rattle.fc_view.specs.declared.stop.ViewStop.{ViewStop}
use Rattle.fc_view.specs.declared.stop.ViewStop.TheVariants.{LogFull, NoMemory, ReadFault, TooLong, WriteFault}
use Rattle.fc_view.proofs.Following.{entries_more, right_of}
use Rattle.fc_view.proofs.Listing.{drawings_more, drawings_none}
use Rattle.fc_view.proofs.Showing.{behind_both, behind_none}

-- The bytes before a place are a trace, of which all is known, and whose entries were drawn.
pub record IsSoFar (header : Header) (at : Option ℕ) (bytes : List ℕ) (place : ℕ) (behind : Behind) (old now : Option (List Drawn)) : Type 0 where
  pub within : place ≤ length bytes
  pub trace : IsTraceOf header behind.progress.history (take place bytes)
  pub known : IsBehind header behind
  pub drawn : List Drawn
  pub now_is : now ≡ behind_those old drawn
  pub drawings : AreDrawings header at behind.progress.history.entries drawn

pub so_far_first : (header : Header) (at : Option ℕ) (bytes : List ℕ) (place : ℕ) (behind : Behind) (old : Option (List Drawn)) → place ≤ length bytes → AreFour header.lanes →
    take place bytes ≡ header_text header.grain header.lanes → IsBehind header behind → behind.progress.history ≡ nothing_told → IsSoFar header at bytes place behind old old
so_far_first header at bytes place behind old within four line known none = record {
  within = within;
  trace =
      subst (λ (h : HistoryState). IsTraceOf header h (take place bytes)) (sym none)
      (subst (IsTraceOf header nothing_told) (sym line) (trace_opened header four));
  known = known;
  drawn = [];
  now_is = sym (behind_none old);
  drawings = drawings_none header at behind.progress.history.entries (ap (λ (h : HistoryState). h.entries) none);
}

-- what stands from the place on
pub from_place : (bytes : List ℕ) (place : ℕ) (Holds : List ℕ → Type 0) → Holds (take (length bytes - place) (drop place bytes)) → Holds (drop place bytes)
from_place bytes place Holds holds = subst Holds (take_rest bytes place) holds

pub so_far_more : (header : Header) (at : Option ℕ) (bytes : List ℕ) (place count : ℕ) (behind new : Behind) (old now next : Option (List Drawn)) →
    IsSoFar header at bytes place behind old now → IsNextDrawn header at behind (take (length bytes - place) (drop place bytes)) count new now next →
    IsSoFar header at bytes (place + count) new old next
so_far_more header at bytes place count behind new old now next so_far drawn =
    let more = from_place bytes place (λ l. IsNextDrawn header at behind l count new now next) drawn in
    record {
      within = omega (arith, more.within, so_far.within, length-drop place bytes);
      trace = trace_read header behind.progress.history new.progress.history bytes place count so_far.within so_far.trace more.read;
      known = more.behind;
      drawn = so_far.drawn ++ more.drawn;
      now_is =
          more.now_is ∙ ap (λ (o : Option (List Drawn)). behind_those o more.drawn) so_far.now_is ∙ behind_both old so_far.drawn more.drawn;
      drawings =
          subst (λ (l : List Entry). AreDrawings header at l (so_far.drawn ++ more.drawn))
          (sym (entries_more header.grain behind.progress.history new.progress.history (drop place bytes) count more.read))
          (drawings_more header at behind.progress.history.entries more.read.entry so_far.drawn more.drawn so_far.drawings more.drawings);
    }

pub next_some : (header : Header) (at : Option ℕ) (bytes : List ℕ) (count : ℕ) (behind new : Behind) (now next : Option (List Drawn)) → IsNextDrawn header at behind bytes count new now next → 0 < count
next_some header at bytes count behind new now next more = read_some header.grain behind.progress.history new.progress.history bytes count more.read

-- ---- the end

pub viewed : (header : Header) (at : Option ℕ) (bytes : List ℕ) (place : ℕ) (behind : Behind) (seen : Seen) (old now : Option (List Drawn)) → IsSoFar header at bytes place behind old now →
    EndsAs seen header behind.progress.history place (drop place bytes) → IsView (Ok seen) at bytes old now
viewed header at bytes place behind seen old now so_far ends = (
  so_far.drawn,
  so_far.now_is,
  inl (record {
    header = header;
    history = behind.progress.history;
    place = place;
    within = so_far.within;
    trace = so_far.trace;
    right = legal_of_right header behind.progress.history.entries behind.progress.candidates (right_of header behind.progress so_far.known.right so_far.known.unbroken);
    drawings = so_far.drawings;
    ends = ends;
  }),
)

pub viewed_all : (header : Header) (at : Option ℕ) (bytes : List ℕ) (place : ℕ) (behind : Behind) (count : ℕ) (old now : Option (List Drawn)) → IsSoFar header at bytes place behind old now →
    count ≡ length behind.progress.history.entries → length bytes ≤ place → IsView (Ok (Right count)) at bytes old now
viewed_all header at bytes place behind count old now so_far all end =
    viewed header at bytes place behind (Right count) old now so_far (all, None, drop_all place bytes end)

pub viewed_none : (at : Option ℕ) (bytes : List ℕ) (place : ℕ) (old : Option (List Drawn)) → StopsAt IsHeader bytes place → IsView (Ok (Malformed place)) at bytes old old
viewed_none at bytes place old stops = ([], sym (behind_none old), inr (stops, refl))

pub want_viewed : (stop : ViewStop) (at : Option ℕ) (bytes : List ℕ) (old now : Option (List Drawn)) → IsWant stop → IsView (Err stop) at bytes old now
want_viewed WriteFault at bytes old now want = tt
want_viewed NoMemory at bytes old now want = tt
want_viewed ReadFault at bytes old now want = absurd want
want_viewed TooLong at bytes old now want = absurd want
want_viewed LogFull at bytes old now want = absurd want

-- where no more was drawn by what was put behind the entries
pub put_viewed : (put : Result (Unit {0}) ViewStop) (answer : Result Seen ViewStop) (seen : Seen) (at : Option ℕ) (bytes : List ℕ) (old now next : Option (List Drawn)) →
    MatchResult put (λ done. answer ≡ Ok seen) (λ stop. answer ≡ Err stop) → OnOk put (next ≡ now) → IfErr put IsWant → IsView (Ok seen) at bytes old now → IsView answer at bytes old next
put_viewed (Ok done) answer seen at bytes old now next is same refused view =
    subst (λ (a : Result Seen ViewStop). IsView a at bytes old next) (sym is) (subst (λ (n : Option (List Drawn)). IsView (Ok seen) at bytes old n) (sym same) view)
put_viewed (Err stop) answer seen at bytes old now next is same refused view =
    subst (λ (a : Result Seen ViewStop). IsView a at bytes old next) (sym is) (want_viewed stop at bytes old next refused)

-- all bytes of a source
pub views_all : (answer : Result Seen ViewStop) (at : Option ℕ) (before after : SourceState) (bytes past : List ℕ) (old now : Option (List Drawn)) → IsView answer at bytes old now →
    IsAll past after → Views answer at before bytes past after old now
views_all (Ok seen) at before after bytes past old now view all = (view, all)
views_all (Err LogFull) at before after bytes past old now view all = (view, all)
views_all (Err WriteFault) at before after bytes past old now view all = tt
views_all (Err NoMemory) at before after bytes past old now view all = tt
views_all (Err ReadFault) at before after bytes past old now view all = absurd view
views_all (Err TooLong) at before after bytes past old now view all = absurd view

-- by how taking them ended
pub viewed_over : (answer : Result Seen ViewStop) (at : Option ℕ) (before after : SourceState) (bytes : List ℕ) (old now : Option (List Drawn)) → TakenTo Over before bytes after →
    IsView answer at bytes old now → IsViewOf answer at before after old now
viewed_over answer at before after bytes old now taken view = record {
  bytes = bytes;
  past = taken.past;
  taken = taken.taken;
  views = views_all answer at before after bytes taken.past old now view taken.ends;
}

pub viewed_fault : (at : Option ℕ) (before after : SourceState) (bytes : List ℕ) (old : Option (List Drawn)) → TakenTo Fault before bytes after → IsViewOf (Err ReadFault) at before after old old
viewed_fault at before after bytes old taken = record { bytes = bytes; past = taken.past; taken = taken.taken; views = (taken.ends.0, taken.ends.1, refl) }

pub viewed_long : (at : Option ℕ) (before after : SourceState) (bytes : List ℕ) (old : Option (List Drawn)) → TakenTo InputTooLong before bytes after → IsViewOf (Err TooLong) at before after old old
viewed_long at before after bytes old taken = record { bytes = bytes; past = taken.past; taken = taken.taken; views = (taken.ends, refl) }

pub viewed_some : (at : Option ℕ) (before after : SourceState) (old : Option (List Drawn)) → TakenSome before after → IsViewOf (Err NoMemory) at before after old old
viewed_some at before after old taken = record { bytes = taken.bytes; past = taken.past; taken = taken.taken; views = tt }

-- the number of the first wrong one
pub named_of : (wrong : Option ℕ) (number count : ℕ) → wrong ≡ Some number → IfSome wrong (λ n. n ≡ count) → number ≡ count
named_of wrong number count is named = subst (λ (w : Option ℕ). IfSome w (λ n. n ≡ count)) is named
