-- What the sink gets: text behind text, sent on or cut.
use Rattle.std.proofs.Common.{◌≡◌, ℕ, ◌≤◌, Bool, true, false, List, [], ◌++◌, take, drop, refl, sym, ◌∙◌, ap, subst, arith, append_assoc, Option, Some, None, inl, inr}
use Rattle.std.proofs.lemmas.List.{append-nil, take-append-drop}
use Rattle.std.proofs.lemmas.List.Concat.{flat_map-append}
use Rattle.std.specs.List.{flat_map}
use Rattle.fc_base.specs.Count.{HasRisen}
use Rattle.fc_entry.specs.HistoryState.{HistoryState}
use Rattle.fc_entry.specs.declared.entry.Entry.{Entry}
use Rattle.fc_entry.specs.Text.{entry_text}
use Rattle.fc_entry.specs.Written.{Written}
use Rattle.fc_io.specs.Sink.{AddsFront, AfterFlush, SinkState, held_with}
use Rattle.fc_run.specs.Output.{HasFailed, HasGot, IsWritten, behind_first_line, first_line, text_left, text_so_far}
use Rattle.fc_run.specs.Summary.{form_text}
use Rattle.fc_trace.specs.Trace.{traced_text}
use Rattle.fc_run.specs.declared.form.Form.{Form}
use Rattle.fc_run.specs.declared.form.Form.TheVariants as form

held_with-append : (held : Option (List ℕ)) (t u : List ℕ) → held_with (held_with held t) u ≡ held_with held (t ++ u)
held_with-append None t u = refl
held_with-append (Some bytes) t u = ap Some (append_assoc bytes t u)

pub HasRisen-before : (old now new : ℕ) → old ≤ now → HasRisen now new → HasRisen old new
HasRisen-before old now new le (inl rose) = inl (omega arith)
HasRisen-before old now new le (inr last) = inr last

-- more text was put, and then sent on
put_and_flushed :
    (before old put new : SinkState) (so_far text whole : List ℕ) (failed : Bool) →
    so_far ++ text ≡ whole →
    HasGot before so_far old →
    Written old text false put →
    AfterFlush put failed new →
    IsWritten before whole failed new
put_and_flushed before old put new so_far text whole true all got written flushed = record {
  got = tt;
  sent = tt;
  cut = record {
    front = record {
      front = whole;
      rest = [];
      split = sym (append-nil whole);
      added = flushed.held ∙ held;
    };
    risen = HasRisen-before before.faults old.faults new.faults got.faults (HasRisen-before old.faults put.faults new.faults written.faults.kept flushed.faults.cause);
  };
}
  where
    held : put.held ≡ held_with before.held whole
    held = written.held ∙ ap (λ h. held_with h text) got.held ∙ held_with-append before.held so_far text ∙ ap (held_with before.held) all
put_and_flushed before old put new so_far text whole false all got written flushed = record {
  got = record { held = flushed.held ∙ held; faults = omega (arith, got.faults, written.faults.kept, flushed.faults.kept) };
  sent = flushed.sent;
  cut = tt;
}
  where
    held : put.held ≡ held_with before.held whole
    held = written.held ∙ ap (λ h. held_with h text) got.held ∙ held_with-append before.held so_far text ∙ ap (held_with before.held) all

-- not all of the text was put
put_and_cut :
    (before old new : SinkState) (so_far text whole : List ℕ) →
    so_far ++ text ≡ whole →
    HasGot before so_far old →
    Written old text true new →
    IsWritten before whole true new
put_and_cut before old new so_far text whole all got written =
    let adds : AddsFront old.held text new.held = written.front in
    record {
      got = tt;
      sent = tt;
      cut = record {
        front = record {
          front = so_far ++ adds.front;
          rest = adds.rest;
          split = sym all ∙ ap (λ t. so_far ++ t) adds.split ∙ sym (append_assoc so_far adds.front adds.rest);
          added = adds.added ∙ ap (λ h. held_with h adds.front) got.held ∙ held_with-append before.held so_far adds.front;
        };
        risen = HasRisen-before before.faults old.faults new.faults got.faults written.faults.cause;
      };
    }

-- what is put so far and what is left are all that stands behind the first line
texts-joined : (text : Entry → List ℕ) (entries : List Entry) (count : ℕ) → flat_map text (take count entries) ++ flat_map text (drop count entries) ≡ flat_map text entries
texts-joined text entries count =
    sym (flat_map-append text (take count entries) (drop count entries)) ∙ ap (flat_map text) (take-append-drop count entries)

all-put : (of : Form) (put : ℕ) (history : HistoryState) → text_so_far of put history ++ text_left of put history ≡ behind_first_line of history
all-put form.Text put history = texts-joined (entry_text history.actors) history.entries put
all-put (form.Trace header) put history = texts-joined (traced_text history.actors) history.entries put
all-put form.Summary put history = refl

pub left-flushed :
    (of : Form) (count : ℕ) (history : HistoryState) (before old put new : SinkState) (failed : Bool) →
    HasGot before (text_so_far of count history) old →
    Written old (text_left of count history) false put →
    AfterFlush put failed new →
    IsWritten before (behind_first_line of history) failed new
left-flushed of count history before old put new failed =
    put_and_flushed before old put new (text_so_far of count history) (text_left of count history) (behind_first_line of history) failed (all-put of count history)

pub left-cut :
    (of : Form) (count : ℕ) (history : HistoryState) (before old new : SinkState) →
    HasGot before (text_so_far of count history) old →
    Written old (text_left of count history) true new →
    IsWritten before (behind_first_line of history) true new
left-cut of count history before old new =
    put_and_cut before old new (text_so_far of count history) (text_left of count history) (behind_first_line of history) (all-put of count history)

-- ---- what is put behind a first line

pub held_nothing : (held : Option (List ℕ)) → held ≡ held_with held []
held_nothing None = refl
held_nothing (Some bytes) = ap Some (sym (append-nil bytes))

-- nothing was to be put
pub HasGot-nothing : (sink : SinkState) → HasGot sink [] sink
HasGot-nothing sink = record { held = held_nothing sink.held; faults = omega arith }

pub HasGot-written : (before : SinkState) (text : List ℕ) (now : SinkState) → Written before text false now → HasGot before text now
HasGot-written before text now written = record { held = written.held; faults = written.faults.kept }

pub HasFailed-written : (before : SinkState) (text : List ℕ) (now : SinkState) → Written before text true now → HasFailed before text now
HasFailed-written before text now written = record { front = written.front; risen = written.faults.cause }

HasGot-behind :
    (before mid now : SinkState) (first text : List ℕ) → HasGot before first mid → HasGot mid text now → HasGot before (first ++ text) now
HasGot-behind before mid now first text begun got = record {
  held = got.held ∙ ap (λ h. held_with h text) begun.held ∙ held_with-append before.held first text;
  faults = omega (arith, begun.faults, got.faults);
}

HasFailed-behind :
    (before mid now : SinkState) (first text : List ℕ) → HasGot before first mid → HasFailed mid text now → HasFailed before (first ++ text) now
HasFailed-behind before mid now first text begun failed =
    let adds : AddsFront mid.held text now.held = failed.front in
    record {
      front = record {
        front = first ++ adds.front;
        rest = adds.rest;
        split = ap (λ t. first ++ t) adds.split ∙ sym (append_assoc first adds.front adds.rest);
        added = adds.added ∙ ap (λ h. held_with h adds.front) begun.held ∙ held_with-append before.held first adds.front;
      };
      risen = HasRisen-before before.faults mid.faults now.faults begun.faults failed.risen;
    }

-- not even the first line was put
HasFailed-first : (before now : SinkState) (first text : List ℕ) → HasFailed before first now → HasFailed before (first ++ text) now
HasFailed-first before now first text failed =
    let adds : AddsFront before.held first now.held = failed.front in
    record {
      front = record {
        front = adds.front;
        rest = adds.rest ++ text;
        split = ap (λ t. t ++ text) adds.split ∙ append_assoc adds.front adds.rest text;
        added = adds.added;
      };
      risen = failed.risen;
    }

-- the whole text is the first line and what stands behind it
form_text-split : (of : Form) (history : HistoryState) → first_line of ++ behind_first_line of history ≡ form_text of history
form_text-split form.Text history = refl
form_text-split (form.Trace header) history = refl
form_text-split form.Summary history = refl

pub IsWritten-behind :
    (before mid now : SinkState) (of : Form) (history : HistoryState) (failed : Bool) →
    HasGot before (first_line of) mid →
    IsWritten mid (behind_first_line of history) failed now →
    IsWritten before (form_text of history) failed now
IsWritten-behind before mid now of history true begun written = record {
  got = tt;
  sent = tt;
  cut = subst (λ text. HasFailed before text now) (form_text-split of history)
      (HasFailed-behind before mid now (first_line of) (behind_first_line of history) begun written.cut);
}
IsWritten-behind before mid now of history false begun written = record {
  got = subst (λ text. HasGot before text now) (form_text-split of history)
      (HasGot-behind before mid now (first_line of) (behind_first_line of history) begun written.got);
  sent = written.sent;
  cut = tt;
}

pub HasFailed-whole :
    (before mid now : SinkState) (of : Form) (history : HistoryState) →
    HasGot before (first_line of) mid →
    HasFailed mid (behind_first_line of history) now →
    HasFailed before (form_text of history) now
HasFailed-whole before mid now of history begun failed =
    subst (λ text. HasFailed before text now) (form_text-split of history)
    (HasFailed-behind before mid now (first_line of) (behind_first_line of history) begun failed)

pub HasFailed-unbegun :
    (before now : SinkState) (of : Form) (history : HistoryState) → HasFailed before (first_line of) now → HasFailed before (form_text of history) now
HasFailed-unbegun before now of history failed =
    subst (λ text. HasFailed before text now) (form_text-split of history)
    (HasFailed-first before now (first_line of) (behind_first_line of history) failed)
