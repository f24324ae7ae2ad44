-- A session that is over: of the one history there is one thing that is told.
use Rattle.std.proofs.Common.{◌≡◌, ◌⊎◌, ℕ, List, [], ◌++◌, inl, inr, refl, sym, ◌∙◌, Option, Some, None, ap, subst, arith}
use Rattle.std.specs.Option.{option_map}
use Rattle.std.proofs.lemmas.List.{append-nil}
use Rattle.fc_base.specs.declared.size.GrainSize.{GrainSize}
use Rattle.fc_blocks.specs.Blocks.{Opened}
use Rattle.fc_blocks.specs.Segments.{cut}
use Rattle.fc_entry.specs.HistoryState.{HistoryState}
use Rattle.fc_entry.specs.declared.entry.Entry.{Entry}
use Rattle.fc_io.specs.Sink.{SinkState, held_with}
use Rattle.fc_io.specs.Source.{SourceState}
use Rattle.fc_legal.proofs.Appending.{IsLegal-run, IsLegal-partial, IsLegal-wants, IsRun-nil}
use Rattle.fc_legal.specs.Run.{IsRun}
use Rattle.fc_legal.specs.Whole.{Whole}
use Rattle.fc_run.specs.Headline.{Session, EndsAs, SessionEnds}
use Rattle.fc_run.specs.Summary.{form_text}
use Rattle.fc_run.specs.Input.{Gave, OfFirstTaken}
use Rattle.fc_run.specs.declared.ended.Ended.{Ended}
use Rattle.fc_run.specs.declared.ended.Ended.TheVariants as ended
use Rattle.fc_stands.specs.Store.{StoreView}
use Rattle.fc_owner.specs.FirstTold.{first_told}
use Rattle.fc_owner.specs.PlainRuns.{plain_runs}
use Rattle.fc_owner.specs.Reading.{reading}
use Rattle.fc_owner.specs.StoreRuns.{HasDisks, IsOver, IsUp, SessionOver, Start, StandsOr, runs_of, store_runs}

-- This holds of the same first lines.
first_taken :
    (source : SourceState) (bytes : List ℕ) (Holds Of : List (List ℕ) → Type 0) (taken : OfFirstTaken source bytes Holds) →
    Of taken.of.first →
    OfFirstTaken source bytes Of
first_taken source bytes Holds Of taken holds = record {
  lines = taken.lines;
  are = taken.are;
  of = record { first = taken.of.first; rest = taken.of.rest; split = taken.of.split; holds = holds };
}

-- A call of the sink failed.
write_fault :
    (grain : GrainSize) (w : Whole) (GoesOn : Option Opened → Type 0) (Stands : HistoryState → Whole → Type 0) (Kept : Type 0) (s : Session) (bytes : List ℕ)
    (ends : EndsAs ended.WriteFault s (runs_of grain w GoesOn Stands Kept) bytes) →
    (runs_of grain w GoesOn Stands Kept).Whole ends.2.of.first s.history ⊎ (runs_of grain w GoesOn Stands Kept).Full ends.2.of.first s.history →
    IsOver grain w Stands Kept ended.WriteFault s bytes
write_fault grain w GoesOn Stands Kept s bytes ends (inl at) = record {
  last = at.last;
  ends = (ends.0, ends.1, first_taken s.source' bytes _ _ ends.2 (inl at.holds.0), ends.3);
  legal = IsLegal-run grain reading w at.last (cut ends.2.of.first).segments s.history.entries at.holds.0;
  told = at.told;
  stands = at.stands;
}
write_fault grain w GoesOn Stands Kept s bytes ends (inr at) = record {
  last = at.last;
  ends = (ends.0, ends.1, first_taken s.source' bytes _ _ ends.2 (inr at.holds), ends.3);
  legal = IsLegal-wants grain reading w at.last (cut ends.2.of.first).segments s.history.entries at.holds;
  told = at.told;
  stands = at.stands;
}

-- Memory was wanted.
starved :
    (grain : GrainSize) (w : Whole) (GoesOn : Option Opened → Type 0) (Stands : HistoryState → Whole → Type 0) (Kept : Type 0) (s : Session) (bytes : List ℕ)
    (keeps : (history : HistoryState) (last : Whole) → Stands history last → Kept)
    (ends : EndsAs ended.NoMemory s (runs_of grain w GoesOn Stands Kept) bytes) →
    (runs_of grain w GoesOn Stands Kept).Whole ends.1.of.first s.history ⊎ (runs_of grain w GoesOn Stands Kept).Front ends.1.of.first s.history →
    IsOver grain w Stands Kept ended.NoMemory s bytes
starved grain w GoesOn Stands Kept s bytes keeps ends (inl at) = record {
  last = at.last;
  ends = (ends.0, first_taken s.source' bytes _ _ ends.1 (inl at.holds.0), ends.2);
  legal = IsLegal-run grain reading w at.last (cut ends.1.of.first).segments s.history.entries at.holds.0;
  told = at.told;
  stands = keeps s.history at.last at.stands;
}
starved grain w GoesOn Stands Kept s bytes keeps ends (inr at) = record {
  last = at.last;
  ends = (ends.0, first_taken s.source' bytes _ _ ends.1 (inr at.holds), ends.2);
  legal = IsLegal-partial grain reading w at.last (cut ends.1.of.first).segments s.history.entries at.holds;
  told = at.told;
  stands = at.stands;
}

pub session_over :
    (grain : GrainSize) (w : Whole) (GoesOn : Option Opened → Type 0) (Stands : HistoryState → Whole → Type 0) (Kept : Type 0) (e : Ended) (s : Session) (bytes : List ℕ) →
    ((history : HistoryState) (last : Whole) → Stands history last → Kept) →
    EndsAs e s (runs_of grain w GoesOn Stands Kept) bytes →
    IsOver grain w Stands Kept e s bytes
session_over grain w GoesOn Stands Kept ended.Done s bytes keeps ends =
    let at = ends.2 in
    record {
      last = at.last;
      ends = (ends.0, ends.1, at.holds.0, ends.3, ends.4);
      legal = IsLegal-run grain reading w at.last _ s.history.entries at.holds.0;
      told = at.told;
      stands = at.stands;
    }
session_over grain w GoesOn Stands Kept ended.Unended s bytes keeps ends =
    let at = ends.2 in
    record {
      last = at.last;
      ends = (ends.0, ends.1, at.holds.0, ends.3, ends.4);
      legal = IsLegal-run grain reading w at.last _ s.history.entries at.holds.0;
      told = at.told;
      stands = at.stands;
    }
session_over grain w GoesOn Stands Kept ended.ReadFault s bytes keeps ends =
    let at = ends.2 in
    record {
      last = at.last;
      ends = (ends.0, ends.1, at.holds.0, ends.3);
      legal = IsLegal-run grain reading w at.last _ s.history.entries at.holds.0;
      told = at.told;
      stands = at.stands;
    }
session_over grain w GoesOn Stands Kept ended.TooLong s bytes keeps ends =
    let at = ends.4 in
    record {
      last = at.last;
      ends = (ends.0, ends.1, ends.2, ends.3, at.holds.0, ends.5);
      legal = IsLegal-run grain reading w at.last _ s.history.entries at.holds.0;
      told = at.told;
      stands = at.stands;
    }
session_over grain w GoesOn Stands Kept ended.LogFull s bytes keeps ends =
    let at = ends.1.of.holds in
    record {
      last = at.last;
      ends = (ends.0, first_taken s.source' bytes _ _ ends.1 at.holds, ends.2, ends.3);
      legal = IsLegal-wants grain reading w at.last (cut ends.1.of.first).segments s.history.entries at.holds;
      told = at.told;
      stands = at.stands;
    }
session_over grain w GoesOn Stands Kept ended.WriteFault s bytes keeps ends = write_fault grain w GoesOn Stands Kept s bytes ends ends.2.of.holds
session_over grain w GoesOn Stands Kept ended.NoMemory s bytes keeps ends = starved grain w GoesOn Stands Kept s bytes keeps ends ends.1.of.holds

-- This is kept in any case.
pub kept_of : (e : Ended) (stands kept : Type 0) → (stands → kept) → StandsOr e stands kept → kept
kept_of ended.Done stands kept keeps at = keeps at
kept_of ended.Unended stands kept keeps at = keeps at
kept_of ended.ReadFault stands kept keeps at = keeps at
kept_of ended.TooLong stands kept keeps at = keeps at
kept_of ended.LogFull stands kept keeps at = keeps at
kept_of ended.WriteFault stands kept keeps at = keeps at
kept_of ended.NoMemory stands kept keeps at = at

-- Memory was wanted before anything was read.
pub starved_at_once :
    (grain : GrainSize) (w : Whole) (s : Session) →
    s.source' ≡ s.source →
    s.sink' ≡ s.sink →
    s.history.entries ≡ [] →
    EndsAs ended.NoMemory s (plain_runs grain w w) []
starved_at_once grain w s source sink none =
    let P : List Entry → Type 0 = λ es. IsRun grain reading w [] es w in (
      omega arith,
      record { lines = []; are = inl refl; of = record { first = []; rest = []; split = refl; holds = inl (subst P (sym none) (IsRun-nil grain reading w)) } },
      record { front = []; rest = form_text s.form s.history; split = refl; added = ap (λ (k : SinkState). k.held) sink ∙ nothing_held s.sink.held },
    )
  where
    nothing_held : (held : Option (List ℕ)) → held ≡ held_with held []
    nothing_held None = refl
    nothing_held (Some bytes) = ap Some (sym (append-nil bytes))

pub gave_nothing : (source source' : SourceState) → source' ≡ source → Gave source [] source'
gave_nothing source source' same =
    ap (λ (s : SourceState). s.left) (sym same) ∙ nothing_left source'.left
  where
    nothing_left : (left : Option (List ℕ)) → left ≡ option_map (λ rest. [] ++ rest) left
    nothing_left None = refl
    nothing_left (Some bytes) = refl

-- ---- of a store

-- The store has the disks that were handed in, however the session ended.
pub session_disks : (start : Start) (store : StoreView) (s : Session) → SessionOver start store s → HasDisks start store
session_disks start store s ended =
    kept_of s.ended (IsUp start store s.history ended.over.last) (HasDisks start store) (λ up. up.disks) ended.over.stands

-- A session from a store that has a run of no lines.
pub store_over :
    (Able : Type 0) (start : Start) (reader : Option Opened) (store : StoreView) (s : Session) →
    SessionEnds s (store_runs Able reader store start) →
    SessionOver start store s
store_over Able start reader store s ends =
    record {
      bytes = ends.bytes;
      gave = ends.gave;
      over = session_over start.grain (first_told start.disks) (λ open_block. (open_block ≡ reader) × Able)
          (λ history last. IsUp start store history last) (HasDisks start store) s.ended s ends.bytes (λ history last up. up.disks) ends.ends;
    }
