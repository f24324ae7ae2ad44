-- What is drawn of one entry more.
use Rattle.std.proofs.Common.{◌≡◌, ℕ, ◌+◌, ◌≤◌, Bool, true, false, All, Option, Some, None, Result, Ok, Err, List, [], ◌∷◌, ◌++◌, length, map, refl, sym, ap, subst, ◌∙◌, arith, length-append}
use Rattle.std.specs.List.{slice_get}
use Rattle.std.specs.Result.{OnOk, is_ok}
use Rattle.std.proofs.lemmas.List.{append-nil, append_assoc}
use Rattle.std.proofs.lemmas.List.Elements.{All-cons, All-nil}
use Rattle.std.proofs.lemmas.Option.{same_Some}
use Rattle.fc_base.specs.Sheet.{Sheet, Slot}
use Rattle.fc_base.specs.declared.size.GrainSize.{GrainSize}
use Rattle.fc_check.specs.Progress.{AreRight, IsProgress}
use Rattle.fc_check.specs.declared.judge.Progress.{Progress}
use Rattle.fc_drawing.specs.Drawn.{Drawn}
use Rattle.fc_drawing.specs.Reasons.{IsReasonOf, done_read}
use Rattle.fc_drawing.specs.Sources.{sources_of}
use Rattle.fc_drawing.specs.declared.sources.Source.{Source}
use Rattle.fc_entry.specs.Picture.{Picture}
use Rattle.fc_entry.specs.declared.entry.Entry.{Entry}
use Rattle.fc_origins.specs.Origins.{origins_of}
use Rattle.fc_reading_entries.specs.Entries.{ReadNext}
use Rattle.fc_trace.specs.declared.header.Header.{Header}
use Rattle.fc_view.specs.Behind.{AreNextDrawings, IsBehind, IsDrawnAs, IsFollowed, IsNextDrawn, WasDrawn, WasShown, is_wanted, wanted_next}
use Rattle.fc_view.specs.Drawings.{IsDrawing, MayBeTold}
use Rattle.fc_view.specs.Views.{behind_those}
use Rattle.fc_view.specs.declared.behind.Behind.{Behind}
use Rattle.fc_view.specs.declared.steps.Step.{Step}
use Rattle.fc_view.proofs.Following.{behind_more, entries_more, first_of, last_there, right_of}

-- ---- drawings behind those of before

pub behind_none : (old : Option (List Drawn)) → behind_those old [] ≡ old
behind_none None = refl
behind_none (Some all) = ap Some (append-nil all)

pub behind_both : (old : Option (List Drawn)) (drawn more : List Drawn) → behind_those (behind_those old drawn) more ≡ behind_those old (drawn ++ more)
behind_both None drawn more = refl
behind_both (Some all) drawn more = ap Some (append_assoc all drawn more)

-- ---- whether it was drawn

pub last_number : (entries before : List Entry) (entry : Entry) (number : ℕ) → number + 1 ≡ length entries → entries ≡ before ++ entry ∷ [] → number ≡ length before
last_number entries before entry number last split = omega (arith, last, ap length split, length-append before (entry ∷ []))

pub as_wanted : (at : Option ℕ) (entries before : List Entry) (entry : Entry) (number : ℕ) (wanted : Bool) (size : GrainSize) (behind : Behind) (step : Step) (old new : Option (List Drawn)) →
    number + 1 ≡ length entries → wanted ≡ is_wanted at number → entries ≡ before ++ entry ∷ [] → WasDrawn wanted size behind step entry old new →
    WasDrawn (is_wanted at (length before)) size behind step entry old new
as_wanted at entries before entry number wanted size behind step old new last e split was =
    subst (λ (w : Bool). WasDrawn w size behind step entry old new) (e ∙ ap (is_wanted at) (last_number entries before entry number last split)) was

-- the last entry was drawn, where a canvas laid it out
pub laid_drawn : {A B E F : Type 0} (laid : Result A E) (said : Result B F) (size : GrainSize) (behind : Behind) (step : Step) (last : Entry) (d : Drawn) (entries : List Entry) (number : ℕ)
    (old new : Option (List Drawn)) → is_ok said ≡ is_ok laid → OnOk laid (new ≡ behind_those old (d ∷ [])) → slice_get entries number ≡ Some last → IsDrawnAs size behind step last d →
    OnOk said ((entry : Entry) → slice_get entries number ≡ Some entry → WasDrawn true size behind step entry old new)
laid_drawn (Ok x) (Ok y) size behind step last d entries number old new e is there drawn_as =
    λ entry also. (d, subst (λ (z : Entry). IsDrawnAs size behind step z d) (same_Some last entry (sym there ∙ also)) drawn_as, is)
laid_drawn (Err x) (Ok y) size behind step last d entries number old new e is there drawn_as = absurd cc
laid_drawn (Ok x) (Err y) size behind step last d entries number old new e is there drawn_as = tt
laid_drawn (Err x) (Err y) size behind step last d entries number old new e is there drawn_as = tt

pub wanted_drawn : {A E : Type 0} (said : Result A E) (at : Option ℕ) (entries : List Entry) (number : ℕ) (size : GrainSize) (behind : Behind) (step : Step) (old new : Option (List Drawn)) →
    number + 1 ≡ length entries → true ≡ is_wanted at number →
    OnOk said ((entry : Entry) → slice_get entries number ≡ Some entry → WasDrawn true size behind step entry old new) →
    OnOk said ((before : List Entry) (entry : Entry) → entries ≡ before ++ entry ∷ [] → WasDrawn (is_wanted at (length before)) size behind step entry old new)
wanted_drawn (Ok x) at entries number size behind step old new last e drawn =
    λ before entry split.
    as_wanted at entries before entry number true size behind step old new last e split (drawn entry (last_there entries before number entry last split))
wanted_drawn (Err x) at entries number size behind step old new last e drawn = tt

pub shown_after : {A E : Type 0} (said : Result A E) (size : GrainSize) (ways : ℕ) (at : Option ℕ) (old new : Behind) (step : Step) (before_all after_all : Option (List Drawn)) →
    new.progress ≡ old.progress →
    ((before : List Entry) (entry : Entry) → old.progress.history.entries ≡ before ++ entry ∷ [] → IsFollowed size ways entry old step new) →
    OnOk said ((before : List Entry) (entry : Entry) → new.progress.history.entries ≡ before ++ entry ∷ [] → WasDrawn (is_wanted at (length before)) size new step entry before_all after_all) →
    OnOk said ((before : List Entry) (entry : Entry) → old.progress.history.entries ≡ before ++ entry ∷ [] → WasShown size ways at (length before) entry old new before_all after_all)
shown_after (Ok x) size ways at old new step before_all after_all progress followed drawn =
    λ before entry split. (step, followed before entry split, drawn before entry (ap (λ (p : Progress). p.history.entries) progress ∙ split))
shown_after (Err x) size ways at old new step before_all after_all progress followed drawn = tt

-- ---- one drawing

-- What is known before an entry and behind it, and how it was drawn.
module _ (header : Header) (old new : Behind) (entry : Entry) (step : Step) (d : Drawn) (known : IsBehind header old) (now : IsBehind header new)
    (split : new.progress.history.entries ≡ old.progress.history.entries ++ entry ∷ [])
    (sources : step.sources.items ≡ sources_of old.sheet entry.moves) (drawn_as : IsDrawnAs header.grain new step entry d) where
  told : MayBeTold header (old.progress.history.entries ++ d.entry ∷ []) (first_of new.progress.candidates.ways new.sheet now.sheet_is).0
  told =
      let last = first_of new.progress.candidates.ways new.sheet now.sheet_is in
      let P : List Entry → Type 0 = λ entries. MayBeTold header entries last.0 in
      let right : AreRight header new.progress.history.entries new.progress.candidates = right_of header new.progress now.right now.unbroken in
      subst P (split ∙ ap (λ (e : Entry). old.progress.history.entries ++ e ∷ []) (sym drawn_as.entry_is)) (right.all.only last.0 last.1)

  origins : new.origins ≡ origins_of header.grain (old.progress.history.entries ++ entry ∷ [])
  origins = now.origins_are ∙ ap (origins_of header.grain) split

  reason : (slots : List Slot) → new.sheet.slots ≡ slots →
      IsReasonOf header.grain slots (origins_of header.grain (old.progress.history.entries ++ d.entry ∷ [])) (done_read d.entry.request d.entry.reply) d.reason
  reason slots same =
      let P : List Slot → Picture → Entry → Type 0 = λ slots origins e. IsReasonOf header.grain slots origins (done_read e.request e.reply) d.reason in
      let by_slots : P slots new.origins entry = subst (λ (s : List Slot). P s new.origins entry) same drawn_as.reason_is in
      let by_origins : P slots (origins_of header.grain (old.progress.history.entries ++ entry ∷ [])) entry = subst (λ (o : Picture). P slots o entry) origins by_slots in
      subst (λ (e : Entry). P slots (origins_of header.grain (old.progress.history.entries ++ e ∷ [])) e) (sym drawn_as.entry_is) by_origins

  pub is_drawing : IsDrawing header old.progress.history.entries d
  is_drawing =
      let first = first_of old.progress.candidates.ways old.sheet known.sheet_is in
      let last = first_of new.progress.candidates.ways new.sheet now.sheet_is in
      let right : AreRight header old.progress.history.entries old.progress.candidates = right_of header old.progress known.right known.unbroken in
      let from : Sheet → Entry → List (Option Source) = λ s e. sources_of s e.moves in
      record {
        old = first.0;
        told_before = right.all.only first.0 first.1;
        new = last.0;
        told = told;
        slots_are = drawn_as.slots_are ∙ ap (λ (s : Sheet). s.slots) (sym last.2);
        sources_are =
            drawn_as.sources_are ∙ sources ∙ ap (λ (s : Sheet). from s entry) (sym first.2)
            ∙ ap (λ (e : Entry). from first.0.books.sheet e) (sym drawn_as.entry_is);
        reason_is = reason d.slots (sym drawn_as.slots_are);
      }

-- ---- where it is to be drawn

record Shown (header : Header) (before : List Entry) (wanted : Bool) (entry : Entry) (old now : Option (List Drawn)) : Type 0 where
  drawn : List Drawn
  now_is : now ≡ behind_those old drawn
  entries_are : map (λ (d : Drawn). d.entry) drawn ≡ wanted_next wanted entry
  each : All (IsDrawing header before) drawn

shown : (header : Header) (old new : Behind) (entry : Entry) (step : Step) (wanted : Bool) (before now : Option (List Drawn)) → IsBehind header old → IsBehind header new →
    new.progress.history.entries ≡ old.progress.history.entries ++ entry ∷ [] → step.sources.items ≡ sources_of old.sheet entry.moves →
    WasDrawn wanted header.grain new step entry before now → Shown header old.progress.history.entries wanted entry before now
shown header old new entry step true before now known after split sources was = record {
  drawn = was.0 ∷ [];
  now_is = was.2;
  entries_are = ap (λ (e : Entry). e ∷ []) was.1.entry_is;
  each =
      All-cons (IsDrawing header old.progress.history.entries) was.0 [] (is_drawing header old new entry step was.0 known after split sources was.1)
      (All-nil (IsDrawing header old.progress.history.entries));
}
shown header old new entry step false before now known after split sources was = record {
  drawn = [];
  now_is = was ∙ sym (behind_none before);
  entries_are = refl;
  each = All-nil (IsDrawing header old.progress.history.entries);
}

-- these were drawn of the entry
pub next_drawn : (header : Header) (at : Option ℕ) (old new : Behind) (entry : Entry) (step : Step) (before now : Option (List Drawn)) → IsBehind header old → IsBehind header new →
    new.progress.history.entries ≡ old.progress.history.entries ++ entry ∷ [] → step.sources.items ≡ sources_of old.sheet entry.moves →
    WasDrawn (is_wanted at (length old.progress.history.entries)) header.grain new step entry before now →
    (drawn : List Drawn) × (now ≡ behind_those before drawn) × AreNextDrawings header at old.progress.history.entries entry drawn
next_drawn header at old new entry step before now known after split sources was =
    let s = shown header old new entry step (is_wanted at (length old.progress.history.entries)) before now known after split sources was in
    (s.drawn, s.now_is, record { entries_are = s.entries_are; each = s.each })

-- ---- read, followed and drawn

pub next_shown : (header : Header) (at : Option ℕ) (old mid new : Behind) (bytes : List ℕ) (count ways : ℕ) (before now : Option (List Drawn)) → IsBehind header old → count ≤ length bytes →
    ReadNext header.grain old.progress.history bytes count mid.progress.history → IsProgress header mid.progress → mid.progress.wrong ≡ None →
    ways ≡ length old.progress.candidates.ways → mid.sheet ≡ old.sheet → mid.origins ≡ old.origins → new.progress ≡ mid.progress →
    ((front : List Entry) (entry : Entry) → mid.progress.history.entries ≡ front ++ entry ∷ [] → WasShown header.grain ways at (length front) entry mid new before now) →
    IsNextDrawn header at old bytes count new before now
next_shown header at old mid new bytes count ways before now known within was_read right unbroken ways_are sheet origins progress shown =
    let r : ReadNext header.grain old.progress.history bytes count new.progress.history =
    subst (λ (p : Progress). ReadNext header.grain old.progress.history bytes count p.history) (sym progress) was_read in
    let also : IsProgress header new.progress = subst (IsProgress header) (sym progress) right in
    let whole : new.progress.wrong ≡ None = ap (λ (p : Progress). p.wrong) progress ∙ unbroken in
    let split : new.progress.history.entries ≡ old.progress.history.entries ++ r.entry ∷ [] = entries_more header.grain old.progress.history new.progress.history bytes count r in
    let did : WasShown header.grain ways at (length old.progress.history.entries) r.entry mid new before now =
    shown old.progress.history.entries r.entry (sym (ap (λ (p : Progress). p.history.entries) progress) ∙ split) in
    let behind : IsBehind header new = behind_more header old mid new bytes count ways did.0 known r also whole ways_are sheet origins did.1 in
    let sources : did.0.sources.items ≡ sources_of old.sheet r.entry.moves = did.1.sources_are ∙ ap (λ (s : Sheet). sources_of s r.entry.moves) sheet in
    let d = next_drawn header at old new r.entry did.0 before now known behind split sources did.2 in
    record { within = within; read = r; behind = behind; drawn = d.0; now_is = d.1; drawings = d.2 }
