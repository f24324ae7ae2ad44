-- The lines that stand in place of a preset: what is asked next of them, and what is left behind an answer.
use Rattle.std.proofs.Common.{◌≡◌, ℕ, ◌<◌, List, [], ◌∷◌, drop, length, map, slice_index_or, Option, Some, None, Result, Ok, Err, IfOk, refl, sym, ◌∙◌, ap, subst, ap₂, arith, Global}
use Rattle.std.specs.List.{AllByRecursion}
use Rattle.std.specs.declared.collections.VecDeque.{VecDeque}
use Rattle.fc_agenda.specs.Goes.{stays, passes}
use Rattle.fc_base.specs.Tables.{Tables, volume_named}
use Rattle.fc_base.specs.declared.behind.Behind.{Behind}
use Rattle.fc_base.specs.declared.behind.Behind.TheVariants.{Passing as PassingSeconds, Mapping as MappingOf, Start, Undo}
use Rattle.fc_base.specs.declared.command.Command.{Command}
use Rattle.fc_base.specs.declared.command.Command.TheVariants.{Mkpreset}
use Rattle.fc_base.specs.declared.command.Preset.{Preset}
use Rattle.fc_base.specs.declared.command.Preset.TheVariants.{Snapshot, Clone, Backup}
use Rattle.fc_base.specs.declared.name.Ref.{Ref}
use Rattle.fc_base.specs.declared.outcome.NoMemory.{NoMemory}
use Rattle.fc_base.specs.declared.request.Reply.{Reply}
use Rattle.fc_base.specs.declared.request.Reply.TheVariants.{Done, Made}
use Rattle.fc_base.specs.declared.request.Request.{Request}
use Rattle.fc_base.specs.declared.request.Request.TheVariants.{Command as CommandAsked}
use Rattle.fc_base.specs.declared.size.GrainSize.{GrainSize}
use Rattle.fc_base.specs.declared.volume.Volume.{Volume}
use Rattle.fc_entry.specs.declared.entry.Entry.{Entry}
use Rattle.fc_legal.specs.Agenda.{Agenda, Own, Session, behind_command, behind_entry, behind_last, next_asked}
use Rattle.fc_legal.specs.Asked.{command_asked}
use Rattle.fc_legal.specs.Presets.{asked_behind, mapping_line, volume_line}
use Rattle.fc_legal.specs.Whole.{Whole}
use Rattle.fc_script.specs.Asking.{AsksItself, CanBeAsked, Fits, HasNextFill, IsAnswer, IsLeft, IsNextOf, request_of}
use Rattle.fc_script.specs.Passage.{GoesOn}
use Rattle.fc_script.specs.Script.{agenda_of}
use Rattle.fc_script.specs.declared.asking.Asked.{Asked}
use Rattle.fc_script.specs.declared.script.Script.{Script}
use Rattle.fc_script.specs.declared.script.Script.TheVariants.{Over, Command as Alone, Lines}
use Rattle.fc_stands.specs.Phase.{IsDecided}
use Rattle.fc_stands.specs.Store.{StandsFor, StoreView}
use Rattle.fc_stands.proofs.Asked.{asks_itself, behind_named, behind_unnamed, preset_asks, preset_asks_itself}
use Rattle.fc_script.proofs.Begun.{goes_to}
use Rattle.fc_script.proofs.Left.{no_asked}
use Rattle.fc_script.proofs.Next.{no_other, the_same}

abbrev requests : List Command → List Request
requests commands = map (λ (c : Command). CommandAsked c) commands

-- ---- what is asked next

module _ (s : StoreView) (commands : VecDeque Command Global) (behind : Behind) (first : Command) (some : 0 < length commands.items) (is : first ≡ slice_index_or commands.items 0 first)
    (decided : AllByRecursion IsDecided commands.items) where
  begins_by : (cs : List Command) → commands.items ≡ cs → (rest : List Command) × (commands.items ≡ first ∷ rest)
  begins_by [] items = absurd (omega (arith, some, ap (length {A = Command}) items))
  begins_by (c ∷ cs) items = (cs, items ∙ ap (λ (x : Command). x ∷ cs) (sym (is ∙ ap (λ (xs : List Command). slice_index_or xs 0 first) items)))

  begins : (rest : List Command) × (commands.items ≡ first ∷ rest)
  begins = begins_by commands.items refl

  pub first_asks_itself : AsksItself s.control.grain s.control.tables first
  first_asks_itself = λ b tables. asks_itself s.control.grain b first (subst (AllByRecursion IsDecided) begins.1 decided).0

  pub lines_next : (asked : Asked) → request_of s.control.grain asked ≡ CommandAsked first → CanBeAsked s asked → ((w : Whole) → HasNextFill s.control.grain w None asked) →
      IsNextOf s (Lines commands behind) (Lines commands behind) (Some asked)
  lines_next asked request can no_fill = record {
    goes = λ w stands read. stays;
    next = λ w stands. ap (λ (cs : List Command). next_asked s.control.grain (Own (requests cs) behind []) w) begins.1 ∙ ap (λ (r : Request). Some (0, r)) (sym request);
    can = λ a e. subst (λ (x : Asked). CanBeAsked s x) (the_same asked a e) can;
    fill = λ a w e stands. subst (λ (x : Asked). HasNextFill s.control.grain w None x) (the_same asked a e) (no_fill w);
    fits = decided;
  }

pub no_lines_next : (s : StoreView) (commands : VecDeque Command Global) (behind : Behind) → (0 < length commands.items → ⊥) → IsNextOf s (Lines commands behind) Over None
no_lines_next s commands behind none_there = by commands.items refl
  where
    by : (cs : List Command) → commands.items ≡ cs → IsNextOf s (Lines commands behind) Over None
    by (c ∷ cs) items = absurd (none_there (omega (arith, ap (length {A = Command}) items)))
    by [] none = record {
      goes = λ w stands. subst (λ (cs : List Command). GoesOn s.control.grain w (Own (requests cs) behind []) (Session [])) (sym none) (λ read. passes refl stays);
      next = λ w stands. refl;
      can = λ a e. absurd (no_other a e);
      fill = λ a w e stands. absurd (no_other a e);
      fits = tt;
    }

-- ---- what is left behind an answer

-- With more of them left.
more_left : (grain : GrainSize) (old new : VecDeque Command Global) (behind : Behind) (first second : Command) (rest : List Command) (w : Whole) (entry : Entry) (next : Whole) →
    old.items ≡ first ∷ second ∷ rest → new.items ≡ second ∷ rest → IsLeft grain (Lines old behind) w entry next (Lines new behind)
more_left grain old new behind first second rest w entry next was is =
    let Left : List Command → List Command → Type 0 = λ cs ds. GoesOn grain next (behind_entry grain (Own (requests cs) behind []) next entry) (Own (requests ds) behind []) in
    record {
      goes = subst (λ (ds : List Command). Left old.items ds) (sym is) (subst (λ (cs : List Command). Left cs (second ∷ rest)) (sym was) (λ read. stays));
      fits = λ decided. subst (AllByRecursion IsDecided) (sym is) (subst (AllByRecursion IsDecided) was decided).1;
    }

module _ (grain : GrainSize) (old : VecDeque Command Global) (behind : Behind) (w : Whole) (entry : Entry) (next : Whole) where
  pub lines_more : (new : VecDeque Command Global) → new.items ≡ drop 1 old.items → 0 < length new.items → IsLeft grain (Lines old behind) w entry next (Lines new behind)
  lines_more new rest some = by old.items new.items refl refl rest
    where
      by : (cs ds : List Command) → old.items ≡ cs → new.items ≡ ds → ds ≡ drop 1 cs → IsLeft grain (Lines old behind) w entry next (Lines new behind)
      by cs [] was is same = absurd (omega (arith, some, ap (length {A = Command}) is))
      by [] (d ∷ ds) was is same = absurd (cc same)
      by (c ∷ cs) (d ∷ ds) was is same = more_left grain old new behind c d ds w entry next (was ∙ ap (λ (xs : List Command). c ∷ xs) (sym same)) is

  -- Behind the last of them; where there was none, none was answered.
  pub lines_last : (new : Script) → length (drop 1 old.items) ≡ 0 → IsAnswer grain (Lines old behind) w entry next →
      GoesOn grain next (behind_last next entry.reply behind []) (agenda_of grain new) → Fits grain next.books.tables new → IsLeft grain (Lines old behind) w entry next new
  lines_last new none answer goes fits = by old.items refl none
    where
      by : (cs : List Command) → old.items ≡ cs → length (drop 1 cs) ≡ 0 → IsLeft grain (Lines old behind) w entry next new
      by [] was same =
          absurd (no_asked (entry.actor, entry.request)
          (subst (λ (cs : List Command). next_asked grain (Own (requests cs) behind []) w ≡ Some (entry.actor, entry.request)) was answer.asked))
      by (c ∷ []) was same = record {
        goes = subst (λ (cs : List Command). GoesOn grain next (behind_entry grain (Own (requests cs) behind []) next entry) (agenda_of grain new)) (sym was) goes;
        fits = λ decided. fits;
      }
      by (c ∷ d ∷ cs) was same = absurd (omega (arith, same))

-- ---- the lines that are asked behind an answer are decided

decided_mapping : (source : Ref) (preset : Preset) (name : Option (List ℕ)) (volume : ℕ) → IsDecided (mapping_line source preset name volume)
decided_mapping source Snapshot name volume = tt
decided_mapping source Clone name volume = tt
decided_mapping source Backup name volume = tt

abbrev IsDecidedRequest : Request → Type 0
IsDecidedRequest (CommandAsked command) = IsDecided command
IsDecidedRequest request = ⊥

asked_are_decided : (behind : Behind) (reply : Reply) → AllByRecursion IsDecidedRequest (asked_behind behind reply).0
asked_are_decided (PassingSeconds n) reply = tt
asked_are_decided (MappingOf source preset name) (Made kind id) = (decided_mapping source preset name id, tt)
asked_are_decided (MappingOf source preset name) reply = tt
asked_are_decided (Start volume) (Made kind id) = (tt, tt)
asked_are_decided (Start volume) reply = (tt, tt)
asked_are_decided (Undo of volume) Done = tt
asked_are_decided (Undo of volume) reply = (tt, (tt, tt))

commands_are_decided : (commands : List Command) → AllByRecursion IsDecidedRequest (requests commands) → AllByRecursion IsDecided commands
commands_are_decided [] decided = tt
commands_are_decided (command ∷ commands) decided = (decided.0, commands_are_decided commands decided.1)

module _ (behind then : Behind) (reply : Reply) (coming commands : List Command) (same : commands ≡ coming) (is : (requests coming, then) ≡ asked_behind behind reply) where
  pub behind_are_decided : AllByRecursion IsDecided commands
  behind_are_decided =
      let first : requests coming ≡ (asked_behind behind reply).0 = ap (λ (p : List Request × Behind). p.0) is in
      commands_are_decided commands (subst (AllByRecursion IsDecidedRequest) (sym (ap requests same ∙ first)) (asked_are_decided behind reply))

  pub agenda_behind : Own (requests commands) then [] ≡ Own (asked_behind behind reply).0 (asked_behind behind reply).1 []
  agenda_behind = ap (λ (cs : List Command). Own (requests cs) then []) same ∙ ap (λ (p : List Request × Behind). Own p.0 p.1 []) is

-- What doesn't let seconds pass asks on.
asks_behind : (grain : GrainSize) (w : Whole) (behind : Behind) (reply : Reply) (a : Agenda) → ((n : ℕ) → behind ≡ PassingSeconds n → ⊥) →
    a ≡ Own (asked_behind behind reply).0 (asked_behind behind reply).1 [] → GoesOn grain w (behind_last w reply behind []) a
asks_behind grain w (PassingSeconds n) reply a other is = absurd (other n refl)
asks_behind grain w (MappingOf source preset name) reply a other is = goes_to grain w a (behind_last w reply (MappingOf source preset name) []) is
asks_behind grain w (Start volume) reply a other is = goes_to grain w a (behind_last w reply (Start volume) []) is
asks_behind grain w (Undo of volume) reply a other is = goes_to grain w a (behind_last w reply (Undo of volume) []) is

pub asks_on : (s : StoreView) (behind : Behind) (reply : Reply) (result : Result Script NoMemory) → ((n : ℕ) → behind ≡ PassingSeconds n → ⊥) →
    IfOk result (λ (new : Script). agenda_of s.control.grain new ≡ Own (asked_behind behind reply).0 (asked_behind behind reply).1 []) →
    IfOk result (λ (new : Script). (w : Whole) → StandsFor s w → GoesOn s.control.grain w (behind_last w reply behind []) (agenda_of s.control.grain new))
asks_on s behind reply (Err e) other is = tt
asks_on s behind reply (Ok new) other is = λ w stands. asks_behind s.control.grain w behind reply (agenda_of s.control.grain new) other is

-- ---- a preset begins

pub unnamed_begun : (grain : GrainSize) (t : Tables) (w : Whole) (source : Ref) (preset : Preset) (name : Option (List ℕ)) → t ≡ w.books.tables → volume_named t source ≡ None →
    agenda_of grain (Alone (Mkpreset source preset name)) ≡ Own (command_asked grain w.books (Mkpreset source preset name)) (behind_command w.books (Mkpreset source preset name)) []
unnamed_begun grain t w source preset name tables named =
    let none : volume_named w.books.tables source ≡ None = subst (λ (x : Tables). volume_named x source ≡ None) tables named in
    sym (ap₂ (λ (rs : List Request) (behind : Behind). Own rs behind []) (preset_asks_itself grain w.books source preset name none) (behind_unnamed w.books source preset name none))

pub unnamed_asks_itself : (grain : GrainSize) (t : Tables) (source : Ref) (preset : Preset) (name : Option (List ℕ)) → volume_named t source ≡ None → AsksItself grain t (Mkpreset source preset name)
unnamed_asks_itself grain t source preset name named = λ b tables. preset_asks_itself grain b source preset name (subst (λ (x : Tables). volume_named x source ≡ None) (sym tables) named)

pub named_begun : (s : StoreView) (source : Ref) (preset : Preset) (name : Option (List ℕ)) (v : Volume) (line : Command) (result : Result Script NoMemory) → volume_named s.control.tables source ≡ Some v →
    line ≡ volume_line s.control.grain preset name v →
    IfOk result (λ (new : Script). (grain : GrainSize) → agenda_of grain new ≡ Own (CommandAsked line ∷ []) (MappingOf source preset name) []) →
    IfOk result (λ (new : Script). (w : Whole) → StandsFor s w → agenda_of s.control.grain new
    ≡ Own (command_asked s.control.grain w.books (Mkpreset source preset name)) (behind_command w.books (Mkpreset source preset name)) [])
named_begun s source preset name v line (Err e) named is_line is = tt
named_begun s source preset name v line (Ok new) named is_line is = λ w stands.
    let grain : GrainSize = s.control.grain in
    let found : volume_named w.books.tables source ≡ Some v = subst (λ (x : Tables). volume_named x source ≡ Some v) stands.control.tables named in
    is grain ∙ ap (λ (c : Command). Own (CommandAsked c ∷ []) (MappingOf source preset name) []) is_line
    ∙ sym (ap₂ (λ (rs : List Request) (behind : Behind). Own rs behind []) (preset_asks grain w.books source preset name v found) (behind_named w.books source preset name v found))
