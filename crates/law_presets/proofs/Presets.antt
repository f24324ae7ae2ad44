-- The line of a preset, request by request.
use Rattle.std.proofs.Common.{◌≡◌, ◌≢◌, ℕ, ◌+◌, ◌*◌, ◌^◌, ◌<◌, Bool, true, false, cond, Option, Some, None, List, [], ◌∷◌, refl, sym, ap, subst, ◌∙◌, arith}
use Rattle.std.proofs.lemmas.List.Elements.{All-head, All-tail}
use Rattle.fc_agenda.specs.Goes.{Goes, answers, begins, passes, stays}
use Rattle.fc_base.specs.Grain.{grain_kib}
use Rattle.fc_base.specs.Tables.{Tables, volume_named}
use Rattle.fc_base.specs.declared.behind.Behind.{Behind}
use Rattle.fc_base.specs.declared.behind.Behind.TheVariants.{Passing as PassingSeconds, Mapping as MappingOf, Start, Undo}
use Rattle.fc_base.specs.declared.command.Command.{Command}
use Rattle.fc_base.specs.declared.command.Command.TheVariants.{Mkvdisk, Rmvdisk, Mkfcmap, Startfcmap, Rmfcmap, Mkpreset}
use Rattle.fc_base.specs.declared.command.Preset.{Preset}
use Rattle.fc_base.specs.declared.command.Preset.TheVariants.{Snapshot, Clone, Backup}
use Rattle.fc_base.specs.declared.command.Unit.{Unit as SizeUnit}
use Rattle.fc_base.specs.declared.command.Unit.TheVariants.{Kb}
use Rattle.fc_base.specs.declared.fault.Refusal.{Refusal}
use Rattle.fc_base.specs.declared.name.Ref.{Ref}
use Rattle.fc_base.specs.declared.name.Ref.TheVariants.{Id}
use Rattle.fc_base.specs.declared.request.Effect.{Effect}
use Rattle.fc_base.specs.declared.request.Reply.{Reply}
use Rattle.fc_base.specs.declared.request.Reply.TheVariants.{Done, Made, NoMemory}
use Rattle.fc_base.specs.declared.request.Request.{Request}
use Rattle.fc_base.specs.declared.request.Request.TheVariants.{Command as Asked}
use Rattle.fc_base.specs.declared.size.GrainSize.{GrainSize}
use Rattle.fc_base.specs.declared.volume.Volume.{Volume}
use Rattle.fc_books.specs.Books.{Books}
use Rattle.fc_books.specs.Deciding.{refused}
use Rattle.fc_books.specs.Refused.{preset_refused}
use Rattle.fc_books.specs.Sound.{AreSound}
use Rattle.fc_decided.proofs.Setting.{AreOrdered}
use Rattle.fc_entry.specs.declared.entry.Entry.{Entry}
use Rattle.fc_follow.specs.Following.{restarts}
use Rattle.fc_legal.specs.Agenda.{Agenda, Asks, Begins, Own, Reading, Seconds, Session, behind_last, behind_own, is_done, session_rules, without_entry}
use Rattle.fc_legal.specs.Presets.{behind_preset, is_thin, mapping_line, preset_asked, start_line, unmake_line, unmap_line, volume_line}
use Rattle.fc_legal.specs.Seconds.{Work, all_work, seconds_begun}
use Rattle.fc_legal.specs.Steps.{CommandLeft, CommandStep, MustBeRefused, RequestStep, Step, after_settling, one_more}
use Rattle.fc_legal.specs.Steps.CommandLeft.{decided, settled_alone, unsettled}
use Rattle.fc_legal.specs.Whole.{Whole}
use Rattle.law_presets.proofs.Decisions.{AfterMapping, AfterStart, AfterVolume, map_decided, start_decided, unmake_decided, unmap_decided, volume_decided}
use Rattle.law_presets.proofs.Lefts.{left_same}
use Rattle.law_presets.proofs.Standing.{BothIn, VolumeIn, before_then, both_then, volume_then}
use Rattle.law_presets.specs.Law.{PresetsLaw}
use Rattle.law_presets.specs.Left.{IsAsBefore}
use Rattle.law_presets.specs.Lines.{AreUndone, IsWhole, has_made, undoes}
use Rattle.law_stands.proofs.Standing.{stands_law_holds}
use Rattle.law_stands.specs.Reached.{IsReached}

-- ---- what a request leaves

-- Unless memory was wanted.
abbrev UnlessNoMemory : (Books → Type 0) → Reply → Books → Type 0
UnlessNoMemory P reply b = reply ≢ NoMemory → P b

module _ (before : Tables) (grain : GrainSize) (decisions : ℕ) (w : Whole) (small : decisions < 2 ^ 32) (reached : IsReached decisions w) where
  -- The books behind the settling.
  abbrev settled : Books
  settled = (after_settling grain w).books

  ordered : AreOrdered w.books.tables.mappings
  ordered = reached.stands.sound.tables.mappings

  sound : AreSound settled
  sound = (stands_law_holds.settled grain decisions w small reached).stands.sound

  as_before : IsAsBefore before w.books.tables → IsAsBefore before settled.tables
  as_before h = before_then before (restarts w.rows) w.books ordered h

  has_volume : (id : ℕ) → VolumeIn before id w.books → VolumeIn before id settled
  has_volume id h = volume_then before (restarts w.rows) w.books ordered id h

  has_both : (id n : ℕ) → BothIn before id n w.books → BothIn before id n settled
  has_both id n h = both_then before (restarts w.rows) w.books ordered id n h

  volume_left : (name : Option (List ℕ)) (size : ℕ) (unit : Option SizeUnit) (thin : Bool) (reply : Reply) (effects : List Effect) (left : Whole) → IsAsBefore before w.books.tables →
      CommandLeft grain w (Mkvdisk name size unit thin) reply effects left → AfterVolume before reply left.books
  volume_left name size unit thin reply effects left h (decided loop told) =
      volume_decided before (restarts (after_settling grain w).rows) settled sound grain name size unit thin (refused grain settled (Mkvdisk name size unit thin)) loop (as_before h)
  volume_left name size unit thin reply effects left h unsettled = h
  volume_left name size unit thin reply effects left h settled_alone = as_before h

  map_left : (source target : Ref) (name : Option (List ℕ)) (group : Option Ref) (copy_rate clean_rate : Option ℕ) (grain_size : Option GrainSize) (incremental autodelete : Bool) (id : ℕ)
      (reply : Reply) (effects : List Effect) (left : Whole) → VolumeIn before id w.books →
      CommandLeft grain w (Mkfcmap source target name group copy_rate clean_rate grain_size incremental autodelete) reply effects left → AfterMapping before id reply left.books
  map_left source target name group copy_rate clean_rate grain_size incremental autodelete id reply effects left h (decided loop told) =
      map_decided before (restarts (after_settling grain w).rows) settled sound grain source target name group copy_rate clean_rate grain_size incremental autodelete id
      (refused grain settled (Mkfcmap source target name group copy_rate clean_rate grain_size incremental autodelete)) loop refl (has_volume id h)
  map_left source target name group copy_rate clean_rate grain_size incremental autodelete id reply effects left h unsettled = h
  map_left source target name group copy_rate clean_rate grain_size incremental autodelete id reply effects left h settled_alone = has_volume id h

  start_left : (map : Ref) (prep restore : Bool) (id n : ℕ) (reply : Reply) (effects : List Effect) (left : Whole) → BothIn before id n w.books →
      CommandLeft grain w (Startfcmap map prep restore) reply effects left → AfterStart before id n reply left.books
  start_left map prep restore id n reply effects left h (decided loop told) =
      start_decided before (restarts (after_settling grain w).rows) settled grain map prep restore id n (refused grain settled (Startfcmap map prep restore)) loop (has_both id n h)
  start_left map prep restore id n reply effects left h unsettled = h
  start_left map prep restore id n reply effects left h settled_alone = has_both id n h

  unmap_left : (id n : ℕ) (reply : Reply) (effects : List Effect) (left : Whole) → BothIn before id n w.books → CommandLeft grain w (Rmfcmap (Id n) false) reply effects left →
      UnlessNoMemory (VolumeIn before id) reply left.books
  unmap_left id n reply effects left h (decided loop told) some =
      unmap_decided before (restarts (after_settling grain w).rows) settled id n (has_both id n h) grain (refused grain settled (Rmfcmap (Id n) false)) loop refl told
  unmap_left id n reply effects left h unsettled some = absurd (some refl)
  unmap_left id n reply effects left h settled_alone some = absurd (some refl)

  unmake_left : (id : ℕ) (reply : Reply) (effects : List Effect) (left : Whole) → VolumeIn before id w.books → CommandLeft grain w (Rmvdisk (Id id)) reply effects left →
      UnlessNoMemory (λ b. IsAsBefore before b.tables) reply left.books
  unmake_left id reply effects left h (decided loop told) some =
      unmake_decided before (restarts (after_settling grain w).rows) settled id (has_volume id h) grain (refused grain settled (Rmvdisk (Id id))) loop refl told
  unmake_left id reply effects left h unsettled some = absurd (some refl)
  unmake_left id reply effects left h settled_alone some = absurd (some refl)

  -- ---- as an entry

  module _ (entry : Entry) (next : Whole) (step : Step grain w entry next) where
    -- What was asked is right as it was asked.
    right : (request : Request) → entry.request ≡ request → RequestStep grain w request entry next
    right request asked = subst (λ (r : Request). RequestStep grain w r entry next) asked step.right

    by_left : (P : Reply → Books → Type 0) (command : Command) →
        ((reply : Reply) (effects : List Effect) (left : Whole) → CommandLeft grain w command reply effects left → P reply left.books) →
        CommandStep grain w command entry next → P entry.reply next.books
    by_left P command each is = subst (λ (x : Whole). P entry.reply x.books) (sym is.next_is) (each entry.reply entry.effects is.left is.leaves)

    pub volume_step : (preset : Preset) (name : Option (List ℕ)) (source : Volume) → entry.request ≡ Asked (volume_line grain preset name source) → IsAsBefore before w.books.tables →
        AfterVolume before entry.reply next.books
    volume_step preset name source asked h =
        by_left (AfterVolume before) (volume_line grain preset name source)
        (λ reply effects left leaves. volume_left name (source.grains * grain_kib grain) (Some Kb) (is_thin preset) reply effects left h leaves)
        (right (Asked (volume_line grain preset name source)) asked)

    pub map_step : (source : Ref) (preset : Preset) (name : Option (List ℕ)) (id : ℕ) → entry.request ≡ Asked (mapping_line source preset name id) → VolumeIn before id w.books →
        AfterMapping before id entry.reply next.books
    map_step source Snapshot name id asked h =
        by_left (AfterMapping before id) (mapping_line source Snapshot name id)
        (λ reply effects left leaves. map_left source (Id id) name None (Some 0) (Some 0) None false false id reply effects left h leaves)
        (right (Asked (mapping_line source Snapshot name id)) asked)
    map_step source Clone name id asked h =
        by_left (AfterMapping before id) (mapping_line source Clone name id)
        (λ reply effects left leaves. map_left source (Id id) name None (Some 50) None None false true id reply effects left h leaves)
        (right (Asked (mapping_line source Clone name id)) asked)
    map_step source Backup name id asked h =
        by_left (AfterMapping before id) (mapping_line source Backup name id)
        (λ reply effects left leaves. map_left source (Id id) name None (Some 50) None None true false id reply effects left h leaves)
        (right (Asked (mapping_line source Backup name id)) asked)

    pub start_step : (id n : ℕ) → entry.request ≡ Asked (start_line n) → BothIn before id n w.books → AfterStart before id n entry.reply next.books
    start_step id n asked h =
        by_left (AfterStart before id n) (start_line n) (λ reply effects left leaves. start_left (Id n) true false id n reply effects left h leaves)
        (right (Asked (start_line n)) asked)

    pub unmap_step : (id n : ℕ) → entry.request ≡ Asked (unmap_line n) → entry.reply ≢ NoMemory → BothIn before id n w.books → VolumeIn before id next.books
    unmap_step id n asked some h =
        by_left (UnlessNoMemory (VolumeIn before id)) (unmap_line n) (λ reply effects left leaves. unmap_left id n reply effects left h leaves)
        (right (Asked (unmap_line n)) asked) some

    pub unmake_step : (id : ℕ) → entry.request ≡ Asked (unmake_line id) → entry.reply ≢ NoMemory → VolumeIn before id w.books → IsAsBefore before next.books.tables
    unmake_step id asked some h =
        by_left (UnlessNoMemory (λ b. IsAsBefore before b.tables)) (unmake_line id) (λ reply effects left leaves. unmake_left id reply effects left h leaves)
        (right (Asked (unmake_line id)) asked) some

-- A preset whose source names no volume changes nothing.
refused_same : (o : Option Refusal) (w : Whole) (entry : Entry) (next : Whole) → MustBeRefused o w entry next → next ≡ one_more w
refused_same None w entry next is = absurd is
refused_same (Some refusal) w entry next is = is.next_is

preset_same : (grain : GrainSize) (w : Whole) (entry : Entry) (next : Whole) (source : Ref) (preset : Preset) (name : Option (List ℕ)) → Step grain w entry next →
    entry.request ≡ Asked (Mkpreset source preset name) → next ≡ one_more w
preset_same grain w entry next source preset name step asked =
    refused_same (preset_refused w.books source) w entry next (subst (λ (r : Request). RequestStep grain w r entry next) asked step.right)

next_reached : (grain : GrainSize) (decisions : ℕ) (w : Whole) (entry : Entry) (next : Whole) → decisions + 1 < 2 ^ 32 → IsReached decisions w → Step grain w entry next →
    IsReached (decisions + 2) next
next_reached grain decisions w entry next small reached step = stands_law_holds.step grain decisions w entry next small reached step

-- ---- how a line goes on

module _ (grain : GrainSize) (read : Reading) where
  none_left : (c : Agenda) (w v : Whole) (xs : List Entry) → Goes (session_rules grain read) (Session []) w xs c v → (xs ≡ []) × (v ≡ w)
  none_left c w v xs stays = (refl, refl)
  none_left c w v xs (passes on way) = absurd (cc on)
  none_left c w v xs (begins on way) = absurd on
  none_left c w v xs (answers asked right way) = absurd (cc asked)

  -- from where the line is over without an entry, and in no other way
  none_behind : (a c : Agenda) (w v : Whole) (xs : List Entry) →
      ((then : Agenda) → without_entry grain read a w ≡ Some then → Session [] ≡ then) →
      ((then : Agenda) (next : Whole) → Begins grain a w then next → ⊥) →
      ((asked : ℕ × Request) → Asks grain a w asked → ⊥) →
      (a ≡ Session [] → ⊥) →
      c ≡ Session [] → Goes (session_rules grain read) a w xs c v → (xs ≡ []) × (v ≡ w)
  none_behind a c w v xs over no_names no_entry apart e stays = absurd (apart e)
  none_behind a c w v xs over no_names no_entry apart e (passes {b = then} on way) =
      none_left c w v xs (subst (λ (b : Agenda). Goes (session_rules grain read) b w xs c v) (sym (over then on)) way)
  none_behind a c w v xs over no_names no_entry apart e (begins on way) = absurd (no_names _ _ on)
  none_behind a c w v xs over no_names no_entry apart e (answers asked right way) = absurd (no_entry _ asked)

  own_left : (c : Agenda) (w v : Whole) (xs : List Entry) (behind : Behind) → c ≡ Session [] → Goes (session_rules grain read) (Own [] behind []) w xs c v → (xs ≡ []) × (v ≡ w)
  own_left c w v xs behind e way =
      none_behind (Own [] behind []) c w v xs (λ then on. cc on) (λ then next on. on) (λ asked on. cc on) (λ is. cc is) e way

  seconds_left : (c : Agenda) (w v : Whole) (xs : List Entry) (works : List Work) → c ≡ Session [] →
      Goes (session_rules grain read) (Seconds (seconds_begun 0 works) []) w xs c v → (xs ≡ []) × (v ≡ w)
  seconds_left c w v xs works e way =
      none_behind (Seconds (seconds_begun 0 works) []) c w v xs (λ then on. cc on) (λ then next on. on) (λ asked on. cc on) (λ is. cc is) e way

  by_done : (done : Bool) (c : Agenda) (w v : Whole) (xs : List Entry) (works : List Work) → c ≡ Session [] →
      Goes (session_rules grain read) (cond done (Seconds (seconds_begun 0 works) []) (Session [])) w xs c v → (xs ≡ []) × (v ≡ w)
  by_done true c w v xs works e way = seconds_left c w v xs works e way
  by_done false c w v xs works e way = none_left c w v xs way

  last_left : (reply : Reply) (c : Agenda) (w v : Whole) (xs : List Entry) → c ≡ Session [] →
      Goes (session_rules grain read) (behind_last w reply (PassingSeconds 0) []) w xs c v → (xs ≡ []) × (v ≡ w)
  last_left reply c w v xs e way = by_done (is_done reply) c w v xs (all_work w.books) e way

  -- ---- its next request

  record Answered (request : Request) (rest : List Request) (behind : Behind) (w : Whole) (xs : List Entry) (c : Agenda) (v : Whole) : Type 0 where
    entry : Entry
    more : List Entry
    next : Whole
    are : xs ≡ entry ∷ more
    asked : entry.request ≡ request
    step : Step grain w entry next
    way : Goes (session_rules grain read) (behind_own next entry.reply rest behind []) next more c v

  asked_is : (request : Request) (entry : Entry) → ◌≡◌ {A = Option (ℕ × Request)} (Some (0, request)) (Some (entry.actor, entry.request)) → entry.request ≡ request
  asked_is request entry e =
      let same : ◌≡◌ {A = ℕ × Request} (0, request) (entry.actor, entry.request) = cc e in
      sym (ap (λ (p : ℕ × Request). p.1) same)

  first_answered : (request : Request) (rest : List Request) (behind : Behind) (w : Whole) (xs : List Entry) (c : Agenda) (v : Whole) → c ≡ Session [] →
      Goes (session_rules grain read) (Own (request ∷ rest) behind []) w xs c v → Answered request rest behind w xs c v
  first_answered request rest behind w xs c v e stays = absurd (cc e)
  first_answered request rest behind w xs c v e (passes on way) = absurd (cc on)
  first_answered request rest behind w xs c v e (begins on way) = absurd on
  first_answered request rest behind w xs c v e (answers {next = next} {entry = entry} {entries = more} asked right way) =
      record { entry = entry; more = more; next = next; are = refl; asked = asked_is request entry asked; step = right; way = way }

-- ---- no undoing line wanted memory

abbrev IsUndone : Entry → Type 0
IsUndone e = undoes e.request ≡ true → e.reply ≢ NoMemory

first_undone : (xs more : List Entry) (entry : Entry) → xs ≡ entry ∷ more → AreUndone xs → undoes entry.request ≡ true → entry.reply ≢ NoMemory
first_undone xs more entry are undone is = All-head IsUndone entry more (subst AreUndone are undone) is

rest_undone : (xs more : List Entry) (entry : Entry) → xs ≡ entry ∷ more → AreUndone xs → AreUndone more
rest_undone xs more entry are undone = All-tail IsUndone entry more (subst AreUndone are undone)

-- ---- the whole line, from its end to its beginning

module _ (before : Tables) (grain : GrainSize) (read : Reading) (end : Agenda) (last : Whole) (over : end ≡ Session []) where
  abbrev Way : Agenda → Whole → List Entry → Type 0
  Way a w xs = Goes (session_rules grain read) a w xs end last

  unmake_goes : (id decisions : ℕ) (w : Whole) (xs : List Entry) → decisions < 2 ^ 32 → IsReached decisions w → VolumeIn before id w.books → AreUndone xs →
      Way (Own (Asked (unmake_line id) ∷ []) (PassingSeconds 0) []) w xs → IsAsBefore before last.books.tables
  unmake_goes id decisions w xs small reached h undone way =
      let a : Answered grain read (Asked (unmake_line id)) [] (PassingSeconds 0) w xs end last =
      first_answered grain read (Asked (unmake_line id)) [] (PassingSeconds 0) w xs end last over way in
      let some : a.entry.reply ≢ NoMemory = first_undone xs a.more a.entry a.are undone (ap undoes a.asked) in
      let none : (a.more ≡ []) × (last ≡ a.next) = last_left grain read a.entry.reply end a.next last a.more over a.way in
      subst (λ (x : Whole). IsAsBefore before x.books.tables) (sym none.1)
      (unmake_step before grain decisions w small reached a.entry a.next a.step id a.asked some h)

  unmap_goes : (id n decisions : ℕ) (w : Whole) (xs : List Entry) → decisions + 2 < 2 ^ 32 → IsReached decisions w → BothIn before id n w.books → AreUndone xs →
      Way (Own (Asked (unmap_line n) ∷ Asked (unmake_line id) ∷ []) (PassingSeconds 0) []) w xs → IsAsBefore before last.books.tables
  unmap_goes id n decisions w xs small reached h undone way =
      let a : Answered grain read (Asked (unmap_line n)) (Asked (unmake_line id) ∷ []) (PassingSeconds 0) w xs end last =
      first_answered grain read (Asked (unmap_line n)) (Asked (unmake_line id) ∷ []) (PassingSeconds 0) w xs end last over way in
      let some : a.entry.reply ≢ NoMemory = first_undone xs a.more a.entry a.are undone (ap undoes a.asked) in
      unmake_goes id (decisions + 2) a.next a.more small (next_reached grain decisions w a.entry a.next (omega (arith, small)) reached a.step)
      (unmap_step before grain decisions w (omega (arith, small)) reached a.entry a.next a.step id n a.asked some h)
      (rest_undone xs a.more a.entry a.are undone) a.way

  -- behind `startfcmap`
  start_goes : (id n decisions : ℕ) (entry : Entry) (next : Whole) (xs more : List Entry) (reply : Reply) → entry.reply ≡ reply → xs ≡ entry ∷ more → decisions + 2 < 2 ^ 32 →
      IsReached decisions next → AfterStart before id n reply next.books → AreUndone more → ((e : Entry) → xs ≡ e ∷ [] → e.reply ≡ Done → ⊥) →
      Way (behind_last next reply (Undo n id) []) next more → IsAsBefore before last.books.tables
  start_goes id n decisions entry next xs more Done is are small reached h undone unlike way =
      let none : (more ≡ []) × (last ≡ next) = own_left grain read end next last more (PassingSeconds 0) over way in
      absurd (unlike entry (are ∙ ap (λ (es : List Entry). entry ∷ es) none.0) is)
  start_goes id n decisions entry next xs more reply is are small reached h undone unlike way =
      unmap_goes id n decisions next more small reached h undone way

  -- behind `mkfcmap`
  map_goes : (id decisions : ℕ) (entry : Entry) (next : Whole) (xs more : List Entry) (reply : Reply) → entry.reply ≡ reply → xs ≡ entry ∷ more → decisions + 4 < 2 ^ 32 →
      IsReached decisions next → AfterMapping before id reply next.books → AreUndone more →
      ((e f : Entry) → xs ≡ e ∷ f ∷ [] → has_made e.reply ≡ true → f.reply ≡ Done → ⊥) →
      Way (behind_last next reply (Start id) []) next more → IsAsBefore before last.books.tables
  map_goes id decisions entry next xs more (Made kind n) is are small reached h undone unlike way =
      let a : Answered grain read (Asked (start_line n)) [] (Undo n id) next more end last =
      first_answered grain read (Asked (start_line n)) [] (Undo n id) next more end last over way in
      start_goes id n (decisions + 2) a.entry a.next more a.more a.entry.reply refl a.are (omega (arith, small))
      (next_reached grain decisions next a.entry a.next (omega (arith, small)) reached a.step)
      (start_step before grain decisions next (omega (arith, small)) reached a.entry a.next a.step id n a.asked h)
      (rest_undone more a.more a.entry a.are undone)
      (λ e one done. unlike entry e (are ∙ ap (λ (es : List Entry). entry ∷ es) one) (ap has_made is) done)
      a.way
  map_goes id decisions entry next xs more reply is are small reached h undone unlike way =
      unmake_goes id decisions next more (omega (arith, small)) reached h undone way

  -- behind `mkvdisk`
  volume_goes : (source : Ref) (preset : Preset) (name : Option (List ℕ)) (decisions : ℕ) (entry : Entry) (next : Whole) (xs more : List Entry) (reply : Reply) → entry.reply ≡ reply →
      xs ≡ entry ∷ more → decisions + 6 < 2 ^ 32 → IsReached decisions next → AfterVolume before reply next.books → AreUndone more → (IsWhole xs → ⊥) →
      Way (behind_last next reply (MappingOf source preset name) []) next more → IsAsBefore before last.books.tables
  volume_goes source preset name decisions entry next xs more (Made kind id) is are small reached h undone unlike way =
      let a : Answered grain read (Asked (mapping_line source preset name id)) [] (Start id) next more end last =
      first_answered grain read (Asked (mapping_line source preset name id)) [] (Start id) next more end last over way in
      map_goes id (decisions + 2) a.entry a.next more a.more a.entry.reply refl a.are (omega (arith, small))
      (next_reached grain decisions next a.entry a.next (omega (arith, small)) reached a.step)
      (map_step before grain decisions next (omega (arith, small)) reached a.entry a.next a.step source preset name id a.asked h)
      (rest_undone more a.more a.entry a.are undone)
      (λ e f two made done. unlike (subst IsWhole (sym (are ∙ ap (λ (es : List Entry). entry ∷ es) two)) (ap has_made is, made, done)))
      a.way
  volume_goes source preset name decisions entry next xs more reply is are small reached h undone unlike way =
      let none : (more ≡ []) × (last ≡ next) = own_left grain read end next last more (PassingSeconds 0) over way in
      subst (λ (x : Whole). IsAsBefore before x.books.tables) (sym none.1) h

  line_goes : (source : Ref) (preset : Preset) (name : Option (List ℕ)) (decisions : ℕ) (w : Whole) (xs : List Entry) (found : Option Volume) → decisions + 8 < 2 ^ 32 → IsReached decisions w →
      IsAsBefore before w.books.tables → AreUndone xs → (IsWhole xs → ⊥) → Way (Own (preset_asked grain source preset name found) (behind_preset source preset name found) []) w xs →
      IsAsBefore before last.books.tables
  line_goes source preset name decisions w xs None small reached h undone unlike way =
      let a : Answered grain read (Asked (Mkpreset source preset name)) [] (PassingSeconds 0) w xs end last =
      first_answered grain read (Asked (Mkpreset source preset name)) [] (PassingSeconds 0) w xs end last over way in
      let none : (a.more ≡ []) × (last ≡ a.next) = last_left grain read a.entry.reply end a.next last a.more over a.way in
      subst (λ (x : Whole). IsAsBefore before x.books.tables) (sym (none.1 ∙ preset_same grain w a.entry a.next source preset name a.step a.asked)) h
  line_goes source preset name decisions w xs (Some v) small reached h undone unlike way =
      let a : Answered grain read (Asked (volume_line grain preset name v)) [] (MappingOf source preset name) w xs end last =
      first_answered grain read (Asked (volume_line grain preset name v)) [] (MappingOf source preset name) w xs end last over way in
      volume_goes source preset name (decisions + 2) a.entry a.next xs a.more a.entry.reply refl a.are (omega (arith, small))
      (next_reached grain decisions w a.entry a.next (omega (arith, small)) reached a.step)
      (volume_step before grain decisions w (omega (arith, small)) reached a.entry a.next a.step preset name v a.asked h)
      (rest_undone xs a.more a.entry a.are undone) unlike a.way

-- ---- the law

pub presets_law_holds : PresetsLaw
presets_law_holds =
    record {
      line = λ grain w source preset name. refl;
      undone = λ grain read decisions w last source preset name entries small reached way unlike undone.
          let tables : Tables = w.books.tables in
          line_goes tables grain read way.end last way.over source preset name decisions w entries (volume_named tables source) (omega (arith, small)) reached
          (record { volumes = refl; groups = refl; mappings = left_same tables.mappings }) undone unlike way.goes;
    }
