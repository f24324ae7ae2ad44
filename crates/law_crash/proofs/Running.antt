-- A whole history: each entry stands on what the last one left, and what a stop finds in the next one may be recovered.
use Rattle.std.proofs.Common.{◌≡◌, ℕ, ◌+◌, ◌*◌, ◌<◌, ◌≤◌, ◌==◌, cond, fold, Option, Some, None, List, [], ◌∷◌, ◌++◌, length, set, All, refl, sym, ap, subst, ◌∙◌, arith, ◌⊎◌, inl, inr}
use Rattle.std.specs.List.{AllZip}
use Rattle.std.proofs.lemmas.Bool.{eqb-true}
use Rattle.fc_alike.proofs.Lawful.{follow_law_holds}
use Rattle.fc_base.specs.Grain.{block_bytes}
use Rattle.fc_base.specs.Pools.{Pool}
use Rattle.fc_base.specs.Sheet.{Sheet, slot_at}
use Rattle.fc_base.specs.Tables.{Tables, volume_with}
use Rattle.fc_base.specs.declared.command.Command.{Command}
use Rattle.fc_base.specs.declared.ids.VolId.{VolId}
use Rattle.fc_base.specs.declared.request.Request.{Request}
use Rattle.fc_base.specs.declared.request.Request.TheVariants.{Command as Asked, Copy, Clean, CopyTurn, CleanTurn}
use Rattle.fc_base.specs.declared.request.Side.{Side}
use Rattle.fc_base.specs.declared.request.Side.TheVariants.{Now, Under}
use Rattle.fc_base.specs.declared.request.Torn.{Torn}
use Rattle.fc_base.specs.declared.request.WritePart.{WritePart}
use Rattle.fc_base.specs.declared.size.GrainSize.{GrainSize}
use Rattle.fc_base.specs.declared.volume.Volume.{Volume}
use Rattle.fc_books.specs.Sound.{AreSound}
use Rattle.fc_changed.specs.Notes.{Note as RowNote}
use Rattle.fc_changed.specs.Row.{Row, after_note}
use Rattle.fc_decided.proofs.Lists.{find_from}
use Rattle.fc_entry.specs.Picture.{Content, Lost, PlainVolume, Picture, changed_at, content_at, grain_of_block, byte_in_grain, written}
use Rattle.fc_entry.specs.PlainStep.{after_loss, after_torn, plain_step}
use Rattle.fc_entry.specs.declared.entry.Entry.{Entry}
use Rattle.fc_follow.specs.Alike.{AreAlike, IsAlike}
use Rattle.fc_follow.specs.Following.{followed_entry, rows_entry, write_notes}
use Rattle.fc_kept.specs.Actions.{Action, Action.Data, Action.Note, Action.Fold}
use Rattle.fc_kept.specs.Disks.{NamedDisk, FitDisks, disk_of}
use Rattle.fc_kept.specs.Kept.{Kept, is_lost_in, sheet_kept}
use Rattle.fc_kept.specs.Marks.{LeastLeft, LeastLeft.unsettled as least_unsettled, LeastStep, asked_write, least_asked, least_entry}
use Rattle.fc_kept.specs.OneGrain.{Another}
use Rattle.fc_kept.specs.Prefix.{AreStepsOf}
use Rattle.fc_kept.specs.Recoverable.{Recoverable, disks_at}
use Rattle.fc_kept.proofs.Marking.{mark_law}
use Rattle.fc_kept.proofs.Sizes.{size_is, slot_size}
use Rattle.fc_legal.specs.Legal.{AreSteps}
use Rattle.fc_legal.specs.Steps.{Step, after_access, one_more}
use Rattle.fc_legal.specs.Whole.{Whole, all_followed, as_one, lane_at, opened, single_lane}
use Rattle.fc_parts.specs.Law.{IsInVolume}
use Rattle.fc_parts.proofs.Accesses.{plain_is}
use Rattle.fc_parts.proofs.Numbers.{all_place}
use Rattle.fc_rules.specs.LaneRight.{done_write}
use Rattle.fc_rules.specs.LaneTold.{picture_entry, picture_tear, picture_write, place_of, sheet_entry, tear_volume}
use Rattle.fc_rules.specs.Steps.{DiskStep}
use Rattle.law_crash.specs.Doing.{number_of, actions_of_steps, marks_by_move, chains_behind, content_of, noted, with_kept, with_disks, IsWritten, SameDisk, Did, Stopped, Tears, Tells}
use Rattle.law_crash.specs.Law.{Begins}
use Rattle.law_crash.specs.Leaving.{AreUnnamed, GoesOn, Leaves, Leaves.anew, Leaves.unsettled}
use Rattle.law_crash.specs.Points.{Point, StandsFor, nothing_kept, on_disks, stored_by}
use Rattle.law_crash.specs.Running.{Does, Does.refused, Does.read, Does.whole, Does.stopped, Does.commanded, Does.unchanged, Run, Run.begun, Run.more, Run.named, StayAs, Takes, Stops, Stops.before, Stops.within, Stops.done}
use Rattle.law_crash.proofs.Answering.{answered, least_with, plain_after, request_is, told_with}
use Rattle.law_crash.proofs.Disks.{was_of}
use Rattle.law_crash.proofs.Ending.{all_stopped}
use Rattle.law_crash.proofs.Lawful.{all_found, all_stand}
use Rattle.law_crash.proofs.Leaving.{SameOfSlots, leaves_all, shows_same, some_volume, stays_all}
use Rattle.law_crash.proofs.Noting.{stands_counted}
use Rattle.law_crash.proofs.Opening.{opens, rests, turned}
use Rattle.law_stands.proofs.Standing.{stands_law_holds}

-- ---- rows stay alike through an access

write_same : (grain : GrainSize) (picture : Picture) (write : Option WritePart) → picture_write (single_lane grain) picture write ≡ plain_after grain picture write
write_same grain picture None = refl
write_same grain picture (Some part) =
    let number : ℕ = grain_of_block grain part.block in
    let at : ℕ → PlainVolume → PlainVolume = λ g v. record v {
      now = set v.now g (written (byte_in_grain grain part.block) (block_bytes * part.count) part.byte (content_at v.now g));
    } in
    ap (λ (g : ℕ). changed_at part.volume (at g) picture) (all_place grain number)

side_same : (grain : GrainSize) (picture : Picture) (torn : Torn) (side : Side) → changed_at torn.volume (tear_volume side (place_of (single_lane grain) torn.grain.0)) picture ≡ changed_at torn.volume (after_torn (record torn { side = side })) picture
side_same grain picture torn Now = ap (λ (g : ℕ). changed_at torn.volume (tear_volume Now g) picture) (all_place grain torn.grain.0)
side_same grain picture torn Under = ap (λ (g : ℕ). changed_at torn.volume (tear_volume Under g) picture) (all_place grain torn.grain.0)

loss_same : (grain : GrainSize) (picture : Picture) (torn : Option Torn) → picture_tear (single_lane grain) picture torn ≡ after_loss picture torn
loss_same grain picture None = refl
loss_same grain picture (Some torn) = side_same grain picture torn torn.side

picture_same : (grain : GrainSize) (picture : Picture) (entry : Entry) → entry.effects ≡ [] → picture_entry (single_lane grain) picture (done_write entry.request entry.reply) entry.torn ≡ plain_step grain picture entry
picture_same grain picture entry none =
    let write : Option WritePart = done_write entry.request entry.reply in
    loss_same grain (picture_write (single_lane grain) picture write) entry.torn
    ∙ (ap (λ (z : Picture). after_loss z entry.torn) (write_same grain picture write ∙ sym (request_is grain picture entry.request entry.reply))
    ∙ sym (plain_is grain picture entry none))

access_alike : (grain : GrainSize) (w : Whole) (i : ℕ) (entry : Entry) → entry.effects ≡ [] → AreAlike (all_followed w) → AreAlike (all_followed (after_access grain w i entry))
access_alike grain w i entry none alike =
    let l = single_lane grain in
    let a : AreAlike (followed_entry l (all_followed w) entry) = follow_law_holds.entry l (all_followed w) entry alike in
    let sheet : Sheet = sheet_entry l w.books.sheet (done_write entry.request entry.reply) entry.moves entry.torn in
    record {
      each = subst (λ (z : Picture). All (IsAlike sheet.slots z) (rows_entry l w.rows entry)) (picture_same grain w.picture entry none) a.each;
      distinct = a.distinct;
    }

-- ---- disks keep their names through an access

still_none : (xs ys : List NamedDisk) (v : ℕ) → AllZip SameDisk xs ys → disk_of xs v ≡ None → disk_of ys v ≡ None
still_none xs ys v s e = go (disk_of ys v) refl
  where
    go : (now : Option NamedDisk) → disk_of ys v ≡ now → disk_of ys v ≡ None
    go None is = is
    go (Some d) is =
        let was = was_of xs ys v d s is in
        absurd (let f : Some was.0 ≡ None = sym was.1 ∙ e in cc)

written_unnamed : (grain : GrainSize) (w now : Whole) (v g : ℕ) (content : Content) (old new : List (List NamedDisk)) → IsWritten grain w v g content old new → AreUnnamed now old → AreUnnamed now new
written_unnamed grain w now v g content old new x u i y le = still_none (disks_at old i) (disks_at new i) y (x.same i) (u i y le)

did_unnamed : (grain : GrainSize) (w now : Whole) (r : Request) (chains : Sheet) (actions : List Action) (p q : Point) → Did grain w r chains actions p q → AreUnnamed now p.disks → AreUnnamed now q.disks
did_unnamed grain w now r chains [] p q d u = subst (λ (z : Point). AreUnnamed now z.disks) (sym d) u
did_unnamed grain w now r chains (Data step ∷ rest) p q d u =
    did_unnamed grain w now r chains rest (with_disks d.0 p) q d.2 (written_unnamed grain w now step.volume (number_of grain r) (content_of grain w r step) p.disks d.0 d.1 u)
did_unnamed grain w now r chains (Note x ∷ rest) p q d u = did_unnamed grain w now r (sheet_kept chains x) rest (noted x (with_kept d.0 p)) q d.2 u
did_unnamed grain w now r chains (Fold ∷ rest) p q d u = absurd d

tears_unnamed : (grain : GrainSize) (w now : Whole) (r : Request) (chains : Sheet) (step : DiskStep) (torn : Option Torn) (p q : Point) → Tears grain w r chains step torn p q → AreUnnamed now p.disks → AreUnnamed now q.disks
tears_unnamed grain w now r chains step None p q t u = subst (λ (z : Point). AreUnnamed now z.disks) (sym t) u
tears_unnamed grain w now r chains step (Some torn) p q (is, some, content, disks, x, kept, m, e) u =
    subst (λ (z : Point). AreUnnamed now z.disks) (sym e) (written_unnamed grain w now step.volume (number_of grain r) content p.disks disks x u)

stopped_unnamed : (grain : GrainSize) (w now : Whole) (r : Request) (rows : List Row) (front : List DiskStep) (step : DiskStep) (torn : Option Torn) (p q : Point) → Stopped grain w r rows front step torn p q →
    AreUnnamed now p.disks → AreUnnamed now q.disks
stopped_unnamed grain w now r rows front step torn p q x u =
    tears_unnamed grain w now r (chains_behind grain w front) step torn x.marked q x.tears
    (did_unnamed grain w now r (chains_behind grain w front) (marks_by_move rows (number_of grain r) step step.move) x.begun x.marked x.marks
    (did_unnamed grain w now r w.books.sheet (actions_of_steps rows (number_of grain r) front) p x.begun x.did u))

-- ---- an access without steps

more_asked : (grain : GrainSize) (w : Whole) (least : List Row) (asked : Option Request) (p : Point) → StandsFor grain w least p → StandsFor grain w (least_asked (single_lane grain) least asked) p
more_asked grain w least asked p st =
    let s = st.says in
    record {
      says = record {
        sound = s.sound;
        tables = s.tables;
        next_volume = s.next_volume;
        next_mapping = s.next_mapping;
        next_group = s.next_group;
        slots = s.slots;
        rows = mark_law.asked (single_lane grain) p.kept.rows w.rows least asked s.rows;
        count = s.count;
        fit = s.fit;
      };
      shows = st.shows;
    }

nothing_more : (xs : List RowNote) → xs ≡ xs ++ []
nothing_more [] = refl
nothing_more (x ∷ xs) = ap (λ (ys : List RowNote). x ∷ ys) (nothing_more xs)

read_stands : (grain : GrainSize) (w : Whole) (least : List Row) (r : Request) (entry : Entry) (i : ℕ) (p : Point) → Tells r None [] None entry → StandsFor grain w least p →
    StandsFor grain (after_access grain w i entry) (least_entry (single_lane grain) least entry) p
read_stands grain w least r entry i p told st =
    let l = single_lane grain in
    let notes = write_notes l (asked_write r) in
    answered grain w least r None [] None p entry i told
    (subst (λ (ns : List RowNote). StandsFor grain w (fold after_note least ns) p) (nothing_more notes)
    (more_asked grain w least (Some r) p st))

-- ---- an entry

takes_write : (request work : Request) → Takes request work → asked_write request ≡ asked_write work
takes_write (CopyTurn lane) (Copy m g) t = refl
takes_write (CleanTurn lane) (Clean m g) t = refl
takes_write request work t = ap asked_write (sym t)

abbrev Behind : GrainSize → Whole → List Row → Point → Type 0
Behind grain w least q = StandsFor grain w least q × AreAlike (all_followed w) × AreUnnamed w q.disks

module _ (grain : GrainSize) (w : Whole) (least : List Row) (p : Point) (few : w.entries < 262144) (st : StandsFor grain w least p) (on : GoesOn (2 * w.entries) w p.disks) where
  begins : (r : Request) (steps : List DiskStep) → IsInVolume grain w r → AreStepsOf grain w r steps → Begins grain w least r steps p
  begins r steps inside are = record { sound = on.reached.stands.sound; inside = inside; steps_are = are; stands = st }

  does_stand : (entry : Entry) (next : Whole) (least' : List Row) (q : Point) → Does grain w least p entry next least' q → Behind grain next least' q
  does_stand entry next least' q (refused none) = (
    stands_counted grain w least p w.books.rooms w.faults w.calls (w.entries + 1) refl st,
    record { each = on.alike.each; distinct = on.alike.distinct },
    on.unnamed,
  )
  does_stand entry next least' q (read i told) = (
    read_stands grain w least entry.request entry i p told st,
    access_alike grain w i entry told.no_effects on.alike,
    on.unnamed,
  )
  does_stand entry next least' q (whole i work steps z takes inside are did told) = (
    answered grain w least entry.request (asked_write entry.request) steps None z entry i told
        (subst (λ (o : Option WritePart). StandsFor grain (told_with grain w o steps None) (least_with grain least o None) z) (sym (takes_write entry.request work takes))
        (all_stand grain w least work steps p z (begins work steps inside are) did)),
    access_alike grain w i entry told.no_effects on.alike,
    did_unnamed grain w (after_access grain w i entry) work w.books.sheet (actions_of_steps p.kept.rows (number_of grain work) steps) p z did on.unnamed,
  )
  does_stand entry next least' q (stopped i work front back step torn z takes inside are x told) = (
    answered grain w least entry.request None front torn z entry i told
        (subst (λ (o : Option WritePart). StandsFor grain (told_with grain w None front torn) (least_with grain least o torn) z) (sym (takes_write entry.request work takes))
        (all_stopped grain w least work front back step torn p z (begins work (front ++ step ∷ back) inside are) x)),
    access_alike grain w i entry told.no_effects on.alike,
    stopped_unnamed grain w (after_access grain w i entry) work p.kept.rows front step torn p z x on.unnamed,
  )
  does_stand entry next least' q (commanded command left rows kept e have leaves) =
      let x = leaves_all grain (2 * w.entries) w left least rows command p kept (omega (arith, few)) on st have leaves in
      (x.0, x.1.alike, x.1.unnamed)
  does_stand entry next least' q (unchanged command left rows e marks says) =
      let x = stays_all grain (2 * w.entries) w least command p (omega (arith, few)) on st left rows marks says in
      (x.0, x.1.alike, x.1.unnamed)

-- ---- disks get other names

named_stands : (grain : GrainSize) (w : Whole) (least : List Row) (p : Point) (disks : List (List NamedDisk)) → AreSound w.books → StandsFor grain w least p → StayAs grain w p.disks disks → StandsFor grain w least (with_disks disks p)
named_stands grain w least p disks sound st x =
    let s = st.says in
    let q : Point = with_disks disks p in
    let same : SameOfSlots w.books.sheet.slots (stored_by grain w p) (stored_by grain w q) = λ k g kl gl.
    let v : ℕ = (slot_at w.books.sheet.slots k).volume in
    let id : VolId = record { 0 = v } in
    let found = some_volume (volume_with w.books.tables id) (sound.agree.slots k kl) in
    let f = find_from (λ (y : Volume). v == y.id.0) w.books.tables.volumes found.0 found.1 in
    let e : v ≡ found.0.id.0 = eqb-true v found.0.id.0 f.1 in
    let size : length (slot_at w.books.sheet.slots k).held ≡ found.0.grains = slot_size w.books sound k kl ∙ size_is w.books.tables id found.0 found.1 in
    ap (λ (c : Content). cond (is_lost_in p.kept.lost v g) Lost c)
    (subst (λ (n : ℕ). on_disks grain w disks n g ≡ on_disks grain w p.disks n g) (sym e) (x.same found.0 f.0 g (omega (arith, gl, size)))) in
    record {
      says = record {
        sound = s.sound;
        tables = s.tables;
        next_volume = s.next_volume;
        next_mapping = s.next_mapping;
        next_group = s.next_group;
        slots = s.slots;
        rows = s.rows;
        count = x.count ∙ s.count;
        fit = λ i il. subst (λ (t : Tables). FitDisks (lane_at grain w i) (disks_at disks i) t) (sym s.tables) (x.fit i il);
      };
      shows = shows_same w.books.sheet.slots w.picture (stored_by grain w p) (stored_by grain w q) same st.shows;
    }

-- ---- all entries

steps_snoc : (grain : GrainSize) (w now next : Whole) (entries : List Entry) (entry : Entry) → AreSteps grain w entries now → Step grain now entry next → AreSteps grain w (entries ++ entry ∷ []) next
steps_snoc grain w now next [] entry are step = (next, subst (λ (z : Whole). Step grain z entry next) are step, refl)
steps_snoc grain w now next (e ∷ es) entry are step = (are.0, are.1, steps_snoc grain are.0 now next es entry are.2 step)

abbrev pub RunsTo : GrainSize → Whole → List Entry → Whole → List Row → Point → Type 0
RunsTo grain first entries w least p = AreSteps grain first entries w × StandsFor grain w least p × GoesOn (2 * w.entries) w p.disks

pub run_stands : (grain : GrainSize) (first : Whole) (least : List Row) (p : Point) (entries : List Entry) (w : Whole) (least' : List Row) (q : Point) → StandsFor grain first least p → GoesOn (2 * first.entries) first p.disks →
    Run grain first least p entries w least' q → w.entries ≤ 262144 → RunsTo grain first entries w least' q
run_stands grain first least p entries w least' q st on begun few = (refl, st, on)
run_stands grain first least p entries w least' q st on (more front now least_now x entry next least_next z run step does) few =
    let count : next.entries ≡ now.entries + 1 = stands_law_holds.counted grain now entry next step in
    let below : now.entries < 262144 = omega (arith, count, few) in
    let r = run_stands grain first least p front now least_now x st on run (omega (arith, below)) in
    let b = does_stand grain now least_now x below r.1 r.2 entry next least_next z does in (
      steps_snoc grain first now next front entry r.0 step,
      b.0,
      record { reached = stands_law_holds.by_entries grain now entry next below r.2.reached step; alike = b.1; unnamed = b.2 },
    )
run_stands grain first least p entries w least' q st on (named front now least_now x disks run stay) few =
    let r = run_stands grain first least p front now least_now x st on run few in (
      r.0,
      named_stands grain now least_now x disks r.2.reached.stands.sound r.1 stay,
      record { reached = r.2.reached; alike = r.2.alike; unnamed = stay.unnamed },
    )

pub opened_on : (grain : GrainSize) (pools : List Pool) (disks : List (List NamedDisk)) → 0 < length pools → AreUnnamed (opened pools) disks → GoesOn 0 (opened pools) disks
opened_on grain pools disks some unnamed =
    record { reached = stands_law_holds.opened pools some; alike = follow_law_holds.none (as_one (opened pools)); unnamed = unnamed }

pub runs_all : (grain : GrainSize) (pools : List Pool) (disks : List (List NamedDisk)) (entries : List Entry) (w : Whole) (least : List Row) (p : Point) → 0 < length pools → length disks ≡ length pools → AreUnnamed (opened pools) disks →
    let first : Point = record { kept = nothing_kept; disks = disks } in Run grain (opened pools) [] first entries w least p → w.entries ≤ 262144 → RunsTo grain (opened pools) entries w least p
runs_all grain pools disks entries w least p some count unnamed run few =
    let first : Point = record { kept = nothing_kept; disks = disks } in
    run_stands grain (opened pools) [] first entries w least p (opens grain pools disks count) (opened_on grain pools disks some unnamed) run few

-- ---- a stop in the next one

pub least_left : (grain : GrainSize) (w : Whole) (least : List Row) (k : Kept) (command : Command) (left : Whole) (least' : List Row) (kept : Kept) → Leaves grain w least k command left least' kept → LeastLeft grain w least command left least'
least_left grain w least k command left least' kept (anew behind least_behind rows marks between) = marks
least_left grain w least k command left least' kept unsettled = least_unsettled

least_step : (grain : GrainSize) (w left : Whole) (least least' : List Row) (command : Command) (entry : Entry) (request : Request) → request ≡ Asked command → LeastLeft grain w least command left least' → LeastStep grain w least request entry (one_more left) least'
least_step grain w left least least' command entry request e x = subst (λ (r : Request). LeastStep grain w least r entry (one_more left) least') (sym e) (left, x, refl)

least_access : (grain : GrainSize) (w : Whole) (least : List Row) (request work : Request) (steps : List DiskStep) (entry : Entry) (next : Whole) → Takes request work → AreStepsOf grain w work steps →
    LeastStep grain w least request entry next (least_entry (single_lane grain) least entry)
least_access grain w least (Asked command) work steps entry next takes are = absurd (subst (λ (r : Request). AreStepsOf grain w r steps) takes are)
least_access grain w least request work steps entry next takes are = refl

-- an entry leaves all as it was, or its least rows are those that the history has behind it
least_done : (grain : GrainSize) (w : Whole) (least : List Row) (p : Point) (entry : Entry) (next : Whole) (least' : List Row) (q : Point) → Does grain w least p entry next least' q →
    (q ≡ p) ⊎ LeastStep grain w least entry.request entry next least'
least_done grain w least p entry next least' q (refused none) = inl refl
least_done grain w least p entry next least' q (read i told) = inl refl
least_done grain w least p entry next least' q (whole i work steps z takes inside are did told) = inr (least_access grain w least entry.request work steps entry (after_access grain w i entry) takes are)
least_done grain w least p entry next least' q (stopped i work front back step torn z takes inside are x told) =
    inr (least_access grain w least entry.request work (front ++ step ∷ back) entry (after_access grain w i entry) takes are)
least_done grain w least p entry next least' q (unchanged command left rows e marks says) = inl refl
least_done grain w least p entry next least' q (commanded command left rows kept e have leaves) =
    inr (least_step grain w left least rows command entry entry.request e (least_left grain w least p.kept command left rows kept leaves))

stop_recovers : (grain : GrainSize) (w : Whole) (least : List Row) (p : Point) (request : Request) (one : Option Another) (q : Point) → w.entries < 262144 → StandsFor grain w least p → GoesOn (2 * w.entries) w p.disks →
    Stops grain w least p request one q → Recoverable grain q.disks q.kept w least (Some request) one
stop_recovers grain w least p request one q few st on (before r) = rests grain w least (Some r) p st
stop_recovers grain w least p request one q few st on (within r steps other z inside are finds) =
    all_found grain w least r steps p z other (begins grain w least p few st on r steps inside are) finds
stop_recovers grain w least p request one q few st on (done entry next rows z step does) =
    elim (least_done grain w least p entry next rows z does) [
      | inl same ↦ subst (λ (x : Point). Recoverable grain x.disks x.kept w least (Some entry.request) None) (sym same) (rests grain w least (Some entry.request) p st)
      | inr marks ↦ turned grain w next least rows entry p z z None step marks st (does_stand grain w least p few st on entry next rows z does).0 (inr (refl, refl, inl refl))
    ]

pub stops_all : (grain : GrainSize) (pools : List Pool) (disks : List (List NamedDisk)) (entries : List Entry) (w : Whole) (least : List Row) (p : Point) (request : Request) (one : Option Another) (q : Point) →
    0 < length pools → length disks ≡ length pools → AreUnnamed (opened pools) disks → let first : Point = record { kept = nothing_kept; disks = disks } in Run grain (opened pools) [] first entries w least p →
    w.entries < 262144 → Stops grain w least p request one q → Recoverable grain q.disks q.kept w least (Some request) one
stops_all grain pools disks entries w least p request one q some count unnamed run few stop =
    let r = runs_all grain pools disks entries w least p some count unnamed run (omega (arith, few)) in
    stop_recovers grain w least p request one q few r.1 r.2 stop
