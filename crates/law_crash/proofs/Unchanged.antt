-- Where a command has no action, metadata says all that it leaves, but for old slots that nobody needs.
use Rattle.std.proofs.Common.{◌≡◌, ℕ, ◌+◌, ◌<◌, ◌^◌, Bool, true, false, not, ◌==◌, ◌||◌, if◌then◌else◌, fold, List, [], ◌∷◌, ◌++◌, length, Option, Some, None, refl, sym, ap, subst, ◌∙◌, arith, inl, inr}
use Rattle.std.proofs.lemmas.Bool.{eqb-true}
use Rattle.fc_base.specs.Sheet.{Slot, Sheet, slot_at}
use Rattle.fc_base.specs.SheetFacts.{IsSound}
use Rattle.fc_base.specs.SheetFits.{FitsDrop}
use Rattle.fc_base.specs.SheetStep.{dropped, sheet_step}
use Rattle.fc_base.specs.Tables.{Tables}
use Rattle.fc_base.specs.declared.command.Command.{Command}
use Rattle.fc_base.specs.declared.decision.Decision.{Decision}
use Rattle.fc_base.specs.declared.decision.LaneEvent.{LaneEvent}
use Rattle.fc_base.specs.declared.decision.LaneEvent.TheVariants.{Access, Arm, Drop, Work}
use Rattle.fc_base.specs.declared.ids.SlotId.{SlotId}
use Rattle.fc_base.specs.declared.ids.VolId.{VolId}
use Rattle.fc_base.specs.declared.size.GrainSize.{GrainSize}
use Rattle.fc_base.specs.declared.state.MapState.{MapState}
use Rattle.fc_base.specs.declared.state.MapState.TheVariants.{Copying, Stopping}
use Rattle.fc_base.specs.declared.volume.Change.{Change}
use Rattle.fc_books.specs.After.{after_all, after_event, sheet_after}
use Rattle.fc_books.specs.Books.{Books}
use Rattle.fc_books.specs.Deciding.{settle}
use Rattle.fc_books.specs.Sound.{AreSound}
use Rattle.fc_changed.specs.Row.{Row}
use Rattle.fc_decided.proofs.Apart.{fold_append, sheet_through}
use Rattle.fc_decided.proofs.Dropping.{drop_events, settling_drops, unneeded_names}
use Rattle.fc_decided.proofs.Joint.{Joint, StateSeen, joint_from}
use Rattle.fc_decided.proofs.Quiet.{FitAll}
use Rattle.fc_decided.proofs.Seen.{Seen, no_place, seen}
use Rattle.fc_follow.specs.Following.{restarts}
use Rattle.fc_kept.specs.Actions.{Action.Fold, actions_of_command, has_effect}
use Rattle.fc_kept.specs.Drops.{DropsTo, DropsTo.same, DropsTo.drop}
use Rattle.fc_kept.specs.Marks.{AreMarked, least_by, least_events}
use Rattle.fc_kept.specs.Recoverable.{Says}
use Rattle.fc_kept.proofs.Lawful.{kept_law_holds}
use Rattle.fc_legal.specs.Steps.{after_settling, decided_on, left_by, rows_after}
use Rattle.fc_legal.specs.Whole.{Whole}
use Rattle.fc_moves.proofs.Search.{cases_option}
use Rattle.fc_sheets.proofs.Events.{dropped_sound}
use Rattle.fc_sheets.proofs.Finding.{birth_place_at, mapping_place_none}
use Rattle.fc_sheets.proofs.Steps.{Nobody}
use Rattle.law_crash.specs.Leaving.{GoesOn}
use Rattle.law_crash.specs.Points.{Point, StandsFor}
use Rattle.law_crash.proofs.Folding.{left_dropped}
use Rattle.law_crash.proofs.Resting.{AreStill, Each, decide_rests, settle_rests}
use Rattle.law_stands.proofs.Standing.{stands_law_holds}

-- ---- where tables stay, no mapping loses its slot

state_none : (state : MapState) (was is : Option Seen) (v : ℕ) → StateSeen state was v → StateSeen state is v → is ≡ None → was ≡ None
state_none Copying was is v a b e = absurd (let f : Some b.x ≡ None = sym b.is ∙ e in cc)
state_none Stopping was is v a b e = absurd (let f : Some b.x ≡ None = sym b.is ∙ e in cc)
state_none state was is v a b e = a

none_lost : (t : Tables) (old new : List Slot) → Joint t old Nobody → Joint t new Nobody → (n : ℕ) → seen new n ≡ None → seen old n ≡ None
none_lost t old new was is n e =
    elim (cases_option (seen old n)) [
      | inl none ↦ none
      | inr some ↦
          let m = was.owned n some.0 some.1 in
          subst (λ (k : ℕ). seen old k ≡ None) m.2
          (state_none m.0.state (seen old m.0.id.0) (seen new m.0.id.0) m.0.target.0 (was.by_state m.0 m.1 (λ x. x)) (is.by_state m.0 m.1 (λ x. x))
          (subst (λ (k : ℕ). seen new k ≡ None) (sym m.2) e))
    ]

-- ---- so slots that are dropped are no mapping's

none_more : (names : List SlotId) (s : Sheet) → IsSound s → FitAll s (drop_events names) → (n : ℕ) → seen s.slots n ≡ None → seen (sheet_through s (drop_events names)).slots n ≡ None
none_more [] s sound fit n e = e
none_more (y ∷ ys) s sound fit n e = none_more ys (dropped y.0 s) (dropped_sound s y.0 sound fit.0) fit.1 n ((left_dropped s y.0 sound fit.0).fewer n e)

no_mapping : (o : Option ℕ) → ((m : ℕ) → o ≡ Some m → ⊥) → o ≡ None
no_mapping None never = refl
no_mapping (Some m) never = absurd (never m refl)

drops_to : (names : List SlotId) (s : Sheet) → IsSound s → FitAll s (drop_events names) → ((n : ℕ) → seen (sheet_through s (drop_events names)).slots n ≡ None → seen s.slots n ≡ None) → DropsTo s (sheet_through s (drop_events names))
drops_to [] s sound fit lost = same
drops_to (y ∷ ys) s sound fit lost =
    let f : FitsDrop s.slots y.0 = fit.0 in
    let next : Sheet = dropped y.0 s in
    let left = left_dropped s y.0 sound f in
    let next_sound : IsSound next = dropped_sound s y.0 sound f in
    let there = birth_place_at s.slots y.0 f.place f.is_there in
    drop f
    (no_mapping (slot_at s.slots f.place).mapping (λ m e. mapping_place_none s.slots m (no_place s.slots m (lost m (none_more ys next next_sound fit.1 m (left.went m e)))) f.place there.0 e))
    (drops_to ys next next_sound fit.1 (λ n e. left.fewer n (lost n e)))

-- ---- events that change no tables and no rows, and of chains no more than by drops

abbrev IsCalm : LaneEvent → Type 0
IsCalm (Drop slot) = Unit {0}
IsCalm (Access volume access) = Unit {0}
IsCalm (Work m copies cleans) = Unit {0}
IsCalm (Arm volume grain calls) = Unit {0}
IsCalm e = ⊥

abbrev AreCalm : List LaneEvent → Type 0
AreCalm es = Each IsCalm es

still_calm : (es : List LaneEvent) → AreStill es → AreCalm es
still_calm [] still = tt
still_calm (Access volume access ∷ es) still = (tt, still_calm es still.1)
still_calm (Work m copies cleans ∷ es) still = (tt, still_calm es still.1)
still_calm (Arm volume grain calls ∷ es) still = (tt, still_calm es still.1)
still_calm (e ∷ es) still = absurd still.0

drops_calm : (names : List SlotId) (es : List LaneEvent) → AreCalm es → AreCalm (drop_events names ++ es)
drops_calm [] es calm = calm
drops_calm (y ∷ ys) es calm = (tt, drops_calm ys es calm)

still_sheet : (s : Sheet) (es : List LaneEvent) → AreStill es → sheet_through s es ≡ s
still_sheet s [] still = refl
still_sheet s (Access volume access ∷ es) still = still_sheet s es still.1
still_sheet s (Work m copies cleans ∷ es) still = still_sheet s es still.1
still_sheet s (Arm volume grain calls ∷ es) still = still_sheet s es still.1
still_sheet s (e ∷ es) still = absurd still.0

record StayAs (b : Books) (es : List LaneEvent) (after : Books) : Type 0 where
  tables : after.tables ≡ b.tables
  next_volume : after.next_volume ≡ b.next_volume
  next_mapping : after.next_mapping ≡ b.next_mapping
  next_group : after.next_group ≡ b.next_group
  sheet : after.sheet ≡ sheet_through b.sheet es

calm_books : (sets : ℕ → List Bool) (es : List LaneEvent) (b : Books) → AreCalm es → StayAs b es (fold (after_event sets) b es)
calm_books sets [] b calm = record { tables = refl; next_volume = refl; next_mapping = refl; next_group = refl; sheet = refl }
calm_books sets (e ∷ es) b calm =
    let r = calm_books sets es (after_event sets b e) calm.1 in
    record {
      tables = r.tables;
      next_volume = r.next_volume;
      next_mapping = r.next_mapping;
      next_group = r.next_group;
      sheet = r.sheet ∙ ap (λ (s : Sheet). sheet_through s es) (calm_event sets b.sheet e calm.0);
    }
  where
    calm_event : (sets : ℕ → List Bool) (s : Sheet) (e : LaneEvent) → IsCalm e → sheet_after sets s e ≡ sheet_step (λ grains. grains) s e
    calm_event sets s (Drop slot) c = refl
    calm_event sets s (Access volume access) c = refl
    calm_event sets s (Work m copies cleans) c = refl
    calm_event sets s (Arm volume grain calls) c = refl
    calm_event sets s e c = absurd c

calm_rows : (s : Sheet) (rows : List Row) (es : List LaneEvent) → AreCalm es → rows_after s rows es ≡ rows
calm_rows s rows [] calm = refl
calm_rows s rows (Drop slot ∷ es) calm = calm_rows (sheet_after (restarts rows) s (Drop slot)) rows es calm.1
calm_rows s rows (Access volume access ∷ es) calm = calm_rows s rows es calm.1
calm_rows s rows (Work m copies cleans ∷ es) calm = calm_rows s rows es calm.1
calm_rows s rows (Arm volume grain calls ∷ es) calm = calm_rows s rows es calm.1
calm_rows s rows (e ∷ es) calm = absurd calm.0

calm_least : (s : Sheet) (now least : List Row) (es : List LaneEvent) → AreCalm es → least_events s now least es ≡ least
calm_least s now least [] calm = refl
calm_least s now least (Drop slot ∷ es) calm = calm_least (sheet_after (restarts now) s (Drop slot)) now least es calm.1
calm_least s now least (Access volume access ∷ es) calm = calm_least s now least es calm.1
calm_least s now least (Work m copies cleans ∷ es) calm = calm_least s now least es calm.1
calm_least s now least (Arm volume grain calls ∷ es) calm = calm_least s now least es calm.1
calm_least s now least (e ∷ es) calm = absurd calm.0

-- what such a decision leaves
record LeavesAs (grain : GrainSize) (w : Whole) (least : List Row) (d : Decision) : Type 0 where
  books : StayAs w.books d.events (left_by grain w d).books
  rows : (left_by grain w d).rows ≡ w.rows
  least_is : least_by w least d ≡ least

calm_leaves : (grain : GrainSize) (w : Whole) (least : List Row) (d : Decision) → d.changes ≡ [] → AreCalm d.events → LeavesAs grain w least d
calm_leaves grain w least d changes calm =
    let sets : ℕ → List Bool = restarts w.rows in
    record {
      books = subst (λ (cs : List Change). StayAs w.books d.events (after_all sets d.events cs w.books)) (sym changes) (calm_books sets d.events w.books calm);
      rows = calm_rows w.books.sheet w.rows d.events calm;
      least_is = calm_least w.books.sheet w.rows least d.events calm;
    }

-- ---- no action, no effect

none_in : {X : Type 0} (xs : List X) → length xs ≡ 0 → xs ≡ []
none_in [] e = refl
none_in (x ∷ xs) e = absurd (omega (arith, e))

none_of : {X Y : Type 0} (xs : List X) (ys : List Y) (c : Bool) → (length xs + length ys == 0) ≡ c → not c ≡ false → (xs ≡ []) × (ys ≡ [])
none_of xs ys true q e =
    let none : length xs + length ys ≡ 0 = eqb-true (length xs + length ys) 0 q in
    (none_in xs (omega (arith, none)), none_in ys (omega (arith, none)))
none_of xs ys false q e = absurd (let f : true ≡ false = e in cc)

no_effect : (d : Decision) → has_effect d ≡ false → (d.effects ≡ []) × (d.changes ≡ [])
no_effect d e = none_of d.effects d.changes (length d.effects + length d.changes == 0) refl e

neither : (a b : Bool) → (if a || b then Fold ∷ [] else []) ≡ [] → (a ≡ false) × (b ≡ false)
neither true b e = absurd (let f : Fold ∷ [] ≡ [] = e in cc)
neither false true e = absurd (let f : Fold ∷ [] ≡ [] = e in cc)
neither false false e = (refl, refl)

-- ---- a command

pub says_still : (grain : GrainSize) (decisions : ℕ) (w : Whole) (least : List Row) (command : Command) (loop : Option (List VolId)) (p : Point) → decisions + 1 < 2 ^ 32 → GoesOn decisions w p.disks → StandsFor grain w least p →
    let settled = after_settling grain w in let d = decided_on grain settled command loop in actions_of_command (settle w.books) d ≡ [] →
    Says grain p.disks p.kept (left_by grain settled d) (least_by settled (least_by w least (settle w.books)) d)
says_still grain decisions w least command loop p few on st idle =
    let says = st.says in
    let settled : Whole = after_settling grain w in
    let first : Decision = settle w.books in
    let d : Decision = decided_on grain settled command loop in
    let left : Whole = left_by grain settled d in
    let sound : AreSound w.books = on.reached.stands.sound in
    let names : List SlotId = unneeded_names w.books.sheet.slots in
    let idles = neither (has_effect first) (has_effect d) idle in
    let none = no_effect first idles.0 in
    let none_after = no_effect d idles.1 in
    let rests = settle_rests w.books none.0 none.1 in
    let calm : AreCalm first.events = subst AreCalm (sym rests.2) (drops_calm names rests.0 (still_calm rests.0 rests.1)) in
    let still : AreStill d.events = decide_rests (restarts settled.rows) grain settled.books command loop none_after.0 none_after.1 in
    let one = calm_leaves grain w least first none.1 calm in
    let two = calm_leaves grain settled (least_by w least first) d none_after.1 (still_calm d.events still) in
    let through : Sheet = sheet_through w.books.sheet (drop_events names) in
    let sheet : settled.books.sheet ≡ through =
    one.books.sheet ∙ (ap (λ (es : List LaneEvent). sheet_through w.books.sheet es) rests.2 ∙ (fold_append (sheet_step (λ grains. grains)) w.books.sheet (drop_events names) rests.0 ∙ still_sheet through rests.0 rests.1)) in
    let settled_sound : AreSound settled.books = (stands_law_holds.settled grain decisions w (omega (arith, few)) on.reached).stands.sound in
    let joint : Joint w.books.tables through.slots Nobody =
    subst (λ (s : Sheet). Joint w.books.tables s.slots Nobody) sheet
    (subst (λ (t : Tables). Joint t settled.books.sheet.slots Nobody) one.books.tables (joint_from settled.books settled_sound.sheet.one_live settled_sound.agree)) in
    let drops : DropsTo w.books.sheet through =
    drops_to names w.books.sheet sound.sheet (settling_drops w.books.sheet sound.sheet).fit
    (none_lost w.books.tables w.books.sheet.slots through.slots (joint_from w.books sound.sheet.one_live sound.agree) joint) in
    let chains : left.books.sheet ≡ through = two.books.sheet ∙ (still_sheet settled.books.sheet d.events still ∙ sheet) in
    record {
      sound = says.sound;
      tables = says.tables ∙ sym (two.books.tables ∙ one.books.tables);
      next_volume = says.next_volume ∙ sym (two.books.next_volume ∙ one.books.next_volume);
      next_mapping = says.next_mapping ∙ sym (two.books.next_mapping ∙ one.books.next_mapping);
      next_group = says.next_group ∙ sym (two.books.next_group ∙ one.books.next_group);
      slots = subst (DropsTo p.kept.sheet) (sym chains) (kept_law_holds.drops.more p.kept.sheet w.books.sheet through says.slots drops);
      rows = subst (λ (rows : List Row). AreMarked p.kept.rows rows (least_by settled (least_by w least first) d)) (sym (two.rows ∙ one.rows))
          (subst (AreMarked p.kept.rows w.rows) (sym (two.least_is ∙ one.least_is)) says.rows);
      count = says.count;
      fit = says.fit;
    }
