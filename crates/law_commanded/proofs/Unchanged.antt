-- A command without an action leaves metadata as it is.
use Rattle.std.proofs.Common.{◌≡◌, ℕ, ◌+◌, ◌*◌, ◌<◌, ◌==◌, ◌||◌, Bool, true, false, not, if◌then◌else◌, Option, None, List, [], ◌∷◌, ◌++◌, length, get_or, Contains, refl, sym, ap, subst, ◌∙◌, arith}
use Rattle.std.specs.List.{filter, fold}
use Rattle.std.proofs.lemmas.Bool.{eqb-true}
use Rattle.std.proofs.lemmas.List.{length-append}
use Rattle.std.proofs.lemmas.List.Elements.{filter-append}
use Rattle.fc_base.specs.Pools.{of_kind}
use Rattle.fc_base.specs.Sheet.{Sheet, Slot}
use Rattle.fc_base.specs.Tables.{Tables}
use Rattle.fc_base.specs.declared.command.Command.{Command}
use Rattle.fc_base.specs.declared.decision.Decision.{Decision}
use Rattle.fc_base.specs.declared.decision.LaneEvent.{LaneEvent}
use Rattle.fc_base.specs.declared.decision.LaneEvent.TheVariants.{Access, Arm, Work}
use Rattle.fc_base.specs.declared.ids.SlotId.{SlotId}
use Rattle.fc_base.specs.declared.ids.VolId.{VolId}
use Rattle.fc_base.specs.declared.size.GrainSize.{GrainSize}
use Rattle.fc_base.specs.declared.volume.Volume.{Volume}
use Rattle.fc_books.specs.After.{sheet_after}
use Rattle.fc_books.specs.Deciding.{settle}
use Rattle.fc_changed.specs.Row.{Row, after_note}
use Rattle.fc_decided.proofs.Dropping.{drop_events, unneeded_names}
use Rattle.fc_entry.specs.declared.entry.Entry.{Entry}
use Rattle.fc_follow.specs.Following.{event_notes, restarts}
use Rattle.fc_grains.specs.Grains.{GrainsState}
use Rattle.fc_kept.specs.Actions.{Action.Fold, actions_of_command, has_effect}
use Rattle.fc_kept.specs.Marks.{LeastLeft, LeastLeft.decided}
use Rattle.fc_kept.specs.Recoverable.{Says}
use Rattle.fc_lane.specs.Lane.{LaneView}
use Rattle.fc_lanes.specs.AllLanes.{EachLane}
use Rattle.fc_legal.specs.Steps.{after_settling, decided_on, one_more, rows_after}
use Rattle.fc_legal.specs.Whole.{Whole, lanes}
use Rattle.law_crash.proofs.Lost.{all_in_is}
use Rattle.law_crash.proofs.Resting.{AreStill, decide_rests, settle_rests}
use Rattle.law_crash.proofs.Whole.{crash_law_holds}
use Rattle.law_crash.specs.Leaving.{HaveTheirDisks}
use Rattle.law_crash.specs.Points.{Point}
use Rattle.law_crash.specs.Running.{Does.unchanged, Run.more}
use Rattle.fc_held.specs.Held.{MatchAll}
use Rattle.law_noted.specs.Runs.{HasRun}
use Rattle.law_commanded.specs.Lanes.{HasSameDisks, HaveLanes, NoneWent, was_given}
use Rattle.law_commanded.specs.Law.{AreLanesIn, HasCome, IsCommanded, decision_on, least_behind, left_behind}
use Rattle.law_commanded.proofs.Leaving.{Here, from_run}
use Rattle.law_commanded.proofs.Now.{all_given, match_now, still_lanes}
use Rattle.law_commanded.proofs.Pools.{command_no_more, how_many}

-- ---- events that note nothing

abbrev pub IsNoteless : LaneEvent → Type 0
IsNoteless e = (slots : List Slot) → event_notes slots e ≡ []

abbrev pub AreNoteless : List LaneEvent → Type 0
AreNoteless [] = Unit {0}
AreNoteless (e ∷ es) = IsNoteless e × AreNoteless es

pub still_noteless : (es : List LaneEvent) → AreStill es → AreNoteless es
still_noteless [] still = tt
still_noteless (Access volume access ∷ es) still = (λ slots. refl, still_noteless es still.1)
still_noteless (Work m copies cleans ∷ es) still = (λ slots. refl, still_noteless es still.1)
still_noteless (Arm volume grain calls ∷ es) still = (λ slots. refl, still_noteless es still.1)
still_noteless (e ∷ es) still = absurd still.0

drops_noteless : (names : List SlotId) (es : List LaneEvent) → AreNoteless es → AreNoteless (drop_events names ++ es)
drops_noteless [] es n = n
drops_noteless (y ∷ ys) es n = (λ slots. refl, drops_noteless ys es n)

pub rows_still : (s : Sheet) (rows : List Row) (es : List LaneEvent) → AreNoteless es → rows_after s rows es ≡ rows
rows_still s rows [] n = refl
rows_still s rows (e ∷ es) n =
    let next : Sheet = sheet_after (restarts rows) s e in
    ap (λ (r : List Row). rows_after next r es) (ap (fold after_note rows) (n.0 s.slots)) ∙ rows_still next rows es n.1

-- ---- no action, no effect

empty : {X : Type 0} (xs : List X) → length xs ≡ 0 → xs ≡ []
empty [] e = refl
empty (x ∷ xs) e = absurd (omega (arith, e))

idle : (d : Decision) → has_effect d ≡ false → (d.effects ≡ []) × (d.changes ≡ [])
idle d e = by (length d.effects + length d.changes == 0) refl e
  where
    by : (b : Bool) → (length d.effects + length d.changes == 0) ≡ b → not b ≡ false → (d.effects ≡ []) × (d.changes ≡ [])
    by true q e =
        let none : length d.effects + length d.changes ≡ 0 = eqb-true (length d.effects + length d.changes) 0 q in
        (empty d.effects (omega (arith, none)), empty d.changes (omega (arith, none)))
    by false q e = absurd (let f : true ≡ false = e in cc)

neither : (a b : Bool) → (if a || b then Fold ∷ [] else []) ≡ [] → (a ≡ false) × (b ≡ false)
neither true b e = absurd (let f : Fold ∷ [] ≡ [] = e in cc)
neither false true e = absurd (let f : Fold ∷ [] ≡ [] = e in cc)
neither false false e = (refl, refl)

pub rows_stay : (grain : GrainSize) (w : Whole) (command : Command) (loop : Option (List VolId)) → actions_of_command (settle w.books) (decision_on grain w command loop) ≡ [] → (left_behind grain w command loop).rows ≡ w.rows
rows_stay grain w command loop none =
    let settled : Whole = after_settling grain w in
    let first : Decision = settle w.books in
    let d : Decision = decided_on grain settled command loop in
    let idles = neither (has_effect first) (has_effect d) none in
    let a = idle first idles.0 in
    let b = idle d idles.1 in
    let rests = settle_rests w.books a.0 a.1 in
    let drops : AreNoteless first.events = subst AreNoteless (sym rests.2) (drops_noteless (unneeded_names w.books.sheet.slots) rests.0 (still_noteless rests.0 rests.1)) in
    rows_still settled.books.sheet settled.rows d.events (still_noteless d.events (decide_rests (restarts settled.rows) grain settled.books command loop b.0 b.1))
    ∙ rows_still w.books.sheet w.rows first.events drops

-- ---- so all stays

module _ (grain : GrainSize) (entries : List Entry) (w : Whole) (least : List Row) (command : Command) (loop : Option (List VolId)) (entry : Entry) (old new : List LaneView) (p : Point)
    (come : HasCome grain entries w least old p) (few : w.entries < 262144) (c : IsCommanded grain w command loop entry)
    (none : actions_of_command (settle w.books) (decision_on grain w command loop) ≡ []) (stand : HaveLanes grain (left_behind grain w command loop) new) (same : EachLane HasSameDisks old new) where
  abbrev left : Whole
  left = left_behind grain w command loop

  abbrev least_left : List Row
  least_left = least_behind grain w least command loop

  begin : Here grain w least p
  begin = from_run grain entries w least p come.run (omega (arith, few))

  marks : LeastLeft grain w least command left least_left
  marks = decided loop c.told

  says : Says grain p.disks p.kept left least_left
  says = crash_law_holds.stays grain (2 * w.entries) w least command loop p (omega (arith, few)) begin.on begin.stands none

  tables : left.books.tables ≡ w.books.tables
  tables = sym says.tables ∙ begin.stands.says.tables

  pub next_is : left.books.next_volume ≡ w.books.next_volume
  next_is = sym says.next_volume ∙ begin.stands.says.next_volume

  none_went : NoneWent w left
  none_went =
      ap (λ (t : Tables). filter (was_given w) t.volumes) tables
      ∙ all_given w w.books.tables.volumes (all_in_is (λ (v : Volume). v.id.0 < w.books.next_volume) w.books.tables.volumes begin.on.reached.stands.sound.tables.new_volume)

  in_lanes : AreLanesIn grain w least command old new
  in_lanes = record { for = left; least_for = least_left; leaves = marks; stand = stand; none_went = none_went; disks = same }

  have : HaveTheirDisks (one_more left) p.disks
  have =
      record {
        named = λ i v il inside. begin.have.named i v il (subst (λ (t : Tables). Contains t.volumes v) tables inside);
        free = λ i kind il.
            let below : i < lanes w = subst (λ (n : ℕ). i < n) begin.stands.says.count il in
            let pools : length w.books.pools ≡ lanes w = begin.on.reached.stands.each_lane.pools in
            let less = command_no_more grain (2 * w.entries) w command loop kind i (omega (arith, few)) begin.on.reached.stands c.told (subst (λ (n : ℕ). i < n) (sym pools) below) in
            let count : how_many kind left.books.tables.volumes ≡ how_many kind w.books.tables.volumes = ap (λ (t : Tables). how_many kind t.volumes) tables in
            let free = begin.have.free i kind il in
            omega (arith, less, count, free);
      }

  runs : HasRun grain (entries ++ entry ∷ []) (one_more left) least_left p
  runs =
      let r = come.run in
      record {
        pools = r.pools;
        disks = r.disks;
        some = r.some;
        count = r.count;
        unnamed = r.unnamed;
        run = more entries w least p entry (one_more left) least_left p r.run c.step (unchanged command left least_left c.request_is marks says);
        have = have;
      }

  pub comes_still : HasCome grain (entries ++ entry ∷ []) (one_more left) least_left new p
  comes_still =
      record {
        run = runs;
        lanes_are = still_lanes grain left new stand;
        matches = subst (λ (n : ℕ). MatchAll grain n p.kept new p.disks) (sym next_is) (match_now grain entries w least command old new p come begin few in_lanes);
      }
