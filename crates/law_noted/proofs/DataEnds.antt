-- What a step of data leaves: of the actions, of the disks, and of what goes along.
use Rattle.std.proofs.Common.{◌≡◌, ◌≢◌, ℕ, ◌+◌, ◌≤◌, ◌<◌, true, false, Option, Some, None, List, [], ◌∷◌, ◌++◌, length, map, refl, sym, ap, subst}
use Rattle.std.specs.List.{AllZip}
use Rattle.std.proofs.lemmas.Grind.{flat_map-append}
use Rattle.fc_base.specs.declared.request.Request.{Request}
use Rattle.fc_base.specs.declared.request.Torn.{Torn}
use Rattle.fc_base.specs.declared.size.GrainSize.{GrainSize}
use Rattle.fc_books.specs.Sound.{AreSound}
use Rattle.fc_changed.specs.Row.{Row}
use Rattle.fc_entry.specs.Picture.{Content, Lost}
use Rattle.fc_grains.specs.Grains.{GrainsState}
use Rattle.fc_grains.specs.Volumes.{stored}
use Rattle.fc_image.specs.declared.record.MetaRecord.{MetaRecord}
use Rattle.fc_image.specs.declared.record.MetaRecord.TheVariants.{Torn as TornRecord}
use Rattle.fc_kept.specs.Actions.{Action, Action.Data, Action.Note}
use Rattle.fc_kept.specs.Disks.{NamedDisk}
use Rattle.fc_kept.specs.Kept.{Kept, kept_after, lost_put}
use Rattle.fc_kept.specs.Prefix.{AreStepsOf}
use Rattle.fc_kept.specs.Recoverable.{disks_at}
use Rattle.fc_kept.specs.Sound.{AreLost}
use Rattle.fc_legal.specs.Whole.{Whole, lane_at, lane_of_grain, lanes}
use Rattle.fc_parts.specs.Law.{IsInVolume}
use Rattle.fc_pictures.specs.Law.{StoredAt}
use Rattle.fc_rules.specs.LaneTold.{place_of}
use Rattle.fc_rules.specs.Steps.{DiskStep}
use Rattle.fc_steps.specs.Asking.{request_of}
use Rattle.fc_steps.specs.StepsEnd.{torn_in}
use Rattle.fc_steps.specs.declared.ask.Ask.{Ask}
use Rattle.fc_steps.specs.declared.ask.Ask.TheVariants.{Write, Copy, Clean}
use Rattle.fc_steps.specs.declared.stop.Stop.{Stop}
use Rattle.fc_steps.specs.declared.stop.Stop.TheVariants.{Failed}
use Rattle.law_crash.specs.Doing.{SameDisk, StepWrites, actions_of_step, actions_of_steps, content_of, marks_by_move, number_of, with_disks}
use Rattle.law_crash.specs.Points.{Point}
use Rattle.law_crash.proofs.Doable.{fill_doable, write_doable}
use Rattle.law_crash.proofs.Lawful.{clean_of, copy_of}
use Rattle.law_crash.proofs.Making.{steps_in}
use Rattle.law_crash.proofs.Writing.{AreDoable, CanBeDone, Disked, can_be_written, has_place, split_doable}
use Rattle.law_noted.specs.Came.{Came}
use Rattle.law_noted.specs.DataSteps.{Along}
use Rattle.law_noted.specs.Records.{kept_by}
use Rattle.law_noted.proofs.Along.{along_others, along_put, along_still, along_torn}
use Rattle.law_noted.proofs.DataActions.{did_disked, did_lost}
use Rattle.law_noted.proofs.DataCame.{BeforeData, data_came, still_came, torn_came}
use Rattle.law_noted.proofs.NextSteps.{torn_in_step}

-- ---- the data of a step can be written

pub asked_doable : (grain : GrainSize) (w : Whole) (ask : Ask) (rows : List Row) (steps : List DiskStep) → AreSound w.books → IsInVolume grain w (request_of ask) → AreStepsOf grain w (request_of ask) steps →
    AreDoable grain w (request_of ask) (actions_of_steps rows (number_of grain (request_of ask)) steps)
asked_doable grain w (Write part) rows steps sound inside are = write_doable grain w part rows steps sound inside are
asked_doable grain w (Copy m g) rows steps sound inside are = fill_doable grain w (request_of (Copy m g)) rows steps sound (copy_of grain w m g steps are) are
asked_doable grain w (Clean m g) rows steps sound inside are = fill_doable grain w (request_of (Clean m g)) rows steps sound (clean_of grain w m g steps sound are) are

can_be_done : (grain : GrainSize) (w : Whole) (r : Request) (rows : List Row) (front back : List DiskStep) (step : DiskStep) (x : MetaRecord) → AreDoable grain w r (actions_of_steps rows (number_of grain r) (front ++ step ∷ back)) →
    actions_of_step rows (number_of grain r) step ≡ marks_by_move rows (number_of grain r) step step.move ++ Data step ∷ Note x ∷ [] → CanBeDone grain w r step
can_be_done grain w r rows front back step x all act =
    let g : ℕ = number_of grain r in
    let of : DiskStep → List Action = actions_of_step rows g in
    let first = split_doable grain w r (actions_of_steps rows g front) (actions_of_steps rows g (step ∷ back)) (subst (AreDoable grain w r) (flat_map-append of front (step ∷ back)) all) in
    let here : AreDoable grain w r (of step) = (split_doable grain w r (of step) (actions_of_steps rows g back) first.1).0 in
    (split_doable grain w r (marks_by_move rows g step step.move) (Data step ∷ Note x ∷ []) (subst (AreDoable grain w r) act here)).1.0

same_disks : (ds : List NamedDisk) → AllZip SameDisk ds ds
same_disks [] = tt
same_disks (d ∷ ds) = (record { volume = refl; kind = refl; grains = refl }, same_disks ds)

-- ---- an entry before its next step

-- behind moves of these slots stands this step, which calls disks, with this record
pub record AtStep (grain : GrainSize) (w : Whole) (r : Request) (rows : List Row) (steps : List DiskStep) (before q : Point) (n : ℕ) (done : List ℕ) (step : DiskStep) (x : MetaRecord) : Type 0 where
  pub back : List DiskStep
  pub split : steps ≡ steps_in grain w r done ++ step ∷ back
  pub count : length (steps_in grain w r done) ≡ n
  pub calls : 1 ≤ step.calls
  pub act : actions_of_step rows (number_of grain r) step ≡ marks_by_move rows (number_of grain r) step step.move ++ Data step ∷ Note x ∷ []
  pub ready : BeforeData grain w r rows steps before (steps_in grain w r done) step q
  pub doable : AreDoable grain w r (actions_of_steps rows (number_of grain r) steps)
  pub disked : Disked grain w before.disks
  pub lost : AreLost w.books.tables before.kept.lost

-- what is left
pub record HasEnded (grain : GrainSize) (w : Whole) (r : Request) (rows : List Row) (steps : List DiskStep) (place : ℕ) (before q : Point) (old new : GrainsState) (n : ℕ) (stop : Option Stop) (due : Option MetaRecord) : Type 0 where
  pub disks : List (List NamedDisk)
  pub came : Came grain w r rows steps before n stop due (with_disks disks q)
  pub count : length disks ≡ length q.disks
  pub lanes_are : length q.disks ≡ lanes w
  pub same : (i : ℕ) → AllZip SameDisk (disks_at q.disks i) (disks_at disks i)
  pub here : Along (lane_at grain w place) q.kept (kept_by due q.kept) old new (disks_at q.disks place) (disks_at disks place)
  pub others : (i : ℕ) (still : GrainsState) → i < lanes w → i ≢ place → Along (lane_at grain w i) q.kept (kept_by due q.kept) still still (disks_at q.disks i) (disks_at disks i)

module _ (grain : GrainSize) (w : Whole) (r : Request) (rows : List Row) (steps : List DiskStep) (place : ℕ) (before q : Point) (old new : GrainsState) (n : ℕ) (done : List ℕ) (step : DiskStep) (x : MetaRecord)
    (a : AtStep grain w r rows steps before q n done step x) where
  abbrev number : ℕ
  number = number_of grain r

  abbrev Ended : ℕ → Option Stop → Option MetaRecord → Type 0
  Ended m stop due = HasEnded grain w r rows steps place before q old new m stop due

  can : CanBeDone grain w r step
  can = can_be_done grain w r rows (steps_in grain w r done) a.back step x (subst (λ (z : List DiskStep). AreDoable grain w r (actions_of_steps rows number z)) a.split a.doable) a.act

  q_disked : Disked grain w q.disks
  q_disked = did_disked grain w r w.books.sheet (actions_of_steps rows number (steps_in grain w r done) ++ marks_by_move rows number step step.move) before q a.ready a.disked

  q_lost : AreLost w.books.tables q.kept.lost
  q_lost = did_lost grain w r w.books.tables w.books.sheet (actions_of_steps rows number (steps_in grain w r done) ++ marks_by_move rows number step step.move) before q a.ready a.lost

  -- it stopped, and nothing changed
  pub ended_still : (stop : Stop) → torn_in (Some stop) ≡ None → ((v y : ℕ) → stored new.volumes v y ≡ stored old.volumes v y) → Ended n (Some stop) None
  ended_still stop untorn same =
      record {
        disks = q.disks;
        came = still_came grain w r rows steps before n done a.back step stop q a.split a.count untorn a.ready;
        count = refl;
        lanes_are = q_disked.count;
        same = λ i. same_disks (disks_at q.disks i);
        here = along_still (lane_at grain w place) q.kept old new (disks_at q.disks place) same;
        others = λ i still il ne. along_still (lane_at grain w i) q.kept still still (disks_at q.disks i) (λ v y. refl);
      }

  module _ (is_of : lane_of_grain w number ≡ place) (pl : place < lanes w) where
    -- it was done
    pub ended_put : StoredAt (stored old.volumes) step.volume (place_of (lane_at grain w place) number) (content_of grain w r step) (stored new.volumes) →
        (kept_after q.kept x).lost ≡ map (lost_put step.volume number false) q.kept.lost → Ended (n + 1) None (Some x)
    ended_put st lost =
        let v : ℕ = step.volume in
        let y = can_be_written grain w v number can.bytes q.disks (has_place grain w v number q.disks can.room q_disked) in
        let writes : StepWrites grain w r step (content_of grain w r step) q.disks y.0 = subst (λ (c : Content). StepWrites grain w r step c q.disks y.0) (sym can.content_is) y.1 in
        let here = subst (λ (c : Content). StoredAt (stored old.volumes) v (place_of (lane_at grain w place) number) c (stored new.volumes)) can.content_is st in
        record {
          disks = y.0;
          came = data_came grain w r rows steps before n (steps_in grain w r done) a.back step x y.0 q a.split a.count a.calls a.act a.ready writes;
          count = y.1.count;
          lanes_are = q_disked.count;
          same = y.1.same;
          here = along_put grain w place v number can.bytes q.kept (kept_after q.kept x) old new q.disks y.0 y.1 is_of pl here lost;
          others = λ i still il ne. along_others grain w v number false q.kept (kept_after q.kept x) q.disks y.0 lost y.1.stored.elsewhere place i still is_of il ne;
        }

    -- or its write failed
    pub ended_torn : (torn : Torn) → torn ≡ torn_in_step number step → StoredAt (stored old.volumes) step.volume (place_of (lane_at grain w place) number) Lost (stored new.volumes) →
        Ended n (Some (Failed (Some torn))) (Some (TornRecord torn.volume torn.grain torn.side))
    ended_torn torn is st =
        let v : ℕ = step.volume in
        let record_of : Torn → MetaRecord = λ (t : Torn). TornRecord t.volume t.grain t.side in
        let k : Kept = kept_after q.kept (record_of torn) in
        let lost : k.lost ≡ map (lost_put v number true) q.kept.lost = ap (λ (t : Torn). (kept_after q.kept (record_of t)).lost) is in
        record {
          disks = q.disks;
          came = torn_came grain w r rows steps before n done a.back step torn q a.split a.count a.calls is a.ready;
          count = refl;
          lanes_are = q_disked.count;
          same = λ i. same_disks (disks_at q.disks i);
          here = along_torn grain w place v number w.books.tables q.kept k old new q.disks q_lost can.room is_of pl st lost;
          others = λ i still il ne. along_others grain w v number true q.kept k q.disks q.disks lost (λ z y other. refl) place i still is_of il ne;
        }
