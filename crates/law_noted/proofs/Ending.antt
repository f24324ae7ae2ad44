-- How an entry that was under way ends.
use Rattle.std.proofs.Common.{◌≡◌, ℕ, ◌<◌, List, ◌∷◌, length, take, Option, Some, None, refl, sym, ap, subst, ◌∙◌}
use Rattle.std.proofs.Math.Seq.{take-append_seam}
use Rattle.fc_base.specs.declared.request.Request.{Request}
use Rattle.fc_base.specs.declared.size.GrainSize.{GrainSize}
use Rattle.fc_changed.specs.Row.{Row}
use Rattle.fc_entry.specs.declared.entry.Entry.{Entry}
use Rattle.fc_image.specs.declared.record.MetaRecord.{MetaRecord}
use Rattle.fc_kept.specs.Marks.{asked_write, least_entry}
use Rattle.fc_kept.specs.Prefix.{AreStepsOf}
use Rattle.fc_legal.specs.Steps.{after_access}
use Rattle.fc_legal.specs.Whole.{Whole, lanes, single_lane}
use Rattle.fc_parts.specs.Law.{IsInVolume}
use Rattle.fc_rules.specs.Steps.{DiskStep}
use Rattle.fc_steps.specs.StepsEnd.{torn_in}
use Rattle.fc_steps.specs.declared.stop.Stop.{Stop}
use Rattle.law_crash.specs.Doing.{Tells}
use Rattle.law_crash.specs.Law.{Begins}
use Rattle.law_crash.specs.Leaving.{HaveTheirDisks}
use Rattle.law_crash.specs.Points.{Point}
use Rattle.law_crash.specs.Running.{Does, Does.whole as does_whole, Does.stopped as does_stopped, Takes}
use Rattle.law_noted.specs.Advancing.{EndLaw}
use Rattle.law_noted.specs.Came.{Came, Came.behind, Came.marked, Came.stopped}
use Rattle.law_noted.proofs.Finding.{came_disked, first_disked}
use Rattle.law_noted.proofs.Marking.{all_done}

whole : (grain : GrainSize) (w : Whole) (least : List Row) (r : Request) (steps : List DiskStep) (p q : Point) (entry : Entry) (i : ℕ) →
    Takes entry.request r → IsInVolume grain w r → AreStepsOf grain w r steps → Came grain w r p.kept.rows steps p (length steps) None None q →
    Tells entry.request (asked_write entry.request) steps None entry →
    Does grain w least p entry (after_access grain w i entry) (least_entry (single_lane grain) least entry) q
whole grain w least r steps p q entry i takes inside are came told =
    does_whole i r steps q takes inside are (all_done grain w r p.kept.rows steps p (length steps) q refl came) told

stops : (grain : GrainSize) (w : Whole) (least : List Row) (r : Request) (steps : List DiskStep) (p : Point) (n : ℕ) (o : Option Stop) (stop : Stop) (q : Point) (entry : Entry) (i : ℕ) → o ≡ Some stop →
    Takes entry.request r → IsInVolume grain w r → AreStepsOf grain w r steps → Came grain w r p.kept.rows steps p n o None q →
    Tells entry.request None (take n steps) (torn_in (Some stop)) entry →
    Does grain w least p entry (after_access grain w i entry) (least_entry (single_lane grain) least entry) q
stops grain w least r steps p n o stop q entry i e takes inside are (behind front back z split did) told = absurd cc
stops grain w least r steps p n o stop q entry i e takes inside are (marked front own z split is_own did) told = absurd cc
stops grain w least r steps p n o stop q entry i e takes inside are (stopped front back step why z split x) told =
    let first : take (length front) steps ≡ front = ap (take (length front)) split ∙ take-append_seam front (step ∷ back) in
    let told' : Tells entry.request None front (torn_in (Some why)) entry =
    subst (λ (s : Option Stop). Tells entry.request None front (torn_in s) entry) (sym e) (subst (λ (ss : List DiskStep). Tells entry.request None ss (torn_in (Some stop)) entry) first told) in
    does_stopped i r front back step (torn_in (Some why)) z takes inside (subst (AreStepsOf grain w r) split are) x told'

have : (grain : GrainSize) (w : Whole) (least : List Row) (r : Request) (rows : List Row) (steps : List DiskStep) (p : Point) (n : ℕ) (stop : Option Stop) (due : Option MetaRecord) (q : Point) (entry : Entry) (i : ℕ) →
    Begins grain w least r steps p → 0 < lanes w → HaveTheirDisks w p.disks → Came grain w r rows steps p n stop due q →
    HaveTheirDisks (after_access grain w i entry) q.disks
have grain w least r rows steps p n stop due q entry i b some held came =
    let now = (came_disked grain w r rows steps p n stop due q came (first_disked grain w least r steps p b some held)).have in
    record { named = now.named; free = now.free }

pub end_law_holds : EndLaw
end_law_holds = record {
  whole = whole;
  stopped = λ grain w least r steps p n stop q entry i takes inside are came told. stops grain w least r steps p n (Some stop) stop q entry i refl takes inside are came told;
  have = have;
}
