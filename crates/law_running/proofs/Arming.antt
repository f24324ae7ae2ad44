-- What a run leaves of armed faults: each comes nearer by the calls that its entries tell of its lane.
use Rattle.std.proofs.Common.{◌≡◌, ℕ, suc, ◌+◌, ◌*◌, ◌-◌, ◌^◌, ◌<◌, ◌≤◌, false, min, List, [], ◌∷◌, ◌++◌, length, slice_index_or, sym, ◌∙◌, ap, subst, arith}
use Rattle.std.specs.List.{All}
use Rattle.std.proofs.lemmas.List.{get_or_append_left, length-append}
use Rattle.std.proofs.lemmas.List.Elements.{All-cons, All-nil}
use Rattle.fc_base.specs.Tables.{Tables}
use Rattle.fc_base.specs.declared.volume.Volume.{Volume}
use Rattle.fc_entry.specs.HistoryState.{HistoryState}
use Rattle.fc_entry.specs.declared.entry.Entry.{Entry}
use Rattle.fc_lane.specs.Lane.{LaneView, IsSameLane}
use Rattle.fc_lanes.specs.AllLanes.{EachLane}
use Rattle.fc_legal.specs.Added.{IsOf}
use Rattle.fc_legal.specs.Whole.{Whole, part_at}
use Rattle.fc_shares.specs.Law.{LeadOn, numbered, situation_of}
use Rattle.fc_shares.specs.Situation.{Situation}
use Rattle.fc_stands.proofs.Calls.{step_tells}
use Rattle.fc_stands.proofs.Since.{SetNothing, all_calls_in, more_armed}
use Rattle.fc_stands.specs.Arming.{ArmNothing, SetsNothing, arms}
use Rattle.fc_stands.specs.Quiet.{IsArmedBy, KeepsNear, QuietBy}
use Rattle.fc_stands.specs.Store.{IsLaneAt, StandsFor, StoreView}
use Rattle.law_together.specs.Making.{AreMakings, Making}
use Rattle.law_running.proofs.Frames.{quiet_stays, same_count}
use Rattle.law_running.proofs.Runs.{last_entries, merged_is, stands}
use Rattle.law_running.specs.Law.{MergesTo}
use Rattle.law_running.specs.Running.{IsRun}

-- ---- entries that lead on

lead_sets_nothing : (s last : Situation) (n : ℕ) (entries : List Entry) → LeadOn s n entries last → SetNothing (numbered n entries)
lead_sets_nothing s last n [] leads = All-nil (λ (e : Entry). SetsNothing e.request e.reply)
lead_sets_nothing s last n (entry ∷ entries) leads =
    All-cons (λ (e : Entry). SetsNothing e.request e.reply) (record entry { number = n }) (numbered (suc n) entries) leads.1.unset
    (lead_sets_nothing leads.0 last (suc n) entries leads.2)

-- They add their calls to those of each lane.
lead_calls : (s last : Situation) (n : ℕ) (entries : List Entry) (i : ℕ) → i < length s.whole.calls → LeadOn s n entries last →
    slice_index_or last.whole.calls i 0 ≡ slice_index_or s.whole.calls i 0 + all_calls_in i (numbered n entries)
lead_calls s last n [] i below leads = ap (λ (t : Situation). slice_index_or t.whole.calls i 0) leads ∙ omega arith
lead_calls s last n (entry ∷ entries) i below leads =
    let told = step_tells s.grain s.whole (record entry { number = n }) leads.0.whole leads.1.step in
    let rest = lead_calls leads.0 last (suc n) entries i (omega (arith, below, told.count)) leads.2 in
    omega (arith, rest, told.each i below)

-- ---- a lane

-- What it counted is what is told.
counted_is : (last before more calls x y : ℕ) → x ≡ min before last → y ≡ min (before + more) last → y ≡ min (x + calls) last → before + more < last → calls ≡ more
counted_is last before more calls x y was now counted few = omega (arith, was, now, counted, few)

few_calls : (calls entries : ℕ) → calls ≤ entries * 2 ^ 32 → entries ≤ 262144 → calls < 2 ^ 64 - 1
few_calls calls entries few limit = omega (arith, few, limit)

armed_by_none : (old front : List Entry) → ArmNothing (old ++ front) → ArmNothing old
armed_by_none old front none = λ k d inside.
    let P : Entry → Type 0 = λ e. arms e.request e.reply ≡ false in
    subst P (get_or_append_left old front d k inside) (none k d (omega (arith, inside, length-append old front)))

-- ---- a run

module _ (store new : StoreView) (w : Whole) (makings : List Making) (old : HistoryState) (told : IsOf w old) (made : AreMakings makings) (run : IsRun store new w makings) (stood : StandsFor store w)
    (merged : List Entry) (merges : MergesTo old makings merged) where
  are : merged ≡ numbered w.entries run.entries
  are = merged_is store new w makings old told made run merged merges

  nothing_set : SetNothing merged
  nothing_set = subst SetNothing (sym are) (lead_sets_nothing (situation_of store w) run.last w.entries run.entries run.leads)

  calls_told : (i : ℕ) → i < length w.calls → slice_index_or run.last.whole.calls i 0 ≡ slice_index_or w.calls i 0 + all_calls_in i merged
  calls_told i below =
      let P : List Entry → Type 0 = λ es. slice_index_or run.last.whole.calls i 0 ≡ slice_index_or w.calls i 0 + all_calls_in i es in
      subst P (sym are) (lead_calls (situation_of store w) run.last w.entries run.entries i below run.leads)

  same_volumes : new.control.tables.volumes ≡ store.control.tables.volumes
  same_volumes =
      ap (λ (t : Tables). t.volumes) run.shares.control.books.tables ∙ run.shares.sound.volumes ∙ sym (ap (λ (t : Tables). t.volumes) stood.control.tables)

  -- The calls that a lane counted are those that its entries tell.
  lane_near : (i : ℕ) (v u : LaneView) → i < length store.lanes → IsLaneAt store.control.grain w i v → IsLaneAt run.last.grain run.last.whole i u → (calls : ℕ) →
      u.grains.calls ≡ min (v.grains.calls + calls) (2 ^ 64 - 1) → KeepsNear calls v u → KeepsNear (all_calls_in v.lane merged) v u
  unfolding part_at
  lane_near i v u inside was now calls counted near =
      let more : ℕ = all_calls_in i merged in
      let before : ℕ = slice_index_or w.calls i 0 in
      let after : ℕ = slice_index_or run.last.whole.calls i 0 in
      let sum : after ≡ before + more = calls_told i (omega (arith, inside, stood.count, stood.stands.each_lane.calls)) in
      let last_stands : StandsFor new run.last.whole = stands store new w makings old told made run in
      let few : after < 2 ^ 64 - 1 = few_calls after run.last.whole.entries (last_stands.calls i) entries_within in
      let same : calls ≡ more = counted_is (2 ^ 64 - 1) before more calls v.grains.calls u.grains.calls was.stands.lane.calls
      (now.stands.lane.calls ∙ ap (λ (n : ℕ). min n (2 ^ 64 - 1)) sum) counted (omega (arith, few, sum)) in
      let P : ℕ → Type 0 = λ lane. KeepsNear (all_calls_in lane merged) v u in
      let Q : ℕ → Type 0 = λ n. KeepsNear n v u in
      subst P (sym was.lane) (subst Q same near)
    where
      entries_within : run.last.whole.entries ≤ 262144
      entries_within = omega (arith, run.room, last_entries store new w makings old told made run)

  pub armed_run : QuietBy old.entries store → QuietBy (old.entries ++ merged) new
  armed_run quiet = record {
    quiet = λ none. quiet_stays store new w makings stood run (quiet.quiet (armed_by_none old.entries merged none));
    armed =
        let P : List Volume → Type 0 = λ vs. All (IsArmedBy (old.entries ++ merged) vs) new.lanes in
        subst P (sym same_volumes) (more_armed old.entries merged store.control.tables.volumes store.lanes new.lanes nothing_set keeps quiet.armed);
  }
    where
      keeps : EachLane (λ v u. IsSameLane v u × KeepsNear (all_calls_in v.lane merged) v u) store.lanes new.lanes
      keeps = record {
        count = same_count store new w makings stood run;
        each = λ i d inside.
            let has = run.shares.each i d (omega (arith, inside, same_count store new w makings stood run)) in (
              has.same,
              lane_near i (slice_index_or store.lanes i d) (slice_index_or new.lanes i d) inside (stood.each i d inside) has.stands has.faults.calls has.faults.counted has.faults.near,
            );
      }
