-- A refusal is logged: the history leads on with it, and all stands as it stood.
use Rattle.std.proofs.Common.{◌≡◌, ℕ, ◌<◌, true, None, List, [], ◌∷◌, ◌++◌, length, Result, OnOk, OnErr, IfErr, refl, sym, subst, ◌∙◌, arith}
use Rattle.fc_base.specs.declared.fault.Refusal.{Refusal}
use Rattle.fc_base.specs.declared.request.Place.TheVariants.{Control, Every}
use Rattle.fc_base.specs.declared.request.Reply.TheVariants.{Refused}
use Rattle.fc_base.specs.declared.request.Request.TheVariants.{Write}
use Rattle.fc_base.specs.declared.request.Request.{Request}
use Rattle.fc_base.specs.declared.size.GrainSize.{GrainSize}
use Rattle.fc_changed.specs.Row.{Row}
use Rattle.fc_entry.specs.HistoryState.{HistoryState}
use Rattle.fc_entry.specs.declared.entry.Entry.{Entry}
use Rattle.fc_kept.specs.Marks.{asked_write}
use Rattle.fc_legal.specs.Agenda.{Asks}
use Rattle.fc_legal.specs.Steps.{one_more}
use Rattle.fc_legal.specs.Whole.{Whole}
use Rattle.fc_marks.specs.declared.error.NotedStop.TheVariants.{NoMemory as WantsMemory}
use Rattle.fc_marks.specs.declared.error.NotedStop.{NotedStop}
use Rattle.fc_noted.proofs.Counting.{has_counted}
use Rattle.fc_noted.proofs.Still.{LeadsStill, still_made}
use Rattle.fc_noted.specs.Making.{GoesBehind, StepMade, always}
use Rattle.fc_noted.specs.declared.noted.Noted.{Noted}
use Rattle.fc_rules.specs.LaneRight.{done_write}
use Rattle.fc_script.specs.Script.{agenda_of}
use Rattle.fc_script.specs.declared.script.Script.{Script}
use Rattle.fc_stands.proofs.Turning.{by_request, one_more_stands}
use Rattle.fc_stands.proofs.Turns.{IsTurn}
use Rattle.fc_stands.specs.Apart.{IsRefusalOf, entry_apart}
use Rattle.fc_stands.specs.Store.{StandsFor, StoreView}
use Rattle.law_crash.specs.Points.{Point}
use Rattle.law_crash.specs.Running.{refused}

-- no write of a grain is refused so
writes_none : (grain : GrainSize) (w : Whole) (request : Request) (refusal : Refusal) → IsRefusalOf grain w request refusal → asked_write request ≡ None
writes_none grain w (Write part) refusal is = absurd is
writes_none grain w request refusal is = refl

-- nor is one done
none_done : (request : Request) (refusal : Refusal) → done_write request (Refused refusal) ≡ None
none_done (Write part) refusal = refl
none_done request refusal = refl

abbrev pub refused_at : ℕ → Request → Refusal → Entry
refused_at number request refusal = entry_apart number 0 Control request (Refused refusal) []

refused_turn : (s : StoreView) (w : Whole) (number : ℕ) (request : Request) (refusal : Refusal) → StandsFor s w → number ≡ w.entries → IsRefusalOf s.control.grain w request refusal →
    IsTurn (StandsFor s) s.control.grain w request (refused_at number request refusal) (one_more w)
refused_turn s w number request refusal stands counted is =
    record {
      by_main = refl;
      asked = refl;
      step = record {
        number = counted;
        right = by_request s.control.grain w (refused_at number request refusal) request refusal is
            (record {
              place = refl;
              apart = record { no_moves = refl; untorn = refl; no_calls = refl; no_faults_before = refl; no_faults_after = refl };
              reply = refl;
              no_effects = refl;
              next_is = refl;
            });
      };
      counted = refl;
      actors = refl;
      stands = one_more_stands s w stands;
    }

refused_leads : (s : StoreView) (w : Whole) (least : List Row) (p : Point) (number : ℕ) (request : Request) (refusal : Refusal) → StandsFor s w → number ≡ w.entries → IsRefusalOf s.control.grain w request refusal →
    LeadsStill (StandsFor s) s.control.grain w least p request (refused_at number request refusal)
refused_leads s w least p number request refusal stands counted is =
    record {
      next = one_more w;
      least_next = least;
      turn = refused_turn s w number request refusal stands counted is;
      does = refused (writes_none s.control.grain w request refusal is);
      tells = record { request_is = refl; written = none_done request refusal; moves = refl; torn_is = refl; no_effects = refl };
      not_every = λ every. let q : Control ≡ Every = every in cc;
      pools = refl;
      rows = refl;
    }

module _ {C D : Type 0} (seen : D → List ℕ) (may_leave : D → List ℕ → Type 0) (moment : D → ℕ) (left_since : D → ℕ → List ℕ → Type 0) (disk_calls : D → ℕ) (only_now : (disk : D) (c : List ℕ) → left_since disk (moment disk) c → may_leave disk c)
    (old : Noted C D) (history : HistoryState) (idle : old.under_way ≡ None) (live : old.live ≡ true) (room : length history.entries < 262144) where
  pub refused_made : (number : ℕ) (request : Request) (refusal : Refusal) (entry : Entry) (script : Script) (result : Result (Unit {0}) NotedStop) (behind : HistoryState) → number ≡ length history.entries → entry ≡ refused_at number request refusal →
      ((w : Whole) → StandsFor old.store w → IsRefusalOf old.store.control.grain w request refusal) →
      ((w : Whole) → StandsFor old.store w → Asks old.store.control.grain (agenda_of old.store.control.grain old.script) w (0, request)) →
      OnOk result (behind ≡ record history { entries = history.entries ++ entry ∷ [] }) → OnOk result (GoesBehind old.store.control.grain (StandsFor old.store) old.script entry script) → OnErr result (behind ≡ history) →
      IfErr result (λ stop. stop ≡ WantsMemory) → StepMade seen may_leave moment left_since disk_calls (always result) old (record old { script = script }) history behind
  refused_made number request refusal entry script result behind counted made is asks =
      still_made seen may_leave moment left_since disk_calls only_now old history idle live room old.store refl
      (λ w least h.
      let few : w.entries < 262144 = subst (λ (k : ℕ). k < 262144) (sym h.told.1.entries) room in
      record { matches = h.keeps.matches; volumes = h.keeps.volumes; counted = has_counted old.store w h.told.0 (omega (arith, few)) })
      request entry script result behind
      (record {
        leads = λ w least h.
            subst (λ (e : Entry). LeadsStill (StandsFor old.store) old.store.control.grain w least h.point request e) (sym made)
            (refused_leads old.store w least h.point number request refusal h.told.0 (counted ∙ sym h.told.1.entries) (is w h.told.0));
        asks = asks;
      })
