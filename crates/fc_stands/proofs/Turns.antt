-- One turn of the store, and the entry that it logs.
use Rattle.std.proofs.Common.{◌≡◌, ℕ, ◌+◌, ◌<◌, ◌≤◌, [], ◌∷◌, ◌++◌, length, Result, Ok, Err, OnOk, OnErr, IfErr, refl, sym, ◌∙◌, ap, subst, arith}
use Rattle.std.specs.Prelude.{IfOk}
use Rattle.std.proofs.lemmas.List.{length-append}
use Rattle.fc_base.specs.declared.request.Reply.{Reply}
use Rattle.fc_base.specs.declared.request.Request.{Request}
use Rattle.fc_base.specs.declared.size.GrainSize.{GrainSize}
use Rattle.fc_entry.specs.HistoryState.{HistoryState}
use Rattle.fc_entry.specs.declared.entry.Entry.{Entry}
use Rattle.fc_entry.specs.declared.stop.Stop.{Stop}
use Rattle.fc_entry.specs.declared.stop.Stop.TheVariants.{LogFull, NoMemory}
use Rattle.fc_lane.specs.Lane.{IsAsked}
use Rattle.fc_legal.specs.Added.{IsOf, IsTold}
use Rattle.fc_legal.specs.Steps.{Step}
use Rattle.fc_legal.specs.Whole.{Whole}
use Rattle.fc_stands.specs.Leading.{LeadsOn}
use Rattle.fc_stands.specs.Logged.{IsFull, Logged, anything}
use Rattle.fc_stands.specs.Store.{StandsFor, StoreView}

-- An entry by `main` that answers the request, and what is told after it.
pub record IsTurn (Stands : Whole → Type 0) (grain : GrainSize) (w : Whole) (request : Request) (entry : Entry) (next : Whole) : Type 0 where
  pub by_main : entry.actor ≡ 0
  pub asked : entry.request ≡ request
  pub step : Step grain w entry next
  pub counted : next.entries ≡ w.entries + 1
  pub actors : next.actors ≡ w.actors
  pub stands : Stands next

-- One that leads on is a turn, once it has its number.
pub led_turn : (s : StoreView) (grain : GrainSize) (w : Whole) (request : Request) (number : ℕ) (entry : Entry) (leads : LeadsOn grain w entry s) → number ≡ w.entries → IsAsked 0 0 request entry →
    IsTurn (StandsFor s) grain w request (record entry { number = number }) leads.0
led_turn s grain w request number entry leads counted asked = record {
  by_main = asked.actor_is;
  asked = asked.request_is;
  step = subst (λ (n : ℕ). Step grain w (record entry { number = n }) leads.0) (sym counted) leads.1;
  counted = leads.2;
  actors = leads.3;
  stands = leads.4;
}

-- ---- it is logged

module _ (Stands : Whole → Type 0) (grain : GrainSize) (w next : Whole) (request : Request) (before after : HistoryState) (entry : Entry)
    (turn : IsTurn Stands grain w request entry next) (of : IsOf w before) where
  told_after : after ≡ record before { entries = before.entries ++ entry ∷ [] } → IsTold Stands after next
  told_after pushed = (
    turn.stands,
    record {
      actors = turn.actors ∙ (of.actors ∙ sym (ap (λ (h : HistoryState). h.actors) pushed));
      entries = omega (arith, turn.counted, of.entries, ap (λ (h : HistoryState). length h.entries) pushed, length-append before.entries (entry ∷ []));
    },
  )

  -- Or it is refused for want of memory.
  pub turn_says : (A : Type 0) (result : Result A Stop) (Says : A → Reply → Type 0) →
      IfOk result (λ done. Says done entry.reply × (after ≡ record before { entries = before.entries ++ entry ∷ [] })) →
      OnErr result (after ≡ before) →
      IfErr result (λ stop. stop ≡ NoMemory) →
      Logged result Says Stands grain w request before after
  turn_says A (Ok done) Says ok err stop = record {
    entry = entry;
    next = next;
    by_main = turn.by_main;
    asked = turn.asked;
    right = turn.step;
    says = ok.0;
    pushed = ok.1;
    told = told_after ok.1;
  }
  turn_says A (Err LogFull) Says ok err stop = let never : LogFull ≡ NoMemory = stop in absurd cc
  turn_says A (Err NoMemory) Says ok err stop = err

  pub turn_logged : (result : Result (Unit {0}) Stop) →
      OnOk result (after ≡ record before { entries = before.entries ++ entry ∷ [] }) →
      OnErr result (after ≡ before) →
      IfErr result (λ stop. stop ≡ NoMemory) →
      Logged result anything Stands grain w request before after
  turn_logged (Ok done) ok err stop = turn_says (Unit {0}) (Ok done) anything (tt, ok) err stop
  turn_logged (Err LogFull) ok err stop = turn_says (Unit {0}) (Err LogFull) anything ok err stop
  turn_logged (Err NoMemory) ok err stop = turn_says (Unit {0}) (Err NoMemory) anything ok err stop

-- How many entries there are then.
pub within_limit :
    (result : Result (Unit {0}) Stop) (limit : ℕ) (before after : HistoryState) (entry : Entry) →
    length before.entries < limit →
    OnOk result (after ≡ record before { entries = before.entries ++ entry ∷ [] }) →
    OnErr result (after ≡ before) →
    length after.entries ≤ limit
within_limit (Ok done) limit before after entry room ok err =
    omega (arith, ap (λ (h : HistoryState). length h.entries) ok, length-append before.entries (entry ∷ []))
within_limit (Err stop) limit before after entry room ok err = omega (arith, ap (λ (h : HistoryState). length h.entries) err)

-- A history that is full.
pub history_full :
    (Stands : Whole → Type 0) (w : Whole) (history : HistoryState) →
    IsTold Stands history w →
    length history.entries ≤ 262144 →
    262144 ≤ length history.entries →
    IsFull Stands w history history
history_full Stands w history told room full = record { same = refl; full = omega (arith, room, full); told = told }
