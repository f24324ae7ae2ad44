-- Stages, one behind the other.
use Rattle.std.proofs.Common.{◌≡◌, ℕ, ◌<◌, ◌≤◌, List, [], ◌∷◌, ◌++◌, length, Option, Result, Ok, Err, refl, ◌∙◌, ap, subst, arith}
use Rattle.std.proofs.lemmas.List.{length-append}
use Rattle.fc_base.specs.declared.behind.Behind.{Behind}
use Rattle.fc_base.specs.declared.behind.Behind.TheVariants.{Passing as PassingSeconds}
use Rattle.fc_base.specs.declared.command.Command.{Command}
use Rattle.fc_base.specs.declared.request.Reply.{Reply}
use Rattle.fc_base.specs.declared.request.Request.{Request}
use Rattle.fc_base.specs.declared.request.Request.TheVariants.{Command as Asked}
use Rattle.fc_base.specs.declared.size.GrainSize.{GrainSize}
use Rattle.fc_entry.specs.HistoryState.{HistoryState}
use Rattle.fc_entry.specs.declared.entry.Entry.{Entry}
use Rattle.fc_entry.specs.declared.stop.Stop.{Stop}
use Rattle.fc_entry.specs.declared.stop.Stop.TheVariants.{LogFull, NoMemory}
use Rattle.fc_legal.specs.Added.{Answered, IsTold, StaysUp, TellsSome}
use Rattle.fc_legal.specs.Agenda.{Own, behind_last, session_rules}
use Rattle.fc_legal.specs.Whole.{Whole}
use Rattle.fc_stands.specs.Logged.{IsLogged, Logged, anything}
use Rattle.fc_stands.specs.Quiet.{QuietBy}
use Rattle.fc_stands.specs.Store.{StandsFor, StoreView}
use Rattle.fc_stands.proofs.Lining.{alone_answered, none_asked, own_stopped, then_asked, then_rest}
use Rattle.fc_preset.specs.Stages.{AnswersOwn, HasRun, made_by, whether_made}

-- ---- an entry that was logged

module _ {Says : Reply → Type 0} {Stands : Whole → Type 0} {grain : GrainSize} {w : Whole} {request : Request} {x y : HistoryState} (logged : IsLogged Says Stands grain w request x y) where
  -- There is one, at least.
  pub some_logged : 0 < length y.entries
  some_logged =
      let many : length y.entries ≡ length (x.entries ++ logged.entry ∷ []) = ap (λ (h : HistoryState). length h.entries) logged.pushed in
      omega (arith, many, length-append x.entries (logged.entry ∷ []))

  -- Of the last entry's reply this is said.
  says_last : (Other : Reply → Type 0) → ((before : List Entry) (last : Entry) → y.entries ≡ before ++ last ∷ [] → Other last.reply) → IsLogged Other Stands grain w request x y
  says_last Other of_last = record {
    entry = logged.entry;
    next = logged.next;
    by_main = logged.by_main;
    asked = logged.asked;
    right = logged.right;
    says = of_last x.entries logged.entry (ap (λ (h : HistoryState). h.entries) logged.pushed);
    pushed = logged.pushed;
    told = logged.told;
  }

  pub says_made : (made : Option ℕ) → ((before : List Entry) (last : Entry) → y.entries ≡ before ++ last ∷ [] → made ≡ made_by last.reply) → IsLogged (whether_made made) Stands grain w request x y
  says_made made of_last = says_last (whether_made made) of_last

  says_nothing : IsLogged (anything tt) Stands grain w request x y
  says_nothing = says_last (anything tt) (λ before last is. tt)

-- Where a call stops it is a stop whatever it would have returned.
pub stops_up : (A B : Type 0) (stop : Stop) (Up : Type 0) → StaysUp {A = A} (Err stop) Up → StaysUp {A = B} (Err stop) Up
stops_up A B LogFull Up up = up
stops_up A B NoMemory Up up = tt

pub stops_logged : (A B : Type 0) (stop : Stop) (Says : A → Reply → Type 0) (Other : B → Reply → Type 0) (Stands : Whole → Type 0) (grain : GrainSize) (w : Whole) (request : Request) (x y : HistoryState) →
    Logged {A = A} (Err stop) Says Stands grain w request x y → Logged {A = B} (Err stop) Other Stands grain w request x y
stops_logged A B LogFull Says Other Stands grain w request x y full = full
stops_logged A B NoMemory Says Other Stands grain w request x y same = same

-- ---- a command that was asked for

-- The store goes on to stand for what is told.
pub still_told : (A : Type 0) (a : A) (Says : A → Reply → Type 0) (command : Command) (old new : StoreView) (x y : HistoryState) → HasRun {A = A} (Ok a) Says command old new x y →
    TellsSome (StandsFor old) x → TellsSome (StandsFor new) y
still_told A a Says command old new x y asks told =
    let logged = asks.logged told.0 told.1 in
    (logged.next, logged.told)

-- It was the last, and nothing is asked behind it.
pub last_asked : (A : Type 0) (a : A) (Says : A → Reply → Type 0) (command : Command) (old new : StoreView) (x y : HistoryState) → HasRun {A = A} (Ok a) Says command old new x y →
    AnswersOwn (Ok tt) (Asked command ∷ []) (PassingSeconds 0) old new x y
last_asked A a Says command old new x y asks = record {
  answered = λ read w told. alone_answered (Ok tt) (StandsFor new) old.control.grain read w (Asked command) x y told.1 (says_nothing (asks.logged w told));
  grain = asks.grain;
  disks = asks.disks;
  quiet = asks.quiet;
  limit = asks.limit;
}

-- The call stopped at it.
pub stopped_asking : (A : Type 0) (stop : Stop) (Says : A → Reply → Type 0) (command : Command) (rest : List Request) (behind : Behind) (old new : StoreView) (x y : HistoryState) →
    HasRun {A = A} (Err stop) Says command old new x y → AnswersOwn (Err stop) (Asked command ∷ rest) behind old new x y
stopped_asking A stop Says command rest behind old new x y asks = record {
  answered = λ read w told. own_stopped A stop Says (StandsFor new) old.control.grain read w (Asked command) rest behind x y told.1 (asks.logged w told);
  grain = asks.grain;
  disks = asks.disks;
  quiet = λ q. stops_up A (Unit {0}) stop (QuietBy y.entries new) (asks.quiet q);
  limit = asks.limit;
}

-- ---- and what is asked next

module _ (A : Type 0) (a : A) (Says : A → Reply → Type 0) (result : Result (Unit {0}) Stop) (command : Command) (behind : Behind) (old mid new : StoreView) (x y z : HistoryState)
    (asks : HasRun {A = A} (Ok a) Says command old mid x y) where
  -- By its reply.
  pub asks_by : (requests : List Request) (further : Behind) →
      ((next : Whole) (reply : Reply) → Says a reply → behind_last next reply behind [] ≡ Own requests further []) →
      AnswersOwn result requests further mid new y z → AnswersOwn result (Asked command ∷ []) behind old new x z
  asks_by requests further by rest = record {
    answered = λ read w told.
        let P : GrainSize → Type 0 = λ g. (next : Whole) → IsTold (StandsFor mid) y next → Answered result (StandsFor new) (session_rules g read) (Own requests further []) next y z in
        then_asked result (Says a) (StandsFor mid) (StandsFor new) old.control.grain read w (Asked command) behind requests further x y z (asks.logged w told) by
        (subst P asks.grain (rest.answered read));
    grain = rest.grain ∙ asks.grain;
    disks = rest.disks ∙ asks.disks;
    quiet = λ q. rest.quiet (asks.quiet q);
    limit = rest.limit;
  }

  -- Whatever was answered.
  pub asks_then : (second : Request) (rest : List Request) → AnswersOwn result (second ∷ rest) behind mid new y z → AnswersOwn result (Asked command ∷ second ∷ rest) behind old new x z
  asks_then second others rest = record {
    answered = λ read w told.
        let P : GrainSize → Type 0 = λ g. (next : Whole) → IsTold (StandsFor mid) y next → Answered result (StandsFor new) (session_rules g read) (Own (second ∷ others) behind []) next y z in
        then_rest result (Says a) (StandsFor mid) (StandsFor new) old.control.grain read w (Asked command) second others behind x y z (asks.logged w told)
        (subst P asks.grain (rest.answered read));
    grain = rest.grain ∙ asks.grain;
    disks = rest.disks ∙ asks.disks;
    quiet = λ q. rest.quiet (asks.quiet q);
    limit = rest.limit;
  }

-- Nothing is left to be asked.
pub none_left : (s : StoreView) (h : HistoryState) → length h.entries ≤ 262144 → AnswersOwn (Ok tt) [] (PassingSeconds 0) s s h h
none_left s h room = record {
  answered = λ read w told. none_asked (StandsFor s) s.control.grain read w h told;
  grain = refl;
  disks = refl;
  quiet = λ q. q;
  limit = room;
}
