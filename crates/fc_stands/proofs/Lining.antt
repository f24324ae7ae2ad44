-- A line's own requests, answered one after the other.
use Rattle.std.proofs.Common.{◌≡◌, ℕ, suc, ◌+◌, ◌-◌, ◌<◌, Bool, true, false, cond, Some, List, [], ◌∷◌, map, Result, Ok, Err, refl, sym, ◌∙◌, ap, subst, arith}
use Rattle.fc_agenda.specs.Goes.{Goes, stays, passes}
use Rattle.fc_base.specs.declared.behind.Behind.{Behind}
use Rattle.fc_base.specs.declared.behind.Behind.TheVariants.{Passing as PassingSeconds}
use Rattle.fc_base.specs.declared.request.Reply.{Reply}
use Rattle.fc_base.specs.declared.request.Request.{Request}
use Rattle.fc_base.specs.declared.size.GrainSize.{GrainSize}
use Rattle.fc_base.specs.declared.command.Line.{Line}
use Rattle.fc_base.specs.declared.fault.WordFault.{WordFault}
use Rattle.fc_entry.specs.HistoryState.{HistoryState}
use Rattle.fc_entry.specs.declared.stop.Stop.{Stop}
use Rattle.fc_entry.specs.declared.stop.Stop.TheVariants.{LogFull, NoMemory}
use Rattle.fc_legal.specs.Added.{Answered, IsOf, IsTold}
use Rattle.fc_blocks.specs.Segments.{single}
use Rattle.fc_legal.specs.Agenda.{Agenda, Session, Own, Reading, Seconds, behind_last, behind_own, is_done, line_read, session_rules}
use Rattle.fc_legal.specs.Asked.{numbers}
use Rattle.fc_legal.specs.Seconds.{all_work, seconds_begun}
use Rattle.fc_legal.specs.Whole.{Whole}
use Rattle.fc_stands.specs.Logged.{Brought, IsLogged, Logged, anything, whether_done}
use Rattle.fc_stands.proofs.Bringing.{brought_all, brought_nothing, brought_starved, brought_stopped, logged_brings, logged_then, passed_before, passed_on, then_brought}

-- ---- requests that let no second pass

-- Those that are left, and nothing behind them.
abbrev pub own_left : List Request → Agenda
own_left [] = Session []
own_left (request ∷ rest) = Own (request ∷ rest) (PassingSeconds 0) []

pub own_begins : (Stands : Whole → Type 0) (grain : GrainSize) (read : Reading) (w : Whole) (requests : List Request) (h : HistoryState) →
    IsTold Stands h w → Brought {A = Unit {0}} (Ok tt) Stands (session_rules grain read) (Own requests (PassingSeconds 0) []) (own_left requests) w h h
own_begins Stands grain read w [] h told =
    passed_on (Unit {0}) tt Stands (session_rules grain read) w (Own [] (PassingSeconds 0) []) (Own [] (PassingSeconds 0) []) (Session []) h h (brought_nothing Stands (session_rules grain read) (Own [] (PassingSeconds 0) []) w h told) (λ last stands. refl)
own_begins Stands grain read w (request ∷ rest) h told = brought_nothing Stands (session_rules grain read) (Own (request ∷ rest) (PassingSeconds 0) []) w h told

-- Behind the last of them.
none_behind : (grain : GrainSize) (read : Reading) (next : Whole) (done : Bool) →
    Goes (session_rules grain read) (cond done (Seconds (seconds_begun 0 (all_work next.books)) []) (Session [])) next [] (Session []) next
none_behind grain read next true = passes refl stays
none_behind grain read next false = stays

own_behind : (grain : GrainSize) (read : Reading) (next : Whole) (reply : Reply) (rest : List Request) →
    Goes (session_rules grain read) (behind_own next reply rest (PassingSeconds 0) []) next [] (own_left rest) next
own_behind grain read next reply [] = none_behind grain read next (is_done reply)
own_behind grain read next reply (request ∷ rest) = stays

-- The first of them is answered.
pub one_answered : (result : Result (Unit {0}) Stop) (Stands : Whole → Type 0) (grain : GrainSize) (read : Reading) (w : Whole) (request : Request) (rest : List Request) (x y : HistoryState) →
    IsOf w x → Logged result anything Stands grain w request x y → Brought result Stands (session_rules grain read) (own_left (request ∷ rest)) (own_left rest) w x y
one_answered result Stands grain read w request rest x y of logged =
    logged_brings (Unit {0}) result anything Stands grain read w request (Own (request ∷ rest) (PassingSeconds 0) []) (own_left rest) x y of refl
    (λ done entry next same says stands. own_behind grain read next entry.reply rest) logged

-- One alone.
pub alone_answered : (result : Result (Unit {0}) Stop) (Stands : Whole → Type 0) (grain : GrainSize) (read : Reading) (w : Whole) (request : Request) (x y : HistoryState) →
    IsOf w x → Logged result anything Stands grain w request x y → Answered result Stands (session_rules grain read) (Own (request ∷ []) (PassingSeconds 0) []) w x y
alone_answered result Stands grain read w request x y of logged =
    brought_all (Unit {0}) result Stands grain read w (Own (request ∷ []) (PassingSeconds 0) []) x y (one_answered result Stands grain read w request [] x y of logged)

-- ---- one for each number

-- Those from a number on, before an end.
abbrev pub asks_from : (ℕ → Request) → ℕ → ℕ → Agenda
asks_from request g end = own_left (map request (numbers g (end - g)))

pub one_more_number : (result : Result (Unit {0}) Stop) (Before Stands : Whole → Type 0) (grain : GrainSize) (read : Reading) (w : Whole) (a : Agenda) (request : ℕ → Request) (g end : ℕ) (x y z : HistoryState) →
    g < end →
    Brought {A = Unit {0}} (Ok tt) Before (session_rules grain read) a (asks_from request g end) w x y →
    ((mid : Whole) → IsTold Before y mid → Logged result anything Stands grain mid (request g) y z) →
    Brought result Stands (session_rules grain read) a (asks_from request (g + 1) end) w x z
one_more_number result Before Stands grain read w a request g end x y z below first second =
    let is : end - g ≡ suc (end - (g + 1)) = omega (arith, below) in
    let P : ℕ → Type 0 = λ n. Brought {A = Unit {0}} (Ok tt) Before (session_rules grain read) a (own_left (map request (numbers g n))) w x y in
    then_brought (Unit {0}) (Unit {0}) result tt Before Stands (session_rules grain read) w a (own_left (map request (numbers g (suc (end - (g + 1)))))) (asks_from request (g + 1) end) x y z
    (subst P is first)
    (λ mid told. one_answered result Stands grain read mid (request g) (map request (numbers (g + 1) (end - (g + 1)))) y z told.1 (second mid told))

-- ---- a command, and its seconds

-- A stop ends the answer of a line, whatever was to be asked behind its request.
pub own_stopped : (A : Type 0) (stop : Stop) (Says : A → Reply → Type 0) (Stands : Whole → Type 0) (grain : GrainSize) (read : Reading) (w : Whole) (request : Request) (rest : List Request) (behind : Behind)
    (x y : HistoryState) → IsOf w x → Logged {A = A} (Err stop) Says Stands grain w request x y → Answered {A = Unit {0}} (Err stop) Stands (session_rules grain read) (Own (request ∷ rest) behind []) w x y
own_stopped A stop Says Stands grain read w request rest behind x y of logged =
    brought_all (Unit {0}) (Err stop) Stands grain read w (Own (request ∷ rest) behind []) x y
    (brought_stopped A (Unit {0}) stop Stands (session_rules grain read) w (Own (request ∷ rest) behind []) (Session []) (Session []) x y
    (logged_brings A (Err stop) Says Stands grain read w request (Own (request ∷ rest) behind []) (Session []) x y of refl (λ done entry next same says stands. absurd (cc same)) logged))

abbrev behind_seconds : Whole → ℕ → Bool → Agenda
behind_seconds next n done = cond done (Seconds (seconds_begun n (all_work next.books)) []) (Session [])

-- A command that isn't done, or lets no second pass, ends its line; else its seconds pass.
module _ (Stands : Whole → Type 0) (grain : GrainSize) (read : Reading) (w : Whole) (request : Request) (n : ℕ) (x y : HistoryState) where
  pub command_undone : (done : Bool) → done ≡ false → Logged {A = Bool} (Ok done) whether_done Stands grain w request x y →
      Answered {A = Unit {0}} (Ok tt) Stands (session_rules grain read) (Own (request ∷ []) (PassingSeconds n) []) w x y
  command_undone done is logged =
      brought_all (Unit {0}) (Ok tt) Stands grain read w (Own (request ∷ []) (PassingSeconds n) []) x y
      (logged_then (Unit {0}) (Ok tt) (whether_done done) Stands Stands grain read w request (Own (request ∷ []) (PassingSeconds n) []) (Session []) x y y refl logged
      (λ entry next says told.
      let P : Bool → Type 0 = λ b. Brought {A = Unit {0}} (Ok tt) Stands (session_rules grain read) (behind_seconds next n b) (Session []) next y y in
      subst P (sym is ∙ says) (brought_nothing Stands (session_rules grain read) (Session []) next y told)))

  pub command_done : (result : Result (Unit {0}) Stop) (After : Whole → Type 0) (z : HistoryState) (done : Bool) → done ≡ true → Logged {A = Bool} (Ok done) whether_done Stands grain w request x y →
      ((next : Whole) → IsTold Stands y next → Brought result After (session_rules grain read) (Seconds (seconds_begun n (all_work next.books)) []) (Session []) next y z) →
      Answered result After (session_rules grain read) (Own (request ∷ []) (PassingSeconds n) []) w x z
  command_done result After z done is logged then =
      brought_all (Unit {0}) result After grain read w (Own (request ∷ []) (PassingSeconds n) []) x z
      (logged_then (Unit {0}) result (whether_done done) Stands After grain read w request (Own (request ∷ []) (PassingSeconds n) []) (Session []) x y z refl logged
      (λ entry next says told.
      let P : Bool → Type 0 = λ b. Brought result After (session_rules grain read) (behind_seconds next n b) (Session []) next y z in
      subst P (sym is ∙ says) (then next told)))

-- No second passes.
pub none_pass : (Stands : Whole → Type 0) (grain : GrainSize) (read : Reading) (w : Whole) (n : ℕ) (x : HistoryState) → n ≡ 0 → IsTold Stands x w →
    Brought {A = Unit {0}} (Ok tt) Stands (session_rules grain read) (Seconds (seconds_begun n (all_work w.books)) []) (Session []) w x x
none_pass Stands grain read w n x is told =
    let P : ℕ → Type 0 = λ k. Brought {A = Unit {0}} (Ok tt) Stands (session_rules grain read) (Seconds (seconds_begun k (all_work w.books)) []) (Session []) w x x in
    subst P (sym is)
    (passed_before (Unit {0}) (Ok tt) Stands (session_rules grain read) w (Seconds (seconds_begun 0 (all_work w.books)) []) (Session []) (Session []) x x refl
    (brought_nothing Stands (session_rules grain read) (Session []) w x told))

-- ---- a command, and what is asked by its reply

-- What was answered to the end was brought there.
pub answered_brings : (result : Result (Unit {0}) Stop) (Stands : Whole → Type 0) (grain : GrainSize) (read : Reading) (w : Whole) (a : Agenda) (x y : HistoryState) →
    Answered result Stands (session_rules grain read) a w x y → Brought result Stands (session_rules grain read) a (Session []) w x y
answered_brings (Ok done) Stands grain read w a x y first =
    let P : Agenda → Type 0 = λ end. Goes (session_rules grain read) a w first.2.more end first.0 in
    (first.0, first.1, record { more = first.2.more; entries = first.2.entries; are = subst P first.2.are.over first.2.are.goes })
answered_brings (Err LogFull) Stands grain read w a x y first = first
answered_brings (Err NoMemory) Stands grain read w a x y first = first

-- The last request of a line was answered; and then what is asked by its reply.
pub then_asked : (result : Result (Unit {0}) Stop) (Says : Reply → Type 0) (Stands After : Whole → Type 0) (grain : GrainSize) (read : Reading) (w : Whole) (request : Request) (behind : Behind)
    (requests : List Request) (further : Behind) (x y z : HistoryState) →
    IsLogged Says Stands grain w request x y →
    ((next : Whole) (reply : Reply) → Says reply → behind_last next reply behind [] ≡ Own requests further []) →
    ((next : Whole) → IsTold Stands y next → Answered result After (session_rules grain read) (Own requests further []) next y z) →
    Answered result After (session_rules grain read) (Own (request ∷ []) behind []) w x z
then_asked result Says Stands After grain read w request behind requests further x y z logged asks then =
    brought_all (Unit {0}) result After grain read w (Own (request ∷ []) behind []) x z
    (logged_then (Unit {0}) result Says Stands After grain read w request (Own (request ∷ []) behind []) (Session []) x y z refl logged
    (λ entry next says told.
    let P : Agenda → Type 0 = λ a. Brought result After (session_rules grain read) a (Session []) next y z in
    subst P (sym (asks next entry.reply says)) (answered_brings result After grain read next (Own requests further []) y z (then next told))))

-- Nothing is asked, and no second passes.
pub none_asked : (Stands : Whole → Type 0) (grain : GrainSize) (read : Reading) (w : Whole) (x : HistoryState) → IsTold Stands x w →
    Answered {A = Unit {0}} (Ok tt) Stands (session_rules grain read) (Own [] (PassingSeconds 0) []) w x x
none_asked Stands grain read w x told = brought_all (Unit {0}) (Ok tt) Stands grain read w (Own [] (PassingSeconds 0) []) x x (own_begins Stands grain read w [] x told)

-- Memory was wanted before anything was asked.
pub starved_answered : (Stands : Whole → Type 0) (grain : GrainSize) (read : Reading) (w : Whole) (a : Agenda) (x : HistoryState) → IsOf w x →
    Answered {A = Unit {0}} (Err NoMemory) Stands (session_rules grain read) a w x x
starved_answered Stands grain read w a x of =
    brought_all (Unit {0}) (Err NoMemory) Stands grain read w a x x (brought_starved (Unit {0}) Stands (session_rules grain read) a (Session []) w x x refl of)

-- A request before the last was answered; and then the others.
pub then_rest : (result : Result (Unit {0}) Stop) (Says : Reply → Type 0) (Stands After : Whole → Type 0) (grain : GrainSize) (read : Reading) (w : Whole) (request second : Request) (rest : List Request)
    (behind : Behind) (x y z : HistoryState) →
    IsLogged Says Stands grain w request x y →
    ((next : Whole) → IsTold Stands y next → Answered result After (session_rules grain read) (Own (second ∷ rest) behind []) next y z) →
    Answered result After (session_rules grain read) (Own (request ∷ second ∷ rest) behind []) w x z
then_rest result Says Stands After grain read w request second rest behind x y z logged then =
    brought_all (Unit {0}) result After grain read w (Own (request ∷ second ∷ rest) behind []) x z
    (logged_then (Unit {0}) result Says Stands After grain read w request (Own (request ∷ second ∷ rest) behind []) (Session []) x y z refl logged
    (λ entry next says told. answered_brings result After grain read next (Own (second ∷ rest) behind []) y z (then next told)))

-- ---- a line

answered_before : (result : Result (Unit {0}) Stop) (Stands : Whole → Type 0) (grain : GrainSize) (read : Reading) (w : Whole) (a b : Agenda) (x y : HistoryState) →
    Answered result Stands (session_rules grain read) b w x y → (session_rules grain read).Passes a w b → Answered result Stands (session_rules grain read) a w x y
answered_before (Ok done) Stands grain read w a b x y first on =
    (first.0, first.1, record { more = first.2.more; entries = first.2.entries; are = record { end = first.2.are.end; goes = passes on first.2.are.goes; over = first.2.are.over } })
answered_before (Err LogFull) Stands grain read w a b x y first on =
    (first.0, (first.1.0, first.1.1, record { more = first.1.2.more; entries = first.1.2.entries; are = record { end = first.1.2.are.end; goes = passes on first.1.2.are.goes; wanted = first.1.2.are.wanted; asks = first.1.2.are.asks } }))
answered_before (Err NoMemory) Stands grain read w a b x y first on =
    (first.0, first.1, record { more = first.2.more; entries = first.2.entries; are = record { end = first.2.are.end; goes = passes on first.2.are.goes } })

-- Its own requests, and what it asks behind them, are answered as it was read.
pub line_answered : (result : Result (Unit {0}) Stop) (Stands : Whole → Type 0) (grain : GrainSize) (read : Reading) (w : Whole) (bytes : List ℕ) (line : Result Line WordFault) (requests : List Request) (behind : Behind) (x y : HistoryState) →
    read w.books bytes ≡ line → line_read grain w line [] ≡ Own requests behind [] →
    Answered result Stands (session_rules grain read) (Own requests behind []) w x y → Answered result Stands (session_rules grain read) (Session (single bytes ∷ [])) w x y
line_answered result Stands grain read w bytes line requests behind x y is asks own =
    answered_before result Stands grain read w (Session (single bytes ∷ [])) (Own requests behind []) x y own
    (ap (λ (l : Result Line WordFault). Some (line_read grain w l [])) is ∙ ap Some asks)
