-- Entries that bring an agenda on, one after the other.
use Rattle.std.proofs.Common.{◌≡◌, ℕ, List, [], ◌∷◌, ◌++◌, length, append_assoc, Result, Ok, Err, refl, sym, ◌∙◌, ap, subst}
use Rattle.std.proofs.lemmas.List.{append-nil}
use Rattle.fc_agenda.specs.Goes.{Goes, stays, passes, answers, GoesAsking, GoesSome}
use Rattle.fc_agenda.specs.Rules.{Rules}
use Rattle.fc_agenda.proofs.Going.{Goes-append}
use Rattle.fc_base.specs.declared.request.Request.{Request}
use Rattle.fc_base.specs.declared.request.Reply.{Reply}
use Rattle.fc_base.specs.declared.size.GrainSize.{GrainSize}
use Rattle.fc_entry.specs.HistoryState.{HistoryState}
use Rattle.fc_entry.specs.declared.entry.Entry.{Entry}
use Rattle.fc_entry.specs.declared.stop.Stop.{Stop}
use Rattle.fc_entry.specs.declared.stop.Stop.TheVariants.{LogFull, NoMemory}
use Rattle.fc_legal.specs.Added.{Adds, Answered, IsOf, IsTold}
use Rattle.fc_legal.specs.Agenda.{Agenda, Asks, Session, Reading, behind_entry, session_rules}
use Rattle.fc_legal.specs.Whole.{Whole}
use Rattle.fc_stands.specs.Logged.{Brought, IsFull, IsLogged, Logged}

-- ---- nothing was added

adds_none : (Are : List Entry → Type 0) (h : HistoryState) → Are [] → Adds h h Are
adds_none Are h none = record { more = []; entries = sym (append-nil h.entries); are = none }

pub brought_nothing : (Stands : Whole → Type 0) (rules : Rules Whole Agenda) (a : Agenda) (w : Whole) (h : HistoryState) →
    IsTold Stands h w → Brought {A = Unit {0}} (Ok tt) Stands rules a a w h h
brought_nothing Stands rules a w h told = (w, told, adds_none (λ more. Goes rules a w more a w) h stays)

-- For want of memory; and what is asked next finds no room.
pub brought_starved : (A : Type 0) (Stands : Whole → Type 0) (rules : Rules Whole Agenda) (a b : Agenda) (w : Whole) (old new : HistoryState) →
    new ≡ old → IsOf w old → Brought {A = A} (Err NoMemory) Stands rules a b w old new
brought_starved A Stands rules a b w old new same of =
    let P : HistoryState → Type 0 = λ h. Brought {A = A} (Err NoMemory) Stands rules a b w old h in
    subst P (sym same) (w, of, adds_none (λ more. GoesSome rules a w more w) old record { end = a; goes = stays })

pub brought_full : (A : Type 0) (Stands : Whole → Type 0) (grain : GrainSize) (read : Reading) (a b : Agenda) (w : Whole) (wanted : ℕ × Request) (old new : HistoryState) →
    Asks grain a w wanted → IsFull Stands w old new → Brought {A = A} (Err LogFull) Stands (session_rules grain read) a b w old new
brought_full A Stands grain read a b w wanted old new asks full =
    let P : HistoryState → Type 0 = λ h. Brought {A = A} (Err LogFull) Stands (session_rules grain read) a b w old h in
    let Q : HistoryState → Type 0 = λ h. IsTold Stands h w in
    subst P (sym full.same) (
      ap (λ (h : HistoryState). length h.entries) (sym full.same) ∙ full.full,
      (
        w,
        subst Q full.same full.told,
        adds_none (λ more. GoesAsking (session_rules grain read) a w more w) old record { end = a; goes = stays; wanted = wanted; asks = asks },
      ),
    )

-- ---- one after the other

adds_more : (x y z : HistoryState) (P Q R : List Entry → Type 0) (first : Adds x y P) →
    ((xs ys : List Entry) → P xs → Q ys → R (xs ++ ys)) → Adds y z Q → Adds x z R
adds_more x y z P Q R first both second = record {
  more = first.more ++ second.more;
  entries = second.entries ∙ ap (λ (es : List Entry). es ++ second.more) first.entries ∙ append_assoc x.entries first.more second.more;
  are = both first.more second.more first.are second.are;
}

-- What was brought on is brought on further, or stops there; the store that answers may be another.
module _ (A : Type 0) (result : Result A Stop) (Stands : Whole → Type 0) (rules : Rules Whole Agenda) (w mid : Whole) (a b c : Agenda) (x y z : HistoryState)
    (first : Adds x y (λ more. Goes rules a w more b mid)) where
  then_at : Brought result Stands rules b c mid y z → Brought result Stands rules a c w x z
  then_at second = by result second
    where
      by : (r : Result A Stop) → Brought r Stands rules b c mid y z → Brought r Stands rules a c w x z
      by (Ok _) next = (
        next.0,
        next.1,
        adds_more x y z (λ more. Goes rules a w more b mid) (λ more. Goes rules b mid more c next.0) (λ more. Goes rules a w more c next.0) first
            (λ xs ys one two. Goes-append rules a b c w mid next.0 xs ys one two) next.2,
      )
      by (Err LogFull) next = (
        next.0,
        (
          next.1.0,
          next.1.1,
          adds_more x y z (λ more. Goes rules a w more b mid) (λ more. GoesAsking rules b mid more next.1.0) (λ more. GoesAsking rules a w more next.1.0) first
              (λ xs ys one two. record { end = two.end; goes = Goes-append rules a b two.end w mid next.1.0 xs ys one two.goes; wanted = two.wanted; asks = two.asks }) next.1.2,
        ),
      )
      by (Err NoMemory) next = (
        next.0,
        next.1,
        adds_more x y z (λ more. Goes rules a w more b mid) (λ more. GoesSome rules b mid more next.0) (λ more. GoesSome rules a w more next.0) first
            (λ xs ys one two. record { end = two.end; goes = Goes-append rules a b two.end w mid next.0 xs ys one two.goes }) next.2,
      )

pub then_brought : (A B : Type 0) (result : Result A Stop) (done : B) (Before Stands : Whole → Type 0) (rules : Rules Whole Agenda) (w : Whole) (a b c : Agenda) (x y z : HistoryState) →
    Brought {A = B} (Ok done) Before rules a b w x y →
    ((mid : Whole) → IsTold Before y mid → Brought result Stands rules b c mid y z) →
    Brought result Stands rules a c w x z
then_brought A B result done Before Stands rules w a b c x y z first second =
    then_at A result Stands rules w first.0 a b c x y z first.2 (second first.0 first.1)

-- It goes on without an entry, before or behind.
pub passed_before : (A : Type 0) (result : Result A Stop) (Stands : Whole → Type 0) (rules : Rules Whole Agenda) (w : Whole) (a b c : Agenda) (x y : HistoryState) →
    rules.Passes a w b → Brought result Stands rules b c w x y → Brought result Stands rules a c w x y
passed_before A result Stands rules w a b c x y on second =
    then_at A result Stands rules w w a b c x x y (adds_none (λ more. Goes rules a w more b w) x (passes on stays)) second

pub passed_on : (A : Type 0) (done : A) (Stands : Whole → Type 0) (rules : Rules Whole Agenda) (w : Whole) (a b c : Agenda) (x y : HistoryState) →
    Brought {A = A} (Ok done) Stands rules a b w x y → ((last : Whole) → Stands last → rules.Passes b last c) → Brought {A = A} (Ok done) Stands rules a c w x y
passed_on A done Stands rules w a b c x y first on =
    then_brought A A (Ok done) done Stands Stands rules w a b c x y y first
    (λ mid told. (mid, told, adds_none (λ more. Goes rules b mid more c mid) y (passes (on mid told.0) stays)))

-- ---- one entry

-- It was logged for an agenda that asks for it, and brings it to what stands behind it; and that is brought on, or stops there.
pub logged_then : (A : Type 0) (result : Result A Stop) (Says : Reply → Type 0) (Before Stands : Whole → Type 0) (grain : GrainSize) (read : Reading) (w : Whole) (request : Request) (a c : Agenda)
    (x y z : HistoryState) →
    Asks grain a w (0, request) →
    IsLogged Says Before grain w request x y →
    ((entry : Entry) (next : Whole) → Says entry.reply → IsTold Before y next → Brought result Stands (session_rules grain read) (behind_entry grain a next entry) c next y z) →
    Brought result Stands (session_rules grain read) a c w x z
logged_then A result Says Before Stands grain read w request a c x y z asks logged on =
    let Asked : ℕ × Request → Type 0 = λ asked. Asks grain a w asked in
    let is : (0, request) ≡ (logged.entry.actor, logged.entry.request) =
    ap (λ (n : ℕ). (n, request)) (sym logged.by_main) ∙ ap (λ (r : Request). (logged.entry.actor, r)) (sym logged.asked) in
    then_at A result Stands (session_rules grain read) w logged.next a (behind_entry grain a logged.next logged.entry) c x y z
    record {
      more = logged.entry ∷ [];
      entries = ap (λ (h : HistoryState). h.entries) logged.pushed;
      are = answers (subst Asked is asks) logged.right stays;
    }
    (on logged.entry logged.next logged.says logged.told)

-- It was logged, or not.
pub logged_brings : (A : Type 0) (result : Result A Stop) (Says : A → Reply → Type 0) (Stands : Whole → Type 0) (grain : GrainSize) (read : Reading) (w : Whole) (request : Request) (a b : Agenda)
    (x y : HistoryState) →
    IsOf w x →
    Asks grain a w (0, request) →
    ((done : A) (entry : Entry) (next : Whole) → result ≡ Ok done → Says done entry.reply → Stands next → Goes (session_rules grain read) (behind_entry grain a next entry) next [] b next) →
    Logged result Says Stands grain w request x y →
    Brought result Stands (session_rules grain read) a b w x y
logged_brings A (Ok done) Says Stands grain read w request a b x y of asks on logged =
    logged_then A (Ok done) (Says done) Stands Stands grain read w request a b x y y asks logged
    (λ entry next says told. (next, told, adds_none (λ more. Goes (session_rules grain read) (behind_entry grain a next entry) next more b next) y (on done entry next refl says told.0)))
logged_brings A (Err LogFull) Says Stands grain read w request a b x y of asks on full =
    brought_full A Stands grain read a b w (0, request) x y asks full
logged_brings A (Err NoMemory) Says Stands grain read w request a b x y of asks on same =
    brought_starved A Stands (session_rules grain read) a b w x y same of

-- ---- to the end

pub brought_all : (A : Type 0) (result : Result A Stop) (Stands : Whole → Type 0) (grain : GrainSize) (read : Reading) (w : Whole) (a : Agenda) (x y : HistoryState) →
    Brought result Stands (session_rules grain read) a (Session []) w x y → Answered result Stands (session_rules grain read) a w x y
brought_all A (Ok _) Stands grain read w a x y first =
    (first.0, first.1, record { more = first.2.more; entries = first.2.entries; are = record { end = Session []; goes = first.2.are; over = refl } })
brought_all A (Err LogFull) Stands grain read w a x y first = first
brought_all A (Err NoMemory) Stands grain read w a x y first = first

-- A stop is one whatever was wanted, and whatever a call would have returned.
pub brought_stopped : (A B : Type 0) (stop : Stop) (Stands : Whole → Type 0) (rules : Rules Whole Agenda) (w : Whole) (a b c : Agenda) (x y : HistoryState) →
    Brought {A = A} (Err stop) Stands rules a b w x y → Brought {A = B} (Err stop) Stands rules a c w x y
brought_stopped A B LogFull Stands rules w a b c x y first = first
brought_stopped A B NoMemory Stands rules w a b c x y first = first
