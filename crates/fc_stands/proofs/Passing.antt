-- Seconds that pass: entries bring them on, one after another.
use Rattle.std.proofs.Common.{◌≡◌, ℕ, zero, suc, ◌+◌, ◌-◌, ◌<◌, ◌≤◌, Bool, true, false, cond, Option, Some, None, List, [], ◌∷◌, ◌++◌, length, take, drop, get_or, set, Result, Ok, Err, refl, sym, ◌∙◌, ap, ap₂, subst, arith}
use Rattle.std.specs.Prelude.{nat_le, option_map, is_some}
use Rattle.std.proofs.lemmas.Bool.{le-leb, lt-leb}
use Rattle.std.proofs.lemmas.List.{append-nil, drop_more, take_more_set, take_all, drop_all}
use Rattle.fc_agenda.specs.Goes.{Goes, stays, passes}
use Rattle.fc_base.specs.Grain.{grain_kib}
use Rattle.fc_base.specs.declared.command.Line.TheVariants.{Blank}
use Rattle.fc_base.specs.declared.ids.GrainNo.{GrainNo}
use Rattle.fc_base.specs.declared.size.GrainSize.{GrainSize}
use Rattle.fc_entry.specs.HistoryState.{HistoryState}
use Rattle.fc_entry.specs.declared.entry.Entry.{Entry}
use Rattle.fc_entry.specs.declared.stop.Stop.{Stop}
use Rattle.fc_entry.specs.declared.stop.Stop.TheVariants.{NoMemory}
use Rattle.fc_legal.specs.Added.{IsOf, IsTold}
use Rattle.fc_legal.specs.Agenda.{Session, Reading, Seconds, next_asked, next_of_second, session_rules, without_entry, without_fill}
use Rattle.fc_legal.specs.Seconds.{Passing, Work, all_work, seconds_begun, gained, spent, saved, next_grain, next_fill, fill_at_hand, goes_on, next_second, after_fill, has_moved, fill_of}
use Rattle.fc_legal.specs.Whole.{Whole}
use Rattle.fc_stands.specs.Logged.{Brought, whether_moved}
use Rattle.fc_stands.specs.Passing.{Filled, Passed, after_turn, at, between}
use Rattle.fc_stands.proofs.Bringing.{brought_nothing, brought_starved, brought_stopped, logged_brings, passed_on as brought_on, then_brought}

-- A reading, where any will do.
pub any_reading : Reading
any_reading b bytes = Ok Blank

-- ---- one after another

-- What was passed, and then more; the store that answers may be another.
pub then_passed :
    (A B : Type 0) (result : Result A Stop) (done : B) (Before Stands : Whole → Type 0) (grain : GrainSize) (w : Whole) (a b c : Passing) (x y z : HistoryState) →
    Passed {A = B} (Ok done) Before grain w a b x y →
    ((mid : Whole) → IsTold Before y mid → Passed result Stands grain mid b c y z) →
    Passed result Stands grain w a c x z
then_passed A B result done Before Stands grain w a b c x y z first second = λ read.
    then_brought A B result done Before Stands (session_rules grain read) w (Seconds a []) (Seconds b []) (Seconds c []) x y z (first read) (λ mid told. second mid told read)

-- Nothing was done.
pub passed_nothing :
    (Stands : Whole → Type 0) (grain : GrainSize) (w : Whole) (a : Passing) (h : HistoryState) →
    IsTold Stands h w →
    Passed {A = Unit {0}} (Ok tt) Stands grain w a a h h
passed_nothing Stands grain w a h told = λ read. brought_nothing Stands (session_rules grain read) (Seconds a []) w h told

-- Memory was wanted.
pub passed_starved :
    (A : Type 0) (Stands : Whole → Type 0) (grain : GrainSize) (w : Whole) (a b : Passing) (x y : HistoryState) → y ≡ x → IsOf w x →
    Passed {A = A} (Err NoMemory) Stands grain w a b x y
passed_starved A Stands grain w a b x y is of = λ read. brought_starved A Stands (session_rules grain read) (Seconds a []) (Seconds b []) w x y is of

-- What stops has passed, whatever was wanted, and whatever a call would have returned.
pub passed_stopped :
    (A B : Type 0) (stop : Stop) (Stands : Whole → Type 0) (grain : GrainSize) (w : Whole) (a b c : Passing) (x y : HistoryState) →
    Passed {A = A} (Err stop) Stands grain w a b x y →
    Passed {A = B} (Err stop) Stands grain w a c x y
passed_stopped A B stop Stands grain w a b c x y passed = λ read. brought_stopped A B stop Stands (session_rules grain read) w (Seconds a []) (Seconds b []) (Seconds c []) x y (passed read)

-- With no fill next they go on without an entry.
goes_idle : (grain : GrainSize) (read : Reading) (w : Whole) (p q : Passing) → next_fill grain w p ≡ None → goes_on grain w p ≡ Some q → without_entry grain read (Seconds p []) w ≡ Some (Seconds q [])
goes_idle grain read w p q idle goes =
    ap (λ o. without_fill grain w p o []) idle ∙ ap (λ o. Some (next_of_second o [])) goes

pub passed_on :
    (A : Type 0) (done : A) (Stands : Whole → Type 0) (grain : GrainSize) (w : Whole) (a b c : Passing) (x y : HistoryState) →
    Passed {A = A} (Ok done) Stands grain w a b x y →
    ((last : Whole) → Stands last → next_fill grain last b ≡ None) →
    ((last : Whole) → Stands last → goes_on grain last b ≡ Some c) →
    Passed {A = A} (Ok done) Stands grain w a c x y
passed_on A done Stands grain w a b c x y first idle goes = λ read.
    brought_on A done Stands (session_rules grain read) w (Seconds a []) (Seconds b []) (Seconds c []) x y (first read)
    (λ last stands. goes_idle grain read last b c (idle last stands) (goes last stands))

-- ---- a turn

nothing_to_do : (grain : GrainSize) (w : Whole) (work : Work) → next_grain grain w work ≡ None → fill_at_hand grain w (Some work) ≡ None
nothing_to_do grain w work none =
    ap (λ o. cond (nat_le (grain_kib grain) work.credit) (option_map (λ (g : GrainNo). (work, g)) o) None) none
    ∙ by (nat_le (grain_kib grain) work.credit)
  where
    none_chosen : Option (Work × GrainNo)
    none_chosen = None

    by : (b : Bool) → cond b none_chosen none_chosen ≡ None
    by true = refl
    by false = refl

too_little : (grain : GrainSize) (w : Whole) (work : Work) → work.credit < grain_kib grain → fill_at_hand grain w (Some work) ≡ None
too_little grain w work less = ap (λ b. cond b (option_map (λ (g : GrainNo). (work, g)) (next_grain grain w work)) None) (lt-leb (grain_kib grain) work.credit less)

enough : (grain : GrainSize) (w : Whole) (work : Work) (g : GrainNo) → grain_kib grain ≤ work.credit → next_grain grain w work ≡ Some g → fill_at_hand grain w (Some work) ≡ Some (work, g)
enough grain w work g le next =
    ap₂ (λ b o. cond b (option_map (λ (x : GrainNo). (work, x)) o) None) (le-leb (grain_kib grain) work.credit le) next

-- The work is over for this second: it saves its credit, or loses it.
turn_over :
    (Stands : Whole → Type 0) (grain : GrainSize) (w : Whole) (seconds : ℕ) (over : List Work) (old new : Work) (left : List Work) (h : HistoryState) →
    IsTold Stands h w →
    fill_at_hand grain w (Some old) ≡ None →
    new ≡ saved grain w old →
    Passed {A = Bool} (Ok false) Stands grain w (at seconds over old left) (between seconds (over ++ new ∷ []) left) h h
turn_over Stands grain w seconds over old new left h told idle is = λ read.
    let on : without_entry grain read (Seconds (at seconds over old left) []) w ≡ Some (Seconds (between seconds (over ++ new ∷ []) left) []) =
    goes_idle grain read w (at seconds over old left) (between seconds (over ++ new ∷ []) left) idle (ap (λ (x : Work). Some (between seconds (over ++ x ∷ []) left)) (sym is)) in
    (w, told, record { more = []; entries = sym (append-nil h.entries); are = passes on stays })

-- without anything to do
pub turn_idle :
    (Stands : Whole → Type 0) (grain : GrainSize) (w : Whole) (seconds : ℕ) (over : List Work) (old new : Work) (left : List Work) (h : HistoryState) →
    IsTold Stands h w →
    next_grain grain w old ≡ None →
    new ≡ record old { credit = 0 } →
    Passed {A = Bool} (Ok false) Stands grain w (at seconds over old left) (between seconds (over ++ new ∷ []) left) h h
turn_idle Stands grain w seconds over old new left h told none is =
    turn_over Stands grain w seconds over old new left h told (nothing_to_do grain w old none)
    (is ∙ ap (λ o. record old { credit = cond (is_some o) old.credit 0 }) (sym none))

-- with too little credit
pub turn_poor :
    (Stands : Whole → Type 0) (grain : GrainSize) (w : Whole) (seconds : ℕ) (over : List Work) (old new : Work) (left : List Work) (g : GrainNo) (h : HistoryState) →
    IsTold Stands h w →
    next_grain grain w old ≡ Some g →
    old.credit < grain_kib grain →
    new ≡ old →
    Passed {A = Bool} (Ok false) Stands grain w (at seconds over old left) (between seconds (over ++ new ∷ []) left) h h
turn_poor Stands grain w seconds over old new left g h told next less is =
    turn_over Stands grain w seconds over old new left h told (too_little grain w old less)
    (is ∙ ap (λ o. record old { credit = cond (is_some o) old.credit 0 }) (sym next))

-- ---- a turn with a fill

abbrev Same : Result Bool Stop → Result Bool Stop → Type 0
Same x y = x ≡ y

chosen : (b c : Bool) → Same (Ok c) (Ok b) → b ≡ c
chosen b c e = cc e

module _ (Stands : Whole → Type 0) (grain : GrainSize) (w : Whole) (seconds : ℕ) (over : List Work) (old paid : Work) (left : List Work) (g : GrainNo) (x y : HistoryState)
    (told : IsOf w x) (next : next_grain grain w old ≡ Some g) (le : grain_kib grain ≤ old.credit) (is : paid ≡ spent grain old) where
  asks_fill : next_asked grain (Seconds (at seconds over old left) []) w ≡ Some (0, fill_of paid g)
  asks_fill =
      ap (λ o. option_map (λ (n : Work × GrainNo). (0, fill_of n.0 n.1)) o) (enough grain w old g le next)
      ∙ ap (λ (z : Work). Some (0, fill_of z g)) (sym is)

  -- What it brings, by what it leaves.
  brings : (result : Result Bool Stop) (b : Passing) → Filled result Stands grain w paid g x y →
      ((moved : Bool) (entry : Entry) (last : Whole) → result ≡ Ok moved → moved ≡ has_moved entry.reply → Stands last → after_fill grain last (at seconds over old left) old entry ≡ b) →
      Passed result Stands grain w (at seconds over old left) b x y
  brings result b filled leaves = λ read.
      logged_brings Bool result whether_moved Stands grain read w (fill_of paid g) (Seconds (at seconds over old left) []) (Seconds b []) x y told asks_fill
      (λ moved entry last same says stands.
      let P : Passing → Type 0 = λ p. Goes (session_rules grain read) (Seconds p []) last [] (Seconds b []) last in
      subst P (sym (leaves moved entry last same says stands)) stays)
      filled

  -- The grain was moved, and the work goes on.
  pub turn_moved : (moved : Bool) → moved ≡ true → Filled (Ok moved) Stands grain w paid g x y →
      Passed {A = Bool} (Ok true) Stands grain w (at seconds over old left) (at seconds over paid left) x y
  turn_moved moved done filled =
      let here : Filled (Ok true) Stands grain w paid g x y = subst (λ b. Filled (Ok b) Stands grain w paid g x y) done filled in
      brings (Ok true) (at seconds over paid left) here
      (λ b entry last same says stands.
      ap (λ c. cond c (at seconds over (spent grain old) left) (between seconds (over ++ saved grain last (spent grain old) ∷ []) left)) (sym says ∙ chosen b true same)
      ∙ ap (λ (z : Work). at seconds over z left) (sym is))

  -- A disk failed, and the work is over for this second.
  pub turn_failed : (new : Work) (moved : Bool) → moved ≡ false → Filled (Ok moved) Stands grain w paid g x y → ((last : Whole) → Stands last → new ≡ saved grain last paid) →
      Passed {A = Bool} (Ok false) Stands grain w (at seconds over old left) (between seconds (over ++ new ∷ []) left) x y
  turn_failed new moved done filled saves =
      let here : Filled (Ok false) Stands grain w paid g x y = subst (λ b. Filled (Ok b) Stands grain w paid g x y) done filled in
      brings (Ok false) (between seconds (over ++ new ∷ []) left) here
      (λ b entry last same says stands.
      ap (λ c. cond c (at seconds over (spent grain old) left) (between seconds (over ++ saved grain last (spent grain old) ∷ []) left)) (sym says ∙ chosen b false same)
      ∙ ap (λ (z : Work). between seconds (over ++ z ∷ []) left) (ap (λ (z : Work). saved grain last z) (sym is) ∙ sym (saves last stands)))

  -- No entry fits, or memory was wanted.
  pub turn_stopped : (stop : Stop) (b : Passing) → Filled (Err stop) Stands grain w paid g x y → Passed {A = Bool} (Err stop) Stands grain w (at seconds over old left) b x y
  turn_stopped stop b filled = brings (Err stop) b filled (λ moved entry last same says stands. absurd (cc same))

-- The next grain doesn't depend on the credit.
pub same_next : (grain size : GrainSize) (w : Whole) (work : Work) → next_grain grain w (spent size work) ≡ next_grain grain w work
unfolding next_grain
same_next grain size w work = refl

-- ---- turns, one after another

module _ (Before Stands : Whole → Type 0) (grain size : GrainSize) (w : Whole) (a : Passing) (seconds : ℕ) (over : List Work) (old new : Work) (left : List Work) (x y z : HistoryState)
    (same : size ≡ grain) (first : Passed {A = Unit {0}} (Ok tt) Before grain w a (at seconds over old left) x y) where
  -- The work goes on, or is over for this second.
  pub turn_then : (goes wanted : Bool) → goes ≡ wanted →
      ((mid : Whole) (seconds : ℕ) (over left : List Work) → IsTold Before y mid →
      Passed {A = Bool} (Ok goes) Stands size mid (at seconds over old left) (after_turn (Ok goes) seconds over new left) y z) →
      Passed {A = Unit {0}} (Ok tt) Stands grain w a (after_turn (Ok wanted) seconds over new left) x z
  turn_then goes wanted is second =
      let P : Bool → Type 0 = λ b. Passed {A = Unit {0}} (Ok tt) Stands grain w a (after_turn (Ok b) seconds over new left) x z in
      subst P is
      (then_passed (Unit {0}) (Unit {0}) (Ok tt) tt Before Stands grain w a (at seconds over old left) (after_turn (Ok goes) seconds over new left) x y z first
      (λ mid told. subst (λ n. Passed {A = Unit {0}} (Ok tt) Stands n mid (at seconds over old left) (after_turn (Ok goes) seconds over new left) y z) same (second mid seconds over left told)))

  -- It is stopped.
  pub turn_ended : (stop : Stop) (b : Passing) →
      ((mid : Whole) (seconds : ℕ) (over left : List Work) → IsTold Before y mid →
      Passed {A = Bool} (Err stop) Stands size mid (at seconds over old left) (after_turn (Err stop) seconds over new left) y z) →
      Passed {A = Unit {0}} (Err stop) Stands grain w a b x z
  turn_ended stop b second =
      then_passed (Unit {0}) (Unit {0}) (Err stop) tt Before Stands grain w a (at seconds over old left) b x y z first
      (λ mid told. subst (λ n. Passed {A = Unit {0}} (Err stop) Stands n mid (at seconds over old left) b y z) same
      (passed_stopped Bool (Unit {0}) stop Stands size mid (at seconds over old left) (after_turn (Err stop) seconds over new left) b y z (second mid seconds over left told)))

-- ---- all work, one after another

drop_behind : (works : List Work) (i : ℕ) (new : Work) → drop (suc i) (set works i new) ≡ drop (suc i) works
drop_behind [] i new = refl
drop_behind (x ∷ works) zero new = refl
drop_behind (x ∷ works) (suc i) new = drop_behind works i new

drop_past : (works : List Work) (i : ℕ) (new : Work) → drop (i + 1) (set works i new) ≡ drop (i + 1) works
drop_past works i new =
    let is : i + 1 ≡ suc i = omega arith in
    ap (λ n. drop n (set works i new)) is ∙ (drop_behind works i new ∙ ap (λ n. drop n works) (sym is))

-- A second begins.
pub second_begins :
    (Stands : Whole → Type 0) (grain : GrainSize) (w : Whole) (seconds : ℕ) (works : List Work) (h : HistoryState) →
    IsTold Stands h w →
    Passed {A = Unit {0}} (Ok tt) Stands grain w (between (suc seconds) works []) (between seconds (take 0 works) (drop 0 works)) h h
second_begins Stands grain w seconds works h told =
    passed_on (Unit {0}) tt Stands grain w (between (suc seconds) works []) (between (suc seconds) works []) (between seconds (take 0 works) (drop 0 works)) h h
    (passed_nothing Stands grain w (between (suc seconds) works []) h told) (λ last told. refl) (λ last told. refl)

-- And the work at a place gains it, and uses it.
module _ (Before Stands : Whole → Type 0) (grain size : GrainSize) (w : Whole) (a : Passing) (seconds place : ℕ) (works : List Work) (old new : Work) (x y z : HistoryState)
    (same : size ≡ grain) (first : Passed {A = Unit {0}} (Ok tt) Before grain w a (between seconds (take place works) (drop place works)) x y)
    (there : place < length works) (is : old ≡ get_or works place old) where
  its_second : Passed {A = Unit {0}} (Ok tt) Before grain w a (at seconds (take place works) (gained old) (drop (place + 1) works)) x y
  its_second =
      let left : drop place works ≡ old ∷ drop (place + 1) works = drop_more works place old there ∙ ap (λ (v : Work). v ∷ drop (place + 1) works) (sym is) in
      passed_on (Unit {0}) tt Before grain w a (between seconds (take place works) (drop place works)) (at seconds (take place works) (gained old) (drop (place + 1) works)) x y first
      (λ last told. refl) (λ last told. ap (next_second seconds (take place works)) left)

  pub one_passed : (A : Type 0) (result : Result A Stop) →
      ((mid : Whole) (seconds : ℕ) (over left : List Work) → IsTold Before y mid →
      Passed result Stands size mid (at seconds over (gained old) left) (between seconds (over ++ new ∷ []) left) y z) →
      Passed result Stands grain w a (between seconds (take (place + 1) (set works place new)) (drop (place + 1) (set works place new))) x z
  one_passed A result second =
      let P : Passing → Type 0 = λ b. Passed result Stands grain w a b x z in
      subst P
      (ap₂ (between seconds) (sym (take_more_set works place new there)) (sym (drop_past works place new)))
      (then_passed A (Unit {0}) result tt Before Stands grain w a (at seconds (take place works) (gained old) (drop (place + 1) works))
      (between seconds (take place works ++ new ∷ []) (drop (place + 1) works)) x y z its_second
      (λ mid told. subst (λ n. Passed result Stands n mid (at seconds (take place works) (gained old) (drop (place + 1) works)) (between seconds (take place works ++ new ∷ []) (drop (place + 1) works)) y z) same
      (second mid seconds (take place works) (drop (place + 1) works) told)))

-- All have.
pub all_passed :
    (Stands : Whole → Type 0) (grain : GrainSize) (w : Whole) (a : Passing) (seconds place : ℕ) (works : List Work) (x y : HistoryState) →
    length works ≤ place →
    Passed {A = Unit {0}} (Ok tt) Stands grain w a (between seconds (take place works) (drop place works)) x y →
    Passed {A = Unit {0}} (Ok tt) Stands grain w a (between seconds works []) x y
all_passed Stands grain w a seconds place works x y past passed =
    let P : Passing → Type 0 = λ b. Passed {A = Unit {0}} (Ok tt) Stands grain w a b x y in
    subst P (ap₂ (between seconds) (take_all place works past) (drop_all place works past)) passed

-- ---- all seconds

-- One second less is left.
pub second_passed :
    (A : Type 0) (result : Result A Stop) (Before Stands : Whole → Type 0) (grain size : GrainSize) (w : Whole) (a : Passing) (left : ℕ) (old new : List Work) (x y z : HistoryState) →
    size ≡ grain →
    0 < left →
    Passed {A = Unit {0}} (Ok tt) Before grain w a (between left old []) x y →
    ((mid : Whole) (seconds : ℕ) → IsTold Before y mid → Passed result Stands size mid (between (suc seconds) old []) (between seconds new []) y z) →
    Passed result Stands grain w a (between (left - 1) new []) x z
second_passed A result Before Stands grain size w a left old new x y z same lt first second =
    let is : left ≡ suc (left - 1) = omega (arith, lt) in
    let P : ℕ → Type 0 = λ n. Passed {A = Unit {0}} (Ok tt) Before grain w a (between n old []) x y in
    then_passed A (Unit {0}) result tt Before Stands grain w a (between (suc (left - 1)) old []) (between (left - 1) new []) x y z (subst P is first)
    (λ mid told. subst (λ n. Passed result Stands n mid (between (suc (left - 1)) old []) (between (left - 1) new []) y z) same (second mid (left - 1) told))

-- The work of a list that is written back, as long as it was.
pub kept : (n : ℕ) (new old : List Work) → length new ≡ length old → n ≡ length old → take n (new ++ drop (length new) old) ≡ new
kept n new old same is =
    let none : drop (length new) old ≡ [] = drop_all (length new) old (omega (arith, same)) in
    ap (λ (rest : List Work). take n (new ++ rest)) none
    ∙ (ap (take n) (append-nil new)
    ∙ take_all n new (omega (arith, same, is)))

-- All seconds have passed, and no line is left.
over : (grain : GrainSize) (read : Reading) (works : List Work) (w : Whole) → without_entry grain read (Seconds (between 0 works []) []) w ≡ Some (Session [])
over grain read works w = refl

pub advanced :
    (A : Type 0) (result : Result A Stop) (Stands : Whole → Type 0) (grain : GrainSize) (w : Whole) (seconds : ℕ) (begins ends : List Work) (x y : HistoryState) →
    begins ≡ all_work w.books →
    Passed result Stands grain w (between seconds begins []) (between 0 ends []) x y →
    (read : Reading) → Brought result Stands (session_rules grain read) (Seconds (seconds_begun seconds (all_work w.books)) []) (Session []) w x y
advanced A (Ok done) Stands grain w seconds begins ends x y is passed read =
    let P : List Work → Type 0 = λ works. Brought {A = A} (Ok done) Stands (session_rules grain read) (Seconds (seconds_begun seconds works) []) (Session []) w x y in
    subst P is
    (brought_on A done Stands (session_rules grain read) w (Seconds (between seconds begins []) []) (Seconds (between 0 ends []) []) (Session []) x y (passed read)
    (λ last stands. over grain read ends last))
advanced A (Err stop) Stands grain w seconds begins ends x y is passed read =
    let P : List Work → Type 0 = λ works. Brought {A = A} (Err stop) Stands (session_rules grain read) (Seconds (seconds_begun seconds works) []) (Session []) w x y in
    subst P is
    (brought_stopped A A stop Stands (session_rules grain read) w (Seconds (between seconds begins []) []) (Seconds (between 0 ends []) []) (Session []) x y (passed read))
