-- The next fill of a work at hand, before and after it paid for it, and seconds that pass without one.
use Rattle.std.proofs.Common.{◌≡◌, ℕ, ◌+◌, ◌≤◌, Bool, true, false, cond, nat_le, Option, Some, None, List, [], ◌++◌, ◌∷◌, Result, Ok, Err, OnOk, refl, sym, ◌∙◌, ap, ap₂, subst, arith}
use Rattle.std.specs.Prelude.{is_some}
use Rattle.std.specs.Option.{option_map}
use Rattle.std.proofs.lemmas.Bool.{le-leb}
use Rattle.fc_agenda.proofs.Going.{Goes-append, Goes-pass}
use Rattle.fc_agenda.specs.Goes.{stays}
use Rattle.fc_base.specs.Grain.{grain_kib}
use Rattle.fc_base.specs.declared.ids.GrainNo.{GrainNo}
use Rattle.fc_base.specs.declared.outcome.NoMemory.{NoMemory}
use Rattle.fc_base.specs.declared.size.GrainSize.{GrainSize}
use Rattle.fc_legal.specs.Agenda.{Agenda, Seconds, Session, next_of_second, session_rules, without_entry, without_fill}
use Rattle.fc_legal.specs.Seconds.{Passing, Work, fill_at_hand, goes_on, goes_on_with, next_fill, next_grain, next_second, saved}
use Rattle.fc_legal.specs.Whole.{Whole}
use Rattle.fc_script.specs.Passage.{GoesOn, PassTo, PassesUpTo, ReachesFill, before_pay, fill_grain, passing_of}
use Rattle.fc_script.specs.declared.passage.Passage.{Passage}
use Rattle.fc_stands.specs.Store.{StandsFor, StoreView}

-- ---- the next fill of a work at hand

module _ (grain : GrainSize) (w : Whole) where
  -- The next grain doesn't depend on the credit.
  pub same_grain : (paid : Bool) (work : Work) → next_grain grain w (before_pay grain paid work) ≡ next_grain grain w work
  unfolding next_grain
  same_grain true work = refl
  same_grain false work = refl

  abbrev fill_by : (worth : Bool) (work : Work) (g : Option GrainNo) → Option GrainNo
  fill_by worth work g = fill_grain (cond worth (option_map {U = Work × GrainNo} (λ h. (work, h)) g) None)

  none_by : (worth : Bool) (work : Work) → fill_by worth work None ≡ None
  none_by true work = refl
  none_by false work = refl

  -- Nothing to do.
  pub none_to_do : (work : Work) → next_grain grain w work ≡ None → fill_grain (fill_at_hand grain w (Some work)) ≡ None
  none_to_do work none = ap (fill_by (nat_le (grain_kib grain) work.credit) work) none ∙ none_by (nat_le (grain_kib grain) work.credit) work

  -- Credit and something to do.
  pub worth_it : (work : Work) (g : GrainNo) → grain_kib grain ≤ work.credit → next_grain grain w work ≡ Some g → fill_grain (fill_at_hand grain w (Some work)) ≡ Some g
  worth_it work g le next = ap₂ (λ b o. fill_by b work o) (le-leb (grain_kib grain) work.credit le) next

  pub none_paid_to_do : (paid : Bool) (work : Work) → next_grain grain w work ≡ None → fill_grain (fill_at_hand grain w (Some (before_pay grain paid work))) ≡ None
  none_paid_to_do paid work none = none_to_do (before_pay grain paid work) (same_grain paid work ∙ none)

  pub worth_paid : (paid : Bool) (work : Work) (g : GrainNo) → paid ≡ true → next_grain grain w work ≡ Some g →
      fill_grain (fill_at_hand grain w (Some (before_pay grain paid work))) ≡ Some g
  worth_paid paid work g is next =
      let P : Bool → Type 0 = λ b. fill_grain (fill_at_hand grain w (Some (before_pay grain b work))) ≡ Some g in
      subst P (sym is) (worth_it (before_pay grain true work) g (more work.credit (grain_kib grain)) (same_grain true work ∙ next))
    where
      more : (c k : ℕ) → k ≤ c + k
      more c k = omega arith

  -- A fill without a grain is none.
  pub no_fill : (fill : Option (Work × GrainNo)) → fill_grain fill ≡ None → fill ≡ None
  no_fill None e = refl
  no_fill (Some next) e = absurd (cc e)

  -- By its grain, the fill of the work.
  of_grain : (worth : Bool) (work : Work) (o : Option GrainNo) (g : GrainNo) → fill_by worth work o ≡ Some g →
      cond worth (option_map {U = Work × GrainNo} (λ h. (work, h)) o) None ≡ Some (work, g)
  of_grain true work (Some h) g e =
      let same : h ≡ g = cc e in
      ap (λ (x : GrainNo). Some (work, x)) same
  of_grain true work None g e = absurd (cc e)
  of_grain false work o g e = absurd (cc e)

  pub fill_is : (work : Work) (g : GrainNo) → fill_grain (fill_at_hand grain w (Some work)) ≡ Some g → fill_at_hand grain w (Some work) ≡ Some (work, g)
  fill_is work g e = of_grain (nat_le (grain_kib grain) work.credit) work (next_grain grain w work) g e

  -- ---- a work whose second is over

  -- With no fill next it doesn't matter whether it has paid.
  pub saved_idle : (paid : Bool) (work : Work) → fill_at_hand grain w (Some (before_pay grain paid work)) ≡ None → saved grain w (before_pay grain paid work) ≡ saved grain w work
  saved_idle false work none = refl
  saved_idle true work none =
      let le : nat_le (grain_kib grain) (work.credit + grain_kib grain) ≡ true = le-leb (grain_kib grain) (work.credit + grain_kib grain) (omega arith) in
      let idle : next_grain grain w (before_pay grain true work) ≡ None = none_there (before_pay grain true work) (next_grain grain w (before_pay grain true work))
      (ap (λ b. cond b (option_map {U = Work × GrainNo} (λ h. (before_pay grain true work, h)) (next_grain grain w (before_pay grain true work))) None) (sym le) ∙ none) in
      ap (λ (o : Option GrainNo). record work { credit = cond (is_some o) (work.credit + grain_kib grain) 0 }) idle
      ∙ sym (ap (λ (o : Option GrainNo). record work { credit = cond (is_some o) work.credit 0 }) (sym (same_grain true work) ∙ idle))
    where
      none_there : (v : Work) (o : Option GrainNo) → option_map {U = Work × GrainNo} (λ h. (v, h)) o ≡ None → o ≡ None
      none_there v None e = refl
      none_there v (Some h) e = absurd (cc e)

  -- ---- without an entry

  pub pass_stays : (p : Passing) → PassTo grain w p p
  pass_stays p = λ read. stays

  pub goes_then : (a b c : Agenda) → GoesOn grain w a b → GoesOn grain w b c → GoesOn grain w a c
  goes_then a b c first more = λ read. Goes-append (session_rules grain read) a b c w w w [] [] (first read) (more read)

  pub pass_turn : (p q r : Passing) → PassTo grain w p q → next_fill grain w q ≡ None → goes_on grain w q ≡ Some r → PassTo grain w p r
  pass_turn p q r first none on = λ read.
      let over : without_entry grain read (Seconds q []) w ≡ Some (Seconds r []) =
      ap (λ fill. without_fill grain w q fill []) none ∙ ap (λ o. Some (next_of_second o [])) on in
      Goes-pass (session_rules grain read) (Seconds p []) (Seconds q []) (Seconds r []) w w [] (first read) over

  -- The seconds are over.
  pub pass_over : (p q : Passing) → PassTo grain w p q → next_fill grain w q ≡ None → goes_on grain w q ≡ None → GoesOn grain w (Seconds p []) (Session [])
  pass_over p q first none on = λ read.
      let over : without_entry grain read (Seconds q []) w ≡ Some (Session []) =
      ap (λ fill. without_fill grain w q fill []) none ∙ ap (λ o. Some (next_of_second o [])) on in
      Goes-pass (session_rules grain read) (Seconds p []) (Seconds q []) (Session []) w w [] (first read) over

-- ---- turns and seconds of what is kept of them

hand_none : (grain : GrainSize) (w : Whole) (p : Passage) → p.at_hand ≡ None → next_fill grain w (passing_of grain p) ≡ None
hand_none grain w p none = ap (λ (o : Option Work). fill_at_hand grain w (option_map (before_pay grain p.paid) o)) none

-- The second of the work at hand is over, unless memory was wanted.
pub turn_over : (result : Result (Unit {0}) NoMemory) (s : StoreView) (old new : Passage) (work last : Work) →
    old.at_hand ≡ Some work → new.at_hand ≡ None → new.seconds ≡ old.seconds → new.left.items ≡ old.left.items → OnOk result (new.over.items ≡ old.over.items ++ last ∷ []) →
    ((w : Whole) → StandsFor s w → last ≡ saved s.control.grain w work) →
    ((w : Whole) → StandsFor s w → next_fill s.control.grain w (passing_of s.control.grain old) ≡ None) →
    OnOk result ((w : Whole) → StandsFor s w → goes_on s.control.grain w (passing_of s.control.grain old) ≡ Some (passing_of s.control.grain new))
turn_over (Err e) s old new work last at none seconds left over saves idle = tt
turn_over (Ok done) s old new work last at none seconds left over saves idle = λ w stands.
    let grain : GrainSize = s.control.grain in
    let Idle : Option Work → Type 0 = λ o. fill_at_hand grain w (option_map (before_pay grain old.paid) o) ≡ None in
    let is_saved : saved grain w (before_pay grain old.paid work) ≡ last = saved_idle grain w old.paid work (subst Idle at (idle w stands)) ∙ sym (saves w stands) in
    ap (λ (o : Option Work). goes_on_with grain w (passing_of grain old) (option_map (before_pay grain old.paid) o)) at
    ∙ (ap (λ (v : Work). told old.seconds (old.over.items ++ v ∷ []) None old.left.items) is_saved
    ∙ (ap (λ (ws : List Work). told old.seconds ws None old.left.items) (sym over)
    ∙ (ap₂ (λ (n : ℕ) (ws : List Work). told n new.over.items None ws) (sym seconds) (sym left)
    ∙ ap (λ (o : Option Work). told new.seconds new.over.items (option_map (before_pay grain new.paid) o) new.left.items) (sym none))))
  where
    told : ℕ → List Work → Option Work → List Work → Option Passing
    told n over hand left = Some record { seconds = n; over = over; at_hand = hand; left = left }

-- No work of the second is left.
pub second_over : (grain : GrainSize) (w : Whole) (p q r : Passage) → PassTo grain w (passing_of grain p) (passing_of grain q) → ReachesFill grain w None q →
    goes_on grain w (passing_of grain q) ≡ Some (passing_of grain r) → PassTo grain w (passing_of grain p) (passing_of grain r)
second_over grain w p q r first none on =
    pass_turn grain w (passing_of grain p) (passing_of grain q) (passing_of grain r) first (hand_none grain w q none.0) on

-- And no second.
pub over_upto : (grain : GrainSize) (w : Whole) (p : Passage) → ReachesFill grain w None p → p.seconds ≡ 0 → PassesUpTo grain w None p
over_upto grain w p none last = (
  hand_none grain w p none.0,
  ap (λ (o : Option Work). goes_on_with grain w (passing_of grain p) (option_map (before_pay grain p.paid) o)) none.0
      ∙ ap₂ (λ (n : ℕ) (left : List Work). next_second n p.over.items left) last none.1,
)
