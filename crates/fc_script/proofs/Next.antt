-- What is asked next, script by script.
use Rattle.std.proofs.Common.{◌≡◌, ℕ, suc, ◌+◌, ◌-◌, ◌*◌, ◌<◌, ◌≤◌, Bool, true, false, List, [], ◌∷◌, map, Option, Some, None, refl, sym, ◌∙◌, ap, subst, arith}
use Rattle.std.specs.Option.{option_map}
use Rattle.fc_agenda.specs.Goes.{stays}
use Rattle.fc_base.specs.Grain.{grain_blocks}
use Rattle.fc_base.specs.Tables.{Tables}
use Rattle.fc_base.specs.declared.behind.Behind.TheVariants.{Passing as PassingSeconds}
use Rattle.fc_base.specs.declared.command.Command.{Command}
use Rattle.fc_base.specs.declared.fault.Refusal.TheVariants.{Words}
use Rattle.fc_base.specs.declared.fault.WordFault.{WordFault}
use Rattle.fc_base.specs.declared.ids.GrainNo.{GrainNo}
use Rattle.fc_base.specs.declared.ids.VolId.{VolId}
use Rattle.fc_base.specs.declared.request.Request.{Request}
use Rattle.fc_base.specs.declared.request.Request.TheVariants.{Command as CommandAsked, Unread as UnreadAsked}
use Rattle.fc_base.specs.declared.size.GrainSize.{GrainSize}
use Rattle.fc_base.specs.declared.size.GrainSize.TheVariants.{K64, K256}
use Rattle.fc_entry.specs.Picture.{grain_of_block}
use Rattle.fc_lanes.specs.Asking.{part_of}
use Rattle.fc_lanes.specs.declared.access.Access.{Access}
use Rattle.fc_legal.specs.Agenda.{Own, next_asked}
use Rattle.fc_legal.specs.Asked.{numbers}
use Rattle.fc_legal.specs.Seconds.{Work, fill_at_hand, fill_of, next_grain}
use Rattle.fc_legal.specs.Whole.{Whole}
use Rattle.fc_script.specs.Asking.{AreLeft, AsksItself, CanBeAsked, HasNextFill, IsNext, IsNextOf, TouchesGrain, fill_asked, request_of}
use Rattle.fc_script.specs.Passage.{PassTo, PassesUpTo, before_pay, fill_grain, passing_of}
use Rattle.fc_script.specs.Script.{agenda_of}
use Rattle.fc_script.specs.declared.asking.Asked.{Asked}
use Rattle.fc_script.specs.declared.asking.Asked.TheVariants.{Refused, Part}
use Rattle.fc_script.specs.declared.passage.Passage.{Passage}
use Rattle.fc_script.specs.declared.script.Script.{Script}
use Rattle.fc_script.specs.declared.script.Script.TheVariants.{Over, Unread, Command as Alone, Parts, Seconds as Passes}
use Rattle.fc_stands.specs.Store.{StandsFor, StoreView}
use Rattle.fc_script.proofs.Fills.{fill_is, pass_over}

pub the_same : (a b : Asked) → Some a ≡ Some b → a ≡ b
the_same a b e = cc e

abbrev pub none_asked : Option Asked
none_asked = None

pub no_other : (a : Asked) → none_asked ≡ Some a → ⊥
no_other a e = absurd (cc e)

-- As the call sees the script before and after.
pub next_as : (s : StoreView) (old new first then : Script) (asked : Option Asked) → old ≡ first → new ≡ then → IsNextOf s first then asked → IsNextOf s old new asked
next_as s old new first then asked is_first is_then next =
    subst (λ (x : Script). IsNextOf s x new asked) (sym is_first) (subst (λ (x : Script). IsNextOf s first x asked) (sym is_then) next)

pub over_next : (s : StoreView) → IsNextOf s Over Over None
over_next s = record {
  goes = λ w stands read. stays;
  next = λ w stands. refl;
  can = λ a e. absurd (no_other a e);
  fill = λ a w e stands. absurd (no_other a e);
  fits = tt;
}

pub unread_next : (s : StoreView) (fault : WordFault) → IsNextOf s (Unread fault) (Unread fault) (Some (Refused (UnreadAsked fault) (Words fault)))
unread_next s fault = record {
  goes = λ w stands read. stays;
  next = λ w stands. refl;
  can = λ a e. subst (λ (x : Asked). CanBeAsked s x) (the_same (Refused (UnreadAsked fault) (Words fault)) a e) (λ w stands. refl);
  fill = λ a w e stands. subst (λ (x : Asked). HasNextFill s.control.grain w None x) (the_same (Refused (UnreadAsked fault) (Words fault)) a e) tt;
  fits = tt;
}

pub alone_next : (s : StoreView) (command : Command) (asked : Asked) → AsksItself s.control.grain s.control.tables command →
    request_of s.control.grain asked ≡ CommandAsked command → CanBeAsked s asked → ((w : Whole) → HasNextFill s.control.grain w None asked) →
    IsNextOf s (Alone command) (Alone command) (Some asked)
alone_next s command asked itself request can no_fill = record {
  goes = λ w stands read. stays;
  next = λ w stands. ap (λ (r : Request). Some (0, r)) (sym request);
  can = λ a e. subst (λ (x : Asked). CanBeAsked s x) (the_same asked a e) can;
  fill = λ a w e stands. subst (λ (x : Asked). HasNextFill s.control.grain w None x) (the_same asked a e) (no_fill w);
  fits = itself;
}

-- ---- the next grain of an access

record Touched (grain : GrainSize) (block count grains next : ℕ) : Type 0 where
  pub inside : next < grains
  pub begins : block < (next + 1) * grain_blocks grain
  pub ends : next * grain_blocks grain < block + count

touched_by : (grain : GrainSize) (block count grains next last : ℕ) → 0 < count → block + count ≤ grains * grain_blocks grain → grain_of_block grain block ≤ next → next ≤ last →
    last ≡ grain_of_block grain (block + count - 1) → Touched grain block count grains next
touched_by K64 block count grains next last some there from upto is = record { inside = omega arith; begins = omega arith; ends = omega arith }
touched_by K256 block count grains next last some there from upto is = record { inside = omega arith; begins = omega arith; ends = omega arith }

touches : (grain : GrainSize) (t : Tables) (volume : VolId) (block count next last : ℕ) → AreLeft grain t volume block count next last → TouchesGrain grain t volume block count next
touches grain t volume block count next last left =
    let there = touched_by grain block count left.of.grains next last left.some left.inside left.from left.upto left.last_is in
    record { of = left.of; there = left.there; id_is = left.id_is; inside = there.inside; some = left.some; begins = there.begins; ends = there.ends }

-- The first of those that are left.
pub first_left : (request : ℕ → Request) (next last : ℕ) → next ≤ last → map request (numbers next (last + 1 - next)) ≡ request next ∷ map request (numbers (next + 1) (last - next))
first_left request next last le =
    let is : last + 1 - next ≡ suc (last - next) = omega (arith, le) in
    ap (λ (n : ℕ). map request (numbers next n)) is

pub parts_next : (s : StoreView) (access : Access) (volume : VolId) (block count next last : ℕ) → AreLeft s.control.grain s.control.tables volume block count next last →
    IsNextOf s (Parts access volume block count next last) (Parts access volume block count next last) (Some (Part access volume block count next))
parts_next s access volume block count next last left =
    let grain : GrainSize = s.control.grain in
    record {
      goes = λ w stands read. stays;
      next = λ w stands.
          ap (λ (rs : List Request). next_asked grain (Own rs (PassingSeconds 0) []) w) (first_left (part_of grain access volume block count) next last left.upto);
      can = λ a e. subst (λ (x : Asked). CanBeAsked s x) (the_same (Part access volume block count next) a e) (touches grain s.control.tables volume block count next last left);
      fill = λ a w e stands. subst (λ (x : Asked). HasNextFill grain w None x) (the_same (Part access volume block count next) a e) tt;
      fits = left;
    }

-- ---- the next fill of seconds that pass

-- Whether it has paid or not, the request is that of the work.
same_fill : (grain : GrainSize) (paid : Bool) (work : Work) (g : GrainNo) → fill_of (before_pay grain paid work) g ≡ request_of grain (fill_asked g work)
same_fill grain true work g = refl
same_fill grain false work g = refl

pub seconds_next : (s : StoreView) (old new : Passage) (g : GrainNo) (asked : Option Asked) → ((w : Whole) × StandsFor s w) →
    ((w : Whole) → StandsFor s w → PassTo s.control.grain w (passing_of s.control.grain old) (passing_of s.control.grain new)) →
    ((w : Whole) → StandsFor s w → PassesUpTo s.control.grain w (Some g) new) →
    asked ≡ option_map (fill_asked g) new.at_hand →
    IsNextOf s (Passes old) (Passes new) asked
seconds_next s old new g asked some passed upto is =
    let grain : GrainSize = s.control.grain in
    let work : Work = (upto some.0 some.1).0 in
    let at : new.at_hand ≡ Some work = (upto some.0 some.1).1 in
    let asks : asked ≡ Some (fill_asked g work) = is ∙ ap (λ (o : Option Work). option_map (fill_asked g) o) at in
    record {
      goes = passed;
      next = λ w stands.
          let F : Option Work → Type 0 = λ o. fill_grain (fill_at_hand grain w (option_map (before_pay grain new.paid) o)) ≡ Some g in
          let filled = fill_is grain w (before_pay grain new.paid work) g (subst F at (upto w stands).3) in
          subst (λ (o : Option Asked). IsNext grain w o (agenda_of grain (Passes new))) (sym asks)
          (ap (λ (o : Option Work). option_map (λ (n : Work × GrainNo). (0, fill_of n.0 n.1)) (fill_at_hand grain w (option_map (before_pay grain new.paid) o))) at
          ∙ ap (λ o. option_map (λ (n : Work × GrainNo). (0, fill_of n.0 n.1)) o) filled
          ∙ ap (λ (r : Request). Some (0, r)) (same_fill grain new.paid work g));
      can = λ a e. subst (λ (x : Asked). CanBeAsked s x) (the_same (fill_asked g work) a (sym asks ∙ e)) tt;
      fill = λ a w e stands.
          let here : HasNextFill grain w (Some work) (fill_asked g work) = (refl, subst (λ (v : Work). next_of grain w v g) (same_work work (upto w stands).0 (sym at ∙ (upto w stands).1)) (upto w stands).2) in
          subst (λ (x : Asked). HasNextFill grain w new.at_hand x) (the_same (fill_asked g work) a (sym asks ∙ e))
          (subst (λ (o : Option Work). HasNextFill grain w o (fill_asked g work)) (sym at) here);
      fits = tt;
    }
  where
    next_of : GrainSize → Whole → Work → GrainNo → Type 0
    next_of grain w v g = next_grain grain w v ≡ Some g

    same_work : (a b : Work) → Some a ≡ Some b → b ≡ a
    same_work a b e = cc e

pub seconds_over : (s : StoreView) (old new : Passage) →
    ((w : Whole) → StandsFor s w → PassTo s.control.grain w (passing_of s.control.grain old) (passing_of s.control.grain new)) →
    ((w : Whole) → StandsFor s w → PassesUpTo s.control.grain w None new) →
    IsNextOf s (Passes old) Over None
seconds_over s old new passed upto = record {
  goes = λ w stands. pass_over s.control.grain w (passing_of s.control.grain old) (passing_of s.control.grain new) (passed w stands) (upto w stands).0 (upto w stands).1;
  next = λ w stands. refl;
  can = λ a e. absurd (no_other a e);
  fill = λ a w e stands. absurd (no_other a e);
  fits = tt;
}
