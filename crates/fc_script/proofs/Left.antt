-- What is left behind an entry, script by script.
use Rattle.std.proofs.Common.{◌≡◌, ℕ, zero, suc, ◌+◌, ◌-◌, ◌<◌, ◌≤◌, Bool, true, false, cond, List, [], map, Contains, Option, Some, None, Result, Ok, Err, OnOk, ◌⊎◌, inl, inr, refl, sym, ap, subst, arith}
use Rattle.std.specs.Option.{option_map}
use Rattle.fc_agenda.specs.Goes.{stays, passes}
use Rattle.fc_base.specs.Tables.{Tables}
use Rattle.fc_base.specs.declared.behind.Behind.TheVariants.{Passing as PassingSeconds}
use Rattle.fc_base.specs.declared.command.Command.{Command}
use Rattle.fc_base.specs.declared.fault.WordFault.{WordFault}
use Rattle.fc_base.specs.declared.ids.GrainNo.{GrainNo}
use Rattle.fc_base.specs.declared.ids.VolId.{VolId}
use Rattle.fc_base.specs.declared.outcome.NoMemory.{NoMemory}
use Rattle.fc_base.specs.declared.request.Request.{Request}
use Rattle.fc_base.specs.declared.size.GrainSize.{GrainSize}
use Rattle.fc_base.specs.declared.volume.Volume.{Volume}
use Rattle.fc_entry.specs.declared.entry.Entry.{Entry}
use Rattle.fc_lanes.specs.Asking.{part_of}
use Rattle.fc_lanes.specs.declared.access.Access.{Access}
use Rattle.fc_lanes.specs.declared.access.Access.TheVariants.{Read, Write}
use Rattle.fc_legal.specs.Agenda.{Agenda, Asks, Own, Seconds, Session, behind_entry, behind_fill, behind_last, is_done}
use Rattle.fc_legal.specs.Asked.{numbers}
use Rattle.fc_legal.specs.Seconds.{Passing, Work, all_work, fill_of, has_moved, next_fill, seconds_begun}
use Rattle.fc_legal.specs.Steps.{RequestStep}
use Rattle.fc_legal.specs.Whole.{Whole}
use Rattle.fc_script.specs.Asking.{Fits, IsAnswer, IsLeft}
use Rattle.fc_script.specs.Passage.{GoesOn, fill_grain, passing_of}
use Rattle.fc_script.specs.Script.{agenda_of, seconds_of}
use Rattle.fc_script.specs.declared.passage.Passage.{Passage}
use Rattle.fc_script.specs.declared.script.Script.{Script}
use Rattle.fc_script.specs.declared.script.Script.TheVariants.{Over, Unread, Command as Alone, Parts, Seconds as Passes}
use Rattle.fc_stands.specs.Store.{StandsFor, StoreView}

-- Where nothing is asked there is no answer.
abbrev pub nothing : Option (ℕ × Request)
nothing = None

pub no_asked : (asked : ℕ × Request) → nothing ≡ Some asked → ⊥
no_asked asked e = absurd (cc e)

-- Behind the last request of a line that lets no second pass.
none_behind : (grain : GrainSize) (next : Whole) (done : Bool) → GoesOn grain next (cond done (Seconds (seconds_begun 0 (all_work next.books)) []) (Session [])) (Session [])
none_behind grain next true = λ read. passes refl stays
none_behind grain next false = λ read. stays

-- Behind a command that isn't done, or lets no second pass; and behind one that is, and does.
abbrev behind : GrainSize → Whole → Bool → ℕ → Script → Type 0
behind grain w done seconds new = GoesOn grain w (cond done (Seconds (seconds_begun seconds (all_work w.books)) []) (Session [])) (agenda_of grain new)

pub undone_behind : (grain : GrainSize) (w : Whole) (done : Bool) (seconds : ℕ) → done ≡ false → behind grain w done seconds Over
undone_behind grain w done seconds is = subst (λ (b : Bool). behind grain w b seconds Over) (sym is) (λ read. stays)

pub timeless_behind : (grain : GrainSize) (w : Whole) (done : Bool) (seconds : ℕ) → seconds ≡ 0 → behind grain w done seconds Over
timeless_behind grain w done seconds is = subst (λ (n : ℕ). behind grain w done n Over) (sym is) (none_behind grain w done)

pub seconds_behind : (grain : GrainSize) (w : Whole) (done : Bool) (seconds : ℕ) (passage : Passage) (works : List Work) → done ≡ true → passing_of grain passage ≡ seconds_begun seconds works →
    works ≡ all_work w.books → behind grain w done seconds (Passes passage)
seconds_behind grain w done seconds passage works is begun listed =
    subst (λ (b : Bool). behind grain w b seconds (Passes passage)) (sym is)
    (subst (λ (p : Passing). GoesOn grain w (Seconds (seconds_begun seconds (all_work w.books)) []) (Seconds p [])) (sym begun)
    (subst (λ (ws : List Work). GoesOn grain w (Seconds (seconds_begun seconds (all_work w.books)) []) (Seconds (seconds_begun seconds ws) [])) (sym listed) (λ read. stays)))

pub over_left : (grain : GrainSize) (w : Whole) (entry : Entry) (next : Whole) → IsAnswer grain Over w entry next → IsLeft grain Over w entry next Over
over_left grain w entry next answer = absurd (no_asked (entry.actor, entry.request) answer.asked)

pub unread_left : (grain : GrainSize) (fault : WordFault) (w : Whole) (entry : Entry) (next : Whole) → IsLeft grain (Unread fault) w entry next Over
unread_left grain fault w entry next = record { goes = none_behind grain next (is_done entry.reply); fits = λ fits. tt }

pub alone_left : (grain : GrainSize) (command : Command) (w : Whole) (entry : Entry) (next : Whole) (new : Script) (seconds : ℕ) →
    seconds ≡ seconds_of command → GoesOn grain next (behind_last next entry.reply (PassingSeconds seconds) []) (agenda_of grain new) → Fits grain next.books.tables new →
    IsLeft grain (Alone command) w entry next new
alone_left grain command w entry next new seconds is goes fits = record {
  goes = subst (λ (n : ℕ). GoesOn grain next (behind_last next entry.reply (PassingSeconds n) []) (agenda_of grain new)) is goes;
  fits = λ old. fits;
}

pub one_left : (grain : GrainSize) (script : Script) (w : Whole) (entry : Entry) (next : Whole) → (script ≡ Over) ⊎ ((fault : WordFault) × (script ≡ Unread fault)) → IsAnswer grain script w entry next →
    IsLeft grain script w entry next Over
one_left grain script w entry next (inl is) answer =
    subst (λ (x : Script). IsLeft grain x w entry next Over) (sym is) (over_left grain w entry next (subst (λ (x : Script). IsAnswer grain x w entry next) is answer))
one_left grain script w entry next (inr is) answer = subst (λ (x : Script). IsLeft grain x w entry next Over) (sym is.1) (unread_left grain is.0 w entry next)

-- ---- an access in one grain leaves the tables

by_part : (grain : GrainSize) (access : Access) (volume : VolId) (block count g : ℕ) (w : Whole) (entry : Entry) (next : Whole) → RequestStep grain w (part_of grain access volume block count g) entry next →
    next.books.tables ≡ w.books.tables
by_part grain Read volume block count g w entry next right = ap (λ (v : Whole). v.books.tables) right.1.next_is
by_part grain (Write byte) volume block count g w entry next right = ap (λ (v : Whole). v.books.tables) right.1.next_is

same_asked : (a b : ℕ × Request) → Some a ≡ Some b → a.1 ≡ b.1
same_asked a b e = cc e

-- ---- the grains that are left behind the next

abbrev left_at : GrainSize → Access → VolId → ℕ → ℕ → ℕ → ℕ → Agenda
left_at grain access volume block count next many = Own (map (part_of grain access volume block count) (numbers next many)) (PassingSeconds 0) []

module _ (grain : GrainSize) (access : Access) (volume : VolId) (block count at last : ℕ) (w : Whole) (entry : Entry) (next : Whole)
    (answer : IsAnswer grain (Parts access volume block count at last) w entry next) where
  -- One is.
  some : at ≤ last
  some = by (last + 1 - at) refl answer.asked
    where
      by : (many : ℕ) → many ≡ last + 1 - at → Asks grain (left_at grain access volume block count at many) w (entry.actor, entry.request) → at ≤ last
      by zero is asked = absurd (no_asked (entry.actor, entry.request) asked)
      by (suc n) is asked = omega (arith, is)

  the_request : part_of grain access volume block count at ≡ entry.request
  the_request =
      let many : last + 1 - at ≡ suc (last - at) = omega (arith, some) in
      same_asked (0, part_of grain access volume block count at) (entry.actor, entry.request)
      (subst (λ (n : ℕ). Asks grain (left_at grain access volume block count at n) w (entry.actor, entry.request)) many answer.asked)

  tables_stay : next.books.tables ≡ w.books.tables
  tables_stay =
      by_part grain access volume block count at w entry next (subst (λ (r : Request). RequestStep grain w r entry next) (sym the_request) answer.right.right)

  pub parts_more : at < last → IsLeft grain (Parts access volume block count at last) w entry next (Parts access volume block count (at + 1) last)
  parts_more lt =
      let many : last + 1 - at ≡ suc (suc (last - (at + 1))) = omega (arith, lt) in
      let rest : last + 1 - (at + 1) ≡ suc (last - (at + 1)) = omega (arith, lt) in
      let Left : ℕ → ℕ → Type 0 = λ n m. GoesOn grain next (behind_entry grain (left_at grain access volume block count at n) next entry) (left_at grain access volume block count (at + 1) m) in
      record {
        goes = subst (λ (n : ℕ). Left n (last + 1 - (at + 1))) (sym many) (subst (λ (m : ℕ). Left (suc (suc (last - (at + 1)))) m) (sym rest) (λ read. stays));
        fits = λ left. record {
          of = left.of;
          there = subst (λ (t : Tables). there_in t left.of) (sym tables_stay) left.there;
          id_is = left.id_is;
          some = left.some;
          inside = left.inside;
          from = omega (arith, left.from);
          upto = omega (arith, lt);
          last_is = left.last_is;
        };
      }
    where
      there_in : Tables → Volume → Type 0
      there_in t v = Contains t.volumes v

  pub parts_last : last ≤ at → IsLeft grain (Parts access volume block count at last) w entry next Over
  parts_last le =
      let many : last + 1 - at ≡ suc zero = omega (arith, some, le) in
      let Left : ℕ → Type 0 = λ n. GoesOn grain next (behind_entry grain (left_at grain access volume block count at n) next entry) (Session []) in
      record {
        goes = subst Left (sym many) (none_behind grain next (is_done entry.reply));
        fits = λ left. tt;
      }

-- ---- seconds that pass

filled : (fill : Option (Work × GrainNo)) (asked : ℕ × Request) → option_map (λ (n : Work × GrainNo). (0, fill_of n.0 n.1)) fill ≡ Some asked →
    (g : GrainNo) × (fill_grain fill ≡ Some g)
filled None asked e = absurd (cc e)
filled (Some n) asked e = (n.1, refl)

pub seconds_left : (grain : GrainSize) (old new : Passage) (w : Whole) (entry : Entry) (next : Whole) → IsAnswer grain (Passes old) w entry next →
    ((g : GrainNo) → fill_grain (next_fill grain w (passing_of grain old)) ≡ Some g →
    passing_of grain new ≡ behind_fill grain next (passing_of grain old) (passing_of grain old).at_hand entry) →
    IsLeft grain (Passes old) w entry next (Passes new)
seconds_left grain old new w entry next answer behind =
    let fill = filled (next_fill grain w (passing_of grain old)) (entry.actor, entry.request) answer.asked in
    record {
      goes = subst (λ (p : Passing). GoesOn grain next (behind_entry grain (agenda_of grain (Passes old)) next entry) (Seconds p [])) (sym (behind fill.0 fill.1)) (λ read. stays);
      fits = λ fits. tt;
    }

pub followed : (result : Result (Unit {0}) NoMemory) (s : StoreView) (old new : Passage) (entry : Entry) (moved : Bool) → moved ≡ has_moved entry.reply →
    OnOk result ((w : Whole) (g : GrainNo) (next : Whole) (e : Entry) → fill_grain (next_fill s.control.grain w (passing_of s.control.grain old)) ≡ Some g → StandsFor s next → moved ≡ has_moved e.reply →
    passing_of s.control.grain new ≡ behind_fill s.control.grain next (passing_of s.control.grain old) (passing_of s.control.grain old).at_hand e) →
    OnOk result ((w : Whole) (next : Whole) → IsAnswer s.control.grain (Passes old) w entry next → StandsFor s next → IsLeft s.control.grain (Passes old) w entry next (Passes new))
followed (Err e) s old new entry moved is behind = tt
followed (Ok done) s old new entry moved is behind = λ w next answer stands.
    seconds_left s.control.grain old new w entry next answer (λ g fill. behind w g next entry fill stands is)
