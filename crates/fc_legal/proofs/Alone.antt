-- Where no block is among what is to be asked, `main` alone asks, and no actor comes to have a name.
use Rattle.std.proofs.Common.{◌≡◌, ℕ, Bool, true, false, cond, Option, Some, None, List, [], ◌∷◌, ◌++◌, refl, ap, subst}
use Rattle.fc_agenda.specs.Goes.{Goes, stays, passes, begins, answers}
use Rattle.fc_base.specs.declared.behind.Behind.{Behind}
use Rattle.fc_base.specs.declared.behind.Behind.TheVariants.{Passing as PassingSeconds, Mapping as MappingOf, Start, Undo}
use Rattle.fc_base.specs.declared.ids.GrainNo.{GrainNo}
use Rattle.fc_base.specs.declared.request.Reply.{Reply}
use Rattle.fc_base.specs.declared.request.Request.{Request}
use Rattle.fc_base.specs.declared.size.GrainSize.{GrainSize}
use Rattle.fc_blocks.specs.Segments.{Segment, single, together}
use Rattle.fc_entry.specs.declared.entry.Entry.{Entry}
use Rattle.fc_legal.specs.Agenda.{Agenda, Asks, Begins, Reading, Session, Own, Seconds, Faults, Actors, behind_entry, behind_last, behind_own, is_done, next_asked, next_of_second, segment_read, session_rules, without_entry, without_fill}
use Rattle.fc_legal.specs.Legal.{AreSteps}
use Rattle.fc_legal.specs.Run.{lines_alone}
use Rattle.fc_legal.specs.Seconds.{Passing, Work, all_work, goes_on, next_fill, seconds_begun}
use Rattle.fc_legal.specs.Whole.{Whole}
use Rattle.fc_legal.specs.WithoutBlocks.{AreLines, IsWithoutBlocks}

-- ---- lines

pub alone_lines : (lines : List (List ℕ)) → AreLines (lines_alone lines)
alone_lines [] = tt
alone_lines (line ∷ lines) = alone_lines lines

-- Lines behind lines.
pub alone_append : (lines more : List (List ℕ)) → lines_alone (lines ++ more) ≡ lines_alone lines ++ lines_alone more
alone_append [] more = refl
alone_append (line ∷ lines) more = ap (λ segs. single line ∷ segs) (alone_append lines more)

module _ (grain : GrainSize) (read : Reading) where
  -- ---- it stays so, `main` alone asks, and no actors begin

  lines_read : (w : Whole) (segment : Segment) (segs : List Segment) → AreLines (segment ∷ segs) → IsWithoutBlocks (segment_read grain read w segment segs)
  lines_read w (single line) segs alone = alone
  lines_read w (together block) segs alone = absurd alone

  second_alone : (next : Option Passing) (segs : List Segment) → AreLines segs → IsWithoutBlocks (next_of_second next segs)
  second_alone None segs alone = alone
  second_alone (Some p) segs alone = alone

  fill_alone :
      (w : Whole) (p : Passing) (fill : Option (Work × GrainNo)) (segs : List Segment) (b : Agenda) →
      AreLines segs →
      without_fill grain w p fill segs ≡ Some b →
      IsWithoutBlocks b
  fill_alone w p None segs b alone e =
      let is : next_of_second (goes_on grain w p) segs ≡ b = cc e in
      subst IsWithoutBlocks is (second_alone (goes_on grain w p) segs alone)
  fill_alone w p (Some next) segs b alone e = absurd (cc e)

  pub passes_alone : (a b : Agenda) (w : Whole) → IsWithoutBlocks a → without_entry grain read a w ≡ Some b → IsWithoutBlocks b
  passes_alone (Session []) b w alone e = absurd (cc e)
  passes_alone (Session (segment ∷ segs)) b w alone e =
      let is : segment_read grain read w segment segs ≡ b = cc e in
      subst IsWithoutBlocks is (lines_read w segment segs alone)
  passes_alone (Own [] behind segs) b w alone e =
      let is : Session segs ≡ b = cc e in
      subst IsWithoutBlocks is alone
  passes_alone (Own (request ∷ rest) behind segs) b w alone e = absurd (cc e)
  passes_alone (Seconds p segs) b w alone e = fill_alone w p (next_fill grain w p) segs b alone e
  passes_alone (Faults requests actors segs) b w alone e = absurd alone
  passes_alone (Actors scripts segs) b w alone e = absurd alone

  begun_alone : (done : Bool) (p : Passing) (segs : List Segment) → AreLines segs → IsWithoutBlocks (cond done (Seconds p segs) (Session segs))
  begun_alone true p segs alone = alone
  begun_alone false p segs alone = alone

  last_alone : (next : Whole) (reply : Reply) (behind : Behind) (segs : List Segment) → AreLines segs → IsWithoutBlocks (behind_last next reply behind segs)
  last_alone next reply (PassingSeconds n) segs alone = begun_alone (is_done reply) (seconds_begun n (all_work next.books)) segs alone
  last_alone next reply (MappingOf source preset name) segs alone = alone
  last_alone next reply (Start volume) segs alone = alone
  last_alone next reply (Undo map volume) segs alone = alone

  own_alone : (next : Whole) (reply : Reply) (rest : List Request) (behind : Behind) (segs : List Segment) → AreLines segs → IsWithoutBlocks (behind_own next reply rest behind segs)
  own_alone next reply [] behind segs alone = last_alone next reply behind segs alone
  own_alone next reply (request ∷ rest) behind segs alone = alone

  pub behind_alone : (a : Agenda) (next : Whole) (entry : Entry) → IsWithoutBlocks a → IsWithoutBlocks (behind_entry grain a next entry)
  behind_alone (Session segs) next entry alone = alone
  behind_alone (Own [] behind segs) next entry alone = alone
  behind_alone (Own (request ∷ rest) behind segs) next entry alone = own_alone next entry.reply rest behind segs alone
  behind_alone (Seconds p segs) next entry alone = alone
  behind_alone (Faults requests actors segs) next entry alone = absurd alone
  behind_alone (Actors scripts segs) next entry alone = absurd alone

  pub main_asks : (a : Agenda) (w : Whole) (asked : ℕ × Request) → IsWithoutBlocks a → Asks grain a w asked → next_asked grain a w ≡ Some asked
  main_asks (Session segs) w asked alone h = h
  main_asks (Own requests behind segs) w asked alone h = h
  main_asks (Seconds p segs) w asked alone h = h
  main_asks (Faults requests actors segs) w asked alone h = absurd alone
  main_asks (Actors scripts segs) w asked alone h = absurd alone

  pub none_begins : (a b : Agenda) (w v : Whole) → IsWithoutBlocks a → Begins grain a w b v → ⊥
  none_begins (Session segs) b w v alone on = on
  none_begins (Own requests behind segs) b w v alone on = on
  none_begins (Seconds p segs) b w v alone on = on
  none_begins (Faults requests actors segs) b w v alone on = alone
  none_begins (Actors scripts segs) b w v alone on = alone

  -- ---- entries that answer it are right, and none of them comes behind a new name

  pub AreSteps-goes :
      (a b : Agenda) (w last : Whole) (xs : List Entry) →
      IsWithoutBlocks a →
      Goes (session_rules grain read) a w xs b last →
      AreSteps grain w xs last
  AreSteps-goes a b w last xs alone stays = refl
  AreSteps-goes a b w last xs alone (passes {b = then} on way) = AreSteps-goes then b w last xs (passes_alone a then w alone on) way
  AreSteps-goes a b w last xs alone (begins {b = then} {v = v} on way) = absurd (none_begins a then w v alone on)
  AreSteps-goes a b w last xs alone (answers {next = next} {entry = entry} {entries = rest} asked right way) =
      (next, right, AreSteps-goes (behind_entry grain a next entry) b next last rest (behind_alone a next entry alone) way)
