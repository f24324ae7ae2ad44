-- A block's agenda goes on by what `main` is told, the names that come, and the entries of its actors.
use Rattle.std.proofs.Common.{◌≡◌, ℕ, Option, Some, List, [], ◌∷◌, ◌++◌, map, All, Contains, refl, sym, ap, subst}
use Rattle.std.proofs.lemmas.List.Elements.{All-head, All-tail}
use Rattle.fc_agenda.proofs.Going.{Goes-append, Goes-begin}
use Rattle.fc_agenda.specs.Goes.{Goes, GoesAsking, GoesSome, GoesToEnd, stays, passes, answers}
use Rattle.fc_base.specs.declared.request.Request.{Request}
use Rattle.fc_base.specs.declared.size.GrainSize.{GrainSize}
use Rattle.fc_blocks.specs.Segments.{Segment, together, cut}
use Rattle.fc_blocks.specs.declared.block.ActorRead.{ActorRead}
use Rattle.fc_blocks.specs.declared.block.BlockRead.{BlockRead}
use Rattle.fc_entry.specs.declared.entry.Entry.{Entry}
use Rattle.fc_legal.specs.Agenda.{Actors, Agenda, Faults, Reading, Session, session_rules}
use Rattle.fc_legal.specs.Legal.{AreSteps}
use Rattle.fc_legal.specs.Scripts.{faults_asked}
use Rattle.fc_legal.specs.Whole.{Whole, lanes}
use Rattle.fc_scripts.proofs.Fixed.{scripts_law_holds}
use Rattle.fc_scripts.specs.Actors.{AreAll, AreFirst, WantMore}
use Rattle.fc_scripts.specs.Ways.{AreOfDifferent, IsAsking, IsInto, IsThrough}
use Rattle.law_together.specs.Law.{BlockLaw}
use Rattle.law_together.specs.Telling.{AreTold, block_alone, named, scripts_then}

abbrev ByMain : Entry → Type 0
ByMain e = e.actor ≡ 0

module _ (grain : GrainSize) (read : Reading) where
  -- ---- what `main` is told

  faults_go :
      (requests left : List Request) (actors : List ActorRead) (segs : List Segment) (w last : Whole) (entries : List Entry) →
      All ByMain entries →
      map (λ (e : Entry). e.request) entries ++ left ≡ requests →
      AreSteps grain w entries last →
      Goes (session_rules grain read) (Faults requests actors segs) w entries (Faults left actors segs) last
  faults_go requests left actors segs w last [] mine asked steps =
      let P : List Request → Type 0 = λ rs. Goes (session_rules grain read) (Faults rs actors segs) w [] (Faults left actors segs) last in
      let Q : Whole → Type 0 = λ v. Goes (session_rules grain read) (Faults left actors segs) w [] (Faults left actors segs) v in
      subst P asked (subst Q (sym steps) stays)
  faults_go requests left actors segs w last (e ∷ es) mine asked steps =
      let behind : List Request = map (λ (x : Entry). x.request) es ++ left in
      let P : List Request → Type 0 = λ rs. Goes (session_rules grain read) (Faults rs actors segs) w (e ∷ es) (Faults left actors segs) last in
      let Asked : ℕ → Option (ℕ × Request) = λ a. Some (a, e.request) in
      subst P asked
      (answers {next = steps.0} {entry = e} {entries = es} (ap Asked (sym (All-head ByMain e es mine))) steps.1
      (faults_go behind left actors segs steps.0 last es (All-tail ByMain e es mine) refl steps.2))

  told_goes :
      (block : BlockRead) (w last : Whole) (entries : List Entry) (left : List Request) →
      AreTold grain w block.faults entries left last →
      Goes (session_rules grain read) (block_alone block) w entries (Faults left block.actors []) last
  told_goes block w last entries left told =
      passes {b = Faults (faults_asked block.faults) block.actors []} refl
      (faults_go (faults_asked block.faults) left block.actors [] w last entries told.by_main told.asked told.steps)

  told_some :
      (block : BlockRead) (w last : Whole) (entries : List Entry) (left : List Request) →
      AreTold grain w block.faults entries left last →
      GoesSome (session_rules grain read) (block_alone block) w entries last
  told_some block w last entries left told = record { end = Faults left block.actors []; goes = told_goes block w last entries left told }

  told_more :
      (block : BlockRead) (w last : Whole) (entries : List Entry) (wanted : Request) (behind : List Request) →
      AreTold grain w block.faults entries (wanted ∷ behind) last →
      GoesAsking (session_rules grain read) (block_alone block) w entries last
  told_more block w last entries wanted behind told =
      record {
        end = Faults (wanted ∷ behind) block.actors [];
        goes = told_goes block w last entries (wanted ∷ behind) told;
        wanted = (0, wanted);
        asks = refl;
      }

  -- ---- the actors begin

  begun_goes :
      (block : BlockRead) (w mid : Whole) (entries : List Entry) →
      AreTold grain w block.faults entries [] mid →
      Goes (session_rules grain read) (block_alone block) w entries (Actors (scripts_then grain mid block) []) (named mid block)
  begun_goes block w mid entries told =
      Goes-begin (session_rules grain read) (block_alone block) (Faults [] block.actors []) (Actors (scripts_then grain mid block) []) w mid (named mid block) entries
      (told_goes block w mid entries [] told) (refl, refl)

  on_goes :
      (block : BlockRead) (w mid last : Whole) (entries more : List Entry) (end : Agenda) →
      AreTold grain w block.faults entries [] mid →
      Goes (session_rules grain read) (Actors (scripts_then grain mid block) []) (named mid block) more end last →
      Goes (session_rules grain read) (block_alone block) w (entries ++ more) end last
  on_goes block w mid last entries more end told way =
      Goes-append (session_rules grain read) (block_alone block) (Actors (scripts_then grain mid block) []) end w (named mid block) last entries more
      (begun_goes block w mid entries told) way

  different :
      (lines : List (List ℕ)) (block : BlockRead) (mid : Whole) →
      Contains (cut lines).segments (together block) →
      AreOfDifferent (scripts_then grain mid block)
  different lines block mid there = scripts_law_holds.differ lines block grain (lanes mid) mid.books mid.actors there

  -- all faults were told to `main`, the names came, and the actors of a block of these lines were answered more
  module _ (lines : List (List ℕ)) (block : BlockRead) (w mid last : Whole) (entries more : List Entry)
      (there : Contains (cut lines).segments (together block)) (told : AreTold grain w block.faults entries [] mid)
      (steps : AreSteps grain (named mid block) more last) where
    goes_through : AreAll (scripts_then grain mid block) more → GoesToEnd (session_rules grain read) (block_alone block) w (entries ++ more) last
    goes_through all =
        let way : IsThrough grain read (scripts_then grain mid block) [] (named mid block) more last =
        (scripts_law_holds.through grain read (scripts_then grain mid block) [] (named mid block) last more (different lines block mid there)).1 steps all in
        record { end = Session []; goes = on_goes block w mid last entries more (Session []) told way; over = refl }

    goes_into : AreFirst (scripts_then grain mid block) more → GoesSome (session_rules grain read) (block_alone block) w (entries ++ more) last
    goes_into first =
        let way : IsInto grain read (scripts_then grain mid block) [] (named mid block) more last =
        (scripts_law_holds.into grain read (scripts_then grain mid block) [] (named mid block) last more (different lines block mid there)).1 steps first in
        record { end = Actors way.left []; goes = on_goes block w mid last entries more (Actors way.left []) told way.goes }

    goes_asking : WantMore (scripts_then grain mid block) more → GoesAsking (session_rules grain read) (block_alone block) w (entries ++ more) last
    goes_asking wants =
        let way : IsAsking grain read (scripts_then grain mid block) [] (named mid block) more last =
        (scripts_law_holds.asking grain read (scripts_then grain mid block) [] (named mid block) last more (different lines block mid there)).1 steps wants in
        record {
          end = Actors way.left [];
          goes = on_goes block w mid last entries more (Actors way.left []) told way.goes;
          wanted = way.wanted;
          asks = way.asks;
        }

pub block_law_holds : BlockLaw
block_law_holds = record {
  told = told_some;
  told_asking = told_more;
  goes_on = λ lines grain read block w mid last entries more there told steps. record {
    through = goes_through grain read lines block w mid last entries more there told steps;
    into = goes_into grain read lines block w mid last entries more there told steps;
    asking = goes_asking grain read lines block w mid last entries more there told steps;
  };
}
