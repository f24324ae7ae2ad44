-- The law of lines.
use Rattle.std.proofs.Common.{◌≡◌, ℕ, List, [], ◌∷◌, codes, refl, sym, subst}
use Rattle.fc_agenda.specs.Goes.{Goes}
use Rattle.fc_base.specs.declared.request.Request.{Request}
use Rattle.fc_base.specs.declared.size.GrainSize.{GrainSize}
use Rattle.fc_blocks.specs.Segments.{Segment}
use Rattle.fc_check_lines.proofs.Known.{Known, asked_by, goes_known, main_first}
use Rattle.fc_check_lines.proofs.Leading.{asks_waits, goes_more, names_alone, one_place, only_more, whole_leads}
use Rattle.fc_check_lines.specs.Asked.{IsAskedBy}
use Rattle.fc_check_lines.specs.Law.{LinesLaw}
use Rattle.fc_entry.specs.declared.entry.Entry.{Entry}
use Rattle.fc_legal.specs.Agenda.{Agenda, Asks, Reading, Session, session_rules}
use Rattle.fc_legal.specs.Whole.{Whole}

named_by :
    (grain : GrainSize) (read : Reading) (segs : List Segment) (b : Agenda) (w v : Whole) (names : List (List ℕ)) (entries : List Entry) (number : ℕ) (request : Request) →
    w.actors ≡ codes "main" ∷ names →
    Goes (session_rules grain read) (Session segs) w entries b v →
    Asks grain b v (number, request) →
    (name : List ℕ) × IsAskedBy grain b v name request
named_by grain read segs b w v names entries number request named_so way asks =
    let P : List (List ℕ) → Type 0 = λ all. Known (Session segs) all in
    let first : Known (Session segs) w.actors = subst P (sym named_so) (record { main = main_first names; actors = tt }) in
    asked_by grain read b v number request (goes_known grain read (Session segs) b w v entries first way) asks

pub lines_law_holds : LinesLaw
lines_law_holds =
    record {
      one = λ grain read a b c w v u to to'. one_place grain read a b c w v u to.goes to.waits to'.goes to'.waits;
      names = λ grain read a b w v to. names_alone grain read a b w v to.goes;
      waits = λ grain read a w wanted asks. asks_waits grain read a w wanted asks;
      more = λ grain read a c w u entries entry more. goes_more grain read a c w u entries entry more;
      only = λ grain read a c w u entries entry way. only_more grain read a c w u entries entry way;
      some = λ grain read a b w v entries to. record { end = b; goes = to.goes };
      whole = λ grain read a w last entries whole. whole_leads grain read a w last entries whole;
      to_end = λ grain read a w last entries to. record { end = Session []; goes = to.goes; over = refl };
      by_name = λ grain read segs b w v names entries number request named_so way asks. named_by grain read segs b w v names entries number request named_so way asks;
    }
