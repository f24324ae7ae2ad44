-- The text, and all together.
use Rattle.std.proofs.Common.{◌≡◌, ℕ, List, [], ◌∷◌, ◌++◌, length, refl, sym, ap, subst, ◌∙◌, flat_map, arith}
use Rattle.fc_base.specs.declared.size.GrainSize.{GrainSize}
use Rattle.fc_blocks.specs.Segments.{Segment}
use Rattle.fc_determined.proofs.Ways.{is_front, one_goes_on, one_outcome, over_none, short_none}
use Rattle.fc_determined.specs.Law.{DeterminedLaw, IsOneOutcome}
use Rattle.fc_determined.specs.Smooth.{AreSmooth, TellTheSame, told_by}
use Rattle.fc_entry.specs.HistoryState.{HistoryState}
use Rattle.fc_entry.specs.Text.{entry_text, history_text}
use Rattle.fc_entry.specs.declared.entry.Entry.{Entry}
use Rattle.fc_legal.proofs.Alone.{alone_append, alone_lines}
use Rattle.fc_legal.proofs.Appending.{IsPartialRun-more}
use Rattle.fc_legal.specs.Agenda.{Session, Reading}
use Rattle.fc_legal.specs.Run.{IsPartialRun, lines_alone}
use Rattle.fc_legal.specs.Whole.{Whole}

-- ---- the text

-- the text of an entry doesn't speak of faults
text_told : (actors : List (List ℕ)) (entries : List Entry) → flat_map (entry_text actors) entries ≡ flat_map (entry_text actors) (told_by entries)
text_told actors [] = refl
text_told actors (x ∷ xs) = ap (λ rest. entry_text actors x ++ rest) (text_told actors xs)

text_one :
    (history other : HistoryState) →
    other.actors ≡ history.actors →
    told_by other.entries ≡ told_by history.entries →
    history_text other ≡ history_text history
text_one history other actors entries =
    ap (λ names. flat_map (entry_text names) other.entries) actors
    ∙ text_told history.actors other.entries
    ∙ ap (λ es. flat_map (entry_text history.actors) es) entries
    ∙ sym (text_told history.actors history.entries)

-- ---- the law

pub determined_law_holds : DeterminedLaw
determined_law_holds =
    record {
      whole = λ grain read a w v last other xs ys alone same smooth smooth_other h k.
          one_outcome grain read h.end k.end last other xs ys
          (over_none grain read h.end k.end last other xs ys h.over)
          (over_none grain read k.end h.end other last ys xs k.over)
          (one_goes_on grain read a h.end k.end w v last other xs ys alone same smooth smooth_other h.goes k.goes);
      as_many = λ grain read a w v last other xs ys alone same smooth smooth_other h k long.
          one_outcome grain read h.end k.end last other xs ys
          (short_none grain read h.end k.end last other xs ys (omega (arith, long)))
          (short_none grain read k.end h.end other last ys xs (omega (arith, long)))
          (one_goes_on grain read a h.end k.end w v last other xs ys alone same smooth smooth_other h.goes k.goes);
      early = λ grain read a w v last other xs ys alone same smooth smooth_other h k.
          is_front grain read h.end k.end last other xs ys
          (over_none grain read k.end h.end other last ys xs k.over)
          (one_goes_on grain read a h.end k.end w v last other xs ys alone same smooth smooth_other h.goes k.goes);
      both_early = λ grain read a w v last other xs ys alone same smooth smooth_other h k long.
          is_front grain read h.end k.end last other xs ys
          (short_none grain read k.end h.end other last ys xs long)
          (one_goes_on grain read a h.end k.end w v last other xs ys alone same smooth smooth_other h.goes k.goes);
      text = text_one;
    }

-- ---- the first of some lines

-- Two histories that answer some first ones of the same lines, with as many entries, have one outcome.
pub first_lines_one :
    (grain : GrainSize) (read : Reading) (w v last other : Whole) (lines first rest first' rest' : List (List ℕ)) (xs ys : List Entry) →
    lines ≡ first ++ rest →
    lines ≡ first' ++ rest' →
    TellTheSame w v →
    AreSmooth xs →
    AreSmooth ys →
    IsPartialRun grain read w (lines_alone first) xs last →
    IsPartialRun grain read v (lines_alone first') ys other →
    length xs ≡ length ys →
    IsOneOutcome xs ys last other
first_lines_one grain read w v last other lines first rest first' rest' xs ys e f same smooth smooth_other h k long =
    let P : List Segment → Type 0 = λ segs. IsPartialRun grain read w segs xs last in
    let Q : List Segment → Type 0 = λ segs. IsPartialRun grain read v segs ys other in
    determined_law_holds.as_many grain read (Session (lines_alone lines)) w v last other xs ys (alone_lines lines) same smooth smooth_other
    (subst P (sym (ap lines_alone e ∙ alone_append first rest)) (IsPartialRun-more grain read w last (lines_alone first) (lines_alone rest) xs h))
    (subst Q (sym (ap lines_alone f ∙ alone_append first' rest')) (IsPartialRun-more grain read v other (lines_alone first') (lines_alone rest') ys k))
    long
