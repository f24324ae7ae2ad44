-- Of two histories that answer one agenda, where nothing failed, one goes on from where the other ended.
use Rattle.std.proofs.Common.{◌≡◌, ◌⊎◌, inl, inr, ℕ, ◌+◌, ◌≤◌, Some, List, [], ◌∷◌, ◌++◌, length, length-append, refl, sym, ap, ap₂, subst, ◌∙◌, arith}
use Rattle.std.proofs.lemmas.List.{append-nil, length-map}
use Rattle.std.proofs.lemmas.List.Elements.{All-head, All-tail}
use Rattle.fc_agenda.specs.Goes.{Goes, stays, passes, begins, answers}
use Rattle.fc_base.specs.declared.request.Request.{Request}
use Rattle.fc_base.specs.declared.size.GrainSize.{GrainSize}
use Rattle.fc_determined.proofs.Agendas.{asked_same, behind_same, not_both, passes_same}
use Rattle.fc_determined.proofs.Entries.{AreOneStep, step_one_outcome}
use Rattle.fc_determined.specs.Law.{IsFront, IsOneOutcome}
use Rattle.fc_determined.specs.Smooth.{AreSmooth, IsSmooth, TellTheSame, but_for_faults, told_by}
use Rattle.fc_entry.specs.declared.entry.Entry.{Entry}
use Rattle.fc_legal.proofs.Alone.{behind_alone, main_asks, none_begins, passes_alone}
use Rattle.fc_legal.specs.Agenda.{Agenda, Reading, Session, behind_entry, session_rules}
use Rattle.fc_legal.specs.Whole.{Whole}
use Rattle.fc_legal.specs.WithoutBlocks.{IsWithoutBlocks}

abbrev IsSmoothEntry : Entry → Type 0
IsSmoothEntry entry = IsSmooth entry.reply

some_same : {X : Type 0} (x y : X) → Some x ≡ Some y → x ≡ y
some_same x y e = cc

module _ (grain : GrainSize) (read : Reading) where
  -- The one history ended with this agenda left, from which the other goes on.
  pub record GoesOn (b c : Agenda) (last other : Whole) (xs ys : List Entry) : Type 0 where
    pub alone : IsWithoutBlocks b
    pub rest : List Entry
    pub follows : told_by ys ≡ told_by xs ++ told_by rest
    pub mid : Whole
    pub told : TellTheSame last mid
    pub goes : Goes (session_rules grain read) b mid rest c other

  before : (b c : Agenda) (last other : Whole) (x y : Entry) (xs ys : List Entry) → but_for_faults y ≡ but_for_faults x → GoesOn b c last other xs ys → GoesOn b c last other (x ∷ xs) (y ∷ ys)
  before b c last other x y xs ys same h =
      record { alone = h.alone; rest = h.rest; follows = ap₂ (λ z zs. z ∷ zs) same h.follows; mid = h.mid; told = h.told; goes = h.goes }

  abbrev pub OneGoesOn : Agenda → Agenda → Whole → Whole → List Entry → List Entry → Type 0
  OneGoesOn b c last other xs ys = GoesOn b c last other xs ys ⊎ GoesOn c b other last ys xs

  one_before :
      (b c : Agenda) (last other : Whole) (x y : Entry) (xs ys : List Entry) →
      but_for_faults y ≡ but_for_faults x → OneGoesOn b c last other xs ys → OneGoesOn b c last other (x ∷ xs) (y ∷ ys)
  one_before b c last other x y xs ys same (inl h) = inl (before b c last other x y xs ys same h)
  one_before b c last other x y xs ys same (inr h) = inr (before c b other last y x ys xs (sym same) h)

  pub one_goes_on :
      (a b c : Agenda) (w v last other : Whole) (xs ys : List Entry) →
      IsWithoutBlocks a →
      TellTheSame w v →
      AreSmooth xs →
      AreSmooth ys →
      Goes (session_rules grain read) a w xs b last →
      Goes (session_rules grain read) a v ys c other →
      OneGoesOn b c last other xs ys
  one_goes_on a b c w v last other xs ys alone same smooth smooth_other stays way = inl (record { alone = alone; rest = ys; follows = refl; mid = v; told = same; goes = way })
  one_goes_on a b c w v last other xs ys alone same smooth smooth_other way stays = inr (record { alone = alone; rest = xs; follows = refl; mid = w; told = sym same; goes = way })
  one_goes_on a b c w v last other xs ys alone same smooth smooth_other (passes {b = d} on way) (passes {b = e} on' way') =
      let P : Agenda → Type 0 = λ f. Goes (session_rules grain read) f v ys c other in
      let one : e ≡ d = some_same e d (sym on' ∙ passes_same grain read w v same a ∙ on) in
      one_goes_on d b c w v last other xs ys (passes_alone grain read a d w alone on) same smooth smooth_other way (subst P one way')
  one_goes_on a b c w v last other xs ys alone same smooth smooth_other (begins {b = d} {v = u} on way) way' = absurd (none_begins grain read a d w u alone on)
  one_goes_on a b c w v last other xs ys alone same smooth smooth_other (passes on' way') (begins {b = d} {v = u} on way) = absurd (none_begins grain read a d v u alone on)
  one_goes_on a b c w v last other xs ys alone same smooth smooth_other (answers asked right way') (begins {b = d} {v = u} on way) = absurd (none_begins grain read a d v u alone on)
  one_goes_on a b c w v last other xs ys alone same smooth smooth_other (passes {b = d} on way) (answers {entry = y} asked right way') =
      absurd (not_both grain read a d v (y.actor, y.request) (main_asks grain read a v (y.actor, y.request) alone asked) (passes_same grain read w v same a ∙ on))
  one_goes_on a b c w v last other xs ys alone same smooth smooth_other (answers {entry = x} asked right way) (passes {b = e} on way') =
      absurd (not_both grain read a e w (x.actor, x.request) (main_asks grain read a w (x.actor, x.request) alone asked) (sym (passes_same grain read w v same a) ∙ on))
  one_goes_on a b c w v last other xs ys alone same smooth smooth_other (answers {next = next} {entry = x} {entries = xs'} asked right way) (answers {next = next'} {entry = y} {entries = ys'} asked' right' way') =
      let asks : ◌≡◌ {A = ℕ × Request} (y.actor, y.request) (x.actor, x.request) =
      some_same (y.actor, y.request) (x.actor, x.request)
      (sym (main_asks grain read a v (y.actor, y.request) alone asked') ∙ asked_same grain read w v same a ∙ main_asks grain read a w (x.actor, x.request) alone asked) in
      let step : AreOneStep x y next next' =
      step_one_outcome grain w v x y next next' same (ap (λ (p : ℕ × Request). p.0) asks) (ap (λ (p : ℕ × Request). p.1) asks) right right'
      (All-head IsSmoothEntry x xs' smooth) (All-head IsSmoothEntry y ys' smooth_other) in
      let P : Agenda → Type 0 = λ f. Goes (session_rules grain read) f next' ys' c other in
      one_before b c last other x y xs' ys' step.same
      (one_goes_on (behind_entry grain a next x) b c next next' last other xs' ys' (behind_alone grain read a next x alone) step.told
      (All-tail IsSmoothEntry x xs' smooth) (All-tail IsSmoothEntry y ys' smooth_other) way
      (subst P (behind_same grain read next next' step.told a x y step.same) way'))

  -- ---- where nothing is left to be told

  lines_over : (c : Agenda) (w last : Whole) (xs : List Entry) → Goes (session_rules grain read) (Session []) w xs c last → xs ≡ []
  lines_over c w last xs stays = refl
  lines_over c w last xs (passes on way) = absurd (cc on)
  lines_over c w last xs (begins on way) = absurd on
  lines_over c w last xs (answers asked right way) = absurd (cc asked)

  no_entry : (b c : Agenda) (w last : Whole) (xs : List Entry) → IsWithoutBlocks b → xs ≡ [] → Goes (session_rules grain read) b w xs c last → last ≡ w
  no_entry b c w last xs alone e stays = refl
  no_entry b c w last xs alone e (passes {b = d} on way) = no_entry d c w last xs (passes_alone grain read b d w alone on) e way
  no_entry b c w last xs alone e (begins {b = d} {v = v} on way) = absurd (none_begins grain read b d w v alone on)
  no_entry b c w last xs alone e (answers asked right way) = absurd (cc e)

  -- the other answered all
  pub over_none : (b c : Agenda) (last other : Whole) (xs ys : List Entry) → b ≡ Session [] → (h : GoesOn b c last other xs ys) → h.rest ≡ []
  over_none b c last other xs ys over h =
      let P : Agenda → Type 0 = λ f. Goes (session_rules grain read) f h.mid h.rest c other in
      lines_over c h.mid other h.rest (subst P over h.goes)

  -- it has no fewer entries
  none_left : (rest : List Entry) → length rest ≡ 0 → rest ≡ []
  none_left [] e = refl
  none_left (x ∷ rest) e = absurd (omega arith)

  pub short_none : (b c : Agenda) (last other : Whole) (xs ys : List Entry) → length ys ≤ length xs → (h : GoesOn b c last other xs ys) → h.rest ≡ []
  short_none b c last other xs ys short h =
      let long : length (told_by ys) ≡ length (told_by xs) + length (told_by h.rest) =
      ap length h.follows ∙ length-append (told_by xs) (told_by h.rest) in
      none_left h.rest (omega (arith, long, short, length-map ys but_for_faults, length-map xs but_for_faults, length-map h.rest but_for_faults))

  goes_no_further : (b c : Agenda) (last other : Whole) (xs ys : List Entry) (h : GoesOn b c last other xs ys) → h.rest ≡ [] → IsOneOutcome xs ys last other
  goes_no_further b c last other xs ys h none =
      let P : Whole → Type 0 = λ u. TellTheSame last u in
      record {
        entries = h.follows ∙ ap (λ rest. told_by xs ++ told_by rest) none ∙ append-nil (told_by xs);
        told = subst P (sym (no_entry b c h.mid other h.rest h.alone none h.goes)) h.told;
      }

  -- ---- one outcome, and a front

  pub one_outcome :
      (b c : Agenda) (last other : Whole) (xs ys : List Entry) →
      ((h : GoesOn b c last other xs ys) → h.rest ≡ []) →
      ((h : GoesOn c b other last ys xs) → h.rest ≡ []) →
      OneGoesOn b c last other xs ys →
      IsOneOutcome xs ys last other
  one_outcome b c last other xs ys none none' (inl h) = goes_no_further b c last other xs ys h (none h)
  one_outcome b c last other xs ys none none' (inr h) =
      let one : IsOneOutcome ys xs other last = goes_no_further c b other last ys xs h (none' h) in
      record { entries = sym one.entries; told = sym one.told }

  pub is_front :
      (b c : Agenda) (last other : Whole) (xs ys : List Entry) →
      ((h : GoesOn c b other last ys xs) → h.rest ≡ []) →
      OneGoesOn b c last other xs ys →
      IsFront xs ys
  is_front b c last other xs ys none (inl h) = record { rest = told_by h.rest; begins = h.follows }
  is_front b c last other xs ys none (inr h) =
      let one : IsOneOutcome ys xs other last = goes_no_further c b other last ys xs h (none h) in
      record { rest = []; begins = sym one.entries ∙ sym (append-nil (told_by xs)) }
