-- What goes on without an entry goes to one place alone, and one entry more goes on exactly where it is asked.
use Rattle.std.proofs.Common.{◌≡◌, ℕ, Bool, true, false, cond, Option, Some, None, List, [], ◌∷◌, ◌++◌, refl, sym, ap, subst, ◌∙◌}
use Rattle.std.specs.Option.{option_map}
use Rattle.fc_agenda.proofs.Going.{Goes-append}
use Rattle.fc_agenda.specs.Goes.{Goes, stays, passes, begins, answers, GoesToEnd}
use Rattle.fc_base.specs.declared.ids.GrainNo.{GrainNo}
use Rattle.fc_base.specs.declared.request.Request.{Request}
use Rattle.fc_base.specs.declared.size.GrainSize.{GrainSize}
use Rattle.fc_blocks.specs.Segments.{Segment}
use Rattle.fc_check_lines.specs.Law.{IsOneMore}
use Rattle.fc_check_lines.specs.Leading.{LeadTo, Waits}
use Rattle.fc_entry.specs.declared.entry.Entry.{Entry}
use Rattle.fc_legal.specs.Agenda.{Actors, Agenda, Asks, Begins, Faults, Own, Reading, Seconds, Session, actors_begun, behind_entry, session_rules, without_entry, without_fill}
use Rattle.fc_legal.specs.Scripts.{Script, are_done, next_by, next_request}
use Rattle.fc_legal.specs.Seconds.{Passing, Work, fill_of, next_fill}
use Rattle.fc_legal.specs.Steps.{Step}
use Rattle.fc_legal.specs.Whole.{Whole}
use Rattle.fc_scripts.proofs.Left.{done_none, next_left}
use Rattle.law_stands.specs.Names.{named}

some_same : {X : Type 0} (x y : X) → Some x ≡ Some y → x ≡ y
some_same x y e = cc

no_some : {X : Type 0} (o : Option X) (x : X) → o ≡ None → o ≡ Some x → ⊥
no_some None x none some = absurd (cc some)
no_some (Some y) x none some = absurd (cc none)

no_nil : (xs : List Entry) (e : Entry) → [] ≡ xs ++ e ∷ [] → ⊥
no_nil [] e is = absurd (cc is)
no_nil (x ∷ xs) e is = absurd (cc is)

module _ (grain : GrainSize) (read : Reading) where
  abbrev Way : Agenda → Whole → List Entry → Agenda → Whole → Type 0
  Way a w entries b v = Goes (session_rules grain read) a w entries b v

  -- ---- where something is asked, it waits

  fill_waits :
      (w : Whole) (p : Passing) (segs : List Segment) (fill : Option (Work × GrainNo)) (asked : ℕ × Request) →
      option_map {U = ℕ × Request} (λ (next : Work × GrainNo). (0, fill_of next.0 next.1)) fill ≡ Some asked →
      without_fill grain w p fill segs ≡ None
  fill_waits w p segs None asked e = absurd (cc e)
  fill_waits w p segs (Some next) asked e = refl

  done_waits :
      (scripts : List Script) (segs : List Segment) (actor : ℕ) (request : Request) (done : Bool) →
      are_done scripts ≡ done →
      next_by scripts actor ≡ Some request →
      ◌≡◌ {A = Option Agenda} (cond done (Some (Session segs)) None) None
  done_waits scripts segs actor request true is asks =
      absurd (no_some (next_by scripts actor) request (next_left scripts actor ∙ ap next_request (done_none scripts is actor)) asks)
  done_waits scripts segs actor request false is asks = refl

  pub asks_waits : (a : Agenda) (w : Whole) (wanted : ℕ × Request) → Asks grain a w wanted → Waits grain read a w
  asks_waits (Session segs) w wanted asks = absurd (cc asks)
  asks_waits (Own [] behind segs) w wanted asks = absurd (cc asks)
  asks_waits (Own (request ∷ rest) behind segs) w wanted asks = record { none_passes = refl; none_begins = λ b v on. on }
  asks_waits (Seconds p segs) w wanted asks = record { none_passes = fill_waits w p segs (next_fill grain w p) wanted asks; none_begins = λ b v on. on }
  asks_waits (Faults [] actors segs) w wanted asks = absurd (cc asks)
  asks_waits (Faults (request ∷ rest) actors segs) w wanted asks = record { none_passes = refl; none_begins = λ b v on. on }
  asks_waits (Actors scripts segs) w wanted asks =
      record { none_passes = done_waits scripts segs wanted.0 wanted.1 (are_done scripts) refl asks; none_begins = λ b v on. on }

  pub over_waits : (w : Whole) → Waits grain read (Session []) w
  over_waits w = record { none_passes = refl; none_begins = λ b v on. on }

  -- ---- it goes on in one way

  not_both : (a b c : Agenda) (w v : Whole) → without_entry grain read a w ≡ Some b → Begins grain a w c v → ⊥
  not_both (Faults requests actors segs) b c w v on begun = absurd (cc on)
  not_both (Session segs) b c w v on begun = begun
  not_both (Own requests behind segs) b c w v on begun = begun
  not_both (Seconds p segs) b c w v on begun = begun
  not_both (Actors scripts segs) b c w v on begun = begun

  begins_one : (a b c : Agenda) (w v u : Whole) → Begins grain a w b v → Begins grain a w c u → (c ≡ b) × (u ≡ v)
  begins_one (Faults [] actors segs) b c w v u on on' =
      let told : u ≡ v = on'.0 ∙ sym on.0 in
      (on'.1 ∙ ap (λ t. actors_begun grain t actors segs) told ∙ sym on.1, told)
  begins_one (Faults (request ∷ rest) actors segs) b c w v u on on' = absurd on
  begins_one (Session segs) b c w v u on on' = absurd on
  begins_one (Own requests behind segs) b c w v u on on' = absurd on
  begins_one (Seconds p segs) b c w v u on on' = absurd on
  begins_one (Actors scripts segs) b c w v u on on' = absurd on

  pub one_place : (a b c : Agenda) (w v u : Whole) → Way a w [] b v → Waits grain read b v → Way a w [] c u → Waits grain read c u → (b ≡ c) × (v ≡ u)
  one_place a b c w v u stays at stays at' = (refl, refl)
  one_place a b c w v u stays at (passes {b = d} on way) at' = absurd (no_some (without_entry grain read a w) d at.none_passes on)
  one_place a b c w v u stays at (begins {b = d} {v = t} on way) at' = absurd (at.none_begins d t on)
  one_place a b c w v u (passes {b = d} on way) at stays at' = absurd (no_some (without_entry grain read a w) d at'.none_passes on)
  one_place a b c w v u (begins {b = d} {v = t} on way) at stays at' = absurd (at'.none_begins d t on)
  one_place a b c w v u (passes {b = d} on way) at (passes {b = e} on' way') at' =
      let P : Agenda → Type 0 = λ f. Way f w [] c u in
      one_place d b c w v u way at (subst P (some_same e d (sym on' ∙ on)) way') at'
  one_place a b c w v u (passes {b = d} on way) at (begins {b = e} {v = s} on' way') at' = absurd (not_both a d e w s on on')
  one_place a b c w v u (begins {b = d} {v = t} on way) at (passes {b = e} on' way') at' = absurd (not_both a e d w t on' on)
  one_place a b c w v u (begins {b = d} {v = t} on way) at (begins {b = e} {v = s} on' way') at' =
      let one : (e ≡ d) × (s ≡ t) = begins_one a d e w t s on on' in
      let P : Agenda → Type 0 = λ f. Way f s [] c u in
      let Q : Whole → Type 0 = λ x. Way d x [] c u in
      one_place d b c t v u way at (subst Q one.1 (subst P one.0 way')) at'

  -- ---- nothing but names is told on the way

  begins_names : (a b : Agenda) (w v : Whole) (names : List (List ℕ)) → Begins grain a w b v → named names v ≡ named names w
  begins_names (Faults [] actors segs) b w v names on = ap (named names) on.0
  begins_names (Faults (request ∷ rest) actors segs) b w v names on = absurd on
  begins_names (Session segs) b w v names on = absurd on
  begins_names (Own requests behind segs) b w v names on = absurd on
  begins_names (Seconds p segs) b w v names on = absurd on
  begins_names (Actors scripts segs) b w v names on = absurd on

  pub names_alone : (a b : Agenda) (w v : Whole) → Way a w [] b v → v ≡ named v.actors w
  names_alone a b w v stays = refl
  names_alone a b w v (passes {b = d} on way) = names_alone d b w v way
  names_alone a b w v (begins {b = d} {v = t} on way) = names_alone d b t v way ∙ begins_names a d w t v.actors on

  -- ---- one entry more

  pub goes_more : (a c : Agenda) (w u : Whole) (xs : List Entry) (e : Entry) → IsOneMore grain read a w xs e c u → Way a w (xs ++ e ∷ []) c u
  goes_more a c w u xs e more =
      Goes-append (session_rules grain read) a more.at c w more.told u xs (e ∷ []) more.leads.goes (answers more.asks more.right more.behind)

  passes_more : (a b c : Agenda) (w u : Whole) (xs : List Entry) (e : Entry) → without_entry grain read a w ≡ Some b → IsOneMore grain read b w xs e c u → IsOneMore grain read a w xs e c u
  passes_more a b c w u xs e on more =
      record {
        at = more.at;
        told = more.told;
        next = more.next;
        leads = record { goes = passes on more.leads.goes; waits = more.leads.waits };
        asks = more.asks;
        right = more.right;
        behind = more.behind;
      }

  begins_more : (a b c : Agenda) (w v u : Whole) (xs : List Entry) (e : Entry) → Begins grain a w b v → IsOneMore grain read b v xs e c u → IsOneMore grain read a w xs e c u
  begins_more a b c w v u xs e on more =
      record {
        at = more.at;
        told = more.told;
        next = more.next;
        leads = record { goes = begins on more.leads.goes; waits = more.leads.waits };
        asks = more.asks;
        right = more.right;
        behind = more.behind;
      }

  first_more :
      (a c : Agenda) (w next u : Whole) (x : Entry) →
      Asks grain a w (x.actor, x.request) →
      Step grain w x next →
      Way (behind_entry grain a next x) next [] c u →
      IsOneMore grain read a w [] x c u
  first_more a c w next u x asked right way =
      record {
        at = a;
        told = w;
        next = next;
        leads = record { goes = stays; waits = asks_waits a w (x.actor, x.request) asked };
        asks = asked;
        right = right;
        behind = way;
      }

  answers_more :
      (a c : Agenda) (w next u : Whole) (x : Entry) (xs : List Entry) (e : Entry) →
      Asks grain a w (x.actor, x.request) →
      Step grain w x next →
      IsOneMore grain read (behind_entry grain a next x) next xs e c u →
      IsOneMore grain read a w (x ∷ xs) e c u
  answers_more a c w next u x xs e asked right more =
      record {
        at = more.at;
        told = more.told;
        next = more.next;
        leads = record { goes = answers asked right more.leads.goes; waits = more.leads.waits };
        asks = more.asks;
        right = more.right;
        behind = more.behind;
      }

  only_of : (a c : Agenda) (w u : Whole) (es xs : List Entry) (e : Entry) → es ≡ xs ++ e ∷ [] → Way a w es c u → IsOneMore grain read a w xs e c u
  only_of a c w u es xs e is stays = absurd (no_nil xs e is)
  only_of a c w u es xs e is (passes {b = d} on way) = passes_more a d c w u xs e on (only_of d c w u es xs e is way)
  only_of a c w u es xs e is (begins {b = d} {v = t} on way) = begins_more a d c w t u xs e on (only_of d c t u es xs e is way)
  only_of a c w u es [] e is (answers {next = next} {entry = x} {entries = rest} asked right way) =
      let first : x ≡ e = cc is in
      let none : rest ≡ [] = cc is in
      let P : Entry → Type 0 = λ y. IsOneMore grain read a w [] y c u in
      let Q : List Entry → Type 0 = λ ys. Way (behind_entry grain a next x) next ys c u in
      subst P first (first_more a c w next u x asked right (subst Q none way))
  only_of a c w u es (y ∷ ys) e is (answers {next = next} {entry = x} {entries = rest} asked right way) =
      let first : x ≡ y = cc is in
      let others : rest ≡ ys ++ e ∷ [] = cc is in
      let P : Entry → Type 0 = λ z. IsOneMore grain read a w (z ∷ ys) e c u in
      subst P first (answers_more a c w next u x ys e asked right (only_of (behind_entry grain a next x) c next u rest ys e others way))

  pub only_more : (a c : Agenda) (w u : Whole) (xs : List Entry) (e : Entry) → Way a w (xs ++ e ∷ []) c u → IsOneMore grain read a w xs e c u
  only_more a c w u xs e way = only_of a c w u (xs ++ e ∷ []) xs e refl way

  -- ---- to the end

  pub whole_leads : (a : Agenda) (w last : Whole) (entries : List Entry) → GoesToEnd (session_rules grain read) a w entries last → LeadTo grain read a w entries (Session []) last
  whole_leads a w last entries whole =
      let P : Agenda → Type 0 = λ b. Way a w entries b last in
      record { goes = subst P whole.over whole.goes; waits = over_waits last }
