-- Actors that come to have names, and what is legal after them.
use Rattle.std.proofs.Common.{◌≡◌, ℕ, Bool, true, false, cond, is_some, List, [], ◌∷◌, ◌++◌, refl, sym, ◌∙◌, ap, subst}
use Rattle.std.proofs.lemmas.List.{append-nil, append_assoc}
use Rattle.fc_base.specs.declared.size.GrainSize.{GrainSize}
use Rattle.fc_blocks.specs.declared.block.ActorRead.{ActorRead}
use Rattle.fc_entry.specs.HistoryState.{place_of_name, with_actor}
use Rattle.fc_entry.specs.declared.entry.Entry.{Entry}
use Rattle.fc_legal.specs.Agenda.{Agenda, Begins, Session, Own, Seconds, Faults, Actors}
use Rattle.fc_legal.specs.Legal.{IsLegal, IsNamed, IsNext, AreSteps}
use Rattle.fc_legal.specs.Scripts.{names_with}
use Rattle.fc_legal.specs.Steps.{Step}
use Rattle.fc_legal.specs.Whole.{Whole}

-- ---- names come at the end

-- These names, and more behind them.
pub record HasMore (names named : List (List ℕ)) : Type 0 where
  pub more : List (List ℕ)
  pub is : named ≡ names ++ more

one_name : (names : List (List ℕ)) (name : List ℕ) (known : Bool) → HasMore names (cond known names (names ++ name ∷ []))
one_name names name true = record { more = []; is = sym (append-nil names) }
one_name names name false = record { more = name ∷ []; is = refl }

pub names_more : (names : List (List ℕ)) (actors : List ActorRead) → HasMore names (names_with names actors)
names_more names [] = record { more = []; is = sym (append-nil names) }
names_more names (a ∷ actors) =
    let one : HasMore names (with_actor names a.name) = one_name names a.name (is_some (place_of_name names a.name)) in
    let rest : HasMore (with_actor names a.name) (names_with (with_actor names a.name) actors) = names_more (with_actor names a.name) actors in
    record {
      more = one.more ++ rest.more;
      is = rest.is ∙ ap (λ known. known ++ rest.more) one.is ∙ append_assoc names one.more rest.more;
    }

pub IsNamed-none : (w : Whole) → IsNamed w w
IsNamed-none w = record { more = []; named = ap (λ (names : List (List ℕ)). record w { actors = names }) (sym (append-nil w.actors)) }

pub IsNamed-append : (u v w : Whole) → IsNamed u v → IsNamed v w → IsNamed u w
IsNamed-append u v w first second =
    record {
      more = first.more ++ second.more;
      named =
          second.named
          ∙ ap (λ (x : Whole). record x { actors = x.actors ++ second.more }) first.named
          ∙ ap (λ (names : List (List ℕ)). record u { actors = names }) (append_assoc u.actors first.more second.more);
    }

-- ---- the actors of a block

pub begins_named : (grain : GrainSize) (a b : Agenda) (w v : Whole) → Begins grain a w b v → IsNamed w v
begins_named grain (Faults [] actors segs) b w v on =
    let has : HasMore w.actors (names_with w.actors actors) = names_more w.actors actors in
    record { more = has.more; named = on.0 ∙ ap (λ (names : List (List ℕ)). record w { actors = names }) has.is }
begins_named grain (Faults (request ∷ rest) actors segs) b w v on = absurd on
begins_named grain (Session segs) b w v on = absurd on
begins_named grain (Own requests behind segs) b w v on = absurd on
begins_named grain (Seconds p segs) b w v on = absurd on
begins_named grain (Actors scripts segs) b w v on = absurd on

-- ---- legal histories

-- What is legal after names came is legal with them.
pub IsLegal-named :
    (grain : GrainSize) (u w last : Whole) (xs : List Entry) →
    IsNamed u w →
    IsLegal grain w xs last →
    IsLegal grain u xs last
IsLegal-named grain u w last [] named legal = IsNamed-append u w last named legal
IsLegal-named grain u w last (x ∷ xs) named legal =
    (legal.0, record { before = legal.1.before; named = IsNamed-append u w legal.1.before named legal.1.named; step = legal.1.step }, legal.2)

-- An entry that is right at once.
pub IsNext-step : (grain : GrainSize) (w next : Whole) (entry : Entry) → Step grain w entry next → IsNext grain w entry next
IsNext-step grain w next entry step = record { before = w; named = IsNamed-none w; step = step }

pub IsLegal-steps :
    (grain : GrainSize) (w last : Whole) (xs : List Entry) →
    AreSteps grain w xs last →
    IsLegal grain w xs last
IsLegal-steps grain w last [] steps =
    let P : Whole → Type 0 = λ v. IsNamed w v in
    subst P (sym steps) (IsNamed-none w)
IsLegal-steps grain w last (x ∷ xs) steps =
    (steps.0, IsNext-step grain w steps.0 x steps.1, IsLegal-steps grain steps.0 last xs steps.2)
