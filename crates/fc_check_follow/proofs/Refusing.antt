-- Ways behind entries of lanes, refused accesses and presets, and faulty lines.
use Rattle.std.proofs.Common.{◌≡◌, ◌∙◌, List, [], ◌∷◌, ◌++◌, Option, Some, None, Result, OnOk, refl, sym, ap, subst}
use Rattle.fc_base.specs.declared.fault.Refusal.{Refusal}
use Rattle.fc_base.specs.declared.size.GrainSize.{GrainSize}
use Rattle.fc_entry.specs.declared.entry.Entry.{Entry}
use Rattle.fc_legal.specs.Steps.{MustBeRefused, IsRefused, Step, one_more}
use Rattle.fc_legal.specs.Whole.{Whole}
use Rattle.fc_check_lane.specs.Next.{IsNext, IsOfLanes}
use Rattle.fc_check_record.specs.Judged.{Judged}
use Rattle.fc_check_follow.specs.Following.{Came, SaysRefused}
use Rattle.fc_check_follow.proofs.Coming.{came_none, came_one, way_of}

-- ---- lanes

pub lane_none : (way : Judged) (entry : Entry) (old : List Judged) → IsOfLanes entry.request → (IsNext way.grain way.whole entry → ⊥) → Came way.grain (Step way.grain way.whole entry) old old
lane_none way entry old of wrong = came_none way.grain (Step way.grain way.whole entry) old (λ next step. wrong (record { of_lanes = of; next = next; step = step }))

pub lane_one : (way next : Judged) (entry : Entry) (old new : List Judged) → IsNext way.grain way.whole entry → ((v : Whole) → Step way.grain way.whole entry v → next ≡ way_of way.grain v) →
    new ≡ old ++ next ∷ [] → Came way.grain (Step way.grain way.whole entry) old new
lane_one way next entry old new right after is =
    let one : next ≡ way_of way.grain right.next = after right.next right.step in
    came_one way.grain (Step way.grain way.whole entry) old new right.next (is ∙ ap (λ (j : Judged). old ++ j ∷ []) one) right.step
    (λ v step. ap (λ (j : Judged). j.whole) (sym (after v step) ∙ one))

-- ---- refusals

pub refusal_none : (way : Judged) (refusal : Refusal) (entry : Entry) (old : List Judged) → (SaysRefused refusal entry → ⊥) → Came way.grain (IsRefused refusal way.whole entry) old old
refusal_none way refusal entry old other =
    came_none way.grain (IsRefused refusal way.whole entry) old
    (λ next told. other (record { place = told.place; apart = told.apart; reply = told.reply; no_effects = told.no_effects }))

pub refusal_one : (way : Judged) (refusal : Refusal) (entry : Entry) (old new : List Judged) → SaysRefused refusal entry → new ≡ old ++ way_of way.grain (one_more way.whole) ∷ [] →
    Came way.grain (IsRefused refusal way.whole entry) old new
refusal_one way refusal entry old new says is =
    came_one way.grain (IsRefused refusal way.whole entry) old new (one_more way.whole) is
    (record { place = says.place; apart = says.apart; reply = says.reply; no_effects = says.no_effects; next_is = refl })
    (λ next told. told.next_is)

-- ---- accesses and presets

abbrev RefusalCame : GrainSize → Whole → Entry → List Judged → List Judged → Option Refusal → Type 0
RefusalCame grain w entry old new refusal = Came grain (MustBeRefused refusal w entry) old new

pub refused_some : (grain : GrainSize) (w : Whole) (entry : Entry) (old new : List Judged) (asked : Option Refusal) (refusal : Refusal) → asked ≡ Some refusal →
    Came grain (IsRefused refusal w entry) old new → Came grain (MustBeRefused asked w entry) old new
refused_some grain w entry old new asked refusal is came = subst (RefusalCame grain w entry old new) (sym is) came

pub refused_none : (grain : GrainSize) (w : Whole) (entry : Entry) (old : List Judged) (asked : Option Refusal) → asked ≡ None → Came grain (MustBeRefused asked w entry) old old
refused_none grain w entry old asked is =
    subst (RefusalCame grain w entry old old) (sym is) (came_none grain (MustBeRefused None w entry) old (λ next told. told))

pub asked_came : {T E : Type 0} (grain : GrainSize) (w : Whole) (entry : Entry) (old new : List Judged) (answer : Result T E) (refusal asked : Option Refusal) → refusal ≡ asked →
    OnOk answer (Came grain (MustBeRefused refusal w entry) old new) → OnOk answer (Came grain (MustBeRefused asked w entry) old new)
asked_came grain w entry old new answer refusal asked is came = subst (λ (r : Option Refusal). OnOk answer (RefusalCame grain w entry old new r)) is came
