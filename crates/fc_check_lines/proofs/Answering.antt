-- What is left of a session, as it is seen: what is asked by a name, what follows, and the end.
use Rattle.std.proofs.Common.{◌≡◌, ◌↔◌, ℕ, true, false, Bool, IsTrue, IfOk, Option, Some, None, Result, Ok, Err, List, [], refl, sym, ap₂, subst, ◌∙◌}
use Rattle.fc_base.specs.declared.request.Request.{Request}
use Rattle.fc_base.specs.declared.size.GrainSize.{GrainSize}
use Rattle.fc_blocks.specs.Segments.{Segment}
use Rattle.fc_check_lines.proofs.Standing.{is_over, over_is}
use Rattle.fc_check_lines.specs.Asked.{IsAskedBy, entry_by}
use Rattle.fc_check_lines.specs.Leading.{LeadTo}
use Rattle.fc_check_lines.specs.Standing.{IsLeftBehind, IsOverWith, Standing, TellsNext, agenda_of}
use Rattle.fc_check_lines.specs.declared.lines.Asking.{Asking}
use Rattle.fc_check_lines.specs.declared.lines.Asking.TheVariants.{Nothing}
use Rattle.fc_entry.specs.HistoryState.{number_of_actor, place_of_name}
use Rattle.fc_entry.specs.declared.entry.Entry.{Entry}
use Rattle.fc_legal.specs.Agenda.{Agenda, Asks, Reading, Session, behind_entry}
use Rattle.fc_legal.specs.Whole.{Whole}
use Rattle.law_stands.specs.Names.{named}

abbrev standing : List (List ℕ) → Agenda → Standing
standing names a = record { names = names; agenda = a }

-- these names, and what was begun with these segments behind it
abbrev pub seen : List (List ℕ) → Asking → List Segment → Standing
seen names asking segs = standing names (agenda_of asking segs)

module _ (grain : GrainSize) (w : Whole) (s : Standing) (names : List (List ℕ)) (asking : Asking) (segs : List Segment) where
  -- ---- by a name

  abbrev By : List ℕ → Request → Bool → Standing → Type 0
  By name request tells at = IsTrue tells ↔ IsAskedBy grain at.agenda (named at.names w) name request

  by_place : (name : List ℕ) (request : Request) (actor : ℕ) (tells : Bool) → place_of_name names name ≡ Some actor → TellsNext tells grain w asking actor request →
      By name request tells (seen names asking segs)
  by_place name request actor tells place says = (
    (λ t. record { actor = actor; place = place; asks = (says segs names).0 t }),
    (λ by.
        let both : Some by.actor ≡ Some actor = sym by.place ∙ place in
        let same : by.actor ≡ actor = cc both in
        let P : ℕ → Type 0 = λ k. Asks grain (agenda_of asking segs) (named names w) (k, request) in
        (says segs names).1 (subst P same by.asks)),
  )

  pub asked_by_place :
      {E : Type 0} (r : Result Bool E) (name : List ℕ) (request : Request) (actor : ℕ) →
      seen names asking segs ≡ s →
      place_of_name names name ≡ Some actor →
      IfOk r (λ tells. TellsNext tells grain w asking actor request) →
      IfOk r (λ tells. IsTrue tells ↔ IsAskedBy grain s.agenda (named s.names w) name request)
  asked_by_place (Ok tells) name request actor view place says = subst (By name request tells) view (by_place name request actor tells place says)
  asked_by_place (Err refused) name request actor view place says = tt

  pub asked_by_none : (name : List ℕ) (request : Request) → seen names asking segs ≡ s → place_of_name names name ≡ None →
      IsTrue false ↔ IsAskedBy grain s.agenda (named s.names w) name request
  asked_by_none name request view none =
      subst (By name request false) view (
        (λ t. absurd (cc t)),
        (λ by.
            let both : ◌≡◌ {A = Option ℕ} None (Some by.actor) = sym none ∙ by.place in
            absurd (cc both)),
      )

  -- ---- behind an entry

  pub followed :
      {E : Type 0} (r : Result Standing E) (read : Reading) (left : Asking) (name : List ℕ) (entry : Entry) (actor : ℕ) →
      seen names asking segs ≡ s →
      actor ≡ number_of_actor names name →
      IsLeftBehind grain w asking actor entry.reply left →
      IfOk r (λ lines. LeadTo grain read (agenda_of left segs) (named names w) [] lines.agenda (named lines.names w)) →
      IfOk r (λ lines. LeadTo grain read (behind_entry grain s.agenda (named s.names w) (entry_by s.names name entry)) (named s.names w) [] lines.agenda (named lines.names w))
  followed r read left name entry actor view number is_left waits =
      let P : Standing → Type 0 = λ at.
      IfOk r (λ (lines : Standing). LeadTo grain read (behind_entry grain at.agenda (named at.names w) (entry_by at.names name entry)) (named at.names w) [] lines.agenda (named lines.names w)) in
      let Q : Agenda → Type 0 = λ a. IfOk r (λ (lines : Standing). LeadTo grain read a (named names w) [] lines.agenda (named lines.names w)) in
      subst P view (subst Q (is_left (entry_by names name entry) segs names (sym number) refl) waits)

module _ (s : Standing) (names : List (List ℕ)) (asking : Asking) (segs : List Segment) where
  -- ---- the end

  abbrev Over : Bool → Standing → Type 0
  Over tells at = IsTrue tells ↔ (at.agenda ≡ Session [])

  pub tells_over : seen names asking segs ≡ s → IsOverWith asking segs → asking ≡ Nothing → IsTrue true ↔ (s.agenda ≡ Session [])
  tells_over view over nothing = subst (Over true) view ((λ t. over_is asking segs nothing over), (λ e. refl))

  pub tells_more : seen names asking segs ≡ s → (asking ≡ Nothing → ⊥) → IsTrue false ↔ (s.agenda ≡ Session [])
  tells_more view some = subst (Over false) view ((λ t. absurd (cc t)), (λ e. absurd (some (is_over asking segs e))))

  -- ---- the same again

  pub copied : (others : List (List ℕ)) (copy : Asking) → seen names asking segs ≡ s → others ≡ names → agenda_of copy segs ≡ agenda_of asking segs → seen others copy segs ≡ s
  copied others copy view names_are agenda_is = ap₂ standing names_are agenda_is ∙ view
