-- Entries and a session: where they are the first of a run, they lead somewhere; and all places that they lead to answer whether they are.
use Rattle.std.proofs.Common.{◌≡◌, ◌≢◌, ℕ, Contains, List, [], ◌∷◌, ◌++◌, take, drop, refl, sym, subst, append_assoc, arith}
use Rattle.std.proofs.lemmas.List.{append-nil, take-append-drop}
use Rattle.fc_agenda.proofs.Going.{Goes-append, GoesSome-whole}
use Rattle.fc_agenda.specs.Goes.{Goes, stays}
use Rattle.fc_base.specs.declared.size.GrainSize.{GrainSize}
use Rattle.fc_check_answers.proofs.Actors.{step_by}
use Rattle.fc_check_answers.proofs.Naming.{goes_more}
use Rattle.fc_check_answers.proofs.Pairing.{as_later}
use Rattle.fc_check_answers.proofs.Reaching.{led_back}
use Rattle.fc_check_answers.specs.Places.{AreAllPlaces, AreAs, HasEnd, IsLedTo, Place}
use Rattle.fc_check_follow.specs.Ways.{pools_told}
use Rattle.fc_check_lines.proofs.Lawful.{lines_law_holds}
use Rattle.fc_check_lines.specs.Bytes.{by_grammar, segments_in}
use Rattle.fc_check_lines.specs.Leading.{LeadTo}
use Rattle.fc_entry.specs.declared.entry.Entry.{Entry}
use Rattle.fc_legal.proofs.Appending.{IsLegal-goes}
use Rattle.fc_legal.specs.Agenda.{Agenda, Session, session_rules}
use Rattle.fc_legal.specs.Legal.{IsLegal}
use Rattle.fc_legal.specs.Steps.{Step}
use Rattle.fc_legal.specs.Whole.{Whole, opened}
use Rattle.fc_trace.specs.declared.header.Header.{Header}
use Rattle.fc_check.proofs.Finite.{Ends, ends}
use Rattle.fc_check.specs.Verdict.{StandFirst, StandWhole}

-- ---- where entries lead

abbrev opened_by : Header → Whole
opened_by header = opened (pools_told header.lanes)

module _ (header : Header) (own : List (List ℕ)) (session : List ℕ) where
  abbrev Led : List Entry → Place → Type 0
  Led told p = IsLedTo header.grain (opened_by header) (segments_in session) own told p

  pub first_of_led : (told : List Entry) (p : Place) → Led told p → StandFirst header own session told
  first_of_led told p led = record {
    entries = led.entries;
    last = p.told;
    same = led.same;
    run = lines_law_holds.some header.grain by_grammar (Session (segments_in session)) p.agenda (opened_by header) p.told led.entries led.leads;
  }

  pub led_of_first : (told : List Entry) → StandFirst header own session told → (p : Place) × Led told p
  led_of_first told first =
      let start : Agenda = Session (segments_in session) in
      let on : Ends header.grain by_grammar first.run.end first.last = ends header.grain by_grammar first.run.end first.last in
      let P : List Entry → Type 0 = λ entries. Goes (session_rules header.grain by_grammar) start (opened_by header) entries on.end on.last in
      let goes : P first.entries =
      subst P (append-nil first.entries)
      (
      Goes-append (session_rules header.grain by_grammar) start first.run.end on.end (opened_by header) first.last on.last first.entries []
      first.run.goes on.leads.goes
      ) in (
        record { told = on.last; agenda = on.end },
        record {
          entries = first.entries;
          same =
              as_later own first.last.actors on.last.actors told first.entries (goes_more header.grain by_grammar first.run.end on.end first.last on.last [] on.leads.goes)
              first.same;
          leads = record { goes = goes; waits = on.leads.waits };
        },
      )

  pub whole_of_led : (told : List Entry) (p : Place) → Led told p → p.agenda ≡ Session [] → StandWhole header own session told
  whole_of_led told p led over =
      let leads : LeadTo header.grain by_grammar (Session (segments_in session)) (opened_by header) led.entries (Session []) p.told =
      subst (λ (a : Agenda). LeadTo header.grain by_grammar (Session (segments_in session)) (opened_by header) led.entries a p.told) over led.leads in
      record {
        entries = led.entries;
        last = p.told;
        same = led.same;
        run = lines_law_holds.to_end header.grain by_grammar (Session (segments_in session)) (opened_by header) p.told led.entries leads;
      }

  pub led_of_whole : (told : List Entry) (whole : StandWhole header own session told) → Led told (record { told = whole.last; agenda = Session [] })
  led_of_whole told whole = record {
    entries = whole.entries;
    same = whole.same;
    leads = lines_law_holds.whole header.grain by_grammar (Session (segments_in session)) (opened_by header) whole.last whole.entries whole.run;
  }

  -- ---- the first of them

  pub first_of_whole : (told : List Entry) → StandWhole header own session told → StandFirst header own session told
  first_of_whole told whole = record {
    entries = whole.entries;
    last = whole.last;
    same = whole.same;
    run = GoesSome-whole (session_rules header.grain by_grammar) (Session (segments_in session)) (opened_by header) whole.last whole.entries whole.run;
  }

  one_fewer : (told : List Entry) (t : Entry) → StandFirst header own session (told ++ t ∷ []) → StandFirst header own session told
  one_fewer told t first =
      let p = led_of_first (told ++ t ∷ []) first in
      let q = led_back header.grain (opened_by header) (segments_in session) own told t p.0 refl p.1 in
      first_of_led told q.0 q.1

  first_front : (told more : List Entry) → StandFirst header own session (told ++ more) → StandFirst header own session told
  first_front told [] first = subst (StandFirst header own session) (append-nil told) first
  first_front told (t ∷ more) first =
      one_fewer told t (first_front (told ++ t ∷ []) more (subst (StandFirst header own session) (sym (append_assoc told (t ∷ []) more)) first))

  pub first_taken : (told : List Entry) (count : ℕ) → StandFirst header own session told → StandFirst header own session (take count told)
  first_taken told count first =
      first_front (take count told) (drop count told) (subst (StandFirst header own session) (sym (take-append-drop count told)) first)

  -- ---- by all places

  first_place : (p : Place) (places : List Place) → Contains (p ∷ places) p
  first_place p places = (0, omega arith, refl)

  no_place : (p : Place) → Contains [] p → ⊥
  no_place p (k, there, e) = omega arith

  abbrev AllLed : List Entry → List Place → Type 0
  AllLed told places = AreAllPlaces header.grain (opened_by header) (segments_in session) own told places

  pub first_where_some : (told : List Entry) (places : List Place) → AllLed told places → places ≢ [] → StandFirst header own session told
  first_where_some told [] all some = absurd (some refl)
  first_where_some told (p ∷ places) all some = first_of_led told p (all.only p (first_place p places))

  pub none_where_none : (told : List Entry) (places : List Place) → AllLed told places → places ≡ [] → StandFirst header own session told → ⊥
  none_where_none told places all none first =
      let p = led_of_first told first in
      no_place p.0 (subst (λ (l : List Place). Contains l p.0) none (all.all p.0 p.1))

  pub whole_where_end : (told : List Entry) (places : List Place) → AllLed told places → HasEnd places → StandWhole header own session told
  whole_where_end told places all end = whole_of_led told end.place (all.only end.place end.there) end.over

  pub end_where_whole : (told : List Entry) (places : List Place) → AllLed told places → StandWhole header own session told → HasEnd places
  end_where_whole told places all whole =
      let p : Place = record { told = whole.last; agenda = Session [] } in
      record { place = p; there = all.all p (led_of_whole told whole); over = refl }

-- ---- they are legal

-- whatever the numbers of their actors are
legal_as : (grain : GrainSize) (own names : List (List ℕ)) (w last : Whole) (told entries : List Entry) → AreAs own names told entries → IsLegal grain w entries last → IsLegal grain w told last
legal_as grain own names w last [] [] same legal = legal
legal_as grain own names w last [] (e ∷ entries) same legal = absurd same
legal_as grain own names w last (t ∷ told) [] same legal = absurd same
legal_as grain own names w last (t ∷ told) (e ∷ entries) same legal =
    let before : Whole = legal.1.before in
    let step : Step grain before t legal.0 =
    step_by t.actor (record t { actor = e.actor }) grain before legal.0 (subst (λ (x : Entry). Step grain before x legal.0) same.0.0 legal.1.step) in
    (legal.0, record { before = before; named = legal.1.named; step = step }, legal_as grain own names legal.0 last told entries same.1 legal.2)

pub legal_of_first : (header : Header) (own : List (List ℕ)) (session : List ℕ) (told : List Entry) → StandFirst header own session told → (last : Whole) × IsLegal header.grain (opened_by header) told last
legal_of_first header own session told first =
    let start : Agenda = Session (segments_in session) in (
      first.last,
      legal_as header.grain own first.last.actors (opened_by header) first.last told first.entries first.same
          (IsLegal-goes header.grain by_grammar start first.run.end (opened_by header) first.last first.entries first.run.goes),
    )

-- ---- before the first entry

pub first_none : (header : Header) (own : List (List ℕ)) (session : List ℕ) → StandFirst header own session []
first_none header own session = record {
  entries = [];
  last = opened_by header;
  same = tt;
  run = record { end = Session (segments_in session); goes = stays };
}
