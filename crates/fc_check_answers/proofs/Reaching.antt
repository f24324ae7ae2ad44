-- Where one entry more leads to.
use Rattle.std.proofs.Common.{◌≡◌, ◌⊎◌, ℕ, Some, Option, Contains, List, [], ◌∷◌, ◌++◌, codes, inl, inr, length, slice_index_or, unwrap_or, refl, sym, ◌∙◌, ap, subst}
use Rattle.std.proofs.lemmas.List.Elements.{Contains-push, Contains-push_cases}
use Rattle.fc_agenda.specs.Goes.{Goes}
use Rattle.fc_base.specs.declared.request.Request.{Request}
use Rattle.fc_base.specs.declared.size.GrainSize.{GrainSize}
use Rattle.fc_blocks.specs.Segments.{Segment}
use Rattle.fc_check_answers.proofs.Actors.{step_by}
use Rattle.fc_check_answers.proofs.Coming.{none_there}
use Rattle.fc_check_answers.proofs.Laws.{lines, names as names_law}
use Rattle.fc_check_answers.proofs.Naming.{all_known, goes_more, named_before, still_named}
use Rattle.fc_check_answers.proofs.Pairing.{IsPushed, as_before, as_later, as_pushed, none_as, pushed_as}
use Rattle.fc_check_answers.specs.Places.{AreAllPlaces, IsLedTo, Place}
use Rattle.fc_check_answers.specs.Runs.{AreNext, GoesOn, OneGives}
use Rattle.fc_check_lines.proofs.Known.{IsKnownAs, Known, goes_known, main_first, number_known}
use Rattle.fc_check_lines.specs.Asked.{entry_by}
use Rattle.fc_check_lines.specs.Bytes.{by_grammar}
use Rattle.fc_check_lines.specs.Law.{IsOneMore}
use Rattle.fc_check_lines.specs.Leading.{LeadTo}
use Rattle.fc_entry.specs.HistoryState.{number_of_actor, place_of_name}
use Rattle.fc_entry.specs.declared.entry.Entry.{Entry}
use Rattle.fc_legal.proofs.Naming.{HasMore}
use Rattle.fc_legal.specs.Agenda.{Agenda, Asks, Session, behind_entry, session_rules}
use Rattle.fc_legal.specs.Steps.{Step}
use Rattle.fc_legal.specs.Whole.{Whole}

-- The number of a name that has a place.
placed : (ns : List (List ℕ)) (name : List ℕ) (n : ℕ) → place_of_name ns name ≡ Some n → number_of_actor ns name ≡ n
placed ns name n at = ap (λ (o : Option ℕ). unwrap_or o (length ns)) at

-- A place is told by its parts.
pub same_place : (p q : Place) → p.told ≡ q.told → p.agenda ≡ q.agenda → p ≡ q
same_place p q told agenda = ap (λ (w : Whole). record p { told = w }) told ∙ ap (λ a. record q { agenda = a }) agenda

module _ (grain : GrainSize) (start : Whole) (segs : List Segment) where
  abbrev Way : Agenda → Whole → List Entry → Agenda → Whole → Type 0
  Way a w entries b v = Goes (session_rules grain by_grammar) a w entries b v

  abbrev Leads : Agenda → Whole → List Entry → Place → Type 0
  Leads a w entries p = LeadTo grain by_grammar a w entries p.agenda p.told

  abbrev Led : List (List ℕ) → List Entry → Place → Type 0
  Led own told p = IsLedTo grain start segs own told p

  -- ---- before the first entry

  pub first_places : (own : List (List ℕ)) (p : Place) → Leads (Session segs) start [] p → AreAllPlaces grain start segs own [] (p ∷ [])
  first_places own p leads = record {
    only = λ q there. only q (Contains-push_cases [] p q there);
    all = λ q led. all q led (none_as own q.told.actors led.entries led.same);
  }
    where
      only : (q : Place) → Contains [] q ⊎ (p ≡ q) → Led own [] q
      only q (inl there) = absurd (none_there q there)
      only q (inr same) = subst (Led own []) same (record { entries = []; same = tt; leads = leads })

      all : (q : Place) (led : Led own [] q) → led.entries ≡ [] → Contains (p ∷ []) q
      all q led none =
          let one : (p.agenda ≡ q.agenda) × (p.told ≡ q.told) = lines.one grain by_grammar (Session segs) p.agenda q.agenda start p.told q.told leads (subst (λ es. Leads (Session segs) start es q) none led.leads) in
          subst (λ (x : Place). Contains (p ∷ []) x) (same_place p q one.1 one.0) (Contains-push [] p)

  -- ---- an entry leads on

  module _ (own : List (List ℕ)) (told : List Entry) (entry : Entry) (name : List ℕ) (is_name : slice_index_or own entry.actor [] ≡ name) where
    led_on : (p q : Place) → Led own told p → GoesOn grain name entry p q → Led own (told ++ entry ∷ []) q
    led_on p q led on =
        let e : Entry = entry_by p.told.actors name entry in
        let number : e.actor ≡ on.asked.actor = placed p.told.actors name on.asked.actor on.asked.place in
        let place : place_of_name p.told.actors name ≡ Some e.actor = on.asked.place ∙ ap Some (sym number) in
        let kept : on.next.actors ≡ p.told.actors = names_law.kept grain p.told entry on.next on.step in
        let leads : Leads (behind_entry grain p.agenda on.next e) on.next [] q = subst (λ ns. Leads (behind_entry grain p.agenda on.next (entry_by ns name entry)) on.next [] q) kept on.leads in
        let more : HasMore p.told.actors q.told.actors =
        subst (λ ns. HasMore ns q.told.actors) kept (goes_more grain by_grammar (behind_entry grain p.agenda on.next e) q.agenda on.next q.told [] leads.goes) in
        let one : IsOneMore grain by_grammar (Session segs) start led.entries e q.agenda q.told =
        record {
          at = p.agenda;
          told = p.told;
          next = on.next;
          leads = led.leads;
          asks = subst (λ n. Asks grain p.agenda p.told (n, entry.request)) (sym number) on.asked.asks;
          right = step_by e.actor entry grain p.told on.next on.step;
          behind = leads.goes;
        }
        in
        record {
          entries = led.entries ++ e ∷ [];
          same =
              as_pushed own q.told.actors told led.entries entry e (as_later own p.told.actors q.told.actors told led.entries more led.same)
              (refl, still_named p.told.actors q.told.actors (slice_index_or own entry.actor []) e.actor more (ap (place_of_name p.told.actors) is_name ∙ place));
          leads = record { goes = lines.more grain by_grammar (Session segs) q.agenda start q.told led.entries e one; waits = leads.waits };
        }

    module _ (main : start.actors ≡ codes "main" ∷ []) where
      -- A place that leads on to this one.
      record IsLedFrom (q : Place) : Type 0 where
        pub from : Place
        pub led : Led own told from
        pub goes : GoesOn grain name entry from q

      first_known : Known (Session segs) start.actors
      first_known = subst (Known (Session segs)) (sym main) (record { main = main_first []; actors = tt })

      module _ (q : Place) (led : Led own (told ++ entry ∷ []) q) (pushed : IsPushed own q.told.actors told led.entries entry)
          (one : IsOneMore grain by_grammar (Session segs) start pushed.before pushed.last q.agenda q.told) where
        kept : one.next.actors ≡ one.told.actors
        kept = names_law.kept grain one.told pushed.last one.next one.right

        more : HasMore one.told.actors q.told.actors
        more = subst (λ ns. HasMore ns q.told.actors) kept (goes_more grain by_grammar (behind_entry grain one.at one.next pushed.last) q.agenda one.next q.told [] one.behind)

        known : IsKnownAs one.told.actors pushed.last.actor
        known = number_known grain by_grammar one.at one.told pushed.last.actor pushed.last.request
            (goes_known grain by_grammar (Session segs) one.at start one.told pushed.before first_known one.leads.goes) one.asks

        place : place_of_name one.told.actors name ≡ Some pushed.last.actor
        place = named_before one.told.actors q.told.actors name pushed.last.actor more known (ap (place_of_name q.told.actors) (sym is_name) ∙ pushed.same_last.1)

        -- as the session numbers its actor
        last_is : entry_by one.next.actors name entry ≡ pushed.last
        last_is =
            ap (λ ns. entry_by ns name entry) kept
            ∙ ap (λ n. record entry { actor = n }) (placed one.told.actors name pushed.last.actor place)
            ∙ sym pushed.same_last.0

        led_from : IsLedFrom q
        led_from = record {
          from = record { told = one.told; agenda = one.at };
          led = record {
            entries = pushed.before;
            same = as_before own one.told.actors q.told.actors told pushed.before more (all_known grain by_grammar (Session segs) one.at start one.told pushed.before first_known one.leads.goes) pushed.same;
            leads = one.leads;
          };
          goes = record {
            asked = record {
              actor = pushed.last.actor;
              place = place;
              asks = subst (λ (r : Request). Asks grain one.at one.told (pushed.last.actor, r)) (ap (λ (x : Entry). x.request) pushed.same_last.0) one.asks;
            };
            next = one.next;
            step = step_by entry.actor (record entry { actor = pushed.last.actor }) grain one.told one.next (subst (λ (x : Entry). Step grain one.told x one.next) pushed.same_last.0 one.right);
            leads = record {
              goes = subst (λ (x : Entry). Way (behind_entry grain one.at one.next x) one.next [] q.agenda q.told) (sym last_is) one.behind;
              waits = led.leads.waits;
            };
          };
        }

      one_from : (q : Place) → Led own (told ++ entry ∷ []) q → IsLedFrom q
      one_from q led =
          let pushed : IsPushed own q.told.actors told led.entries entry = pushed_as own q.told.actors told led.entries entry led.same in
          led_from q led pushed
          (lines.only grain by_grammar (Session segs) q.agenda start q.told pushed.before pushed.last (subst (λ es. Way (Session segs) start es q.agenda q.told) pushed.is led.leads.goes))

      -- Where places were all that the entries lead to, the next are all that one more leads to.
      pub next_places : (old new : List Place) → AreNext grain name entry old new → AreAllPlaces grain start segs own told old → AreAllPlaces grain start segs own (told ++ entry ∷ []) new
      next_places old new next were = record { only = λ q there. of_one q (next.only q there); all = λ q led. from_one q (one_from q led) }
        where
          of_one : (q : Place) → OneGives (GoesOn grain name entry) old q → Led own (told ++ entry ∷ []) q
          of_one q gives = led_on gives.0 q (were.only gives.0 gives.1) gives.2

          from_one : (q : Place) → IsLedFrom q → Contains new q
          from_one q one = next.all q (one.from, were.all one.from one.led, one.goes)

  -- Where entries lead to a place, those before the last led to one.
  pub led_back : (own : List (List ℕ)) (told : List Entry) (t : Entry) (p : Place) → start.actors ≡ codes "main" ∷ [] → Led own (told ++ t ∷ []) p → (q : Place) × Led own told q
  led_back own told t p main led =
      let one : IsLedFrom own told t (slice_index_or own t.actor []) refl main p = one_from own told t (slice_index_or own t.actor []) refl main p led in
      (one.from, one.led)
