-- The names of a session's actors: more come behind those that are there, and whoever has asked has one.
use Rattle.std.proofs.Common.{◌≡◌, ℕ, Bool, Some, All, List, [], ◌∷◌, ◌++◌, get_or, bytes_eq, sym, ◌∙◌, ap, subst}
use Rattle.std.proofs.lemmas.List.{append-nil, append_assoc}
use Rattle.std.proofs.lemmas.List.Elements.{All-cons, All-nil}
use Rattle.std.proofs.lemmas.List.Quantifiers.{position-Some}
use Rattle.std.proofs.lemmas.Slice.Eq.{bytes_eq-Decides}
use Rattle.fc_agenda.specs.Goes.{Goes, stays, passes, begins, answers}
use Rattle.fc_base.specs.declared.size.GrainSize.{GrainSize}
use Rattle.fc_check_answers.proofs.Laws.{names as names_law}
use Rattle.fc_check_lines.proofs.Known.{IsKnownAs, Known, goes_known, number_known}
use Rattle.fc_check_requests.proofs.Places.{place_kept}
use Rattle.fc_entry.specs.HistoryState.{place_of_name}
use Rattle.fc_entry.specs.declared.entry.Entry.{Entry}
use Rattle.fc_legal.proofs.Naming.{HasMore, begins_named}
use Rattle.fc_legal.specs.Agenda.{Agenda, Begins, Reading, behind_entry, session_rules}
use Rattle.fc_legal.specs.Legal.{IsNamed}
use Rattle.fc_legal.specs.Whole.{Whole}

-- ---- a name and its number

abbrev is_name : List ℕ → List ℕ → Bool
is_name name known = bytes_eq known name

no_more : (names : List (List ℕ)) → HasMore names names
no_more names = record { more = []; is = sym (append-nil names) }

more_yet : (names some all : List (List ℕ)) → HasMore names some → HasMore some all → HasMore names all
more_yet names some all has then =
    record { more = has.more ++ then.more; is = then.is ∙ ap (λ ns. ns ++ then.more) has.is ∙ append_assoc names has.more then.more }

-- It stays where more names come.
pub still_named : (names all : List (List ℕ)) (name : List ℕ) (n : ℕ) → HasMore names all → place_of_name names name ≡ Some n → place_of_name all name ≡ Some n
still_named names all name n has at = ap (λ ns. place_of_name ns name) has.is ∙ place_kept (is_name name) names has.more n at

one_name : (names : List (List ℕ)) (one other : List ℕ) (n : ℕ) → place_of_name names one ≡ Some n → place_of_name names other ≡ Some n → one ≡ other
one_name names one other n at at' =
    let first = position-Some (is_name one) names n [] at in
    let second = position-Some (is_name other) names n [] at' in
    sym ((bytes_eq-Decides (get_or names n []) one).0 first.1) ∙ (bytes_eq-Decides (get_or names n []) other).0 second.1

-- A number that a name has already is that of the name that has it later.
pub named_before : (names all : List (List ℕ)) (name : List ℕ) (n : ℕ) → HasMore names all → IsKnownAs names n → place_of_name all name ≡ Some n → place_of_name names name ≡ Some n
named_before names all name n has known at =
    let P : List ℕ → Type 0 = λ x. place_of_name names x ≡ Some n in
    subst P (one_name all known.name name n (still_named names all known.name n has known.place) at) known.place

-- ---- from entry to entry

module _ (grain : GrainSize) (read : Reading) where
  begins_more : (a b : Agenda) (w v : Whole) → Begins grain a w b v → HasMore w.actors v.actors
  begins_more a b w v on =
      let named : IsNamed w v = begins_named grain a b w v on in
      record { more = named.more; is = ap (λ (x : Whole). x.actors) named.named }

  pub goes_more : (a b : Agenda) (w v : Whole) (entries : List Entry) → Goes (session_rules grain read) a w entries b v → HasMore w.actors v.actors
  goes_more a b w v entries stays = no_more w.actors
  goes_more a b w v entries (passes {b = c} on way) = goes_more c b w v entries way
  goes_more a b w v entries (begins {b = c} {v = u} on way) = more_yet w.actors u.actors v.actors (begins_more a c w u on) (goes_more c b u v entries way)
  goes_more a b w v entries (answers {next = next} {entry = entry} {entries = rest} asked right way) =
      let P : List (List ℕ) → Type 0 = λ names. HasMore names v.actors in
      subst P (names_law.kept grain w entry next right) (goes_more (behind_entry grain a next entry) b next v rest way)

  still_known : (names all : List (List ℕ)) (n : ℕ) → HasMore names all → IsKnownAs names n → IsKnownAs all n
  still_known names all n has known = record { name = known.name; place = still_named names all known.name n has known.place }

  pub all_known : (a b : Agenda) (w v : Whole) (entries : List Entry) → Known a w.actors → Goes (session_rules grain read) a w entries b v →
      All (λ (e : Entry). IsKnownAs v.actors e.actor) entries
  all_known a b w v entries known stays = All-nil (λ (e : Entry). IsKnownAs w.actors e.actor)
  all_known a b w v entries known (passes {b = c} on way) = all_known c b w v entries (goes_known grain read a c w w [] known (passes on stays)) way
  all_known a b w v entries known (begins {b = c} {v = u} on way) = all_known c b u v entries (goes_known grain read a c w u [] known (begins on stays)) way
  all_known a b w v entries known (answers {next = next} {entry = entry} {entries = rest} asked right way) =
      let then : Agenda = behind_entry grain a next entry in
      let more : HasMore w.actors v.actors = goes_more a b w v (entry ∷ rest) (answers asked right way) in
      let now : Known then next.actors = goes_known grain read a then w next (entry ∷ []) known (answers asked right stays) in
      All-cons (λ (e : Entry). IsKnownAs v.actors e.actor) entry rest
      (still_known w.actors v.actors entry.actor more (number_known grain read a w entry.actor entry.request known asked))
      (all_known then b next v rest now way)
