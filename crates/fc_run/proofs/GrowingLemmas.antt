-- A history that grows, and the texts of the entries that it had.
use Rattle.std.proofs.Common.{◌≡◌, ℕ, zero, suc, Bool, false, ◌<◌, ◌≤◌, List, [], ◌∷◌, ◌++◌, length, get_or, take, refl, sym, ◌∙◌, ap, subst, append_assoc}
use Rattle.std.proofs.lemmas.List.{append-nil, get_or_append_left, take-append-le}
use Rattle.std.proofs.lemmas.List.Elements.{recursion_from_All}
use Rattle.std.specs.List.{AllByRecursion as ByRecursion, flat_map}
use Rattle.fc_entry.specs.declared.entry.Entry.{Entry}
use Rattle.fc_entry.specs.HistoryState.{HistoryState}
use Rattle.fc_entry.specs.Text.{HasNames, text_by}
use Rattle.fc_io.specs.Sink.{SinkState}
use Rattle.fc_trace.specs.Trace.{traced_by}
use Rattle.fc_run.specs.Output.{HasGot, IsPut, text_so_far}
use Rattle.fc_run.specs.Runs.{GrowsTo}
use Rattle.fc_run.specs.declared.form.Form.{Form}
use Rattle.fc_run.specs.declared.form.Form.TheVariants as form

pub GrowsTo-same : (history : HistoryState) → GrowsTo history history
GrowsTo-same history = record {
  names = [];
  entries = [];
  actors_are = sym (append-nil history.actors);
  entries_are = sym (append-nil history.entries);
}

pub GrowsTo-then : (a b c : HistoryState) → GrowsTo a b → GrowsTo b c → GrowsTo a c
GrowsTo-then a b c first next = record {
  names = first.names ++ next.names;
  entries = first.entries ++ next.entries;
  actors_are = next.actors_are ∙ ap (λ l. l ++ next.names) first.actors_are ∙ append_assoc a.actors first.names next.names;
  entries_are = next.entries_are ∙ ap (λ l. l ++ next.entries) first.entries_are ∙ append_assoc a.entries first.entries next.entries;
}

-- the text of an entry in some form, by the names of actors
abbrev pub by_name : (List ℕ → Entry → List ℕ) → List (List ℕ) → Entry → List ℕ
by_name by actors entry = by (get_or actors entry.actor []) entry

-- the texts of entries whose actors had names already
texts-more :
    (by : List ℕ → Entry → List ℕ) (actors names : List (List ℕ)) (entries : List Entry) →
    ByRecursion (λ entry. entry.actor < length actors) entries →
    flat_map (by_name by (actors ++ names)) entries ≡ flat_map (by_name by actors) entries
texts-more by actors names [] named = refl
texts-more by actors names (entry ∷ entries) named =
    ap (λ t. t ++ flat_map (by_name by (actors ++ names)) entries)
    (ap (λ actor. by actor entry) (get_or_append_left actors names [] entry.actor named.0))
    ∙ ap (λ t. by_name by actors entry ++ t) (texts-more by actors names entries named.1)

all-take : {X : Type 0} (P : X → Type 0) (n : ℕ) (xs : List X) → ByRecursion P xs → ByRecursion P (take n xs)
all-take P zero [] all = tt
all-take P zero (x ∷ xs) all = tt
all-take P (suc n) [] all = tt
all-take P (suc n) (x ∷ xs) all = (all.0, all-take P n xs all.1)

first_texts-grow :
    (by : List ℕ → Entry → List ℕ) (put : ℕ) (old new : HistoryState) →
    HasNames old →
    put ≤ length old.entries →
    GrowsTo old new →
    flat_map (by_name by new.actors) (take put new.entries) ≡ flat_map (by_name by old.actors) (take put old.entries)
first_texts-grow by put old new named within grows =
    ap (λ entries. flat_map (by_name by new.actors) (take put entries)) grows.entries_are
    ∙ ap (flat_map (by_name by new.actors)) (take-append-le put old.entries grows.entries within)
    ∙ ap (λ actors. flat_map (by_name by actors) (take put old.entries)) grows.actors_are
    ∙ texts-more by old.actors grows.names (take put old.entries)
    (all-take (λ entry. entry.actor < length old.actors) put old.entries
    (recursion_from_All (λ entry. entry.actor < length old.actors) old.entries named))

-- the text of the first entries stays what it is
pub text_so_far-grows :
    (of : Form) (put : ℕ) (old new : HistoryState) →
    HasNames old →
    put ≤ length old.entries →
    GrowsTo old new →
    text_so_far of put new ≡ text_so_far of put old
text_so_far-grows form.Summary put old new named within grows = refl
text_so_far-grows form.Text put old new named within grows = first_texts-grow text_by put old new named within grows
text_so_far-grows (form.Trace header) put old new named within grows = first_texts-grow traced_by put old new named within grows

-- what the sink got is still the text of the first entries
pub HasGot-grows :
    (before now : SinkState) (of : Form) (put : ℕ) (old new : HistoryState) →
    HasNames old →
    put ≤ length old.entries →
    GrowsTo old new →
    HasGot before (text_so_far of put old) now →
    HasGot before (text_so_far of put new) now
HasGot-grows before now of put old new named within grows =
    let P : List ℕ → Type 0 = λ text. HasGot before text now in
    subst P (sym (text_so_far-grows of put old new named within grows))

-- entries were added, which aren't put yet
pub IsPut-added :
    (before now : SinkState) (of : Form) (put : ℕ) (old new : HistoryState) →
    HasNames old →
    put ≤ length old.entries →
    GrowsTo old new →
    HasGot before (text_so_far of put old) now →
    IsPut before of put new false now
IsPut-added before now of put old new named within grows got =
    record { got = HasGot-grows before now of put old new named within grows got; cut = tt }

-- entries were added, and then put, or not all of them
pub IsPut-turned :
    (before now after : SinkState) (of same : Form) (put more : ℕ) (old new : HistoryState) (answer failed : Bool) →
    same ≡ of →
    answer ≡ failed →
    HasNames old →
    put ≤ length old.entries →
    GrowsTo old new →
    HasGot before (text_so_far of put old) now →
    ((start : SinkState) → HasGot start (text_so_far same put new) now → IsPut start same more new answer after) →
    IsPut before of more new failed after
IsPut-turned before now after of same put more old new answer failed is ends named within grows got puts =
    let P : Form → Type 0 = λ f. HasGot before (text_so_far f put new) now → IsPut before f more new failed after in
    let Q : Bool → Type 0 = λ b. HasGot before (text_so_far same put new) now → IsPut before same more new b after in
    subst P is (subst Q ends (puts before)) (HasGot-grows before now of put old new named within grows got)
