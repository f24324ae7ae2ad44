-- The names of some actors among others.
use Rattle.std.proofs.Common.{◌≡◌, ℕ, ◌+◌, ◌<◌, Bool, true, false, List, [], ◌∷◌, ◌++◌, length, map, take, cond, fold, slice_index_or, refl, ◌∙◌, sym, ap}
use Rattle.fc_blocks.specs.declared.block.ActorRead.{ActorRead}
use Rattle.fc_entry.specs.HistoryState.{place_of_name, with_actor}
use Rattle.fc_legal.specs.Scripts.{names_with}
use Rattle.std.specs.Option.{is_some}
use Rattle.std.proofs.lemmas.List.{append_assoc, append-nil, map-append, take_more}
use Rattle.std.proofs.lemmas.List.Sums.{fold_push}

abbrev name_of : ActorRead → List ℕ
name_of actor = actor.name

-- One more stands behind them, or among them.
one_more : (b : Bool) (names : List (List ℕ)) (name : List ℕ) → (more : List (List ℕ)) × (cond b names (names ++ name ∷ []) ≡ names ++ more)
one_more true names name = ([], sym (append-nil names))
one_more false names name = (name ∷ [], refl)

-- Names only come behind those that were there.
come_behind : (names xs : List (List ℕ)) → (more : List (List ℕ)) × (fold with_actor names xs ≡ names ++ more)
come_behind names [] = ([], sym (append-nil names))
come_behind names (x ∷ xs) =
    let one = one_more (is_some (place_of_name names x)) names x in
    let rest = come_behind (with_actor names x) xs in
    (one.0 ++ rest.0, rest.1 ∙ ap (λ ys. ys ++ rest.0) one.1 ∙ append_assoc names one.0 rest.0)

pub names_come : (names : List (List ℕ)) (actors : List ActorRead) → (more : List (List ℕ)) × (names_with names actors ≡ names ++ more)
names_come names actors = come_behind names (map name_of actors)

-- The name of the next actor comes behind those of the actors before it.
pub next_name :
    (names : List (List ℕ)) (actors : List ActorRead) (i : ℕ) (d : ActorRead) →
    i < length actors →
    names_with names (take (i + 1) actors) ≡ with_actor (names_with names (take i actors)) (slice_index_or actors i d).name
next_name names actors i d below =
    ap (λ xs. names_with names xs) (take_more actors i d below)
    ∙ ap (fold with_actor names) (map-append name_of (take i actors) (slice_index_or actors i d ∷ []))
    ∙ fold_push with_actor names (map name_of (take i actors)) (slice_index_or actors i d).name
