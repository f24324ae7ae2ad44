-- Entries as two histories number their actors.
use Rattle.std.proofs.Common.{◌≡◌, ℕ, Some, All, List, [], ◌∷◌, ◌++◌, slice_index_or, refl, ap}
use Rattle.std.proofs.lemmas.List.Elements.{All-head, All-tail, AllZip-push}
use Rattle.fc_check_answers.proofs.Naming.{named_before, still_named}
use Rattle.fc_check_answers.specs.Places.{AreAs}
use Rattle.fc_check_lines.proofs.Known.{IsKnownAs}
use Rattle.fc_entry.specs.HistoryState.{place_of_name}
use Rattle.fc_entry.specs.declared.entry.Entry.{Entry}
use Rattle.fc_legal.proofs.Naming.{HasMore}

-- One entry as the other.
abbrev pub IsAs : List (List ℕ) → List (List ℕ) → Entry → Entry → Type 0
IsAs own names t e = (e ≡ record t { actor = e.actor }) × (place_of_name names (slice_index_or own t.actor []) ≡ Some e.actor)

-- They stay so where more names come behind.
pub as_later : (own names all : List (List ℕ)) (told entries : List Entry) → HasMore names all → AreAs own names told entries → AreAs own all told entries
as_later own names all [] [] has so = so
as_later own names all [] (e ∷ es) has so = absurd so
as_later own names all (t ∷ ts) [] has so = absurd so
as_later own names all (t ∷ ts) (e ∷ es) has so =
    ((so.0.0, still_named names all (slice_index_or own t.actor []) e.actor has so.0.1), as_later own names all ts es has so.1)

-- They were so before those came, where all numbers were known.
pub as_before : (own names all : List (List ℕ)) (told entries : List Entry) → HasMore names all → All (λ (e : Entry). IsKnownAs names e.actor) entries →
    AreAs own all told entries → AreAs own names told entries
as_before own names all [] [] has known so = so
as_before own names all [] (e ∷ es) has known so = absurd so
as_before own names all (t ∷ ts) [] has known so = absurd so
as_before own names all (t ∷ ts) (e ∷ es) has known so =
    let IsKnown : Entry → Type 0 = λ x. IsKnownAs names x.actor in (
      (so.0.0, named_before names all (slice_index_or own t.actor []) e.actor has (All-head IsKnown e es known) so.0.1),
      as_before own names all ts es has (All-tail IsKnown e es known) so.1,
    )

-- ---- one more

pub as_pushed : (own names : List (List ℕ)) (told entries : List Entry) (t e : Entry) → AreAs own names told entries → IsAs own names t e →
    AreAs own names (told ++ t ∷ []) (entries ++ e ∷ [])
as_pushed own names told entries t e so last = AllZip-push (IsAs own names) told entries t e so last

-- The last is as the last, and those before it are as those before.
pub record IsPushed (own names : List (List ℕ)) (told entries : List Entry) (t : Entry) : Type 0 where
  pub before : List Entry
  pub last : Entry
  pub is : entries ≡ before ++ last ∷ []
  pub same : AreAs own names told before
  pub same_last : IsAs own names t last

pub pushed_as : (own names : List (List ℕ)) (told entries : List Entry) (t : Entry) → AreAs own names (told ++ t ∷ []) entries → IsPushed own names told entries t
pushed_as own names [] [] t so = absurd so
pushed_as own names [] (e ∷ []) t so = record { before = []; last = e; is = refl; same = tt; same_last = so.0 }
pushed_as own names [] (e ∷ x ∷ es) t so = absurd so.1
pushed_as own names (first ∷ ts) [] t so = absurd so
pushed_as own names (first ∷ ts) (e ∷ es) t so =
    let rest : IsPushed own names ts es t = pushed_as own names ts es t so.1 in
    record { before = e ∷ rest.before; last = rest.last; is = ap (λ xs. e ∷ xs) rest.is; same = (so.0, rest.same); same_last = rest.same_last }

-- None are as none.
pub none_as : (own names : List (List ℕ)) (entries : List Entry) → AreAs own names [] entries → entries ≡ []
none_as own names [] so = refl
none_as own names (e ∷ es) so = absurd so
