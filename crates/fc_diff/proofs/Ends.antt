-- One note more at the end of the list.
use Rattle.std.proofs.Common.{◌≡◌, ℕ, Bool, true, false, ◌||◌, cond, List, [], ◌∷◌, ◌++◌, reverse, find, nat_eq, Option, Some, None, is_some, refl, ap, sym, ◌∙◌}
use Rattle.std.specs.List.{list_any}
use Rattle.std.specs.Option.{option_and_then}
use Rattle.std.proofs.lemmas.List.{reverse-append}
use Rattle.std.proofs.lemmas.List.Folds.{list_any-append}
use Rattle.std.proofs.lemmas.Bool.{true≢false}
use Rattle.fc_changed.specs.Notes.{Note}
use Rattle.fc_changed.specs.Notes.Note.{Began, Wrote, Left, Cut, Forgotten}
use Rattle.fc_changed.specs.Changed.{behind_last, last, follows, forgets, story, joins_them, target_of, is_volume, is_last_target}

pub or_false : (b : Bool) → (b || false) ≡ b
or_false true = refl
or_false false = refl

pub or_true : (b : Bool) → (b || true) ≡ true
or_true true = refl
or_true false = refl

pub any_push : (p : Note → Bool) (notes : List Note) (note : Note) → list_any p (notes ++ note ∷ []) ≡ (list_any p notes || p note)
any_push p notes note = list_any-append p notes (note ∷ []) ∙ ap (λ b. list_any p notes || b) (or_false (p note))

pub last_push : (p : Note → Bool) (notes : List Note) (note : Note) → last p (notes ++ note ∷ []) ≡ cond (p note) (Some note) (last p notes)
last_push p notes note = ap (find p) (reverse-append notes (note ∷ []))

pub behind_push_yes : (p : Note → Bool) (notes : List Note) (note : Note) → p note ≡ true → behind_last p (notes ++ note ∷ []) ≡ []
behind_push_yes p [] note e = rw e refl
behind_push_yes p (n ∷ notes) note e =
    let any : list_any p (notes ++ note ∷ []) ≡ true = any_push p notes note ∙ (ap (λ b. list_any p notes || b) e ∙ or_true (list_any p notes)) in
    rw any (behind_push_yes p notes note e)

pub behind_push_no : (p : Note → Bool) (notes : List Note) (note : Note) → p note ≡ false → list_any p notes ≡ true → behind_last p (notes ++ note ∷ []) ≡ behind_last p notes ++ note ∷ []
behind_push_no p [] note e there = cc
behind_push_no p (n ∷ notes) note e there = by (list_any p notes) refl (p n) refl there (behind_push_no p notes note e)
  where
    same : list_any p (notes ++ note ∷ []) ≡ list_any p notes
    same = any_push p notes note ∙ (ap (λ b. list_any p notes || b) e ∙ or_false (list_any p notes))

    by : (b : Bool) → list_any p notes ≡ b → (c : Bool) → p n ≡ c → (c || list_any p notes) ≡ true → (list_any p notes ≡ true → behind_last p (notes ++ note ∷ []) ≡ behind_last p notes ++ note ∷ []) → behind_last p (n ∷ notes ++ note ∷ []) ≡ behind_last p (n ∷ notes) ++ note ∷ []
    by true some c g h rest = rw (same, some) (rest some)
    by false none true g h rest = rw (same, none, g) refl
    by false none false g h rest = absurd (true≢false (sym h ∙ none))

-- ---- the story of a mapping

abbrev pub longer_story : ℕ → Note → List Note → List Note
longer_story m note [] = cond (follows m note) (note ∷ []) []
longer_story m note (n ∷ notes) = n ∷ (notes ++ note ∷ [])

not_both : (m : ℕ) (note : Note) → forgets m note ≡ true → follows m note ≡ false
not_both m (Began map source target followed) e = cc
not_both m (Wrote volume grain) e = refl
not_both m (Left target held) e = refl
not_both m (Cut target) e = refl
not_both m (Forgotten map) e = refl

pub story_push : (m : ℕ) (notes : List Note) (note : Note) → story m (notes ++ note ∷ []) ≡ cond (forgets m note) [] (longer_story m note (story m notes))
story_push m [] note = by (forgets m note) refl
  where
    by : (b : Bool) → forgets m note ≡ b → cond (follows m note) (note ∷ []) [] ≡ cond (forgets m note) [] (cond (follows m note) (note ∷ []) [])
    by true e = rw (e, not_both m note e) refl
    by false e = rw e refl
story_push m (n ∷ notes) note = by (forgets m note) refl (list_any (forgets m) notes) refl (follows m n) refl (story_push m notes note)
  where
    any : list_any (forgets m) (notes ++ note ∷ []) ≡ (list_any (forgets m) notes || forgets m note)
    any = any_push (forgets m) notes note

    by : (a : Bool) → forgets m note ≡ a → (b : Bool) → list_any (forgets m) notes ≡ b → (c : Bool) → follows m n ≡ c
        → story m (notes ++ note ∷ []) ≡ cond (forgets m note) [] (longer_story m note (story m notes))
        → story m (n ∷ notes ++ note ∷ []) ≡ cond (forgets m note) [] (longer_story m note (story m (n ∷ notes)))
    by true e b f c g rest =
        let some : list_any (forgets m) (notes ++ note ∷ []) ≡ true = any ∙ (ap (λ z. list_any (forgets m) notes || z) e ∙ or_true (list_any (forgets m) notes)) in
        rw (some, e) (rw e at rest)
    by false e true f c g rest =
        let some : list_any (forgets m) (notes ++ note ∷ []) ≡ true = any ∙ ap (λ z. z || forgets m note) f in
        rw (some, f) rest
    by false e false f true g rest =
        let none : list_any (forgets m) (notes ++ note ∷ []) ≡ false = any ∙ (λ k. f k || e k) in
        rw (none, f, g, e) refl
    by false e false f false g rest =
        let none : list_any (forgets m) (notes ++ note ∷ []) ≡ false = any ∙ (λ k. f k || e k) in
        rw (none, f, g) rest

-- a story begins where its mapping is followed
abbrev pub IsStory : ℕ → List Note → Type 0
IsStory m [] = Unit {0}
IsStory m (n ∷ notes) = follows m n ≡ true

pub story_shape : (m : ℕ) (notes : List Note) → IsStory m (story m notes)
story_shape m [] = tt
story_shape m (n ∷ notes) = by (list_any (forgets m) notes) refl (follows m n) refl (story_shape m notes)
  where
    by : (b : Bool) → list_any (forgets m) notes ≡ b → (c : Bool) → follows m n ≡ c → IsStory m (story m notes) → IsStory m (story m (n ∷ notes))
    by true e c f rest = rw e rest
    by false e true f rest = rw (e, f) f
    by false e false f rest = rw (e, f) rest

-- ---- the target of the last trigger that joined the two volumes

-- 0 where none did
abbrev pub or_none : Option ℕ → ℕ
or_none None = 0
or_none (Some target) = target

abbrev pub last_target : (a b : ℕ) → List Note → ℕ
last_target a b notes = or_none (option_and_then target_of (last (joins_them a b) notes))

joining_target : (a b : ℕ) (note : Note) → joins_them a b note ≡ true → is_some (target_of note) ≡ true
joining_target a b (Began map source target followed) e = refl
joining_target a b (Wrote volume grain) e = cc
joining_target a b (Left target held) e = cc
joining_target a b (Cut target) e = cc
joining_target a b (Forgotten map) e = cc

found_target : (a b : ℕ) (notes : List Note) → list_any (joins_them a b) notes ≡ true → is_some (option_and_then target_of (find (joins_them a b) notes)) ≡ true
found_target a b [] e = cc
found_target a b (n ∷ notes) e = by (joins_them a b n) refl e (found_target a b notes)
  where
    by : (c : Bool) → joins_them a b n ≡ c → (c || list_any (joins_them a b) notes) ≡ true → (list_any (joins_them a b) notes ≡ true → is_some (option_and_then target_of (find (joins_them a b) notes)) ≡ true) → is_some (option_and_then target_of (find (joins_them a b) (n ∷ notes))) ≡ true
    by true f g rest = rw f (joining_target a b n f)
    by false f g rest = rw f (rest g)

any_reverse : (p : Note → Bool) (notes : List Note) → list_any p notes ≡ true → list_any p (reverse notes) ≡ true
any_reverse p [] e = cc
any_reverse p (n ∷ notes) e = ap (list_any p) (reverse-append (n ∷ []) notes) ∙ (any_push p (reverse notes) n ∙ by (p n) (list_any p notes) refl e (any_reverse p notes))
  where
    by : (b c : Bool) → list_any p notes ≡ c → (b || c) ≡ true → (list_any p notes ≡ true → list_any p (reverse notes) ≡ true) → (list_any p (reverse notes) || b) ≡ true
    by true c f g rest = or_true (list_any p (reverse notes))
    by false true f g rest = ap (λ z. z || false) (rest f)
    by false false f g rest = cc

pub own_is : (a b : ℕ) (notes : List Note) (volume : ℕ) → list_any (joins_them a b) notes ≡ true → is_last_target a b notes volume ≡ nat_eq (last_target a b notes) volume
own_is a b notes volume e = by (option_and_then target_of (last (joins_them a b) notes)) (found_target a b (reverse notes) (any_reverse (joins_them a b) notes e))
  where
    by : (o : Option ℕ) → is_some o ≡ true → is_volume o volume ≡ nat_eq (or_none o) volume
    by None f = cc
    by (Some target) f = refl
