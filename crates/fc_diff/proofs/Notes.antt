-- What one note does to the row of one mapping, that is what the notes tell of it.
use Rattle.std.proofs.Common.{◌≡◌, ℕ, Bool, true, false, not, ◌&&◌, ◌||◌, cond, List, [], ◌∷◌, ◌++◌, length, replicate, nat_eq, Option, Some, None, option_map, refl, ap, sym, ◌∙◌, arith}
use Rattle.std.specs.List.{list_any}
use Rattle.std.specs.Option.{option_and_then}
use Rattle.std.proofs.lemmas.Bool.{true≢false}
use Rattle.std.proofs.lemmas.Bool.Decides.{nat_tests}
use Rattle.fc_changed.specs.Notes.{Note, has, grains_with, joins, names}
use Rattle.fc_changed.specs.Notes.Note.{Began, Wrote, Left, Cut, Forgotten}
use Rattle.fc_changed.specs.Changed.{behind_last, last, forgets, joins_them, target_of, is_volume, is_last_target, differs, is_same}
use Rattle.fc_changed.specs.Row.{Row, row_began, row_wrote, row_left, row_cut, with_all, with_none}
use Rattle.fc_diff.proofs.Sets.{length-grains_with, get_or-grains_with, grains_same, grains_all, grains_cleared}
use Rattle.fc_diff.proofs.Ends.{any_push, last_push, behind_push_yes, behind_push_no, longer_story, IsStory, or_none, last_target, own_is}

-- what the notes tell of the row of a mapping, from its first trigger on
abbrev pub row_of : (m a b n : ℕ) → List Note → Row
row_of m a b n notes = record { map = m; source = a; target = b; into = last_target a b notes; same = grains_with (is_same a b notes) n }

abbrev pub row_told : List Note → Option Row
row_told (Began m a b (Some n) ∷ notes) = Some (row_of m a b n (Began m a b (Some n) ∷ notes))
row_told notes = None

-- what a note does to a row
abbrev pub row_note : Note → Row → Row
row_note (Began m source target followed) row = row_began source target row
row_note (Wrote volume grain) row = row_wrote volume grain row
row_note (Left target held) row = row_left target held row
row_note (Cut target) row = row_cut target row
row_note (Forgotten m) row = row

abbrev row_with : (m a b into : ℕ) → List Bool → Row
row_with m a b into same = record { map = m; source = a; target = b; into = into; same = same }

same_row : (m a b i i' : ℕ) (s s' : List Bool) → i ≡ i' → s ≡ s' → row_with m a b i s ≡ row_with m a b i' s'
same_row m a b i i' s s' e f = λ k. row_with m a b (e k) (f k)

and_true : (b : Bool) → (b && true) ≡ b
and_true true = refl
and_true false = refl

and_false : (b : Bool) → (b && false) ≡ false
and_false true = refl
and_false false = refl

not_or : (x y : Bool) → not (x || y) ≡ (not x && not y)
not_or true y = refl
not_or false y = refl

not_not : (x : Bool) → not (not x) ≡ x
not_not true = refl
not_not false = refl

-- ---- a note that is no trigger that joins the two volumes
module _ (m a b n : ℕ) (tale : List Note) (joined : list_any (joins_them a b) tale ≡ true) (note : Note) (apart : joins_them a b note ≡ false) where
  last_same : last (joins_them a b) (tale ++ note ∷ []) ≡ last (joins_them a b) tale
  last_same = last_push (joins_them a b) tale note ∙ ap (λ z. cond z (Some note) (last (joins_them a b) tale)) apart

  pub into_same : last_target a b (tale ++ note ∷ []) ≡ last_target a b tale
  into_same = ap (λ o. or_none (option_and_then target_of o)) last_same

  pub same_more : (g : ℕ) → is_same a b (tale ++ note ∷ []) g ≡ (is_same a b tale g && not (differs a b (is_last_target a b tale) g note))
  same_more g =
      (λ k. not (list_any (differs a b (λ v. is_volume (option_and_then target_of (last_same k)) v) g) (behind_push_no (joins_them a b) tale note apart joined k)))
      ∙ (ap not (any_push (differs a b (is_last_target a b tale) g) (behind_last (joins_them a b) tale) note)
      ∙ not_or (list_any (differs a b (is_last_target a b tale) g) (behind_last (joins_them a b) tale)) (differs a b (is_last_target a b tale) g note))

  -- it tells nothing
  pub row_same : ((g : ℕ) → differs a b (is_last_target a b tale) g note ≡ false) → row_of m a b n (tale ++ note ∷ []) ≡ row_of m a b n tale
  row_same none = same_row m a b _ _ _ _ into_same
      (grains_same n (is_same a b (tale ++ note ∷ [])) (is_same a b tale)
      (λ g below. same_more g ∙ (ap (λ z. is_same a b tale g && not z) (none g) ∙ and_true (is_same a b tale g))))

  -- it tells of all grains
  pub row_none : ((g : ℕ) → differs a b (is_last_target a b tale) g note ≡ true) → row_of m a b n (tale ++ note ∷ []) ≡ with_none (row_of m a b n tale)
  row_none all = same_row m a b _ _ _ _ into_same
      (grains_all n (length (grains_with (is_same a b tale) n)) (is_same a b (tale ++ note ∷ [])) false (sym (length-grains_with (is_same a b tale) n))
      (λ g. same_more g ∙ (ap (λ z. is_same a b tale g && not z) (all g) ∙ and_false (is_same a b tale g))))

-- ---- each note
module _ (m a b n : ℕ) (tale : List Note) (joined : list_any (joins_them a b) tale ≡ true) where
  push_wrote : (volume grain : ℕ) → row_of m a b n (tale ++ Wrote volume grain ∷ []) ≡ row_wrote volume grain (row_of m a b n tale)
  push_wrote volume grain = by (names a b volume) refl
    where
      by : (c : Bool) → names a b volume ≡ c → row_of m a b n (tale ++ Wrote volume grain ∷ []) ≡ row_wrote volume grain (row_of m a b n tale)
      by true e = rw e (same_row m a b _ _ _ _ (into_same m a b n tale joined (Wrote volume grain) refl)
          (grains_same n (is_same a b (tale ++ Wrote volume grain ∷ [])) (λ g. is_same a b tale g && not (nat_eq g grain))
          (λ g below. same_more m a b n tale joined (Wrote volume grain) refl g ∙ ap (λ z. is_same a b tale g && not (z && nat_eq g grain)) e)
          ∙ grains_cleared n grain (is_same a b tale)))
      by false e = rw e (row_same m a b n tale joined (Wrote volume grain) refl (λ g. ap (λ z. z && nat_eq g grain) e))

  push_left : (target : ℕ) (held : List Bool) → row_of m a b n (tale ++ Left target held ∷ []) ≡ row_left target held (row_of m a b n tale)
  push_left target held = by (names a b target) refl
    where
      size : n ≡ length (grains_with (is_same a b tale) n)
      size = sym (length-grains_with (is_same a b tale) n)

      by : (c : Bool) → names a b target ≡ c → row_of m a b n (tale ++ Left target held ∷ []) ≡ row_left target held (row_of m a b n tale)
      by true e = rw e (same_row m a b _ _ _ _ (into_same m a b n tale joined (Left target held) refl)
          (grains_same n (is_same a b (tale ++ Left target held ∷ [])) (λ g. has (grains_with (is_same a b tale) n) g && has held g)
          (λ g below. same_more m a b n tale joined (Left target held) refl g
          ∙ (ap (λ z. is_same a b tale g && not (z && not (has held g))) e
          ∙ (λ k. sym (get_or-grains_with (is_same a b tale) n g false below) k && not_not (has held g) k)))
          ∙ ap (grains_with (λ g. has (grains_with (is_same a b tale) n) g && has held g)) size))
      by false e = rw e (row_same m a b n tale joined (Left target held) refl (λ g. ap (λ z. z && not (has held g)) e))

  push_cut : (target : ℕ) → row_of m a b n (tale ++ Cut target ∷ []) ≡ row_cut target (row_of m a b n tale)
  push_cut target = by (names a b target && not (nat_eq (last_target a b tale) target)) refl
    where
      told : (names a b target && not (is_last_target a b tale target)) ≡ (names a b target && not (nat_eq (last_target a b tale) target))
      told = ap (λ z. names a b target && not z) (own_is a b tale target joined)

      by : (c : Bool) → (names a b target && not (nat_eq (last_target a b tale) target)) ≡ c → row_of m a b n (tale ++ Cut target ∷ []) ≡ row_cut target (row_of m a b n tale)
      by true e = row_none m a b n tale joined (Cut target) refl (λ g. told ∙ e) ∙ ap (λ z. cond z (with_none (row_of m a b n tale)) (row_of m a b n tale)) (sym e)
      by false e = row_same m a b n tale joined (Cut target) refl (λ g. told ∙ e) ∙ ap (λ z. cond z (with_none (row_of m a b n tale)) (row_of m a b n tale)) (sym e)

  push_began : (p source target : ℕ) (followed : Option ℕ) → row_of m a b n (tale ++ Began p source target followed ∷ []) ≡ row_began source target (row_of m a b n tale)
  push_began p source target followed = by (joins a b source target) refl
    where
      note : Note
      note = Began p source target followed

      named : joins a b source target ≡ false → (c : Bool) → names a b target ≡ c → row_of m a b n (tale ++ note ∷ []) ≡ cond c (with_none (row_of m a b n tale)) (row_of m a b n tale)
      named e true f = row_none m a b n tale joined note e (λ g k. f k && not (e k))
      named e false f = row_same m a b n tale joined note e (λ g. ap (λ z. z && not (joins a b source target)) f)

      by : (c : Bool) → joins a b source target ≡ c → row_of m a b n (tale ++ note ∷ []) ≡ row_began source target (row_of m a b n tale)
      by true e =
          same_row m a b _ _ _ _
          (ap (λ o. or_none (option_and_then target_of o)) (last_push (joins_them a b) tale note ∙ ap (λ z. cond z (Some note) (last (joins_them a b) tale)) e))
          (grains_all n (length (grains_with (is_same a b tale) n)) (is_same a b (tale ++ note ∷ [])) true (sym (length-grains_with (is_same a b tale) n))
          (λ g. ap (λ (xs : List Note). not (list_any (differs a b (is_last_target a b (tale ++ note ∷ [])) g) xs)) (behind_push_yes (joins_them a b) tale note e)))
          ∙ ap (λ z. cond z (record (with_all (row_of m a b n tale)) { into = target }) (cond (names a b target) (with_none (row_of m a b n tale)) (row_of m a b n tale))) (sym e)
      by false e =
          named e (names a b target) refl
          ∙ ap (λ z. cond z (record (with_all (row_of m a b n tale)) { into = target }) (cond (names a b target) (with_none (row_of m a b n tale)) (row_of m a b n tale))) (sym e)

  pub row_push : (note : Note) → row_of m a b n (tale ++ note ∷ []) ≡ row_note note (row_of m a b n tale)
  row_push (Began p source target followed) = push_began p source target followed
  row_push (Wrote volume grain) = push_wrote volume grain
  row_push (Left target held) = push_left target held
  row_push (Cut target) = push_cut target
  row_push (Forgotten p) = row_same m a b n tale joined (Forgotten p) refl (λ g. refl)

-- ---- the row of one mapping, if it is followed

abbrev pub new_row : (m source target grains : ℕ) → Row
new_row m source target grains = record { map = m; source = source; target = target; into = target; same = replicate grains true }

abbrev pub new_step : (m p source target : ℕ) → Option ℕ → Option Row
new_step m p source target None = None
new_step m p source target (Some grains) = cond (nat_eq m p) (Some (new_row p source target grains)) None

abbrev pub row_step : ℕ → Note → Option Row → Option Row
row_step m (Began p source target followed) None = new_step m p source target followed
row_step m (Began p source target followed) (Some row) = Some (row_began source target row)
row_step m (Wrote volume grain) row = option_map (row_wrote volume grain) row
row_step m (Left target held) row = option_map (row_left target held) row
row_step m (Cut target) row = option_map (row_cut target) row
row_step m (Forgotten p) row = cond (nat_eq m p) None row

eq_same : (a : ℕ) → nat_eq a a ≡ true
eq_same a = grind (arith, nat_tests)

own_joins : (a b : ℕ) → joins a b a b ≡ true
own_joins a b = rw (eq_same a, eq_same b) refl

new_told : (m a b n : ℕ) → row_of m a b n (Began m a b (Some n) ∷ []) ≡ new_row m a b n
new_told m a b n = same_row m a b _ _ _ _
    (ap (λ z. or_none (option_and_then target_of (cond z (Some (Began m a b (Some n))) None))) (own_joins a b))
    (grains_all n n (is_same a b (Began m a b (Some n) ∷ [])) true refl
    (λ g. ap (λ z. not (list_any (differs a b (is_last_target a b (Began m a b (Some n) ∷ [])) g) (cond z [] []))) (own_joins a b)))

told_first : (m : ℕ) (note : Note) → row_told (cond (forgets m note) [] (longer_story m note [])) ≡ row_step m note None
told_first m (Began p source target None) = by (nat_eq m p)
  where
    by : (c : Bool) → row_told (cond (c && false) (Began p source target None ∷ []) []) ≡ None
    by true = refl
    by false = refl
told_first m (Began p source target (Some n)) = by (nat_eq m p)
  where
    by : (c : Bool) → row_told (cond (c && true) (Began p source target (Some n) ∷ []) []) ≡ cond c (Some (new_row p source target n)) None
    by true = ap Some (new_told p source target n)
    by false = refl
told_first m (Wrote volume grain) = refl
told_first m (Left target held) = refl
told_first m (Cut target) = refl
told_first m (Forgotten p) = by (nat_eq m p)
  where
    by : (c : Bool) → row_told (cond c [] []) ≡ cond c None None
    by true = refl
    by false = refl

told_later : (m p a b n : ℕ) (notes : List Note) (note : Note) → row_told (cond (forgets m note) [] (longer_story m note (Began p a b (Some n) ∷ notes))) ≡ row_step m note (row_told (Began p a b (Some n) ∷ notes))
told_later m p a b n notes note = by note
  where
    joined : list_any (joins_them a b) (Began p a b (Some n) ∷ notes) ≡ true
    joined = ap (λ z. z || list_any (joins_them a b) notes) (own_joins a b)

    push : (x : Note) → row_of p a b n (Began p a b (Some n) ∷ (notes ++ x ∷ [])) ≡ row_note x (row_of p a b n (Began p a b (Some n) ∷ notes))
    push x = row_push p a b n (Began p a b (Some n) ∷ notes) joined x

    by : (x : Note) → row_told (cond (forgets m x) [] (longer_story m x (Began p a b (Some n) ∷ notes))) ≡ row_step m x (row_told (Began p a b (Some n) ∷ notes))
    by (Began q source target followed) = ap Some (push (Began q source target followed))
    by (Wrote volume grain) = ap Some (push (Wrote volume grain))
    by (Left target held) = ap Some (push (Left target held))
    by (Cut target) = ap Some (push (Cut target))
    by (Forgotten q) = gone (nat_eq m q)
      where
        gone : (c : Bool) → row_told (cond c [] (Began p a b (Some n) ∷ (notes ++ Forgotten q ∷ []))) ≡ cond c None (Some (row_of p a b n (Began p a b (Some n) ∷ notes)))
        gone true = refl
        gone false = ap Some (push (Forgotten q))

pub told_push : (m : ℕ) (note : Note) (tale : List Note) → IsStory m tale → row_told (cond (forgets m note) [] (longer_story m note tale)) ≡ row_step m note (row_told tale)
told_push m note [] shape = told_first m note
told_push m note (Began p a b (Some n) ∷ notes) shape = told_later m p a b n notes note
told_push m note (Began p a b None ∷ notes) shape = absurd (true≢false (sym shape ∙ and_false (nat_eq m p)))
told_push m note (Wrote volume grain ∷ notes) shape = absurd (true≢false (sym shape))
told_push m note (Left target held ∷ notes) shape = absurd (true≢false (sym shape))
told_push m note (Cut target ∷ notes) shape = absurd (true≢false (sym shape))
told_push m note (Forgotten p ∷ notes) shape = absurd (true≢false (sym shape))
