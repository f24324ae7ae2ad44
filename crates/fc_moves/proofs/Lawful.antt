-- The law of moves.
use Rattle.std.proofs.Common.{◌≡◌, ◌≢◌, ℕ, ◌<◌, ◌≤◌, Bool, true, false, Option, Some, None, List, [], ◌∷◌, ◌++◌, reverse, map, refl, sym, ap, subst, ◌∙◌, arith, inl, inr}
use Rattle.std.proofs.lemmas.Bool.{cases_Bool, both_ways, false_from_ne_true}
use mathlib.Core.List.{reverse-cons, reverse-reverse}
use Rattle.fc_base.specs.Column.{Column, holder, first_reader, old_slots, old_holders}
use Rattle.fc_base.specs.Moves.{is_in, is_in_place, write_asks, next_behind, Must, moved, list_with_asked, list_all_with_asked, fill_moves, write_moves, after_moves, taken, written, torn}
use Rattle.fc_base.specs.OneByOne.{Progress, begin_at, fill_now, write_now}
use Rattle.fc_base.specs.RestoreGraph.{HasOneLive, HasNoLoop}
use Rattle.fc_base.specs.Safety.{shown, grains_after, grains_after_move, IsSafeMove, IsSafeWrite, HasHolders}
use Rattle.fc_moves.specs.Law.{marked_last_first, ListLaw, FillLaw, WriteLaw, MovesLaw}
use Rattle.fc_moves.proofs.Readers.{IsHolder, holder_is, is_holder, next_none}
use Rattle.fc_moves.proofs.Members.{in_cases, not_in_nil, WriteAsks, write_asks_parts, in_filter, in_old, in_filter_map}
use Rattle.fc_moves.proofs.Prefixes.{with_held, old_holder_before, reader_gone, next_gone, asked_between, moved_between, CanFollow, Fits, Fits.fits_none, Fits.fits_more, held_after, held_after_none, kept_after}
use Rattle.fc_moves.proofs.Listing.{list_all, list_all_comes, list_comes, list_ends, must_of_root, reached_root}
use Rattle.fc_moves.proofs.Filling.{progress, marked, moved_more, filled}
use Rattle.fc_moves.proofs.Writing.{Written, write_readers, written as write_made, start_same}
use Rattle.fc_moves.proofs.Lists.{in_reverse, in_reversed, split_back, split_back_all, fits_rest, fits_head, mark_there, after_is, grains_push, grains_none, fits_once, must_listed}
use Rattle.fc_moves.proofs.Shows.{shown_at, shows_from, move_shows, write_shows, torn_shows, torn_move_shows, torn_own_shows}

-- ---- each move is safe

safe_after : (c : Column) → HasOneLive c.shape → (done : List ℕ) (m : ℕ) → Fits c done → CanFollow c done m → IsSafeMove (with_held c (held_after c done)) m
safe_after c one done m fits can =
    let kept = kept_after c done fits in
    let h : ℕ → Bool = held_after c done in
    record {
      there = can.there;
      is_live = can.is_live;
      lacks = lacks_now c done m fits can;
      free = λ f k o kc kl km e v. free_now c one done m fits can f k o kc kl km e v;
    }
  where
    lacks_now : (c : Column) (done : List ℕ) (m : ℕ) → Fits c done → CanFollow c done m → held_after c done m ≡ false
    lacks_now c done m fits can =
        false_from_ne_true (held_after c done m) (λ t. elim ((kept_after c done fits).gained m t) [ inl g ↦ both_ways _ can.fresh g | inr was ↦ both_ways _ can.lacks was ])

    free_now : (c : Column) → HasOneLive c.shape → (done : List ℕ) (m : ℕ) → Fits c done → CanFollow c done m → is_in_place (with_held c (held_after c done)) m ≡ false →
        (k o : ℕ) → k < c.count → c.is_live k ≡ true → k ≢ m → holder (with_held c (held_after c done)) k ≡ Some o → c.volume o ≡ c.volume m → ⊥
    free_now c one done m fits can f k o kc kl km e v =
        let i = holder_is (with_held c (held_after c done)) k o e in
        elim (cases_Bool (c.is_live o)) [
          | inl live ↦ let b : o ≤ k = i.before in let mc : m < c.count = can.there in
              let same : o ≡ m = one o m (omega arith) mc live can.is_live v in
              both_ways _ (lacks_now c done m fits can) (ap (held_after c done) (sym same) ∙ i.holds)
          | inr old ↦ let was = old_holder_before c done (held_after c done) (kept_after c done fits) k o kc kl i old in
              let p = asked_between c done (held_after c done) (kept_after c done fits) m can (sym (mark_there c done m one fits can) ∙ f) k o kc kl was old v in
              moved_between c done (held_after c done) (kept_after c done fits) k o p.0 i p.2 p.3 p.4 p.1
        ]

-- ---- what the live slots show after each of them

-- who shows something, by a holder that is there
holder_there : {G : Type 0} (c x : Column) (grains now : ℕ → G) → HasHolders c → (k : ℕ) → k < c.count → c.is_live k ≡ true → shown x now k ≡ shown c grains k →
    (h : ℕ) × IsHolder x k h × (Some (now (x.volume h)) ≡ shown c grains k)
holder_there c x grains now has k kc kl e =
    let was = has k kc kl in
    let s : shown c grains k ≡ Some (grains (c.volume was.0)) = shown_at c grains k was.0 (holder_is c k was.0 was.1) in
    let p = shows_from x now k (grains (c.volume was.0)) (e ∙ s) in
    (p.0, p.1, ap Some p.2 ∙ sym s)

shows_more : {G : Type 0} (c : Column) → HasOneLive c.shape → (grains : ℕ → G) → HasHolders c → (before : List ℕ) (m : ℕ) → Fits c before → CanFollow c before m →
    ((k : ℕ) → k < c.count → c.is_live k ≡ true → shown (with_held c (held_after c before)) (grains_after c grains (reverse before)) k ≡ shown c grains k) →
    (k : ℕ) → k < c.count → c.is_live k ≡ true → shown (with_held c (held_after c (m ∷ before))) (grains_after c grains (reverse (m ∷ before))) k ≡ shown c grains k
shows_more c one grains has before m f can ih k kc kl =
    let x : Column = with_held c (held_after c before) in
    let p = holder_there c x grains (grains_after c grains (reverse before)) has k kc kl (ih k kc kl) in
    let column : with_held c (held_after c (m ∷ before)) ≡ moved x m (is_in_place x m) =
    sym (moved_more c m before) ∙ ap (moved x m) (sym (mark_there c before m one f can)) in
    let grown : grains_after c grains (reverse (m ∷ before)) ≡ grains_after_move x (grains_after c grains (reverse before)) m =
    ap (grains_after c grains) (reverse-cons m before) ∙ (grains_push c grains (reverse before) m ∙ ap (λ y. grains_after_move y (grains_after c grains (reverse before)) m) (after_is c before one f)) in
    ap (λ y. shown y (grains_after c grains (reverse (m ∷ before))) k) column ∙
    (ap (λ g. shown (moved x m (is_in_place x m)) g k) grown ∙
    (move_shows x (grains_after c grains (reverse before)) m k p.0 (safe_after c one before m f can) kc kl p.1 ∙ p.2))

shows_here : {G : Type 0} (c : Column) → HasOneLive c.shape → (grains : ℕ → G) → HasHolders c → (done : List ℕ) → Fits c done →
    (k : ℕ) → k < c.count → c.is_live k ≡ true → shown (with_held c (held_after c done)) (grains_after c grains (reverse done)) k ≡ shown c grains k
shows_here c one grains has done fits_none k kc kl =
    ap (λ (h : ℕ → Bool). shown (with_held c h) (grains_after c grains []) k) (held_after_none c) ∙ ap (λ g. shown c g k) (grains_none c grains)
shows_here c one grains has done (fits_more {m = m} {done = before} f can) k kc kl =
    shows_more c one grains has before m f can (λ j jc jl. shows_here c one grains has before f j jc jl) k kc kl

-- ---- the law on one list

record Cut (c : Column) (moves before : List ℕ) (m : ℕ) : Type 0 where
  fits : Fits c (reverse before)
  can : CanFollow c (reverse before) m
  column : after_moves c before ≡ with_held c (held_after c (reverse before))

column_of : (c : Column) → HasOneLive c.shape → (before : List ℕ) → Fits c (reverse before) → after_moves c before ≡ with_held c (held_after c (reverse before))
column_of c one before f = ap (after_moves c) (sym (reverse-reverse before)) ∙ after_is c (reverse before) one f

cut_at : (c : Column) → HasOneLive c.shape → (done : List ℕ) → Fits c done → (before rest : List ℕ) (m : ℕ) → reverse done ≡ before ++ m ∷ rest → Cut c (reverse done) before m
cut_at c one done f before rest m e =
    let g : Fits c (m ∷ reverse before) = fits_rest c (reverse rest) (m ∷ reverse before) (subst (λ (z : List ℕ). Fits c z) (split_back done before rest m e) f) in
    let b : Fits c (reverse before) = fits_rest c (m ∷ []) (reverse before) g in
    record { fits = b; can = fits_head c m (reverse before) (m ∷ reverse before) refl g; column = column_of c one before b }

shows_cut : {G : Type 0} (c : Column) → HasOneLive c.shape → (grains : ℕ → G) → HasHolders c → (before : List ℕ) → Fits c (reverse before) →
    (k : ℕ) → k < c.count → c.is_live k ≡ true → shown (with_held c (held_after c (reverse before))) (grains_after c grains before) k ≡ shown c grains k
shows_cut c one grains has before f k kc kl =
    ap (λ z. shown (with_held c (held_after c (reverse before))) (grains_after c grains z) k) (sym (reverse-reverse before)) ∙ shows_here c one grains has (reverse before) f k kc kl

torn_cut : (c : Column) → HasOneLive c.shape → (grains after : ℕ → Option (List ℕ)) → HasHolders c → (before : List ℕ) (m : ℕ) → Fits c (reverse before) → CanFollow c (reverse before) m →
    is_in_place c m ≡ false → ((v : ℕ) → v ≢ c.volume m → after v ≡ grains_after c grains before v) →
    (k : ℕ) → k < c.count → c.is_live k ≡ true → shown (torn (with_held c (held_after c (reverse before))) m false) after k ≡ shown c grains k
torn_cut c one grains after has before m f can place same k kc kl =
    let x : Column = with_held c (held_after c (reverse before)) in
    let p = holder_there c x grains (grains_after c grains before) has k kc kl (shows_cut c one grains has before f k kc kl) in
    torn_move_shows x (grains_after c grains before) after m k p.0 one (safe_after c one (reverse before) m f can) (mark_there c (reverse before) m one f can ∙ place) same kc kl p.1 ∙ p.2

list_law : (c : Column) → HasOneLive c.shape → (roots done : List ℕ) → Fits c done → ((x : ℕ) → is_in x done ≡ true → Must c roots x) → ((r : ℕ) → is_in r roots ≡ true → is_in r done ≡ true) →
    ListLaw c roots (reverse done)
list_law c one roots done f only all =
    record {
      only = λ m e. only m (in_reversed m done e);
      all = λ m k. in_reverse m done (must_listed c roots done f all m k);
      once = fits_once c done f;
      in_order = λ before rest m a e g. in_reversed a before ((cut_at c one done f before rest m e).can.asked_first a g);
      safe = λ before rest m e. let q = cut_at c one done f before rest m e in
          subst (λ (x : Column). IsSafeMove x m) (sym q.column) (safe_after c one (reverse before) m q.fits q.can);
      marks = λ before rest m e. let q = cut_at c one done f before rest m e in
          ap (λ x. is_in_place x m) q.column ∙ mark_there c (reverse before) m one q.fits q.can;
      shows = λ grains has before rest e k kc kl.
          let b : Fits c (reverse before) = fits_rest c (reverse rest) (reverse before) (subst (λ (z : List ℕ). Fits c z) (split_back_all done before rest e) f) in
          ap (λ x. shown x (grains_after c grains before) k) (column_of c one before b) ∙ shows_cut c one grains has before b k kc kl;
      shows_torn = λ grains after has before rest m e place same k kc kl. let q = cut_at c one done f before rest m e in
          ap (λ x. shown (torn x m false) after k) q.column ∙ torn_cut c one grains after has before m q.fits q.can place same k kc kl;
    }

-- ---- a fill and a write

marked_back : (c : Column) (done : List ℕ) → marked c done ≡ marked_last_first c (reverse done)
unfolding marked
marked_back c done = ap (map (λ m. (m, is_in_place c m))) (sym (reverse-reverse done))

abbrev progress_of : Column → List ℕ → Progress
progress_of c moves = record { column = after_moves c moves; made = marked_last_first c moves }

join : {x y : Column} {u v : List (ℕ × Bool)} → x ≡ y → u ≡ v → let p : Progress = record { column = x; made = u } in let q : Progress = record { column = y; made = v } in p ≡ q
join a b = λ i. record { column = a i; made = b i }

progress_back : (c : Column) → HasOneLive c.shape → (done : List ℕ) → Fits c done → progress c done ≡ progress_of c (reverse done)
progress_back c one done f = join (sym (after_is c done one f)) (marked_back c done)

fill_list : (c : Column) (m : ℕ) → fill_moves c m ≡ reverse (list_with_asked c c.count m [])
unfolding fill_moves list_all_with_asked
fill_list c m = refl

fill_law_of : (c : Column) → HasOneLive c.shape → HasNoLoop c.shape → (m : ℕ) → m < c.count → c.is_live m ≡ true → c.held m ≡ false → (moves : List ℕ) → moves ≡ reverse (list_with_asked c c.count m []) →
    ListLaw c (m ∷ []) moves × ((before : List ℕ) × (moves ≡ before ++ m ∷ [])) × (fill_now c.count m (begin_at c) ≡ progress_of c moves)
fill_law_of c one loops m mc ml lacks moves e =
    let d = filled c one loops c.count [] m [] (reached_root c m mc ml lacks) (λ n o p t i g. absurd (not_in_nil p g)) fits_none in
    let done : List ℕ = list_with_asked c c.count m [] in
    let ends = list_ends c c.count m (omega arith) in (
      subst (λ (z : List ℕ). ListLaw c (m ∷ []) z) (sym e)
          (list_law c one (m ∷ []) done d.fits
          (λ x k. elim (list_comes c c.count m x [] k) [ inl l ↦ absurd (not_in_nil x l) | inr y ↦ y ])
          (λ r k. elim (in_cases r m [] k) [ inl p ↦ ap (λ z. is_in z done) p ∙ d.listed | inr q ↦ absurd (not_in_nil r q) ])),
      (reverse ends.0, e ∙ (ap reverse ends.1 ∙ reverse-cons m ends.0)),
      (ap (fill_now c.count m) (start_same c) ∙ (d.made refl ∙ progress_back c one done d.fits)) ∙ ap (progress_of c) (sym e),
    )

pub fill_law : (c : Column) → HasOneLive c.shape → HasNoLoop c.shape → (m : ℕ) → m < c.count → c.is_live m ≡ true → c.held m ≡ false → FillLaw c m
fill_law c one loops m mc ml lacks =
    let l = fill_law_of c one loops m mc ml lacks (fill_moves c m) (fill_list c m) in
    record { list = l.0; ends = l.1; one_by_one = l.2 }

write_list : (c : Column) (t : ℕ) → write_moves c t ≡ reverse (list_all_with_asked c (write_asks c t))
unfolding write_moves
write_list c t = refl

whole_is : (c : Column) (roots : List ℕ) → list_all_with_asked c roots ≡ list_all c c.count roots []
unfolding list_all_with_asked
whole_is c roots = refl

write_only : (c : Column) (t x : ℕ) → is_in x (list_all_with_asked c (write_asks c t)) ≡ true → Must c (write_asks c t) x
write_only c t x e =
    elim (list_all_comes c c.count x (write_asks c t) [] (ap (is_in x) (sym (whole_is c (write_asks c t))) ∙ e)) [
      | inl l ↦ absurd (not_in_nil x l)
      | inr k ↦ must_of_root c (write_asks c t) k.from k.is_root x k.must
    ]

reader_listed : (c : Column) (t a o : ℕ) → WriteAsks c t a o → is_in a (write_readers c t) ≡ true
reader_listed c t a o w =
    in_filter_map a o (first_reader c t) (old_holders c (c.volume t)) (in_filter o c.held (old_slots c.shape (c.volume t)) (in_old c.shape (c.volume t) o w.is_old) w.holds) w.needs

write_all : (c : Column) (t : ℕ) (done : List ℕ) → Written c t done → (r : ℕ) → is_in r (write_asks c t) ≡ true → is_in r done ≡ true
write_all c t done w r e =
    elim (write_asks_parts c t r e) [
      | inl p ↦ w.readers r (reader_listed c t r p.0 p.1)
      | inr n ↦ w.behind r n
    ]

-- after all of them nobody else reads the written volume's grain
write_free : (c : Column) → HasOneLive c.shape → (t : ℕ) → t < c.count → c.is_live t ≡ true → (done : List ℕ) → Written c t done → IsSafeWrite (with_held c (held_after c done)) t
write_free c one t tc tl done w =
    let kept = kept_after c done w.fits in
    let gone : next_behind (with_held c (held_after c done)) t ≡ None = next_gone c done (held_after c done) kept t w.behind in
    record { none_waits = gone; free = λ k o kc kl kt e v. free_of c one t tc tl done w gone k o kc kl kt e v }
  where
    free_of : (c : Column) → HasOneLive c.shape → (t : ℕ) → t < c.count → c.is_live t ≡ true → (done : List ℕ) → Written c t done →
        next_behind (with_held c (held_after c done)) t ≡ None →
        (k o : ℕ) → k < c.count → c.is_live k ≡ true → k ≢ t → holder (with_held c (held_after c done)) k ≡ Some o → c.volume o ≡ c.volume t → ⊥
    free_of c one t tc tl done w gone k o kc kl kt e v =
        let i = holder_is (with_held c (held_after c done)) k o e in
        let b : o ≤ k = i.before in
        elim (cases_Bool (c.is_live o)) [
          | inl live ↦ let same : o ≡ t = one o t (omega arith) tc live tl v in
              next_none (with_held c (held_after c done)) t gone k kc (record {
                behind = omega arith;
                is_live = kl;
                one_chain = sym i.one_chain ∙ ap c.chain same;
                none_holds = λ j tj jk q held. i.nearest j (omega arith) jk (q ∙ (ap c.chain (sym same) ∙ i.one_chain)) held;
              })
          | inr old ↦ let was = old_holder_before c done (held_after c done) (kept_after c done w.fits) k o kc kl i old in
              reader_gone c done (held_after c done) (kept_after c done w.fits) t o old
              (λ a f. w.readers a (reader_listed c t a o (record { is_old = record { there = omega arith; is_old = old; of_volume = v }; holds = was.holds; needs = f })))
              k kc kl kt i
        ]

abbrev AfterWrite : Column → ℕ → List ℕ → Type 0
AfterWrite c t moves = (grains after : ℕ → Option (List ℕ)) → HasHolders c → ((v : ℕ) → v ≢ c.volume t → after v ≡ grains_after c grains moves v) →
    (k : ℕ) → k < c.count → c.is_live k ≡ true → k ≢ t →
    (shown (written (after_moves c moves) t) after k ≡ shown c grains k) × ((now : Bool) → shown (torn (after_moves c moves) t now) after k ≡ shown c grains k)

abbrev AfterOwn : Column → ℕ → List ℕ → Type 0
AfterOwn c t moves = (grains after : ℕ → Option (List ℕ)) → HasHolders c → ((v : ℕ) → v ≢ c.volume t → after v ≡ grains_after c grains moves v) →
    ((h : ℕ) → holder (after_moves c moves) t ≡ Some h → c.volume h ≢ c.volume t) → shown (torn (after_moves c moves) t false) after t ≡ shown c grains t

after_write : (c : Column) → HasOneLive c.shape → (t : ℕ) → t < c.count → c.is_live t ≡ true → (done : List ℕ) → Written c t done → AfterWrite c t (reverse done)
after_write c one t tc tl done w grains after has same k kc kl kt =
    let x : Column = with_held c (held_after c done) in
    let column : after_moves c (reverse done) ≡ x = after_is c done one w.fits in
    let safe = write_free c one t tc tl done w in
    let p = holder_there c x grains (grains_after c grains (reverse done)) has k kc kl (shows_here c one grains has done w.fits k kc kl) in (
      ap (λ y. shown (taken y t) after k) column ∙ (write_shows x (grains_after c grains (reverse done)) after t k p.0 safe same kc kl kt p.1 ∙ p.2),
      λ now. ap (λ y. shown (torn y t now) after k) column ∙ (torn_shows x (grains_after c grains (reverse done)) after t k p.0 now safe same kc kl kt p.1 ∙ p.2),
    )

after_own : (c : Column) → HasOneLive c.shape → (t : ℕ) → t < c.count → c.is_live t ≡ true → (done : List ℕ) → Written c t done → AfterOwn c t (reverse done)
after_own c one t tc tl done w grains after has same other =
    let x : Column = with_held c (held_after c done) in
    let column : after_moves c (reverse done) ≡ x = after_is c done one w.fits in
    let p = holder_there c x grains (grains_after c grains (reverse done)) has t tc tl (shows_here c one grains has done w.fits t tc tl) in
    ap (λ y. shown (torn y t false) after t) column ∙
    (torn_own_shows x (grains_after c grains (reverse done)) after t p.0 same p.1 (other p.0 (ap (λ y. holder y t) column ∙ is_holder x t p.0 p.1)) ∙ p.2)

record WriteParts (c : Column) (t : ℕ) (moves : List ℕ) : Type 0 where
  list : ListLaw c (write_asks c t) moves
  one_by_one : write_now c.count t (begin_at c) ≡ progress_of c moves
  apart : is_in t moves ≡ false
  safe : IsSafeWrite (after_moves c moves) t
  shows : AfterWrite c t moves
  own : AfterOwn c t moves

write_parts : (c : Column) → HasOneLive c.shape → HasNoLoop c.shape → (t : ℕ) → t < c.count → c.is_live t ≡ true → WriteParts c t (reverse (list_all_with_asked c (write_asks c t)))
write_parts c one loops t tc tl =
    let done : List ℕ = list_all_with_asked c (write_asks c t) in
    let w = write_made c t (record { one = one; loops = loops; there = tc; is_live = tl }) in
    record {
      list = list_law c one (write_asks c t) done w.fits (write_only c t) (write_all c t done w);
      one_by_one = w.made ∙ progress_back c one done w.fits;
      apart = false_from_ne_true (is_in t (reverse done)) (λ y. both_ways _ w.still (in_reversed t done y));
      safe = subst (λ (x : Column). IsSafeWrite x t) (sym (after_is c done one w.fits)) (write_free c one t tc tl done w);
      shows = after_write c one t tc tl done w;
      own = after_own c one t tc tl done w;
    }

pub write_law : (c : Column) → HasOneLive c.shape → HasNoLoop c.shape → (t : ℕ) → t < c.count → c.is_live t ≡ true → WriteLaw c t
write_law c one loops t tc tl =
    let p = subst (λ (z : List ℕ). WriteParts c t z) (sym (write_list c t)) (write_parts c one loops t tc tl) in
    record { list = p.list; one_by_one = p.one_by_one; apart = p.apart; safe = p.safe; shows = p.shows; shows_own = p.own }

pub moves_law_holds : MovesLaw
moves_law_holds c one loops m mc ml = (λ lacks. fill_law c one loops m mc ml lacks, write_law c one loops m mc ml)
