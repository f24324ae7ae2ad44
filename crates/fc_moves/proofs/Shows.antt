-- What the live slots show after a move, a write or a torn write.
use Rattle.std.proofs.Common.{◌≡◌, ◌≢◌, ℕ, ◌<◌, ◌≤◌, Bool, true, false, not, ◌&&◌, ◌||◌, eqb, Some, None, refl, sym, ap, subst, ◌∙◌, arith, ◌⊎◌, inl, inr}
use Rattle.std.proofs.lemmas.Bool.{cases_Bool, both_ways, cases_lt, cases_eq, eq-eqb, ne_eqb, eqb-true, or_cases, or_right, and_parts, and_from, not_from_false, true_from_ne_false, false_from_ne_true}
use Rattle.fc_base.specs.Column.{Column, holder, is_old_of}
use Rattle.fc_base.specs.Moves.{is_in_place, moved, taken, torn}
use Rattle.fc_base.specs.Safety.{shown, grains_after_move, IsSafeMove, IsSafeWrite}
use Rattle.fc_base.specs.RestoreGraph.{HasOneLive}
use Rattle.fc_moves.proofs.Search.{cases_option}
use Rattle.fc_moves.proofs.Readers.{IsHolder, holder_is, is_holder, holder_between, one_holder, next_none}
use Rattle.fc_moves.proofs.Members.{old_of_parts, in_place_parts, in_place_from}
use Rattle.fc_moves.proofs.Prefixes.{with_held, held_more, more_gained, more_self, more_lost}
use Rattle.fc_moves.proofs.Filling.{make_in_place, make_out_of_place}

-- what a slot shows, by its holder
pub shown_at : {G : Type 0} (c : Column) (grains : ℕ → G) (k h : ℕ) → IsHolder c k h → shown c grains k ≡ Some (grains (c.volume h))
unfolding shown
shown_at c grains k h i = rw (is_holder c k h i) refl

shown_none : {G : Type 0} (c : Column) (grains : ℕ → G) (k : ℕ) → holder c k ≡ None → shown c grains k ≡ None
unfolding shown
shown_none c grains k e = rw e refl

-- who shows a grain has a holder
pub shows_from : {G : Type 0} (c : Column) (grains : ℕ → G) (k : ℕ) (g : G) → shown c grains k ≡ Some g → (h : ℕ) × IsHolder c k h × (grains (c.volume h) ≡ g)
shows_from c grains k g e =
    elim (cases_option (holder c k)) [
      | inl none ↦ absurd (let q : None ≡ Some g = sym (shown_none c grains k none) ∙ e in cc)
      | inr some ↦ let i = holder_is c k some.0 some.1 in
          (some.0, i, let q : Some (grains (c.volume some.0)) ≡ Some g = sym (shown_at c grains k some.0 i) ∙ e in cc)
    ]

-- the holder after one slot may have got the grain
holder_kept : (x : Column) (h' : ℕ → Bool) (m k h : ℕ) → IsHolder x k h → h' h ≡ true → ((j : ℕ) → h' j ≡ true → (j ≡ m) ⊎ (x.held j ≡ true)) →
    (h < m → m ≤ k → x.chain m ≡ x.chain k → ⊥) → IsHolder (with_held x h') k h
holder_kept x h' m k h i held gained apart =
    record {
      before = i.before;
      one_chain = i.one_chain;
      holds = held;
      nearest = λ j hj jk q t. elim (gained j t) [
        | inl same ↦ apart (omega arith) (omega arith) (ap x.chain (sym same) ∙ q)
        | inr was ↦ i.nearest j hj jk q was
      ];
    }

holder_got : (x : Column) (h' : ℕ → Bool) (m k h : ℕ) → IsHolder x k h → h' m ≡ true → ((j : ℕ) → h' j ≡ true → (j ≡ m) ⊎ (x.held j ≡ true)) →
    h < m → m ≤ k → x.chain m ≡ x.chain k → IsHolder (with_held x h') k m
holder_got x h' m k h i held gained hm mk q =
    record {
      before = mk;
      one_chain = q;
      holds = held;
      nearest = λ j mj jk r t. elim (gained j t) [
        | inl same ↦ omega arith
        | inr was ↦ i.nearest j (omega arith) jk r was
      ];
    }

-- the move as a change of the pairs
moved_is : (x : Column) (m : ℕ) → moved x m (is_in_place x m) ≡ with_held x (held_more x m x.held)
moved_is x m =
    elim (cases_Bool (is_in_place x m)) [
      | inl t ↦ ap (moved x m) t ∙ make_in_place x m x.held t
      | inr f ↦ ap (moved x m) f ∙ make_out_of_place x m x.held f
    ]

pub grains_in_place : {G : Type 0} (x : Column) (grains : ℕ → G) (m v : ℕ) → is_in_place x m ≡ true → grains_after_move x grains m v ≡ grains v
unfolding grains_after_move
grains_in_place x grains m v t = rw t refl

pub grains_other : {G : Type 0} (x : Column) (grains : ℕ → G) (m v : ℕ) → v ≢ x.volume m → grains_after_move x grains m v ≡ grains v
unfolding grains_after_move
grains_other x grains m v ne =
    elim (cases_Bool (is_in_place x m)) [ inl t ↦ rw t refl | inr f ↦ rw (f, ne_eqb v (x.volume m) ne) refl ]

pub grains_own : {G : Type 0} (x : Column) (grains : ℕ → G) (m h : ℕ) → is_in_place x m ≡ false → IsHolder x m h → grains_after_move x grains m (x.volume m) ≡ grains (x.volume h)
unfolding grains_after_move
grains_own x grains m h f i = rw (f, eq-eqb (x.volume m) (x.volume m) refl, shown_at x grains m h i) refl

-- a move that fills `m` for a slot behind it
shows_got : {G : Type 0} (x : Column) (grains : ℕ → G) (m k h : ℕ) → IsHolder x k h → h < m → m ≤ k → x.chain m ≡ x.chain k →
    shown (with_held x (held_more x m x.held)) (grains_after_move x grains m) k ≡ Some (grains (x.volume h))
shows_got x grains m k h i hm mk q =
    let got : IsHolder (with_held x (held_more x m x.held)) k m = holder_got x (held_more x m x.held) m k h i (more_self x m x.held m refl) (λ j t. more_gained x m x.held j t) hm mk q in
    let own : IsHolder x m h = holder_between x k h m i (omega arith) mk q in
    shown_at (with_held x (held_more x m x.held)) (grains_after_move x grains m) k m got ∙
    ap Some (elim (cases_Bool (is_in_place x m)) [
      | inl t ↦ let p = in_place_parts x m t in
          grains_in_place x grains m (x.volume m) t ∙ ap grains (sym p.3 ∙ ap x.volume (one_holder x m p.0 h p.1 own))
      | inr f ↦ grains_own x grains m h f own
    ])

-- a move that leaves the slot its holder
shows_kept : {G : Type 0} (x : Column) (grains : ℕ → G) (m k h : ℕ) → IsSafeMove x m → k < x.count → x.is_live k ≡ true → IsHolder x k h →
    (h < m → m ≤ k → x.chain m ≡ x.chain k → ⊥) →
    shown (with_held x (held_more x m x.held)) (grains_after_move x grains m) k ≡ Some (grains (x.volume h))
shows_kept x grains m k h s kc kl i apart =
    let self : k ≡ m → ⊥ = λ e. both_ways (x.held m) s.lacks (elim (cases_eq h m) [
      | inl same ↦ ap x.held (sym same) ∙ i.holds
      | inr other ↦ absurd (let b : h ≤ k = i.before in apart (omega arith) (omega arith) (ap x.chain (sym e)))
    ]) in
    let stays : held_more x m x.held h ≡ true = true_from_ne_false (held_more x m x.held h) (λ f.
    let p = more_lost x m x.held h i.holds f in s.free p.0 k h kc kl self (is_holder x k h i) p.2) in
    shown_at (with_held x (held_more x m x.held)) (grains_after_move x grains m) k h (holder_kept x (held_more x m x.held) m k h i stays (λ j t. more_gained x m x.held j t) apart) ∙
    ap Some (elim (cases_Bool (is_in_place x m)) [
      | inl t ↦ grains_in_place x grains m (x.volume h) t
      | inr f ↦ grains_other x grains m (x.volume h) (s.free f k h kc kl self (is_holder x k h i))
    ])

-- a safe move leaves what every live slot shows
pub move_shows : {G : Type 0} (x : Column) (grains : ℕ → G) (m k h : ℕ) → IsSafeMove x m → k < x.count → x.is_live k ≡ true → IsHolder x k h →
    shown (moved x m (is_in_place x m)) (grains_after_move x grains m) k ≡ Some (grains (x.volume h))
move_shows x grains m k h s kc kl i =
    ap (λ y. shown y (grains_after_move x grains m) k) (moved_is x m) ∙
    (elim (cases_lt h m) [
      | inr hm ↦ shows_kept x grains m k h s kc kl i (λ a b q. omega arith)
      | inl hm ↦ elim (cases_lt k m) [
        | inl km ↦ shows_kept x grains m k h s kc kl i (λ a b q. omega arith)
        | inr mk ↦ elim (cases_eq (x.chain m) (x.chain k)) [
          | inl q ↦ shows_got x grains m k h i hm mk q
          | inr n ↦ shows_kept x grains m k h s kc kl i (λ a b q. n q)
        ]
      ]
    ])

-- ---- a write, or a write that failed

-- the pairs that a write or a torn write leaves
record Overwrites (x : Column) (m : ℕ) (h' : ℕ → Bool) : Type 0 where
  gained : (j : ℕ) → h' j ≡ true → (j ≡ m) ⊎ (x.held j ≡ true)
  kept : (j : ℕ) → x.held j ≡ true → x.volume j ≢ x.volume m → h' j ≡ true

over_shows : {G : Type 0} (x : Column) (h' : ℕ → Bool) (grains after : ℕ → G) (m k h : ℕ) → Overwrites x m h' →
    ((v : ℕ) → v ≢ x.volume m → after v ≡ grains v) → IsHolder x k h → x.volume h ≢ x.volume m →
    (h < m → m ≤ k → x.chain m ≡ x.chain k → ⊥) → shown (with_held x h') after k ≡ Some (grains (x.volume h))
over_shows x h' grains after m k h o same i ne apart =
    shown_at (with_held x h') after k h (holder_kept x h' m k h i (o.kept h i.holds ne) o.gained apart) ∙ ap Some (same (x.volume h) ne)

abbrev taken_held : Column → ℕ → ℕ → Bool
taken_held x m k = eqb k m || (x.held k && not (is_old_of x.shape (x.volume m) k))

abbrev torn_held : Column → ℕ → Bool → ℕ → Bool
torn_held x m now k = (now && eqb k m) || (x.held k && not (is_old_of x.shape (x.volume m) k))

taken_is : (x : Column) (m : ℕ) → taken x m ≡ with_held x (taken_held x m)
unfolding taken
taken_is x m = refl

torn_is : (x : Column) (m : ℕ) (now : Bool) → torn x m now ≡ with_held x (torn_held x m now)
unfolding torn
torn_is x m now = refl

not_old_elsewhere : (x : Column) (m j : ℕ) → x.volume j ≢ x.volume m → not (is_old_of x.shape (x.volume m) j) ≡ true
not_old_elsewhere x m j ne = not_from_false _ (false_from_ne_true (is_old_of x.shape (x.volume m) j) (λ t. ne ((old_of_parts x.shape (x.volume m) j t).1)))

taken_overwrites : (x : Column) (m : ℕ) → Overwrites x m (taken_held x m)
taken_overwrites x m = record {
  gained = λ j t. elim (or_cases (eqb j m) _ t) [ inl p ↦ inl (eqb-true j m p) | inr q ↦ inr ((and_parts (x.held j) _ q).0) ];
  kept = λ j t ne. or_right (eqb j m) _ (and_from _ _ t (not_old_elsewhere x m j ne));
}

torn_overwrites : (x : Column) (m : ℕ) (now : Bool) → Overwrites x m (torn_held x m now)
torn_overwrites x m now = record {
  gained = λ j t. elim (or_cases (now && eqb j m) _ t) [ inl p ↦ inl (eqb-true j m ((and_parts now (eqb j m) p).1)) | inr q ↦ inr ((and_parts (x.held j) _ q).0) ];
  kept = λ j t ne. or_right (now && eqb j m) _ (and_from _ _ t (not_old_elsewhere x m j ne));
}

-- a torn write that gives no pair gains nothing
torn_gains_nothing : (x : Column) (m : ℕ) (j : ℕ) → torn_held x m false j ≡ true → x.held j ≡ true
torn_gains_nothing x m j t = (and_parts (x.held j) _ t).0

torn_under_shows : {G : Type 0} (x : Column) (grains after : ℕ → G) (m k h : ℕ) →
    ((v : ℕ) → v ≢ x.volume m → after v ≡ grains v) → IsHolder x k h → x.volume h ≢ x.volume m → shown (torn x m false) after k ≡ Some (grains (x.volume h))
torn_under_shows x grains after m k h same i ne =
    let o = torn_overwrites x m false in
    let j' : IsHolder (with_held x (torn_held x m false)) k h = record {
      before = i.before;
      one_chain = i.one_chain;
      holds = o.kept h i.holds ne;
      nearest = λ j hj jk q t. i.nearest j hj jk q (torn_gains_nothing x m j t);
    } in
    ap (λ y. shown y after k) (torn_is x m false) ∙ (shown_at (with_held x (torn_held x m false)) after k h j' ∙ ap Some (same (x.volume h) ne))

-- where nobody waits behind the written slot, it stands between no other live slot and its holder
never_between : (x : Column) (t k h : ℕ) → IsSafeWrite x t → k < x.count → x.is_live k ≡ true → k ≢ t → IsHolder x k h → h < t → t ≤ k → x.chain t ≡ x.chain k → ⊥
never_between x t k h s kc kl kt i ht tk q =
    next_none x t s.none_waits k kc (record {
      behind = omega arith;
      is_live = kl;
      one_chain = sym q;
      none_holds = λ j tj jk r held. i.nearest j (omega arith) jk (r ∙ q) held;
    })

pub write_shows : {G : Type 0} (x : Column) (grains after : ℕ → G) (t k h : ℕ) → IsSafeWrite x t → ((v : ℕ) → v ≢ x.volume t → after v ≡ grains v) →
    k < x.count → x.is_live k ≡ true → k ≢ t → IsHolder x k h → shown (taken x t) after k ≡ Some (grains (x.volume h))
write_shows x grains after t k h s same kc kl kt i =
    ap (λ y. shown y after k) (taken_is x t) ∙
    over_shows x (taken_held x t) grains after t k h (taken_overwrites x t) same i (s.free k h kc kl kt (is_holder x k h i)) (λ a b q. never_between x t k h s kc kl kt i a b q)

pub torn_shows : {G : Type 0} (x : Column) (grains after : ℕ → G) (t k h : ℕ) (now : Bool) → IsSafeWrite x t → ((v : ℕ) → v ≢ x.volume t → after v ≡ grains v) →
    k < x.count → x.is_live k ≡ true → k ≢ t → IsHolder x k h → shown (torn x t now) after k ≡ Some (grains (x.volume h))
torn_shows x grains after t k h now s same kc kl kt i =
    ap (λ y. shown y after k) (torn_is x t now) ∙
    over_shows x (torn_held x t now) grains after t k h (torn_overwrites x t now) same i (s.free k h kc kl kt (is_holder x k h i)) (λ a b q. never_between x t k h s kc kl kt i a b q)

-- a copy that failed in the middle leaves what every live slot shows
pub torn_move_shows : {G : Type 0} (x : Column) (grains after : ℕ → G) (m k h : ℕ) → HasOneLive x.shape → IsSafeMove x m → is_in_place x m ≡ false → ((v : ℕ) → v ≢ x.volume m → after v ≡ grains v) →
    k < x.count → x.is_live k ≡ true → IsHolder x k h → shown (torn x m false) after k ≡ Some (grains (x.volume h))
torn_move_shows x grains after m k h one s f same kc kl i =
    torn_under_shows x grains after m k h same i (elim (cases_eq k m) [
      | inr other ↦ s.free f k h kc kl other (is_holder x k h i)
      | inl self ↦ λ v. elim (cases_Bool (x.is_live h)) [
        | inl live ↦ let b : h ≤ k = i.before in let e : h ≡ m = one h m (omega arith) s.there live s.is_live v in both_ways (x.held m) s.lacks (ap x.held (sym e) ∙ i.holds)
        | inr old ↦ both_ways _ f (in_place_from x m h (subst (λ (z : ℕ). IsHolder x z h) self i) old v)
      ]
    ])

pub torn_own_shows : {G : Type 0} (x : Column) (grains after : ℕ → G) (t h : ℕ) → ((v : ℕ) → v ≢ x.volume t → after v ≡ grains v) →
    IsHolder x t h → x.volume h ≢ x.volume t → shown (torn x t false) after t ≡ Some (grains (x.volume h))
torn_own_shows x grains after t h same i ne = torn_under_shows x grains after t t h same i ne
