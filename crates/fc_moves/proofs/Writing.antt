-- The moves of a write made one by one give the list of what must move, in its order.
use Rattle.std.proofs.Common.{◌≡◌, ℕ, ◌<◌, ◌≤◌, true, false, Some, None, List, [], ◌∷◌, ◌++◌, fold, filter_map, option_to_list, refl, sym, ap, subst, ◌∙◌, arith, inl, inr}
use Rattle.std.proofs.lemmas.Bool.{cases_Bool, both_ways, cases_lt, false_from_ne_true}
use Rattle.fc_base.specs.Column.{Column, first_reader, old_slots, old_holders}
use Rattle.fc_base.specs.Moves.{is_in, is_in_place, asks, next_behind, write_asks, Must, Must.root, Must.asked, list_with_asked, list_all_with_asked}
use Rattle.fc_base.specs.OneByOne.{Progress, begin_at, serve, fill_found, fill_now, write_now}
use Rattle.fc_base.specs.RestoreGraph.{HasOneLive, HasNoLoop, Edge}
use Rattle.fc_moves.proofs.Search.{cases_option}
use Rattle.fc_moves.proofs.Readers.{IsHolder, one_holder, holder_between, reader_is, IsNext, next_is, Waits}
use Rattle.fc_moves.proofs.Members.{in_cases, in_head, in_tail, not_in_nil, IsOld, in_old_parts, in_place_parts, no_asks_in_place, in_place_from, in_readers_parts}
use Rattle.fc_moves.proofs.Prefixes.{with_held, IsUnshielded, Fits, Fits.fits_none, held_after, kept_after, next_gone, next_stays}
use Rattle.fc_moves.proofs.Listing.{Asked, asked_facts, asked_from_reader, never_back, list_all, list_again, list_comes, list_all_comes, list_grows, list_all_grows, reached_root, must_live, must_one, must_way, way_on}
use Rattle.fc_moves.proofs.Filling.{progress, marked, Filled, Serves, Served, served, filled}

-- the two facts on the shape, and the written volume's live slot
pub record WrittenAt (c : Column) (t : ℕ) : Type 0 where
  pub one : HasOneLive c.shape
  pub loops : HasNoLoop c.shape
  pub there : t < c.count
  pub is_live : c.is_live t ≡ true

reader_asked : (c : Column) (t : ℕ) → WrittenAt c t → (a o : ℕ) → IsOld c.shape (c.volume t) o → first_reader c t o ≡ Some a → Asked c t a
reader_asked c t w a o old e =
    let r = reader_is c t o a e in asked_from_reader c w.one t a o w.there w.is_live r.other r.there r.is_live r.reads old.is_old old.of_volume

fill_asked : (c : Column) (t : ℕ) → WrittenAt c t → (a : ℕ) (done : List ℕ) → Asked c t a → Fits c done → Filled c c.count a done
fill_asked c t w a done k fits =
    filled c w.one w.loops c.count [] a done (reached_root c a k.there k.is_live k.lacks) (λ n o p q i g x y z. both_ways _ k.out_of_place q) fits

stays_away : (c : Column) (t : ℕ) → WrittenAt c t → (a : ℕ) (done : List ℕ) → Asked c t a → is_in t done ≡ false → is_in t (list_with_asked c c.count a done) ≡ false
stays_away c t w a done k n =
    false_from_ne_true _ (λ y. elim (list_comes c c.count a t done y) [ inl l ↦ both_ways _ n l | inr g ↦ never_back c w.one w.loops t a t w.there w.is_live k g refl ])

write_serves : (c : Column) (t : ℕ) → WrittenAt c t → Serves c c.count t (first_reader c t)
write_serves c t w =
    record {
      one = w.one;
      there = w.there;
      is_live = w.is_live;
      agree = λ o old. refl;
      sub = λ a o done old e fits. fill_asked c t w a done (reader_asked c t w a o old e) fits;
      away = λ a o done old e n. stays_away c t w a done (reader_asked c t w a o old e) n;
    }

-- the readers that a write asks for
abbrev pub write_readers : Column → ℕ → List ℕ
write_readers c t = filter_map (first_reader c t) (old_holders c (c.volume t))

-- all of them are listed
readers_listed : (c : Column) (t : ℕ) → WrittenAt c t → (as' : List ℕ) → ((x : ℕ) → is_in x as' ≡ true → is_in x (write_readers c t) ≡ true) →
    (done : List ℕ) → Fits c done → (a : ℕ) → is_in a as' ≡ true → is_in a (list_all c c.count as' done) ≡ true
readers_listed c t w [] all done fits a e = absurd (not_in_nil a e)
readers_listed c t w (b ∷ bs) all done fits a e =
    let p = in_readers_parts c t b (all b (in_head b b bs refl)) in
    let d = fill_asked c t w b done (reader_asked c t w b p.0 p.1.is_old p.1.needs) fits in
    elim (in_cases a b bs e) [
      | inl q ↦ list_all_grows c c.count a bs (list_with_asked c c.count b done) (ap (λ x. is_in x (list_with_asked c c.count b done)) q ∙ d.listed)
      | inr q ↦ readers_listed c t w bs (λ x h. all x (in_tail x b bs h)) (list_with_asked c c.count b done) d.fits a q
    ]

abbrev pub first_part : Column → ℕ → List ℕ
first_part c t = list_all c c.count (write_readers c t) []

first_served : (c : Column) (t : ℕ) → WrittenAt c t → Served c c.count t (first_reader c t) (old_slots c.shape (c.volume t)) []
first_served c t w =
    served c c.count t (first_reader c t) (write_serves c t w) (old_slots c.shape (c.volume t)) (λ o e. in_old_parts c.shape (c.volume t) o e) [] fits_none refl

-- ---- the slot behind

-- the holder of the written volume's live slot is that of the slot behind it, where it doesn't hold itself
next_reads : (c : Column) (t n o : ℕ) → Waits c t n → IsHolder c t o → IsHolder c n o
next_reads c t n o w i =
    record {
      before = (let a : o ≤ t = i.before in let b : t < n = w.behind in omega arith);
      one_chain = i.one_chain ∙ sym w.one_chain;
      holds = i.holds;
      nearest = λ j oj jn q held. elim (cases_lt t j) [
        | inl tj ↦ w.none_holds j tj jn (q ∙ w.one_chain) held
        | inr jt ↦ i.nearest j oj jt (q ∙ w.one_chain) held
      ];
    }

-- the slot behind lacks, since no slot up to it holds
next_lacks : (c : Column) (t n : ℕ) → Waits c t n → c.held n ≡ false
next_lacks c t n w = false_from_ne_true (c.held n) (λ held. w.none_holds n w.behind (omega arith) w.one_chain held)

next_apart : (c : Column) (t : ℕ) → WrittenAt c t → (n : ℕ) → IsNext c t n → c.volume n ≡ c.volume t → ⊥
next_apart c t w n i e =
    let same : n ≡ t = w.one n t i.there w.there i.waits.is_live w.is_live e in
    let b : t < n = i.waits.behind in omega arith

unshielded_origin : (c : Column) (t : ℕ) → WrittenAt c t → (n : ℕ) → IsNext c t n → (o p r : ℕ) → is_in_place c n ≡ true → IsHolder c n o →
    IsHolder c p o → is_in r (write_readers c t) ≡ true → Must c (r ∷ []) p → ⊥
unshielded_origin c t w n i o p r place hn hp e (root f) =
    let q = in_readers_parts c t r e in
    let k = reader_is c t q.0 r q.1.needs in
    let same : p ≡ r = elim (in_cases p r [] f) [ inl y ↦ y | inr z ↦ absurd (not_in_nil p z) ] in
    let old : q.0 ≡ o = one_holder c p q.0 o (subst (λ (x : ℕ). IsHolder c x q.0) (sym same) k.reads) hp in
    let at = in_place_parts c n place in
    let held : at.0 ≡ o = one_holder c n at.0 o at.1 hn in
    next_apart c t w n i (sym at.3 ∙ (ap c.volume (held ∙ sym old) ∙ q.1.is_old.of_volume))
unshielded_origin c t w n i o p r place hn hp e (asked {m = x} k f) =
    let q = in_readers_parts c t r e in
    let b = reader_is c t q.0 r q.1.needs in
    let l = must_live c w.one (r ∷ []) (must_one c r b.there b.is_live) x k in
    let g = asked_facts c w.one x p l.0 l.1 f in
    let old : g.old ≡ o = one_holder c p g.old o g.reads hp in
    let at = in_place_parts c n place in
    let held : at.0 ≡ o = one_holder c n at.0 o at.1 hn in
    let same : x ≡ n = w.one x n l.0 i.there l.1 i.waits.is_live (sym g.old_of ∙ (ap c.volume (old ∙ sym held) ∙ at.3)) in
    not_in_nil p (ap (is_in p) (sym (no_asks_in_place c n place)) ∙ (ap (λ z. is_in p (asks c z)) (sym same) ∙ f))

next_unshielded : (c : Column) (t : ℕ) → WrittenAt c t → (n : ℕ) → IsNext c t n → is_in n (first_part c t) ≡ false → IsUnshielded c (first_part c t) n
next_unshielded c t w n i fresh o p place hn listed op pn q =
    elim (list_all_comes c c.count p (write_readers c t) [] listed) [
      | inl l ↦ not_in_nil p l
      | inr k ↦ unshielded_origin c t w n i o p k.from place hn (holder_between c n o p hn (omega arith) pn q) k.is_root k.must
    ]

-- the written slot is never moved on account of the slot behind it
next_never_written : (c : Column) (t : ℕ) → WrittenAt c t → (n : ℕ) → IsNext c t n → Must c (n ∷ []) t → ⊥
next_never_written c t w n i (root e) =
    elim (in_cases t n [] e) [ inl p ↦ (let b : t < n = i.waits.behind in omega arith) | inr q ↦ not_in_nil t q ]
next_never_written c t w n i (asked {m = x} k e) =
    let l = must_live c w.one (n ∷ []) (must_one c n i.there i.waits.is_live) x k in
    let g = asked_facts c w.one x t l.0 l.1 e in
    let hn : IsHolder c n g.old = next_reads c t n g.old i.waits g.reads in
    let apart : c.volume x ≡ c.volume n → ⊥ = λ v.
    let same : x ≡ n = w.one x n l.0 i.there l.1 i.waits.is_live v in
    let place : is_in_place c n ≡ true = in_place_from c n g.old hn g.old_is_old (g.old_of ∙ v) in
    not_in_nil t (ap (is_in t) (sym (no_asks_in_place c n place)) ∙ (ap (λ z. is_in t (asks c z)) (sym same) ∙ e)) in
    let edge : Edge c.shape (c.volume x) (c.volume n) = record {
      other = apart;
      old = g.old;
      live = n;
      before = (let a : g.old ≤ t = g.reads.before in let b : t < n = i.waits.behind in omega arith);
      there = i.there;
      one_chain = hn.one_chain;
      old_is_old = g.old_is_old;
      old_is_from = g.old_of;
      live_is_live = i.waits.is_live;
      live_is_to = refl;
    } in
    elim (must_way c w.one n i.there i.waits.is_live x k) [
      | inl p ↦ apart (ap c.volume p)
      | inr way ↦ w.loops (c.volume n) (way_on c.shape (c.volume n) (c.volume x) (c.volume n) way edge)
    ]

-- ---- the whole list

-- what the moves of a write come to, as a list with the latest first
pub record Written (c : Column) (t : ℕ) (done : List ℕ) : Type 0 where
  pub fits : Fits c done
  pub still : is_in t done ≡ false
  pub made : write_now c.count t (begin_at c) ≡ progress c done
  pub readers : (a : ℕ) → is_in a (write_readers c t) ≡ true → is_in a done ≡ true
  pub behind : (n : ℕ) → next_behind c t ≡ Some n → is_in n done ≡ true

pub start_same : (c : Column) → begin_at c ≡ progress c []
unfolding held_after marked
start_same c = refl

write_now_is : (depth t : ℕ) (p : Progress) → write_now depth t p ≡
    fill_found (fill_now depth) (fold (λ q o. serve (fill_now depth) t q o) p (old_slots p.column.shape (p.column.volume t)))
    (next_behind ((fold (λ q o. serve (fill_now depth) t q o) p (old_slots p.column.shape (p.column.volume t))).column) t)
unfolding write_now
write_now_is depth t p = refl

first_made : (c : Column) (t : ℕ) → WrittenAt c t →
    fold (λ q o. serve (fill_now c.count) t q o) (begin_at c) (old_slots c.shape (c.volume t)) ≡ progress c (first_part c t)
first_made c t w =
    ap (λ p. fold (λ q o. serve (fill_now c.count) t q o) p (old_slots c.shape (c.volume t))) (start_same c) ∙ (first_served c t w).made

made_after : (c : Column) (t : ℕ) → WrittenAt c t → write_now c.count t (begin_at c) ≡
    fill_found (fill_now c.count) (progress c (first_part c t)) (next_behind (with_held c (held_after c (first_part c t))) t)
made_after c t w =
    write_now_is c.count t (begin_at c) ∙ ap (λ q. fill_found (fill_now c.count) q (next_behind q.column t)) (first_made c t w)

-- nobody waits behind
written_alone : (c : Column) (t : ℕ) → WrittenAt c t → next_behind c t ≡ None → Written c t (first_part c t)
written_alone c t w none =
    let s = first_served c t w in
    let gone : next_behind (with_held c (held_after c (first_part c t))) t ≡ None =
    next_gone c (first_part c t) (held_after c (first_part c t)) (kept_after c (first_part c t) s.fits) t (λ n e. let q : None ≡ Some n = sym none ∙ e in cc) in
    record {
      fits = s.fits;
      still = s.still;
      made = made_after c t w ∙ ap (fill_found (fill_now c.count) (progress c (first_part c t))) gone;
      readers = λ a e. readers_listed c t w (write_readers c t) (λ x h. h) [] fits_none a e;
      behind = λ n e. let q : None ≡ Some n = sym none ∙ e in cc;
    }

-- who waits behind has moved already
written_moved : (c : Column) (t : ℕ) → WrittenAt c t → (n : ℕ) → next_behind c t ≡ Some n → is_in n (first_part c t) ≡ true → Written c t (list_with_asked c c.count n (first_part c t))
written_moved c t w n e listed =
    let s = first_served c t w in
    let same : list_with_asked c c.count n (first_part c t) ≡ first_part c t = list_again c c.count n (first_part c t) listed in
    let is_n = λ (m : ℕ) (f : next_behind c t ≡ Some m). let q : Some n ≡ Some m = sym e ∙ f in let p : n ≡ m = cc in p in
    let gone : next_behind (with_held c (held_after c (first_part c t))) t ≡ None =
    next_gone c (first_part c t) (held_after c (first_part c t)) (kept_after c (first_part c t) s.fits) t (λ m f. ap (λ x. is_in x (first_part c t)) (sym (is_n m f)) ∙ listed) in
    record {
      fits = subst (λ (x : List ℕ). Fits c x) (sym same) s.fits;
      still = ap (is_in t) same ∙ s.still;
      made = made_after c t w ∙ (ap (fill_found (fill_now c.count) (progress c (first_part c t))) gone ∙ ap (progress c) (sym same));
      readers = λ a f. ap (is_in a) same ∙ readers_listed c t w (write_readers c t) (λ x h. h) [] fits_none a f;
      behind = λ m f. ap (is_in m) same ∙ (ap (λ x. is_in x (first_part c t)) (sym (is_n m f)) ∙ listed);
    }

-- who waits behind moves last
written_last : (c : Column) (t : ℕ) → WrittenAt c t → (n : ℕ) → next_behind c t ≡ Some n → is_in n (first_part c t) ≡ false → Written c t (list_with_asked c c.count n (first_part c t))
written_last c t w n e fresh =
    let s = first_served c t w in
    let i = next_is c t n e in
    let d = filled c w.one w.loops c.count [] n (first_part c t) (reached_root c n i.there i.waits.is_live (next_lacks c t n i.waits)) (λ f. next_unshielded c t w n i fresh) s.fits in
    let is_n = λ (m : ℕ) (f : next_behind c t ≡ Some m). let q : Some n ≡ Some m = sym e ∙ f in let p : n ≡ m = cc in p in
    let stays : next_behind (with_held c (held_after c (first_part c t))) t ≡ Some n =
    next_stays c (first_part c t) (held_after c (first_part c t)) (kept_after c (first_part c t) s.fits) t n e fresh in
    record {
      fits = d.fits;
      still = false_from_ne_true _ (λ y. elim (list_comes c c.count n t (first_part c t) y) [ inl l ↦ both_ways _ s.still l | inr k ↦ next_never_written c t w n i k ]);
      made = made_after c t w ∙ (ap (fill_found (fill_now c.count) (progress c (first_part c t))) stays ∙ d.made fresh);
      readers = λ a f. list_grows c c.count n a (first_part c t) (readers_listed c t w (write_readers c t) (λ x h. h) [] fits_none a f);
      behind = λ m f. ap (λ x. is_in x (list_with_asked c c.count n (first_part c t))) (sym (is_n m f)) ∙ d.listed;
    }

list_all_append : (c : Column) (depth : ℕ) (xs ys done : List ℕ) → list_all c depth (xs ++ ys) done ≡ list_all c depth ys (list_all c depth xs done)
list_all_append c depth [] ys done = refl
list_all_append c depth (x ∷ xs) ys done = list_all_append c depth xs ys (list_with_asked c depth x done)

whole_list : (c : Column) (t : ℕ) → list_all_with_asked c (write_asks c t) ≡ list_all c c.count (option_to_list (next_behind c t)) (first_part c t)
unfolding list_all_with_asked write_asks
whole_list c t = list_all_append c c.count (write_readers c t) (option_to_list (next_behind c t)) []

pub written : (c : Column) (t : ℕ) → WrittenAt c t → Written c t (list_all_with_asked c (write_asks c t))
written c t w =
    elim (cases_option (next_behind c t)) [
      | inl none ↦ subst (λ (x : List ℕ). Written c t x) (sym (whole_list c t ∙ ap (λ o. list_all c c.count (option_to_list o) (first_part c t)) none)) (written_alone c t w none)
      | inr some ↦ subst (λ (x : List ℕ). Written c t x) (sym (whole_list c t ∙ ap (λ o. list_all c c.count (option_to_list o) (first_part c t)) some.1))
          (elim (cases_Bool (is_in some.0 (first_part c t))) [ inl y ↦ written_moved c t w some.0 some.1 y | inr f ↦ written_last c t w some.0 some.1 f ])
    ]
