-- A fill made move by move gives the list of what must move, in its order.
use Rattle.std.proofs.Common.{◌≡◌, ℕ, zero, suc, ◌<◌, Bool, true, false, not, ◌&&◌, ◌||◌, eqb, Option, Some, None, List, [], ◌∷◌, fold, filter, filter_map, map, refl, sym, ap, subst, ◌∙◌, arith, inl, inr}
use Rattle.std.proofs.lemmas.Bool.{cases_Bool, both_ways, cases_eq}
use Rattle.fc_base.specs.Column.{Column, first_reader, needer, is_old_of, old_slots}
use Rattle.fc_base.specs.Moves.{is_in, is_in_place, asks, list_with_asked, moved, taken}
use Rattle.fc_base.specs.OneByOne.{Progress, make_move, serve, fill_now}
use Rattle.fc_base.specs.RestoreGraph.{HasOneLive, HasNoLoop}
use Rattle.fc_moves.proofs.Search.{cases_option}
use Rattle.fc_moves.proofs.Readers.{IsHolder, reader_is, is_reader, reader_none, is_reader_none}
use Rattle.fc_moves.proofs.Members.{in_cases, in_head, in_tail, not_in_nil, IsOld, in_old_parts, asks_out_of_place, no_asks_in_place, not_in_place}
use Rattle.fc_moves.proofs.Prefixes.{with_held, not_same, first_reader_gone, first_reader_stays, IsUnshielded, mark_stays, old_held_stays, held_more, Fits, Fits.fits_more, held_after, held_after_more, kept_after}
use Rattle.fc_moves.proofs.Listing.{Asked, asked_facts, asked_from_reader, never_back, list_all, list_again, list_new, list_comes, list_all_grows, Reached, reached_depth, reached_more}

-- the progress after the moves of a list, the latest first
unfoldable pub marked : Column → List ℕ → List (ℕ × Bool)
marked c ms = map (λ m. (m, is_in_place c m)) ms

pub marked_more : (c : Column) (m : ℕ) (ms : List ℕ) → marked c (m ∷ ms) ≡ (m, is_in_place c m) ∷ marked c ms
unfolding marked
marked_more c m ms = refl

abbrev pub progress : Column → List ℕ → Progress
progress c done = record { column = with_held c (held_after c done); made = marked c done }

-- one move more
pub same_functions : {f g : ℕ → Bool} → ((k : ℕ) → f k ≡ g k) → f ≡ g
same_functions e = λ i. λ k. e k i

pub make_in_place : (c : Column) (m : ℕ) (h : ℕ → Bool) → is_in_place c m ≡ true → moved (with_held c h) m true ≡ with_held c (held_more c m h)
unfolding moved
make_in_place c m h t = ap (with_held c) (same_functions (λ k. sym (more k)))
  where
    more : (k : ℕ) → held_more c m h k ≡ (eqb k m || h k)
    more k = rw t refl

pub make_out_of_place : (c : Column) (m : ℕ) (h : ℕ → Bool) → is_in_place c m ≡ false → moved (with_held c h) m false ≡ with_held c (held_more c m h)
unfolding moved taken
make_out_of_place c m h f = ap (with_held c) (same_functions (λ k. sym (more k)))
  where
    more : (k : ℕ) → held_more c m h k ≡ (eqb k m || (h k && not (is_old_of c.shape (c.volume m) k)))
    more k = rw f refl

pub moved_more : (c : Column) (m : ℕ) (done : List ℕ) → moved (with_held c (held_after c done)) m (is_in_place c m) ≡ with_held c (held_after c (m ∷ done))
moved_more c m done =
    elim (cases_Bool (is_in_place c m)) [
      | inl t ↦ ap (moved (with_held c (held_after c done)) m) t ∙ (make_in_place c m (held_after c done) t ∙ ap (with_held c) (sym (held_after_more c m done)))
      | inr f ↦ ap (moved (with_held c (held_after c done)) m) f ∙ (make_out_of_place c m (held_after c done) f ∙ ap (with_held c) (sym (held_after_more c m done)))
    ]

pub make_more : (c : Column) (m : ℕ) (done : List ℕ) (b : Bool) → is_in_place c m ≡ b → make_move (progress c done) m b ≡ progress c (m ∷ done)
make_more c m done b e =
    let col : moved (with_held c (held_after c done)) m b ≡ with_held c (held_after c (m ∷ done)) =
    ap (moved (with_held c (held_after c done)) m) (sym e) ∙ moved_more c m done in
    let log : (m, b) ∷ marked c done ≡ marked c (m ∷ done) = ap (λ x. (m, x) ∷ marked c done) (sym e) ∙ sym (marked_more c m done) in
    join col log
  where
    join : {x y : Column} {u v : List (ℕ × Bool)} → x ≡ y → u ≡ v → let p : Progress = record { column = x; made = u } in let q : Progress = record { column = y; made = v } in p ≡ q
    join a b = λ i. record { column = a i; made = b i }

-- ---- serving one older slot

serve_skip : (fill : ℕ → Progress → Progress) (but : ℕ) (p : Progress) (o : ℕ) → p.column.held o ≡ false → serve fill but p o ≡ p
serve_skip fill but p o e = rw e refl

serve_none : (fill : ℕ → Progress → Progress) (but : ℕ) (p : Progress) (o : ℕ) → p.column.held o ≡ true → first_reader p.column but o ≡ None → serve fill but p o ≡ p
serve_none fill but p o e n = rw (e, n) refl

serve_some : (fill : ℕ → Progress → Progress) (but : ℕ) (p : Progress) (o a : ℕ) → p.column.held o ≡ true → first_reader p.column but o ≡ Some a → serve fill but p o ≡ fill a p
serve_some fill but p o a e n = rw (e, n) refl

-- what a fill of `m` from the list `done` comes to
pub record Filled (c : Column) (depth : ℕ) (m : ℕ) (done : List ℕ) : Type 0 where
  pub fits : Fits c (list_with_asked c depth m done)
  pub listed : is_in m (list_with_asked c depth m done) ≡ true
  pub made : is_in m done ≡ false → fill_now depth m (progress c done) ≡ progress c (list_with_asked c depth m done)

-- what serving some older slots comes to, where `f` gives whom to fill for each
pub record Served (c : Column) (depth but : ℕ) (f : ℕ → Option ℕ) (os done : List ℕ) : Type 0 where
  pub fits : Fits c (list_all c depth (filter_map f (filter c.held os)) done)
  pub made : fold (λ q o. serve (λ a r. fill_now depth a r) but q o) (progress c done) os ≡ progress c (list_all c depth (filter_map f (filter c.held os)) done)
  pub still : is_in but (list_all c depth (filter_map f (filter c.held os)) done) ≡ false

-- what is known of `but` and of the fills that serve it
pub record Serves (c : Column) (depth but : ℕ) (f : ℕ → Option ℕ) : Type 0 where
  pub one : HasOneLive c.shape
  pub there : but < c.count
  pub is_live : c.is_live but ≡ true
  pub agree : (o : ℕ) → IsOld c.shape (c.volume but) o → f o ≡ first_reader c but o
  pub sub : (a o : ℕ) (done : List ℕ) → IsOld c.shape (c.volume but) o → first_reader c but o ≡ Some a → Fits c done → Filled c depth a done
  pub away : (a o : ℕ) (done : List ℕ) → IsOld c.shape (c.volume but) o → first_reader c but o ≡ Some a → is_in but done ≡ false → is_in but (list_with_asked c depth a done) ≡ false

abbrev ServesAll : Column → ℕ → ℕ → (ℕ → Option ℕ) → List ℕ → Type 0
ServesAll c depth but f os = (done : List ℕ) → Fits c done → is_in but done ≡ false → Served c depth but f os done

abbrev serve_now : Column → ℕ → ℕ → Progress → ℕ → Progress
serve_now c depth but p o = serve (λ a r. fill_now depth a r) but p o

abbrev readers_of : Column → (ℕ → Option ℕ) → List ℕ → List ℕ
readers_of c f os = filter_map f (filter c.held os)

-- the next older slot doesn't hold, or nobody is filled for it: the rest is served from the same list
served_same : (c : Column) (depth but : ℕ) (f : ℕ → Option ℕ) (o : ℕ) (os done : List ℕ) →
    readers_of c f (o ∷ os) ≡ readers_of c f os → serve_now c depth but (progress c done) o ≡ progress c done →
    Served c depth but f os done → Served c depth but f (o ∷ os) done
served_same c depth but f o os done e s r =
    let l : list_all c depth (readers_of c f (o ∷ os)) done ≡ list_all c depth (readers_of c f os) done = ap (λ x. list_all c depth x done) e in
    record {
      fits = subst (λ (x : List ℕ). Fits c x) (sym l) r.fits;
      made = ap (λ x. fold (serve_now c depth but) x os) s ∙ (r.made ∙ ap (progress c) (sym l));
      still = ap (is_in but) l ∙ r.still;
    }

-- a slot is filled for it, or stands listed already
served_filled : (c : Column) (depth but : ℕ) (f : ℕ → Option ℕ) (o a : ℕ) (os done : List ℕ) →
    readers_of c f (o ∷ os) ≡ a ∷ readers_of c f os → serve_now c depth but (progress c done) o ≡ progress c (list_with_asked c depth a done) →
    Served c depth but f os (list_with_asked c depth a done) → Served c depth but f (o ∷ os) done
served_filled c depth but f o a os done e s r =
    let l : list_all c depth (readers_of c f (o ∷ os)) done ≡ list_all c depth (readers_of c f os) (list_with_asked c depth a done) = ap (λ x. list_all c depth x done) e in
    record {
      fits = subst (λ (x : List ℕ). Fits c x) (sym l) r.fits;
      made = ap (λ x. fold (serve_now c depth but) x os) s ∙ (r.made ∙ ap (progress c) (sym l));
      still = ap (is_in but) l ∙ r.still;
    }

readers_skip : (c : Column) (f : ℕ → Option ℕ) (o : ℕ) (os : List ℕ) → c.held o ≡ false → readers_of c f (o ∷ os) ≡ readers_of c f os
readers_skip c f o os e = rw e refl

readers_none : (c : Column) (f : ℕ → Option ℕ) (o : ℕ) (os : List ℕ) → c.held o ≡ true → f o ≡ None → readers_of c f (o ∷ os) ≡ readers_of c f os
readers_none c f o os e n = rw (e, n) refl

readers_some : (c : Column) (f : ℕ → Option ℕ) (o a : ℕ) (os : List ℕ) → c.held o ≡ true → f o ≡ Some a → readers_of c f (o ∷ os) ≡ a ∷ readers_of c f os
readers_some c f o a os e n = rw (e, n) refl

served_more : (c : Column) (depth but : ℕ) (f : ℕ → Option ℕ) → Serves c depth but f → (o : ℕ) (os : List ℕ) → IsOld c.shape (c.volume but) o →
    ServesAll c depth but f os → ServesAll c depth but f (o ∷ os)
served_more c depth but f k o os old ih done fits nb =
    let kept = kept_after c done fits in
    let h : ℕ → Bool = held_after c done in
    let now : h o ≡ c.held o = old_held_stays c done h k.one kept but o k.there k.is_live nb old in
    elim (cases_Bool (c.held o)) [
      | inl t ↦ elim (cases_option (first_reader c but o)) [
        | inl none ↦ served_same c depth but f o os done (readers_none c f o os t (k.agree o old ∙ none))
            (serve_none (λ a r. fill_now depth a r) but (progress c done) o (now ∙ t)
            (first_reader_gone c done h kept but o old.is_old (λ a e. let q : None ≡ Some a = sym none ∙ e in cc)))
            (ih done fits nb)
        | inr some ↦ served_reader c depth but f k o os old ih done fits nb t some.0 some.1
      ]
      | inr n ↦ served_same c depth but f o os done (readers_skip c f o os n)
          (serve_skip (λ a r. fill_now depth a r) but (progress c done) o (now ∙ n)) (ih done fits nb)
    ]
  where
    served_reader : (c : Column) (depth but : ℕ) (f : ℕ → Option ℕ) → Serves c depth but f → (o : ℕ) (os : List ℕ) → IsOld c.shape (c.volume but) o →
        ServesAll c depth but f os → (done : List ℕ) → Fits c done → is_in but done ≡ false → c.held o ≡ true → (a : ℕ) → first_reader c but o ≡ Some a →
        Served c depth but f (o ∷ os) done
    served_reader c depth but f k o os old ih done fits nb t a e =
        let kept = kept_after c done fits in
        let h : ℕ → Bool = held_after c done in
        let now : h o ≡ true = old_held_stays c done h k.one kept but o k.there k.is_live nb old ∙ t in
        let d = k.sub a o done old e fits in
        served_filled c depth but f o a os done (readers_some c f o a os t (k.agree o old ∙ e))
        (elim (cases_Bool (is_in a done)) [
          | inl y ↦ serve_none (λ b r. fill_now depth b r) but (progress c done) o now
              (first_reader_gone c done h kept but o old.is_old (λ b g. let q : Some a ≡ Some b = sym e ∙ g in let p : a ≡ b = cc in ap (λ x. is_in x done) (sym p) ∙ y))
              ∙ ap (progress c) (sym (list_again c depth a done y))
          | inr n ↦ serve_some (λ b r. fill_now depth b r) but (progress c done) o a now
              (first_reader_stays c done h kept but o a old.is_old nb e n) ∙ d.made n
        ])
        (ih (list_with_asked c depth a done) d.fits (k.away a o done old e nb))

pub served : (c : Column) (depth but : ℕ) (f : ℕ → Option ℕ) → Serves c depth but f → (os : List ℕ) → ((o : ℕ) → is_in o os ≡ true → IsOld c.shape (c.volume but) o) →
    ServesAll c depth but f os
served c depth but f k [] olds done fits nb = record { fits = fits; made = refl; still = nb }
served c depth but f k (o ∷ os) olds done fits nb =
    served_more c depth but f k o os (olds o (in_head o o os refl)) (served c depth but f k os (λ x e. olds x (in_tail x o os e))) done fits nb

-- ---- a fill

-- for a slot out of place, the needer of an older slot of its volume is the first reader other than the slot itself
reader_same : (c : Column) (m o : ℕ) → c.is_live m ≡ true → is_in_place c m ≡ false → IsOld c.shape (c.volume m) o → needer c o ≡ first_reader c m o
reader_same c m o ml f old =
    elim (cases_option (first_reader c m o)) [
      | inl none ↦ is_reader_none c o o (λ k kc kl ko i. elim (cases_eq k m) [
        | inl same ↦ not_in_place c m o f (subst (λ (x : ℕ). IsHolder c x o) same i) old.is_old old.of_volume
        | inr other ↦ reader_none c m o none k kc kl other i
      ]) ∙ sym none
      | inr some ↦ let r = reader_is c m o some.0 some.1 in
          is_reader c o o some.0 (record {
            there = r.there;
            is_live = r.is_live;
            other = not_same c some.0 o r.is_live old.is_old;
            reads = r.reads;
            first = λ k ka kl ko i. elim (cases_eq k m) [
              | inl same ↦ not_in_place c m o f (subst (λ (x : ℕ). IsHolder c x o) same i) old.is_old old.of_volume
              | inr other ↦ r.first k ka kl other i
            ];
          }) ∙ sym some.1
    ]

fill_true : (depth m : ℕ) (p : Progress) → is_in_place p.column m ≡ true → fill_now (suc depth) m p ≡ make_move p m true
unfolding fill_now
fill_true depth m p e = rw (e, fill_now) refl

fill_false : (depth m : ℕ) (p : Progress) → is_in_place p.column m ≡ false →
    fill_now (suc depth) m p ≡ make_move (fold (λ q o. serve (λ a r. fill_now depth a r) m q o) p (old_slots p.column.shape (p.column.volume m))) m false
unfolding fill_now
fill_false depth m p e = rw (e, fill_now) refl

abbrev Fills : Column → ℕ → Type 0
Fills c depth = (path : List ℕ) (m : ℕ) (done : List ℕ) → Reached c depth path m → (is_in m done ≡ false → IsUnshielded c done m) → Fits c done → Filled c depth m done

filled_in_place : (c : Column) → HasOneLive c.shape → (depth : ℕ) (path : List ℕ) (m : ℕ) (done : List ℕ) → Reached c (suc depth) path m →
    IsUnshielded c done m → Fits c done → is_in m done ≡ false → is_in_place c m ≡ true → Filled c (suc depth) m done
filled_in_place c one depth path m done r free fits nm t =
    let e : list_with_asked c (suc depth) m done ≡ m ∷ done = list_new c depth m done nm ∙ ap (λ x. m ∷ list_all c depth x done) (no_asks_in_place c m t) in
    let mark : is_in_place (with_held c (held_after c done)) m ≡ is_in_place c m = mark_stays c done (held_after c done) one (kept_after c done fits) m r.there r.is_live nm free in
    record {
      fits = subst (λ (x : List ℕ). Fits c x) (sym e) (fits_more fits (record {
        there = r.there;
        is_live = r.is_live;
        lacks = r.lacks;
        fresh = nm;
        asked_first = λ a q. absurd (not_in_nil a (ap (is_in a) (sym (no_asks_in_place c m t)) ∙ q));
        unshielded = free;
      }));
      listed = ap (is_in m) e ∙ in_head m m done refl;
      made = λ n. fill_true depth m (progress c done) (mark ∙ t) ∙ (make_more c m done true t ∙ ap (progress c) (sym e));
    }

filled_out_of_place : (c : Column) → HasOneLive c.shape → HasNoLoop c.shape → (depth : ℕ) → Fills c depth → (path : List ℕ) (m : ℕ) (done : List ℕ) → Reached c (suc depth) path m →
    Fits c done → is_in m done ≡ false → is_in_place c m ≡ false → Filled c (suc depth) m done
filled_out_of_place c one loops depth ih path m done r fits nm f =
    let olds : List ℕ = old_slots c.shape (c.volume m) in
    let k : Serves c depth m (needer c) = serves c one loops depth ih path m r f in
    let s = served c depth m (needer c) k olds (λ o e. in_old_parts c.shape (c.volume m) o e) done fits nm in
    let before : List ℕ = list_all c depth (asks c m) done in
    let q : list_all c depth (readers_of c (needer c) olds) done ≡ before = ap (λ x. list_all c depth x done) (sym (asks_out_of_place c m f)) in
    let e : list_with_asked c (suc depth) m done ≡ m ∷ before = list_new c depth m done nm in
    let fb : Fits c before = subst (λ (x : List ℕ). Fits c x) q s.fits in
    let mark : is_in_place (with_held c (held_after c done)) m ≡ is_in_place c m = mark_stays c done (held_after c done) one (kept_after c done fits) m r.there r.is_live nm
    (λ o p t i g a b w. both_ways _ f t) in
    record {
      fits = subst (λ (x : List ℕ). Fits c x) (sym e) (fits_more fb (record {
        there = r.there;
        is_live = r.is_live;
        lacks = r.lacks;
        fresh = ap (is_in m) (sym q) ∙ s.still;
        asked_first = λ a g. all_asked c one loops depth ih path m r (asks c m) (λ x h. h) done fits a g;
        unshielded = λ o p t i g a b w. both_ways _ f t;
      }));
      listed = ap (is_in m) e ∙ in_head m m before refl;
      made = λ n. fill_false depth m (progress c done) (mark ∙ f) ∙
          (ap (λ x. make_move x m false) (s.made ∙ ap (progress c) q) ∙ (make_more c m before false f ∙ ap (progress c) (sym e)));
    }
  where
    sub_filled : (c : Column) → HasOneLive c.shape → HasNoLoop c.shape → (depth : ℕ) → Fills c depth → (path : List ℕ) (m : ℕ) → Reached c (suc depth) path m →
        (a : ℕ) (done : List ℕ) → Asked c m a → Fits c done → Filled c depth a done
    sub_filled c one loops depth ih path m r a done k fits =
        ih (m ∷ path) a done (reached_more c loops depth path m a r k) (λ n o p t i g x y w. both_ways _ k.out_of_place t) fits

    reader_asked : (c : Column) → HasOneLive c.shape → (m a o : ℕ) → m < c.count → c.is_live m ≡ true → IsOld c.shape (c.volume m) o → first_reader c m o ≡ Some a → Asked c m a
    reader_asked c one m a o mc ml old e =
        let r = reader_is c m o a e in asked_from_reader c one m a o mc ml r.other r.there r.is_live r.reads old.is_old old.of_volume

    stays_away : (c : Column) → HasOneLive c.shape → HasNoLoop c.shape → (depth m a : ℕ) (done : List ℕ) → m < c.count → c.is_live m ≡ true → Asked c m a → is_in m done ≡ false →
        is_in m (list_with_asked c depth a done) ≡ false
    stays_away c one loops depth m a done mc ml k n =
        elim (cases_Bool (is_in m (list_with_asked c depth a done))) [
          | inr f ↦ f
          | inl t ↦ elim (list_comes c depth a m done t) [ inl l ↦ absurd (both_ways _ n l) | inr g ↦ absurd (never_back c one loops m a m mc ml k g refl) ]
        ]

    serves : (c : Column) → HasOneLive c.shape → HasNoLoop c.shape → (depth : ℕ) → Fills c depth → (path : List ℕ) (m : ℕ) → Reached c (suc depth) path m → is_in_place c m ≡ false → Serves c depth m (needer c)
    serves c one loops depth ih path m r f =
        record {
          one = one;
          there = r.there;
          is_live = r.is_live;
          agree = λ o old. reader_same c m o r.is_live f old;
          sub = λ a o done old e fits. sub_filled c one loops depth ih path m r a done (reader_asked c one m a o r.there r.is_live old e) fits;
          away = λ a o done old e n. stays_away c one loops depth m a done r.there r.is_live (reader_asked c one m a o r.there r.is_live old e) n;
        }

    -- all that a slot asks for is listed
    all_asked : (c : Column) → HasOneLive c.shape → HasNoLoop c.shape → (depth : ℕ) → Fills c depth → (path : List ℕ) (m : ℕ) → Reached c (suc depth) path m →
        (as' : List ℕ) → ((x : ℕ) → is_in x as' ≡ true → is_in x (asks c m) ≡ true) → (done : List ℕ) → Fits c done → (a : ℕ) → is_in a as' ≡ true → is_in a (list_all c depth as' done) ≡ true
    all_asked c one loops depth ih path m r [] all done fits a e = absurd (not_in_nil a e)
    all_asked c one loops depth ih path m r (b ∷ bs) all done fits a e =
        let d = sub_filled c one loops depth ih path m r b done (asked_facts c one m b r.there r.is_live (all b (in_head b b bs refl))) fits in
        elim (in_cases a b bs e) [
          | inl p ↦ list_all_grows c depth a bs (list_with_asked c depth b done) (ap (λ x. is_in x (list_with_asked c depth b done)) p ∙ d.listed)
          | inr q ↦ all_asked c one loops depth ih path m r bs (λ x h. all x (in_tail x b bs h)) (list_with_asked c depth b done) d.fits a q
        ]

filled_step : (c : Column) → HasOneLive c.shape → HasNoLoop c.shape → (depth : ℕ) → Fills c depth → Fills c (suc depth)
filled_step c one loops depth ih path m done r free fits =
    elim (cases_Bool (is_in m done)) [
      | inl t ↦ let e : list_with_asked c (suc depth) m done ≡ done = list_again c (suc depth) m done t in
          record { fits = subst (λ (x : List ℕ). Fits c x) (sym e) fits; listed = ap (is_in m) e ∙ t; made = λ n. absurd (both_ways _ n t) }
      | inr n ↦ elim (cases_Bool (is_in_place c m)) [
        | inl t ↦ filled_in_place c one depth path m done r (free n) fits n t
        | inr f ↦ filled_out_of_place c one loops depth ih path m done r fits n f
      ]
    ]

pub filled : (c : Column) → HasOneLive c.shape → HasNoLoop c.shape → (depth : ℕ) → Fills c depth
filled c one loops zero path m done r free fits = absurd (let d : 0 < 0 = reached_depth c zero path m r in omega arith)
filled c one loops (suc depth) path m done r free fits = filled_step c one loops depth (filled c one loops depth) path m done r free fits
