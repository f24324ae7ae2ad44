-- The list of what must move: whom it has, and that asking ends.
use Rattle.std.proofs.Common.{◌≡◌, ◌≢◌, ℕ, zero, suc, ◌+◌, ◌<◌, ◌≤◌, true, false, eqb, List, [], ◌∷◌, length, fold, refl, sym, ap, subst, ◌∙◌, arith, ◌⊎◌, inl, inr}
use Rattle.std.specs.List.{IsDistinct, AllByRecursion}
use Rattle.std.proofs.lemmas.Bool.{cases_Bool, ne_eqb, false_from_ne_true}
use Rattle.std.proofs.lemmas.Map.Keys.{IsDistinct-cons}
use Rattle.std.proofs.lemmas.Map.Steps.{length-le_from_distinct_below}
use Rattle.fc_base.specs.Column.{Shape, Column}
use Rattle.fc_base.specs.Moves.{is_in, is_in_place, asks, Must, Must.root, Must.asked, list_with_asked}
use Rattle.fc_base.specs.RestoreGraph.{HasOneLive, HasNoLoop, Edge, Way, Way.last_edge, Way.next_edge}
use Rattle.fc_moves.proofs.Readers.{IsHolder, own_holder, one_holder, reader_is}
use Rattle.fc_moves.proofs.Members.{in_cases, in_head, in_tail, not_in_nil, asks_parts, not_in_place, in_place_parts}
use Rattle.fc_moves.proofs.Prefixes.{behind_old}

-- ---- ways and members

pub way_on : (s : Shape) (v w x : ℕ) → Way s v w → Edge s w x → Way s v x
way_on s v w x (last_edge e) f = next_edge e (last_edge f)
way_on s v w x (next_edge {w = y} e r) f = next_edge e (way_on s y w x r f)

-- what is known of a slot that another asks for
pub record Asked (c : Column) (m a : ℕ) : Type 0 where
  pub there : a < c.count
  pub is_live : c.is_live a ≡ true
  pub lacks : c.held a ≡ false
  pub out_of_place : is_in_place c a ≡ false
  pub edge : Edge c.shape (c.volume m) (c.volume a)
  pub old : ℕ
  pub reads : IsHolder c a old
  pub old_is_old : c.is_live old ≡ false
  pub old_of : c.volume old ≡ c.volume m

-- a live slot whose holder is another lacks
lacks_from : (c : Column) (a o : ℕ) → IsHolder c a o → o < a → c.held a ≡ false
lacks_from c a o i lt =
    false_from_ne_true (c.held a) (λ t. let e : a ≡ o = one_holder c a a o (own_holder c a t) i in omega arith)

-- a slot that reads at an old slot of another live slot's volume, and isn't that live slot
pub asked_from_reader : (c : Column) → HasOneLive c.shape → (m a o : ℕ) → m < c.count → c.is_live m ≡ true → a ≢ m →
    a < c.count → c.is_live a ≡ true → IsHolder c a o → c.is_live o ≡ false → c.volume o ≡ c.volume m → Asked c m a
asked_from_reader c one m a o mc ml am ac al i old vol =
    let oa : o < a = behind_old c a o al old i in
    record {
      there = ac;
      is_live = al;
      lacks = lacks_from c a o i oa;
      out_of_place = false_from_ne_true (is_in_place c a) (λ t.
          let p = in_place_parts c a t in
          let e : p.0 ≡ o = one_holder c a p.0 o p.1 i in
          am (one a m ac mc al ml (sym p.3 ∙ (ap c.volume e ∙ vol))));
      edge = record {
        other = λ e. am (one a m ac mc al ml (sym e));
        old = o;
        live = a;
        before = oa;
        there = ac;
        one_chain = i.one_chain;
        old_is_old = old;
        old_is_from = vol;
        live_is_live = al;
        live_is_to = refl;
      };
      old = o;
      reads = i;
      old_is_old = old;
      old_of = vol;
    }

pub asked_facts : (c : Column) → HasOneLive c.shape → (m a : ℕ) → m < c.count → c.is_live m ≡ true → is_in a (asks c m) ≡ true → Asked c m a
asked_facts c one m a mc ml e =
    let p = asks_parts c m a e in
    let k = p.1 in
    let r = reader_is c p.0 p.0 a k.needs in
    asked_from_reader c one m a p.0 mc ml
    (λ q. not_in_place c m p.0 k.out_of_place (let P : ℕ → Type 0 = λ x. IsHolder c x p.0 in subst P q r.reads) k.is_old.is_old k.is_old.of_volume)
    r.there r.is_live r.reads k.is_old.is_old k.is_old.of_volume

-- members of the set are live
pub must_live : (c : Column) → HasOneLive c.shape → (roots : List ℕ) → ((r : ℕ) → is_in r roots ≡ true → (r < c.count) × (c.is_live r ≡ true)) →
    (x : ℕ) → Must c roots x → (x < c.count) × (c.is_live x ≡ true)
must_live c one roots live x (root e) = live x e
must_live c one roots live x (asked {m = m} k e) =
    let l = must_live c one roots live m k in
    let f = asked_facts c one m x l.0 l.1 e in (f.there, f.is_live)

pub must_one : (c : Column) (m : ℕ) → m < c.count → c.is_live m ≡ true → (r : ℕ) → is_in r (m ∷ []) ≡ true → (r < c.count) × (c.is_live r ≡ true)
must_one c m mc ml r e =
    elim (in_cases r m [] e) [ inl p ↦ (omega arith, ap c.is_live p ∙ ml) | inr q ↦ absurd (not_in_nil r q) ]

-- what a slot leads to by asking is itself, or its volume leads there
pub must_way : (c : Column) → HasOneLive c.shape → (m : ℕ) → m < c.count → c.is_live m ≡ true → (x : ℕ) → Must c (m ∷ []) x →
    (x ≡ m) ⊎ Way c.shape (c.volume m) (c.volume x)
must_way c one m mc ml x (root e) = elim (in_cases x m [] e) [ inl p ↦ inl p | inr q ↦ absurd (not_in_nil x q) ]
must_way c one m mc ml x (asked {m = y} k e) =
    let l = must_live c one (m ∷ []) (must_one c m mc ml) y k in
    let f = asked_facts c one y x l.0 l.1 e in
    elim (must_way c one m mc ml y k) [
      | inl p ↦ let P : ℕ → Type 0 = λ z. Edge c.shape (c.volume z) (c.volume x) in inr (last_edge (subst P p f.edge))
      | inr w ↦ inr (way_on c.shape (c.volume m) (c.volume y) (c.volume x) w f.edge)
    ]

pub must_through : (c : Column) (m a : ℕ) → is_in a (asks c m) ≡ true → (x : ℕ) → Must c (a ∷ []) x → Must c (m ∷ []) x
must_through c m a e x (root r) =
    elim (in_cases x a [] r) [
      | inl p ↦ let P : ℕ → Type 0 = λ z. Must c (m ∷ []) z in subst P (sym p) (asked (root (in_head m m [] refl)) e)
      | inr q ↦ absurd (not_in_nil x q)
    ]
must_through c m a e x (asked {m = y} k f) = asked (must_through c m a e y k) f

pub must_of_root : (c : Column) (roots : List ℕ) (a : ℕ) → is_in a roots ≡ true → (x : ℕ) → Must c (a ∷ []) x → Must c roots x
must_of_root c roots a e x (root r) =
    elim (in_cases x a [] r) [
      | inl p ↦ root (ap (λ z. is_in z roots) p ∙ e)
      | inr q ↦ absurd (not_in_nil x q)
    ]
must_of_root c roots a e x (asked {m = y} k f) = asked (must_of_root c roots a e y k) f

-- what a slot asks for never leads back to it
pub never_back : (c : Column) → HasOneLive c.shape → HasNoLoop c.shape → (m a x : ℕ) → m < c.count → c.is_live m ≡ true →
    Asked c m a → Must c (a ∷ []) x → x ≡ m → ⊥
never_back c one free m a x mc ml f k e =
    let back : Way c.shape (c.volume m) (c.volume x) = elim (must_way c one a f.there f.is_live x k) [
      | inl p ↦ (let P : ℕ → Type 0 = λ z. Way c.shape (c.volume m) (c.volume z) in subst P (sym p) (last_edge f.edge))
      | inr w ↦ next_edge f.edge w
    ] in
    free (c.volume m) (let P : ℕ → Type 0 = λ z. Way c.shape (c.volume m) (c.volume z) in subst P e back)

-- ---- the listing, step by step

abbrev pub list_all : Column → ℕ → List ℕ → List ℕ → List ℕ
list_all c depth roots listed = fold (λ before a. list_with_asked c depth a before) listed roots

pub list_zero : (c : Column) (m : ℕ) (listed : List ℕ) → list_with_asked c zero m listed ≡ listed
unfolding list_with_asked
list_zero c m listed = refl

pub list_again : (c : Column) (depth m : ℕ) (listed : List ℕ) → is_in m listed ≡ true → list_with_asked c depth m listed ≡ listed
unfolding list_with_asked
list_again c zero m listed e = refl
list_again c (suc depth) m listed e = rw (e, list_with_asked) refl

pub list_new : (c : Column) (depth m : ℕ) (listed : List ℕ) → is_in m listed ≡ false → list_with_asked c (suc depth) m listed ≡ m ∷ list_all c depth (asks c m) listed
unfolding list_with_asked
list_new c depth m listed e = rw (e, list_with_asked) refl

abbrev Grows : Column → ℕ → Type 0
Grows c depth = (m x : ℕ) (listed : List ℕ) → is_in x listed ≡ true → is_in x (list_with_asked c depth m listed) ≡ true

grows_all : (c : Column) (depth : ℕ) → Grows c depth → (x : ℕ) (roots listed : List ℕ) → is_in x listed ≡ true → is_in x (list_all c depth roots listed) ≡ true
grows_all c depth ih x [] listed e = e
grows_all c depth ih x (a ∷ as') listed e = grows_all c depth ih x as' (list_with_asked c depth a listed) (ih a x listed e)

grows_step : (c : Column) (depth : ℕ) → Grows c depth → Grows c (suc depth)
grows_step c depth ih m x listed e =
    elim (cases_Bool (is_in m listed)) [
      | inl t ↦ ap (is_in x) (list_again c (suc depth) m listed t) ∙ e
      | inr f ↦ ap (is_in x) (list_new c depth m listed f) ∙ in_tail x m (list_all c depth (asks c m) listed) (grows_all c depth ih x (asks c m) listed e)
    ]

pub list_grows : (c : Column) (depth : ℕ) (m x : ℕ) (listed : List ℕ) → is_in x listed ≡ true → is_in x (list_with_asked c depth m listed) ≡ true
list_grows c zero m x listed e = ap (is_in x) (list_zero c m listed) ∙ e
list_grows c (suc depth) m x listed e = grows_step c depth (list_grows c depth) m x listed e

pub list_all_grows : (c : Column) (depth x : ℕ) (roots listed : List ℕ) → is_in x listed ≡ true → is_in x (list_all c depth roots listed) ≡ true
list_all_grows c depth x roots listed e = grows_all c depth (list_grows c depth) x roots listed e

abbrev Comes : Column → ℕ → Type 0
Comes c depth = (m x : ℕ) (listed : List ℕ) → is_in x (list_with_asked c depth m listed) ≡ true → (is_in x listed ≡ true) ⊎ Must c (m ∷ []) x

pub record ComesFrom (c : Column) (roots : List ℕ) (x : ℕ) : Type 0 where
  pub from : ℕ
  pub is_root : is_in from roots ≡ true
  pub must : Must c (from ∷ []) x

comes_all : (c : Column) (depth : ℕ) → Comes c depth → (x : ℕ) (roots listed : List ℕ) → is_in x (list_all c depth roots listed) ≡ true →
    (is_in x listed ≡ true) ⊎ ComesFrom c roots x
comes_all c depth ih x [] listed e = inl e
comes_all c depth ih x (a ∷ as') listed e =
    elim (comes_all c depth ih x as' (list_with_asked c depth a listed) e) [
      | inl l ↦ elim (ih a x listed l) [ inl p ↦ inl p | inr k ↦ inr (record { from = a; is_root = in_head a a as' refl; must = k }) ]
      | inr k ↦ inr (record { from = k.from; is_root = in_tail k.from a as' k.is_root; must = k.must })
    ]

comes_step : (c : Column) (depth : ℕ) → Comes c depth → Comes c (suc depth)
comes_step c depth ih m x listed e =
    elim (cases_Bool (is_in m listed)) [
      | inl t ↦ inl (ap (is_in x) (sym (list_again c (suc depth) m listed t)) ∙ e)
      | inr f ↦ elim (in_cases x m (list_all c depth (asks c m) listed) (ap (is_in x) (sym (list_new c depth m listed f)) ∙ e)) [
        | inl p ↦ inr (root (in_head x m [] p))
        | inr q ↦ elim (comes_all c depth ih x (asks c m) listed q) [ inl l ↦ inl l | inr k ↦ inr (must_through c m k.from k.is_root x k.must) ]
      ]
    ]

pub list_comes : (c : Column) (depth m x : ℕ) (listed : List ℕ) → is_in x (list_with_asked c depth m listed) ≡ true → (is_in x listed ≡ true) ⊎ Must c (m ∷ []) x
list_comes c zero m x listed e = inl (ap (is_in x) (sym (list_zero c m listed)) ∙ e)
list_comes c (suc depth) m x listed e = comes_step c depth (list_comes c depth) m x listed e

pub list_all_comes : (c : Column) (depth x : ℕ) (roots listed : List ℕ) → is_in x (list_all c depth roots listed) ≡ true → (is_in x listed ≡ true) ⊎ ComesFrom c roots x
list_all_comes c depth x roots listed e = comes_all c depth (list_comes c depth) x roots listed e

-- ---- asking ends

apart_from : (a : ℕ) (ks : List ℕ) → ((q : ℕ) → is_in q ks ≡ true → q ≢ a) → AllByRecursion (λ y. eqb a y ≡ false) ks
apart_from a [] f = tt
apart_from a (k ∷ ks) f = (ne_eqb a k (λ e. f k (in_head k k ks refl) (sym e)), apart_from a ks (λ q e. f q (in_tail q k ks e)))

-- `m` is reached by asking, over the slots of the path, and that many depths are left
pub record Reached (c : Column) (depth : ℕ) (path : List ℕ) (m : ℕ) : Type 0 where
  pub there : m < c.count
  pub is_live : c.is_live m ≡ true
  pub lacks : c.held m ≡ false
  pub enough : c.count ≤ depth + length path
  pub distinct : IsDistinct eqb (m ∷ path)
  pub in_range : (q : ℕ) → is_in q path ≡ true → q < c.count
  pub ways : (q : ℕ) → is_in q path ≡ true → Way c.shape (c.volume q) (c.volume m)

distinct_none : IsDistinct eqb []
unfolding IsDistinct
distinct_none = tt

pub reached_root : (c : Column) (m : ℕ) → m < c.count → c.is_live m ≡ true → c.held m ≡ false → Reached c c.count [] m
reached_root c m mc ml lacks =
    record {
      there = mc;
      is_live = ml;
      lacks = lacks;
      enough = omega arith;
      distinct = IsDistinct-cons eqb m [] tt distinct_none;
      in_range = λ q e. absurd (not_in_nil q e);
      ways = λ q e. absurd (not_in_nil q e);
    }

pub reached_depth : (c : Column) (depth : ℕ) (path : List ℕ) (m : ℕ) → Reached c depth path m → 0 < depth
reached_depth c depth path m r =
    let le : length (m ∷ path) ≤ c.count = length-le_from_distinct_below (m ∷ path) c.count r.distinct
    (λ q e. elim (in_cases q m path e) [ inl p ↦ (let mc : m < c.count = r.there in omega arith) | inr k ↦ r.in_range q k ]) in
    let en : c.count ≤ depth + length path = r.enough in
    omega arith

pub reached_more : (c : Column) → HasNoLoop c.shape → (depth : ℕ) (path : List ℕ) (m a : ℕ) → Reached c (suc depth) path m → Asked c m a → Reached c depth (m ∷ path) a
reached_more c free depth path m a r f =
    let way : (q : ℕ) → is_in q (m ∷ path) ≡ true → Way c.shape (c.volume q) (c.volume a) = reached_ways c (suc depth) path m a r f in
    record {
      there = f.there;
      is_live = f.is_live;
      lacks = f.lacks;
      enough = (let en : c.count ≤ suc depth + length path = r.enough in omega arith);
      distinct = IsDistinct-cons eqb a (m ∷ path) (apart_from a (m ∷ path) (λ q e same. free (c.volume a)
          (let P : ℕ → Type 0 = λ z. Way c.shape (c.volume z) (c.volume a) in subst P same (way q e)))) r.distinct;
      in_range = λ q e. elim (in_cases q m path e) [ inl p ↦ (let mc : m < c.count = r.there in omega arith) | inr k ↦ r.in_range q k ];
      ways = way;
    }
  where
    reached_ways : (c : Column) (depth : ℕ) (path : List ℕ) (m a : ℕ) → Reached c depth path m → Asked c m a → (q : ℕ) → is_in q (m ∷ path) ≡ true → Way c.shape (c.volume q) (c.volume a)
    reached_ways c depth path m a r f q e =
        elim (in_cases q m path e) [
          | inl p ↦ let P : ℕ → Type 0 = λ z. Way c.shape (c.volume z) (c.volume a) in subst P (sym p) (last_edge f.edge)
          | inr k ↦ way_on c.shape (c.volume q) (c.volume m) (c.volume a) (r.ways q k) f.edge
        ]

-- a slot that isn't listed yet comes last
pub list_ends : (c : Column) (depth m : ℕ) → 0 < depth → (before : List ℕ) × (list_with_asked c depth m [] ≡ m ∷ before)
list_ends c zero m lt = absurd (omega arith)
list_ends c (suc depth) m lt = (list_all c depth (asks c m) [], list_new c depth m [] refl)
