-- Pictures: which volume has an id, and what changes leave.
use Rattle.std.proofs.Common.{◌≡◌, ◌≢◌, ℕ, zero, suc, ◌<◌, Bool, true, false, cond, not, ◌==◌, Some, None, List, [], ◌∷◌, ◌++◌, length, get_or, map, filter, AllPairs, Contains, refl, sym, ap, subst, ◌∙◌, arith, ◌⊎◌, inl, inr}
use Rattle.std.proofs.lemmas.Bool.{cases_eq, eq-eqb, ne_eqb}
use Rattle.std.proofs.lemmas.List.Kept.{AllPairs-filter}
use Rattle.std.proofs.lemmas.List.Quantifiers.{all_pairs_push}
use Rattle.std.proofs.lemmas.List.Elements.{Contains-get_or}
use Rattle.fc_base.specs.declared.ids.VolId.{VolId}
use Rattle.fc_entry.specs.Picture.{Content, PlainVolume, Picture, volume_in, changed_at, content_at}
use Rattle.fc_rules.specs.LaneTold.{cut_by, cut_volume}

-- an id by its number
abbrev pub id_of : ℕ → VolId
id_of v = record { 0 = v }

-- no two volumes have one id
abbrev pub Apart : Picture → Type 0
Apart picture = AllPairs (λ (p q : PlainVolume). p.volume.0 ≢ q.volume.0) picture

later : {X : Type 0} (x y : X) (xs : List X) → Contains xs y → Contains (x ∷ xs) y
later x y xs (k, lt, e) = (suc k, omega arith, e)

contains_cases : {X : Type 0} (x y : X) (xs : List X) → Contains (x ∷ xs) y → (x ≡ y) ⊎ Contains xs y
contains_cases x y xs (zero, lt, e) = inl e
contains_cases x y xs (suc k, lt, e) = inr (k, omega arith, e)

-- ---- the volume with an id

find_here : (x : PlainVolume) (xs : Picture) (id : VolId) → x.volume.0 ≡ id.0 → volume_in (x ∷ xs) id ≡ Some x
find_here x xs id e = ap (λ z. cond z (Some x) (volume_in xs id)) (eq-eqb x.volume.0 id.0 e)

find_later : (x : PlainVolume) (xs : Picture) (id : VolId) → x.volume.0 ≢ id.0 → volume_in (x ∷ xs) id ≡ volume_in xs id
find_later x xs id ne = ap (λ z. cond z (Some x) (volume_in xs id)) (ne_eqb x.volume.0 id.0 ne)

pub found : (picture : Picture) (id : VolId) (p : PlainVolume) → volume_in picture id ≡ Some p → Contains picture p × (p.volume.0 ≡ id.0)
found [] id p e = absurd cc
found (x ∷ xs) id p e =
    elim (cases_eq x.volume.0 id.0) [
      | inl same ↦ let q : x ≡ p = (let f : Some x ≡ Some p = sym (find_here x xs id same) ∙ e in cc) in
          ((zero, omega arith, q), ap (λ (z : PlainVolume). z.volume.0) (sym q) ∙ same)
      | inr ne ↦ let r = found xs id p (sym (find_later x xs id ne) ∙ e) in (later x p xs r.0, r.1)
    ]

apart_tail : (x : PlainVolume) (xs : Picture) → Apart (x ∷ xs) → Apart xs
apart_tail x xs a i j d lt within = a (suc i) (suc j) d (omega arith) (omega arith)

apart_head : (x : PlainVolume) (xs : Picture) (p : PlainVolume) → Apart (x ∷ xs) → Contains xs p → x.volume.0 ≢ p.volume.0
apart_head x xs p a (k, lt, e) q = a zero (suc k) p (omega arith) (omega arith) (q ∙ ap (λ (z : PlainVolume). z.volume.0) (sym e))

pub find_is : (picture : Picture) (id : VolId) (p : PlainVolume) → Apart picture → Contains picture p → p.volume.0 ≡ id.0 → volume_in picture id ≡ Some p
find_is [] id p a (k, lt, c) e = absurd (omega arith)
find_is (x ∷ xs) id p a c e =
    elim (contains_cases x p xs c) [
      | inl q ↦ find_here x xs id (ap (λ (z : PlainVolume). z.volume.0) q ∙ e) ∙ ap Some q
      | inr r ↦ find_later x xs id (λ f. apart_head x xs p a r (f ∙ sym e)) ∙ find_is xs id p (apart_tail x xs a) r e
    ]

pub found_none : (picture : Picture) (id : VolId) (p : PlainVolume) → volume_in picture id ≡ None → Contains picture p → p.volume.0 ≢ id.0
found_none [] id p e (k, lt, c) q = omega arith
found_none (x ∷ xs) id p e c q =
    elim (cases_eq x.volume.0 id.0) [
      | inl same ↦ let f : Some x ≡ None = sym (find_here x xs id same) ∙ e in cc
      | inr ne ↦ elim (contains_cases x p xs c) [
        | inl r ↦ ne (ap (λ (z : PlainVolume). z.volume.0) r ∙ q)
        | inr r ↦ found_none xs id p (sym (find_later x xs id ne) ∙ e) r q
      ]
    ]

-- ---- a change of each volume that keeps the ids

abbrev pub KeepsIds : (PlainVolume → PlainVolume) → Type 0
KeepsIds f = (p : PlainVolume) → (f p).volume.0 ≡ p.volume.0

pub map_in : (f : PlainVolume → PlainVolume) → KeepsIds f → (picture : Picture) (id : VolId) (p : PlainVolume) → volume_in picture id ≡ Some p → volume_in (map f picture) id ≡ Some (f p)
map_in f keeps [] id p e = absurd cc
map_in f keeps (x ∷ xs) id p e =
    elim (cases_eq x.volume.0 id.0) [
      | inl same ↦ let q : x ≡ p = (let g : Some x ≡ Some p = sym (find_here x xs id same) ∙ e in cc) in
          find_here (f x) (map f xs) id (keeps x ∙ same) ∙ ap (λ z. Some (f z)) q
      | inr ne ↦ find_later (f x) (map f xs) id (λ q. ne (sym (keeps x) ∙ q)) ∙ map_in f keeps xs id p (sym (find_later x xs id ne) ∙ e)
    ]

pub map_none : (f : PlainVolume → PlainVolume) → KeepsIds f → (picture : Picture) (id : VolId) → volume_in picture id ≡ None → volume_in (map f picture) id ≡ None
map_none f keeps [] id e = refl
map_none f keeps (x ∷ xs) id e =
    elim (cases_eq x.volume.0 id.0) [
      | inl same ↦ absurd (let g : Some x ≡ None = sym (find_here x xs id same) ∙ e in cc)
      | inr ne ↦ find_later (f x) (map f xs) id (λ q. ne (sym (keeps x) ∙ q)) ∙ map_none f keeps xs id (sym (find_later x xs id ne) ∙ e)
    ]

pub map_same : (f : PlainVolume → PlainVolume) → ((p : PlainVolume) → f p ≡ p) → (picture : Picture) → map f picture ≡ picture
map_same f e [] = refl
map_same f e (x ∷ xs) = ap (λ (z : PlainVolume). z ∷ map f xs) (e x) ∙ ap (λ (z : Picture). x ∷ z) (map_same f e xs)

pub map_twice : (f g h : PlainVolume → PlainVolume) → ((p : PlainVolume) → g (f p) ≡ h p) → (picture : Picture) → map g (map f picture) ≡ map h picture
map_twice f g h e [] = refl
map_twice f g h e (x ∷ xs) = ap (λ (z : PlainVolume). z ∷ map g (map f xs)) (e x) ∙ ap (λ (z : Picture). h x ∷ z) (map_twice f g h e xs)

pub map_from : (f : PlainVolume → PlainVolume) (picture : Picture) (q : PlainVolume) → Contains (map f picture) q → (p : PlainVolume) × Contains picture p × (f p ≡ q)
map_from f [] q (k, lt, e) = absurd (omega arith)
map_from f (x ∷ xs) q c =
    elim (contains_cases (f x) q (map f xs) c) [
      | inl e ↦ (x, (zero, omega arith, refl), e)
      | inr r ↦ let p = map_from f xs q r in (p.0, later x p.0 xs p.1, p.2)
    ]

length_map : (f : PlainVolume → PlainVolume) (ps : Picture) → length (map f ps) ≡ length ps
length_map f [] = refl
length_map f (p ∷ ps) = ap suc (length_map f ps)

map_at : (f : PlainVolume → PlainVolume) (ps : Picture) (i : ℕ) (d : PlainVolume) → i < length ps → get_or (map f ps) i d ≡ f (get_or ps i d)
map_at f [] i d lt = absurd (omega arith)
map_at f (p ∷ ps) zero d lt = refl
map_at f (p ∷ ps) (suc i) d lt = map_at f ps i d (omega arith)

pub apart_map : (f : PlainVolume → PlainVolume) → KeepsIds f → (picture : Picture) → Apart picture → Apart (map f picture)
apart_map f keeps picture a i j d lt within e =
    let l : length (map f picture) ≡ length picture = length_map f picture in
    a i j d lt (omega arith)
    (sym (keeps (get_or picture i d)) ∙ (ap (λ (z : PlainVolume). z.volume.0) (sym (map_at f picture i d (omega arith))) ∙ (e ∙ (ap (λ (z : PlainVolume). z.volume.0) (map_at f picture j d (omega arith)) ∙ keeps (get_or picture j d)))))

-- a change of one volume
abbrev pub at_id : VolId → (PlainVolume → PlainVolume) → PlainVolume → PlainVolume
at_id id f p = cond (p.volume.0 == id.0) (f p) p

pub at_id_here : (id : VolId) (f : PlainVolume → PlainVolume) (p : PlainVolume) → p.volume.0 ≡ id.0 → at_id id f p ≡ f p
at_id_here id f p e = ap (λ z. cond z (f p) p) (eq-eqb p.volume.0 id.0 e)

pub at_id_other : (id : VolId) (f : PlainVolume → PlainVolume) (p : PlainVolume) → p.volume.0 ≢ id.0 → at_id id f p ≡ p
at_id_other id f p ne = ap (λ z. cond z (f p) p) (ne_eqb p.volume.0 id.0 ne)

pub at_id_keeps : (id : VolId) (f : PlainVolume → PlainVolume) → KeepsIds f → KeepsIds (at_id id f)
at_id_keeps id f keeps p =
    elim (cases_eq p.volume.0 id.0) [
      | inl e ↦ ap (λ (z : PlainVolume). z.volume.0) (at_id_here id f p e) ∙ keeps p
      | inr ne ↦ ap (λ (z : PlainVolume). z.volume.0) (at_id_other id f p ne)
    ]

pub changed_here : (id : VolId) (f : PlainVolume → PlainVolume) → KeepsIds f → (picture : Picture) (w : VolId) (p : PlainVolume) → volume_in picture w ≡ Some p → w.0 ≡ id.0 → volume_in (changed_at id f picture) w ≡ Some (f p)
changed_here id f keeps picture w p e same =
    map_in (at_id id f) (at_id_keeps id f keeps) picture w p e ∙ ap Some (at_id_here id f p ((found picture w p e).1 ∙ same))

pub changed_other : (id : VolId) (f : PlainVolume → PlainVolume) → KeepsIds f → (picture : Picture) (w : VolId) (p : PlainVolume) → volume_in picture w ≡ Some p → w.0 ≢ id.0 → volume_in (changed_at id f picture) w ≡ Some p
changed_other id f keeps picture w p e ne =
    map_in (at_id id f) (at_id_keeps id f keeps) picture w p e ∙ ap Some (at_id_other id f p (λ q. ne (sym (found picture w p e).1 ∙ q)))

-- ---- a volume comes or goes

pub push_in : (picture : Picture) (new : PlainVolume) (id : VolId) (p : PlainVolume) → volume_in picture id ≡ Some p → volume_in (picture ++ new ∷ []) id ≡ Some p
push_in [] new id p e = absurd cc
push_in (x ∷ xs) new id p e =
    elim (cases_eq x.volume.0 id.0) [
      | inl same ↦ find_here x (xs ++ new ∷ []) id same ∙ (sym (find_here x xs id same) ∙ e)
      | inr ne ↦ find_later x (xs ++ new ∷ []) id ne ∙ push_in xs new id p (sym (find_later x xs id ne) ∙ e)
    ]

pub push_new : (picture : Picture) (new : PlainVolume) → ((p : PlainVolume) → Contains picture p → p.volume.0 ≢ new.volume.0) → volume_in (picture ++ new ∷ []) new.volume ≡ Some new
push_new [] new f = find_here new [] new.volume refl
push_new (x ∷ xs) new f =
    find_later x (xs ++ new ∷ []) new.volume (f x (zero, omega arith, refl)) ∙ push_new xs new (λ p c. f p (later x p xs c))

pub apart_push : (picture : Picture) (new : PlainVolume) → Apart picture → ((p : PlainVolume) → Contains picture p → p.volume.0 ≢ new.volume.0) → Apart (picture ++ new ∷ [])
apart_push picture new a f =
    all_pairs_push (λ (p q : PlainVolume). p.volume.0 ≢ q.volume.0) picture new a (λ k d lt. f (get_or picture k d) (Contains-get_or picture k d lt))

abbrev pub without_id : VolId → Picture → Picture
without_id id picture = filter (λ (p : PlainVolume). not (p.volume.0 == id.0)) picture

gone : (id : VolId) (x : PlainVolume) (xs : Picture) → x.volume.0 ≡ id.0 → without_id id (x ∷ xs) ≡ without_id id xs
gone id x xs e = ap (λ z. cond (not z) (x ∷ without_id id xs) (without_id id xs)) (eq-eqb x.volume.0 id.0 e)

kept : (id : VolId) (x : PlainVolume) (xs : Picture) → x.volume.0 ≢ id.0 → without_id id (x ∷ xs) ≡ x ∷ without_id id xs
kept id x xs ne = ap (λ z. cond (not z) (x ∷ without_id id xs) (without_id id xs)) (ne_eqb x.volume.0 id.0 ne)

pub without_in : (id w : VolId) (picture : Picture) → w.0 ≢ id.0 → volume_in (without_id id picture) w ≡ volume_in picture w
without_in id w [] ne = refl
without_in id w (x ∷ xs) ne =
    elim (cases_eq x.volume.0 id.0) [
      | inl same ↦ ap (λ z. volume_in z w) (gone id x xs same) ∙ (without_in id w xs ne ∙ sym (find_later x xs w (λ q. ne (sym q ∙ same))))
      | inr other ↦ ap (λ z. volume_in z w) (kept id x xs other) ∙ ap (λ z. cond (x.volume.0 == w.0) (Some x) z) (without_in id w xs ne)
    ]

pub without_from : (id : VolId) (picture : Picture) (p : PlainVolume) → Contains (without_id id picture) p → Contains picture p × (p.volume.0 ≢ id.0)
without_from id [] p (k, lt, e) = absurd (omega arith)
without_from id (x ∷ xs) p c =
    elim (cases_eq x.volume.0 id.0) [
      | inl same ↦ let r = without_from id xs p (subst (λ (z : Picture). Contains z p) (gone id x xs same) c) in (later x p xs r.0, r.1)
      | inr other ↦ elim (contains_cases x p (without_id id xs) (subst (λ (z : Picture). Contains z p) (kept id x xs other) c)) [
        | inl e ↦ ((zero, omega arith, e), λ q. other (ap (λ (z : PlainVolume). z.volume.0) e ∙ q))
        | inr d ↦ let r = without_from id xs p d in (later x p xs r.0, r.1)
      ]
    ]

pub apart_without : (id : VolId) (picture : Picture) → Apart picture → Apart (without_id id picture)
apart_without id picture a = AllPairs-filter (λ (p q : PlainVolume). p.volume.0 ≢ q.volume.0) (λ (p : PlainVolume). not (p.volume.0 == id.0)) picture a

-- ---- what a slot that leaves leaves

pub length_cut : (held : List Bool) (now under : List Content) → length (cut_by held now under) ≡ length now
length_cut [] now under = refl
length_cut (true ∷ held) [] under = refl
length_cut (true ∷ held) (x ∷ now) [] = refl
length_cut (true ∷ held) (x ∷ now) (y ∷ under) = ap suc (length_cut held now under)
length_cut (false ∷ held) [] under = refl
length_cut (false ∷ held) (x ∷ now) [] = refl
length_cut (false ∷ held) (x ∷ now) (y ∷ under) = ap suc (length_cut held now under)

-- at each grain, what the volume shows where the slot holds it, and else what it was before
pub cut_held : (held : List Bool) (now under : List Content) (g : ℕ) → length under ≡ length now → get_or held g false ≡ true → content_at (cut_by held now under) g ≡ content_at now g
cut_held [] now under g l h = absurd cc
cut_held (true ∷ held) [] under g l h = refl
cut_held (true ∷ held) (x ∷ now) [] g l h = refl
cut_held (true ∷ held) (x ∷ now) (y ∷ under) zero l h = refl
cut_held (true ∷ held) (x ∷ now) (y ∷ under) (suc g) l h = cut_held held now under g (omega arith) h
cut_held (false ∷ held) [] under g l h = refl
cut_held (false ∷ held) (x ∷ now) [] g l h = refl
cut_held (false ∷ held) (x ∷ now) (y ∷ under) zero l h = absurd cc
cut_held (false ∷ held) (x ∷ now) (y ∷ under) (suc g) l h = cut_held held now under g (omega arith) h

pub cut_lacked : (held : List Bool) (now under : List Content) (g : ℕ) → length now ≡ length held → length under ≡ length now → g < length held → get_or held g false ≡ false →
    content_at (cut_by held now under) g ≡ content_at under g
cut_lacked [] now under g l m lt h = absurd (omega arith)
cut_lacked (true ∷ held) [] under g l m lt h = absurd (omega arith)
cut_lacked (true ∷ held) (x ∷ now) [] g l m lt h = absurd (omega arith)
cut_lacked (true ∷ held) (x ∷ now) (y ∷ under) zero l m lt h = absurd cc
cut_lacked (true ∷ held) (x ∷ now) (y ∷ under) (suc g) l m lt h = cut_lacked held now under g (omega arith) (omega arith) (omega arith) h
cut_lacked (false ∷ held) [] under g l m lt h = absurd (omega arith)
cut_lacked (false ∷ held) (x ∷ now) [] g l m lt h = absurd (omega arith)
cut_lacked (false ∷ held) (x ∷ now) (y ∷ under) zero l m lt h = refl
cut_lacked (false ∷ held) (x ∷ now) (y ∷ under) (suc g) l m lt h = cut_lacked held now under g (omega arith) (omega arith) (omega arith) h

-- a second time it changes nothing
pub cut_twice : (held : List Bool) (now under : List Content) → cut_by held (cut_by held now under) under ≡ cut_by held now under
cut_twice [] now under = refl
cut_twice (true ∷ held) [] under = refl
cut_twice (true ∷ held) (x ∷ now) [] = refl
cut_twice (true ∷ held) (x ∷ now) (y ∷ under) = ap (λ (z : List Content). x ∷ z) (cut_twice held now under)
cut_twice (false ∷ held) [] under = refl
cut_twice (false ∷ held) (x ∷ now) [] = refl
cut_twice (false ∷ held) (x ∷ now) (y ∷ under) = ap (λ (z : List Content). y ∷ z) (cut_twice held now under)

pub cut_keeps : (held : List Bool) → KeepsIds (cut_volume held)
cut_keeps held p = refl
