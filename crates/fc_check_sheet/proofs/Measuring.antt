-- Distances along links: what one more link, and one more level, leave of them.
use Rattle.std.proofs.Common.{◌≡◌, ◌≢◌, ◌⊎◌, ℕ, zero, suc, ◌+◌, ◌<◌, ◌≤◌, Bool, true, false, cond, ◌||◌, eqb, is_none, Option, Some, None, List, [], ◌∷◌, ◌++◌, length, get_or, refl, sym, ap, subst, ◌∙◌, arith, inl, inr, length-append}
use Rattle.std.specs.Prelude.{IsSome}
use Rattle.std.specs.List.{count_by}
use Rattle.std.proofs.lemmas.Bool.{cases_eq, eq-eqb, ne_eqb}
use Rattle.std.proofs.lemmas.List.{get_or_default}
use Rattle.std.proofs.lemmas.List.Sums.{sum_by-cons}
use Rattle.fc_loops.specs.Routes.{RouteBy}
use Rattle.fc_check_sheet.specs.declared.distances.Distance.{Distance}
use Rattle.fc_check_sheet.specs.declared.links.Link.{Link}
use Rattle.fc_check_sheet.specs.Links.{HasLink}
use Rattle.fc_check_sheet.specs.Distances.{distance_in, IsAway, AreReal, IsWithin, AreNear, AreDistances, NotesLink, unnoted, NotesLevel}

-- ---- one distance more

abbrev pub distance : ℕ → ℕ → Distance
distance v k = record { volume = v; links = k }

in_pushed : (ds : List Distance) (v k w : ℕ) → distance_in ds v ≡ None → distance_in (ds ++ distance v k ∷ []) w ≡ cond (eqb v w) (Some k) (distance_in ds w)
in_pushed [] v k w e = refl
in_pushed (d ∷ ds) v k w e =
    elim (cases_eq d.volume v) [
      | inl same ↦ (let t : eqb d.volume v ≡ true = eq-eqb d.volume v same in let some : Some d.links ≡ None = sym (ap (λ b. cond b (Some d.links) (distance_in ds v)) t) ∙ e in absurd cc)
      | inr ne ↦ (let f : eqb d.volume v ≡ false = ne_eqb d.volume v ne in
          let rest : distance_in ds v ≡ None = sym (ap (λ b. cond b (Some d.links) (distance_in ds v)) f) ∙ e in
          ap (λ (o : Option ℕ). cond (eqb d.volume w) (Some d.links) o) (in_pushed ds v k w rest) ∙ either d.volume (Some d.links) (distance_in ds w) ne)
    ]
  where
    either : (u : ℕ) (a b : Option ℕ) → u ≢ v → cond (eqb u w) a (cond (eqb v w) (Some k) b) ≡ cond (eqb v w) (Some k) (cond (eqb u w) a b)
    either u a b ne =
        elim (cases_eq v w) [
          | inl same ↦ (let f : eqb u w ≡ false = ne_eqb u w (λ q. ne (q ∙ sym same)) in rw f refl)
          | inr other ↦ (let f : eqb v w ≡ false = ne_eqb v w other in rw f refl)
        ]

here : (ds : List Distance) (v k : ℕ) → distance_in ds v ≡ None → distance_in (ds ++ distance v k ∷ []) v ≡ Some k
here ds v k e = in_pushed ds v k v e ∙ ap (λ b. cond b (Some k) (distance_in ds v)) (eq-eqb v v refl)

there : (ds : List Distance) (v k w : ℕ) → distance_in ds v ≡ None → w ≢ v → distance_in (ds ++ distance v k ∷ []) w ≡ distance_in ds w
there ds v k w e ne = in_pushed ds v k w e ∙ ap (λ b. cond b (Some k) (distance_in ds w)) (ne_eqb v w (λ q. ne (sym q)))

-- ---- one level more, link by link

abbrev pub link_at : List Link → ℕ → Link
link_at links k = get_or links k (record { from = 0; to = 0 })

-- an item, as loops give it
pub item_is : (links : List Link) (k : ℕ) → k < length links → link_at links k ≡ get_or links k (link_at links k)
item_is links k lt = sym (get_or_default links k (link_at links k) (record { from = 0; to = 0 }) lt)

-- after the first links
pub record Noting (links : List Link) (start away : ℕ) (ds : List Distance) (bound : ℕ) : Type 0 where
  pub low : (v k : ℕ) → distance_in ds v ≡ Some k → k ≤ away + 1
  pub real : AreReal (HasLink links) start ds
  pub near : (v : ℕ) (xs : List ℕ) → length xs + 1 ≤ away → RouteBy (HasLink links) v xs start → IsWithin ds v (length xs + 1)
  pub done : (j : ℕ) → j < bound → IsAway start away ds (link_at links j).to → (k : ℕ) × (distance_in ds (link_at links j).from ≡ Some k)

-- a link that notes nothing
noting_passed : (links : List Link) (start away : ℕ) (ds : List Distance) (bound : ℕ) → Noting links start away ds bound →
    IsSome (distance_in ds (link_at links bound).from) ⊎ (IsAway start away ds (link_at links bound).to → ⊥) → Noting links start away ds (bound + 1)
noting_passed links start away ds bound n why = record {
  low = n.low;
  real = n.real;
  near = n.near;
  done = λ j lt a. elim (cases_eq j bound) [
    | inl q ↦ at_bound j q a
    | inr ne ↦ n.done j (omega arith) a
  ];
}
  where
    is_noted : (o : Option ℕ) → IsSome o → (k : ℕ) × (o ≡ Some k)
    is_noted None s = let e : false ≡ true = s in absurd cc
    is_noted (Some k) s = (k, refl)

    at_bound : (j : ℕ) → j ≡ bound → IsAway start away ds (link_at links j).to → (k : ℕ) × (distance_in ds (link_at links j).from ≡ Some k)
    at_bound j q a =
        let P : ℕ → Type 0 = λ z. (k : ℕ) × (distance_in ds (link_at links z).from ≡ Some k) in
        let Q : ℕ → Type 0 = λ z. IsAway start away ds (link_at links z).to in
        subst P (sym q) (elim why [ inl s ↦ is_noted (distance_in ds (link_at links bound).from) s | inr never ↦ absurd (never (subst Q q a)) ])

-- the route that a link begins
route_on : (links : List Link) (start away : ℕ) (ds : List Distance) (from to : ℕ) → AreReal (HasLink links) start ds → HasLink links from to → IsAway start away ds to →
    (xs : List ℕ) × (length xs + 1 ≡ away + 1) × RouteBy (HasLink links) from xs start
route_on links start away ds from to real has a =
    elim a [
      | inl first ↦ (let z : away ≡ 0 = first.0 in let P : ℕ → Type 0 = λ x. HasLink links from x in ([], omega arith, subst P first.1 has))
      | inr more ↦ (let r = real to away more.1 in let l : length r.0 + 1 ≡ away = r.1 in (to ∷ r.0, omega arith, (has, r.2)))
    ]

-- a link that notes the volume from which it leads
noting_more : (links : List Link) (start away : ℕ) (ds : List Distance) (bound from to : ℕ) → Noting links start away ds bound → bound < length links → (link_at links bound).from ≡ from → HasLink links from to → distance_in ds from ≡ None →
    IsAway start away ds to → Noting links start away (ds ++ distance from (away + 1) ∷ []) (bound + 1)
noting_more links start away ds bound from to n lt ef has none a = record { low = low; real = real; near = near; done = done }
  where
    new : List Distance
    new = ds ++ distance from (away + 1) ∷ []

    at : distance_in new from ≡ Some (away + 1)
    at = here ds from (away + 1) none

    other : (v : ℕ) → v ≢ from → distance_in new v ≡ distance_in ds v
    other v ne = there ds from (away + 1) v none ne

    low : (v k : ℕ) → distance_in new v ≡ Some k → k ≤ away + 1
    low v k e =
        elim (cases_eq v from) [
          | inl q ↦ (let s : Some k ≡ Some (away + 1) = sym e ∙ (ap (distance_in new) q ∙ at) in let same : k ≡ away + 1 = cc in omega arith)
          | inr ne ↦ n.low v k (sym (other v ne) ∙ e)
        ]

    real : AreReal (HasLink links) start new
    real v k e =
        elim (cases_eq v from) [
          | inl q ↦ (let s : Some k ≡ Some (away + 1) = sym e ∙ (ap (distance_in new) q ∙ at) in
              let same : k ≡ away + 1 = cc in
              let r = route_on links start away ds from to n.real has a in
              let P : ℕ → Type 0 = λ z. RouteBy (HasLink links) z r.0 start in
              (r.0, r.1 ∙ sym same, subst P (sym q) r.2))
          | inr ne ↦ n.real v k (sym (other v ne) ∙ e)
        ]

    differs : (v : ℕ) (k : ℕ) → distance_in ds v ≡ Some k → v ≢ from
    differs v k e q = let s : Some k ≡ None = sym e ∙ (ap (distance_in ds) q ∙ none) in absurd cc

    near : (v : ℕ) (xs : List ℕ) → length xs + 1 ≤ away → RouteBy (HasLink links) v xs start → IsWithin new v (length xs + 1)
    near v xs le r = let w = n.near v xs le r in record { links = w.links; noted = other v (differs v w.links w.noted) ∙ w.noted; near = w.near }

    was_away : (v : ℕ) → IsAway start away new v → IsAway start away ds v
    was_away v b =
        elim b [
          | inl first ↦ inl first
          | inr more ↦ elim (cases_eq v from) [
            | inl q ↦ (let s : Some away ≡ Some (away + 1) = sym more.1 ∙ (ap (distance_in new) q ∙ at) in let same : away ≡ away + 1 = cc in absurd (omega arith))
            | inr ne ↦ inr (more.0, sym (other v ne) ∙ more.1)
          ]
        ]

    done : (j : ℕ) → j < bound + 1 → IsAway start away new (link_at links j).to → (k : ℕ) × (distance_in new (link_at links j).from ≡ Some k)
    done j below b =
        elim (cases_eq (link_at links j).from from) [
          | inl q ↦ (away + 1, ap (distance_in new) q ∙ at)
          | inr ne ↦ (let old : j ≢ bound = λ q. ne (ap (λ z. (link_at links z).from) q ∙ ef) in
              let d = n.done j (omega arith) (was_away (link_at links j).to b) in (d.0, other (link_at links j).from ne ∙ d.1))
        ]

-- all links done
pub near_more : (links : List Link) (start away : ℕ) (ds : List Distance) (bound : ℕ) → length links ≤ bound → Noting links start away ds bound → AreNear (HasLink links) start (away + 1) ds
near_more links start away ds bound all n = record { low = n.low; real = n.real; near = near }
  where
    found : (v w : ℕ) → HasLink links v w → IsAway start away ds w → IsWithin ds v (away + 1)
    found v w has a =
        let lt : has.0 < length links = has.1 in
        let is : link_at links has.0 ≡ record { from = v; to = w } = get_or_default links has.0 (record { from = 0; to = 0 }) (record { from = v; to = w }) lt ∙ has.2 in
        let P : ℕ → Type 0 = λ z. IsAway start away ds z in
        let d = n.done has.0 (omega arith) (subst P (sym (ap (λ (l : Link). l.to) is)) a) in
        let e : distance_in ds v ≡ Some d.0 = ap (distance_in ds) (sym (ap (λ (l : Link). l.from) is)) ∙ d.1 in
        record { links = d.0; noted = e; near = n.low v d.0 e }

    within : (v m k : ℕ) → m ≤ k → IsWithin ds v m → IsWithin ds v k
    within v m k le w = record { links = w.links; noted = w.noted; near = (let l : w.links ≤ m = w.near in omega arith) }

    near : (v : ℕ) (xs : List ℕ) → length xs + 1 ≤ away + 1 → RouteBy (HasLink links) v xs start → IsWithin ds v (length xs + 1)
    near v [] le has =
        elim (cases_eq away 0) [
          | inl z ↦ within v (away + 1) (0 + 1) (omega arith) (found v start has (inl (z, refl)))
          | inr nz ↦ n.near v [] (omega arith) has
        ]
    near v (x ∷ xs) le r =
        let w = n.near x xs (omega arith) r.1 in
        let wn : w.links ≤ length xs + 1 = w.near in
        elim (cases_eq w.links away) [
          | inl same ↦ within v (away + 1) (length (x ∷ xs) + 1) (omega arith) (found v x r.0 (inr (omega arith, w.noted ∙ ap Some same)))
          | inr less ↦ (let s = n.real x w.links w.noted in
              let l : length s.0 + 1 ≡ w.links = s.1 in
              within v (length (x ∷ s.0) + 1) (length (x ∷ xs) + 1) (omega arith) (n.near v (x ∷ s.0) (omega arith) (r.0, s.2)))
        ]

-- ---- the end

-- a level that notes nothing is the last
pub all_noted : (links : List Link) (start away : ℕ) (ds : List Distance) → AreNear (HasLink links) start away ds → AreNear (HasLink links) start (away + 1) ds → AreDistances (HasLink links) start ds
all_noted links start away ds low more = record { real = low.real; near = near }
  where
    near : (v : ℕ) (xs : List ℕ) → RouteBy (HasLink links) v xs start → IsWithin ds v (length xs + 1)
    near v [] has = more.near v [] (omega arith) has
    near v (x ∷ xs) r =
        let w = near x xs r.1 in
        let wn : w.links ≤ length xs + 1 = w.near in
        let l : w.links ≤ away = low.low x w.links w.noted in
        let s = low.real x w.links w.noted in
        let sl : length s.0 + 1 ≡ w.links = s.1 in
        let t = more.near v (x ∷ s.0) (omega arith) (r.0, s.2) in
        record { links = t.links; noted = t.noted; near = (let tn : t.links ≤ length (x ∷ s.0) + 1 = t.near in omega arith) }

-- ---- how many links are left

at_most : (a b : Bool) → (a ≡ true → b ≡ true) → cond {A = ℕ} a 1 0 ≤ cond b 1 0
at_most true b f = rw (f refl) (omega arith)
at_most false true f = omega arith
at_most false false f = omega arith

count_cons : (p : Link → Bool) (l : Link) (links : List Link) → count_by p (l ∷ links) ≡ cond (p l) 1 0 + count_by p links
count_cons p l links = sum_by-cons (λ x. cond (p x) 1 0) l links

counted : (p q : Link → Bool) (links : List Link) → ((l : Link) → q l ≡ true → p l ≡ true) → count_by q links ≤ count_by p links
counted p q [] h = omega arith
counted p q (l ∷ links) h =
    let rest : count_by q links ≤ count_by p links = counted p q links h in
    let one : cond {A = ℕ} (q l) 1 0 ≤ cond (p l) 1 0 = at_most (q l) (p l) (h l) in
    omega (arith, count_cons p l links, count_cons q l links)

fewer_counted : (p q : Link → Bool) (links : List Link) (k : ℕ) (d : Link) → ((l : Link) → q l ≡ true → p l ≡ true) → k < length links → p (get_or links k d) ≡ true → q (get_or links k d) ≡ false → count_by q links < count_by p links
fewer_counted p q [] k d h lt was gone = absurd (omega arith)
fewer_counted p q (l ∷ links) zero d h lt was gone =
    let rest : count_by q links ≤ count_by p links = counted p q links h in
    let one : cond {A = ℕ} (q l) 1 0 ≡ 0 = ap (λ (b : Bool). cond {A = ℕ} b 1 0) gone in
    let two : cond {A = ℕ} (p l) 1 0 ≡ 1 = ap (λ (b : Bool). cond {A = ℕ} b 1 0) was in
    omega (arith, count_cons p l links, count_cons q l links)
fewer_counted p q (l ∷ links) (suc k) d h lt was gone =
    let rest : count_by q links < count_by p links = fewer_counted p q links k d h (omega arith) was gone in
    let one : cond {A = ℕ} (q l) 1 0 ≤ cond (p l) 1 0 = at_most (q l) (p l) (h l) in
    omega (arith, count_cons p l links, count_cons q l links)

abbrev is_left : List Distance → Link → Bool
is_left ds l = is_none (distance_in ds l.from)

fewer_left : (links : List Link) (ds : List Distance) (bound from k : ℕ) → bound < length links → (link_at links bound).from ≡ from → distance_in ds from ≡ None → unnoted links (ds ++ distance from k ∷ []) < unnoted links ds
fewer_left links ds bound from k lt ef none =
    fewer_counted (is_left ds) (is_left (ds ++ distance from k ∷ [])) links bound (record { from = 0; to = 0 }) still lt
    (ap (λ (o : Option ℕ). is_none o) (ap (distance_in ds) ef ∙ none))
    (ap (λ (o : Option ℕ). is_none o) (ap (distance_in (ds ++ distance from k ∷ [])) ef ∙ here ds from k none))
  where
    still : (l : Link) → is_left (ds ++ distance from k ∷ []) l ≡ true → is_left ds l ≡ true
    still l e =
        elim (cases_eq l.from from) [
          | inl q ↦ ap (λ (o : Option ℕ). is_none o) (ap (distance_in ds) q ∙ none)
          | inr ne ↦ ap (λ (o : Option ℕ). is_none o) (sym (there ds from k l.from none ne)) ∙ e
        ]

-- ---- a level's links, one after another

-- what the links so far noted
pub record LevelBelow (links : List Link) (start away : ℕ) (old now : List Distance) (any : Bool) (bound : ℕ) : Type 0 where
  pub noting : Noting links start away now bound
  pub fewer : any ≡ true → unnoted links now < unnoted links old
  pub longer : any ≡ true → length old < length now
  pub same : any ≡ false → now ≡ old

pub level_more : (links : List Link) (start away bound : ℕ) (old now new : List Distance) (any noted next : Bool) (l : Link) → bound < length links → l ≡ get_or links bound l → LevelBelow links start away old now any bound →
    NotesLink l start away now new noted → next ≡ (any || noted) → LevelBelow links start away old new next (bound + 1)
level_more links start away bound old now new any noted next l lt is s note e = subst P (sym e) (by any noted note s)
  where
    P : Bool → Type 0
    P z = LevelBelow links start away old new z (bound + 1)

    same_link : link_at links bound ≡ l
    same_link = get_or_default links bound (record { from = 0; to = 0 }) l lt ∙ sym is

    from_is : (link_at links bound).from ≡ l.from
    from_is = ap (λ (x : Link). x.from) same_link

    has : HasLink links l.from l.to
    has = (bound, lt, sym is)

    passed : (any : Bool) → LevelBelow links start away old now any bound → NotesLink l start away now new false → LevelBelow links start away old new any (bound + 1)
    passed any s note =
        let Q : Link → Type 0 = λ z. IsSome (distance_in now z.from) ⊎ (IsAway start away now z.to → ⊥) in
        let R : List Distance → Type 0 = λ z. LevelBelow links start away old z any (bound + 1) in
        subst R (sym note.1) (record {
          noting = noting_passed links start away now bound s.noting (subst Q (sym same_link) note.0);
          fewer = s.fewer;
          longer = s.longer;
          same = s.same;
        })

    no_more : (any : Bool) → LevelBelow links start away old now any bound → unnoted links now ≤ unnoted links old
    no_more true s = let f : unnoted links now < unnoted links old = s.fewer refl in omega arith
    no_more false s = let f : unnoted links now ≡ unnoted links old = ap (unnoted links) (s.same refl) in omega arith

    no_shorter : (any : Bool) → LevelBelow links start away old now any bound → length old ≤ length now
    no_shorter true s = let f : length old < length now = s.longer refl in omega arith
    no_shorter false s = let f : length now ≡ length old = ap length (s.same refl) in omega arith

    noted_one : (any : Bool) → LevelBelow links start away old now any bound → NotesLink l start away now new true → LevelBelow links start away old new true (bound + 1)
    noted_one any s note =
        let x : Distance = distance l.from (away + 1) in
        let R : List Distance → Type 0 = λ z. LevelBelow links start away old z true (bound + 1) in
        let few = no_more any s in
        let short = no_shorter any s in
        let less = fewer_left links now bound l.from (away + 1) lt from_is note.0 in
        let long : length (now ++ x ∷ []) ≡ length now + length (x ∷ []) = length-append now (x ∷ []) in
        subst R (sym note.2) (record {
          noting = noting_more links start away now bound l.from l.to s.noting lt from_is has note.0 note.1;
          fewer = λ t. omega arith;
          longer = λ t. omega arith;
          same = λ f. absurd cc;
        })

    by : (any noted : Bool) → NotesLink l start away now new noted → LevelBelow links start away old now any bound → LevelBelow links start away old new (any || noted) (bound + 1)
    by true true note s = noted_one true s note
    by false true note s = noted_one false s note
    by true false note s = passed true s note
    by false false note s = passed false s note

pub level_done : (links : List Link) (start away bound : ℕ) (old now : List Distance) (any : Bool) → length links ≤ bound → LevelBelow links start away old now any bound → NotesLevel links start away old now any
level_done links start away bound old now any le s = record {
  near = near_more links start away now bound le s.noting;
  fewer = s.fewer;
  longer = s.longer;
  same = s.same;
}
