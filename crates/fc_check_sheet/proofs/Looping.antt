-- The loop that is told: the least volume on a loop, and the best way from there.
use Rattle.std.proofs.Common.{◌≡◌, ◌⊎◌, ℕ, zero, suc, ◌+◌, ◌-◌, ◌<◌, ◌≤◌, Option, Some, None, List, [], ◌∷◌, ◌++◌, length, get_or, map, refl, sym, ap, subst, ◌∙◌, arith, inl, inr}
use Rattle.std.specs.List.{range_with_len}
use Rattle.std.proofs.lemmas.Bool.{cases_eq, cases_lt, ne_eqb}
use Rattle.std.proofs.lemmas.List.{get_or_default, map-append}
use Rattle.std.proofs.lemmas.List.FromFn.{get_or-map-range_with_len, length-map-range_with_len}
use Rattle.fc_base.specs.Column.{Shape}
use Rattle.fc_base.specs.RestoreGraph.{Edge}
use Rattle.fc_base.specs.Sheet.{Slot, slot_at, shape_of}
use Rattle.fc_base.specs.SheetView.{LoopAnswer}
use Rattle.fc_base.specs.declared.ids.VolId.{VolId}
use Rattle.fc_loops.specs.Routes.{RouteBy, IsToldBy, ToldBy, mark_at, AreMarked, IsBestLoop}
use Rattle.fc_loops.proofs.LoopTold.{told_loop_is, no_loop_is}
use Rattle.fc_loops.proofs.LoopWalk.{GoesOn, next_there, goes_more, goes_last, best_told}
use Rattle.fc_moves.proofs.Search.{cases_option}
use Rattle.fc_check_sheet.specs.declared.distances.Distance.{Distance}
use Rattle.fc_check_sheet.specs.declared.links.Link.{Link}
use Rattle.fc_check_sheet.specs.Links.{HasLink, AreEdges}
use Rattle.fc_check_sheet.specs.Distances.{distance_in, AreDistances}
use Rattle.fc_check_sheet.specs.Loops.{HasVolumes, IsLess, IsOnLoop, LeadsOn, IsLeastOnLoop, LeastOnLoop, TriesLoop, IsStep, IsLeastNext, LeastNext, Betters}

-- ---- distances as marks, by volume

abbrev or_zero : Option ℕ → ℕ
or_zero None = 0
or_zero (Some k) = k

abbrev above : List Distance → ℕ
above [] = 0
above (d ∷ ds) = d.volume + 1 + above ds

beyond : (ds : List Distance) (v : ℕ) → above ds ≤ v → distance_in ds v ≡ None
beyond [] v le = refl
beyond (d ∷ ds) v le = rw (ne_eqb d.volume v (λ q. (let e : d.volume ≡ v = q in omega arith))) (beyond ds v (omega arith))

abbrev marks : List Distance → List ℕ
marks ds = map (λ v. or_zero (distance_in ds v)) (range_with_len 0 (above ds))

past : (xs : List ℕ) (k : ℕ) → length xs ≤ k → get_or xs k 0 ≡ 0
past [] k le = refl
past (x ∷ xs) zero le = absurd (omega arith)
past (x ∷ xs) (suc k) le = past xs k (omega arith)

mark_is : (ds : List Distance) (v : ℕ) → mark_at (marks ds) v ≡ or_zero (distance_in ds v)
mark_is ds v =
    elim (cases_lt v (above ds)) [
      | inl lt ↦ get_or-map-range_with_len (λ u. or_zero (distance_in ds u)) 0 (above ds) v v 0 lt (omega arith)
      | inr ge ↦ (let long : length (marks ds) ≡ above ds = length-map-range_with_len (λ u. or_zero (distance_in ds u)) 0 (above ds) in
          past (marks ds) v (omega arith) ∙ sym (ap or_zero (beyond ds v ge)))
    ]

mark_some : (ds : List Distance) (v k : ℕ) → distance_in ds v ≡ Some k → mark_at (marks ds) v ≡ k
mark_some ds v k e = mark_is ds v ∙ ap or_zero e

some_mark : (ds : List Distance) (v k : ℕ) → 0 < k → mark_at (marks ds) v ≡ k → distance_in ds v ≡ Some k
some_mark ds v k pos e =
    elim (cases_option (distance_in ds v)) [
      | inl none ↦ (let z : mark_at (marks ds) v ≡ 0 = mark_is ds v ∙ ap or_zero none in absurd (omega arith))
      | inr s ↦ s.1 ∙ ap Some (sym (mark_some ds v s.0 s.1) ∙ e)
    ]

are_marked : (E : ℕ → ℕ → Type 0) (start : ℕ) (ds : List Distance) → AreDistances E start ds → AreMarked E start (marks ds)
are_marked E start ds a = record {
  real = λ v lt. (let r = a.real v (mark_at (marks ds) v) (some_mark ds v (mark_at (marks ds) v) lt refl) in r);
  near = λ v xs r.
      (let w = a.near v xs r in
      let m : mark_at (marks ds) v ≡ w.links = mark_some ds v w.links w.noted in
      let s = a.real v w.links w.noted in
      let l : length s.0 + 1 ≡ w.links = s.1 in
      let n : w.links ≤ length xs + 1 = w.near in
      (omega arith, omega arith));
}

pub long_some : (E : ℕ → ℕ → Type 0) (start v long : ℕ) (ds : List Distance) → AreDistances E start ds → distance_in ds v ≡ Some long → 0 < long
long_some E start v long ds a e = let s = a.real v long e in let l : length s.0 + 1 ≡ long = s.1 in omega arith

-- ---- the next volume, link by link

last_or : (links : List Link) (ds : List Distance) (here away i w : ℕ) (l : Link) → i < length links → l ≡ get_or links i l → IsStep links ds here away (i + 1) w →
    IsStep links ds here away i w ⊎ ((l.from ≡ here) × (l.to ≡ w) × (distance_in ds w ≡ Some away))
last_or links ds here away i w l lt is s =
    let below : s.at < i + 1 = s.below in
    elim (cases_lt s.at i) [
      | inl b ↦ inl (record { at = s.at; below = b; link = s.link; away_is = s.away_is })
      | inr ge ↦ (let same : s.at ≡ i = omega arith in
          let e : l ≡ record { from = here; to = w } = is ∙ (get_or_default links i l (record { from = 0; to = 0 }) lt ∙ (ap (λ z. get_or links z (record { from = 0; to = 0 })) (sym same) ∙ s.link)) in
          inr (ap (λ (x : Link). x.from) e, ap (λ (x : Link). x.to) e, s.away_is))
    ]

further : (links : List Link) (ds : List Distance) (here away i w : ℕ) → IsStep links ds here away i w → IsStep links ds here away (i + 1) w
further links ds here away i w s = record { at = s.at; below = (let b : s.at < i = s.below in omega arith); link = s.link; away_is = s.away_is }

pub step_taken : (links : List Link) (ds : List Distance) (here away i : ℕ) (l : Link) (next : Option ℕ) → i < length links → l ≡ get_or links i l → Betters l ds here away next → LeastNext links ds here away i next →
    LeastNext links ds here away (i + 1) (Some l.to)
step_taken links ds here away i l next lt is b n = by next b.1 n
  where
    step : IsStep links ds here away (i + 1) l.to
    step = record {
      at = i;
      below = omega arith;
      link = get_or_default links i (record { from = 0; to = 0 }) l lt ∙ (sym is ∙ ap (λ v. record { from = v; to = l.to }) b.0);
      away_is = b.2;
    }

    by : (next : Option ℕ) → IsLess l.to next → LeastNext links ds here away i next → LeastNext links ds here away (i + 1) (Some l.to)
    by None less n = record {
      step = step;
      least = λ w s. elim (last_or links ds here away i w l lt is s) [ inl before ↦ absurd (n w before) | inr t ↦ (let q : l.to ≡ w = t.1 in omega arith) ];
    }
    by (Some k) less n = record {
      step = step;
      least = λ w s. elim (last_or links ds here away i w l lt is s) [ inl before ↦ (let q : k ≤ w = n.least w before in let r : l.to < k = less in omega arith) | inr t ↦ (let q : l.to ≡ w = t.1 in omega arith) ];
    }

pub step_passed : (links : List Link) (ds : List Distance) (here away i : ℕ) (l : Link) (next : Option ℕ) → i < length links → l ≡ get_or links i l → (Betters l ds here away next → ⊥) → LeastNext links ds here away i next →
    LeastNext links ds here away (i + 1) next
step_passed links ds here away i l None lt is never n =
    λ w s. elim (last_or links ds here away i w l lt is s) [
      | inl before ↦ n w before
      | inr t ↦ never (t.0, tt, ap (distance_in ds) t.1 ∙ t.2)
    ]
step_passed links ds here away i l (Some k) lt is never n = record {
  step = further links ds here away i k n.step;
  least = λ w s. elim (last_or links ds here away i w l lt is s) [
    | inl before ↦ n.least w before
    | inr t ↦ (let q : l.to ≡ w = t.1 in elim (cases_lt l.to k) [ inl less ↦ absurd (never (t.0, less, ap (distance_in ds) q ∙ t.2)) | inr ge ↦ omega arith ])
  ];
}

pub step_done : (links : List Link) (ds : List Distance) (here away i : ℕ) (next : Option ℕ) → i ≤ length links → length links ≤ i → LeastNext links ds here away i next → LeastNext links ds here away (length links) next
step_done links ds here away i next a b n = let same : i ≡ length links = omega arith in let P : ℕ → Type 0 = λ z. LeastNext links ds here away z next in subst P same n

has_step : (links : List Link) (ds : List Distance) (here away w : ℕ) → IsStep links ds here away (length links) w → HasLink links here w
has_step links ds here away w s = (s.at, s.below, get_or_default links s.at (record { from = here; to = w }) (record { from = 0; to = 0 }) s.below ∙ s.link)

step_of : (links : List Link) (ds : List Distance) (here away w : ℕ) → HasLink links here w → distance_in ds w ≡ Some away → IsStep links ds here away (length links) w
step_of links ds here away w h e = let lt : h.0 < length links = h.1 in record { at = h.0; below = lt; link = get_or_default links h.0 (record { from = 0; to = 0 }) (record { from = here; to = w }) lt ∙ h.2; away_is = e }

-- ---- the way

abbrev pub ids : List VolId → List ℕ
ids names = map (λ (w : VolId). w.0) names

-- From here it goes on by so many links and one.
pub record IsOnWay (links : List Link) (ds : List Distance) (start long : ℕ) (names : List VolId) (here away : ℕ) : Type 0 where
  pub away_is : distance_in ds here ≡ Some (away + 1)
  pub so_far : GoesOn (HasLink links) start long (ids names) here (away + 1)

next_is : (links : List Link) (ds : List Distance) (here away v : ℕ) (next : Option ℕ) → next ≡ Some v → LeastNext links ds here away (length links) next → IsLeastNext links ds here away (length links) v
next_is links ds here away v next e n = let P : Option ℕ → Type 0 = λ z. LeastNext links ds here away (length links) z in subst P e n

-- the next volume is one link away or more
pub next_away : (links : List Link) (ds : List Distance) (start here away v : ℕ) (next : Option ℕ) → AreDistances (HasLink links) start ds → next ≡ Some v → LeastNext links ds here away (length links) next → 0 < away
next_away links ds start here away v next a e n = long_some (HasLink links) start v away ds a (next_is links ds here away v next e n).step.away_is

pub way_more : (links : List Link) (ds : List Distance) (start long here away v : ℕ) (next : Option ℕ) (names new : List VolId) → AreDistances (HasLink links) start ds → next ≡ Some v → LeastNext links ds here away (length links) next →
    new ≡ names ++ (record { 0 = v }) ∷ [] → IsOnWay links ds start long names here away → IsOnWay links ds start long new v (away - 1)
way_more links ds start long here away v next names new a e n is w =
    let f = next_is links ds here away v next e n in
    let pos : 0 < away = next_away links ds start here away v next a e n in
    let more : away ≡ away - 1 + 1 = omega arith in
    let m = are_marked (HasLink links) start ds a in
    let P : ℕ → Type 0 = λ x. GoesOn (HasLink links) start long (ids new) v x in
    let Q : List ℕ → Type 0 = λ z. GoesOn (HasLink links) start long z v away in
    record {
      away_is = f.step.away_is ∙ ap Some more;
      so_far = subst P more (subst Q (sym (ap ids is ∙ map-append (λ (w : VolId). w.0) names ((record { 0 = v }) ∷ [])))
          (goes_more (HasLink links) start long (ids names) here v away (marks ds) m (mark_some ds here (away + 1) w.away_is) pos (has_step links ds here away v f.step) (mark_some ds v away f.step.away_is)
          (λ x h k. f.least x (step_of links ds here away x h (some_mark ds x away pos k))) w.so_far));
    }

pub way_done : (links : List Link) (ds : List Distance) (start long here away : ℕ) (next : Option ℕ) (names : List VolId) → AreDistances (HasLink links) start ds → next ≡ None → LeastNext links ds here away (length links) next →
    IsOnWay links ds start long names here away → IsBestLoop (HasLink links) start long (ids names)
way_done links ds start long here away next names a e n w =
    let m = are_marked (HasLink links) start ds a in
    let mh : mark_at (marks ds) here ≡ away + 1 = mark_some ds here (away + 1) w.away_is in
    elim (cases_eq away 0) [
      | inl z ↦ (let one : away + 1 ≡ 1 = omega arith in
          let P : ℕ → Type 0 = λ x. GoesOn (HasLink links) start long (ids names) here x in
          goes_last (HasLink links) start long (ids names) here (marks ds) m (mh ∙ one) (subst P one w.so_far))
      | inr nz ↦ (let pos : 0 < away = omega arith in
          let t = next_there (HasLink links) start here away (marks ds) m mh pos in
          let P : Option ℕ → Type 0 = λ z. LeastNext links ds here away (length links) z in
          absurd (subst P e n t.0 (step_of links ds here away t.0 t.1 (some_mark ds t.0 away pos t.2))))
    ]

-- ---- the least volume on a loop

-- an item, as loops give it
pub volume_is : (volumes : List ℕ) (i : ℕ) → i < length volumes → get_or volumes i 0 ≡ get_or volumes i (get_or volumes i 0)
volume_is volumes i lt = sym (get_or_default volumes i (get_or volumes i 0) 0 lt)

pub loop_more : (E : ℕ → ℕ → Type 0) (volumes : List ℕ) (i v : ℕ) (least new : Option ℕ) → i < length volumes → v ≡ get_or volumes i v → TriesLoop E v least new → LeastOnLoop E volumes i least → LeastOnLoop E volumes (i + 1) new
loop_more E volumes i v least new lt is t l = elim t [ inl new_one ↦ taken new_one | inr same ↦ (let P : Option ℕ → Type 0 = λ z. LeastOnLoop E volumes (i + 1) z in subst P (sym same.1) (passed least same.0 l)) ]
  where
    at : get_or volumes i 0 ≡ v
    at = get_or_default volumes i 0 v lt ∙ sym is

    here : (k : ℕ) → k ≡ i → IsOnLoop E (get_or volumes k 0) → IsOnLoop E v
    here k q r = let P : ℕ → Type 0 = λ z. IsOnLoop E z in subst P (ap (λ z. get_or volumes z 0) q ∙ at) r

    passed : (least : Option ℕ) → (IsLess v least → IsOnLoop E v → ⊥) → LeastOnLoop E volumes i least → LeastOnLoop E volumes (i + 1) least
    passed None never l = λ k below r. elim (cases_eq k i) [ inl q ↦ never tt (here k q r) | inr ne ↦ l k (omega arith) r ]
    passed (Some m) never l = record {
      on_loop = l.on_loop;
      least = λ k below r. elim (cases_eq k i) [
        | inr ne ↦ l.least k (omega arith) r
        | inl q ↦ (let same : get_or volumes k 0 ≡ v = ap (λ z. get_or volumes z 0) q ∙ at in elim (cases_lt v m) [ inl less ↦ absurd (never less (here k q r)) | inr ge ↦ omega arith ])
      ];
    }

    less_than : (least : Option ℕ) → IsLess v least → LeastOnLoop E volumes i least → (k : ℕ) → k < i + 1 → IsOnLoop E (get_or volumes k 0) → v ≤ get_or volumes k 0
    less_than None less l k below r = elim (cases_eq k i) [ inl q ↦ (let same : get_or volumes k 0 ≡ v = ap (λ z. get_or volumes z 0) q ∙ at in omega arith) | inr ne ↦ absurd (l k (omega arith) r) ]
    less_than (Some m) less l k below r =
        elim (cases_eq k i) [
          | inl q ↦ (let same : get_or volumes k 0 ≡ v = ap (λ z. get_or volumes z 0) q ∙ at in omega arith)
          | inr ne ↦ (let le : m ≤ get_or volumes k 0 = l.least k (omega arith) r in let lm : v < m = less in omega arith)
        ]

    taken : IsLess v least × IsOnLoop E v × (new ≡ Some v) → LeastOnLoop E volumes (i + 1) new
    taken t =
        let P : Option ℕ → Type 0 = λ z. LeastOnLoop E volumes (i + 1) z in
        subst P (sym t.2) (record { on_loop = t.1; least = less_than least t.0 l })

pub loop_done : (E : ℕ → ℕ → Type 0) (volumes : List ℕ) (i : ℕ) (least : Option ℕ) → i ≤ length volumes → length volumes ≤ i → LeastOnLoop E volumes i least → LeastOnLoop E volumes (length volumes) least
loop_done E volumes i least a b l = let same : i ≡ length volumes = omega arith in let P : ℕ → Type 0 = λ z. LeastOnLoop E volumes z least in subst P same l

-- ---- the answer

begins : (E : ℕ → ℕ → Type 0) (v : ℕ) (xs : List ℕ) (w : ℕ) → RouteBy E v xs w → (x : ℕ) × E v x
begins E v [] w e = (w, e)
begins E v (x ∷ xs) w r = (x, r.0)

-- from a volume on a loop a link leads
pub leads_from : (links : List Link) (v : ℕ) → IsOnLoop (HasLink links) v → LeadsOn links v
leads_from links v r = begins (HasLink links) v r.0 v r.1

route_on : (E F : ℕ → ℕ → Type 0) → ((v w : ℕ) → E v w → F v w) → (v : ℕ) (xs : List ℕ) (w : ℕ) → RouteBy E v xs w → RouteBy F v xs w
route_on E F h v [] w e = h v w e
route_on E F h v (x ∷ xs) w r = (h v x r.0, route_on E F h x xs w r.1)

-- a loop goes through volumes of the list
listed : (slots : List Slot) (links : List Link) (volumes : List ℕ) → AreEdges (shape_of slots) links → HasVolumes slots volumes → (v : ℕ) → IsOnLoop (HasLink links) v →
    (k : ℕ) × (k < length volumes) × (get_or volumes k 0 ≡ v)
listed slots links volumes edges all v r =
    let b = begins (HasLink links) v r.0 v r.1 in
    let e = edges.only v b.0 b.1 in
    let before : e.old < e.live = e.before in
    let there : e.live < length slots = e.there in
    let c = all e.old (omega arith) in
    let lt : c.0 < length volumes = c.1 in
    (c.0, lt, get_or_default volumes c.0 0 (slot_at slots e.old).volume lt ∙ (c.2 ∙ e.old_is_from))

-- no volume that is less is on a loop
none_less : (slots : List Slot) (links : List Link) (volumes : List ℕ) (start : ℕ) → AreEdges (shape_of slots) links → HasVolumes slots volumes → IsLeastOnLoop (HasLink links) volumes (length volumes) start →
    (v : ℕ) → v < start → (xs : List ℕ) → RouteBy (HasLink links) v xs v → ⊥
none_less slots links volumes start edges all least v lt xs r =
    let k = listed slots links volumes edges all v (xs, r) in
    let at : get_or volumes k.0 0 ≡ v = k.2 in
    let P : ℕ → Type 0 = λ z. IsOnLoop (HasLink links) z in
    let le : start ≤ get_or volumes k.0 0 = least.least k.0 k.1 (subst P (sym at) (xs, r)) in
    omega arith

told_on : (s : Shape) (links : List Link) (first : ℕ) (rest : List ℕ) → AreEdges s links → IsToldBy (HasLink links) first rest → IsToldBy (Edge s) first rest
told_on s links first rest edges t = record {
  is_loop = route_on (HasLink links) (Edge s) edges.only first rest first t.is_loop;
  least = λ v xs r. t.least v xs (route_on (Edge s) (HasLink links) edges.all v xs v r);
  shortest = λ other r. t.shortest other (route_on (Edge s) (HasLink links) edges.all first other first r);
  earliest = λ other r l. t.earliest other (route_on (Edge s) (HasLink links) edges.all first other first r) l;
}

pub none_told : (slots : List Slot) (links : List Link) (volumes : List ℕ) (found : Option ℕ) → found ≡ None → AreEdges (shape_of slots) links → HasVolumes slots volumes →
    LeastOnLoop (HasLink links) volumes (length volumes) found → LoopAnswer (shape_of slots) None
none_told slots links volumes found e edges all none =
    no_loop_is (shape_of slots) (λ v xs r.
    let s = route_on (Edge (shape_of slots)) (HasLink links) edges.all v xs v r in
    let k = listed slots links volumes edges all v (xs, s) in
    let P : ℕ → Type 0 = λ z. IsOnLoop (HasLink links) z in
    let Q : Option ℕ → Type 0 = λ z. LeastOnLoop (HasLink links) volumes (length volumes) z in
    subst Q e none k.0 k.1 (subst P (sym k.2) (xs, s)))

least_is : (links : List Link) (volumes : List ℕ) (start : ℕ) (found : Option ℕ) → found ≡ Some start → LeastOnLoop (HasLink links) volumes (length volumes) found → IsLeastOnLoop (HasLink links) volumes (length volumes) start
least_is links volumes start found e least = let Q : Option ℕ → Type 0 = λ z. LeastOnLoop (HasLink links) volumes (length volumes) z in subst Q e least

pub some_told : (slots : List Slot) (links : List Link) (volumes : List ℕ) (start long : ℕ) (found : Option ℕ) (ds : List Distance) (names : List VolId) → found ≡ Some start → AreEdges (shape_of slots) links →
    HasVolumes slots volumes → LeastOnLoop (HasLink links) volumes (length volumes) found → AreDistances (HasLink links) start ds → distance_in ds start ≡ Some long →
    IsBestLoop (HasLink links) start long (ids names) → LoopAnswer (shape_of slots) (Some names)
some_told slots links volumes start long found ds names e edges all least a is best = answer names (told best)
  where
    told : IsBestLoop (HasLink links) start long (ids names) → ToldBy (HasLink links) (Some (ids names))
    told b =
        let P : ℕ → Type 0 = λ z. IsBestLoop (HasLink links) start z (ids names) in
        best_told (HasLink links) start (marks ds) (ids names) (are_marked (HasLink links) start ds a)
        (none_less slots links volumes start edges all (least_is links volumes start found e least)) (subst P (sym (mark_some ds start long is)) b)

    answer : (names : List VolId) → ToldBy (HasLink links) (Some (ids names)) → LoopAnswer (shape_of slots) (Some names)
    answer [] t = absurd t
    answer (v ∷ vs) t = told_loop_is (shape_of slots) v.0 (ids vs) (told_on (shape_of slots) links v.0 (ids vs) edges t)
