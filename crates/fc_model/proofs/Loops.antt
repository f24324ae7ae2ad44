-- Whether the restore graph has a loop.
use Rattle.std.proofs.Common.{◌≡◌, ◌≢◌, ◌⊎◌, ℕ, zero, suc, ◌+◌, ◌-◌, ◌<◌, ◌≤◌, Bool, not, eqb, List, [], ◌∷◌, ◌++◌, length, get_or, refl, sym, ap, subst, ◌∙◌, arith, inl, inr}
use Rattle.std.specs.Prelude.{Contains, remove}
use Rattle.std.proofs.lemmas.Bool.{cases_lt, cases_eq, eq-eqb, ne_eqb}
use Rattle.std.proofs.lemmas.List.Edits.{get_or-remove_below, get_or-remove_above, length-remove}
use Rattle.std.proofs.lemmas.List.Elements.{Contains-push, Contains-append_left}
use Rattle.fc_base.specs.Column.{Shape}
use Rattle.fc_base.specs.RestoreGraph.{Edge, Way, Way.last_edge, Way.next_edge, HasNoLoop}
use Rattle.fc_base.specs.Sheet.{Slot, slot_at, shape_of}
use Rattle.fc_model.specs.Graph.{LeadsInto, IsSink, Lists, LoopFound}

-- a volume all of whose ways end
pub data Grounded (s : Shape) : ℕ → Type 0 where
  grounded : {v : ℕ} → ((w : ℕ) → Edge s v w → Grounded s w) → Grounded s v

way_then : (s : Shape) (v w x : ℕ) → Way s v w → Way s w x → Way s v x
way_then s v w x (last_edge e) q = next_edge e q
way_then s v w x (next_edge {w = u} e p) q = next_edge e (way_then s u w x p q)

no_way_back : (s : Shape) (v : ℕ) → Grounded s v → Way s v v → ⊥
no_way_back s v (grounded ends) p = back p (λ w e. no_way_back s w (ends w e))
  where
    back : Way s v v → ((w : ℕ) → Edge s v w → Way s w w → ⊥) → ⊥
    back (last_edge e) ih = e.other refl
    back (next_edge {w = w} e q) ih = ih w e (way_then s w v w q (last_edge e))

-- all volumes but these are grounded
abbrev pub AllGrounded : Shape → List ℕ → Type 0
AllGrounded s left = (v : ℕ) → (Contains left v → ⊥) → Grounded s v

pub grounded_others : (slots : List Slot) (left : List ℕ) → ((k : ℕ) → k < length slots → Contains left (slot_at slots k).volume) → AllGrounded (shape_of slots) left
grounded_others slots left all v out =
    grounded (λ w e. absurd (let b : e.old < e.live = e.before in let t : e.live < length slots = e.there in
    let P : ℕ → Type 0 = λ z. Contains left z in out (subst P e.old_is_from (all e.old (omega arith)))))

-- whether a list of numbers contains one
holds_or_not : (xs : List ℕ) (v : ℕ) → Contains xs v ⊎ (Contains xs v → ⊥)
holds_or_not [] v = inr (λ c. let n : c.0 < 0 = c.1 in absurd (omega arith))
holds_or_not (x ∷ xs) v =
    elim (cases_eq x v) [
      | inl q ↦ inl (0, omega arith, q)
      | inr ne ↦ elim (holds_or_not xs v) [
        | inl c ↦ inl (suc c.0, (let n : c.0 < length xs = c.1 in omega arith), c.2)
        | inr out ↦ inr (λ c. not_head c.0 c.1 c.2 ne out)
      ]
    ]
  where
    not_head : (k : ℕ) → k < length (x ∷ xs) → get_or (x ∷ xs) k v ≡ v → x ≢ v → (Contains xs v → ⊥) → ⊥
    not_head zero lt q ne out = ne q
    not_head (suc k) lt q ne out = out (k, omega arith, q)

-- what is left after one is taken out
stays : (xs : List ℕ) (k v : ℕ) → k < length xs → v ≢ get_or xs k 0 → Contains xs v → Contains (remove xs k) v
stays xs k v lt ne c =
    let j = c.0 in
    let jn : j < length xs = c.1 in
    let at : get_or xs j v ≡ v = c.2 in
    let size = length-remove xs k lt in
    elim (cases_lt j k) [
      | inl l ↦ (j, omega arith, get_or-remove_below xs k v j l lt ∙ at)
      | inr ge ↦ elim (cases_eq j k) [
        | inl q ↦ absurd (ne (sym at ∙ ap (λ z. get_or xs z v) q ∙ same xs k v lt))
        | inr nq ↦ (let p : j ≡ (j - 1) + 1 = omega arith in (j - 1, omega arith, get_or-remove_above xs k v (j - 1) (omega arith) lt ∙ (ap (λ z. get_or xs z v) (sym p) ∙ at)))
      ]
    ]
  where
    same : (xs : List ℕ) (k v : ℕ) → k < length xs → get_or xs k v ≡ get_or xs k 0
    same [] k v lt = absurd (omega arith)
    same (x ∷ xs) zero v lt = refl
    same (x ∷ xs) (suc k) v lt = same xs k v (omega arith)

pub sink_removed : (s : Shape) (left : List ℕ) (k : ℕ) → AllGrounded s left → IsSink s left k → AllGrounded s (remove left k)
sink_removed s left k all sink v out =
    elim (holds_or_not left v) [
      | inr gone ↦ all v gone
      | inl c ↦ elim (cases_eq v (get_or left k 0)) [
        | inr ne ↦ absurd (out (stays left k v sink.there ne c))
        | inl q ↦ grounded (λ w e. all w (λ d. sink.ends (w, d, (let P : ℕ → Type 0 = λ z. Edge s z w in subst P q e))))
      ]
    ]

pub none_left : (s : Shape) (left : List ℕ) → AllGrounded s left → length left ≡ 0 → HasNoLoop s
none_left s left all e v p = no_way_back s v (all v (λ c. let n : c.0 < length left = c.1 in absurd (omega arith))) p

head_or_tail : (x : ℕ) (xs : List ℕ) (w : ℕ) → Contains (x ∷ xs) w → (x ≡ w) ⊎ Contains xs w
head_or_tail x xs w c = at c.0 c.1 c.2
  where
    at : (k : ℕ) → k < length (x ∷ xs) → get_or (x ∷ xs) k w ≡ w → (x ≡ w) ⊎ Contains xs w
    at zero lt q = inl q
    at (suc k) lt q = inr (k, omega arith, q)

in_tail : (x : ℕ) (xs : List ℕ) (v : ℕ) → Contains xs v → Contains (x ∷ xs) v
in_tail x xs v c = (suc c.0, (let n : c.0 < length xs = c.1 in omega arith), c.2)

-- some way leads from a volume to one of these
abbrev LeadsOn : Shape → ℕ → List ℕ → Type 0
LeadsOn s v xs = (w : ℕ) × Contains xs w × Way s v w

-- past the first one, where that leads on to another
past_head : (s : Shape) (x : ℕ) (xs : List ℕ) (y : ℕ) → Contains xs y → Way s x y → (v : ℕ) → LeadsOn s v (x ∷ xs) → LeadsOn s v xs
past_head s x xs y c way v next =
    let to : Way s v next.0 = next.2 in
    elim (head_or_tail x xs next.0 next.1) [
      | inl q ↦ (y, c, way_then s v x y (let P : ℕ → Type 0 = λ z. Way s v z in subst P (sym q) to) way)
      | inr d ↦ (next.0, d, to)
    ]

loop_from : (s : Shape) (x : ℕ) (xs : List ℕ) → ((v : ℕ) → Contains (x ∷ xs) v → LeadsOn s v (x ∷ xs)) → (0 < length xs → ((v : ℕ) → Contains xs v → LeadsOn s v xs) → (v : ℕ) × Way s v v) → (v : ℕ) × Way s v v
loop_from s x xs on ih =
    let first : LeadsOn s x (x ∷ xs) = on x (0, omega arith, refl) in
    let way : Way s x first.0 = first.2 in
    elim (head_or_tail x xs first.0 first.1) [
      | inl q ↦ (x, (let P : ℕ → Type 0 = λ z. Way s x z in subst P (sym q) way))
      | inr c ↦ ih (let n : c.0 < length xs = c.1 in omega arith) (λ v d. past_head s x xs first.0 c way v (on v (in_tail x xs v d)))
    ]

-- where each of some volumes leads on to one of them, there is a loop
loops : (s : Shape) (xs : List ℕ) → 0 < length xs → ((v : ℕ) → Contains xs v → LeadsOn s v xs) → (v : ℕ) × Way s v v
loops s [] lt on = absurd (omega arith)
loops s (x ∷ xs) lt on = loop_from s x xs on (loops s xs)

pub some_left : (s : Shape) (left : List ℕ) → ((v : ℕ) → Contains left v → LeadsInto s v left) → 0 < length left → (v : ℕ) × Way s v v
some_left s left on lt = loops s left lt (λ v c. let l = on v c in (l.0, l.1, last_edge l.2))

-- one more place
pub one_more_leads : (s : Shape) (volumes : List ℕ) (n : ℕ) → ((k : ℕ) → k < n → LeadsInto s (get_or volumes k 0) volumes) → LeadsInto s (get_or volumes n 0) volumes → (k : ℕ) → k < n + 1 → LeadsInto s (get_or volumes k 0) volumes
one_more_leads s volumes n below at k lt =
    elim (cases_eq k n) [
      | inl q ↦ (let P : ℕ → Type 0 = λ z. LeadsInto s (get_or volumes z 0) volumes in subst P (sym q) at)
      | inr ne ↦ below k (omega arith)
    ]

pub each_leads : (s : Shape) (volumes : List ℕ) (n : ℕ) → length volumes ≤ n → ((k : ℕ) → k < n → LeadsInto s (get_or volumes k 0) volumes) → (v : ℕ) → Contains volumes v → LeadsInto s v volumes
each_leads s volumes n le below v c =
    let lt : c.0 < length volumes = c.1 in
    let P : ℕ → Type 0 = λ z. LeadsInto s z volumes in
    subst P (same volumes c.0 lt ∙ c.2) (below c.0 (omega arith))
  where
    same : (xs : List ℕ) (k : ℕ) → k < length xs → get_or xs k 0 ≡ get_or xs k v
    same [] k lt = absurd (omega arith)
    same (x ∷ xs) zero lt = refl
    same (x ∷ xs) (suc k) lt = same xs k (omega arith)

pub one_more_volume : (slots : List Slot) (n : ℕ) (now new : List ℕ) (v : ℕ) → ((k : ℕ) → k < n → Contains now (slot_at slots k).volume) → v ≡ (slot_at slots n).volume → Lists now new v → (k : ℕ) → k < n + 1 → Contains new (slot_at slots k).volume
one_more_volume slots n now new v below e q k lt =
    elim (cases_eq k n) [
      | inl same ↦ (let Q : ℕ → Type 0 = λ z. Contains new z in subst Q (e ∙ ap (λ z. (slot_at slots z).volume) (sym same)) q.listed)
      | inr ne ↦ q.kept (slot_at slots k).volume (below k (omega arith))
    ]

pub lists_pushed : (old new : List ℕ) (v : ℕ) → new ≡ old ++ v ∷ [] → Lists old new v
lists_pushed old new v e =
    let P : List ℕ → Type 0 = λ z. Lists old z v in
    subst P (sym e) (record { listed = Contains-push old v; kept = λ w c. Contains-append_left old (v ∷ []) w c })

pub found_is : (s : Shape) (left : List ℕ) (n : ℕ) (found : Bool) → AllGrounded s left → ((v : ℕ) → Contains left v → LeadsInto s v left) → n ≡ length left → (empty : Bool) → empty ≡ eqb n 0 → found ≡ not empty → LoopFound s found
found_is s left n found all on size empty z f =
    let e : found ≡ not (eqb n 0) = f ∙ ap not z in
    let P : Bool → Type 0 = λ z. LoopFound s z in
    subst P (sym e) (elim (cases_eq n 0) [
      | inl q ↦ subst P (sym (ap not (eq-eqb n 0 q))) (none_left s left all (sym size ∙ q))
      | inr ne ↦ subst P (sym (ap not (ne_eqb n 0 ne))) (some_left s left on (omega arith))
    ])
