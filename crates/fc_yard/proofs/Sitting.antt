-- What a pass is after several steps, and what its caller sees of it.
use Rattle.std.proofs.Common.{◌≡◌, ℕ, suc, ◌<◌, List, [], ◌∷◌, sym, ap, ◌∙◌, subst, Some, None}
use Rattle.atomic_table.specs.Table.{rest}
use Rattle.atomic_table.specs.Seated.{TableId}
use Rattle.fc_yard.specs.declared.rule.Stall.{Stall}
use Rattle.fc_yard.specs.declared.rule.Stall.TheVariants.{Out, Home, Deed, Deeds}
use Rattle.fc_yard.specs.declared.rule.View.{View}
use Rattle.fc_yard.specs.Views.{held_of, took, put_back, drew, drew_all}
use Rattle.fc_yard.specs.Whole.{Commits, CommitsAll}
use Rattle.fc_yard.specs.Steps.{Mine, in_hand, won, DrewFor}
use Rattle.fc_yard.specs.Calls.{PassView, IsNext, became}
use Rattle.fc_yard.proofs.Totals.{write_here}

module _ {P E : Type 0} where
  -- a slot in hand, as an exchange asks for it
  pub first_slot : (m : Mine P E) (p : ℕ) (y : Stall P E) → m.1 ≡ (p, y) ∷ [] → m.1 ≡ (p, y) ∷ rest m.1
  first_slot m p y e = e ∙ ap (λ (l : List (ℕ × Stall P E)). (p, y) ∷ rest l) (sym e)

  -- after the exchange
  pub exchanged : (m m' : Mine P E) (v : View P E) (p : ℕ) (y z : Stall P E) → m.0 ≡ v → m.1 ≡ (p, y) ∷ [] → m' ≡ (m.0, (p, z) ∷ rest m.1) → m' ≡ (v, (p, z) ∷ [])
  exchanged m m' v p y z is e x = x ∙ (λ i. (is i, (p, z) ∷ rest (e i)))

  -- with no slot in hand
  pub at_rest : (m : Mine P E) → m.1 ≡ [] → m ≡ (m.0, [])
  at_rest m e = ap (λ (l : List (ℕ × Stall P E)). (m.0, l)) e

  -- a slot that came into the hands of a pass with none
  pub unparked : (m m' : Mine P E) (p : ℕ) (y : Stall P E) → m.1 ≡ [] → m' ≡ (in_hand m.0 (suc p), (p, y) ∷ m.1) → (m'.0 ≡ in_hand m.0 (suc p)) × (m'.1 ≡ (p, y) ∷ [])
  unparked m m' p y e x = (ap (λ (n : Mine P E). n.0) x, ap (λ (n : Mine P E). n.1) x ∙ ap (λ (l : List (ℕ × Stall P E)). (p, y) ∷ l) e)

  -- the carried slots and the view of an equal pass
  pub view_of : (m m' : Mine P E) → m ≡ m' → m.0 ≡ m'.0
  view_of m m' e = ap (λ (n : Mine P E). n.0) e

  pub slots_of : (m m' : Mine P E) → m ≡ m' → m.1 ≡ m'.1
  slots_of m m' e = ap (λ (n : Mine P E). n.1) e

  -- what a caller sees of a seat
  abbrev pub seen : TableId → Mine P E → PassView P E
  seen z m = record { yard = z; view = m.0 }

  pub view_at : {B : Type 0} (f : View P E → B) (z : TableId) (m : Mine P E) (q : PassView P E) → seen z m ≡ q → f m.0 ≡ f q.view
  view_at f z m q e = ap (λ (p : PassView P E). f p.view) e

  pub yard_at : (z : TableId) (m : Mine P E) (q : PassView P E) → seen z m ≡ q → z ≡ q.yard
  yard_at z m q e = ap (λ (p : PassView P E). p.yard) e

  -- after a call
  pub becomes : (f : View P E → View P E) (z z' : TableId) (m m' : Mine P E) (q : PassView P E) → seen z m ≡ q → z' ≡ z → m'.0 ≡ f m.0 → seen z' m' ≡ became q (f q.view)
  becomes f z z' m m' q e table view =
      (λ i. let r : PassView P E = record { yard = table i; view = view i } in r) ∙ ap (λ (p : PassView P E). became p (f p.view)) e

  pub stays_seen : (z z' : TableId) (m m' : Mine P E) (q : PassView P E) → seen z m ≡ q → z' ≡ z → m'.0 ≡ m.0 → seen z' m' ≡ q
  stays_seen z z' m m' q e table view = (λ i. let r : PassView P E = record { yard = table i; view = view i } in r) ∙ e

  -- a part went home
  pub gives_home : (m0 m1 m2 m3 : Mine P E) (p : ℕ) (y : Stall P E) (x : P) → m0.1 ≡ [] → m1 ≡ (in_hand m0.0 (suc p), (p, y) ∷ m0.1) → m2 ≡ (m1.0, (p, Home x) ∷ rest m1.1)
      → (m2.1 ≡ (p, Home x) ∷ [] → m3 ≡ (put_back m2.0 p, [])) → m3 ≡ (put_back m0.0 p, [])
  gives_home m0 m1 m2 m3 p y x e a b gave =
      let hand = unparked m0 m1 p y e a in let had = exchanged m1 m2 (in_hand m0.0 (suc p)) p y (Home x) hand.0 hand.1 b in
      gave (slots_of m2 (in_hand m0.0 (suc p), (p, Home x) ∷ []) had) ∙ ap (λ (v : View P E). (put_back v p, [])) (view_of m2 (in_hand m0.0 (suc p), (p, Home x) ∷ []) had)

  abbrev part_in : P → List (ℕ × Stall P E) → P
  part_in d [] = d
  part_in d (c ∷ cs) = elim c.1 [ Home x ↦ x | _ ↦ d ]

  -- a part that was won is in hand
  pub won_hand : (m m' : Mine P E) (p : ℕ) (x : P) → m.1 ≡ [] → 0 < m.0.shares → m' ≡ (won m.0 p x, (p, Home x) ∷ m.1)
      → (m'.1 ≡ (p, Home x) ∷ []) × (m'.0.hand ≡ suc p) × (0 < m'.0.shares) × ((y : P) × (held_of m'.0 p ≡ Some y))
  won_hand m m' p x e live w = (
    slots_of m' (won m.0 p x, (p, Home x) ∷ m.1) w ∙ ap (λ (l : List (ℕ × Stall P E)). (p, Home x) ∷ l) e,
    ap (λ (n : Mine P E). n.0.hand) w,
    subst (λ (n : Mine P E). 0 < n.0.shares) (sym w) live,
    (x, ap (λ (n : Mine P E). held_of n.0 p) w ∙ write_here None m.0.held p (Some x)),
  )

  -- and then, its slot gone home, the pass has taken it
  pub taken_view : (m m' m2 : Mine P E) (p : ℕ) (x : P) → m' ≡ (won m.0 p x, (p, Home x) ∷ m.1) → m2 ≡ (in_hand m'.0 0, []) → m2.0 ≡ took m.0 p x
  taken_view m m' m2 p x w r = view_of m2 (in_hand m'.0 0, []) r ∙ ap (λ (n : Mine P E). in_hand n.0 0) w

  pub same_part : (m m' : Mine P E) (p : ℕ) (x y : P) → m' ≡ (won m.0 p x, (p, Home x) ∷ m.1) → m'.1 ≡ (p, Home y) ∷ [] → x ≡ y
  same_part m m' p x y w h = ap (part_in x) (sym (slots_of m' (won m.0 p x, (p, Home x) ∷ m.1) w) ∙ h)

  -- the slot gone home, the pass is at rest
  pub rests : (m m' : Mine P E) (v : View P E) → 0 < m.0.shares → v.shares ≡ m.0.shares → v.hand ≡ 0 → m' ≡ (v, []) → (m'.1 ≡ []) × (m'.0.hand ≡ 0) × (0 < m'.0.shares)
  rests m m' v live same hand r = (slots_of m' (v, []) r, ap (λ (n : Mine P E). n.0.hand) r ∙ hand, subst (λ (k : ℕ). 0 < k) (sym (ap (λ (n : Mine P E). n.0.shares) r ∙ same)) live)

  -- a number was drawn for an entry and a part, by other names
  pub drawn_one : (K : View P E → Type 0) (m m' : Mine P E) (p n : ℕ) (x part : P) (e entry : E) → x ≡ part → e ≡ entry
      → (m' ≡ (drew m.0 p x n e, [])) × K (drew m.0 p x n e) → (m' ≡ (drew m.0 p part n entry, [])) × K (drew m.0 p part n entry)
  drawn_one K m m' p n x part e entry is_part is_entry drawn =
      subst (λ (z : P × E). (m' ≡ (drew m.0 p z.0 n z.1, [])) × K (drew m.0 p z.0 n z.1)) (λ i. (is_part i, is_entry i)) drawn

  pub drawn_all : (K : View P E → Type 0) (m m' : Mine P E) (n : ℕ) (xs parts : List P) (e entry : E) → xs ≡ parts → e ≡ entry
      → (m' ≡ (drew_all m.0 xs n e, [])) × K (drew_all m.0 xs n e) → (m' ≡ (drew_all m.0 parts n entry, [])) × K (drew_all m.0 parts n entry)
  drawn_all K m m' n xs parts e entry are_parts is_entry drawn =
      subst (λ (z : List P × E). (m' ≡ (drew_all m.0 z.0 n z.1, [])) × K (drew_all m.0 z.0 n z.1)) (λ i. (are_parts i, is_entry i)) drawn

  -- the slot in hand says nothing of the number
  pub next_same : (v : View P E) (k : ℕ) (m : Mine P E) (z : Stall P E) (p n : ℕ) → m ≡ (in_hand v k, (p, z) ∷ []) → IsNext m.0 n → IsNext v n
  next_same v k m z p n e h = subst (λ (u : View P E). IsNext u n) (view_of m (in_hand v k, (p, z) ∷ []) e) h

module _ {W E P : Type 0} (fits : P → W → ℕ → P → Type 0) (sound : W → W → Type 0) (count : W → ℕ) (steps : W → ℕ → E → W → Type 0) where
  -- nor of what was announced
  unhanded : (v : View P E) (k p n : ℕ) (z : Stall P E) (m : Mine P E) → DrewFor fits sound count steps (in_hand v k) p n z m → DrewFor fits sound count steps v p n z m
  unhanded v k p n Out m d = d
  unhanded v k p n (Home x) m d = d
  unhanded v k p n (Deed e x) m d = d
  unhanded v k p n (Deeds e xs) m d = d

  -- a number was drawn for what was announced
  pub drawn_for : (m0 m1 m2 m3 : Mine P E) (p n : ℕ) (y z : Stall P E) → m0.1 ≡ [] → m1 ≡ (in_hand m0.0 (suc p), (p, y) ∷ m0.1) → m2 ≡ (m1.0, (p, z) ∷ rest m1.1)
      → (m2.1 ≡ (p, z) ∷ [] → DrewFor fits sound count steps m2.0 p n z m3) → DrewFor fits sound count steps m0.0 p n z m3
  drawn_for m0 m1 m2 m3 p n y z e a b told =
      let hand = unparked m0 m1 p y e a in let had = exchanged m1 m2 (in_hand m0.0 (suc p)) p y z hand.0 hand.1 b in
      unhanded m0.0 (suc p) p n z m3
      (subst (λ (v : View P E). DrewFor fits sound count steps v p n z m3) (view_of m2 (in_hand m0.0 (suc p), (p, z) ∷ []) had) (told (slots_of m2 (in_hand m0.0 (suc p), (p, z) ∷ []) had)))

  -- what a draw owes, by other names
  pub commits_as : (v v' : View P E) (p : ℕ) (x part : P) (e entry : E) → v' ≡ v → x ≡ part → e ≡ entry → Commits fits sound count steps v p part entry → Commits fits sound count steps v' p x e
  commits_as v v' p x part e entry same is_part is_entry owed =
      subst (λ (z : View P E × P × E). Commits fits sound count steps z.0 p z.1 z.2) (λ i. (sym same i, sym is_part i, sym is_entry i)) owed

  pub commits_all_as : (n n' : ℕ) (v v' : View P E) (xs parts : List P) (e entry : E) → n' ≡ n → v' ≡ v → xs ≡ parts → e ≡ entry → CommitsAll fits sound count steps n v parts entry → CommitsAll fits sound count steps n' v' xs e
  commits_all_as n n' v v' xs parts e entry deep same are_parts is_entry owed =
      subst (λ (z : ℕ × View P E × List P × E). CommitsAll fits sound count steps z.0 z.1 z.2 z.3) (λ i. (sym deep i, sym same i, sym are_parts i, sym is_entry i)) owed
