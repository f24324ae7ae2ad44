-- The steps on a turn, and on the slot of a part that a pass holds, keep the rule.
use Rattle.std.proofs.Common.{◌≡◌, ◌≢◌, ℕ, zero, suc, ◌+◌, ◌*◌, ◌<◌, eqb, List, [], ◌∷◌, map, length, get_or, set, sym, refl, ap, ◌∙◌, subst, arith, length-set, get_or-set_other, get_or-set_same, Option, Some, None}
use mathlib.Core.Option.{some, none, some-ne-none, some-injective}
use mathlib.Core.Option as maybe
use mathlib.Core.Logic.{dite}
use native.Mathlib.Decide.{ℕ_discrete}
use prog.Atomic.{either}
use lib.ListN.{get_elem?}
use Rattle.std.proofs.lemmas.List.{map-set}
use Rattle.atomic_table.specs.Table.{State, Me, step, keeps, takes, gives, Allows}
use Rattle.atomic_table.proofs.Lists.{set_here, set_else, set_again, at_map, exchanged}
use Rattle.fc_yard.specs.declared.rule.Stall.{Stall}
use Rattle.fc_yard.specs.declared.rule.Stall.TheVariants.{Home}
use Rattle.fc_yard.specs.declared.rule.View.{View}
use Rattle.fc_yard.specs.declared.rule.Terms.{Terms}
use Rattle.fc_yard.specs.Views.{held_of, HoldsNone, Holds, took, put_back}
use Rattle.fc_yard.specs.Whole.{OpensWith, Tells, Knows, Stays}
use Rattle.fc_yard.specs.Rule.{Grip, Account, held_at, taken, grip, account, parts_of, PartKept, Booked, Kept}
use Rattle.fc_yard.specs.Steps.{in_hand, won, Parked, Unparked, Gave, Won}
use Rattle.fc_yard.proofs.Totals.{write_here, write_else, total_at, total_two, total_some, each_set}
use Rattle.fc_yard.proofs.Places.{within}
use Rattle.fc_yard.proofs.Parts.{busy_some, none_some, is_some, part_stays, part_won, part_moves, part_given, part_missed}
use Rattle.fc_yard.proofs.Telling.{put, put_here, put_else, told_given}

-- turns of two parts are two words
pub apart : (p q : ℕ) → q ≢ p → 16 * q ≢ 16 * p
apart p q n e = n (omega arith)

pub here_set : {A : Type 0} (vs : List A) (i : ℕ) (v w : A) → get_elem? vs i ≡ some v → get_elem? (set vs i w) i ≡ some w
here_set vs i v w at = set_here vs i w (within vs i v at)

pub from_map : {A B : Type 0} (f : A → B) (vs : List A) (i : ℕ) (b : B) → get_elem? (map f vs) i ≡ some b → (v : A) × (get_elem? vs i ≡ some v) × (f v ≡ b)
from_map f [] i b e = absurd (some-ne-none b (sym e))
from_map f (x ∷ xs) zero b e = (x, refl, some-injective (f x) b e)
from_map f (x ∷ xs) (suc i) b e = from_map f xs i b e

pub at_length : {A : Type 0} (vs : List A) (i : ℕ) → i < length vs → (v : A) × (get_elem? vs i ≡ some v)
at_length [] i l = absurd (omega arith)
at_length (x ∷ xs) zero l = (x, refl)
at_length (x ∷ xs) (suc i) l = at_length xs i (omega arith)

-- the place of the slot that was taken last
abbrev pub key_of : {S : Type 0} → List (ℕ × S) → ℕ
key_of [] = 0
key_of (c ∷ cs) = c.0

-- what is in it
abbrev pub slot_of : {S : Type 0} → S → List (ℕ × S) → S
slot_of d [] = d
slot_of d (c ∷ cs) = c.1

-- where a turn is out, a try leaves it so
pub kept_on : (m : ℕ) → m ≢ 0 → either (eqb m 0) 1 m ≢ 0
kept_on m n = exchanged m 0 1 (λ b. b ≢ 0) (λ e. absurd (n e)) (λ other. n)

module _ {W E P : Type 0} (fits : P → W → ℕ → P → Type 0) (sound : W → W → Type 0) (count : W → ℕ) (steps : W → ℕ → E → W → Type 0) (t : Terms P) where
  abbrev pub St : Type 0
  St = State (Stall P E) (View P E)

  abbrev pub Rule : St → Type 0
  Rule = Kept fits sound count steps t

  abbrev pub Homes : Type 0
  Homes = List (maybe.Option (Stall P E))

  -- what a pass with a share has in the books of the terms
  pub opened : (s : St) (k : Rule s) (id : ℕ) (v : View P E) → get_elem? s.views id ≡ some v → 0 < v.shares → (v.openings ≡ parts_of t) × (v.first ≡ t.first) × (v.limit ≡ t.limit) × (v.passes ≡ t.passes)
  opened s k id v at live = (k.books.each id (account v) (at_map account s.views id v at)).opened live

  -- what the yard was opened on, as the pass tells of the opening
  pub opens_here : (s : St) (k : Rule s) (id : ℕ) (v : View P E) → get_elem? s.views id ≡ some v → 0 < v.shares → (w0 : W) → OpensWith fits sound count steps (parts_of t) t.first w0 → OpensWith fits sound count steps v.openings v.first w0
  opens_here s k id v at live w0 opens = let o = opened s k id v at live in subst (λ (z : List P × ℕ). OpensWith fits sound count steps z.0 z.1 w0) (λ i. (sym (o.0) i, sym (o.1) i)) opens

  -- the part that a pass holds is the one that has its share
  pub held_now : (s : St) (k : Rule s) (id : ℕ) (v : View P E) (p : ℕ) (x : P) → get_elem? s.views id ≡ some v → p < length s.homes → held_of v p ≡ Some x → (k.now p ≡ Some x) × (v.hand ≢ suc p → (y : Stall P E) × (get_elem? s.homes p ≡ some (some y)))
  held_now s k id v p x at l has = (k.parts p l).told id (grip v) x (at_map grip s.views id v at) has

  pub knows : (s : St) → Rule s → (id : ℕ) (v : View P E) → get_elem? s.views id ≡ some v → 0 < v.shares → Knows fits sound count steps v
  knows s k id v at live w0 opens =
      let o = opened s k id v at live in
      let opens' : OpensWith fits sound count steps (parts_of t) t.first w0 = subst (λ (z : List P × ℕ). OpensWith fits sound count steps z.0 z.1 w0) (λ i. (o.0 i, o.1 i)) opens in
      let tells = k.tells w0 opens' in (
        tells.last,
        tells.sound_is,
        let mine = total_at (λ (a : Account P E). a.tickets) (map account s.views) id (account v) (at_map account s.views id v at) in
            let sum = k.books.tickets in let limit = k.books.limit in let counter = k.books.counter in let counted = tells.counted in omega (arith, o.2),
        λ p x0 x there has.
            let there' : get_elem? (parts_of t) p ≡ some x0 = subst (λ (z : List P). get_elem? z p ≡ some x0) o.0 there in
            let near = within (parts_of t) p x0 there' in let deep = k.deep in
            tells.fit p x0 x there' (held_now s k id v p x at (omega arith) has).0,
      )

  -- a step of a pass on one part
  pub part_step : (s : St) (k : Rule s) (id p b : ℕ) (v w : View P E) (words' : List ℕ) (homes' : Homes) (now' : ℕ → Option P) (es' : List E)
      → get_elem? s.views id ≡ some v → 0 < w.shares → length words' ≡ length s.words → length homes' ≡ length s.homes
      → ((q : ℕ) → q ≢ p → q < length s.homes → get_or words' (16 * q) 0 ≡ get_or s.words (16 * q) 0) → get_or words' (16 * p) 0 ≡ b
      → ((q : ℕ) → q ≢ p → get_elem? homes' q ≡ get_elem? s.homes q) → ((q : ℕ) → q ≢ p → now' q ≡ k.now q)
      → ((q : ℕ) → q ≢ p → held_of w q ≡ held_of v q) → ((q : ℕ) → q ≢ p → v.hand ≢ suc q)
      → PartKept (now' p) b (get_elem? homes' p) (set (map grip s.views) id (grip w)) p
      → Booked t es' (get_or words' (16 * length s.homes) 0) (get_or words' (16 * length s.homes + 16) 0) (set (map account s.views) id (account w))
      → ((w0 : W) → OpensWith fits sound count steps (parts_of t) t.first w0 → Tells fits sound count steps (parts_of t) t.first w0 now' es')
      → Rule record { words = words'; homes = homes'; views = set s.views id w }
  part_step s k id p b v w words' homes' now' es' at live as_wide as_deep words_stay is homes_stay now_stays held_stays hand part books tells =
      let gs : map grip (set s.views id w) ≡ set (map grip s.views) id (grip w) = map-set grip s.views id w in
      let cs : map account (set s.views id w) ≡ set (map account s.views) id (account w) = map-set account s.views id w in record {
        now = now';
        entries = es';
        wide = as_wide ∙ k.wide ∙ ap (λ (n : ℕ). 16 * n + 32) (sym as_deep);
        deep = k.deep ∙ sym as_deep;
        parts = λ q l. subst (λ (z : List (Grip P)). PartKept (now' q) (get_or words' (16 * q) 0) (get_elem? homes' q) z q) (sym gs)
            (dite (ℕ_discrete q p) (λ (e : q ≡ p). subst (λ (r : ℕ). PartKept (now' r) (get_or words' (16 * r) 0) (get_elem? homes' r) (set (map grip s.views) id (grip w)) r) (sym e)
            (subst (λ (c : ℕ). PartKept (now' p) c (get_elem? homes' p) (set (map grip s.views) id (grip w)) p) (sym is) part))
            (λ (n : q ≢ p). part_stays (k.now q) (now' q) (get_or s.words (16 * q) 0) (get_or words' (16 * q) 0) (get_elem? s.homes q) (get_elem? homes' q) (map grip s.views) id q (grip v) (grip w)
            (at_map grip s.views id v at) (now_stays q n) (words_stay q n (omega arith)) (homes_stay q n) (held_stays q n) (hand q n) (k.parts q (omega arith))));
        idle = each_set (λ (u : View P E). u.shares ≡ 0 → HoldsNone u) s.views id w (λ z. absurd (omega arith)) (λ j u n there. k.idle j u there);
        books = subst (λ (z : ℕ × List (Account P E)). Booked t es' (get_or words' (16 * z.0) 0) (get_or words' (16 * z.0 + 16) 0) z.1) (λ i. (sym as_deep i, sym cs i)) books;
        tells = tells;
      }

  -- the books where the step changes neither its pass's account nor the two counts
  pub same_books : (s : St) (k : Rule s) (id : ℕ) (v w : View P E) (words' : List ℕ) → get_elem? s.views id ≡ some v → account w ≡ account v
      → get_or words' (16 * length s.homes) 0 ≡ get_or s.words (16 * length s.homes) 0 → get_or words' (16 * length s.homes + 16) 0 ≡ get_or s.words (16 * length s.homes + 16) 0
      → Booked t k.entries (get_or words' (16 * length s.homes) 0) (get_or words' (16 * length s.homes + 16) 0) (set (map account s.views) id (account w))
  same_books s k id v w words' at same given drawn =
      let cs : set (map account s.views) id (account w) ≡ map account s.views = ap (λ (a : Account P E). set (map account s.views) id a) same ∙ set_again (map account s.views) id (account v) (at_map account s.views id v at) in
      subst (λ (z : ℕ × ℕ × List (Account P E)). Booked t k.entries z.0 z.1 z.2) (λ i. (sym given i, sym drawn i, sym cs i)) k.books

  -- a step on the word of a part's turn, by which the account and what is told stay
  pub turn_step : (s : St) (k : Rule s) (id p b : ℕ) (v w : View P E) (homes' : Homes) (now' : ℕ → Option P)
      → get_elem? s.views id ≡ some v → p < length s.homes → 0 < w.shares → account w ≡ account v → length homes' ≡ length s.homes
      → ((q : ℕ) → q ≢ p → get_elem? homes' q ≡ get_elem? s.homes q) → ((q : ℕ) → q ≢ p → now' q ≡ k.now q)
      → ((q : ℕ) → q ≢ p → held_of w q ≡ held_of v q) → ((q : ℕ) → q ≢ p → v.hand ≢ suc q)
      → PartKept (now' p) b (get_elem? homes' p) (set (map grip s.views) id (grip w)) p
      → ((w0 : W) → OpensWith fits sound count steps (parts_of t) t.first w0 → Tells fits sound count steps (parts_of t) t.first w0 now' k.entries)
      → Rule record { words = set s.words (16 * p) b; homes = homes'; views = set s.views id w }
  turn_step s k id p b v w homes' now' at l live same as_deep homes_stay now_stays held_stays hand part tells =
      let wide = k.wide in let n : ℕ = length s.homes in
      part_step s k id p b v w (set s.words (16 * p) b) homes' now' k.entries at live (length-set s.words (16 * p) b) as_deep
      (λ q n l'. get_or-set_other s.words (16 * p) (16 * q) b 0 (apart p q n)) (get_or-set_same s.words (16 * p) b 0 (omega arith))
      homes_stay now_stays held_stays hand part
      (same_books s k id v w (set s.words (16 * p) b) at same (get_or-set_other s.words (16 * p) (16 * n) b 0 (λ e. omega arith)) (get_or-set_other s.words (16 * p) (16 * n + 16) b 0 (λ e. omega arith)))
      tells

  -- where the turn is out with another pass, the pass hasn't all shares
  lacks : (s : St) (k : Rule s) (id : ℕ) (v : View P E) (p : ℕ) → get_elem? s.views id ≡ some v → p < length s.homes → 0 < v.shares → held_of v p ≡ None → get_or s.words (16 * p) 0 ≢ 0 → v.shares < v.passes
  lacks s k id v p at l live unheld out =
      let part = k.parts p l in let one = part.one in let b = busy_some (get_or s.words (16 * p) 0) out in
      let other = total_some (λ (g : Grip P). taken (held_at g p)) (map grip s.views) (omega arith) in
      let who = from_map grip s.views other.0 other.1 other.2 in
      let has : 0 < taken (held_of who.0 p) = subst (λ (g : Grip P). 0 < taken (held_at g p)) (sym who.2) other.3 in
      let holds = is_some (held_of who.0 p) has in
      let apart : other.0 ≢ id = λ e. none_some (held_of v p) holds.0 unheld
      (ap (λ (u : View P E). held_of u p) (some-injective v who.0 (sym at ∙ ap (get_elem? s.views) (sym e) ∙ who.1)) ∙ holds.1) in
      let busy_one : who.0.shares ≢ 0 = λ z. none_some (held_of who.0 p) holds.0 (k.idle other.0 who.0 who.1 z p) holds.1 in
      let two = total_two (λ (a : Account P E). a.shares) (map account s.views) id other.0 (account v) (account who.0) (at_map account s.views id v at) (at_map account s.views other.0 who.0 who.1) apart in
      let all = k.books.shares in let passes = (opened s k id v at live).3 in omega arith

  module _ (n id p : ℕ) (near : p < n) where
    -- a pass tries for the turn: f 0 and f of what isn't 0 say that a pass has it
    pub wins : (first second : ℕ) (said : maybe.Option (Stall P E)) (f : ℕ → ℕ) (me : Me (Stall P E) (View P E)) → f 0 ≢ 0 → ((m : ℕ) → m ≢ 0 → f m ≢ 0) → 0 < me.0.shares → me.0.hand ≡ 0 → held_of me.0 p ≡ None
        → Allows Rule n id me (16 * p) f (Won fits sound count steps (step n (16 * p) first second said) me)
    wins first second said f me zero_on more_on live hand unheld s k deep at small =
        let v : View P E = me.0 in let l : p < length s.homes = omega arith in let word : ℕ = get_or s.words (16 * p) 0 in
        let part = k.parts p l in let there : get_elem? (map grip s.views) id ≡ some (grip v) = at_map grip s.views id v at in
        let away : (q : ℕ) → q ≢ p → v.hand ≢ suc q = λ q n e. omega arith in
        dite (ℕ_discrete word 0)
        (λ (free : word ≡ 0). let x = part.free free in let w : View P E = won v p x.0 in
        let full : f word ≢ 0 = λ z. zero_on (ap f (sym free) ∙ z) in
        let rule : Rule record { words = set s.words (16 * p) (f word); homes = set s.homes p none; views = set s.views id w } =
        turn_step s k id p (f word) v w (set s.homes p none) k.now at l live refl (length-set s.homes p none) (λ q n. set_else s.homes p q none n) (λ q n. refl)
        (λ q n. write_else None v.held p q (Some x.0) n) away
        (part_won (k.now p) word (f word) (get_elem? s.homes p) (get_elem? (set s.homes p none) p) (map grip s.views) id p (grip v) (grip w) x.0 there free full x.2 unheld (write_here None v.held p (Some x.0)) refl part)
        k.tells in (
          w,
          takes p (Home x.0),
          x.1,
          rule,
          λ q same. let is : p ≡ q = omega arith in
              subst (λ (r : ℕ). (word ≡ 0 → (y : P) × ◌≡◌ {A = Me (Stall P E) (View P E)} (w, (p, Home x.0) ∷ me.1) (won v r y, (r, Home y) ∷ me.1) × Knows fits sound count steps (took v r y)) × (word ≢ 0 → ◌≡◌ {A = Me (Stall P E) (View P E)} (w, (p, Home x.0) ∷ me.1) me × (v.shares < v.passes))) is
              (λ _. (x.0, refl, knows record { words = set s.words (16 * p) (f word); homes = set s.homes p none; views = set s.views id w } rule id w (here_set s.views id v w at) live), λ out. absurd (out free)),
        ))
        (λ (out : word ≢ 0).
        let rule : Rule record { words = set s.words (16 * p) (f word); homes = s.homes; views = set s.views id v } =
        turn_step s k id p (f word) v v s.homes k.now at l live refl refl (λ q n. refl) (λ q n. refl) (λ q n. refl) away
        (subst (λ (gs : List (Grip P)). PartKept (k.now p) (f word) (get_elem? s.homes p) gs p) (sym (set_again (map grip s.views) id (grip v) there))
        (part_missed (k.now p) word (f word) (get_elem? s.homes p) (map grip s.views) p out (more_on word out) part))
        k.tells in
        (v, keeps, tt, rule, λ q same. (λ free. absurd (out free), λ _. (refl, lacks s k id v p at l live unheld out))))

    -- the slot in hand goes home, whatever is in it
    pub parks : (me : Me (Stall P E) (View P E)) (v : View P E) (y : Stall P E) → me ≡ (v, (p, y) ∷ []) → 0 < v.shares → v.hand ≡ suc p → Holds v p
        → Allows Rule n id me (16 * p) (λ m. m) (Parked (step n (16 * p) 0 0 none) me)
    parks me v y is live hand holds = subst (λ (m : Me (Stall P E) (View P E)). Allows Rule n id m (16 * p) (λ m. m) (Parked (step n (16 * p) 0 0 none) m)) (sym is)
        (λ s k deep at small. let l : p < length s.homes = omega arith in let w : View P E = in_hand v 0 in (
          w,
          gives,
          tt,
          turn_step s k id p (get_or s.words (16 * p) 0) v w (set s.homes p (some y)) k.now at l live refl (length-set s.homes p (some y)) (λ q n. set_else s.homes p q (some y) n) (λ q n. refl) (λ q n. refl)
              (λ q n e. n (omega arith))
              (part_moves (k.now p) (k.now p) (get_or s.words (16 * p) 0) (get_elem? s.homes p) (get_elem? (set s.homes p (some y)) p) (map grip s.views) id p (grip v) (grip w) holds.0 holds.0
              (at_map grip s.views id v at) holds.1 holds.1 (held_now s k id v p holds.0 at l holds.1).0 (λ _. (y, set_here s.homes p (some y) l)) (k.parts p l))
              k.tells,
          λ q z e. refl,
        ))

    -- the slot of a part that the pass holds comes into its hands
    pub unparks : (me : Me (Stall P E) (View P E)) (v : View P E) → me ≡ (v, []) → 0 < v.shares → v.hand ≡ 0 → Holds v p
        → Allows Rule n id me (16 * p) (λ m. m) (Unparked (step n (16 * p) 0 0 none) me)
    unparks me v is live hand holds = subst (λ (m : Me (Stall P E) (View P E)). Allows Rule n id m (16 * p) (λ m. m) (Unparked (step n (16 * p) 0 0 none) m)) (sym is)
        (λ s k deep at small. let l : p < length s.homes = omega arith in let w : View P E = in_hand v (suc p) in
        let now = held_now s k id v p holds.0 at l holds.1 in let slot = now.1 (λ e. omega arith) in (
          w,
          takes p slot.0,
          slot.1,
          turn_step s k id p (get_or s.words (16 * p) 0) v w (set s.homes p none) k.now at l live refl (length-set s.homes p none) (λ q n. set_else s.homes p q none n) (λ q n. refl) (λ q n. refl)
              (λ q n e. omega arith)
              (part_moves (k.now p) (k.now p) (get_or s.words (16 * p) 0) (get_elem? s.homes p) (get_elem? (set s.homes p none) p) (map grip s.views) id p (grip v) (grip w) holds.0 holds.0
              (at_map grip s.views id v at) holds.1 holds.1 now.0 (λ o. absurd (o refl)) (k.parts p l))
              k.tells,
          λ q same. let is : p ≡ q = omega arith in subst (λ (r : ℕ). (y : Stall P E) × ◌≡◌ {A = Me (Stall P E) (View P E)} (w, (p, slot.0) ∷ []) (in_hand v (suc r), (r, y) ∷ [])) is (slot.0, refl),
        ))

    -- the part goes home, and the turn is free
    pub given_back : (me : Me (Stall P E) (View P E)) (v : View P E) (x : P) → me ≡ (v, (p, Home x) ∷ []) → 0 < v.shares → v.hand ≡ suc p → Holds v p → Stays fits sound count steps v p x
        → Allows Rule n id me (16 * p) (λ _. 0) (Gave (step n (16 * p) 0 0 none) me)
    given_back me v x is live hand holds stays = subst (λ (m : Me (Stall P E) (View P E)). Allows Rule n id m (16 * p) (λ _. 0) (Gave (step n (16 * p) 0 0 none) m)) (sym is)
        (λ s k deep at small. let l : p < length s.homes = omega arith in let w : View P E = put_back v p in let now' : ℕ → Option P = put k.now p (Some x) in
        let now = held_now s k id v p holds.0 at l holds.1 in (
          w,
          gives,
          tt,
          turn_step s k id p 0 v w (set s.homes p (some (Home x))) now' at l live refl (length-set s.homes p (some (Home x))) (λ q n. set_else s.homes p q (some (Home x)) n) (λ q n. put_else k.now p q (Some x) n)
              (λ q n. write_else None v.held p q None n) (λ q n e. n (omega arith))
              (part_given (k.now p) (now' p) (get_or s.words (16 * p) 0) 0 (get_elem? s.homes p) (get_elem? (set s.homes p (some (Home x))) p) (map grip s.views) id p (grip v) (grip w) holds.0 x
              (at_map grip s.views id v at) holds.1 (write_here None v.held p None) refl (put_here k.now p (Some x)) (set_here s.homes p (some (Home x)) l) (k.parts p l))
              (λ w0 opens. told_given fits sound count steps (parts_of t) t.first w0 k.now k.entries v p holds.0 x (opened s k id v at live).0 holds.1 now.0 stays (k.tells w0 opens)),
          λ q z e. ap (λ (r : List (ℕ × Stall P E)). (put_back v (key_of r), [])) e,
        ))

  -- the same in a table that is known to have n slots
  pub unparks_at : (slots n : ℕ) → slots ≡ n → (id p : ℕ) → p < n → (me : Me (Stall P E) (View P E)) (v : View P E) → me ≡ (v, []) → 0 < v.shares → v.hand ≡ 0 → Holds v p
      → Allows Rule slots id me (16 * p) (λ m. m) (Unparked (step slots (16 * p) 0 0 none) me)
  unparks_at slots n same id p near me v is live hand holds = subst (λ (k : ℕ). Allows Rule k id me (16 * p) (λ m. m) (Unparked (step k (16 * p) 0 0 none) me)) (sym same) (unparks n id p near me v is live hand holds)
