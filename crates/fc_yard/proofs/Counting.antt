-- The steps on the two counts, of tickets and of numbers, keep the rule.
use Rattle.std.proofs.Common.{◌≡◌, ◌≢◌, ℕ, zero, suc, ◌+◌, ◌*◌, ◌%◌, ◌^◌, ◌<◌, ◌≤◌, eqb, List, [], ◌∷◌, ◌++◌, map, length, get_or, set, sym, refl, ap, ◌∙◌, subst, arith, length-set, get_or-set_other, get_or-set_same, Option, Some, None}
use Rattle.std.proofs.Math.Nat.{mod-eq_of_lt}
use mathlib.Core.Option.{some, none}
use mathlib.Core.Logic.{dite}
use native.Mathlib.Decide.{ℕ_discrete}
use prog.Atomic.{either}
use lib.ListN.{get_elem?}
use Rattle.std.proofs.lemmas.List.{map-set}
use Rattle.atomic_table.specs.Table.{State, Me, step, Act, keeps, takes, gives, Allows}
use Rattle.atomic_table.proofs.Lists.{set_here, set_else, at_map, exchanged}
use Rattle.fc_yard.specs.declared.rule.Stall.{Stall}
use Rattle.fc_yard.specs.declared.rule.Stall.TheVariants.{Out, Home, Deed, Deeds}
use Rattle.fc_yard.specs.declared.rule.View.{View}
use Rattle.fc_yard.specs.declared.rule.Terms.{Terms}
use Rattle.fc_yard.specs.Lists.{AllBelow}
use Rattle.fc_yard.specs.Views.{held_of, HoldsNone, Holds, HoldsAll, ticketed, looked, drew, drew_all}
use Rattle.fc_yard.specs.Whole.{Commits, CommitsAll}
use Rattle.fc_yard.specs.Rule.{Grip, Account, grip, account, parts_of, PartKept, Booked}
use Rattle.fc_yard.specs.Steps.{in_hand, Looked, Ticketed, CommitsDeed, Drew, DrewFor}
use Rattle.fc_yard.proofs.Totals.{write_here, write_else, each_set, same_map}
use Rattle.fc_yard.proofs.Places.{stand_below}
use Rattle.fc_yard.proofs.Parts.{none_some, part_moves}
use Rattle.fc_yard.proofs.Books.{books_looked, books_ticketed, books_drawn}
use Rattle.fc_yard.proofs.Telling.{put, put_here, put_else, told_drawn, told_drawn_all}
use Rattle.fc_yard.proofs.Turning.{St, Rule, Homes, here_set, at_length, opened, opens_here, held_now, knows, part_step, key_of, slot_of}

-- what is held after an entry of all parts
pub at_news : {P : Type 0} (xs : List P) (p : ℕ) (x : P) → get_or (map (λ (y : P). Some y) xs) p None ≡ Some x → get_elem? xs p ≡ some x
at_news [] p x e = absurd (none_some None x refl e)
at_news (y ∷ ys) zero x e = let same : y ≡ x = cc in ap (λ (z : _). some z) same
at_news (y ∷ ys) (suc p) x e = at_news ys p x e

pub news_at : {P : Type 0} (xs : List P) (p : ℕ) → p < length xs → (x : P) × (get_or (map (λ (y : P). Some y) xs) p None ≡ Some x)
news_at [] p l = absurd (omega arith)
news_at (y ∷ ys) zero l = (y, refl)
news_at (y ∷ ys) (suc p) l = news_at ys p (omega arith)

module _ {W E P : Type 0} (fits : P → W → ℕ → P → Type 0) (sound : W → W → Type 0) (count : W → ℕ) (steps : W → ℕ → E → W → Type 0) (t : Terms P) where
  abbrev R : St fits sound count steps t → Type 0
  R = Rule fits sound count steps t

  -- a step on the books alone
  pub book_step : (s : St fits sound count steps t) (k : R s) (id i b : ℕ) (v w : View P E) → get_elem? s.views id ≡ some v → grip w ≡ grip v → 0 < w.shares → ((q : ℕ) → q < length s.homes → 16 * q ≢ i)
      → Booked t k.entries (get_or (set s.words i b) (16 * length s.homes) 0) (get_or (set s.words i b) (16 * length s.homes + 16) 0) (set (map account s.views) id (account w))
      → R record { words = set s.words i b; homes = s.homes; views = set s.views id w }
  book_step s k id i b v w at same live apart books = record {
    now = k.now;
    entries = k.entries;
    wide = length-set s.words i b ∙ k.wide;
    deep = k.deep;
    parts = λ q l. subst (λ (z : ℕ × List (Grip P)). PartKept (k.now q) z.0 (get_elem? s.homes q) z.1 q) (λ j. (sym (get_or-set_other s.words i (16 * q) b 0 (apart q l)) j, sym (same_map grip s.views id v w at same) j)) (k.parts q l);
    idle = each_set (λ (u : View P E). u.shares ≡ 0 → HoldsNone u) s.views id w (λ z. absurd (omega arith)) (λ j u n there. k.idle j u there);
    books = subst (λ (z : List (Account P E)). Booked t k.entries (get_or (set s.words i b) (16 * length s.homes) 0) (get_or (set s.words i b) (16 * length s.homes + 16) 0) z) (sym (map-set account s.views id w)) books;
    tells = k.tells;
  }

  module _ (n id : ℕ) where
    -- the tickets given are counted
    pub looks : (me : Me (Stall P E) (View P E)) → 0 < me.0.shares → Allows R n id me (16 * n) (λ m. m) (Looked fits sound count steps (step n (16 * n) 0 0 none) me)
    looks me live s k deep at small =
        let v : View P E = me.0 in let given : ℕ = get_or s.words (16 * n) 0 in let deep' : n ≡ length s.homes = sym deep in let wide = k.wide in
        let kept : Booked t k.entries given (get_or s.words (16 * n + 16) 0) (map account s.views) = subst (λ (m : ℕ). Booked t k.entries (get_or s.words (16 * m) 0) (get_or s.words (16 * m + 16) 0) (map account s.views)) deep k.books in
        let there = at_map account s.views id v at in let o = opened fits sound count steps t s k id v at live in let limit = kept.limit in
        let low = (kept.each id (account v) there).low in let w : View P E = looked v given in
        let after : ℕ → View P E → St fits sound count steps t = λ b u. record { words = set s.words (16 * n) b; homes = s.homes; views = set s.views id u } in
        let rule : R (after given w) =
        book_step s k id (16 * n) given v w at refl live (λ q l e. omega arith)
        (subst (λ (m : ℕ). Booked t k.entries (get_or (set s.words (16 * n) given) (16 * m) 0) (get_or (set s.words (16 * n) given) (16 * m + 16) 0) (set (map account s.views) id (account w))) deep'
        (subst (λ (z : ℕ × ℕ). Booked t k.entries z.0 z.1 (set (map account s.views) id (account w)))
        (λ j. (sym (get_or-set_same s.words (16 * n) given 0 (omega arith)) j, sym (get_or-set_other s.words (16 * n) (16 * n + 16) given 0 (λ e. omega arith)) j))
        (books_looked t k.entries given (get_or s.words (16 * n + 16) 0) (map account s.views) id (account v) there kept))) in (
          w,
          keeps,
          tt,
          rule,
          (low, omega arith, refl, knows fits sound count steps t (after given w) rule id w (here_set s.views id v w at) live),
        )

    -- a ticket is given where as many were given as expected
    pub tickets : (me : Me (Stall P E) (View P E)) (first second : ℕ) → 0 < me.0.shares → second ≡ first + 1 → first < me.0.limit
        → Allows R n id me (16 * n) (λ m. either (eqb m first) second m) (Ticketed fits sound count steps (step n (16 * n) first second none) me)
    tickets me first second live next room s k deep at small =
        let v : View P E = me.0 in let given : ℕ = get_or s.words (16 * n) 0 in let deep' : n ≡ length s.homes = sym deep in let wide = k.wide in
        let kept : Booked t k.entries given (get_or s.words (16 * n + 16) 0) (map account s.views) = subst (λ (m : ℕ). Booked t k.entries (get_or s.words (16 * m) 0) (get_or s.words (16 * m + 16) 0) (map account s.views)) deep k.books in
        let there = at_map account s.views id v at in let o = opened fits sound count steps t s k id v at live in let limit = kept.limit in
        let low = (kept.each id (account v) there).low in
        let after : ℕ → View P E → St fits sound count steps t = λ b u. record { words = set s.words (16 * n) b; homes = s.homes; views = set s.views id u } in
        let T : ℕ → Me (Stall P E) (View P E) → Type 0 = Ticketed fits sound count steps (step n (16 * n) first second none) me in
        let goal : ℕ → Type 0 = λ b. (w : View P E) × (a : Act (Stall P E)) × Rattle.atomic_table.specs.Table.Valid s.homes me.1 a × R (Rattle.atomic_table.specs.Table.stepped s (16 * n) b id me.1 w a) × T given (w, Rattle.atomic_table.specs.Table.carried_after me.1 a) in
        let booked : (b : ℕ) (w : View P E) → Booked t k.entries b (get_or s.words (16 * n + 16) 0) (set (map account s.views) id (account w)) → grip w ≡ grip v → 0 < w.shares → R (after b w) = λ b w books same alive.
        book_step s k id (16 * n) b v w at same alive (λ q l e. omega arith)
        (subst (λ (m : ℕ). Booked t k.entries (get_or (set s.words (16 * n) b) (16 * m) 0) (get_or (set s.words (16 * n) b) (16 * m + 16) 0) (set (map account s.views) id (account w))) deep'
        (subst (λ (z : ℕ × ℕ). Booked t k.entries z.0 z.1 (set (map account s.views) id (account w)))
        (λ j. (sym (get_or-set_same s.words (16 * n) b 0 (omega arith)) j, sym (get_or-set_other s.words (16 * n) (16 * n + 16) b 0 (λ e. omega arith)) j)) books)) in
        exchanged given first second goal
        (λ (is : given ≡ first). let w : View P E = ticketed v given in
        let rule : R (after second w) = booked second w
        (subst (λ (b : ℕ). Booked t k.entries b (get_or s.words (16 * n + 16) 0) (set (map account s.views) id (account w))) (ap (λ (m : ℕ). m + 1) is ∙ sym next)
        (books_ticketed t k.entries given (get_or s.words (16 * n + 16) 0) (map account s.views) id (account v) there live (omega arith) kept)) refl live in (
          w,
          keeps,
          tt,
          rule,
          (low, omega arith, (λ _. refl), (λ other. absurd (other is)), knows fits sound count steps t (after second w) rule id w (here_set s.views id v w at) live),
        ))
        (λ (other : given ≢ first). let w : View P E = looked v given in
        let rule : R (after given w) = booked given w (books_looked t k.entries given (get_or s.words (16 * n + 16) 0) (map account s.views) id (account v) there kept) refl live in (
          w,
          keeps,
          tt,
          rule,
          (low, omega arith, (λ is. absurd (other is)), (λ _. refl), knows fits sound count steps t (after given w) rule id w (here_set s.views id v w at) live),
        ))

    module _ (me : Me (Stall P E) (View P E)) (v : View P E) (p : ℕ) (near : p < n) (live : 0 < v.shares) (some_left : 0 < v.tickets) (hand : v.hand ≡ suc p) (most : v.limit < 2 ^ 64) where
      -- a number is drawn for the entry that the slot in hand announces
      pub draws : (e : _) (x : _) → me ≡ (v, (p, Deed e x) ∷ []) → Holds v p → Commits fits sound count steps v p x.value e.value
          → Allows R n id me (16 * n + 16) (λ m. (m + 1) % 2 ^ 64) (Drew fits sound count steps (step n (16 * n + 16) 1 0 none) me)
      draws e x is holds commits = subst (λ (m : Me (Stall P E) (View P E)). Allows R n id m (16 * n + 16) (λ m. (m + 1) % 2 ^ 64) (Drew fits sound count steps (step n (16 * n + 16) 1 0 none) m)) (sym is)
          (λ s k deep at small. let l : p < length s.homes = omega arith in let drawn : ℕ = get_or s.words (16 * n + 16) 0 in let given : ℕ = get_or s.words (16 * n) 0 in
          let deep' : n ≡ length s.homes = sym deep in let wide = k.wide in let y : Stall P E = Deed e x in let homes' : Homes fits sound count steps t = set s.homes p (some y) in
          let kept : Booked t k.entries given drawn (map account s.views) = subst (λ (m : ℕ). Booked t k.entries (get_or s.words (16 * m) 0) (get_or s.words (16 * m + 16) 0) (map account s.views)) deep k.books in
          let there = at_map account s.views id v at in let o = opened fits sound count steps t s k id v at live in
          let mine = Rattle.fc_yard.proofs.Totals.total_at (λ (a : Account P E). a.tickets) (map account s.views) id (account v) there in
          let limit = kept.limit in let sum = kept.tickets in let counter = kept.counter in
          let few : v.tickets + (t.first + length k.entries) ≤ v.limit = omega arith in let room : drawn < v.limit = omega arith in
          let fine : (drawn + 1) % 2 ^ 64 ≡ drawn + 1 = mod-eq_of_lt {n = drawn + 1} {m = 2 ^ 64} (omega arith) in
          let w : View P E = drew v p x.value drawn e.value in let now' : ℕ → Option P = put k.now p (Some x.value) in let now = held_now fits sound count steps t s k id v p holds.0 at l holds.1 in
          let words' : List ℕ = set s.words (16 * n + 16) (drawn + 1) in
          let start = at_length (parts_of t) p (let d = k.deep in omega arith) in
          let rule : R record { words = words'; homes = homes'; views = set s.views id w } =
          part_step fits sound count steps t s k id p (get_or s.words (16 * p) 0) v w words' homes' now' (k.entries ++ e.value ∷ []) at live (length-set s.words (16 * n + 16) (drawn + 1)) (length-set s.homes p (some y))
          (λ q ne l'. get_or-set_other s.words (16 * n + 16) (16 * q) (drawn + 1) 0 (λ e. omega arith)) (get_or-set_other s.words (16 * n + 16) (16 * p) (drawn + 1) 0 (λ e. omega arith))
          (λ q ne. set_else s.homes p q (some y) ne) (λ q ne. put_else k.now p q (Some x.value) ne) (λ q ne. write_else None v.held p q (Some x.value) ne) (λ q ne e. ne (omega arith))
          (part_moves (k.now p) (now' p) (get_or s.words (16 * p) 0) (get_elem? s.homes p) (get_elem? homes' p) (map grip s.views) id p (grip v) (grip w) holds.0 x.value
          (at_map grip s.views id v at) holds.1 (write_here None v.held p (Some x.value)) (put_here k.now p (Some x.value)) (λ _. (y, set_here s.homes p (some y) l)) (k.parts p l))
          (subst (λ (m : ℕ). Booked t (k.entries ++ e.value ∷ []) (get_or words' (16 * m) 0) (get_or words' (16 * m + 16) 0) (set (map account s.views) id (account w))) deep'
          (subst (λ (z : ℕ × ℕ). Booked t (k.entries ++ e.value ∷ []) z.0 z.1 (set (map account s.views) id (account w)))
          (λ j. (sym (get_or-set_other s.words (16 * n + 16) (16 * n) (drawn + 1) 0 (λ e. omega arith)) j, sym (get_or-set_same s.words (16 * n + 16) (drawn + 1) 0 (omega arith)) j))
          (books_drawn t k.entries given drawn (map account s.views) id (account v) e.value there live some_left kept)))
          (λ w0 opens. told_drawn fits sound count steps (parts_of t) t.first w0 k.now k.entries v p start.0 holds.0 x.value e.value o.0 start.1 holds.1 now.0 (opens_here fits sound count steps t s k id v at live w0 opens) few commits (k.tells w0 opens)) in (
            w,
            gives,
            tt,
            subst (λ (b : ℕ). R record { words = set s.words (16 * n + 16) b; homes = homes'; views = set s.views id w }) (sym fine) rule,
            (
              subst (λ (b : ℕ). AllBelow b v.made) (sym counter) (stand_below t.first k.entries v.made (kept.each id (account v) there).made),
              omega arith,
              room,
              λ q z same. subst (λ (c : List (ℕ × Stall P E)). DrewFor fits sound count steps v (key_of c) drawn (slot_of y c) (w, [])) same (refl, knows fits sound count steps t record { words = words'; homes = homes'; views = set s.views id w } rule id w (here_set s.views id v w at) live),
            ),
          ))

      -- the same for an entry of all parts
      pub draws_all : (e : _) (xs : _) → me ≡ (v, (p, Deeds e xs) ∷ []) → HoldsAll v n → length xs.value.items ≡ n → CommitsAll fits sound count steps n v xs.value.items e.value
          → Allows R n id me (16 * n + 16) (λ m. (m + 1) % 2 ^ 64) (Drew fits sound count steps (step n (16 * n + 16) 1 0 none) me)
      draws_all e xs is holds long commits = subst (λ (m : Me (Stall P E) (View P E)). Allows R n id m (16 * n + 16) (λ m. (m + 1) % 2 ^ 64) (Drew fits sound count steps (step n (16 * n + 16) 1 0 none) m)) (sym is)
          (λ s k deep at small. let l : p < length s.homes = omega arith in let drawn : ℕ = get_or s.words (16 * n + 16) 0 in let given : ℕ = get_or s.words (16 * n) 0 in
          let deep' : n ≡ length s.homes = sym deep in let wide = k.wide in let y : Stall P E = Deeds e xs in let homes' : Homes fits sound count steps t = set s.homes p (some y) in
          let kept : Booked t k.entries given drawn (map account s.views) = subst (λ (m : ℕ). Booked t k.entries (get_or s.words (16 * m) 0) (get_or s.words (16 * m + 16) 0) (map account s.views)) deep k.books in
          let there = at_map account s.views id v at in let o = opened fits sound count steps t s k id v at live in
          let mine = Rattle.fc_yard.proofs.Totals.total_at (λ (a : Account P E). a.tickets) (map account s.views) id (account v) there in
          let limit = kept.limit in let sum = kept.tickets in let counter = kept.counter in
          let few : v.tickets + (t.first + length k.entries) ≤ v.limit = omega arith in let room : drawn < v.limit = omega arith in
          let fine : (drawn + 1) % 2 ^ 64 ≡ drawn + 1 = mod-eq_of_lt {n = drawn + 1} {m = 2 ^ 64} (omega arith) in
          let w : View P E = drew_all v xs.value.items drawn e.value in let now' : ℕ → Option P = λ q. held_of w q in
          let words' : List ℕ = set s.words (16 * n + 16) (drawn + 1) in
          let as_deep : length homes' ≡ length s.homes = length-set s.homes p (some y) in
          let opening : length (parts_of t) ≡ n = k.deep ∙ deep in
          let rule : R record { words = words'; homes = homes'; views = set s.views id w } = record {
            now = now';
            entries = k.entries ++ e.value ∷ [];
            wide = length-set s.words (16 * n + 16) (drawn + 1) ∙ k.wide ∙ ap (λ (m : ℕ). 16 * m + 32) (sym as_deep);
            deep = k.deep ∙ sym as_deep;
            parts = λ q l'. let l'' : q < length s.homes = omega arith in let had = holds q (omega arith) in let has = news_at xs.value.items q (omega arith) in
                let now = held_now fits sound count steps t s k id v q had.0 at l'' had.1 in
                subst (λ (z : ℕ × List (Grip P)). PartKept (now' q) z.0 (get_elem? homes' q) z.1 q)
                (λ j. (sym (get_or-set_other s.words (16 * n + 16) (16 * q) (drawn + 1) 0 (λ e. omega arith)) j, sym (map-set grip s.views id w) j))
                (part_moves (k.now q) (now' q) (get_or s.words (16 * q) 0) (get_elem? s.homes q) (get_elem? homes' q) (map grip s.views) id q (grip v) (grip w) had.0 has.0
                (at_map grip s.views id v at) had.1 has.1 has.1
                (λ _. dite (ℕ_discrete q p) (λ (same : q ≡ p). (y, ap (get_elem? homes') same ∙ set_here s.homes p (some y) l))
                (λ (ne : q ≢ p). let slot = now.1 (λ h. ne (omega arith)) in (slot.0, set_else s.homes p q (some y) ne ∙ slot.1)))
                (k.parts q l''));
            idle = each_set (λ (u : View P E). u.shares ≡ 0 → HoldsNone u) s.views id w (λ z. absurd (omega arith)) (λ j u ne at'. k.idle j u at');
            books = subst (λ (z : ℕ × List (Account P E)). Booked t (k.entries ++ e.value ∷ []) (get_or words' (16 * z.0) 0) (get_or words' (16 * z.0 + 16) 0) z.1)
                (λ j. ((deep' ∙ sym as_deep) j, sym (map-set account s.views id w) j))
                (subst (λ (z : ℕ × ℕ). Booked t (k.entries ++ e.value ∷ []) z.0 z.1 (set (map account s.views) id (account w)))
                (λ j. (sym (get_or-set_other s.words (16 * n + 16) (16 * n) (drawn + 1) 0 (λ e. omega arith)) j, sym (get_or-set_same s.words (16 * n + 16) (drawn + 1) 0 (omega arith)) j))
                (books_drawn t k.entries given drawn (map account s.views) id (account v) e.value there live some_left kept));
            tells = λ w0 opens. told_drawn_all fits sound count steps (parts_of t) t.first w0 k.now now' k.entries v xs.value.items e.value o.0
                (λ q x l' has. (held_now fits sound count steps t s k id v q x at (omega arith) has).0) (λ q x0 x at' has. at_news xs.value.items q x has) (opens_here fits sound count steps t s k id v at live w0 opens) few
                (subst (λ (m : ℕ). CommitsAll fits sound count steps m v xs.value.items e.value) (sym opening) commits) (k.tells w0 opens);
          } in (
            w,
            gives,
            tt,
            subst (λ (b : ℕ). R record { words = set s.words (16 * n + 16) b; homes = homes'; views = set s.views id w }) (sym fine) rule,
            (
              subst (λ (b : ℕ). AllBelow b v.made) (sym counter) (stand_below t.first k.entries v.made (kept.each id (account v) there).made),
              omega arith,
              room,
              λ q z same. subst (λ (c : List (ℕ × Stall P E)). DrewFor fits sound count steps v (key_of c) drawn (slot_of y c) (w, [])) same (refl, knows fits sound count steps t record { words = words'; homes = homes'; views = set s.views id w } rule id w (here_set s.views id v w at) live),
            ),
          ))

  -- the same in a table that is known to have n slots
  module _ (slots n : ℕ) (same : slots ≡ n) (id : ℕ) (me : Me (Stall P E) (View P E)) where
    pub looks_at : 0 < me.0.shares → Allows R slots id me (16 * n) (λ m. m) (Looked fits sound count steps (step slots (16 * n) 0 0 none) me)
    looks_at live = subst (λ (k : ℕ). Allows R k id me (16 * n) (λ m. m) (Looked fits sound count steps (step k (16 * n) 0 0 none) me)) (sym same) (looks n id me live)

    pub tickets_at : (first second : ℕ) → 0 < me.0.shares → second ≡ first + 1 → first < me.0.limit
        → Allows R slots id me (16 * n) (λ m. either (eqb m first) second m) (Ticketed fits sound count steps (step slots (16 * n) first second none) me)
    tickets_at first second live next room =
        subst (λ (k : ℕ). Allows R k id me (16 * n) (λ m. either (eqb m first) second m) (Ticketed fits sound count steps (step k (16 * n) first second none) me)) (sym same) (tickets n id me first second live next room)

    -- a number is drawn for whatever the slot in hand announces
    module _ (v : View P E) (p : ℕ) (near : p < n) (live : 0 < v.shares) (some_left : 0 < v.tickets) (most : v.limit < 2 ^ 64) where
      abbrev Draws : Type 0
      Draws = Allows R slots id me (16 * n + 16) (λ m. (m + 1) % 2 ^ 64) (Drew fits sound count steps (step slots (16 * n + 16) 1 0 none) me)

      there : Allows R n id me (16 * n + 16) (λ m. (m + 1) % 2 ^ 64) (Drew fits sound count steps (step n (16 * n + 16) 1 0 none) me) → Draws
      there d = subst (λ (k : ℕ). Allows R k id me (16 * n + 16) (λ m. (m + 1) % 2 ^ 64) (Drew fits sound count steps (step k (16 * n + 16) 1 0 none) me)) (sym same) d

      pub draws_for : (y : Stall P E) → me ≡ (in_hand v (suc p), (p, y) ∷ []) → Holds v p → CommitsDeed fits sound count steps n v p y → Draws
      draws_for Out is holds owed = absurd owed
      draws_for (Home x) is holds owed = absurd owed
      draws_for (Deed e x) is holds owed = there (draws n id me (in_hand v (suc p)) p near live some_left refl most e x is holds owed)
      draws_for (Deeds e xs) is holds owed = there (draws_all n id me (in_hand v (suc p)) p near live some_left refl most e xs is owed.0 owed.1 owed.2)
