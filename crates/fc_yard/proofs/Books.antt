-- The books after each step that changes them.
use Rattle.std.proofs.Common.{◌≡◌, ℕ, ◌+◌, ◌-◌, ◌<◌, ◌≤◌, max, List, [], ◌∷◌, ◌++◌, set, sym, refl, ap, ◌∙◌, subst, arith, length-append, ⊎_elim}
use mathlib.Core.Option.{some}
use lib.ListN.{get_elem?}
use Rattle.atomic_table.proofs.Lists.{at_snoc}
use Rattle.fc_yard.specs.declared.rule.Terms.{Terms}
use Rattle.fc_yard.specs.Lists.{times, once_below, AllStand}
use Rattle.fc_yard.specs.Rule.{Account, AccountKept, Booked}
use Rattle.fc_yard.proofs.Totals.{total_set, total_same, total_more, each_set}
use Rattle.fc_yard.proofs.Places.{once_more, times_append, stand_longer, stand_append, stand_more}

module _ {P E : Type 0} (t : Terms P) where
  -- what holds of an account holds after more entries and tickets
  pub account_later : (es more : List E) (given given' : ℕ) (a : Account P E) → given ≤ given' → AccountKept t es given a → AccountKept t (es ++ more) given' a
  account_later es more given given' a later k = record { idle = k.idle; opened = k.opened; made = stand_longer t.first es more a.made k.made; low = let l = k.low in omega arith }

  -- all many tickets were seen all were given
  pub books_looked : (es : List E) (given drawn : ℕ) (all : List (Account P E)) (i : ℕ) (a : Account P E) → get_elem? all i ≡ some a → Booked t es given drawn all → Booked t es given drawn (set all i (record a { low = given }))
  books_looked es given drawn all i a at k = let a' : Account P E = record a { low = given } in record {
    shares = total_same (λ (u : Account P E). u.shares) all i a a' at refl ∙ k.shares;
    counter = k.counter;
    tickets = ap (λ (n : ℕ). n + drawn) (total_same (λ (u : Account P E). u.tickets) all i a a' at refl) ∙ k.tickets;
    limit = k.limit;
    numbers = λ x. ap (λ (n : ℕ). n + once_below x t.first) (total_same (λ (u : Account P E). times x u.made) all i a a' at refl) ∙ k.numbers x;
    each = each_set (AccountKept t es given) all i a' (let was = k.each i a at in record { idle = was.idle; opened = was.opened; made = was.made; low = omega arith }) (λ j u n there. k.each j u there);
  }

  -- a ticket is given
  pub books_ticketed : (es : List E) (given drawn : ℕ) (all : List (Account P E)) (i : ℕ) (a : Account P E) → get_elem? all i ≡ some a → 0 < a.shares → given < t.limit → Booked t es given drawn all
      → Booked t es (given + 1) drawn (set all i (record a { tickets = a.tickets + 1; low = given + 1 }))
  books_ticketed es given drawn all i a at live room k = let a' : Account P E = record a { tickets = a.tickets + 1; low = given + 1 } in record {
    shares = total_same (λ (u : Account P E). u.shares) all i a a' at refl ∙ k.shares;
    counter = k.counter;
    tickets = let s = total_set (λ (u : Account P E). u.tickets) all i a a' at in let b = k.tickets in omega arith;
    limit = omega arith;
    numbers = λ x. ap (λ (n : ℕ). n + once_below x t.first) (total_same (λ (u : Account P E). times x u.made) all i a a' at refl) ∙ k.numbers x;
    each = each_set (AccountKept t es (given + 1)) all i a' (let was = k.each i a at in record { idle = λ z. absurd (omega arith); opened = was.opened; made = was.made; low = omega arith })
        (λ j u n there. let was = k.each j u there in record { idle = was.idle; opened = was.opened; made = was.made; low = let l = was.low in omega arith });
  }

  -- a number is drawn
  pub books_drawn : (es : List E) (given drawn : ℕ) (all : List (Account P E)) (i : ℕ) (a : Account P E) (e : E) → get_elem? all i ≡ some a → 0 < a.shares → 0 < a.tickets → Booked t es given drawn all
      → Booked t (es ++ e ∷ []) given (drawn + 1) (set all i (record a { tickets = a.tickets - 1; made = a.made ++ (drawn, e) ∷ [] }))
  books_drawn es given drawn all i a e at live some_left k = let a' : Account P E = record a { tickets = a.tickets - 1; made = a.made ++ (drawn, e) ∷ [] } in record {
    shares = total_same (λ (u : Account P E). u.shares) all i a a' at refl ∙ k.shares;
    counter = let long = length-append es (e ∷ []) in let c = k.counter in omega arith;
    tickets = let s = total_set (λ (u : Account P E). u.tickets) all i a a' at in let b = k.tickets in omega arith;
    limit = k.limit;
    numbers = λ x. let s = total_set (λ (u : Account P E). times x u.made) all i a a' at in let b = k.numbers x in let m = times_append x a.made ((drawn, e) ∷ []) in let o = once_more x drawn in omega arith;
    each = each_set (AccountKept t (es ++ e ∷ []) given) all i a'
        (let was = k.each i a at in record { idle = λ z. absurd (omega arith); opened = was.opened; made = stand_more t.first es a.made drawn e k.counter was.made; low = was.low })
        (λ j u n there. account_later es (e ∷ []) given given u (omega arith) (k.each j u there));
  }

  -- a pass is split off
  pub books_split : (es : List E) (given drawn : ℕ) (all : List (Account P E)) (i : ℕ) (a : Account P E) → get_elem? all i ≡ some a → 1 < a.shares → Booked t es given drawn all
      → Booked t es given drawn (set all i (record a { shares = a.shares - 1 }) ++ (record a { shares = 1; tickets = 0; made = [] }) ∷ [])
  books_split es given drawn all i a at more k =
      let a' : Account P E = record a { shares = a.shares - 1 } in let b' : Account P E = record a { shares = 1; tickets = 0; made = [] } in record {
        shares = let s = total_set (λ (u : Account P E). u.shares) all i a a' at in let m = total_more (λ (u : Account P E). u.shares) (set all i a') b' in let b = k.shares in omega arith;
        counter = k.counter;
        tickets = let s = total_same (λ (u : Account P E). u.tickets) all i a a' at refl in let m = total_more (λ (u : Account P E). u.tickets) (set all i a') b' in let b = k.tickets in omega arith;
        limit = k.limit;
        numbers = λ x. let s = total_same (λ (u : Account P E). times x u.made) all i a a' at refl in let m = total_more (λ (u : Account P E). times x u.made) (set all i a') b' in let b = k.numbers x in omega arith;
        each = λ j u there. ⊎_elim (λ (at' : get_elem? (set all i a') j ≡ some u). each_set (AccountKept t es given) all i a'
            (let was = k.each i a at in record { idle = λ z. absurd (omega arith); opened = λ l. was.opened (omega arith); made = was.made; low = was.low }) (λ l w n below. k.each l w below) j u at')
            (λ (e : b' ≡ u). subst (AccountKept t es given) e (let was = k.each i a at in record { idle = λ z. absurd (omega arith); opened = λ l. was.opened (omega arith); made = tt; low = was.low }))
            (at_snoc (set all i a') b' u j there);
      }

  -- a pass takes in another
  pub books_joined : (es : List E) (given drawn : ℕ) (all : List (Account P E)) (i o : ℕ) (a b : Account P E) (gone : Account P E) → get_elem? all i ≡ some a → 0 < a.shares
      → get_elem? (set all i (record a { shares = a.shares + b.shares; tickets = a.tickets + b.tickets; low = max a.low b.low; made = a.made ++ b.made })) o ≡ some b
      → get_elem? all o ≡ some b → gone.shares ≡ 0 → gone.tickets ≡ 0 → gone.made ≡ [] → gone.low ≡ 0 → Booked t es given drawn all
      → Booked t es given drawn (set (set all i (record a { shares = a.shares + b.shares; tickets = a.tickets + b.tickets; low = max a.low b.low; made = a.made ++ b.made })) o gone)
  books_joined es given drawn all i o a b gone at live there was_there no_shares no_tickets no_made no_low k =
      let a' : Account P E = record a { shares = a.shares + b.shares; tickets = a.tickets + b.tickets; low = max a.low b.low; made = a.made ++ b.made } in record {
        shares = let s = total_set (λ (u : Account P E). u.shares) all i a a' at in let m = total_set (λ (u : Account P E). u.shares) (set all i a') o b gone there in let h = k.shares in omega arith;
        counter = k.counter;
        tickets = let s = total_set (λ (u : Account P E). u.tickets) all i a a' at in let m = total_set (λ (u : Account P E). u.tickets) (set all i a') o b gone there in let h = k.tickets in omega arith;
        limit = k.limit;
        numbers = λ x. let s = total_set (λ (u : Account P E). times x u.made) all i a a' at in let m = total_set (λ (u : Account P E). times x u.made) (set all i a') o b gone there in let h = k.numbers x in
            let c = times_append x a.made b.made in let z : times x gone.made ≡ 0 = ap (times x) no_made in omega arith;
        each = each_set (AccountKept t es given) (set all i a') o gone
            (record { idle = λ _. (no_tickets, no_made); opened = λ l. absurd (omega arith); made = subst (AllStand t.first es) (sym no_made) tt; low = omega arith })
            (λ j u n below. each_set (AccountKept t es given) all i a'
            (let p = k.each i a at in let q = k.each o b was_there in record { idle = λ z. absurd (omega arith); opened = λ l. p.opened live; made = stand_append t.first es a.made b.made p.made q.made; low = let x = p.low in let y = q.low in omega arith })
            (λ l w m low. k.each l w low) j u below);
      }
