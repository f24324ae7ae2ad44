-- Passes are split and joined, a yard begins, and a yard ends.
use Rattle.std.proofs.Common.{◌≡◌, ◌≢◌, ℕ, zero, suc, ◌+◌, ◌*◌, ◌<◌, ◌≤◌, List, [], ◌∷◌, ◌++◌, map, length, get_or, set, replicate, sym, refl, ap, ◌∙◌, subst, arith, length-set, get_or-set_other, get_or-set_same, ⊎_elim, Option, Some, None}
use mathlib.Core.Option.{some, none, some-injective}
use mathlib.Core.Option as maybe
use mathlib.Core.List.{map-append}
use lib.ListN.{get_elem?, length-map, length-replicate, get_or-replicate}
use Rattle.std.proofs.lemmas.List.{map-set}
use Rattle.atomic_table.specs.Table.{State, Splits, Joins, opening, Final, Seen}
use Rattle.atomic_table.proofs.Lists.{at_snoc, set_else, at_map}
use Rattle.fc_yard.specs.declared.rule.Stall.{Stall}
use Rattle.fc_yard.specs.declared.rule.Stall.TheVariants.{Home}
use Rattle.fc_yard.specs.declared.rule.View.{View}
use Rattle.fc_yard.specs.declared.rule.Terms.{Terms}
use Rattle.fc_yard.specs.Lists.{total, times, once_below}
use Rattle.fc_yard.specs.Views.{HoldsNone, split_off, split_from, joined, spent}
use Rattle.fc_yard.specs.Homes.{at_home, homes_of, AllHome, new_words}
use Rattle.fc_yard.specs.Whole.{OpensWith, Ends, IsClosed}
use Rattle.fc_yard.specs.Rule.{Grip, Account, grip, account, held_at, taken, busy, parts_of, first_view, PartKept, Booked, AccountKept, Kept}
use Rattle.fc_yard.proofs.Totals.{total_none, total_only, total_two, each_set, same_map}
use Rattle.fc_yard.proofs.Places.{within}
use Rattle.fc_yard.proofs.Parts.{busy_none, part_stays, part_more}
use Rattle.fc_yard.proofs.Books.{books_split, books_joined}
use Rattle.fc_yard.proofs.Housing.{are_home, homes_long, home_there}
use Rattle.fc_yard.proofs.Turning.{St, Rule, from_map, at_length, opened}

module _ {W E P : Type 0} (fits : P → W → ℕ → P → Type 0) (sound : W → W → Type 0) (count : W → ℕ) (steps : W → ℕ → E → W → Type 0) (t : Terms P) where
  abbrev R : St fits sound count steps t → Type 0
  R = Rule fits sound count steps t

  pub splits : (id : ℕ) (v : View P E) → 1 < v.shares → Splits R id v (split_from v) (split_off v)
  splits id v more s k at =
      let w : View P E = split_from v in let u : View P E = split_off v in let views' : List (View P E) = set s.views id w in
      let gs : map grip (views' ++ u ∷ []) ≡ map grip s.views ++ grip u ∷ [] = map-append grip views' (u ∷ []) ∙ ap (λ (z : List (Grip P)). z ++ grip u ∷ []) (same_map grip s.views id v w at refl) in
      let cs : map account (views' ++ u ∷ []) ≡ set (map account s.views) id (account w) ++ account u ∷ [] =
      map-append account views' (u ∷ []) ∙ ap (λ (z : List (Account P E)). z ++ account u ∷ []) (map-set account s.views id w) in record {
        now = k.now;
        entries = k.entries;
        wide = k.wide;
        deep = k.deep;
        parts = λ q l. subst (λ (z : List (Grip P)). PartKept (k.now q) (get_or s.words (16 * q) 0) (get_elem? s.homes q) z q) (sym gs)
            (part_more (k.now q) (get_or s.words (16 * q) 0) (get_elem? s.homes q) (map grip s.views) q (grip u) refl (k.parts q l));
        idle = λ j x there. ⊎_elim (λ (e : get_elem? views' j ≡ some x). each_set (λ (y : View P E). y.shares ≡ 0 → HoldsNone y) s.views id w (λ z. absurd (omega arith)) (λ i y n below. k.idle i y below) j x e)
            (λ (e : u ≡ x). subst (λ (y : View P E). y.shares ≡ 0 → HoldsNone y) e (λ z p. refl)) (at_snoc views' u x j there);
        books = subst (λ (z : List (Account P E)). Booked t k.entries (get_or s.words (16 * length s.homes) 0) (get_or s.words (16 * length s.homes + 16) 0) z) (sym cs)
            (books_split t k.entries (get_or s.words (16 * length s.homes) 0) (get_or s.words (16 * length s.homes + 16) 0) (map account s.views) id (account v) (at_map account s.views id v at) more k.books);
        tells = k.tells;
      }

  pub joins : (id other : ℕ) (v u : View P E) → 0 < v.shares → u.hand ≡ 0 → HoldsNone u → Joins R id v other u (joined v u) spent
  joins id other v u live hand unheld s k at apart there =
      let w : View P E = joined v u in let views' : List (View P E) = set s.views id w in let z : View P E = spent in
      let gs : map grip (set views' other z) ≡ set (map grip s.views) other (grip z) = map-set grip views' other z ∙ ap (λ (l : List (Grip P)). set l other (grip z)) (same_map grip s.views id v w at refl) in
      let cs : map account (set views' other z) ≡ set (set (map account s.views) id (account w)) other (account z) =
      map-set account views' other z ∙ ap (λ (l : List (Account P E)). set l other (account z)) (map-set account s.views id w) in
      let was : get_elem? s.views other ≡ some u = sym (set_else s.views id other w apart) ∙ there in record {
        now = k.now;
        entries = k.entries;
        wide = k.wide;
        deep = k.deep;
        parts = λ q l. subst (λ (y : List (Grip P)). PartKept (k.now q) (get_or s.words (16 * q) 0) (get_elem? s.homes q) y q) (sym gs)
            (part_stays (k.now q) (k.now q) (get_or s.words (16 * q) 0) (get_or s.words (16 * q) 0) (get_elem? s.homes q) (get_elem? s.homes q) (map grip s.views) other q (grip u) (grip z)
            (at_map grip s.views other u was) refl refl refl (sym (unheld q)) (λ e. omega arith) (k.parts q l));
        idle = each_set (λ (y : View P E). y.shares ≡ 0 → HoldsNone y) views' other z (λ _ p. refl)
            (λ j x n below. each_set (λ (y : View P E). y.shares ≡ 0 → HoldsNone y) s.views id w (λ none_left. absurd (omega arith)) (λ i y m low. k.idle i y low) j x below);
        books = subst (λ (y : List (Account P E)). Booked t k.entries (get_or s.words (16 * length s.homes) 0) (get_or s.words (16 * length s.homes + 16) 0) y) (sym cs)
            (books_joined t k.entries (get_or s.words (16 * length s.homes) 0) (get_or s.words (16 * length s.homes + 16) 0) (map account s.views) id other (account v) (account u) (account z)
            (at_map account s.views id v at) live (subst (λ (l : List (Account P E)). get_elem? l other ≡ some (account u)) (map-set account s.views id w) (at_map account views' other u there))
            (at_map account s.views other u was) refl refl refl refl k.books);
        tells = k.tells;
      }

-- the only element of a list
pub only_one : {A : Type 0} (a b : A) (id : ℕ) → get_elem? (a ∷ []) id ≡ some b → a ≡ b
only_one a b zero e = some-injective a b e
only_one a b (suc id) e = absurd (mathlib.Core.Option.some-ne-none b (sym e))

-- a list read at a place that may be past its end
abbrev pub at_or_none : {A : Type 0} → List A → ℕ → Option A
at_or_none [] p = None
at_or_none (x ∷ xs) zero = Some x
at_or_none (x ∷ xs) (suc p) = at_or_none xs p

pub at_or_some : {A : Type 0} (xs : List A) (p : ℕ) (x : A) → get_elem? xs p ≡ some x → at_or_none xs p ≡ Some x
at_or_some [] p x e = absurd (mathlib.Core.Option.some-ne-none x (sym e))
at_or_some (y ∷ ys) zero x e = ap (λ (z : _). Some z) (some-injective y x e)
at_or_some (y ∷ ys) (suc p) x e = at_or_some ys p x e

pub some_at_or : {A : Type 0} (xs : List A) (p : ℕ) (x : A) → at_or_none xs p ≡ Some x → get_elem? xs p ≡ some x
some_at_or [] p x e = absurd (Rattle.fc_yard.proofs.Parts.none_some None x refl e)
some_at_or (y ∷ ys) zero x e = let same : y ≡ x = cc in ap (λ (z : _). some z) same
some_at_or (y ∷ ys) (suc p) x e = some_at_or ys p x e

module _ {W E P : Type 0} (fits : P → W → ℕ → P → Type 0) (sound : W → W → Type 0) (count : W → ℕ) (steps : W → ℕ → E → W → Type 0) (t : Terms P) where
  pub starts : t.first ≤ t.limit → 0 < t.passes → Kept fits sound count steps t (opening (new_words (length (parts_of t)) t.first) (at_home (parts_of t)) (first_view t))
  starts room some_pass =
      let parts : List P = parts_of t in let n : ℕ = length parts in let v : View P E = first_view t in let words : List ℕ = new_words n t.first in
      let zeros : List ℕ = replicate (16 * n + 32) 0 in
      let zeros_long : length zeros ≡ 16 * n + 32 = length-replicate (16 * n + 32) 0 in
      let inner_long = length-set zeros (16 * n) t.first in
      let homes : List (maybe.Option (Stall P E)) = map some (at_home parts) in
      let deep : length homes ≡ n = length-map (at_home parts) (λ (y : Stall P E). some y) ∙ length-map parts (λ (x : P). Home x) in
      let given : get_or words (16 * n) 0 ≡ t.first = get_or-set_other (set zeros (16 * n) t.first) (16 * n + 16) (16 * n) t.first 0 (λ e. omega arith) ∙ get_or-set_same zeros (16 * n) t.first 0 (omega arith) in
      let drawn : get_or words (16 * n + 16) 0 ≡ t.first = get_or-set_same (set zeros (16 * n) t.first) (16 * n + 16) t.first 0 (omega arith) in record {
        now = at_or_none parts;
        entries = [];
        wide = length-set (set zeros (16 * n) t.first) (16 * n + 16) t.first ∙ inner_long ∙ zeros_long ∙ ap (λ (m : ℕ). 16 * m + 32) (sym deep);
        deep = sym deep;
        parts = λ p l. let here = at_length parts p (omega arith) in
            let blank : get_or words (16 * p) 0 ≡ 0 = get_or-set_other (set zeros (16 * n) t.first) (16 * n + 16) (16 * p) t.first 0 (λ e. omega arith) ∙ get_or-set_other zeros (16 * n) (16 * p) t.first 0 (λ e. omega arith)
            ∙ get_or-replicate (16 * n + 32) (16 * p) 0 0 (omega arith) in record {
              one = ap busy (sym blank);
              free = λ _. (here.0, at_map (λ (y : Stall P E). some y) (at_home parts) p (Home here.0) (at_map (λ (x : P). Home x) parts p here.0 here.1), at_or_some parts p here.0 here.1);
              told = λ id g x there has. absurd (Rattle.fc_yard.proofs.Parts.none_some (held_at g p) x
                  (ap (λ (h : Grip P). held_at h p) (sym (only_one (grip v) g id there))) has);
            };
        idle = λ id u there z. absurd (let same = ap (λ (y : View P E). y.shares) (only_one v u id there) in omega arith);
        books = subst (λ (z : ℕ × ℕ). Booked t [] z.0 z.1 (account v ∷ [])) (λ j. (sym (ap (λ (m : ℕ). get_or words (16 * m) 0) deep ∙ given) j, sym (ap (λ (m : ℕ). get_or words (16 * m + 16) 0) deep ∙ drawn) j)) record {
          shares = omega arith;
          counter = omega arith;
          tickets = omega arith;
          limit = room;
          numbers = λ x. omega arith;
          each = λ id a there. subst (AccountKept t [] t.first) (only_one (account v) a id there) record { idle = λ z. (refl, refl); opened = λ _. (refl, refl, refl, refl); made = tt; low = omega arith };
        };
        tells = λ w0 opens. record {
          last = w0;
          runs = refl;
          sound_is = opens.sound_is;
          counted = let c = opens.counted in omega arith;
          fit = λ p x0 x at has. let same = some-injective x0 x (sym at ∙ some_at_or parts p x has) in subst (λ (z : P). fits x0 w0 p z) same (opens.fit p x0 at);
        };
      }

  pub started : (words : List ℕ) (ss : List (Stall P E)) (n : ℕ) (parts : List P) → parts_of t ≡ parts → n ≡ length parts → words ≡ new_words n t.first → ss ≡ at_home parts → t.first ≤ t.limit → 0 < t.passes
      → Kept fits sound count steps t (opening words ss (first_view t))
  started words ss n parts is long are_words are_home room some_pass =
      subst (λ (z : List ℕ × List (Stall P E)). Kept fits sound count steps t (opening z.0 z.1 (first_view t)))
      (λ i. (sym (are_words ∙ ap (λ (m : ℕ). new_words m t.first) (long ∙ ap (λ (l : List P). length l) (sym is))) i, sym (are_home ∙ ap (λ (l : List P). at_home l) (sym is)) i)) (starts room some_pass)

  -- where a pass has all shares, every part is at home
  module _ (s : State (Stall P E) (View P E)) (k : Kept fits sound count steps t s) (id : ℕ) (v : View P E) (at : get_elem? s.views id ≡ some v) (live : 0 < v.shares) (all : v.shares ≡ v.passes) (unheld : HoldsNone v) where
    others_idle : (j : ℕ) (u : View P E) → j ≢ id → get_elem? s.views j ≡ some u → u.shares ≡ 0
    others_idle j u n there =
        let two = total_two (λ (a : Account P E). a.shares) (map account s.views) id j (account v) (account u) (at_map account s.views id v at) (at_map account s.views j u there) n in
        let sum = k.books.shares in let passes = (opened fits sound count steps t s k id v at live).3 in omega arith

    none_held : (j : ℕ) (u : View P E) → get_elem? s.views j ≡ some u → HoldsNone u
    none_held j u there = mathlib.Core.Logic.dite (native.Mathlib.Decide.ℕ_discrete j id)
        (λ (e : j ≡ id). subst (λ (y : View P E). HoldsNone y) (some-injective v u (sym at ∙ ap (get_elem? s.views) (sym e) ∙ there)) unheld)
        (λ (n : j ≢ id). k.idle j u there (others_idle j u n there))

    pub comes_home : (p : ℕ) → p < length s.homes → (x : P) × (get_elem? s.homes p ≡ some (some (Home x))) × (k.now p ≡ Some x)
    comes_home p l =
        let part = k.parts p l in
        let none = total_none (λ (g : Grip P). taken (held_at g p)) (map grip s.views)
        (λ j g there. let who = from_map grip s.views j g there in ap (λ (h : Grip P). taken (held_at h p)) (sym who.2) ∙ ap taken (none_held j who.0 who.1 p)) in
        part.free (busy_none (get_or s.words (16 * p) 0) (sym part.one ∙ none))

    others_nothing : (j : ℕ) (a : Account P E) → j ≢ id → get_elem? (map account s.views) j ≡ some a → (a.tickets ≡ 0) × (a.made ≡ [])
    others_nothing j a n there = let who = from_map account s.views j a there in
        (k.books.each j a there).idle (ap (λ (b : Account P E). b.shares) (sym who.2) ∙ others_idle j who.0 n who.1)

    -- what the closed yard hands back, where these parts were at home
    pub ends : (xs : List P) → length xs ≡ length s.homes → ((p : ℕ) (x : P) → get_elem? s.homes p ≡ some (some (Home x)) → get_elem? xs p ≡ some x) → IsClosed fits sound count steps v xs
    ends xs long came =
        let o = opened fits sound count steps t s k id v at live in let there = at_map account s.views id v at in
        let drawn = k.books.counter in let mine = k.books.each id (account v) there in
        let tickets = total_only (λ (a : Account P E). a.tickets) (map account s.views) id (account v) there (λ j a n at'. (others_nothing j a n at').0) in
        let sum = k.books.tickets in let limit = k.books.limit in let low = mine.low in record {
          long = long ∙ sym k.deep ∙ ap (λ (z : List P). length z) (sym o.0);
          entries = k.entries;
          stand = subst (λ (z : ℕ). Rattle.fc_yard.specs.Lists.AllStand z k.entries v.made) (sym o.1) mine.made;
          numbers = λ x. subst (λ (z : ℕ). times x v.made + once_below x z ≡ once_below x (z + length k.entries)) (sym o.1)
              (ap (λ (m : ℕ). m + once_below x t.first) (sym (total_only (λ (a : Account P E). times x a.made) (map account s.views) id (account v) there (λ j a n at'. ap (times x) (others_nothing j a n at').1)))
              ∙ k.books.numbers x ∙ ap (once_below x) drawn);
          limit = (omega arith, omega arith);
          ends = λ w0 opens.
              let opens' : OpensWith fits sound count steps (parts_of t) t.first w0 = subst (λ (z : List P × ℕ). OpensWith fits sound count steps z.0 z.1 w0) (λ i. (o.0 i, o.1 i)) opens in
              let tells = k.tells w0 opens' in
              subst (λ (z : List P × ℕ). Ends fits sound count steps z.0 z.1 k.entries xs w0) (λ i. (sym o.0 i, sym o.1 i)) record {
                last = tells.last;
                runs = tells.runs;
                sound_is = tells.sound_is;
                counted = tells.counted;
                fit = λ p x0 x at' has. let near = within (parts_of t) p x0 at' in let deep = k.deep in let home = comes_home p (omega arith) in
                    let same = some-injective home.0 x (sym (came p home.0 home.1) ∙ has) in
                    tells.fit p x0 x at' (home.2 ∙ ap (λ (z : P). Some z) same);
              };
        }

  -- what a table that was closed with such a pass gives
  pub closes : (id : ℕ) (v : View P E) (words : List ℕ) (ss : List (Stall P E)) → Final (Seen (Kept fits sound count steps t) id v) words ss → 0 < v.shares → v.shares ≡ v.passes → HoldsNone v
      → AllHome ss × IsClosed fits sound count steps v (homes_of ss)
  closes id v words ss final live all unheld =
      let s = final.0 in let k = final.1.0 in let at = final.1.1 in let long = final.3 in
      let home : AllHome ss = are_home ss (λ p near. let here = comes_home s k id v at live all unheld p (omega arith) in (here.0, final.4 p (Home here.0) here.1)) in
      (home, ends s k id v at live all unheld (homes_of ss) (homes_long ss home ∙ sym long) (λ p x there. home_there ss p x home (final.4 p (Home x) there)))
