-- What parts and entries say of the whole.
use Rattle.std.specs.Prelude.{◌≡◌, ◌≢◌, ℕ, suc, ◌+◌, ◌<◌, ◌≤◌, List, [], ◌∷◌, Option, Some, length}
use mathlib.Core.Option.{some}
use lib.ListN.{get_elem?}
use Rattle.fc_yard.specs.declared.rule.View.{View}
use Rattle.fc_yard.specs.Views.{held_of}
use Rattle.fc_yard.specs.Lists.{AllStand, times, once_below}

module _ {W E P : Type 0} (fits : P → W → ℕ → P → Type 0) (sound : W → W → Type 0) (count : W → ℕ) (steps : W → ℕ → E → W → Type 0) where
  -- entries, numbered from n on, lead from one whole to another
  abbrev pub Runs : W → ℕ → List E → W → Type 0
  Runs w n [] last = last ≡ w
  Runs w n (e ∷ es) last = (next : W) × steps w n e next × Runs next (suc n) es last

  -- the whole is one that these parts stand for, and so many entries have led to it
  pub record OpensWith (parts : List P) (first : ℕ) (w : W) : Type 0 where
    pub sound_is : sound w w
    pub counted : count w ≡ first
    pub fit : (p : ℕ) (x : P) → get_elem? parts p ≡ some x → fits x w p x

  -- the entries from the first number on led from the opening to a whole of which each part has its share
  pub record Tells (parts : List P) (first : ℕ) (w0 : W) (now : ℕ → Option P) (es : List E) : Type 0 where
    pub last : W
    pub runs : Runs w0 first es last
    pub sound_is : sound w0 last
    pub counted : count last ≡ first + length es
    pub fit : (p : ℕ) (x0 x : P) → get_elem? parts p ≡ some x0 → now p ≡ Some x → fits x0 last p x

  -- whatever the yard was opened on, there is a whole of which the pass's parts have their shares, and to which so few
  -- entries have led that one for each of the pass's tickets has room below the limit
  abbrev pub Knows : View P E → Type 0
  Knows v =
      (w0 : W) → OpensWith v.openings v.first w0
      → (w : W) × sound w0 w × (v.tickets + count w ≤ v.limit) × ((p : ℕ) (x0 x : P) → get_elem? v.openings p ≡ some x0 → held_of v p ≡ Some x → fits x0 w p x)

  -- whatever the yard was opened on, and whatever the whole is when the number is drawn: where there is room below the limit
  -- for the pass's tickets, and the part as it is held has its share, the entry leads to a next whole, of which the part as
  -- it now is has its share, and so has every other part that had it before
  abbrev pub Commits : View P E → ℕ → P → E → Type 0
  Commits v p new e =
      (w0 w : W) (x0 old : P) → OpensWith v.openings v.first w0 → sound w0 w → v.tickets + count w ≤ v.limit → get_elem? v.openings p ≡ some x0 → held_of v p ≡ Some old → fits x0 w p old
      → (next : W) × steps w (count w) e next × sound w0 next × (count next ≡ count w + 1) × fits x0 next p new
      × ((q : ℕ) (y0 y : P) → q ≢ p → fits y0 w q y → fits y0 next q y)

  -- the same of the first n parts at once
  abbrev pub CommitsAll : ℕ → View P E → List P → E → Type 0
  CommitsAll n v news e =
      (w0 w : W) → OpensWith v.openings v.first w0 → sound w0 w → v.tickets + count w ≤ v.limit → ((q : ℕ) (x0 old : P) → q < n → get_elem? v.openings q ≡ some x0 → held_of v q ≡ Some old → fits x0 w q old)
      → (next : W) × steps w (count w) e next × sound w0 next × (count next ≡ count w + 1)
      × ((q : ℕ) (x0 x : P) → get_elem? v.openings q ≡ some x0 → get_elem? news q ≡ some x → fits x0 next q x)

  -- the part may be put back as this: whatever the whole is, where the part as it is held has its share, this has it too
  abbrev pub Stays : View P E → ℕ → P → Type 0
  Stays v p new = (w : W) (x0 old : P) → get_elem? v.openings p ≡ some x0 → held_of v p ≡ Some old → fits x0 w p old → fits x0 w p new

  -- what the entries of a closed yard led to, and the parts, which have their shares of it
  pub record Ends (parts : List P) (first : ℕ) (es : List E) (xs : List P) (w0 : W) : Type 0 where
    pub last : W
    pub runs : Runs w0 first es last
    pub sound_is : sound w0 last
    pub counted : count last ≡ first + length es
    pub fit : (p : ℕ) (x0 x : P) → get_elem? parts p ≡ some x0 → get_elem? xs p ≡ some x → fits x0 last p x

  -- a yard that was closed with this pass, and gave these parts back
  pub record IsClosed (v : View P E) (xs : List P) : Type 0 where
    -- as many as it was opened with
    pub long : length xs ≡ length v.openings
    -- the entries, in the order of their numbers
    pub entries : List E
    -- each entry of the pass stands there, at its number's place
    pub stand : AllStand v.first entries v.made
    -- the pass has each number from the first on once, as many as there are entries, and no other
    pub numbers : (x : ℕ) → times x v.made + once_below x v.first ≡ once_below x (v.first + length entries)
    -- with the tickets that are left over, they don't pass the limit
    pub limit : (v.tickets + (v.first + length entries) ≤ v.limit) × (v.low ≤ v.tickets + (v.first + length entries))
    pub ends : (w0 : W) → OpensWith v.openings v.first w0 → Ends v.openings v.first entries xs w0
