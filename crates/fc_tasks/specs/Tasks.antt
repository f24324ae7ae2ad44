-- What a request of a script owes of the parts that it changes.
use Rattle.std.specs.Prelude.{◌≡◌, ◌≢◌, ℕ, ◌+◌, ◌<◌, List, length}
use mathlib.Core.Option.{some}
use lib.ListN.{get_elem?}
use Rattle.fc_yard.specs.Whole.{OpensWith}
use Rattle.fc_tasks.specs.declared.script.Needs.{Needs}
use Rattle.fc_tasks.specs.declared.script.Needs.TheVariants.{Part, All, Nothing}

module _ {W E P : Type 0} (fits : P → W → ℕ → P → Type 0) (sound : W → W → Type 0) (count : W → ℕ) (steps : W → ℕ → E → W → Type 0) where
  -- A whole that may be told in a yard that was opened with these parts, on w0, and there is room below the limit for one more entry.
  pub record IsTold (openings : List P) (first limit : ℕ) (w0 w : W) : Type 0 where
    pub opens : OpensWith fits sound count steps openings first w0
    pub sound_is : sound w0 w
    pub room : count w < limit

  -- Each of these parts has its share.
  abbrev pub AllFit : List P → W → List P → Type 0
  AllFit openings w xs = (p : ℕ) (x0 x : P) → get_elem? openings p ≡ some x0 → get_elem? xs p ≡ some x → fits x0 w p x

  -- The part at p of such a yard.
  pub record IsPartOf (openings : List P) (limit p : ℕ) (x : P) : Type 0 where
    pub first : ℕ
    pub w0 : W
    pub w : W
    pub opening : P
    pub told : IsTold openings first limit w0 w
    pub at : get_elem? openings p ≡ some opening
    pub fit : fits opening w p x

  -- All parts of such a yard.
  pub record ArePartsOf (openings : List P) (limit : ℕ) (xs : List P) : Type 0 where
    pub first : ℕ
    pub w0 : W
    pub w : W
    pub told : IsTold openings first limit w0 w
    pub long : length xs ≡ length openings
    pub fit : AllFit openings w xs

  -- The entry leads on: the part at p as it now is has its share of what comes next, and so has every other part that had its own.
  pub record PartLeads (w0 w : W) (p : ℕ) (opening new : P) (e : E) : Type 0 where
    pub next : W
    pub leads : steps w (count w) e next
    pub sound_is : sound w0 next
    pub counted : count next ≡ count w + 1
    pub part : fits opening next p new
    pub others : (q : ℕ) (y0 y : P) → q ≢ p → fits y0 w q y → fits y0 next q y

  -- The same of all parts at once.
  pub record AllLead (openings : List P) (w0 w : W) (news : List P) (e : E) : Type 0 where
    pub next : W
    pub leads : steps w (count w) e next
    pub sound_is : sound w0 next
    pub counted : count next ≡ count w + 1
    pub fit : AllFit openings next news

-- What a request needs is there, in a yard that was opened with these parts.
abbrev pub IsThere : {P : Type 0} → Needs → List P → Type 0
IsThere (Part p) openings = p < length openings
IsThere All openings = 0 < length openings
IsThere Nothing openings = Unit {0}
