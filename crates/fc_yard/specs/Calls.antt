-- A yard and its passes as callers see them, and what their calls need.
use Rattle.std.specs.Prelude.{◌≡◌, ℕ, suc, ◌+◌, ◌*◌, ◌^◌, ◌<◌, ◌≤◌, [], ◌∷◌}
use Rattle.atomic_table.specs.Seated.{TableId}
use Rattle.atomic_table.specs.declared.shared.Seat.{Seat}
use Rattle.fc_yard.specs.declared.rule.Stall.{Stall}
use Rattle.fc_yard.specs.declared.rule.View.{View}
use Rattle.fc_yard.specs.Lists.{AllBelow}
use Rattle.fc_yard.specs.Views.{Holds}

-- a yard: which one it is, how many parts it has, and the number that none reaches
pub record YardView : Type 0 where
  pub id : TableId
  pub parts : ℕ
  pub limit : ℕ

-- a pass: its yard, and what it knows and may do
pub record PassView (P E : Type 0) : Type 0 where
  pub yard : TableId
  pub view : View P E

module _ {P E : Type 0} where
  -- the pass is one of this yard
  abbrev pub IsPassOf : YardView → PassView P E → Type 0
  IsPassOf y p = (p.yard ≡ y.id) × (p.view.limit ≡ y.limit)

  -- the pass after a call, which changed its view to this
  abbrev pub became : PassView P E → View P E → PassView P E
  became p v = record { yard = p.yard; view = v }

  -- a seat between two calls
  abbrev pub AtRest : Seat (Stall P E) (View P E) → Type 0
  AtRest s = (s.me.1 ≡ []) × (s.me.0.hand ≡ 0) × (0 < s.me.0.shares)

  -- a seat with this slot in hand, of a part that it holds
  abbrev pub InHand : Seat (Stall P E) (View P E) → ℕ → Stall P E → Type 0
  InHand s p y = (s.me.1 ≡ (p, y) ∷ []) × (s.me.0.hand ≡ suc p) × (0 < s.me.0.shares) × Holds s.me.0 p

  abbrev pub IsSameSeat : Seat (Stall P E) (View P E) → Seat (Stall P E) (View P E) → Type 0
  IsSameSeat old new = (new.table_id ≡ old.table_id) × (new.id ≡ old.id)

-- a table for n parts
abbrev pub IsSized : TableId → ℕ → Type 0
IsSized z n = (z.words ≡ 16 * n + 32) × (z.slots ≡ n) × (n < 2 ^ 58)

module _ {P E : Type 0} where
  -- a number of the yard that is above all that the pass drew before
  abbrev pub IsNext : View P E → ℕ → Type 0
  IsNext v n = AllBelow n v.made × (v.first ≤ n) × (n < v.limit)
