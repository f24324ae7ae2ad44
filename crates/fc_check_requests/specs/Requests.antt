-- Requests that are left to be asked, kept piece by piece.
use Rattle.std.specs.Prelude.{◌≡◌, ℕ, ◌+◌, ◌%◌, ◌^◌, ◌<◌, ◌≤◌, Bool, true, false, List, [], ◌∷◌, map, Option, Some, None}
use Rattle.fc_base.specs.declared.ids.VolId.{VolId}
use Rattle.fc_base.specs.declared.request.Request.{Request}
use Rattle.fc_base.specs.declared.request.Request.TheVariants.{Command as CommandAsked, Unread as UnreadAsked, CopyTurn, CleanTurn}
use Rattle.fc_base.specs.declared.size.GrainSize.{GrainSize}
use Rattle.fc_check_requests.specs.declared.requests.Item.{Item}
use Rattle.fc_check_requests.specs.declared.requests.Item.TheVariants.{Command, Unread, Access, Turns as WorkerTurns}
use Rattle.fc_check_requests.specs.declared.span.Span.{Span}
use Rattle.fc_check_requests.specs.declared.turns.Turns.{Turns}
use Rattle.fc_legal.specs.Asked.{numbers, read_in, write_in}

-- The request of an access of blocks of a volume in one of its grains: a read, or a write with this byte.
abbrev pub part_asked : GrainSize → VolId → ℕ → ℕ → Option ℕ → ℕ → Request
part_asked grain id block count None g = read_in grain id block count g
part_asked grain id block count (Some byte) g = write_in grain id block count byte g

-- The grains of an access that are left, rising.
abbrev pub span_left : Span → List Request
span_left s = map (part_asked s.grain s.volume s.block s.count s.byte) (numbers s.next s.left)

-- A worker's turn in this lane: a cleaner's, or a copier's.
abbrev pub turn_in : Bool → ℕ → Request
turn_in true lane = CleanTurn lane
turn_in false lane = CopyTurn lane

-- The turns that are left, in the lanes in turn.
abbrev pub turns_left : Turns → List Request
turns_left t = map (λ k. turn_in t.cleans (k % t.lanes)) (numbers t.next t.left)

abbrev pub item_left : Item → List Request
item_left (Command command) = CommandAsked command ∷ []
item_left (Unread fault) = UnreadAsked fault ∷ []
item_left (Access span) = span_left span
item_left (WorkerTurns turns) = turns_left turns

-- It asks one request or more, whose numbers can be counted.
abbrev pub AsksSome : Item → Type 0
AsksSome (Command command) = Unit {0}
AsksSome (Unread fault) = Unit {0}
AsksSome (Access span) = (0 < span.left) × (span.next + span.left ≤ 2 ^ 32)
AsksSome (WorkerTurns turns) = (0 < turns.left) × (turns.next + turns.left ≤ 2 ^ 32) × (0 < turns.lanes)

-- What is left of it, if anything, asks these.
abbrev pub IsRest : Option Item → List Request → Type 0
IsRest None requests = requests ≡ []
IsRest (Some item) requests = (item_left item ≡ requests) × AsksSome item
