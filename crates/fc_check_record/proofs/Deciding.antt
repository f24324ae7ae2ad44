-- What decisions see of a record.
use Rattle.std.proofs.Common.{◌≡◌, ℕ, ◌^◌, ◌<◌, List, length, Option, Result, IfOk, subst, sym, ap, ◌∙◌}
use Rattle.fc_base.specs.Pools.{Pool}
use Rattle.fc_base.specs.Room.{Room}
use Rattle.fc_base.specs.Sheet.{Sheet, slot_at}
use Rattle.fc_base.specs.declared.command.Command.{Command}
use Rattle.fc_base.specs.declared.decision.Decision.{Decision}
use Rattle.fc_base.specs.declared.ids.VolId.{VolId}
use Rattle.fc_base.specs.declared.outcome.NoMemory.{NoMemory}
use Rattle.fc_base.specs.declared.size.GrainSize.{GrainSize}
use Rattle.fc_base.specs.declared.volume.Mapping.{Mapping}
use Rattle.fc_books.specs.Books.{Books}
use Rattle.fc_books.specs.Deciding.{IsLoopOf, decide}
use Rattle.fc_books.specs.Sound.{AreSound}
use Rattle.fc_changed.specs.Row.{Row}
use Rattle.fc_check_lane.specs.Known.{Known}
use Rattle.fc_check_lane.specs.Turns.{HasFewGrains}
use Rattle.fc_check_record.proofs.Telling.{judged}
use Rattle.fc_check_record.specs.Judged.{Judged}
use Rattle.fc_check_sheet.specs.View.{AreListed, IsSmall, Plain, view_of}
use Rattle.fc_desk.specs.Control.{ControlState, books_of}
use Rattle.fc_follow.specs.Following.{restarts}
use Rattle.fc_starts.specs.Starts.{HaveRoom}

-- each slot of a mapping is that of a mapping of the table
pub are_listed : (b : Books) (s : Sheet) (mappings : List Mapping) → AreSound b → s ≡ b.sheet → mappings ≡ b.tables.mappings → AreListed s.slots mappings
are_listed b s mappings sound e f =
    subst (λ (z : Sheet). AreListed z.slots mappings) (sym e) (subst (λ (z : List Mapping). AreListed b.sheet.slots z) (sym f) (record {
      rising = sound.tables.mappings.rising;
      owned = λ k n lt at. sound.agree.owned k lt n at;
    }))

pub are_small : (s chains : Sheet) (rows noted : List Row) → s ≡ chains → rows ≡ noted → IsSmall chains.slots noted → IsSmall s.slots rows
are_small s chains rows noted e f small =
    subst (λ (z : Sheet). IsSmall z.slots rows) (sym e) (subst (λ (z : List Row). IsSmall chains.slots z) (sym f) small)

-- and grains have numbers below 2^32
pub few_grains : (c : ControlState) (k : Known) (rows : List Row) (pools : List Pool) (rooms : List Room) (calls : List ℕ) (j : Judged) → judged c k rows pools rooms calls ≡ j → IsSmall j.whole.books.sheet.slots j.whole.rows → HasFewGrains k
few_grains c k rows pools rooms calls j is small place = subst (λ (z : Judged). length (slot_at z.whole.books.sheet.slots place).held < 2 ^ 32) (sym is) (small.held place)

-- ---- what decisions see

abbrev pub plain_of : Judged → Plain
plain_of j = record { sheet = j.whole.books.sheet; rows = j.whole.rows; pools = j.whole.books.pools; rooms = j.whole.books.rooms }

pub seen_books : (c : ControlState) (k : Known) (rows : List Row) (pools : List Pool) (rooms : List Room) (calls : List ℕ) (j : Judged) (p : Plain) → judged c k rows pools rooms calls ≡ j → p ≡ plain_of j → books_of c (view_of p) ≡ j.whole.books
seen_books c k rows pools rooms calls j p is e =
    ap (λ (q : Plain). books_of c (view_of q)) (e ∙ ap plain_of (sym is)) ∙ ap (λ (j : Judged). j.whole.books) is

pub room_same : (b books : Books) (r rows : List Row) → b ≡ books → r ≡ rows → HaveRoom books (restarts rows) → HaveRoom b (restarts r)
room_same b books r rows e f room =
    subst (λ (z : List Row). HaveRoom b (restarts z)) (sym f) (subst (λ (z : Books). HaveRoom z (restarts rows)) (sym e) room)

-- a decision on books that are the same
abbrev Decided : GrainSize → Books → List Row → Command → Result Decision NoMemory → Type 0
Decided grain b rows command answer =
    IfOk answer (λ decision. (loop : Option (List VolId)) × IsLoopOf grain b command loop × (decision ≡ decide (restarts rows) grain b command loop))

pub decided_same : (g grain : GrainSize) (b books : Books) (r rows : List Row) (command : Command) (answer : Result Decision NoMemory) → g ≡ grain → b ≡ books → r ≡ rows → Decided g b r command answer → Decided grain books rows command answer
decided_same g grain b books r rows command answer e f h found =
    subst (λ (z : List Row). Decided grain books z command answer) h
    (subst (λ (z : Books). Decided grain z r command answer) f (subst (λ (z : GrainSize). Decided z b r command answer) e found))
