-- What is drawn of the entries of a trace.
use Rattle.std.specs.Prelude.{◌≡◌, ℕ, All, Option, Some, None, List, [], ◌∷◌, ◌++◌, map, slice_get}
use Rattle.fc_check_follow.specs.Ways.{pools_told}
use Rattle.fc_drawing.specs.Drawn.{Drawn}
use Rattle.fc_drawing.specs.Reasons.{IsReasonOf, done_read}
use Rattle.fc_drawing.specs.Sources.{sources_of}
use Rattle.fc_entry.specs.declared.entry.Entry.{Entry}
use Rattle.fc_legal.specs.Legal.{AreSteps}
use Rattle.fc_legal.specs.Whole.{Whole, opened}
use Rattle.fc_origins.specs.Origins.{origins_of}
use Rattle.fc_trace.specs.declared.header.Header.{Header}
use Rattle.law_stands.specs.Names.{nameless}

-- This may be told after the entries, over a new store with the disks of the first line.
abbrev pub MayBeTold : Header → List Entry → Whole → Type 0
MayBeTold header entries w = AreSteps header.grain (nameless (opened (pools_told header.lanes))) entries w

-- The drawing of the entry behind these: the slots are those of the chains of the definitions after it, with each grain that each
-- holds; its moves copied from the holders as it found them; and where it is a read, the slot that is named is the holder of the
-- definitions, and each block came by the write that is named, carried by triggers, moves and cuts as plain volumes carry its bytes.
pub record IsDrawing (header : Header) (before : List Entry) (drawn : Drawn) : Type 0 where
  pub old : Whole
  pub told_before : MayBeTold header before old
  pub new : Whole
  pub told : MayBeTold header (before ++ drawn.entry ∷ []) new
  pub slots_are : drawn.slots ≡ new.books.sheet.slots
  pub sources_are : drawn.sources ≡ sources_of old.books.sheet drawn.entry.moves
  pub reason_is : IsReasonOf header.grain drawn.slots (origins_of header.grain (before ++ drawn.entry ∷ [])) (done_read drawn.entry.request drawn.entry.reply) drawn.reason

-- The drawing of one of these entries.
pub record IsDrawingIn (header : Header) (entries : List Entry) (drawn : Drawn) : Type 0 where
  pub before : List Entry
  pub behind : List Entry
  pub split : entries ≡ before ++ drawn.entry ∷ behind
  pub is_drawing : IsDrawing header before drawn

-- Which entries are drawn: all, or the one with this number, if there is one.
abbrev pub one_or_none : Option Entry → List Entry
one_or_none None = []
one_or_none (Some entry) = entry ∷ []

abbrev pub wanted_of : Option ℕ → List Entry → List Entry
wanted_of None entries = entries
wanted_of (Some number) entries = one_or_none (slice_get entries number)

-- Each of them is drawn once, in their order.
pub record AreDrawings (header : Header) (at : Option ℕ) (entries : List Entry) (drawn : List Drawn) : Type 0 where
  pub entries_are : map (λ (d : Drawn). d.entry) drawn ≡ wanted_of at entries
  pub each : All (IsDrawingIn header entries) drawn
