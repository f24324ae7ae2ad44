-- What the reader of blocks says of a line.
use Rattle.std.specs.Prelude.{◌≡◌, ℕ, Bool, true, false, List, [], ◌∷◌, ◌++◌, Option, Result, Ok, Err}
use Rattle.fc_base.specs.declared.command.Line.{Line}
use Rattle.fc_base.specs.declared.command.Scope.TheVariants.{Free}
use Rattle.fc_base.specs.declared.command.ScriptLine.{ScriptLine}
use Rattle.fc_base.specs.declared.command.ScriptLine.TheVariants.{Read, Unread}
use Rattle.fc_base.specs.declared.fault.WordFault.{WordFault}
use Rattle.fc_blocks.specs.Blocks.{Opened, After, open_on, closed, whole}
use Rattle.fc_blocks.specs.Segments.{Segment, single, together, cut}
use Rattle.fc_blocks.specs.declared.block.Taken.{Taken}
use Rattle.fc_blocks.specs.declared.block.Taken.TheVariants.{Single, Nothing, Block}
use Rattle.fc_words.specs.Lines.{line_of}

-- a line, as it was read
abbrev pub script_line : Result Line WordFault → ScriptLine
script_line (Ok line) = Read line
script_line (Err fault) = Unread fault

-- a line of a block: it ends the block, which is as it was; or the block goes on
abbrev pub LeavesBlock : Bool → Opened → Opened → After → Type 0
LeavesBlock true before now after = (after ≡ closed (whole before)) × (now ≡ before)
LeavesBlock false before now after = after ≡ open_on now

-- what was said of the line, by the segments that ended with it
abbrev pub Tells : Taken → List ℕ → List Segment → Type 0
Tells (Single read) line segments = (segments ≡ single line ∷ []) × (read ≡ script_line (line_of Free line))
Tells Nothing line segments = segments ≡ []
Tells (Block block) line segments = segments ≡ together block ∷ []

-- a line behind others: from the block that was open to the one that is open now
pub record IsNext (taken : Taken) (before after : Option Opened) (lines : List (List ℕ)) (line : List ℕ) : Type 0 where
  pub ended : List Segment
  pub told : Tells taken line ended
  pub segments : (cut (lines ++ line ∷ [])).segments ≡ (cut lines).segments ++ ended
  pub open_block : (cut (lines ++ line ∷ [])).open_block ≡ after
