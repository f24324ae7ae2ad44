-- A session's lines, cut into segments: single lines of `main`, and blocks.
use Rattle.std.specs.Prelude.{ℕ, List, [], ◌∷◌, ◌++◌, fold, Option, Some, None, Result, Ok}
use Rattle.fc_base.specs.declared.command.Line.{Line}
use Rattle.fc_base.specs.declared.command.Line.TheVariants.{Together}
use Rattle.fc_base.specs.declared.command.Scope.TheVariants.{Free}
use Rattle.fc_base.specs.declared.fault.WordFault.{WordFault}
use Rattle.fc_blocks.specs.Blocks.{Opened, just_opened, After, open_on, closed, block_step}
use Rattle.fc_blocks.specs.declared.block.BlockRead.{BlockRead}
use Rattle.fc_words.specs.Lines.{line_of}

-- a line outside of blocks, by its bytes; or a block, as it was read
pub data Segment : Type 0 where
  single : List ℕ → Segment
  together : BlockRead → Segment

-- the segments that have ended, and the block that is open
pub record Cut : Type 0 where
  pub segments : List Segment
  pub open_block : Option Opened

abbrev pub no_lines : Cut
no_lines = record { segments = []; open_block = None }

-- outside of blocks, a good `together` opens one; any other line stands alone
abbrev pub outside : Result Line WordFault → List ℕ → Cut
outside (Ok Together) line = record { segments = []; open_block = Some just_opened }
outside other line = record { segments = single line ∷ []; open_block = None }

-- a block ends with its `end`
abbrev pub inside : After → Cut
inside (open_on b) = record { segments = []; open_block = Some b }
inside (closed block) = record { segments = together block ∷ []; open_block = None }

-- what one line makes: the segments that end with it, and the block that is open after it
unfoldable pub line_cut : Option Opened → List ℕ → Cut
line_cut None line = outside (line_of Free line) line
line_cut (Some b) line = inside (block_step b line)

abbrev pub cut_step : Cut → List ℕ → Cut
cut_step c line =
    let more = line_cut c.open_block line in
    record { segments = c.segments ++ more.segments; open_block = more.open_block }

-- all lines, in order
abbrev pub cut : List (List ℕ) → Cut
cut lines = fold cut_step no_lines lines
