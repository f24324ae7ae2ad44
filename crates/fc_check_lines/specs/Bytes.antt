-- The lines and blocks in a session's bytes.
use Rattle.std.specs.Prelude.{◌≡◌, ℕ, ◌<◌, List, ◌∷◌, length}
use Rattle.fc_base.specs.declared.command.Scope.TheVariants.{Free}
use Rattle.fc_blocks.specs.Reading.{script_line}
use Rattle.fc_blocks.specs.Segments.{Segment, single, together, cut}
use Rattle.fc_check_lines.specs.declared.segment.SegmentRead.{SegmentRead}
use Rattle.fc_check_lines.specs.declared.segment.SegmentRead.TheVariants.{Single, Block}
use Rattle.fc_entry.specs.Lines.{all_lines}
use Rattle.fc_legal.specs.Agenda.{Reading}
use Rattle.fc_words.specs.Lines.{line_of}

-- All of them; a block that isn't ended is left out.
abbrev pub segments_in : List ℕ → List Segment
segments_in bytes = (cut (all_lines bytes)).segments

-- A line outside of blocks is read by the grammar, whatever the books are.
abbrev pub by_grammar : Reading
by_grammar books line = line_of Free line

-- What was read is this segment.
abbrev pub IsSegment : SegmentRead → Segment → Type 0
IsSegment (Single read) (single line) = read ≡ script_line (line_of Free line)
IsSegment (Block read) (together block) = read ≡ block
IsSegment read segment = ⊥

-- Bytes begin with a segment, and these bytes stand behind it.
pub record BeginWith (bytes : List ℕ) (read : SegmentRead) (behind : List ℕ) : Type 0 where
  pub segment : Segment
  pub is_read : IsSegment read segment
  pub segments : segments_in bytes ≡ segment ∷ segments_in behind
  pub less : length behind < length bytes
