-- The numbers of a summary, counted entry by entry.
use Rattle.std.specs.Prelude.{ℕ, ◌+◌, ◌%◌, ◌^◌, cond, List, ◌++◌, length, codes, decimal}
use Rattle.fc_entry.specs.declared.entry.Entry.{Entry}
use Rattle.fc_run.specs.Summary.{gives_bytes, is_done_write, refuses, bytes_sum, reads_of, writes_of, moves_in, refused_of, sum_of}
use Rattle.fc_run.specs.declared.summary.Tally.{Tally}

-- the tally of these entries
abbrev pub tally_of : List Entry → Tally
tally_of entries = record {
  reads = reads_of entries;
  writes = writes_of entries;
  moves = moves_in entries;
  refused = refused_of entries;
  sum = sum_of entries;
}

-- a tally with one entry more
abbrev pub tally_with : Tally → Entry → Tally
tally_with tally entry = record {
  reads = tally.reads + cond (gives_bytes entry.reply) 1 0;
  writes = tally.writes + cond (is_done_write entry.request entry.reply) 1 0;
  moves = tally.moves + length entry.moves;
  refused = tally.refused + cond (refuses entry.reply) 1 0;
  sum = (tally.sum + bytes_sum entry.reply) % 2 ^ 32;
}

-- the line of a tally of so many entries
abbrev pub tally_text : ℕ → Tally → List ℕ
tally_text entries tally =
    codes "entries " ++ decimal entries ++ codes " reads " ++ decimal tally.reads ++ codes " writes " ++ decimal tally.writes
    ++ codes " moves " ++ decimal tally.moves ++ codes " refused " ++ decimal tally.refused ++ codes " sum " ++ decimal tally.sum
    ++ codes "\n"
