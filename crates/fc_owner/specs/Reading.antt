-- How a line of a session is read: by the grammar, outside of blocks.
use Rattle.fc_base.specs.declared.command.Scope.TheVariants.{Free}
use Rattle.fc_legal.specs.Agenda.{Reading}
use Rattle.fc_words.specs.Lines.{line_of}

-- The books don't matter to it.
unfoldable pub reading : Reading
reading books line = line_of Free line
