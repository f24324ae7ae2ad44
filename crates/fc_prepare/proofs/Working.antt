-- What actors with lines ask.
use Rattle.std.proofs.Common.{◌≡◌, ℕ, true, List, flat_map, refl, sym, true≢false}
use Rattle.fc_base.specs.declared.command.Role.{Role}
use Rattle.fc_base.specs.declared.command.Role.TheVariants.{Host, Admin, Copier, Cleaner}
use Rattle.fc_base.specs.declared.command.ScriptLine.{ScriptLine}
use Rattle.fc_base.specs.declared.size.GrainSize.{GrainSize}
use Rattle.fc_blocks.specs.Blocks.{has_lines}
use Rattle.fc_books.specs.Books.{Books}
use Rattle.fc_legal.specs.Scripts.{asked_as, line_asked}

pub asked_lines : (role : Role) (grain : GrainSize) (lanes : ℕ) (b : Books) (lines : List ScriptLine) → has_lines role ≡ true → flat_map (line_asked grain b) lines ≡ asked_as role grain lanes b lines
asked_lines Host grain lanes b lines has = refl
asked_lines Admin grain lanes b lines has = refl
asked_lines (Copier turns) grain lanes b lines has = absurd (true≢false (sym has))
asked_lines (Cleaner turns) grain lanes b lines has = absurd (true≢false (sym has))
