-- The lines of a block's actors.
use Rattle.std.proofs.Common.{◌≡◌, ◌≢◌, ℕ, false, List, All, Contains, Result, Ok, Err, refl, sym, ap, subst, true≢false}
use Rattle.std.proofs.lemmas.List.Elements.{All-weaker}
use Rattle.fc_base.specs.declared.command.Command.{Command}
use Rattle.fc_base.specs.declared.command.Command.TheVariants.{Armfault}
use Rattle.fc_base.specs.declared.command.Line.{Line}
use Rattle.fc_base.specs.declared.command.Line.TheVariants.{Blank, Command as CommandLine, Together, Actor, End}
use Rattle.fc_base.specs.declared.command.Role.{Role}
use Rattle.fc_base.specs.declared.command.Role.TheVariants.{Host, Admin, Copier, Cleaner}
use Rattle.fc_base.specs.declared.command.Scope.TheVariants.{Free}
use Rattle.fc_base.specs.declared.command.ScriptLine.{ScriptLine}
use Rattle.fc_base.specs.declared.fault.WordFault.{WordFault}
use Rattle.fc_blocks.specs.Blocks.{scope_under}
use Rattle.fc_blocks.specs.Reading.{script_line}
use Rattle.fc_blocks.specs.Segments.{together, cut}
use Rattle.fc_blocks.specs.declared.block.ActorRead.{ActorRead}
use Rattle.fc_blocks.specs.declared.block.BlockRead.{BlockRead}
use Rattle.fc_words.specs.Grammar.{scope_has}
use Rattle.fc_words.specs.Lines.{line_of}
use Rattle.fc_words.specs.declared.grammar.Family.TheVariants.{Storage}
use Rattle.law_blocks.specs.Law.{IsActor, IsReadUnder}
use Rattle.law_blocks.proofs.Actors.{blocks_law_holds}
use Rattle.law_volumes.proofs.Lines.{LineInside, command_spares, line_inside, stands_outside}
use Rattle.fc_prepare.specs.Items.{IsOfActor, arms_fault}

under_inside : (role : Role) → scope_under role ≢ Free
under_inside Host e = true≢false (sym (ap (λ scope. scope_has scope Storage) e))
under_inside Admin e = true≢false (sym (ap (λ scope. scope_has scope Storage) e))
under_inside (Copier turns) e = true≢false (sym (ap (λ scope. scope_has scope Storage) e))
under_inside (Cleaner turns) e = true≢false (sym (ap (λ scope. scope_has scope Storage) e))

arms_none : (command : Command) → stands_outside command ≡ false → arms_fault command ≡ false
arms_none (Armfault volume grain calls) is = is
arms_none command is = refl

of_actor : (r : Result Line WordFault) → LineInside r → IsOfActor (script_line r)
of_actor (Ok (CommandLine command)) inside = (command_spares command inside, arms_none command inside)
of_actor (Ok Blank) inside = tt
of_actor (Ok Together) inside = tt
of_actor (Ok (Actor name role)) inside = tt
of_actor (Ok End) inside = tt
of_actor (Err fault) inside = tt

under : (role : Role) (line : ScriptLine) → IsReadUnder role line → IsOfActor line
under role line read =
    subst IsOfActor (sym read.1) (of_actor (line_of (scope_under role) read.0) (line_inside (scope_under role) (under_inside role) read.0))

pub of_actors : (lines : List (List ℕ)) (block : BlockRead) → Contains (cut lines).segments (together block) → All (λ (a : ActorRead). All IsOfActor a.lines) block.actors
of_actors lines block there =
    All-weaker IsActor (λ (a : ActorRead). All IsOfActor a.lines) (λ a is. All-weaker (IsReadUnder a.role) IsOfActor (under a.role) a.lines is.read) block.actors (blocks_law_holds lines block there).each
