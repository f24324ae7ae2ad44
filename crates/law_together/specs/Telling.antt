-- What `main` is told of a block, and the scripts of the actors that begin then.
use Rattle.std.specs.Prelude.{◌≡◌, List, [], ◌∷◌, ◌++◌, map, All}
use Rattle.fc_base.specs.declared.fault.WordFault.{WordFault}
use Rattle.fc_base.specs.declared.request.Request.{Request}
use Rattle.fc_base.specs.declared.size.GrainSize.{GrainSize}
use Rattle.fc_blocks.specs.Segments.{together}
use Rattle.fc_blocks.specs.declared.block.BlockRead.{BlockRead}
use Rattle.fc_entry.specs.declared.entry.Entry.{Entry}
use Rattle.fc_legal.specs.Agenda.{Agenda, Session, with_names}
use Rattle.fc_legal.specs.Legal.{AreSteps}
use Rattle.fc_legal.specs.Scripts.{Script, faults_asked, scripts_of}
use Rattle.fc_legal.specs.Whole.{Whole, lanes}

-- All is asked by `main`: the first of a block's faults; and these requests are left.
pub record AreTold (grain : GrainSize) (w : Whole) (faults : List WordFault) (entries : List Entry) (left : List Request) (last : Whole) : Type 0 where
  pub by_main : All (λ (e : Entry). e.actor ≡ 0) entries
  pub asked : map (λ (e : Entry). e.request) entries ++ left ≡ faults_asked faults
  pub steps : AreSteps grain w entries last

-- This block alone.
abbrev pub block_alone : BlockRead → Agenda
block_alone block = Session (together block ∷ [])

-- What is told when the names of its actors have come, and their scripts then.
abbrev pub named : Whole → BlockRead → Whole
named w block = with_names w block.actors

abbrev pub scripts_then : GrainSize → Whole → BlockRead → List Script
scripts_then grain w block =
    let v = named w block in
    scripts_of grain (lanes v) v.books v.actors block.actors
