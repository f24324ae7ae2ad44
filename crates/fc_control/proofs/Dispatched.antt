-- A command that starts nothing asks for no loop of restores.
use Rattle.std.proofs.Common.{◌≡◌, ℕ, Bool, false, List, Option, Some, None, refl}
use Rattle.fc_base.specs.declared.command.Command.{Command}
use Rattle.fc_base.specs.declared.command.Command.TheVariants.{Mkvdisk, Rmvdisk, Write, Read, Armfault, Advance, Mkfcmap, Prestartfcmap, Startfcmap, Stopfcmap, Rmfcmap, Mkfcconsistgrp, Prestartfcconsistgrp, Startfcconsistgrp, Stopfcconsistgrp, Rmfcconsistgrp, Lsfcmap, Lsfcconsistgrp, Lsvdisk, Lsfcmapprogress, Lsfcmapdependentmaps, Mkpreset, Lsvdiskroom}
use Rattle.fc_base.specs.declared.decision.Decision.{Decision}
use Rattle.fc_base.specs.declared.fault.Refusal.{Refusal}
use Rattle.fc_base.specs.declared.size.GrainSize.{GrainSize}
use Rattle.fc_books.specs.Books.{Books}
use Rattle.fc_books.specs.Deciding.{decide, refused, IsLoopOf, LoopTold}
use Rattle.fc_starts.proofs.Looped.{Answers}
use Rattle.fc_control.specs.Dispatch.{is_start}

told_none : (o : Option Refusal) (b : Books) (command : Command) → is_start command ≡ false → LoopTold o b command None
told_none (Some refusal) b command unlooped = refl
told_none None b (Mkvdisk name size unit thin) unlooped = refl
told_none None b (Rmvdisk volume) unlooped = refl
told_none None b (Write volume block count byte) unlooped = refl
told_none None b (Read volume block count) unlooped = refl
told_none None b (Armfault volume number calls) unlooped = refl
told_none None b (Advance seconds) unlooped = refl
told_none None b (Mkfcmap source target name group copy_rate clean_rate grain_size incremental autodelete) unlooped = refl
told_none None b (Prestartfcmap m restore) unlooped = refl
told_none None b (Startfcmap m prep restore) unlooped = absurd cc
told_none None b (Stopfcmap m way) unlooped = refl
told_none None b (Rmfcmap m force) unlooped = refl
told_none None b (Mkfcconsistgrp name) unlooped = refl
told_none None b (Prestartfcconsistgrp group restore) unlooped = refl
told_none None b (Startfcconsistgrp group prep restore) unlooped = absurd cc
told_none None b (Stopfcconsistgrp group way) unlooped = refl
told_none None b (Rmfcconsistgrp group force) unlooped = refl
told_none None b (Lsfcmap m delim) unlooped = refl
told_none None b (Lsfcconsistgrp group delim) unlooped = refl
told_none None b (Lsvdisk delim) unlooped = refl
told_none None b (Lsfcmapprogress m delim) unlooped = refl
told_none None b (Lsfcmapdependentmaps m delim) unlooped = refl
told_none None b (Mkpreset source preset name) unlooped = refl
told_none None b (Lsvdiskroom delim) unlooped = refl

pub unlooped_is_none : (grain : GrainSize) (b : Books) (command : Command) → is_start command ≡ false → IsLoopOf grain b command None
unlooped_is_none grain b command unlooped = told_none (refused grain b command) b command unlooped

pub answers_unlooped : (restarts : ℕ → List Bool) (grain : GrainSize) (b : Books) (command : Command) (decision : Decision) → is_start command ≡ false → decision ≡ decide restarts grain b command None → Answers restarts grain b command decision
answers_unlooped restarts grain b command decision unlooped decision_is = (None, unlooped_is_none grain b command unlooped, decision_is)
