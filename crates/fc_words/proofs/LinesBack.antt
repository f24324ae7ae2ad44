-- Each canonical line reads back.
use Rattle.std.proofs.Common.{◌≡◌, ℕ, ◌≤◌, true, false, List, ◌∷◌, length, Some, Ok, codes, refl, subst, arith, append_assoc, append-nil}
use Rattle.std.specs.List.{list_all, join_with_byte}
use Rattle.std.proofs.lemmas.Bool.{le-ltb}
use Rattle.fc_base.specs.CommandText.{command_text, command_words}
use Rattle.fc_base.specs.declared.command.Command.{Command}
use Rattle.fc_base.specs.declared.command.Command.TheVariants.{Mkvdisk, Rmvdisk, Write, Read, Armfault, Advance, Mkfcmap, Prestartfcmap, Startfcmap, Stopfcmap, Rmfcmap, Mkfcconsistgrp, Prestartfcconsistgrp, Startfcconsistgrp, Stopfcconsistgrp, Rmfcconsistgrp, Lsfcmap, Lsfcconsistgrp, Lsvdisk, Lsfcmapprogress, Lsfcmapdependentmaps, Mkpreset, Lsvdiskroom}
use Rattle.fc_base.specs.declared.command.Line.TheVariants.{Command as OfCommand}
use Rattle.fc_base.specs.declared.command.Scope.TheVariants.{Free}
use Rattle.fc_words.specs.declared.grammar.Flag.TheVariants.{Thin, Incremental, Autodelete, Restore, Force}
use Rattle.fc_words.specs.declared.grammar.Operand.TheVariants.{Block, Count, Byte, Grain, Calls}
use Rattle.fc_words.specs.declared.grammar.Setting.TheVariants.{Name, Size, Unit as SizeUnit, Source, Target, Group, CopyRate, CleanRate, GrainSize, Seconds, Preset}
use Rattle.fc_words.specs.declared.grammar.Verb.{Verb}
use Rattle.fc_words.specs.declared.grammar.Verb.TheVariants.{MakeVolume, RemoveVolume, WriteBlocks, ReadBlocks, ArmFault, PassTime, MakeMapping, PrepareMapping, StartMapping, StopMapping, RemoveMapping, MakeGroup, PrepareGroup, StartGroup, StopGroup, RemoveGroup, ListMappings, ListGroups, ListVolumes, ShowProgress, ListDependents, MakeCopy, ListRoom}
use Rattle.fc_words.specs.Canonical.{IsCommand}
use Rattle.fc_words.specs.Given.{no_settings, no_flags, no_operands}
use Rattle.fc_words.specs.Grammar.{verb_of, family_of, scope_has}
use Rattle.fc_words.specs.Lines.{begins_with, is_prefix, line_of}
use Rattle.fc_words.proofs.JoinLemmas.{is_word, words_of-join, length-join}
use Rattle.fc_words.proofs.OptionsBack.{always, byte_values, grain_sizes, names, numbers, objects, presets, units, stop_way-flags, Reads-option, Reads-given, Reads-taken, Reads-number, Reads-object, Reads-last, Reads-maybe, Reads-delim, Reads-flagged, Reads-start, Reads-stop}
use Rattle.fc_words.proofs.ReadsBack.{Reads, Reads-end, Reads-raised}
use Rattle.fc_words.proofs.ValueLemmas.{begins_with-byte}

-- a line of these words makes the command, where the words behind the first do
line_back : (verb : Verb) (first : List ℕ) (command : Command) {words : List (List ℕ)} {most : ℕ} →
    first ∷ words ≡ command_words command →
    is_word first ≡ true →
    begins_with 35 first ≡ false →
    is_prefix first ≡ false →
    verb_of first ≡ Some verb →
    scope_has Free (family_of verb) ≡ true →
    most ≤ 60 →
    Reads verb no_settings no_flags no_operands words most command →
    line_of Free (command_text command) ≡ Ok (OfCommand command)
line_back verb first command {words} {most} same word no_comment no_prefix named here few reads =
    let all : list_all is_word (first ∷ words) ≡ true = rw word reads.all in
    let fits : length (join_with_byte 32 (first ∷ words)) ≤ 4096 =
    let count = reads.few in omega (arith, length-join (first ∷ words) all) in
    let Line : List (List ℕ) → Type 0 = λ ws. line_of Free (join_with_byte 32 ws) ≡ Ok (OfCommand command) in
    subst Line same (rw (le-ltb 4096 (length (join_with_byte 32 (first ∷ words))) fits, words_of-join (first ∷ words) all, no_comment, no_prefix, named, here) (reads.reads 2))

-- reading the canonical line of a command gives the command
pub reads_back : (command : Command) → IsCommand command → line_of Free (command_text command) ≡ Ok (OfCommand command)
reads_back (Mkvdisk name size unit thin) good =
    line_back MakeVolume (codes "mkvdisk") (Mkvdisk name size unit thin) (simp (append_assoc, append-nil)) refl refl refl refl refl (omega arith)
    (Reads-given names MakeVolume Name (λ v. record no_settings { name = v }) name refl refl refl refl (λ at w. refl) good.0
    (Reads-option numbers MakeVolume Size (λ v. record no_settings { name = name; size = v }) size refl refl refl refl (λ at w. refl) good.1
    (Reads-given units MakeVolume SizeUnit (λ v. record no_settings { name = name; size = Some size; unit = v }) unit refl refl refl refl (λ at w. refl) (always unit)
    (Reads-raised MakeVolume Thin (λ v. record no_flags { thin = v }) thin refl refl refl refl refl
    (Reads-end MakeVolume (record no_settings { name = name; size = Some size; unit = unit }) (record no_flags { thin = thin }) no_operands _ (λ at. refl))))))
reads_back (Rmvdisk volume) good =
    line_back RemoveVolume (codes "rmvdisk") (Rmvdisk volume) refl refl refl refl refl refl (omega arith)
    (Reads-last RemoveVolume volume refl good (λ at. refl))
reads_back (Write volume block count byte) good =
    line_back WriteBlocks (codes "write") (Write volume block count byte) refl refl refl refl refl refl (omega arith) (Reads-object WriteBlocks volume refl good.0
    (Reads-number WriteBlocks Block (λ v. record no_operands { object = Some volume; block = v }) block refl (λ at w. refl) good.1
    (Reads-number WriteBlocks Count (λ v. record no_operands { object = Some volume; block = Some block; count = v }) count refl (λ at w. refl) good.2
    (Reads-taken byte_values WriteBlocks Byte (λ v. record no_operands { object = Some volume; block = Some block; count = Some count; byte = v }) byte (begins_with-byte byte good.3) refl (λ at w. refl) good.3
    (Reads-end WriteBlocks no_settings no_flags (record no_operands { object = Some volume; block = Some block; count = Some count; byte = Some byte }) _ (λ at. refl))))))
reads_back (Read volume block count) good =
    line_back ReadBlocks (codes "read") (Read volume block count) refl refl refl refl refl refl (omega arith) (Reads-object ReadBlocks volume refl good.0
    (Reads-number ReadBlocks Block (λ v. record no_operands { object = Some volume; block = v }) block refl (λ at w. refl) good.1
    (Reads-number ReadBlocks Count (λ v. record no_operands { object = Some volume; block = Some block; count = v }) count refl (λ at w. refl) good.2
    (Reads-end ReadBlocks no_settings no_flags (record no_operands { object = Some volume; block = Some block; count = Some count }) _ (λ at. refl)))))
reads_back (Armfault volume grain calls) good =
    line_back ArmFault (codes "armfault") (Armfault volume grain calls) refl refl refl refl refl refl (omega arith) (Reads-object ArmFault volume refl good.0
    (Reads-number ArmFault Grain (λ v. record no_operands { object = Some volume; grain = v }) grain refl (λ at w. refl) good.1
    (Reads-number ArmFault Calls (λ v. record no_operands { object = Some volume; grain = Some grain; calls = v }) calls refl (λ at w. refl) good.2
    (Reads-end ArmFault no_settings no_flags (record no_operands { object = Some volume; grain = Some grain; calls = Some calls }) _ (λ at. refl)))))
reads_back (Advance seconds) good =
    line_back PassTime (codes "advance") (Advance seconds) (simp append-nil) refl refl refl refl refl (omega arith)
    (Reads-option numbers PassTime Seconds (λ v. record no_settings { seconds = v }) seconds refl refl refl refl (λ at w. refl) good
    (Reads-end PassTime (record no_settings { seconds = Some seconds }) no_flags no_operands _ (λ at. refl)))
reads_back (Mkfcmap source target name group copy_rate clean_rate grain_size incremental autodelete) good =
    line_back MakeMapping (codes "mkfcmap") (Mkfcmap source target name group copy_rate clean_rate grain_size incremental autodelete) (simp (append_assoc, append-nil)) refl refl refl refl refl (omega arith)
    (Reads-option objects MakeMapping Source (λ v. record no_settings { source = v }) source refl refl refl refl (λ at w. refl) good.0
    (Reads-option objects MakeMapping Target (λ v. record no_settings { source = Some source; target = v }) target refl refl refl refl (λ at w. refl) good.1
    (Reads-given names MakeMapping Name (λ v. record no_settings { source = Some source; target = Some target; name = v }) name refl refl refl refl (λ at w. refl) good.2
    (Reads-given objects MakeMapping Group (λ v. record no_settings { source = Some source; target = Some target; name = name; group = v }) group refl refl refl refl (λ at w. refl) good.3
    (Reads-given numbers MakeMapping CopyRate (λ v. record no_settings { source = Some source; target = Some target; name = name; group = group; copy_rate = v }) copy_rate refl refl refl refl (λ at w. refl) good.4
    (Reads-given numbers MakeMapping CleanRate (λ v. record no_settings { source = Some source; target = Some target; name = name; group = group; copy_rate = copy_rate; clean_rate = v }) clean_rate refl refl refl refl (λ at w. refl) good.5
    (Reads-given grain_sizes MakeMapping GrainSize (λ v. record no_settings { source = Some source; target = Some target; name = name; group = group; copy_rate = copy_rate; clean_rate = clean_rate; grain_size = v }) grain_size refl refl refl refl (λ at w. refl) (always grain_size)
    (Reads-raised MakeMapping Incremental (λ v. record no_flags { incremental = v }) incremental refl refl refl refl refl
    (Reads-raised MakeMapping Autodelete (λ v. record no_flags { incremental = incremental; autodelete = v }) autodelete refl refl refl refl refl
    (Reads-end MakeMapping (record no_settings { source = Some source; target = Some target; name = name; group = group; copy_rate = copy_rate; clean_rate = clean_rate; grain_size = grain_size }) (record no_flags { incremental = incremental; autodelete = autodelete }) no_operands _ (λ at. refl)))))))))))
reads_back (Prestartfcmap map restore) good =
    line_back PrepareMapping (codes "prestartfcmap") (Prestartfcmap map restore) refl refl refl refl refl refl (omega arith)
    (Reads-flagged PrepareMapping Restore (λ v. record no_flags { restore = v }) restore map refl refl refl refl refl refl good (λ at. refl))
reads_back (Prestartfcconsistgrp group restore) good =
    line_back PrepareGroup (codes "prestartfcconsistgrp") (Prestartfcconsistgrp group restore) refl refl refl refl refl refl (omega arith)
    (Reads-flagged PrepareGroup Restore (λ v. record no_flags { restore = v }) restore group refl refl refl refl refl refl good (λ at. refl))
reads_back (Startfcmap map prep restore) good =
    line_back StartMapping (codes "startfcmap") (Startfcmap map prep restore) (simp append_assoc) refl refl refl refl refl (omega arith)
    (Reads-start StartMapping prep restore map refl refl refl good (λ at. refl))
reads_back (Startfcconsistgrp group prep restore) good =
    line_back StartGroup (codes "startfcconsistgrp") (Startfcconsistgrp group prep restore) (simp append_assoc) refl refl refl refl refl (omega arith)
    (Reads-start StartGroup prep restore group refl refl refl good (λ at. refl))
reads_back (Stopfcmap map way) good =
    line_back StopMapping (codes "stopfcmap") (Stopfcmap map way) refl refl refl refl refl refl (omega arith)
    (Reads-stop StopMapping way map refl refl refl good (λ at. rw (stop_way-flags way) refl))
reads_back (Stopfcconsistgrp group way) good =
    line_back StopGroup (codes "stopfcconsistgrp") (Stopfcconsistgrp group way) refl refl refl refl refl refl (omega arith)
    (Reads-stop StopGroup way group refl refl refl good (λ at. rw (stop_way-flags way) refl))
reads_back (Rmfcmap map force) good =
    line_back RemoveMapping (codes "rmfcmap") (Rmfcmap map force) refl refl refl refl refl refl (omega arith)
    (Reads-flagged RemoveMapping Force (λ v. record no_flags { force = v }) force map refl refl refl refl refl refl good (λ at. refl))
reads_back (Rmfcconsistgrp group force) good =
    line_back RemoveGroup (codes "rmfcconsistgrp") (Rmfcconsistgrp group force) refl refl refl refl refl refl (omega arith)
    (Reads-flagged RemoveGroup Force (λ v. record no_flags { force = v }) force group refl refl refl refl refl refl good (λ at. refl))
reads_back (Mkfcconsistgrp name) good =
    line_back MakeGroup (codes "mkfcconsistgrp") (Mkfcconsistgrp name) (simp append-nil) refl refl refl refl refl (omega arith)
    (Reads-given names MakeGroup Name (λ v. record no_settings { name = v }) name refl refl refl refl (λ at w. refl) good
    (Reads-end MakeGroup (record no_settings { name = name }) no_flags no_operands _ (λ at. refl)))
reads_back (Lsfcmap map delim) good =
    line_back ListMappings (codes "lsfcmap") (Lsfcmap map delim) refl refl refl refl refl refl (omega arith)
    (Reads-delim ListMappings delim refl good.1 (Reads-maybe ListMappings map refl good.0 (λ at. refl)))
reads_back (Lsfcconsistgrp group delim) good =
    line_back ListGroups (codes "lsfcconsistgrp") (Lsfcconsistgrp group delim) refl refl refl refl refl refl (omega arith)
    (Reads-delim ListGroups delim refl good.1 (Reads-maybe ListGroups group refl good.0 (λ at. refl)))
reads_back (Lsvdisk delim) good =
    line_back ListVolumes (codes "lsvdisk") (Lsvdisk delim) (simp append-nil) refl refl refl refl refl (omega arith)
    (Reads-delim ListVolumes delim refl good (Reads-end ListVolumes (record no_settings { delim = delim }) no_flags no_operands _ (λ at. refl)))
reads_back (Lsfcmapprogress map delim) good =
    line_back ShowProgress (codes "lsfcmapprogress") (Lsfcmapprogress map delim) refl refl refl refl refl refl (omega arith)
    (Reads-delim ShowProgress delim refl good.1 (Reads-last ShowProgress map refl good.0 (λ at. refl)))
reads_back (Lsfcmapdependentmaps map delim) good =
    line_back ListDependents (codes "lsfcmapdependentmaps") (Lsfcmapdependentmaps map delim) refl refl refl refl refl refl (omega arith)
    (Reads-delim ListDependents delim refl good.1 (Reads-last ListDependents map refl good.0 (λ at. refl)))
reads_back (Mkpreset source preset name) good =
    line_back MakeCopy (codes "mkpreset") (Mkpreset source preset name) (simp (append_assoc, append-nil)) refl refl refl refl refl (omega arith)
    (Reads-option objects MakeCopy Source (λ v. record no_settings { source = v }) source refl refl refl refl (λ at w. refl) good.0
    (Reads-option presets MakeCopy Preset (λ v. record no_settings { source = Some source; preset = v }) preset refl refl refl refl (λ at w. refl) tt
    (Reads-given names MakeCopy Name (λ v. record no_settings { source = Some source; preset = Some preset; name = v }) name refl refl refl refl (λ at w. refl) good.1
    (Reads-end MakeCopy (record no_settings { source = Some source; preset = Some preset; name = name }) no_flags no_operands _ (λ at. refl)))))
reads_back (Lsvdiskroom delim) good =
    line_back ListRoom (codes "lsvdiskroom") (Lsvdiskroom delim) (simp append-nil) refl refl refl refl refl (omega arith)
    (Reads-delim ListRoom delim refl good (Reads-end ListRoom (record no_settings { delim = delim }) no_flags no_operands _ (λ at. refl)))
