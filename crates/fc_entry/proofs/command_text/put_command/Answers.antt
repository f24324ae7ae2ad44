use Rattle.fc_entry.proofs.CommandLines.{armfault_line, join_with_byte-spaced, list_line, mkfcmap_line, mkfcmap_parts, object_line, read_line}
use Rattle.fc_entry.proofs.PartLemmas.{Written-as, Written-parts, cut, last, next}
use Rattle.fc_entry.proofs.command_text.put_command.Goals as goal

pub returns-in-Mkvdisk : goal.returns-in-Mkvdisk
returns-in-Mkvdisk g c = rw c.in-Mkvdisk.is c.put_mkvdisk.ensures

pub returns-in-Rmvdisk : goal.returns-in-Rmvdisk
returns-in-Rmvdisk g c = rw c.in-Rmvdisk.is c.put_reference.ensures

pub returns-in-Write : goal.returns-in-Write
returns-in-Write g c = rw c.in-Write.is c.put_write.ensures

pub returns-in-Read : goal.returns-in-Read
returns-in-Read g c = rw c.in-Read.is (Written-as (read_line c.in-Read.volume c.in-Read.block c.in-Read.count) c.put_access.ensures)

pub returns-in-Armfault : goal.returns-in-Armfault
returns-in-Armfault g c = rw c.in-Armfault.is (Written-as (armfault_line c.in-Armfault.volume c.in-Armfault.grain c.in-Armfault.calls) c.put_access-in-Armfault.ensures)

pub returns-in-Advance : goal.returns-in-Advance
returns-in-Advance g c = rw c.in-Advance.is c.put_number.ensures

pub returns-in_err-put_new_mapping-in-Mkfcmap : goal.returns-in_err-put_new_mapping-in-Mkfcmap
returns-in_err-put_new_mapping-in-Mkfcmap g c =
    rw (c.from_residual.ensures.0, c.in-Mkfcmap.is)
    (
    Written-parts (mkfcmap_parts c.in-Mkfcmap.source c.in-Mkfcmap.target c.in-Mkfcmap.name c.in-Mkfcmap.group c.in-Mkfcmap.copy_rate c.in-Mkfcmap.clean_rate c.in-Mkfcmap.grain_size c.in-Mkfcmap.incremental c.in-Mkfcmap.autodelete) (mkfcmap_line c.in-Mkfcmap.source c.in-Mkfcmap.target c.in-Mkfcmap.name c.in-Mkfcmap.group c.in-Mkfcmap.copy_rate c.in-Mkfcmap.clean_rate c.in-Mkfcmap.grain_size c.in-Mkfcmap.incremental c.in-Mkfcmap.autodelete)
    (cut c.in_err-put_new_mapping-in-Mkfcmap.ensures)
    )

pub returns-in_ok-put_new_mapping-in-Mkfcmap : goal.returns-in_ok-put_new_mapping-in-Mkfcmap
returns-in_ok-put_new_mapping-in-Mkfcmap g c =
    rw c.in-Mkfcmap.is
    (
    Written-parts (mkfcmap_parts c.in-Mkfcmap.source c.in-Mkfcmap.target c.in-Mkfcmap.name c.in-Mkfcmap.group c.in-Mkfcmap.copy_rate c.in-Mkfcmap.clean_rate c.in-Mkfcmap.grain_size c.in-Mkfcmap.incremental c.in-Mkfcmap.autodelete) (mkfcmap_line c.in-Mkfcmap.source c.in-Mkfcmap.target c.in-Mkfcmap.name c.in-Mkfcmap.group c.in-Mkfcmap.copy_rate c.in-Mkfcmap.clean_rate c.in-Mkfcmap.grain_size c.in-Mkfcmap.incremental c.in-Mkfcmap.autodelete)
    (next c.in_ok-put_new_mapping-in-Mkfcmap.ensures (last c.put_mapping_options.ensures))
    )

pub returns-in-Prestartfcmap : goal.returns-in-Prestartfcmap
returns-in-Prestartfcmap g c = rw (c.in-Prestartfcmap.is, ← object_line, ← c.restore_flag.ensures) c.put_flagged.ensures

pub returns-in-Startfcmap : goal.returns-in-Startfcmap
returns-in-Startfcmap g c = rw (c.in-Startfcmap.is, ← object_line, ← c.start_flags.ensures) c.put_flagged-in-Startfcmap.ensures

pub returns-in-Stopfcmap : goal.returns-in-Stopfcmap
returns-in-Stopfcmap g c = rw (c.in-Stopfcmap.is, ← object_line, ← c.way_flag.ensures) c.put_flagged-in-Stopfcmap.ensures

pub returns-in-Rmfcmap : goal.returns-in-Rmfcmap
returns-in-Rmfcmap g c = rw (c.in-Rmfcmap.is, ← object_line, ← c.force_flag.ensures) c.put_flagged-in-Rmfcmap.ensures

pub returns-in-Mkfcconsistgrp : goal.returns-in-Mkfcconsistgrp
returns-in-Mkfcconsistgrp g c = rw c.in-Mkfcconsistgrp.is c.put_mkfcconsistgrp.ensures

pub returns-in-Prestartfcconsistgrp : goal.returns-in-Prestartfcconsistgrp
returns-in-Prestartfcconsistgrp g c = rw (c.in-Prestartfcconsistgrp.is, ← object_line, ← c.restore_flag-in-Prestartfcconsistgrp.ensures) c.put_flagged-in-Prestartfcconsistgrp.ensures

pub returns-in-Startfcconsistgrp : goal.returns-in-Startfcconsistgrp
returns-in-Startfcconsistgrp g c = rw (c.in-Startfcconsistgrp.is, ← object_line, ← c.start_flags-in-Startfcconsistgrp.ensures) c.put_flagged-in-Startfcconsistgrp.ensures

pub returns-in-Stopfcconsistgrp : goal.returns-in-Stopfcconsistgrp
returns-in-Stopfcconsistgrp g c = rw (c.in-Stopfcconsistgrp.is, ← object_line, ← c.way_flag-in-Stopfcconsistgrp.ensures) c.put_flagged-in-Stopfcconsistgrp.ensures

pub returns-in-Rmfcconsistgrp : goal.returns-in-Rmfcconsistgrp
returns-in-Rmfcconsistgrp g c = rw (c.in-Rmfcconsistgrp.is, ← object_line, ← c.force_flag-in-Rmfcconsistgrp.ensures) c.put_flagged-in-Rmfcconsistgrp.ensures

pub returns-in-Lsfcmap : goal.returns-in-Lsfcmap
returns-in-Lsfcmap g c = rw (c.in-Lsfcmap.is, ← list_line) c.put_list.ensures

pub returns-in-Lsfcconsistgrp : goal.returns-in-Lsfcconsistgrp
returns-in-Lsfcconsistgrp g c = rw (c.in-Lsfcconsistgrp.is, ← list_line) c.put_list-in-Lsfcconsistgrp.ensures

pub returns-in-Lsvdisk : goal.returns-in-Lsvdisk
returns-in-Lsvdisk g c = rw (c.in-Lsvdisk.is, join_with_byte-spaced) c.put_delimited.ensures

pub returns-in-Lsfcmapprogress : goal.returns-in-Lsfcmapprogress
returns-in-Lsfcmapprogress g c = rw (c.in-Lsfcmapprogress.is, ← object_line) c.put_report.ensures

pub returns-in-Lsfcmapdependentmaps : goal.returns-in-Lsfcmapdependentmaps
returns-in-Lsfcmapdependentmaps g c = rw (c.in-Lsfcmapdependentmaps.is, ← object_line) c.put_report-in-Lsfcmapdependentmaps.ensures

pub returns-in-Mkpreset : goal.returns-in-Mkpreset
returns-in-Mkpreset g c = rw c.in-Mkpreset.is c.put_mkpreset.ensures

pub returns-in-Lsvdiskroom : goal.returns-in-Lsvdiskroom
returns-in-Lsvdiskroom g c = rw (c.in-Lsvdiskroom.is, join_with_byte-spaced) c.put_delimited-in-Lsvdiskroom.ensures
