-- The law of decisions: every command, and the settling.
use Rattle.std.proofs.Common.{◌≡◌, ℕ, ◌<◌, ◌^◌, List, Option, None}
use Rattle.fc_base.specs.declared.command.Command.{Command}
use Rattle.fc_base.specs.declared.command.Command.TheVariants.{Mkvdisk, Rmvdisk, Armfault, Mkfcmap, Prestartfcmap, Startfcmap, Stopfcmap, Rmfcmap, Mkfcconsistgrp, Prestartfcconsistgrp, Startfcconsistgrp, Stopfcconsistgrp, Rmfcconsistgrp}
use Rattle.fc_base.specs.declared.ids.VolId.{VolId}
use Rattle.fc_base.specs.declared.size.GrainSize.{GrainSize}
use Rattle.fc_books.specs.Deciding.{refused, done, IsLoopOf}
use Rattle.fc_legal.specs.Lawful.{IsLawful}
use Rattle.fc_legal.specs.Stands.{Stands}
use Rattle.fc_legal.specs.Steps.{decided_on}
use Rattle.fc_legal.specs.Whole.{Whole}
use Rattle.fc_decided.specs.Law.{AreSettled, DecisionLaw}
use Rattle.fc_decided.proofs.Commands.{Goes, mkvdisk_goes, rmvdisk_goes, armfault_goes, mkfcmap_goes, rmfcmap_goes, mkfcconsistgrp_goes, rmfcconsistgrp_goes, prestartfcmap_goes, prestartfcconsistgrp_goes, startfcmap_goes, startfcconsistgrp_goes, answered_lawful, no_loop_told}
use Rattle.fc_decided.proofs.Frame.{Suits}
use Rattle.fc_decided.proofs.GroupStops.{stop_group_suits}
use Rattle.fc_decided.proofs.Resting.{nothing_suits}
use Rattle.fc_decided.proofs.Settled.{settle_settles}
use Rattle.fc_decided.proofs.Settled.{settle_lawful}
use Rattle.fc_decided.proofs.Suiting.{stop_suits}

suits : (grain : GrainSize) (decisions : ℕ) (w : Whole) (small : decisions < 2 ^ 32) (st : Stands decisions w) → AreSettled w.books →
    (command : Command) (loop : Option (List VolId)) → IsLoopOf grain w.books command loop → refused grain w.books command ≡ None → loop ≡ None → Suits grain decisions w (done grain w.books command)
unfolding Goes
suits grain decisions w small st settled (Mkvdisk name size unit thin) loop told e f = mkvdisk_goes grain decisions w small st name size unit thin e
suits grain decisions w small st settled (Rmvdisk volume) loop told e f = rmvdisk_goes grain decisions w small st volume settled e
suits grain decisions w small st settled (Armfault volume number calls) loop told e f = armfault_goes grain decisions w small st volume number calls e
suits grain decisions w small st settled (Mkfcmap source target name group copy_rate clean_rate grain_size incremental autodelete) loop told e f = mkfcmap_goes grain decisions w small st source target name group copy_rate clean_rate grain_size incremental autodelete e
suits grain decisions w small st settled (Prestartfcmap m restore) loop told e f = prestartfcmap_goes grain decisions w small st m restore e
suits grain decisions w small st settled (Startfcmap m prep restore) loop told e f =
    startfcmap_goes grain decisions w small st m prep restore (no_loop_told grain decisions w small st (Startfcmap m prep restore) (refused grain w.books (Startfcmap m prep restore)) loop told e f) e
suits grain decisions w small st settled (Stopfcmap m way) loop told e f = stop_suits grain decisions w m way small st e
suits grain decisions w small st settled (Rmfcmap m force) loop told e f = rmfcmap_goes grain decisions w small st m force e
suits grain decisions w small st settled (Mkfcconsistgrp name) loop told e f = mkfcconsistgrp_goes grain decisions w small st name e
suits grain decisions w small st settled (Prestartfcconsistgrp group restore) loop told e f = prestartfcconsistgrp_goes grain decisions w small st group restore e
suits grain decisions w small st settled (Startfcconsistgrp group prep restore) loop told e f =
    startfcconsistgrp_goes grain decisions w small st group prep restore (no_loop_told grain decisions w small st (Startfcconsistgrp group prep restore) (refused grain w.books (Startfcconsistgrp group prep restore)) loop told e f) e
suits grain decisions w small st settled (Stopfcconsistgrp group way) loop told e f = stop_group_suits grain decisions w group way small st e
suits grain decisions w small st settled (Rmfcconsistgrp group force) loop told e f = rmfcconsistgrp_goes grain decisions w small st group force e
suits grain decisions w small st settled command loop told e f = nothing_suits grain decisions w small st

-- Every decision on a command.
decided_lawful : (grain : GrainSize) (decisions : ℕ) (w : Whole) (command : Command) (loop : Option (List VolId)) → decisions < 2 ^ 32 → Stands decisions w → AreSettled w.books → IsLoopOf grain w.books command loop → IsLawful grain decisions w (decided_on grain w command loop)
decided_lawful grain decisions w command loop small st settled told =
    answered_lawful grain decisions w small st command (refused grain w.books command) loop (λ e f. suits grain decisions w small st settled command loop told e f)

pub decision_law_holds : DecisionLaw
decision_law_holds = record { settled = settle_lawful; settles = settle_settles; decided = decided_lawful }
