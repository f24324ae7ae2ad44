-- A legal history tells how many entries it has, of the lanes and actors that it began with.
use Rattle.std.proofs.Common.{◌≡◌, ℕ, ◌+◌, List, [], ◌∷◌, ◌++◌, length, Option, Some, None, refl, ◌∙◌, ap, arith}
use Rattle.std.proofs.lemmas.List.{length-set}
use Rattle.fc_base.specs.declared.command.Command.{Command}
use Rattle.fc_base.specs.declared.command.Command.TheVariants.{Mkvdisk, Rmvdisk, Write as WriteLine, Read as ReadLine, Armfault, Advance, Mkfcmap, Prestartfcmap, Startfcmap, Stopfcmap, Rmfcmap, Mkfcconsistgrp, Prestartfcconsistgrp, Startfcconsistgrp, Stopfcconsistgrp, Rmfcconsistgrp, Lsfcmap, Lsfcconsistgrp, Lsvdisk, Lsfcmapprogress, Lsfcmapdependentmaps, Mkpreset, Lsvdiskroom}
use Rattle.fc_base.specs.declared.fault.Refusal.{Refusal}
use Rattle.fc_base.specs.declared.request.Effect.{Effect}
use Rattle.fc_base.specs.declared.request.Reply.{Reply}
use Rattle.fc_base.specs.declared.request.Request.{Request}
use Rattle.fc_base.specs.declared.request.Request.TheVariants.{Command as Asked, Unread, Read, Write, Copy, Clean, CopyTurn, CleanTurn}
use Rattle.fc_base.specs.declared.size.GrainSize.{GrainSize}
use Rattle.fc_books.specs.Refused.{access_refused, preset_refused}
use Rattle.fc_entry.specs.Picture.{grain_of_block}
use Rattle.fc_entry.specs.declared.entry.Entry.{Entry}
use Rattle.fc_legal.specs.Legal.{AreSteps, IsLegal}
use Rattle.fc_legal.specs.Steps.{RequestStep, CommandIsRight, CommandStep, CommandLeft, MustBeRefused, LaneStep}
use Rattle.fc_legal.specs.Steps.CommandLeft.{decided, unsettled, settled_alone}
use Rattle.fc_legal.specs.Whole.{Whole, lanes, lane_of_grain}

-- So many entries more, of as many lanes and the same actors.
pub record Keeps (more : ℕ) (w next : Whole) : Type 0 where
  pub entries : next.entries ≡ w.entries + more
  pub lanes_are : lanes next ≡ lanes w
  pub actors : next.actors ≡ w.actors

refused_keeps :
    (refusal : Option Refusal) (w : Whole) (entry : Entry) (next : Whole) →
    MustBeRefused refusal w entry next →
    Keeps 1 w next
refused_keeps None w entry next step = absurd step
refused_keeps (Some refusal) w entry next step = record {
  entries = ap (λ (x : Whole). x.entries) step.next_is;
  lanes_are = ap lanes step.next_is;
  actors = ap (λ (x : Whole). x.actors) step.next_is;
}

left_keeps :
    (grain : GrainSize) (w : Whole) (command : Command) (reply : Reply) (effects : List Effect) (left : Whole) →
    CommandLeft grain w command reply effects left →
    Keeps 0 w left
left_keeps grain w command reply effects left (decided loop told) = record { entries = omega arith; lanes_are = refl; actors = refl }
left_keeps grain w command reply effects left unsettled = record { entries = omega arith; lanes_are = refl; actors = refl }
left_keeps grain w command reply effects left settled_alone = record { entries = omega arith; lanes_are = refl; actors = refl }

decided_keeps :
    (grain : GrainSize) (w : Whole) (command : Command) (entry : Entry) (next : Whole) →
    CommandStep grain w command entry next →
    Keeps 1 w next
decided_keeps grain w command entry next step =
    let left : Keeps 0 w step.left = left_keeps grain w command entry.reply entry.effects step.left step.leaves in
    record {
      entries = omega (arith, ap (λ (x : Whole). x.entries) step.next_is, left.entries);
      lanes_are = ap lanes step.next_is ∙ left.lanes_are;
      actors = ap (λ (x : Whole). x.actors) step.next_is ∙ left.actors;
    }

command_keeps :
    (grain : GrainSize) (w : Whole) (command : Command) (entry : Entry) (next : Whole) →
    CommandIsRight grain w command entry next →
    Keeps 1 w next
command_keeps grain w (ReadLine volume block count) entry next step =
    refused_keeps (access_refused grain w.books volume block count) w entry next step
command_keeps grain w (WriteLine volume block count byte) entry next step =
    refused_keeps (access_refused grain w.books volume block count) w entry next step
command_keeps grain w (Mkpreset source preset name) entry next step = refused_keeps (preset_refused w.books source) w entry next step
command_keeps grain w (Mkvdisk name size unit thin) entry next step = decided_keeps grain w (Mkvdisk name size unit thin) entry next step
command_keeps grain w (Rmvdisk volume) entry next step = decided_keeps grain w (Rmvdisk volume) entry next step
command_keeps grain w (Armfault volume number calls) entry next step = decided_keeps grain w (Armfault volume number calls) entry next step
command_keeps grain w (Advance seconds) entry next step = decided_keeps grain w (Advance seconds) entry next step
command_keeps grain w (Mkfcmap source target name group copy_rate clean_rate grain_size incremental autodelete) entry next step =
    decided_keeps grain w (Mkfcmap source target name group copy_rate clean_rate grain_size incremental autodelete) entry next step
command_keeps grain w (Prestartfcmap m restore) entry next step = decided_keeps grain w (Prestartfcmap m restore) entry next step
command_keeps grain w (Startfcmap m prep restore) entry next step = decided_keeps grain w (Startfcmap m prep restore) entry next step
command_keeps grain w (Stopfcmap m way) entry next step = decided_keeps grain w (Stopfcmap m way) entry next step
command_keeps grain w (Rmfcmap m force) entry next step = decided_keeps grain w (Rmfcmap m force) entry next step
command_keeps grain w (Mkfcconsistgrp name) entry next step = decided_keeps grain w (Mkfcconsistgrp name) entry next step
command_keeps grain w (Prestartfcconsistgrp group restore) entry next step = decided_keeps grain w (Prestartfcconsistgrp group restore) entry next step
command_keeps grain w (Startfcconsistgrp group prep restore) entry next step = decided_keeps grain w (Startfcconsistgrp group prep restore) entry next step
command_keeps grain w (Stopfcconsistgrp group way) entry next step = decided_keeps grain w (Stopfcconsistgrp group way) entry next step
command_keeps grain w (Rmfcconsistgrp group force) entry next step = decided_keeps grain w (Rmfcconsistgrp group force) entry next step
command_keeps grain w (Lsfcmap m delim) entry next step = decided_keeps grain w (Lsfcmap m delim) entry next step
command_keeps grain w (Lsfcconsistgrp group delim) entry next step = decided_keeps grain w (Lsfcconsistgrp group delim) entry next step
command_keeps grain w (Lsvdisk delim) entry next step = decided_keeps grain w (Lsvdisk delim) entry next step
command_keeps grain w (Lsfcmapprogress m delim) entry next step = decided_keeps grain w (Lsfcmapprogress m delim) entry next step
command_keeps grain w (Lsfcmapdependentmaps m delim) entry next step = decided_keeps grain w (Lsfcmapdependentmaps m delim) entry next step
command_keeps grain w (Lsvdiskroom delim) entry next step = decided_keeps grain w (Lsvdiskroom delim) entry next step

lane_keeps :
    (grain : GrainSize) (w : Whole) (i : ℕ) (Answers : Entry → Type 0) (entry : Entry) (next : Whole) →
    LaneStep grain w i Answers entry next →
    Keeps 1 w next
lane_keeps grain w i Answers entry next step = record {
  entries = ap (λ (x : Whole). x.entries) step.next_is;
  lanes_are = ap lanes step.next_is ∙ length-set w.faults i entry.faults_after;
  actors = ap (λ (x : Whole). x.actors) step.next_is;
}

request_keeps :
    (grain : GrainSize) (w : Whole) (request : Request) (entry : Entry) (next : Whole) →
    RequestStep grain w request entry next →
    Keeps 1 w next
request_keeps grain w (Asked command) entry next step = command_keeps grain w command entry next step
request_keeps grain w (Unread fault) entry next step = record {
  entries = ap (λ (x : Whole). x.entries) step.next_is;
  lanes_are = ap lanes step.next_is;
  actors = ap (λ (x : Whole). x.actors) step.next_is;
}
request_keeps grain w (Read part) entry next step = lane_keeps grain w (lane_of_grain w (grain_of_block grain part.block)) _ entry next step.1
request_keeps grain w (Write part) entry next step = lane_keeps grain w (lane_of_grain w (grain_of_block grain part.block)) _ entry next step.1
request_keeps grain w (Copy m g) entry next step = lane_keeps grain w (lane_of_grain w g.0) _ entry next step
request_keeps grain w (Clean m g) entry next step = lane_keeps grain w (lane_of_grain w g.0) _ entry next step
request_keeps grain w (CopyTurn lane) entry next step = lane_keeps grain w lane _ entry next step.step
request_keeps grain w (CleanTurn lane) entry next step = lane_keeps grain w lane _ entry next step.step

-- ---- histories

-- Each entry is one more; where none comes behind a new name, the actors stay.
pub AreSteps-keeps :
    (grain : GrainSize) (w last : Whole) (entries : List Entry) →
    AreSteps grain w entries last →
    Keeps (length entries) w last
AreSteps-keeps grain w last [] steps = record {
  entries = omega (arith, ap (λ (x : Whole). x.entries) steps);
  lanes_are = ap lanes steps;
  actors = ap (λ (x : Whole). x.actors) steps;
}
AreSteps-keeps grain w last (entry ∷ entries) steps =
    let first : Keeps 1 w steps.0 = request_keeps grain w entry.request entry steps.0 steps.1.right in
    let rest : Keeps (length entries) steps.0 last = AreSteps-keeps grain steps.0 last entries steps.2 in
    record {
      entries = omega (arith, first.entries, rest.entries);
      lanes_are = rest.lanes_are ∙ first.lanes_are;
      actors = rest.actors ∙ first.actors;
    }

-- So many entries more, of as many lanes.
pub record Counts (more : ℕ) (w next : Whole) : Type 0 where
  pub entries : next.entries ≡ w.entries + more
  pub lanes_are : lanes next ≡ lanes w

pub IsLegal-keeps :
    (grain : GrainSize) (w last : Whole) (entries : List Entry) →
    IsLegal grain w entries last →
    Counts (length entries) w last
IsLegal-keeps grain w last [] legal = record {
  entries = omega (arith, ap (λ (x : Whole). x.entries) legal.named);
  lanes_are = ap lanes legal.named;
}
IsLegal-keeps grain w last (entry ∷ entries) legal =
    let named : legal.1.before ≡ record w { actors = w.actors ++ legal.1.named.more } = legal.1.named.named in
    let first : Keeps 1 legal.1.before legal.0 = request_keeps grain legal.1.before entry.request entry legal.0 legal.1.step.right in
    let rest : Counts (length entries) legal.0 last = IsLegal-keeps grain legal.0 last entries legal.2 in
    record {
      entries = omega (arith, ap (λ (x : Whole). x.entries) named, first.entries, rest.entries);
      lanes_are = rest.lanes_are ∙ first.lanes_are ∙ ap lanes named;
    }
