-- What a command leaves: it was decided, or for want of memory nothing was done, or all was settled.
use Rattle.std.proofs.Common.{◌≡◌, ◌≢◌, ◌⊎◌, inl, inr, ℕ, Bool, List, ◌++◌, Option, Some, None, refl, ap}
use Rattle.fc_base.specs.declared.command.Command.{Command}
use Rattle.fc_base.specs.declared.command.Command.TheVariants.{Mkvdisk, Mkfcmap, Mkfcconsistgrp, Lsfcmap, Lsfcconsistgrp, Lsvdisk, Lsfcmapprogress, Lsfcmapdependentmaps, Lsvdiskroom}
use Rattle.fc_base.specs.declared.fault.Refusal.{Refusal}
use Rattle.fc_base.specs.declared.ids.VolId.{VolId}
use Rattle.fc_base.specs.declared.request.Effect.{Effect}
use Rattle.fc_base.specs.declared.request.Reply.{Reply}
use Rattle.fc_base.specs.declared.request.Reply.TheVariants.{NoMemory}
use Rattle.fc_base.specs.declared.size.GrainSize.{GrainSize}
use Rattle.fc_books.specs.Books.{Books}
use Rattle.fc_books.specs.Deciding.{IsLoopOf, answered, decide, refused, replied, settle}
use Rattle.fc_determined.proofs.Loops.{loop_one}
use Rattle.fc_follow.specs.Following.{restarts}
use Rattle.fc_legal.specs.Steps.{CommandLeft, after_settling, decided_on, left_by}
use Rattle.fc_legal.specs.Steps.CommandLeft.{decided, unsettled, settled_alone}
use Rattle.fc_legal.specs.Whole.{Whole}
use Rattle.law_stands.proofs.Places.{request_left}
use Rattle.law_stands.specs.Commands.{CommandsLaw, WasDecided, WasSettled, WasUndone}

-- ---- replies

replied_some : (grain : GrainSize) (b : Books) (command : Command) → replied grain b command ≢ NoMemory
replied_some grain b (Mkvdisk name size unit thin) e = cc
replied_some grain b (Mkfcmap source target name group copy_rate clean_rate grain_size incremental autodelete) e = cc
replied_some grain b (Mkfcconsistgrp name) e = cc
replied_some grain b (Lsfcmap m delim) e = cc
replied_some grain b (Lsfcconsistgrp group delim) e = cc
replied_some grain b (Lsvdisk delim) e = cc
replied_some grain b (Lsfcmapprogress m delim) e = cc
replied_some grain b (Lsfcmapdependentmaps m delim) e = cc
replied_some grain b (Lsvdiskroom delim) e = cc
replied_some grain b command e = cc

answered_some : (sets : ℕ → List Bool) (grain : GrainSize) (b : Books) (command : Command) (refusal : Option Refusal) (loop : Option (List VolId)) → (answered sets grain b command refusal loop).reply ≢ NoMemory
answered_some sets grain b command (Some refusal) loop e = cc
answered_some sets grain b command None (Some volumes) e = cc
answered_some sets grain b command None None e = replied_some grain b command e

decide_some : (sets : ℕ → List Bool) (grain : GrainSize) (b : Books) (command : Command) (loop : Option (List VolId)) → (decide sets grain b command loop).reply ≢ NoMemory
decide_some sets grain b command loop = answered_some sets grain b command (refused grain b command) loop

-- ---- what is left

module _ (grain : GrainSize) (w : Whole) (command : Command) where
  -- which loop is told doesn't count
  by_loop : (loop told : Option (List VolId)) → IsLoopOf grain (after_settling grain w).books command loop → IsLoopOf grain (after_settling grain w).books command told →
      WasDecided grain w command loop (decided_on grain (after_settling grain w) command told).reply
      ((settle w.books).effects ++ (decided_on grain (after_settling grain w) command told).effects)
      (left_by grain (after_settling grain w) (decided_on grain (after_settling grain w) command told))
  by_loop loop told is_loop is_told =
      let one : told ≡ loop = loop_one grain (after_settling grain w).books command told loop is_told is_loop in
      record {
        reply_is = ap (λ l. (decided_on grain (after_settling grain w) command l).reply) one;
        effects_are = ap (λ l. (settle w.books).effects ++ (decided_on grain (after_settling grain w) command l).effects) one;
        left_is = ap (λ l. left_by grain (after_settling grain w) (decided_on grain (after_settling grain w) command l)) one;
      }

  leaves : (loop : Option (List VolId)) (reply : Reply) (effects : List Effect) (left : Whole) → IsLoopOf grain (after_settling grain w).books command loop → CommandLeft grain w command reply effects left →
      WasDecided grain w command loop reply effects left ⊎ (WasUndone w reply effects left ⊎ WasSettled grain w reply effects left)
  leaves loop reply effects left is_loop (decided told is_told) = inl (by_loop loop told is_loop is_told)
  leaves loop reply effects left is_loop unsettled = inr (inl (record { reply_is = refl; effects_are = refl; left_is = refl }))
  leaves loop reply effects left is_loop settled_alone = inr (inr (record { reply_is = refl; effects_are = refl; left_is = refl }))

  -- by the reply
  undone : (reply : Reply) (effects : List Effect) (left : Whole) → reply ≡ NoMemory → CommandLeft grain w command reply effects left →
      WasUndone w reply effects left ⊎ WasSettled grain w reply effects left
  undone reply effects left e (decided told is_told) =
      absurd (decide_some (restarts (after_settling grain w).rows) grain (after_settling grain w).books command told e)
  undone reply effects left e unsettled = inl (record { reply_is = refl; effects_are = refl; left_is = refl })
  undone reply effects left e settled_alone = inr (record { reply_is = refl; effects_are = refl; left_is = refl })

  was_decided : (loop : Option (List VolId)) (reply : Reply) (effects : List Effect) (left : Whole) → IsLoopOf grain (after_settling grain w).books command loop → reply ≢ NoMemory →
      CommandLeft grain w command reply effects left → WasDecided grain w command loop reply effects left
  was_decided loop reply effects left is_loop some (decided told is_told) = by_loop loop told is_loop is_told
  was_decided loop reply effects left is_loop some unsettled = absurd (some refl)
  was_decided loop reply effects left is_loop some settled_alone = absurd (some refl)

-- ---- the law

pub commands_law_holds : CommandsLaw
commands_law_holds =
    record {
      placed = λ grain w entry next some step. request_left grain w entry next entry.request refl some step.right;
      answers = decide_some;
      loop = loop_one;
      leaves = leaves;
      wanting = λ grain w command effects left leaves. undone grain w command NoMemory effects left refl leaves;
      answered = was_decided;
    }
