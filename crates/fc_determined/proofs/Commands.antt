-- What a command leaves is determined, where no memory was wanted.
use Rattle.std.proofs.Common.{◌≡◌, ℕ, ◌++◌, Option, List, replicate, refl, sym, ap, ◌∙◌}
use Rattle.fc_base.specs.declared.command.Command.{Command}
use Rattle.fc_base.specs.declared.ids.VolId.{VolId}
use Rattle.fc_base.specs.declared.request.Effect.{Effect}
use Rattle.fc_base.specs.declared.request.Reply.{Reply}
use Rattle.fc_base.specs.declared.size.GrainSize.{GrainSize}
use Rattle.fc_books.specs.Deciding.{settle, IsLoopOf}
use Rattle.fc_determined.proofs.Loops.{loop_one}
use Rattle.fc_determined.specs.Smooth.{IsSmooth, TellTheSame, without_faults}
use Rattle.fc_legal.specs.Steps.{CommandLeft, left_by, after_settling, decided_on}
use Rattle.fc_legal.specs.Steps.CommandLeft.{decided, unsettled, settled_alone}
use Rattle.fc_legal.specs.Whole.{Whole, lanes}

-- What is told, where the disks of each lane ever had other faults.
abbrev pub with_faults : Whole → List ℕ → Whole
with_faults w faults = record w { faults = faults }

-- Wholes that are equal to one and to the same with other faults, of as many lanes.
pub told_alike :
    (w : Whole) (faults : List ℕ) (last other : Whole) →
    lanes (with_faults w faults) ≡ lanes w →
    last ≡ w →
    other ≡ with_faults w faults →
    TellTheSame last other
told_alike w faults last other same e f =
    ap without_faults f ∙ ap (λ n. record w { faults = replicate n 0 }) same ∙ sym (ap without_faults e)

-- A command that wanted no memory was decided, by the loop that it was told.
record WasDecided (grain : GrainSize) (w : Whole) (command : Command) (r : Reply) (effects : List Effect) (left : Whole) : Type 0 where
  loop : Option (List VolId)
  told : IsLoopOf grain (after_settling grain w).books command loop
  reply : r ≡ (decided_on grain (after_settling grain w) command loop).reply
  effects_are : effects ≡ (settle w.books).effects ++ (decided_on grain (after_settling grain w) command loop).effects
  left_is : left ≡ left_by grain (after_settling grain w) (decided_on grain (after_settling grain w) command loop)

was_decided :
    (grain : GrainSize) (w : Whole) (command : Command) (r : Reply) (effects : List Effect) (left : Whole) →
    CommandLeft grain w command r effects left →
    IsSmooth r →
    WasDecided grain w command r effects left
was_decided grain w command r effects left (decided loop told) smooth =
    record { loop = loop; told = told; reply = refl; effects_are = refl; left_is = refl }
was_decided grain w command r effects left unsettled smooth = absurd smooth
was_decided grain w command r effects left settled_alone smooth = absurd smooth

-- Two commands leave the same.
pub record LeaveTheSame (r s : Reply) (effects others : List Effect) (left other : Whole) : Type 0 where
  pub reply : s ≡ r
  pub effects_are : others ≡ effects
  pub told : TellTheSame left other

both_decided :
    (grain : GrainSize) (w : Whole) (faults : List ℕ) (command : Command) (r s : Reply) (effects others : List Effect) (left other : Whole) →
    lanes (with_faults w faults) ≡ lanes w →
    WasDecided grain w command r effects left →
    WasDecided grain (with_faults w faults) command s others other →
    LeaveTheSame r s effects others left other
both_decided grain w faults command r s effects others left other same h k =
    let loop : k.loop ≡ h.loop = loop_one grain (after_settling grain w).books command k.loop h.loop k.told h.told in
    record {
      reply =
          k.reply
          ∙ ap (λ loop. (decided_on grain (after_settling grain w) command loop).reply) loop
          ∙ sym h.reply;
      effects_are =
          k.effects_are
          ∙ ap (λ loop. (settle w.books).effects ++ (decided_on grain (after_settling grain w) command loop).effects) loop
          ∙ sym h.effects_are;
      told =
          told_alike (left_by grain (after_settling grain w) (decided_on grain (after_settling grain w) command h.loop)) faults left other same h.left_is
          (k.left_is
          ∙ ap (λ loop. left_by grain (after_settling grain (with_faults w faults)) (decided_on grain (after_settling grain w) command loop)) loop);
    }

pub command_one :
    (grain : GrainSize) (w : Whole) (faults : List ℕ) (command : Command) (r s : Reply) (effects others : List Effect) (left other : Whole) →
    lanes (with_faults w faults) ≡ lanes w →
    CommandLeft grain w command r effects left →
    CommandLeft grain (with_faults w faults) command s others other →
    IsSmooth r →
    IsSmooth s →
    LeaveTheSame r s effects others left other
command_one grain w faults command r s effects others left other same h k smooth smooth_other =
    both_decided grain w faults command r s effects others left other same
    (was_decided grain w command r effects left h smooth)
    (was_decided grain (with_faults w faults) command s others other k smooth_other)
