use Rattle.std.proofs.Common.{◌≡◌, ℕ, ◌<◌, ◌/◌, length, sym, ap, subst, ◌∙◌, rules}
use Rattle.fc_base.specs.Sheet.{slot_at}
use Rattle.fc_base.specs.SheetFits.{FitsLost}
use Rattle.fc_grains.specs.Volumes.{volume_of}
use Rattle.fc_pictures.proofs.Lawful.{picture_law_holds}
use Rattle.fc_base.specs.declared.disk.DiskError.TheVariants.{Failed, NoMemory}
use Rattle.fc_grains.specs.declared.copy_error.CopyError.TheVariants.{Read, Write}
use Rattle.fc_steps.proofs.MoveEnds.{can_source, ends_as, copied_as, sourced, in_place_ends, empty_ends, copied_ends, read_failed_ends, write_failed_ends, refused_ends}
use Rattle.fc_steps.specs.Moving.{CanMove}
use Rattle.fc_steps.proofs.Moving.{Source}
use Rattle.fc_steps.proofs.body.Body.make_move.Given as given
use Rattle.fc_steps.proofs.body.Body.make_move.Goals as goal
use Rattle.fc_steps.proofs.body.Body.make_move.Goals.{After-source_of-source}

pub returns-then-mv-clause-ends : goal.returns-then-mv-clause-ends
returns-then-mv-clause-ends g c k can =
    ends_as c.args.self.now.cascade c.moved.new.self c.args.self.now.grains c.args.self.now.grains c.args.place k 0 _ c.args.mv.now c.done.result c.done.ensures
    (in_place_ends c.args.self.now.cascade c.moved.new.self c.args.self.now.grains c.args.place k c.args.mv.now can c.if-mv.true (c.moved.ensures k can.is_there))

pub source_of-source-requires : goal.source_of-source-requires
source_of-source-requires g c = can_source c.args.self.now.cascade c.args.self.now.grains.volumes c.args.place c.requires.can.0 c.args.mv.now c.requires.sound c.requires.sized c.requires.can.1

-- the volume that is read is that of the slot's holder
read_from : (g : given.Over) (c : After-source_of-source g) (k : ℕ) → CanMove c.args.self.now.cascade c.args.place c.args.mv.now k →
    (h : ℕ) × Source c.args.self.now.cascade.sheet c.args.self.now.grains.volumes c.args.place k h × (c.source_of-source.result.0 ≡ (slot_at c.args.self.now.cascade.sheet.slots h).volume)
read_from g c k can = sourced c.args.self.now.cascade c.args.self.now.grains.volumes c.args.place k c.source_of-source.result.0 c.args.mv.now c.requires.sound c.requires.sized can c.source_of-source.ensures

pub is_lost-requires : goal.is_lost-requires
is_lost-requires g c =
    let p = read_from g (goal.at.is_lost-requires g c).After-source_of-source c.requires.can.0 c.requires.can.1 in
    subst (λ (z : ℕ). c.args.place < length (volume_of c.args.self.now.grains.volumes z).contents) (sym p.2) p.1.inside

pub returns-then-is_lost : goal.returns-then-is_lost
returns-then-is_lost g c =
    let ended = λ (k : ℕ) (can : CanMove c.args.self.now.cascade c.args.place c.args.mv.now k).
    let p = read_from g (goal.at.returns-then-is_lost g c).After-source_of-source k can in
    empty_ends c.args.self.now.cascade c.moved-then-is_lost.new.self c.args.self.now.grains c.lose.new.self c.args.place k p.0 c.source_of-source.result.0 c.args.mv.now can c.if-mv.false p.1 p.2 (sym c.is_lost.ensures ∙ c.if-is_lost.true) c.lose.ensures (c.moved-then-is_lost.ensures k can.is_there) in
    record {
      ends = λ k can. ends_as c.args.self.now.cascade c.moved-then-is_lost.new.self c.args.self.now.grains c.lose.new.self c.args.place k 0 _ c.args.mv.now c.done-then-is_lost.result c.done-then-is_lost.ensures (ended k can).0;
      same = (ended c.requires.can.0 c.requires.can.1).1;
      few = search rules;
    }

pub torn-requires-clause-under : goal.torn-requires-clause-under
torn-requires-clause-under g c e =
    let k = c.requires.can.0 in
    let can = c.requires.can.1 in
    let slots = c.args.self.now.cascade.sheet.slots in
    let fits = picture_law_holds.move_fits slots k c.args.place can.safe (sym can.mark ∙ c.if-mv.false) in
    subst (λ (z : ℕ). FitsLost slots z (c.args.mv.now.grain.0 / c.args.self.now.cascade.lanes)) (sym can.volume)
    (subst (λ (y : ℕ). FitsLost slots (slot_at slots k).volume y) (sym can.place) fits.1)

pub returns-in-Ok : goal.returns-in-Ok
returns-in-Ok g c =
    let ended = λ (k : ℕ) (can : CanMove c.args.self.now.cascade c.args.place c.args.mv.now k).
    let p = read_from g (goal.at.returns-in-Ok g c).After-source_of-source k can in
    copied_ends c.args.self.now.cascade c.moved-in-Ok.new.self c.args.self.now.grains c.copy.new.self c.args.place k p.0 c.source_of-source.result.0 c.args.mv.now.volume.0 c.args.mv.now c.in-Ok.field-0 can c.if-mv.false p.1 p.2 can.volume (sym c.is_lost.ensures ∙ c.if-is_lost.false) (c.moved-in-Ok.ensures k can.is_there) c.in-Ok.ensures in
    record {
      ends = λ k can. ends_as c.args.self.now.cascade c.moved-in-Ok.new.self c.args.self.now.grains c.copy.new.self c.args.place k 2 _ c.args.mv.now c.done-in-Ok.result c.done-in-Ok.ensures (ended k can).0;
      same = (ended c.requires.can.0 c.requires.can.1).1;
      few = search rules;
    }

pub returns-in-Err-Read : goal.returns-in-Err-Read
returns-in-Err-Read g c =
    let ended = λ (k : ℕ) (can : CanMove c.args.self.now.cascade c.args.place c.args.mv.now k).
    let p = read_from g (goal.at.returns-in-Err-Read g c).After-source_of-source k can in
    read_failed_ends c.args.self.now.cascade c.args.self.now.grains c.copy.new.self c.args.place k p.0 c.source_of-source.result.0 c.args.mv.now c.if-mv.false p.1 p.2 (sym c.is_lost.ensures ∙ c.if-is_lost.false)
    (copied_as _ c.args.self.now.grains c.copy.new.self c.source_of-source.result.0 c.args.mv.now.volume.0 c.args.place c.in-Err-Read.field-0 Read c.in-Err-Read.field-0-is c.in-Err-Read.ensures) in
    record {
      ends = λ k can. ends_as c.args.self.now.cascade c.args.self.now.cascade c.args.self.now.grains c.copy.new.self c.args.place k 1 _ c.args.mv.now c.failed.result c.failed.ensures (ended k can).0;
      same = (ended c.requires.can.0 c.requires.can.1).1;
      few = search rules;
    }

pub returns-in-Err-Write-Failed : goal.returns-in-Err-Write-Failed
returns-in-Err-Write-Failed g c =
    let ended = λ (k : ℕ) (can : CanMove c.args.self.now.cascade c.args.place c.args.mv.now k).
    let p = read_from g (goal.at.returns-in-Err-Write-Failed g c).After-source_of-source k can in
    write_failed_ends c.args.self.now.cascade c.torn.new.self c.args.self.now.grains c.copy.new.self c.args.place k p.0 c.source_of-source.result.0 c.args.mv.now.volume.0 c.args.mv.now c.torn_under.result can c.if-mv.false p.1 p.2 can.volume (sym c.is_lost.ensures ∙ c.if-is_lost.false) c.torn_under.ensures c.torn.ensures
    (copied_as _ c.args.self.now.grains c.copy.new.self c.source_of-source.result.0 c.args.mv.now.volume.0 c.args.place c.in-Err-Write-Failed.field-0 (Write Failed) (c.in-Err-Write-Failed.field-0-is ∙ ap Write c.in-Err-Write-Failed.field-0-0-is) c.in-Err-Write-Failed.ensures) in
    record {
      ends = λ k can. ends_as c.args.self.now.cascade c.torn.new.self c.args.self.now.grains c.copy.new.self c.args.place k 2 _ c.args.mv.now c.failed-in-Err-Write-Failed.result c.failed-in-Err-Write-Failed.ensures (ended k can).0;
      same = (ended c.requires.can.0 c.requires.can.1).1;
      few = search rules;
    }

pub returns-in-Err-Write-NoMemory : goal.returns-in-Err-Write-NoMemory
returns-in-Err-Write-NoMemory g c =
    let ended = λ (k : ℕ) (can : CanMove c.args.self.now.cascade c.args.place c.args.mv.now k).
    let p = read_from g (goal.at.returns-in-Err-Write-NoMemory g c).After-source_of-source k can in
    refused_ends c.args.self.now.cascade c.args.self.now.grains c.copy.new.self c.args.place k p.0 c.source_of-source.result.0 c.args.mv.now.volume.0 c.args.mv.now c.if-mv.false p.1 p.2 can.volume (sym c.is_lost.ensures ∙ c.if-is_lost.false)
    (copied_as _ c.args.self.now.grains c.copy.new.self c.source_of-source.result.0 c.args.mv.now.volume.0 c.args.place c.in-Err-Write-NoMemory.field-0 (Write NoMemory) (c.in-Err-Write-NoMemory.field-0-is ∙ ap Write c.in-Err-Write-NoMemory.field-0-0-is) c.in-Err-Write-NoMemory.ensures) in
    record { ends = λ k can. (ended k can).0; same = (ended c.requires.can.0 c.requires.can.1).1; few = search rules }
