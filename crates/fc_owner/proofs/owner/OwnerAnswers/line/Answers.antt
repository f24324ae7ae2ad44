-- The line was single, or of a block that is still open, or it ended one; or memory was wanted to read it.
use Rattle.std.proofs.Common.{◌≡◌, ◌∷◌, []}
use Rattle.fc_blocks.specs.Segments.{single, together}
use Rattle.fc_blocks.specs.declared.block.Taken.TheVariants.{Single, Block}
use Rattle.fc_run.proofs.GrowingLemmas.{GrowsTo-same}
use Rattle.fc_owner.proofs.OwnerLemmas.{block_grows, can_run, line_grows, line_named, store_answers, store_starved, taken_as}
use Rattle.fc_owner.specs.StoreRuns.{RunsBlocks}
use Rattle.fc_owner.proofs.owner.OwnerAnswers.line.Goals as goal

pub run_one-requires-clause-able : goal.run_one-requires-clause-able
run_one-requires-clause-able g c = c.requires.stands.2.holds.1.1

pub run_one-requires-clause-can : goal.run_one-requires-clause-can
run_one-requires-clause-can g c =
    let whole = c.requires.stands.2 in
    let is : c.in-Ok-Block.field-0 ≡ Block c.in-Ok-Block.block = let a = c.in-Ok-Block.field-0-is in let b = c.in-Ok-Block.block-is in cc in
    let next = taken_as c.in-Ok-Block.field-0 (Block c.in-Ok-Block.block) c.args.self.now.reader c.read.new.self c.requires.stands.1 c.args.line.now is
    (c.in-Ok-Block.ensures.ok c.requires.stands.1 whole.holds.1.0) in
    can_run (RunsBlocks {S = g.row.S.Denot} g.S.SingleLines.view (goal.F-pre g c.args.self.now.run) (goal.F-post g c.args.self.now.run)) c.requires.stands.0
    c.args.self.now.reader c.read.new.self (g.S.SingleLines.view c.args.self.now.store) c.requires.stands.1 c.requires.stands.1 c.args.line.now c.args.history.now
    c.in-Ok-Block.block whole c.requires.room next

pub returns-in-Ok-Single-clause-answered : goal.returns-in-Ok-Single-clause-answered
returns-in-Ok-Single-clause-answered g c = λ start lines whole.
    let is : c.in-Ok-Single.field-0 ≡ Single c.in-Ok-Single.line = let a = c.in-Ok-Single.field-0-is in let b = c.in-Ok-Single.line-is in cc in
    let next = taken_as c.in-Ok-Single.field-0 (Single c.in-Ok-Single.line) c.args.self.now.reader c.read.new.self lines c.args.line.now is
    (c.in-Ok-Single.ensures.ok lines whole.holds.1.0) in
    store_answers (RunsBlocks {S = g.row.S.Denot} g.S.SingleLines.view (goal.F-pre g c.args.self.now.run) (goal.F-post g c.args.self.now.run)) c.answer.result start
    c.args.self.now.reader c.read.new.self (Single c.in-Ok-Single.line) (g.S.SingleLines.view c.args.self.now.store) (g.S.SingleLines.view c.answer.new.self) lines c.args.line.now
    (single c.args.line.now ∷ []) c.args.history.now c.answer.new.history
    (λ w told. c.answer.ensures.answered c.args.line.now w next.told.1 told)
    c.answer.ensures.grain c.answer.ensures.disks c.answer.ensures.quiet next next.told.0 whole

pub returns-in-Ok-Single-clause-named : goal.returns-in-Ok-Single-clause-named
returns-in-Ok-Single-clause-named g c =
    let whole = c.requires.stands.2 in
    let is : c.in-Ok-Single.field-0 ≡ Single c.in-Ok-Single.line = let a = c.in-Ok-Single.field-0-is in let b = c.in-Ok-Single.line-is in cc in
    let next = taken_as c.in-Ok-Single.field-0 (Single c.in-Ok-Single.line) c.args.self.now.reader c.read.new.self c.requires.stands.1 c.args.line.now is
    (c.in-Ok-Single.ensures.ok c.requires.stands.1 whole.holds.1.0) in
    line_named (RunsBlocks {S = g.row.S.Denot} g.S.SingleLines.view (goal.F-pre g c.args.self.now.run) (goal.F-post g c.args.self.now.run)) c.answer.result c.requires.stands.0
    c.args.self.now.reader (g.S.SingleLines.view c.args.self.now.store) (g.S.SingleLines.view c.answer.new.self) c.requires.stands.1 c.args.line.now c.args.history.now c.answer.new.history
    (λ w told. c.answer.ensures.answered c.args.line.now w next.told.1 told) whole

pub returns-in-Ok-Single-clause-grows : goal.returns-in-Ok-Single-clause-grows
returns-in-Ok-Single-clause-grows g c =
    let whole = c.requires.stands.2 in
    let is : c.in-Ok-Single.field-0 ≡ Single c.in-Ok-Single.line = let a = c.in-Ok-Single.field-0-is in let b = c.in-Ok-Single.line-is in cc in
    let next = taken_as c.in-Ok-Single.field-0 (Single c.in-Ok-Single.line) c.args.self.now.reader c.read.new.self c.requires.stands.1 c.args.line.now is
    (c.in-Ok-Single.ensures.ok c.requires.stands.1 whole.holds.1.0) in
    line_grows (RunsBlocks {S = g.row.S.Denot} g.S.SingleLines.view (goal.F-pre g c.args.self.now.run) (goal.F-post g c.args.self.now.run)) c.answer.result c.requires.stands.0
    c.args.self.now.reader (g.S.SingleLines.view c.args.self.now.store) (g.S.SingleLines.view c.answer.new.self) c.requires.stands.1 c.args.line.now c.args.history.now c.answer.new.history
    (λ w told. c.answer.ensures.answered c.args.line.now w next.told.1 told) whole

pub returns-in-Ok-Nothing-clause-grows : goal.returns-in-Ok-Nothing-clause-grows
returns-in-Ok-Nothing-clause-grows g c = GrowsTo-same c.args.history.now

pub returns-in-Ok-Block-clause-answered : goal.returns-in-Ok-Block-clause-answered
returns-in-Ok-Block-clause-answered g c = λ start lines whole.
    let is : c.in-Ok-Block.field-0 ≡ Block c.in-Ok-Block.block = let a = c.in-Ok-Block.field-0-is in let b = c.in-Ok-Block.block-is in cc in
    let next = taken_as c.in-Ok-Block.field-0 (Block c.in-Ok-Block.block) c.args.self.now.reader c.read.new.self lines c.args.line.now is
    (c.in-Ok-Block.ensures.ok lines whole.holds.1.0) in
    let ran = c.run_one.ensures.ran in
    store_answers (RunsBlocks {S = g.row.S.Denot} g.S.SingleLines.view (goal.F-pre g c.args.self.now.run) (goal.F-post g c.args.self.now.run)) c.run_one.result start
    c.args.self.now.reader c.read.new.self (Block c.in-Ok-Block.block) (g.S.SingleLines.view c.args.self.now.store) (g.S.SingleLines.view c.run_one.new.store) lines c.args.line.now
    (together c.in-Ok-Block.block ∷ []) c.args.history.now c.run_one.new.history
    ran.answered ran.grain ran.disks ran.quiet next next.told whole

pub returns-in-Ok-Block-clause-named : goal.returns-in-Ok-Block-clause-named
returns-in-Ok-Block-clause-named g c = c.run_one.ensures.ran.named

pub returns-in-Ok-Block-clause-grows : goal.returns-in-Ok-Block-clause-grows
returns-in-Ok-Block-clause-grows g c =
    block_grows (RunsBlocks {S = g.row.S.Denot} g.S.SingleLines.view (goal.F-pre g c.args.self.now.run) (goal.F-post g c.args.self.now.run)) c.run_one.result c.requires.stands.0
    c.args.self.now.reader (g.S.SingleLines.view c.args.self.now.store) (g.S.SingleLines.view c.run_one.new.store) c.requires.stands.1 c.in-Ok-Block.block c.args.history.now c.run_one.new.history
    c.run_one.ensures.ran c.requires.stands.2

pub returns-in-Ok-Block-clause-limit : goal.returns-in-Ok-Block-clause-limit
returns-in-Ok-Block-clause-limit g c = c.run_one.ensures.ran.limit

pub returns-in-Err-clause-answered : goal.returns-in-Err-clause-answered
returns-in-Err-clause-answered g c = λ start lines whole.
    store_starved (RunsBlocks {S = g.row.S.Denot} g.S.SingleLines.view (goal.F-pre g c.args.self.now.run) (goal.F-post g c.args.self.now.run)) start
    c.args.self.now.reader c.read.new.self (g.S.SingleLines.view c.args.self.now.store) lines c.args.line.now c.args.history.now whole

pub returns-in-Err-clause-grows : goal.returns-in-Err-clause-grows
returns-in-Err-clause-grows g c = GrowsTo-same c.args.history.now
