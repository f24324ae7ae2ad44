use Rattle.std.proofs.Common.{◌∙◌, ℕ, All, ap, subst, sym}
use Rattle.fc_entry.specs.HistoryState.{HistoryState}
use Rattle.fc_merge.proofs.Left.{taken_number}
use Rattle.fc_merge.proofs.Steps.{IsNotNext}
use Rattle.fc_merge.proofs.Whole.{IsMerging, SomePushed, all_pushed, all_taken, begun, less_left, pushed_on, some_pushed}
use Rattle.fc_merge.specs.Merging.{all_of}
use Rattle.fc_merge.specs.Taking.{Takes}
use Rattle.fc_merge.proofs.merging.merge.Goals as goal

pub loop-entry-init : goal.loop-entry-init
loop-entry-init c = begun c.args.history.now c.args.lists.now c.requires.numbered.0 c.requires.own c.requires.numbered.1

pub push-requires : goal.push-requires
push-requires c =
    taken_number c.len.result c.loop-entry.lists c.take_next.new.lists c.in-Some.entry c.in-Some.ensures.taken ∙ c.len.ensures

pub loop-entry-preserved : goal.loop-entry-preserved
loop-entry-preserved c =
    let At : ℕ → Type 0 = λ n. Takes n c.loop-entry.lists c.in-Some.entry c.take_next.new.lists in
    let Now : HistoryState → Type 0 = λ h. IsMerging c.args.history.now c.args.lists.now h c.take_next.new.lists in
    subst Now (sym c.in-Ok.ensures.ok)
    (pushed_on c.args.history.now c.args.lists.now c.loop-entry.history c.loop-entry.lists c.take_next.new.lists c.in-Some.entry c.loop-entry.invariant
    (subst At c.len.ensures c.in-Some.ensures.taken))

pub loop-entry-smaller : goal.loop-entry-smaller
loop-entry-smaller c = less_left c.len.result c.loop-entry.lists c.take_next.new.lists c.in-Some.entry c.in-Some.ensures.taken

pub returns-clause-ok : goal.returns-clause-ok
returns-clause-ok c =
    let None : ℕ → Type 0 = λ n. All (IsNotNext n) c.loop-entry.lists in
    all_pushed c.args.history.now c.args.lists.now c.loop-entry.history c.loop-entry.lists c.requires.own c.loop-entry.invariant
    (subst None c.len.ensures (c.take_next.ensures.none c.in_default.is))

pub returns-clause-taken : goal.returns-clause-taken
returns-clause-taken c =
    let None : ℕ → Type 0 = λ n. All (IsNotNext n) c.loop-entry.lists in
    ap all_of (c.take_next.ensures.stay c.in_default.is)
    ∙ all_taken c.args.history.now c.args.lists.now c.loop-entry.history c.loop-entry.lists c.loop-entry.invariant
    (subst None c.len.ensures (c.take_next.ensures.none c.in_default.is))

pub returns-in-Err-clause-err : goal.returns-in-Err-clause-err
returns-in-Err-clause-err c =
    let Some : HistoryState → Type 0 = λ h. SomePushed c.args.history.now c.args.lists.now h in
    subst Some (sym c.in-Err.ensures.err)
    (some_pushed c.args.history.now c.args.lists.now c.loop-entry.history c.loop-entry.lists c.requires.own c.loop-entry.invariant)
