use Rattle.std.proofs.Common.{◌≡◌, false, not, ◌&&◌, sym, ◌∙◌, ap, subst, length, arith}
use Rattle.std.specs.List.{list_any}
use Rattle.fc_changed.specs.Row.{is_of}
use Rattle.fc_diff.specs.declared.tracked.Event.TheVariants.{Began}
use Rattle.fc_diff.specs.State.{ChangesState, IsFirstReady, takes_ready, after_beginning}
use Rattle.fc_diff.specs.Index.{state_of}
use Rattle.fc_diff.proofs.Found.{begun_size}
use Rattle.fc_diff.proofs.States.{any_told, first_there, first_trigger, began_first, began_later, not_taken}
use Rattle.fc_diff.proofs.changes.Changes.began.Goals as goal
use Rattle.fc_diff.proofs.changes.Changes.began.Goals.{else-incremental-via-then-incremental+else-not-is_following, else-incremental-via-else-incremental}

pub begin-self-inside-requires : goal.begin-self-inside-requires
begin-self-inside-requires c =
    let m = c.args.map.0 in
    let s = c.args.source.0 in
    let t = c.args.target.0 in
    let old = c.args.self.now in
    let first = first_trigger old c.tell.new.self m s t c.is_following.result c.args.incremental c.tell.ensures c.is_following.ensures c.if-not-is_following.true c.if-incremental.true in
    first_there m s t c.self.inside.followed c.self.inside.table
    (subst (λ (x : ChangesState). IsFirstReady m s t x.ready) (sym (c.self.view_is ∙ c.tell.ensures)) (c.requires first.2))

pub invariant_of-self : goal.invariant_of-self
invariant_of-self c =
    let m = c.args.map.0 in
    let s = c.args.source.0 in
    let t = c.args.target.0 in
    let old = c.args.self.now in
    let first = first_trigger old c.tell.new.self m s t c.is_following.result c.args.incremental c.tell.ensures c.is_following.ensures c.if-not-is_following.true c.if-incremental.true in
    let there = first_there m s t c.self.inside.followed c.self.inside.table (subst (λ (x : ChangesState). IsFirstReady m s t x.ready) (sym (c.self.view_is ∙ c.tell.ensures)) (c.requires first.2)) in
    let size = ap (λ rows. length rows) c.begin-self-inside.ensures.rows ∙ begun_size c.self.inside.followed c.self.inside.table in
    omega (arith, there, size, c.begin-self-inside.ensures.behind)

pub returns-then-not-is_following : goal.returns-then-not-is_following
returns-then-not-is_following c =
    let m = c.args.map.0 in
    let s = c.args.source.0 in
    let t = c.args.target.0 in
    let old = c.args.self.now in
    let first = first_trigger old c.tell.new.self m s t c.is_following.result c.args.incremental c.tell.ensures c.is_following.ensures c.if-not-is_following.true c.if-incremental.true in
    (λ k. state_of (c.begin-self-inside.ensures.behind k) (c.begin-self-inside.ensures.rows k))
    ∙ (began_first old c.self.inside.followed c.self.inside.table m s t (c.self.view_is ∙ c.tell.ensures) first.0 first.1 (c.requires first.2)
    ∙ ap (after_beginning old m s t) (sym c.if-incremental.true))

pub returns-else-incremental : goal.returns-else-incremental
returns-else-incremental c =
    let m = c.args.map.0 in
    let s = c.args.source.0 in
    let t = c.args.target.0 in
    let old = c.args.self.now in
    let untaken : takes_ready old m c.args.incremental ≡ false =
    elim c.else-incremental.branch [
      | else-incremental-via-then-incremental+else-not-is_following w ↦
          not_taken c.args.incremental (list_any (is_of m) old.rows)
          (sym (any_told m (Began s t) old.rows) ∙ (ap (λ (x : ChangesState). list_any (is_of m) x.rows) (sym c.tell.ensures) ∙ (sym w.is_following.ensures ∙ w.if-not-is_following.false)))
      | else-incremental-via-else-incremental w ↦ ap (λ b. b && not (list_any (is_of m) old.rows)) w.if-incremental.false
    ] in
    c.tell.ensures ∙ began_later old m s t c.args.incremental untaken (any_told m (Began s t) old.rows)
