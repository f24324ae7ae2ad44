use Rattle.std.proofs.Common.{◌≡◌, ◌≢◌, false, sym, ◌∙◌, ap, subst, take, All}
use Rattle.std.specs.List.{list_any}
use Rattle.fc_changed.specs.Row.{is_of}
use Rattle.fc_diff.specs.State.{ChangesState}
use Rattle.fc_diff.proofs.States.{none_anywhere}
use Rattle.fc_diff.proofs.changes.Changes.make_ready.Goals as goal

pub add-requires : goal.add-requires
add-requires c =
    let m = c.args.map.0 in
    let unfollowed : list_any (is_of m) (take c.self.inside.followed c.self.inside.table) ≡ false =
    ap (λ (s : ChangesState). list_any (is_of m) s.rows) c.self.view_is ∙ (sym c.is_following.ensures ∙ c.if-is_following.false) in
    none_anywhere m c.self.inside.table c.self.inside.followed c.self.invariant unfollowed
    (subst (λ (s : ChangesState). All (λ new. new.map ≢ m) s.ready) (sym c.self.view_is) c.requires.fresh)
