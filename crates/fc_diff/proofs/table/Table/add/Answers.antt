use Rattle.std.proofs.Common.{◌≡◌, ◌≢◌, ◌∙◌, sym, ap, subst, position, None, [], ◌∷◌, ◌++◌, nat_eq, replicate, false, All}
use Rattle.indexmap.specs.IndexSet.{insert_key}
use Rattle.fc_changed.specs.Row.{Row}
use Rattle.fc_diff.proofs.Places.{position-map}
use Rattle.fc_diff.proofs.Naming.{inserted}
use Rattle.fc_diff.proofs.Found.{found_push, found_still, none_of}
use Rattle.fc_diff.proofs.table.Table.add.Goals as goal

pub invariant_of-self-2 : goal.invariant_of-self-2
invariant_of-self-2 c =
    let m = c.args.map in
    let ids = c.self.inside.ids.keys in
    let rows = c.self.inside.rows.items in
    let row : Row = record { map = m; source = c.args.source; target = c.args.target; into = c.args.target; same = replicate c.args.grains false } in
    let others : All (λ (r : Row). r.map ≢ m) rows = subst (All (λ (r : Row). r.map ≢ m)) (sym c.self.view_is) c.requires in
    let free : position (nat_eq m) ids ≡ None = ap (position (nat_eq m)) c.self.invariant.beside ∙ (position-map (nat_eq m) (λ (r : Row). r.map) rows ∙ none_of m rows others) in
    let came = rw c.unwrap.ensures at c.insert.ensures.keys in
    let pushed = rw c.unwrap-2.ensures at c.push.ensures.items in
    found_push ids c.add_both.new.self rows row (found_still ids c.self.inside.namers c.add_both.new.self rows m others c.add_both.ensures.kept c.self.invariant) others
    c.in_ok-add_both.ensures.one c.in_ok-add_both.ensures.other
    c.insert.new.self.keys c.push.new.self.items (came ∙ (ap (λ ks. insert_key nat_eq ks m) c.reserve-2.ensures.keys ∙ inserted ids m free))
    (pushed ∙ (λ k. c.reserve.ensures.items k ++ c.in_ok-row.ensures k ∷ []))
