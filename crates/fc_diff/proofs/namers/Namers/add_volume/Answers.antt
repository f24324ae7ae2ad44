use Rattle.std.proofs.Common.{◌≡◌, ◌∙◌, ap, position, nat_eq, None, ◌++◌, ◌∷◌, [], true}
use Rattle.fc_diff.specs.Index.{Listing, is_listed}
use Rattle.fc_diff.proofs.Naming.{same_by_coming, here_by_coming, kept_by_coming, inserted, listed_last}
use Rattle.fc_diff.proofs.namers.Namers.add_volume.Goals as goal

pub invariant_of-self-2 : goal.invariant_of-self-2
invariant_of-self-2 c =
    let missed : position (nat_eq c.args.volume) c.self.inside.volumes.keys ≡ None = ap (λ (s : Listing). position (nat_eq c.args.volume) s.volumes) c.self.view_is ∙ c.requires in
    let grew = c.in-Ok-insert.ensures.keys ∙ inserted c.self.inside.volumes.keys c.args.volume missed in
    let grew_too = rw c.unwrap.ensures at c.push-2.ensures.items in
    same_by_coming c.self.inside.volumes.keys c.self.inside.lists.items c.args.self.now c.self.view_is c.self.invariant c.args.volume missed c.push.new.self
    c.insert.new.self.keys c.push-2.new.self.items grew (grew_too ∙ ap (λ ls. ls ++ c.push.new.self ∷ []) c.reserve.ensures.items)

pub returns-clause-added : goal.returns-clause-added
returns-clause-added c =
    let missed : position (nat_eq c.args.volume) c.self.inside.volumes.keys ≡ None = ap (λ (s : Listing). position (nat_eq c.args.volume) s.volumes) c.self.view_is ∙ c.requires in
    let grew = c.in-Ok-insert.ensures.keys ∙ inserted c.self.inside.volumes.keys c.args.volume missed in
    let grew_too = rw c.unwrap.ensures at c.push-2.ensures.items in
    let listed : is_listed c.args.map c.push.new.self.items ≡ true = ap (is_listed c.args.map) (c.in-Ok.ensures.items ∙ ap (λ xs. xs ++ c.args.map ∷ []) c.new-list.ensures.items) ∙ listed_last c.args.map [] in
    here_by_coming c.self.inside.volumes.keys c.self.inside.lists.items c.args.self.now c.self.view_is c.self.invariant c.args.volume missed c.push.new.self
    c.insert.new.self.keys c.push-2.new.self.items grew (grew_too ∙ ap (λ ls. ls ++ c.push.new.self ∷ []) c.reserve.ensures.items) c.args.map listed

pub returns-clause-kept : goal.returns-clause-kept
returns-clause-kept c =
    let missed : position (nat_eq c.args.volume) c.self.inside.volumes.keys ≡ None = ap (λ (s : Listing). position (nat_eq c.args.volume) s.volumes) c.self.view_is ∙ c.requires in
    let grew = c.in-Ok-insert.ensures.keys ∙ inserted c.self.inside.volumes.keys c.args.volume missed in
    let grew_too = rw c.unwrap.ensures at c.push-2.ensures.items in
    kept_by_coming c.self.inside.volumes.keys c.self.inside.lists.items c.args.self.now c.self.view_is c.self.invariant c.args.volume missed c.push.new.self
    c.insert.new.self.keys c.push-2.new.self.items grew (grew_too ∙ ap (λ ls. ls ++ c.push.new.self ∷ []) c.reserve.ensures.items)
