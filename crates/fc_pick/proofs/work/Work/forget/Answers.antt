use Rattle.std.proofs.Common.{rules}
use Rattle.std.proofs.lemmas.Fn.{filter_same}
use Rattle.fc_pick.proofs.Rows.{forgotten_rising, forgotten_flags, forgotten_numbers}
use Rattle.fc_pick.proofs.work.Work.forget.Goals as goal

pub invariant_of-self : goal.invariant_of-self
invariant_of-self c =
    forgotten_rising c.args.map c.retain.new.self.items c.self.inside.rows.items c.self.invariant (filter_same _ _ _ (λ x b f' k. search rules) _ _ c.retain.ensures.filtered)

pub returns-clause-flags : goal.returns-clause-flags
returns-clause-flags c =
    forgotten_flags c.args.map c.retain.new.self.items c.self.inside.rows.items c.args.self.now c.self.view_is (filter_same _ _ _ (λ x b f' k. search rules) _ _ c.retain.ensures.filtered)

pub returns-clause-numbers : goal.returns-clause-numbers
returns-clause-numbers c =
    forgotten_numbers c.args.map c.retain.new.self.items c.self.inside.rows.items c.args.self.now c.self.view_is (filter_same _ _ _ (λ x b f' k. search rules) _ _ c.retain.ensures.filtered)
