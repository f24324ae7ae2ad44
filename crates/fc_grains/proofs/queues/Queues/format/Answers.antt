use Rattle.std.proofs.Common.{◌<◌, ◌∙◌, length, map}
use Rattle.std.proofs.lemmas.Result.{on_ok_weaker, on_err_weaker}
use Rattle.fc_grains.proofs.Queueing.{flat_formatted, thin_formatted, list_formatted, list_same}
use Rattle.fc_grains.proofs.queues.Queues.format.Goals as goal

pub invariant_of-self : goal.invariant_of-self
invariant_of-self g c =
    let within : c.args.place < length (map g.D.Mdisk.meaning c.self.inside.flat.items) = rw (c.in-Flat.is, ← c.self.view_is) at c.requires in
    flat_formatted g.D.Mdisk.meaning _ _ _ _ within c.index_mut.ensures.value c.format.result _ _ c.format.ensures.ok c.format.ensures.err _ c.self.invariant

pub invariant_of-self-in-Thin : goal.invariant_of-self-in-Thin
invariant_of-self-in-Thin g c =
    let within : c.args.place < length (map g.D.Mdisk.meaning c.self.inside.thin.items) = rw (c.in-Thin.is, ← c.self.view_is) at c.requires in
    thin_formatted g.D.Mdisk.meaning _ _ _ _ within c.index_mut-in-Thin.ensures.value c.format-in-Thin.result _ _ c.format-in-Thin.ensures.ok c.format-in-Thin.ensures.err _ c.self.invariant

pub returns-in-Flat-clause-ok : goal.returns-in-Flat-clause-ok
returns-in-Flat-clause-ok g c =
    let within : c.args.place < length (map g.D.Mdisk.meaning c.self.inside.flat.items) = rw (c.in-Flat.is, ← c.self.view_is) at c.requires in
    rw (c.in-Flat.is, ← c.self.view_is)
    (on_ok_weaker c.format.result
    (λ done. (λ k. record { flat = list_formatted g.D.Mdisk.meaning c.self.inside.flat.items c.args.place c.index_mut.result.now c.format.new.self within c.index_mut.ensures.value c.args.grains c.args.bytes done k; thin = map g.D.Mdisk.meaning c.self.inside.thin.items }))
    c.format.ensures.ok)

pub returns-in-Flat-clause-err : goal.returns-in-Flat-clause-err
returns-in-Flat-clause-err g c =
    let within : c.args.place < length (map g.D.Mdisk.meaning c.self.inside.flat.items) = rw (c.in-Flat.is, ← c.self.view_is) at c.requires in
    on_err_weaker c.format.result
    (λ same. (λ k. record { flat = list_same g.D.Mdisk.meaning c.self.inside.flat.items c.args.place c.index_mut.result.now c.format.new.self within c.index_mut.ensures.value same k; thin = map g.D.Mdisk.meaning c.self.inside.thin.items }) ∙ c.self.view_is)
    c.format.ensures.err

pub returns-in-Thin-clause-ok : goal.returns-in-Thin-clause-ok
returns-in-Thin-clause-ok g c =
    let within : c.args.place < length (map g.D.Mdisk.meaning c.self.inside.thin.items) = rw (c.in-Thin.is, ← c.self.view_is) at c.requires in
    rw (c.in-Thin.is, ← c.self.view_is)
    (on_ok_weaker c.format-in-Thin.result
    (λ done. (λ k. record { flat = map g.D.Mdisk.meaning c.self.inside.flat.items; thin = list_formatted g.D.Mdisk.meaning c.self.inside.thin.items c.args.place c.index_mut-in-Thin.result.now c.format-in-Thin.new.self within c.index_mut-in-Thin.ensures.value c.args.grains c.args.bytes done k }))
    c.format-in-Thin.ensures.ok)

pub returns-in-Thin-clause-err : goal.returns-in-Thin-clause-err
returns-in-Thin-clause-err g c =
    let within : c.args.place < length (map g.D.Mdisk.meaning c.self.inside.thin.items) = rw (c.in-Thin.is, ← c.self.view_is) at c.requires in
    on_err_weaker c.format-in-Thin.result
    (λ same. (λ k. record { flat = map g.D.Mdisk.meaning c.self.inside.flat.items; thin = list_same g.D.Mdisk.meaning c.self.inside.thin.items c.args.place c.index_mut-in-Thin.result.now c.format-in-Thin.new.self within c.index_mut-in-Thin.ensures.value same k }) ∙ c.self.view_is)
    c.format-in-Thin.ensures.err
