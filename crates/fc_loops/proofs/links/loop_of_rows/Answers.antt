use Rattle.std.proofs.Common.{◌≡◌, Option, List, ℕ, length, sym, ap, ◌∙◌, subst}
use Rattle.fc_loops.specs.declared.loops.Link.{Link}
use Rattle.fc_loops.specs.Routes.{ToldBy}
use Rattle.fc_loops.specs.Links.{HasLink, AreWithin}
use Rattle.fc_loops.specs.Joins.{AreOldVolumes, AreLinked, AllBelow}
use Rattle.fc_loops.proofs.LoopLinks.{linked_within}
use Rattle.fc_loops.proofs.LoopTold.{named_nodes, none_answers, some_answers, told_in}
use Rattle.fc_loops.proofs.links.loop_of_rows.Goals as goal

pub told_loop-requires : goal.told_loop-requires
told_loop-requires c =
    let l = subst (λ (z : List Link). AreLinked c.args.rows.now c.deref.result.now z (length c.args.rows.now) 0) (sym c.deref-2.ensures.value) c.in_ok-links.ensures in
    subst (λ (z : ℕ). AreWithin c.deref-2.result.now z) (c.deref.ensures.len ∙ sym c.len.ensures) (linked_within c.args.rows.now c.deref.result.now c.deref-2.result.now (length c.args.rows.now) 0 l)

pub returns-in_default : goal.returns-in_default
returns-in_default c =
    let o = subst (λ (z : List ℕ). AreOldVolumes c.args.rows.now z) (sym c.deref.ensures.value) c.in_ok-volumes.ensures in
    let l = subst (λ (z : List Link). AreLinked c.args.rows.now c.deref.result.now z (length c.args.rows.now) 0) (sym c.deref-2.ensures.value) c.in_ok-links.ensures in
    none_answers c.args.rows.now c.deref.result.now c.deref-2.result.now o l (subst (λ (z : Option (List ℕ)). ToldBy (HasLink c.deref-2.result.now) z) c.in_default.is c.in_ok-nodes.ensures)

pub named-requires : goal.named-requires
named-requires c =
    let o = subst (λ (z : List ℕ). AreOldVolumes c.args.rows.now z) (sym c.deref.ensures.value) c.in_ok-volumes.ensures in
    let l = subst (λ (z : List Link). AreLinked c.args.rows.now c.deref.result.now z (length c.args.rows.now) 0) (sym c.deref-2.ensures.value) c.in_ok-links.ensures in
    let b = told_in c.args.rows.now c.deref.result.now c.deref-2.result.now c.in-Some.nodes o l (subst (λ (z : Option (List ℕ)). ToldBy (HasLink c.deref-2.result.now) z) c.in-Some.is c.in_ok-nodes.ensures) in
    let same : length c.deref.result.now ≡ length c.deref-3.result.now = ap length (c.deref.ensures.value ∙ sym c.deref-3.ensures.value) in
    subst (λ (z : ℕ). AllBelow z c.as_slice.result.now) same (subst (λ (z : List ℕ). AllBelow (length c.deref.result.now) z) (sym c.as_slice.ensures) b)

pub returns-in-Ok : goal.returns-in-Ok
returns-in-Ok c =
    let o = subst (λ (z : List ℕ). AreOldVolumes c.args.rows.now z) (sym c.deref.ensures.value) c.in_ok-volumes.ensures in
    let l = subst (λ (z : List Link). AreLinked c.args.rows.now c.deref.result.now z (length c.args.rows.now) 0) (sym c.deref-2.ensures.value) c.in_ok-links.ensures in
    let t = subst (λ (z : Option (List ℕ)). ToldBy (HasLink c.deref-2.result.now) z) c.in-Some.is c.in_ok-nodes.ensures in
    let same : c.deref-3.result.now ≡ c.deref.result.now = c.deref-3.ensures.value ∙ sym c.deref.ensures.value in
    some_answers c.args.rows.now c.deref.result.now c.deref-2.result.now c.in-Some.nodes c.in-Ok.names o l t
    (c.in-Ok.ensures ∙ (ap (λ z. named_nodes z c.as_slice.result.now) same ∙ ap (named_nodes c.deref.result.now) c.as_slice.ensures))
