use Rattle.std.proofs.Common.{◌≡◌, ◌∙◌, sym}
use Rattle.fc_base.specs.declared.disk.DiskKind.TheVariants.{Flat, Thin}
use Rattle.fc_mdisk.specs.Disk.{DiskState}
use Rattle.fc_grains.specs.Grains.{IsUnarmed}
use Rattle.fc_grains.proofs.Queueing.{flat_taken, thin_taken, first_has}
use Rattle.fc_grains.proofs.queues.Queues.take_first.Goals as goal

pub invariant_of-self : goal.invariant_of-self
invariant_of-self g c = flat_taken g.D.Mdisk.meaning _ _ _ c.in-Some.ensures.items _ c.self.invariant

pub invariant_of-self-in-Thin : goal.invariant_of-self-in-Thin
invariant_of-self-in-Thin g c = thin_taken g.D.Mdisk.meaning _ _ _ c.in-Some-pop_front.ensures.items _ c.self.invariant

pub returns-in-Some-clause-kind : goal.returns-in-Some-clause-kind
returns-in-Some-clause-kind g c = first_has g.D.Mdisk.meaning _ _ _ c.in-Some.ensures.items (λ (d : DiskState). d.kind ≡ Flat) c.self.invariant.all_flat ∙ sym c.in-Flat.is

pub returns-in-Some-clause-unarmed : goal.returns-in-Some-clause-unarmed
returns-in-Some-clause-unarmed g c = first_has g.D.Mdisk.meaning _ _ _ c.in-Some.ensures.items IsUnarmed c.self.invariant.flat_unarmed

pub returns-in-Some-pop_front-clause-kind : goal.returns-in-Some-pop_front-clause-kind
returns-in-Some-pop_front-clause-kind g c = first_has g.D.Mdisk.meaning _ _ _ c.in-Some-pop_front.ensures.items (λ (d : DiskState). d.kind ≡ Thin) c.self.invariant.all_thin ∙ sym c.in-Thin.is

pub returns-in-Some-pop_front-clause-unarmed : goal.returns-in-Some-pop_front-clause-unarmed
returns-in-Some-pop_front-clause-unarmed g c = first_has g.D.Mdisk.meaning _ _ _ c.in-Some-pop_front.ensures.items IsUnarmed c.self.invariant.thin_unarmed
