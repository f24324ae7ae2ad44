-- The least pool is empty where some pool is.
use Rattle.std.proofs.Common.{◌≡◌, ◌∙◌, sym, ap, ℕ, ◌<◌, true, false, Bool, List, length, ◌==◌, arith}
use Rattle.std.proofs.lemmas.Bool.{eq-eqb}
use Rattle.fc_base.specs.Pools.{Pool, least_of_kind}
use Rattle.fc_base.specs.declared.disk.DiskKind.{DiskKind}
use Rattle.fc_base.specs.declared.fault.Refusal.TheVariants.{NoDisk}
use Rattle.fc_entry.specs.Refused.{where_, lacks_disk}
use Rattle.fc_entry.specs.Volumes.{kind_of}
use Rattle.fc_objects.proofs.Volumes.{least_zero}
use Rattle.fc_objects.proofs.mkvdisk.disk_refusal.Goals as goal

lacks : (kind asked : DiskKind) (pools : List Pool) (n : ℕ) (b : Bool) → kind ≡ asked → 0 < length pools → n ≡ least_of_kind kind pools → (n == 0) ≡ b → b ≡ lacks_disk asked pools
lacks kind asked pools n b same some is test =
    sym test ∙ ap (λ x. x == 0) is ∙ least_zero kind pools some ∙ ap (λ k. lacks_disk k pools) same

pub returns-then-pool-eq0 : goal.returns-then-pool-eq0
returns-then-pool-eq0 g c =
    ap (λ b. where_ b NoDisk)
    (lacks c.kind_of.result (kind_of c.args.thin) (g.S.Sheet.meaning c.args.sheet.now).pools c.pool.result true c.kind_of.ensures c.requires c.pool.ensures (eq-eqb c.pool.result 0 c.if-pool-eq0.true))

pub returns-else-pool-eq0 : goal.returns-else-pool-eq0
returns-else-pool-eq0 g c =
    ap (λ b. where_ b NoDisk)
    (lacks c.kind_of.result (kind_of c.args.thin) (g.S.Sheet.meaning c.args.sheet.now).pools c.pool.result false c.kind_of.ensures c.requires c.pool.ensures (grind (arith, c.if-pool-eq0.false)))
