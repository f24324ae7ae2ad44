use Rattle.std.proofs.Common.{◌∙◌, ℕ, length, map, ap, sym, arith}
use Rattle.std.proofs.lemmas.List.{length-map}
use Rattle.std.proofs.lemmas.Result.{on_ok_weaker, on_err_weaker}
use Rattle.fc_mdisk.specs.Disks.{formatted_at}
use Rattle.fc_grains.specs.Grains.{free_place}
use Rattle.fc_grains.specs.Parts.{disks_of, left_of, new_of}
use Rattle.fc_grains.proofs.Moving.{coming_by, has_readied, kept_reserved, on_ok_at, state_refused}
use Rattle.fc_grains.proofs.grains.Grains.reserve.Goals as goal

pub invariant_of-self-2 : goal.invariant_of-self-2
invariant_of-self-2 g c =
    let room = on_ok_at c.reserve.result (sym c.is_err.ensures.value ∙ c.if-is_err.false) c.reserve.ensures.ok in
    let room_aside = on_ok_at c.reserve-2.result (sym c.is_err-2.ensures.value ∙ c.if-is_err-2.false) c.reserve-2.ensures.ok in
    kept_reserved c.self.inside.grain c.self.inside.volumes.items c.reserve.new.self.items c.self.inside.pool c.reserve-3.new.self (map g.D.Mdisk.meaning c.self.inside.aside.items) (map g.D.Mdisk.meaning c.reserve-2.new.self.items) c.self.inside.buffer.items c.self.inside.sums
    c.reserve.ensures.items (ap (map g.D.Mdisk.meaning) c.reserve-2.ensures.items) c.reserve-3.ensures.disks c.self.inside.volumes.cap c.reserve.new.self.cap c.self.inside.aside.cap c.reserve-2.new.self.cap c.self.invariant c.reserve-3.ensures.bytes
    (coming_by c.reserve-3.result _ _ _ c.reserve-3.ensures.ok c.reserve-3.ensures.err)
    (omega (arith, room, c.reserved-coming.ensures.count, c.reserve.new.self.ok.0, ap length c.reserve.ensures.items))
    (omega (
      arith,
      room_aside,
      c.reserved-coming.ensures.count,
      c.len.ensures,
      c.reserve.new.self.ok.0,
      ap length c.reserve.ensures.items,
      c.reserve-2.new.self.ok.0,
      ap length c.reserve-2.ensures.items,
      length-map c.self.inside.aside.items g.D.Mdisk.meaning,
    ))

pub returns-clause-ok : goal.returns-clause-ok
returns-clause-ok g c =
    rw (← c.self.view_is)
    (on_ok_weaker c.reserve-3.result
    (λ done. has_readied c.self.inside.grain c.self.inside.volumes.items c.reserve.new.self.items c.self.inside.pool c.reserve-3.new.self (map g.D.Mdisk.meaning c.self.inside.aside.items) (map g.D.Mdisk.meaning c.reserve-2.new.self.items) c.self.inside.buffer.items c.self.inside.sums
    c.reserve.ensures.items (ap (map g.D.Mdisk.meaning) c.reserve-2.ensures.items) c.reserve-3.ensures.disks _ done c.reserve-3.ensures.left c.reserve-3.ensures.cleared)
    c.reserve-3.ensures.ok)

pub returns-clause-formatted : goal.returns-clause-formatted
returns-clause-formatted g c =
    rw (← c.self.view_is)
    (on_ok_weaker c.reserve-3.result
    (λ done. done ∙ ap (λ (n : ℕ). formatted_at (free_place c.args.kind (map new_of c.self.inside.pool.reserved) (left_of c.self.inside.pool)) c.args.grains n (disks_of c.self.inside.pool)) c.self.invariant.pool_size)
    c.reserve-3.ensures.formatted)

pub returns-clause-err : goal.returns-clause-err
returns-clause-err g c =
    rw (← c.self.view_is)
    (on_err_weaker c.reserve-3.result
    (λ same. state_refused c.self.inside.grain c.self.inside.volumes.items c.reserve.new.self.items c.self.inside.pool c.reserve-3.new.self (map g.D.Mdisk.meaning c.self.inside.aside.items) (map g.D.Mdisk.meaning c.reserve-2.new.self.items) c.self.inside.buffer.items c.self.inside.sums
    c.reserve.ensures.items (ap (map g.D.Mdisk.meaning) c.reserve-2.ensures.items) c.reserve-3.ensures.disks same)
    c.reserve-3.ensures.err)
