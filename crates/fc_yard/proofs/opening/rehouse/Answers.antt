use Rattle.std.proofs.Common.{◌++◌, length, ap, ◌∙◌, subst, arith}
use Rattle.fc_yard.specs.Homes.{homes_of, AllHome}
use Rattle.fc_yard.proofs.Housing.{first_home, moved}
use Rattle.fc_yard.proofs.opening.rehouse.Goals as goal

pub into_part-requires : goal.into_part-requires
into_part-requires g c =
    let first = first_home c.in-Some.stall c.pop_front.new.self.items (subst AllHome c.in-Some.ensures.items c.loop-stall.invariant.home) in
    (first.0, first.1)

pub push_reserved-requires : goal.push_reserved-requires
push_reserved-requires g c =
    let one = ap (λ l. length l) c.in-Some.ensures.items in omega (arith, one, c.loop-stall.invariant.room)

pub loop-stall-smaller : goal.loop-stall-smaller
loop-stall-smaller g c =
    let one = ap (λ l. length l) c.in-Some.ensures.items in omega (arith, one)

pub loop-stall-preserved : goal.loop-stall-preserved
loop-stall-preserved g c =
    let h = c.loop-stall.invariant in let rest = c.pop_front.new.self.items in let pushed = c.push_reserved.ensures in
    let one = ap (λ l. length l) c.in-Some.ensures.items in record {
      home = (first_home c.in-Some.stall rest (subst AllHome c.in-Some.ensures.items h.home)).2;
      kept = ap (λ l. l ++ homes_of rest) pushed.items ∙ moved c.loop-stall.parts.items c.loop-stall.stalls.items rest c.in-Some.stall c.into_part.result c.in-Some.ensures.items c.into_part.ensures ∙ h.kept;
      room = omega (arith, one, pushed.len, pushed.capacity, h.room);
    }
