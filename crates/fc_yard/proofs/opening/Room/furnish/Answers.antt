use Rattle.std.proofs.Common.{ap, sym, ◌∙◌, arith, length, vec_len}
use Rattle.fc_yard.proofs.Sharing.{started}
use Rattle.fc_yard.proofs.Housing.{words_long, home_long, newly_housed, back_again, home_again}
use Rattle.fc_yard.proofs.opening.Room.furnish.Goals as goal

pub new-requires : goal.new-requires
new-requires g c =
    started g.P.Part.fits g.P.Part.sound g.P.Part.count g.P.Part.steps c.args.terms c.as_slice.result.now c.house.new.stalls.items (vec_len c.args.parts) c.args.parts.items
    c.requires.terms.0 c.args.parts.ok.0 (c.as_slice.ensures.value ∙ c.requires.words.0)
    (newly_housed c.house.new.stalls.items c.args.self.stalls.items c.args.parts.items c.from.result.items c.house.ensures c.requires.stalls.0 c.from.ensures.0) c.requires.terms.1 c.requires.terms.2

pub house-requires : goal.house-requires
house-requires g c =
    let moving = ap (λ l. length l) c.from.ensures.0 in let none = ap (λ l. length l) c.requires.stalls.0 in
    omega (arith, moving, none, c.requires.stalls.1, c.args.parts.ok.0, c.args.self.stalls.ok.0)

pub returns-in-Ok-clause-table : goal.returns-in-Ok-clause-table
returns-in-Ok-clause-table g c =
    let made = (c.in-Ok.ensures {u = tt}).ok in
    let filled = newly_housed c.house.new.stalls.items c.args.self.stalls.items c.args.parts.items c.from.result.items c.house.ensures c.requires.stalls.0 c.from.ensures.0 in (
      (
        made.0 ∙ ap (λ l. length l) (c.as_slice.ensures.value ∙ c.requires.words.0) ∙ words_long (vec_len c.args.parts) c.args.terms.first,
        made.1 ∙ ap (λ l. length l) filled ∙ home_long g.row.E.Denot c.args.parts.items ∙ sym c.args.parts.ok.0,
        omega (arith, c.requires.words.1),
      ),
      made.5,
    )

pub returns-in-Ok-clause-seat : goal.returns-in-Ok-clause-seat
returns-in-Ok-clause-seat g c = let made = (c.in-Ok.ensures {u = tt}).ok in (made.2, made.4)

pub rehouse-requires-clause-home : goal.rehouse-requires-clause-home
rehouse-requires-clause-home g c =
    home_again c.args.parts.items c.from-in-Err.result.items
    (c.from-in-Err.ensures.0 ∙ (c.in-Err.ensures {u = tt}).err ∙ newly_housed c.house.new.stalls.items c.args.self.stalls.items c.args.parts.items c.from.result.items c.house.ensures c.requires.stalls.0 c.from.ensures.0)

pub returns-clause-back : goal.returns-clause-back
returns-clause-back g c =
    back_again c.rehouse.new.parts.items c.args.self.back.items c.args.parts.items c.from-in-Err.result.items c.rehouse.ensures c.requires.back.0
    (c.from-in-Err.ensures.0 ∙ (c.in-Err.ensures {u = tt}).err ∙ newly_housed c.house.new.stalls.items c.args.self.stalls.items c.args.parts.items c.from.result.items c.house.ensures c.requires.stalls.0 c.from.ensures.0)
