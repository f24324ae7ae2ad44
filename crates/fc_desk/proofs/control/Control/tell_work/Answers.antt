use Rattle.std.proofs.Common.{arith, ◌∙◌, ap, List}
use Rattle.std.proofs.lemmas.List.{take_all}
use Rattle.fc_base.specs.Tables.{Tables}
use Rattle.fc_base.specs.declared.volume.Mapping.{Mapping}
use Rattle.fc_books.specs.Books.{told, all_deeds, ◌then◌}
use Rattle.fc_desk.specs.Control.{books_of}
use Rattle.fc_desk.specs.Telling.{work_told}
use Rattle.fc_desk.proofs.Deeds.{all_deeds-more}
use Rattle.fc_desk.proofs.control.Control.tell_work.Goals as goal

pub loop-mapping-preserved : goal.loop-mapping-preserved
loop-mapping-preserved g c =
    grind (
      arith,
      all_deeds-more c.args.draft (λ (m : Mapping). told (work_told (books_of c.args.self.now (g.S.Sheet.meaning c.args.sheet.now)) c.args.gone m)) c.all_mappings-mapping-items.result.now c.loop-mapping.mapping-index c.mapping-item.result c.loop-mapping-test.true,
    )

pub returns : goal.returns
returns g c =
    c.loop-mapping.invariant
    ∙ ap (λ (ms : List Mapping). c.args.draft then all_deeds (λ (m : Mapping). told (work_told (books_of c.args.self.now (g.S.Sheet.meaning c.args.sheet.now)) c.args.gone m)) ms)
    (take_all c.loop-mapping.mapping-index c.all_mappings-mapping-items.result.now (omega (arith, c.loop-mapping-test.false))
    ∙ c.all_mappings-mapping-items.ensures.value
    ∙ ap (λ (t : Tables). t.mappings) c.registry.ensures)
