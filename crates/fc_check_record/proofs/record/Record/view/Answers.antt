use Rattle.std.proofs.Common.{◌≡◌, ap, ◌∙◌}
use Rattle.fc_base.specs.Tables.{Tables}
use Rattle.fc_check_lane.specs.Known.{Known}
use Rattle.fc_check_record.proofs.Deciding.{are_listed, are_small}
use Rattle.fc_check_record.specs.Judged.{Judged}
use Rattle.fc_check_sheet.specs.View.{pools_of}
use Rattle.fc_check_record.proofs.record.Record.view.Goals as goal

pub new-requires : goal.new-requires
new-requires c =
    let j = c.args.self.now in
    let sheet : c.known.inside.sheet ≡ j.whole.books.sheet = ap (λ (k : Known). k.sheet) c.known.view_is ∙ ap (λ (j : Judged). j.whole.books.sheet) c.self.view_is in
    record {
      small = are_small c.known.inside.sheet j.whole.books.sheet c.self.inside.kept.rows j.whole.rows sheet (ap (λ (j : Judged). j.whole.rows) c.self.view_is) c.requires.small;
      listed = are_listed j.whole.books c.known.inside.sheet c.all_mappings-mappings.result.now c.requires.sound sheet
          (c.all_mappings-mappings.ensures.value ∙ (ap (λ (t : Tables). t.mappings) c.registry.ensures ∙ ap (λ (j : Judged). j.whole.books.tables.mappings) c.self.view_is));
    }

pub returns : goal.returns
returns c =
    let sheet = ap (λ (k : Known). k.sheet) c.known.view_is ∙ ap (λ (j : Judged). j.whole.books.sheet) c.self.view_is in
    let rows = ap (λ (j : Judged). j.whole.rows) c.self.view_is in
    let pools = ap pools_of c.as_slice.ensures.value ∙ ap (λ (j : Judged). j.whole.books.pools) c.self.view_is in
    let rooms = ap (λ (j : Judged). j.whole.books.rooms) c.self.view_is in
    c.new.ensures ∙ (λ i. record { sheet = sheet i; rows = rows i; pools = pools i; rooms = rooms i })
