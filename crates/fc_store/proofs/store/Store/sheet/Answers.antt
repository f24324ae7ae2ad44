use Rattle.std.proofs.Common.{◌≡◌, List, ap, subst, ◌∙◌}
use Rattle.fc_base.specs.Tables.{Tables}
use Rattle.fc_base.specs.declared.volume.Volume.{Volume}
use Rattle.fc_lane_sheet.specs.LaneSheet.{AreCountable}
use Rattle.fc_stands.specs.Store.{StoreView}
use Rattle.fc_stands.proofs.AskedSheet.{asked_of}
use Rattle.fc_store.proofs.store.Store.sheet.Goals as goal

pub new-requires : goal.new-requires
new-requires g c =
    let P : List Volume → Type 0 = λ z. AreCountable z in
    let volumes : c.all_volumes.result.now ≡ c.args.self.now.control.tables.volumes =
    c.all_volumes.ensures.value
    ∙ (ap (λ (t : Tables). t.volumes) c.registry.ensures
    ∙ ap (λ (s : StoreView). s.control.tables.volumes) c.self.view_is) in
    asked_of c.args.self.now c.requires.stands (subst P volumes c.count_all_grains.ensures) c.as_slice.result.now c.all_mappings.result.now
    (c.as_slice.ensures.value ∙ ap (λ (s : StoreView). s.lanes) c.self.view_is)
    (c.all_mappings.ensures.value
    ∙ (ap (λ (t : Tables). t.mappings) c.registry-2.ensures
    ∙ ap (λ (s : StoreView). s.control.tables.mappings) c.self.view_is))
