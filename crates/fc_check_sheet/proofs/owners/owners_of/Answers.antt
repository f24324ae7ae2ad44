use Rattle.std.proofs.Common.{List, ◌+◌, sym, subst}
use Rattle.std.proofs.lemmas.Bool.{both_ways}
use Rattle.fc_base.specs.declared.ids.MapId.{MapId}
use Rattle.fc_check_sheet.proofs.Owning.{OwnersAmong, owner_taken, owner_passed, all_owners}
use Rattle.fc_check_sheet.proofs.owners.owners_of.Goals as goal
use Rattle.fc_check_sheet.proofs.owners.owners_of.Goals.{then-is_owner+in_ok-push, else-is_owner}

pub loop-mapping-preserved : goal.loop-mapping-preserved
loop-mapping-preserved c =
    let P : List MapId → Type 0 = λ z. OwnersAmong c.args.sheet.now.slots c.args.places.now c.args.mappings.now (c.loop-mapping.mapping-index + 1) z in
    elim c.if-is_owner.branch [
      | then-is_owner+in_ok-push w ↦ subst P (sym w.maps-is) (owner_taken c.args.sheet.now.slots c.args.places.now c.args.mappings.now c.loop-mapping.mapping-index c.mapping-item.result c.loop-mapping.maps w.push.new.self c.requires
          c.loop-mapping-test.true c.mapping-item.is (c.is_owner.ensures.0 w.if-is_owner.true) w.in_ok-push.ensures.ok c.loop-mapping.invariant)
      | else-is_owner w ↦ subst P (sym w.maps-is) (owner_passed c.args.sheet.now.slots c.args.places.now c.args.mappings.now c.loop-mapping.mapping-index c.mapping-item.result c.loop-mapping.maps c.loop-mapping-test.true c.mapping-item.is
          (λ o. both_ways c.is_owner.result w.if-is_owner.false (c.is_owner.ensures.1 o)) c.loop-mapping.invariant)
    ]

pub returns : goal.returns
returns c = all_owners c.args.sheet.now.slots c.args.places.now c.args.mappings.now c.loop-mapping.mapping-index c.loop-mapping.maps c.requires c.loop-mapping-test.false c.loop-mapping.invariant
