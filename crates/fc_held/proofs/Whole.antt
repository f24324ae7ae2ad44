-- Disks that a lane gives back have whole grains where they are volumes'.
use Rattle.std.proofs.Common.{◌≡◌, ℕ, ◌<◌, true, false, List, length, get_or, Option, None, sym, ap, subst, ◌∙◌, Contains}
use Rattle.std.specs.List.{All}
use Rattle.std.specs.Prelude.{is_some}
use Rattle.std.proofs.lemmas.List.Elements.{All-append, All-contains_itself}
use Rattle.fc_base.specs.declared.ids.VolId.{VolId}
use Rattle.fc_grains.specs.Grains.{GrainsState}
use Rattle.fc_kept.specs.Disks.{NamedDisk}
use Rattle.fc_recovered.specs.Readying.{HasWholeGrains}
use Rattle.fc_held.specs.Held.{HoldLane}

nameless : (d : NamedDisk) → d.volume ≡ None → is_some d.volume ≡ true → ⊥
nameless d none some =
    let no : false ≡ true = sym (ap (λ (o : Option VolId). is_some o) none) ∙ some in
    absurd cc

pub whole_back : (named : ℕ) (g : GrainsState) (ds : List NamedDisk) → HoldLane named g ds → All (HasWholeGrains g.grain) ds
whole_back named g ds h =
    subst (All (HasWholeGrains g.grain)) (sym h.in_order)
    (All-append (HasWholeGrains g.grain) h.own h.rest (λ k d within is. h.whole k d within)
    (λ k d within is. absurd (nameless (get_or h.rest k d) (h.unnamed (get_or h.rest k d) (All-contains_itself h.rest k d within)) is)))
