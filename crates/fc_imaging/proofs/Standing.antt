-- What the parts say of what a store stands for.
use Rattle.std.proofs.Common.{◌≡◌, List, ap, ◌∙◌}
use Rattle.std.specs.Prelude.{Result, Ok, Err, IfOk}
use Rattle.fc_base.specs.SheetView.{SheetView}
use Rattle.fc_desk.specs.Control.{ControlState}
use Rattle.fc_image.specs.declared.image.MetaImage.{MetaImage}
use Rattle.fc_imaging.specs.Imaging.{lost_grains, kept_of, kept_by_parts}
use Rattle.fc_kept.specs.Images.{meta_of}
use Rattle.fc_lane.specs.Lane.{LaneView}
use Rattle.fc_legal.specs.Whole.{Whole}
use Rattle.fc_stands.specs.Phase.{StandsAt}
use Rattle.fc_stands.specs.Store.{StoreView, StandsFor}
use Rattle.fc_stands.proofs.CommandSheet.{all_rows_are, view_is}

pub parts_are : (s : StoreView) (w : Whole) → StandsFor s w → kept_by_parts s.control s.lanes ≡ kept_of w (lost_grains s.lanes w.books.tables.volumes)
parts_are s w st =
    let at : StandsAt st.decisions s w = record { control = st.control; count = st.count; each = st.each; stands = st.stands; calls = st.calls } in
    let seen = ap (λ (v : SheetView). v.sheet) (view_is st.decisions s w at) in
    let rows = all_rows_are st.decisions s w at in
    λ i. record {
      tables = st.control.tables i;
      next_volume = st.control.next_volume i;
      next_mapping = st.control.next_mapping i;
      next_group = st.control.next_group i;
      sheet = seen i;
      rows = rows i;
      lost = lost_grains s.lanes (st.control.tables i).volumes;
    }

-- So an image of the parts says it.
pub image_says : {E : Type 0} (r : Result MetaImage E) (c : ControlState) (lanes : List LaneView) → IfOk r (λ image. image ≡ meta_of (kept_by_parts c lanes)) →
    IfOk r (λ image. (w : Whole) → StandsFor (record { control = c; lanes = lanes }) w → image ≡ meta_of (kept_of w (lost_grains lanes w.books.tables.volumes)))
image_says (Ok image) c lanes is = λ w st. is ∙ ap meta_of (parts_are (record { control = c; lanes = lanes }) w st)
image_says (Err error) c lanes is = is
