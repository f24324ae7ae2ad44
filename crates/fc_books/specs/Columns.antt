-- The columns of reports. What there isn't has an empty field.
use Rattle.std.specs.Prelude.{ℕ, ◌*◌, ◌/◌, ◌-◌, Bool, ◌||◌, ◌==◌, cond, List, [], ◌∷◌, count_by, Option, codes, decimal}
use Rattle.std.specs.Option.{option_map_or, option_and_then}
use Rattle.fc_base.specs.Grain.{grain_bytes}
use Rattle.fc_base.specs.Room.{Room, used_in}
use Rattle.fc_base.specs.SheetView.{needed_of}
use Rattle.fc_base.specs.Tables.{Tables, volume_with, mapping_with, group_with, partner_of}
use Rattle.fc_base.specs.declared.disk.DiskKind.{DiskKind}
use Rattle.fc_base.specs.declared.disk.DiskKind.TheVariants.{Flat, Thin}
use Rattle.fc_base.specs.declared.ids.GroupId.{GroupId}
use Rattle.fc_base.specs.declared.ids.MapId.{MapId}
use Rattle.fc_base.specs.declared.ids.VolId.{VolId}
use Rattle.fc_base.specs.declared.size.GrainSize.{GrainSize}
use Rattle.fc_base.specs.declared.state.Access.{Access}
use Rattle.fc_base.specs.declared.state.Access.TheVariants.{Offline}
use Rattle.fc_base.specs.declared.state.MapState.{MapState}
use Rattle.fc_base.specs.declared.state.MapState.TheVariants.{Preparing, Prepared, Copying, Stopping}
use Rattle.fc_base.specs.declared.volume.Group.{Group}
use Rattle.fc_base.specs.declared.volume.Mapping.{Mapping}
use Rattle.fc_base.specs.declared.volume.Volume.{Volume}
use Rattle.fc_books.specs.Accesses.{access_in}
use Rattle.fc_books.specs.Books.{Books}
use Rattle.fc_books.specs.Copies.{held, total}
use Rattle.fc_books.specs.Groups.{group_state}
use Rattle.fc_books.specs.Layout.{ReportColumn, report_column}
use Rattle.fc_entry.specs.Text.{state_text}

abbrev pub text_or_none : {X : Type 0} → (X → List ℕ) → Option X → List ℕ
text_or_none text o = option_map_or text o []

-- ---- a mapping

-- In percent, rounded down.
abbrev pub percent : ℕ → ℕ → ℕ
percent part whole = 100 * part / whole

-- How many grains are copied: those that the target holds now while it is copying, none while it is being prepared or
-- prepared, else those that it held when the mapping last left copying.
abbrev pub copied_in : MapState → Books → Mapping → ℕ
copied_in Copying b m = held b m
copied_in Preparing b m = 0
copied_in Prepared b m = 0
copied_in state b m = m.held_at_leave

abbrev pub progress : Books → Mapping → ℕ
progress b m = percent (copied_in m.state b m) (total b m)

-- How much of the target nobody needs; all of it where the mapping is neither copying nor stopping.
abbrev pub unneeded : Books → Mapping → ℕ
unneeded b m = percent (total b m - needed_of b.sheet.slots m.id.0) (total b m)

abbrev pub cleaned_in : MapState → Books → Mapping → ℕ
cleaned_in Copying b m = unneeded b m
cleaned_in Stopping b m = unneeded b m
cleaned_in state b m = 100

abbrev pub name_of_volume : Tables → VolId → List ℕ
name_of_volume t v = text_or_none (λ (x : Volume). x.name) (volume_with t v)

abbrev pub name_of_group : Tables → Option GroupId → List ℕ
name_of_group t g = text_or_none (λ (x : Group). x.name) (option_and_then (group_with t) g)

abbrev pub name_of_mapping : Tables → Option MapId → List ℕ
name_of_mapping t m = text_or_none (λ (x : Mapping). x.name) (option_and_then (mapping_with t) m)

abbrev pub mapping_columns : Books → List (ReportColumn Mapping)
mapping_columns b =
    report_column (codes "id") (λ m. decimal m.id.0)
    ∷ report_column (codes "name") (λ m. m.name)
    ∷ report_column (codes "source_vdisk_id") (λ m. decimal m.source.0)
    ∷ report_column (codes "source_vdisk_name") (λ m. name_of_volume b.tables m.source)
    ∷ report_column (codes "target_vdisk_id") (λ m. decimal m.target.0)
    ∷ report_column (codes "target_vdisk_name") (λ m. name_of_volume b.tables m.target)
    ∷ report_column (codes "group_id") (λ m. text_or_none (λ (g : GroupId). decimal g.0) m.group)
    ∷ report_column (codes "group_name") (λ m. name_of_group b.tables m.group)
    ∷ report_column (codes "status") (λ m. state_text m.state)
    ∷ report_column (codes "progress") (λ m. decimal (progress b m))
    ∷ report_column (codes "copy_rate") (λ m. decimal m.copy_rate)
    ∷ report_column (codes "clean_progress") (λ m. decimal (cleaned_in m.state b m))
    ∷ report_column (codes "incremental") (λ m. cond m.incremental (codes "on") (codes "off"))
    ∷ report_column (codes "partner_FC_id") (λ m. text_or_none (λ (p : MapId). decimal p.0) (partner_of b.tables m.id))
    ∷ report_column (codes "partner_FC_name") (λ m. name_of_mapping b.tables (partner_of b.tables m.id))
    ∷ report_column (codes "restoring") (λ m. cond m.restoring (codes "yes") (codes "no"))
    ∷ []

abbrev pub progress_columns : Books → List (ReportColumn Mapping)
progress_columns b = report_column (codes "id") (λ m. decimal m.id.0) ∷ report_column (codes "progress") (λ m. decimal (progress b m)) ∷ []

abbrev pub dependent_columns : List (ReportColumn Mapping)
dependent_columns = report_column (codes "fc_id") (λ m. decimal m.id.0) ∷ report_column (codes "fc_name") (λ m. m.name) ∷ []

-- ---- a group

abbrev pub group_columns : Tables → List (ReportColumn Group)
group_columns t =
    report_column (codes "id") (λ g. decimal g.id.0)
    ∷ report_column (codes "name") (λ g. g.name)
    ∷ report_column (codes "status") (λ g. state_text (group_state t g.id))
    ∷ []

-- ---- a volume

abbrev pub access_text : Access → List ℕ
access_text (Offline map state) = codes "offline"
access_text access = codes "online"

-- Whether the mapping has the volume as source or target.
abbrev pub copies_volume : VolId → Mapping → Bool
copies_volume v m = (m.source.0 == v.0) || (m.target.0 == v.0)

abbrev pub volume_columns : GrainSize → Tables → List (ReportColumn Volume)
volume_columns grain t =
    report_column (codes "id") (λ v. decimal v.id.0)
    ∷ report_column (codes "name") (λ v. v.name)
    ∷ report_column (codes "status") (λ v. access_text (access_in t v.id))
    ∷ report_column (codes "capacity") (λ v. decimal (v.grains * grain_bytes grain))
    ∷ report_column (codes "fc_map_count") (λ v. decimal (count_by (copies_volume v.id) t.mappings))
    ∷ []

abbrev pub disk_kind_text : DiskKind → List ℕ
disk_kind_text Flat = codes "flat"
disk_kind_text Thin = codes "thin"

abbrev pub room_columns : List Room → List (ReportColumn Volume)
room_columns rooms =
    report_column (codes "id") (λ v. decimal v.id.0)
    ∷ report_column (codes "name") (λ v. v.name)
    ∷ report_column (codes "kind") (λ v. disk_kind_text v.kind)
    ∷ report_column (codes "used") (λ v. decimal (used_in rooms v.id.0))
    ∷ report_column (codes "grains") (λ v. decimal v.grains)
    ∷ []
