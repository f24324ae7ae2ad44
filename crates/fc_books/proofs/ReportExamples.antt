-- Reports, on closed examples.
use Rattle.std.proofs.Common.{◌≡◌, true, false, Some, None, List, [], ◌∷◌, codes, refl}
use Rattle.fc_base.specs.Column.{first_below, last_below, holder, first_reader}
use Rattle.fc_base.specs.Room.{reach}
use Rattle.fc_base.specs.Sheet.{Sheet, no_slots, live_place, mapping_place}
use Rattle.fc_base.specs.declared.command.Command.TheVariants.{Lsfcmap, Lsfcconsistgrp, Lsvdisk, Lsfcmapprogress, Lsfcmapdependentmaps, Lsvdiskroom}
use Rattle.fc_base.specs.declared.disk.DiskKind.TheVariants.{Thin}
use Rattle.fc_base.specs.declared.name.Ref.TheVariants.{Id, Name}
use Rattle.fc_base.specs.declared.size.GrainSize.TheVariants.{K64, K256}
use Rattle.fc_base.specs.declared.state.MapState.TheVariants.{IdleOrCopied, Copying, Stopping, Stopped}
use Rattle.fc_base.specs.declared.volume.Mapping.{Mapping}
use Rattle.fc_base.specs.declared.volume.Volume.{Volume}
use Rattle.fc_books.specs.After.{after_deed}
use Rattle.fc_books.specs.Books.{Books}
use Rattle.fc_books.specs.Copies.{dependents}
use Rattle.fc_books.specs.Making.{make_volume, remove_volume}
use Rattle.fc_books.specs.Reports.{report_rows}
use Rattle.fc_books.proofs.Examples.{volume, mapping, slot, old, books, no_restarts, two, apart}
use Rattle.std.specs.Fmt.{digits}

-- ---- a mapping that was copied, in a group, and one in the other direction

abbrev night : Mapping
night =
    record (mapping 0 (codes "nightly") 0 1 IdleOrCopied) {
      copy_rate = 50;
      incremental = true;
      held_at_leave = 2;
      complete = true;
      group = Some record { 0 = 1 };
    }

abbrev nights : Books
nights =
    record (books two (night ∷ mapping 12 (codes "back") 1 0 Stopped ∷ []) apart []) {
      tables =
          record {
            volumes = two;
            mappings = night ∷ mapping 12 (codes "back") 1 0 Stopped ∷ [];
            groups = record { id = record { 0 = 1 }; name = codes "G" } ∷ record { id = record { 0 = 2 }; name = codes "none" } ∷ [];
          };
    }

all_mappings :
    report_rows K256 nights (Lsfcmap None (Some 58))
    ≡ codes "id:name:source_vdisk_id:source_vdisk_name:target_vdisk_id:target_vdisk_name:group_id:group_name:status:progress:copy_rate:clean_progress:incremental:partner_FC_id:partner_FC_name:restoring"
    ∷ codes "0:nightly:0:A:1:B:1:G:idle_or_copied:100:50:100:on:12:back:no"
    ∷ codes "12:back:1:B:0:A:::stopped:0:0:100:off:0:nightly:no"
    ∷ []
unfolding first_below live_place mapping_place report_rows digits
all_mappings = refl

one_mapping :
    report_rows K256 nights (Lsfcmap (Some (Id 12)) None)
    ≡ codes "id 12"
    ∷ codes "name back"
    ∷ codes "source_vdisk_id 1"
    ∷ codes "source_vdisk_name B"
    ∷ codes "target_vdisk_id 0"
    ∷ codes "target_vdisk_name A"
    ∷ codes "group_id "
    ∷ codes "group_name "
    ∷ codes "status stopped"
    ∷ codes "progress 0"
    ∷ codes "copy_rate 0"
    ∷ codes "clean_progress 100"
    ∷ codes "incremental off"
    ∷ codes "partner_FC_id 0"
    ∷ codes "partner_FC_name nightly"
    ∷ codes "restoring no"
    ∷ []
unfolding first_below live_place mapping_place report_rows digits
one_mapping = refl

all_groups :
    report_rows K256 nights (Lsfcconsistgrp None None)
    ≡ codes "id name status"
    ∷ codes "1  G    idle_or_copied"
    ∷ codes "2  none empty"
    ∷ []
unfolding first_below live_place mapping_place report_rows digits
all_groups = refl

one_group : report_rows K256 nights (Lsfcconsistgrp (Some (Name (codes "G"))) (Some 44)) ≡ codes "id,1" ∷ codes "name,G" ∷ codes "status,idle_or_copied" ∷ []
unfolding first_below live_place mapping_place report_rows digits
one_group = refl

all_volumes :
    report_rows K256 nights (Lsvdisk None)
    ≡ codes "id name status  capacity fc_map_count"
    ∷ codes "0  A    offline 524288   2"
    ∷ codes "1  B    online  524288   2"
    ∷ []
unfolding first_below live_place mapping_place report_rows digits
all_volumes = refl

no_mappings : report_rows K64 (books two [] apart []) (Lsfcmap None (Some 58)) ≡ codes "id:name:source_vdisk_id:source_vdisk_name:target_vdisk_id:target_vdisk_name:group_id:group_name:status:progress:copy_rate:clean_progress:incremental:partner_FC_id:partner_FC_name:restoring" ∷ []
unfolding first_below live_place mapping_place report_rows digits
no_mappings = refl

-- ---- a mapping that is stopped while another one reads from its target

abbrev three : List Volume
three = volume 0 (codes "A") 2 ∷ volume 1 (codes "B") 2 ∷ volume 2 (codes "C") 3 ∷ []

abbrev cascade : Sheet
cascade =
    record {
      births = 5;
      slots =
          slot 0 0 0 None (true ∷ true ∷ [])
          ∷ old (slot 3 0 1 (Some 0) (true ∷ false ∷ []))
          ∷ slot 4 0 2 (Some 1) (false ∷ true ∷ [])
          ∷ slot 5 5 1 None (true ∷ true ∷ [])
          ∷ [];
    }

abbrev stopping : Books
stopping =
    books three
    (record (mapping 0 (codes "fcmap0") 0 1 Stopping) { held_at_leave = 1 } ∷ mapping 1 (codes "fcmap1") 1 2 Copying ∷ [])
    cascade []

half_copied : report_rows K64 stopping (Lsfcmapprogress (Id 0) (Some 58)) ≡ codes "id:progress" ∷ codes "0:50" ∷ []
unfolding first_below last_below holder first_reader live_place mapping_place report_rows digits
half_copied = refl

a_third_copied : report_rows K64 stopping (Lsfcmapprogress (Name (codes "fcmap1")) None) ≡ codes "id progress" ∷ codes "1  33" ∷ []
unfolding first_below last_below holder first_reader live_place mapping_place report_rows digits
a_third_copied = refl

half_cleaned :
    report_rows K64 stopping (Lsfcmap None (Some 58))
    ≡ codes "id:name:source_vdisk_id:source_vdisk_name:target_vdisk_id:target_vdisk_name:group_id:group_name:status:progress:copy_rate:clean_progress:incremental:partner_FC_id:partner_FC_name:restoring"
    ∷ codes "0:fcmap0:0:A:1:B:::stopping:50:0:50:off:::no"
    ∷ codes "1:fcmap1:1:B:2:C:::copying:33:0:100:off:::no"
    ∷ []
unfolding first_below last_below holder first_reader live_place mapping_place report_rows digits
half_cleaned = refl

dependent : report_rows K64 stopping (Lsfcmapdependentmaps (Id 0) (Some 58)) ≡ codes "fc_id:fc_name" ∷ codes "1:fcmap1" ∷ []
unfolding first_below last_below holder first_reader live_place mapping_place report_rows dependents digits
dependent = refl

no_dependent : report_rows K64 stopping (Lsfcmapdependentmaps (Id 1) None) ≡ codes "fc_id fc_name" ∷ []
unfolding first_below last_below holder first_reader live_place mapping_place report_rows dependents digits
no_dependent = refl

-- ---- a flat volume of 2 grains, and a thin one of 3, whose second grain a write reached

abbrev flat : Volume
flat = volume 0 (codes "A") 2

abbrev thin : Volume
thin = record (volume 11 (codes "nightly") 3) { kind = Thin }

abbrev both_made : Books
both_made = after_deed no_restarts (after_deed no_restarts (books [] [] no_slots []) (make_volume flat)) (make_volume thin)

abbrev reached : Books
reached = record both_made { rooms = reach 11 1 both_made.rooms }

room_delimited :
    report_rows K64 reached (Lsvdiskroom (Some 58))
    ≡ codes "id:name:kind:used:grains"
    ∷ codes "0:A:flat:2:2"
    ∷ codes "11:nightly:thin:1:3"
    ∷ []
unfolding report_rows digits
room_delimited = refl

room_in_columns :
    report_rows K64 reached (Lsvdiskroom None)
    ≡ codes "id name    kind used grains"
    ∷ codes "0  A       flat 2    2"
    ∷ codes "11 nightly thin 1    3"
    ∷ []
unfolding report_rows digits
room_in_columns = refl

-- no write reached the thin volume yet
none_reached :
    report_rows K64 both_made (Lsvdiskroom (Some 44))
    ≡ codes "id,name,kind,used,grains"
    ∷ codes "0,A,flat,2,2"
    ∷ codes "11,nightly,thin,0,3"
    ∷ []
unfolding report_rows digits
none_reached = refl

-- a grain that is written again is counted once
reached_again : report_rows K64 (record reached { rooms = reach 11 1 (reach 0 0 reached.rooms) }) (Lsvdiskroom None) ≡ report_rows K64 reached (Lsvdiskroom None)
unfolding report_rows digits
reached_again = refl

one_removed : report_rows K64 (after_deed no_restarts reached (remove_volume flat)) (Lsvdiskroom None) ≡ codes "id name    kind used grains" ∷ codes "11 nightly thin 1    3" ∷ []
unfolding report_rows digits
one_removed = refl
