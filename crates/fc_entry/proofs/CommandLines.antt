-- The canonical line of each command as the parts that are put one after the other.
use Rattle.std.proofs.Common.{◌≡◌, ℕ, Bool, true, false, if◌then◌else◌, List, [], ◌∷◌, ◌++◌, Option, codes, decimal, refl, sym, ap, ◌∙◌, append_assoc}
use Rattle.std.proofs.lemmas.List.{append-nil}
use Rattle.std.proofs.lemmas.List.Concat.{flat_map-append}
use Rattle.std.specs.List.{concat, join_with_byte}
use Rattle.fc_base.specs.CommandText.{command_text, byte_word, flag_words, given_words, grain_size_word, name_word, option_words, preset_word, ref_word, unit_word}
use Rattle.fc_base.specs.declared.command.Command.TheVariants as command
use Rattle.fc_base.specs.declared.command.Preset.{Preset}
use Rattle.fc_base.specs.declared.command.Unit.{Unit as SizeUnit}
use Rattle.fc_base.specs.declared.name.Ref.{Ref}
use Rattle.fc_base.specs.declared.size.GrainSize.{GrainSize}
use Rattle.fc_entry.specs.Spaced.{spaced}
use Rattle.fc_entry.specs.Text.{two_numbers}

pub spaced-append : (ws vs : List (List ℕ)) → spaced (ws ++ vs) ≡ spaced ws ++ spaced vs
spaced-append ws vs = flat_map-append (λ (word : List ℕ). codes " " ++ word) ws vs

pub join_with_byte-spaced : (word : List ℕ) (words : List (List ℕ)) → join_with_byte 32 (word ∷ words) ≡ word ++ spaced words
join_with_byte-spaced word [] = sym (append-nil word)
join_with_byte-spaced word (second ∷ words) =
    ap (λ rest. word ++ 32 ∷ rest) (join_with_byte-spaced second words)

-- a line with flags and an object
pub object_line :
    (line : List ℕ) (flags : List (List ℕ)) (object : List ℕ) →
    line ++ spaced flags ++ (codes " " ++ object) ≡ join_with_byte 32 (line ∷ flags ++ object ∷ [])
object_line line flags object =
    append_assoc line (spaced flags) (codes " " ++ object)
    ∙ ap (λ rest. line ++ (spaced flags ++ (codes " " ++ rest))) (sym (append-nil object))
    ∙ ap (λ rest. line ++ rest) (sym (spaced-append flags (object ∷ [])))
    ∙ sym (join_with_byte-spaced line (flags ++ object ∷ []))

-- a line with options and maybe an object
pub list_line :
    (line : List ℕ) (options object : List (List ℕ)) →
    line ++ spaced options ++ spaced object ≡ join_with_byte 32 (line ∷ options ++ object)
list_line line options object =
    append_assoc line (spaced options) (spaced object)
    ∙ ap (λ rest. line ++ rest) (sym (spaced-append options object))
    ∙ sym (join_with_byte-spaced line (options ++ object))

abbrev pub mkfcconsistgrp_parts : Option (List ℕ) → List (List ℕ)
mkfcconsistgrp_parts name = codes "mkfcconsistgrp" ∷ spaced (given_words (codes "-name") name_word name) ∷ []

pub mkfcconsistgrp_line : (name : Option (List ℕ)) → concat (mkfcconsistgrp_parts name) ≡ command_text (command.Mkfcconsistgrp name)
mkfcconsistgrp_line name = simp (join_with_byte-spaced, append-nil)

mkvdisk_joined :
    (line : List ℕ) (name size unit thin : List (List ℕ)) →
    concat (line ∷ spaced name ∷ spaced (size ++ unit ++ thin) ∷ [])
    ≡ join_with_byte 32 (line ∷ name ++ size ++ unit ++ thin)
mkvdisk_joined line name size unit thin =
    let joined : concat (line ∷ spaced name ∷ spaced (size ++ unit ++ thin) ∷ [])
    ≡ line ++ spaced (name ++ size ++ unit ++ thin) = simp (spaced-append, append_assoc, append-nil) in
    joined ∙ sym (join_with_byte-spaced line (name ++ size ++ unit ++ thin))

abbrev pub mkvdisk_parts : Option (List ℕ) → ℕ → Option SizeUnit → Bool → List (List ℕ)
mkvdisk_parts name size unit thin =
    codes "mkvdisk" ∷ spaced (given_words (codes "-name") name_word name)
    ∷ spaced (option_words (codes "-size") (decimal size) ++ given_words (codes "-unit") unit_word unit ++ flag_words (codes "-thin") thin)
    ∷ []

pub mkvdisk_line :
    (name : Option (List ℕ)) (size : ℕ) (unit : Option SizeUnit) (thin : Bool) →
    concat (mkvdisk_parts name size unit thin) ≡ command_text (command.Mkvdisk name size unit thin)
mkvdisk_line name size unit thin =
    mkvdisk_joined (codes "mkvdisk") (given_words (codes "-name") name_word name)
    (option_words (codes "-size") (decimal size)) (given_words (codes "-unit") unit_word unit)
    (flag_words (codes "-thin") thin)

-- a line with a volume and two numbers, and one more of a write
abbrev pub access : List ℕ → Ref → ℕ → ℕ → List ℕ
access line volume first second = line ++ ref_word volume ++ (codes " " ++ two_numbers first second)

pub read_line : (volume : Ref) (block count : ℕ) → access (codes "read ") volume block count ≡ command_text (command.Read volume block count)
read_line volume block count = simp append_assoc

pub armfault_line : (volume : Ref) (grain calls : ℕ) → access (codes "armfault ") volume grain calls ≡ command_text (command.Armfault volume grain calls)
armfault_line volume grain calls = simp append_assoc

write_joined : (line object numbers byte : List ℕ) → concat ((line ++ object ++ numbers) ∷ byte ∷ []) ≡ line ++ (object ++ (numbers ++ byte))
write_joined line object numbers byte = simp (append_assoc, append-nil)

abbrev pub write_parts : Ref → ℕ → ℕ → ℕ → List (List ℕ)
write_parts volume block count byte = access (codes "write ") volume block count ∷ (codes " " ++ byte_word byte) ∷ []

pub write_line :
    (volume : Ref) (block count byte : ℕ) →
    concat (write_parts volume block count byte) ≡ command_text (command.Write volume block count byte)
write_line volume block count byte =
    let joined : codes "write " ++ (ref_word volume ++ ((codes " " ++ two_numbers block count) ++ (codes " " ++ byte_word byte)))
    ≡ command_text (command.Write volume block count byte) = simp append_assoc in
    write_joined (codes "write ") (ref_word volume) (codes " " ++ two_numbers block count) (codes " " ++ byte_word byte) ∙ joined

new_mapping_joined :
    (line : List ℕ) (source target name group : List (List ℕ)) →
    concat ((line ++ spaced source) ∷ spaced target ∷ spaced name ∷ spaced group ∷ [])
    ≡ line ++ spaced (source ++ target ++ name ++ group)
new_mapping_joined line source target name group = simp (spaced-append, append_assoc, append-nil)

abbrev pub new_mapping_parts : Ref → Ref → Option (List ℕ) → Option Ref → List (List ℕ)
new_mapping_parts source target name group =
    (codes "mkfcmap -source " ++ ref_word source) ∷ (codes " -target " ++ ref_word target)
    ∷ spaced (given_words (codes "-name") name_word name)
    ∷ spaced (given_words (codes "-consistgrp") ref_word group) ∷ []

pub new_mapping_line :
    (source target : Ref) (name : Option (List ℕ)) (group : Option Ref) →
    concat (new_mapping_parts source target name group)
    ≡ codes "mkfcmap" ++ spaced (
    option_words (codes "-source") (ref_word source) ++ option_words (codes "-target") (ref_word target)
    ++ given_words (codes "-name") name_word name
    ++ given_words (codes "-consistgrp") ref_word group
    )
new_mapping_line source target name group =
    let named : List (List ℕ) = given_words (codes "-name") name_word name in
    let grouped : List (List ℕ) = given_words (codes "-consistgrp") ref_word group in
    let of_source : List (List ℕ) = option_words (codes "-source") (ref_word source) in
    let of_target : List (List ℕ) = option_words (codes "-target") (ref_word target) in
    let behind : List ℕ = spaced named ++ (spaced grouped ++ []) in
    ap (λ word. (codes "mkfcmap -source " ++ word) ++ ((codes " -target " ++ ref_word target) ++ behind))
    (sym (append-nil (ref_word source)))
    ∙ ap (λ word. (codes "mkfcmap" ++ spaced of_source) ++ ((codes " -target " ++ word) ++ behind))
    (sym (append-nil (ref_word target)))
    ∙ new_mapping_joined (codes "mkfcmap") of_source of_target named grouped

abbrev pub mapping_options_parts : Option ℕ → Option ℕ → Option GrainSize → Bool → Bool → List (List ℕ)
mapping_options_parts copy_rate clean_rate grain_size incremental autodelete =
    spaced (given_words (codes "-copyrate") decimal copy_rate)
    ∷ spaced (given_words (codes "-cleanrate") decimal clean_rate)
    ∷ spaced (
    given_words (codes "-grainsize") grain_size_word grain_size ++ flag_words (codes "-incremental") incremental
    ++ flag_words (codes "-autodelete") autodelete
    )
    ∷ []

pub mapping_options_line :
    (copy_rate clean_rate : Option ℕ) (grain_size : Option GrainSize) (incremental autodelete : Bool) →
    concat (mapping_options_parts copy_rate clean_rate grain_size incremental autodelete)
    ≡ spaced (
    given_words (codes "-copyrate") decimal copy_rate ++ given_words (codes "-cleanrate") decimal clean_rate
    ++ given_words (codes "-grainsize") grain_size_word grain_size
    ++ flag_words (codes "-incremental") incremental
    ++ flag_words (codes "-autodelete") autodelete
    )
mapping_options_line copy_rate clean_rate grain_size incremental autodelete =
    simp (spaced-append, append_assoc, append-nil)

mkfcmap_joined :
    (line : List ℕ) (source target name group copy clean size incremental autodelete : List (List ℕ)) →
    concat (
    (line ++ spaced (source ++ target ++ name ++ group))
    ∷ spaced (copy ++ clean ++ size ++ incremental ++ autodelete) ∷ []
    )
    ≡ join_with_byte 32 (line ∷ source ++ target ++ name ++ group ++ copy ++ clean ++ size ++ incremental ++ autodelete)
mkfcmap_joined line source target name group copy clean size incremental autodelete =
    let joined : concat (
    (line ++ spaced (source ++ target ++ name ++ group))
    ∷ spaced (copy ++ clean ++ size ++ incremental ++ autodelete) ∷ []
    )
    ≡ line ++ spaced (source ++ target ++ name ++ group ++ copy ++ clean ++ size ++ incremental ++ autodelete)
    = simp (spaced-append, append_assoc, append-nil) in
    joined
    ∙ sym (join_with_byte-spaced line (source ++ target ++ name ++ group ++ copy ++ clean ++ size ++ incremental ++ autodelete))

mapping_flags_joined :
    (z i a : List ℕ) (size incremental autodelete : List (List ℕ)) →
    z ≡ spaced size →
    i ≡ spaced incremental →
    a ≡ spaced autodelete →
    z ++ (i ++ (a ++ [])) ≡ spaced (size ++ incremental ++ autodelete)
mapping_flags_joined z i a size incremental autodelete of_z of_i of_a =
    rw (of_z, of_i, of_a) (simp (spaced-append, append_assoc, append-nil))

abbrev pub mkfcmap_parts : Ref → Ref → Option (List ℕ) → Option Ref → Option ℕ → Option ℕ → Option GrainSize → Bool → Bool → List (List ℕ)
mkfcmap_parts source target name group copy_rate clean_rate grain_size incremental autodelete =
    (
    codes "mkfcmap" ++ spaced (
    option_words (codes "-source") (ref_word source) ++ option_words (codes "-target") (ref_word target)
    ++ given_words (codes "-name") name_word name
    ++ given_words (codes "-consistgrp") ref_word group
    )
    )
    ∷ spaced (
    given_words (codes "-copyrate") decimal copy_rate ++ given_words (codes "-cleanrate") decimal clean_rate
    ++ given_words (codes "-grainsize") grain_size_word grain_size
    ++ flag_words (codes "-incremental") incremental
    ++ flag_words (codes "-autodelete") autodelete
    )
    ∷ []

pub mkfcmap_line :
    (source target : Ref) (name : Option (List ℕ)) (group : Option Ref) (copy_rate clean_rate : Option ℕ)
    (grain_size : Option GrainSize) (incremental autodelete : Bool) →
    concat (mkfcmap_parts source target name group copy_rate clean_rate grain_size incremental autodelete)
    ≡ command_text (command.Mkfcmap source target name group copy_rate clean_rate grain_size incremental autodelete)
mkfcmap_line source target name group copy_rate clean_rate grain_size incremental autodelete =
    mkfcmap_joined (codes "mkfcmap") (option_words (codes "-source") (ref_word source))
    (option_words (codes "-target") (ref_word target)) (given_words (codes "-name") name_word name)
    (given_words (codes "-consistgrp") ref_word group) (given_words (codes "-copyrate") decimal copy_rate)
    (given_words (codes "-cleanrate") decimal clean_rate)
    (given_words (codes "-grainsize") grain_size_word grain_size) (flag_words (codes "-incremental") incremental)
    (flag_words (codes "-autodelete") autodelete)

-- a flag behind a space
pub flag_spaced :
    (option : List ℕ) (given : Bool) →
    (if given then 32 ∷ option else []) ≡ spaced (flag_words option given)
flag_spaced option true = sym (append-nil (32 ∷ option))
flag_spaced option false = refl

pub mapping_flags_line :
    (grain_size : Option GrainSize) (incremental autodelete : Bool) (z i a : List ℕ) →
    z ≡ spaced (given_words (codes "-grainsize") grain_size_word grain_size) →
    i ≡ (if incremental then codes " -incremental" else []) →
    a ≡ (if autodelete then codes " -autodelete" else []) →
    z ++ (i ++ (a ++ []))
    ≡ spaced (
    given_words (codes "-grainsize") grain_size_word grain_size ++ flag_words (codes "-incremental") incremental
    ++ flag_words (codes "-autodelete") autodelete
    )
mapping_flags_line grain_size incremental autodelete z i a of_z of_i of_a =
    mapping_flags_joined z i a (given_words (codes "-grainsize") grain_size_word grain_size)
    (flag_words (codes "-incremental") incremental) (flag_words (codes "-autodelete") autodelete) of_z
    (of_i ∙ flag_spaced (codes "-incremental") incremental) (of_a ∙ flag_spaced (codes "-autodelete") autodelete)

mkpreset_joined :
    (line : List ℕ) (source preset name : List (List ℕ)) →
    concat ((line ++ spaced source) ∷ spaced preset ∷ spaced name ∷ [])
    ≡ join_with_byte 32 (line ∷ source ++ preset ++ name)
mkpreset_joined line source preset name =
    let joined : concat ((line ++ spaced source) ∷ spaced preset ∷ spaced name ∷ [])
    ≡ line ++ spaced (source ++ preset ++ name) = simp (spaced-append, append_assoc, append-nil) in
    joined ∙ sym (join_with_byte-spaced line (source ++ preset ++ name))

abbrev pub mkpreset_parts : Ref → Preset → Option (List ℕ) → List (List ℕ)
mkpreset_parts source preset name =
    (codes "mkpreset -source " ++ ref_word source) ∷ spaced (option_words (codes "-preset") (preset_word preset))
    ∷ spaced (given_words (codes "-name") name_word name) ∷ []

pub mkpreset_line :
    (source : Ref) (preset : Preset) (name : Option (List ℕ)) →
    concat (mkpreset_parts source preset name) ≡ command_text (command.Mkpreset source preset name)
mkpreset_line source preset name =
    let of_source : List (List ℕ) = option_words (codes "-source") (ref_word source) in
    let of_preset : List (List ℕ) = option_words (codes "-preset") (preset_word preset) in
    let named : List (List ℕ) = given_words (codes "-name") name_word name in
    ap (λ word. (codes "mkpreset -source " ++ word) ++ (spaced of_preset ++ (spaced named ++ [])))
    (sym (append-nil (ref_word source)))
    ∙ mkpreset_joined (codes "mkpreset") of_source of_preset named
