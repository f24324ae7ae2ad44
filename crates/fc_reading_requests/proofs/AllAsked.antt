-- What was asked is read exactly.
use Rattle.std.proofs.Common.{◌≡◌, ℕ, ◌-◌, ◌<◌, ◌≤◌, Bool, true, false, nat_lt, List, [], ◌++◌, length, get_or, take, Option, Some, None, Ok, Err, refl, ap, ◌∙◌, length-append, arith}
use Rattle.fc_base.specs.declared.command.Command.{Command}
use Rattle.fc_base.specs.declared.command.Command.TheVariants as command
use Rattle.fc_base.specs.declared.command.Unit.{Unit as SizeUnit}
use Rattle.fc_base.specs.declared.command.Unit.TheVariants.{Kb, Mb, Gb}
use Rattle.fc_base.specs.declared.name.Ref.{Ref}
use Rattle.fc_base.specs.declared.size.GrainSize.{GrainSize}
use Rattle.fc_base.specs.declared.size.GrainSize.TheVariants.{K64, K256}
use Rattle.fc_words.specs.Canonical.{IsCommand}
use Rattle.fc_reading.specs.Readers.{one_of_at, then_read}
use Rattle.fc_reading.specs.Stops.{StopsAt}
use Rattle.fc_reading_requests.specs.Asked.{IsAsked, IsLine, IsNoAccess, asked_line}
use Rattle.fc_reading_requests.specs.Lines.{sized}
use Rattle.fc_reading_requests.specs.Mappings.{a_mapping}
use Rattle.fc_reading_requests.specs.Requests.{asked_at, asked_words, behind_word}
use Rattle.fc_reading_requests.specs.declared.asked.Asked.{Asked}
use Rattle.fc_reading_requests.specs.declared.asked.Asked.TheVariants.{Unread, Read, Write, Copy, Clean, CopyTurn, CleanTurn, Command as OfCommand}
use Rattle.fc_reading.proofs.Exact.{Exact, Exact-map, Exact-then}
use Rattle.fc_reading.proofs.StopsLemmas.{Exact-stops_at, take-front}
use Rattle.fc_reading.proofs.Words.{Ends-nothing, IsIndexOf, nothing}
use Rattle.fc_reading_notes.proofs.Below.{AllBelow, below_at}
use Rattle.fc_reading_requests.proofs.AccessLemmas.{FitsAccess, clean_turns, cleanings, copies, copy_turns, reads, unread, writes}
use Rattle.fc_reading_requests.proofs.Alternatives.{Alternative, behind_text}
use Rattle.fc_reading_requests.proofs.MappingLemmas.{FitsMaking, groups, mappings, named_groups}
use Rattle.fc_reading_requests.proofs.Options.{Exact-words, settings}
use Rattle.fc_reading_requests.proofs.PresetLemmas.{FitsPreset, presets}
use Rattle.fc_reading_requests.proofs.ReportLemmas.{FitsReport, FitsRoom, delimited_list, delimited_room_list, dependents, group_lists, mapping_lists, progress, room_list, volume_list}
use Rattle.fc_reading_requests.proofs.RunLemmas.{FitsFlagged, FitsRunning, group_prestarts, group_removals, group_starts, group_stops, mapping_removals, prestarts, starts, stops}
use Rattle.fc_reading_requests.proofs.VolumeLemmas.{FitsVolume, advances, armfaults, named_volumes, removals, volumes}

-- ---- what each word begins

abbrev Pick : Bool → Type 0 → Type 0 → Type 0
Pick true A B = A
Pick false A B = B

abbrev FitsAt : ℕ → Asked → Type 0
FitsAt i a =
    Pick (nat_lt i 7) (FitsAccess i a)
    (
    Pick (nat_lt i 12) (FitsVolume (i - 7) a)
    (
    Pick (nat_lt i 15) (FitsMaking (i - 12) a)
    (
    Pick (nat_lt i 19) (FitsFlagged (i - 15) a)
    (
    Pick (nat_lt i 23) (FitsRunning (i - 19) a)
    (Pick (nat_lt i 29) (FitsReport (i - 23) a) (Pick (nat_lt i 30) (FitsPreset a) (FitsRoom (i - 30) a)))
    )
    )
    )
    )

abbrev AlternativeAt : ℕ → Type 0
AlternativeAt i = Alternative (get_or asked_words i []) (behind_word i) (FitsAt i)

accesses : AllBelow AlternativeAt 7
accesses = (((((((tt, unread), reads), writes), copies), cleanings), copy_turns), clean_turns)

with_volumes : AllBelow AlternativeAt 12
with_volumes = (((((accesses, named_volumes), volumes), removals), armfaults), advances)

with_mappings : AllBelow AlternativeAt 19
with_mappings = (((((((with_volumes, mappings), groups), named_groups), prestarts), group_prestarts), mapping_removals), group_removals)

with_reports : AllBelow AlternativeAt 29
with_reports =
    ((((((((((with_mappings, starts), group_starts), stops), group_stops), mapping_lists), group_lists), volume_list), delimited_list), progress), dependents)

all : AllBelow AlternativeAt 32
all = (((with_reports, presets), room_list), delimited_room_list)

alternatives : (i : ℕ) → i < 32 → AlternativeAt i
alternatives = below_at AlternativeAt 32 all

-- ---- each is begun by a word

size_end : (name : Option (List ℕ)) (size : ℕ) (unit : Option SizeUnit) (thin : Bool) → (end : ℕ) × (end < 8) × (sized name (size, end) ≡ OfCommand (command.Mkvdisk name size unit thin))
size_end name size None false = (0, omega arith, refl)
size_end name size None true = (1, omega arith, refl)
size_end name size (Some Kb) false = (2, omega arith, refl)
size_end name size (Some Kb) true = (3, omega arith, refl)
size_end name size (Some Mb) false = (4, omega arith, refl)
size_end name size (Some Mb) true = (5, omega arith, refl)
size_end name size (Some Gb) false = (6, omega arith, refl)
size_end name size (Some Gb) true = (7, omega arith, refl)

mapping_end :
    (source target : Ref) (name : Option (List ℕ)) (group : Option Ref) (copy clean : Option ℕ) (size : Option GrainSize) (incremental autodelete : Bool) →
    (end : ℕ) × (end < 12)
    × (a_mapping (source, (target, settings name group copy clean end)) ≡ OfCommand (command.Mkfcmap source target name group copy clean size incremental autodelete))
mapping_end source target name group copy clean None false false = (0, omega arith, refl)
mapping_end source target name group copy clean None false true = (1, omega arith, refl)
mapping_end source target name group copy clean None true false = (2, omega arith, refl)
mapping_end source target name group copy clean None true true = (3, omega arith, refl)
mapping_end source target name group copy clean (Some K64) false false = (4, omega arith, refl)
mapping_end source target name group copy clean (Some K64) false true = (5, omega arith, refl)
mapping_end source target name group copy clean (Some K64) true false = (6, omega arith, refl)
mapping_end source target name group copy clean (Some K64) true true = (7, omega arith, refl)
mapping_end source target name group copy clean (Some K256) false false = (8, omega arith, refl)
mapping_end source target name group copy clean (Some K256) false true = (9, omega arith, refl)
mapping_end source target name group copy clean (Some K256) true false = (10, omega arith, refl)
mapping_end source target name group copy clean (Some K256) true true = (11, omega arith, refl)

abbrev IsBegun : Asked → Type 0
IsBegun a = (i : ℕ) × (i < 32) × FitsAt i a

command_from : (c : Command) → IsCommand c → IsNoAccess c → IsBegun (OfCommand c)
command_from (command.Mkvdisk (Some name) size unit thin) is other =
    let end = size_end (Some name) size unit thin in
    (7, omega arith, ((name, (size, end.0)), (is.0, (is.1, end.1)), end.2))
command_from (command.Mkvdisk None size unit thin) is other =
    let end = size_end None size unit thin in
    (8, omega arith, ((size, end.0), (is.1, end.1), end.2))
command_from (command.Rmvdisk volume) is other = (9, omega arith, (volume, is, refl))
command_from (command.Write volume block count byte) is other = absurd other
command_from (command.Read volume block count) is other = absurd other
command_from (command.Armfault volume grain calls) is other = (10, omega arith, ((volume, (grain, calls)), (is.0, (is.1, is.2)), refl))
command_from (command.Advance seconds) is other = (11, omega arith, (seconds, is, refl))
command_from (command.Mkfcmap source target name group copy clean size incremental autodelete) is other =
    let end = mapping_end source target name group copy clean size incremental autodelete in
    (12, omega arith, ((source, (target, settings name group copy clean end.0)), (is.0, (is.1, (is.2, (is.3, (is.4, (is.5, end.1)))))), end.2))
command_from (command.Prestartfcmap map restore) is other = (15, omega arith, ((restore, map), is, refl))
command_from (command.Startfcmap map prep restore) is other = (19, omega arith, (((prep, restore), map), is, refl))
command_from (command.Stopfcmap map way) is other = (21, omega arith, ((way, map), is, refl))
command_from (command.Rmfcmap map force) is other = (17, omega arith, ((force, map), is, refl))
command_from (command.Mkfcconsistgrp None) is other = (13, omega arith, refl)
command_from (command.Mkfcconsistgrp (Some name)) is other = (14, omega arith, (name, is, refl))
command_from (command.Prestartfcconsistgrp group restore) is other = (16, omega arith, ((restore, group), is, refl))
command_from (command.Startfcconsistgrp group prep restore) is other = (20, omega arith, (((prep, restore), group), is, refl))
command_from (command.Stopfcconsistgrp group way) is other = (22, omega arith, ((way, group), is, refl))
command_from (command.Rmfcconsistgrp group force) is other = (18, omega arith, ((force, group), is, refl))
command_from (command.Lsfcmap map delim) is other = (23, omega arith, ((delim, map), (is.1, is.0), refl))
command_from (command.Lsfcconsistgrp group delim) is other = (24, omega arith, ((delim, group), (is.1, is.0), refl))
command_from (command.Lsvdisk None) is other = (25, omega arith, refl)
command_from (command.Lsvdisk (Some delim)) is other = (26, omega arith, (delim, is, refl))
command_from (command.Lsfcmapprogress map delim) is other = (27, omega arith, ((delim, map), (is.1, is.0), refl))
command_from (command.Lsfcmapdependentmaps map delim) is other = (28, omega arith, ((delim, map), (is.1, is.0), refl))
command_from (command.Mkpreset source preset name) is other = (29, omega arith, ((source, (preset, name)), (is.0, (tt, is.1)), refl))
command_from (command.Lsvdiskroom None) is other = (30, omega arith, refl)
command_from (command.Lsvdiskroom (Some delim)) is other = (31, omega arith, (delim, is, refl))

asked_from : (a : Asked) → IsAsked a → IsBegun a
asked_from Unread is = (0, omega arith, refl)
asked_from (Read volume block count) is = (1, omega arith, ((volume, (block, count)), is, refl))
asked_from (Write volume block count byte) is = (2, omega arith, ((volume, (block, (count, byte))), is, refl))
asked_from (Copy map grain) is = (3, omega arith, ((map.0, grain.0), is, refl))
asked_from (Clean map grain) is = (4, omega arith, ((map.0, grain.0), is, refl))
asked_from (CopyTurn lane) is = (5, omega arith, (lane, is, refl))
asked_from (CleanTurn lane) is = (6, omega arith, (lane, is, refl))
asked_from (OfCommand c) is = command_from c is.0 is.1

-- ---- all of it

abbrev word_at_place : ℕ → List ℕ
word_at_place i = get_or asked_words i []

abbrev OfWord : ℕ × Asked → Type 0
OfWord x = (x.0 < 32) × FitsAt x.0 x.1

pub Exact-asked : Exact IsAsked asked_line nothing asked_at
Exact-asked =
    Exact-map {V = ℕ × Asked} {W = Asked} OfWord (λ x. word_at_place x.0 ++ behind_text (word_at_place x.0) x.1) nothing
    (then_read (one_of_at asked_words) behind_word) IsAsked asked_line (λ x. x.1)
    (
    Exact-then {V = ℕ} {W = Asked} (IsIndexOf asked_words) word_at_place nothing (one_of_at asked_words) FitsAt (λ i. behind_text (word_at_place i)) nothing behind_word
    (Exact-words asked_words refl (omega arith)) (λ i inside. (alternatives i inside).exact) (λ i inside. (alternatives i inside).some)
    (λ i a rest inside fits ends. Ends-nothing (behind_text (word_at_place i) a ++ rest))
    )
    (λ x fits. ((alternatives x.0 fits.0).asks x.1 fits.1, (alternatives x.0 fits.0).line x.1 fits.1))
    (λ a is. let from = asked_from a is in ((from.0, a), (from.1, from.2), refl))

-- ---- what a call answers

pub asked-stops : (bytes : List ℕ) (left : ℕ) → asked_at bytes ≡ Err left → StopsAt IsLine bytes (length bytes - left)
asked-stops bytes left e = Exact-stops_at IsAsked asked_line asked_at Exact-asked bytes left e

pub asked-found :
    (bytes : List ℕ) (asked : Asked) (rest : List ℕ) → asked_at bytes ≡ Ok (asked, rest) →
    IsAsked asked × (length rest ≤ length bytes) × (take (length bytes - length rest) bytes ≡ asked_line asked)
asked-found bytes asked rest e =
    let t = Exact-asked.takes bytes asked rest e in (
      t.fits,
      omega (arith, ap length t.split, length-append (asked_line asked) rest),
      ap (take (length bytes - length rest)) t.split
          ∙ take-front (asked_line asked) rest (length bytes - length rest) (omega (arith, ap length t.split, length-append (asked_line asked) rest)),
    )

pub asked-left : (bytes : List ℕ) (left : ℕ) → asked_at bytes ≡ Err left → left ≤ length bytes
asked-left bytes left e =
    let s = Exact-asked.stops bytes left e in
    omega (arith, s.left_is, ap length s.split, length-append s.front s.rest)
