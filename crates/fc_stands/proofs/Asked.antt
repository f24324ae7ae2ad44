-- What an access or a preset asks, from whether it is refused.
use Rattle.std.proofs.Common.{◌≡◌, ◌≢◌, ◌==◌, ◌||◌, nat_lt, ℕ, ◌+◌, ◌*◌, ◌<◌, ◌≤◌, Bool, true, false, List, [], ◌∷◌, map, Option, Some, None, refl, sym, ◌∙◌, ap, arith}
use Rattle.std.proofs.lemmas.Bool.{eqb-false, ltb-false, or_parts}
use Rattle.std.proofs.lemmas.Option.{none-some}
use Rattle.fc_base.specs.Grain.{grain_blocks}
use Rattle.fc_base.specs.Tables.{volume_named}
use Rattle.fc_base.specs.declared.behind.Behind.TheVariants.{Passing as PassingSeconds, Mapping as MappingOf}
use Rattle.fc_base.specs.declared.command.Preset.{Preset}
use Rattle.fc_base.specs.declared.fault.Kind.TheVariants.{Vdisk}
use Rattle.fc_base.specs.declared.fault.Refusal.{Refusal}
use Rattle.fc_base.specs.declared.fault.Refusal.TheVariants.{NoSuch}
use Rattle.fc_base.specs.declared.name.Ref.{Ref}
use Rattle.fc_base.specs.declared.request.Request.TheVariants.{Command as Asked}
use Rattle.fc_base.specs.declared.size.GrainSize.{GrainSize}
use Rattle.fc_base.specs.declared.volume.Volume.{Volume}
use Rattle.fc_books.specs.Books.{Books}
use Rattle.fc_books.specs.Refused.{access_refused, of_one, preset_refused}
use Rattle.fc_entry.specs.Refused.{blocks_refusal, first_of, where_}
use Rattle.fc_legal.specs.Agenda.{behind_command}
use Rattle.fc_legal.specs.Asked.{touched, access_requests, command_asked, read_in, write_in}
use Rattle.fc_legal.specs.Presets.{behind_preset, preset_asked, volume_line}
use Rattle.fc_legal.specs.Whole.{Whole}
use Rattle.fc_base.specs.declared.command.Command.{Command}
use Rattle.fc_base.specs.declared.command.Command.TheVariants as command
use Rattle.fc_stands.specs.Phase.{IsDecided}
use Rattle.fc_stands.specs.Apart.{IsRefusalOf}
use Rattle.fc_lanes.specs.Asking.{command_of, part_of}
use Rattle.fc_lanes.specs.declared.access.Access.{Access}
use Rattle.fc_lanes.specs.declared.access.Access.TheVariants.{Read, Write}

-- What a refused access asks.
pub asked-refused : (grain : GrainSize) (b : Books) (access : Access) (volume : Ref) (block count : ℕ) (refusal : Refusal)
    → access_refused grain b volume block count ≡ Some refusal
    → command_asked grain b (command_of access volume block count) ≡ Asked (command_of access volume block count) ∷ []
asked-refused grain b Read volume block count refusal refused =
    ap (λ (o : Option Refusal). access_requests grain (command_of Read volume block count) block count (λ id. read_in grain id block count) o (volume_named b.tables volume)) refused
asked-refused grain b (Write byte) volume block count refusal refused =
    ap (λ (o : Option Refusal). access_requests grain (command_of (Write byte) volume block count) block count (λ id. write_in grain id block count byte) o (volume_named b.tables volume)) refused

both_pass : (a b : Bool) (r s : Refusal) → first_of (where_ a r ∷ where_ b s ∷ []) ≡ None → (a ≡ false) × (b ≡ false)
both_pass false false r s none = (refl, refl)
both_pass true b r s none = absurd (none-some r (sym none))
both_pass false true r s none = absurd (none-some s (sym none))

-- What is known of an access of a volume that isn't refused.
pub record IsTaken (grain : GrainSize) (b : Books) (access : Access) (volume : Ref) (block count : ℕ) (v : Volume) : Type 0 where
  pub asked : command_asked grain b (command_of access volume block count) ≡ map (part_of grain access v.id block count) (touched grain block count)
  pub some : 0 < count
  pub few : count ≤ 8192
  pub there : block + count ≤ v.grains * grain_blocks grain

asked-taken : (grain : GrainSize) (b : Books) (access : Access) (volume : Ref) (block count : ℕ) (v : Volume)
    → access_refused grain b volume block count ≡ None → volume_named b.tables volume ≡ Some v
    → command_asked grain b (command_of access volume block count) ≡ map (part_of grain access v.id block count) (touched grain block count)
asked-taken grain b Read volume block count v taken found =
    ap (λ (o : Option Refusal). access_requests grain (command_of Read volume block count) block count (λ id. read_in grain id block count) o (volume_named b.tables volume)) taken
    ∙ ap (λ (o : Option Volume). access_requests grain (command_of Read volume block count) block count (λ id. read_in grain id block count) None o) found
asked-taken grain b (Write byte) volume block count v taken found =
    ap (λ (o : Option Refusal). access_requests grain (command_of (Write byte) volume block count) block count (λ id. write_in grain id block count byte) o (volume_named b.tables volume)) taken
    ∙ ap (λ (o : Option Volume). access_requests grain (command_of (Write byte) volume block count) block count (λ id. write_in grain id block count byte) None o) found

-- A volume that is named, and whose blocks aren't refused.
pub refused_by_blocks : (grain : GrainSize) (b : Books) (volume : Ref) (block count : ℕ) (v : Volume)
    → volume_named b.tables volume ≡ Some v
    → access_refused grain b volume block count ≡ blocks_refusal grain v block count
refused_by_blocks grain b volume block count v found =
    ap (λ (o : Option Volume). of_one Vdisk o (λ x. blocks_refusal grain x block count)) found

pub refused_by_name : (grain : GrainSize) (b : Books) (volume : Ref) (block count : ℕ)
    → volume_named b.tables volume ≡ None
    → access_refused grain b volume block count ≡ Some (NoSuch Vdisk)
refused_by_name grain b volume block count none =
    ap (λ (o : Option Volume). of_one Vdisk o (λ x. blocks_refusal grain x block count)) none

pub is_taken : (grain : GrainSize) (b : Books) (access : Access) (volume : Ref) (block count : ℕ) (v : Volume)
    → volume_named b.tables volume ≡ Some v
    → blocks_refusal grain v block count ≡ None
    → IsTaken grain b access volume block count v
is_taken grain b access volume block count v found passes =
    let pass = both_pass (nat_lt 8192 count) ((count == 0) || nat_lt (v.grains * grain_blocks grain) (block + count)) _ _ passes in
    let parts = or_parts (count == 0) (nat_lt (v.grains * grain_blocks grain) (block + count)) pass.1 in
    let some : count ≢ 0 = eqb-false count 0 parts.0 in
    record {
      asked = asked-taken grain b access volume block count v (refused_by_blocks grain b volume block count v found ∙ passes) found;
      some = omega arith;
      few = ltb-false 8192 count pass.0;
      there = ltb-false (v.grains * grain_blocks grain) (block + count) parts.1;
    }

-- A refused access is a request that is refused.
pub refusal_of : (grain : GrainSize) (w : Whole) (access : Access) (volume : Ref) (block count : ℕ) (refusal : Refusal)
    → access_refused grain w.books volume block count ≡ Some refusal
    → IsRefusalOf grain w (Asked (command_of access volume block count)) refusal
refusal_of grain w Read volume block count refusal refused = refused
refusal_of grain w (Write byte) volume block count refusal refused = refused

-- ---- a preset

-- Of a source that names no volume.
pub preset_unnamed : (b : Books) (source : Ref) → volume_named b.tables source ≡ None → preset_refused b source ≡ Some (NoSuch Vdisk)
preset_unnamed b source none = ap (λ (o : Option Volume). of_one Vdisk o (λ v. None)) none

pub preset_asks_itself : (grain : GrainSize) (b : Books) (source : Ref) (preset : Preset) (name : Option (List ℕ)) → volume_named b.tables source ≡ None →
    command_asked grain b (command.Mkpreset source preset name) ≡ Asked (command.Mkpreset source preset name) ∷ []
preset_asks_itself grain b source preset name none = ap (λ (o : Option Volume). preset_asked grain source preset name o) none

pub behind_unnamed : (b : Books) (source : Ref) (preset : Preset) (name : Option (List ℕ)) → volume_named b.tables source ≡ None →
    behind_command b (command.Mkpreset source preset name) ≡ PassingSeconds 0
behind_unnamed b source preset name none = ap (λ (o : Option Volume). behind_preset source preset name o) none

-- Of one that names a volume: that of its size first, and then the rest.
pub preset_asks : (grain : GrainSize) (b : Books) (source : Ref) (preset : Preset) (name : Option (List ℕ)) (v : Volume) → volume_named b.tables source ≡ Some v →
    command_asked grain b (command.Mkpreset source preset name) ≡ Asked (volume_line grain preset name v) ∷ []
preset_asks grain b source preset name v found = ap (λ (o : Option Volume). preset_asked grain source preset name o) found

pub behind_named : (b : Books) (source : Ref) (preset : Preset) (name : Option (List ℕ)) (v : Volume) → volume_named b.tables source ≡ Some v →
    behind_command b (command.Mkpreset source preset name) ≡ MappingOf source preset name
behind_named b source preset name v found = ap (λ (o : Option Volume). behind_preset source preset name o) found

-- ---- any other command

-- A command that is no access and no preset lets no second pass, but for an `advance`.
pub passes_none : (b : Books) (c : Command) → IsDecided c → ((seconds : ℕ) → c ≡ command.Advance seconds → ⊥) → behind_command b c ≡ PassingSeconds 0
passes_none b (command.Advance seconds) decided other = absurd (other seconds refl)
passes_none b (command.Mkpreset source preset name) decided other = absurd decided
passes_none b c decided other = refl

-- A command that is no access and no preset asks for itself.
pub asks_itself : (grain : GrainSize) (b : Books) (c : Command) → IsDecided c → command_asked grain b c ≡ Asked c ∷ []
asks_itself grain b (command.Read p q r) decided = absurd decided
asks_itself grain b (command.Write p q r s) decided = absurd decided
asks_itself grain b (command.Mkvdisk p q r s) decided = refl
asks_itself grain b (command.Rmvdisk p) decided = refl
asks_itself grain b (command.Armfault p q r) decided = refl
asks_itself grain b (command.Advance p) decided = refl
asks_itself grain b (command.Mkfcmap p q r s t u v x y) decided = refl
asks_itself grain b (command.Prestartfcmap p q) decided = refl
asks_itself grain b (command.Startfcmap p q r) decided = refl
asks_itself grain b (command.Stopfcmap p q) decided = refl
asks_itself grain b (command.Rmfcmap p q) decided = refl
asks_itself grain b (command.Mkfcconsistgrp p) decided = refl
asks_itself grain b (command.Prestartfcconsistgrp p q) decided = refl
asks_itself grain b (command.Startfcconsistgrp p q r) decided = refl
asks_itself grain b (command.Stopfcconsistgrp p q) decided = refl
asks_itself grain b (command.Rmfcconsistgrp p q) decided = refl
asks_itself grain b (command.Lsfcmap p q) decided = refl
asks_itself grain b (command.Lsfcconsistgrp p q) decided = refl
asks_itself grain b (command.Lsvdisk p) decided = refl
asks_itself grain b (command.Lsfcmapprogress p q) decided = refl
asks_itself grain b (command.Lsfcmapdependentmaps p q) decided = refl
asks_itself grain b (command.Mkpreset p q r) decided = absurd decided
asks_itself grain b (command.Lsvdiskroom p) decided = refl
