-- What one line asks, as an item.
use Rattle.std.proofs.Common.{◌≡◌, ℕ, zero, suc, ◌+◌, ◌-◌, ◌/◌, ◌<◌, ◌≤◌, List, [], ◌∷◌, map, Some, None, refl, sym, ap, ◌∙◌, subst, false, true≢false, arith}
use Rattle.std.specs.List.{range_with_len}
use Rattle.fc_actors.specs.Scripts.{IsOfBlock}
use Rattle.fc_actors.specs.Spans.{IsGrainOf, IsSpanOf, span_left}
use Rattle.fc_actors.specs.declared.script.Item.TheVariants.{Access as OfGrains, Refused, Command as Whole_command}
use Rattle.fc_base.specs.Grain.{grain_blocks}
use Rattle.fc_base.specs.Tables.{Tables, refers_to, volume_named}
use Rattle.fc_base.specs.declared.command.Command.{Command}
use Rattle.fc_base.specs.declared.command.Command.TheVariants.{Read as ReadLine, Write as WriteLine, Mkpreset}
use Rattle.fc_base.specs.declared.command.Line.TheVariants.{Command as CommandLine}
use Rattle.fc_base.specs.declared.command.ScriptLine.TheVariants.{Read}
use Rattle.fc_base.specs.declared.fault.Refusal.{Refusal}
use Rattle.fc_base.specs.declared.name.Ref.{Ref}
use Rattle.fc_base.specs.declared.request.Request.TheVariants.{Command as Asked}
use Rattle.fc_base.specs.declared.size.GrainSize.{GrainSize}
use Rattle.fc_base.specs.declared.volume.Volume.{Volume}
use Rattle.fc_books.specs.Books.{Books}
use Rattle.fc_books.specs.Refused.{access_refused}
use Rattle.fc_decided.proofs.Lists.{find_from}
use Rattle.fc_desk.specs.Control.{ControlState}
use Rattle.fc_entry.specs.Picture.{grain_of_block}
use Rattle.fc_entry.specs.Refused.{blocks_refusal}
use Rattle.fc_lanes.specs.Asking.{command_of, part_of}
use Rattle.fc_lanes.specs.declared.access.Access.{Access}
use Rattle.fc_legal.specs.Asked.{command_asked, numbers}
use Rattle.fc_shares.specs.Situation.{Situation}
use Rattle.fc_stands.specs.Apart.{IsRefusalOf}
use Rattle.fc_stands.specs.Phase.{IsDecided}
use Rattle.fc_stands.proofs.Asked.{asked-refused, asks_itself, is_taken, refusal_of}
use Rattle.fc_stands.proofs.Ranging.{first_before, is_touched}
use Rattle.law_volumes.proofs.Lines.{asks-none}
use Rattle.law_volumes.specs.Law.{asks_for_volume}
use Rattle.fc_prepare.specs.Items.{IsItemOf, IsToldBy, arms_fault, whole_span}

-- ---- accesses

ranged : (from n : ℕ) → range_with_len from n ≡ numbers from n
ranged from zero = refl
ranged from (suc n) = ap (λ ns. from ∷ ns) (ranged (from + 1) n)

one_behind : (a b : ℕ) → a ≤ b → a < b + 1
one_behind a b before = omega arith

not_behind : (a b : ℕ) → a < b + 1 → a ≤ b
not_behind a b before = omega arith

-- Of an access that isn't refused: its grains.
taken_asked : (c : ControlState) (b : Books) (access : Access) (volume : Ref) (block count : ℕ) (v : Volume) (command : Command) → command ≡ command_of access volume block count
    → volume_named b.tables volume ≡ Some v → blocks_refusal c.grain v block count ≡ None
    → span_left c.grain (whole_span c.grain access v.id block count) ≡ command_asked c.grain b command
taken_asked c b access volume block count v command is found passes =
    let first : ℕ = grain_of_block c.grain block in
    ap (λ (gs : List ℕ). map (part_of c.grain access v.id block count) gs) (ranged first (grain_of_block c.grain (block + count - 1) + 1 - first))
    ∙ sym (is_taken c.grain b access volume block count v found passes).asked
    ∙ ap (λ (asked : Command). command_asked c.grain b asked) (sym is)

taken_suits : (c : ControlState) (s : Situation) (access : Access) (volume : Ref) (block count : ℕ) (v : Volume) → IsToldBy c s
    → volume_named c.tables volume ≡ Some v → blocks_refusal c.grain v block count ≡ None
    → IsSpanOf s (whole_span c.grain access v.id block count)
taken_suits c s access volume block count v told found passes =
    let found_now : volume_named s.whole.books.tables volume ≡ Some v = subst (λ (t : Tables). volume_named t volume ≡ Some v) (sym told.tables) found in
    let taken = is_taken c.grain s.whole.books access volume block count v found_now passes in
    let width : ℕ = grain_blocks c.grain in
    record {
      volume = v;
      there = (find_from (λ (x : Volume). refers_to volume x.id.0 x.name) s.whole.books.tables.volumes v found_now).0;
      named = refl;
      some = taken.some;
      left = one_behind (block / width) ((block + count - 1) / width) (first_before c.grain block count width refl taken.some);
      touched = λ g from to.
          let t = is_touched c.grain block count g width v.grains refl taken.some from (not_behind g ((block + count - 1) / width) to) taken.there in
          subst (λ (size : GrainSize). IsGrainOf size block count v.grains g) (sym told.grain) record { within = t.inside; begins = t.begins; ends = t.ends };
    }

pub taken_item : (c : ControlState) (access : Access) (volume : Ref) (block count : ℕ) (v : Volume) (command : Command) → command ≡ command_of access volume block count
    → volume_named c.tables volume ≡ Some v → blocks_refusal c.grain v block count ≡ None
    → IsItemOf c (Read (CommandLine command)) (OfGrains (whole_span c.grain access v.id block count))
taken_item c access volume block count v command is found passes = record {
  asked = λ b tables. taken_asked c b access volume block count v command is (subst (λ (t : Tables). volume_named t volume ≡ Some v) (sym tables) found) passes;
  suits = λ s told of. taken_suits c s access volume block count v told found passes;
}

-- Of a refused one: itself.
pub refused_item : (c : ControlState) (access : Access) (volume : Ref) (block count : ℕ) (command copy : Command) (refusal : Refusal) → command ≡ command_of access volume block count → copy ≡ command
    → ((b : Books) → b.tables ≡ c.tables → access_refused c.grain b volume block count ≡ Some refusal)
    → IsItemOf c (Read (CommandLine command)) (Refused (Asked copy) refusal)
refused_item c access volume block count command copy refusal is same refused = record {
  asked = λ b tables.
      ap (λ (asked : Command). Asked asked ∷ []) (same ∙ is) ∙ sym (asked-refused c.grain b access volume block count refusal (refused b tables))
      ∙ ap (λ (asked : Command). command_asked c.grain b asked) (sym is);
  suits = λ s told of.
      subst (λ (asked : Command). IsRefusalOf s.grain s.whole (Asked asked) refusal) (sym (same ∙ is))
      (refusal_of s.grain s.whole access volume block count refusal
      (subst (λ (size : GrainSize). access_refused size s.whole.books volume block count ≡ Some refusal) (sym told.grain) (refused s.whole.books told.tables)));
}

-- ---- other commands

-- A command that is no access and asks for no volume is decided.
pub decided_of : (command : Command) → ((volume : Ref) (block count : ℕ) → command ≡ ReadLine volume block count → ⊥)
    → ((volume : Ref) (block count byte : ℕ) → command ≡ WriteLine volume block count byte → ⊥) → asks_for_volume command ≡ false → IsDecided command
decided_of (ReadLine volume block count) no_read no_write none = absurd (no_read volume block count refl)
decided_of (WriteLine volume block count byte) no_read no_write none = absurd (no_write volume block count byte refl)
decided_of (Mkpreset source preset name) no_read no_write none = absurd (true≢false none)
decided_of command no_read no_write none = tt

pub other_item_is : (c : ControlState) (command copy : Command) → IsDecided command → copy ≡ command → IsItemOf c (Read (CommandLine command)) (Whole_command copy)
other_item_is c command copy decided same = record {
  asked = λ b tables. ap (λ (asked : Command). Asked asked ∷ []) same ∙ sym (asks_itself c.grain b command decided);
  suits = λ s told of. subst IsOfBlock (sym same) record {
    decided = decided;
    no_volume = asks-none command of.0;
    no_fault = λ volume grain calls e. true≢false (sym (ap arms_fault e) ∙ of.1);
  };
}
