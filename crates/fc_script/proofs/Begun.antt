-- The script that a line begins with, and why a command is refused.
use Rattle.std.proofs.Common.{◌≡◌, ◌⊎◌, inl, inr, ℕ, ◌+◌, ◌-◌, ◌<◌, ◌≤◌, List, [], ◌∷◌, map, Option, Some, None, Result, Ok, Err, IfOk, IfNone, refl, sym, ◌∙◌, ap, subst, arith}
use Rattle.fc_agenda.specs.Goes.{stays, passes}
use Rattle.fc_base.specs.Tables.{Tables, refers_to, volume_named}
use Rattle.fc_base.specs.declared.command.Command.{Command}
use Rattle.fc_base.specs.declared.command.Command.TheVariants as command
use Rattle.fc_base.specs.declared.command.Line.{Line}
use Rattle.fc_base.specs.declared.command.Line.TheVariants.{Actor, Blank, Command as CommandLine, End, Together}
use Rattle.fc_base.specs.declared.command.Preset.{Preset}
use Rattle.fc_base.specs.declared.command.Role.{Role}
use Rattle.fc_base.specs.declared.fault.Refusal.{Refusal}
use Rattle.fc_base.specs.declared.fault.WordFault.TheVariants.{UnknownCommand}
use Rattle.fc_base.specs.declared.ids.VolId.{VolId}
use Rattle.fc_base.specs.declared.name.Name.{Name}
use Rattle.fc_base.specs.declared.name.Ref.{Ref}
use Rattle.fc_base.specs.declared.outcome.NoMemory.{NoMemory}
use Rattle.fc_base.specs.declared.request.Request.TheVariants.{Command as CommandAsked}
use Rattle.fc_base.specs.declared.size.GrainSize.{GrainSize}
use Rattle.fc_base.specs.declared.size.GrainSize.TheVariants.{K64, K256}
use Rattle.fc_base.specs.declared.volume.Volume.{Volume}
use Rattle.fc_decided.proofs.Lists.{find_from}
use Rattle.fc_entry.specs.Picture.{grain_of_block}
use Rattle.fc_entry.specs.Refused.{blocks_refusal}
use Rattle.fc_lanes.specs.Asking.{command_of, part_of}
use Rattle.fc_lanes.specs.declared.access.Access.{Access}
use Rattle.fc_lanes.specs.declared.access.Access.TheVariants.{Read, Write}
use Rattle.fc_legal.specs.Agenda.{Agenda, Own, Session, behind_command, line_read}
use Rattle.fc_legal.specs.Asked.{command_asked, touched}
use Rattle.fc_legal.specs.Whole.{Whole}
use Rattle.fc_script.specs.Asking.{AreLeft, AsksItself}
use Rattle.fc_script.specs.Passage.{GoesOn}
use Rattle.fc_script.specs.Script.{agenda_of}
use Rattle.fc_script.specs.declared.script.Script.{Script}
use Rattle.fc_script.specs.declared.script.Script.TheVariants.{Unread}
use Rattle.fc_stands.specs.Phase.{IsDecided}
use Rattle.fc_stands.specs.Store.{StandsFor, StoreView}
use Rattle.fc_stands.proofs.Asked.{is_taken, preset_asks}

-- ---- why a command is refused

-- What asks for grains doesn't ask for itself.
no_parts : (grain : GrainSize) (access : Access) (id : VolId) (block count : ℕ) (gs : List ℕ) (command : Command) → map (part_of grain access id block count) gs ≡ CommandAsked command ∷ [] → ⊥
no_parts grain access id block count [] command e = absurd (cc e)
no_parts grain Read id block count (g ∷ gs) command e = absurd (cc e)
no_parts grain (Write byte) id block count (g ∷ gs) command e = absurd (cc e)

pub access_decided : (s : StoreView) (access : Access) (volume : Ref) (block count : ℕ) (result : Option Refusal) → ((w : Whole) × StandsFor s w) →
    AsksItself s.control.grain s.control.tables (command_of access volume block count) →
    IfNone result ((v : Volume) × (volume_named s.control.tables volume ≡ Some v) × (blocks_refusal s.control.grain v block count ≡ None)) →
    IfNone result (IsDecided (command_of access volume block count))
access_decided s access volume block count (Some refusal) some itself taken = tt
access_decided s access volume block count None some itself taken =
    let tables : s.control.tables ≡ some.0.books.tables = some.1.control.tables in
    let found : volume_named some.0.books.tables volume ≡ Some taken.0 = subst (λ (t : Tables). volume_named t volume ≡ Some taken.0) tables taken.1 in
    let is = is_taken s.control.grain some.0.books access volume block count taken.0 found taken.2 in
    absurd (no_parts s.control.grain access taken.0.id block count (touched s.control.grain block count) (command_of access volume block count)
    (sym is.asked ∙ itself some.0.books (sym tables)))

pub preset_decided : (s : StoreView) (source : Ref) (preset : Preset) (name : Option (List ℕ)) (v : Volume) → ((w : Whole) × StandsFor s w) →
    AsksItself s.control.grain s.control.tables (command.Mkpreset source preset name) → volume_named s.control.tables source ≡ Some v → ⊥
preset_decided s source preset name v some itself named =
    let tables : s.control.tables ≡ some.0.books.tables = some.1.control.tables in
    let found : volume_named some.0.books.tables source ≡ Some v = subst (λ (t : Tables). volume_named t source ≡ Some v) tables named in
    let asks = preset_asks s.control.grain some.0.books source preset name v found in
    absurd (cc (sym asks ∙ itself some.0.books (sym tables)))

-- ---- an access begins

first_upto : (grain : GrainSize) (block count : ℕ) → 0 < count → grain_of_block grain block ≤ grain_of_block grain (block + count - 1)
first_upto K64 block count some = omega (arith, some)
first_upto K256 block count some = omega (arith, some)

module _ (s : StoreView) (access : Access) (volume : Ref) (block count : ℕ) (v : Volume) (id : VolId) (size : GrainSize) (first last : ℕ)
    (named : volume_named s.control.tables volume ≡ Some v) (same : v.id ≡ id) (passes_blocks : blocks_refusal s.control.grain v block count ≡ None)
    (is : size ≡ s.control.grain) (from : first ≡ grain_of_block size block) (to : last ≡ grain_of_block size (block + count - 1)) where
  from_here : first ≡ grain_of_block s.control.grain block
  from_here = from ∙ ap (λ (g : GrainSize). grain_of_block g block) is

  to_here : last ≡ grain_of_block s.control.grain (block + count - 1)
  to_here = to ∙ ap (λ (g : GrainSize). grain_of_block g (block + count - 1)) is

  pub parts_fit : ((w : Whole) × StandsFor s w) → AreLeft s.control.grain s.control.tables id block count first last
  parts_fit some =
      let found : volume_named some.0.books.tables volume ≡ Some v = subst (λ (t : Tables). volume_named t volume ≡ Some v) some.1.control.tables named in
      let taken = is_taken s.control.grain some.0.books access volume block count v found passes_blocks in
      let order = first_upto s.control.grain block count taken.some in
      record {
        of = v;
        there = (find_from (λ (x : Volume). refers_to volume x.id.0 x.name) s.control.tables.volumes v named).0;
        id_is = same;
        some = taken.some;
        inside = taken.there;
        from = omega (arith, from_here);
        upto = omega (arith, from_here, to_here, order);
        last_is = to_here;
      }

-- ---- a line begins

pub goes_to : (grain : GrainSize) (w : Whole) (a b : Agenda) → a ≡ b → GoesOn grain w b a
goes_to grain w a b is = subst (λ (x : Agenda). GoesOn grain w x a) is (λ read. stays)

pub blank_begun : (grain : GrainSize) (w : Whole) → GoesOn grain w (line_read grain w (Ok Blank) []) (Session [])
blank_begun grain w = λ read. passes refl stays

-- What a line asks, as it was read, is what its script asks.
abbrev pub BeginsBy : StoreView → Line → Result Script NoMemory → Type 0
BeginsBy s line result =
    IfOk result (λ (script : Script). (w : Whole) → StandsFor s w → GoesOn s.control.grain w (line_read s.control.grain w (Ok line) []) (agenda_of s.control.grain script))

pub command_begun : (s : StoreView) (command : Command) (result : Result Script NoMemory) →
    IfOk result (λ (script : Script). (w : Whole) → StandsFor s w → agenda_of s.control.grain script ≡ Own (command_asked s.control.grain w.books command) (behind_command w.books command) []) →
    BeginsBy s (CommandLine command) result
command_begun s command (Err e) is = tt
command_begun s command (Ok script) is = λ w stands. goes_to s.control.grain w (agenda_of s.control.grain script) (line_read s.control.grain w (Ok (CommandLine command)) []) (is w stands)

-- A line that belongs to a block of actors is read as an unknown command.
pub unknown_begun : (grain : GrainSize) (w : Whole) (line : Line) → (line ≡ Together) ⊎ (((name : Name) × (role : Role) × (line ≡ Actor name role)) ⊎ (line ≡ End)) →
    GoesOn grain w (line_read grain w (Ok line) []) (agenda_of grain (Unread UnknownCommand))
unknown_begun grain w line (inl is) = subst (λ (l : Line). GoesOn grain w (line_read grain w (Ok l) []) (agenda_of grain (Unread UnknownCommand))) (sym is) (λ read. stays)
unknown_begun grain w line (inr (inl is)) = subst (λ (l : Line). GoesOn grain w (line_read grain w (Ok l) []) (agenda_of grain (Unread UnknownCommand))) (sym is.2) (λ read. stays)
unknown_begun grain w line (inr (inr is)) = subst (λ (l : Line). GoesOn grain w (line_read grain w (Ok l) []) (agenda_of grain (Unread UnknownCommand))) (sym is) (λ read. stays)
