-- What is still to be asked of a session, on closed examples.
use Rattle.std.proofs.Common.{◌≡◌, ℕ, false, true, Option, Some, None, List, [], ◌∷◌, codes, refl, ap, arith}
use Rattle.fc_agenda.specs.Goes.{stays, passes}
use Rattle.fc_base.specs.declared.behind.Behind.{Behind}
use Rattle.fc_base.specs.declared.behind.Behind.TheVariants.{Passing as PassingSeconds, Mapping as MappingOf, Start, Undo}
use Rattle.fc_base.specs.declared.command.Command.TheVariants.{Advance, Lsvdisk, Mkfcmap, Rmfcmap, Rmvdisk, Startfcmap}
use Rattle.fc_base.specs.declared.command.Preset.TheVariants.{Backup}
use Rattle.fc_base.specs.declared.fault.Kind.TheVariants.{Fcmap, Vdisk}
use Rattle.fc_base.specs.declared.fault.Refusal.{Refusal}
use Rattle.fc_base.specs.declared.fault.WordFault.TheVariants.{NotInBlock}
use Rattle.fc_base.specs.declared.ids.VolId.{VolId}
use Rattle.fc_base.specs.declared.name.Ref.TheVariants.{Id, Name}
use Rattle.fc_base.specs.declared.request.Reply.{Reply}
use Rattle.fc_base.specs.declared.request.Reply.TheVariants.{Done, Made, NoMemory, Refused}
use Rattle.fc_base.specs.declared.request.Request.{Request}
use Rattle.fc_base.specs.declared.request.Request.TheVariants.{Command as Asked, CopyTurn, Read, Unread}
use Rattle.fc_base.specs.declared.size.GrainSize.TheVariants.{K64}
use Rattle.fc_blocks.specs.Blocks.{block_step}
use Rattle.fc_blocks.specs.Segments.{single, line_cut}
use Rattle.fc_check_lines.specs.Asked.{IsAskedBy}
use Rattle.fc_check_lines.specs.Bytes.{by_grammar, segments_in}
use Rattle.fc_check_lines.specs.Leading.{LeadTo}
use Rattle.fc_check_requests.specs.Requests.{span_left, turns_left}
use Rattle.fc_entry.specs.declared.entry.Entry.{Entry}
use Rattle.fc_legal.specs.Agenda.{Actors, Agenda, Own, Seconds, Session, behind_entry}
use Rattle.fc_legal.specs.Scripts.{Script}
use Rattle.fc_legal.specs.Seconds.{all_work, seconds_begun}
use Rattle.fc_legal.specs.Whole.{Whole}
use Rattle.law_stands.specs.Names.{named}

-- ---- lines

-- a blank line is a line, and the last needs no newline
lines_are : segments_in (codes "lsvdisk\n\nend") ≡ single (codes "lsvdisk") ∷ single [] ∷ single (codes "end") ∷ []
unfolding line_cut
lines_are = refl

-- a block that isn't ended is left out
open_is_out : segments_in (codes "lsvdisk\ntogether\nactor h host\nlsvdisk") ≡ single (codes "lsvdisk") ∷ []
unfolding line_cut block_step
open_is_out = refl

module _ (w : Whole) where
  -- a blank line takes no entry
  blank_leads : LeadTo K64 by_grammar (Session (single [] ∷ [])) w [] (Session []) w
  blank_leads =
      record {
        goes = passes refl (passes refl stays);
        waits = record { none_passes = refl; none_begins = λ b v on. on };
      }

  -- a line with a fault isn't passed over
  fault_leads : LeadTo K64 by_grammar (Session (single (codes "end") ∷ [])) w [] (Own (Unread NotInBlock ∷ []) (PassingSeconds 0) []) w
  fault_leads =
      record {
        goes = passes refl stays;
        waits = record { none_passes = refl; none_begins = λ b v on. on };
      }

  -- a command is asked by `main`, and by nobody else
  abbrev lists : Request
  lists = Asked (Lsvdisk None)

  abbrev with_host : List (List ℕ)
  with_host = codes "main" ∷ codes "h" ∷ []

  main_asks : IsAskedBy K64 (Own (lists ∷ []) (PassingSeconds 0) []) (named with_host w) (codes "main") lists
  main_asks = record { actor = 0; place = refl; asks = refl }

  host_asks_nothing : IsAskedBy K64 (Own (lists ∷ []) (PassingSeconds 0) []) (named with_host w) (codes "h") lists → ⊥
  host_asks_nothing asked = none asked.actor asked.place asked.asks
    where
      none : (actor : ℕ) → ◌≡◌ {A = Option ℕ} (Some 1) (Some actor) → ◌≡◌ {A = Option (ℕ × Request)} (Some (0, lists)) (Some (actor, lists)) → ⊥
      none actor place asks =
          let one : 1 ≡ actor = cc place in
          let both : ◌≡◌ {A = ℕ × Request} (0, lists) (actor, lists) = cc asks in
          absurd (omega (arith, one, ap (λ (p : ℕ × Request). p.0) both))

  -- the seconds of an `advance` begin behind its entry, if it is done
  seconds_begin : (entry : Entry) → behind_entry K64 (Own (Asked (Advance 2) ∷ []) (PassingSeconds 2) []) w (record entry { reply = Done }) ≡ Seconds (seconds_begun 2 (all_work w.books)) []
  seconds_begin entry = refl

  -- in place of a backup a volume was asked; behind it comes the mapping, then its start, and nothing behind that
  abbrev backs_up : Behind
  backs_up = MappingOf (Name (codes "A")) Backup None

  abbrev asked_so_far : Request → Behind → Agenda
  asked_so_far request behind = Own (request ∷ []) behind []

  abbrev behind_answer : Reply → Entry → Request → Behind → Agenda
  behind_answer reply entry request behind = behind_entry K64 (asked_so_far request behind) w (record entry { reply = reply })

  mapping_is_next : (entry : Entry) (request : Request) →
      behind_answer (Made Vdisk 4) entry request backs_up
      ≡ asked_so_far (Asked (Mkfcmap (Name (codes "A")) (Id 4) None None (Some 50) None None true false)) (Start 4)
  mapping_is_next entry request = refl

  start_is_next : (entry : Entry) (request : Request) →
      behind_answer (Made Fcmap 7) entry request (Start 4) ≡ asked_so_far (Asked (Startfcmap (Id 7) true false)) (Undo 7 4)
  start_is_next entry request = refl

  nothing_is_next : (entry : Entry) (request : Request) → behind_answer Done entry request (Undo 7 4) ≡ Own [] (PassingSeconds 0) []
  nothing_is_next entry request = refl

  -- where one is refused, what was made is removed, the last of it first
  volume_refused : (entry : Entry) (request : Request) (refusal : Refusal) → behind_answer (Refused refusal) entry request backs_up ≡ Own [] (PassingSeconds 0) []
  volume_refused entry request refusal = refl

  mapping_refused : (entry : Entry) (request : Request) (refusal : Refusal) →
      behind_answer (Refused refusal) entry request (Start 4) ≡ asked_so_far (Asked (Rmvdisk (Id 4))) (PassingSeconds 0)
  mapping_refused entry request refusal = refl

  start_without_memory : (entry : Entry) (request : Request) →
      behind_answer NoMemory entry request (Undo 7 4) ≡ Own (Asked (Rmfcmap (Id 7) false) ∷ Asked (Rmvdisk (Id 4)) ∷ []) (PassingSeconds 0) []
  start_without_memory entry request = refl

  -- in a block each actor asks in its own order
  abbrev scripts : List Script
  scripts = record { actor = 1; requests = CopyTurn 0 ∷ CopyTurn 1 ∷ [] } ∷ record { actor = 2; requests = lists ∷ [] } ∷ []

  abbrev with_two : List (List ℕ)
  with_two = codes "main" ∷ codes "c" ∷ codes "a" ∷ []

  copier_asks : IsAskedBy K64 (Actors scripts []) (named with_two w) (codes "c") (CopyTurn 0)
  copier_asks = record { actor = 1; place = refl; asks = refl }

  admin_asks : IsAskedBy K64 (Actors scripts []) (named with_two w) (codes "a") lists
  admin_asks = record { actor = 2; place = refl; asks = refl }

  behind_copier : (entry : Entry) →
      behind_entry K64 (Actors scripts []) w (record entry { actor = 1 })
      ≡ Actors (record { actor = 1; requests = CopyTurn 1 ∷ [] } ∷ record { actor = 2; requests = lists ∷ [] } ∷ []) []
  behind_copier entry = refl

-- ---- requests

abbrev vol : VolId
vol = record { 0 = 3 }

-- a read of 130 blocks from block 127 on, in grains of 128: three grains, of which each gets a request
three_grains : span_left (record { grain = K64; volume = vol; block = 127; count = 130; byte = None; next = 0; left = 3 })
    ≡ Read (record { volume = vol; block = 127; count = 1 })
    ∷ Read (record { volume = vol; block = 128; count = 128 })
    ∷ Read (record { volume = vol; block = 256; count = 1 })
    ∷ []
three_grains = refl

-- three turns of a copier in two lanes
three_turns : turns_left (record { cleans = false; lanes = 2; next = 0; left = 3 }) ≡ CopyTurn 0 ∷ CopyTurn 1 ∷ CopyTurn 0 ∷ []
three_turns = refl
