-- The law of completeness: where no disk failed, every access of a volume that is online is answered with its bytes, or done, or
-- wants memory.
use Rattle.std.specs.Prelude.{◌≡◌, ◌⊎◌, ℕ, ◌+◌, ◌*◌, ◌^◌, ◌≤◌, All, List, length}
use Rattle.fc_base.specs.Grain.{block_bytes}
use Rattle.fc_base.specs.Pools.{Pool}
use Rattle.fc_base.specs.declared.ids.VolId.{VolId}
use Rattle.fc_base.specs.declared.request.ReadPart.{ReadPart}
use Rattle.fc_base.specs.declared.request.Reply.TheVariants.{Bytes, Done, NoMemory}
use Rattle.fc_base.specs.declared.request.Request.TheVariants.{Read, Write}
use Rattle.fc_base.specs.declared.request.WritePart.{WritePart}
use Rattle.fc_base.specs.declared.runs.Run.{Run}
use Rattle.fc_base.specs.declared.size.GrainSize.{GrainSize}
use Rattle.fc_base.specs.declared.state.Access.TheVariants.{Online}
use Rattle.fc_complete.specs.Served.{AreFaultless, IsUnharmed, IsServed}
use Rattle.fc_entry.specs.Picture.{volume_in, now_at, grain_of_block, byte_in_grain}
use Rattle.fc_entry.specs.Reads.{IsRightIn}
use Rattle.fc_entry.specs.declared.entry.Entry.{Entry}
use Rattle.fc_legal.specs.Legal.{IsLegal}
use Rattle.fc_legal.specs.Stands.{Stands}
use Rattle.fc_legal.specs.Steps.{Step}
use Rattle.fc_legal.specs.Whole.{Whole, opened, as_one}
use Rattle.fc_rules.specs.LaneTold.{lane_access}

-- All entries are served, and nothing is lost after them.
pub record AreServed (entries : List Entry) (last : Whole) : Type 0 where
  pub each : All IsServed entries
  pub unharmed : IsUnharmed last.picture

-- Hosts reach a volume, by what lanes are told of it.
abbrev pub IsOnline : Whole → VolId → Type 0
IsOnline w volume = lane_access (as_one w).volumes volume ≡ Online

-- A read is answered with the bytes that the volume holds there.
pub record GivesBytes (grain : GrainSize) (w : Whole) (part : ReadPart) (entry : Entry) : Type 0 where
  pub runs : List Run
  pub reply : entry.reply ≡ Bytes runs
  pub right : IsRightIn (byte_in_grain grain part.block) (block_bytes * part.count) (now_at (volume_in w.picture part.volume) (grain_of_block grain part.block)) runs

-- A session has 262,144 entries at most, which is far below the bounds here.
pub record CompletionLaw : Type 0 where
  -- where no disk has failed at the end of a legal history, all its entries are served
  pub sessions : (grain : GrainSize) (pools : List Pool) (entries : List Entry) (last : Whole) → length entries ≤ 2 ^ 31 →
      IsLegal grain (opened pools) entries last → AreFaultless last → AreServed entries last
  -- so are those that come after other entries, where nothing was lost
  pub served : (grain : GrainSize) (decisions : ℕ) (w last : Whole) (entries : List Entry) → Stands decisions w → decisions + 2 * length entries ≤ 2 ^ 32 →
      IsLegal grain w entries last → AreFaultless last → IsUnharmed w.picture → AreServed entries last
  -- a read of a volume that is online, served, gives bytes or wants memory
  pub reads : (grain : GrainSize) (w : Whole) (part : ReadPart) (entry : Entry) (next : Whole) → Step grain w entry next → entry.request ≡ Read part →
      IsOnline w part.volume → IsServed entry → GivesBytes grain w part entry ⊎ (entry.reply ≡ NoMemory)
  -- and a write is done or wants memory
  pub writes : (grain : GrainSize) (w : Whole) (part : WritePart) (entry : Entry) (next : Whole) → Step grain w entry next → entry.request ≡ Write part →
      IsOnline w part.volume → IsServed entry → (entry.reply ≡ Done) ⊎ (entry.reply ≡ NoMemory)
