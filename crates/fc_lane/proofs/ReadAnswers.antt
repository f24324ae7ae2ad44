-- The entry of a read is right, and the lane stands for what is then told.
use Rattle.std.proofs.Common.{◌≡◌, ℕ, ◌+◌, ◌*◌, ◌≤◌, ◌/◌, Bool, true, false, None, List, [], map, take, drop, refl, sym, ap, subst, ◌∙◌, arith}
use Rattle.fc_base.specs.Column.{holder}
use Rattle.fc_base.specs.Count.{one_more}
use Rattle.fc_base.specs.Grain.{block_bytes}
use Rattle.fc_base.specs.Runs.{expanded, IsCanonical}
use Rattle.fc_base.specs.Sheet.{Sheet, slot_at, column}
use Rattle.fc_base.specs.SheetFacts.{IsSound}
use Rattle.fc_chain.specs.Chains.{Chains}
use Rattle.fc_pick.specs.Flags.{WorkState}
use Rattle.fc_apply.specs.Accesses.{AccessState}
use Rattle.fc_rules.specs.Shows.{Shows}
use Rattle.fc_rules.specs.LaneTurn.{spot_at}
use Rattle.fc_base.specs.declared.request.ReadPart.{ReadPart}
use Rattle.fc_base.specs.declared.request.Reply.{Reply}
use Rattle.fc_base.specs.declared.request.Reply.TheVariants.{Bytes as Answered, DiskFault, MediumError, NoMemory}
use Rattle.fc_base.specs.declared.request.Request.TheVariants.{Read}
use Rattle.fc_base.specs.declared.runs.Run.{Run}
use Rattle.fc_base.specs.declared.state.Access.{Access}
use Rattle.fc_base.specs.declared.state.Access.TheVariants.{Online}
use Rattle.fc_entry.specs.Picture.{Content, Bytes, Picture, byte_in_grain, grain_of_block, is_lost}
use Rattle.fc_entry.specs.Reads.{IsRightIn}
use Rattle.fc_entry.specs.declared.entry.Entry.{Entry}
use Rattle.fc_grains.proofs.Quiet.{quiet_read}
use Rattle.fc_grains.specs.Calls.{HasRead}
use Rattle.fc_grains.specs.Grains.{GrainsState, stopped}
use Rattle.fc_grains.specs.Quiet.{IsQuiet}
use Rattle.fc_grains.specs.Volumes.{is_there, stored, called}
use Rattle.fc_lane.specs.Lane.{LaneView, IsLaneOf, KeepsDisks, of}
use Rattle.fc_apply.specs.Parts.{StandsFor}
use Rattle.fc_steps.specs.Standing.{SameVolumes, kind_of_grains, HasGrains, Stands}
use Rattle.fc_apply.proofs.Volumes.{changed_map}
use Rattle.fc_lane.proofs.Entering.{disks_stay}
use Rattle.fc_lane.specs.Entering.{HasEntered}
use Rattle.fc_steps.specs.Asking.{steps_entry}
use Rattle.fc_steps.specs.Reading.{GrainEnds, ReadEnds}
use Rattle.fc_steps.specs.declared.read.GrainRead.{GrainRead}
use Rattle.fc_steps.specs.declared.read.GrainRead.TheVariants.{Done, IsLost, Failed}
use Rattle.fc_steps.proofs.Moving.{ReadDone, read_done, one_holder}
use Rattle.fc_pictures.proofs.Lawful.{picture_law_holds}
use Rattle.fc_pictures.proofs.Staying.{stored_shows}
use Rattle.fc_pictures.specs.Law.{now_of}
use Rattle.fc_rules.specs.GrainAnswers.{ByAccess, ReadAnswers}
use Rattle.fc_rules.specs.LaneRight.{IsRightInLane}
use Rattle.fc_rules.specs.LaneFits.{FitsPart}
use Rattle.fc_rules.specs.LaneTold.{LaneOf, LaneTold, LaneVolume, lane_access, place_of}
use Rattle.fc_sheets.proofs.Finding.{live_place_at}

-- ---- what a call leaves

stands_read : (s : Sheet) (picture : Picture) (old new : GrainsState) (failed : Bool) → ReadDone old new failed → Stands s picture old.volumes → Stands s picture new.volumes
stands_read s picture old new failed r st = record {
  sound = st.sound;
  sized = λ k kl. (let h : HasGrains s.slots old.volumes k = st.sized k kl in record {
    there = r.same.there (slot_at s.slots k).volume ∙ h.there;
    size = r.same.sizes (slot_at s.slots k).volume ∙ h.size;
  });
  shows = stored_shows s.slots picture (stored old.volumes) (stored new.volumes) (λ i g il. r.stored_same (slot_at s.slots i).volume g) st.shows;
}

-- calls so far, and the faults after
abbrev counted : LaneTold → ℕ → ℕ → LaneTold
counted told faults calls = record told { faults = faults; calls = told.calls + calls }

one_call : (a b n : ℕ) → b ≡ one_more a → a ≡ stopped n → b ≡ stopped (n + 1)
one_call a b n e q = grind (arith, e, q)

-- a lane of which nothing changed but its grains, by the read of one
pub record ReadLane (v v' : LaneView) : Type 0 where
  pub lane : v'.lane ≡ v.lane
  pub lanes : v'.lanes ≡ v.lanes
  pub chains : v'.chains ≡ v.chains
  pub accesses : v'.accesses ≡ v.accesses
  pub work : v'.work ≡ v.work
  pub plan_room : v'.plan_room ≡ v.plan_room
  pub changes : v'.changes ≡ v.changes

module _ (v v' : LaneView) (same : ReadLane v v') where
  of_read : v'.grains.grain ≡ v.grains.grain → of v ≡ of v'
  of_read e = sym (λ k. record { lane = same.lane k; lanes = same.lanes k; grain = e k })

  stands_after : (told : LaneTold) (faults calls : ℕ) → IsLaneOf v told → v'.grains.grain ≡ v.grains.grain → v'.grains.pool ≡ v.grains.pool → SameVolumes v'.grains.volumes told.volumes →
      Stands told.sheet told.picture v'.grains.volumes → v'.grains.faults ≡ faults → v'.grains.calls ≡ stopped (told.calls + calls) → IsLaneOf v' (counted told faults calls)
  stands_after told faults calls i grain pool kinds stands f c =
      let b = i.parts.beside in
      record {
        parts = subst (λ (l : LaneOf). StandsFor l v'.chains v'.grains v'.accesses v'.work (counted told faults calls)) (of_read grain) (record {
          lane_is = ap (λ (x : Chains). x.lane) same.chains ∙ i.parts.lane_is;
          lanes_are = ap (λ (x : Chains). x.lanes) same.chains ∙ i.parts.lanes_are;
          sheet_is = ap (λ (x : Chains). x.sheet) same.chains ∙ i.parts.sheet_is;
          beside = record {
            grain = grain ∙ b.grain;
            stands = stands;
            same = kinds;
            volumes_are = ap (λ (x : AccessState). x.volumes) same.accesses ∙ b.volumes_are;
            flags_are = ap (λ (x : WorkState). x.flags) same.work ∙ b.flags_are;
            pool_is = pool ∙ b.pool_is;
          };
        });
        faults = f;
        calls = c;
      }

  read_stands : (told : LaneTold) (source place : ℕ) (failed : Bool) → IsLaneOf v told → is_there v.grains.volumes source ≡ true → HasRead v.grains source place failed v'.grains →
      IsLaneOf v' (counted told v'.grains.faults 1)
  read_stands told source place failed i there read =
      let r = read_done v.grains v'.grains source place failed there read in
      let b = i.parts.beside in
      stands_after told v'.grains.faults 1 i r.same.grain r.same.pool
      (ap (λ (g : GrainsState). map kind_of_grains g.volumes) read.rest ∙ (changed_map kind_of_grains called (λ x. refl) v.grains.volumes source ∙ b.same))
      (stands_read told.sheet told.picture v.grains v'.grains failed r b.stands) refl (one_call v.grains.calls v'.grains.calls told.calls r.counted.calls_are i.calls)

  still_stands : (told : LaneTold) → IsLaneOf v told → v'.grains ≡ v.grains → IsLaneOf v' (counted told v'.grains.faults 0)
  still_stands told i e =
      let b = i.parts.beside in
      stands_after told v'.grains.faults 0 i (ap (λ (g : GrainsState). g.grain) e) (ap (λ (g : GrainsState). g.pool) e)
      (ap (λ (g : GrainsState). map kind_of_grains g.volumes) e ∙ b.same)
      (subst (λ (g : GrainsState). Stands told.sheet told.picture g.volumes) (sym e) b.stands) refl
      (ap (λ (g : GrainsState). g.calls) e ∙ (i.calls ∙ ap stopped (no_call told.calls)))
    where
      no_call : (n : ℕ) → n ≡ n + 0
      no_call n = omega arith

-- ---- what plain volumes hold

-- the read volume shows what its holder's stores
now_stored : (v : LaneView) (told : LaneTold) (volume place : ℕ) (end : GrainRead) (new : GrainsState) → IsLaneOf v told → (e : ReadEnds v.chains.sheet v.grains volume place end new) →
    now_of told.picture volume place ≡ stored v.grains.volumes (slot_at v.chains.sheet.slots e.source).volume place
now_stored v told volume place end new i e =
    let b = i.parts.beside in
    let same : told.sheet ≡ v.chains.sheet = sym i.parts.sheet_is in
    let sound = subst IsSound same b.stands.sound in
    let shows = subst (λ (s : Sheet). Shows s.slots told.picture (stored v.grains.volumes)) same b.stands.shows in
    let x = picture_law_holds.read v.chains.sheet told.picture (stored v.grains.volumes) e.reader place sound shows e.there.there e.there.is_live e.there.inside in
    let h : x.0 ≡ e.source = one_holder (holder (column v.chains.sheet.slots place) e.reader) x.0 e.source x.1 e.holds in
    ap (λ n. now_of told.picture n place) (sym (live_place_at v.chains.sheet.slots volume e.reader e.live).of_volume)
    ∙ (x.2 ∙ ap (λ n. stored v.grains.volumes (slot_at v.chains.sheet.slots n).volume place) h)

right_bytes : (from size : ℕ) (c : Content) (bytes : List ℕ) (runs : List Run) → c ≡ Bytes bytes → IsCanonical runs → expanded runs ≡ take size (drop from bytes) → IsRightIn from size c runs
right_bytes from size c bytes runs e canonical expands = subst (λ (z : Content). IsRightIn from size z runs) (sym e) (canonical, expands)

-- ---- the entry

abbrev pub calls_of : GrainRead → ℕ
calls_of Done = 1
calls_of IsLost = 0
calls_of Failed = 1

-- how the read of a grain leaves the lane
pub record Ended (v v' : LaneView) (calls : ℕ) : Type 0 where
  pub grain : v'.grains.grain ≡ v.grains.grain
  pub disks : v'.grains.disks ≡ v.grains.disks
  pub silent : v'.grains.silent ≡ v.grains.silent
  pub kept : v.grains.faults ≤ v'.grains.faults
  pub quiet : IsQuiet v.grains → IsQuiet v'.grains × (v'.grains.faults ≡ v.grains.faults)
  pub keeps : KeepsDisks calls None v.grains v'.grains
  pub stands : (told : LaneTold) → IsLaneOf v told → IsLaneOf v' (counted told v'.grains.faults calls)

read_ends : (v v' : LaneView) → ReadLane v v' → (source place : ℕ) (failed : Bool) → is_there v.grains.volumes source ≡ true → HasRead v.grains source place failed v'.grains → Ended v v' 1
read_ends v v' same source place failed there read =
    let r = read_done v.grains v'.grains source place failed there read in
    record {
      grain = r.same.grain;
      disks = r.same.disks;
      silent = r.same.silent;
      kept = r.counted.kept;
      quiet = λ q. (let s = quiet_read v.grains v'.grains source place failed q there read in (s.quiet, s.faults));
      keeps = record { nearer = r.counted.nearer; torn_by_write = tt; pooled = r.same.pooled; aside = r.same.aside };
      stands = λ told i. read_stands v v' same told source place failed i there read;
    }

still_ends : (v v' : LaneView) → ReadLane v v' → v'.grains ≡ v.grains → Ended v v' 0
still_ends v v' same e = record {
  grain = ap (λ (g : GrainsState). g.grain) e;
  disks = ap (λ (g : GrainsState). g.disks) e;
  silent = ap (λ (g : GrainsState). g.silent) e;
  kept = (let f : v'.grains.faults ≡ v.grains.faults = ap (λ (g : GrainsState). g.faults) e in omega (arith, f));
  quiet = λ q. (subst IsQuiet (sym e) q, ap (λ (g : GrainsState). g.faults) e);
  keeps = subst (λ (g : GrainsState). KeepsDisks 0 None v.grains g) (sym e) (disks_stay v.grains);
  stands = λ told i. still_stands v v' same told i e;
}

ended : (v v' : LaneView) → ReadLane v v' → (source place : ℕ) → is_there v.grains.volumes source ≡ true → (end : GrainRead) → GrainEnds v.grains source place end v'.grains → Ended v v' (calls_of end)
ended v v' same source place there Done e = read_ends v v' same source place false there e.1
ended v v' same source place there IsLost e = still_ends v v' same e.1
ended v v' same source place there Failed e = read_ends v v' same source place true there e.1

abbrev pub Entered : ℕ → ℕ → ReadPart → LaneView → Entry → LaneView → Type 0
Entered number actor part v entry v' = HasEntered v (λ told. FitsPart (of v) told part.volume part.block part.count) number actor (Read part) entry v'

abbrev pub read_entry : ℕ → ℕ → ℕ → ReadPart → Reply → ℕ → ℕ → ℕ → Entry
read_entry lane number actor part reply before after calls = steps_entry lane number actor (Read part) reply before after [] calls None

abbrev pub Answers : LaneView → LaneView → ℕ → ℕ → ReadPart → Reply → ℕ → Type 0
Answers v v' number actor part reply calls =
    (told : LaneTold) → IsLaneOf v told →
    ReadAnswers v.grains.grain (spot_at (of v) told (grain_of_block v.grains.grain part.block)) part (read_entry v.lane number actor part reply v.grains.faults v'.grains.faults calls) reply

module _ (v w v' : LaneView) (number actor : ℕ) (part : ReadPart) (is : v ≡ w) (same : ReadLane v v') (online : lane_access w.accesses.volumes part.volume ≡ Online) (place : ℕ) (end : GrainRead)
    (ends : ReadEnds v.chains.sheet v.grains part.volume.0 place end v'.grains) (reply : Reply) (before : ℕ) (entry : Entry) (before_is : before ≡ v.grains.faults)
    (entry_is : entry ≡ read_entry v'.lane number actor part reply before v'.grains.faults (calls_of end)) (answers : Answers v v' number actor part reply (calls_of end)) where
  abbrev own : Entry
  own = read_entry v.lane number actor part reply v.grains.faults v'.grains.faults (calls_of end)

  own_is : entry ≡ own
  own_is = entry_is ∙ (λ k. read_entry (same.lane k) number actor part reply (before_is k) v'.grains.faults (calls_of end))

  e : Ended v v' (calls_of end)
  e = ended v v' same (slot_at v.chains.sheet.slots ends.source).volume place ends.is_there end ends.ends

  is_right : (told : LaneTold) → IsLaneOf v told → IsRightInLane (of v) told own
  is_right told i =
      let here : lane_access told.volumes part.volume ≡ Online =
      ap (λ (vs : List LaneVolume). lane_access vs part.volume) (sym i.parts.beside.volumes_are) ∙ (ap (λ (x : LaneView). lane_access x.accesses.volumes part.volume) is ∙ online) in
      record {
        place = refl;
        faults_before = i.faults;
        faults_kept = e.kept;
        no_effects = refl;
        answers = subst (λ (a : Access). ByAccess a own (ReadAnswers v.grains.grain (spot_at (of v) told (grain_of_block v.grains.grain part.block)) part own reply)) (sym here) (answers told i);
      }

  has : Entered number actor part v own v'
  has = record {
    right = λ told i f. (is_right told i, e.stands told i);
    rooms = λ told i f. ends.rooms;
    asked = record { number_is = refl; actor_is = refl; request_is = refl };
    same = record { lane = same.lane; lanes = same.lanes; grain = e.grain; disks = e.disks; silent = e.silent };
    quiet = e.quiet;
    disks = e.keeps;
    plan_room = same.plan_room;
    changes = same.changes;
  }

  pub answered : Entered number actor part w entry v'
  answered = subst (λ (x : LaneView). Entered number actor part x entry v') is (subst (λ (x : Entry). Entered number actor part v x v') (sym own_is) has)

-- ---- what each end answers

module _ (v v' : LaneView) (number actor : ℕ) (part : ReadPart) (place : ℕ) (place_is : place ≡ grain_of_block v.grains.grain part.block / v.lanes) where
  now_is : (told : LaneTold) → IsLaneOf v told → (end : GrainRead) (e : ReadEnds v.chains.sheet v.grains part.volume.0 place end v'.grains) →
      now_of told.picture part.volume.0 (place_of (of v) (grain_of_block v.grains.grain part.block)) ≡ stored v.grains.volumes (slot_at v.chains.sheet.slots e.source).volume place
  now_is told i end e = ap (λ n. now_of told.picture part.volume.0 n) (sym place_is) ∙ now_stored v told part.volume.0 place end v'.grains i e

  lost_is : (told : LaneTold) → IsLaneOf v told → (end : GrainRead) (e : ReadEnds v.chains.sheet v.grains part.volume.0 place end v'.grains) (b : Bool) →
      is_lost (stored v.grains.volumes (slot_at v.chains.sheet.slots e.source).volume place) ≡ b → is_lost (now_of told.picture part.volume.0 (place_of (of v) (grain_of_block v.grains.grain part.block))) ≡ b
  lost_is told i end e b lost = ap (λ c. is_lost c) (now_is told i end e) ∙ lost

  pub answers_lost : ReadEnds v.chains.sheet v.grains part.volume.0 place IsLost v'.grains → Answers v v' number actor part MediumError 0
  answers_lost e told i = (lost_is told i IsLost e true e.ends.0, record { moves = refl; untorn = refl; calls_are = refl })

  pub answers_failed : ReadEnds v.chains.sheet v.grains part.volume.0 place Failed v'.grains → Answers v v' number actor part DiskFault 1
  answers_failed e told i =
      let r = read_done v.grains v'.grains (slot_at v.chains.sheet.slots e.source).volume place true e.is_there e.ends.1 in
      (lost_is told i Failed e false e.ends.0, record { moves = refl; untorn = refl; calls_are = refl }, r.counted.risen refl)

  pub answers_no_memory : ReadEnds v.chains.sheet v.grains part.volume.0 place Done v'.grains → Answers v v' number actor part NoMemory 1
  answers_no_memory e told i = (lost_is told i Done e false e.ends.0, 1, omega arith, record { moves = refl; untorn = refl; calls_are = refl })

  pub answers_bytes : ReadEnds v.chains.sheet v.grains part.volume.0 place Done v'.grains → (runs : List Run) → IsCanonical runs →
      expanded runs ≡ take (block_bytes * part.count) (drop (byte_in_grain v.grains.grain part.block) v'.grains.buffer) → Answers v v' number actor part (Answered runs) 1
  answers_bytes e runs canonical expands told i = (
    right_bytes (byte_in_grain v.grains.grain part.block) (block_bytes * part.count) _ v'.grains.buffer runs (now_is told i Done e ∙ e.ends.1.bytes) canonical expands,
    record { moves = refl; untorn = refl; calls_are = refl },
  )

module _ (v w v' : LaneView) (number actor : ℕ) (part : ReadPart) (is : v ≡ w) (same : ReadLane v v') (online : lane_access w.accesses.volumes part.volume ≡ Online) (place : ℕ)
    (place_is : place ≡ grain_of_block v.grains.grain part.block / v.lanes) (before : ℕ) (entry : Entry) (before_is : before ≡ v.grains.faults) where
  pub answered_lost : ReadEnds v.chains.sheet v.grains part.volume.0 place IsLost v'.grains → entry ≡ read_entry v'.lane number actor part MediumError before v'.grains.faults 0 → Entered number actor part w entry v'
  answered_lost ends e = answered v w v' number actor part is same online place IsLost ends MediumError before entry before_is e (answers_lost v v' number actor part place place_is ends)

  pub answered_failed : ReadEnds v.chains.sheet v.grains part.volume.0 place Failed v'.grains → entry ≡ read_entry v'.lane number actor part DiskFault before v'.grains.faults 1 → Entered number actor part w entry v'
  answered_failed ends e = answered v w v' number actor part is same online place Failed ends DiskFault before entry before_is e (answers_failed v v' number actor part place place_is ends)

  pub answered_no_memory : ReadEnds v.chains.sheet v.grains part.volume.0 place Done v'.grains → entry ≡ read_entry v'.lane number actor part NoMemory before v'.grains.faults 1 → Entered number actor part w entry v'
  answered_no_memory ends e = answered v w v' number actor part is same online place Done ends NoMemory before entry before_is e (answers_no_memory v v' number actor part place place_is ends)

  pub answered_bytes : ReadEnds v.chains.sheet v.grains part.volume.0 place Done v'.grains → (runs : List Run) → IsCanonical runs →
      expanded runs ≡ take (block_bytes * part.count) (drop (byte_in_grain v'.grains.grain part.block) v'.grains.buffer) →
      entry ≡ read_entry v'.lane number actor part (Answered runs) before v'.grains.faults 1 → Entered number actor part w entry v'
  answered_bytes ends runs canonical expands e =
      let grain : v'.grains.grain ≡ v.grains.grain = ap (λ (g : GrainsState). g.grain) ends.ends.1.rest in
      answered v w v' number actor part is same online place Done ends (Answered runs) before entry before_is e
      (answers_bytes v v' number actor part place place_is ends runs canonical (expands ∙ ap (λ z. take (block_bytes * part.count) (drop (byte_in_grain z part.block) v'.grains.buffer)) grain))
