-- What the calls of the physical grains do, for one move.
use Rattle.std.proofs.Common.{◌≡◌, ℕ, ◌<◌, ◌≤◌, ◌+◌, Bool, true, false, eqb, Option, Some, Result, Ok, Err, List, [], ◌∷◌, length, map, refl, sym, ap, subst, ◌∙◌, arith, inl, inr, All, suc, cond}
use Rattle.std.proofs.lemmas.Bool.{cases_Bool, cases_eq}
use Rattle.std.specs.Bool.{OnTrue}
use Rattle.fc_base.specs.Column.{holder}
use Rattle.fc_base.specs.Count.{HasRisen}
use Rattle.fc_base.specs.Room.{reach}
use Rattle.fc_base.specs.Sheet.{Sheet, slot_at, column}
use Rattle.fc_base.specs.SheetFacts.{IsSound}
use Rattle.fc_base.specs.declared.disk.DiskError.{DiskError}
use Rattle.fc_base.specs.declared.disk.DiskError.TheVariants.{Failed, NoMemory}
use Rattle.fc_entry.specs.Picture.{Content, Bytes, Lost, is_lost}
use Rattle.fc_grains.specs.Calls.{HasRead, HasWritten}
use Rattle.fc_grains.specs.Grains.{GrainsState}
use Rattle.fc_grains.specs.Quiet.{IsQuiet}
use Rattle.fc_grains.proofs.Quiet.{quiet_read, quiet_written}
use Rattle.fc_steps.specs.Standing.{kind_of_grains, HasGrains, AllSized}
use Rattle.std.proofs.lemmas.List.Elements.{All-cons}
use Rattle.fc_grains.specs.Volumes.{VolumeGrains, ComeNearer, ComesNearer, is_there, volume_of, stored, changed, called, after_write, rooms_of}
use Rattle.fc_mdisk.specs.Disk.{write_failed}
use Rattle.fc_moves.proofs.Readers.{IsHolder, holder_is}
use Rattle.fc_pictures.specs.Law.{StoredAt}
use Rattle.fc_steps.specs.Moving.{Counted, SameLane, SameKinds, SameRooms, more}
use Rattle.fc_steps.proofs.Naming.{some_is}
use Rattle.fc_steps.proofs.Nearer.{come_changed, come_then, nearer_called}
use Rattle.fc_steps.proofs.Rooms.{rooms_stay, rooms_reached}
use Rattle.fc_steps.proofs.Stored.{KeepsId, KeepsContents, KeepsSize, changed_here, changed_other, stored_stays, stored_at, holds_size, contents_size, there_stays, size_stays}

-- ---- changes of volumes

pub ids_stay : (f : VolumeGrains → VolumeGrains) → KeepsId f → (id : ℕ) (vs : List VolumeGrains) → map (λ (v : VolumeGrains). v.volume) (changed id f vs) ≡ map (λ (v : VolumeGrains). v.volume) vs
ids_stay f keeps id [] = refl
ids_stay f keeps id (v ∷ vs) =
    let rest = ids_stay f keeps id vs in
    elim (cases_Bool (eqb v.volume.0 id)) [
      | inl hit ↦ rw hit (rw (keeps v) (rw rest refl))
      | inr miss ↦ rw miss (rw rest refl)
    ]

abbrev pub KeepsKind : (VolumeGrains → VolumeGrains) → Type 0
KeepsKind f = (v : VolumeGrains) → (f v).kind ≡ v.kind

pub kinds_stay : (f : VolumeGrains → VolumeGrains) → KeepsId f → KeepsKind f → (vs : List VolumeGrains) (id : ℕ) → is_there vs id ≡ true → SameKinds vs (changed id f vs)
kinds_stay f keeps kind vs id t w =
    elim (cases_eq w id) [
      | inl e ↦
          subst (λ (z : ℕ). (volume_of (changed id f vs) z).kind ≡ (volume_of vs z).kind) (sym e)
          (ap (λ (v : VolumeGrains). v.kind) (changed_here f keeps vs id t) ∙ kind (volume_of vs id))
      | inr n ↦ ap (λ (v : VolumeGrains). v.kind) (changed_other f keeps vs id w n)
    ]

pub each_stays : (f : VolumeGrains → VolumeGrains) → KeepsId f → KeepsKind f → (id : ℕ) (vs : List VolumeGrains) → map kind_of_grains (changed id f vs) ≡ map kind_of_grains vs
each_stays f keeps kind id [] = refl
each_stays f keeps kind id (v ∷ vs) =
    let rest = each_stays f keeps kind id vs in
    let same : kind_of_grains (f v) ≡ kind_of_grains v = λ k. record { volume = keeps v k; kind = kind v k } in
    elim (cases_Bool (eqb v.volume.0 id)) [
      | inl hit ↦ rw hit (λ k. same k ∷ rest k)
      | inr miss ↦ rw miss (λ k. kind_of_grains v ∷ rest k)
    ]

abbrev pub KeepsDue : (VolumeGrains → VolumeGrains) → Type 0
KeepsDue f = (v : VolumeGrains) → (f v).due ≡ v.due

abbrev IsUnarmed : VolumeGrains → Type 0
IsUnarmed v = v.due ≡ Some 0

unarmed_stays : (f : VolumeGrains → VolumeGrains) → KeepsDue f → (id : ℕ) (vs : List VolumeGrains) → All IsUnarmed vs → All IsUnarmed (changed id f vs)
unarmed_stays f keeps id [] all = all
unarmed_stays f keeps id (v ∷ vs) all =
    All-cons IsUnarmed (cond (eqb v.volume.0 id) (f v) v) (changed id f vs)
    (either (eqb v.volume.0 id) (f v) v (keeps v ∙ all 0 v (omega arith)) (all 0 v (omega arith)))
    (unarmed_stays f keeps id vs (λ k d within. all (suc k) d (omega arith)))
  where
    either : (b : Bool) (x y : VolumeGrains) → IsUnarmed x → IsUnarmed y → IsUnarmed (cond b x y)
    either true x y p q = p
    either false x y p q = q

-- ---- what entries leave as it is

pub same_lane : (old : GrainsState) → SameLane old old
same_lane old = record {
  grain = refl;
  pool = refl;
  reserved = refl;
  pooled = refl;
  aside = refl;
  disks = refl;
  silent = refl;
  ids = refl;
  kinds = λ v. refl;
  each = refl;
  there = λ v. refl;
  sizes = λ v. refl;
  quiet = λ q. (q, refl);
}

pub same_then : (old mid new : GrainsState) → SameLane old mid → SameLane mid new → SameLane old new
same_then old mid new a b =
    record {
      grain = b.grain ∙ a.grain;
      pool = b.pool ∙ a.pool;
      reserved = b.reserved ∙ a.reserved;
      pooled = b.pooled ∙ a.pooled;
      aside = b.aside ∙ a.aside;
      disks = b.disks ∙ a.disks;
      silent = b.silent ∙ a.silent;
      ids = b.ids ∙ a.ids;
      kinds = λ v. b.kinds v ∙ a.kinds v;
      each = b.each ∙ a.each;
      there = λ v. b.there v ∙ a.there v;
      sizes = λ v. b.sizes v ∙ a.sizes v;
      quiet = λ q. let p = a.quiet q in let r = b.quiet p.0 in (r.0, r.1 ∙ p.1);
    }

-- the parts that neither calls nor changes of volumes touch
abbrev beside : GrainsState → GrainsState
beside s = record s { volumes = []; buffer = []; calls = 0; faults = 0; write_faults = 0 }

-- a state of which the volume with this id changed so
changed_lane : (old new : GrainsState) (f : VolumeGrains → VolumeGrains) (id : ℕ) → KeepsId f → KeepsKind f → KeepsSize f → is_there old.volumes id ≡ true → new.volumes ≡ changed id f old.volumes →
    beside new ≡ beside old → (IsQuiet old → IsQuiet new × (new.faults ≡ old.faults)) → SameLane old new
changed_lane old new f id keeps kind size t vs rest quiet =
    record {
      grain = ap (λ (s : GrainsState). s.grain) rest;
      pool = ap (λ (s : GrainsState). s.pool) rest;
      reserved = ap (λ (s : GrainsState). s.reserved) rest;
      pooled = ap (λ (s : GrainsState). s.pooled) rest;
      aside = ap (λ (s : GrainsState). s.aside) rest;
      disks = ap (λ (s : GrainsState). s.disks) rest;
      silent = ap (λ (s : GrainsState). s.silent) rest;
      ids = ap (λ (z : List VolumeGrains). map (λ (v : VolumeGrains). v.volume) z) vs ∙ ids_stay f keeps id old.volumes;
      kinds = λ v. ap (λ (z : List VolumeGrains). (volume_of z v).kind) vs ∙ kinds_stay f keeps kind old.volumes id t v;
      each = ap (λ (z : List VolumeGrains). map kind_of_grains z) vs ∙ each_stays f keeps kind id old.volumes;
      there = λ x. ap (λ (z : List VolumeGrains). is_there z x) vs ∙ there_stays f keeps old.volumes id x;
      sizes = λ x. ap (λ (z : List VolumeGrains). length (volume_of z x).contents) vs ∙ size_stays f keeps size old.volumes id x t;
      quiet = quiet;
    }

-- it changed by no call
pub changed_same : (old new : GrainsState) (f : VolumeGrains → VolumeGrains) (id : ℕ) → KeepsId f → KeepsKind f → KeepsSize f → KeepsDue f → is_there old.volumes id ≡ true →
    new ≡ record old { volumes = changed id f old.volumes; buffer = new.buffer } → SameLane old new
changed_same old new f id keeps kind size due t e =
    let vs : new.volumes ≡ changed id f old.volumes = ap (λ (s : GrainsState). s.volumes) e in
    changed_lane old new f id keeps kind size t vs (ap beside e)
    (λ q. (
      record {
        told = ap (λ (s : GrainsState). s.silent) e ∙ q.told;
        unarmed = subst (λ (z : List VolumeGrains). All IsUnarmed z) (sym vs) (unarmed_stays f due id old.volumes q.unarmed);
      },
      ap (λ (s : GrainsState). s.faults) e,
    ))

-- ---- one call, and two

abbrev failed_of : Bool → GrainsState → GrainsState → Type 0
failed_of failed old new = failed ≡ true → HasRisen old.faults new.faults

pub risen_then : (a b c : ℕ) → a ≤ b → HasRisen b c → HasRisen a c
risen_then a b c le (inl lt) = inl (omega arith)
risen_then a b c le (inr e) = inr e

pub counted_then : (old mid new : GrainsState) (n m : ℕ) (failed : Bool) → Counted old n false mid → Counted mid m failed new → more m (more n old.calls) ≡ more (m + n) old.calls → Counted old (m + n) failed new
counted_then old mid new n m failed a b e =
    let ka = a.kept in
    let kb = b.kept in
    record {
      calls_are = b.calls_are ∙ (ap (λ z. more m z) a.calls_are ∙ e);
      kept = omega arith;
      risen = λ t. risen_then old.faults mid.faults new.faults ka (b.risen t);
      writes_kept = omega (arith, a.writes_kept, b.writes_kept);
      nearer = come_then n m old.volumes mid.volumes new.volumes a.nearer b.nearer;
    }

pub not_counted : (old new : GrainsState) → new.calls ≡ old.calls → new.faults ≡ old.faults → new.write_faults ≡ old.write_faults → ComeNearer 0 old.volumes new.volumes → Counted old 0 false new
not_counted old new c f w nearer =
    record { calls_are = c; kept = omega (arith, f); risen = λ t. absurd cc; writes_kept = omega (arith, w); nearer = nearer }

cause_of : (failed : Bool) (a b : ℕ) → OnTrue failed (HasRisen a b) → failed ≡ true → HasRisen a b
cause_of true a b c e = c
cause_of false a b c e = absurd cc

-- a read
called_id : KeepsId called
called_id v = refl

called_contents : KeepsContents called
called_contents v = refl

called_kind : KeepsKind called
called_kind v = refl

pub record ReadDone (old : GrainsState) (mid : GrainsState) (failed : Bool) : Type 0 where
  pub same : SameLane old mid
  pub stored_same : (w y : ℕ) → stored mid.volumes w y ≡ stored old.volumes w y
  pub rooms_same : SameRooms old.volumes mid.volumes
  pub counted : Counted old 1 failed mid

pub read_done : (old mid : GrainsState) (v g : ℕ) (failed : Bool) → is_there old.volumes v ≡ true → HasRead old v g failed mid → ReadDone old mid failed
read_done old mid v g failed t h =
    let vs : mid.volumes ≡ changed v called old.volumes = ap (λ (s : GrainsState). s.volumes) h.rest in
    let writes : mid.write_faults ≡ old.write_faults = ap (λ (s : GrainsState). s.write_faults) h.rest in
    record {
      same = changed_lane old mid called v called_id called_kind (contents_size called called_contents) t vs (ap beside h.rest) (λ q. let s = quiet_read old mid v g failed q t h in (s.quiet, s.faults));
      stored_same = λ w y. ap (λ (z : List VolumeGrains). stored z w y) vs ∙ stored_stays called called_id called_contents old.volumes v t w y;
      rooms_same = ap rooms_of vs ∙ rooms_stay called (λ x. refl) v old.volumes;
      counted = record {
        calls_are = h.call.calls;
        kept = h.call.faults.kept;
        risen = cause_of failed old.faults mid.faults h.call.faults.cause;
        writes_kept = omega (arith, writes);
        nearer = come_changed 1 called called_id (λ x. nearer_called x.due) v old.volumes mid.volumes t vs;
      };
    }

-- a write
pub record WriteDone (old : GrainsState) (new : GrainsState) (v g : ℕ) (failed : Bool) : Type 0 where
  pub same : SameLane old new
  pub counted : Counted old 1 failed new
  pub torn_by_write : failed ≡ true → HasRisen old.write_faults new.write_faults

write_done : {A : Type 0} (old new : GrainsState) (v g : ℕ) (answer : Result A DiskError) → KeepsId (after_write answer g old.buffer) → KeepsKind (after_write answer g old.buffer) →
    KeepsSize (after_write answer g old.buffer) → ((x : VolumeGrains) → ComesNearer 1 x.due (after_write answer g old.buffer x).due) → is_there old.volumes v ≡ true → HasWritten old v g answer new → WriteDone old new v g (write_failed answer)
write_done {A} old new v g answer keeps kind size near t h =
    let f : VolumeGrains → VolumeGrains = after_write answer g old.buffer in
    let vs : new.volumes ≡ changed v f old.volumes = ap (λ (s : GrainsState). s.volumes) h.rest in
    record {
      same = changed_lane old new f v keeps kind size t vs (ap beside h.rest) (λ q. let s = quiet_written {A = A} old new v g answer q t h in (s.quiet, s.faults));
      counted = record {
        calls_are = h.call.calls;
        kept = h.call.faults.kept;
        risen = cause_of (write_failed answer) old.faults new.faults h.call.faults.cause;
        writes_kept = h.write_faults.kept;
        nearer = come_changed 1 f keeps near v old.volumes new.volumes t vs;
      };
      torn_by_write = cause_of (write_failed answer) old.write_faults new.write_faults h.write_faults.cause;
    }

pub wrote_done : {A : Type 0} (old new : GrainsState) (v g : ℕ) (a : A) → is_there old.volumes v ≡ true → HasWritten {A = A} old v g (Ok a) new → WriteDone old new v g false
wrote_done {A} old new v g a t h = write_done {A = A} old new v g (Ok a) (λ x. refl) (λ x. refl) (holds_size (after_write {A = A} (Ok a) g old.buffer) g (Bytes old.buffer) (λ x. refl)) (λ x. nearer_called x.due) t h

pub failed_done : {A : Type 0} (old new : GrainsState) (v g : ℕ) → is_there old.volumes v ≡ true → HasWritten {A = A} old v g (Err Failed) new → WriteDone old new v g true
failed_done {A} old new v g t h = write_done {A = A} old new v g (Err Failed) (λ x. refl) (λ x. refl) (holds_size (after_write {A = A} (Err Failed) g old.buffer) g Lost (λ x. refl)) (λ x. nearer_called x.due) t h

pub refused_done : {A : Type 0} (old new : GrainsState) (v g : ℕ) → is_there old.volumes v ≡ true → HasWritten {A = A} old v g (Err NoMemory) new → WriteDone old new v g false
refused_done {A} old new v g t h = write_done {A = A} old new v g (Err NoMemory) (λ x. refl) (λ x. refl) (contents_size (after_write {A = A} (Err NoMemory) g old.buffer) (λ x. refl)) (λ x. nearer_called x.due) t h

pub wrote_stored : {A : Type 0} (old new : GrainsState) (v g : ℕ) (a : A) → is_there old.volumes v ≡ true → g < length (volume_of old.volumes v).contents → HasWritten {A = A} old v g (Ok a) new →
    StoredAt (stored old.volumes) v g (Bytes old.buffer) (stored new.volumes)
wrote_stored {A} old new v g a t lt h =
    subst (λ (z : List VolumeGrains). StoredAt (stored old.volumes) v g (Bytes old.buffer) (stored z)) (sym (ap (λ (s : GrainsState). s.volumes) h.rest))
    (stored_at (after_write {A = A} (Ok a) g old.buffer) g (Bytes old.buffer) (λ x. refl) (λ x. refl) old.volumes v t lt)

pub failed_stored : {A : Type 0} (old new : GrainsState) (v g : ℕ) → is_there old.volumes v ≡ true → g < length (volume_of old.volumes v).contents → HasWritten {A = A} old v g (Err Failed) new →
    StoredAt (stored old.volumes) v g Lost (stored new.volumes)
failed_stored {A} old new v g t lt h =
    subst (λ (z : List VolumeGrains). StoredAt (stored old.volumes) v g Lost (stored z)) (sym (ap (λ (s : GrainsState). s.volumes) h.rest))
    (stored_at (after_write {A = A} (Err Failed) g old.buffer) g Lost (λ x. refl) (λ x. refl) old.volumes v t lt)

pub refused_stored : {A : Type 0} (old new : GrainsState) (v g : ℕ) → is_there old.volumes v ≡ true → HasWritten {A = A} old v g (Err NoMemory) new → (w y : ℕ) → stored new.volumes w y ≡ stored old.volumes w y
refused_stored {A} old new v g t h w y =
    ap (λ (z : List VolumeGrains). stored z w y) (ap (λ (s : GrainsState). s.volumes) h.rest)
    ∙ stored_stays (after_write {A = A} (Err NoMemory) g old.buffer) (λ x. refl) (λ x. refl) old.volumes v t w y

pub wrote_reached : {A : Type 0} (old new : GrainsState) (v g : ℕ) (a : A) → HasWritten {A = A} old v g (Ok a) new → rooms_of new.volumes ≡ reach v g (rooms_of old.volumes)
wrote_reached {A} old new v g a h =
    ap (λ (s : GrainsState). rooms_of s.volumes) h.rest ∙ rooms_reached (after_write {A = A} (Ok a) g old.buffer) g (λ x. refl) v old.volumes

pub failed_reached : {A : Type 0} (old new : GrainsState) (v g : ℕ) → HasWritten {A = A} old v g (Err Failed) new → rooms_of new.volumes ≡ reach v g (rooms_of old.volumes)
failed_reached {A} old new v g h =
    ap (λ (s : GrainsState). rooms_of s.volumes) h.rest ∙ rooms_reached (after_write {A = A} (Err Failed) g old.buffer) g (λ x. refl) v old.volumes

pub refused_rooms : {A : Type 0} (old new : GrainsState) (v g : ℕ) → HasWritten {A = A} old v g (Err NoMemory) new → SameRooms old.volumes new.volumes
refused_rooms {A} old new v g h =
    ap (λ (s : GrainsState). rooms_of s.volumes) h.rest ∙ rooms_stay (after_write {A = A} (Err NoMemory) g old.buffer) (λ x. refl) v old.volumes

-- a change after a read that stored nothing
pub stored_after : (old mid new : List VolumeGrains) (v g : ℕ) (content : Content) → ((w y : ℕ) → stored mid w y ≡ stored old w y) → StoredAt (stored mid) v g content (stored new) → StoredAt (stored old) v g content (stored new)
stored_after old mid new v g content same a = record { here = a.here; elsewhere = λ w y apart. a.elsewhere w y apart ∙ same w y }

-- ---- the holder of a slot that can move

pub record Source (s : Sheet) (vs : List VolumeGrains) (g k h : ℕ) : Type 0 where
  pub holds : holder (column s.slots g) k ≡ Some h
  pub there : is_there vs (slot_at s.slots h).volume ≡ true
  pub inside : g < length (volume_of vs (slot_at s.slots h).volume).contents
  pub target_there : is_there vs (slot_at s.slots k).volume ≡ true
  pub target_inside : g < length (volume_of vs (slot_at s.slots k).volume).contents
  pub below : h < length s.slots

pub source_at : (s : Sheet) (vs : List VolumeGrains) (g k : ℕ) → IsSound s → AllSized s vs → k < length s.slots → (slot_at s.slots k).is_live ≡ true → g < length (slot_at s.slots k).held →
    (h : ℕ) × Source s vs g k h
source_at s vs g k sound sized kl live inside =
    let found = sound.holders g k kl live inside in
    let h : ℕ = found.0 in
    let is : IsHolder (column s.slots g) k h = holder_is (column s.slots g) k h found.1 in
    let hk = is.before in
    let hl : h < length s.slots = omega arith in
    let size : length (slot_at s.slots h).held ≡ length (slot_at s.slots k).held = sound.sizes.of_chain h k hl kl is.one_chain in
    let at_h : HasGrains s.slots vs h = sized h hl in
    let at_k : HasGrains s.slots vs k = sized k kl in
    let size_h = at_h.size in
    let size_k = at_k.size in (
      h,
      record {
        holds = found.1;
        there = at_h.there;
        inside = omega arith;
        target_there = at_k.there;
        target_inside = omega arith;
        below = hl;
      },
    )

pub one_holder : (o : Option ℕ) (h i : ℕ) → o ≡ Some h → o ≡ Some i → h ≡ i
one_holder o h i e q = some_is (sym e ∙ q)

pub lost_is : (c : Content) → is_lost c ≡ true → c ≡ Lost
lost_is (Bytes b) e = absurd cc
lost_is Lost e = refl
