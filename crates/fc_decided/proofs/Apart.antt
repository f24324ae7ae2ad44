-- What events do, part by part: to the chains, to plain volumes, to the volumes, to background work, to pools and to rooms.
use Rattle.std.proofs.lemmas.List.{length-map}
use Rattle.fc_base.specs.declared.disk.DiskKind.TheVariants.{Flat, Thin}
use Rattle.std.proofs.Common.{◌≡◌, ℕ, Bool, ◌<◌, ◌^◌, List, [], ◌∷◌, ◌++◌, length, fold, refl, ap, ◌∙◌}
use Rattle.fc_base.specs.Pools.{Pool, pool_without}
use Rattle.fc_base.specs.Room.{Room, rooms_after}
use Rattle.fc_base.specs.Sheet.{Sheet}
use Rattle.fc_base.specs.SheetFacts.{IsSound}
use Rattle.fc_base.specs.SheetFits.{FitsEvents}
use Rattle.fc_base.specs.SheetStep.{sheet_step}
use Rattle.fc_base.specs.declared.decision.LaneEvent.{LaneEvent}
use Rattle.fc_base.specs.declared.decision.LaneEvent.TheVariants.{Make}
use Rattle.fc_base.specs.declared.size.GrainSize.{GrainSize}
use Rattle.fc_books.specs.After.{sheet_after, flags_after, pools_after, after_event}
use Rattle.fc_books.specs.Books.{Books}
use Rattle.fc_entry.specs.Picture.{Picture}
use Rattle.fc_legal.proofs.Events.{step_alike}
use Rattle.fc_legal.specs.Whole.{single_lane}
use Rattle.fc_pick.specs.declared.work.WorkFlags.{WorkFlags}
use Rattle.fc_rules.specs.LaneTold.{LaneTold, picture_event, volumes_event, flags_event, pool_event, told_event}
use Rattle.fc_sheets.proofs.Lawful.{event_sound}

-- ---- lists of events

pub fold_append : {X Y : Type 0} (f : X → Y → X) (x : X) (ys zs : List Y) → fold f x (ys ++ zs) ≡ fold f (fold f x ys) zs
fold_append f x [] zs = refl
fold_append f x (y ∷ ys) zs = fold_append f (f x y) ys zs

-- The chains after events.
abbrev pub sheet_through : Sheet → List LaneEvent → Sheet
sheet_through s events = fold (sheet_step (λ grains. grains)) s events

-- Which grains occupy memory after events.
abbrev pub rooms_left : List Room → List LaneEvent → List Room
rooms_left rooms events = fold (rooms_after (λ grains. grains)) rooms events

-- What plain volumes hold after events; each looks at the chains before it.
abbrev pub picture_through : GrainSize → Sheet → Picture → List LaneEvent → Picture
picture_through grain s picture [] = picture
picture_through grain s picture (e ∷ es) = picture_through grain (sheet_step (λ grains. grains) s e) (picture_event (single_lane grain) s.slots picture e) es

pub picture_append : (grain : GrainSize) (s : Sheet) (picture : Picture) (es fs : List LaneEvent) → picture_through grain s picture (es ++ fs) ≡ picture_through grain (sheet_through s es) (picture_through grain s picture es) fs
picture_append grain s picture [] fs = refl
picture_append grain s picture (e ∷ es) fs = picture_append grain (sheet_step (λ grains. grains) s e) (picture_event (single_lane grain) s.slots picture e) es fs

-- ---- the one lane

-- What the lane of all grains tells after events.
pub told_apart : (grain : GrainSize) (told : LaneTold) (events : List LaneEvent) →
    fold (told_event (single_lane grain)) told events ≡ record {
      sheet = sheet_through told.sheet events;
      picture = picture_through grain told.sheet told.picture events;
      volumes = fold volumes_event told.volumes events;
      flags = fold flags_event told.flags events;
      pool = fold pool_event told.pool events;
      faults = told.faults;
      calls = told.calls;
    }
told_apart grain told [] = refl
told_apart grain told (e ∷ es) =
    ap (λ (s : Sheet). fold (told_event (single_lane grain)) (record (told_event (single_lane grain) told e) { sheet = s }) es) (step_alike grain told.sheet e)
    ∙ told_apart grain (record (told_event (single_lane grain) told e) { sheet = sheet_step (λ grains. grains) told.sheet e }) es

no_disks : (e : LaneEvent) → pool_event (record { flat = 0; thin = 0 }) e ≡ record { flat = 0; thin = 0 }
no_disks (Make volume grains Flat) = refl
no_disks (Make volume grains Thin) = refl
no_disks e = search

pub no_pool : (events : List LaneEvent) → fold pool_event (record { flat = 0; thin = 0 }) events ≡ record { flat = 0; thin = 0 }
no_pool [] = refl
no_pool (e ∷ es) = ap (λ (pool : Pool). fold pool_event pool es) (no_disks e) ∙ no_pool es

same_flags : (flags : List WorkFlags) (e : LaneEvent) → flags_event flags e ≡ flags_after flags e
same_flags flags (Make volume grains kind) = refl
same_flags flags e = refl

pub flags_alike : (flags : List WorkFlags) (events : List LaneEvent) → fold flags_event flags events ≡ fold flags_after flags events
flags_alike flags [] = refl
flags_alike flags (e ∷ es) = ap (λ (rows : List WorkFlags). fold flags_event rows es) (same_flags flags e) ∙ flags_alike (flags_after flags e) es

-- ---- the books

-- The books after events.
pub after_apart : (restarts : ℕ → List Bool) (b : Books) (events : List LaneEvent) →
    fold (after_event restarts) b events ≡ record b {
      sheet = fold (sheet_after restarts) b.sheet events;
      flags = fold flags_after b.flags events;
      pools = fold pools_after b.pools events;
      rooms = rooms_left b.rooms events;
    }
after_apart restarts b [] = refl
after_apart restarts b (e ∷ es) = after_apart restarts (after_event restarts b e) es

same_count : (pools : List Pool) (e : LaneEvent) → length (pools_after pools e) ≡ length pools
same_count pools (Make volume grains kind) = length-map pools (pool_without kind)
same_count pools e = search

pub pools_count : (pools : List Pool) (events : List LaneEvent) → length (fold pools_after pools events) ≡ length pools
pools_count pools [] = refl
pools_count pools (e ∷ es) = pools_count (pools_after pools e) es ∙ same_count pools e

-- ---- events that fit

pub fits_append : (local : ℕ → ℕ) (s : Sheet) (es fs : List LaneEvent) → FitsEvents local s es → FitsEvents local (fold (sheet_step local) s es) fs → FitsEvents local s (es ++ fs)
fits_append local s [] fs first second = second
fits_append local s (e ∷ es) fs first second = (first.0, fits_append local (sheet_step local s e) es fs first.1 second)

pub fits_end : (local : ℕ → ℕ) (s : Sheet) (es : List LaneEvent) → FitsEvents local s es → (fold (sheet_step local) s es).births < 2 ^ 64
fits_end local s [] fits = fits
fits_end local s (e ∷ es) fits = fits_end local (sheet_step local s e) es fits.1

pub fits_sound : (local : ℕ → ℕ) (s : Sheet) (es : List LaneEvent) → IsSound s → FitsEvents local s es → IsSound (fold (sheet_step local) s es)
fits_sound local s [] sound fits = sound
fits_sound local s (e ∷ es) sound fits = fits_sound local (sheet_step local s e) es (event_sound local s e sound fits.0) fits.1
