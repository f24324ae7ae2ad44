-- What is written: the part's bytes, and the rest of the grain.
use Rattle.std.proofs.Common.{◌≡◌, ◌≢◌, ℕ, ◌+◌, ◌*◌, Bool, true, false, cond, List, ◌++◌, length, take, drop, replicate, refl, sym, ◌∙◌, ap, subst, arith, append-nil}
use Rattle.std.proofs.lemmas.Bool.{eq-eqb, ne_eqb}
use Rattle.std.proofs.lemmas.List.{drop_all}
use Rattle.fc_base.specs.Grain.{block_bytes, grain_blocks, grain_bytes}
use Rattle.fc_base.specs.declared.request.WritePart.{WritePart}
use Rattle.fc_base.specs.declared.size.GrainSize.{GrainSize}
use Rattle.fc_base.specs.declared.size.GrainSize.TheVariants.{K64, K256}
use Rattle.fc_entry.specs.Picture.{Content, Bytes, Lost, byte_in_grain, written}
use Rattle.fc_entry.specs.Writes.{covers_grain}
use Rattle.fc_grains.specs.Calls.{HasRead}
use Rattle.fc_grains.specs.Grains.{GrainsState}
use Rattle.fc_grains.specs.Volumes.{ComeNearer, is_there, stored, rooms_of}
use Rattle.fc_steps.specs.Moving.{Counted, SameLane}
use Rattle.fc_steps.specs.WriteStep.{IsInGrain, IsPrepared}
use Rattle.fc_steps.proofs.Moving.{not_counted, counted_then, read_done, same_then}
use Rattle.fc_steps.proofs.Nearer.{come_still}

pub bytes_of_blocks : (grain : GrainSize) → block_bytes * grain_blocks grain ≡ grain_bytes grain
bytes_of_blocks K64 = refl
bytes_of_blocks K256 = refl

-- another grain at hand
pub filled_same : (old : GrainsState) (buffer : List ℕ) → SameLane old (record old { buffer = buffer })
filled_same old buffer = record {
  grain = refl;
  pool = refl;
  reserved = refl;
  pooled = refl;
  aside = refl;
  disks = refl;
  silent = refl;
  ids = refl;
  kinds = λ v. refl;
  each = refl;
  there = λ v. refl;
  sizes = λ v. refl;
  quiet = λ q. (record { told = q.told; unarmed = q.unarmed }, refl);
}

filled_counted : (old new : GrainsState) (buffer : List ℕ) → new ≡ record old { buffer = buffer } → Counted old 0 false new
filled_counted old new buffer e =
    not_counted old new (ap (λ (s : GrainsState). s.calls) e) (ap (λ (s : GrainsState). s.faults) e) (ap (λ (s : GrainsState). s.write_faults) e)
    (subst (λ (s : GrainsState). ComeNearer 0 old.volumes s.volumes) (sym e) (come_still old.volumes))

-- every byte is written
all_written : (n byte : ℕ) (content : Content) → ((bytes : List ℕ) → content ≡ Bytes bytes → length bytes ≡ n) → written 0 n byte content ≡ Bytes (replicate n byte)
all_written n byte (Bytes bytes) size =
    let long : length bytes ≡ n = size bytes refl in
    ap (λ (rest : List ℕ). Bytes (replicate n byte ++ rest)) (drop_all (0 + n) bytes (omega arith)) ∙ ap Bytes (append-nil (replicate n byte))
all_written n byte Lost size = refl

all_filled : (n byte : ℕ) (old : List ℕ) → length old ≡ n → take 0 old ++ replicate n byte ++ drop (0 + n) old ≡ replicate n byte
all_filled n byte old size =
    ap (λ (rest : List ℕ). replicate n byte ++ rest) (drop_all (0 + n) old (omega arith)) ∙ append-nil (replicate n byte)

module _ (grain : GrainSize) (part : WritePart) (inside : IsInGrain grain part) (content : Content) where
  -- the whole grain
  module _ (whole : part.count ≡ grain_blocks grain) where
    all_bytes : block_bytes * part.count ≡ grain_bytes grain
    all_bytes = ap (λ (k : ℕ). block_bytes * k) whole ∙ bytes_of_blocks grain

    from_first : byte_in_grain grain part.block ≡ 0
    from_first =
        let fits = inside.fits in
        omega (arith, all_bytes)

    is_all : covers_grain grain part ≡ true
    is_all = eq-eqb part.count (grain_blocks grain) whole

    pub whole_prepared : (old new : GrainsState) → length old.buffer ≡ grain_bytes grain → ((bytes : List ℕ) → content ≡ Bytes bytes → length bytes ≡ grain_bytes grain) →
        new ≡ record old { buffer = take 0 old.buffer ++ replicate (grain_bytes grain) part.byte ++ drop (0 + grain_bytes grain) old.buffer } → IsPrepared grain part content false old new
    whole_prepared old new size sizes e =
        let n : ℕ = grain_bytes grain in
        let buffer : new.buffer ≡ replicate n part.byte = ap (λ (s : GrainsState). s.buffer) e ∙ all_filled n part.byte old.buffer size in
        record {
          counted = subst (λ (b : Bool). Counted old (cond b 0 1) false new) (sym is_all) (filled_counted old new _ e);
          part_failed = λ t. absurd cc;
          bytes = λ t.
              ap Bytes buffer
              ∙ sym (ap (λ (k : ℕ). written k (block_bytes * part.count) part.byte content) from_first
              ∙ (ap (λ (k : ℕ). written 0 k part.byte content) all_bytes ∙ all_written n part.byte content sizes));
          stored_same = λ w y. ap (λ (s : GrainsState). stored s.volumes w y) e;
          rooms_same = ap (λ (s : GrainsState). rooms_of s.volumes) e;
          same = subst (λ (s : GrainsState). SameLane old s) (sym e) (filled_same old _);
        }

  -- a part of it
  module _ (some : part.count ≢ grain_blocks grain) (old mid : GrainsState) (v g : ℕ) (there : is_there old.volumes v ≡ true) (holds : content ≡ stored old.volumes v g) where
    is_part : covers_grain grain part ≡ false
    is_part = ne_eqb part.count (grain_blocks grain) some

    pub part_prepared : (new : GrainsState) → HasRead old v g false mid →
        new ≡ record mid { buffer = take (byte_in_grain grain part.block) mid.buffer ++ replicate (block_bytes * part.count) part.byte ++ drop (byte_in_grain grain part.block + block_bytes * part.count) mid.buffer } →
        IsPrepared grain part content false old new
    part_prepared new read e =
        let r = read_done old mid v g false there read in
        let same : SameLane mid new = subst (λ (s : GrainsState). SameLane mid s) (sym e) (filled_same mid _) in
        let filled : Counted mid 0 false new = filled_counted mid new _ e in
        record {
          counted = subst (λ (b : Bool). Counted old (cond b 0 1) false new) (sym is_part) (counted_then old mid new 1 0 false r.counted filled refl);
          part_failed = λ t. absurd cc;
          bytes = λ t.
              sym (ap (λ (c : Content). written (byte_in_grain grain part.block) (block_bytes * part.count) part.byte c) (holds ∙ read.bytes)
              ∙ sym (ap (λ (s : GrainsState). Bytes s.buffer) e));
          stored_same = λ w y. ap (λ (s : GrainsState). stored s.volumes w y) e ∙ r.stored_same w y;
          rooms_same = ap (λ (s : GrainsState). rooms_of s.volumes) e ∙ r.rooms_same;
          same = same_then old mid new r.same same;
        }

    pub failed_prepared : HasRead old v g true mid → IsPrepared grain part content true old mid
    failed_prepared read =
        let r = read_done old mid v g true there read in
        record {
          counted = subst (λ (b : Bool). Counted old (cond b 0 1) true mid) (sym is_part) r.counted;
          part_failed = λ t. is_part;
          bytes = λ t. absurd cc;
          stored_same = r.stored_same;
          rooms_same = r.rooms_same;
          same = r.same;
        }
