-- What a write and a sync leave of a disk that may stop.
use Rattle.std.proofs.Common.{◌≡◌, ℕ, ◌+◌, ◌-◌, ◌≤◌, ◌<◌, min, max, List, length, sym, ap, ◌∙◌, subst, arith, ⊎_elim, ◌^◌}
use Rattle.std.proofs.lemmas.Bool.{cases_lt}
use Rattle.std.proofs.lemmas.Bool.Decides.{nat_tests}
use Rattle.std.specs.Prelude.{true, leb, Result, Ok, Err, is_err, OnOk}
use Rattle.fc_base.specs.Count.{one_more}
use Rattle.fc_metadisk.specs.Disk.{Torn, bytes_put, bytes_at}
use Rattle.fc_metadisk.specs.Stop.{IsStopDisk}
use Rattle.fc_metadisk.proofs.Rows.{torn_none, torn_twice, torn_wider, torn_put, torn_mended, torn_nowhere, length_put}

-- rows that differ in a range differ in each range round it
apart_wider : (bytes synced : List ℕ) (low high low2 high2 : ℕ) → Torn low (high - low) synced bytes → low2 ≤ low → high ≤ high2 → Torn low2 (high2 - low2) synced bytes
apart_wider bytes synced low high low2 high2 t lower higher =
    ⊎_elim (λ lt. torn_wider low2 (high2 - low2) t lower (omega arith))
    (λ le. subst (λ (z : List ℕ). Torn low2 (high2 - low2) synced z) (sym (torn_nowhere (subst (λ (n : ℕ). Torn low n synced bytes) (omega arith) t))) (torn_none low2 (high2 - low2) synced))
    (cases_lt low high)

pub put_kept : (bytes synced : List ℕ) (low high calls faults stop : ℕ) → IsStopDisk bytes synced low high calls faults stop
    → (at : ℕ) (new after : List ℕ) → at + length new ≤ length bytes → after ≡ bytes_put at new bytes
    → (low2 high2 : ℕ) → low2 ≡ min low at → high2 ≡ max high (at + length new)
    → IsStopDisk after synced low2 high2 calls faults stop
put_kept bytes synced low high calls faults stop was at new after inside is low2 high2 a b =
    let long : length after ≡ length bytes = ap length is ∙ length_put at new bytes inside in
    record {
      small = let s = was.small in rw long s;
      low_inside = let l = was.low_inside in omega (arith, long);
      high_inside = let h = was.high_inside in omega (arith, long);
      apart = torn_twice (apart_wider bytes synced low high low2 high2 was.apart (omega arith) (omega arith))
          (subst (λ (z : List ℕ). Torn low2 (high2 - low2) bytes z) (sym is) (torn_wider low2 (high2 - low2) (torn_put at new bytes inside) (omega arith) (omega arith)));
      counted = was.counted;
      running = was.running;
      stopped = was.stopped;
    }

pub settle_kept : (bytes synced : List ℕ) (low high calls faults stop : ℕ) → IsStopDisk bytes synced low high calls faults stop
    → (end : ℕ) (after : List ℕ) → end ≡ max high low → after ≡ bytes_put low (bytes_at low (end - low) bytes) synced → after ≡ bytes
settle_kept bytes synced low high calls faults stop was end after e is =
    let n : end - low ≡ high - low = omega arith in
    is ∙ (ap (λ (k : ℕ). bytes_put low (bytes_at low k bytes) synced) n ∙ torn_mended was.apart (let l = was.low_inside in let h = was.high_inside in omega arith))

pub settled : (bytes after : List ℕ) (calls faults stop : ℕ) → {synced : List ℕ} {low high : ℕ} → IsStopDisk bytes synced low high calls faults stop
    → after ≡ bytes → (size : ℕ) → size ≡ length bytes → IsStopDisk bytes after size 0 calls faults stop
settled bytes after calls faults stop was is size e = record {
  small = was.small;
  low_inside = omega arith;
  high_inside = omega arith;
  apart = subst (λ (z : List ℕ). Torn size (0 - size) z bytes) (sym is) (torn_none size (0 - size) bytes);
  counted = was.counted;
  running = was.running;
  stopped = was.stopped;
}

-- a call behind the one at which the disk stopped fails too
pub still_stopped : (stop calls : ℕ) → stop < 2 ^ 32 → leb stop calls ≡ true → leb stop (one_more calls) ≡ true
still_stopped stop calls small e = grind (arith, nat_tests)

pub on_ok_failed : {A E : Type 0} (r : Result A E) (P : Type 0) → is_err r ≡ true → OnOk r P
on_ok_failed (Ok a) P e = absurd cc
on_ok_failed (Err a) P e = tt
