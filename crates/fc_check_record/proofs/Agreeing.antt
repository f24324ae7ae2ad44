-- What is kept twice agrees.
use Rattle.std.proofs.Common.{◌≡◌, ◌↔◌, ℕ, ◌+◌, ◌*◌, ◌≤◌, ◌<◌, ◌^◌, All, Bool, IsTrue, List, Option, Result, IfOk, length, replicate, slice_index_or, slice_set, refl, subst, sym, inl, inr, arith}
use Rattle.std.proofs.Math.ListN.{get_or-eq_default}
use Rattle.std.proofs.lemmas.Bool.{cases_lt}
use Rattle.std.proofs.lemmas.List.Elements.{All-get_or, All-replicate, All-set, All-weaker}
use Rattle.std.proofs.lemmas.Result.{IfOk-weaker}
use Rattle.fc_base.specs.Pools.{Pool}
use Rattle.fc_base.specs.Room.{Room}
use Rattle.fc_base.specs.declared.ids.GrainNo.{GrainNo}
use Rattle.fc_base.specs.declared.ids.MapId.{MapId}
use Rattle.fc_base.specs.declared.outcome.NoMemory.{NoMemory}
use Rattle.fc_base.specs.declared.size.GrainSize.{GrainSize}
use Rattle.fc_base.specs.declared.volume.Change.{Change}
use Rattle.fc_books.specs.Sound.{AreSound}
use Rattle.fc_changed.specs.Row.{Row}
use Rattle.fc_check_lane.specs.After.{after_entry}
use Rattle.fc_check_lane.specs.Known.{Known, known_of}
use Rattle.fc_check_lane.specs.Next.{IsNext}
use Rattle.fc_check_record.specs.Judged.{AreOne, most_calls, whole_of}
use Rattle.fc_check_record.proofs.Firsts.{control_first, known_first}
use Rattle.fc_desk.specs.Control.{ControlState}
use Rattle.fc_entry.specs.declared.entry.Entry.{Entry}
use Rattle.fc_legal.specs.Seconds.{Work, next_grain}
use Rattle.fc_legal.specs.Whole.{Whole}

-- what entries of lanes are judged by is kept of what is told
pub known_is : (c : ControlState) (k : Known) (rows : List Row) (pools : List Pool) (rooms : List Room) (calls : List ℕ) → AreOne c k calls → k ≡ known_of k.grain (whole_of c k rows pools rooms calls)
known_is c k rows pools rooms calls one = λ i. record k { volumes = one.volumes i; sizes = one.sizes i; flags = one.flags i }

pub next_is : (c : ControlState) (k : Known) (rows : List Row) (pools : List Pool) (rooms : List Room) (calls : List ℕ) (entry : Entry) (answer : Result Bool NoMemory) → AreOne c k calls →
    AreSound (whole_of c k rows pools rooms calls).books →
    IfOk answer (λ yes. (grain : GrainSize) (w : Whole) → AreSound w.books → k ≡ known_of grain w → IsTrue yes ↔ IsNext grain w entry) →
    IfOk answer (λ yes. IsTrue yes ↔ IsNext k.grain (whole_of c k rows pools rooms calls) entry)
next_is c k rows pools rooms calls entry answer one sound found =
    IfOk-weaker answer (λ yes. (grain : GrainSize) (w : Whole) → AreSound w.books → k ≡ known_of grain w → IsTrue yes ↔ IsNext grain w entry)
    (λ yes. IsTrue yes ↔ IsNext k.grain (whole_of c k rows pools rooms calls) entry)
    (λ yes f. f k.grain (whole_of c k rows pools rooms calls) sound (known_is c k rows pools rooms calls one)) found

-- the least grain of background work is that of what is told
pub next_grain_is : (c : ControlState) (k : Known) (rows : List Row) (pools : List Pool) (rooms : List Room) (calls : List ℕ) (map : MapId) (cleans : Bool) (next : Option GrainNo) → AreOne c k calls →
    ((grain : GrainSize) (w : Whole) (work : Work) → k ≡ known_of grain w → work.map ≡ map → work.cleans ≡ cleans → next ≡ next_grain grain w work) →
    (work : Work) → work.map ≡ map → work.cleans ≡ cleans → next ≡ next_grain k.grain (whole_of c k rows pools rooms calls) work
next_grain_is c k rows pools rooms calls map cleans next one found work = found k.grain (whole_of c k rows pools rooms calls) work (known_is c k rows pools rooms calls one)

-- ---- calls

-- no lane has made more than so many entries make, and so none too many to count
pub calls_before : (n : ℕ) (calls : List ℕ) → All (λ x. x ≤ n * most_calls) calls → (i : ℕ) → slice_index_or calls i 0 ≤ n * most_calls
calls_before n calls few i =
    elim (cases_lt i (length calls)) [
      | inl lt ↦ All-get_or (λ x. x ≤ n * most_calls) calls i 0 lt few
      | inr past ↦ (let none : slice_index_or calls i 0 ≡ 0 = get_or-eq_default calls 0 past in omega arith)
    ]

pub calls_few : (n : ℕ) (calls : List ℕ) → n < 262144 → All (λ x. x ≤ n * most_calls) calls → (i : ℕ) → slice_index_or calls i 0 < 2 ^ 63
calls_few n calls few all i = let before : slice_index_or calls i 0 ≤ n * most_calls = calls_before n calls all i in omega arith

-- nor with one more entry
more_few : (n : ℕ) (calls : List ℕ) → All (λ x. x ≤ n * most_calls) calls → All (λ x. x ≤ (n + 1) * most_calls) calls
more_few n calls few = All-weaker (λ x. x ≤ n * most_calls) (λ x. x ≤ (n + 1) * most_calls) (λ x le. omega arith) calls few

pub calls_after : (n : ℕ) (calls : List ℕ) (i more : ℕ) → more ≤ most_calls → All (λ x. x ≤ n * most_calls) calls →
    All (λ x. x ≤ (n + 1) * most_calls) (slice_set calls i (slice_index_or calls i 0 + more))
calls_after n calls i more small few =
    let before : slice_index_or calls i 0 ≤ n * most_calls = calls_before n calls few i in
    All-set (λ x. x ≤ (n + 1) * most_calls) calls i (slice_index_or calls i 0 + more) (omega arith) (more_few n calls few)

-- ---- what still agrees

-- the same again
along : (c new : ControlState) (k known : Known) (calls counted : List ℕ) → c ≡ new → k ≡ known → calls ≡ counted → AreOne c k calls → AreOne new known counted
along c new k known calls counted e f g one =
    subst (λ (z : List ℕ). AreOne new known z) g (subst (λ (z : Known). AreOne new z calls) f (subst (λ (z : ControlState). AreOne z k calls) e one))

-- before the first entry
pub one_first : (grain : GrainSize) (n m : ℕ) (c : ControlState) (k : Known) (calls : List ℕ) → c ≡ control_first grain → k ≡ known_first grain n → calls ≡ replicate m 0 → AreOne c k calls
one_first grain n m c k calls e f g =
    along (control_first grain) c (known_first grain n) k (replicate m 0) calls (sym e) (sym f) (sym g) (record {
      grain = refl;
      volumes = refl;
      sizes = refl;
      flags = refl;
      few = All-replicate (λ x. x ≤ 0 * most_calls) m 0 (omega arith);
    })

-- a copy
pub one_copied : (c new : ControlState) (k known : Known) (calls counted : List ℕ) (reserved : Option Change) (room : ℕ) → new ≡ record c { reserved = reserved; room = room } → known ≡ k → counted ≡ calls →
    AreOne c k calls → AreOne new known counted
one_copied c new k known calls counted reserved room e f g one =
    along (record c { reserved = reserved; room = room }) new k known calls counted (sym e) (sym f) (sym g) (record {
      grain = one.grain;
      volumes = one.volumes;
      sizes = one.sizes;
      flags = one.flags;
      few = one.few;
    })

-- with one more entry that did nothing
pub one_counted : (c : ControlState) (k : Known) (calls : List ℕ) → AreOne c k calls → AreOne c (record k { entries = k.entries + 1 }) calls
one_counted c k calls one = record {
  grain = one.grain;
  volumes = one.volumes;
  sizes = one.sizes;
  flags = one.flags;
  few = more_few k.entries calls one.few;
}

-- with an entry of a lane
pub one_after : (c : ControlState) (k known : Known) (calls counted : List ℕ) (i : ℕ) (entry : Entry) → entry.calls ≤ most_calls → known ≡ after_entry k i entry →
    counted ≡ slice_set calls i (slice_index_or calls i 0 + entry.calls) → AreOne c k calls → AreOne c known counted
one_after c k known calls counted i entry small e f one =
    along c c (after_entry k i entry) known (slice_set calls i (slice_index_or calls i 0 + entry.calls)) counted refl (sym e) (sym f) (record {
      grain = one.grain;
      volumes = one.volumes;
      sizes = one.sizes;
      flags = one.flags;
      few = calls_after k.entries calls i entry.calls small one.few;
    })
