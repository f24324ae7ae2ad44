-- The counts of a volume's slots, one slot after the other.
use Rattle.std.proofs.Common.{◌≡◌, ◌≢◌, ℕ, ◌+◌, ◌<◌, ◌≤◌, cond, None, List, length, set, refl, sym, ap, subst, ◌∙◌, arith, inl, inr, length-set, get_or-set_same, get_or-set_other}
use Rattle.std.proofs.lemmas.Bool.{cases_eq, eq-eqb, ne_eqb}
use Rattle.fc_base.specs.Sheet.{Slot, slot_at}
use Rattle.fc_tallies.specs.Tallies.{tally_of, tally_at, no_tally, tally_but, is_touched, AreTallies, AreTalliesBut}
use Rattle.fc_places.specs.Indexing.{entry_at, ListsVolume}
use Rattle.fc_places.specs.declared.index.Entry.{Entry}
use Rattle.fc_tallies.specs.declared.tally.Tally.{Tally}
use Rattle.fc_events.proofs.Volumes.{AreDone, done_more, done_all, done_not}

pub tally_more : (slots : List Slot) (v : ℕ) (entries : List Entry) (before after : ℕ → Tally) (tallies new : List Tally) (i : ℕ) → ListsVolume slots v entries → i < length entries → length slots ≤ length tallies →
    new ≡ set tallies (entry_at entries i).place (after (entry_at entries i).place) → AreDone entries before after (length slots) i (tally_at tallies) → AreDone entries before after (length slots) (i + 1) (tally_at new)
tally_more slots v entries before after tallies new i l lt room q d =
    let p : ℕ = (entry_at entries i).place in
    let pl : p < length slots = l.there i lt in
    let P : List Tally → Type 0 = λ z. AreDone entries before after (length slots) (i + 1) (tally_at z) in
    subst P (sym q)
    (done_more slots v entries before after (tally_at tallies) (tally_at (set tallies p (after p))) (length slots) i p l lt refl
    (get_or-set_same tallies p (after p) no_tally (omega arith)) (λ k ne. get_or-set_other tallies p k (after p) no_tally ne) d)

pub room_more : (slots : List Slot) (tallies new : List Tally) (p : ℕ) (t : Tally) → length slots ≤ length tallies → new ≡ set tallies p t → length slots ≤ length new
room_more slots tallies new p t room q =
    let size : length new ≡ length tallies = ap length q ∙ length-set tallies p t in
    omega arith

abbrev pub but_own : List Slot → ℕ → ℕ → ℕ → Tally
but_own slots g v k = cond (is_touched slots v None k) (tally_but slots g k) (tally_of slots k)

own_but : (slots : List Slot) (g v k : ℕ) → (slot_at slots k).volume ≡ v → but_own slots g v k ≡ tally_but slots g k
own_but slots g v k e = rw (eq-eqb (slot_at slots k).volume v e) refl

other : (slots : List Slot) (g v k : ℕ) → (slot_at slots k).volume ≢ v → but_own slots g v k ≡ tally_of slots k
other slots g v k ne = rw (ne_eqb (slot_at slots k).volume v ne) refl

pub left_own : (slots : List Slot) (g v : ℕ) (entries : List Entry) (tallies : List Tally) (i : ℕ) → ListsVolume slots v entries → length entries ≤ i → AreDone entries (tally_of slots) (tally_but slots g) (length slots) i (tally_at tallies) → AreTalliesBut slots g v None tallies
left_own slots g v entries tallies i l le d k kl =
    elim (cases_eq (slot_at slots k).volume v) [
      | inl same ↦ done_all slots v entries (tally_of slots) (tally_but slots g) (tally_at tallies) i l le d k kl same ∙ sym (own_but slots g v k same)
      | inr ne ↦ done_not slots v entries (tally_of slots) (tally_but slots g) (tally_at tallies) i l d k kl ne ∙ sym (other slots g v k ne)
    ]

pub put_own : (slots : List Slot) (g v : ℕ) (entries : List Entry) (tallies : List Tally) (i : ℕ) → ListsVolume slots v entries → length entries ≤ i → AreDone entries (but_own slots g v) (tally_of slots) (length slots) i (tally_at tallies) → AreTallies slots tallies
put_own slots g v entries tallies i l le d k kl =
    elim (cases_eq (slot_at slots k).volume v) [
      | inl same ↦ done_all slots v entries (but_own slots g v) (tally_of slots) (tally_at tallies) i l le d k kl same
      | inr ne ↦ done_not slots v entries (but_own slots g v) (tally_of slots) (tally_at tallies) i l d k kl ne ∙ other slots g v k ne
    ]
