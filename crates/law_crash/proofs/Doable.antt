-- All actions of right entries can be done.
use Rattle.std.proofs.Common.{◌≡◌, ℕ, ◌<◌, ◌≤◌, ◌==◌, Bool, true, false, cond, Option, Some, None, List, [], ◌∷◌, ◌++◌, take, drop, replicate, ◌+◌, ◌*◌, refl, sym, ap, subst, ◌∙◌, arith, inl}
use Rattle.std.specs.List.{list_any}
use Rattle.std.proofs.lemmas.Bool.{ne_eqb}
use Rattle.std.proofs.lemmas.List.{append_assoc, append-nil}
use Rattle.std.proofs.lemmas.Grind.{flat_map-append}
use Rattle.fc_base.specs.Grain.{block_bytes}
use Rattle.fc_base.specs.Moves.{is_in_place}
use Rattle.fc_base.specs.Sheet.{Sheet, live_place}
use Rattle.fc_base.specs.declared.ids.VolId.{VolId}
use Rattle.fc_base.specs.declared.request.Move.{Move}
use Rattle.fc_base.specs.declared.request.Request.{Request}
use Rattle.fc_base.specs.declared.request.Request.TheVariants.{Write}
use Rattle.fc_base.specs.declared.request.Torn.{Torn}
use Rattle.fc_base.specs.declared.request.WritePart.{WritePart}
use Rattle.fc_base.specs.declared.size.GrainSize.{GrainSize}
use Rattle.fc_books.specs.Sound.{AreSound}
use Rattle.fc_changed.specs.Row.{Row}
use Rattle.fc_entry.specs.Picture.{Content, Bytes, Lost, is_lost, byte_in_grain, grain_of_block, written}
use Rattle.fc_image.specs.declared.record.MetaRecord.{MetaRecord}
use Rattle.fc_image.specs.declared.record.MetaRecord.TheVariants.{Torn as TornRecord}
use Rattle.fc_kept.specs.Actions.{Action, Action.Data, Action.Note, actions_of_move, is_unmarked, mark_of, record_of_move}
use Rattle.fc_kept.specs.Images.{size_in}
use Rattle.fc_kept.specs.Prefix.{AreStepsOf}
use Rattle.fc_kept.proofs.Sizes.{slot_size}
use Rattle.fc_legal.specs.Steps.{IsInside}
use Rattle.fc_legal.specs.Whole.{Whole, single_lane}
use Rattle.fc_parts.proofs.Numbers.{all_place}
use Rattle.fc_pictures.specs.Law.{now_of}
use Rattle.fc_rules.specs.LaneTold.{place_of}
use Rattle.fc_rules.specs.Spot.{Spot}
use Rattle.fc_rules.specs.Steps.{DiskStep}
use Rattle.law_crash.specs.Doing.{number_of, actions_by_move, actions_of_step, actions_of_steps, marks_by_move, chains_behind, noted, with_kept, with_disks, Tears, Stopped}
use Rattle.law_crash.specs.Points.{Point}
use Rattle.law_crash.proofs.Lawful.{FillOf, write_of, live_at, moves_in, own_in, moves_given, fills_in, fills_given}
use Rattle.law_crash.proofs.Making.{spot_in, steps_in, Moves, NextMove, step_with, move_with, next_move}
use Rattle.law_crash.proofs.Owning.{changing_of, written_of}
use Rattle.law_crash.proofs.Writing.{CanBeDone, AreDoable, Disked, can_be_written, can_do, disked_still, has_place, split_doable, both_doable}

-- ---- a move

bytes_of : (x : Content) → is_lost x ≡ false → (bytes : List ℕ) × (x ≡ Bytes bytes)
bytes_of (Bytes bytes) e = (bytes, refl)
bytes_of Lost e = absurd cc

one_move : (grain : GrainSize) (w : Whole) (r : Request) (done : List ℕ) (k : ℕ) (rest : List Action) (in_place lost : Bool) → NextMove grain w r done k in_place →
    is_lost ((spot_in grain w r).now ((spot_in grain w r).column.volume k)) ≡ lost → AreDoable grain w r rest →
    AreDoable grain w r (actions_of_move (step_with (spot_in grain w r) k in_place lost) (move_with (spot_in grain w r) k in_place) ++ rest)
one_move grain w r done k rest true lost n l d = d
one_move grain w r done k rest false true n l d = d
one_move grain w r done k rest false false n l d =
    let spot : Spot = spot_in grain w r in
    let v : ℕ = spot.column.volume k in
    let g : ℕ = number_of grain r in
    let b = bytes_of (spot.now v) l in
    let room : let id : VolId = record { 0 = v } in g < size_in w.books.tables id =
    subst (λ (x : ℕ). let id : VolId = record { 0 = x } in g < size_in w.books.tables id) n.1 n.0.room in
    (record { room = room; bytes = b.0; content_is = ap (λ (x : ℕ). now_of w.picture v x) (sym (all_place grain g)) ∙ b.1 }, d)

moves_doable : (grain : GrainSize) (w : Whole) (r : Request) (rows : List Row) (moves : List ℕ) (owns tail : List DiskStep) → Moves grain w r moves owns → AreDoable grain w r (actions_of_steps rows (number_of grain r) tail) →
    (todo done : List ℕ) → moves ≡ done ++ todo → AreDoable grain w r (actions_of_steps rows (number_of grain r) (steps_in grain w r todo ++ tail))
moves_doable grain w r rows moves owns tail m d [] done split = d
moves_doable grain w r rows moves owns tail m d (k ∷ todo) done split =
    let spot : Spot = spot_in grain w r in
    let v : ℕ = spot.column.volume k in
    let rest : List Action = actions_of_steps rows (number_of grain r) (steps_in grain w r todo ++ tail) in
    let more : AreDoable grain w r rest = moves_doable grain w r rows moves owns tail m d todo (done ++ k ∷ []) (split ∙ sym (append_assoc done (k ∷ []) todo)) in
    one_move grain w r done k rest (is_in_place spot.column k) (is_lost (spot.now v)) (next_move grain w r moves owns m done todo k split (is_in_place spot.column k) refl) refl more

-- ---- the write itself

written_bytes : (from count byte : ℕ) (x : Content) → (bytes : List ℕ) × (written from count byte x ≡ Bytes bytes)
written_bytes from count byte (Bytes bytes) = (take from bytes ++ replicate count byte ++ drop (from + count) bytes, refl)
written_bytes from count byte Lost = (replicate count byte, refl)

mark_by : (grain : GrainSize) (w : Whole) (r : Request) (x : MetaRecord) (rest : List Action) (due : Bool) → AreDoable grain w r rest → AreDoable grain w r (cond due (Note x ∷ []) [] ++ rest)
mark_by grain w r x rest true d = d
mark_by grain w r x rest false d = d

mark_doable : (grain : GrainSize) (w : Whole) (r : Request) (rows : List Row) (v g : ℕ) (rest : List Action) → AreDoable grain w r rest → AreDoable grain w r (mark_of rows v g ++ rest)
mark_doable grain w r rows v g rest d = mark_by grain w r (changing_of v g) rest (list_any (is_unmarked v g) rows) d

own_doable : (grain : GrainSize) (w : Whole) (part : WritePart) (rows : List Row) (t : ℕ) → AreSound w.books → IsInside grain w.books.tables part.volume part.block part.count → live_place w.books.sheet.slots part.volume.0 ≡ Some t →
    AreDoable grain w (Write part) (actions_of_steps rows (grain_of_block grain part.block) (own_in grain w part t ∷ []))
own_doable grain w part rows t sound inside place =
    let r : Request = Write part in
    let g : ℕ = grain_of_block grain part.block in
    let own : DiskStep = own_in grain w part t in
    let live = live_at grain w part t sound inside place in
    let size = slot_size w.books sound t live.there in
    let low = live.inside in
    let same : place_of (single_lane grain) g ≡ g = all_place grain g in
    let b = written_bytes (byte_in_grain grain part.block) (block_bytes * part.count) part.byte (now_of w.picture own.volume g) in
    let can : CanBeDone grain w r own = record { room = omega (arith, low, size, same); bytes = b.0; content_is = b.1 } in
    both_doable grain w r (actions_of_step rows g own) [] (mark_doable grain w r rows own.volume g (Data own ∷ Note (written_of own.volume g) ∷ []) (can, tt)) tt

-- ---- all steps

pub write_doable : (grain : GrainSize) (w : Whole) (part : WritePart) (rows : List Row) (steps : List DiskStep) → AreSound w.books → IsInside grain w.books.tables part.volume part.block part.count → AreStepsOf grain w (Write part) steps →
    AreDoable grain w (Write part) (actions_of_steps rows (grain_of_block grain part.block) steps)
write_doable grain w part rows steps sound inside are =
    let o = write_of grain w part steps are in
    let owns : List DiskStep = own_in grain w part o.t ∷ [] in
    let moves : List ℕ = moves_in grain w part o.t in
    let all = moves_doable grain w (Write part) rows moves owns owns (moves_given grain w part steps sound inside o are) (own_doable grain w part rows o.t sound inside o.place) moves [] refl in
    subst (λ (z : List DiskStep). AreDoable grain w (Write part) (actions_of_steps rows (grain_of_block grain part.block) z)) (sym o.steps_are) all

pub fill_doable : (grain : GrainSize) (w : Whole) (r : Request) (rows : List Row) (steps : List DiskStep) → AreSound w.books → FillOf grain w r steps → AreStepsOf grain w r steps → AreDoable grain w r (actions_of_steps rows (number_of grain r) steps)
fill_doable grain w r rows steps sound o are =
    let moves : List ℕ = fills_in grain w r o.k in
    let all = moves_doable grain w r rows moves [] [] (fills_given grain w r steps sound o are) tt moves [] refl in
    subst (λ (z : List DiskStep). AreDoable grain w r (actions_of_steps rows (number_of grain r) z)) (append-nil (steps_in grain w r moves) ∙ sym o.steps_are) all

-- ---- a step that stops

abbrev pub torn_of_step : GrainSize → Request → DiskStep → Torn
torn_of_step grain r step = record { volume = record { 0 = step.volume }; grain = record { 0 = number_of grain r }; side = step.side }

-- a step with calls writes a grain of its volume
data_room : (grain : GrainSize) (w : Whole) (r : Request) (step : DiskStep) (rest : List Action) (none : Bool) → none ≡ false → AreDoable grain w r (cond none [] (Data step ∷ []) ++ rest) → let id : VolId = record { 0 = step.volume } in number_of grain r < size_in w.books.tables id
data_room grain w r step rest true e d = absurd cc
data_room grain w r step rest false e d = d.0.room

room_by_move : (grain : GrainSize) (w : Whole) (r : Request) (rows : List Row) (step : DiskStep) (move : Option Move) → 1 ≤ step.calls → AreDoable grain w r (actions_by_move rows (number_of grain r) step move) →
    let id : VolId = record { 0 = step.volume } in number_of grain r < size_in w.books.tables id
room_by_move grain w r rows step None some d =
    let g : ℕ = number_of grain r in
    (split_doable grain w r (mark_of rows step.volume g) (Data step ∷ Note (written_of step.volume g) ∷ []) d).1.0.room
room_by_move grain w r rows step (Some m) some d =
    data_room grain w r step (Note (record_of_move step m) ∷ []) (step.calls == 0) (ne_eqb step.calls 0 (λ q. omega (arith, q, some))) d

marks_doable : (grain : GrainSize) (w : Whole) (r : Request) (rows : List Row) (step : DiskStep) (move : Option Move) → AreDoable grain w r (marks_by_move rows (number_of grain r) step move)
marks_doable grain w r rows step None =
    let g : ℕ = number_of grain r in
    subst (AreDoable grain w r) (append-nil (mark_of rows step.volume g)) (mark_doable grain w r rows step.volume g [] tt)
marks_doable grain w r rows step (Some m) = tt

record TornTo (grain : GrainSize) (w : Whole) (r : Request) (chains : Sheet) (step : DiskStep) (torn : Option Torn) (p : Point) : Type 0 where
  behind : Point
  tears : Tears grain w r chains step torn p behind
  disked : Disked grain w behind.disks

can_tear : (grain : GrainSize) (w : Whole) (r : Request) (chains : Sheet) (step : DiskStep) (b : Bool) (p : Point) → Disked grain w p.disks →
    (b ≡ true → (let id : VolId = record { 0 = step.volume } in number_of grain r < size_in w.books.tables id) × (1 ≤ step.calls)) →
    TornTo grain w r chains step (cond b (Some (torn_of_step grain r step)) None) p
can_tear grain w r chains step false p d can = record { behind = p; tears = refl; disked = d }
can_tear grain w r chains step true p d can =
    let v : ℕ = step.volume in
    let g : ℕ = number_of grain r in
    let torn : Torn = torn_of_step grain r step in
    let c = can refl in
    let x = can_be_written grain w v g [] p.disks (has_place grain w v g p.disks c.0 d) in
    record {
      behind = noted (TornRecord torn.volume torn.grain torn.side) (with_kept p.kept (with_disks x.0 p));
      tears = (refl, c.1, Bytes [], x.0, x.1, p.kept, inl refl, refl);
      disked = disked_still grain w v g (Bytes []) p.disks x.0 x.1 d;
    }

pub record StoppedTo (grain : GrainSize) (w : Whole) (r : Request) (front : List DiskStep) (step : DiskStep) (torn : Option Torn) (p : Point) : Type 0 where
  pub behind : Point
  pub stopped : Stopped grain w r p.kept.rows front step torn p behind
  pub disked : Disked grain w behind.disks

pub can_stop : (grain : GrainSize) (w : Whole) (r : Request) (front back : List DiskStep) (step : DiskStep) (b : Bool) (p : Point) → Disked grain w p.disks →
    AreDoable grain w r (actions_of_steps p.kept.rows (number_of grain r) (front ++ step ∷ back)) → (b ≡ true → 1 ≤ step.calls) → StoppedTo grain w r front step (cond b (Some (torn_of_step grain r step)) None) p
can_stop grain w r front back step b p d all some =
    let g : ℕ = number_of grain r in
    let rows : List Row = p.kept.rows in
    let of : DiskStep → List Action = actions_of_step rows g in
    let first = split_doable grain w r (actions_of_steps rows g front) (actions_of_steps rows g (step ∷ back)) (subst (AreDoable grain w r) (flat_map-append of front (step ∷ back)) all) in
    let here : AreDoable grain w r (of step) = (split_doable grain w r (of step) (actions_of_steps rows g back) first.1).0 in
    let chains : Sheet = chains_behind grain w front in
    let begun = can_do grain w r w.books.sheet (actions_of_steps rows g front) p first.0 d in
    let marked = can_do grain w r chains (marks_by_move rows g step step.move) begun.behind (marks_doable grain w r rows step step.move) begun.disked in
    let torn = can_tear grain w r chains step b marked.behind marked.disked (λ e. (room_by_move grain w r rows step step.move (some e) here, some e)) in
    record {
      behind = torn.behind;
      stopped = record { begun = begun.behind; marked = marked.behind; did = begun.did; marks = marked.did; tears = torn.tears };
      disked = torn.disked;
    }
