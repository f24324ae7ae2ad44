-- A record that an entry in hand puts fits the tables, which metadata has: its grain is one of its volume's. And metadata is sound with it.
use Rattle.std.proofs.Common.{◌≡◌, ℕ, ◌<◌, true, Option, Some, None, List, [], ◌∷◌, ◌++◌, refl, sym, ap, subst, ◌∙◌, inl, inr, arith}
use Rattle.std.specs.List.{list_any}
use Rattle.std.proofs.lemmas.List.{append-nil, append_assoc}
use Rattle.fc_base.specs.Sheet.{Sheet}
use Rattle.fc_base.specs.Tables.{Tables}
use Rattle.fc_base.specs.declared.ids.VolId.{VolId}
use Rattle.fc_base.specs.declared.request.Move.{Move}
use Rattle.fc_base.specs.declared.request.Request.{Request}
use Rattle.fc_base.specs.declared.request.Request.TheVariants.{Clean, Copy, Write}
use Rattle.fc_base.specs.declared.request.Torn.{Torn as TornGrain}
use Rattle.fc_base.specs.declared.request.WritePart.{WritePart}
use Rattle.fc_base.specs.declared.size.GrainSize.{GrainSize}
use Rattle.fc_changed.specs.Row.{Row}
use Rattle.fc_entry.specs.Picture.{grain_of_block}
use Rattle.fc_image.specs.declared.record.MetaRecord.{MetaRecord}
use Rattle.fc_image.specs.declared.record.MetaRecord.TheVariants.{Changing, Torn as TornRecord, Written}
use Rattle.fc_kept.proofs.Sizes.{slot_size}
use Rattle.fc_kept.specs.Actions.{Action, Action.Data, Action.Fold, Action.Note, data_of, is_unmarked, mark_of, record_of_move}
use Rattle.fc_kept.specs.Disks.{NamedDisk, disk_of}
use Rattle.fc_kept.specs.Images.{size_in}
use Rattle.fc_kept.specs.Kept.{Kept, kept_after, sheet_kept}
use Rattle.fc_kept.specs.Recoverable.{disks_at}
use Rattle.fc_kept.specs.Sound.{FitsRecord, IsSoundKept}
use Rattle.fc_lane.specs.Lane.{LaneView}
use Rattle.fc_lane.specs.declared.doing.Doing.{Doing}
use Rattle.fc_legal.specs.Whole.{Whole}
use Rattle.fc_parts.proofs.Numbers.{all_place}
use Rattle.fc_rules.specs.Steps.{DiskStep, step_of_move}
use Rattle.fc_steps.specs.Asking.{request_of}
use Rattle.fc_steps.specs.StepsEnd.{torn_in}
use Rattle.fc_steps.specs.UnderWay.{next_of}
use Rattle.fc_steps.specs.declared.stepping.Next.TheVariants.{Move as NextMove, Own}
use Rattle.fc_steps.specs.declared.stop.Stop.{Stop}
use Rattle.law_agreeing.specs.Agreeing.{AllAgree, SameSize}
use Rattle.law_crash.proofs.Lawful.{FillOf, clean_of, copy_of, fills_given, fills_in, live_at, moves_given, moves_in, own_in, write_of}
use Rattle.law_crash.proofs.Making.{Moves, next_move, spot_in, steps_in}
use Rattle.law_crash.proofs.Stopping.{IsMove, one_step, which_step}
use Rattle.law_crash.specs.Doing.{Did, MayFold, Tears, actions_by_move, actions_of_steps, chains_behind, marks_by_move, noted, number_of, with_disks, with_kept}
use Rattle.law_crash.specs.Law.{Begins}
use Rattle.law_crash.specs.Points.{Point}
use Rattle.law_noted.proofs.DataInHand.{grain_is}
use Rattle.law_noted.proofs.HandNext.{IsAlone, IsOwnNext, alone, own_next}
use Rattle.law_noted.proofs.HandOn.{alone_found, found, put, put_mark}
use Rattle.law_noted.proofs.Nexts.{none_left, same_end}
use Rattle.law_noted.specs.Advancing.{uncopied}
use Rattle.law_noted.specs.Came.{Came, Came.behind, Came.marked, Came.stopped, Came.tears, Came.waits, steps_done}
use Rattle.law_noted.specs.DataSteps.{IsInHand, copies_nothing}
use Rattle.law_noted.specs.Records.{kept_by}

-- ---- a step of an entry

-- Its volume has the grain; a move is of that volume and that grain.
record IsOfGrain (w : Whole) (g : ℕ) (step : DiskStep) : Type 0 where
  room : let id : VolId = record { 0 = step.volume } in g < size_in w.books.tables id
  volume : (m : Move) → step.move ≡ Some m → m.volume.0 ≡ step.volume
  number : (m : Move) → step.move ≡ Some m → m.grain.0 ≡ g

some_move : (a b : Move) → Some a ≡ Some b → a ≡ b
some_move a b e = cc

by_moves : (grain : GrainSize) (w : Whole) (r : Request) (moves : List ℕ) (owns front : List DiskStep) (step : DiskStep) → Moves grain w r moves owns → IsMove (step_of_move (spot_in grain w r)) moves front step →
    IsOfGrain w (number_of grain r) step
by_moves grain w r moves owns front step m y =
    let n = next_move grain w r moves owns m y.0 y.2 y.1 y.3 _ refl in
    let at : ℕ → Type 0 = λ (v : ℕ). let id : VolId = record { 0 = v } in number_of grain r < size_in w.books.tables id in
    subst (IsOfGrain w (number_of grain r)) (sym y.5)
    (record {
      room = subst at n.1 n.0.room;
      volume = λ x e. ap (λ (z : Move). z.volume.0) (sym (some_move _ x e));
      number = λ x e. ap (λ (z : Move). z.grain.0) (sym (some_move _ x e));
    })

fill_at : (grain : GrainSize) (w : Whole) (least : List Row) (r : Request) (steps front back : List DiskStep) (step : DiskStep) (p : Point) → Begins grain w least r steps p → FillOf grain w r steps → steps ≡ front ++ step ∷ back →
    IsOfGrain w (number_of grain r) step
fill_at grain w least r steps front back step p b o split =
    let moves : List ℕ = fills_in grain w r o.k in
    elim (which_step (step_of_move (spot_in grain w r)) moves [] front back step (append-nil (steps_in grain w r moves) ∙ (sym o.steps_are ∙ split))) [
      | inl y ↦ by_moves grain w r moves [] front step (fills_given grain w r steps b.sound o b.steps_are) y
      | inr y ↦ absurd (none_left y.0 back step y.2)
    ]

own_at : (grain : GrainSize) (w : Whole) (least : List Row) (part : WritePart) (steps : List DiskStep) (p : Point) (b : Begins grain w least (Write part) steps p) → IsOfGrain w (grain_of_block grain part.block) (own_in grain w part (write_of grain w part steps b.steps_are).t)
own_at grain w least part steps p b =
    let o = write_of grain w part steps b.steps_are in
    let live = live_at grain w part o.t b.sound b.inside o.place in
    let size = slot_size w.books b.sound o.t live.there in
    let low = live.inside in
    let same = all_place grain (grain_of_block grain part.block) in
    record {
      room = omega (arith, low, size, same);
      volume = λ m e. absurd (let none : None ≡ Some m = e in cc);
      number = λ m e. absurd (let none : None ≡ Some m = e in cc);
    }

step_at : (grain : GrainSize) (w : Whole) (least : List Row) (r : Request) (steps front back : List DiskStep) (step : DiskStep) (p : Point) → Begins grain w least r steps p → steps ≡ front ++ step ∷ back →
    IsOfGrain w (number_of grain r) step
step_at grain w least (Write part) steps front back step p b split =
    let o = write_of grain w part steps b.steps_are in
    let moves : List ℕ = moves_in grain w part o.t in
    let own : DiskStep = own_in grain w part o.t in
    elim (which_step (step_of_move (spot_in grain w (Write part))) moves (own ∷ []) front back step (sym o.steps_are ∙ split)) [
      | inl y ↦ by_moves grain w (Write part) moves (own ∷ []) front step (moves_given grain w part steps b.sound b.inside o b.steps_are) y
      | inr y ↦ subst (IsOfGrain w (grain_of_block grain part.block)) (sym (one_step own y.0 back step y.2).1) (own_at grain w least part steps p b)
    ]
step_at grain w least (Copy m g) steps front back step p b split = fill_at grain w least (Copy m g) steps front back step p b (copy_of grain w m g steps b.steps_are) split
step_at grain w least (Clean m g) steps front back step p b split = fill_at grain w least (Clean m g) steps front back step p b (clean_of grain w m g steps b.sound b.steps_are) split
step_at grain w least r steps front back step p b split = absurd b.steps_are

-- ---- its records

abbrev HasRoom : Tables → ℕ → ℕ → Type 0
HasRoom t g v = let id : VolId = record { 0 = v } in g < size_in t id

same_note : (a b : MetaRecord) → Note a ≡ Note b → a ≡ b
same_note a b e = cc

last_note : (xs ys : List Action) (a b : MetaRecord) → xs ++ Note a ∷ [] ≡ ys ++ Note b ∷ [] → a ≡ b
last_note xs ys a b e = same_note a b (same_end xs ys (Note a) (Note b) e).1

note_by : (w : Whole) (rows : List Row) (g : ℕ) (step : DiskStep) (o : Option Move) (first : List Action) (x : MetaRecord) → IsOfGrain w g step → step.move ≡ o → actions_by_move rows g step o ≡ first ++ Note x ∷ [] → FitsRecord w.books.tables x
note_by w rows g step None first x at is e =
    let note : MetaRecord = Written record { 0 = step.volume } record { 0 = g } in
    let split : (mark_of rows step.volume g ++ Data step ∷ []) ++ Note note ∷ [] ≡ mark_of rows step.volume g ++ Data step ∷ Note note ∷ [] = append_assoc (mark_of rows step.volume g) (Data step ∷ []) (Note note ∷ []) in
    subst (FitsRecord w.books.tables) (last_note (mark_of rows step.volume g ++ Data step ∷ []) first note x (split ∙ e)) at.room
note_by w rows g step (Some m) first x at is e =
    let room : HasRoom w.books.tables m.grain.0 m.volume.0 =
    subst (λ (v : ℕ). HasRoom w.books.tables m.grain.0 v) (sym (at.volume m is)) (subst (λ (n : ℕ). HasRoom w.books.tables n step.volume) (sym (at.number m is)) at.room) in
    subst (FitsRecord w.books.tables) (last_note (data_of step) first (record_of_move step m) x e) room

came_fits : (grain : GrainSize) (w : Whole) (least : List Row) (r : Request) (rows : List Row) (steps : List DiskStep) (p : Point) (n : ℕ) (stop : Option Stop) (x : MetaRecord) (q : Point) → Begins grain w least r steps p →
    Came grain w r rows steps p n stop (Some x) q → FitsRecord w.books.tables x
came_fits grain w least r rows steps p n stop x q b (waits front back step first y z split some acts did) =
    note_by w rows (number_of grain r) step step.move first y (step_at grain w least r steps front back step p b split) refl acts
came_fits grain w least r rows steps p n stop x q b (tears front back step torn begun z split some is did marks) =
    subst (λ (t : TornGrain). FitsRecord w.books.tables (TornRecord t.volume t.grain t.side)) (sym is) (step_at grain w least r steps front back step p b split).room

-- ---- metadata has the tables

fold_tables : (s : Sheet) (k k' : Kept) → MayFold s k k' → k'.tables ≡ k.tables
fold_tables s k k' (inl e) = ap (λ (z : Kept). z.tables) e
fold_tables s k k' (inr e) = ap (λ (z : Kept). z.tables) e

did_tables : (grain : GrainSize) (w : Whole) (r : Request) (chains : Sheet) (actions : List Action) (p q : Point) → Did grain w r chains actions p q → q.kept.tables ≡ p.kept.tables
did_tables grain w r chains [] p q d = ap (λ (z : Point). z.kept.tables) d
did_tables grain w r chains (Data step ∷ rest) p q d = did_tables grain w r chains rest (with_disks d.0 p) q d.2
did_tables grain w r chains (Note x ∷ rest) p q d = did_tables grain w r (sheet_kept chains x) rest (noted x (with_kept d.0 p)) q d.2 ∙ fold_tables chains p.kept d.0 d.1
did_tables grain w r chains (Fold ∷ rest) p q d = absurd d

tear_tables : (grain : GrainSize) (w : Whole) (r : Request) (chains : Sheet) (step : DiskStep) (torn : Option TornGrain) (p q : Point) → Tears grain w r chains step torn p q → q.kept.tables ≡ p.kept.tables
tear_tables grain w r chains step None p q t = ap (λ (z : Point). z.kept.tables) t
tear_tables grain w r chains step (Some torn) p q t = ap (λ (z : Point). z.kept.tables) t.7 ∙ fold_tables chains p.kept t.5 t.6

came_tables : (grain : GrainSize) (w : Whole) (r : Request) (rows : List Row) (steps : List DiskStep) (p : Point) (n : ℕ) (stop : Option Stop) (due : Option MetaRecord) (q : Point) → Came grain w r rows steps p n stop due q →
    q.kept.tables ≡ p.kept.tables
came_tables grain w r rows steps p n stop due q (behind front back z split did) = did_tables grain w r w.books.sheet (actions_of_steps rows (number_of grain r) front) p z did
came_tables grain w r rows steps p n stop due q (marked front own z split own_is did) =
    did_tables grain w r w.books.sheet (actions_of_steps rows (number_of grain r) front ++ mark_of rows own.volume (number_of grain r)) p z did
came_tables grain w r rows steps p n stop due q (waits front back step first y z split some acts did) =
    did_tables grain w r w.books.sheet (actions_of_steps rows (number_of grain r) front ++ first) p z did
came_tables grain w r rows steps p n stop due q (stopped front back step halt z split s) =
    tear_tables grain w r (chains_behind grain w front) step (torn_in (Some halt)) s.marked z s.tears
    ∙ (did_tables grain w r (chains_behind grain w front) (marks_by_move rows (number_of grain r) step step.move) s.begun s.marked s.marks
    ∙ did_tables grain w r w.books.sheet (actions_of_steps rows (number_of grain r) front) p s.begun s.did)
came_tables grain w r rows steps p n stop due q (tears front back step torn begun z split some is did marks) =
    did_tables grain w r (chains_behind grain w front) (marks_by_move rows (number_of grain r) step step.move) begun z marks
    ∙ did_tables grain w r w.books.sheet (actions_of_steps rows (number_of grain r) front) p begun did

-- ---- what it says is sound

same_size : (o : Option NamedDisk) → SameSize o o
same_size None = tt
same_size (Some d) = (refl, refl)

self_agree : (grain : GrainSize) (k : Kept) (disks : List (List NamedDisk)) → AllAgree grain k disks disks
self_agree grain k disks = record { count = refl; each = λ i il. record { named = λ v. same_size (disk_of (disks_at disks i) v); free = λ kind. refl; bytes = λ v g whole. refl } }

module _ (grain : GrainSize) (w : Whole) (least : List Row) (place : ℕ) (doing : Doing) (begun now : LaneView) (steps : List DiskStep) (before : Point) (due : Option MetaRecord) (q : Point)
    (h : IsInHand grain w least place doing begun now steps before due q) where
  pub sound_here : IsSoundKept q.kept
  sound_here = (found grain w least place doing begun now steps before due q q.disks h (self_agree grain (kept_by due q.kept) q.disks)).recoverable.says.sound

  pub tables_here : q.kept.tables ≡ w.books.tables
  tables_here =
      came_tables grain w (request_of doing.steps.ask) before.kept.rows steps before (steps_done doing.steps) doing.steps.stop due q h.came ∙ h.begins.stands.says.tables

-- ---- the record that is due, the mark of a write and the record of a move that copies nothing

-- A record fits metadata, which is sound with it.
pub record IsFit (k : Kept) (x : MetaRecord) : Type 0 where
  pub fits : FitsRecord k.tables x
  pub sound : IsSoundKept (kept_after k x)

pub due_fits : (grain : GrainSize) (w : Whole) (least : List Row) (place : ℕ) (doing : Doing) (begun now : LaneView) (steps : List DiskStep) (before : Point) (x : MetaRecord) (q : Point) →
    IsInHand grain w least place doing begun now steps before (Some x) q → IsFit q.kept x
due_fits grain w least place doing begun now steps before x q h =
    let n : ℕ = steps_done doing.steps in
    record {
      fits = subst (λ (t : Tables). FitsRecord t x) (sym (tables_here grain w least place doing begun now steps before (Some x) q h))
          (came_fits grain w least (request_of doing.steps.ask) before.kept.rows steps before n doing.steps.stop x q h.begins h.came);
      sound = sound_here grain w least place doing begun now steps before None (noted x q) (put grain w least place doing begun now steps before x q h).0;
    }

module _ (grain : GrainSize) (w : Whole) (least : List Row) (place : ℕ) (doing : Doing) (begun now : LaneView) (steps : List DiskStep) (before q : Point) (h : IsInHand grain w least place doing begun now steps before None q) where
  abbrev g : ℕ
  g = number_of grain (request_of doing.steps.ask)

  fits_by : (step : DiskStep) (front back : List DiskStep) (v n : ℕ) → steps ≡ front ++ step ∷ back → v ≡ step.volume → n ≡ g → HasRoom q.kept.tables n v
  fits_by step front back v n split ev en =
      let at : HasRoom w.books.tables g step.volume = (step_at grain w least (request_of doing.steps.ask) steps front back step before h.begins split).room in
      subst (λ (t : Tables). HasRoom t n v) (sym (tables_here grain w least place doing begun now steps before None q h))
      (subst (λ (z : ℕ). HasRoom w.books.tables n z) (sym ev) (subst (λ (z : ℕ). HasRoom w.books.tables z step.volume) (sym en) at))

  pub mark_fits : (part : WritePart) → next_of doing.steps ≡ Own part → list_any (is_unmarked part.volume.0 doing.steps.grain.0) q.kept.rows ≡ true → IsFit q.kept (Changing part.volume doing.steps.grain)
  mark_fits part e due =
      let o : IsOwnNext grain w least place doing begun now steps before q h part = own_next grain w least place doing begun now steps before q h part e in
      record {
        fits = fits_by o.step o.next.front o.next.back part.volume.0 doing.steps.grain.0 o.next.split o.volume (grain_is grain w least place doing begun now steps before q h);
        sound = sound_here grain w least place doing begun now steps before None (noted (Changing part.volume doing.steps.grain) q) (put_mark grain w least place doing begun now steps before q h part e due);
      }

  pub alone_fits : (m : Move) → next_of doing.steps ≡ NextMove m → copies_nothing now doing.steps.place m ≡ true → IsFit q.kept (uncopied m)
  alone_fits m e copies =
      let a : IsAlone grain w least place doing begun now steps before q h m = alone grain w least place doing begun now steps before q h m e copies in
      record {
        fits = fits_by a.step a.next.front a.next.back m.volume.0 m.grain.0 a.next.split a.volume a.number;
        sound = (alone_found grain w least place doing begun now steps before q h m q.disks e copies (self_agree grain q.kept q.disks)).recoverable.says.sound;
      }
