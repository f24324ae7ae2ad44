-- The parts of a store that was taken apart, and that they make a store again.
use Rattle.std.proofs.Common.{◌≡◌, ℕ, zero, suc, ◌<◌, List, [], ◌∷◌, length, slice_index_or, refl, sym, ◌∙◌, ap, subst, arith}
use mathlib.Core.Option.{some, some-injective, some-ne-none}
use lib.ListN.{get_elem?}
use Rattle.fc_desk.specs.Control.{ControlState}
use Rattle.fc_entry.specs.declared.entry.Entry.{Entry}
use Rattle.fc_lane.specs.Lane.{LaneView}
use Rattle.fc_legal.specs.Whole.{Whole}
use Rattle.fc_shares.specs.Law.{LeadOn, situation_of}
use Rattle.fc_shares.specs.Situation.{Situation, HasLane, IsSound, LeadsTo, entries_told}
use Rattle.fc_shares.proofs.Lawful.{share_law_holds}
use Rattle.fc_stands.specs.Store.{StandsFor, StoreView}
use Rattle.fc_store.specs.StoreParts.{lane_parts, parts_view}
use Rattle.fc_store.specs.declared.store_part.StorePart.{StorePart}
use Rattle.fc_store.specs.declared.store_part.StorePart.TheVariants.{Control, Lane}
use Rattle.fc_yard.specs.Whole.{Ends, OpensWith, Runs}
use Rattle.fc_actors.specs.Shares.{HasShare}
use Rattle.fc_tasks.specs.declared.actor.Answered.{Answered}
use Rattle.fc_tasks.specs.declared.script.Needs.{Needs}
use Rattle.fc_together.specs.Acted.{HaveActed}
use Rattle.fc_together.specs.Over.{HaveActedOver, LedOver}

runs_on : (D : Type 0) (s last : Situation) (n : ℕ) (entries : List Entry) → Runs {E = Entry} {P = StorePart D} (λ opening w p part. HasShare opening w p part) (λ a b. IsSound a b) entries_told (λ a m e b. LeadsTo a m e b) s n entries last → LeadOn s n entries last
runs_on D s last n [] runs = runs
runs_on D s last n (e ∷ es) runs = (runs.0, runs.1, runs_on D runs.0 last (suc n) es runs.2)

as_many : (D : Type 0) (ls : List LaneView) → length (lane_parts {D = D} ls) ≡ length ls
as_many D [] = refl
as_many D (l ∷ ls) = omega (arith, as_many D ls)

module _ {D : Type 0} where
  abbrev pub Opening : List (StorePart D) → ℕ → Situation → Type 0
  Opening parts first w0 = OpensWith {E = Entry} {P = StorePart D} (λ opening w p part. HasShare opening w p part) (λ a b. IsSound a b) entries_told (λ a n e b. LeadsTo a n e b) parts first w0

  abbrev pub Ended : List (StorePart D) → ℕ → List Entry → List (StorePart D) → Situation → Type 0
  Ended parts first es xs w0 = Ends {E = Entry} {P = StorePart D} (λ opening w p part. HasShare opening w p part) (λ a b. IsSound a b) entries_told (λ a n e b. LeadsTo a n e b) parts first es xs w0

  -- ---- lanes as parts

  lane_there : (ls : List LaneView) (i : ℕ) (d : LaneView) → i < length ls → get_elem? (lane_parts {D = D} ls) i ≡ some (Lane (slice_index_or ls i d))
  lane_there [] i d inside = absurd (omega (arith, inside))
  lane_there (l ∷ ls) zero d inside = refl
  lane_there (l ∷ ls) (suc i) d inside = lane_there ls i d (omega (arith, inside))

  record IsLaneOf (ls : List LaneView) (i : ℕ) (x : StorePart D) : Type 0 where
    pub lane : LaneView
    pub is : x ≡ Lane lane
    pub inside : i < length ls
    pub there : slice_index_or ls i lane ≡ lane

  lane_at : (ls : List LaneView) (i : ℕ) (x : StorePart D) → get_elem? (lane_parts {D = D} ls) i ≡ some x → IsLaneOf ls i x
  lane_at [] i x at = absurd (some-ne-none _ (sym at))
  lane_at (l ∷ ls) zero x at = record { lane = l; is = sym (some-injective _ _ at); inside = omega arith; there = refl }
  lane_at (l ∷ ls) (suc i) x at =
      let rest = lane_at ls i x at in
      record { lane = rest.lane; is = rest.is; inside = omega (arith, rest.inside); there = rest.there }

  -- ---- the store is opened

  module _ (store : StoreView) (w : Whole) (first : ℕ) (stands : StandsFor store w) (counted : w.entries ≡ first) where
    shares : (p : ℕ) (x : StorePart D) → get_elem? (parts_view store) p ≡ some x → HasShare x (situation_of store w) p x
    shares zero x at =
        let P : StorePart D → Type 0 = λ y. HasShare y (situation_of store w) zero y in
        subst P (some-injective _ _ at) (share_law_holds.opening store w stands).control
    shares (suc i) x at =
        let lane = lane_at store.lanes i x at in
        let P : StorePart D → Type 0 = λ y. HasShare y (situation_of store w) (suc i) y in
        let Q : LaneView → Type 0 = λ v. HasLane (situation_of store w) i v v in
        subst P (sym lane.is) (subst Q lane.there ((share_law_holds.opening store w stands).each i lane.lane lane.inside))

    pub opens : Opening (parts_view store) first (situation_of store w)
    opens = record { sound_is = (share_law_holds.opening store w stands).sound; counted = counted; fit = shares }

    -- ---- and closed

    control_back : (s : Situation) (x : StorePart D) → HasShare (Control store.control) s zero x → (c : ControlState) × (x ≡ Control c)
    control_back s (Control c) has = (c, refl)
    control_back s (Lane v) has = absurd has

    lane_back : (s : Situation) (i : ℕ) (v0 : LaneView) (x : StorePart D) → HasShare (Lane v0) s (suc i) x → (v : LaneView) × (x ≡ Lane v)
    lane_back s i v0 (Lane v) has = (v, refl)
    lane_back s i v0 (Control c) has = absurd has

  all_lanes : (openings : List LaneView) (xs : List (StorePart D)) → length xs ≡ length openings →
      ((i : ℕ) (x0 x : StorePart D) → get_elem? (lane_parts {D = D} openings) i ≡ some x0 → get_elem? xs i ≡ some x → (v : LaneView) × (x ≡ Lane v)) →
      (ls : List LaneView) × (xs ≡ lane_parts ls)
  all_lanes [] [] same each = ([], refl)
  all_lanes [] (x ∷ xs) same each = absurd (omega (arith, same))
  all_lanes (o ∷ os) [] same each = absurd (omega (arith, same))
  all_lanes (o ∷ os) (x ∷ xs) same each =
      let first = each zero (Lane o) x refl refl in
      let rest = all_lanes os xs (omega (arith, same)) (λ i x0 y a b. each (suc i) x0 y a b) in
      (first.0 ∷ rest.0, ap (λ y. y ∷ xs) first.1 ∙ ap (λ ys. Lane first.0 ∷ ys) rest.1)

  module _ (store : StoreView) (w : Whole) (first : ℕ) (stands : StandsFor store w) (counted : w.entries ≡ first) where
    record ComesBack (es : List Entry) (xs : List (StorePart D)) : Type 0 where
      pub new : StoreView
      pub is : xs ≡ parts_view new
      pub led : LedOver store new w es

    comes_back : (es : List Entry) (xs : List (StorePart D)) → length xs ≡ length (parts_view {D = D} store) → Ended (parts_view store) first es xs (situation_of store w) → ComesBack es xs
    comes_back es [] long ended = absurd (omega (arith, long))
    comes_back es (x ∷ xs) long ended =
        let share = ended.fit zero (Control store.control) x refl refl in
        let c = control_back store w first stands counted ended.last x share in
        let many : length xs ≡ length store.lanes = omega (arith, long, as_many D store.lanes) in
        let found = λ (i : ℕ) (x0 y : StorePart D) (a : get_elem? (lane_parts {D = D} store.lanes) i ≡ some x0) (b : get_elem? xs i ≡ some y).
        let l = lane_at store.lanes i x0 a in
        let P : StorePart D → Type 0 = λ z. HasShare z ended.last (suc i) y in
        lane_back store w first stands counted ended.last i l.lane y (subst P l.is (ended.fit (suc i) x0 y a b)) in
        let ls = all_lanes store.lanes xs many found in
        let Q : StorePart D → Type 0 = λ y. HasShare (Control store.control) ended.last zero y in
        let R : ℕ → Type 0 = λ n. LeadOn (situation_of store w) n es ended.last in
        let same : length ls.0 ≡ length store.lanes = omega (arith, many, ap (λ (ys : List (StorePart D)). length ys) ls.1, as_many D ls.0) in
        record {
          new = record { control = c.0; lanes = ls.0 };
          is = ap (λ y. y ∷ xs) c.1 ∙ ap (λ ys. Control c.0 ∷ ys) ls.1;
          led = record {
            last = ended.last;
            leads = subst R (sym counted) (runs_on D (situation_of store w) ended.last first es ended.runs);
            shares = record {
              sound = ended.sound_is;
              control = subst Q c.1 share;
              count = same ∙ stands.count ∙ sym ended.sound_is.lanes_are;
              each = λ i d inside.
                  ended.fit (suc i) (Lane (slice_index_or store.lanes i d)) (Lane (slice_index_or ls.0 i d)) (lane_there store.lanes i d (omega (arith, inside, same)))
                  (ap (λ (ys : List (StorePart D)). get_elem? ys i) ls.1 ∙ lane_there ls.0 i d inside);
            };
          };
        }

  module _ {S : Type 0} (needed : S → Needs) (suits : S → List (StorePart D) → ℕ → Type 0) (goes : S → Entry → S → Type 0) (store : StoreView) (first : ℕ) (scripts : List S) (answers : List (Answered Entry S)) (xs : List (StorePart D)) where
    abbrev Acted : List (StorePart D) → Type 0
    Acted parts = HaveActed {W = Situation} {E = Entry} {P = StorePart D} (λ opening w p part. HasShare opening w p part) (λ a b. IsSound a b) entries_told (λ a n e b. LeadsTo a n e b) needed suits goes parts first 262144 scripts answers xs

    pub came_back : (parts : List (StorePart D)) → parts ≡ parts_view store → ((w : Whole) × StandsFor store w × (w.entries ≡ first)) → Acted parts → (s : StoreView) × (xs ≡ parts_view s)
    came_back parts is told acted =
        let a : Acted (parts_view store) = subst Acted is acted in
        let b = comes_back store told.0 first told.1 told.2 a.entries xs a.long (a.ends (situation_of store told.0) (opens store told.0 first told.1 told.2)) in
        (b.new, b.is)

    pub acted_over : (parts : List (StorePart D)) (given : StoreView) → parts ≡ parts_view store → Acted parts → ((s : StoreView) → xs ≡ parts_view s → given ≡ s) → HaveActedOver needed suits goes store given first scripts answers
    acted_over parts given is acted becomes =
        let a : Acted (parts_view store) = subst Acted is acted in
        record {
          low = a.low;
          answered = a.answered;
          entries = a.entries;
          stand = a.stand;
          numbers = a.numbers;
          within = a.within;
          led = λ w stands counted.
              let b = comes_back store w first stands counted a.entries xs a.long (a.ends (situation_of store w) (opens store w first stands counted)) in
              let P : StoreView → Type 0 = λ s. LedOver store s w a.entries in
              subst P (sym (becomes b.new b.is)) b.led;
        }
