-- What is left of some lines behind their first.
use Rattle.std.proofs.Common.{◌≡◌, ℕ, suc, ◌+◌, ◌-◌, ◌%◌, ◌<◌, ◌≤◌, Bool, true, false, cond, nat_lt, List, [], ◌∷◌, ◌++◌, map, flat_map, All, refl, sym, ap, ◌∙◌, subst, arith}
use Rattle.std.specs.List.{range_with_len}
use Rattle.std.proofs.lemmas.Bool.{ltb-true}
use Rattle.std.proofs.lemmas.List.Elements.{All-cons, All-head, All-tail}
use Rattle.fc_base.specs.declared.request.Request.{Request}
use Rattle.fc_base.specs.declared.size.GrainSize.{GrainSize}
use Rattle.fc_lanes.specs.Asking.{part_of}
use Rattle.fc_shares.specs.Situation.{Situation}
use Rattle.fc_actors.specs.Scripts.{ItemSuits, item_left, item_needs, work_left, work_needs}
use Rattle.fc_actors.specs.Spans.{IsSpanOf, span_left, turn_of}
use Rattle.fc_actors.specs.declared.script.Item.{Item}
use Rattle.fc_actors.specs.declared.script.Item.TheVariants.{Access}
use Rattle.fc_actors.specs.declared.script.Left.{Left}
use Rattle.fc_actors.specs.declared.script.Left.TheVariants.{Turns}
use Rattle.fc_actors.specs.declared.span.Span.{Span}
use Rattle.fc_tasks.specs.declared.script.Needs.TheVariants.{Part, Nothing}

-- ---- the grains of an access

range_more : (n k m : ℕ) → k ≡ suc m → range_with_len n k ≡ n ∷ range_with_len (n + 1) m
range_more n k m is = ap (range_with_len n) is

abbrev pub behind : Span → Span
behind span = record span { next = span.next + 1 }

abbrev pub request_next : GrainSize → Span → Request
request_next grain span = part_of grain span.access span.volume span.block span.count span.next

pub span_more : (grain : GrainSize) (span : Span) → span.next < span.end → span_left grain span ≡ request_next grain span ∷ span_left grain (behind span)
span_more grain span left =
    ap (λ (gs : List ℕ). map (part_of grain span.access span.volume span.block span.count) gs) (range_more span.next (span.end - span.next) (span.end - (span.next + 1)) (omega arith))

pub span_last : (grain : GrainSize) (span : Span) → span.end ≤ span.next → span_left grain span ≡ []
span_last grain span over =
    let none : span.end - span.next ≡ 0 = omega arith in
    ap (λ (k : ℕ). map (part_of grain span.access span.volume span.block span.count) (range_with_len span.next k)) none

pub still_span : (s : Situation) (span : Span) → span.next + 1 < span.end → IsSpanOf s span → IsSpanOf s (behind span)
still_span s span left is = record {
  volume = is.volume;
  there = is.there;
  named = is.named;
  some = is.some;
  left = left;
  touched = λ g from to. is.touched g (omega arith) to;
}

-- ---- lines

-- Where more grains are left, and where none is.
pub more_asked : (grain : GrainSize) (old rest new : List Item) (span : Span) (request : Request) → old ≡ Access span ∷ rest → new ≡ Access (behind span) ∷ rest → span.next < span.end → request ≡ request_next grain span
    → flat_map (item_left grain) old ≡ request ∷ flat_map (item_left grain) new
more_asked grain old rest new span request was now left is =
    ap (λ (l : List Item). flat_map (item_left grain) l) was ∙ ap (λ (l : List Request). l ++ flat_map (item_left grain) rest) (span_more grain span left)
    ∙ ap (λ (r : Request). r ∷ (span_left grain (behind span) ++ flat_map (item_left grain) rest)) (sym is) ∙ ap (λ (l : List Item). request ∷ flat_map (item_left grain) l) (sym now)

pub last_asked : (grain : GrainSize) (old rest : List Item) (span : Span) (request : Request) → old ≡ Access span ∷ rest → span.next < span.end → span.end ≤ span.next + 1 → request ≡ request_next grain span
    → flat_map (item_left grain) old ≡ request ∷ flat_map (item_left grain) rest
last_asked grain old rest span request was left over is =
    ap (λ (l : List Item). flat_map (item_left grain) l) was
    ∙ ap (λ (l : List Request). l ++ flat_map (item_left grain) rest) (span_more grain span left ∙ ap (λ (l : List Request). request_next grain span ∷ l) (span_last grain (behind span) over))
    ∙ ap (λ (r : Request). r ∷ flat_map (item_left grain) rest) (sym is)

pub first_suits : (s : Situation) (old rest : List Item) (item : Item) → old ≡ item ∷ rest → All (ItemSuits s) old → ItemSuits s item
first_suits s old rest item was all = All-head (ItemSuits s) item rest (subst (All (ItemSuits s)) was all)

pub rest_suit : (s : Situation) (old rest : List Item) (item : Item) → old ≡ item ∷ rest → All (ItemSuits s) old → All (ItemSuits s) rest
rest_suit s old rest item was all = All-tail (ItemSuits s) item rest (subst (All (ItemSuits s)) was all)

pub more_suit : (s : Situation) (old rest new : List Item) (span : Span) → old ≡ Access span ∷ rest → new ≡ Access (behind span) ∷ rest → span.next + 1 < span.end → All (ItemSuits s) old → All (ItemSuits s) new
more_suit s old rest new span was now left all =
    subst (All (ItemSuits s)) (sym now) (All-cons (ItemSuits s) (Access (behind span)) rest (still_span s span left (first_suits s old rest (Access span) was all)) (rest_suit s old rest (Access span) was all))

pub first_place : (lanes i : ℕ) (old rest : List Item) (span : Span) → old ≡ Access span ∷ rest → item_needs lanes old ≡ Part (suc i) → i ≡ span.next % lanes
first_place lanes i old rest span was needs =
    let same : Part (suc (span.next % lanes)) ≡ Part (suc i) = ap (item_needs lanes) (sym was) ∙ needs in let one : suc (span.next % lanes) ≡ suc i = cc in omega arith

-- ---- turns

by_test : (less : Bool) (next turns a b : ℕ) → nat_lt next turns ≡ less → cond less (Part a) Nothing ≡ Part b → (next < turns) × (a ≡ b)
by_test true next turns a b e is = let same : a ≡ b = cc in (ltb-true next turns e, same)
by_test false next turns a b e is = absurd cc

-- A turn is left, in this lane.
pub turn_left : (grain : GrainSize) (lanes i next turns : ℕ) (cleans : Bool) (work : Left) → work ≡ Turns cleans next turns → work_needs lanes work ≡ Part (suc i) → (next < turns) × (i ≡ next % lanes)
turn_left grain lanes i next turns cleans work is needs =
    let t = by_test (nat_lt next turns) next turns (suc (next % lanes)) (suc i) refl (ap (work_needs lanes) (sym is) ∙ needs) in let same = t.1 in (t.0, omega arith)

pub turns_more : (grain : GrainSize) (lanes next turns after : ℕ) (cleans : Bool) (work : Left) (request : Request) → work ≡ Turns cleans next turns → next < turns → after ≡ next + 1 → request ≡ turn_of cleans (next % lanes)
    → work_left grain lanes work ≡ request ∷ work_left grain lanes (Turns cleans after turns)
turns_more grain lanes next turns after cleans work request is left later asked =
    ap (work_left grain lanes) is ∙ ap (λ (ks : List ℕ). map (λ k. turn_of cleans (k % lanes)) ks) (range_more next (turns - next) (turns - (next + 1)) (omega arith))
    ∙ ap (λ (r : Request). r ∷ work_left grain lanes (Turns cleans (next + 1) turns)) (sym asked) ∙ ap (λ (n : ℕ). request ∷ work_left grain lanes (Turns cleans n turns)) (sym later)
