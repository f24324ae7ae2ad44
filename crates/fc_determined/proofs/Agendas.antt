-- What an agenda asks next, and how it goes on, is determined by what is told, but for the faults of disks.
use Rattle.std.proofs.Common.{◌≡◌, ℕ, Option, Some, None, List, [], ◌∷◌, refl, sym, ap, ◌∙◌}
use Rattle.std.specs.Option.{option_map}
use Rattle.fc_base.specs.declared.behind.Behind.{Behind}
use Rattle.fc_base.specs.declared.behind.Behind.TheVariants.{Passing as PassingSeconds, Mapping as MappingOf, Start, Undo}
use Rattle.fc_base.specs.declared.ids.GrainNo.{GrainNo}
use Rattle.fc_base.specs.declared.request.Reply.{Reply}
use Rattle.fc_base.specs.declared.request.Request.{Request}
use Rattle.fc_base.specs.declared.size.GrainSize.{GrainSize}
use Rattle.fc_blocks.specs.Segments.{Segment, single, together}
use Rattle.fc_determined.proofs.Commands.{with_faults}
use Rattle.fc_determined.proofs.Entries.{same_is}
use Rattle.fc_determined.specs.Smooth.{TellTheSame, but_for_faults}
use Rattle.fc_entry.specs.declared.entry.Entry.{Entry}
use Rattle.fc_legal.specs.Agenda.{Agenda, Reading, Session, Own, Seconds, Faults, Actors, behind_entry, behind_fill, behind_last, next_asked, next_of_second, without_entry, without_fill}
use Rattle.fc_legal.specs.Seconds.{Passing, Work, fill_at_hand, fill_of, goes_on_with, next_fill, next_grain}
use Rattle.fc_legal.specs.Whole.{Whole}

module _ (grain : GrainSize) (read : Reading) where
  -- ---- where the disks ever had other faults

  module _ (w : Whole) (faults : List ℕ) where
    fill_alike : (at_hand : Option Work) → fill_at_hand grain (with_faults w faults) at_hand ≡ fill_at_hand grain w at_hand
    unfolding next_grain
    fill_alike None = refl
    fill_alike (Some work) = refl

    goes_on_alike : (p : Passing) (at_hand : Option Work) → goes_on_with grain (with_faults w faults) p at_hand ≡ goes_on_with grain w p at_hand
    unfolding next_grain
    goes_on_alike p None = refl
    goes_on_alike p (Some work) = refl

    asked_alike : (a : Agenda) → next_asked grain a (with_faults w faults) ≡ next_asked grain a w
    asked_alike (Session segs) = refl
    asked_alike (Own [] behind segs) = refl
    asked_alike (Own (request ∷ rest) behind segs) = refl
    asked_alike (Faults [] actors segs) = refl
    asked_alike (Faults (request ∷ rest) actors segs) = refl
    asked_alike (Actors scripts segs) = refl
    asked_alike (Seconds p segs) = ap (option_map (λ (next : Work × GrainNo). (0, fill_of next.0 next.1))) (fill_alike p.at_hand)

    no_fill_alike : (p : Passing) (fill : Option (Work × GrainNo)) (segs : List Segment) → without_fill grain (with_faults w faults) p fill segs ≡ without_fill grain w p fill segs
    no_fill_alike p None segs = ap (λ next. Some (next_of_second next segs)) (goes_on_alike p p.at_hand)
    no_fill_alike p (Some next) segs = refl

    passes_alike : (a : Agenda) → without_entry grain read a (with_faults w faults) ≡ without_entry grain read a w
    passes_alike (Session []) = refl
    passes_alike (Session (single line ∷ segs)) = refl
    passes_alike (Session (together block ∷ segs)) = refl
    passes_alike (Faults requests actors segs) = refl
    passes_alike (Actors scripts segs) = refl
    passes_alike (Own [] behind segs) = refl
    passes_alike (Own (request ∷ rest) behind segs) = refl
    passes_alike (Seconds p segs) =
        ap (λ fill. without_fill grain (with_faults w faults) p fill segs) (fill_alike p.at_hand)
        ∙ no_fill_alike p (next_fill grain w p) segs

    behind_fill_alike : (p : Passing) (entry : Entry) (at_hand : Option Work) → behind_fill grain (with_faults w faults) p at_hand entry ≡ behind_fill grain w p at_hand entry
    unfolding next_grain
    behind_fill_alike p entry None = refl
    behind_fill_alike p entry (Some work) = refl

    last_alike : (reply : Reply) (behind : Behind) (segs : List Segment) → behind_last (with_faults w faults) reply behind segs ≡ behind_last w reply behind segs
    last_alike reply (PassingSeconds n) segs = refl
    last_alike reply (MappingOf source preset name) segs = refl
    last_alike reply (Start volume) segs = refl
    last_alike reply (Undo map volume) segs = refl

    behind_alike : (a : Agenda) (entry : Entry) → behind_entry grain a (with_faults w faults) entry ≡ behind_entry grain a w entry
    behind_alike (Session segs) entry = refl
    behind_alike (Faults [] actors segs) entry = refl
    behind_alike (Faults (request ∷ rest) actors segs) entry = refl
    behind_alike (Actors scripts segs) entry = refl
    behind_alike (Own [] behind segs) entry = refl
    behind_alike (Own (request ∷ []) behind segs) entry = last_alike entry.reply behind segs
    behind_alike (Own (request ∷ next ∷ rest) behind segs) entry = refl
    behind_alike (Seconds p segs) entry = ap (λ (q : Passing). Seconds q segs) (behind_fill_alike p entry p.at_hand)

  -- ---- what is behind an entry doesn't speak of the faults that it counts

  fill_told : (w : Whole) (p : Passing) (entry : Entry) (at_hand : Option Work) → behind_fill grain w p at_hand (but_for_faults entry) ≡ behind_fill grain w p at_hand entry
  fill_told w p entry None = refl
  fill_told w p entry (Some work) = refl

  behind_told : (a : Agenda) (w : Whole) (entry : Entry) → behind_entry grain a w (but_for_faults entry) ≡ behind_entry grain a w entry
  behind_told (Session segs) w entry = refl
  behind_told (Faults [] actors segs) w entry = refl
  behind_told (Faults (request ∷ rest) actors segs) w entry = refl
  behind_told (Actors scripts segs) w entry = refl
  behind_told (Own [] behind segs) w entry = refl
  behind_told (Own (request ∷ []) behind segs) w entry = refl
  behind_told (Own (request ∷ next ∷ rest) behind segs) w entry = refl
  behind_told (Seconds p segs) w entry = ap (λ (q : Passing). Seconds q segs) (fill_told w p entry p.at_hand)

  -- ---- after what tells the same

  module _ (w v : Whole) (same : TellTheSame w v) where
    -- the same is asked next, the agenda goes on alike, and the same is behind an entry
    pub asked_same : (a : Agenda) → next_asked grain a v ≡ next_asked grain a w
    asked_same a = ap (next_asked grain a) (same_is w v same) ∙ asked_alike w v.faults a

    pub passes_same : (a : Agenda) → without_entry grain read a v ≡ without_entry grain read a w
    passes_same a = ap (without_entry grain read a) (same_is w v same) ∙ passes_alike w v.faults a

    pub behind_same : (a : Agenda) (x y : Entry) → but_for_faults y ≡ but_for_faults x → behind_entry grain a v y ≡ behind_entry grain a w x
    behind_same a x y told =
        sym (behind_told a v y)
        ∙ ap (behind_entry grain a v) told
        ∙ behind_told a v x
        ∙ ap (λ u. behind_entry grain a u x) (same_is w v same)
        ∙ behind_alike w v.faults a x

  -- ---- it asks, or it goes on without an entry

  not_both_fill :
      (w : Whole) (p : Passing) (segs : List Segment) (fill : Option (Work × GrainNo)) (asked : ℕ × Request) (b : Agenda) →
      option_map (λ (next : Work × GrainNo). (0, fill_of next.0 next.1)) fill ≡ Some asked →
      without_fill grain w p fill segs ≡ Some b →
      ⊥
  not_both_fill w p segs None asked b h k = absurd (cc h)
  not_both_fill w p segs (Some next) asked b h k = absurd (cc k)

  pub not_both : (a b : Agenda) (w : Whole) (asked : ℕ × Request) → next_asked grain a w ≡ Some asked → without_entry grain read a w ≡ Some b → ⊥
  not_both (Session segs) b w asked h k = absurd (cc h)
  not_both (Faults requests actors segs) b w asked h k = absurd (cc k)
  not_both (Actors scripts segs) b w asked h k = absurd (cc h)
  not_both (Own [] behind segs) b w asked h k = absurd (cc h)
  not_both (Own (request ∷ rest) behind segs) b w asked h k = absurd (cc k)
  not_both (Seconds p segs) b w asked h k = not_both_fill w p segs (next_fill grain w p) asked b h k
