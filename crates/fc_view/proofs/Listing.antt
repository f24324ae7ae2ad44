-- Which entries are drawn, entry by entry.
use Rattle.std.proofs.Common.{◌≡◌, ℕ, zero, suc, Bool, true, false, All, Option, Some, None, List, [], ◌∷◌, ◌++◌, length, map, inl, inr, refl, sym, ap, ap₂, subst, ◌∙◌}
use Rattle.std.specs.List.{slice_get}
use Rattle.std.proofs.lemmas.Bool.Decides.{eqb_tells}
use Rattle.std.proofs.lemmas.List.{append_assoc, map-append}
use Rattle.std.proofs.lemmas.List.Elements.{All-append, All-cons, All-head, All-nil, All-weaker}
use Rattle.fc_drawing.specs.Drawn.{Drawn}
use Rattle.fc_entry.specs.declared.entry.Entry.{Entry}
use Rattle.fc_trace.specs.declared.header.Header.{Header}
use Rattle.fc_view.specs.Behind.{AreNextDrawings, is_wanted, wanted_next}
use Rattle.fc_view.specs.Drawings.{AreDrawings, IsDrawing, IsDrawingIn, one_or_none, wanted_of}

-- ---- one entry more

at_same : (entries : List Entry) (entry : Entry) → one_or_none (slice_get entries (length entries)) ++ entry ∷ [] ≡ one_or_none (slice_get (entries ++ entry ∷ []) (length entries))
at_same [] entry = refl
at_same (e ∷ entries) entry = at_same entries entry

at_other : (entries : List Entry) (entry : Entry) (n : ℕ) → (n ≡ length entries → ⊥) → one_or_none (slice_get entries n) ++ [] ≡ one_or_none (slice_get (entries ++ entry ∷ []) n)
at_other [] entry zero other = absurd (other refl)
at_other [] entry (suc n) other = refl
at_other (e ∷ entries) entry zero other = refl
at_other (e ∷ entries) entry (suc n) other = at_other entries entry n (λ same. other (ap suc same))

wanted_more : (at : Option ℕ) (entries : List Entry) (entry : Entry) → wanted_of at entries ++ wanted_next (is_wanted at (length entries)) entry ≡ wanted_of at (entries ++ entry ∷ [])
wanted_more None entries entry = refl
wanted_more (Some n) entries entry = elim (eqb_tells n (length entries)) [
  | inl same ↦
      ap (λ (b : Bool). one_or_none (slice_get entries n) ++ wanted_next b entry) same.0
      ∙ subst (λ (k : ℕ). one_or_none (slice_get entries k) ++ entry ∷ [] ≡ one_or_none (slice_get (entries ++ entry ∷ []) k)) (sym same.1) (at_same entries entry)
  | inr apart ↦ ap (λ (b : Bool). one_or_none (slice_get entries n) ++ wanted_next b entry) apart.0 ∙ at_other entries entry n apart.1
]

-- ---- drawings

drawing_kept : (header : Header) (entries : List Entry) (entry : Entry) (d : Drawn) → IsDrawingIn header entries d → IsDrawingIn header (entries ++ entry ∷ []) d
drawing_kept header entries entry d is = record {
  before = is.before;
  behind = is.behind ++ entry ∷ [];
  split = ap (λ (l : List Entry). l ++ entry ∷ []) is.split ∙ append_assoc is.before (d.entry ∷ is.behind) (entry ∷ []);
  is_drawing = is.is_drawing;
}

drawing_now : (header : Header) (entries : List Entry) (entry : Entry) (d : Drawn) → d.entry ≡ entry → IsDrawing header entries d → IsDrawingIn header (entries ++ entry ∷ []) d
drawing_now header entries entry d same is = record {
  before = entries;
  behind = [];
  split = ap (λ (e : Entry). entries ++ e ∷ []) (sym same);
  is_drawing = is;
}

head_same : (x y : Entry) → ◌≡◌ {A = List Entry} (x ∷ []) (y ∷ []) → x ≡ y
head_same x y e = cc

-- at most the entry was drawn
each_now : (header : Header) (entries : List Entry) (entry : Entry) (wanted : Bool) (drawn : List Drawn) → map (λ (d : Drawn). d.entry) drawn ≡ wanted_next wanted entry →
    All (IsDrawing header entries) drawn → All (IsDrawingIn header (entries ++ entry ∷ [])) drawn
each_now header entries entry wanted [] e each = All-nil (IsDrawingIn header (entries ++ entry ∷ []))
each_now header entries entry false (d ∷ drawn) e each = absurd cc
each_now header entries entry true (d ∷ more ∷ drawn) e each = absurd cc
each_now header entries entry true (d ∷ []) e each =
    All-cons (IsDrawingIn header (entries ++ entry ∷ [])) d [] (drawing_now header entries entry d (head_same d.entry entry e) (All-head (IsDrawing header entries) d [] each))
    (All-nil (IsDrawingIn header (entries ++ entry ∷ [])))

pub drawings_none : (header : Header) (at : Option ℕ) (entries : List Entry) → entries ≡ [] → AreDrawings header at entries []
drawings_none header at entries none = record { entries_are = wanted_none at ∙ ap (wanted_of at) (sym none); each = All-nil (IsDrawingIn header entries) }
  where
    wanted_none : (at : Option ℕ) → [] ≡ wanted_of at []
    wanted_none None = refl
    wanted_none (Some n) = refl

pub drawings_more : (header : Header) (at : Option ℕ) (entries : List Entry) (entry : Entry) (drawn more : List Drawn) → AreDrawings header at entries drawn →
    AreNextDrawings header at entries entry more → AreDrawings header at (entries ++ entry ∷ []) (drawn ++ more)
drawings_more header at entries entry drawn more ours next = record {
  entries_are =
      map-append (λ (d : Drawn). d.entry) drawn more
      ∙ ap₂ (λ (l m : List Entry). l ++ m) ours.entries_are next.entries_are
      ∙ wanted_more at entries entry;
  each =
      All-append (IsDrawingIn header (entries ++ entry ∷ [])) drawn more
      (All-weaker (IsDrawingIn header entries) (IsDrawingIn header (entries ++ entry ∷ [])) (drawing_kept header entries entry) drawn ours.each)
      (each_now header entries entry (is_wanted at (length entries)) more next.entries_are next.each);
}
