-- Calls of a disk that come one after the other.
use Rattle.std.proofs.Common.{◌≡◌, inl, inr, ⊎_elim, true, false, List, [], ◌∷◌, ◌++◌, refl, sym, ap, subst}
use Rattle.fc_metadisk.specs.Calls.{DiskCall, Made, one_made, all_made, AreCutShort}

abbrev fine : DiskCall → Made
fine call = record { call = call; failed = false }

all_of_both : (first calls : List DiskCall) → all_made (first ++ calls) ≡ all_made first ++ all_made calls
all_of_both [] calls = refl
all_of_both (call ∷ first) calls = ap (λ (made : List Made). fine call ∷ made) (all_of_both first calls)

cut_more : (P Q : List Made → Type 0) (calls : List DiskCall) → ((made : List Made) → P made → Q made) → AreCutShort P calls → AreCutShort Q calls
cut_more P Q [] more cut = cut
cut_more P Q (call ∷ calls) more cut =
    ⊎_elim (λ h. inl (more (one_made call true) h)) (λ h. inr (cut_more (λ made. P (fine call ∷ made)) (λ made. Q (fine call ∷ made)) calls (λ made. more (fine call ∷ made)) h)) cut

cut_behind : (P Q : List Made → Type 0) (first calls : List DiskCall) → ((made : List Made) → P made → Q (all_made first ++ made)) → AreCutShort P calls → AreCutShort Q (first ++ calls)
cut_behind P Q [] calls more cut = cut_more P Q calls more cut
cut_behind P Q (call ∷ first) calls more cut = inr (cut_behind P (λ made. Q (fine call ∷ made)) first calls more cut)

-- Calls that are cut short are so among more of them.
pub cut_before : (P : List Made → Type 0) (first calls : List DiskCall) → AreCutShort P first → AreCutShort P (first ++ calls)
cut_before P [] calls cut = absurd cut
cut_before P (call ∷ first) calls cut = ⊎_elim (λ h. inl h) (λ h. inr (cut_before (λ made. P (fine call ∷ made)) first calls h)) cut

module _ {D : Type 0} (leads : D → List Made → D → Type 0) (leads_on : (a b c : D) (first rest : List Made) → leads a first b → leads b rest c → leads a (first ++ rest) c) where
  -- all calls, and then all others
  pub all_behind : (a b c : D) (first calls : List DiskCall) → leads a (all_made first) b → leads b (all_made calls) c → leads a (all_made (first ++ calls)) c
  all_behind a b c first calls one two = subst (λ (made : List Made). leads a made c) (sym (all_of_both first calls)) (leads_on a b c (all_made first) (all_made calls) one two)

  -- all calls, and then others that are cut short
  pub cut_after : (a b c : D) (first calls : List DiskCall) → leads a (all_made first) b → AreCutShort (λ made. leads b made c) calls → AreCutShort (λ made. leads a made c) (first ++ calls)
  cut_after a b c first calls one cut = cut_behind (λ made. leads b made c) (λ made. leads a made c) first calls (λ made h. leads_on a b c (all_made first) made one h) cut
