-- Effects are read exactly.
use Rattle.std.proofs.Common.{◌≡◌, ℕ, zero, suc, Bool, false, List, [], ◌∷◌, ◌++◌, get_or, codes, decimal, Result, Ok, refl, sym, ap, subst, ◌∙◌, append_assoc, arith}
use Rattle.std.specs.List.{flat_map}
use Rattle.fc_base.specs.declared.ranges.Range.{Range}
use Rattle.fc_base.specs.declared.request.Effect.{Effect}
use Rattle.fc_base.specs.declared.request.Effect.TheVariants.{Make, Remove, Trigger, Cut, State, Gone}
use Rattle.fc_base.specs.declared.request.Pair.{Pair}
use Rattle.fc_base.specs.declared.state.MapState.{MapState}
use Rattle.fc_base.specs.declared.state.MapState.TheVariants.{Empty}
use Rattle.fc_entry.specs.Text.{state_text}
use Rattle.fc_reading.specs.Readers.{map_read, one_of_at, then_read}
use Rattle.fc_trace.specs.Notes.{effect_text, kept_text, pair_text}
use Rattle.fc_reading_notes.specs.Lines.{effect_at, effect_words, id_at, kept_at, pairs_at, state_at}
use Rattle.fc_reading_notes.specs.Told.{AreKept, IsEffect, IsId}
use Rattle.fc_reading.proofs.Exact.{Exact, Exact-map, Exact-then}
use Rattle.fc_reading.proofs.Fields.{Exact-and}
use Rattle.fc_reading.proofs.Words.{Ends-nothing, Exact-one_of, IsIndexOf, nothing}
use Rattle.fc_reading_notes.proofs.Choices.{Exact-alike, Exact-none, Is}
use Rattle.fc_reading_notes.proofs.LineLemmas.{AnyState, Exact-pairs, Exact-state, FitsPair, line_end, pair_line, pair_next, pairs_each, pairs_fit, pairs_joined, spaced, state_line}
use Rattle.fc_reading_notes.proofs.Lists.{AllFit, all_text}
use Rattle.fc_reading_notes.proofs.Ranges.{Exact-kept, kept_line}

-- ---- values made of others

abbrev pub Image : {V W : Type 0} → (V → Type 0) → (V → W) → W → Type 0
Image {V} Fits f w = (v : V) × Fits v × (f v ≡ w)

pub Exact-image :
    {V W : Type 0} (Fits : V → Type 0) (text : V → List ℕ) (joins : ℕ → Bool) (read : List ℕ → Result (V × List ℕ) ℕ) (textW : W → List ℕ) (f : V → W) →
    Exact Fits text joins read → ((v : V) → Fits v → textW (f v) ≡ text v) → Exact (Image Fits f) textW joins (map_read f read)
Exact-image Fits text joins read textW f exact same =
    Exact-map Fits text joins read (Image Fits f) textW f exact (λ v fits. ((v, fits, refl), same v fits)) (λ w image. image)

-- ---- what stands behind the word of an effect

abbrev pub effect_line : Effect → List ℕ
effect_line (Make volume grains) = (decimal volume.0 ++ codes " ") ++ (decimal grains ++ codes "\n")
effect_line (Remove volume) = decimal volume.0 ++ codes "\n"
effect_line (Trigger pairs) = all_text pair_line pairs
effect_line (Cut volume kept) = (decimal volume.0 ++ codes " ") ++ kept_line kept
effect_line (State map state) = (decimal map.0 ++ codes " ") ++ state_line state
effect_line (Gone map) = decimal map.0 ++ codes "\n"

abbrev Two : ℕ × ℕ → Type 0
Two x = IsId x.0 × IsId x.1

abbrev two_text : ℕ × ℕ → List ℕ
two_text x = (decimal x.0 ++ codes " ") ++ (decimal x.1 ++ codes "\n")

abbrev OfCut : ℕ × List Range → Type 0
OfCut x = IsId x.0 × AreKept x.1

abbrev OfState : ℕ × MapState → Type 0
OfState x = IsId x.0 × AnyState x.1

abbrev a_make : ℕ × ℕ → Effect
a_make x = Make (record { 0 = x.0 }) x.1

abbrev a_remove : ℕ → Effect
a_remove n = Remove (record { 0 = n })

abbrev a_cut : ℕ × List Range → Effect
a_cut x = Cut (record { 0 = x.0 }) x.1

abbrev a_state : ℕ × MapState → Effect
a_state x = State (record { 0 = x.0 }) x.1

abbrev a_gone : ℕ → Effect
a_gone n = Gone (record { 0 = n })

-- the effects that a word begins
abbrev pub FitsWord : ℕ → Effect → Type 0
FitsWord zero e = Image Two a_make e
FitsWord (suc zero) e = Image IsId a_remove e
FitsWord (suc (suc zero)) e = Is (Trigger []) e
FitsWord (suc (suc (suc zero))) e = Image (AllFit FitsPair pair_next tt) Trigger e
FitsWord (suc (suc (suc (suc zero)))) e = Image OfCut a_cut e
FitsWord (suc (suc (suc (suc (suc zero))))) e = Image OfState a_state e
FitsWord (suc (suc (suc (suc (suc (suc n)))))) e = Image IsId a_gone e

no_pairs : Exact (Is (Trigger [])) effect_line nothing (λ (bytes : List ℕ). Ok (Trigger [], bytes))
no_pairs =
    Exact-alike (Is (Trigger [])) (λ e. []) (λ (bytes : List ℕ). Ok (Trigger [], bytes)) (Is (Trigger [])) effect_line (Exact-none (Trigger []))
    (λ e is. (is, ap effect_line is)) (λ e is. is)

pub Exact-effect_at : (i : ℕ) → IsIndexOf effect_words i → Exact (FitsWord i) effect_line nothing (effect_at i)
Exact-effect_at zero inside =
    Exact-image {V = ℕ × ℕ} {W = Effect} Two two_text nothing (then_read (id_at (codes " ")) (λ v. id_at (codes "\n"))) effect_line a_make
    (Exact-and {V = ℕ} {W = ℕ} IsId (λ n. decimal n ++ codes " ") (id_at (codes " ")) IsId (λ n. decimal n ++ codes "\n") (id_at (codes "\n")) spaced line_end 0 (omega arith))
    (λ x fits. refl)
Exact-effect_at (suc zero) inside =
    Exact-image {V = ℕ} {W = Effect} IsId (λ n. decimal n ++ codes "\n") nothing (id_at (codes "\n")) effect_line a_remove line_end (λ n fits. refl)
Exact-effect_at (suc (suc zero)) inside = no_pairs
Exact-effect_at (suc (suc (suc zero))) inside =
    Exact-image {V = List Pair} {W = Effect} (AllFit FitsPair pair_next tt) (all_text pair_line) nothing pairs_at effect_line Trigger Exact-pairs (λ ps fits. refl)
Exact-effect_at (suc (suc (suc (suc zero)))) inside =
    Exact-image {V = ℕ × List Range} {W = Effect} OfCut (λ x. (decimal x.0 ++ codes " ") ++ kept_line x.1) nothing (then_read (id_at (codes " ")) (λ v. kept_at)) effect_line a_cut
    (Exact-and {V = ℕ} {W = List Range} IsId (λ n. decimal n ++ codes " ") (id_at (codes " ")) AreKept kept_line kept_at spaced Exact-kept [] (tt, tt))
    (λ x fits. refl)
Exact-effect_at (suc (suc (suc (suc (suc zero))))) inside =
    Exact-image {V = ℕ × MapState} {W = Effect} OfState (λ x. (decimal x.0 ++ codes " ") ++ state_line x.1) nothing (then_read (id_at (codes " ")) (λ m. state_at)) effect_line a_state
    (Exact-and {V = ℕ} {W = MapState} IsId (λ n. decimal n ++ codes " ") (id_at (codes " ")) AnyState state_line state_at spaced Exact-state Empty tt)
    (λ x fits. refl)
Exact-effect_at (suc (suc (suc (suc (suc (suc zero)))))) inside =
    Exact-image {V = ℕ} {W = Effect} IsId (λ n. decimal n ++ codes "\n") nothing (id_at (codes "\n")) effect_line a_gone line_end (λ n fits. refl)
Exact-effect_at (suc (suc (suc (suc (suc (suc (suc n))))))) inside = absurd (omega (arith, inside))

pub some_effect : (i : ℕ) → IsIndexOf effect_words i → (e : Effect) × FitsWord i e
some_effect zero inside = (a_make (0, 0), ((0, 0), (omega arith, omega arith), refl))
some_effect (suc zero) inside = (a_remove 0, (0, omega arith, refl))
some_effect (suc (suc zero)) inside = (Trigger [], refl)
some_effect (suc (suc (suc zero))) inside =
    let pair : Pair = record { map = record { 0 = 0 }; source = record { 0 = 0 }; target = record { 0 = 0 }; incremental = false } in
    (Trigger (pair ∷ []), (pair ∷ [], (omega arith, (omega arith, omega arith)), refl))
some_effect (suc (suc (suc (suc zero)))) inside = (a_cut (0, []), ((0, []), (omega arith, (tt, tt)), refl))
some_effect (suc (suc (suc (suc (suc zero))))) inside = (a_state (0, Empty), ((0, Empty), (omega arith, tt), refl))
some_effect (suc (suc (suc (suc (suc (suc n)))))) inside = (a_gone 0, (0, omega arith, refl))

-- ---- the whole line

make_joined : (w v s g n : List ℕ) → w ++ (v ++ s ++ g) ++ n ≡ w ++ ((v ++ s) ++ (g ++ n))
make_joined w v s g n = simp (append_assoc)

cut_joined : (w v s k n : List ℕ) → w ++ v ++ s ++ k ++ n ≡ w ++ ((v ++ s) ++ (k ++ n))
cut_joined w v s k n = simp (append_assoc)

trigger_joined : (pairs : List Pair) → AllFit FitsPair pair_next tt pairs → effect_text (Trigger pairs) ≡ codes "+ trigger " ++ all_text pair_line pairs
trigger_joined [] fits = absurd fits
trigger_joined (pair ∷ pairs) fits =
    append_assoc (codes "+ trigger") (flat_map pair_text (pair ∷ pairs)) (codes "\n")
    ∙ ap (λ t. codes "+ trigger" ++ t) (sym (pairs_joined pair pairs))

abbrev IsLine : ℕ → Effect → Type 0
IsLine i e = IsEffect e × (effect_text e ≡ get_or effect_words i [] ++ effect_line e)

pub effect_to : (i : ℕ) (e : Effect) → IsIndexOf effect_words i → FitsWord i e → IsEffect e × (effect_text e ≡ get_or effect_words i [] ++ effect_line e)
effect_to zero e inside fits =
    let at : IsLine 0 (a_make fits.0) = (fits.1, make_joined (codes "+ make ") (decimal fits.0.0) (codes " ") (decimal fits.0.1) (codes "\n")) in
    subst (IsLine 0) fits.2 at
effect_to (suc zero) e inside fits =
    let at : IsLine 1 (a_remove fits.0) = (fits.1, append_assoc (codes "+ remove ") (decimal fits.0) (codes "\n")) in
    subst (IsLine 1) fits.2 at
effect_to (suc (suc zero)) e inside fits =
    let at : IsLine 2 (Trigger []) = (tt, refl) in
    subst (IsLine 2) (sym fits) at
effect_to (suc (suc (suc zero))) e inside fits =
    let at : IsLine 3 (Trigger fits.0) = (pairs_each fits.0 fits.1, trigger_joined fits.0 fits.1) in
    subst (IsLine 3) fits.2 at
effect_to (suc (suc (suc (suc zero)))) e inside fits =
    let at : IsLine 4 (a_cut fits.0) = (fits.1, cut_joined (codes "+ cut ") (decimal fits.0.0) (codes " ") (kept_text fits.0.1) (codes "\n")) in
    subst (IsLine 4) fits.2 at
effect_to (suc (suc (suc (suc (suc zero))))) e inside fits =
    let at : IsLine 5 (a_state fits.0) = (fits.1.0, cut_joined (codes "+ state ") (decimal fits.0.0) (codes " ") (state_text fits.0.1) (codes "\n")) in
    subst (IsLine 5) fits.2 at
effect_to (suc (suc (suc (suc (suc (suc zero)))))) e inside fits =
    let at : IsLine 6 (a_gone fits.0) = (fits.1, append_assoc (codes "+ gone ") (decimal fits.0) (codes "\n")) in
    subst (IsLine 6) fits.2 at
effect_to (suc (suc (suc (suc (suc (suc (suc n))))))) e inside fits = absurd (omega (arith, inside))

pub effect_from : (e : Effect) → IsEffect e → (i : ℕ) × IsIndexOf effect_words i × FitsWord i e
effect_from (Make volume grains) is = (0, omega arith, ((volume.0, grains), is, refl))
effect_from (Remove volume) is = (1, omega arith, (volume.0, is, refl))
effect_from (Trigger []) is = (2, omega arith, refl)
effect_from (Trigger (pair ∷ pairs)) is = (3, omega arith, (pair ∷ pairs, pairs_fit pair pairs is, refl))
effect_from (Cut volume kept) is = (4, omega arith, ((volume.0, kept), is, refl))
effect_from (State map state) is = (5, omega arith, ((map.0, state), (is, tt), refl))
effect_from (Gone map) is = (6, omega arith, (map.0, is, refl))

abbrev OfWord : ℕ × Effect → Type 0
OfWord x = IsIndexOf effect_words x.0 × FitsWord x.0 x.1

-- an effect and its word
pub Exact-effect : Exact IsEffect effect_text nothing (map_read (λ (x : ℕ × Effect). x.1) (then_read (one_of_at effect_words) effect_at))
Exact-effect =
    Exact-map {V = ℕ × Effect} {W = Effect} OfWord (λ x. get_or effect_words x.0 [] ++ effect_line x.1) nothing (then_read (one_of_at effect_words) effect_at)
    IsEffect effect_text (λ x. x.1)
    (
    Exact-then (IsIndexOf effect_words) (λ i. get_or effect_words i []) nothing (one_of_at effect_words) FitsWord (λ i. effect_line) nothing effect_at
    (Exact-one_of (codes "+ make ") (codes "+ remove " ∷ codes "+ trigger\n" ∷ codes "+ trigger " ∷ codes "+ cut " ∷ codes "+ state " ∷ codes "+ gone " ∷ []) refl)
    Exact-effect_at some_effect (λ i e rest inside fits ends. Ends-nothing (effect_line e ++ rest))
    )
    (λ x fits. effect_to x.0 x.1 fits.0 fits.1)
    (λ e is. let from = effect_from e is in ((from.0, e), (from.1, from.2), refl))
