-- The least next node, link by link.
use Rattle.std.proofs.Common.{◌≡◌, ℕ, ◌+◌, ◌<◌, ◌≤◌, Option, Some, None, List, [], ◌∷◌, length, min, refl, sym, ap, subst, ◌∙◌, arith, ◌⊎◌, inl, inr}
use Rattle.std.proofs.lemmas.Bool.{cases_eq, cases_lt}
use Rattle.fc_loops.specs.Routes.{RouteBy, mark_at}
use Rattle.fc_loops.specs.declared.loops.Link.{Link}
use Rattle.fc_loops.specs.Links.{link_at, HasLink, AreWithin, FitsStep, IsLeastStep, LeastStep, least_of}

fits_or : (here mark : ℕ) (marks : List ℕ) (link : Link) → FitsStep here mark marks link ⊎ (FitsStep here mark marks link → ⊥)
fits_or here mark marks link =
    elim (cases_eq link.from here) [
      | inr ne ↦ inr (λ f. ne f.from_is)
      | inl e ↦ elim (cases_eq (mark_at marks link.to) mark) [ inl q ↦ inl (record { from_is = e; mark_is = q }) | inr ne ↦ inr (λ f. ne f.mark_is) ]
    ]

least_passed : (links : List Link) (here mark : ℕ) (marks : List ℕ) (bound : ℕ) (best : Option ℕ) → (FitsStep here mark marks (link_at links bound) → ⊥) → LeastStep links here mark marks bound best → LeastStep links here mark marks (bound + 1) best
least_passed links here mark marks bound None never l = λ k lt f. elim (cases_eq k bound) [ inl e ↦ never (subst (λ (z : ℕ). FitsStep here mark marks (link_at links z)) e f) | inr ne ↦ l k (omega arith) f ]
least_passed links here mark marks bound (Some best) never l =
    record {
      at = l.at;
      there = (let t : l.at < bound = l.there in omega arith);
      fits = l.fits;
      to_is = l.to_is;
      least = λ k lt f. elim (cases_eq k bound) [ inl e ↦ absurd (never (subst (λ (z : ℕ). FitsStep here mark marks (link_at links z)) e f)) | inr ne ↦ l.least k (omega arith) f ];
    }

least_fits : (links : List Link) (here mark : ℕ) (marks : List ℕ) (bound : ℕ) (best : Option ℕ) → FitsStep here mark marks (link_at links bound) → LeastStep links here mark marks bound best →
    LeastStep links here mark marks (bound + 1) (Some (least_of best (link_at links bound).to))
least_fits links here mark marks bound None f l =
    record {
      at = bound;
      there = omega arith;
      fits = f;
      to_is = refl;
      least = λ k lt g. elim (cases_eq k bound) [ inl e ↦ subst (λ (z : ℕ). (link_at links bound).to ≤ (link_at links z).to) (sym e) (omega arith) | inr ne ↦ absurd (l k (omega arith) g) ];
    }
least_fits links here mark marks bound (Some best) f l =
    elim (cases_lt (link_at links bound).to best) [
      | inl lt ↦ record {
        at = bound;
        there = omega arith;
        fits = f;
        to_is = omega arith;
        least = λ k kl g. elim (cases_eq k bound) [ inl e ↦ subst (λ (z : ℕ). min best (link_at links bound).to ≤ (link_at links z).to) (sym e) (omega arith) | inr ne ↦ (let b : best ≤ (link_at links k).to = l.least k (omega arith) g in omega arith) ];
      }
      | inr le ↦ record {
        at = l.at;
        there = (let t : l.at < bound = l.there in omega arith);
        fits = l.fits;
        to_is = (let t : (link_at links l.at).to ≡ best = l.to_is in omega arith);
        least = λ k kl g. elim (cases_eq k bound) [ inl e ↦ subst (λ (z : ℕ). min best (link_at links bound).to ≤ (link_at links z).to) (sym e) (omega arith) | inr ne ↦ (let b : best ≤ (link_at links k).to = l.least k (omega arith) g in omega arith) ];
      }
    ]

pub least_more : (links : List Link) (here mark : ℕ) (marks : List ℕ) (bound : ℕ) (best new : Option ℕ) → (FitsStep here mark marks (link_at links bound) → new ≡ Some (least_of best (link_at links bound).to)) →
    ((FitsStep here mark marks (link_at links bound) → ⊥) → new ≡ best) → LeastStep links here mark marks bound best → LeastStep links here mark marks (bound + 1) new
least_more links here mark marks bound best new fits passed l =
    elim (fits_or here mark marks (link_at links bound)) [
      | inl f ↦ subst (λ (z : Option ℕ). LeastStep links here mark marks (bound + 1) z) (sym (fits f)) (least_fits links here mark marks bound best f l)
      | inr never ↦ subst (λ (z : Option ℕ). LeastStep links here mark marks (bound + 1) z) (sym (passed never)) (least_passed links here mark marks bound best never l)
    ]

-- ---- what it says of links

linked_within : (links : List Link) (nodes v w : ℕ) → AreWithin links nodes → HasLink links v w → v < nodes
linked_within links nodes v w within h = let f : (link_at links h.at).from < nodes = (within h.at h.there).from in let e : (link_at links h.at).from ≡ v = h.from_is in omega arith

-- The next node: it is linked, has the mark, is in range and is the least such.
pub record IsNext (links : List Link) (here mark : ℕ) (marks : List ℕ) (next : ℕ) : Type 0 where
  pub link : HasLink links here next
  pub mark_is : mark_at marks next ≡ mark
  pub there : next < length marks
  pub least : (x : ℕ) → HasLink links here x → mark_at marks x ≡ mark → next ≤ x

pub next_is : (links : List Link) (here mark : ℕ) (marks : List ℕ) (o : Option ℕ) (next : ℕ) → AreWithin links (length marks) → LeastStep links here mark marks (length links) o → o ≡ Some next → IsNext links here mark marks next
next_is links here mark marks o next within l e = from (subst (λ (z : Option ℕ). LeastStep links here mark marks (length links) z) e l)
  where
    from : IsLeastStep links here mark marks (length links) next → IsNext links here mark marks next
    from l =
        record {
          link = record { at = l.at; there = l.there; from_is = l.fits.from_is; to_is = l.to_is };
          mark_is = ap (λ z. mark_at marks z) (sym l.to_is) ∙ l.fits.mark_is;
          there = (let w : (link_at links l.at).to < length marks = (within l.at l.there).to in let t : (link_at links l.at).to ≡ next = l.to_is in omega arith);
          least = λ x h m. (let b : next ≤ (link_at links h.at).to = l.least h.at h.there (record { from_is = h.from_is; mark_is = ap (λ z. mark_at marks z) h.to_is ∙ m }) in let t : (link_at links h.at).to ≡ x = h.to_is in omega arith);
        }

pub next_none : (links : List Link) (here mark : ℕ) (marks : List ℕ) (o : Option ℕ) (x : ℕ) → LeastStep links here mark marks (length links) o → o ≡ None → HasLink links here x → mark_at marks x ≡ mark → ⊥
next_none links here mark marks o x l e h m =
    (let n = subst (λ (z : Option ℕ). LeastStep links here mark marks (length links) z) e l in
    n h.at h.there (record { from_is = h.from_is; mark_is = ap (λ z. mark_at marks z) h.to_is ∙ m }))

-- a route begins in range
pub begins_within : (links : List Link) (nodes v w : ℕ) (xs : List ℕ) → AreWithin links nodes → RouteBy (HasLink links) v xs w → v < nodes
begins_within links nodes v w [] within h = linked_within links nodes v w within h
begins_within links nodes v w (x ∷ xs) within r = linked_within links nodes v x within r.0
