-- What settlings leave of mappings, one after another.
use Rattle.std.proofs.Common.{◌≡◌, true, false, List, [], ◌∷◌, ◌++◌, refl, sym, ap, ◌∙◌, Contains, inl, inr}
use Rattle.std.proofs.lemmas.Bool.{both_ways}
use Rattle.fc_base.specs.declared.state.MapState.{MapState}
use Rattle.fc_base.specs.declared.state.MapState.TheVariants.{Copying, Stopping}
use Rattle.fc_base.specs.declared.volume.Mapping.{Mapping}
use Rattle.fc_books.specs.Accesses.{is_active}
use Rattle.fc_decided.proofs.Lists.{first_in, in_cases, later_in, none_in}
use Rattle.law_presets.specs.Left.{AreLeft, finished, gone, may_finish, none, stayed}

-- Nothing finished.
pub left_same : (ms : List Mapping) → AreLeft ms ms
left_same [] = none
left_same (m ∷ ms) = stayed (left_same ms)

-- What isn't active finishes no more.
at_rest : (state : MapState) → is_active state ≡ false → may_finish state ≡ true → ⊥
at_rest Copying rests may = absurd (cc rests)
at_rest Stopping rests may = absurd (cc rests)
at_rest state rests may = absurd (cc may)

-- ---- one settling and then another

pub left_then : (old mid new : List Mapping) → AreLeft old mid → AreLeft mid new → AreLeft old new
left_then old mid new none second = second
left_then old mid new (stayed {ms = ms} {left = left} first) (stayed {left = last} second) = stayed (left_then ms left last first second)
left_then old mid new (stayed {ms = ms} {left = left} first) (finished {left = last} h second) = finished h (left_then ms left last first second)
left_then old mid new (stayed {ms = ms} {left = left} first) (gone h second) = gone h (left_then ms left new first second)
left_then old mid new (finished {ms = ms} {left = left} h first) (stayed {left = last} second) = finished h (left_then ms left last first second)
left_then old mid new (finished {n = n} h first) (finished k second) = absurd (at_rest n.state h.rests k.was)
left_then old mid new (finished {n = n} h first) (gone k second) = absurd (at_rest n.state h.rests k.was)
left_then old mid new (gone {ms = ms} h first) second = gone h (left_then ms mid new first second)

-- ---- what is left is of what was there

-- One of these with its id and its volumes.
pub record IsFrom (ms : List Mapping) (x : Mapping) : Type 0 where
  pub m : Mapping
  pub there : Contains ms m
  pub id : m.id.0 ≡ x.id.0
  pub source : m.source.0 ≡ x.source.0
  pub target : m.target.0 ≡ x.target.0

later_from : (y x : Mapping) (ms : List Mapping) → IsFrom ms x → IsFrom (y ∷ ms) x
later_from y x ms f = record { m = f.m; there = later_in y f.m ms f.there; id = f.id; source = f.source; target = f.target }

pub left_from : (old new : List Mapping) (x : Mapping) → AreLeft old new → Contains new x → IsFrom old x
left_from old new x none found = absurd (none_in x found)
left_from old new x (stayed {m = m} {ms = ms} {left = left} rest) found =
    elim (in_cases m x left found) [
      | inl is ↦ record {
        m = m;
        there = first_in m ms;
        id = ap (λ (y : Mapping). y.id.0) is;
        source = ap (λ (y : Mapping). y.source.0) is;
        target = ap (λ (y : Mapping). y.target.0) is;
      }
      | inr later ↦ later_from m x ms (left_from ms left x rest later)
    ]
left_from old new x (finished {m = m} {n = n} {ms = ms} {left = left} h rest) found =
    elim (in_cases n x left found) [
      | inl is ↦ record {
        m = m;
        there = first_in m ms;
        id = sym (ap (λ (y : Mapping). y.id.0) h.same) ∙ ap (λ (y : Mapping). y.id.0) is;
        source = sym (ap (λ (y : Mapping). y.source.0) h.same) ∙ ap (λ (y : Mapping). y.source.0) is;
        target = sym (ap (λ (y : Mapping). y.target.0) h.same) ∙ ap (λ (y : Mapping). y.target.0) is;
      }
      | inr later ↦ later_from m x ms (left_from ms left x rest later)
    ]
left_from old new x (gone {m = m} {ms = ms} h rest) found = later_from m x ms (left_from ms new x rest found)

-- ---- a mapping at the end that doesn't finish stays there

nothing_left : (new : List Mapping) → AreLeft [] new → new ≡ []
nothing_left new none = refl

alone_stays : (m : Mapping) (new : List Mapping) → may_finish m.state ≡ false → AreLeft (m ∷ []) new → new ≡ m ∷ []
alone_stays m new not (stayed {left = left} rest) = ap (λ (xs : List Mapping). m ∷ xs) (nothing_left left rest)
alone_stays m new not (finished h rest) = absurd (both_ways (may_finish m.state) not h.was)
alone_stays m new not (gone h rest) = absurd (both_ways (may_finish m.state) not h.was)

pub record LastStays (front : List Mapping) (m : Mapping) (new : List Mapping) : Type 0 where
  pub rest : List Mapping
  pub left : AreLeft front rest
  pub is : new ≡ rest ++ m ∷ []

pub last_stays : (front : List Mapping) (m : Mapping) (new : List Mapping) → may_finish m.state ≡ false → AreLeft (front ++ m ∷ []) new → LastStays front m new
last_stays [] m new not all = record { rest = []; left = none; is = alone_stays m new not all }
last_stays (x ∷ xs) m new not (stayed {left = left} rest) =
    let more : LastStays xs m left = last_stays xs m left not rest in
    record { rest = x ∷ more.rest; left = stayed more.left; is = ap (λ (ys : List Mapping). x ∷ ys) more.is }
last_stays (x ∷ xs) m new not (finished {n = n} {left = left} h rest) =
    let more : LastStays xs m left = last_stays xs m left not rest in
    record { rest = n ∷ more.rest; left = finished h more.left; is = ap (λ (ys : List Mapping). n ∷ ys) more.is }
last_stays (x ∷ xs) m new not (gone h rest) =
    let more : LastStays xs m new = last_stays xs m new not rest in
    record { rest = more.rest; left = gone h more.left; is = more.is }
