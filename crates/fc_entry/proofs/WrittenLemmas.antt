-- Text that is written in several calls: `Written-then` joins what was written before and what is written next,
-- and `Written-cut` is for a writing that failed before its end.
use Rattle.std.proofs.Common.{◌≡◌, ℕ, zero, suc, ◌+◌, ◌-◌, ◌<◌, ◌≤◌, Bool, true, false, List, [], ◌∷◌, ◌++◌, Option, Some, None, is_some, IfSome, slice_get, length, get_or, take, drop, refl, sym, ap, subst, ◌∙◌, inl, inr, arith, append_assoc}
use Rattle.std.proofs.lemmas.List.{append-nil, get_or-drop, length-drop, take-append-drop, take_all, take_more}
use Rattle.std.proofs.lemmas.List.Concat.{flat_map-append}
use Rattle.std.specs.List.{flat_map}
use Rattle.std.specs.Option.{option_map}
use Rattle.fc_base.specs.Count.{FaultsAfter, HasRisen}
use Rattle.fc_io.specs.Sink.{SinkState, AfterPut, AddsFront, held_with}
use Rattle.fc_entry.specs.Written.{Written}

held_with-nil : (held : Option (List ℕ)) → held_with held [] ≡ held
held_with-nil None = refl
held_with-nil (Some bytes) = ap Some (append-nil bytes)

held_with-append : (held : Option (List ℕ)) (t u : List ℕ) → held_with (held_with held t) u ≡ held_with held (t ++ u)
held_with-append None t u = refl
held_with-append (Some bytes) t u = ap Some (append_assoc bytes t u)

is_some-map : (f : List ℕ → List ℕ) (o : Option (List ℕ)) → is_some (option_map f o) ≡ is_some o
is_some-map f None = refl
is_some-map f (Some x) = refl

-- behind the text, a front of more was added
AddsFront-behind :
    (a : Option (List ℕ)) (t u : List ℕ) (b c : Option (List ℕ)) →
    b ≡ held_with a t →
    AddsFront b u c →
    AddsFront a (t ++ u) c
AddsFront-behind a t u b c whole adds = record {
  front = t ++ adds.front;
  rest = adds.rest;
  split = ap (λ x. t ++ x) adds.split ∙ sym (append_assoc t adds.front adds.rest);
  added = adds.added ∙ ap (λ held. held_with held adds.front) whole ∙ held_with-append a t adds.front;
}

-- a front of the text is a front of more
AddsFront-more :
    (a : Option (List ℕ)) (t u : List ℕ) (b : Option (List ℕ)) →
    AddsFront a t b →
    AddsFront a (t ++ u) b
AddsFront-more a t u b adds = record {
  front = adds.front;
  rest = adds.rest ++ u;
  split = ap (λ x. x ++ u) adds.split ∙ append_assoc adds.front adds.rest u;
  added = adds.added;
}

HasRisen-before : (a b c : ℕ) → a ≤ b → HasRisen b c → HasRisen a c
HasRisen-before a b c kept (inl less) = inl (omega arith)
HasRisen-before a b c kept (inr last) = inr last

FaultsAfter-then :
    (told failed : Bool) (a b c : ℕ) →
    FaultsAfter told false a b →
    FaultsAfter told failed b c →
    FaultsAfter told failed a c
FaultsAfter-then true true a b c first next = record {
  kept = omega (arith, first.kept, next.kept);
  cause = HasRisen-before a b c first.kept next.cause;
  quiet = tt;
}
FaultsAfter-then true false a b c first next = record {
  kept = omega (arith, first.kept, next.kept);
  cause = tt;
  quiet = next.quiet ∙ first.quiet;
}
FaultsAfter-then false true a b c first next = record {
  kept = omega (arith, first.kept, next.kept);
  cause = HasRisen-before a b c first.kept next.cause;
  quiet = tt;
}
FaultsAfter-then false false a b c first next = record {
  kept = omega (arith, first.kept, next.kept);
  cause = tt;
  quiet = tt;
}

FaultsAfter-none : (told : Bool) (a : ℕ) → FaultsAfter told false a a
FaultsAfter-none true a = record { kept = omega arith; cause = tt; quiet = refl }
FaultsAfter-none false a = record { kept = omega arith; cause = tt; quiet = tt }

-- nothing was written
pub Written-none : (a : SinkState) → Written a [] false a
Written-none a = record {
  held = sym (held_with-nil a.held);
  front = tt;
  sent = refl;
  told = refl;
  faults = FaultsAfter-none (is_some a.failing) a.faults;
}

-- one call of `put`
pub Written-put : (a : SinkState) (part : List ℕ) (failed : Bool) (b : SinkState) → AfterPut a part failed b → Written a part failed b
Written-put a part failed b after = record {
  held = after.held;
  front = after.front;
  sent = after.sent;
  told = ap is_some after.failing ∙ is_some-map _ a.failing;
  faults = after.faults;
}

-- behind the text, more was written, or a front of it
pub Written-then :
    (a : SinkState) (t : List ℕ) (b : SinkState) (u : List ℕ) (failed : Bool) (c : SinkState) →
    Written a t false b →
    Written b u failed c →
    Written a (t ++ u) failed c
Written-then a t b u true c first next = record {
  held = tt;
  front = AddsFront-behind a.held t u b.held c.held first.held next.front;
  sent = next.sent ∙ first.sent;
  told = next.told ∙ first.told;
  faults =
      let P : Bool → Type 0 = λ told. FaultsAfter told true b.faults c.faults in
      FaultsAfter-then (is_some a.failing) true a.faults b.faults c.faults first.faults (subst P first.told next.faults);
}
Written-then a t b u false c first next = record {
  held = next.held ∙ ap (λ held. held_with held u) first.held ∙ held_with-append a.held t u;
  front = tt;
  sent = next.sent ∙ first.sent;
  told = next.told ∙ first.told;
  faults =
      let P : Bool → Type 0 = λ told. FaultsAfter told false b.faults c.faults in
      FaultsAfter-then (is_some a.failing) false a.faults b.faults c.faults first.faults (subst P first.told next.faults);
}

-- the writing failed before its end
pub Written-cut :
    (a : SinkState) (t u : List ℕ) (b : SinkState) →
    Written a t true b →
    Written a (t ++ u) true b
Written-cut a t u b written = record {
  held = tt;
  front = AddsFront-more a.held t u b.held written.front;
  sent = written.sent;
  told = written.told;
  faults = written.faults;
}

-- The texts of the items of a list, written one after the other.
flat_map-split :
    {X : Type 0} (f : X → List ℕ) (xs : List X) (i : ℕ) (d : X) →
    i < length xs →
    flat_map f xs ≡ flat_map f (take (i + 1) xs) ++ flat_map f (drop (i + 1) xs)
flat_map-split f xs i d inside =
    ap (flat_map f) (sym (take-append-drop (i + 1) xs)) ∙ flat_map-append f (take (i + 1) xs) (drop (i + 1) xs)

flat_map-more :
    {X : Type 0} (f : X → List ℕ) (xs : List X) (i : ℕ) (d : X) →
    i < length xs →
    flat_map f (take (i + 1) xs) ≡ flat_map f (take i xs) ++ f (get_or xs i d)
flat_map-more f xs i d inside =
    ap (flat_map f) (take_more xs i d inside)
    ∙ flat_map-append f (take i xs) (get_or xs i d ∷ [])
    ∙ ap (λ t. flat_map f (take i xs) ++ t) (append-nil (f (get_or xs i d)))

-- one more item
pub Written-more :
    {X : Type 0} (f : X → List ℕ) (xs : List X) (i : ℕ) (d : X) (a b : SinkState) (failed : Bool) (c : SinkState) →
    i < length xs →
    Written a (flat_map f (take i xs)) false b →
    Written b (f (get_or xs i d)) failed c →
    Written a (flat_map f (take (i + 1) xs)) failed c
Written-more f xs i d a b failed c inside before item =
    let P : List ℕ → Type 0 = λ t. Written a t failed c in
    subst P (sym (flat_map-more f xs i d inside))
    (Written-then a (flat_map f (take i xs)) b (f (get_or xs i d)) failed c before item)

-- the writing of an item failed
pub Written-stopped :
    {X : Type 0} (f : X → List ℕ) (xs : List X) (i : ℕ) (d : X) (a b c : SinkState) →
    i < length xs →
    Written a (flat_map f (take i xs)) false b →
    Written b (f (get_or xs i d)) true c →
    Written a (flat_map f xs) true c
Written-stopped f xs i d a b c inside before item =
    let P : List ℕ → Type 0 = λ t. Written a t true c in
    subst P (sym (flat_map-split f xs i d inside))
    (Written-cut a (flat_map f (take (i + 1) xs)) (flat_map f (drop (i + 1) xs)) c (Written-more f xs i d a b true c inside before item))

-- the same, where the item is looked up
item_at : {X : Type 0} (xs : List X) (i : ℕ) → i < length xs → (x : X) × (slice_get xs i ≡ Some x) × (get_or xs i x ≡ x)
item_at [] i inside = absurd (omega arith)
item_at (x ∷ xs) zero inside = (x, refl, refl)
item_at (x ∷ xs) (suc i) inside = item_at xs i (omega arith)

pub Written-more_at :
    {X : Type 0} (f : X → List ℕ) (xs : List X) (i : ℕ) (a b : SinkState) (failed : Bool) (c : SinkState) →
    i < length xs →
    Written a (flat_map f (take i xs)) false b →
    IfSome (slice_get xs i) (λ x. Written b (f x) failed c) →
    Written a (flat_map f (take (i + 1) xs)) failed c
Written-more_at f xs i a b failed c inside before item =
    let at = item_at xs i inside in
    Written-more f xs i at.0 a b failed c inside before (rw at.2 (rw at.1 at item))

pub Written-stopped_at :
    {X : Type 0} (f : X → List ℕ) (xs : List X) (i : ℕ) (a b c : SinkState) →
    i < length xs →
    Written a (flat_map f (take i xs)) false b →
    IfSome (slice_get xs i) (λ x. Written b (f x) true c) →
    Written a (flat_map f xs) true c
Written-stopped_at f xs i a b c inside before item =
    let at = item_at xs i inside in
    Written-stopped f xs i at.0 a b c inside before (rw at.2 (rw at.1 at item))

-- The texts of the items from a number on.
more_from :
    {X : Type 0} (f : X → List ℕ) (xs : List X) (from i n : ℕ) (d : X) (a b : SinkState) (failed : Bool) (c : SinkState) →
    i ≡ from + n →
    i < length xs →
    Written a (flat_map f (take n (drop from xs))) false b →
    Written b (f (get_or xs i d)) failed c →
    Written a (flat_map f (take (n + 1) (drop from xs))) failed c
more_from {X} f xs from i n d a b failed c is inside before item =
    let same : get_or xs i d ≡ get_or (drop from xs) n d = ap (λ k. get_or xs k d) is ∙ sym (get_or-drop from xs n d) in
    let P : X → Type 0 = λ x. Written b (f x) failed c in
    Written-more f (drop from xs) n d a b failed c (omega (arith, length-drop from xs, is, inside)) before (subst P same item)

stopped_from :
    {X : Type 0} (f : X → List ℕ) (xs : List X) (from i n : ℕ) (d : X) (a b c : SinkState) →
    i ≡ from + n →
    i < length xs →
    Written a (flat_map f (take n (drop from xs))) false b →
    Written b (f (get_or xs i d)) true c →
    Written a (flat_map f (drop from xs)) true c
stopped_from {X} f xs from i n d a b c is inside before item =
    let same : get_or xs i d ≡ get_or (drop from xs) n d = ap (λ k. get_or xs k d) is ∙ sym (get_or-drop from xs n d) in
    let P : X → Type 0 = λ x. Written b (f x) true c in
    Written-stopped f (drop from xs) n d a b c (omega (arith, length-drop from xs, is, inside)) before (subst P same item)

pub Written-more_from :
    {X : Type 0} (f : X → List ℕ) (xs : List X) (from i : ℕ) (a b : SinkState) (failed : Bool) (c : SinkState) →
    from ≤ i →
    i < length xs →
    Written a (flat_map f (take (i - from) (drop from xs))) false b →
    IfSome (slice_get xs i) (λ x. Written b (f x) failed c) →
    Written a (flat_map f (take (i + 1 - from) (drop from xs))) failed c
Written-more_from f xs from i a b failed c behind inside before item =
    let at = item_at xs i inside in
    let next : i - from + 1 ≡ i + 1 - from = omega (arith, behind) in
    let P : ℕ → Type 0 = λ n. Written a (flat_map f (take n (drop from xs))) failed c in
    subst P next
    (more_from f xs from i (i - from) at.0 a b failed c (omega (arith, behind)) inside before (rw at.2 (rw at.1 at item)))

pub Written-stopped_from :
    {X : Type 0} (f : X → List ℕ) (xs : List X) (from i : ℕ) (a b c : SinkState) →
    from ≤ i →
    i < length xs →
    Written a (flat_map f (take (i - from) (drop from xs))) false b →
    IfSome (slice_get xs i) (λ x. Written b (f x) true c) →
    Written a (flat_map f (drop from xs)) true c
Written-stopped_from f xs from i a b c behind inside before item =
    let at = item_at xs i inside in
    stopped_from f xs from i (i - from) at.0 a b c (omega (arith, behind)) inside before (rw at.2 (rw at.1 at item))

-- all of them
pub Written-all_from :
    {X : Type 0} (f : X → List ℕ) (xs : List X) (from i : ℕ) (a b : SinkState) (failed : Bool) →
    length xs ≤ i →
    Written a (flat_map f (take (i - from) (drop from xs))) failed b →
    Written a (flat_map f (drop from xs)) failed b
Written-all_from {X} f xs from i a b failed past written =
    let P : List X → Type 0 = λ items. Written a (flat_map f items) failed b in
    subst P (take_all (i - from) (drop from xs) (omega (arith, length-drop from xs, past))) written
