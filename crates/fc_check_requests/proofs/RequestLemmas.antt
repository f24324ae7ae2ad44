-- Requests that are left, item by item.
use Rattle.std.proofs.Common.{◌≡◌, ◌≢◌, ◌↔◌, ℕ, zero, suc, ◌+◌, ◌-◌, ◌%◌, ◌<◌, Bool, IsTrue, eqb, Option, Some, None, List, [], ◌∷◌, ◌++◌, length, map, All, append-nil, refl, sym, ap, subst, ◌∙◌, arith}
use Rattle.std.specs.List.{flat_map, slice_index_or}
use Rattle.std.proofs.lemmas.Bool.Decides.{Decides-eqb}
use Rattle.std.proofs.lemmas.Grind.{flat_map-append}
use Rattle.std.proofs.lemmas.List.Elements.{All-cons, All-head, All-push, All-tail}
use Rattle.fc_base.specs.declared.request.Request.{Request}
use Rattle.fc_base.specs.declared.request.Request.TheVariants.{Command as CommandAsked, Unread as UnreadAsked}
use Rattle.fc_check_requests.specs.Requests.{AsksSome, IsRest, item_left, part_asked, turn_in}
use Rattle.fc_check_requests.specs.declared.requests.Item.{Item}
use Rattle.fc_check_requests.specs.declared.requests.Item.TheVariants.{Command, Unread, Access, Turns as WorkerTurns}
use Rattle.fc_check_requests.specs.declared.span.Span.{Span}
use Rattle.fc_check_requests.specs.declared.turns.Turns.{Turns}
use Rattle.fc_legal.specs.Asked.{numbers}
use Rattle.fc_legal.specs.Scripts.{behind_first, next_request}

-- ---- grains and turns in a row

pub row_first : (f : ℕ → Request) (next left : ℕ) → 0 < left → next_request (map f (numbers next left)) ≡ Some (f next)
row_first f next zero some = absurd (omega (arith, some))
row_first f next (suc n) some = refl

abbrev pub asked_in : Span → ℕ → Request
asked_in s g = part_asked s.grain s.volume s.block s.count s.byte g

abbrev pub turn_at : Turns → ℕ → Request
turn_at t k = turn_in t.cleans (k % t.lanes)

-- ---- items

-- An item asks something.
pub item_first : (item : Item) → AsksSome item → (r : Request) × (next_request (item_left item) ≡ Some r)
item_first (Command command) some = (CommandAsked command, refl)
item_first (Unread fault) some = (UnreadAsked fault, refl)
item_first (Access span) some = (asked_in span span.next, row_first (asked_in span) span.next span.left some.0)
item_first (WorkerTurns turns) some = (turn_at turns turns.next, row_first (turn_at turns) turns.next turns.left some.0)

first_append : (xs ys : List Request) (r : Request) → next_request xs ≡ Some r → next_request (xs ++ ys) ≡ Some r
first_append [] ys r e = absurd (cc e)
first_append (x ∷ xs) ys r e = e

rest_append : (xs ys : List Request) (r : Request) → next_request xs ≡ Some r → behind_first (xs ++ ys) ≡ behind_first xs ++ ys
rest_append [] ys r e = absurd (cc e)
rest_append (x ∷ xs) ys r e = refl

-- What is asked first among items, and what is left behind it.
pub items_first : (item : Item) (items : List Item) → AsksSome item → next_request (flat_map item_left (item ∷ items)) ≡ next_request (item_left item)
items_first item items some =
    let first : (r : Request) × (next_request (item_left item) ≡ Some r) = item_first item some in
    first_append (item_left item) (flat_map item_left items) first.0 first.1 ∙ sym first.1

pub items_rest : (item : Item) (items : List Item) → AsksSome item → behind_first (flat_map item_left (item ∷ items)) ≡ behind_first (item_left item) ++ flat_map item_left items
items_rest item items some =
    let first : (r : Request) × (next_request (item_left item) ≡ Some r) = item_first item some in
    rest_append (item_left item) (flat_map item_left items) first.0 first.1

pub items_some : (item : Item) (items : List Item) → AsksSome item → flat_map item_left (item ∷ items) ≢ []
items_some item items some none =
    let first : (r : Request) × (next_request (item_left item) ≡ Some r) = item_first item some in
    let is : next_request (flat_map item_left (item ∷ items)) ≡ Some first.0 = items_first item items some ∙ first.1 in
    absurd (cc (sym (ap next_request none) ∙ is))

-- By the item that is found in front.
front_first : (items : List Item) (item : Item) → 0 < length items → item ≡ slice_index_or items 0 item → All AsksSome items →
    AsksSome item × (next_request (flat_map item_left items) ≡ next_request (item_left item))
front_first [] item some is all = absurd (omega (arith, some))
front_first (x ∷ xs) item some is all =
    let P : Item → Type 0 = λ y. AsksSome y × (next_request (flat_map item_left (x ∷ xs)) ≡ next_request (item_left y)) in
    let own : AsksSome x = All-head AsksSome x xs all in
    subst P (sym is) (own, items_first x xs own)

pub front_asks : (items : List Item) (item : Item) (said : Bool) (request : Request) → 0 < length items → item ≡ slice_index_or items 0 item → All AsksSome items →
    IsTrue said ↔ (next_request (item_left item) ≡ Some request) → IsTrue said ↔ (next_request (flat_map item_left items) ≡ Some request)
front_asks items item said request some is all same =
    let P : Option Request → Type 0 = λ first. IsTrue said ↔ (first ≡ Some request) in
    subst P (sym (front_first items item some is all).1) same

-- Whether nothing is left.
pub empty_left : (items : List Item) (n : ℕ) (empty : Bool) → n ≡ length items → empty ≡ eqb n 0 → All AsksSome items → IsTrue empty ↔ (flat_map item_left items ≡ [])
empty_left [] n empty long is all = (λ t. refl, λ e. is ∙ (Decides-eqb n 0).1 long)
empty_left (x ∷ xs) n empty long is all = (
  λ t. let none : n ≡ 0 = (Decides-eqb n 0).0 (sym is ∙ t) in absurd (omega (arith, none, long)),
  λ e. absurd (items_some x xs (All-head AsksSome x xs all) e),
)

-- The first item is taken, and what is left of it, if anything, put back.
abbrev pub IsLeft : List Item → List Item → Type 0
IsLeft items after = (flat_map item_left after ≡ behind_first (flat_map item_left items)) × All AsksSome after

own_and_others : (items others : List Item) (item : Item) → items ≡ item ∷ others → All AsksSome items → AsksSome item × All AsksSome others
own_and_others items others item is all =
    let P : List Item → Type 0 = λ xs. All AsksSome xs in
    (All-head AsksSome item others (subst P is all), All-tail AsksSome item others (subst P is all))

pub put_back : (items others after : List Item) (item rest : Item) (left : Option Item) → items ≡ item ∷ others → All AsksSome items →
    IsRest left (behind_first (item_left item)) → left ≡ Some rest → after ≡ rest ∷ others → IsLeft items after
put_back items others after item rest left is all rested there back =
    let P : Option Item → Type 0 = λ o. IsRest o (behind_first (item_left item)) in
    let Q : List Item → Type 0 = λ xs. IsLeft items xs in
    let some : IsRest (Some rest) (behind_first (item_left item)) = subst P there rested in
    let parts : AsksSome item × All AsksSome others = own_and_others items others item is all in
    subst Q (sym back) (
      ap (λ xs. xs ++ flat_map item_left others) some.0 ∙ sym (ap (λ xs. behind_first (flat_map item_left xs)) is ∙ items_rest item others parts.0),
      All-cons AsksSome rest others some.1 parts.1,
    )

pub none_back : (items others : List Item) (item : Item) (left : Option Item) → items ≡ item ∷ others → All AsksSome items →
    IsRest left (behind_first (item_left item)) → left ≡ None → IsLeft items others
none_back items others item left is all rested there =
    let P : Option Item → Type 0 = λ o. IsRest o (behind_first (item_left item)) in
    let none : IsRest None (behind_first (item_left item)) = subst P there rested in
    let parts : AsksSome item × All AsksSome others = own_and_others items others item is all in
    (sym (ap (λ xs. behind_first (flat_map item_left xs)) is ∙ items_rest item others parts.0 ∙ ap (λ xs. xs ++ flat_map item_left others) none), parts.1)

-- One item more behind the others, or not.
pub pushed_all : (items : List Item) (item : Item) → All AsksSome items → AsksSome item → All AsksSome (items ++ item ∷ [])
pushed_all items item all some = All-push AsksSome items item all some

pub pushed_left : (items : List Item) (item : Item) → flat_map item_left (items ++ item ∷ []) ≡ flat_map item_left items ++ item_left item
pushed_left items item =
    flat_map-append item_left items (item ∷ []) ∙ ap (λ xs. flat_map item_left items ++ xs) (append-nil (item_left item))
