-- The next grain of a slot is the least that it lacks, or is needed at.
use Rattle.std.proofs.Common.{◌≡◌, ◌≢◌, ℕ, ◌+◌, ◌<◌, ◌≤◌, Bool, true, false, not, ◌&&◌, Option, Some, None, IfSome, is_some, List, length, get_or, sym, ap, subst, ◌∙◌, arith, inl, inr}
use Rattle.std.proofs.lemmas.Bool.{both_ways, cases_lt, cases_eq, false_from_ne_true}
use Rattle.fc_bits.specs.Grains.{difference, has, least_clear, least_set}
use Rattle.fc_bits.proofs.Grains.{least_clear-some, least_clear-none, least_set-some, least_set-none, has-difference, length-difference}
use Rattle.fc_base.specs.Column.{first_below, needer}
use Rattle.fc_base.specs.Counts.{LiveBehind, is_needed_at}
use Rattle.fc_base.specs.Sheet.{Slot, slot_at, column}
use Rattle.fc_tallies.specs.Nexts.{IsNextLive, lacks}
use Rattle.fc_tallies.specs.Tallies.{AreOneSize}
use Rattle.fc_moves.proofs.Readers.{reader_is}
use Rattle.fc_moves.proofs.Search.{IsFirst, first_is, first_is_none}
use Rattle.fc_slots.proofs.Finds.{read_at}
use Rattle.fc_tallies.proofs.Needs.{some_at}

-- the answer is the least number below a bound that passes a test
pub record IsAnswer (test : ℕ → Bool) (n : ℕ) (r : Option ℕ) : Type 0 where
  pub value : r ≡ first_below test n
  pub bound : IfSome r (λ g. g < n)

answer_some : (test : ℕ → Bool) (n g : ℕ) → IsFirst test n g → IsAnswer test n (Some g)
answer_some test n g f = record { value = sym (first_is test n g f); bound = f.below }

pub answer_none : (test : ℕ → Bool) (n : ℕ) → ((g : ℕ) → g < n → test g ≡ false) → IsAnswer test n None
answer_none test n f = record { value = sym (first_is_none test n f); bound = tt }

-- ---- lacking

lacking_by : (t : Slot) (r : Option ℕ) → t.is_live ≡ true → least_clear t.held 0 ≡ r → IsAnswer (lacks t) (length t.held) r
lacking_by t None l e =
    answer_none (lacks t) (length t.held)
    (λ g lt. ap (λ z. z && not (get_or t.held g false)) l ∙ ap not (least_clear-none t.held 0 e g (omega arith) lt))
lacking_by t (Some g) l e =
    let f = least_clear-some t.held 0 g e in
    answer_some (lacks t) (length t.held) g (record {
      below = f.1;
      passes = ap (λ z. z && not (get_or t.held g false)) l ∙ ap not f.2;
      first = λ j lt. ap (λ z. z && not (get_or t.held j false)) l ∙ ap not (f.3 j (omega arith) lt);
    })

pub lacking_live : (slots : List Slot) (k : ℕ) (s : Slot) (held : List Bool) (r : Option ℕ) → k < length slots → s ≡ get_or slots k s → s.is_live ≡ true → held ≡ s.held → r ≡ least_clear held 0 →
    IsAnswer (lacks (slot_at slots k)) (length (slot_at slots k).held) r
lacking_live slots k s held r kl es l h e =
    subst (λ (t : Slot). IsAnswer (lacks t) (length t.held) r) (sym (read_at slots k s kl es))
    (lacking_by s r l (sym (e ∙ ap (λ z. least_clear z 0) h)))

pub lacking_old : (slots : List Slot) (k : ℕ) (s : Slot) → k < length slots → s ≡ get_or slots k s → s.is_live ≡ false → IsAnswer (lacks (slot_at slots k)) (length (slot_at slots k).held) None
lacking_old slots k s kl es l =
    answer_none (lacks (slot_at slots k)) (length (slot_at slots k).held)
    (λ g lt. ap (λ (t : Slot). t.is_live && not (get_or t.held g false)) (read_at slots k s kl es) ∙ ap (λ z. z && not (get_or s.held g false)) l)

-- ---- the next live slot

pub live_next : (slots : List Slot) (k behind : ℕ) (s t : Slot) → k < length slots → s ≡ get_or slots k s → k < behind → behind < length slots → t ≡ get_or slots behind t → t.chain ≡ s.chain →
    ((j : ℕ) → k < j → j < behind → (slot_at slots j).is_live ≡ true → (slot_at slots j).chain ≡ (slot_at slots k).chain → ⊥) → IsNextLive slots k behind
live_next slots k behind s t kl es b bl et q none =
    record {
      behind = b;
      there = bl;
      one_chain = ap (λ (x : Slot). x.chain) (read_at slots behind t bl et) ∙ (q ∙ ap (λ (x : Slot). x.chain) (sym (read_at slots k s kl es)));
      none_between = none;
    }

pub live_none : (slots : List Slot) (k n : ℕ) → length slots ≤ n →
    ((j : ℕ) → k < j → j < n → (slot_at slots j).is_live ≡ true → (slot_at slots j).chain ≡ (slot_at slots k).chain → ⊥) → LiveBehind slots k → ⊥
live_none slots k n le none l = none l.0 l.2 (let a : l.0 < length slots = l.1 in omega arith) l.3 l.4

-- ---- needed

-- A slot is needed by a live one behind it, with none up to it that holds the grain.
record NeedsAt (slots : List Slot) (k g a : ℕ) : Type 0 where
  behind : k < a
  there : a < length slots
  is_live : (slot_at slots a).is_live ≡ true
  one_chain : (slot_at slots a).chain ≡ (slot_at slots k).chain
  holds : get_or (slot_at slots k).held g false ≡ true
  none_holds : (j : ℕ) → k < j → j ≤ a → (slot_at slots j).chain ≡ (slot_at slots k).chain → get_or (slot_at slots j).held g false ≡ true → ⊥

needs_at : (slots : List Slot) (k g : ℕ) → is_needed_at slots k g ≡ true → (a : ℕ) × NeedsAt slots k g a
needs_at slots k g e =
    let s = some_at (needer (column slots g) k) e in
    let r = reader_is (column slots g) k k s.0 s.1 in
    let le : k ≤ s.0 = r.reads.before in
    let ne : s.0 ≢ k = r.other in (
      s.0,
      record {
        behind = omega arith;
        there = r.there;
        is_live = r.is_live;
        one_chain = sym r.reads.one_chain;
        holds = r.reads.holds;
        none_holds = λ j kj ja q u. r.reads.nearest j kj ja (q ∙ r.reads.one_chain) u;
      },
    )

pub none_needed : (slots : List Slot) (k : ℕ) → (LiveBehind slots k → ⊥) → IsAnswer (is_needed_at slots k) (length (slot_at slots k).held) None
none_needed slots k none =
    answer_none (is_needed_at slots k) (length (slot_at slots k).held)
    (λ g lt. false_from_ne_true (is_needed_at slots k g) (λ e. let a = needs_at slots k g e in none (a.0, a.1.there, a.1.behind, a.1.is_live, a.1.one_chain)))

-- where the slot isn't needed, or the next live one doesn't lack the grain
held_not_lacked : (slots : List Slot) (k reader g : ℕ) → IsNextLive slots k reader → is_needed_at slots k g ≡ true →
    (get_or (slot_at slots k).held g false && not (get_or (slot_at slots reader).held g false)) ≡ true
held_not_lacked slots k reader g n e =
    let a = needs_at slots k g e in
    let up : reader ≤ a.0 = elim (cases_lt a.0 reader) [
      | inl early ↦ absurd (n.none_between a.0 a.1.behind early a.1.is_live a.1.one_chain)
      | inr late ↦ late
    ] in
    let lacks_it : get_or (slot_at slots reader).held g false ≡ false = false_from_ne_true _ (λ u. a.1.none_holds reader n.behind up n.one_chain u) in
    ap (λ z. z && not (get_or (slot_at slots reader).held g false)) a.1.holds ∙ ap not lacks_it

-- the grains that the slot holds and the next live one lacks
pub record AreLeft (slots : List Slot) (k reader : ℕ) (held lacking : List Bool) : Type 0 where
  pub held_is : held ≡ (slot_at slots k).held
  pub lacking_is : lacking ≡ (slot_at slots reader).held
  pub one_size : length held ≡ length lacking
  pub next : IsNextLive slots k reader

pub left_are : (slots : List Slot) (k reader : ℕ) (s t : Slot) (held lacking : List Bool) → AreOneSize slots → IsNextLive slots k reader → k < length slots → s ≡ get_or slots k s → t ≡ get_or slots reader t → held ≡ s.held → lacking ≡ t.held →
    AreLeft slots k reader held lacking
left_are slots k reader s t held lacking sizes n kl es et h l =
    let a : held ≡ (slot_at slots k).held = h ∙ ap (λ (x : Slot). x.held) (sym (read_at slots k s kl es)) in
    let b : lacking ≡ (slot_at slots reader).held = l ∙ ap (λ (x : Slot). x.held) (sym (read_at slots reader t n.there et)) in
    record {
      held_is = a;
      lacking_is = b;
      one_size = ap length a ∙ (sizes k reader kl n.there (sym n.one_chain) ∙ sym (ap length b));
      next = n;
    }

not_needed : (slots : List Slot) (k reader g : ℕ) (held lacking : List Bool) → AreLeft slots k reader held lacking → has (difference held lacking) g ≡ false → is_needed_at slots k g ≡ false
not_needed slots k reader g held lacking w e =
    false_from_ne_true (is_needed_at slots k g)
    (λ t.
    let both = held_not_lacked slots k reader g w.next t in
    let same : has (difference held lacking) g ≡ (get_or (slot_at slots k).held g false && not (get_or (slot_at slots reader).held g false)) =
    has-difference held lacking w.one_size g ∙ (ap (λ z. get_or z g false && not (get_or lacking g false)) w.held_is ∙ ap (λ z. get_or (slot_at slots k).held g false && not (get_or z g false)) w.lacking_is) in
    both_ways (has (difference held lacking) g) e (same ∙ both))

abbrev pub NoneBelow : List Slot → ℕ → ℕ → Type 0
NoneBelow slots k from = (g : ℕ) → g < from → is_needed_at slots k g ≡ false

-- no grain is left
pub none_left : (slots : List Slot) (k reader from : ℕ) (held lacking : List Bool) → AreLeft slots k reader held lacking → NoneBelow slots k from → None ≡ least_set (difference held lacking) from →
    IsAnswer (is_needed_at slots k) (length (slot_at slots k).held) None
none_left slots k reader from held lacking w none e =
    answer_none (is_needed_at slots k) (length (slot_at slots k).held)
    (λ g lt. elim (cases_lt g from) [
      | inl low ↦ none g low
      | inr high ↦ not_needed slots k reader g held lacking w (least_set-none (difference held lacking) from (sym e) g high)
    ])

pub none_at_end : (slots : List Slot) (k from : ℕ) (held : List Bool) → held ≡ (slot_at slots k).held → length held ≤ from → NoneBelow slots k from → IsAnswer (is_needed_at slots k) (length (slot_at slots k).held) None
none_at_end slots k from held e le none =
    answer_none (is_needed_at slots k) (length (slot_at slots k).held)
    (λ g lt. none g (let same : length held ≡ length (slot_at slots k).held = ap length e in omega arith))

-- what the next of them is
pub record IsNextLeft (slots : List Slot) (k from grain : ℕ) (held : List Bool) : Type 0 where
  pub from_on : from ≤ grain
  pub below : grain < length held
  pub none_before : NoneBelow slots k grain

pub left_next : (slots : List Slot) (k reader from grain : ℕ) (held lacking : List Bool) → AreLeft slots k reader held lacking → NoneBelow slots k from → Some grain ≡ least_set (difference held lacking) from →
    IsNextLeft slots k from grain held
left_next slots k reader from grain held lacking w none e =
    let f = least_set-some (difference held lacking) from grain (sym e) in
    let same : length (difference held lacking) ≡ length held = length-difference held lacking w.one_size in
    let lt : grain < length (difference held lacking) = f.1 in
    record {
      from_on = f.0;
      below = omega arith;
      none_before = λ g b. elim (cases_lt g from) [
        | inl low ↦ none g low
        | inr high ↦ not_needed slots k reader g held lacking w (f.3 g high b)
      ];
    }

pub found_left : (slots : List Slot) (k from grain : ℕ) (held : List Bool) (o : Option ℕ) → held ≡ (slot_at slots k).held → IsNextLeft slots k from grain held → o ≡ needer (column slots grain) k → is_some o ≡ true →
    IsAnswer (is_needed_at slots k) (length (slot_at slots k).held) (Some grain)
found_left slots k from grain held o e n q t =
    answer_some (is_needed_at slots k) (length (slot_at slots k).held) grain (record {
      below = (let b : grain < length held = n.below in let same : length held ≡ length (slot_at slots k).held = ap length e in omega arith);
      passes = ap is_some (sym q) ∙ t;
      first = n.none_before;
    })

pub passed_left : (slots : List Slot) (k from grain : ℕ) (held : List Bool) (o : Option ℕ) → IsNextLeft slots k from grain held → o ≡ needer (column slots grain) k → is_some o ≡ false → NoneBelow slots k (grain + 1)
passed_left slots k from grain held o n q t g lt =
    elim (cases_eq g grain) [
      | inl same ↦ ap (is_needed_at slots k) same ∙ (ap is_some (sym q) ∙ t)
      | inr ne ↦ n.none_before g (omega arith)
    ]
