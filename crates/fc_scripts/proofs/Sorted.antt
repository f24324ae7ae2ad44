-- Entries that take the next requests of scripts, one by one, in any order among the actors; and the same sorted by actor.
use Rattle.std.proofs.Common.{◌≡◌, ◌≢◌, ℕ, ◌==◌, Bool, true, false, Some, List, [], ◌∷◌, ◌++◌, map, filter, get_or, All, AllPairs, refl, sym, ◌∙◌, ap, subst}
use Rattle.std.proofs.lemmas.Bool.{cond-true, cond-false, eq-eqb, eqb-false, eqb-true}
use Rattle.std.proofs.lemmas.List.{append-nil}
use Rattle.std.proofs.lemmas.List.Elements.{All-cons, All-contains_itself, All-head, All-nil, All-tail}
use Rattle.std.proofs.lemmas.List.Folds.{list_any_at}
use Rattle.fc_base.specs.declared.request.Request.{Request}
use Rattle.fc_entry.specs.declared.entry.Entry.{Entry}
use Rattle.fc_legal.specs.Scripts.{Script, are_done, behind_first, behind_next, next_request, next_by}
use Rattle.fc_scripts.proofs.Left.{IsAmong, all_done, among, asks_has, behind_others, behind_own, done_none, has_behind, has_script, left_by, next_left, numbers_behind, own, some_first}
use Rattle.fc_scripts.specs.Actors.{AreAll, AreFirst, AreTheirs, WantMore, asks_of}
use Rattle.fc_scripts.specs.Ways.{AreOfDifferent, numbers_of}

-- Each entry asks what its actor asks next; and so much is left.
abbrev pub AreNext : List Script → List Entry → List Script → Type 0
AreNext scripts [] left = left ≡ scripts
AreNext scripts (e ∷ es) left = (next_by scripts e.actor ≡ Some e.request) × AreNext (behind_next scripts e.actor) es left

-- ---- sorted by actor

asks_here : (e : Entry) (es : List Entry) (b : ℕ) → (e.actor == b) ≡ true → asks_of b (e ∷ es) ≡ e.request ∷ asks_of b es
asks_here e es b here =
    let others : List Entry = filter (λ (entry : Entry). entry.actor == b) es in
    ap (λ entries. map (λ (entry : Entry). entry.request) entries) (cond-true (e.actor == b) (e ∷ others) others here)

asks_other : (e : Entry) (es : List Entry) (b : ℕ) → (e.actor == b) ≡ false → asks_of b (e ∷ es) ≡ asks_of b es
asks_other e es b here =
    let others : List Entry = filter (λ (entry : Entry). entry.actor == b) es in
    ap (λ entries. map (λ (entry : Entry). entry.request) entries) (cond-false (e.actor == b) (e ∷ others) others here)

-- What is behind the next request of an actor, by a number that is its own.
behind_at : (scripts : List Script) (a b : ℕ) → a ≡ b → left_by (behind_next scripts a) b ≡ behind_first (left_by scripts b)
behind_at scripts a b same =
    let P : ℕ → Type 0 = λ n. left_by (behind_next scripts a) n ≡ behind_first (left_by scripts n) in
    subst P same (behind_own scripts a)

first_at : (scripts : List Script) (a b : ℕ) (r : Request) → a ≡ b → next_by scripts a ≡ Some r → next_request (left_by scripts b) ≡ Some r
first_at scripts a b r same e =
    let P : ℕ → Type 0 = λ n. next_request (left_by scripts n) ≡ Some r in
    subst P same (sym (next_left scripts a) ∙ e)

sorted_case :
    (scripts : List Script) (e : Entry) (es : List Entry) (left : List Script) (b : ℕ) (here : Bool) →
    (e.actor == b) ≡ here →
    next_by scripts e.actor ≡ Some e.request →
    asks_of b es ++ left_by left b ≡ left_by (behind_next scripts e.actor) b →
    asks_of b (e ∷ es) ++ left_by left b ≡ left_by scripts b
sorted_case scripts e es left b true here asked rest =
    let same : e.actor ≡ b = eqb-true e.actor b here in
    ap (λ asks. asks ++ left_by left b) (asks_here e es b here)
    ∙ ap (λ more. e.request ∷ more) (rest ∙ behind_at scripts e.actor b same)
    ∙ sym (some_first (left_by scripts b) e.request (first_at scripts e.actor b e.request same asked))
sorted_case scripts e es left b false here asked rest =
    ap (λ asks. asks ++ left_by left b) (asks_other e es b here)
    ∙ rest
    ∙ behind_others scripts e.actor b (λ same. eqb-false e.actor b here same)

-- Of each actor its entries, in their order, and what is left make up its script.
pub sorted : (scripts : List Script) (xs : List Entry) (left : List Script) → AreNext scripts xs left → (b : ℕ) → asks_of b xs ++ left_by left b ≡ left_by scripts b
sorted scripts [] left h b = ap (λ (ss : List Script). left_by ss b) h
sorted scripts (e ∷ es) left h b =
    sorted_case scripts e es left b (e.actor == b) refl h.0 (sorted (behind_next scripts e.actor) es left h.1 b)

abbrev HasScript : List Script → Entry → Type 0
HasScript scripts e = has_script scripts e.actor ≡ true

pub theirs : (scripts : List Script) (xs : List Entry) (left : List Script) → AreNext scripts xs left → AreTheirs scripts xs
theirs scripts [] left h = All-nil (HasScript scripts)
theirs scripts (e ∷ es) left h =
    let rest : AreTheirs (behind_next scripts e.actor) es = theirs (behind_next scripts e.actor) es left h.1 in
    All-cons (HasScript scripts) e es (asks_has scripts e.actor e.request h.0)
    (λ k d inside. sym (has_behind scripts e.actor (get_or es k d).actor) ∙ rest k d inside)

pub numbers_same : (scripts : List Script) (xs : List Entry) (left : List Script) → AreNext scripts xs left → numbers_of left ≡ numbers_of scripts
numbers_same scripts [] left h = ap numbers_of h
numbers_same scripts (e ∷ es) left h = numbers_same (behind_next scripts e.actor) es left h.1 ∙ numbers_behind scripts e.actor

pub has_same : (scripts : List Script) (xs : List Entry) (left : List Script) → AreNext scripts xs left → (b : ℕ) → has_script left b ≡ has_script scripts b
has_same scripts [] left h b = ap (λ (ss : List Script). has_script ss b) h
has_same scripts (e ∷ es) left h b = has_same (behind_next scripts e.actor) es left h.1 b ∙ has_behind scripts e.actor b

-- ---- what they are

pub are_first : (scripts : List Script) (xs : List Entry) (left : List Script) → AreOfDifferent scripts → AreNext scripts xs left → AreFirst scripts xs
are_first scripts xs left differ h =
    record {
      left = λ actor. left_by left actor;
      each = λ k d inside. sorted scripts xs left h (get_or scripts k d).actor ∙ own scripts differ k d inside;
      nobody_else = theirs scripts xs left h;
    }

pub are_all : (scripts : List Script) (xs : List Entry) (left : List Script) → AreOfDifferent scripts → AreNext scripts xs left → are_done left ≡ true → AreAll scripts xs
are_all scripts xs left differ h done =
    record {
      each = λ k d inside.
          let a : ℕ = (get_or scripts k d).actor in
          sym (append-nil (asks_of a xs))
          ∙ sym (ap (λ rest. asks_of a xs ++ rest) (done_none left done a))
          ∙ sorted scripts xs left h a
          ∙ own scripts differ k d inside;
      nobody_else = theirs scripts xs left h;
    }

abbrev nobody : Script
nobody = record { actor = 0; requests = [] }

pub want_more :
    (scripts : List Script) (xs : List Entry) (left : List Script) (a : ℕ) (r : Request) →
    AreOfDifferent scripts →
    AreNext scripts xs left →
    next_by left a ≡ Some r →
    WantMore scripts xs
unfolding are_first
want_more scripts xs left a r differ h asks =
    let at : IsAmong scripts a = among scripts a (sym (has_same scripts xs left h a) ∙ asks_has left a r asks) in
    let s : Script = get_or scripts at.place nobody in
    record {
      first = are_first scripts xs left differ h;
      script = s;
      is_one = All-contains_itself scripts at.place nobody at.inside;
      wanted = r;
      behind = behind_first (left_by left s.actor);
      is_left = some_first (left_by left s.actor) r (first_at left a s.actor r (sym (at.is nobody)) asks);
    }

-- ---- and back

-- Entries that are sorted so take the next requests, one by one.
pub record TakeNext (scripts : List Script) (xs : List Entry) (left : ℕ → List Request) : Type 0 where
  pub end : List Script
  pub next : AreNext scripts xs end
  pub left_is : (b : ℕ) → has_script scripts b ≡ true → left_by end b ≡ left b

behind_case :
    (scripts : List Script) (e : Entry) (es : List Entry) (left : ℕ → List Request) (b : ℕ) (here : Bool) →
    (e.actor == b) ≡ here →
    asks_of b (e ∷ es) ++ left b ≡ left_by scripts b →
    asks_of b es ++ left b ≡ left_by (behind_next scripts e.actor) b
behind_case scripts e es left b true here each =
    let all : e.request ∷ (asks_of b es ++ left b) ≡ left_by scripts b = ap (λ asks. asks ++ left b) (sym (asks_here e es b here)) ∙ each in
    ap behind_first all ∙ sym (behind_at scripts e.actor b (eqb-true e.actor b here))
behind_case scripts e es left b false here each =
    ap (λ asks. asks ++ left b) (sym (asks_other e es b here))
    ∙ each
    ∙ sym (behind_others scripts e.actor b (λ same. eqb-false e.actor b here same))

pub take_next :
    (scripts : List Script) (xs : List Entry) (left : ℕ → List Request) →
    AreTheirs scripts xs →
    ((b : ℕ) → has_script scripts b ≡ true → asks_of b xs ++ left b ≡ left_by scripts b) →
    TakeNext scripts xs left
take_next scripts [] left own_each each = record { end = scripts; next = refl; left_is = λ b has. sym (each b has) }
take_next scripts (e ∷ es) left own_each each =
    let here : (e.actor == e.actor) ≡ true = eq-eqb e.actor e.actor refl in
    let all : e.request ∷ (asks_of e.actor es ++ left e.actor) ≡ left_by scripts e.actor =
    ap (λ asks. asks ++ left e.actor) (sym (asks_here e es e.actor here)) ∙ each e.actor (All-head (HasScript scripts) e es own_each) in
    let rest : TakeNext (behind_next scripts e.actor) es left =
    take_next (behind_next scripts e.actor) es left
    (λ k d inside. has_behind scripts e.actor (get_or es k d).actor ∙ All-tail (HasScript scripts) e es own_each k d inside)
    (λ b has. behind_case scripts e es left b (e.actor == b) refl (each b (sym (has_behind scripts e.actor b) ∙ has))) in
    record {
      end = rest.end;
      next = (next_left scripts e.actor ∙ sym (ap next_request all), rest.next);
      left_is = λ b has. rest.left_is b (has_behind scripts e.actor b ∙ has);
    }

-- What is said of each script is said of each number.
by_number :
    (scripts : List Script) (xs : List Entry) (left : ℕ → List Request) →
    AreOfDifferent scripts →
    All (λ (s : Script). asks_of s.actor xs ++ left s.actor ≡ s.requests) scripts →
    (b : ℕ) →
    has_script scripts b ≡ true →
    asks_of b xs ++ left b ≡ left_by scripts b
by_number scripts xs left differ each b has =
    let at : IsAmong scripts b = among scripts b has in
    let P : ℕ → Type 0 = λ n. asks_of n xs ++ left n ≡ left_by scripts n in
    subst P (at.is nobody) (each at.place nobody at.inside ∙ sym (own scripts differ at.place nobody at.inside))

pub first_take : (scripts : List Script) (xs : List Entry) → AreOfDifferent scripts → (f : AreFirst scripts xs) → TakeNext scripts xs f.left
first_take scripts xs differ f = take_next scripts xs f.left f.nobody_else (by_number scripts xs f.left differ f.each)

pub all_take : (scripts : List Script) (xs : List Entry) → AreOfDifferent scripts → AreAll scripts xs → TakeNext scripts xs (λ actor. [])
all_take scripts xs differ all =
    take_next scripts xs (λ actor. []) all.nobody_else
    (by_number scripts xs (λ actor. []) differ (λ k d inside. append-nil (asks_of (get_or scripts k d).actor xs) ∙ all.each k d inside))

-- Where all was asked, nothing is left.
pub taken_done : (scripts : List Script) (xs : List Entry) → AreOfDifferent scripts → (t : TakeNext scripts xs (λ actor. [])) → are_done t.end ≡ true
taken_done scripts xs differ t =
    let Differ : List ℕ → Type 0 = λ numbers. AllPairs (λ one other. one ≢ other) numbers in
    let apart : AreOfDifferent t.end = subst Differ (sym (numbers_same scripts xs t.end t.next)) differ in
    all_done t.end
    (λ k d inside.
    let a : ℕ = (get_or t.end k d).actor in
    let has : has_script scripts a ≡ true =
    sym (has_same scripts xs t.end t.next a) ∙ list_any_at (λ (s : Script). s.actor == a) t.end k d inside (eq-eqb a a refl) in
    sym (own t.end apart k d inside) ∙ t.left_is a has)

-- Where one more is wanted, it is what its actor asks next.
pub wanted_next : (scripts : List Script) (xs : List Entry) → AreOfDifferent scripts → (more : WantMore scripts xs) → (t : TakeNext scripts xs more.first.left) → next_by t.end more.script.actor ≡ Some more.wanted
wanted_next scripts xs differ more t =
    let a : ℕ = more.script.actor in
    let is : get_or scripts more.is_one.0 more.script ≡ more.script = more.is_one.2 in
    let has : has_script scripts a ≡ true =
    list_any_at (λ (s : Script). s.actor == a) scripts more.is_one.0 more.script more.is_one.1
    (eq-eqb (get_or scripts more.is_one.0 more.script).actor a (ap (λ (s : Script). s.actor) is)) in
    next_left t.end a ∙ ap next_request (t.left_is a has ∙ more.is_left)
