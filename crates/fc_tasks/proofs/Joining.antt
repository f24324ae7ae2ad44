-- What all actors answered, one more actor behind the others.
use Rattle.std.proofs.Common.{◌≡◌, ℕ, ◌+◌, ◌-◌, ◌<◌, ◌≤◌, List, [], ◌∷◌, ◌++◌, length, sym, ap, ◌∙◌, subst, refl, arith, max, Option, Some, None}
use Rattle.fc_entry.specs.declared.stop.Stop.{Stop}
use Rattle.fc_entry.specs.declared.stop.Stop.TheVariants.{LogFull, NoMemory}
use Rattle.fc_yard.specs.Calls.{YardView, PassView, became}
use Rattle.fc_yard.specs.Views.{joined, split_from, split_off}
use Rattle.fc_tasks.specs.Acting.{AllAnswered, AllSuit, HasAnswered, IsFree, IsSamePass, Stopped, all_made}
use Rattle.fc_tasks.specs.declared.actor.Answered.{Answered}
use Rattle.fc_tasks.specs.declared.script.Needs.{Needs}
use Rattle.fc_tasks.proofs.Doing.{more_behind}

module _ {E P S : Type 0} (needed : S → Needs) (suits : S → List P → ℕ → Type 0) (goes : S → E → S → Type 0) where
  abbrev Answers : ℕ → ℕ → List S → List (Answered E S) → Type 0
  Answers = AllAnswered needed suits goes

  -- more tickets may be given since
  stopped_later : (limit low low' : ℕ) (left : S) (stop : Option Stop) → low ≤ low' → Stopped needed suits goes limit low left stop → Stopped needed suits goes limit low' left stop
  stopped_later limit low low' left None l s = s
  stopped_later limit low low' left (Some LogFull) l s = let full = s.1 in (s.0, omega arith)
  stopped_later limit low low' left (Some NoMemory) l s = tt

  later : (limit low low' : ℕ) (s : S) (a : Answered E S) → low ≤ low' → HasAnswered needed suits goes limit low s a → HasAnswered needed suits goes limit low' s a
  later limit low low' s a l h = record { went = h.went; rises = h.rises; stopped = stopped_later limit low low' a.left a.stop l h.stopped }

  pub all_later : (limit low low' : ℕ) (ss : List S) (answers : List (Answered E S)) → low ≤ low' → Answers limit low ss answers → Answers limit low' ss answers
  all_later limit low low' [] [] l h = tt
  all_later limit low low' (s ∷ ss) (a ∷ answers) l h = (later limit low low' s a l h.0, all_later limit low low' ss answers l h.1)
  all_later limit low low' [] (a ∷ answers) l h = absurd h
  all_later limit low low' (s ∷ ss) [] l h = absurd h

  pub all_more : (limit low : ℕ) (ss : List S) (answers : List (Answered E S)) (s : S) (a : Answered E S) → Answers limit low ss answers → HasAnswered needed suits goes limit low s a → Answers limit low (ss ++ s ∷ []) (answers ++ a ∷ [])
  all_more limit low [] [] s a h one = (one, tt)
  all_more limit low (t ∷ ss) (b ∷ answers) s a h one = (h.0, all_more limit low ss answers s a h.1 one)
  all_more limit low [] (b ∷ answers) s a h one = absurd h
  all_more limit low (t ∷ ss) [] s a h one = absurd h

  pub as_many : (limit low : ℕ) (ss : List S) (answers : List (Answered E S)) → Answers limit low ss answers → length answers ≡ length ss
  as_many limit low [] [] h = refl
  as_many limit low (s ∷ ss) (a ∷ answers) h = let rest = as_many limit low ss answers h.1 in omega arith
  as_many limit low [] (a ∷ answers) h = absurd h
  as_many limit low (s ∷ ss) [] h = absurd h

  -- both, in a pass that took in another
  pub joined_answers : (limit low one other : ℕ) (ss : List S) (answers : List (Answered E S)) (s : S) (a : Answered E S) → one ≤ low → other ≤ low
      → Answers limit one ss answers → HasAnswered needed suits goes limit other s a → Answers limit low (ss ++ s ∷ []) (answers ++ a ∷ [])
  joined_answers limit low one other ss answers s a l m h k = all_more limit low ss answers s a (all_later limit one low ss answers l h) (later limit other low s a m k)

  -- the scripts but the last, and the last
  pub suits_but : (ss : List S) (s : S) (openings : List P) (limit : ℕ) → AllSuit needed suits goes (ss ++ s ∷ []) openings limit → AllSuit needed suits goes ss openings limit
  suits_but [] s openings limit h = tt
  suits_but (t ∷ ss) s openings limit h = (h.0, suits_but ss s openings limit h.1)

  pub suits_last : (ss : List S) (s : S) (openings : List P) (limit : ℕ) → AllSuit needed suits goes (ss ++ s ∷ []) openings limit → suits s openings limit
  suits_last [] s openings limit h = h.0
  suits_last (t ∷ ss) s openings limit h = suits_last ss s openings limit h.1

-- what they made
pub made_more : {E S : Type 0} (answers : List (Answered E S)) (a : Answered E S) → all_made (answers ++ a ∷ []) ≡ all_made answers ++ a.made.items
made_more [] a = end a.made.items
  where
    end : {A : Type 0} (xs : List A) → xs ++ [] ≡ xs
    end [] = refl
    end (x ∷ xs) = ap (λ (l : List _). x ∷ l) (end xs)
made_more (b ∷ answers) a = ap (λ (l : List _). b.made.items ++ l) (made_more answers a) ∙ sym (assoc b.made.items (all_made answers) a.made.items)
  where
    assoc : {A : Type 0} (xs ys zs : List A) → (xs ++ ys) ++ zs ≡ xs ++ (ys ++ zs)
    assoc [] ys zs = refl
    assoc (x ∷ xs) ys zs = ap (λ (l : List _). x ∷ l) (assoc xs ys zs)

module _ {P E : Type 0} where
  -- a pass that took in another
  pub free_joined : (y : YardView) (p q other : PassView P E) → IsFree y p → IsFree y other → q ≡ became p (joined p.view other.view) → IsFree y q
  free_joined y p q other one two is = subst (IsFree y) (sym is) record {
    yard = one.yard;
    parts = one.parts;
    none = one.none;
    used = let a = one.used in let b = two.used in omega arith;
  }

  -- a pass of which another was split off, and the other
  pub free_left : (y : YardView) (p q : PassView P E) → IsFree y p → q ≡ became p (split_from p.view) → IsFree y q
  free_left y p q free is = subst (IsFree y) (sym is) record { yard = free.yard; parts = free.parts; none = free.none; used = free.used }

  pub free_off : (y : YardView) (p q : PassView P E) → IsFree y p → q ≡ became p (split_off p.view) → IsFree y q
  free_off y p q free is = subst (IsFree y) (sym is) record { yard = free.yard; parts = free.parts; none = λ n. refl; used = refl }

-- a share that was split off comes back
shares_back : (all left off one other sum : ℕ) → 0 < all → left ≡ all - 1 → off ≡ 1 → one ≡ left → other ≡ off → sum ≡ one + other → sum ≡ all
shares_back all left off one other sum some is_left is_off is_one is_other is = omega arith

module _ {P E : Type 0} where
  -- all of them are passes of the same yard, with the same shares
  pub same_joined : (p left off one other q : PassView P E) → 0 < p.view.shares → left ≡ became p (split_from p.view) → off ≡ became p (split_off p.view)
      → IsSamePass left.view one.view → IsSamePass off.view other.view → q ≡ became one (joined one.view other.view) → IsSamePass p.view q.view
  same_joined p left off one other q some is_left is_off a b is = record {
    openings = ap (λ (r : PassView P E). r.view.openings) is ∙ a.openings ∙ ap (λ (r : PassView P E). r.view.openings) is_left;
    first = ap (λ (r : PassView P E). r.view.first) is ∙ a.first ∙ ap (λ (r : PassView P E). r.view.first) is_left;
    limit = ap (λ (r : PassView P E). r.view.limit) is ∙ a.limit ∙ ap (λ (r : PassView P E). r.view.limit) is_left;
    passes = ap (λ (r : PassView P E). r.view.passes) is ∙ a.passes ∙ ap (λ (r : PassView P E). r.view.passes) is_left;
    shares = shares_back p.view.shares left.view.shares off.view.shares one.view.shares other.view.shares q.view.shares some (ap (λ (r : PassView P E). r.view.shares) is_left)
        (ap (λ (r : PassView P E). r.view.shares) is_off) a.shares b.shares (ap (λ (r : PassView P E). r.view.shares) is);
  }
