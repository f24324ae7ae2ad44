-- What a disk was asked for by one call, and by another behind it.
use Rattle.std.proofs.Common.{◌≡◌, inl, inr, ⊎_elim, ℕ, zero, suc, ◌+◌, List, ◌++◌, length, ap, ◌∙◌, subst, length-append, arith}
use Rattle.std.specs.Prelude.{Result, Ok, Err, IsErrOf}
use Rattle.fc_base.specs.Count.{one_more, HasRisen}
use Rattle.fc_metadisk.specs.Calls.{DiskCall, Made, all_made, AreCutShort}
use Rattle.fc_metadisk.proofs.Told.{all_behind, cut_after, cut_before}
use Rattle.fc_meta.specs.declared.error.MetaError.{MetaError}
use Rattle.fc_meta.specs.declared.error.MetaError.TheVariants.{Failed}
use Rattle.fc_meta.specs.Answers.{more_calls, IsStopped}
use Rattle.fc_meta.specs.Promise.{Asks}

-- ---- Counts

pub calls_added : (m n c : ℕ) → more_calls m (more_calls n c) ≡ more_calls (m + n) c
calls_added zero n c = ap (λ (k : ℕ). more_calls k c) (let e : n ≡ 0 + n = omega arith in e)
calls_added (suc m) n c = ap one_more (calls_added m n c) ∙ ap (λ (k : ℕ). more_calls k c) (let e : suc (m + n) ≡ suc m + n = omega arith in e)

-- of calls behind others, and of others behind them
stopped_after : (n m c now : ℕ) → IsStopped n (more_calls m c) now → IsStopped (n + m) c now
stopped_after zero m c now stopped = absurd stopped
stopped_after (suc n) m c now stopped =
    let more : IsStopped (suc (n + m)) c now = ⊎_elim (λ e. inl (e ∙ ap one_more (calls_added n m c))) (λ h. inr (stopped_after n m c now h)) stopped in
    subst (λ (k : ℕ). IsStopped k c now) (let e : suc (n + m) ≡ suc n + m = omega arith in e) more

stopped_before : (m n c now : ℕ) → IsStopped n c now → IsStopped (m + n) c now
stopped_before zero n c now stopped = subst (λ (k : ℕ). IsStopped k c now) (let e : n ≡ 0 + n = omega arith in e) stopped
stopped_before (suc m) n c now stopped =
    let more : IsStopped (suc (m + n)) c now = inr (stopped_before m n c now stopped) in
    subst (λ (k : ℕ). IsStopped k c now) (let e : suc (m + n) ≡ suc m + n = omega arith in e) more

both_counted : (first rest : List DiskCall) → length rest + length first ≡ length (first ++ rest)
both_counted first rest = let l = length-append first rest in omega (arith, l)

-- ---- One call

module _ {A D : Type 0} (fault_count calls : D → ℕ) (leads : D → List Made → D → Type 0) where
  pub asks_all : (asked : List DiskCall) (old new : D) (a : A) → leads old (all_made asked) new → calls new ≡ more_calls (length asked) (calls old) → fault_count new ≡ fault_count old
      → Asks fault_count calls leads asked old new (Ok a)
  asks_all asked old new a done counted quiet = record { done = done; counted = counted; quiet = quiet; cut_short = λ told. cc; stopped = λ told. cc; failed = λ told. cc }

  pub asks_some : (asked : List DiskCall) (old new : D) → AreCutShort (λ made. leads old made new) asked → IsStopped (length asked) (calls old) (calls new) → HasRisen (fault_count old) (fault_count new)
      → Asks {A = A} fault_count calls leads asked old new (Err Failed)
  asks_some asked old new cut stopped risen = record { done = tt; counted = tt; quiet = tt; cut_short = λ told. cut; stopped = λ told. stopped; failed = λ told. risen }

  -- refused for another cause
  pub asks_none : (error : MetaError) → (IsErrOf {T = A} (Err error) Failed → ⊥) → (asked : List DiskCall) (old new : D) → Asks {A = A} fault_count calls leads asked old new (Err error)
  asks_none error other asked old new =
      record { done = tt; counted = tt; quiet = tt; cut_short = λ told. absurd (other told); stopped = λ told. absurd (other told); failed = λ told. absurd (other told) }

-- ---- One behind another

same_error : {A B : Type 0} (error : MetaError) → IsErrOf {T = B} (Err error) Failed → IsErrOf {T = A} (Err error) Failed
same_error error told = cc

module _ {A B D : Type 0} (fault_count calls : D → ℕ) (leads : D → List Made → D → Type 0) (first rest : List DiskCall) (old mid : D) where
  -- the first has failed, or was refused
  pub asks_first : (error : MetaError) → Asks {A = A} fault_count calls leads first old mid (Err error) → Asks {A = B} fault_count calls leads (first ++ rest) old mid (Err error)
  asks_first error one = record {
    done = tt;
    counted = tt;
    quiet = tt;
    cut_short = λ told. cut_before (λ made. leads old made mid) first rest (one.cut_short (same_error error told));
    stopped = λ told. subst (λ (n : ℕ). IsStopped n (calls old) (calls mid)) (both_counted first rest)
        (stopped_before (length rest) (length first) (calls old) (calls mid) (one.stopped (same_error error told)));
    failed = λ told. one.failed (same_error error told);
  }

  pub asks_both : (leads_on : (a b c : D) (first rest : List Made) → leads a first b → leads b rest c → leads a (first ++ rest) c) (a : A) (new : D) (result : Result B MetaError)
      → Asks fault_count calls leads first old mid (Ok a) → Asks fault_count calls leads rest mid new result → Asks fault_count calls leads (first ++ rest) old new result
  asks_both leads_on a new (Ok b) one two = asks_all fault_count calls leads (first ++ rest) old new b (all_behind leads leads_on old mid new first rest one.done two.done)
      (two.counted ∙ (ap (more_calls (length rest)) one.counted ∙ (calls_added (length rest) (length first) (calls old) ∙ ap (λ (n : ℕ). more_calls n (calls old)) (both_counted first rest))))
      (two.quiet ∙ one.quiet)
  asks_both leads_on a new (Err error) one two = record {
    done = tt;
    counted = tt;
    quiet = tt;
    cut_short = λ told. cut_after leads leads_on old mid new first rest one.done (two.cut_short told);
    stopped = λ told. subst (λ (n : ℕ). IsStopped n (calls old) (calls new)) (both_counted first rest)
        (stopped_after (length rest) (length first) (calls old) (calls new) (subst (λ (n : ℕ). IsStopped (length rest) n (calls new)) one.counted (two.stopped told)));
    failed = λ told. subst (λ (n : ℕ). HasRisen n (fault_count new)) one.quiet (two.failed told);
  }
