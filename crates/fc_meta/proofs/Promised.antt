-- What calls of a writer do to its disk, one behind another, and that a call keeps its promise.
use Rattle.std.proofs.Common.{◌≡◌, ◌⊎◌, inl, inr, ⊎_elim, ℕ, List, ◌++◌, refl, ◌∙◌}
use Rattle.std.specs.Prelude.{Result, Ok, Err, OnErr, IsErrOf}
use Rattle.fc_metadisk.specs.Disk.{LeavesOnly}
use Rattle.fc_metadisk.specs.Calls.{DiskCall, Made}
use Rattle.fc_format.specs.Halves.{Found}
use Rattle.fc_meta.specs.declared.series.Call.{Call}
use Rattle.fc_meta.specs.declared.error.MetaError.{MetaError}
use Rattle.fc_meta.specs.declared.error.MetaError.TheVariants.{Failed, NoMemory, Full}
use Rattle.fc_meta.specs.declared.meta.Meta.{Meta}
use Rattle.fc_meta.specs.Answers.{LeavesFound, LeavesEither}
use Rattle.fc_meta.specs.States.{found, head_of}
use Rattle.fc_meta.specs.Order.{IsMade, head_behind, coming, HasNoRoom, TakesMemory}
use Rattle.fc_meta.specs.DiskCalls.{calls_of}
use Rattle.fc_meta.specs.Promise.{TreatsDisk, Promise}
use Rattle.fc_meta.proofs.Asked.{asks_none, asks_first, asks_both}
use Rattle.fc_meta.proofs.Moments.{joined, weaker, stays}

module _ {D : Type 0} (seen : D → List ℕ) (moment : D → ℕ) (left_since : D → ℕ → List ℕ → Type 0) (fault_count calls : D → ℕ) (leads : D → List Made → D → Type 0) where
  -- ---- One call behind another

  module _ (first rest : List DiskCall) (old mid : Meta D) (after : Found) where
    begun : LeavesOnly moment left_since old.disk mid.disk (LeavesEither (found seen old) (found seen old)) → LeavesOnly moment left_since old.disk mid.disk (LeavesEither (found seen old) after)
    begun run = weaker moment left_since old.disk mid.disk (LeavesEither (found seen old) (found seen old)) (LeavesEither (found seen old) after) (λ c. ⊎_elim (λ e. inl e) (λ e. inl e)) run

    -- the first has failed, or was refused
    pub treats_first : {A B : Type 0} (error : MetaError) → TreatsDisk seen moment left_since fault_count calls leads {A = A} (found seen old) first old mid (Err error)
        → TreatsDisk seen moment left_since fault_count calls leads {A = B} after (first ++ rest) old mid (Err error)
    treats_first error one = record {
      size = one.size;
      any_moment = begun one.any_moment;
      asks = asks_first fault_count calls leads first rest old.disk mid.disk error one.asks;
    }

    pub treats_both : {A B : Type 0} (leads_on : (a b c : D) (first rest : List Made) → leads a first b → leads b rest c → leads a (first ++ rest) c) (a : A) (new : Meta D) (result : Result B MetaError)
        → found seen mid ≡ found seen old → TreatsDisk seen moment left_since fault_count calls leads (found seen old) first old mid (Ok a)
        → TreatsDisk seen moment left_since fault_count calls leads after rest mid new result → TreatsDisk seen moment left_since fault_count calls leads after (first ++ rest) old new result
    treats_both leads_on a new result same one two = record {
      size = two.size ∙ one.size;
      any_moment =
          joined moment left_since old.disk mid.disk new.disk (LeavesEither (found seen old) after) (begun one.any_moment)
          (weaker moment left_since mid.disk new.disk (LeavesEither (found seen mid) after) (LeavesEither (found seen old) after) (λ c. ⊎_elim (λ e. inl (e ∙ same)) (λ e. inr e)) two.any_moment);
      asks = asks_both fault_count calls leads first rest old.disk mid.disk leads_on a new.disk result one.asks two.asks;
    }

  -- ---- One call

  module _ {A : Type 0} (may_leave : D → List ℕ → Type 0) (call : Call) (old : Meta D) where
    module _ (run : LeavesOnly moment left_since old.disk old.disk (LeavesFound (found seen old))) where
      untouched : (error : MetaError) → (IsErrOf {T = A} (Err error) Failed → ⊥)
          → TreatsDisk seen moment left_since fault_count calls leads {A = A} (coming seen call old) (calls_of seen call old) old old (Err error)
      untouched error other = record {
        size = refl;
        any_moment = stays moment left_since old.disk old.disk (found seen old) (coming seen call old) run;
        asks = asks_none fault_count calls leads error other (calls_of seen call old) old.disk old.disk;
      }

      pub is_full : HasNoRoom seen call old → Promise seen moment left_since fault_count calls leads {A = A} may_leave call old old (Err Full)
      is_full none = record {
        made = tt;
        head = tt;
        room = tt;
        full = λ told. none;
        no_memory = λ told. cc;
        not_failed = λ told. cc;
        refused = inr refl;
        treats = untouched Full (λ told. cc);
      }

      pub wants_memory : TakesMemory call → Promise seen moment left_since fault_count calls leads {A = A} may_leave call old old (Err NoMemory)
      wants_memory takes = record {
        made = tt;
        head = tt;
        room = tt;
        full = λ told. cc;
        no_memory = λ told. takes;
        not_failed = λ told. cc;
        refused = inr refl;
        treats = untouched NoMemory (λ told. cc);
      }

    -- it was made
    pub is_made : (a : A) (new : Meta D) → (HasNoRoom seen call old → ⊥) → IsMade seen may_leave call old new → head_of new ≡ head_behind call old
        → TreatsDisk seen moment left_since fault_count calls leads (coming seen call old) (calls_of seen call old) old new (Ok a)
        → Promise seen moment left_since fault_count calls leads may_leave call old new (Ok a)
    is_made a new room made head treats = record {
      made = made;
      head = head;
      room = room;
      full = λ told. cc;
      no_memory = λ told. cc;
      not_failed = λ told. cc;
      refused = tt;
      treats = treats;
    }

    -- the disk failed in it
    pub has_failed : (HasNoRoom seen call old → ⊥) → (new : Meta D)
        → TreatsDisk seen moment left_since fault_count calls leads {A = A} (coming seen call old) (calls_of seen call old) old new (Err Failed)
        → Promise seen moment left_since fault_count calls leads {A = A} may_leave call old new (Err Failed)
    has_failed room new treats = record {
      made = tt;
      head = tt;
      room = tt;
      full = λ told. cc;
      no_memory = λ told. cc;
      not_failed = λ told. room;
      refused = inl refl;
      treats = treats;
    }

    -- a call that always has room and takes no memory is refused for a failed disk alone
    pub only_failed : (HasNoRoom seen call old → ⊥) → (TakesMemory call → ⊥) → (new : Meta D) (result : Result A MetaError) (Q : Type 0)
        → Promise seen moment left_since fault_count calls leads may_leave call old new result → OnErr result (IsErrOf result Failed ⊎ Q)
    only_failed room takes new (Ok a) Q p = tt
    only_failed room takes new (Err Failed) Q p = inl refl
    only_failed room takes new (Err NoMemory) Q p = absurd (takes (p.no_memory refl))
    only_failed room takes new (Err Full) Q p = absurd (room (p.full refl))
