-- What calls leave that come one after the other.
use Rattle.std.proofs.Common.{◌≡◌, ◌⊎◌, inl, inr, ⊎_elim, ℕ, ◌+◌, ◌<◌, ◌≤◌, List, [], ◌∷◌, ◌++◌, length, get_or, take, drop, refl, sym, ap, ◌∙◌, subst, append_assoc, arith}
use Rattle.std.specs.Prelude.{Err, IsErrOf}
use Rattle.std.specs.List.{sum_by}
use Rattle.std.proofs.lemmas.List.{append-nil, drop_more, take_more, take_all}
use Rattle.std.proofs.lemmas.List.Sums.{sum_by-append, sum_by-cons}
use Rattle.fc_image.specs.declared.record.MetaRecord.{MetaRecord}
use Rattle.fc_image.specs.declared.image.MetaImage.{MetaImage}
use Rattle.fc_metadisk.specs.Disk.{LeavesOnly}
use Rattle.fc_format.specs.Halves.{Found, Image, recovered}
use Rattle.fc_meta.specs.declared.series.Call.{Call}
use Rattle.fc_meta.specs.declared.series.Call.TheVariants.{Note, Sync, ClearOther, FillOther, Turn}
use Rattle.fc_meta.specs.declared.error.MetaError.{MetaError}
use Rattle.fc_meta.specs.declared.error.MetaError.TheVariants.{Failed, NoMemory, Full}
use Rattle.fc_meta.specs.declared.meta.Meta.{Meta}
use Rattle.fc_meta.specs.Answers.{found_with, LeavesEither, more_calls}
use Rattle.fc_meta.specs.States.{found, awaited, filled, IsResting, IsWaiting, IsCleared, IsFilled}
use Rattle.fc_meta.specs.Order.{IsReadyFor, IsMade, coming, HasNoRoom, disk_calls, Stage, AtRest, BatchNoted, OtherCleared, OtherFilled, behind, stage_behind, Comes, AreInOrder, IsAt, stands, LeavesFront, UnlessFailed}
use Rattle.fc_meta.specs.DiskCalls.{calls_of as disk_calls_of}
use Rattle.fc_meta.proofs.Asked.{calls_added}
use Rattle.fc_meta.proofs.Crash.{rests_found}
use Rattle.fc_meta.proofs.Moments.{started, joined, weaker}

-- what the last calls have begun and not ended
pub data Begun : Type 0 where
  Nothing : Begun
  Batch : List MetaRecord → Begun
  Fold : Begun
  WholeFold : MetaImage → Begun

abbrev pub calls_of : Begun → List Call
calls_of Nothing = []
calls_of (Batch records) = Note records ∷ []
calls_of Fold = ClearOther ∷ []
calls_of (WholeFold image) = ClearOther ∷ FillOther image ∷ []

abbrev pub stage_of : Begun → Stage
stage_of Nothing = AtRest
stage_of (Batch records) = BatchNoted
stage_of Fold = OtherCleared
stage_of (WholeFold image) = OtherFilled

-- what is only begun adds nothing
adds_nothing : (before : Found) (begun : Begun) → stands before (calls_of begun) ≡ before
unfolding stands
adds_nothing before Nothing = refl
adds_nothing before (Batch records) = refl
adds_nothing before Fold = refl
adds_nothing before (WholeFold image) = refl

module _ {D : Type 0} (seen : D → List ℕ) (may_leave : D → List ℕ → Type 0) where
  abbrev pub HasBegun : Begun → Meta D → Type 0
  HasBegun Nothing meta = IsResting seen may_leave meta
  HasBegun (Batch records) meta = IsWaiting seen may_leave meta × (awaited seen meta ≡ found_with (found seen meta) records)
  HasBegun Fold meta = IsCleared seen may_leave meta
  HasBegun (WholeFold image) meta = IsFilled seen may_leave meta × (filled seen meta ≡ Image image)

  pub at_stage : (begun : Begun) (meta : Meta D) → HasBegun begun meta → IsAt seen may_leave (stage_of begun) meta
  at_stage Nothing meta h = h
  at_stage (Batch records) meta h = h.0
  at_stage Fold meta h = h
  at_stage (WholeFold image) meta h = h.0

  -- a crash between two calls leaves what stands
  pub leaves_found : (begun : Begun) (meta : Meta D) → HasBegun begun meta → (c : List ℕ) → may_leave meta.disk c → recovered c ≡ found seen meta
  leaves_found Nothing meta w c may = ap recovered (w.durable c may)
  leaves_found (Batch records) meta h c may = h.0.each c may ∙ sym (rests_found _ _ _ _ _ (seen meta.disk) h.0.rests)
  leaves_found Fold meta w c may = ap recovered (w.durable c may)
  leaves_found (WholeFold image) meta h c may = ap recovered (h.0.durable c may)

  pub ready : (begun : Begun) (call : Call) (meta : Meta D) → HasBegun begun meta → Comes (stage_of begun) call → IsReadyFor seen may_leave call meta
  ready Nothing (Note records) meta h comes = h
  ready Nothing ClearOther meta h comes = h
  ready (Batch records) Sync meta h comes = h.0
  ready Fold (FillOther image) meta h comes = (h, comes)
  ready (WholeFold image) Turn meta h comes = h.0
  ready begun call meta h comes = absurd comes

  -- what a call makes stand
  pub coming_stands : (begun : Begun) (call : Call) (meta : Meta D) → HasBegun begun meta → Comes (stage_of begun) call
      → coming seen call meta ≡ stands (found seen meta) (calls_of begun ++ call ∷ [])
  unfolding stands
  coming_stands Nothing (Note records) meta h comes = refl
  coming_stands Nothing ClearOther meta h comes = refl
  coming_stands (Batch records) Sync meta h comes = h.1
  coming_stands Fold (FillOther image) meta h comes = refl
  coming_stands (WholeFold image) Turn meta h comes = h.1
  coming_stands begun call meta h comes = absurd comes

  -- behind one call more
  pub record Next (begun : Begun) (call : Call) (old new : Meta D) : Type 0 where
    pub next : Begun
    pub at : HasBegun next new
    pub stage : stage_of next ≡ behind call
    pub same : (more : List Call) → stands (found seen old) (calls_of begun ++ call ∷ more) ≡ stands (found seen new) (calls_of next ++ more)

  pub made : (begun : Begun) (call : Call) (old new : Meta D) → HasBegun begun old → Comes (stage_of begun) call → IsMade seen may_leave call old new → Next begun call old new
  unfolding stands
  made Nothing (Note records) old new h comes m = record {
    next = Batch records;
    at = (m.0, m.2 ∙ ap (λ (f : Found). found_with f records) (sym m.1));
    stage = refl;
    same = λ more. ap (λ (f : Found). stands f (Note records ∷ more)) (sym m.1);
  }
  made Nothing ClearOther old new h comes m = record {
    next = Fold;
    at = m.0;
    stage = refl;
    same = λ more. ap (λ (f : Found). stands f (ClearOther ∷ more)) (sym m.1);
  }
  made (Batch records) Sync old new h comes m = record {
    next = Nothing;
    at = m.0;
    stage = refl;
    same = λ more. ap (λ (f : Found). stands f more) (sym (m.1 ∙ h.1));
  }
  made Fold (FillOther image) old new h comes m = record {
    next = WholeFold image;
    at = (m.0, m.2);
    stage = refl;
    same = λ more. ap (λ (f : Found). stands f (ClearOther ∷ FillOther image ∷ more)) (sym m.1);
  }
  made (WholeFold image) Turn old new h comes m = record {
    next = Nothing;
    at = m.0;
    stage = refl;
    same = λ more. ap (λ (f : Found). stands f more) (sym (m.1 ∙ h.1));
  }
  made begun call old new h comes m = absurd comes

-- ---- The first so many calls

-- where calls lead
behind_more : (stage : Stage) (calls : List Call) (call : Call) → stage_behind stage (calls ++ call ∷ []) ≡ behind call
behind_more stage [] call = refl
behind_more stage (first ∷ calls) call = behind_more (behind first) calls call

-- some first ones of the calls are some first ones of more
front_more : (before : Found) (calls more : List Call) (c : List ℕ) → LeavesFront before calls c → LeavesFront before (calls ++ more) c
front_more before calls more c l = (l.0, l.1 ++ more, sym (append_assoc l.0 l.1 more) ∙ ap (λ (z : List Call). z ++ more) l.2, l.3)

all_of : (before : Found) (calls : List Call) (c : List ℕ) → recovered c ≡ stands before calls → LeavesFront before calls c
all_of before calls c e = (calls, [], append-nil calls, e)

module _ {D : Type 0} (seen : D → List ℕ) (may_leave : D → List ℕ → Type 0) (moment : D → ℕ) (left_since : D → ℕ → List ℕ → Type 0) where
  -- the first calls were made
  pub record Going (calls : List Call) (done : ℕ) (first now : Meta D) : Type 0 where
    pub begun : Begun
    pub at : HasBegun seen may_leave begun now
    pub order : AreInOrder (stage_of begun) (drop done calls)
    pub stage : stage_behind AtRest (take done calls) ≡ stage_of begun
    pub same : (more : List Call) → stands (found seen first) (take done calls ++ more) ≡ stands (found seen now) (calls_of begun ++ more)
    pub moments : LeavesOnly moment left_since first.disk now.disk (LeavesFront (found seen first) (take done calls))

  -- none yet
  pub going : (only_now : (disk : D) (c : List ℕ) → left_since disk (moment disk) c → may_leave disk c) (calls : List Call) (first : Meta D)
      → IsResting seen may_leave first → AreInOrder AtRest calls → Going calls 0 first first
  unfolding stands
  going only_now calls first w order = record {
    begun = Nothing;
    at = w;
    order = order;
    stage = refl;
    same = λ more. refl;
    moments = started moment left_since first.disk (LeavesFront (found seen first) [])
        (λ c left. all_of (found seen first) [] c (leaves_found seen may_leave Nothing first w c (only_now first.disk c left)));
  }

  module _ (calls : List Call) (done : ℕ) (first now : Meta D) (g : Going calls done first now) where
    -- what stands, by the calls so far
    pub stands_now : found seen now ≡ stands (found seen first) (take done calls)
    stands_now =
        sym (ap (stands (found seen first)) (sym (append-nil (take done calls))) ∙ (g.same []
        ∙ (ap (stands (found seen now)) (append-nil (calls_of g.begun)) ∙ adds_nothing (found seen now) g.begun)))

    pub is_at : IsAt seen may_leave (stage_behind AtRest (take done calls)) now
    is_at = subst (λ (p : Stage). IsAt seen may_leave p now) (sym g.stage) (at_stage seen may_leave g.begun now g.at)

    pub leaves_now : (c : List ℕ) → may_leave now.disk c → recovered c ≡ stands (found seen first) (take done calls)
    leaves_now c may = leaves_found seen may_leave g.begun now g.at c may ∙ stands_now

    module _ (call : Call) (is : call ≡ get_or calls done call) (there : done < length calls) where
      pub split : drop done calls ≡ call ∷ drop (done + 1) calls
      split = drop_more calls done call there ∙ ap (λ (z : Call). z ∷ drop (done + 1) calls) (sym is)

      longer : take (done + 1) calls ≡ take done calls ++ call ∷ []
      longer = take_more calls done call there ∙ ap (λ (z : Call). take done calls ++ z ∷ []) (sym is)

      order_here : Comes (stage_of g.begun) call × AreInOrder (behind call) (drop (done + 1) calls)
      order_here = subst (AreInOrder (stage_of g.begun)) split g.order

      pub is_ready : IsReadyFor seen may_leave call now
      is_ready = ready seen may_leave g.begun call now g.at order_here.0

      -- what stands with the call
      pub stands_coming : coming seen call now ≡ stands (found seen first) (take (done + 1) calls)
      stands_coming =
          coming_stands seen may_leave g.begun call now g.at order_here.0
          ∙ (sym (g.same (call ∷ [])) ∙ ap (stands (found seen first)) (sym longer))

      -- a crash in the call, whatever it answers
      either_front : (c : List ℕ) → LeavesEither (found seen now) (coming seen call now) c → LeavesFront (found seen first) (take (done + 1) calls) c
      either_front c l =
          ⊎_elim
          (λ e. subst (λ (z : List Call). LeavesFront (found seen first) z c) (sym longer)
          (front_more (found seen first) (take done calls) (call ∷ []) c (all_of (found seen first) (take done calls) c (e ∙ stands_now))))
          (λ e. all_of (found seen first) (take (done + 1) calls) c (e ∙ stands_coming)) l

      pub moments_more : (new : D) → LeavesOnly moment left_since now.disk new (LeavesEither (found seen now) (coming seen call now))
          → LeavesOnly moment left_since first.disk new (LeavesFront (found seen first) (take (done + 1) calls))
      moments_more new run =
          joined moment left_since first.disk now.disk new (LeavesFront (found seen first) (take (done + 1) calls))
          (weaker moment left_since first.disk now.disk (LeavesFront (found seen first) (take done calls)) (LeavesFront (found seen first) (take (done + 1) calls))
          (λ c l. subst (λ (z : List Call). LeavesFront (found seen first) z c) (sym longer) (front_more (found seen first) (take done calls) (call ∷ []) c l)) g.moments)
          (weaker moment left_since now.disk new (LeavesEither (found seen now) (coming seen call now)) (LeavesFront (found seen first) (take (done + 1) calls)) either_front run)

      pub leaves_either : (counts_now : (disk : D) (t : ℕ) (c : List ℕ) → t ≤ moment disk → may_leave disk c → left_since disk t c) (new : D)
          → LeavesOnly moment left_since now.disk new (LeavesEither (found seen now) (coming seen call now)) → (c : List ℕ) → may_leave new c
          → LeavesEither (stands (found seen first) (take done calls)) (stands (found seen first) (take (done + 1) calls)) c
      leaves_either counts_now new run c may =
          ⊎_elim (λ e. inl (e ∙ stands_now)) (λ e. inr (e ∙ stands_coming)) (run.each c (counts_now new (moment now.disk) c run.later may))

      pub going_on : (new : Meta D) → IsMade seen may_leave call now new → LeavesOnly moment left_since now.disk new.disk (LeavesEither (found seen now) (coming seen call now))
          → Going calls (done + 1) first new
      going_on new m run =
          let next = made seen may_leave g.begun call now new g.at order_here.0 m in
          record {
            begun = next.next;
            at = next.at;
            order = subst (λ (p : Stage). AreInOrder p (drop (done + 1) calls)) (sym next.stage) order_here.1;
            stage = ap (stage_behind AtRest) longer ∙ (behind_more AtRest (take done calls) call ∙ sym next.stage);
            same = λ more.
                ap (λ (z : List Call). stands (found seen first) (z ++ more)) longer ∙ (ap (stands (found seen first)) (append_assoc (take done calls) (call ∷ []) more)
                ∙ (g.same (call ∷ more) ∙ next.same more));
            moments = moments_more new.disk run;
          }

    -- all of them
    pub whole : (n : ℕ) → length calls ≤ done → length calls ≤ n → take done calls ≡ take n calls
    whole n all more = take_all done calls all ∙ sym (take_all n calls more)

-- ---- Calls of the disk

-- those that a call asks for
pub calls_counted : {D : Type 0} (seen : D → List ℕ) (call : Call) (meta : Meta D) → length (disk_calls_of seen call meta) ≡ disk_calls call
calls_counted seen (Note records) meta = refl
calls_counted seen Sync meta = refl
calls_counted seen ClearOther meta = refl
calls_counted seen (FillOther image) meta = refl
calls_counted seen Turn meta = refl

-- one call more
pub counted_on : (calls : List Call) (done : ℕ) (call : Call) (first before now : ℕ) → call ≡ get_or calls done call → done < length calls
    → before ≡ more_calls (sum_by disk_calls (take done calls)) first → now ≡ more_calls (disk_calls call) before
    → now ≡ more_calls (sum_by disk_calls (take (done + 1) calls)) first
counted_on calls done call first before now is there so_far more =
    more ∙ (ap (more_calls (disk_calls call)) so_far
    ∙ (calls_added (disk_calls call) (sum_by disk_calls (take done calls)) first
    ∙ ap (λ (k : ℕ). more_calls k first)
    (let turned : disk_calls call + sum_by disk_calls (take done calls) ≡ sum_by disk_calls (take done calls) + disk_calls call = omega arith in
    let last : sum_by disk_calls (call ∷ []) ≡ disk_calls call = sum_by-cons disk_calls call [] ∙ (let e : disk_calls call + 0 ≡ disk_calls call = omega arith in e) in
    turned ∙ (ap (λ (k : ℕ). sum_by disk_calls (take done calls) + k) (sym last) ∙ (sym (sum_by-append disk_calls (take done calls) (call ∷ []))
    ∙ ap (sum_by disk_calls) (sym (take_more calls done call there ∙ ap (λ (z : Call). take done calls ++ z ∷ []) (sym is))))))))

-- ---- Answers

-- what holds where a call has changed nothing
pub refused_holds : {A : Type 0} (P Q : Type 0) (error : MetaError) → IsErrOf {T = A} (Err error) Failed ⊎ Q → (Q → P) → UnlessFailed {A = A} (Err error) P
refused_holds P Q Failed refused same = tt
refused_holds P Q NoMemory (inl no_) same = cc
refused_holds P Q NoMemory (inr q) same = same q
refused_holds P Q Full (inl no_) same = cc
refused_holds P Q Full (inr q) same = same q

-- the call had no room, and nothing has changed
pub full_same : {A D : Type 0} (seen : D → List ℕ) (call : Call) (old new : Meta D) (error : MetaError) → IsErrOf {T = A} (Err error) Failed ⊎ (new ≡ old)
    → IsErrOf {T = A} (Err error) Full → HasNoRoom seen call old → HasNoRoom seen call new
full_same seen call old new error (inl failed) full none = cc
full_same seen call old new error (inr same) full none = subst (λ (m : Meta _). HasNoRoom seen call m) (sym same) none
