-- What a stop leaves while a command is done: with metadata as it stood, or made anew.
use Rattle.std.proofs.Common.{◌≡◌, ℕ, ◌<◌, ◌≤◌, Option, List, sym, ap, subst, ◌∙◌, inl, inr, arith}
use Rattle.fc_base.specs.declared.command.Command.{Command}
use Rattle.fc_base.specs.declared.decision.Decision.{Decision}
use Rattle.fc_base.specs.declared.ids.VolId.{VolId}
use Rattle.fc_base.specs.declared.request.Request.TheVariants.{Command as Asked}
use Rattle.fc_changed.specs.Row.{Row}
use Rattle.fc_entry.specs.HistoryState.{HistoryState}
use Rattle.fc_entry.specs.declared.entry.Entry.{Entry}
use Rattle.fc_format.specs.Halves.{recovered}
use Rattle.fc_held.specs.Held.{HaveVolumes}
use Rattle.fc_image.specs.declared.image.MetaImage.{MetaImage}
use Rattle.fc_lane.specs.Lane.{LaneView}
use Rattle.fc_legal.specs.Agenda.{Asks}
use Rattle.fc_legal.specs.Whole.{Whole}
use Rattle.fc_meta.proofs.Moments.{weaker}
use Rattle.fc_meta.specs.declared.meta.Meta.{Meta}
use Rattle.fc_metadisk.specs.Disk.{LeavesOnly}
use Rattle.fc_script.specs.Script.{agenda_of}
use Rattle.fc_stands.specs.Store.{StoreView}
use Rattle.law_commanded.specs.Law.{AreLanesIn, CommandedLaw, HasCome, IsCommanded}
use Rattle.fc_noted.proofs.Commanding.{BecomesAnew}
use Rattle.fc_noted.proofs.Counting.{counted_in}
use Rattle.fc_noted.proofs.Moments.{still_leaves}
use Rattle.fc_noted.proofs.Planned.{in_old}
use Rattle.fc_noted.proofs.Standing.{anew_recovered, before_recovered, has_come}
use Rattle.fc_noted.specs.Making.{IsImageAfter, LeavesAnew}
use Rattle.fc_noted.specs.Noted.{IsNotedAt}
use Rattle.fc_noted.specs.Stopping.{AreCounted, HasStopped, HoldStill, LeavesRecoverable, MayBeRecovered, MayHold}
use Rattle.fc_noted.specs.declared.noted.Noted.{Noted}

module _ {C D : Type 0} (seen : D → List ℕ) (may_leave : D → List ℕ → Type 0) (law : CommandedLaw) (old : Noted C D) (command : Command) (history : HistoryState) (w : Whole) (least : List Row)
    (at : IsNotedAt seen may_leave old history w least) (few : w.entries < 262144) (asks : Asks old.store.control.grain (agenda_of old.store.control.grain old.script) w (0, Asked command)) where
  abbrev In : List LaneView → Type 0
  In ls = AreLanesIn old.store.control.grain w least command old.store.lanes ls

  come : HasCome old.store.control.grain history.entries w least old.store.lanes at.point
  come = has_come seen may_leave old history w least at

  in_any : (new : StoreView) → (HoldStill old.store.lanes new.lanes → In new.lanes) → (ls : List LaneView) → MayHold old.store new ls → In ls
  in_any new inside ls (inl e) = subst In (sym e) (in_old law old.store.control.grain history.entries w least command old.store.lanes at.point come few)
  in_any new inside ls (inr e) = subst In (sym e.0) (inside e.1)

  counted : (ls : List LaneView) → In ls → AreCounted w ls
  counted ls inside = counted_in old.store.control.grain old.store w least command old.store.lanes ls at.told.0 (omega (arith, few)) inside

  -- metadata says what it said
  said : (ls : List LaneView) → In ls → MayBeRecovered old.store.control.grain old.script old.named ls w least at.keeps.image
  said ls inside =
      before_recovered law old.store.control.grain old.script history.entries w least command old.store.lanes ls at.point old.named at.keeps.image come few at.keeps.named asks inside at.keeps.sound at.keeps.kept

  pub stayed_stops : (new : Noted C D) → new.meta ≡ old.meta → new.named ≡ old.named → HaveVolumes new.disks new.store → AreLanesIn old.store.control.grain w least command old.store.lanes new.store.lanes →
      HasStopped may_leave old new w least
  stayed_stops new meta named volumes inside =
      record {
        volumes = volumes;
        counted = counted new.store.lanes inside;
        leaves = λ c left. (
          at.keeps.image,
          ap recovered (at.keeps.rests.durable c (subst (λ (m : Meta D). may_leave m.disk c) meta left)) ∙ at.keeps.says,
          subst (λ (n : ℕ). MayBeRecovered old.store.control.grain old.script n new.store.lanes w least at.keeps.image) (sym named) (said new.store.lanes inside),
        );
      }

  module _ (moment : D → ℕ) (left_since : D → ℕ → List ℕ → Type 0) (only_now : (disk : D) (c : List ℕ) → left_since disk (moment disk) c → may_leave disk c) where
    pub stayed_leaves : (new : Noted C D) → new.meta ≡ old.meta → AreLanesIn old.store.control.grain w least command old.store.lanes new.store.lanes →
        LeavesOnly moment left_since old.meta.disk new.meta.disk (LeavesRecoverable old new w least)
    stayed_leaves new meta inside =
        still_leaves seen may_leave moment left_since only_now old new w least at.keeps.image (ap (λ (m : Meta D). m.disk) meta) at.keeps.says at.keeps.rests.durable
        (λ ls may. said ls (in_any new.store (λ still. inside) ls may))

  -- or it was being made anew
  module _ (s : StoreView) (decision : Decision) (loop : Option (List VolId)) (entry : Entry) (c : IsCommanded old.store.control.grain w command loop entry)
      (becoming : (image : MetaImage) → IsImageAfter s decision image → BecomesAnew old.store.control.grain w least command loop image)
      (moment : D → ℕ) (left_since : D → ℕ → List ℕ → Type 0) (new : Noted C D)
      (run : let mid : Noted C D = record old { store = s } in LeavesOnly moment left_since old.meta.disk new.meta.disk (LeavesAnew seen may_leave decision mid)) where
    anew : (ls : List LaneView) → In ls → (image : MetaImage) → IsImageAfter s decision image → MayBeRecovered old.store.control.grain old.script old.named ls w least image
    anew ls inside image x =
        anew_recovered law old.store.control.grain old.script history.entries w least command old.store.lanes ls at.point old.named image come few at.keeps.named asks inside loop entry c (becoming image x)

    pub anew_leaves : (HoldStill old.store.lanes new.store.lanes → AreLanesIn old.store.control.grain w least command old.store.lanes new.store.lanes) →
        LeavesOnly moment left_since old.meta.disk new.meta.disk (LeavesRecoverable old new w least)
    anew_leaves inside =
        let mid : Noted C D = record old { store = s } in
        weaker moment left_since old.meta.disk new.meta.disk (LeavesAnew seen may_leave decision mid) (LeavesRecoverable old new w least)
        (λ c either. elim either [
          | inl e ↦ (at.keeps.image, e ∙ at.keeps.says, λ ls may. said ls (in_any new.store inside ls may))
          | inr x ↦ (x.0, x.1, λ ls may. anew ls (in_any new.store inside ls may) x.0 x.2)
        ])
        run

    pub anew_stops : (counts_now : (disk : D) (t : ℕ) (c : List ℕ) → t ≤ moment disk → may_leave disk c → left_since disk t c) → new.named ≡ old.named → HaveVolumes new.disks new.store →
        AreLanesIn old.store.control.grain w least command old.store.lanes new.store.lanes → HasStopped may_leave old new w least
    anew_stops counts_now named volumes inside =
        let By : ℕ → MetaImage → Type 0 = λ n image. MayBeRecovered old.store.control.grain old.script n new.store.lanes w least image in
        record {
          volumes = volumes;
          counted = counted new.store.lanes inside;
          leaves = λ c left. elim (run.each c (counts_now new.meta.disk (moment old.meta.disk) c run.later left)) [
            | inl e ↦ (at.keeps.image, e ∙ at.keeps.says, subst (λ (n : ℕ). By n at.keeps.image) (sym named) (said new.store.lanes inside))
            | inr x ↦ (x.0, x.1, subst (λ (n : ℕ). By n x.0) (sym named) (anew new.store.lanes inside x.0 x.2))
          ];
        }
