-- What a decision that is done leaves of a store, and the images of it.
use Rattle.std.proofs.Common.{◌≡◌, ℕ, ◌+◌, ◌||◌, Bool, true, false, List, Option, Some, None, Result, Ok, Err, inl, inr, refl, sym, ap, subst, ◌∙◌}
use Rattle.std.specs.Prelude.{OnErr}
use Rattle.fc_base.specs.declared.decision.Decision.{Decision}
use Rattle.fc_base.specs.declared.ids.VolId.{VolId}
use Rattle.fc_base.specs.declared.size.GrainSize.{GrainSize}
use Rattle.fc_desk.specs.Control.{ControlState}
use Rattle.fc_format.specs.Halves.{Found, Image, recovered}
use Rattle.fc_image.specs.declared.image.MetaImage.{MetaImage}
use Rattle.fc_imaging.specs.Imaging.{kept_by_parts, kept_of, lost_grains}
use Rattle.fc_imaging.specs.Without.{leaving_out}
use Rattle.fc_imaging.proofs.Standing.{parts_are}
use Rattle.fc_kept.specs.Images.{meta_of}
use Rattle.fc_lane.specs.Lane.{LaneView}
use Rattle.fc_legal.specs.Lawful.{IsLawful}
use Rattle.fc_legal.specs.Steps.{left_by}
use Rattle.fc_legal.specs.Whole.{Whole}
use Rattle.fc_meta.proofs.Moments.{started, weaker}
use Rattle.fc_meta.specs.Answers.{LeavesEither}
use Rattle.fc_meta.specs.States.{IsResting, disk_of, found}
use Rattle.fc_meta.specs.declared.meta.Meta.{Meta}
use Rattle.fc_metadisk.specs.Disk.{LeavesOnly}
use Rattle.fc_stands.specs.Phase.{IsDone, IsReserved, StandsAt}
use Rattle.fc_stands.specs.Store.{StandsFor, StoreView}
use Rattle.fc_stands.proofs.PhaseAll.{lanes_through}
use Rattle.law_noted.specs.Records.{removed_by}
use Rattle.fc_noted.specs.Making.{HasActed, HasStayed, LeavesAnew, IsImageAfter, IsImageAfter.about, IsImageAfter.acted, IsImageOf, IsImageWithout}
use Rattle.fc_noted.specs.declared.noted.Noted.{Noted}

pub stayed : (old new : StoreView) → IsReserved old new → HasStayed old new
stayed old new r = record { grain = r.grain; lanes = r.lanes; stands = r.stands }

pub acted_on : (old mid now new : StoreView) (d : Decision) → IsReserved old mid → now ≡ mid → IsDone d now new → HasActed d old new
acted_on old mid now new d r same was =
    let done : IsDone d mid new = subst (λ (s : StoreView). IsDone d s new) same was in
    record {
      grain = done.grain ∙ r.grain;
      lanes = lanes_through r done;
      stands = λ decisions w at lawful.
          subst (λ (g : GrainSize). StandsAt (decisions + 1) new (left_by g w d)) r.grain
          (done.stands decisions w (r.stands decisions w at) (subst (λ (g : GrainSize). IsLawful g decisions w d) (sym r.grain) lawful));
    }

-- by the parts of the store
pub image_is : (s : StoreView) (control : ControlState) (lanes : List LaneView) (image : MetaImage) → control ≡ s.control → lanes ≡ s.lanes →
    (let parts : StoreView = record { control = control; lanes = lanes } in (w : Whole) → StandsFor parts w → image ≡ meta_of (kept_of w (lost_grains lanes w.books.tables.volumes))) → IsImageOf s image
image_is s control lanes image c l is =
    subst (λ (p : StoreView). IsImageOf p image) (let parts : StoreView = record { control = control; lanes = lanes } in let same : parts ≡ s = (λ i. record { control = c i; lanes = l i }) in same) is

pub image_without_is : (s : StoreView) (control : ControlState) (lanes : List LaneView) (gone : VolId) (image : MetaImage) → control ≡ s.control → lanes ≡ s.lanes → image ≡ leaving_out gone (meta_of (kept_by_parts control lanes)) →
    IsImageWithout gone s image
image_without_is s control lanes gone image c l is w st =
    is ∙ ((λ i. leaving_out gone (meta_of (kept_by_parts (c i) (l i)))) ∙ ap (λ k. leaving_out gone (meta_of k)) (parts_are s w st))

-- ---- the image that metadata becomes

pub about_image : (old now : StoreView) (d : Decision) (gone : VolId) (control : ControlState) (lanes : List LaneView) (image : MetaImage) → IsReserved old now → removed_by d.events ≡ Some gone →
    control ≡ now.control → lanes ≡ now.lanes → image ≡ leaving_out gone (meta_of (kept_by_parts control lanes)) → IsImageAfter old d image
about_image old now d gone control lanes image r e c l is = about now gone (stayed old now r) e (image_without_is now control lanes gone image c l is)

pub acted_image : (old mid new : StoreView) (d : Decision) (control : ControlState) (lanes : List LaneView) (image : MetaImage) → IsReserved old mid → IsDone d mid new → removed_by d.events ≡ None →
    control ≡ new.control → lanes ≡ new.lanes →
    (let parts : StoreView = record { control = control; lanes = lanes } in (w : Whole) → StandsFor parts w → image ≡ meta_of (kept_of w (lost_grains lanes w.books.tables.volumes))) → IsImageAfter old d image
acted_image old mid new d control lanes image r was e c l is = acted new (acted_on old mid mid new d r refl was) e (image_is new control lanes image c l is)

-- a volume that isn't found
pub none_gone : (o : Option VolId) → ((id : VolId) → o ≡ Some id → ⊥) → o ≡ None
none_gone None never = refl
none_gone (Some id) never = absurd (never id refl)

pub always_true : (a b : Bool) → b ≡ true → (a || b) ≡ true
always_true true b e = refl
always_true false b e = e

pub first_true : (a b : Bool) → a ≡ true → (a || b) ≡ true
first_true true b e = refl
first_true false b e = absurd cc

pub on_error : {A E : Type 0} (r : Result A E) (P : Type 0) → P → OnErr r P
on_error (Ok a) P p = tt
on_error (Err e) P p = p

-- ---- at any moment

module _ {D : Type 0} (seen : D → List ℕ) (may_leave : D → List ℕ → Type 0) (moment : D → ℕ) (left_since : D → ℕ → List ℕ → Type 0) where
  -- where the disk of metadata is left alone
  pub still_there : (only_now : (disk : D) (c : List ℕ) → left_since disk (moment disk) c → may_leave disk c) (meta : Meta D) (P : List ℕ → Type 0) → IsResting seen may_leave meta →
      ((c : List ℕ) → recovered c ≡ found seen meta → P c) → LeavesOnly moment left_since meta.disk meta.disk P
  still_there only_now meta P rests holds = started moment left_since meta.disk P (λ c left. holds c (ap recovered (rests.durable c (only_now meta.disk c left))))

  -- and where it is made anew
  pub by_image : (old new : D) (before : Found) (image : MetaImage) (P : List ℕ → Type 0) → ((c : List ℕ) → recovered c ≡ before → P c) → ((c : List ℕ) → recovered c ≡ Image image → P c) →
      LeavesOnly moment left_since old new (LeavesEither before (Image image)) → LeavesOnly moment left_since old new P
  by_image old new before image P was is x =
      weaker moment left_since old new (LeavesEither before (Image image)) P (λ c either. elim either [
        | inl e ↦ was c e
        | inr e ↦ is c e
      ]) x

  module _ {C : Type 0} (old : Noted C D) (d : Decision) where
    -- by a decision
    pub anew_still : (only_now : (disk : D) (c : List ℕ) → left_since disk (moment disk) c → may_leave disk c) → IsResting seen may_leave old.meta →
        LeavesOnly moment left_since (disk_of old.meta) (disk_of old.meta) (LeavesAnew seen may_leave d old)
    anew_still only_now rests = still_there only_now old.meta (LeavesAnew seen may_leave d old) rests (λ x e. inl e)

    pub anew_by_image : (new : D) (image : MetaImage) → IsImageAfter old.store d image → LeavesOnly moment left_since (disk_of old.meta) new (LeavesEither (found seen old.meta) (Image image)) →
        LeavesOnly moment left_since (disk_of old.meta) new (LeavesAnew seen may_leave d old)
    anew_by_image new image after x = by_image (disk_of old.meta) new (found seen old.meta) image (LeavesAnew seen may_leave d old) (λ x e. inl e) (λ x e. inr (image, e, after)) x
