-- What an actor is to ask doesn't go by the entries that came since: a block's volumes, lanes and grain size stay.
use Rattle.std.proofs.Common.{◌≡◌, ℕ, ◌%◌, List, Option, None, find, Contains, sym, ◌∙◌, ap, subst}
use Rattle.fc_base.specs.Tables.{refers_to}
use Rattle.fc_base.specs.declared.command.Command.TheVariants as command
use Rattle.fc_base.specs.declared.fault.Kind.TheVariants.{Vdisk}
use Rattle.fc_base.specs.declared.fault.Refusal.{Refusal}
use Rattle.fc_base.specs.declared.ids.VolId.{VolId}
use Rattle.fc_base.specs.declared.name.Ref.{Ref}
use Rattle.fc_base.specs.declared.request.Request.{Request}
use Rattle.fc_base.specs.declared.request.Request.TheVariants.{Command as Asked, Unread, Read, Write, CopyTurn, CleanTurn}
use Rattle.fc_base.specs.declared.size.GrainSize.{GrainSize}
use Rattle.fc_base.specs.declared.volume.Volume.{Volume}
use Rattle.fc_books.specs.Refused.{access_refused, of_one, preset_refused}
use Rattle.fc_entry.specs.Picture.{grain_of_block}
use Rattle.fc_entry.specs.Refused.{blocks_refusal}
use Rattle.fc_lane.specs.Lane.{LaneView, of}
use Rattle.fc_legal.specs.Steps.{IsInside}
use Rattle.fc_legal.specs.Whole.{lane_of_grain, lane_at, part_at}
use Rattle.fc_parts.specs.Law.{IsAt, IsInVolume, IsOfLane}
use Rattle.fc_parts.proofs.Lawful.{part_law_holds}
use Rattle.fc_rules.specs.LaneFits.{FitsPart}
use Rattle.fc_rules.specs.LaneTold.{LaneOf}
use Rattle.fc_stands.specs.Apart.{IsRefusalOf}
use Rattle.fc_shares.specs.Situation.{Situation, HasLane, IsSound}
use Rattle.fc_shares.proofs.Lanes.{place}

module _ (first s : Situation) (sound : IsSound first s) where
  -- ---- its lane

  lane_stays : (number : ℕ) → lane_of_grain s.whole number ≡ lane_of_grain first.whole number
  lane_stays number = ap (λ n. number % n) sound.lanes_are

  at_stays : (i : ℕ) (request : Request) → (number : ℕ) × IsAt first.grain number request × (lane_of_grain first.whole number ≡ i) →
      (number : ℕ) × IsAt s.grain number request × (lane_of_grain s.whole number ≡ i)
  at_stays i request asked =
      let P : GrainSize → Type 0 = λ grain. IsAt grain asked.0 request in
      (asked.0, subst P (sym sound.grain) asked.1, lane_stays asked.0 ∙ asked.2)

  pub of_lane : (i : ℕ) (request : Request) → IsOfLane first.grain first.whole i request → IsOfLane s.grain s.whole i request
  of_lane i (CopyTurn lane) asked = asked
  of_lane i (CleanTurn lane) asked = asked
  of_lane i request asked = at_stays i request asked

  -- ---- its volume

  inside_stays : (volume : VolId) (block count : ℕ) → IsInside first.grain first.whole.books.tables volume block count → IsInside s.grain s.whole.books.tables volume block count
  inside_stays volume block count inside =
      let P : GrainSize → Type 0 = λ grain. IsInside grain s.whole.books.tables volume block count in
      let Q : List Volume → Type 0 = λ volumes. Contains volumes inside.of in
      subst P (sym sound.grain)
      record {
        of = inside.of;
        there = subst Q (sym sound.volumes) inside.there;
        id_is = inside.id_is;
        some = inside.some;
        in_one = inside.in_one;
        inside = inside.inside;
      }

  pub in_volume : (request : Request) → IsInVolume first.grain first.whole request → IsInVolume s.grain s.whole request
  in_volume (Read part) inside = inside_stays part.volume part.block part.count inside
  in_volume (Write part) inside = inside_stays part.volume part.block part.count inside
  in_volume request inside = inside

  pub fits : (i : ℕ) (opening v : LaneView) (volume : VolId) (block count : ℕ) → HasLane s i opening v →
      IsInside first.grain first.whole.books.tables volume block count → lane_of_grain first.whole (grain_of_block first.grain block) ≡ i →
      FitsPart (of v) (part_at s.grain s.whole i) volume block count
  fits i opening v volume block count share inside is =
      let P : LaneOf → Type 0 = λ l. FitsPart l (part_at s.grain s.whole i) volume block count in
      let Q : ℕ → Type 0 = λ n. FitsPart (lane_at s.grain s.whole n) (part_at s.grain s.whole n) volume block count in
      let lane_is : lane_of_grain s.whole (grain_of_block s.grain block) ≡ i =
      ap (λ grain. lane_of_grain s.whole (grain_of_block grain block)) sound.grain ∙ lane_stays (grain_of_block first.grain block) ∙ is in
      subst P (sym (place s i opening v share))
      (subst Q lane_is (part_law_holds.fits s.grain sound.decisions s.whole volume block count sound.stands (inside_stays volume block count inside)))

  -- ---- its refusal

  -- an access is refused by its volume, as the table has it, and by the grain size
  access_stays : (volume : Ref) (block count : ℕ) →
      access_refused s.grain s.whole.books volume block count ≡ access_refused first.grain first.whole.books volume block count
  access_stays volume block count =
      let refusal : GrainSize → List Volume → Option Refusal = λ grain volumes.
      of_one Vdisk (find (λ (v : Volume). refers_to volume v.id.0 v.name) volumes) (λ (v : Volume). blocks_refusal grain v block count) in
      ap (refusal s.grain) sound.volumes ∙ ap (λ grain. refusal grain first.whole.books.tables.volumes) sound.grain

  -- and a preset by the volume of its source
  preset_stays : (source : Ref) → preset_refused s.whole.books source ≡ preset_refused first.whole.books source
  preset_stays source =
      let refusal : List Volume → Option Refusal = λ volumes. of_one Vdisk (find (λ (v : Volume). refers_to source v.id.0 v.name) volumes) (λ (v : Volume). None) in
      ap refusal sound.volumes

  pub refused : (request : Request) (refusal : Refusal) → IsRefusalOf first.grain first.whole request refusal → IsRefusalOf s.grain s.whole request refusal
  refused (Asked (command.Read volume block count)) refusal is = access_stays volume block count ∙ is
  refused (Asked (command.Write volume block count byte)) refusal is = access_stays volume block count ∙ is
  refused (Asked (command.Mkpreset source preset name)) refusal is = preset_stays source ∙ is
  refused (Unread fault) refusal is = is
  refused request refusal is = absurd is
