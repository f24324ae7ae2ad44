-- None goes of the volumes by a command whose events take none away.
use Rattle.std.proofs.Common.{◌≡◌, ℕ, ◌+◌, ◌*◌, ◌<◌, ◌≤◌, Bool, true, false, cond, Option, Some, None, List, [], ◌∷◌, ◌++◌, Contains, refl, sym, ap, subst, ◌∙◌, arith}
use Rattle.std.specs.List.{filter, fold}
use Rattle.std.proofs.lemmas.Bool.{le-ltb}
use Rattle.std.proofs.lemmas.List.{append-nil}
use Rattle.std.proofs.lemmas.List.Elements.{filter-append}
use Rattle.fc_base.specs.Tables.{Tables, volume_named}
use Rattle.fc_base.specs.declared.command.Command.TheVariants.{Mkvdisk, Rmvdisk}
use Rattle.fc_base.specs.declared.command.Command.{Command}
use Rattle.fc_base.specs.declared.command.Unit.{Unit as SizeUnit}
use Rattle.fc_base.specs.declared.decision.Decision.{Decision}
use Rattle.fc_base.specs.declared.decision.LaneEvent.{LaneEvent}
use Rattle.fc_base.specs.declared.fault.Refusal.{Refusal}
use Rattle.fc_base.specs.declared.ids.VolId.{VolId}
use Rattle.fc_base.specs.declared.name.Ref.{Ref}
use Rattle.fc_base.specs.declared.size.GrainSize.{GrainSize}
use Rattle.fc_base.specs.declared.volume.Change.{Change}
use Rattle.fc_base.specs.declared.volume.Volume.{Volume}
use Rattle.fc_books.specs.After.{after_deed, after_table_change}
use Rattle.fc_books.specs.Books.{Books}
use Rattle.fc_books.specs.Deciding.{after_decision, answered, decide, for_one, refused, settle}
use Rattle.fc_books.specs.Making.{new_volume, remove_volume}
use Rattle.fc_books.specs.Sound.{AreSound}
use Rattle.fc_books.specs.Work.{work_events}
use Rattle.fc_follow.specs.Following.{restarts}
use Rattle.fc_legal.specs.Steps.{after_settling, decided_on, left_by}
use Rattle.fc_legal.specs.Whole.{Whole}
use Rattle.law_crash.proofs.Coming.{next_later, settle_new}
use Rattle.law_crash.proofs.Lost.{all_in_is}
use Rattle.law_volumes.proofs.Changes.{events_keep}
use Rattle.law_volumes.proofs.Deeds.{decide_keeps}
use Rattle.law_volumes.proofs.Steps.{settling_keeps}
use Rattle.law_noted.specs.Records.{removed_by}
use Rattle.law_commanded.specs.Lanes.{NoneWent, was_given}
use Rattle.law_commanded.specs.Law.{gone_by, left_behind}
use Rattle.law_commanded.proofs.Now.{all_given}

module _ (sets restarts : ℕ → List Bool) (grain : GrainSize) (w : Whole) (b : Books) (later : w.books.next_volume ≤ b.next_volume) (given : filter (was_given w) b.tables.volumes ≡ b.tables.volumes) where
  abbrev Stays : Decision → Type 0
  Stays d = filter (was_given w) (after_decision sets b d).tables.volumes ≡ b.tables.volumes

  by_changes : (d : Decision) → (after_decision sets b d).tables.volumes ≡ (fold after_table_change b d.changes).tables.volumes
  by_changes d = ap (λ (t : Tables). t.volumes) (events_keep sets (fold after_table_change b d.changes) d.events)

  nothing_changed : (d : Decision) → d.changes ≡ [] → Stays d
  nothing_changed d none =
      ap (filter (was_given w)) (by_changes d ∙ ap (λ (cs : List Change). (fold after_table_change b cs).tables.volumes) none) ∙ given

  made_stays : (name : Option (List ℕ)) (size : ℕ) (unit : Option SizeUnit) (thin : Bool) (refusal : Option Refusal) (loop : Option (List VolId)) → Stays (answered restarts grain b (Mkvdisk name size unit thin) refusal loop)
  made_stays name size unit thin (Some refusal) loop = nothing_changed (answered restarts grain b (Mkvdisk name size unit thin) (Some refusal) loop) refl
  made_stays name size unit thin None (Some loop) = nothing_changed (answered restarts grain b (Mkvdisk name size unit thin) None (Some loop)) refl
  made_stays name size unit thin None None =
      let new : Volume = new_volume grain b name size unit thin in
      let none : filter (was_given w) (new ∷ []) ≡ [] = ap (λ (c : Bool). cond c (new ∷ []) []) (le-ltb b.next_volume w.books.next_volume later) in
      ap (filter (was_given w)) (by_changes (answered restarts grain b (Mkvdisk name size unit thin) None None))
      ∙ (filter-append (was_given w) b.tables.volumes (new ∷ []) ∙ (ap (λ (vs : List Volume). filter (was_given w) b.tables.volumes ++ vs) none ∙ (append-nil (filter (was_given w) b.tables.volumes) ∙ given)))

  by_found : (found : Option Volume) (d : Decision) → d.changes ≡ (for_one found remove_volume).changes → removed_by (for_one found remove_volume).events ≡ None → Stays d
  by_found None d changes none = nothing_changed d changes
  by_found (Some v) d changes none = absurd (let q : Some v.id ≡ None = none in cc)

  none_first : (found : Option Volume) (more : List LaneEvent) → removed_by ((for_one found remove_volume).events ++ more) ≡ None → removed_by (for_one found remove_volume).events ≡ None
  none_first None more e = refl
  none_first (Some v) more e = e

  removed_stays : (volume : Ref) (refusal : Option Refusal) (loop : Option (List VolId)) → removed_by (answered restarts grain b (Rmvdisk volume) refusal loop).events ≡ None → Stays (answered restarts grain b (Rmvdisk volume) refusal loop)
  removed_stays volume (Some refusal) loop e = nothing_changed (answered restarts grain b (Rmvdisk volume) (Some refusal) loop) refl
  removed_stays volume None (Some loop) e = nothing_changed (answered restarts grain b (Rmvdisk volume) None (Some loop)) refl
  removed_stays volume None None e =
      let found : Option Volume = volume_named b.tables volume in
      by_found found (answered restarts grain b (Rmvdisk volume) None None) refl (none_first found (work_events (after_deed restarts b (for_one found remove_volume))) e)

  pub decided_stays : (command : Command) (loop : Option (List VolId)) → removed_by (decide restarts grain b command loop).events ≡ None → Stays (decide restarts grain b command loop)
  decided_stays (Mkvdisk name size unit thin) loop e = made_stays name size unit thin (refused grain b (Mkvdisk name size unit thin)) loop
  decided_stays (Rmvdisk volume) loop e = removed_stays volume (refused grain b (Rmvdisk volume)) loop e
  decided_stays command loop e = ap (filter (was_given w)) (decide_keeps restarts grain b command loop refl sets) ∙ given

pub none_goes : (grain : GrainSize) (w : Whole) (command : Command) (loop : Option (List VolId)) → AreSound w.books → gone_by grain w command loop ≡ None → NoneWent w (left_behind grain w command loop)
none_goes grain w command loop sound e =
    let settled : Whole = after_settling grain w in
    let sets : ℕ → List Bool = restarts settled.rows in
    let same : settled.books.tables.volumes ≡ w.books.tables.volumes = settling_keeps grain w in
    let later : w.books.next_volume ≤ settled.books.next_volume = next_later (restarts w.rows) w.books (settle w.books).events (settle w.books).changes (settle_new w.books).1 in
    let all : filter (was_given w) w.books.tables.volumes ≡ w.books.tables.volumes =
    all_given w w.books.tables.volumes (all_in_is (λ (v : Volume). v.id.0 < w.books.next_volume) w.books.tables.volumes sound.tables.new_volume) in
    decided_stays sets sets grain w settled.books later (ap (filter (was_given w)) same ∙ (all ∙ sym same)) command loop e ∙ same
