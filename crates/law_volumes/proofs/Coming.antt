-- Which volumes are there after an entry: those that were there before it, and one that a `mkvdisk` made.
use Rattle.std.proofs.Common.{◌≡◌, ℕ, Bool, not, ◌==◌, List, [], ◌∷◌, fold, Option, Some, None, Contains, ◌⊎◌, inl, inr, refl, ap, subst, ◌∙◌, arith}
use Rattle.std.specs.List.{filter}
use Rattle.std.proofs.lemmas.List.Elements.{All-filter, Contains-append_cases, Contains-get_or}
use Rattle.fc_base.specs.declared.command.Command.{Command}
use Rattle.fc_base.specs.declared.command.Command.TheVariants.{Mkvdisk, Rmvdisk}
use Rattle.fc_base.specs.declared.decision.Decision.{Decision}
use Rattle.fc_base.specs.declared.fault.Refusal.{Refusal}
use Rattle.fc_base.specs.declared.ids.VolId.{VolId}
use Rattle.fc_base.specs.declared.request.Effect.{Effect}
use Rattle.fc_base.specs.declared.request.Reply.{Reply}
use Rattle.fc_base.specs.declared.request.Request.{Request}
use Rattle.fc_base.specs.declared.request.Request.TheVariants.{Command as Asked}
use Rattle.fc_base.specs.declared.size.GrainSize.{GrainSize}
use Rattle.fc_base.specs.declared.volume.Change.{Change}
use Rattle.fc_base.specs.declared.volume.Change.TheVariants.{AddVolume}
use Rattle.fc_base.specs.declared.volume.Volume.{Volume}
use Rattle.fc_base.specs.Tables.{Tables, volume_named}
use Rattle.fc_books.specs.After.{after_table_change}
use Rattle.fc_books.specs.Books.{Books}
use Rattle.fc_books.specs.Deciding.{after_decision, answered, decide, done, for_one, refused, replied}
use Rattle.fc_books.specs.Making.{new_volume, remove_volume}
use Rattle.fc_entry.specs.declared.entry.Entry.{Entry}
use Rattle.fc_follow.specs.Following.{restarts}
use Rattle.fc_legal.specs.Steps.{CommandLeft, CommandStep, RequestStep, after_settling}
use Rattle.fc_legal.specs.Steps.CommandLeft.{decided, unsettled, settled_alone}
use Rattle.fc_legal.specs.Whole.{Whole}
use Rattle.law_volumes.specs.Law.{Makes}
use Rattle.law_volumes.proofs.Changes.{events_keep}
use Rattle.law_volumes.proofs.Steps.{request_keeps, settling_keeps, volumes}

-- The volume was there, or was made.
abbrev Comes : List Volume → Request → Reply → Volume → Type 0
Comes before request reply v = Contains before v ⊎ Makes request reply v.id.0

filter_from : (p : Volume → Bool) (vs : List Volume) (v : Volume) → Contains (filter p vs) v → Contains vs v
filter_from p vs v (k, below, is) =
    let P : Volume → Type 0 = λ x. Contains vs x in
    subst P is (All-filter p P vs (λ i d inside. Contains-get_or vs i d inside) k v below)

-- By what is decided of the two commands.
module _ (sets restarts : ℕ → List Bool) (grain : GrainSize) (b : Books) where
  abbrev After : Command → Option Refusal → Option (List VolId) → Volume → Type 0
  After command refusal loop v = Contains (after_decision sets b (answered restarts grain b command refusal loop)).tables.volumes v

  same_after : (d : Decision) (v : Volume) → d.changes ≡ [] → Contains (after_decision sets b d).tables.volumes v → Contains b.tables.volumes v
  same_after d v none there =
      let P : List Volume → Type 0 = λ vs. Contains vs v in
      subst P (ap (λ (t : Tables). t.volumes) (events_keep sets (fold after_table_change b d.changes) d.events) ∙ ap (λ (cs : List Change). (fold after_table_change b cs).tables.volumes) none) there

  removed_one : (found : Option Volume) (d : Decision) (v : Volume) → d.changes ≡ (for_one found remove_volume).changes → Contains (after_decision sets b d).tables.volumes v → Contains b.tables.volumes v
  removed_one None d v none there = same_after d v none there
  removed_one (Some x) d v is there =
      let P : List Volume → Type 0 = λ vs. Contains vs v in
      filter_from (λ (u : Volume). not (x.id.0 == u.id.0)) b.tables.volumes v
      (subst P (ap (λ (t : Tables). t.volumes) (events_keep sets (fold after_table_change b d.changes) d.events) ∙ ap (λ (cs : List Change). (fold after_table_change b cs).tables.volumes) is) there)

  make_comes : (made : Volume) (d : Decision) (v : Volume) → d.changes ≡ AddVolume made ∷ [] → Contains (after_decision sets b d).tables.volumes v → Contains b.tables.volumes v ⊎ (made ≡ v)
  make_comes made d v is there =
      let P : List Volume → Type 0 = λ vs. Contains vs v in
      by (Contains-append_cases b.tables.volumes (made ∷ []) v
      (subst P (ap (λ (t : Tables). t.volumes) (events_keep sets (fold after_table_change b d.changes) d.events) ∙ ap (λ (cs : List Change). (fold after_table_change b cs).tables.volumes) is) there))
    where
      by : Contains b.tables.volumes v ⊎ Contains (made ∷ []) v → Contains b.tables.volumes v ⊎ (made ≡ v)
      by (inl before) = inl before
      by (inr (ℕ.zero, below, same)) = inr same
      by (inr (ℕ.suc k, below, same)) = absurd (omega (arith, below))

  mkvdisk_comes : (command : Command) (made : Volume) (v : Volume) → (done grain b command).changes ≡ AddVolume made ∷ [] → ((u : Volume) → made ≡ u → Makes (Asked command) (replied grain b command) u.id.0) →
      (refusal : Option Refusal) (loop : Option (List VolId)) → After command refusal loop v → Comes b.tables.volumes (Asked command) (answered restarts grain b command refusal loop).reply v
  mkvdisk_comes command made v is makes (Some refusal) loop there = inl (same_after (answered restarts grain b command (Some refusal) loop) v refl there)
  mkvdisk_comes command made v is makes None (Some loop) there = inl (same_after (answered restarts grain b command None (Some loop)) v refl there)
  mkvdisk_comes command made v is makes None None there =
      elim (make_comes made (answered restarts grain b command None None) v is there) [ inl before ↦ inl before | inr same ↦ inr (makes v same) ]

  rmvdisk_comes : (volume : _) (v : Volume) (refusal : Option Refusal) (loop : Option (List VolId)) → After (Rmvdisk volume) refusal loop v → Contains b.tables.volumes v
  rmvdisk_comes volume v (Some refusal) loop there = same_after (answered restarts grain b (Rmvdisk volume) (Some refusal) loop) v refl there
  rmvdisk_comes volume v None (Some loop) there = same_after (answered restarts grain b (Rmvdisk volume) None (Some loop)) v refl there
  rmvdisk_comes volume v None None there = removed_one (volume_named b.tables volume) (answered restarts grain b (Rmvdisk volume) None None) v refl there

-- Settled or not, and then decided.
from_settling : (grain : GrainSize) (w : Whole) (v : Volume) → Contains (volumes (after_settling grain w)) v → Contains (volumes w) v
from_settling grain w v there = subst (λ (vs : List Volume). Contains vs v) (settling_keeps grain w) there

left_comes : (grain : GrainSize) (w : Whole) (command : Command) (reply : Reply) (effects : List Effect) (left : Whole) →
    ((loop : Option (List VolId)) (v : Volume) → Contains (after_decision (restarts (after_settling grain w).rows) (after_settling grain w).books (decide (restarts (after_settling grain w).rows) grain (after_settling grain w).books command loop)).tables.volumes v →
    Comes (volumes (after_settling grain w)) (Asked command) (decide (restarts (after_settling grain w).rows) grain (after_settling grain w).books command loop).reply v) →
    CommandLeft grain w command reply effects left → (v : Volume) → Contains (volumes left) v → Comes (volumes w) (Asked command) reply v
left_comes grain w command reply effects left comes (decided loop told) v there =
    elim (comes loop v there) [ inl before ↦ inl (from_settling grain w v before) | inr made ↦ inr made ]
left_comes grain w command reply effects left comes unsettled v there = inl there
left_comes grain w command reply effects left comes settled_alone v there = inl (from_settling grain w v there)

step_comes : (grain : GrainSize) (w : Whole) (command : Command) (entry : Entry) (next : Whole) →
    ((loop : Option (List VolId)) (v : Volume) → Contains (after_decision (restarts (after_settling grain w).rows) (after_settling grain w).books (decide (restarts (after_settling grain w).rows) grain (after_settling grain w).books command loop)).tables.volumes v →
    Comes (volumes (after_settling grain w)) (Asked command) (decide (restarts (after_settling grain w).rows) grain (after_settling grain w).books command loop).reply v) →
    CommandStep grain w command entry next → (v : Volume) → Contains (volumes next) v → Comes (volumes w) (Asked command) entry.reply v
step_comes grain w command entry next comes step v there =
    left_comes grain w command entry.reply entry.effects step.left comes step.leaves v (subst (λ (x : Whole). Contains (volumes x) v) step.next_is there)

-- Any entry.
kept_comes : (before after : List Volume) (request : Request) (reply : Reply) → after ≡ before → (v : Volume) → Contains after v → Comes before request reply v
kept_comes before after request reply same v there = inl (subst (λ (vs : List Volume). Contains vs v) same there)

pub request_comes : (grain : GrainSize) (w : Whole) (request : Request) (entry : Entry) (next : Whole) → RequestStep grain w request entry next → (v : Volume) → Contains (volumes next) v → Comes (volumes w) request entry.reply v
request_comes grain w (Asked (Mkvdisk name size unit thin)) entry next right v there =
    let x : Whole = after_settling grain w in
    let sets : ℕ → List Bool = restarts x.rows in
    step_comes grain w (Mkvdisk name size unit thin) entry next
    (λ loop u now. mkvdisk_comes sets sets grain x.books (Mkvdisk name size unit thin) (new_volume grain x.books name size unit thin) u refl (λ z same. ap (λ (y : Volume). y.id.0) same)
    (refused grain x.books (Mkvdisk name size unit thin)) loop now)
    right v there
request_comes grain w (Asked (Rmvdisk volume)) entry next right v there =
    let x : Whole = after_settling grain w in
    let sets : ℕ → List Bool = restarts x.rows in
    step_comes grain w (Rmvdisk volume) entry next (λ loop u now. inl (rmvdisk_comes sets sets grain x.books volume u (refused grain x.books (Rmvdisk volume)) loop now)) right v there
request_comes grain w (Asked command) entry next right v there =
    kept_comes (volumes w) (volumes next) (Asked command) entry.reply (request_keeps grain w (Asked command) entry next refl right) v there
request_comes grain w request entry next right v there = kept_comes (volumes w) (volumes next) request entry.reply (request_keeps grain w request entry next refl right) v there
