-- Every command that isn't refused, but stops.
use Rattle.std.proofs.Common.{◌≡◌, ◌≢◌, ℕ, ◌<◌, ◌^◌, Bool, false, List, [], ◌∷◌, map, Option, Some, None, refl, sym, ap, subst, ◌∙◌, arith, Contains, inl, inr}
use Rattle.fc_base.specs.RestoreGraph.{HasNoLoop}
use Rattle.fc_base.specs.Sheet.{shape_of}
use Rattle.fc_base.specs.SheetStep.{triggered}
use Rattle.fc_base.specs.Tables.{refers_to, volume_named, mapping_named, group_named}
use Rattle.fc_base.specs.declared.command.Command.{Command}
use Rattle.fc_base.specs.declared.command.Command.TheVariants.{Mkvdisk, Rmvdisk, Armfault, Mkfcmap, Prestartfcmap, Startfcmap, Rmfcmap, Mkfcconsistgrp, Prestartfcconsistgrp, Startfcconsistgrp, Rmfcconsistgrp}
use Rattle.fc_base.specs.declared.command.Unit.{Unit as SizeUnit}
use Rattle.fc_base.specs.declared.fault.Kind.TheVariants.{Vdisk, Fcmap, Group as OfGroups}
use Rattle.fc_base.specs.declared.fault.Refusal.{Refusal}
use Rattle.fc_base.specs.declared.ids.VolId.{VolId}
use Rattle.fc_base.specs.declared.name.Ref.{Ref}
use Rattle.fc_base.specs.declared.request.Reply.TheVariants.{Refused}
use Rattle.fc_base.specs.declared.size.GrainSize.{GrainSize}
use Rattle.fc_base.specs.declared.volume.Group.{Group}
use Rattle.fc_base.specs.declared.volume.Mapping.{Mapping}
use Rattle.fc_base.specs.declared.volume.Volume.{Volume}
use Rattle.fc_books.specs.Books.{Deed, nothing}
use Rattle.fc_base.specs.declared.fault.Refusal.TheVariants.{RestoreLoop}
use Rattle.fc_books.specs.Deciding.{refused, replied, done, for_one, for_members, answered, LoopAfter, pairs_of, LoopTold}
use Rattle.fc_books.specs.Groups.{members, is_none_of}
use Rattle.fc_books.specs.Starting.{pair_of}
use Rattle.fc_legal.specs.Lawful.{IsLawful}
use Rattle.fc_legal.specs.Stands.{Stands}
use Rattle.fc_follow.specs.Following.{restarts}
use Rattle.fc_legal.specs.Whole.{Whole}
use Rattle.fc_decided.proofs.Allowed.{one_prepares, one_starts, group_prepares, group_starts, group_trigger, no_source, few_members}
use Rattle.fc_decided.specs.Law.{AreSettled}
use Rattle.fc_decided.proofs.Clearing.{can_go, remove_volume_suits}
use Rattle.fc_decided.proofs.Frame.{Suits, lawful_with_work}
use Rattle.fc_decided.proofs.Grouping.{make_group_suits, remove_group_suits}
use Rattle.fc_decided.proofs.Lists.{find_from, in_cases, none_in}
use Rattle.fc_decided.proofs.Making.{make_volume_suits, can_come}
use Rattle.fc_decided.proofs.Pairing.{make_mapping_suits, can_make, remove_mapping_suits, can_remove}
use Rattle.fc_decided.proofs.Preparing.{prepare_suits}
use Rattle.fc_decided.proofs.Resting.{nothing_suits, arm_suits}
use Rattle.fc_decided.proofs.Starting.{start_suits}
use Rattle.fc_decided.proofs.Unrefused.{some_one}

module _ (grain : GrainSize) (decisions : ℕ) (w : Whole) (small : decisions < 2 ^ 32) (st : Stands decisions w) where
  -- where nothing refuses a command, its deed suits
  unfoldable pub Goes : Command → Type 0
  Goes command = refused grain w.books command ≡ None → Suits grain decisions w (done grain w.books command)

  -- what a reference named is in its table
  named_volume : (r : Ref) (v : Volume) → volume_named w.books.tables r ≡ Some v → Contains w.books.tables.volumes v
  named_volume r v e = (find_from (λ (x : Volume). refers_to r x.id.0 x.name) w.books.tables.volumes v e).0

  named_mapping : (r : Ref) (m : Mapping) → mapping_named w.books.tables r ≡ Some m → Contains w.books.tables.mappings m
  named_mapping r m e = (find_from (λ (x : Mapping). refers_to r x.id.0 x.name) w.books.tables.mappings m e).0

  named_group : (r : Ref) (g : Group) → group_named w.books.tables r ≡ Some g → Contains w.books.tables.groups g
  named_group r g e = (find_from (λ (x : Group). refers_to r x.id.0 x.name) w.books.tables.groups g e).0

  -- the deed for the one that is there
  one_suits : {X : Type 0} (o : Option X) (x : X) (deed : X → Deed) → o ≡ Some x → Suits grain decisions w (deed x) → Suits grain decisions w (for_one o deed)
  one_suits o x deed e s = subst (λ (p : Option _). Suits grain decisions w (for_one p deed)) (sym e) s

  members_suit : (o : Option Group) (g : Group) (deed : List Mapping → Deed) → o ≡ Some g → Suits grain decisions w (deed (members w.books.tables g.id)) → Suits grain decisions w (for_members w.books.tables o deed)
  members_suit o g deed e s = subst (λ (p : Option Group). Suits grain decisions w (for_members w.books.tables p deed)) (sym e) s

  pub mkvdisk_goes : (name : Option (List ℕ)) (size : ℕ) (unit : Option SizeUnit) (thin : Bool) → Goes (Mkvdisk name size unit thin)
  unfolding Goes
  mkvdisk_goes name size unit thin e = make_volume_suits grain decisions w _ small st (can_come grain w name size unit thin e)

  pub rmvdisk_goes : (volume : Ref) → AreSettled w.books → Goes (Rmvdisk volume)
  unfolding Goes
  rmvdisk_goes volume settled e =
      let v = some_one Vdisk (volume_named w.books.tables volume) _ e in
      one_suits (volume_named w.books.tables volume) v.0 _ v.1 (remove_volume_suits grain decisions w v.0 st settled (can_go w.books v.0 (named_volume volume v.0 v.1) v.2) small)

  pub armfault_goes : (volume : Ref) (number calls : ℕ) → Goes (Armfault volume number calls)
  unfolding Goes
  armfault_goes volume number calls e =
      let v = some_one Vdisk (volume_named w.books.tables volume) _ e in
      one_suits (volume_named w.books.tables volume) v.0 _ v.1 (arm_suits grain decisions w v.0.id (record { 0 = number }) calls small st)

  pub mkfcmap_goes : (source target : Ref) (name : Option (List ℕ)) (group : Option Ref) (copy_rate clean_rate : Option ℕ) (grain_size : Option GrainSize) (incremental autodelete : Bool) → Goes (Mkfcmap source target name group copy_rate clean_rate grain_size incremental autodelete)
  unfolding Goes
  mkfcmap_goes source target name group copy_rate clean_rate grain_size incremental autodelete e =
      let s = some_one Vdisk (volume_named w.books.tables source) _ e in
      let t = some_one Vdisk (volume_named w.books.tables target) _ s.2 in
      one_suits (volume_named w.books.tables source) s.0 _ s.1
      (one_suits (volume_named w.books.tables target) t.0 _ t.1
      (make_mapping_suits grain decisions w s.0 t.0 name group copy_rate clean_rate incremental autodelete small st
      (can_make grain decisions w s.0 t.0 name group copy_rate clean_rate incremental autodelete grain_size (named_volume source s.0 s.1) (named_volume target t.0 t.1) grain_size t.2)))

  pub rmfcmap_goes : (map : Ref) (force : Bool) → Goes (Rmfcmap map force)
  unfolding Goes
  rmfcmap_goes map force e =
      let m = some_one Fcmap (mapping_named w.books.tables map) _ e in
      one_suits (mapping_named w.books.tables map) m.0 _ m.1 (remove_mapping_suits grain decisions w m.0 (named_mapping map m.0 m.1) (can_remove m.0 force m.2) small st)

  pub mkfcconsistgrp_goes : (name : Option (List ℕ)) → Goes (Mkfcconsistgrp name)
  unfolding Goes
  mkfcconsistgrp_goes name e = make_group_suits grain decisions w name small st e

  pub rmfcconsistgrp_goes : (group : Ref) (force : Bool) → Goes (Rmfcconsistgrp group force)
  unfolding Goes
  rmfcconsistgrp_goes group force e =
      let g = some_one OfGroups (group_named w.books.tables group) _ e in
      one_suits (group_named w.books.tables group) g.0 _ g.1 (remove_group_suits grain decisions w g.0 small st (named_group group g.0 g.1))

  pub prestartfcmap_goes : (map : Ref) (restore : Bool) → Goes (Prestartfcmap map restore)
  unfolding Goes
  prestartfcmap_goes map restore e =
      let m = some_one Fcmap (mapping_named w.books.tables map) _ e in
      one_suits (mapping_named w.books.tables map) m.0 _ m.1 (prepare_suits grain decisions w (m.0 ∷ []) restore small st (one_prepares w.books m.0 restore (named_mapping map m.0 m.1) m.2))

  pub prestartfcconsistgrp_goes : (group : Ref) (restore : Bool) → Goes (Prestartfcconsistgrp group restore)
  unfolding Goes
  prestartfcconsistgrp_goes group restore e =
      let g = some_one OfGroups (group_named w.books.tables group) _ e in
      members_suit (group_named w.books.tables group) g.0 _ g.1 (prepare_suits grain decisions w (members w.books.tables g.0.id) restore small st (group_prepares w.books g.0.id restore st.sound.tables.mappings g.2))

  -- ---- starts, where no loop of restores is told

  one_loop : (map : Ref) (prep restore : Bool) (m : Mapping) → mapping_named w.books.tables map ≡ Some m → LoopAfter w.books (pairs_of w.books (Startfcmap map prep restore)) None → HasNoLoop (shape_of (triggered (pair_of m ∷ []) w.books.sheet).slots)
  one_loop map prep restore m e h = rw e at h

  only_source : (m : Mapping) → Contains w.books.tables.mappings m → (x y : Mapping) → Contains (m ∷ []) x → Contains (m ∷ []) y → x.target.0 ≢ y.source.0
  only_source m found x y a c e =
      let apart = (st.sound.agree.mappings m found).apart in
      let is : (z : Mapping) → Contains (m ∷ []) z → m ≡ z = λ z there. elim (in_cases m z [] there) [ inl same ↦ same | inr none ↦ absurd (none_in z none) ] in
      apart (ap (λ (z : Mapping). z.source.0) (is y c) ∙ sym e ∙ ap (λ (z : Mapping). z.target.0) (sym (is x a)))

  pub startfcmap_goes : (map : Ref) (prep restore : Bool) → LoopAfter w.books (pairs_of w.books (Startfcmap map prep restore)) None → Goes (Startfcmap map prep restore)
  unfolding Goes
  startfcmap_goes map prep restore loop e =
      let m = some_one Fcmap (mapping_named w.books.tables map) _ e in
      let found = named_mapping map m.0 m.1 in
      one_suits (mapping_named w.books.tables map) m.0 _ m.1
      (start_suits grain decisions w (m.0 ∷ []) prep restore small st (one_starts w.books m.0 prep restore found m.2) (only_source m.0 found) (one_loop map prep restore m.0 m.1 loop) (omega arith))

  some_loop : (ms : List Mapping) → is_none_of ms ≡ false → LoopAfter w.books ms None → HasNoLoop (shape_of (triggered (map pair_of ms) w.books.sheet).slots)
  some_loop [] none loop = absurd cc
  some_loop (m ∷ ms) none loop = loop

  group_loop : (group : Ref) (prep restore : Bool) (g : Group) → group_named w.books.tables group ≡ Some g → LoopAfter w.books (pairs_of w.books (Startfcconsistgrp group prep restore)) None → LoopAfter w.books (members w.books.tables g.id) None
  group_loop group prep restore g e h = rw e at h

  pub startfcconsistgrp_goes : (group : Ref) (prep restore : Bool) → LoopAfter w.books (pairs_of w.books (Startfcconsistgrp group prep restore)) None → Goes (Startfcconsistgrp group prep restore)
  unfolding Goes
  startfcconsistgrp_goes group prep restore loop e =
      let g = some_one OfGroups (group_named w.books.tables group) _ e in
      let maps = members w.books.tables g.0.id in
      let trigger = group_trigger w.books g.0.id prep restore g.2 in
      members_suit (group_named w.books.tables group) g.0 _ g.1
      (start_suits grain decisions w maps prep restore small st (group_starts w.books g.0.id prep restore st.sound.tables.mappings g.2)
      (λ m n found other. no_source maps m n trigger.0 found other) (some_loop maps trigger.1 (group_loop group prep restore g.0 g.1 loop)) (few_members w.books g.0.id st.few.at_once))

  -- ---- the decision

  -- A refused command does nothing.
  pub answered_lawful : (command : Command) (o : Option Refusal) (loop : Option (List VolId)) → (o ≡ None → loop ≡ None → Suits grain decisions w (done grain w.books command)) → IsLawful grain decisions w (answered (restarts w.rows) grain w.books command o loop)
  answered_lawful command (Some refusal) loop suits = lawful_with_work grain decisions w (Refused refusal) nothing st (nothing_suits grain decisions w small st)
  answered_lawful command None (Some volumes) suits = lawful_with_work grain decisions w (Refused (RestoreLoop volumes)) nothing st (nothing_suits grain decisions w small st)
  answered_lawful command None None suits = lawful_with_work grain decisions w (replied grain w.books command) (done grain w.books command) st (suits refl refl)

  -- Where a start isn't refused and no loop is told, none is there.
  pub no_loop_told : (command : Command) (o : Option Refusal) (loop : Option (List VolId)) → LoopTold o w.books command loop → o ≡ None → loop ≡ None → LoopAfter w.books (pairs_of w.books command) None
  no_loop_told command o loop told e f =
      let first : LoopTold None w.books command loop = subst (λ (p : Option Refusal). LoopTold p w.books command loop) e told in
      subst (λ (l : Option (List VolId)). LoopAfter w.books (pairs_of w.books command) l) f first
