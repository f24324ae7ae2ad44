-- The stop of a group: its members are stopped one after the other, each on what the last left.
use Rattle.std.proofs.Common.{◌≡◌, ◌≢◌, ℕ, suc, ◌+◌, ◌*◌, ◌<◌, ◌≤◌, ◌^◌, Bool, true, false, not, cond, ◌==◌, nat_le, Option, Some, None, List, [], ◌∷◌, length, map, refl, sym, ap, subst, ◌∙◌, arith, Contains, inl, inr}
use Rattle.std.specs.List.{find}
use Rattle.std.specs.Option.{option_map_or}
use Rattle.std.proofs.lemmas.Bool.{eqb-true}
use Rattle.std.proofs.lemmas.List.{length-map}
use Rattle.std.proofs.lemmas.List.Kept.{AllPairs-filter}
use Rattle.fc_base.specs.Sheet.{Slot, Sheet, mapping_place}
use Rattle.fc_base.specs.SheetStep.{sheet_step}
use Rattle.fc_base.specs.SheetView.{held_of, held_at, count_true}
use Rattle.fc_base.specs.Tables.{mapping_with, group_named}
use Rattle.fc_base.specs.declared.command.StopWay.{StopWay}
use Rattle.fc_base.specs.declared.command.StopWay.TheVariants.{Plain, Force, Split}
use Rattle.fc_base.specs.declared.decision.LaneEvent.TheVariants.{Split as SplitOff}
use Rattle.fc_base.specs.declared.fault.Kind.TheVariants.{Group as OfGroups}
use Rattle.fc_base.specs.declared.fault.Refusal.{Refusal}
use Rattle.fc_base.specs.declared.fault.Refusal.TheVariants.{NotAllowed}
use Rattle.fc_base.specs.declared.ids.GroupId.{GroupId}
use Rattle.fc_base.specs.declared.ids.MapId.{MapId}
use Rattle.fc_base.specs.declared.name.Ref.{Ref}
use Rattle.fc_base.specs.declared.size.GrainSize.{GrainSize}
use Rattle.fc_base.specs.declared.state.MapState.{MapState}
use Rattle.fc_base.specs.declared.state.MapState.TheVariants.{Empty, IdleOrCopied, Preparing, Prepared, Copying, Stopping, Stopped}
use Rattle.fc_base.specs.declared.volume.Group.{Group}
use Rattle.fc_base.specs.declared.volume.Mapping.{Mapping}
use Rattle.fc_base.specs.declared.volume.Volume.{Volume}
use Rattle.fc_books.specs.After.{after_table_change, after_deed}
use Rattle.fc_books.specs.Books.{Books, Deed, nothing, told, ◌then◌}
use Rattle.fc_books.specs.Copies.{is_whole, total}
use Rattle.fc_books.specs.Deciding.{for_members}
use Rattle.fc_books.specs.Ending.{ends_in, as_left, cut_of}
use Rattle.fc_books.specs.Groups.{is_member, members, group_state, some_in, acts_on}
use Rattle.fc_books.specs.RefusedStarts.{not_complete, empty_group, for_each, split_refusals, stopfcconsistgrp_refused}
use Rattle.fc_books.specs.Stopping.{stops, stops_member, one_by_one, stop_group}
use Rattle.fc_entry.specs.Picture.{Picture}
use Rattle.fc_entry.specs.PlainStep.{after_effects}
use Rattle.fc_entry.specs.Refused.{first_of, where_}
use Rattle.fc_legal.specs.Stands.{Stands}
use Rattle.fc_legal.specs.Whole.{Whole}
use Rattle.fc_moves.proofs.Search.{cases_option}
use Rattle.fc_decided.proofs.Allowed.{few_members}
use Rattle.fc_decided.proofs.Apart.{fold_append, sheet_through}
use Rattle.fc_decided.proofs.ForceStops.{MayStop, stops_goes, more_births, split_is}
use Rattle.fc_decided.proofs.Frame.{tabled, Suits}
use Rattle.fc_decided.proofs.Goings.{left_by, after_is, goes_sound, goes_then}
use Rattle.fc_decided.proofs.Lists.{first_in, later_in, none_in, in_cases, find_from, filter_from, map_from}
use Rattle.fc_decided.proofs.Quiet.{quiet, first_apart, rest_ordered}
use Rattle.fc_decided.proofs.Setting.{AreOrdered, one_mapping}
use Rattle.fc_decided.proofs.Seen.{Seen, seen, seen_place, seen_none}
use Rattle.fc_decided.proofs.Stops.{Sound, Goes, nothing_goes, gone_ends, split_sheet}
use Rattle.fc_decided.proofs.Suiting.{sound_of, goes_suits, may_copying}
use Rattle.fc_decided.proofs.Unrefused.{none_of, some_one}

-- ---- what a split leaves of other mappings

-- Of other mappings than one, the slots and the rows are as they were.
pub record Others (b : Books) (m : ℕ) (d : Deed) : Type 0 where
  pub slots : (n : ℕ) → n ≢ m → seen (sheet_through b.sheet d.events).slots n ≡ seen b.sheet.slots n
  pub rows : (y : Mapping) → Contains (tabled b d.changes).tables.mappings y → y.id.0 ≢ m → Contains b.tables.mappings y

nothing_others : (b : Books) (m : ℕ) → Others b m nothing
nothing_others b m = record { slots = λ n ne. refl; rows = λ y found ne. found }

split_others : (b : Books) (m : Mapping) (picture : Picture) → Sound b picture → Contains b.tables.mappings m → m.state ≡ Copying → is_whole b m ≡ true →
    Others b m.id.0 (told (SplitOff m.id ∷ []) then ((cut_of b m then ends_in IdleOrCopied (as_left b m)) then nothing))
split_others b m picture s found copying whole =
    let p = split_sheet b m picture s found copying whole in
    let next : Sheet = sheet_step (λ grains. grains) b.sheet (SplitOff m.id) in
    let own : Deed = cut_of b m then ends_in IdleOrCopied (as_left b m) in
    let all = gone_ends b next m IdleOrCopied p.one in
    let q = quiet next (own then nothing).events all.quiet in
    record {
      slots = λ n ne. ap (λ (x : Sheet). seen x.slots n) q.sheet ∙ p.left.stays n ne;
      rows = λ y there ne. p.one.from y (subst (λ (x : Books). Contains x.tables.mappings y) (fold_append after_table_change b own.changes []) there) ne;
    }

held_in : Option Seen → List Bool
held_in None = []
held_in (Some x) = x.held

held_by_seen : (slots : List Slot) (m : ℕ) → held_of slots m ≡ held_in (seen slots m)
unfolding held_in
held_by_seen slots m =
    elim (cases_option (mapping_place slots m)) [
      | inl none ↦ ap (held_at slots) none ∙ sym (ap held_in (seen_none slots m none))
      | inr some ↦ ap (held_at slots) some.1 ∙ sym (ap held_in (seen_place slots m some.0 some.1))
    ]

whole_same : (b c : Books) (m : Mapping) → c.tables.volumes ≡ b.tables.volumes → seen c.sheet.slots m.id.0 ≡ seen b.sheet.slots m.id.0 → is_whole c m ≡ is_whole b m
whole_same b c m vols same =
    let size : total c m ≡ total b m = ap (λ (vs : List Volume). option_map_or (λ (v : Volume). v.grains) (find (λ (v : Volume). m.target.0 == v.id.0) vs) 0) vols in
    let holds : held_of c.sheet.slots m.id.0 ≡ held_of b.sheet.slots m.id.0 = held_by_seen c.sheet.slots m.id.0 ∙ (ap held_in same ∙ sym (held_by_seen b.sheet.slots m.id.0)) in
    ap (λ n. nat_le n (count_true (held_of c.sheet.slots m.id.0))) size ∙ ap (λ h. nat_le (total b m) (count_true h)) holds

-- ---- one member

-- In a split the copies of the members that it acts on are whole.
abbrev pub AreWhole : StopWay → Books → List MapId → Type 0
AreWhole way b ids = way ≡ Split → (m : Mapping) → Contains b.tables.mappings m → Contains ids m.id → m.state ≡ Copying → is_whole b m ≡ true

may_member : (way : StopWay) (state : MapState) (whole : Bool) → acts_on way state ≡ true → (way ≡ Split → state ≡ Copying → whole ≡ true) → MayStop state way whole
may_member way Copying whole acts known = λ e. known e refl
may_member Force Stopping whole acts known = refl
may_member Plain Stopping whole acts known = absurd cc
may_member Split Stopping whole acts known = absurd cc
may_member way Empty whole acts known = tt
may_member way IdleOrCopied whole acts known = tt
may_member way Preparing whole acts known = tt
may_member way Prepared whole acts known = tt
may_member way Stopped whole acts known = tt

acts_copying : (state : MapState) → acts_on Split state ≡ true → state ≡ Copying
acts_copying Copying e = refl
acts_copying state e = absurd cc

-- What a member's stop does, and what a split of it leaves of others.
pub record MemberGoes (grain : GrainSize) (way : StopWay) (b : Books) (picture : Picture) (id : MapId) (d : Deed) : Type 0 where
  pub goes : Goes grain b picture d 513
  pub others : way ≡ Split → Others b id.0 d

member_found : (grain : GrainSize) (way : StopWay) (b : Books) (picture : Picture) (id : MapId) (m : Mapping) → Sound b picture → length b.tables.mappings ≤ 512 → Contains b.tables.mappings m → id.0 ≡ m.id.0 → (way ≡ Split → m.state ≡ Copying → is_whole b m ≡ true) →
    (acts : Bool) → acts_on way m.state ≡ acts → MemberGoes grain way b picture id (cond acts (stops way b m) nothing)
member_found grain way b picture id m s few found same known false is =
    record { goes = nothing_goes grain b picture 513 s; others = λ e. nothing_others b id.0 }
member_found grain way b picture id m s few found same known true is =
    record {
      goes = more_births grain b picture (stops way b m) (length b.tables.mappings + 1) 513 (omega (arith, few)) (stops_goes grain b m picture way s found (may_member way m.state (is_whole b m) is known));
      others = λ e.
          let copying : m.state ≡ Copying = acts_copying m.state (ap (λ w. acts_on w m.state) (sym e) ∙ is) in
          let whole = known e copying in
          let deed = ap (λ w. stops w b m) e ∙ split_is b m copying whole in
          subst (λ (d : Deed). Others b id.0 d) (sym deed) (subst (λ (n : ℕ). Others b n (told (SplitOff m.id ∷ []) then ((cut_of b m then ends_in IdleOrCopied (as_left b m)) then nothing))) (sym same) (split_others b m picture s found copying whole));
    }

member_goes : (grain : GrainSize) (way : StopWay) (b : Books) (picture : Picture) (id : MapId) → Sound b picture → length b.tables.mappings ≤ 512 → (way ≡ Split → (m : Mapping) → Contains b.tables.mappings m → id.0 ≡ m.id.0 → m.state ≡ Copying → is_whole b m ≡ true) →
    (o : Option Mapping) → mapping_with b.tables id ≡ o → MemberGoes grain way b picture id (stops_member way b o)
member_goes grain way b picture id s few known None e = record { goes = nothing_goes grain b picture 513 s; others = λ q. nothing_others b id.0 }
member_goes grain way b picture id s few known (Some m) e =
    let f = find_from (λ (x : Mapping). id.0 == x.id.0) b.tables.mappings m e in
    let same : id.0 ≡ m.id.0 = eqb-true id.0 m.id.0 f.1 in
    member_found grain way b picture id m s few f.0 same (λ q copying. known q m f.0 same copying) (acts_on way m.state) refl

-- ---- all members

abbrev pub AreApart : List MapId → Type 0
AreApart [] = Unit {0}
AreApart (id ∷ ids) = ((x : MapId) → Contains ids x → x.0 ≢ id.0) × AreApart ids

member_deed : StopWay → Books → MapId → Deed
member_deed way b id = stops_member way b (mapping_with b.tables id)

ids_same : (id m : MapId) → id.0 ≡ m.0 → id ≡ m
ids_same id m e = λ k. record { 0 = e k }

-- no stop asks for restart sets
abbrev none_known : ℕ → List Bool
none_known m = []

many_goes : (grain : GrainSize) (way : StopWay) (ids : List MapId) (b : Books) (picture : Picture) → Sound b picture → length b.tables.mappings ≤ 512 → AreApart ids → AreWhole way b ids →
    Goes grain b picture (one_by_one none_known (member_deed way) b ids) (length ids * 513)
unfolding member_deed
many_goes grain way [] b picture s few apart whole = nothing_goes grain b picture 0 s
many_goes grain way (id ∷ ids) b picture s few apart whole =
    let first : Deed = member_deed way b id in
    let one : MemberGoes grain way b picture id first = member_goes grain way b picture id s few
    (λ e m found same copying. whole e m found (subst (λ (x : MapId). Contains (id ∷ ids) x) (ids_same id m.id same) (first_in id ids)) copying)
    (mapping_with b.tables id) refl in
    let next : Books = left_by b first in
    let vols : next.tables.volumes ≡ b.tables.volumes = one.goes.table.same_volumes in
    let fewer : length next.tables.mappings ≤ length b.tables.mappings = one.goes.table.fewer in
    let after : after_deed none_known b first ≡ next = after_is grain none_known b picture first 513 one.goes in
    let rest : Goes grain next (after_effects grain picture first.effects) (one_by_one none_known (member_deed way) next ids) (length ids * 513) =
    many_goes grain way ids next (after_effects grain picture first.effects) (goes_sound grain b picture first 513 one.goes) (omega arith) apart.1
    (λ e m found among copying.
    let ne : m.id.0 ≢ id.0 = apart.0 m.id among in
    let others = one.others e in
    let there : Contains b.tables.mappings m = others.rows m found ne in
    whole_same b next m vols (others.slots m.id.0 ne) ∙ whole e m there (later_in id m.id ids among) copying) in
    let whole_deed : Goes grain b picture (first then one_by_one none_known (member_deed way) next ids) (513 + length ids * 513) = goes_then grain b picture first (one_by_one none_known (member_deed way) next ids) 513 (length ids * 513) one.goes rest in
    more_births grain b picture (first then one_by_one none_known (member_deed way) (after_deed none_known b first) ids) (513 + length ids * 513) (suc (length ids) * 513) (omega arith)
    (subst (λ (x : Books). Goes grain b picture (first then one_by_one none_known (member_deed way) x ids) (513 + length ids * 513)) (sym after) whole_deed)

-- ---- the group

apart_ids : (ms : List Mapping) → AreOrdered ms → AreApart (map (λ (m : Mapping). m.id) ms)
apart_ids [] ordered = tt
apart_ids (m ∷ ms) ordered = (
  (λ x found.
      let y = map_from (λ (z : Mapping). z.id) ms x found in
      λ e. first_apart m y.0 ms ordered y.1 (ap (λ (z : MapId). z.0) y.2 ∙ e)),
  apart_ids ms (rest_ordered m ms ordered),
)

each_allowed : (way : StopWay) (b : Books) (ms : List Mapping) → for_each (split_refusals way b) ms ≡ None → (m : Mapping) → Contains ms m → cond (acts_on way m.state) (not_complete way b m) None ≡ None
each_allowed way b [] e m found = absurd (none_in m found)
each_allowed way b (x ∷ xs) e m found =
    let none = none_of (cond (acts_on way x.state) (not_complete way b x) None ∷ for_each (split_refusals way b) xs ∷ []) e in
    elim (in_cases x m xs found) [
      | inl same ↦ ap (λ (y : Mapping). cond (acts_on way y.state) (not_complete way b y) None) (sym same) ∙ none.0
      | inr later ↦ each_allowed way b xs none.1.0 m later
    ]

group_whole : (way : StopWay) (b : Books) (ms : List Mapping) → AreOrdered b.tables.mappings → ((m : Mapping) → Contains ms m → Contains b.tables.mappings m) → for_each (split_refusals way b) ms ≡ None → AreWhole way b (map (λ (m : Mapping). m.id) ms)
group_whole way b ms ordered among e same m found member copying =
    let y = map_from (λ (z : Mapping). z.id) ms m.id member in
    let is : y.0 ≡ m = one_mapping b.tables.mappings y.0 m ordered (among y.0 y.1) found (ap (λ (z : MapId). z.0) y.2) in
    let inside : Contains ms m = subst (λ (z : Mapping). Contains ms z) is y.1 in
    let acts : acts_on way m.state ≡ true = ap (λ w. acts_on w m.state) same ∙ ap (acts_on Split) copying in
    let none : not_complete way b m ≡ None = sym (ap (λ t. cond t (not_complete way b m) None) acts) ∙ each_allowed way b ms e m inside in
    may_copying b m way none same

members_ordered : (b : Books) (g : GroupId) → AreOrdered b.tables.mappings → AreOrdered (members b.tables g)
members_ordered b g o =
    record {
      rising = AllPairs-filter (λ (x y : Mapping). x.id.0 < y.id.0) (is_member g) b.tables.mappings o.rising;
      distinct = AllPairs-filter (λ (x y : Mapping). x.name ≢ y.name) (is_member g) b.tables.mappings o.distinct;
    }

stop_group_is : (way : StopWay) (b : Books) (ms : List Mapping) → stop_group way b ms ≡ one_by_one none_known (member_deed way) b (map (λ (m : Mapping). m.id) ms)
unfolding member_deed
stop_group_is way b ms = refl

pub stop_group_suits : (grain : GrainSize) (decisions : ℕ) (w : Whole) (r : Ref) (way : StopWay) → decisions < 2 ^ 32 → Stands decisions w → stopfcconsistgrp_refused w.books r way ≡ None →
    Suits grain decisions w (for_members w.books.tables (group_named w.books.tables r) (stop_group way w.books))
stop_group_suits grain decisions w r way small st e =
    let b = w.books in
    let refusals : Group → List (Option Refusal) = λ g.
    empty_group (members b.tables g.id)
    ∷ where_ (not (some_in (acts_on way) (members b.tables g.id))) (NotAllowed (group_state b.tables g.id))
    ∷ for_each (split_refusals way b) (members b.tables g.id)
    ∷ [] in
    let one = some_one OfGroups (group_named b.tables r) (λ (g : Group). first_of (refusals g)) e in
    let g = one.0 in
    let ms = members b.tables g.id in
    let ids = map (λ (m : Mapping). m.id) ms in
    let none = none_of (refusals g) one.2 in
    let rows = st.sound.tables.mappings in
    let count : length ids ≡ length ms = length-map ms (λ (m : Mapping). m.id) in
    let at_once : length b.tables.mappings ≤ 512 = st.few.at_once in
    let le : length ms ≤ 512 = few_members b g.id at_once in
    let goes : Goes grain b w.picture (one_by_one none_known (member_deed way) b ids) (length ids * 513) =
    many_goes grain way ids b w.picture (sound_of decisions w st) at_once (apart_ids ms (members_ordered b g.id rows))
    (group_whole way b ms rows (λ m found. (filter_from (is_member g.id) b.tables.mappings m found).0) none.1.1.0) in
    subst (λ (o : Option Group). Suits grain decisions w (for_members b.tables o (stop_group way b))) (sym one.1)
    (subst (λ (d : Deed). Suits grain decisions w d) (sym (stop_group_is way b ms))
    (goes_suits grain decisions w (one_by_one none_known (member_deed way) b ids) (length ids * 513) small st goes (omega arith)))
