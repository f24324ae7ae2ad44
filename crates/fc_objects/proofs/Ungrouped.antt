-- The flags of all mappings after a group went.
use Rattle.std.proofs.Common.{◌≡◌, ◌∙◌, sym, ap, ℕ, Bool, true, false, cond, List, [], ◌∷◌, ◌++◌, map, fold, None, refl}
use Rattle.std.specs.List.{filter, flat_map}
use Rattle.fc_base.specs.Tables.{IsOrdered}
use Rattle.fc_base.specs.declared.decision.Decision.{Decision}
use Rattle.fc_base.specs.declared.ids.GroupId.{GroupId}
use Rattle.fc_base.specs.declared.request.Reply.{Reply}
use Rattle.fc_base.specs.declared.volume.Change.TheVariants.{SetMapping, RemoveGroup}
use Rattle.fc_base.specs.declared.volume.Mapping.{Mapping}
use Rattle.fc_books.specs.After.{after_deed, after_table_change}
use Rattle.fc_books.specs.Books.{Books, Deed, all_deeds}
use Rattle.fc_books.specs.Deciding.{with_work}
use Rattle.fc_books.specs.Groups.{is_member}
use Rattle.fc_books.specs.Making.{remove_group}
use Rattle.fc_books.specs.Work.{work_events}
use Rattle.fc_desk.proofs.Deeds.{deed_of}
use Rattle.fc_desk.proofs.Selecting.{chosen_deeds}
use Rattle.fc_desk.proofs.Setting.{set_one, set_in, with_maps, set_pointwise, fold_append, changes_set, flat_one, alone, set_kept}
use Rattle.fc_desk.specs.ForChosen.{for_chosen}
use Rattle.fc_objects.specs.Leaving.{leaves_group}
use Rattle.fc_desk.specs.Telling.{work_told}
use Rattle.fc_desk.proofs.Flagged.{flat_none, work_by_each, work_of_each, told_as}

abbrev left_alone : Mapping → Mapping
left_alone m = record m { group = None }

leaving_is : (g : GroupId) (xs : List Mapping) → all_deeds (for_chosen (is_member g) leaves_group) xs ≡ record { effects = []; events = []; changes = map (λ m. SetMapping (left_alone m)) (filter (is_member g) xs) }
leaving_is g xs =
    chosen_deeds (is_member g) leaves_group xs
    ∙ deed_of (flat_map (λ x. []) (filter (is_member g) xs)) [] (flat_map (λ x. []) (filter (is_member g) xs)) [] (flat_map (λ m. SetMapping (left_alone m) ∷ []) (filter (is_member g) xs)) (map (λ m. SetMapping (left_alone m)) (filter (is_member g) xs))
    (flat_none (filter (is_member g) xs)) (flat_none (filter (is_member g) xs)) (flat_one (λ m. SetMapping (left_alone m)) (filter (is_member g) xs))

one_left : (b other : Books) (x : Mapping) (t : Bool) → other.flags ≡ b.flags → other.tables.volumes ≡ b.tables.volumes → other.sheet.slots ≡ b.sheet.slots → work_told other None (cond t (left_alone x) x) ≡ work_told b None x
one_left b other x true f v s = told_as other b.flags b.tables.volumes b.sheet.slots (left_alone x) f v s
one_left b other x false f v s = told_as other b.flags b.tables.volumes b.sheet.slots x f v s

work_events-ungrouped : (restarts : ℕ → List Bool) (b : Books) (g : GroupId) → IsOrdered (λ (m : Mapping). m.id.0) (λ (m : Mapping). m.name) b.tables.mappings → work_events (after_deed restarts b (remove_group b.tables g)) ≡ work_events b
work_events-ungrouped restarts b g ordered =
    let xs = b.tables.mappings in
    let ys = map left_alone (filter (is_member g) xs) in
    let sets = map (λ m. SetMapping (left_alone m)) (filter (is_member g) xs) in
    let after = after_deed restarts b (remove_group b.tables g) in
    let whole : after ≡ after_table_change (with_maps b (fold set_in xs ys)) (RemoveGroup g) =
    fold_append after_table_change b sets (RemoveGroup g ∷ []) ∙ ap (λ c. after_table_change c (RemoveGroup g)) (changes_set b left_alone (filter (is_member g) xs) xs) in
    work_by_each after (λ x. fold set_one x ys) (work_told b None) xs (ap (λ (c : Books). c.tables.mappings) whole ∙ set_pointwise ys xs)
    (λ x there.
    ap (work_told after None) (set_kept left_alone (is_member g) x xs (λ m. refl) (alone xs x ordered there) there)
    ∙ one_left b after x (is_member g x) (ap (λ (c : Books). c.flags) whole) (ap (λ (c : Books). c.tables.volumes) whole) (ap (λ (c : Books). c.sheet.slots) whole))
    ∙ sym (work_of_each b)

pub group_gone :
    (restarts : ℕ → List Bool) (b : Books) (g : GroupId) (reply : Reply) (leaving draft : Deed) (decision : Decision) →
    IsOrdered (λ (m : Mapping). m.id.0) (λ (m : Mapping). m.name) b.tables.mappings →
    leaving ≡ all_deeds (for_chosen (is_member g) leaves_group) b.tables.mappings →
    draft ≡ record leaving { changes = leaving.changes ++ RemoveGroup g ∷ [] } →
    decision ≡ record { reply = reply; effects = draft.effects; events = draft.events ++ work_events b; changes = draft.changes } →
    decision ≡ with_work restarts b reply (remove_group b.tables g)
group_gone restarts b g reply leaving draft decision ordered leaving_are draft_is decision_is =
    let concluded : Deed → List _ → Decision = λ d work. record { reply = reply; effects = d.effects; events = d.events ++ work; changes = d.changes } in
    let removed : Deed → Deed = λ d. record d { changes = d.changes ++ RemoveGroup g ∷ [] } in
    decision_is
    ∙ ap (λ d. concluded d (work_events b)) (draft_is ∙ ap removed (leaving_are ∙ leaving_is g b.tables.mappings))
    ∙ ap (concluded (remove_group b.tables g)) (sym (work_events-ungrouped restarts b g ordered))
