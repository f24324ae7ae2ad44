-- The ids in an image of what is sound are ids.
use Rattle.std.proofs.Common.{◌≡◌, ℕ, suc, ◌<◌, ◌==◌, Bool, true, false, cond, IsSome, Option, Some, None, List, [], ◌∷◌, length, get_or, All, Contains, inl, inr, refl, sym, subst, arith}
use Rattle.std.specs.List.{filter, find}
use Rattle.std.specs.Option.{ForSome}
use Rattle.std.proofs.lemmas.Bool.{eqb-true}
use Rattle.std.proofs.lemmas.List.Elements.{All-map}
use Rattle.fc_base.specs.Sheet.{Slot, slot_at}
use Rattle.fc_base.specs.Tables.{group_with, volume_with}
use Rattle.fc_base.specs.declared.ids.GroupId.{GroupId}
use Rattle.fc_base.specs.declared.ids.VolId.{VolId}
use Rattle.fc_base.specs.declared.volume.Group.{Group}
use Rattle.fc_base.specs.declared.volume.Mapping.{Mapping}
use Rattle.fc_base.specs.declared.volume.Volume.{Volume}
use Rattle.fc_books.specs.Sound.{IsOfTables}
use Rattle.fc_changed.specs.Row.{Row}
use Rattle.fc_decided.proofs.Lists.{all_from, filter_from, find_from, in_cases, none_in}
use Rattle.fc_format.specs.Ranges.{HasGoodIds, IsGroupId, IsMappingId, IsVolumeId}
use Rattle.fc_image.specs.declared.image.MetaChain.{MetaChain}
use Rattle.fc_image.specs.declared.image.MetaChanges.{MetaChanges}
use Rattle.fc_image.specs.declared.image.MetaImage.{MetaImage}
use Rattle.fc_image.specs.declared.image.MetaSlot.{MetaSlot}
use Rattle.fc_imaging.specs.Without.{begins_else, leaving_out}
use Rattle.fc_kept.specs.Images.{alone_told, before_chains, chains_told, changes_told, meta_of, slot_told}
use Rattle.fc_kept.specs.Kept.{Kept}
use Rattle.fc_kept.specs.Sound.{IsInto, IsSoundKept}
use Rattle.fc_kept.proofs.Said.{head_of, rest_of}
use Rattle.fc_legal.specs.Stands.{IsOfMapping}
use Rattle.law_crash.proofs.Lost.{all_in_is}

-- ---- what is found is there

some_found : {X : Type 0} (o : Option X) → IsSome o → (x : X) × (o ≡ Some x)
some_found None some = absurd cc
some_found (Some x) some = (x, refl)

-- where the numbers of all are below the next one
found_below : {X : Type 0} (number : X → ℕ) (n next : ℕ) (xs : List X) → All (λ x. number x < next) xs → IsSome (find (λ x. n == number x) xs) → n < next
found_below {X} number n next xs below some =
    let x = some_found (find (λ x. n == number x) xs) some in
    let f = find_from (λ x. n == number x) xs x.0 x.1 in
    let lt : number x.0 < next = all_in_is (λ (y : X). number y < next) xs below x.0 f.0 in
    let same : n ≡ number x.0 = eqb-true n (number x.0) f.1 in
    omega (arith, lt, same)

volume_below : (k : Kept) (id : VolId) → IsSoundKept k → IsSome (volume_with k.tables id) → id.0 < k.next_volume
volume_below k id s some = found_below (λ (v : Volume). v.id.0) id.0 k.next_volume k.tables.volumes s.books.tables.new_volume some

group_below : (k : Kept) (id : GroupId) → IsSoundKept k → IsSome (group_with k.tables id) → id.0 < k.next_group
group_below k id s some = found_below (λ (g : Group). g.id.0) id.0 k.next_group k.tables.groups s.books.tables.new_group some

-- ---- groups

good_group : (k : Kept) (o : Option GroupId) → IsSoundKept k → ForSome o (λ g. IsSome (group_with k.tables g)) → IsGroupId o
good_group k None s of = tt
good_group k (Some g) s of = let lt = group_below k g s (of g refl) in let few = s.group_ids in omega (arith, lt, few)

-- ---- slots

abbrev IsGoodSlot : MetaSlot → Type 0
IsGoodSlot m = IsMappingId m.map

abbrev IsGoodChain : MetaChain → Type 0
IsGoodChain c = All IsGoodSlot c.slots

none_of : {X : Type 0} (P : X → Type 0) → All P []
none_of P = all_from P [] (λ y c. absurd (none_in y c))

one_more : {X : Type 0} (P : X → Type 0) (x : X) (xs : List X) → P x → All P xs → All P (x ∷ xs)
one_more P x xs p ps = all_from P (x ∷ xs) (λ y c. elim (in_cases x y xs c) [
  | inl e ↦ subst P e p
  | inr later ↦ all_in_is P xs ps y later
])

good_before : (s : Slot) (chains : List MetaChain) → IsGoodSlot (slot_told s) → All IsGoodChain chains → All IsGoodChain (before_chains s chains)
good_before s [] good all = one_more IsGoodChain (alone_told s) [] (one_more IsGoodSlot (slot_told s) [] good (none_of IsGoodSlot)) (none_of IsGoodChain)
good_before s (c ∷ cs) good all = by (c.label == s.chain)
  where
    joined : MetaChain
    joined = record c { slots = slot_told s ∷ c.slots }

    by : (b : Bool) → All IsGoodChain (cond b (joined ∷ cs) (alone_told s ∷ c ∷ cs))
    by true = one_more IsGoodChain joined cs (one_more IsGoodSlot (slot_told s) c.slots good (head_of IsGoodChain c cs all)) (rest_of IsGoodChain c cs all)
    by false = one_more IsGoodChain (alone_told s) (c ∷ cs) (one_more IsGoodSlot (slot_told s) [] good (none_of IsGoodSlot)) all

good_chains : (ss : List Slot) → ((i : ℕ) → i < length ss → IsGoodSlot (slot_told (slot_at ss i))) → All IsGoodChain (chains_told ss)
good_chains [] good = none_of IsGoodChain
good_chains (s ∷ ss) good = good_before s (chains_told ss) (good 0 (omega arith)) (good_chains ss (λ i il. good (suc i) (omega (arith, il))))

good_slot : (k : Kept) (slot : Slot) (o : Option ℕ) → slot.mapping ≡ o → IsSoundKept k → ForSome o (λ n. (m : Mapping) × Contains k.tables.mappings m × (m.id.0 ≡ n)) → IsGoodSlot (slot_told slot)
good_slot k slot None e s of = subst (λ (o : Option ℕ). IsGoodSlot (slot_told (record slot { mapping = o }))) (sym e) tt
good_slot k slot (Some n) e s of =
    let x = of n refl in
    let lt : x.0.id.0 < k.next_mapping = all_in_is (λ (m : Mapping). m.id.0 < k.next_mapping) k.tables.mappings s.books.tables.new_mapping x.0 x.1 in
    let few = s.mapping_ids in
    let same = x.2 in
    subst (λ (o : Option ℕ). IsGoodSlot (slot_told (record slot { mapping = o }))) (sym e) (omega (arith, lt, few, same))

-- ---- rows

row_volumes : (k : Kept) (row : Row) → IsSoundKept k → IsOfMapping k.tables row → (row.source < k.next_volume) × (row.target < k.next_volume)
row_volumes k row s of =
    let m : IsOfTables k.tables of.mapping = s.books.agree.mappings of.mapping of.there in
    (subst (λ (n : ℕ). n < k.next_volume) of.source_is (volume_below k of.mapping.source s m.source), subst (λ (n : ℕ). n < k.next_volume) of.target_is (volume_below k of.mapping.target s m.target))

good_source : (k : Kept) (row : Row) → IsSoundKept k → IsOfMapping k.tables row → IsVolumeId (changes_told row).last_source
good_source k row s of = by (row.into == row.target)
  where
    by : (b : Bool) → let id : VolId = record { 0 = cond b row.source row.target } in IsVolumeId (Some id)
    by true = let lt = (row_volumes k row s of).0 in let few = s.volume_ids in omega (arith, lt, few)
    by false = let lt = (row_volumes k row s of).1 in let few = s.volume_ids in omega (arith, lt, few)

good_target : (k : Kept) (row : Row) → IsSoundKept k → IsOfMapping k.tables row → IsInto row → IsVolumeId (changes_told row).last_target
good_target k row s of into =
    let v = row_volumes k row s of in
    let few = s.volume_ids in
    elim into [
      | inl e ↦ let lt = v.0 in omega (arith, lt, few, e)
      | inr e ↦ let lt = v.1 in omega (arith, lt, few, e)
    ]

-- ---- all

pub good_ids : (k : Kept) → IsSoundKept k → HasGoodIds (meta_of k)
good_ids k s =
    record {
      groups = all_from (λ (m : Mapping). IsGroupId m.group) k.tables.mappings (λ m c. good_group k m.group s (s.books.agree.mappings m c).group);
      slots = good_chains k.sheet.slots (λ i il. good_slot k (slot_at k.sheet.slots i) (slot_at k.sheet.slots i).mapping refl s (s.books.agree.owned i il));
      sources = All-map (λ (c : MetaChanges). IsVolumeId c.last_source) changes_told k.rows (λ i d il. good_source k (get_or k.rows i d) s (s.rows.each i d il));
      targets = All-map (λ (c : MetaChanges). IsVolumeId c.last_target) changes_told k.rows (λ i d il. good_target k (get_or k.rows i d) s (s.rows.each i d il) (s.into i d il));
    }

-- And in one without a volume.
pub good_without : (gone : VolId) (image : MetaImage) → HasGoodIds image → HasGoodIds (leaving_out gone image)
good_without gone image good =
    record {
      groups = good.groups;
      slots = all_from IsGoodChain (filter (begins_else gone) image.chains) (λ c inside. all_in_is IsGoodChain image.chains good.slots c (filter_from (begins_else gone) image.chains c inside).0);
      sources = good.sources;
      targets = good.targets;
    }
