-- A volume that is made, or refused.
use Rattle.std.proofs.Common.{◌≡◌, ◌∙◌, sym, ap, ℕ, ◌+◌, ◌*◌, ◌/◌, ◌%◌, ◌<◌, Bool, true, false, not, ◌||◌, ◌==◌, min, nat_le, nat_lt, List, [], ◌∷◌, ◌++◌, length, Option, Some, None, codes, refl, arith, inl, inr}
use Rattle.std.proofs.lemmas.Bool.{cases_eq, eq-eqb, or_left, or_right}
use Rattle.std.specs.List.{Contains}
use Rattle.std.specs.Prelude.{IsSome}
use Rattle.fc_base.specs.Grain.{grain_bytes}
use Rattle.fc_base.specs.Pools.{Pool, of_kind, least_of_kind}
use Rattle.fc_base.specs.Tables.{volume_with}
use Rattle.fc_base.specs.declared.command.Command.TheVariants.{Mkvdisk}
use Rattle.fc_base.specs.declared.command.Unit.{Unit as SizeUnit}
use Rattle.fc_base.specs.declared.decision.Decision.{Decision}
use Rattle.fc_base.specs.declared.disk.DiskKind.{DiskKind}
use Rattle.fc_base.specs.declared.fault.Kind.TheVariants.{Vdisk}
use Rattle.fc_base.specs.declared.fault.Refusal.{Refusal}
use Rattle.fc_base.specs.declared.fault.Refusal.TheVariants.{Limit, NoDisk, BadValue}
use Rattle.fc_base.specs.declared.fault.ValueOf.TheVariants.{Size}
use Rattle.fc_base.specs.declared.request.Reply.{Reply}
use Rattle.fc_base.specs.declared.request.Reply.TheVariants.{Made, Refused}
use Rattle.fc_base.specs.declared.size.GrainSize.{GrainSize}
use Rattle.fc_base.specs.declared.volume.Mapping.{Mapping}
use Rattle.fc_base.specs.declared.volume.Volume.{Volume}
use Rattle.fc_books.proofs.Unchanged.{work_events-made}
use Rattle.fc_books.specs.Books.{Books, Deed, nothing}
use Rattle.fc_books.specs.Deciding.{decide, answered, with_work}
use Rattle.fc_books.specs.Making.{make_volume}
use Rattle.fc_books.specs.Refused.{mkvdisk_refused, name_taken}
use Rattle.fc_books.specs.Work.{work_events}
use Rattle.fc_desk.specs.Names.{name_or}
use Rattle.fc_objects.specs.Volumes.{volume_refused, size_refused}
use Rattle.fc_desk.specs.Refusing.{or_else}
use Rattle.fc_entry.specs.Refused.{first_of, where_, lacks_disk, all_grains}
use Rattle.fc_entry.specs.Volumes.{unit_bytes, kind_of, volume_name}

-- ---- disks

above_zero : (n : ℕ) → 0 < n → (n == 0) ≡ false
above_zero n lt = grind (arith, lt)

neither : (a b : Bool) → a ≡ false → b ≡ false → (a || b) ≡ false
neither a b p q = rw p q

min_zero : (a b : ℕ) → (min a b == 0) ≡ ((a == 0) || (b == 0))
min_zero a b =
    elim (cases_eq a 0) [
      | inl none ↦ eq-eqb (min a b) 0 (omega (arith, none)) ∙ sym (or_left (a == 0) (b == 0) (eq-eqb a 0 none))
      | inr some ↦
          elim (cases_eq b 0) [
            | inl none ↦ eq-eqb (min a b) 0 (omega (arith, none)) ∙ sym (or_right (a == 0) (b == 0) (eq-eqb b 0 none))
            | inr other ↦
                above_zero (min a b) (omega (arith, some, other))
                ∙ sym (neither (a == 0) (b == 0) (above_zero a (omega (arith, some))) (above_zero b (omega (arith, other))))
          ]
    ]

alone : (b : Bool) → b ≡ (b || false)
alone true = refl
alone false = refl

pub least_zero : (kind : DiskKind) (pools : List Pool) → 0 < length pools → (least_of_kind kind pools == 0) ≡ lacks_disk kind pools
least_zero kind [] lt = grind (arith, lt)
least_zero kind (p ∷ []) lt = alone (of_kind kind p == 0)
least_zero kind (p ∷ q ∷ ps) lt =
    min_zero (of_kind kind p) (least_of_kind kind (q ∷ ps)) ∙ ap (λ b. (of_kind kind p == 0) || b) (least_zero kind (q ∷ ps) (omega arith))

-- ---- made

pub made_volume :
    (restarts : ℕ → List Bool) (b : Books) (v : Volume) (reply : Reply) (draft : Deed) (decision : Decision) →
    ((m : Mapping) → Contains b.tables.mappings m → IsSome (volume_with b.tables m.target)) →
    draft ≡ make_volume v →
    decision ≡ record { reply = reply; effects = draft.effects; events = draft.events ++ work_events b; changes = draft.changes } →
    decision ≡ with_work restarts b reply (make_volume v)
made_volume restarts b v reply draft decision targets draft_is decision_is =
    let concluded : Deed → List _ → Decision = λ d work. record { reply = reply; effects = d.effects; events = d.events ++ work; changes = d.changes } in
    decision_is ∙ ap (λ d. concluded d (work_events b)) draft_is ∙ ap (concluded (make_volume v)) (sym (work_events-made restarts b v targets))

-- ---- the refusals, one after the other

three_first : (x y z : Option Refusal) (rest : List (Option Refusal)) → first_of (x ∷ y ∷ z ∷ rest) ≡ or_else (first_of (x ∷ y ∷ z ∷ [])) (first_of rest)
three_first (Some r) y z rest = refl
three_first None (Some r) z rest = refl
three_first None None (Some r) rest = refl
three_first None None None rest = refl

two_first : (x y : Option Refusal) → first_of (x ∷ y ∷ []) ≡ or_else x y
two_first (Some r) y = refl
two_first None (Some r) = refl
two_first None None = refl

volume_name-or : (given : Option (List ℕ)) (id : ℕ) → volume_name given id ≡ name_or given (codes "vdisk") id
volume_name-or None id = refl
volume_name-or (Some name) id = refl

by_stages : (grain : GrainSize) (b : Books) (given : Option (List ℕ)) (size : ℕ) (unit : Option SizeUnit) (thin : Bool) → mkvdisk_refused grain b given size unit thin ≡ volume_refused grain b (volume_name given b.next_volume) (size * unit_bytes unit) thin
by_stages grain b given size unit thin =
    let bytes = size * unit_bytes unit in
    let taken = name_taken b Vdisk (volume_name given b.next_volume) in
    let lacks = where_ (lacks_disk (kind_of thin) b.pools) NoDisk in
    three_first
    (where_ ((bytes == 0) || not (bytes % grain_bytes grain == 0)) (BadValue Size))
    (where_ (nat_le 512 (length b.tables.volumes)) (Limit 512))
    (where_ (nat_lt 8192 (all_grains b.tables.volumes + bytes / grain_bytes grain)) (Limit 8192))
    (taken ∷ lacks ∷ [])
    ∙ ap (or_else (size_refused grain b.tables bytes)) (two_first taken lacks)

by_name : (grain : GrainSize) (b : Books) (given : Option (List ℕ)) (name : List ℕ) (size : ℕ) (unit : Option SizeUnit) (thin : Bool) (bytes : ℕ) → name ≡ name_or given (codes "vdisk") b.next_volume → bytes ≡ size * unit_bytes unit → mkvdisk_refused grain b given size unit thin ≡ volume_refused grain b name bytes thin
by_name grain b given name size unit thin bytes name_is bytes_is =
    by_stages grain b given size unit thin
    ∙ ap (λ n. volume_refused grain b n (size * unit_bytes unit) thin) (volume_name-or given b.next_volume ∙ sym name_is)
    ∙ ap (λ n. volume_refused grain b name n thin) (sym bytes_is)

pub volume_is_refused :
    (restarts : ℕ → List Bool) (grain : GrainSize) (b : Books) (given : Option (List ℕ)) (name : List ℕ) (size : ℕ) (unit : Option SizeUnit) (thin : Bool) (bytes : ℕ) (found : Option Refusal) (refusal : Refusal) (decision : Decision) →
    name ≡ name_or given (codes "vdisk") b.next_volume → bytes ≡ size * unit_bytes unit → found ≡ volume_refused grain b name bytes thin → found ≡ Some refusal →
    decision ≡ with_work restarts b (Refused refusal) nothing →
    decision ≡ decide restarts grain b (Mkvdisk given size unit thin) None
volume_is_refused restarts grain b given name size unit thin bytes found refusal decision name_is bytes_is found_is is decision_is =
    decision_is ∙ sym (ap (λ o. answered restarts grain b (Mkvdisk given size unit thin) o None) (by_name grain b given name size unit thin bytes name_is bytes_is ∙ sym found_is ∙ is))

pub volume_is_made :
    (restarts : ℕ → List Bool) (grain : GrainSize) (b : Books) (given : Option (List ℕ)) (name : List ℕ) (size : ℕ) (unit : Option SizeUnit) (thin : Bool) (bytes grains : ℕ) (found : Option Refusal) (decision : Decision) →
    name ≡ name_or given (codes "vdisk") b.next_volume → bytes ≡ size * unit_bytes unit → grains ≡ bytes / grain_bytes grain → found ≡ volume_refused grain b name bytes thin → found ≡ None →
    decision ≡ with_work restarts b (Made Vdisk b.next_volume) (make_volume record { id = record { 0 = b.next_volume }; name = name; grains = grains; kind = kind_of thin }) →
    decision ≡ decide restarts grain b (Mkvdisk given size unit thin) None
volume_is_made restarts grain b given name size unit thin bytes grains found decision name_is bytes_is grains_is found_is is decision_is =
    let made : List ℕ → ℕ → Decision = λ n g. with_work restarts b (Made Vdisk b.next_volume) (make_volume record { id = record { 0 = b.next_volume }; name = n; grains = g; kind = kind_of thin }) in
    decision_is
    ∙ ap (λ n. made n grains) (name_is ∙ sym (volume_name-or given b.next_volume))
    ∙ ap (made (volume_name given b.next_volume)) (grains_is ∙ ap (λ n. n / grain_bytes grain) bytes_is)
    ∙ sym (ap (λ o. answered restarts grain b (Mkvdisk given size unit thin) o None) (by_name grain b given name size unit thin bytes name_is bytes_is ∙ sym found_is ∙ is))
