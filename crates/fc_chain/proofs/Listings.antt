-- A directory of no slots, and one with the same lists.
use Rattle.std.proofs.Common.{◌≡◌, ℕ, ◌<◌, ◌≤◌, List, [], refl, sym, subst, ◌∙◌, arith}
use Rattle.fc_base.specs.Sheet.{Slot}
use Rattle.fc_places.specs.declared.index.By.{By}
use Rattle.fc_places.specs.declared.index.By.TheVariants.{Birth, Mapping, Volume}
use Rattle.fc_places.specs.declared.index.Entry.{Entry}
use Rattle.fc_places.specs.Indexing.{IsIndexOf}
use Rattle.fc_places.specs.Directory.{Directory, ListsSlots}

index_empty : (by : By) (entries : List Entry) → entries ≡ [] → IsIndexOf [] by entries
index_empty by entries e =
    let P : List Entry → Type 0 = λ z. IsIndexOf [] by z in
    subst P (sym e) (record { only = λ i lt. absurd (omega arith); each = λ k x lt q. absurd (omega arith); once = λ k. omega arith; rising = λ i j le lt. absurd (omega arith) })

pub lists_empty : (d : Directory) → d.births.entries ≡ [] → d.mappings.entries ≡ [] → d.volumes.entries ≡ [] → d.count ≡ 0 → ListsSlots [] d
lists_empty d a b c n = record { count = n; births = index_empty Birth d.births.entries a; mappings = index_empty Mapping d.mappings.entries b; volumes = index_empty Volume d.volumes.entries c }

pub lists_same : (slots : List Slot) (d e : Directory) → ListsSlots slots d → e.births.entries ≡ d.births.entries → e.mappings.entries ≡ d.mappings.entries → e.volumes.entries ≡ d.volumes.entries → e.count ≡ d.count → ListsSlots slots e
lists_same slots d e l a b c n = record {
  count = n ∙ l.count;
  births = subst (λ (z : List Entry). IsIndexOf slots Birth z) (sym a) l.births;
  mappings = subst (λ (z : List Entry). IsIndexOf slots Mapping z) (sym b) l.mappings;
  volumes = subst (λ (z : List Entry). IsIndexOf slots Volume z) (sym c) l.volumes;
}
