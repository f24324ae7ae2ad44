-- Metadata folded says what it said.
use Rattle.std.proofs.Common.{◌≡◌, ℕ, ◌<◌, Some, None, List, length, refl, sym, ap, subst, ◌∙◌, arith, inl, inr}
use Rattle.fc_base.specs.Sheet.{Sheet, slot_at}
use Rattle.fc_base.specs.SheetFacts.{IsSound}
use Rattle.fc_base.specs.SheetFits.{FitsDrop}
use Rattle.fc_base.specs.SheetStep.{dropped}
use Rattle.fc_base.specs.declared.size.GrainSize.{GrainSize}
use Rattle.fc_books.specs.Books.{Books}
use Rattle.fc_books.specs.Sound.{AreTables, AreSound}
use Rattle.fc_changed.specs.Row.{Row}
use Rattle.fc_decided.proofs.Joint.{Joint, joint_from, agree_from, joint_kept, kept_left}
use Rattle.fc_decided.proofs.Leaving.{Left, OfSlot, old_left}
use Rattle.fc_legal.specs.Whole.{Whole}
use Rattle.fc_sheets.proofs.Events.{dropped_sound}
use Rattle.fc_sheets.proofs.Finding.{birth_place_at}
use Rattle.fc_sheets.proofs.Steps.{Nobody}
use Rattle.fc_kept.specs.Drops.{DropsTo, DropsTo.same, DropsTo.drop}
use Rattle.fc_kept.specs.Kept.{Kept}
use Rattle.fc_kept.specs.Sound.{books_of, IsSoundKept}
use Rattle.fc_kept.proofs.Dropping.{small_of}
use Rattle.law_crash.specs.Points.{Point, StandsFor}
use Rattle.law_crash.specs.Doing.{folded, MayFold, with_kept}

-- ---- books stay sound without old slots that nobody needs, and that are no mapping's

pub left_dropped : (s : Sheet) (birth : ℕ) → IsSound s → (f : FitsDrop s.slots birth) → Left s.slots (dropped birth s).slots (OfSlot s.slots f.place)
left_dropped s birth sound f =
    let there : f.place < length s.slots = (birth_place_at s.slots birth f.place f.is_there).0 in
    subst (λ (z : Sheet). Left s.slots z.slots (OfSlot s.slots f.place)) (sym (small_of s birth f)) (old_left s.slots f.place sound.mappings sound.one_live there f.is_old)

one_dropped : (b : Books) (birth : ℕ) (f : FitsDrop b.sheet.slots birth) → (slot_at b.sheet.slots f.place).mapping ≡ None → AreSound b → AreSound (record b { sheet = dropped birth b.sheet })
one_dropped b birth f none a =
    let s : Sheet = b.sheet in
    let p : ℕ = f.place in
    let next : Books = record b { sheet = dropped birth s } in
    let left : Left s.slots (dropped birth s).slots (OfSlot s.slots p) = left_dropped s birth a.sheet f in
    let sound : IsSound (dropped birth s) = dropped_sound s birth a.sheet f in
    let joint : Joint b.tables (dropped birth s).slots Nobody =
    joint_kept b.tables s.slots (dropped birth s).slots (OfSlot s.slots p) Nobody Nobody (kept_left s.slots (dropped birth s).slots (OfSlot s.slots p) left)
    (λ n e. absurd (let q : None ≡ Some n = sym none ∙ e in cc)) (λ n x. x) (joint_from b a.sheet.one_live a.agree) in
    let tables : AreTables next = record {
      volumes = a.tables.volumes;
      mappings = a.tables.mappings;
      groups = a.tables.groups;
      new_volume = a.tables.new_volume;
      new_mapping = a.tables.new_mapping;
      new_group = a.tables.new_group;
    } in
    record {
      tables = tables;
      flags = record { rising = a.flags.rising; given = a.flags.given };
      sheet = sound;
      agree = agree_from next sound (record { tables = tables; of_tables = a.agree.mappings; one_busy = a.agree.one_busy }) joint;
    }

books_dropped : (b : Books) → {s t : Sheet} → DropsTo s t → AreSound (record b { sheet = s }) → AreSound (record b { sheet = t })
books_dropped b same a = a
books_dropped b (drop {s = s} {b = birth} f none rest) a = books_dropped b rest (one_dropped (record b { sheet = s }) birth f none a)

births_dropped : {s t : Sheet} → DropsTo s t → t.births ≡ s.births
births_dropped same = refl
births_dropped (drop {s = s} {b = birth} f none rest) = births_dropped rest ∙ ap (λ (z : Sheet). z.births) (small_of s birth f)

-- ---- so is what metadata says

folded_sound : (k : Kept) (chains : Sheet) → DropsTo k.sheet chains → IsSoundKept k → IsSoundKept (folded chains k)
folded_sound k chains d s =
    let e : chains.births ≡ k.sheet.births = births_dropped d in
    record {
      books = books_dropped (books_of k) d s.books;
      rows = s.rows;
      into = s.into;
      lost = s.lost;
      grains = s.grains;
      births = let b = s.births in omega (arith, e, b);
      volume_ids = s.volume_ids;
      mapping_ids = s.mapping_ids;
      group_ids = s.group_ids;
    }

folded_stands : (grain : GrainSize) (w : Whole) (least : List Row) (p : Point) → StandsFor grain w least p → StandsFor grain w least (with_kept (folded w.books.sheet p.kept) p)
folded_stands grain w least p st =
    let s = st.says in
    record {
      says = record {
        sound = folded_sound p.kept w.books.sheet s.slots s.sound;
        tables = s.tables;
        next_volume = s.next_volume;
        next_mapping = s.next_mapping;
        next_group = s.next_group;
        slots = same;
        rows = s.rows;
        count = s.count;
        fit = s.fit;
      };
      shows = st.shows;
    }

pub fold_stands : (grain : GrainSize) (w : Whole) (least : List Row) (p : Point) (k : Kept) → MayFold w.books.sheet p.kept k → StandsFor grain w least p → StandsFor grain w least (with_kept k p)
fold_stands grain w least p k m st =
    elim m [
      | inl e ↦ subst (λ (z : Kept). StandsFor grain w least (with_kept z p)) (sym e) st
      | inr e ↦ subst (λ (z : Kept). StandsFor grain w least (with_kept z p)) (sym e) (folded_stands grain w least p st)
    ]

pub fold_rows : (chains : Sheet) (old new : Kept) → MayFold chains old new → new.rows ≡ old.rows
fold_rows chains old new m =
    elim m [
      | inl e ↦ ap (λ (z : Kept). z.rows) e
      | inr e ↦ ap (λ (z : Kept). z.rows) e
    ]
