-- What a command leaves, with metadata made anew over the same disks, stands for the history with its entry.
use Rattle.std.proofs.Common.{◌≡◌, ◌≢◌, ℕ, suc, ◌+◌, ◌^◌, ◌<◌, ◌≤◌, Bool, true, false, cond, ◌&&◌, ◌==◌, Option, Some, None, IsSome, List, [], ◌∷◌, ◌++◌, length, get_or, set, map, fold, find, replicate, not, All, Contains, refl, sym, ap, subst, ◌∙◌, arith, ◌⊎◌, inl, inr}
use Rattle.std.specs.List.{list_any}
use Rattle.std.proofs.lemmas.Bool.{cases_eq, eq-eqb, ne_eqb, eqb-true, or_cases, and_parts}
use Rattle.std.proofs.lemmas.List.Elements.{Contains-append_cases}
use Rattle.std.proofs.lemmas.List.FromFn.{get_or-map-range_with_len}
use Rattle.fc_alike.specs.Law.{Follows}
use Rattle.fc_alike.proofs.Lawful.{follow_law_holds}
use Rattle.fc_alike.proofs.Sets.{length_with}
use Rattle.fc_base.specs.Sheet.{Slot, Sheet, slot_at, column}
use Rattle.fc_base.specs.Tables.{Tables, volume_with}
use Rattle.fc_base.specs.declared.command.Command.{Command}
use Rattle.fc_base.specs.declared.decision.Decision.{Decision}
use Rattle.fc_base.specs.declared.decision.LaneEvent.{LaneEvent}
use Rattle.fc_base.specs.declared.decision.LaneEvent.TheVariants.{Make, Remove}
use Rattle.fc_base.specs.declared.ids.VolId.{VolId}
use Rattle.fc_base.specs.declared.size.GrainSize.{GrainSize}
use Rattle.fc_base.specs.declared.volume.Volume.{Volume}
use Rattle.fc_books.specs.After.{sheet_after}
use Rattle.fc_books.specs.Books.{Books}
use Rattle.fc_books.specs.Deciding.{IsLoopOf, settle}
use Rattle.fc_books.specs.Sound.{AreSound, AreTables, HasGrains}
use Rattle.fc_changed.specs.Notes.{Note, has, grains_with, joins}
use Rattle.fc_changed.specs.Notes.Note.{Began, Wrote, Left, Cut, Forgotten}
use Rattle.fc_changed.specs.Row.{Row, is_of, row_names, row_began, row_wrote, row_left, row_cut, with_none, with_all, with_new, after_note}
use Rattle.fc_decided.proofs.Lists.{all_from, map_from, filter_from, none_in, first_in, later_in, map_in, in_cases}
use Rattle.fc_decided.proofs.Ordered.{found_by_id}
use Rattle.fc_entry.specs.Picture.{Lost, Picture, zeros}
use Rattle.fc_follow.specs.Alike.{AreAlike}
use Rattle.fc_follow.specs.Following.{Followed, event_notes, followed_event, restarts, rows_event}
use Rattle.fc_kept.specs.Disks.{NamedDisk, on_disk}
use Rattle.fc_kept.specs.Drops.{DropsTo.same}
use Rattle.fc_kept.specs.Images.{size_in}
use Rattle.fc_kept.specs.Kept.{LostGrains, Kept, is_lost_in}
use Rattle.fc_kept.specs.Marks.{IsMarked, AreMarked, LeastLeft, LeastLeft.decided as least_decided, LeastLeft.unsettled as least_unsettled, LeastLeft.settled_alone as least_settled, least_by}
use Rattle.fc_kept.specs.Recoverable.{Says}
use Rattle.fc_kept.specs.Sound.{books_of, AreLost, IsInto, IsSoundKept}
use Rattle.fc_kept.proofs.Marking.{mark_law}
use Rattle.fc_kept.proofs.Sizes.{size_is, slot_size}
use Rattle.fc_legal.specs.Lawful.{FitAsOne, IsLawful}
use Rattle.fc_legal.specs.Stands.{AreRows, IsOfMapping}
use Rattle.fc_legal.specs.Steps.{after_settling, decided_on, left_by, one_more, rows_after}
use Rattle.fc_legal.specs.Whole.{Whole, all_followed, lane_at, lane_of_grain, single_lane}
use Rattle.fc_moves.proofs.Readers.{IsHolder, holder_is}
use Rattle.fc_pictures.specs.Law.{StoredAfter}
use Rattle.fc_rules.specs.LaneTold.{LaneOf, place_of}
use Rattle.fc_rules.specs.Shows.{Stored, Shown, Shows}
use Rattle.law_crash.specs.Leaving.{AreFit, AreUnnamed, GoesOn, HaveTheirDisks, Leaves, Leaves.anew, Leaves.unsettled, lost_of, made_anew}
use Rattle.law_crash.specs.Points.{Point, StandsFor, on_disks, stored_by}
use Rattle.law_crash.proofs.Coming.{AreAbove, IsAbove, MakesNew, decide_new, next_later, settle_new}
use Rattle.law_crash.proofs.Fitting.{decided_fit, fits_now, settled_fit}
use Rattle.law_crash.proofs.Found.{chains_sound}
use Rattle.law_crash.proofs.Lost.{all_in_is, row_of}
use Rattle.law_crash.proofs.Noting.{stands_counted}
use Rattle.law_stands.proofs.Few.{one_of_all}
use Rattle.law_stands.proofs.Standing.{command_lawful, settling_lawful, stands_law_holds}
use Rattle.law_stands.specs.Reached.{IsReached}

-- ---- the events leave what is stored as it is, since a volume that comes stores zeros

abbrev NullAbove : GrainSize → ℕ → Stored → Type 0
NullAbove grain n stored = (v g : ℕ) → n ≤ v → stored v g ≡ zeros grain

stored_stays : (grain : GrainSize) (n : ℕ) (stored : Stored) (e : LaneEvent) → IsAbove n e → NullAbove grain n stored → StoredAfter (single_lane grain) stored e stored
stored_stays grain n stored (Make volume grains kind) above null = (λ g gl. null volume.0 g above, λ w g ne. refl)
stored_stays grain n stored (Remove volume) above null = λ w g ne. refl
stored_stays grain n stored e above null = λ w g. refl

follows_all : (grain : GrainSize) (n : ℕ) (f : Followed) (es : List LaneEvent) (stored : Stored) → Follows f stored → FitAsOne grain f es → AreAbove n es → NullAbove grain n stored →
    Follows (fold (followed_event (single_lane grain)) f es) stored
follows_all grain n f [] stored x fit above null = x
follows_all grain n f (e ∷ es) stored x fit above null =
    follows_all grain n (followed_event (single_lane grain) f e) es stored
    (follow_law_holds.event (single_lane grain) f e stored stored x fit.0 fit.1 (stored_stays grain n stored e above.0 null)) fit.2 above.1 null

-- ---- nothing is stored of volumes that are yet to come

never_lost : (rows : List LostGrains) (v g : ℕ) → ((row : LostGrains) → Contains rows row → row.volume ≢ v) → is_lost_in rows v g ≡ false
never_lost [] v g none = refl
never_lost (row ∷ rows) v g none =
    row_of row rows v g false (ne_eqb row.volume v (none row (first_in row rows)))
    ∙ never_lost rows v g (λ r c. none r (later_in row r rows c))

-- a row of lost grains is of a volume of the tables
row_is_given : (k : Kept) (row : LostGrains) → IsSoundKept k → Contains k.lost row → row.volume < k.next_volume
row_is_given k row sound c =
    let named : Contains (map (λ (v : Volume). v.id.0) k.tables.volumes) row.volume =
    subst (λ (z : List ℕ). Contains z row.volume) sound.lost.volumes (map_in (λ (r : LostGrains). r.volume) k.lost row c) in
    let v = map_from (λ (v : Volume). v.id.0) k.tables.volumes row.volume named in
    let given : v.0.id.0 < k.next_volume = all_in_is (λ (z : Volume). z.id.0 < k.next_volume) k.tables.volumes sound.books.tables.new_volume v.0 v.1 in
    subst (λ (n : ℕ). n < k.next_volume) v.2 given

not_given : (k : Kept) (v g : ℕ) → IsSoundKept k → k.next_volume ≤ v → is_lost_in k.lost v g ≡ false
not_given k v g sound le = never_lost k.lost v g (λ row c e. let lt = row_is_given k row sound c in absurd (omega (arith, lt, e, le)))

null_above : (grain : GrainSize) (w : Whole) (least : List Row) (p : Point) → StandsFor grain w least p → AreUnnamed w p.disks → NullAbove grain w.books.next_volume (stored_by grain w p)
null_above grain w least p st unnamed v g le =
    let i : ℕ = lane_of_grain w g in
    let l : LaneOf = lane_at grain w i in
    let given : p.kept.next_volume ≤ v = subst (λ (n : ℕ). n ≤ v) (sym st.says.next_volume) le in
    ap (λ (b : Bool). cond b Lost (on_disks grain w p.disks v g)) (not_given p.kept v g st.says.sound given)
    ∙ ap (λ (o : Option NamedDisk). on_disk l o (place_of l g)) (unnamed i v le)

-- ---- lost grains stay lost

found_first : (v : ℕ) (z : Volume) (zs : List Volume) (b : Bool) → (v == z.id.0) ≡ b → find (λ (y : Volume). v == y.id.0) (z ∷ zs) ≡ cond b (Some z) (find (λ (y : Volume). v == y.id.0) zs)
found_first v z zs b e = ap (λ (c : Bool). cond c (Some z) (find (λ (y : Volume). v == y.id.0) zs)) e

lost_again : (lost : List LostGrains) (vs : List Volume) (v g : ℕ) (x : Volume) → find (λ (y : Volume). v == y.id.0) vs ≡ Some x → g < x.grains → is_lost_in (map (lost_of lost) vs) v g ≡ is_lost_in lost v g
lost_again lost [] v g x e gl = absurd cc
lost_again lost (z ∷ zs) v g x e gl =
    let rest : List LostGrains = map (lost_of lost) zs in
    elim (cases_eq v z.id.0) [
      | inr ne ↦ row_of (lost_of lost z) rest v g false (ne_eqb z.id.0 v (λ q. ne (sym q)))
          ∙ lost_again lost zs v g x (sym (found_first v z zs false (ne_eqb v z.id.0 ne)) ∙ e) gl
      | inl q ↦ let same : z ≡ x = (let f : Some z ≡ Some x = sym (found_first v z zs true (eq-eqb v z.id.0 q)) ∙ e in cc) in
          let below : g < z.grains = subst (λ (y : Volume). g < y.grains) (sym same) gl in
          row_of (lost_of lost z) rest v g true (eq-eqb z.id.0 v (sym q))
          ∙ (get_or-map-range_with_len (is_lost_in lost z.id.0) 0 z.grains g g false below (omega arith)
          ∙ ap (λ (n : ℕ). is_lost_in lost n g) (sym q))
    ]

-- as many as the tables have
abbrev volume_id : Volume → ℕ
volume_id v = v.id.0

abbrev volume_name : Volume → List ℕ
volume_name v = v.name

same_volumes : (lost : List LostGrains) (vs : List Volume) → map (λ (row : LostGrains). row.volume) (map (lost_of lost) vs) ≡ map (λ (v : Volume). v.id.0) vs
same_volumes lost [] = refl
same_volumes lost (v ∷ vs) = ap (λ (z : List ℕ). v.id.0 ∷ z) (same_volumes lost vs)

lost_by_left : (b : Books) (lost : List LostGrains) → AreTables b → AreLost b.tables (map (lost_of lost) b.tables.volumes)
lost_by_left b lost o =
    record {
      volumes = same_volumes lost b.tables.volumes;
      sizes = all_from (λ (row : LostGrains). length row.lost ≡ size_in b.tables record { 0 = row.volume }) (map (lost_of lost) b.tables.volumes) (λ row c.
          let v = map_from (lost_of lost) b.tables.volumes row c in
          let found : volume_with b.tables v.0.id ≡ Some v.0 = found_by_id volume_id volume_name b.tables.volumes v.0 o.volumes v.1 in
          subst (λ (r : LostGrains). length r.lost ≡ size_in b.tables record { 0 = r.volume }) v.2
          (length_with (is_lost_in lost v.0.id.0) v.0.grains ∙ sym (size_is b.tables v.0.id v.0 found)));
    }

-- ---- so each slot's volume stores what it did

abbrev pub SameOfSlots : List Slot → Stored → Stored → Type 0
SameOfSlots slots old new = (k g : ℕ) → k < length slots → g < length (slot_at slots k).held → new (slot_at slots k).volume g ≡ old (slot_at slots k).volume g

held_below : (held : List Bool) (g : ℕ) → has held g ≡ true → g < length held
held_below [] g e = absurd cc
held_below (b ∷ held) ℕ.zero e = omega arith
held_below (b ∷ held) (ℕ.suc g) e = let lt = held_below held g e in omega (arith, lt)

shown_same : (slots : List Slot) (picture : Picture) (old new : Stored) (k : ℕ) → k < length slots → SameOfSlots slots old new → Shown slots picture old k → Shown slots picture new k
shown_same slots picture old new k kl alike x =
    record {
      plain = x.plain;
      there = x.there;
      nows = x.nows;
      unders = x.unders;
      now = λ g h gl e.
          let i : IsHolder (column slots g) k h = holder_is (column slots g) k h e in
          let before : h ≤ k = i.before in
          x.now g h gl e ∙ sym (alike h g (omega (arith, before, kl)) (held_below (slot_at slots h).held g i.holds));
      under = λ g gl e. x.under g gl e ∙ sym (alike k g kl gl);
    }

pub shows_same : (slots : List Slot) (picture : Picture) (old new : Stored) → SameOfSlots slots old new → Shows slots picture old → Shows slots picture new
shows_same slots picture old new alike w =
    record { each = λ k kl live. shown_same slots picture old new k kl alike (w.each k kl live); only = w.only; apart = w.apart }

pub some_volume : (o : Option Volume) → IsSome o → (v : Volume) × (o ≡ Some v)
some_volume None some = absurd cc
some_volume (Some v) some = (v, refl)

same_of_slots : (grain : GrainSize) (w left : Whole) (p : Point) (rows : List Row) → left.faults ≡ w.faults → AreSound left.books →
    let q : Point = record p { kept = made_anew left rows p.kept.lost } in
    SameOfSlots left.books.sheet.slots (stored_by grain w p) (stored_by grain left q)
same_of_slots grain w left p rows faults sound k g kl gl =
    let v : ℕ = (slot_at left.books.sheet.slots k).volume in
    let id : VolId = record { 0 = v } in
    let x = some_volume (volume_with left.books.tables id) (sound.agree.slots k kl) in
    let size : length (slot_at left.books.sheet.slots k).held ≡ x.0.grains = slot_size left.books sound k kl ∙ size_is left.books.tables id x.0 x.1 in
    let inside : g < x.0.grains = omega (arith, gl, size) in
    ap (λ (b : Bool). cond b Lost (on_disks grain left p.disks v g)) (lost_again p.kept.lost left.books.tables.volumes v g x.0 x.1 inside)
    ∙ ap (λ (f : List ℕ). cond (is_lost_in p.kept.lost v g) Lost (on_disks grain (record w { faults = f }) p.disks v g)) faults

-- ---- rows

map_is : (k n l : Row) → IsMarked k n l → k.map ≡ n.map
map_is k n l m = ap (λ (r : Row). r.map) m.kept_is

of_mapping : (t : Tables) (k n l : Row) → IsMarked k n l → IsOfMapping t n → IsOfMapping t k
of_mapping t k n l m o =
    record {
      mapping = o.mapping;
      there = o.there;
      id_is = o.id_is ∙ sym (map_is k n l m);
      source_is = o.source_is ∙ sym (ap (λ (r : Row). r.source) m.kept_is);
      target_is = o.target_is ∙ sym (ap (λ (r : Row). r.target) m.kept_is);
      incremental = o.incremental;
      size = subst (HasGrains (volume_with t o.mapping.target)) (sym m.kept_size) o.size;
    }

marked_at : (ks ns ls : List Row) (i : ℕ) (d : Row) → AreMarked ks ns ls → i < length ks → (i < length ns) × IsMarked (get_or ks i d) (get_or ns i d) (get_or ls i d)
marked_at [] ns ls i d m il = absurd (let l : i < 0 = il in omega arith)
marked_at (k ∷ ks) (n ∷ ns) (l ∷ ls) ℕ.zero d m il = (omega arith, m.0)
marked_at (k ∷ ks) (n ∷ ns) (l ∷ ls) (ℕ.suc i) d m il = let r = marked_at ks ns ls i d m.1 (omega (arith, il)) in let lt = r.0 in (omega (arith, lt), r.1)
marked_at (k ∷ ks) ns ls i d m il = absurd m

rows_are : (t : Tables) (ks ns ls : List Row) → AreMarked ks ns ls → AreRows t ns → AreRows t ks
rows_are t ks ns ls m a =
    record {
      each = λ i d il. let r = marked_at ks ns ls i d m il in of_mapping t (get_or ks i d) (get_or ns i d) (get_or ls i d) r.1 (a.each i d r.0);
      distinct = λ i j d ij jl e.
          let x = marked_at ks ns ls i d m (omega (arith, ij, jl)) in
          let y = marked_at ks ns ls j d m jl in
          a.distinct i j d ij y.0 (sym (map_is (get_or ks i d) (get_or ns i d) (get_or ls i d) x.1) ∙ (e ∙ map_is (get_or ks j d) (get_or ns j d) (get_or ls j d) y.1));
    }

rows_count : (ks ns ls : List Row) → AreMarked ks ns ls → length ks ≡ length ns
rows_count [] [] [] m = refl
rows_count (k ∷ ks) (n ∷ ns) (l ∷ ls) m = ap (λ (c : ℕ). suc c) (rows_count ks ns ls m.1)
rows_count ks ns ls m = absurd m

-- the last trigger of a row that lies between went where that of the history's row did
kept_into : (ks ns ls : List Row) → AreMarked ks ns ls → All IsInto ns → All IsInto ks
kept_into ks ns ls m all i d il =
    let r = marked_at ks ns ls i d m il in
    subst IsInto (sym r.1.kept_is) (all i d r.0)

now_into : (ks ns ls : List Row) → AreMarked ks ns ls → All IsInto ks → All IsInto ns
now_into ks ns ls m all i d il =
    let count : length ks ≡ length ns = rows_count ks ns ls m in
    let there : i < length ks = omega (arith, count, il) in
    subst IsInto (marked_at ks ns ls i d m there).1.kept_is (all i d there)

-- the last trigger of a row went into one of its volumes
either_into : (b : Bool) (x y : Row) → IsInto x → IsInto y → IsInto (cond b x y)
either_into true x y first second = first
either_into false x y first second = second

joined_into : (a b source target : ℕ) → joins a b source target ≡ true → (target ≡ a) ⊎ (target ≡ b)
joined_into a b source target e =
    elim (or_cases ((source == a) && (target == b)) ((source == b) && (target == a)) e) [
      | inl f ↦ inr (eqb-true target b (and_parts (source == a) (target == b) f).1)
      | inr f ↦ inl (eqb-true target a (and_parts (source == b) (target == a) f).1)
    ]

began_into : (source target : ℕ) (row : Row) (b : Bool) → joins row.source row.target source target ≡ b → IsInto row → IsInto (cond b (record (with_all row) { into = target }) (cond (row_names row target) (with_none row) row))
began_into source target row true e i = joined_into row.source row.target source target e
began_into source target row false e i = either_into (row_names row target) (with_none row) row i i

abbrev AreInto : List Row → Type 0
AreInto rows = (row : Row) → Contains rows row → IsInto row

map_into : (f : Row → Row) (rows : List Row) → ((row : Row) → IsInto row → IsInto (f row)) → AreInto rows → AreInto (map f rows)
map_into f rows each all row c = let x = map_from f rows row c in subst IsInto x.2 (each x.0 (all x.0 x.1))

alone_into : (one row : Row) → IsInto one → Contains (one ∷ []) row → IsInto row
alone_into one row i c = elim (in_cases one row [] c) [ inl e ↦ subst IsInto e i | inr n ↦ absurd (none_in row n) ]

append_into : (rows : List Row) (one : Row) → AreInto rows → IsInto one → AreInto (rows ++ one ∷ [])
append_into rows one all i row c = elim (Contains-append_cases rows (one ∷ []) row c) [ inl x ↦ all row x | inr x ↦ alone_into one row i x ]

both_into : (b : Bool) (xs ys : List Row) → AreInto xs → AreInto ys → AreInto (cond b xs ys)
both_into true xs ys first second = first
both_into false xs ys first second = second

new_into : (m source target : ℕ) (followed : Option ℕ) (rows : List Row) → AreInto rows → AreInto (with_new m source target followed rows)
new_into m source target None rows all = all
new_into m source target (Some grains) rows all =
    let one : Row = record { map = m; source = source; target = target; into = target; same = replicate grains true } in
    both_into (list_any (is_of m) rows) rows (rows ++ one ∷ []) all (append_into rows one all (inr refl))

note_into : (rows : List Row) (note : Note) → AreInto rows → AreInto (after_note rows note)
note_into rows (Began m source target followed) all =
    new_into m source target followed (map (row_began source target) rows)
    (map_into (row_began source target) rows (λ row i. began_into source target row (joins row.source row.target source target) refl i) all)
note_into rows (Wrote v g) all = map_into (row_wrote v g) rows (λ row i. either_into (row_names row v) (record row { same = set row.same g false }) row i i) all
note_into rows (Left target held) all =
    map_into (row_left target held) rows (λ row i. either_into (row_names row target) (record row { same = grains_with (λ g. has row.same g && has held g) (length row.same) }) row i i) all
note_into rows (Cut target) all = map_into (row_cut target) rows (λ row i. either_into (row_names row target && not (row.into == target)) (with_none row) row i i) all
note_into rows (Forgotten m) all = λ row c. all row (filter_from (λ (r : Row). not (is_of m r)) rows row c).0

notes_into : (rows : List Row) (notes : List Note) → AreInto rows → AreInto (fold after_note rows notes)
notes_into rows [] all = all
notes_into rows (n ∷ ns) all = notes_into (after_note rows n) ns (note_into rows n all)

rows_into : (s : Sheet) (rows : List Row) (es : List LaneEvent) → AreInto rows → AreInto (rows_after s rows es)
rows_into s rows [] all = all
rows_into s rows (e ∷ es) all = rows_into (sheet_after (restarts rows) s e) (rows_event s.slots rows e) es (notes_into rows (event_notes s.slots e) all)

-- ---- what metadata that is made anew says is sound

-- that books are sound doesn't go by the disks that are left, nor by background work
books_alone : (b : Books) (k : Kept) → AreSound b → k.tables ≡ b.tables → k.next_volume ≡ b.next_volume → k.next_mapping ≡ b.next_mapping → k.next_group ≡ b.next_group → k.sheet ≡ b.sheet → AreSound (books_of k)
books_alone b k a t v m g s =
    let left : Books = record b { flags = []; pools = []; rooms = [] } in
    let alone : AreSound left =
    record {
      tables = record {
        volumes = a.tables.volumes;
        mappings = a.tables.mappings;
        groups = a.tables.groups;
        new_volume = a.tables.new_volume;
        new_mapping = a.tables.new_mapping;
        new_group = a.tables.new_group;
      };
      flags = record { rising = λ i j d ij jl. absurd (let l : j < 0 = jl in omega arith); given = λ i d il. absurd (let l : i < 0 = il in omega arith) };
      sheet = a.sheet;
      agree = record {
        volumes = a.agree.volumes;
        slots = a.agree.slots;
        owned = a.agree.owned;
        mappings = a.agree.mappings;
        by_state = a.agree.by_state;
        one_busy = a.agree.one_busy;
      };
    } in
    subst AreSound (λ i. record { tables = sym t i; next_volume = sym v i; next_mapping = sym m i; next_group = sym g i; sheet = sym s i; flags = []; pools = []; rooms = [] }) alone

anew_sound : (decisions : ℕ) (left : Whole) (least rows : List Row) (lost : List LostGrains) → decisions + 2 < 2 ^ 32 → IsReached decisions left → AreMarked rows left.rows least → All IsInto rows → IsSoundKept (made_anew left rows lost)
anew_sound decisions left least rows lost few r marked into =
    let b : Books = left.books in
    let f = r.stands.few in
    let volumes = f.volumes in
    let mappings = f.mappings in
    let groups = f.groups in
    let births = f.births in
    let all = r.grains in
    record {
      books = books_alone b (made_anew left rows lost) r.stands.sound refl refl refl refl refl;
      rows = rows_are b.tables rows left.rows least marked r.stands.rows;
      into = into;
      lost = lost_by_left b lost r.stands.sound.tables;
      grains = all_from (λ (v : Volume). v.grains < 2 ^ 32) b.tables.volumes (λ v c. let one = one_of_all b.tables.volumes v c in omega (arith, one, all));
      births = omega (arith, births, few);
      volume_ids = omega (arith, volumes, few);
      mapping_ids = omega (arith, mappings, few);
      group_ids = omega (arith, groups, few);
    }

-- ---- through decisions, what is stored stays what it was, and shows what is told

pub record GoesThrough (grain : GrainSize) (w : Whole) (stored : Stored) (disks : List (List NamedDisk)) : Type 0 where
  pub follows : Follows (all_followed w) stored
  pub null : NullAbove grain w.books.next_volume stored
  pub unnamed : AreUnnamed w disks
  pub into : AreInto w.rows

abbrev Through : GrainSize → Whole → Point → Whole → Type 0
Through grain w p left = GoesThrough grain left (stored_by grain w p) p.disks

at_first : (grain : GrainSize) (w : Whole) (least : List Row) (p : Point) → AreAlike (all_followed w) → AreUnnamed w p.disks → StandsFor grain w least p → Through grain w p w
at_first grain w least p alike unnamed st =
    record {
      follows = record { agrees = record { sound = chains_sound grain w least p st; shows = st.shows }; alike = alike };
      null = null_above grain w least p st unnamed;
      unnamed = unnamed;
      into = λ row c. all_in_is IsInto w.rows (now_into p.kept.rows w.rows least st.says.rows st.says.sound.into) row c;
    }

decision_through : (grain : GrainSize) (decisions : ℕ) (w : Whole) (d : Decision) (stored : Stored) (disks : List (List NamedDisk)) → IsLawful grain decisions w d → MakesNew w.books.next_volume d.events d.changes →
    GoesThrough grain w stored disks → GoesThrough grain (left_by grain w d) stored disks
decision_through grain decisions w d stored disks lawful new x =
    let left : Whole = left_by grain w d in
    let later : w.books.next_volume ≤ left.books.next_volume = next_later (restarts w.rows) w.books d.events d.changes new.1 in
    record {
      follows = subst (λ (f : Followed). Follows f stored) lawful.told (follows_all grain w.books.next_volume (all_followed w) d.events stored x.follows lawful.events new.0 x.null);
      null = λ v g le. x.null v g (omega (arith, later, le));
      unnamed = λ i v le. x.unnamed i v (omega (arith, later, le));
      into = rows_into w.books.sheet w.rows d.events x.into;
    }

settling_through : (grain : GrainSize) (decisions : ℕ) (w : Whole) (stored : Stored) (disks : List (List NamedDisk)) → decisions < 2 ^ 32 → IsReached decisions w → GoesThrough grain w stored disks → GoesThrough grain (after_settling grain w) stored disks
settling_through grain decisions w stored disks few r x = decision_through grain decisions w (settle w.books) stored disks (settling_lawful grain decisions w few r.stands) (settle_new w.books) x

command_through : (grain : GrainSize) (decisions : ℕ) (w : Whole) (command : Command) (loop : Option (List VolId)) (stored : Stored) (disks : List (List NamedDisk)) → decisions + 1 < 2 ^ 32 → IsReached decisions w →
    IsLoopOf grain (after_settling grain w).books command loop → GoesThrough grain w stored disks →
    GoesThrough grain (left_by grain (after_settling grain w) (decided_on grain (after_settling grain w) command loop)) stored disks
command_through grain decisions w command loop stored disks few r told x =
    let settled : Whole = after_settling grain w in
    decision_through grain (decisions + 1) settled (decided_on grain settled command loop) stored disks (command_lawful grain decisions w command loop few r.stands told)
    (decide_new (restarts settled.rows) grain settled.books command loop) (settling_through grain decisions w stored disks (omega (arith, few)) r x)

-- ---- a command

-- all that it leaves
abbrev AllLeft : GrainSize → ℕ → Whole → List Row → Point → Type 0
AllLeft grain decisions left least q = StandsFor grain (one_more left) least q × GoesOn decisions (one_more left) q.disks

counted : (grain : GrainSize) (decisions : ℕ) (left : Whole) (least : List Row) (q : Point) → StandsFor grain left least q → GoesOn decisions left q.disks → AllLeft grain decisions left least q
counted grain decisions left least q st on = (
  stands_counted grain left least q left.books.rooms left.faults left.calls (left.entries + 1) refl st,
  record {
    reached = stands_law_holds.refused decisions left on.reached;
    alike = record { each = on.alike.each; distinct = on.alike.distinct };
    unnamed = on.unnamed;
  },
)

-- what it leaves of the history, over the same disks
record LeftSo (grain : GrainSize) (decisions : ℕ) (w : Whole) (p : Point) (left : Whole) : Type 0 where
  lanes_are : left.faults ≡ w.faults
  through : Through grain w p left
  reached : IsReached decisions left

goes_on : (grain : GrainSize) (decisions : ℕ) (w left : Whole) (p : Point) → LeftSo grain decisions w p left → GoesOn decisions left p.disks
goes_on grain decisions w left p x = record { reached = x.reached; alike = x.through.follows.alike; unnamed = x.through.unnamed }

module _ (grain : GrainSize) (decisions : ℕ) (w : Whole) (least : List Row) (command : Command) (p : Point) (few : decisions + 4 < 2 ^ 32) (on : GoesOn decisions w p.disks) (st : StandsFor grain w least p) where
  left_so : (left : Whole) (least' : List Row) → LeastLeft grain w least command left least' → LeftSo grain (decisions + 2) w p left
  left_so left least' (least_decided loop told) =
      record {
        lanes_are = refl;
        through = command_through grain decisions w command loop (stored_by grain w p) p.disks (omega (arith, few)) on.reached told (at_first grain w least p on.alike on.unnamed st);
        reached = stands_law_holds.decided grain decisions w command loop (omega (arith, few)) on.reached told;
      }
  left_so left least' least_unsettled =
      record { lanes_are = refl; through = at_first grain w least p on.alike on.unnamed st; reached = stands_law_holds.more decisions (decisions + 2) w (omega arith) on.reached }
  left_so left least' least_settled =
      record {
        lanes_are = refl;
        through = settling_through grain decisions w (stored_by grain w p) p.disks (omega (arith, few)) on.reached (at_first grain w least p on.alike on.unnamed st);
        reached = stands_law_holds.more (decisions + 1) (decisions + 2) (after_settling grain w) (omega arith) (stands_law_holds.settled grain decisions w (omega (arith, few)) on.reached);
      }

  left_fit : (left : Whole) (least' : List Row) → HaveTheirDisks w p.disks → LeastLeft grain w least command left least' → AreFit grain left p.disks
  left_fit left least' have (least_decided loop told) = decided_fit grain decisions w least p command loop (omega (arith, few)) on st have told
  left_fit left least' have least_unsettled = fits_now grain w least p st
  left_fit left least' have least_settled = settled_fit grain w least p st

  -- metadata is made anew
  anew_all : (left : Whole) (least' rows : List Row) → HaveTheirDisks w p.disks → LeastLeft grain w least command left least' → AreMarked rows left.rows least' →
      AllLeft grain (decisions + 2) left least' (record p { kept = made_anew left rows p.kept.lost })
  anew_all left least' rows have marks between =
      let q : Point = record p { kept = made_anew left rows p.kept.lost } in
      let x = left_so left least' marks in
      counted grain (decisions + 2) left least' q
      (record {
        says = record {
          sound = anew_sound (decisions + 2) left least' rows p.kept.lost (omega (arith, few)) x.reached between (kept_into rows left.rows least' between (all_from IsInto left.rows x.through.into));
          tables = refl;
          next_volume = refl;
          next_mapping = refl;
          next_group = refl;
          slots = same;
          rows = between;
          count = st.says.count ∙ sym (ap (λ (f : List ℕ). length f) x.lanes_are);
          fit = left_fit left least' have marks;
        };
        shows = shows_same left.books.sheet.slots left.picture (stored_by grain w p) (stored_by grain left q) (same_of_slots grain w left p rows x.lanes_are x.reached.stands.sound) x.through.follows.agrees.shows;
      })
      (goes_on grain (decisions + 2) w left p x)

  -- or it stays
  pub stays_all : (left : Whole) (least' : List Row) → LeastLeft grain w least command left least' → Says grain p.disks p.kept left least' → AllLeft grain (decisions + 2) left least' p
  stays_all left least' marks says =
      let x = left_so left least' marks in
      counted grain (decisions + 2) left least' p
      (record { says = says; shows = subst (λ (f : List ℕ). Shows left.books.sheet.slots left.picture (stored_by grain (record w { faults = f }) p)) (sym x.lanes_are) x.through.follows.agrees.shows })
      (goes_on grain (decisions + 2) w left p x)

pub leaves_all : (grain : GrainSize) (decisions : ℕ) (w left : Whole) (least least' : List Row) (command : Command) (p : Point) (kept : Kept) → decisions + 4 < 2 ^ 32 → GoesOn decisions w p.disks →
    StandsFor grain w least p → HaveTheirDisks w p.disks → Leaves grain w least p.kept command left least' kept → AllLeft grain (decisions + 2) left least' (record p { kept = kept })
leaves_all grain decisions w left least least' command p kept few on st have (anew behind least_behind rows marks between) = anew_all grain decisions w least command p few on st behind least_behind rows have marks between
leaves_all grain decisions w left least least' command p kept few on st have unsettled = stays_all grain decisions w least command p few on st w least least_unsettled st.says

-- ---- metadata may have the rows that it had, to which a command notes what it notes to the history's

noted_rows : (grain : GrainSize) (w left : Whole) (kept least least' : List Row) (command : Command) → AreMarked kept w.rows least → LeastLeft grain w least command left least' →
    (rows : List Row) × LeastLeft grain w kept command left rows × AreMarked rows left.rows least'
noted_rows grain w left kept least least' command m (least_decided loop told) =
    let settled : Whole = after_settling grain w in
    let d : Decision = decided_on grain settled command loop in
    let kept_settled : List Row = least_by w kept (settle w.books) in
    let least_settling : List Row = least_by w least (settle w.books) in
    let first : AreMarked kept_settled settled.rows least_settling = mark_law.decided w.books.sheet kept w.rows least (settle w.books).events m in
    (least_by settled kept_settled d, least_decided loop told, mark_law.decided settled.books.sheet kept_settled settled.rows least_settling d.events first)
noted_rows grain w left kept least least' command m least_unsettled = (kept, least_unsettled, m)
noted_rows grain w left kept least least' command m least_settled =
    (least_by w kept (settle w.books), least_settled, mark_law.decided w.books.sheet kept w.rows least (settle w.books).events m)

pub leaves_noted : (grain : GrainSize) (w left : Whole) (least least' : List Row) (k : Kept) (command : Command) → AreMarked k.rows w.rows least → LeastLeft grain w least command left least' →
    (rows : List Row) × LeastLeft grain w k.rows command left rows × Leaves grain w least k command left least' (made_anew left rows k.lost)
leaves_noted grain w left least least' k command m marks =
    let x = noted_rows grain w left k.rows least least' command m marks in
    (x.0, x.1, anew left least' x.0 marks x.2)
