-- The links that old rows make, pair by pair.
use Rattle.std.proofs.Common.{◌≡◌, ℕ, ◌+◌, ◌<◌, ◌≤◌, true, false, Option, Some, None, List, [], ◌∷◌, ◌++◌, length, refl, sym, ap, subst, ◌∙◌, arith, ◌⊎◌, inl, inr, length-append}
use Rattle.std.proofs.lemmas.Bool.{cases_eq, cases_lt, both_ways}
use Rattle.std.proofs.Math.ListN.{get_or-append}
use Rattle.std.proofs.Math.Seq.{get_or-append_seam}
use Rattle.fc_loops.specs.declared.loops.Link.{Link}
use Rattle.fc_loops.specs.declared.rows.Row.{Row}
use Rattle.fc_loops.specs.Links.{no_link, link_at, HasLink, AreWithin}
use Rattle.fc_loops.specs.Rows.{row_at}
use Rattle.fc_loops.specs.Joins.{AreTogether, IsListedAt, FoundNode, IsRising, LinkedTo, with_link, IsRepeated, IsJoin, IsDone, AreLinked}
use Rattle.fc_loops.proofs.LoopVolumes.{one_place}

-- ---- one link more

linked_before : (links : List Link) (l : Link) (v w : ℕ) → HasLink links v w → HasLink (links ++ l ∷ []) v w
linked_before links l v w h =
    let same : link_at (links ++ l ∷ []) h.at ≡ link_at links h.at = get_or-append links (l ∷ []) no_link h.at h.there in
    record {
      at = h.at;
      there = (let t : h.at < length links = h.there in let e : length (links ++ l ∷ []) ≡ length links + length (l ∷ []) = length-append links (l ∷ []) in omega arith);
      from_is = ap (λ (x : Link). x.from) same ∙ h.from_is;
      to_is = ap (λ (x : Link). x.to) same ∙ h.to_is;
    }

linked_last : (links : List Link) (l : Link) → HasLink (links ++ l ∷ []) l.from l.to
linked_last links l =
    let same : link_at (links ++ l ∷ []) (length links) ≡ l = get_or-append_seam links l [] no_link in
    record {
      at = length links;
      there = (let e : length (links ++ l ∷ []) ≡ length links + length (l ∷ []) = length-append links (l ∷ []) in omega arith);
      from_is = ap (λ (x : Link). x.from) same;
      to_is = ap (λ (x : Link). x.to) same;
    }

linked_or : (links : List Link) (l : Link) (v w : ℕ) → HasLink (links ++ l ∷ []) v w → HasLink links v w ⊎ ((l.from ≡ v) × (l.to ≡ w))
linked_or links l v w h =
    let e : length (links ++ l ∷ []) ≡ length links + length (l ∷ []) = length-append links (l ∷ []) in
    let t : h.at < length (links ++ l ∷ []) = h.there in
    elim (cases_lt h.at (length links)) [
      | inl lt ↦ (let same : link_at (links ++ l ∷ []) h.at ≡ link_at links h.at = get_or-append links (l ∷ []) no_link h.at lt in
          inl (record { at = h.at; there = lt; from_is = ap (λ (x : Link). x.from) (sym same) ∙ h.from_is; to_is = ap (λ (x : Link). x.to) (sym same) ∙ h.to_is }))
      | inr le ↦ (let at : h.at ≡ length links = omega arith in
          let same : link_at (links ++ l ∷ []) h.at ≡ l = ap (λ z. link_at (links ++ l ∷ []) z) at ∙ get_or-append_seam links l [] no_link in
          inr (ap (λ (x : Link). x.from) (sym same) ∙ h.from_is, ap (λ (x : Link). x.to) (sym same) ∙ h.to_is))
    ]

-- ---- pair by pair

pub linked_none : (rows : List Row) (volumes : List ℕ) (links : List Link) → links ≡ [] → AreLinked rows volumes links 0 0
linked_none rows volumes links e =
    record {
      only = λ v w h. absurd (let t : h.at < length links = h.there in let z : length links ≡ 0 = ap length e in omega arith);
      all = λ old live i j n d. elim d [ inl lt ↦ absurd (omega arith) | inr s ↦ absurd (let t : live < 0 = s.1 in omega arith) ];
    }

-- the next row behind makes a link or none
pub linked_more : (rows : List Row) (volumes : List ℕ) (links new : List Link) (place behind from : ℕ) (to : Option ℕ) → IsRising volumes → behind < length rows → place < behind → (row_at rows place).is_live ≡ false →
    (row_at rows behind).chain ≡ (row_at rows place).chain → IsListedAt volumes (row_at rows place).volume from → LinkedTo (row_at rows behind) volumes from to → new ≡ with_link links from to →
    AreLinked rows volumes links place behind → AreLinked rows volumes new place (behind + 1)
linked_more rows volumes links new place behind from None rising there after old chain at none is l =
    subst (λ (z : List Link). AreLinked rows volumes z place (behind + 1)) (sym is) (record {
      only = l.only;
      all = λ o v i j n d. elim d [
        | inl lt ↦ l.all o v i j n (inl lt)
        | inr s ↦ elim (cases_eq v behind) [
          | inl e ↦ absurd (none j (record {
            live = ap (λ z. (row_at rows z).is_live) (sym e) ∙ n.live_is_live;
            to_is = subst (λ (z : ℕ). IsListedAt volumes (row_at rows z).volume j) e n.to_is;
            other = λ q. n.other (one_place volumes (row_at rows place).volume i from rising (subst (λ (z : ℕ). IsListedAt volumes (row_at rows z).volume i) s.0 n.from_is) at ∙ q);
          }))
          | inr ne ↦ l.all o v i j n (inr (s.0, (let t : v < behind + 1 = s.1 in omega arith)))
        ]
      ];
    })
linked_more rows volumes links new place behind from (Some to) rising there after old chain at some is l =
    subst (λ (z : List Link). AreLinked rows volumes z place (behind + 1)) (sym is) (record { only = only; all = all })
  where
    link : Link
    link = record { from = from; to = to }

    join : IsJoin rows volumes place behind from to
    join = record { before = after; there = there; one_chain = sym chain; old_is_old = old; live_is_live = some.live; from_is = at; to_is = some.to_is; other = some.other }

    only : (v w : ℕ) → HasLink (links ++ link ∷ []) v w → (o : ℕ) × (n : ℕ) × IsJoin rows volumes o n v w
    only v w h = elim (linked_or links link v w h) [
      | inl b ↦ l.only v w b
      | inr e ↦ (place, behind, subst (λ (z : ℕ). IsJoin rows volumes place behind z w) e.0 (subst (λ (z : ℕ). IsJoin rows volumes place behind from z) e.1 join))
    ]

    all : (o v i j : ℕ) → IsJoin rows volumes o v i j → IsDone place (behind + 1) o v → HasLink (links ++ link ∷ []) i j
    all o v i j n d = elim d [
      | inl lt ↦ linked_before links link i j (l.all o v i j n (inl lt))
      | inr s ↦ elim (cases_eq v behind) [
        | inl e ↦ (let fi : from ≡ i = one_place volumes (row_at rows place).volume from i rising at (subst (λ (z : ℕ). IsListedAt volumes (row_at rows z).volume i) s.0 n.from_is) in
            let tj : to ≡ j = one_place volumes (row_at rows behind).volume to j rising some.to_is (subst (λ (z : ℕ). IsListedAt volumes (row_at rows z).volume j) e n.to_is) in
            subst (λ (z : ℕ). HasLink (links ++ link ∷ []) z j) fi (subst (λ (z : ℕ). HasLink (links ++ link ∷ []) from z) tj (linked_last links link)))
        | inr ne ↦ linked_before links link i j (l.all o v i j n (inr (s.0, (let t : v < behind + 1 = s.1 in omega arith))))
      ]
    ]

-- a row that makes no link with those from a place on
linked_next : (rows : List Row) (volumes : List ℕ) (links : List Link) (place behind : ℕ) → ((live i j : ℕ) → behind ≤ live → IsJoin rows volumes place live i j → ⊥) → AreLinked rows volumes links place behind → AreLinked rows volumes links (place + 1) 0
linked_next rows volumes links place behind none l =
    record {
      only = l.only;
      all = λ o v i j n d. elim d [
        | inr s ↦ absurd (let t : v < 0 = s.1 in omega arith)
        | inl lt ↦ elim (cases_eq o place) [
          | inr ne ↦ l.all o v i j n (inl (omega arith))
          | inl e ↦ elim (cases_lt v behind) [
            | inl vb ↦ l.all o v i j n (inr (e, vb))
            | inr le ↦ absurd (none v i j le (subst (λ (z : ℕ). IsJoin rows volumes z v i j) e n))
          ]
        ]
      ];
    }

-- past the end of the chain no row is joined
pub linked_end : (rows : List Row) (volumes : List ℕ) (links : List Link) (place behind : ℕ) → AreTogether rows → place < behind → ((behind < length rows) × ((row_at rows behind).chain ≡ (row_at rows place).chain) → ⊥) →
    AreLinked rows volumes links place behind → AreLinked rows volumes links (place + 1) 0
linked_end rows volumes links place behind together after ends l = linked_next rows volumes links place behind none l
  where
    none : (live i j : ℕ) → behind ≤ live → IsJoin rows volumes place live i j → ⊥
    none live i j le n =
        let t : live < length rows = n.there in
        elim (cases_eq behind live) [
          | inl e ↦ ends (omega arith, ap (λ z. (row_at rows z).chain) e ∙ sym n.one_chain)
          | inr ne ↦ ends (omega arith, together place behind live after (omega arith) t n.one_chain ∙ sym n.one_chain)
        ]

pub linked_live : (rows : List Row) (volumes : List ℕ) (links : List Link) (place : ℕ) → (row_at rows place).is_live ≡ true → AreLinked rows volumes links place 0 → AreLinked rows volumes links (place + 1) 0
linked_live rows volumes links place live l = linked_next rows volumes links place 0 (λ v i j le n. both_ways (row_at rows place).is_live n.old_is_old live) l

-- the older row of the volume has made the links already
pub linked_repeated : (rows : List Row) (volumes : List ℕ) (links : List Link) (place : ℕ) → IsRepeated rows place → AreLinked rows volumes links place 0 → AreLinked rows volumes links (place + 1) 0
linked_repeated rows volumes links place r l =
    record {
      only = l.only;
      all = λ o v i j n d. elim d [
        | inr s ↦ absurd (let t : v < 0 = s.1 in omega arith)
        | inl lt ↦ elim (cases_eq o place) [
          | inr ne ↦ l.all o v i j n (inl (omega arith))
          | inl e ↦ l.all r.at v i j (older (subst (λ (z : ℕ). IsJoin rows volumes z v i j) e n)) (inl r.before)
        ]
      ];
    }
  where
    older : {v i j : ℕ} → IsJoin rows volumes place v i j → IsJoin rows volumes r.at v i j
    older {v} n =
        record {
          before = (let a : r.at < place = r.before in let b : place < v = n.before in omega arith);
          there = n.there;
          one_chain = r.one_chain ∙ n.one_chain;
          old_is_old = r.is_old;
          live_is_live = n.live_is_live;
          from_is = record { there = n.from_is.there; is = n.from_is.is ∙ sym r.of_volume };
          to_is = n.to_is;
          other = n.other;
        }

pub linked_unlisted : (rows : List Row) (volumes : List ℕ) (links : List Link) (place : ℕ) (found : Option ℕ) → found ≡ None → FoundNode volumes (row_at rows place).volume found → AreLinked rows volumes links place 0 → AreLinked rows volumes links (place + 1) 0
linked_unlisted rows volumes links place found e f l = linked_next rows volumes links place 0 (λ v i j le n. subst (λ (z : Option ℕ). FoundNode volumes (row_at rows place).volume z) e f i n.from_is) l

-- the first row behind: nothing of this row is done
pub linked_first : (rows : List Row) (volumes : List ℕ) (links : List Link) (place : ℕ) → AreLinked rows volumes links place 0 → AreLinked rows volumes links place (place + 1)
linked_first rows volumes links place l =
    record {
      only = l.only;
      all = λ o v i j n d. elim d [
        | inl lt ↦ l.all o v i j n (inl lt)
        | inr s ↦ absurd (let a : v < place + 1 = s.1 in let b : o < v = n.before in let e : o ≡ place = s.0 in omega arith)
      ];
    }

-- each link joins places of the list
pub linked_within : (rows : List Row) (volumes : List ℕ) (links : List Link) (place behind : ℕ) → AreLinked rows volumes links place behind → AreWithin links (length volumes)
linked_within rows volumes links place behind l k lt =
    let j = l.only (link_at links k).from (link_at links k).to (record { at = k; there = lt; from_is = refl; to_is = refl }) in
    record { from = j.2.from_is.there; to = j.2.to_is.there }
