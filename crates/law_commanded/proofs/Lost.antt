-- Which grains are lost: by a table of them, and by the lanes.
use Rattle.std.proofs.Common.{◌≡◌, ◌≢◌, ℕ, ◌+◌, ◌<◌, Bool, true, false, List, [], ◌∷◌, map, Contains, inl, inr, refl, sym, ap, subst, ◌∙◌, arith}
use Rattle.std.specs.List.{range_with_len}
use Rattle.std.proofs.lemmas.Bool.{cases_eq, eq-eqb, ne_eqb}
use Rattle.std.proofs.lemmas.List.FromFn.{get_or-map-range_with_len}
use Rattle.fc_base.specs.declared.volume.Volume.{Volume}
use Rattle.fc_decided.proofs.Lists.{first_in, in_cases, later_in, map_alike, map_from, map_in, none_in}
use Rattle.fc_kept.specs.Kept.{Kept, LostGrains, is_lost_in}
use Rattle.fc_kept.specs.Sound.{IsSoundKept}
use Rattle.law_crash.proofs.Lost.{row_of}

-- The lost grains of volumes, by this test.
abbrev pub row_by : (ℕ → ℕ → Bool) → Volume → LostGrains
row_by test v = record { volume = v.id.0; lost = map (test v.id.0) (range_with_len 0 v.grains) }

abbrev pub table_by : (ℕ → ℕ → Bool) → List Volume → List LostGrains
table_by test vs = map (row_by test) vs

-- ---- what a table tells

pub in_table : (test : ℕ → ℕ → Bool) (vs : List Volume) (v : Volume) (g : ℕ) → Contains vs v → g < v.grains → ((z : Volume) → Contains vs z → z.id.0 ≡ v.id.0 → z ≡ v) →
    is_lost_in (table_by test vs) v.id.0 g ≡ test v.id.0 g
in_table test vs v g c gl one = go vs (λ z i. i) c
  where
    here : (z : Volume) (zs : List Volume) → z ≡ v → is_lost_in (table_by test (z ∷ zs)) v.id.0 g ≡ test v.id.0 g
    here z zs e =
        let below : g < z.grains = subst (λ (y : Volume). g < y.grains) (sym e) gl in
        row_of (row_by test z) (table_by test zs) v.id.0 g true (eq-eqb z.id.0 v.id.0 (ap (λ (y : Volume). y.id.0) e))
        ∙ (get_or-map-range_with_len (test z.id.0) 0 z.grains g g false below (omega arith) ∙ ap (λ (y : Volume). test y.id.0 g) e)

    go : (zs : List Volume) → ((z : Volume) → Contains zs z → Contains vs z) → Contains zs v → is_lost_in (table_by test zs) v.id.0 g ≡ test v.id.0 g
    go [] sub i = absurd (none_in v i)
    go (z ∷ zs) sub i =
        elim (cases_eq z.id.0 v.id.0) [
          | inl e ↦ here z zs (one z (sub z (first_in z zs)) e)
          | inr ne ↦
              row_of (row_by test z) (table_by test zs) v.id.0 g false (ne_eqb z.id.0 v.id.0 ne)
              ∙ go zs (λ y j. sub y (later_in z y zs j)) (elim (in_cases z v zs i) [
                | inl same ↦ absurd (ne (ap (λ (y : Volume). y.id.0) same))
                | inr later ↦ later
              ])
        ]

range_alike : (f h : ℕ → Bool) (a n : ℕ) → ((g : ℕ) → g < a + n → f g ≡ h g) → map f (range_with_len a n) ≡ map h (range_with_len a n)
range_alike f h a ℕ.zero same = refl
range_alike f h a (ℕ.suc n) same =
    λ i. same a (omega arith) i ∷ range_alike f h (a + 1) n (λ g lt. same g (omega (arith, lt))) i

pub tables_alike : (f h : ℕ → ℕ → Bool) (vs : List Volume) → ((v : Volume) (g : ℕ) → Contains vs v → g < v.grains → f v.id.0 g ≡ h v.id.0 g) → table_by f vs ≡ table_by h vs
tables_alike f h vs same =
    map_alike (row_by f) (row_by h) vs (λ v c i. record { volume = v.id.0; lost = range_alike (f v.id.0) (h v.id.0) 0 v.grains (λ g lt. same v g c (omega (arith, lt))) i })

-- ---- no grain of a volume that metadata doesn't know

never : (rows : List LostGrains) (v g : ℕ) → ((row : LostGrains) → Contains rows row → row.volume ≢ v) → is_lost_in rows v g ≡ false
never [] v g none = refl
never (row ∷ rows) v g none =
    row_of row rows v g false (ne_eqb row.volume v (none row (first_in row rows))) ∙ never rows v g (λ r c. none r (later_in row r rows c))

pub never_new : (k : Kept) (v g : ℕ) → IsSoundKept k → ((x : Volume) → Contains k.tables.volumes x → x.id.0 ≢ v) → is_lost_in k.lost v g ≡ false
never_new k v g sound none =
    never k.lost v g (λ row c e.
    let named : Contains (map (λ (x : Volume). x.id.0) k.tables.volumes) row.volume =
    subst (λ (z : List ℕ). Contains z row.volume) sound.lost.volumes (map_in (λ (r : LostGrains). r.volume) k.lost row c) in
    let x = map_from (λ (y : Volume). y.id.0) k.tables.volumes row.volume named in
    none x.0 x.1 (x.2 ∙ e))
