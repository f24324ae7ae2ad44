-- What calls that put bytes at the end leave, one after the other.
use Rattle.std.proofs.Common.{◌≡◌, ℕ, ◌+◌, ◌<◌, List, [], ◌∷◌, ◌++◌, length, get_or, take, sym, ap, ◌∙◌, append_assoc, length-append, arith}
use Rattle.std.specs.List.{flat_map}
use Rattle.byteorder.specs.Endian.{big_bytes}
use Rattle.byteorder.specs.Numbers.{length-bytes_high_first}
use Rattle.fc_image.specs.declared.record.MetaRecord.{MetaRecord}
use Rattle.fc_format.specs.Bytes.{batch_bytes, record_bytes, records_bytes}
use Rattle.std.proofs.lemmas.List.{take_more, flat_map_more}

pub then_put : (out b rest : List ℕ) {mid new : List ℕ} → mid ≡ out ++ b → new ≡ mid ++ rest → new ≡ out ++ (b ++ rest)
then_put out b rest {mid} {new} first next = next ∙ (ap (λ (z : List ℕ). z ++ rest) first ∙ append_assoc out b rest)

-- one more item of a list
pub item_put : {A : Type 0} (f : A → List ℕ) (out mid new : List ℕ) (xs : List A) (i : ℕ) (x : A)
    → mid ≡ out ++ flat_map f (take i xs) → i < length xs → x ≡ get_or xs i x → new ≡ mid ++ f x → new ≡ out ++ flat_map f (take (i + 1) xs)
item_put f out mid new xs i x so_far inside is next =
    next ∙ (ap (λ (z : List ℕ). z ++ f x) so_far ∙ (flat_map_more f out (take i xs) x
    ∙ ap (λ z. out ++ flat_map f z) (ap (λ z. take i xs ++ z ∷ []) is ∙ sym (take_more xs i x inside))))

-- a length, what it counts, and a gate, behind something
pub gated_put : (g w z : List ℕ) {long whole all : List ℕ} {n : ℕ}
    → long ≡ g ++ big_bytes 4 n → n ≡ length w → whole ≡ long ++ w → all ≡ whole ++ z → all ≡ g ++ (big_bytes 4 (length w) ++ (w ++ z))
gated_put g w z first count second last =
    last ∙ (ap (λ (x : List ℕ). x ++ z) (second ∙ ap (λ (x : List ℕ). x ++ w) (first ∙ ap (λ (m : ℕ). g ++ big_bytes 4 m) count))
    ∙ (append_assoc (g ++ big_bytes 4 (length w)) w z ∙ append_assoc g (big_bytes 4 (length w)) (w ++ z)))

-- the same behind something known, of what is known
pub gated_known : (g w z : List ℕ) {mid lent all : List ℕ}
    → mid ≡ g → lent ≡ w → all ≡ mid ++ (big_bytes 4 (length lent) ++ (lent ++ z)) → all ≡ g ++ (big_bytes 4 (length w) ++ (w ++ z))
gated_known g w z {mid} {lent} first same all =
    all ∙ (ap (λ (x : List ℕ). x ++ (big_bytes 4 (length lent) ++ (lent ++ z))) first ∙ ap (λ (x : List ℕ). g ++ (big_bytes 4 (length x) ++ (x ++ z))) same)

-- how long a batch is
pub batch_long : (rs : List MetaRecord) → length (batch_bytes rs) ≡ 5 + length (records_bytes rs)
unfolding batch_bytes
batch_long rs =
    let a = length-append (big_bytes 4 (length (records_bytes rs))) (records_bytes rs ++ (0 ∷ [])) in
    let b = length-append (records_bytes rs) (0 ∷ []) in
    let k = length-bytes_high_first 4 (length (records_bytes rs)) in
    omega (arith, a, b, k)

-- one more record
pub records_long : (rs : List MetaRecord) (i : ℕ) (r : MetaRecord) → i < length rs → r ≡ get_or rs i r
    → length (records_bytes (take (i + 1) rs)) ≡ length (records_bytes (take i rs)) + length (record_bytes r)
records_long rs i r inside is =
    ap (λ z. length (records_bytes z)) (take_more rs i r inside ∙ ap (λ z. take i rs ++ z ∷ []) (sym is))
    ∙ (ap length (sym (flat_map_more record_bytes [] (take i rs) r)) ∙ length-append (records_bytes (take i rs)) (record_bytes r))
