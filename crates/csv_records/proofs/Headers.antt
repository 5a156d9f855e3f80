-- That a record is a header is found by its fields, one after another.
use Rattle.std.proofs.Common.{◌≡◌, ◌≢◌, ℕ, ◌<◌, Bool, true, false, List, [], ◌∷◌, length, get_or, map, not, Bor, refl}
use Rattle.std.proofs.Common.{sym, ap, ◌∙◌, arith}
use Rattle.std.specs.Bool.{Decides}
use Rattle.std.specs.Cmp.Lexicographic.{pointwise}
use Rattle.std.specs.Str.{bytes_eq}
use Rattle.std.proofs.lemmas.Slice.Eq.{bytes_eq-Decides, slice_eq-Decides}
use Rattle.std.proofs.lemmas.List.{ext_get_or, get_or-map}
use Rattle.csv_records.specs.FileRecords.{has_header}

same_texts : (first names : List (List ℕ)) → Decides (pointwise bytes_eq first names) (first ≡ names)
same_texts first names = slice_eq-Decides bytes_eq-Decides first names _ refl

unless_same : (first names : List (List ℕ)) → first ≢ names → pointwise bytes_eq first names ≡ false
unless_same first names other = by (pointwise bytes_eq first names) refl
  where
    by : (b : Bool) → pointwise bytes_eq first names ≡ b → b ≡ false
    by true is = absurd (other ((same_texts first names).0 is))
    by false is = refl

-- the answer on records is that on the first
of_first : (names : List (List ℕ)) (records : List (List (List ℕ))) (b : Bool) → 0 < length records
    → pointwise bytes_eq (get_or records 0 []) names ≡ b → b ≡ has_header names records
of_first names [] b some is = absurd (omega arith)
of_first names (record_1 ∷ records) b some is = sym is

-- all fields are the names
pub same_fields : (names : List (List ℕ)) (records : List (List (List ℕ))) → 0 < length records
    → length (get_or records 0 []) ≡ length names
    → ((k : ℕ) → k < length names → get_or (get_or records 0 []) k [] ≡ get_or names k [])
    → true ≡ has_header names records
same_fields names records some size same =
    let first = get_or records 0 [] in
    let alike : first ≡ names = ext_get_or [] first names size (λ k within. same k (omega (arith, within, size))) in
    of_first names records true some ((same_texts first names).1 alike)

-- one of them isn't, or there are more or fewer
pub other_field : (names : List (List ℕ)) (records : List (List (List ℕ))) (k : ℕ) → 0 < length records
    → get_or (get_or records 0 []) k [] ≢ get_or names k [] → false ≡ has_header names records
other_field names records k some other =
    of_first names records false some
    (unless_same _ _ (λ same. other (ap (λ (fields : List (List ℕ)). get_or fields k []) same)))

pub other_count : (names : List (List ℕ)) (records : List (List (List ℕ))) → 0 < length records
    → length (get_or records 0 []) ≢ length names → false ≡ has_header names records
other_count names records some other =
    of_first names records false some (unless_same _ _ (λ same. other (ap length same)))

-- the test of a field against a name, as the code makes it
pub same_name : (b : Bool) (field : List ℕ) (fields : List (List ℕ)) (names : List (Bor (List ℕ))) (k : ℕ)
    (d : Bor (List ℕ))
    → k < length names → field ≡ get_or fields k [] → b ≡ not (bytes_eq field (get_or names k d).now) → b ≡ false
    → get_or fields k [] ≡ get_or (map (λ name. name.now) names) k []
same_name b field fields names k d within there test is =
    let alike : bytes_eq field (get_or names k d).now ≡ true =
    by (bytes_eq field (get_or names k d).now) (sym test ∙ is) in
    sym there ∙ ((bytes_eq-Decides field (get_or names k d).now).0 alike
    ∙ sym (get_or-map (λ name. name.now) names k d [] within))
  where
    by : (x : Bool) → not x ≡ false → x ≡ true
    by true is = refl
    by false is = sym is

pub other_name : (b : Bool) (field : List ℕ) (fields : List (List ℕ)) (names : List (Bor (List ℕ))) (k : ℕ)
    (d : Bor (List ℕ))
    → k < length names → field ≡ get_or fields k [] → b ≡ not (bytes_eq field (get_or names k d).now) → b ≡ true
    → get_or fields k [] ≢ get_or (map (λ name. name.now) names) k []
other_name b field fields names k d within there test is same =
    let alike : field ≡ (get_or names k d).now = there ∙ (same ∙ get_or-map (λ name. name.now) names k d [] within) in
    let told : bytes_eq field (get_or names k d).now ≡ true = (bytes_eq-Decides field (get_or names k d).now).1 alike in
    let wrong : true ≡ false = sym is ∙ (test ∙ ap not told) in
    cc
