-- Members whose counts stand end to end.
use Rattle.std.proofs.Common.{◌≡◌, ℕ, zero, suc, ◌+◌, ◌*◌, ◌<◌, ◌≤◌, Bool, false, List, [], ◌∷◌, ◌++◌, map, length}
use Rattle.std.proofs.Common.{take, drop, get_or, refl, sym, ◌∙◌, ap, arith, length-append, length-drop, append_assoc}
use Rattle.std.specs.List.{concat}
use Rattle.std.proofs.Math.Nat.{mul-le-mul_right}
use Rattle.std.proofs.Math.Seq.{take-add, take-append_seam, drop-append_seam}
use Rattle.std.proofs.lemmas.List.{length-map, get_or-map, drop-drop, take-take, drop-take, length-take-le}
use Rattle.std.proofs.lemmas.List.Sums.{sum_by-cons}
use Rattle.multinomial_bounds.specs.Isotopologue.{Element, IsIsotopologue}
use Rattle.cover_claims.specs.CountsInRow.{isotopes_of_all, counts_by_element}
use Rattle.cover_claims.specs.Claims.{ClaimedMember, isotopologues_in, member_at}
use Rattle.cover_claims.specs.MemberRows.{member_rows}

-- ---- one isotopologue

isotopes-cons : (e : Element) (es : List Element) → isotopes_of_all (e ∷ es) ≡ length e.weights + isotopes_of_all es
isotopes-cons e es = sum_by-cons (λ d. length d.weights) e es

-- only as many counts matter as there are isotopes
pub counts_by_element-take : (es : List Element) (xs : List ℕ) →
    counts_by_element es (take (isotopes_of_all es) xs) ≡ counts_by_element es xs
unfolding counts_by_element
counts_by_element-take [] xs = refl
counts_by_element-take (e ∷ es) xs =
    let n : ℕ = length e.weights in
    let m : ℕ = isotopes_of_all es in
    let first : take n (take (n + m) xs) ≡ take n xs = take-take n (n + m) xs (omega arith) in
    let rest : drop n (take (n + m) xs) ≡ take m (drop n xs) = drop-take n m xs in
    rw (isotopes-cons e es, first, rest, counts_by_element-take es (drop n xs)) refl

-- the counts of the elements are the counts
pub concat-counts_by_element : (es : List Element) (xs : List ℕ) →
    concat (counts_by_element es xs) ≡ take (isotopes_of_all es) xs
unfolding counts_by_element
concat-counts_by_element [] xs = refl
concat-counts_by_element (e ∷ es) xs =
    ap (λ ys. take (length e.weights) xs ++ ys) (concat-counts_by_element es (drop (length e.weights) xs))
    ∙ sym (take-add (length e.weights) (isotopes_of_all es) xs)
    ∙ ap (λ (n : ℕ). take n xs) (sym (isotopes-cons e es))

-- and the other way round
pub counts_by_element-concat : (es : List Element) (i : List (List ℕ)) (rest : List ℕ) → IsIsotopologue es i →
    counts_by_element es (concat i ++ rest) ≡ i
unfolding counts_by_element
counts_by_element-concat [] [] rest is = refl
counts_by_element-concat [] (c ∷ more) rest is = absurd is
counts_by_element-concat (e ∷ es) [] rest is = absurd is
counts_by_element-concat (e ∷ es) (c ∷ more) rest is =
    let joined : (c ++ concat more) ++ rest ≡ c ++ (concat more ++ rest) = append_assoc c (concat more) rest in
    let first : take (length e.weights) ((c ++ concat more) ++ rest) ≡ c =
    ap (λ (n : ℕ). take n ((c ++ concat more) ++ rest)) (sym is.0.places_agree)
    ∙ ap (take (length c)) joined ∙ take-append_seam c (concat more ++ rest) in
    let others : drop (length e.weights) ((c ++ concat more) ++ rest) ≡ concat more ++ rest =
    ap (λ (n : ℕ). drop n ((c ++ concat more) ++ rest)) (sym is.0.places_agree)
    ∙ ap (drop (length c)) joined ∙ drop-append_seam c (concat more ++ rest) in
    rw (first, others, counts_by_element-concat es more rest is.1) refl

pub length-concat : (es : List Element) (i : List (List ℕ)) → IsIsotopologue es i → length (concat i) ≡ isotopes_of_all es
length-concat [] [] is = refl
length-concat [] (c ∷ more) is = absurd is
length-concat (e ∷ es) [] is = absurd is
length-concat (e ∷ es) (c ∷ more) is =
    let rest : length (concat more) ≡ isotopes_of_all es = length-concat es more is.1 in
    let here : length c ≡ length e.weights = is.0.places_agree in
    length-append c (concat more) ∙ omega (arith, rest, here, isotopes-cons e es)

-- ---- all members

module _ (es : List Element) where
  abbrev w : ℕ
  w = isotopes_of_all es

  pub length-member_rows : (counts : List ℕ) (marks : List Bool) → length (member_rows es counts marks) ≡ length marks
  unfolding member_rows
  length-member_rows counts [] = refl
  length-member_rows counts (m ∷ marks) = ap suc (length-member_rows (drop w counts) marks)

  get_or-member_rows : (counts : List ℕ) (marks : List Bool) (k : ℕ) (d : ClaimedMember) → k < length marks →
      get_or (member_rows es counts marks) k d
      ≡ record { marked = get_or marks k false; counts = counts_by_element es (drop (k * w) counts) }
  unfolding member_rows
  get_or-member_rows counts [] k d within = absurd (omega arith)
  get_or-member_rows counts (m ∷ marks) zero d within = let none : 0 * w ≡ 0 = omega arith in rw none refl
  get_or-member_rows counts (m ∷ marks) (suc k) d within =
      let more : suc k * w ≡ w + k * w = omega arith in
      rw (more, ← drop-drop (k * w) w counts) (get_or-member_rows (drop w counts) marks k d (omega arith))

  -- the members' marks
  pub marks-member_rows : (counts : List ℕ) (marks : List Bool) → map (λ m. m.marked) (member_rows es counts marks) ≡ marks
  unfolding member_rows
  marks-member_rows counts [] = refl
  marks-member_rows counts (m ∷ marks) = ap (λ ms. m ∷ ms) (marks-member_rows (drop w counts) marks)

  pub length-isotopologues : (counts : List ℕ) (marks : List Bool) →
      length (isotopologues_in (member_rows es counts marks)) ≡ length marks
  length-isotopologues counts marks =
      length-map (member_rows es counts marks) (λ m. m.counts) ∙ length-member_rows counts marks

  -- the member at a place, by its row
  pub member_at-row : (counts : List ℕ) (marks : List Bool) (k : ℕ) → k < length marks →
      counts_by_element es (take w (drop (k * w) counts)) ≡ member_at (isotopologues_in (member_rows es counts marks)) k
  member_at-row counts marks k within =
      let d : ClaimedMember = record { marked = false; counts = [] } in
      let inside : k < length (member_rows es counts marks) = rw (length-member_rows counts marks) within in
      counts_by_element-take es (drop (k * w) counts)
      ∙ ap (λ (m : ClaimedMember). m.counts) (sym (get_or-member_rows counts marks k d within))
      ∙ sym (get_or-map (λ m. m.counts) (member_rows es counts marks) k d [] inside)

-- a row is within the counts
pub row-within : (k n width long : ℕ) → k < n → long ≡ n * width → k * width + width ≤ long
row-within k n width long within all =
    let e : suc k * width ≤ n * width = mul-le-mul_right width (omega arith) in omega arith

pub length-row : (xs : List ℕ) (from width : ℕ) → from + width ≤ length xs → length (take width (drop from xs)) ≡ width
length-row xs from width within =
    length-take-le width (drop from xs) (omega (arith, length-drop from xs))
