-- No set of isotopologues has more than as many of a closed list's greatest upper bounds above the threshold, with the
-- threshold for each that is missing.
use Rattle.std.proofs.Common.{◌≡◌, ℕ, zero, suc, ◌+◌, ◌-◌, ◌*◌, ◌<◌, ◌≤◌, ltb, true, List, [], ◌∷◌, map, length, take}
use Rattle.std.proofs.Common.{get_or, sum, refl, sym, ◌∙◌, ap, arith, All, ⊎_elim, inl, inr}
use Rattle.std.specs.Prelude.{◌≢◌, ◌⊎◌, AllPairs, Contains, filter, sum_by}
use Rattle.std.specs.List.Sorted.{IsPermutation}
use Rattle.std.proofs.Math.Nat.{le_trans, mul-le-mul_right, le_of_mul-le-mul_right}
use Rattle.std.proofs.lemmas.Bool.{cases_lt, lt-ltb, ltb-true}
use Rattle.std.proofs.lemmas.List.{length-map, get_or_default, get_or-take, length-take-le, take-map, take_all}
use Rattle.std.proofs.lemmas.List.Elements.{All-head, All-tail, All-take, All-weaker, All-filter, filter_passes}
use Rattle.std.proofs.lemmas.List.Sums.{sum-map, sum_by-cons}
use Rattle.std.proofs.lemmas.List.Sorted.{All-permutation, Contains-permutation}
use Rattle.sorted_lists.proofs.SortedListLaws.{IsPermutation-sorted_by}
use Rattle.multinomial_bounds.specs.Bounds.{certainty}
use Rattle.multinomial_bounds.specs.Isotopologue.{Element, IsIsotopologue, isotopologue_weight, all_weight}
use Rattle.multinomial_bounds.proofs.SumLemmas.{sum_by-scale}
use Rattle.multinomial_bounds.proofs.EnclosureLemmas.{IsEnclosure-isotopologue}
use Rattle.isotopologue_sets.specs.Layers.{AreElements, hi_of, lo_total}
use Rattle.isotopologue_sets.specs.Coverage.{IsSet, Reaches, Bound, weight_of_set}
use Rattle.isotopologue_sets.proofs.GreatestSums.{Falls, sum_by-of_distinct}
use Rattle.isotopologue_sets.proofs.FallingOrder.{greatest_first, map-greatest_first, greatest_first-falls}
use Rattle.isotopologue_sets.proofs.SetBounds.{all_weight-positive, lo_total-le-weight}
use Rattle.isotopologue_neighbours.specs.Closed.{IsClosedAbove, IsAtMost, greatest_above, greatest_total}
use Rattle.isotopologue_neighbours.proofs.MoveLemmas.{Contains-filter}
use Rattle.isotopologue_neighbours.proofs.OutsideMembers.{outside, below}

-- more of the first members have no smaller sum
sum_by-take-le : {X : Type 0} (f : X → ℕ) (m n : ℕ) (xs : List X) → m ≤ n →
    sum_by f (take m xs) ≤ sum_by f (take n xs)
sum_by-take-le f zero n xs le = omega arith
sum_by-take-le f (suc m) zero xs le = absurd (omega arith)
sum_by-take-le f (suc m) (suc n) [] le = omega arith
sum_by-take-le f (suc m) (suc n) (x ∷ xs) le =
    omega (
      arith,
      sum_by-cons f x (take m xs),
      sum_by-cons f x (take n xs),
      sum_by-take-le f m n xs (omega arith),
    )

-- what is above a value, in sums of numbers and of what they are at most
sum_by-le_above : {X : Type 0} (u : X → ℕ) (v : ℕ) (xs : List X) →
    sum_by u xs ≤ sum_by (λ x. u x - v) xs + length xs * v
sum_by-le_above u v [] = omega arith
sum_by-le_above u v (x ∷ xs) =
    omega (arith, sum_by-cons u x xs, sum_by-cons (λ x. u x - v) x xs, sum_by-le_above u v xs)

above-le : {X : Type 0} (u h : X → ℕ) (v g : ℕ) (xs : List X) → All (λ x. v ≤ h x) xs → All (λ x. u x ≤ h x * g) xs →
    sum_by (λ x. u x - v * g) xs + length xs * (v * g) ≤ sum_by h xs * g
above-le u h v g [] high most = omega arith
above-le u h v g (x ∷ xs) high most =
    let here : v * g ≤ h x * g = mul-le-mul_right g (All-head (λ x. v ≤ h x) x xs high) in
    let both : sum_by h (x ∷ xs) * g ≡ (h x + sum_by h xs) * g = ap (λ (k : ℕ). k * g) (sum_by-cons h x xs) in
    omega (
      arith,
      sum_by-cons (λ x. u x - v * g) x xs,
      All-head (λ x. u x ≤ h x * g) x xs most,
      above-le u h v g xs (All-tail (λ x. v ≤ h x) x xs high) (All-tail (λ x. u x ≤ h x * g) x xs most),
    )

-- distinct members of a list, and others that are at most a value that all its members have in their bounds
sum_by-split : {X : Type 0} (u h : X → ℕ) (v g : ℕ) (set first : List X) → AllPairs (λ a b. a ≢ b) set →
    All (λ y. Contains first y ⊎ (u y ≤ v * g)) set → All (λ x. v ≤ h x) first → All (λ x. u x ≤ h x * g) first →
    sum_by u set + length first * (v * g) ≤ sum_by h first * g + length set * (v * g)
sum_by-split u h v g set first apart each high most =
    let split : All (λ y. Contains first y ⊎ (u y - v * g ≡ 0)) set =
    All-weaker (λ y. Contains first y ⊎ (u y ≤ v * g)) (λ y. Contains first y ⊎ (u y - v * g ≡ 0))
    (λ y.
    ⊎_elim (λ (c : Contains first y). inl c) (λ (low : u y ≤ v * g). inr (omega arith)))
    set each in
    omega (
      arith,
      sum_by-le_above u (v * g) set,
      sum_by-of_distinct (λ y. u y - v * g) set first apart split,
      above-le u h v g first high most,
    )

-- a member of a falling list is among the first ones, or is at most the last of these
among_first : {X : Type 0} (f : X → ℕ) (xs : List X) (n : ℕ) (d y : X) → Falls f xs → n < length xs → Contains xs y →
    Contains (take (suc n) xs) y ⊎ (f y ≤ f (get_or xs n d))
among_first f xs n d y falls within c =
    ⊎_elim
    (λ (before : c.0 < suc n).
    let inside : c.0 < length (take (suc n) xs) = rw (length-take-le (suc n) xs (omega arith)) before in
    inl (c.0, inside, get_or-take (suc n) xs c.0 y before ∙ c.2))
    (λ (behind : suc n ≤ c.0).
    let lower : f (get_or xs c.0 y) ≤ f (get_or xs n y) = falls n c.0 y (omega arith) c.1 in
    inr (rw (c.2, get_or_default xs n y d within) at lower))
    (cases_lt c.0 (suc n))

first_at_least : {X : Type 0} (f : X → ℕ) (xs : List X) (n : ℕ) (d : X) → Falls f xs → n < length xs →
    All (λ x. f (get_or xs n d) ≤ f x) (take (suc n) xs)
first_at_least f xs n d falls within k e inside =
    let long : length (take (suc n) xs) ≡ suc n = length-take-le (suc n) xs (omega arith) in
    let before : k < suc n = rw long at inside in
    let higher : f (get_or xs n e) ≤ f (get_or xs k e) = falls k n e (omega arith) within in
    rw (get_or-take (suc n) xs k e before, get_or_default xs n d e within) higher

module _ (es : List Element) (ok : AreElements es) (t : ℕ) (members : List (List (List ℕ)))
    (closed : IsClosedAbove es t members) (all : All (IsIsotopologue es) members) where
  -- the members above the threshold, and those of the greatest upper bounds first
  abbrev above : List (List (List ℕ))
  above = filter (λ m. ltb t (hi_of es m)) members

  greatest : List (List (List ℕ))
  greatest = greatest_first (hi_of es) above

  -- the number that a weight is compared by
  abbrev part : List (List ℕ) → ℕ
  part i = certainty * isotopologue_weight es i

  greatest-IsPermutation : IsPermutation above greatest
  unfolding greatest
  greatest-IsPermutation = IsPermutation-sorted_by (λ a b. ltb (hi_of es b) (hi_of es a)) above

  greatest-falls : Falls (hi_of es) greatest
  unfolding greatest
  greatest-falls = greatest_first-falls (hi_of es) above

  greatest-are : All (IsIsotopologue es) greatest
  greatest-are =
      All-permutation (IsIsotopologue es) above greatest greatest-IsPermutation
      (All-filter (λ m. ltb t (hi_of es m)) (IsIsotopologue es) members all)

  greatest-high : All (λ m. t ≤ hi_of es m) greatest
  greatest-high =
      All-permutation (λ m. t ≤ hi_of es m) above greatest greatest-IsPermutation
      (All-weaker (λ m. ltb t (hi_of es m) ≡ true) (λ m. t ≤ hi_of es m)
      (λ m h. let over : t < hi_of es m = ltb-true t (hi_of es m) h in omega arith) above
      (filter_passes (λ m. ltb t (hi_of es m)) members))

  part-le : (i : List (List ℕ)) → IsIsotopologue es i → part i ≤ hi_of es i * all_weight es
  part-le i is = (IsEnclosure-isotopologue es i ok.weights is).from_above

  greatest-parts : All (λ i. part i ≤ hi_of es i * all_weight es) greatest
  greatest-parts =
      All-weaker (IsIsotopologue es) (λ i. part i ≤ hi_of es i * all_weight es) part-le greatest greatest-are

  -- the total in terms of the members
  greatest_total-is : (n : ℕ) →
      greatest_total es t members n ≡ sum_by (hi_of es) (take n greatest) + (n - length greatest) * t
  unfolding greatest_total greatest_above greatest
  greatest_total-is n =
      rw (← map-greatest_first (hi_of es) above)
      (let sums : sum (take n (map (hi_of es) (greatest_first (hi_of es) above)))
      ≡ sum_by (hi_of es) (take n (greatest_first (hi_of es) above)) =
      ap sum (take-map (hi_of es) n (greatest_first (hi_of es) above))
      ∙ sum-map (hi_of es) (take n (greatest_first (hi_of es) above)) in
      let longs : length (map (hi_of es) (greatest_first (hi_of es) above)) ≡ length (greatest_first (hi_of es) above) =
      length-map (greatest_first (hi_of es) above) (hi_of es) in
      rw (sums, longs))

  greatest_total-le : (m n : ℕ) → m ≤ n → greatest_total es t members m ≤ greatest_total es t members n
  greatest_total-le m n le =
      let missing : (m - length greatest) * t ≤ (n - length greatest) * t = mul-le-mul_right t (omega arith) in
      omega (
        arith,
        greatest_total-is m,
        greatest_total-is n,
        sum_by-take-le (hi_of es) m n greatest le,
      )

  -- an isotopologue is one of the greatest, or at most the threshold
  greatest-cases : (i : List (List ℕ)) → IsIsotopologue es i →
      Contains greatest i ⊎ (part i ≤ t * all_weight es)
  greatest-cases i is =
      ⊎_elim
      (λ (member : Contains members i).
      ⊎_elim
      (λ (over : t < hi_of es i).
      inl (Contains-permutation above greatest i greatest-IsPermutation
      (Contains-filter (λ m. ltb t (hi_of es m)) members i (lt-ltb t (hi_of es i) over) member)))
      (λ (low : hi_of es i ≤ t). inr (below es ok.weights t members closed i is low))
      (cases_lt t (hi_of es i)))
      (λ (low : IsAtMost es t i). inr low)
      (outside es ok.weights t members closed i is)

  -- few isotopologues, and more than there are above the threshold
  parts-of-few : (set : List (List (List ℕ))) (n : ℕ) → IsSet es set → length set ≡ suc n → n < length greatest →
      sum_by part set ≤ sum_by (hi_of es) (take (suc n) greatest) * all_weight es
  parts-of-few set n is long within =
      let d : List (List ℕ) = [] in
      let v : ℕ = hi_of es (get_or greatest n d) in
      let first : List (List (List ℕ)) = take (suc n) greatest in
      let length_first : length first ≡ suc n = length-take-le (suc n) greatest (omega arith) in
      let higher : t * all_weight es ≤ hi_of es (get_or greatest n d) * all_weight es =
      mul-le-mul_right (all_weight es) (greatest-high n d within) in
      let each : All (λ y. Contains first y ⊎ (part y ≤ v * all_weight es)) set =
      All-weaker (IsIsotopologue es) (λ y. Contains first y ⊎ (part y ≤ v * all_weight es))
      (λ y isotopologue.
      ⊎_elim
      (λ (c : Contains greatest y).
      ⊎_elim
      (λ (found : Contains (take (suc n) greatest) y). inl found)
      (λ (low : hi_of es y ≤ hi_of es (get_or greatest n d)).
      inr (le_trans (part-le y isotopologue) (mul-le-mul_right (all_weight es) low)))
      (among_first (hi_of es) greatest n d y greatest-falls within c))
      (λ (low : part y ≤ t * all_weight es). inr (le_trans low higher))
      (greatest-cases y isotopologue))
      set is.isotopologues in
      let lengths : length first * (v * all_weight es) ≡ length set * (v * all_weight es) =
      ap (λ (k : ℕ). k * (v * all_weight es)) (length_first ∙ sym long) in
      omega (
        arith,
        sum_by-split part (hi_of es) v (all_weight es) set first is.distinct each
            (first_at_least (hi_of es) greatest n d greatest-falls within)
            (All-take (λ i. part i ≤ hi_of es i * all_weight es) (suc n) greatest greatest-parts),
      )

  parts-of-many : (set : List (List (List ℕ))) → IsSet es set → length greatest ≤ length set →
      sum_by part set ≤ (sum_by (hi_of es) greatest + (length set - length greatest) * t) * all_weight es
  parts-of-many set is many =
      let rest : ℕ = length set - length greatest in
      let lengths : length set ≡ length greatest + rest = omega arith in
      let parts : length set * (t * all_weight es) ≡ (length greatest + rest) * (t * all_weight es) =
      ap (λ (k : ℕ). k * (t * all_weight es)) lengths in
      omega (
        arith,
        sum_by-split part (hi_of es) t (all_weight es) set greatest is.distinct
            (All-weaker (IsIsotopologue es) (λ y. Contains greatest y ⊎ (part y ≤ t * all_weight es)) greatest-cases set
            is.isotopologues)
            greatest-high greatest-parts,
      )

  parts-le : (n : ℕ) (set : List (List (List ℕ))) → IsSet es set → length set ≡ n →
      sum_by part set ≤ greatest_total es t members n * all_weight es
  parts-le zero [] is long = omega arith
  parts-le zero (i ∷ set) is long = absurd (omega arith)
  parts-le (suc n) set is long =
      ⊎_elim
      (λ (within : n < length greatest).
      le_trans (parts-of-few set n is long within)
      (mul-le-mul_right (all_weight es) (omega (arith, greatest_total-is (suc n)))))
      (λ (many : length greatest ≤ n).
      let whole : take (suc n) greatest ≡ greatest = take_all (suc n) greatest (omega arith) in
      rw (greatest_total-is (suc n), whole) (rw long at (parts-of-many set is (omega arith))))
      (cases_lt n (length greatest))

  -- No set with fewer members than the bound reaches the coverage.
  pub closed-Bound : (coverage bound : ℕ) → greatest_total es t members (bound - 1) < coverage → Bound es bound coverage
  closed-Bound coverage bound short set few reached =
      let total : ℕ = greatest_total es t members (length set) in
      let most : sum_by part set ≤ greatest_total es t members (length set) * all_weight es =
      parts-le (length set) set reached.set_is refl in
      let scaled : sum_by part set ≡ certainty * weight_of_set es set =
      sum_by-scale certainty (isotopologue_weight es) set in
      let enough : coverage * all_weight es ≤ greatest_total es t members (length set) * all_weight es =
      omega (arith, reached.enough) in
      let high : coverage ≤ greatest_total es t members (length set) =
      le_of_mul-le-mul_right enough (all_weight-positive es ok.weights) in
      omega (arith, greatest_total-le (length set) (bound - 1) (omega arith))

-- Isotopologues whose lower bounds total at least the coverage reach it.
pub reaches-by_lo : (es : List Element) → AreElements es → (set : List (List (List ℕ))) → IsSet es set →
    (coverage : ℕ) → coverage ≤ lo_total es set → Reaches es set coverage
reaches-by_lo es ok set is coverage enough = record {
  set_is = is;
  enough = omega (arith, mul-le-mul_right (all_weight es) enough, lo_total-le-weight es ok set is.isotopologues);
}
