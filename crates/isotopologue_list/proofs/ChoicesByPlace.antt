-- Which items the choice at a place has: by division, the last list's item changing first.
use Rattle.std.proofs.Common.{◌≡◌, ℕ, zero, suc, ◌+◌, ◌*◌, ◌/◌, ◌%◌, ◌<◌, ◌≤◌, List, [], ◌∷◌, map, length, drop, get_or}
use Rattle.std.proofs.Common.{refl, sym, ◌∙◌, ap, arith, length-append, All}
use Rattle.std.specs.Prelude.{flat_map}
use Rattle.std.proofs.lemmas.List.{length-map, get_or-map, get_or_append_left, get_or-append-add, drop_all}
use Rattle.std.proofs.lemmas.Nat.{div-add-mod'}
use Rattle.std.proofs.Math.Nat.{mod-lt, mod-eq_of_lt, mul-add-div_right, mul-add-mod_self_right, mul_assoc, div-div-eq-div-mul, div-lt_iff_lt-mul}
use Rattle.std.proofs.Math.Seq.{drop-cons}
use Rattle.multinomial_bounds.specs.Compositions.{choices}
use Rattle.isotopologue_sets.specs.Covers.{Member}
use Rattle.isotopologue_list.specs.Listed.{BoundedCounts}
use Rattle.isotopologue_list.specs.ListedParts.{isotopologue_from}

-- a product that is above a number has no factor 0
pub right_some : (a b k : ℕ) → k < a * b → 0 < b
right_some a zero k above = let none : a * 0 ≡ 0 = omega arith in absurd (omega arith)
right_some a (suc b) k above = omega arith

-- the digit of a place is that of its remainder, where the others' number is a multiple of what it counts
same_digit : (k all m n later : ℕ) → all ≡ m * (n * later) → 0 < later → k / later % n ≡ k % all / later % n
same_digit k all m n later e some =
    let split : k ≡ k / all * m * n * later + k % all =
    sym (div-add-mod' k all)
    ∙ ap (λ (x : ℕ). k / all * x + k % all) e
    ∙ ap (λ (x : ℕ). x + k % all) (sym (mul_assoc (k / all) m (n * later)) ∙ sym (mul_assoc (k / all * m) n later)) in
    ap (λ (x : ℕ). x / later % n) split
    ∙ ap (λ (x : ℕ). x % n) (mul-add-div_right some (k / all * m * n) (k % all))
    ∙ mul-add-mod_self_right (k / all * m) n (k % all / later)

module _ {A : Type 0} where
  pub length-choices : (items : List A) (others : List (List A)) →
      length (choices (items ∷ others)) ≡ length items * length (choices others)
  unfolding choices
  length-choices items others = lengths items
    where
      lengths : (xs : List A) →
          length (flat_map (λ item. map (λ more. item ∷ more) (choices others)) xs) ≡ length xs * length (choices others)
      lengths [] = omega arith
      lengths (x ∷ xs) =
          length-append (map (λ more. x ∷ more) (choices others)) _
          ∙ omega (arith, length-map (choices others) (λ more. x ∷ more), lengths xs)

  -- the choice at place i * L + r, where L is the number of the others' choices
  choice_at : (others : List (List A)) (items : List A) (i r : ℕ) (d : A) → i < length items → r < length (choices others) →
      get_or (flat_map (λ item. map (λ more. item ∷ more) (choices others)) items) (i * length (choices others) + r) []
      ≡ get_or items i d ∷ get_or (choices others) r []
  choice_at others [] i r d within inside = absurd (omega arith)
  choice_at others (x ∷ xs) zero r d within inside =
      let first : 0 * length (choices others) + r ≡ r = omega arith in
      let short : r < length (map (λ more. x ∷ more) (choices others)) = rw length-map inside in
      rw (first, get_or_append_left (map (λ more. x ∷ more) (choices others)) _ [] r short)
      (get_or-map (λ more. x ∷ more) (choices others) r [] [] inside)
  choice_at others (x ∷ xs) (suc i) r d within inside =
      let later : suc i * length (choices others) + r
      ≡ length (map (λ more. x ∷ more) (choices others)) + (i * length (choices others) + r) =
      omega (arith, length-map (choices others) (λ more. x ∷ more)) in
      rw (later, get_or-append-add)
      (choice_at others xs i r d (omega arith) inside)

  pub choice_split : (items : List A) (others : List (List A)) (k : ℕ) (d : A) → k < length (choices (items ∷ others)) →
      (k / length (choices others) < length items) × (k % length (choices others) < length (choices others))
      × (get_or (choices (items ∷ others)) k [] ≡ get_or items (k / length (choices others)) d ∷ get_or (choices others) (k % length (choices others)) [])
  unfolding choices
  choice_split items others k d within =
      let above : k < length items * length (choices others) = rw (← length-choices items others) within in
      let some : 0 < length (choices others) = right_some (length items) (length (choices others)) k above in
      let first : k / length (choices others) < length items = (div-lt_iff_lt-mul some).1 above in
      let second : k % length (choices others) < length (choices others) = mod-lt k some in (
        first,
        second,
        ap (λ (j : ℕ). get_or (flat_map (λ item. map (λ more. item ∷ more) (choices others)) items) j [])
            (sym (div-add-mod' k (length (choices others))))
            ∙ choice_at others items (k / length (choices others)) (k % length (choices others)) d first second,
      )

  -- how many choices there are of the lists after a place
  pub after : List (List A) → ℕ → ℕ
  after lists e = length (choices (drop (suc e) lists))

  pub after_is : (items : List A) (others : List (List A)) → after (items ∷ others) 0 ≡ length (choices others)
  unfolding after
  after_is items others = refl

  after_suc : (items : List A) (others : List (List A)) (e : ℕ) → after others e ≡ after (items ∷ others) (suc e)
  unfolding after
  after_suc items others e = refl

  -- the number of all choices is a multiple of those of one list and the later ones
  multiple : (lists : List (List A)) (e : ℕ) → e < length lists →
      (m : ℕ) × (length (choices lists) ≡ m * (length (get_or lists e []) * after lists e))
  unfolding after
  multiple [] e within = absurd (omega arith)
  multiple (items ∷ others) zero within = (1, length-choices items others ∙ omega arith)
  multiple (items ∷ others) (suc e) within =
      let rest = multiple others e (omega arith) in (
        length items * rest.0,
        length-choices items others
            ∙ ap (λ (x : ℕ). length items * x) rest.1
            ∙ sym (mul_assoc (length items) rest.0 (length (get_or others e []) * after others e)),
      )

  pub after-some : (lists : List (List A)) (e k : ℕ) → e < length lists → k < length (choices lists) → 0 < after lists e
  after-some lists e k within inside =
      let parts = multiple lists e within in
      let above : k < parts.0 * (length (get_or lists e []) * after lists e) = rw (← parts.1) inside in
      right_some (length (get_or lists e [])) (after lists e) 0
      (right_some parts.0 (length (get_or lists e []) * after lists e) k above)

  pub items-some : (lists : List (List A)) (e k : ℕ) → e < length lists → k < length (choices lists) →
      0 < length (get_or lists e [])
  items-some lists e k within inside =
      let parts = multiple lists e within in
      let above : k < parts.0 * (length (get_or lists e []) * after lists e) = rw (← parts.1) inside in
      let both : 0 < length (get_or lists e []) * after lists e =
      right_some parts.0 (length (get_or lists e []) * after lists e) k above in
      let turned : 0 < after lists e * length (get_or lists e []) = omega arith in
      right_some (after lists e) (length (get_or lists e [])) 0 turned

  -- the item that the choice at a place has of a list
  pub item_at : (lists : List (List A)) (e k : ℕ) (d : A) → e < length lists → k < length (choices lists) →
      get_or (get_or (choices lists) k []) e d
      ≡ get_or (get_or lists e []) (k / after lists e % length (get_or lists e [])) d
  item_at [] e k d within inside = absurd (omega arith)
  item_at (items ∷ others) zero k d within inside =
      let split = choice_split items others k d inside in
      ap (λ c. get_or c 0 d) split.2
      ∙ ap (λ (i : ℕ). get_or items i d) (sym (mod-eq_of_lt split.0))
      ∙ ap (λ (n : ℕ). get_or items (k / n % length items) d) (sym (after_is items others))
  item_at (items ∷ others) (suc e) k d within inside =
      let split = choice_split items others k d inside in
      let L : ℕ = length (choices others) in
      let parts = multiple others e (omega arith) in
      let rest = item_at others e (k % L) d (omega arith) split.1 in
      ap (λ c. get_or c (suc e) d) split.2
      ∙ rest
      ∙ ap (λ (i : ℕ). get_or (get_or others e []) i d)
      (sym (same_digit k L parts.0 (length (get_or others e [])) (after others e) parts.1
      (after-some others e (k % L) (omega arith) split.1)))
      ∙ ap (λ (n : ℕ). get_or (get_or others e []) (k / n % length (get_or others e [])) d) (after_suc items others e)

  -- the choices of the lists from a place on
  pub after_step : (lists : List (List A)) (e : ℕ) → e < length lists →
      length (choices (drop e lists)) ≡ after lists e * length (get_or lists e [])
  unfolding after
  after_step lists e within =
      ap (λ xs. length (choices xs)) (drop-cons lists e [] within)
      ∙ length-choices (get_or lists e []) (drop (suc e) lists)
      ∙ omega arith

  pub length-choice : (lists : List (List A)) (k : ℕ) (d : A) → k < length (choices lists) →
      length (get_or (choices lists) k []) ≡ length lists
  unfolding choices
  length-choice [] zero d inside = refl
  length-choice [] (suc k) d inside = absurd (omega arith)
  length-choice (items ∷ others) k d inside =
      let split = choice_split items others k d inside in
      ap length split.2 ∙ ap suc (length-choice others (k % length (choices others)) d split.1)

  pub is_item : (xs : List (List A)) (e : ℕ) (x : List A) → e < length xs → x ≡ get_or xs e x → x ≡ get_or xs e []
  is_item [] e x within is = absurd (omega arith)
  is_item (y ∷ ys) zero x within is = is
  is_item (y ∷ ys) (suc e) x within is = is_item ys e x (omega arith) is

  -- the place over the numbers of choices of the later lists, from the last on
  pub none_after : (lists : List (List A)) (j k : ℕ) → length lists ≤ j → k ≡ k / length (choices (drop j lists))
  unfolding choices
  none_after lists j k none = rw (drop_all j lists none) (omega arith)

  pub one_more_after : (lists : List (List A)) (e j k choice n : ℕ) → j ≡ suc e → e < length lists →
      choice ≡ k / length (choices (drop j lists)) → n ≡ length (get_or lists e []) →
      choice / n ≡ k / length (choices (drop e lists))
  unfolding after
  one_more_after lists e j k choice n next within before items =
      ap (λ (x : ℕ). x / n) (before ∙ ap (λ (i : ℕ). k / length (choices (drop i lists))) next)
      ∙ ap (λ (x : ℕ). k / length (choices (drop (suc e) lists)) / x) items
      ∙ div-div-eq-div-mul k (length (choices (drop (suc e) lists))) (length (get_or lists e []))
      ∙ ap (λ (x : ℕ). k / x) (sym (after_step lists e within))

  pub all_after : (lists : List (List A)) (e : ℕ) → after lists e ≡ length (choices (drop (e + 1) lists))
  unfolding after
  all_after lists e = ap (λ (i : ℕ). length (choices (drop i lists))) (let s : suc e ≡ e + 1 = omega arith in s)

-- the isotopologue at a place
module _ (lists : List (List BoundedCounts)) (is : List Member) (view : map isotopologue_from (choices lists) ≡ is)
    (k : ℕ) (within : k < length is) where
  pub place_inside : k < length (choices lists)
  place_inside =
      let e : length is ≡ length (choices lists) = ap length (sym view) ∙ length-map (choices lists) isotopologue_from in
      rw e at within

  pub counts_at : (d : Member) →
      (get_or is k d).counts ≡ map (λ c. c.counts) (get_or (choices lists) k [])
  unfolding isotopologue_from
  counts_at d =
      ap (λ xs. (get_or xs k d).counts) (sym view)
      ∙ ap (λ i. i.counts) (get_or-map isotopologue_from (choices lists) k [] d place_inside)

  pub element_inside : (element : ℕ) → All (λ i. element < length i.counts) is → element < length lists
  element_inside element all =
      let none : BoundedCounts = record { counts = []; lo = 0; hi = 0 } in
      let d : Member = record { counts = []; lo = 0; hi = 0 } in
      let has : element < length (get_or is k d).counts = all k d within in
      let e : length (get_or is k d).counts ≡ length lists =
      ap length (counts_at d) ∙ length-map (get_or (choices lists) k []) (λ c. c.counts)
      ∙ length-choice lists k none place_inside in
      rw e at has

  pub element_counts : (element : ℕ) (d : Member) (c : BoundedCounts) (e : List ℕ) → element < length lists →
      get_or (get_or is k d).counts element e
      ≡ (get_or (get_or lists element []) (k / after lists element % length (get_or lists element [])) c).counts
  element_counts element d c e inside =
      let many : element < length (get_or (choices lists) k []) = rw (length-choice lists k c place_inside) inside in
      ap (λ xs. get_or xs element e) (counts_at d)
      ∙ get_or-map (λ c. c.counts) (get_or (choices lists) k []) element c e many
      ∙ ap (λ x. x.counts) (item_at lists element k c inside place_inside)
