-- Items are their counts with the bounds of these.
use Rattle.std.proofs.Common.{◌≡◌, ℕ, ◌+◌, ◌<◌, ◌≤◌, Bool, true, false, List, [], ◌∷◌, ◌++◌, length, map, get_or, cond}
use Rattle.std.proofs.Common.{ltb, leb, refl, sym, ◌∙◌, ap, arith, All, ⊎_elim, length-append}
use Rattle.std.specs.Prelude.{filter, ◌&&◌}
use Rattle.std.proofs.lemmas.Bool.{and_parts, and_cases, ltb-true, ltb-false, leb-true, leb-false}
use Rattle.std.proofs.lemmas.List.{map-append, length-map, get_or-map}
use Rattle.std.proofs.lemmas.List.Sorted.{All-permutation, Contains-permutation}
use Rattle.multinomial_bounds.specs.Weight.{IsWeights, IsCounts}
use Rattle.multinomial_bounds.specs.Bounds.{floor_of, ceiling_of}
use Rattle.multinomial_bounds.specs.Mode.{mode_of_atoms}
use Rattle.multinomial_bounds.specs.Path.{bound_of}
use Rattle.multinomial_bounds.proofs.ModeLemmas.{length-mode_of_atoms}
use Rattle.sub_isotopologues.specs.SubIsotopologues.{SubIsotopologue, sub_isotopologue_of}
use Rattle.sub_isotopologues.specs.Children.{in_band, wanted_of, children, counts_over}
use Rattle.sub_isotopologues.specs.Growth.{AreItemsOver}
use Rattle.sub_isotopologues.proofs.CountsOver.{over-IsCounts, over-above, Contains-over}
use Rattle.sub_isotopologues.proofs.Reached.{AreOlder, AreFound, found-few, found-more, found-whole, found-none, found-mode, all-counts}

-- the counts of items
abbrev pub counts_in : List SubIsotopologue → List (List ℕ)
counts_in items = map (λ i. i.counts) items

pub counts-of_items : (ws : List ℕ) (xs : List (List ℕ)) → counts_in (map (sub_isotopologue_of ws) xs) ≡ xs
unfolding sub_isotopologue_of
counts-of_items ws [] = refl
counts-of_items ws (x ∷ xs) = ap (λ ys. x ∷ ys) (counts-of_items ws xs)

-- items that have the bounds of their counts
abbrev pub AreItems : List ℕ → List SubIsotopologue → Type 0
AreItems ws items = items ≡ map (sub_isotopologue_of ws) (map (λ i. i.counts) items)

module _ (ws : List ℕ) where
  pub AreItems-of : (xs : List (List ℕ)) (items : List SubIsotopologue) → items ≡ map (sub_isotopologue_of ws) xs →
      AreItems ws items
  AreItems-of xs items is =
      is ∙ ap (map (sub_isotopologue_of ws)) (sym (counts-of_items ws xs) ∙ ap counts_in (sym is))

  pub AreItems-append : (xs ys : List SubIsotopologue) → AreItems ws xs → AreItems ws ys → AreItems ws (xs ++ ys)
  AreItems-append xs ys first second =
      ap (λ zs. zs ++ ys) first
      ∙ ap (λ zs. map (sub_isotopologue_of ws) (counts_in xs) ++ zs) second
      ∙ sym (map-append (sub_isotopologue_of ws) (counts_in xs) (counts_in ys))
      ∙ ap (map (sub_isotopologue_of ws)) (sym (map-append (λ (i : SubIsotopologue). i.counts) xs ys))

  -- an item at a place, by its counts
  module _ (items : List SubIsotopologue) (are : AreItems ws items) (k : ℕ) (within : k < length items) where
    pub item-at : (d : SubIsotopologue) → get_or items k d ≡ sub_isotopologue_of ws (get_or (counts_in items) k [])
    item-at d =
        let inside : k < length (counts_in items) = rw length-map within in
        ap (λ zs. get_or zs k d) are ∙ get_or-map (sub_isotopologue_of ws) (counts_in items) k [] d inside

    pub counts-at : (d : SubIsotopologue) → (get_or items k d).counts ≡ get_or (counts_in items) k []
    unfolding sub_isotopologue_of
    counts-at d = ap (λ (i : SubIsotopologue). i.counts) (item-at d)

    pub lo-at : (d : SubIsotopologue) → (get_or items k d).lo ≡ bound_of floor_of ws (get_or (counts_in items) k [])
    unfolding sub_isotopologue_of
    lo-at d = ap (λ (i : SubIsotopologue). i.lo) (item-at d)

    pub hi-at : (d : SubIsotopologue) → (get_or items k d).hi ≡ bound_of ceiling_of ws (get_or (counts_in items) k [])
    unfolding sub_isotopologue_of
    hi-at d = ap (λ (i : SubIsotopologue). i.hi) (item-at d)

  pub wanted-AreItems : (a u : ℕ) (xs : List (List ℕ)) → AreItems ws (wanted_of ws a u xs)
  unfolding wanted_of
  wanted-AreItems a u xs = AreItems-of (filter (in_band ws a u) xs) (wanted_of ws a u xs) refl

  pub wanted-counts : (a u : ℕ) (xs : List (List ℕ)) → counts_in (wanted_of ws a u xs) ≡ filter (in_band ws a u) xs
  unfolding wanted_of
  wanted-counts a u xs = counts-of_items ws (filter (in_band ws a u) xs)

  pub AreOlder-from : (n u : ℕ) (items : List SubIsotopologue) → AreItemsOver ws n u items → AreOlder ws n u
      (counts_in items)
  AreOlder-from n u items over = record {
    counts = All-permutation (IsCounts ws n) (counts_over ws n u) (counts_in items) over.same_counts
        (over-IsCounts ws n u);
    above = All-permutation (λ y. u < bound_of ceiling_of ws y) (counts_over ws n u) (counts_in items) over.same_counts
        (over-above ws n u);
    all = λ y is high. Contains-permutation (counts_over ws n u) (counts_in items) y over.same_counts
        (Contains-over ws n u y is high);
    distinct = over.distinct;
  }

-- One step of the search: the children of the item at the next place are added.
module _ (ws : List ℕ) (n a u p : ℕ) (ok : IsWeights ws) (lower : a ≤ u) (items found then : List SubIsotopologue)
    (older : AreItemsOver ws n u items) (are : AreItems ws found)
    (so_far : AreFound ws n a u (counts_in items) (counts_in found) p)
    (inside : p < length items + length found) where
  place_inside : p < length (counts_in items ++ counts_in found)
  place_inside =
      omega (
        arith,
        length-append (counts_in items) (counts_in found),
        length-map {B = List ℕ} items (λ i. i.counts),
        length-map {B = List ℕ} found (λ i. i.counts),
      )

  pub step-counts : IsCounts ws n (get_or (counts_in items ++ counts_in found) p [])
  step-counts =
      all-counts ws n a u ok (counts_in items) (AreOlder-from ws n u items older)
      (counts_in found) p so_far p [] place_inside

  pub step-is : counts_in (items ++ found) ≡ counts_in items ++ counts_in found
  step-is = map-append (λ (i : SubIsotopologue). i.counts) items found

  pub step-items : AreItems ws (items ++ found)
  step-items = AreItems-append ws items found older.values are

  pub step-inside : p < length (items ++ found)
  step-inside = omega (arith, length-append items found)

  module _ (x : List ℕ) (x_is : x ≡ get_or (counts_in items ++ counts_in found) p []) where
    step_then : List SubIsotopologue
    step_then = found ++ wanted_of ws a u (children (mode_of_atoms ws n) x)

    step-counts_then : counts_in (found ++ wanted_of ws a u (children (mode_of_atoms ws n) x))
        ≡ counts_in found
        ++ filter (in_band ws a u) (children (mode_of_atoms ws n) (get_or (counts_in items ++ counts_in found) p []))
    step-counts_then =
        map-append (λ (i : SubIsotopologue). i.counts) found (wanted_of ws a u (children (mode_of_atoms ws n) x))
        ∙ ap (λ ys. counts_in found ++ ys)
        (wanted-counts ws a u (children (mode_of_atoms ws n) x)
        ∙ ap (λ z. filter (in_band ws a u) (children (mode_of_atoms ws n) z)) x_is)

    more : AreFound ws n a u (counts_in items) (counts_in (found ++ wanted_of ws a u (children (mode_of_atoms ws n) x)))
        (p + 1)
    more = rw step-counts_then
        (found-more ws n a u ok (counts_in items) (AreOlder-from ws n u items older)
        (counts_in found) p so_far lower place_inside)

    pub step-found : then ≡ found ++ wanted_of ws a u (children (mode_of_atoms ws n) x) →
        AreFound ws n a u (counts_in items) (counts_in then) (p + 1)
    step-found is = rw is more

    pub step-values : then ≡ found ++ wanted_of ws a u (children (mode_of_atoms ws n) x) → AreItems ws then
    step-values is =
        rw is (AreItems-append ws found (wanted_of ws a u (children (mode_of_atoms ws n) x)) are
        (wanted-AreItems ws a u (children (mode_of_atoms ws n) x)))

    -- all of them are no more than all counts above the number
    pub step-few :
        length items + length found + length (wanted_of ws a u (children (mode_of_atoms ws n) x)) ≤ length
        (counts_over ws n a)
    step-few =
        omega (
          arith,
          found-few ws n a u ok (counts_in items) (AreOlder-from ws n u items older)
              (counts_in (found ++ wanted_of ws a u (children (mode_of_atoms ws n) x))) (p + 1) more lower,
          length-map {B = List ℕ} items (λ i. i.counts),
          length-map {B = List ℕ} (found ++ wanted_of ws a u (children (mode_of_atoms ws n) x)) (λ i. i.counts),
          length-append found (wanted_of ws a u (children (mode_of_atoms ws n) x)),
        )

-- The mode as an item.
module _ (ws : List ℕ) (n : ℕ) (mode : SubIsotopologue) (is : mode ≡ sub_isotopologue_of ws (mode_of_atoms ws n)) where
  pub mode_counts_are : mode.counts ≡ mode_of_atoms ws n
  unfolding sub_isotopologue_of
  mode_counts_are = ap (λ (i : SubIsotopologue). i.counts) is

  pub mode_counts_at : length mode.counts ≡ length ws
  mode_counts_at = ap length mode_counts_are ∙ length-mode_of_atoms ws n

  pub mode_hi_is : mode.hi ≡ bound_of ceiling_of ws (mode_of_atoms ws n)
  unfolding sub_isotopologue_of
  mode_hi_is = ap (λ (i : SubIsotopologue). i.hi) is

module _ (ws : List ℕ) (n a u : ℕ) (ok : IsWeights ws) (items : List SubIsotopologue) (mode : SubIsotopologue)
    (older : AreItemsOver ws n u items) (is : mode ≡ sub_isotopologue_of ws (mode_of_atoms ws n)) where
  one_mode : AreItems ws (mode ∷ [])
  one_mode = AreItems-of ws (mode_of_atoms ws n ∷ []) (mode ∷ []) (ap (λ (i : SubIsotopologue). i ∷ []) is)

  with_mode : a < mode.hi → mode.hi ≤ u → AreFound ws n a u (counts_in items) (counts_in (mode ∷ [])) 0
  with_mode above below =
      rw (mode_counts_are ws n mode is)
      (found-mode ws n a u ok (counts_in items) (AreOlder-from ws n u items older)
      (rw (mode_hi_is ws n mode is) at above) (rw (mode_hi_is ws n mode is) at below))

  without_mode : (a < mode.hi → u < mode.hi) → AreFound ws n a u (counts_in items) [] 0
  without_mode out =
      found-none ws n a u ok (counts_in items) (AreOlder-from ws n u items older)
      (rw (mode_hi_is ws n mode is) at out)

  pub found_first : (found : List SubIsotopologue) →
      found ≡ cond (ltb a mode.hi && leb mode.hi u) (mode ∷ []) [] →
      AreItems ws found × AreFound ws n a u (counts_in items) (counts_in found) 0
  found_first found found_is =
      let Goal : Bool → Type 0 = λ b. (ltb a mode.hi && leb mode.hi u) ≡ b → found ≡ cond b (mode ∷ []) [] →
      AreItems ws found × AreFound ws n a u (counts_in items) (counts_in found) 0 in
      (elim (ltb a mode.hi && leb mode.hi u) as Goal [
        | true ↦ λ band f.
            let both = and_parts (ltb a mode.hi) (leb mode.hi u) band in
            rw f (one_mode, with_mode (ltb-true a mode.hi both.0) (leb-true mode.hi u both.1))
        | false ↦ λ band f.
            rw f (
              AreItems-of ws [] [] refl,
              without_mode (λ above.
                  ⊎_elim
                  (λ (not_above : ltb a mode.hi ≡ false). absurd (omega (arith, ltb-false a mode.hi not_above)))
                  (λ (not_below : leb mode.hi u ≡ false). leb-false mode.hi u not_below)
                  (and_cases (ltb a mode.hi) (leb mode.hi u) band)),
            )
      ]) refl found_is

  pub first_few : a ≤ u → (ltb a mode.hi && leb mode.hi u) ≡ true → length items + 1 ≤ length (counts_over ws n a)
  first_few lower band =
      let both = and_parts (ltb a mode.hi) (leb mode.hi u) band in
      omega (
        arith,
        found-few ws n a u ok (counts_in items) (AreOlder-from ws n u items older) (counts_in (mode ∷ [])) 0
            (with_mode (ltb-true a mode.hi both.0) (leb-true mode.hi u both.1)) lower,
        length-map {B = List ℕ} items (λ i. i.counts),
      )

-- What is found at the end.
module _ (ws : List ℕ) (n a u : ℕ) (items found : List SubIsotopologue) (are : AreItems ws found) (p : ℕ)
    (so_far : AreFound ws n a u (counts_in items) (counts_in found) p) where
  pub found_below : All (λ (i : SubIsotopologue). i.hi ≤ u) found
  found_below k d within =
      let inside : k < length (counts_in found) = rw length-map within in
      rw (hi-at ws found are k within d) (so_far.below k [] inside)

  pub found_last : IsWeights ws → a ≤ u → AreItemsOver ws n u items → length items + length found ≤ p →
      AreItemsOver ws n a (items ++ found)
  found_last ok lower older whole = record {
    values = AreItems-append ws items found older.values are;
    same_counts = rw (map-append (λ (i : SubIsotopologue). i.counts) items found)
        (found-whole ws n a u ok (counts_in items) (AreOlder-from ws n u items older) (counts_in found) p so_far
        (omega (
          arith,
          length-append (counts_in items) (counts_in found),
          length-map {B = List ℕ} items (λ i. i.counts),
          length-map {B = List ℕ} found (λ i. i.counts),
        ))
        lower);
    distinct = rw (map-append (λ (i : SubIsotopologue). i.counts) items found) so_far.distinct;
  }
