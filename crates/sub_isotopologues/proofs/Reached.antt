-- The counts that are found from the mode and the older ones, parent before child: all with an upper bound in the band,
-- each once.
use Rattle.std.proofs.Common.{◌≡◌, ◌≢◌, ℕ, zero, suc, ◌+◌, ◌<◌, ◌≤◌, true, List, [], ◌∷◌, ◌++◌, length, get_or, take}
use Rattle.std.proofs.Common.{refl, sym, ◌∙◌, ap, subst, arith, All, ⊎_elim, inl, inr, append_assoc, length-append}
use Rattle.std.specs.Prelude.{AllPairs, Contains, filter, ◌⊎◌}
use Rattle.std.specs.List.Sorted.{IsPermutation}
use Rattle.std.proofs.Math.Nat.{le_trans}
use Rattle.std.proofs.lemmas.Bool.{cases_lt, and_parts, and_from, ltb-true, leb-true, lt-ltb, le-leb}
use Rattle.std.proofs.lemmas.List.{take_more, take_all, take-append-le, append-nil, length-take, get_or-take, get_or_default}
use Rattle.std.proofs.lemmas.List.Elements.{All-nil, All-cons, All-append, All-weaker, All-filter, filter_passes}
use Rattle.std.proofs.lemmas.List.Elements.{Contains-push, Contains-push_cases, Contains-append_left}
use Rattle.std.proofs.lemmas.List.Elements.{Contains-append_right}
use Rattle.std.proofs.lemmas.List.Kept.{AllPairs-filter}
use Rattle.multinomial_bounds.specs.Weight.{IsWeights, IsCounts}
use Rattle.multinomial_bounds.specs.Bounds.{ceiling_of}
use Rattle.multinomial_bounds.specs.Mode.{mode_of_atoms}
use Rattle.multinomial_bounds.specs.Path.{atoms_above, parent_of, bound_of}
use Rattle.multinomial_bounds.proofs.PathLemmas.{atoms_above-self}
use Rattle.sub_isotopologues.specs.Children.{in_band, children, counts_over}
use Rattle.sub_isotopologues.proofs.ListParts.{contains_filter, AllPairs-one, AllPairs-append, at_most_all, same_items}
use Rattle.sub_isotopologues.proofs.ChildLists.{IsChild, All-children, children-distinct, Contains-children}
use Rattle.sub_isotopologues.proofs.Descent.{mode_counts, nearest-is_mode, parent_counts, hi-le-parent, to_parent}
use Rattle.sub_isotopologues.proofs.CountsOver.{over-IsCounts, over-above, Contains-over, over-distinct}

-- older counts: all with an upper bound above a number, each once
pub record AreOlder (ws : List ℕ) (n u : ℕ) (older : List (List ℕ)) : Type 0 where
  pub counts : All (IsCounts ws n) older
  pub above : All (λ y. u < bound_of ceiling_of ws y) older
  pub all : (y : List ℕ) → IsCounts ws n y → u < bound_of ceiling_of ws y → Contains older y
  pub distinct : AllPairs (λ a b. a ≢ b) older

-- counts that are the mode or have their parent among some
abbrev pub ComesFrom : List ℕ → ℕ → List (List ℕ) → List ℕ → Type 0
ComesFrom ws n parents y = (y ≡ mode_of_atoms ws n) ⊎ Contains parents (parent_of (mode_of_atoms ws n) y)

-- Found counts, where the children of the first p of all are found.
pub record AreFound (ws : List ℕ) (n a u : ℕ) (older found : List (List ℕ)) (p : ℕ) : Type 0 where
  pub counts : All (IsCounts ws n) found
  pub above : All (λ y. a < bound_of ceiling_of ws y) found
  pub below : All (λ y. bound_of ceiling_of ws y ≤ u) found
  pub distinct : AllPairs (λ a b. a ≢ b) (older ++ found)
  pub origin : All (ComesFrom ws n (take p (older ++ found))) found
  pub mode : a < bound_of ceiling_of ws (mode_of_atoms ws n) → Contains (older ++ found) (mode_of_atoms ws n)
  pub closed : (y : List ℕ) (d : ℕ) → IsCounts ws n y → a < bound_of ceiling_of ws y →
      atoms_above (mode_of_atoms ws n) y ≡ suc d → Contains (take p (older ++ found))
      (parent_of (mode_of_atoms ws n) y) →
      Contains (older ++ found) y

no_items : {X : Type 0} (x : X) → Contains [] x → ⊥
no_items x c = omega (arith, c.1)

module _ (ws : List ℕ) (n a u : ℕ) (ok : IsWeights ws) (older : List (List ℕ)) (old : AreOlder ws n u older) where
  -- at first, without the mode and with it
  pub found-none : ((a < bound_of ceiling_of ws (mode_of_atoms ws n)) → u < bound_of ceiling_of ws (mode_of_atoms ws n))
      →
      AreFound ws n a u older [] 0
  found-none out = record {
    counts = All-nil (IsCounts ws n);
    above = All-nil (λ y. a < bound_of ceiling_of ws y);
    below = All-nil (λ y. bound_of ceiling_of ws y ≤ u);
    distinct = rw append-nil old.distinct;
    origin = All-nil (ComesFrom ws n []);
    mode = λ h. rw append-nil (old.all (mode_of_atoms ws n) (mode_counts ws n ok) (out h));
    closed = λ y d is above far parent. absurd (no_items (parent_of (mode_of_atoms ws n) y) parent);
  }

  pub found-mode : a < bound_of ceiling_of ws (mode_of_atoms ws n) → bound_of ceiling_of ws (mode_of_atoms ws n) ≤ u →
      AreFound ws n a u older (mode_of_atoms ws n ∷ []) 0
  found-mode above below = record {
    counts = All-cons (IsCounts ws n) (mode_of_atoms ws n) [] (mode_counts ws n ok) (All-nil (IsCounts ws n));
    above = All-cons (λ y. a < bound_of ceiling_of ws y) (mode_of_atoms ws n) [] above
        (All-nil (λ y. a < bound_of ceiling_of ws y));
    below = All-cons (λ y. bound_of ceiling_of ws y ≤ u) (mode_of_atoms ws n) [] below
        (All-nil (λ y. bound_of ceiling_of ws y ≤ u));
    distinct =
        AllPairs-append (λ a b. a ≢ b) older (mode_of_atoms ws n ∷ []) old.distinct
        (AllPairs-one (λ a b. a ≢ b) (mode_of_atoms ws n))
        (All-weaker (λ y. u < bound_of ceiling_of ws y) (λ y. All (λ z. y ≢ z) (mode_of_atoms ws n ∷ []))
        (λ y high.
        All-cons (λ z. y ≢ z) (mode_of_atoms ws n) []
        (λ same. let h : u < bound_of ceiling_of ws (mode_of_atoms ws n) = rw (← same) high in omega arith)
        (All-nil (λ z. y ≢ z)))
        older old.above);
    origin = All-cons (ComesFrom ws n []) (mode_of_atoms ws n) [] (inl refl) (All-nil (ComesFrom ws n []));
    mode = λ _. Contains-append_right older (mode_of_atoms ws n ∷ []) (mode_of_atoms ws n)
        (Contains-push [] (mode_of_atoms ws n));
    closed = λ y d is above far parent. absurd (no_items (parent_of (mode_of_atoms ws n) y) parent);
  }

  module _ (found : List (List ℕ)) (p : ℕ) (so_far : AreFound ws n a u older found p) where
    -- each of all has an upper bound above the number
    pub all-counts : All (IsCounts ws n) (older ++ found)
    all-counts = All-append (IsCounts ws n) older found old.counts so_far.counts

    pub all-above : a ≤ u → All (λ y. a < bound_of ceiling_of ws y) (older ++ found)
    all-above lower =
        All-append (λ y. a < bound_of ceiling_of ws y) older found
        (All-weaker (λ y. u < bound_of ceiling_of ws y) (λ y. a < bound_of ceiling_of ws y)
        (λ y high. omega arith) older old.above)
        so_far.above

    all-among : a ≤ u → All (Contains (counts_over ws n a)) (older ++ found)
    all-among lower k d within =
        Contains-over ws n a (get_or (older ++ found) k d) (all-counts k d within) (all-above lower k d within)

    -- they are no more than all counts above it
    pub found-few : a ≤ u → length older + length found ≤ length (counts_over ws n a)
    found-few lower =
        omega (
          arith,
          length-append older found,
          at_most_all (older ++ found) (counts_over ws n a) so_far.distinct (all-among lower),
        )

    -- where the children of all are found, all counts above the number are
    module _ (whole : length (older ++ found) ≤ p) where
      pub found-all : (d : ℕ) (y : List ℕ) → IsCounts ws n y → a < bound_of ceiling_of ws y →
          atoms_above (mode_of_atoms ws n) y ≡ d → Contains (older ++ found) y
      found-all zero y is above none =
          let same : y ≡ mode_of_atoms ws n = nearest-is_mode ws n ok y is none in
          let P : List ℕ → Type 0 = λ z. Contains (older ++ found) z in
          let high : a < bound_of ceiling_of ws (mode_of_atoms ws n) = rw (← same) above in
          subst P (sym same) (so_far.mode high)
      found-all (suc d) y is above far =
          let parent : Contains (older ++ found) (parent_of (mode_of_atoms ws n) y) =
          found-all d (parent_of (mode_of_atoms ws n) y) (parent_counts ws n ok y d is far)
          (le_trans above (hi-le-parent ws n ok y d is far)) (to_parent ws n ok y d is far).nearer in
          so_far.closed y d is above far (rw (take_all p (older ++ found) whole) parent)

      pub found-whole : a ≤ u → IsPermutation (counts_over ws n a) (older ++ found)
      found-whole lower =
          same_items (older ++ found) (counts_over ws n a) so_far.distinct (all-among lower) (over-distinct ws n a)
          (λ k d within.
          found-all (atoms_above (mode_of_atoms ws n) (get_or (counts_over ws n a) k d))
          (get_or (counts_over ws n a) k d)
          (over-IsCounts ws n a k d within) (over-above ws n a k d within) refl)

    -- the children of the next of all are found
    module _ (lower : a ≤ u) (inside : p < length (older ++ found)) where
      here : List ℕ
      here = get_or (older ++ found) p []

      next_children : List (List ℕ)
      next_children = filter (in_band ws a u) (children (mode_of_atoms ws n) (get_or (older ++ found) p []))

      here-counts : IsCounts ws n (get_or (older ++ found) p [])
      here-counts = all-counts p [] inside

      same_places : length (mode_of_atoms ws n) ≡ length (get_or (older ++ found) p [])
      same_places = (mode_counts ws n ok).places_agree ∙ sym here-counts.places_agree

      next-children : All (IsChild (mode_of_atoms ws n) (get_or (older ++ found) p [])) next_children
      unfolding next_children
      next-children =
          All-filter (in_band ws a u) (IsChild (mode_of_atoms ws n) (get_or (older ++ found) p []))
          (children (mode_of_atoms ws n) (get_or (older ++ found) p []))
          (All-children (mode_of_atoms ws n) (get_or (older ++ found) p []) same_places)

      next-counts : All (IsCounts ws n) next_children
      next-counts =
          All-weaker (IsChild (mode_of_atoms ws n) (get_or (older ++ found) p [])) (IsCounts ws n)
          (λ y e. record {
            places_agree = e.places ∙ here-counts.places_agree;
            atoms_agree = e.atoms
                ∙ here-counts.atoms_agree;
          })
          next_children next-children

      next-band : All (λ y. (a < bound_of ceiling_of ws y) × (bound_of ceiling_of ws y ≤ u)) next_children
      unfolding next_children
      next-band =
          All-weaker (λ y. in_band ws a u y ≡ true)
          (λ y. (a < bound_of ceiling_of ws y) × (bound_of ceiling_of ws y ≤ u))
          (λ y passes.
          let both = and_parts _ _ passes in
          (ltb-true a (bound_of ceiling_of ws y) both.0, leb-true (bound_of ceiling_of ws y) u both.1))
          next_children
          (filter_passes (in_band ws a u) (children (mode_of_atoms ws n) (get_or (older ++ found) p [])))

      next-distinct : AllPairs (λ y z. y ≢ z) next_children
      unfolding next_children
      next-distinct =
          AllPairs-filter (λ y z. y ≢ z) (in_band ws a u) (children (mode_of_atoms ws n) (get_or (older ++ found) p []))
          (children-distinct (mode_of_atoms ws n) (get_or (older ++ found) p []) same_places)

      all_then : older ++ (found ++ next_children) ≡ (older ++ found) ++ next_children
      all_then = sym (append_assoc older found next_children)

      parents_then :
          take (p + 1) (older ++ (found ++ next_children)) ≡ take p (older ++ found) ++ get_or
          (older ++ found) p [] ∷ []
      parents_then =
          ap (take (p + 1)) all_then
          ∙ take-append-le (p + 1) (older ++ found) next_children (omega arith)
          ∙ take_more (older ++ found) p [] inside

      -- the counts whose children come are not among those whose children are there
      not-earlier : Contains (take p (older ++ found)) (get_or (older ++ found) p []) → ⊥
      not-earlier c =
          let before : c.0 < p = omega (arith, c.1, length-take p (older ++ found)) in
          let there : get_or (older ++ found) c.0 (get_or (older ++ found) p []) ≡ get_or (older ++ found) p [] =
          sym (get_or-take p (older ++ found) c.0 (get_or (older ++ found) p []) before) ∙ c.2 in
          so_far.distinct c.0 p (get_or (older ++ found) p []) before inside
          (there ∙ get_or_default (older ++ found) p [] (get_or (older ++ found) p []) inside)

      apart : (y z : List ℕ) → ComesFrom ws n (take p (older ++ found)) y →
          IsChild (mode_of_atoms ws n) (get_or (older ++ found) p []) z → y ≢ z
      apart y z origin child same =
          ⊎_elim
          (λ (is_mode : y ≡ mode_of_atoms ws n).
          let none : atoms_above (mode_of_atoms ws n) z ≡ 0 =
          ap (atoms_above (mode_of_atoms ws n)) (sym same ∙ is_mode) ∙ atoms_above-self (mode_of_atoms ws n) in
          absurd (omega (arith, child.farther)))
          (λ (earlier : Contains (take p (older ++ found)) (parent_of (mode_of_atoms ws n) y)).
          let P : List ℕ → Type 0 = λ w. Contains (take p (older ++ found)) w in
          not-earlier (subst P (ap (parent_of (mode_of_atoms ws n)) same ∙ child.parent) earlier))
          origin

      cross : All (λ y. All (λ z. y ≢ z) next_children) (older ++ found)
      cross =
          All-append (λ y. All (λ z. y ≢ z) next_children) older found
          (All-weaker (λ y. u < bound_of ceiling_of ws y) (λ y. All (λ z. y ≢ z) next_children)
          (λ y high.
          All-weaker (λ z. (a < bound_of ceiling_of ws z) × (bound_of ceiling_of ws z ≤ u)) (λ z. y ≢ z)
          (λ z band same. let h : u < bound_of ceiling_of ws z = rw (← same) high in omega (arith, band.1))
          next_children next-band)
          older old.above)
          (All-weaker (ComesFrom ws n (take p (older ++ found))) (λ y. All (λ z. y ≢ z) next_children)
          (λ y origin.
          All-weaker (IsChild (mode_of_atoms ws n) (get_or (older ++ found) p [])) (λ z. y ≢ z)
          (λ z child. apart y z origin child) next_children next-children)
          found so_far.origin)

      still : (y : List ℕ) → Contains (older ++ found) y → Contains (older ++ (found ++ next_children)) y
      still y c = rw all_then (Contains-append_left (older ++ found) next_children y c)

      closed_then : (y : List ℕ) (d : ℕ) → IsCounts ws n y → a < bound_of ceiling_of ws y →
          atoms_above (mode_of_atoms ws n) y ≡ suc d →
          Contains (take (p + 1) (older ++ (found ++ next_children))) (parent_of (mode_of_atoms ws n) y) →
          Contains (older ++ (found ++ next_children)) y
      unfolding next_children
      closed_then y d is above far parent =
          let cases = Contains-push_cases (take p (older ++ found)) (get_or (older ++ found) p [])
          (parent_of (mode_of_atoms ws n) y) (rw parents_then at parent) in
          ⊎_elim
          (λ (earlier : Contains (take p (older ++ found)) (parent_of (mode_of_atoms ws n) y)).
          still y (so_far.closed y d is above far earlier))
          (λ (now : get_or (older ++ found) p [] ≡ parent_of (mode_of_atoms ws n) y).
          ⊎_elim
          (λ (high : u < bound_of ceiling_of ws y).
          still y (Contains-append_left older found y (old.all y is high)))
          (λ (low : bound_of ceiling_of ws y ≤ u).
          let mode_is = mode_counts ws n ok in
          let among : Contains (children (mode_of_atoms ws n) (parent_of (mode_of_atoms ws n) y)) y =
          Contains-children (mode_of_atoms ws n) y d (mode_is.places_agree ∙ sym is.places_agree)
          (mode_is.atoms_agree ∙ sym is.atoms_agree) far in
          let child : Contains (children (mode_of_atoms ws n) (get_or (older ++ found) p [])) y = rw now among in
          let passes : in_band ws a u y ≡ true =
          and_from _ _ (lt-ltb a (bound_of ceiling_of ws y) above) (le-leb (bound_of ceiling_of ws y) u low) in
          rw all_then
          (Contains-append_right (older ++ found) next_children y
          (contains_filter (in_band ws a u) (children (mode_of_atoms ws n) (get_or (older ++ found) p [])) y passes
          child)))
          (cases_lt u (bound_of ceiling_of ws y)))
          cases

      pub found-more :
          AreFound ws n a u older
          (found ++ filter (in_band ws a u) (children (mode_of_atoms ws n) (get_or (older ++ found) p []))) (p + 1)
      unfolding next_children
      found-more = record {
        counts = All-append (IsCounts ws n) found next_children so_far.counts next-counts;
        above =
            All-append (λ y. a < bound_of ceiling_of ws y) found next_children so_far.above
            (All-weaker (λ y. (a < bound_of ceiling_of ws y) × (bound_of ceiling_of ws y ≤ u))
            (λ y. a < bound_of ceiling_of ws y)
            (λ y band. band.0) next_children next-band);
        below =
            All-append (λ y. bound_of ceiling_of ws y ≤ u) found next_children so_far.below
            (All-weaker (λ y. (a < bound_of ceiling_of ws y) × (bound_of ceiling_of ws y ≤ u))
            (λ y. bound_of ceiling_of ws y ≤ u)
            (λ y band. band.1) next_children next-band);
        distinct = rw all_then
            (AllPairs-append (λ y z. y ≢ z) (older ++ found) next_children so_far.distinct next-distinct cross);
        origin = rw parents_then
            (All-append (ComesFrom ws n (take p (older ++ found) ++ get_or (older ++ found) p [] ∷ [])) found
            next_children
            (All-weaker (ComesFrom ws n (take p (older ++ found)))
            (ComesFrom ws n (take p (older ++ found) ++ get_or (older ++ found) p [] ∷ []))
            (λ y origin.
            ⊎_elim
            (λ (is_mode : y ≡ mode_of_atoms ws n). inl is_mode)
            (λ (earlier : Contains (take p (older ++ found)) (parent_of (mode_of_atoms ws n) y)).
            inr (Contains-append_left (take p (older ++ found)) (get_or (older ++ found) p [] ∷ [])
            (parent_of (mode_of_atoms ws n) y) earlier))
            origin)
            found so_far.origin)
            (All-weaker (IsChild (mode_of_atoms ws n) (get_or (older ++ found) p []))
            (ComesFrom ws n (take p (older ++ found) ++ get_or (older ++ found) p [] ∷ []))
            (λ y child.
            inr (rw child.parent (Contains-push (take p (older ++ found)) (get_or (older ++ found) p []))))
            next_children next-children));
        mode = λ high. still (mode_of_atoms ws n) (so_far.mode high);
        closed = closed_then;
      }
