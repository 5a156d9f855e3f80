-- What a list keeps, from one call to the next.
use Rattle.std.specs.Prelude.{◌↔◌}
use Rattle.std.proofs.lemmas.List.{take_at, get_or-take, length-take-le, length-map, map-append}
use Rattle.sub_isotopologues.specs.Children.{children, counts_over, IsBoundUpTo}
use Rattle.std.proofs.Common.{◌≡◌, ℕ, suc, ◌+◌, ◌-◌, ◌<◌, ◌≤◌, true, false, ltb, List, [], ◌∷◌, ◌++◌, length, map}
use Rattle.std.proofs.Common.{take, get_or, sum, Ok, Err, refl, sym, ◌∙◌, ap, subst, arith, All, length-append}
use Rattle.std.specs.List.{range_with_len}
use Rattle.std.proofs.lemmas.Bool.{lt-ltb, le-ltb}
use Rattle.reader_answers.specs.Answers.{GivesAs}
use Rattle.multinomial_bounds.specs.Weight.{IsWeights, IsCounts}
use Rattle.multinomial_bounds.specs.Bounds.{certainty, floor_of, ceiling_of}
use Rattle.multinomial_bounds.specs.Mode.{mode_of_atoms, mode_bound}
use Rattle.multinomial_bounds.specs.Path.{bound_of}
use Rattle.multinomial_bounds.specs.Isotopologue.{Element}
use Rattle.multinomial_bounds.proofs.EnclosureLemmas.{bound_of-mode}
use Rattle.multinomial_bounds.proofs.ModeLemmas.{sum-mode_of_atoms}
use Rattle.sub_isotopologues.specs.declared.fault.SubFault.{SubFault}
use Rattle.sub_isotopologues.specs.declared.fault.SubFault.TheVariants.{TooMany, NotInList, Memory}
use Rattle.sub_isotopologues.specs.SubIsotopologues.{SubIsotopologue, sub_isotopologue_of, product_with, AreOthers}
use Rattle.sub_isotopologues.specs.Listings.{Listing, lowered, with_given, counts_above, items_of, places_left}
use Rattle.sub_isotopologues.specs.Listings.{max_sub_isotopologues}
use Rattle.sub_isotopologues.specs.ListAnswers.{is_memory, within_limit, OnlyTooMany}
use Rattle.sub_isotopologues.specs.Growth.{Grown, grown_items, items_over, AreGrown, IsListed, AreSearched}
use Rattle.sub_isotopologues.proofs.CutoffLemmas.{raised-most, raised-once, product_with-is}
use Rattle.sub_isotopologues.proofs.CountsOver.{over-IsCounts, over-above}
use Rattle.sub_isotopologues.proofs.Descent.{hi-enclosed}
use Rattle.sub_isotopologues.proofs.ItemLists.{mode_counts_are}
use Rattle.sub_isotopologues.proofs.ListLaws.{counts_above-IsCounts, counts_above-above, items_of-cut, cut-falls}
use Rattle.sub_isotopologues.proofs.FrontItems.{items_between, front-items}

-- the items do not depend on how many were given
pub items_of-given : (l : Listing) (given : ℕ) → items_of (with_given l given) ≡ items_of l
unfolding items_of counts_above
items_of-given l given = refl

pub next_place : (g n : ℕ) → g < n → range_with_len g (n - g) ≡ g ∷ range_with_len (g + 1) (n - (g + 1))
next_place g n left =
    let e : n - g ≡ suc (n - (g + 1)) = omega arith in
    rw e refl

pub places_left-next : (l : Listing) → l.given < length (items_of l) →
    places_left l ≡ l.given ∷ places_left (with_given l (l.given + 1))
places_left-next l left =
    next_place l.given (length (items_of l)) left
    ∙ ap (λ (items : List SubIsotopologue). l.given ∷ range_with_len (l.given + 1) (length items - (l.given + 1)))
    (sym (items_of-given l (l.given + 1)))

-- the same items, one more of them given
pub IsListed-given : (l : Listing) (g : Grown) (listed given : ℕ) → IsListed l g listed → given ≤ listed →
    IsListed (with_given l given) g listed
IsListed-given l g listed given is few = record {
  weights = is.weights;
  cut = is.cut;
  cuts = is.cuts;
  others = is.others;
  at_most_one = is.at_most_one;
  given = few;
  within = is.within;
  items_are = is.items_are ∙ sym (items_of-given l given);
}

-- as many items are listed as the list has
pub listed-length : (l : Listing) (g : Grown) (listed : ℕ) → IsListed l g listed → length (items_of l) ≡ listed
listed-length l g listed is = ap length (sym is.items_are) ∙ length-take-le listed (grown_items g) is.within

-- no product is above 1
no_members : {X : Type 0} (P : X → Type 0) (xs : List X) → All P xs → ((x : X) → P x → ⊥) → xs ≡ []
no_members P [] all none = refl
no_members P (x ∷ xs) all none = absurd (none x (all 0 x (omega arith)))

pub product_with-most : (before : ℕ) (after : List ℕ) (hi : ℕ) → AreOthers before after → hi ≤ certainty →
    product_with before after hi ≤ certainty
product_with-most before after hi others le =
    rw (product_with-is before after hi)
    (raised-most _ after (raised-once before hi others.before_most le) others.after_most)

pub items_of-certainty : (l : Listing) → IsWeights l.element.weights → AreOthers l.before l.after →
    l.threshold ≡ certainty →
    items_of l ≡ []
unfolding items_of
items_of-certainty l ok others one =
    let none : counts_above l ≡ [] =
    no_members
    (λ c. IsCounts l.element.weights l.element.atoms c
    × (l.threshold < product_with l.before l.after (bound_of ceiling_of l.element.weights c)))
    (counts_above l) (λ k d within. (counts_above-IsCounts l k d within, counts_above-above l k d within))
    (λ c both.
    omega (
      arith,
      both.1,
      product_with-most l.before l.after (bound_of ceiling_of l.element.weights c) others
          (hi-enclosed l.element.weights l.element.atoms ok c both.0).at_most_one,
    )) in
    rw none refl

pub items_over-certainty : (ws : List ℕ) (n : ℕ) → IsWeights ws → items_over ws n certainty ≡ []
unfolding items_over
items_over-certainty ws n ok =
    let none : counts_over ws n certainty ≡ [] =
    no_members (λ c. IsCounts ws n c × (certainty < bound_of ceiling_of ws c)) (counts_over ws n certainty)
    (λ k d within. (over-IsCounts ws n certainty k d within, over-above ws n certainty k d within))
    (λ c both. omega (arith, both.1, (hi-enclosed ws n ok c both.0).at_most_one)) in
    rw none refl

-- the mode as it is found
pub mode_item : (ws : List ℕ) (n : ℕ) (counts : List ℕ) (lo hi : ℕ) → IsWeights ws → counts ≡ mode_of_atoms ws n →
    lo ≡ mode_bound floor_of ws n → hi ≡ mode_bound ceiling_of ws n →
    record { counts = counts; lo = lo; hi = hi } ≡ sub_isotopologue_of ws (mode_of_atoms ws n)
unfolding sub_isotopologue_of
mode_item ws n counts lo hi ok is low high =
    rw (is, low, high, ← bound_of-mode floor_of ws ok.some n, ← bound_of-mode ceiling_of ws ok.some n) refl

-- the atoms of the mode
pub mode_atoms : (g : Grown) (mode : SubIsotopologue) (kept : List SubIsotopologue) (unlisted : List ℕ) →
    AreGrown g mode kept unlisted → sum mode.counts ≡ g.element.atoms
mode_atoms g mode kept unlisted are =
    ap sum (mode_counts_are g.element.weights g.element.atoms mode are.mode_is)
    ∙ sum-mode_of_atoms g.element.weights are.weights.some g.element.atoms

-- what a lower threshold answers
pub gives_fault : (l x : Listing) (f : SubFault) → OnlyTooMany (max_sub_isotopologues < length (items_of l)) f →
    GivesAs {A = Unit {0}} {B = Listing} (λ _. x) is_memory (Err f) (within_limit l)
gives_fault l x TooMany many =
    let test : ltb max_sub_isotopologues (length (items_of l)) ≡ true = lt-ltb max_sub_isotopologues
    (length (items_of l)) many in
    rw test refl
gives_fault l x NotInList never = absurd never
gives_fault l x Memory any = tt

pub gives_list : (l x : Listing) → x ≡ l → length (items_of l) ≤ max_sub_isotopologues → within_limit l ≡ Ok x
gives_list l x is few =
    let test : ltb max_sub_isotopologues (length (items_of l)) ≡ false = le-ltb max_sub_isotopologues
    (length (items_of l)) few in
    rw (test, is) refl

-- the first items of a longer list
pub get_or_front : {X : Type 0} (xs ys : List X) (k : ℕ) (d : X) → k < length xs → get_or (xs ++ ys) k d ≡ get_or xs k d
get_or_front xs ys k d within =
    sym (get_or-take (length xs) (xs ++ ys) k d within)
    ∙ ap (λ zs. get_or zs k d) (take_at xs ys (length xs) refl)

-- numbers that bound the children of the first counts, each of one of them
abbrev pub Bounds : List ℕ → List ℕ → ℕ → List (List ℕ) → List ℕ → Type 0
Bounds ws m up_to counts bounds =
    (k : ℕ) → k < length bounds → All (λ y. IsBoundUpTo ws up_to (get_or bounds k 0) y)
    (children m (get_or counts k []))

-- the same numbers, where items are added behind
pub AreSearched-append : (ws m : List ℕ) (up_to : ℕ) (items more : List SubIsotopologue) (unlisted : List ℕ) →
    AreSearched ws m up_to items unlisted → AreSearched ws m up_to (items ++ more) unlisted
AreSearched-append ws m up_to items more unlisted is = record {
  few = omega (arith, is.few, length-append items more);
  bounds = λ k within.
      let inside : k < length (map (λ (i : SubIsotopologue). i.counts) items) = rw length-map (omega (arith, is.few)) in
      rw (
        map-append (λ (i : SubIsotopologue). i.counts) items more,
        get_or_front (map (λ (i : SubIsotopologue). i.counts) items)
            (map (λ (i : SubIsotopologue). i.counts) more) k [] inside,
      ) (is.bounds k within);
}

-- the grown items by the atoms of the mode
module _ (g : Grown) (mode : SubIsotopologue) (kept : List SubIsotopologue) (unlisted : List ℕ)
    (are : AreGrown g mode kept unlisted) where
  atoms_are : g.element.atoms ≡ sum mode.counts
  atoms_are = sym (mode_atoms g mode kept unlisted are)

  pub mode_by_atoms : mode ≡ sub_isotopologue_of g.element.weights (mode_of_atoms g.element.weights (sum mode.counts))
  mode_by_atoms =
      are.mode_is ∙ ap (λ (n : ℕ). sub_isotopologue_of g.element.weights (mode_of_atoms g.element.weights n)) atoms_are

  pub items_by_atoms : kept ≡ items_over g.element.weights (sum mode.counts) g.above
  items_by_atoms = are.items_are ∙ ap (λ (n : ℕ). items_over g.element.weights n g.above) atoms_are

  pub mode-lo : mode.lo ≡ mode_bound floor_of g.element.weights g.element.atoms
  unfolding sub_isotopologue_of
  mode-lo = ap (λ (i : SubIsotopologue). i.lo) are.mode_is ∙ bound_of-mode floor_of g.element.weights are.weights.some
      g.element.atoms

  pub mode-hi : mode.hi ≡ mode_bound ceiling_of g.element.weights g.element.atoms
  unfolding sub_isotopologue_of
  mode-hi = ap (λ (i : SubIsotopologue). i.hi) are.mode_is ∙ bound_of-mode ceiling_of g.element.weights
      are.weights.some g.element.atoms

-- the list above 1, which has no item
pub listed-none : (l : Listing) (g : Grown) → IsWeights l.element.weights → AreOthers l.before l.after →
    l.threshold ≡ certainty → l.given ≡ 0 → IsListed l g 0
listed-none l g ok others one none = record {
  weights = ok;
  cut = certainty;
  cuts = λ hi le.
      ((λ above. absurd (omega (arith, product_with-most l.before l.after hi others le))), (λ above. absurd (omega arith)));
  others = others;
  at_most_one = omega arith;
  given = omega arith;
  within = omega arith;
  items_are = sym (items_of-certainty l ok others one);
}

-- the list of a lower threshold, whose items are the first of what is grown then
module _ (l : Listing) (g more : Grown) (listed count threshold cut : ℕ) (is : IsListed l g listed)
    (same : more.element ≡ l.element) (lower : threshold ≤ l.threshold) (most : cut ≤ certainty)
    (cuts : (hi : ℕ) → hi ≤ certainty → (threshold < product_with l.before l.after hi) ↔ (cut < hi))
    (within : count ≤ length (grown_items more))
    (first : take count (grown_items more) ≡ items_over more.element.weights more.element.atoms cut) where
  abbrev pub longer : Listing
  longer = record {
    element = more.element;
    before = l.before;
    after = l.after;
    threshold = threshold;
    given = l.given;
  }

  pub longer_is : longer ≡ lowered l threshold
  longer_is = ap (λ (e : Element). record {
    element = e;
    before = l.before;
    after = l.after;
    threshold = threshold;
    given = l.given;
  }) same

  weights_are : IsWeights more.element.weights
  weights_are = let P : Element → Type 0 = λ e. IsWeights e.weights in subst P (sym same) is.weights

  longer_items : items_of longer ≡ items_over more.element.weights more.element.atoms cut
  longer_items = items_of-cut longer cut weights_are cuts

  pub longer_length : length (items_of longer) ≡ count
  longer_length = ap length (longer_items ∙ sym first) ∙ length-take-le count (grown_items more) within

  pub cut_falls : cut ≤ is.cut
  cut_falls = cut-falls l.before l.after l.threshold threshold is.cut cut lower most is.cuts cuts

  pub older_items : items_of longer
      ≡ items_of l ++ items_between l.element.weights l.element.atoms cut is.cut cut_falls
  older_items =
      longer_items
      ∙ ap (λ (e : Element). items_over e.weights e.atoms cut) same
      ∙ front-items l.element.weights l.element.atoms cut is.cut cut_falls
      ∙ ap (λ xs. xs ++ items_between l.element.weights l.element.atoms cut is.cut cut_falls)
      (sym (items_of-cut l is.cut is.weights is.cuts))

  pub older_first : take (length (items_of l)) (items_of longer) ≡ items_of l
  older_first =
      ap (take (length (items_of l))) older_items
      ∙ take_at (items_of l) (items_between l.element.weights l.element.atoms cut is.cut cut_falls) _ refl

  pub longer_listed : IsListed longer more count
  longer_listed = record {
    weights = weights_are;
    cut = cut;
    cuts = cuts;
    others = is.others;
    at_most_one = omega (arith, is.at_most_one);
    given = omega (
      arith,
      is.given,
      listed-length l g listed is,
      longer_length,
      ap length older_items,
      length-append (items_of l) (items_between l.element.weights l.element.atoms cut is.cut cut_falls),
    );
    within = within;
    items_are = first ∙ sym longer_items;
  }
