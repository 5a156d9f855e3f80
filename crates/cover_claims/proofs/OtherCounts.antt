-- A member with other counts of one element, as many of as many isotopes: its counts in a row, its bounds, and whether it
-- was left out.
use Rattle.std.proofs.Common.{◌≡◌, ℕ, ◌<◌, ◌≤◌, Bool, true, false, ltb, List, [], ◌∷◌, ◌++◌, length, get_or, set, sum}
use Rattle.std.proofs.Common.{Some, None, refl, sym, ◌∙◌, ap, arith, All, append-nil}
use Rattle.std.specs.Prelude.{Option}
use Rattle.std.specs.List.{concat}
use Rattle.std.proofs.lemmas.Bool.{lt-ltb, le-ltb}
use Rattle.std.proofs.lemmas.List.{length-map}
use Rattle.multinomial_bounds.specs.Weight.{IsCounts}
use Rattle.multinomial_bounds.specs.Bounds.{product_of}
use Rattle.multinomial_bounds.specs.Path.{bound_of}
use Rattle.multinomial_bounds.specs.Isotopologue.{Element, IsIsotopologue, bounds_of, isotopologue_bound}
use Rattle.isotopologue_sets.specs.Layers.{hi_of}
use Rattle.cover_claims.specs.CountsInRow.{isotopes_of_all, counts_by_element}
use Rattle.cover_claims.specs.Claims.{Claimed, isotopologues_in, member_at, is_member}
use Rattle.cover_claims.specs.Surroundings.{with_counts, IsAround, left_out_among}
use Rattle.cover_claims.proofs.RowLemmas.{counts_by_element-concat, length-concat}
use Rattle.cover_claims.proofs.Surround.{length-isotopologue, length-bounds_of, counts-at, with-IsIsotopologue, with-bounds, concat-with}

module _ (claimed : Claimed) (place : ℕ) (all : All (IsIsotopologue claimed.elements) (isotopologues_in claimed.members))
    (within : place < length claimed.members) where
  abbrev pub member : List (List ℕ)
  member = member_at (isotopologues_in claimed.members) place

  pub member-is : IsIsotopologue claimed.elements (member_at (isotopologues_in claimed.members) place)
  member-is = all place [] (omega (arith, within, length-map claimed.members (λ m. m.counts)))

  module _ (k : ℕ) (before own after x : List ℕ)
      (around : IsAround (member_at (isotopologues_in claimed.members) place) k before own after)
      (places : length x ≡ length own) (atoms : sum x ≡ sum own) where
    abbrev other : List (List ℕ)
    other = with_counts (member_at (isotopologues_in claimed.members) place) k x

    pub other-within : k < length claimed.elements
    other-within = omega (arith, around.within, length-isotopologue claimed.elements member member-is)

    places_there : length x ≡ length (get_or member k [])
    places_there = places ∙ ap length around.own_is

    atoms_there : sum x ≡ sum (get_or member k [])
    atoms_there = atoms ∙ ap sum around.own_is

    pub other-counts : (e : Element) → e ≡ get_or claimed.elements k e → IsCounts e.weights e.atoms x
    other-counts e is =
        let there : IsCounts (get_or claimed.elements k e).weights (get_or claimed.elements k e).atoms (get_or member k []) =
        counts-at claimed.elements member k e member-is other-within in
        rw is
        (record { places_agree = places_there ∙ there.places_agree; atoms_agree = atoms_there ∙ there.atoms_agree })

    pub other-is : IsIsotopologue claimed.elements other
    other-is = with-IsIsotopologue claimed.elements member k x member-is other-within places_there atoms_there

    pub other-row : before ++ x ++ after ≡ concat other
    other-row = rw (around.before_is, around.after_is) (sym (concat-with member k x))

    pub other-by-element : counts_by_element claimed.elements (before ++ x ++ after) ≡ other
    other-by-element =
        ap (counts_by_element claimed.elements) (other-row ∙ sym (append-nil (concat other)))
        ∙ counts_by_element-concat claimed.elements other [] other-is

    pub other-length : length (before ++ x ++ after) ≡ isotopes_of_all claimed.elements
    other-length = ap length other-row ∙ length-concat claimed.elements other other-is

    -- the product with the bound of the other counts
    pub other-bound : (round : ℕ → ℕ → ℕ) (bounds : List ℕ) (bound : ℕ) (e : Element) → e ≡ get_or claimed.elements k e →
        bounds ≡ bounds_of round claimed.elements member → bound ≡ bound_of round e.weights x →
        product_of round (set bounds k bound) ≡ isotopologue_bound round claimed.elements other
    other-bound round bounds bound e is parts here =
        ap (λ bs. product_of round (set bs k bound)) parts
        ∙ ap (λ (b : ℕ). product_of round (set (bounds_of round claimed.elements member) k b))
        (here ∙ ap (λ (d : Element). bound_of round d.weights x) is)
        ∙ ap (product_of round) (sym (with-bounds round claimed.elements member k x e member-is other-within))

    pub parts-within : (round : ℕ → ℕ → ℕ) (bounds : List ℕ) → bounds ≡ bounds_of round claimed.elements member →
        k < length bounds
    parts-within round bounds parts =
        omega (arith, ap length parts, length-bounds_of round claimed.elements member member-is, other-within)

    module _ (t hi : ℕ) (hi_is : hi ≡ hi_of claimed.elements other) where
      abbrev members : List (List (List ℕ))
      members = isotopologues_in claimed.members

      pub not-above : hi ≤ t →
          ◌≡◌ {A = Option (List ℕ × ℕ)} None (left_out_among claimed.elements t members member k (x ∷ []))
      not-above low =
          let fails : ltb t (hi_of claimed.elements other) ≡ false =
          le-ltb t (hi_of claimed.elements other) (rw (← hi_is) low) in
          rw fails refl

      pub not-out : true ≡ is_member members other →
          ◌≡◌ {A = Option (List ℕ × ℕ)} None (left_out_among claimed.elements t members member k (x ∷ []))
      not-out found = cases (ltb t (hi_of claimed.elements other)) refl
        where
          cases : (b : Bool) → ltb t (hi_of claimed.elements other) ≡ b →
              ◌≡◌ {A = Option (List ℕ × ℕ)} None (left_out_among claimed.elements t members member k (x ∷ []))
          cases false is = rw is refl
          cases true is = rw (is, ← found) refl

      pub left-out : t < hi → false ≡ is_member members other →
          ◌≡◌ {A = Option (List ℕ × ℕ)} (Some (before ++ x ++ after, hi))
          (left_out_among claimed.elements t members member k (x ∷ []))
      left-out above absent =
          let passes : ltb t (hi_of claimed.elements other) ≡ true =
          lt-ltb t (hi_of claimed.elements other) (rw (← hi_is) above) in
          rw (passes, ← absent, other-row, hi_is) refl
