-- Of some counts those whose upper bound is looked for.
use Rattle.std.proofs.Common.{◌≡◌, ℕ, ◌+◌, ◌≤◌, Bool, true, false, cond, List, [], ◌∷◌, ◌++◌, length, map, refl, ◌∙◌, ap, arith, length-append}
use Rattle.std.specs.Prelude.{filter}
use Rattle.std.proofs.lemmas.List.{map-append, append-nil}
use Rattle.std.proofs.lemmas.List.Elements.{filter-append}
use Rattle.sub_isotopologues.specs.SubIsotopologues.{sub_isotopologue_of}
use Rattle.sub_isotopologues.specs.Children.{in_band, wanted_of, moved, is_child_move, children_gaining, children_first}
use Rattle.sub_isotopologues.proofs.ListParts.{rises_to}
use Rattle.sub_isotopologues.proofs.ChildLists.{children_gaining-more, children_first-more}

module _ (ws : List ℕ) (a u : ℕ) where
  pub wanted_of-none : wanted_of ws a u [] ≡ []
  unfolding wanted_of
  wanted_of-none = refl

  pub wanted_of-append : (xs ys : List (List ℕ)) → wanted_of ws a u
      (xs ++ ys) ≡ wanted_of ws a u xs ++ wanted_of ws a u ys
  unfolding wanted_of
  wanted_of-append xs ys =
      ap (map (sub_isotopologue_of ws)) (filter-append (in_band ws a u) xs ys)
      ∙ map-append (sub_isotopologue_of ws) (filter (in_band ws a u) xs) (filter (in_band ws a u) ys)

  pub wanted_of-one : (y : List ℕ) →
      wanted_of ws a u (y ∷ []) ≡ cond (in_band ws a u y) (sub_isotopologue_of ws y ∷ []) []
  unfolding wanted_of
  wanted_of-one y =
      elim (in_band ws a u y) as
      (λ b. map (sub_isotopologue_of ws) (cond b (y ∷ []) []) ≡ cond b (sub_isotopologue_of ws y ∷ []) []) [
        | true ↦ refl
        | false ↦ refl
      ]

  -- the items among the children that one more isotope gives or takes
  module _ (m x : List ℕ) where
    pub gaining-moves : (i n : ℕ) → is_child_move m x i n ≡ true →
        wanted_of ws a u (children_gaining m x i (n + 1))
        ≡ wanted_of ws a u (children_gaining m x i n) ++ wanted_of ws a u (moved x i n ∷ [])
    gaining-moves i n is =
        ap (wanted_of ws a u)
        (children_gaining-more m x i n
        ∙ ap (λ (b : Bool). children_gaining m x i n ++ cond b (moved x i n ∷ []) []) is)
        ∙ wanted_of-append (children_gaining m x i n) (moved x i n ∷ [])

    pub gaining-stays : (i n : ℕ) → is_child_move m x i n ≡ false →
        wanted_of ws a u (children_gaining m x i (n + 1)) ≡ wanted_of ws a u (children_gaining m x i n)
    gaining-stays i n is =
        ap (wanted_of ws a u)
        (children_gaining-more m x i n
        ∙ ap (λ (b : Bool). children_gaining m x i n ++ cond b (moved x i n ∷ []) []) is
        ∙ append-nil (children_gaining m x i n))

    pub first-more : (n : ℕ) →
        wanted_of ws a u (children_first m x (n + 1))
        ≡ wanted_of ws a u (children_first m x n) ++ wanted_of ws a u (children_gaining m x n (length x))
    first-more n =
        ap (wanted_of ws a u) (children_first-more m x n)
        ∙ wanted_of-append (children_first m x n) (children_gaining m x n (length x))

    -- fewer isotopes have no more children
    gaining-step : (i n : ℕ) →
        length (wanted_of ws a u (children_gaining m x i n)) ≤ length
        (wanted_of ws a u (children_gaining m x i (n + 1)))
    gaining-step i n =
        let e : wanted_of ws a u (children_gaining m x i (n + 1))
        ≡ wanted_of ws a u (children_gaining m x i n) ++ wanted_of ws a u
        (cond (is_child_move m x i n) (moved x i n ∷ []) []) =
        ap (wanted_of ws a u) (children_gaining-more m x i n)
        ∙ wanted_of-append (children_gaining m x i n) (cond (is_child_move m x i n) (moved x i n ∷ []) []) in
        omega (
          arith,
          ap length e,
          length-append (wanted_of ws a u (children_gaining m x i n))
              (wanted_of ws a u (cond (is_child_move m x i n) (moved x i n ∷ []) [])),
        )

    pub gaining-le : (i n k : ℕ) → n ≤ k →
        length (wanted_of ws a u (children_gaining m x i n)) ≤ length (wanted_of ws a u (children_gaining m x i k))
    gaining-le i n k le =
        rises_to (λ n. length (wanted_of ws a u (children_gaining m x i n))) (λ n. gaining-step i n) n k le

    first-step : (n : ℕ) →
        length (wanted_of ws a u (children_first m x n)) ≤ length (wanted_of ws a u (children_first m x (n + 1)))
    first-step n =
        omega (
          arith,
          ap length (first-more n),
          length-append (wanted_of ws a u (children_first m x n))
              (wanted_of ws a u (children_gaining m x n (length x))),
        )

    pub first-le : (n k : ℕ) → n ≤ k →
        length (wanted_of ws a u (children_first m x n)) ≤ length (wanted_of ws a u (children_first m x k))
    first-le n k le = rises_to (λ n. length (wanted_of ws a u (children_first m x n))) (λ n. first-step n) n k le
