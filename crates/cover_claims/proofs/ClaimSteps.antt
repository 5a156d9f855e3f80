-- The tests of a claim, one after another.
use Rattle.std.proofs.Common.{◌≡◌, ℕ, ◌-◌, ◌<◌, ◌≤◌, Bool, true, false, cond, leb, List, [], ◌∷◌, length, Some, None, ◌∙◌, ap, arith}
use Rattle.std.specs.Prelude.{Option, ◌&&◌}
use Rattle.std.specs.Option.{option_map}
use Rattle.std.proofs.lemmas.Bool.{eq-eqb, ne_eqb, le-leb, lt-leb, le-ltb, lt-ltb}
use Rattle.isotopologue_sets.specs.Layers.{lo_total, mode_of_each}
use Rattle.isotopologue_neighbours.specs.Closed.{greatest_total}
use Rattle.cover_claims.specs.declared.claim.ClaimNumbers.{ClaimNumbers}
use Rattle.cover_claims.specs.declared.fault.ClaimFault.{ClaimFault}
use Rattle.cover_claims.specs.declared.fault.ClaimFault.TheVariants.{OutOfOrder, ModeAbsent, SizeDiffers, CoverShort, BoundTooHigh}
use Rattle.cover_claims.specs.Claims.{Claimed, isotopologues_in, marked_in, is_member, first_misplaced, order_fault}
use Rattle.cover_claims.specs.Claims.{mode_fault, boundary_fault, size_fault, cover_fault, bound_fault, first_fault}
use Rattle.cover_claims.specs.Claims.{claim_fault}

found : (o : Option ClaimFault) (others : List (Option ClaimFault)) (f : ClaimFault) → o ≡ Some f →
    first_fault (o ∷ others) ≡ Some f
found o others f is = ap (λ (p : Option ClaimFault). first_fault (p ∷ others)) is

passed : (o : Option ClaimFault) (others : List (Option ClaimFault)) → o ≡ None →
    first_fault (o ∷ others) ≡ first_fault others
passed o others is = ap (λ (p : Option ClaimFault). first_fault (p ∷ others)) is

module _ (claimed : Claimed) (claim : ClaimNumbers) where
  abbrev ms : List (List (List ℕ))
  ms = isotopologues_in claimed.members

  abbrev marked : List (List (List ℕ))
  marked = marked_in claimed.members

  -- the tests from each one on
  abbrev from_bound : List (Option ClaimFault)
  from_bound = bound_fault claimed.elements claim ms ∷ []

  abbrev from_cover : List (Option ClaimFault)
  from_cover = cover_fault claimed.elements claim.coverage marked ∷ from_bound

  abbrev from_size : List (Option ClaimFault)
  from_size = size_fault claim.size marked ∷ from_cover

  abbrev from_boundary : List (Option ClaimFault)
  from_boundary = boundary_fault claimed.elements claim.threshold ms ∷ from_size

  abbrev from_mode : List (Option ClaimFault)
  from_mode = mode_fault claimed.elements ms ∷ from_boundary

  pub misplaced : (place : ℕ) → first_misplaced claimed.elements ms ≡ Some place →
      claim_fault claimed claim ≡ Some (OutOfOrder place)
  unfolding claim_fault
  misplaced place is =
      found (order_fault claimed.elements ms) from_mode (OutOfOrder place) (ap (option_map OutOfOrder) is)

  module _ (in_order : first_misplaced claimed.elements ms ≡ None) where
    order-passed : claim_fault claimed claim ≡ first_fault from_mode
    unfolding claim_fault
    order-passed = passed (order_fault claimed.elements ms) from_mode (ap (option_map OutOfOrder) in_order)

    pub no_mode : is_member ms (mode_of_each claimed.elements) ≡ false → claim_fault claimed claim ≡ Some ModeAbsent
    no_mode absent =
        order-passed
        ∙ found (mode_fault claimed.elements ms) from_boundary ModeAbsent
        (ap (λ (b : Bool). cond b None (Some ModeAbsent)) absent)

    module _ (mode : is_member ms (mode_of_each claimed.elements) ≡ true) where
      mode-passed : claim_fault claimed claim ≡ first_fault from_boundary
      mode-passed =
          order-passed
          ∙ passed (mode_fault claimed.elements ms) from_boundary (ap (λ (b : Bool). cond b None (Some ModeAbsent)) mode)

      pub open_boundary : (fault : ClaimFault) → boundary_fault claimed.elements claim.threshold ms ≡ Some fault →
          claim_fault claimed claim ≡ Some fault
      open_boundary fault is =
          mode-passed ∙ found (boundary_fault claimed.elements claim.threshold ms) from_size fault is

      module _ (closed : boundary_fault claimed.elements claim.threshold ms ≡ None) where
        boundary-passed : claim_fault claimed claim ≡ first_fault from_size
        boundary-passed =
            mode-passed ∙ passed (boundary_fault claimed.elements claim.threshold ms) from_size closed

        pub other_size : (length marked ≡ claim.size → ⊥) → claim_fault claimed claim ≡ Some (SizeDiffers (length marked))
        other_size differs =
            boundary-passed
            ∙ found (size_fault claim.size marked) from_cover (SizeDiffers (length marked))
            (ap (λ (b : Bool). cond b None (Some (SizeDiffers (length marked)))) (ne_eqb (length marked) claim.size differs))

        module _ (same : length marked ≡ claim.size) where
          size-passed : claim_fault claimed claim ≡ first_fault from_cover
          size-passed =
              boundary-passed
              ∙ passed (size_fault claim.size marked) from_cover
              (ap (λ (b : Bool). cond b None (Some (SizeDiffers (length marked)))) (eq-eqb (length marked) claim.size same))

          pub short : lo_total claimed.elements marked < claim.coverage →
              claim_fault claimed claim ≡ Some (CoverShort (lo_total claimed.elements marked))
          short below =
              size-passed
              ∙ found (cover_fault claimed.elements claim.coverage marked) from_bound
              (CoverShort (lo_total claimed.elements marked))
              (ap (λ (b : Bool). cond b None (Some (CoverShort (lo_total claimed.elements marked))))
              (lt-leb claim.coverage (lo_total claimed.elements marked) below))

          module _ (enough : claim.coverage ≤ lo_total claimed.elements marked) where
            abbrev total : ℕ
            total = greatest_total claimed.elements claim.threshold ms (claim.bound - 1)

            cover-passed : claim_fault claimed claim ≡ first_fault from_bound
            cover-passed =
                size-passed
                ∙ passed (cover_fault claimed.elements claim.coverage marked) from_bound
                (ap (λ (b : Bool). cond b None (Some (CoverShort (lo_total claimed.elements marked))))
                (le-leb claim.coverage (lo_total claimed.elements marked) enough))

            pub no_bound : claim.bound ≡ 0 → claim_fault claimed claim ≡ None
            no_bound none =
                cover-passed
                ∙ passed (bound_fault claimed.elements claim ms) []
                (ap (λ (b : Bool). cond (b && leb claim.coverage total) (Some (BoundTooHigh total)) None)
                (le-ltb 0 claim.bound (omega arith)))

            pub too_high : (claim.bound ≡ 0 → ⊥) → claim.coverage ≤ total → claim_fault claimed claim ≡ Some (BoundTooHigh total)
            too_high some high =
                cover-passed
                ∙ found (bound_fault claimed.elements claim ms) [] (BoundTooHigh total)
                (ap (λ (b : Bool). cond (b && leb claim.coverage total) (Some (BoundTooHigh total)) None)
                (lt-ltb 0 claim.bound (omega arith))
                ∙ ap (λ (b : Bool). cond b (Some (BoundTooHigh total)) None) (le-leb claim.coverage total high))

            pub accepted : (claim.bound ≡ 0 → ⊥) → total < claim.coverage → claim_fault claimed claim ≡ None
            accepted some low =
                cover-passed
                ∙ passed (bound_fault claimed.elements claim ms) []
                (ap (λ (b : Bool). cond (b && leb claim.coverage total) (Some (BoundTooHigh total)) None)
                (lt-ltb 0 claim.bound (omega arith))
                ∙ ap (λ (b : Bool). cond b (Some (BoundTooHigh total)) None) (lt-leb claim.coverage total low))
