-- The first neighbour that was left out, by the members.
use Rattle.std.proofs.Common.{◌≡◌, ℕ, ◌+◌, ◌-◌, ◌<◌, ◌≤◌, Bool, true, false, List, [], ◌∷◌, map, length, Some, None, refl, sym, ◌∙◌, ap, arith}
use Rattle.std.specs.Prelude.{find, flat_map, Option}
use Rattle.std.specs.List.{concat, range_with_len}
use Rattle.std.specs.Option.{option_map}
use Rattle.multinomial_bounds.specs.Isotopologue.{Element}
use Rattle.isotopologue_sets.specs.Layers.{hi_of}
use Rattle.isotopologue_neighbours.specs.Moves.{neighbours_of}
use Rattle.cover_claims.specs.declared.fault.ClaimFault.{ClaimFault}
use Rattle.cover_claims.specs.declared.fault.ClaimFault.TheVariants.{OpenBoundary}
use Rattle.cover_claims.specs.Claims.{member_at, is_left_out, first_left_out, boundary_fault}
use Rattle.cover_claims.specs.Surroundings.{as_row}
use Rattle.cover_claims.proofs.FirstFound.{seen-append-none, seen-append-some, places-step, places-end}

module _ (es : List Element) (t : ℕ) (members : List (List (List ℕ))) where
  abbrev out : ℕ × List (List ℕ) → Bool
  out exit = is_left_out es t members exit.1

  abbrev fault : ℕ × List (List ℕ) → ClaimFault
  fault exit = OpenBoundary exit.0 (concat exit.1) (hi_of es exit.1)

  abbrev exits_at : ℕ → List (ℕ × List (List ℕ))
  exits_at place = map (λ i. (place, i)) (neighbours_of (member_at members place))

  exit-of : (place : ℕ) (xs : List (List (List ℕ))) →
      option_map fault (find out (map (λ i. (place, i)) xs))
      ≡ option_map (λ (r : List ℕ × ℕ). OpenBoundary place r.0 r.1) (as_row es (find (is_left_out es t members) xs))
  exit-of place [] = refl
  exit-of place (x ∷ xs) = cases (is_left_out es t members x) refl (exit-of place xs)
    where
      cases : (b : Bool) → is_left_out es t members x ≡ b →
          option_map fault (find out (map (λ i. (place, i)) xs))
          ≡ option_map (λ (r : List ℕ × ℕ). OpenBoundary place r.0 r.1)
          (as_row es (find (is_left_out es t members) xs)) →
          option_map fault (find out (map (λ i. (place, i)) (x ∷ xs)))
          ≡ option_map (λ (r : List ℕ × ℕ). OpenBoundary place r.0 r.1)
          (as_row es (find (is_left_out es t members) (x ∷ xs)))
      cases true is rest = rw is refl
      cases false is rest = rw is rest

  abbrev pub fault_from : ℕ → Option ClaimFault
  fault_from place = option_map fault (find out (flat_map exits_at (range_with_len place (length members - place))))

  pub fault-all : fault_from 0 ≡ boundary_fault es t members
  unfolding first_left_out
  fault-all =
      let e : length members - 0 ≡ length members = omega arith in
      rw e refl

  pub fault-none : (place : ℕ) → place < length members →
      ◌≡◌ {A = Option (List ℕ × ℕ)} None
      (as_row es (find (is_left_out es t members) (neighbours_of (member_at members place)))) →
      fault_from place ≡ fault_from (place + 1)
  fault-none place within none =
      ap (λ (ps : List ℕ). option_map fault (find out (flat_map exits_at ps))) (places-step place (length members) within)
      ∙ seen-append-none fault out (exits_at place)
      (flat_map exits_at (range_with_len (place + 1) (length members - (place + 1))))
      (exit-of place (neighbours_of (member_at members place))
      ∙ ap (option_map (λ (r : List ℕ × ℕ). OpenBoundary place r.0 r.1)) (sym none))

  pub fault-some : (place : ℕ) (r : List ℕ × ℕ) → place < length members →
      ◌≡◌ {A = Option (List ℕ × ℕ)} (Some r)
      (as_row es (find (is_left_out es t members) (neighbours_of (member_at members place)))) →
      fault_from place ≡ Some (OpenBoundary place r.0 r.1)
  fault-some place r within some =
      ap (λ (ps : List ℕ). option_map fault (find out (flat_map exits_at ps))) (places-step place (length members) within)
      ∙ seen-append-some fault out (exits_at place)
      (flat_map exits_at (range_with_len (place + 1) (length members - (place + 1)))) (OpenBoundary place r.0 r.1)
      (exit-of place (neighbours_of (member_at members place))
      ∙ ap (option_map (λ (q : List ℕ × ℕ). OpenBoundary place q.0 q.1)) (sym some))

  pub fault-end : (place : ℕ) → length members ≤ place → fault_from place ≡ None
  fault-end place past =
      ap (λ (ps : List ℕ). option_map fault (find out (flat_map exits_at ps))) (places-end place (length members) past)
