-- The enclosures of an isotopologue's elements, one after another, and their product.
use Rattle.std.proofs.Common.{◌≡◌, ℕ, suc, ◌+◌, ◌*◌, ◌<◌, ◌≤◌, List, [], ◌∷◌, ◌++◌, map, length, take, drop, get_or}
use Rattle.std.proofs.Common.{refl, sym, ◌∙◌, ap, arith, append_assoc, append-nil, add-one, drop-cons, length-drop}
use Rattle.std.proofs.lemmas.List.{take_more, map-append, drop_all}
use Rattle.std.proofs.lemmas.List.Sums.{sum_by-cons}
use Rattle.multinomial_bounds.specs.Weight.{IsCounts}
use Rattle.multinomial_bounds.specs.Bounds.{certainty, floor_of, ceiling_of, product_of}
use Rattle.multinomial_bounds.specs.Path.{bound_of}
use Rattle.multinomial_bounds.specs.Isotopologue.{Element, IsIsotopologue, bounds_of}
use Rattle.multinomial_bounds.proofs.EnclosureLemmas.{product_of_push}
use Rattle.multinomial_bounds.specs.declared.enclosure.Enclosure.{Enclosure}
use Rattle.cover_claims.specs.CountsInRow.{isotopes_of_all, counts_by_element}

-- the product of one enclosure more
pub product-more : (round : ℕ → ℕ → ℕ) (f : Enclosure → ℕ) (parts : List Enclosure) (k : ℕ) (part : Enclosure) →
    k < length parts → part ≡ get_or parts k part →
    product_of round (map f (take (k + 1) parts))
    ≡ round (product_of round (map f (take k parts)) * f part) certainty
product-more round f parts k part within is =
    ap (λ xs. product_of round (map f xs)) (take_more parts k part within)
    ∙ ap (product_of round) (map-append f (take k parts) (get_or parts k part ∷ []))
    ∙ product_of_push round (map f (take k parts)) (f (get_or parts k part))
    ∙ ap (λ (p : Enclosure). round (product_of round (map f (take k parts)) * f p) certainty) (sym is)

-- the elements from a place on
pub from_place : (es : List Element) (i : ℕ) (e : Element) → i < length es → e ≡ get_or es i e →
    drop i es ≡ e ∷ drop (i + 1) es
from_place es i e within is =
    drop-cons es i e within ∙ ap (λ (d : Element). d ∷ drop (suc i) es) (sym is) ∙ ap (λ (n : ℕ). e ∷ drop n es) (sym (add-one i))

-- what the first element takes of counts
module _ (e : Element) (es : List Element) (counts : List ℕ) where
  pub front : IsIsotopologue (e ∷ es) (counts_by_element (e ∷ es) counts) →
      IsCounts e.weights e.atoms (take (length e.weights) counts)
      × IsIsotopologue es (counts_by_element es (drop (length e.weights) counts))
  unfolding counts_by_element
  front is = is

  pub front-bounds : (round : ℕ → ℕ → ℕ) →
      bounds_of round (e ∷ es) (counts_by_element (e ∷ es) counts)
      ≡ bound_of round e.weights (take (length e.weights) counts)
      ∷ bounds_of round es (counts_by_element es (drop (length e.weights) counts))
  unfolding counts_by_element bounds_of
  front-bounds round = refl

  pub front-enough : isotopes_of_all (e ∷ es) ≤ length counts →
      (length e.weights ≤ length counts) × (isotopes_of_all es ≤ length (drop (length e.weights) counts))
  front-enough enough =
      let all : isotopes_of_all (e ∷ es) ≡ length e.weights + isotopes_of_all es = sum_by-cons (λ d. length d.weights) e es in
      let left = length-drop (length e.weights) counts in
      (omega arith, omega arith)

-- the parts of the elements before a place
pub record PartsBefore (es : List Element) (counts : List ℕ) (i : ℕ) (rest los his : List ℕ) : Type 0 where
  pub others : IsIsotopologue (drop i es) (counts_by_element (drop i es) rest)
  pub enough : isotopes_of_all (drop i es) ≤ length rest
  pub lo :
      los ++ bounds_of floor_of (drop i es) (counts_by_element (drop i es) rest)
      ≡ bounds_of floor_of es (counts_by_element es counts)
  pub hi :
      his ++ bounds_of ceiling_of (drop i es) (counts_by_element (drop i es) rest)
      ≡ bounds_of ceiling_of es (counts_by_element es counts)

module _ (es : List Element) (counts : List ℕ) (i : ℕ) (rest los his : List ℕ) (e : Element)
    (so_far : PartsBefore es counts i rest los his) (within : i < length es) (is : e ≡ get_or es i e) where
  abbrev n : ℕ
  n = length e.weights

  here : drop i es ≡ e ∷ drop (i + 1) es
  here = from_place es i e within is

  both : IsCounts e.weights e.atoms (take n rest) × IsIsotopologue (drop (i + 1) es) (counts_by_element (drop (i + 1) es) (drop n rest))
  both = front e (drop (i + 1) es) rest (rw here at so_far.others)

  room : (n ≤ length rest) × (isotopes_of_all (drop (i + 1) es) ≤ length (drop n rest))
  room = front-enough e (drop (i + 1) es) rest (rw here at so_far.enough)

  one-more : (round : ℕ → ℕ → ℕ) (bounds : List ℕ) →
      bounds ++ bounds_of round (drop i es) (counts_by_element (drop i es) rest)
      ≡ bounds_of round es (counts_by_element es counts) →
      (bounds ++ bound_of round e.weights (take n rest) ∷ [])
      ++ bounds_of round (drop (i + 1) es) (counts_by_element (drop (i + 1) es) (drop n rest))
      ≡ bounds_of round es (counts_by_element es counts)
  one-more round bounds all =
      append_assoc bounds (bound_of round e.weights (take n rest) ∷ [])
      (bounds_of round (drop (i + 1) es) (counts_by_element (drop (i + 1) es) (drop n rest)))
      ∙ ap (λ (xs : List ℕ). bounds ++ xs) (sym (front-bounds e (drop (i + 1) es) rest round))
      ∙ ap (λ (ds : List Element). bounds ++ bounds_of round ds (counts_by_element ds rest)) (sym here)
      ∙ all

  pub parts-counts : IsCounts e.weights e.atoms (take n rest)
  parts-counts = both.0

  pub parts-room : n ≤ length rest
  parts-room = room.0

  pub parts-next :
      PartsBefore es counts (i + 1) (drop n rest) (los ++ bound_of floor_of e.weights (take n rest) ∷ [])
      (his ++ bound_of ceiling_of e.weights (take n rest) ∷ [])
  parts-next = record {
    others = both.1;
    enough = room.1;
    lo = one-more floor_of los so_far.lo;
    hi = one-more ceiling_of his so_far.hi;
  }

-- the parts of all elements
pub parts-all : (round : ℕ → ℕ → ℕ) (es : List Element) (counts : List ℕ) (i : ℕ) (rest bounds : List ℕ) → length es ≤ i →
    bounds ++ bounds_of round (drop i es) (counts_by_element (drop i es) rest)
    ≡ bounds_of round es (counts_by_element es counts) →
    bounds ≡ bounds_of round es (counts_by_element es counts)
unfolding bounds_of
parts-all round es counts i rest bounds past all =
    let none : drop i es ≡ [] = drop_all i es past in
    let end : bounds ++ bounds_of round (drop i es) (counts_by_element (drop i es) rest) ≡ bounds = rw none (append-nil bounds) in
    sym end ∙ all
