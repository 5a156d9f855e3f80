-- The enclosures of members, one after another.
use Rattle.std.proofs.Common.{◌≡◌, ℕ, ◌+◌, ◌<◌, ◌≤◌, List, [], ◌∷◌, ◌++◌, length, get_or, arith, ⊎_elim, length-append}
use Rattle.std.proofs.lemmas.Bool.{cases_lt}
use Rattle.std.proofs.lemmas.List.{get_or_append_left, get_or-append-add}
use Rattle.multinomial_bounds.specs.Isotopologue.{Element}
use Rattle.multinomial_bounds.specs.declared.enclosure.Enclosure.{Enclosure}
use Rattle.isotopologue_sets.specs.Layers.{lo_of, hi_of}
use Rattle.cover_claims.specs.Claims.{member_at}
use Rattle.cover_claims.specs.MemberRows.{AreBounded}

-- the first enclosures are those of the first members
pub record BoundedSoFar (es : List Element) (members : List (List (List ℕ))) (enclosures : List Enclosure) : Type 0 where
  pub lo :
      (k : ℕ) (d : Enclosure) → k < length enclosures → (get_or enclosures k d).lo ≡ lo_of es (member_at members k)
  pub hi :
      (k : ℕ) (d : Enclosure) → k < length enclosures → (get_or enclosures k d).hi ≡ hi_of es (member_at members k)

pub bounded-none : (es : List Element) (members : List (List (List ℕ))) → BoundedSoFar es members []
bounded-none es members = record { lo = λ k d within. absurd (omega arith); hi = λ k d within. absurd (omega arith) }

-- what holds at each place, with one more
at_each : {X : Type 0} (P : ℕ → X → Type 0) (xs : List X) (x : X) →
    ((k : ℕ) (d : X) → k < length xs → P k (get_or xs k d)) → P (length xs) x →
    (k : ℕ) (d : X) → k < length (xs ++ x ∷ []) → P k (get_or (xs ++ x ∷ []) k d)
at_each P xs x each last k d within =
    ⊎_elim
    (λ (before : k < length xs). rw (get_or_append_left xs (x ∷ []) d k before) (each k d before))
    (λ (behind : length xs ≤ k).
    let e : k ≡ length xs + 0 = omega (arith, length-append xs (x ∷ [])) in
    let z : length xs + 0 ≡ length xs = omega arith in
    let there : get_or (xs ++ x ∷ []) (length xs + 0) d ≡ x = get_or-append-add xs (x ∷ []) 0 d in
    rw (e, there, z) last)
    (cases_lt k (length xs))

pub bounded-more : (es : List Element) (members : List (List (List ℕ))) (enclosures : List Enclosure) (e : Enclosure)
    (k : ℕ) → BoundedSoFar es members enclosures → length enclosures ≡ k → e.lo ≡ lo_of es (member_at members k) →
    e.hi ≡ hi_of es (member_at members k) → BoundedSoFar es members (enclosures ++ e ∷ [])
bounded-more es members enclosures e k so_far long lo hi = record {
  lo =
      at_each (λ (j : ℕ) (x : Enclosure). x.lo ≡ lo_of es (member_at members j)) enclosures e so_far.lo
      (rw long lo);
  hi =
      at_each (λ (j : ℕ) (x : Enclosure). x.hi ≡ hi_of es (member_at members j)) enclosures e so_far.hi
      (rw long hi);
}

pub bounded-all : (es : List Element) (members : List (List (List ℕ))) (enclosures : List Enclosure) →
    BoundedSoFar es members enclosures → length enclosures ≡ length members → AreBounded es members enclosures
bounded-all es members enclosures so_far all = record { one_each = all; lo = so_far.lo; hi = so_far.hi }
