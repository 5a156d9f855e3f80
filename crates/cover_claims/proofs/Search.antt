-- Halving the members that stand in order finds an isotopologue exactly where it is one of them.
use Rattle.std.proofs.Common.{◌≡◌, ℕ, ◌+◌, ◌<◌, ◌≤◌, Bool, true, false, List, [], length, None, refl, sym, ◌∙◌, arith, ⊎_elim}
use Rattle.std.specs.Prelude.{Contains}
use Rattle.std.specs.declared.cmp.Ordering.TheVariants.{Less, Equal, Greater}
use Rattle.std.proofs.lemmas.Bool.{cases_lt}
use Rattle.std.proofs.lemmas.List.{length-map, get_or_default}
use Rattle.multinomial_bounds.specs.Isotopologue.{Element}
use Rattle.isotopologue_sets.specs.Covers.{stands_before}
use Rattle.cover_claims.specs.Claims.{ClaimedMember, isotopologues_in, member_at, is_member, first_misplaced}
use Rattle.cover_claims.proofs.FindLemmas.{is_member-Decides}
use Rattle.cover_claims.proofs.MemberOrder.{in_order, before-chain, before-apart}
use Rattle.cover_claims.proofs.Comparison.{against, before-less, behind-greater, same-equal}

module _ (es : List Element) (claimed : List ClaimedMember) (none : first_misplaced es (isotopologues_in claimed) ≡ None)
    (i : List (List ℕ)) where
  abbrev members : List (List (List ℕ))
  members = isotopologues_in claimed

  long : length (isotopologues_in claimed) ≡ length claimed
  long = length-map claimed (λ m. m.counts)

  pub low-after : (middle : ℕ) → middle < length claimed → against es (member_at members middle) i ≡ Less →
      (k : ℕ) → k < middle + 1 → k < length claimed → stands_before es (member_at members k) i ≡ true
  low-after middle within less k before inside =
      let here : stands_before es (member_at members middle) i ≡ true = before-less es (member_at members middle) i less in
      ⊎_elim
      (λ (earlier : k < middle).
      before-chain es (member_at members k) (member_at members middle) i
      (in_order es members none k middle earlier (omega (arith, long))) here)
      (λ (at : middle ≤ k). let e : k ≡ middle = omega arith in rw e here)
      (cases_lt k middle)

  pub high-after : (middle : ℕ) → middle < length claimed → against es (member_at members middle) i ≡ Greater →
      (k : ℕ) → middle ≤ k → k < length claimed → stands_before es i (member_at members k) ≡ true
  high-after middle within greater k behind inside =
      let here : stands_before es i (member_at members middle) ≡ true = behind-greater es (member_at members middle) i greater in
      ⊎_elim
      (λ (later : middle < k).
      before-chain es i (member_at members middle) (member_at members k) here
      (in_order es members none middle k later (omega (arith, long))))
      (λ (at : k ≤ middle). let e : k ≡ middle = omega arith in rw e here)
      (cases_lt middle k)

  pub found-equal : (middle : ℕ) → middle < length claimed → against es (member_at members middle) i ≡ Equal →
      true ≡ is_member members i
  found-equal middle within equal =
      let same : member_at members middle ≡ i = same-equal es (member_at members middle) i equal in
      let inside : middle < length members = omega (arith, long) in
      sym ((is_member-Decides members i).1
      (middle, inside, get_or_default members middle i [] inside ∙ same))

  pub found-nowhere : (low high : ℕ) → high ≤ low →
      ((k : ℕ) → k < low → k < length claimed → stands_before es (member_at members k) i ≡ true) →
      ((k : ℕ) → high ≤ k → k < length claimed → stands_before es i (member_at members k) ≡ true) →
      false ≡ is_member members i
  found-nowhere low high met before behind = cases (is_member members i) refl
    where
      not_at : (k : ℕ) → k < length claimed → member_at members k ≡ i → ⊥
      not_at k inside same =
          ⊎_elim
          (λ (first : k < low). before-apart es (member_at members k) i (before k first inside) same)
          (λ (last : low ≤ k).
          before-apart es i (member_at members k) (behind k (omega arith) inside) (sym same))
          (cases_lt k low)

      cases : (r : Bool) → is_member members i ≡ r → false ≡ is_member members i
      cases false is = sym is
      cases true is =
          let c : Contains members i = (is_member-Decides members i).0 is in
          absurd (not_at c.0 (omega (arith, long, c.1)) (get_or_default members c.0 [] i c.1 ∙ c.2))
