-- Every isotopologue but that of all modes is a neighbour of a likelier one with one atom less out of place. So a closed
-- list has each isotopologue above its threshold.
use Rattle.std.proofs.Common.{◌≡◌, ℕ, zero, suc, ◌+◌, ◌≤◌, List, [], ◌∷◌, map, length, get_or, sum, refl, sym, ◌∙◌, arith, All, ⊎_elim, inl, inr}
use Rattle.std.specs.Prelude.{◌⊎◌, Contains}
use Rattle.std.proofs.Math.Nat.{le_trans, mul-le-mul_left, mul-le-mul_right}
use Rattle.std.proofs.lemmas.List.Elements.{All-head, All-tail, All-contains, Contains-append_left, Contains-append_right}
use Rattle.multinomial_bounds.specs.Weight.{IsWeights, IsCounts, weight_of}
use Rattle.multinomial_bounds.specs.Bounds.{certainty}
use Rattle.multinomial_bounds.specs.Mode.{mode_of_atoms}
use Rattle.multinomial_bounds.specs.Path.{first_above, atoms_above, parent_of}
use Rattle.multinomial_bounds.specs.Isotopologue.{Element, IsIsotopologue, isotopologue_weight, all_weight}
use Rattle.multinomial_bounds.proofs.WeightLemmas.{moved_to}
use Rattle.multinomial_bounds.proofs.ModeLemmas.{IsMode-mode_of_atoms, length-mode_of_atoms, sum-mode_of_atoms}
use Rattle.multinomial_bounds.proofs.PathLemmas.{same_counts, atoms_above-zero, IsParentMove, IsParentMove-from}
use Rattle.multinomial_bounds.proofs.LikeliestLemmas.{weight-towards-mode}
use Rattle.multinomial_bounds.proofs.CompositionLemmas.{Contains-map}
use Rattle.multinomial_bounds.proofs.EnclosureLemmas.{IsEnclosure-isotopologue}
use Rattle.isotopologue_sets.specs.Layers.{hi_of, mode_of_each}
use Rattle.isotopologue_neighbours.specs.Moves.{moved, counts_moved, neighbours_of}
use Rattle.isotopologue_neighbours.specs.Closed.{IsClosedAbove, IsAtMost}
use Rattle.isotopologue_neighbours.proofs.MoveLemmas.{Contains-moved_back}

-- how many atoms of an isotopologue are above the counts of the modes
unfoldable out_of_place : List Element → List (List ℕ) → ℕ
out_of_place [] isotopologue = 0
out_of_place (e ∷ es) [] = 0
out_of_place (e ∷ es) (c ∷ more) = atoms_above (mode_of_atoms e.weights e.atoms) c + out_of_place es more

-- counts with none above the mode's are the mode
mode_counts : (e : Element) → IsWeights e.weights → (c : List ℕ) → IsCounts e.weights e.atoms c →
    atoms_above (mode_of_atoms e.weights e.atoms) c ≡ 0 → c ≡ mode_of_atoms e.weights e.atoms
mode_counts e ok c is none =
    let m : List ℕ = mode_of_atoms e.weights e.atoms in
    same_counts c m (is.places_agree ∙ sym (length-mode_of_atoms e.weights e.atoms))
    (is.atoms_agree ∙ sym (sum-mode_of_atoms e.weights ok.some e.atoms)) (atoms_above-zero m c none)

at_mode : (es : List Element) → All (λ e. IsWeights e.weights) es → (i : List (List ℕ)) → IsIsotopologue es i →
    out_of_place es i ≡ 0 → i ≡ mode_of_each es
unfolding out_of_place
at_mode [] ok [] is none = refl
at_mode [] ok (c ∷ more) is none = absurd is
at_mode (e ∷ es) ok [] is none = absurd is
at_mode (e ∷ es) ok (c ∷ more) is none =
    let head : c ≡ mode_of_atoms e.weights e.atoms =
    mode_counts e (All-head (λ e. IsWeights e.weights) e es ok) c is.0 (omega arith) in
    let tail : more ≡ mode_of_each es =
    at_mode es (All-tail (λ e. IsWeights e.weights) e es ok) more is.1 (omega arith) in
    rw (head, tail)

-- counts one move nearer to the mode, and no less likely
record Nearer (e : Element) (c : List ℕ) (d : ℕ) : Type 0 where
  nearer : List ℕ
  is : IsCounts e.weights e.atoms nearer
  likelier : weight_of e.weights e.atoms c ≤ weight_of e.weights e.atoms nearer
  neighbour : Contains (counts_moved nearer) c
  left : atoms_above (mode_of_atoms e.weights e.atoms) nearer ≡ d

nearer_counts : (e : Element) → IsWeights e.weights → (c : List ℕ) → IsCounts e.weights e.atoms c → (d : ℕ) →
    atoms_above (mode_of_atoms e.weights e.atoms) c ≡ suc d → Nearer e c d
unfolding parent_of
nearer_counts e ok c is d some =
    let m : List ℕ = mode_of_atoms e.weights e.atoms in
    let m_places : length m ≡ length e.weights = length-mode_of_atoms e.weights e.atoms in
    let m_atoms : sum m ≡ e.atoms = sum-mode_of_atoms e.weights ok.some e.atoms in
    let move : IsParentMove m c d =
    IsParentMove-from m c d (m_places ∙ sym is.places_agree) (m_atoms ∙ sym is.atoms_agree) some in
    let i : ℕ = first_above m c in
    let j : ℕ = first_above c m in
    let has : 1 ≤ get_or c (first_above m c) 0 = omega (arith, move.above) in
    let there : get_or (moved c (first_above m c) (first_above c m)) (first_above c m) 0
    ≡ get_or c (first_above c m) 0 + 1 =
    moved_to c (first_above m c) (first_above c m) move.apart move.below_within in
    record {
      nearer = parent_of m c;
      is = record { places_agree = move.places ∙ is.places_agree; atoms_agree = move.atoms ∙ is.atoms_agree };
      likelier =
          weight-towards-mode e.weights m c e.atoms i j ok (IsMode-mode_of_atoms e.weights ok.some e.atoms) m_places
          is.places_agree move.above move.below;
      neighbour = Contains-moved_back c i j move.apart has move.below_within (omega (arith, there));
      left = move.nearer;
    }

-- an isotopologue one move nearer to that of all modes, and no less likely
record NearerIsotopologue (es : List Element) (i : List (List ℕ)) (d : ℕ) : Type 0 where
  nearer : List (List ℕ)
  is : IsIsotopologue es nearer
  likelier : isotopologue_weight es i ≤ isotopologue_weight es nearer
  neighbour : Contains (neighbours_of nearer) i
  left : out_of_place es nearer ≡ d

in_first : (e : Element) (es : List Element) (c : List ℕ) (more : List (List ℕ)) (d k : ℕ) →
    IsIsotopologue es more → Nearer e c k → k + out_of_place es more ≡ d →
    NearerIsotopologue (e ∷ es) (c ∷ more) d
unfolding out_of_place neighbours_of isotopologue_weight
in_first e es c more d k others n total = record {
  nearer = n.nearer ∷ more;
  is = (n.is, others);
  likelier = mul-le-mul_right (isotopologue_weight es more) n.likelier;
  neighbour =
      Contains-append_left (map (λ changed. changed ∷ more) (counts_moved n.nearer))
      (map (λ rest. n.nearer ∷ rest) (neighbours_of more)) (c ∷ more)
      (Contains-map (λ changed. changed ∷ more) (counts_moved n.nearer) c n.neighbour);
  left = omega (arith, n.left);
}

in_others : (e : Element) (es : List Element) (c : List ℕ) (more : List (List ℕ)) (d : ℕ) →
    IsCounts e.weights e.atoms c → atoms_above (mode_of_atoms e.weights e.atoms) c ≡ 0 →
    NearerIsotopologue es more d → NearerIsotopologue (e ∷ es) (c ∷ more) d
unfolding out_of_place neighbours_of isotopologue_weight
in_others e es c more d is none n = record {
  nearer = c ∷ n.nearer;
  is = (is, n.is);
  likelier = mul-le-mul_left (weight_of e.weights e.atoms c) n.likelier;
  neighbour =
      Contains-append_right (map (λ changed. changed ∷ n.nearer) (counts_moved c))
      (map (λ rest. c ∷ rest) (neighbours_of n.nearer)) (c ∷ more)
      (Contains-map (λ rest. c ∷ rest) (neighbours_of n.nearer) more n.neighbour);
  left = omega (arith, n.left);
}

nearer_isotopologue : (es : List Element) → All (λ e. IsWeights e.weights) es → (i : List (List ℕ)) →
    IsIsotopologue es i → (d : ℕ) → out_of_place es i ≡ suc d → NearerIsotopologue es i d
unfolding out_of_place
nearer_isotopologue [] ok i is d some = absurd (omega arith)
nearer_isotopologue (e ∷ es) ok [] is d some = absurd is
nearer_isotopologue (e ∷ es) ok (c ∷ more) is d some =
    let here : IsWeights e.weights = All-head (λ e. IsWeights e.weights) e es ok in
    let Goal : ℕ → Type 0 =
    λ k. atoms_above (mode_of_atoms e.weights e.atoms) c ≡ k → NearerIsotopologue (e ∷ es) (c ∷ more) d in
    (elim (atoms_above (mode_of_atoms e.weights e.atoms) c) as Goal [
      | zero ↦ λ none.
          in_others e es c more d is.0 none
          (nearer_isotopologue es (All-tail (λ e. IsWeights e.weights) e es ok) more is.1 d (omega arith))
      | suc k ↦ λ above.
          in_first e es c more d k is.1 (nearer_counts e here c is.0 k above) (omega arith)
    ]) refl

module _ (es : List Element) (ok : All (λ e. IsWeights e.weights) es) (t : ℕ) (members : List (List (List ℕ)))
    (closed : IsClosedAbove es t members) where
  pub below : (i : List (List ℕ)) → IsIsotopologue es i → hi_of es i ≤ t → IsAtMost es t i
  below i is low =
      let e = IsEnclosure-isotopologue es i ok is in
      le_trans e.from_above (mul-le-mul_right (all_weight es) low)

  outside_at : (d : ℕ) (i : List (List ℕ)) → IsIsotopologue es i → out_of_place es i ≡ d →
      Contains members i ⊎ IsAtMost es t i
  outside_at zero i is none = inl (rw (at_mode es ok i is none) closed.mode)
  outside_at (suc d) i is some =
      let n : NearerIsotopologue es i d = nearer_isotopologue es ok i is d some in
      ⊎_elim
      (λ (member : Contains members n.nearer).
      ⊎_elim
      (λ (found : Contains members i). inl found)
      (λ (low : hi_of es i ≤ t). inr (below i is low))
      (All-contains (λ j. Contains members j ⊎ (hi_of es j ≤ t)) (neighbours_of n.nearer) i
      (All-contains (λ m. All (λ j. Contains members j ⊎ (hi_of es j ≤ t)) (neighbours_of m)) members n.nearer
      closed.neighbours member)
      n.neighbour))
      (λ (low : IsAtMost es t n.nearer). inr (le_trans (mul-le-mul_left certainty n.likelier) low))
      (outside_at d n.nearer n.is n.left)

  -- What a closed list doesn't have is at most its threshold in exact probability.
  pub outside : (i : List (List ℕ)) → IsIsotopologue es i → Contains members i ⊎ IsAtMost es t i
  outside i is = outside_at (out_of_place es i) i is refl
