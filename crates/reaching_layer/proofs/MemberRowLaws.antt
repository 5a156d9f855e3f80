-- The counts of a member, one element after another, and members by their rows.
use Rattle.std.proofs.Common.{◌≡◌, ℕ, ◌+◌, ◌*◌, ◌<◌, ◌≤◌, List, [], ◌∷◌, ◌++◌, length, get_or, map, sum, take, drop, ltb}
use Rattle.std.proofs.Common.{refl, sym, ◌∙◌, ap, arith, All, append_assoc, append-nil, length-append}
use Rattle.std.specs.List.{concat}
use Rattle.std.specs.Prelude.{filter, sum_by}
use Rattle.std.proofs.Math.Seq.{take-add, take-append_seam, drop-append_seam}
use Rattle.std.proofs.lemmas.List.{length-map, length-take, get_or-map, take_more, take_all}
use Rattle.std.proofs.lemmas.List.Folds.{concat-append}
use Rattle.std.proofs.lemmas.List.Elements.{All-head, All-tail}
use Rattle.multinomial_bounds.proofs.CompositionLemmas.{sum-cons}
use Rattle.multinomial_bounds.proofs.SumLemmas.{sum_by-map}
use Rattle.layered_envelope.proofs.ChoicesInOrder.{filter_map_by}
use Rattle.multinomial_bounds.specs.Isotopologue.{Element, IsIsotopologue}
use Rattle.isotopologue_sets.specs.Covers.{Member}
use Rattle.isotopologue_list.proofs.FlatLemmas.{map_map}
use Rattle.layered_envelope.specs.declared.gathering.MemberRow.{MemberRow}
use Rattle.reaching_layer.specs.CountsByElement.{counts_by_element}
use Rattle.reaching_layer.specs.MemberRows.{row_counts, row_member}

-- ---- one member

pub take_twice : {X : Type 0} (n : ℕ) (xs : List X) → take n (take n xs) ≡ take n xs
take_twice n xs = take_all n (take n xs) (omega (arith, length-take n xs))

pub concat-counts_by_element : (isotopes counts : List ℕ) → concat (counts_by_element isotopes counts) ≡ take (sum isotopes) counts
unfolding counts_by_element
concat-counts_by_element [] counts = refl
concat-counts_by_element (first ∷ others) counts =
    ap (λ xs. take first counts ++ xs) (concat-counts_by_element others (drop first counts))
    ∙ sym (take-add first (sum others) counts)
    ∙ ap (λ (n : ℕ). take n counts) (sym (sum-cons first others))

pub counts_by_element-concat : (rows : List (List ℕ)) (rest : List ℕ) → counts_by_element (map length rows) (concat rows ++ rest) ≡ rows
unfolding counts_by_element
counts_by_element-concat [] rest = refl
counts_by_element-concat (row ∷ rows) rest =
    let joined : (row ++ concat rows) ++ rest ≡ row ++ (concat rows ++ rest) = append_assoc row (concat rows) rest in
    let first : take (length row) ((row ++ concat rows) ++ rest) ≡ row =
    ap (take (length row)) joined ∙ take-append_seam row (concat rows ++ rest) in
    let others : drop (length row) ((row ++ concat rows) ++ rest) ≡ concat rows ++ rest =
    ap (drop (length row)) joined ∙ drop-append_seam row (concat rows ++ rest) in
    rw (first, others, counts_by_element-concat rows rest) refl

length-concat : (rows : List (List ℕ)) → length (concat rows) ≡ sum (map length rows)
length-concat [] = refl
length-concat (row ∷ rows) =
    length-append row (concat rows) ∙ ap (λ (n : ℕ). length row + n) (length-concat rows) ∙ sym (sum-cons (length row) (map length rows))

-- an isotopologue has a count for each isotope of each element
pub lengths-IsIsotopologue : (es : List Element) (i : List (List ℕ)) → IsIsotopologue es i → map length i ≡ map (λ e. length e.weights) es
lengths-IsIsotopologue [] [] is = refl
lengths-IsIsotopologue [] (counts ∷ more) is = absurd is
lengths-IsIsotopologue (e ∷ es) [] is = absurd is
lengths-IsIsotopologue (e ∷ es) (counts ∷ more) is =
    ap (λ (n : ℕ). n ∷ map length more) is.0.places_agree ∙ ap (λ ns. length e.weights ∷ ns) (lengths-IsIsotopologue es more is.1)

-- ---- members by their rows

module _ (isotopes counts : List ℕ) where
  pub row_member-counts : (row : MemberRow) → concat (row_member isotopes counts row).counts ≡ row_counts counts (sum isotopes) row
  unfolding row_member
  row_member-counts row =
      concat-counts_by_element isotopes (row_counts counts (sum isotopes) row)
      ∙ take_twice (sum isotopes) (drop row.start counts)

  module _ (rows : List MemberRow) (members : List Member) (view : map (row_member isotopes counts) rows ≡ members) where
    pub length-members : length members ≡ length rows
    length-members = ap length (sym view) ∙ length-map rows (row_member isotopes counts)

    pub member_at : (k : ℕ) (d : Member) (r : MemberRow) → k < length members →
        get_or members k d ≡ row_member isotopes counts (get_or rows k r)
    member_at k d r within =
        ap (λ ms. get_or ms k d) (sym view)
        ∙ get_or-map (row_member isotopes counts) rows k r d (omega (arith, length-members))

    pub members_lo : map (λ m. m.lo) members ≡ map (λ (r : MemberRow). r.enclosure.lo) rows
    unfolding row_member
    members_lo =
        ap (map (λ (m : Member). m.lo)) (sym view)
        ∙ map_map (λ (m : Member). m.lo) (row_member isotopes counts) rows

    pub members_hi : map (λ m. m.hi) members ≡ map (λ (r : MemberRow). r.enclosure.hi) rows
    unfolding row_member
    members_hi =
        ap (map (λ (m : Member). m.hi)) (sym view)
        ∙ map_map (λ (m : Member). m.hi) (row_member isotopes counts) rows

    -- those above a threshold
    pub members_above : (threshold : ℕ) → filter (λ m. ltb threshold m.hi) members
        ≡ map (row_member isotopes counts) (filter (λ (r : MemberRow). ltb threshold r.enclosure.hi) rows)
    unfolding row_member
    members_above threshold =
        ap (filter (λ (m : Member). ltb threshold m.hi)) (sym view)
        ∙ filter_map_by (λ (m : Member). ltb threshold m.hi) (λ (r : MemberRow). ltb threshold r.enclosure.hi)
        (row_member isotopes counts) rows (λ r. refl)

    pub total_above : (threshold : ℕ) → sum_by (λ m. m.lo) (filter (λ m. ltb threshold m.hi) members)
        ≡ sum_by (λ r. r.enclosure.lo) (filter (λ (r : MemberRow). ltb threshold r.enclosure.hi) rows)
    unfolding row_member
    total_above threshold =
        ap (sum_by (λ (m : Member). m.lo)) (members_above threshold)
        ∙ sum_by-map (λ (m : Member). m.lo) (row_member isotopes counts)
        (filter (λ (r : MemberRow). ltb threshold r.enclosure.hi) rows)

-- how many isotopes the elements have together
pub few_isotopes : (es : List Element) → All (λ e. length e.weights ≤ 16) es →
    sum (map (λ e. length e.weights) es) ≤ 16 * length es
few_isotopes [] all = omega arith
few_isotopes (e ∷ es) all =
    let here : length e.weights ≤ 16 = All-head (λ (x : Element). length x.weights ≤ 16) e es all in
    let rest : sum (map (λ (x : Element). length x.weights) es) ≤ 16 * length es =
    few_isotopes es (All-tail (λ (x : Element). length x.weights ≤ 16) e es all) in
    omega (arith, here, rest, sum-cons (length e.weights) (map (λ (x : Element). length x.weights) es))
