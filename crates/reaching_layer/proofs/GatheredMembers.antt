-- Members that are gathered one after another, and the rows that they have.
use Rattle.std.proofs.Common.{◌≡◌, ℕ, zero, suc, ◌+◌, List, [], ◌∷◌, ◌++◌, length, get_or, map, sum, take, drop, refl}
use Rattle.std.proofs.Common.{sym, ◌∙◌, ap, subst, arith, All, append_assoc, append-nil, length-append}
use Rattle.std.specs.Prelude.{Contains}
use Rattle.std.specs.List.{concat}
use Rattle.std.proofs.Math.Seq.{take-append_seam, drop-append_seam}
use Rattle.std.proofs.lemmas.List.{get_or-map, length-map}
use Rattle.std.proofs.lemmas.List.Sorted.{All-permutation}
use Rattle.std.proofs.lemmas.List.Elements.{All-head, All-tail}
use Rattle.multinomial_bounds.proofs.CompositionLemmas.{sum-cons}
use Rattle.multinomial_bounds.specs.Isotopologue.{Element, IsIsotopologue}
use Rattle.isotopologue_sets.specs.Layers.{layer}
use Rattle.isotopologue_sets.proofs.LayerLaws.{layer-IsIsotopologue}
use Rattle.layered_envelope.proofs.LayersByPlace.{layer-IsPermutation}
use Rattle.isotopologue_sets.specs.Covers.{member_of}
use Rattle.isotopologue_list.proofs.FlatLemmas.{flat_map_push}
use Rattle.layered_envelope.specs.PlacedLayers.{counts_at, layer_places}
use Rattle.layered_envelope.specs.declared.gathering.MemberRow.{MemberRow}
use Rattle.reaching_layer.specs.CountsByElement.{counts_by_element}
use Rattle.reaching_layer.specs.MemberRows.{row_counts, row_member}
use Rattle.layered_envelope.specs.GatheredRows.{end_to_end, IsRow, AreRows}
use Rattle.reaching_layer.proofs.MemberRowLaws.{counts_by_element-concat}

module _ (es : List Element) where
  -- what a row tells: which member it is, and its counts
  pub record Tells (isotopes counts : List ℕ) (places : List ℕ) (row : MemberRow) : Type 0 where
    pub member_is : row_member isotopes counts row ≡ member_of es (counts_at es places)
    pub counts_are : row_counts counts (sum isotopes) row ≡ concat (counts_at es places)

  abbrev pub TellAll : List ℕ → List ℕ → List (List ℕ) → List MemberRow → Type 0
  TellAll isotopes counts [] [] = Unit {0}
  TellAll isotopes counts [] (row ∷ rows) = ⊥
  TellAll isotopes counts (places ∷ members) [] = ⊥
  TellAll isotopes counts (places ∷ members) (row ∷ rows) =
      Tells isotopes counts places row × TellAll isotopes counts members rows

  length-concat : (rows : List (List ℕ)) → length (concat rows) ≡ sum (map length rows)
  length-concat [] = refl
  length-concat (row ∷ rows) =
      length-append row (concat rows) ∙ ap (λ (n : ℕ). length row + n) (length-concat rows)
      ∙ sym (sum-cons (length row) (map length rows))

  -- the first row of those whose counts stand end to end
  module _ (isotopes pre rest : List ℕ) (places : List ℕ) (row : MemberRow)
      (fits : map length (counts_at es places) ≡ isotopes) (is : IsRow es (length pre) places row) where
    abbrev pub joined : List ℕ
    joined = pre ++ (concat (counts_at es places) ++ rest)

    row_is : row_counts joined (sum isotopes) row ≡ concat (counts_at es places)
    row_is =
        let width : sum isotopes ≡ length (concat (counts_at es places)) =
        ap sum (sym fits) ∙ sym (length-concat (counts_at es places)) in
        ap (λ (n : ℕ). take (sum isotopes) (drop n joined)) is.there
        ∙ ap (take (sum isotopes)) (drop-append_seam pre (concat (counts_at es places) ++ rest))
        ∙ ap (λ (n : ℕ). take n (concat (counts_at es places) ++ rest)) width
        ∙ take-append_seam (concat (counts_at es places)) rest

    counts_are : counts_by_element isotopes (row_counts joined (sum isotopes) row) ≡ counts_at es places
    counts_are =
        ap (counts_by_element isotopes) (row_is ∙ sym (append-nil (concat (counts_at es places))))
        ∙ ap (λ ns. counts_by_element ns (concat (counts_at es places) ++ [])) (sym fits)
        ∙ counts_by_element-concat (counts_at es places) []

    pub row_tells : Tells isotopes joined places row
    unfolding row_member
    row_tells = record {
      member_is = rw (counts_are, is.lo_is, is.hi_is) refl;
      counts_are = row_is;
    }

  -- all rows
  pub rows_tell : (isotopes pre : List ℕ) (members : List (List ℕ)) (rows : List MemberRow) →
      All (λ p. map length (counts_at es p) ≡ isotopes) members → AreRows es (length pre) members rows →
      TellAll isotopes (pre ++ end_to_end es members) members rows
  rows_tell isotopes pre [] [] fit are = tt
  rows_tell isotopes pre [] (r ∷ rows) fit are = absurd are
  rows_tell isotopes pre (p ∷ members) [] fit are = absurd are
  rows_tell isotopes pre (p ∷ members) (r ∷ rows) fit are =
      let Fits : List ℕ → Type 0 = λ p. map length (counts_at es p) ≡ isotopes in
      let first : List ℕ = concat (counts_at es p) in
      let moved : length pre + length first ≡ length (pre ++ first) = sym (length-append pre first) in
      let rest : TellAll isotopes ((pre ++ first) ++ end_to_end es members) members rows =
      rows_tell isotopes (pre ++ first) members rows (All-tail Fits p members fit)
      (subst (λ (n : ℕ). AreRows es n members rows) moved are.1) in (
        row_tells isotopes pre (end_to_end es members) p r (All-head Fits p members fit) are.0,
        subst (λ xs. TellAll isotopes xs members rows) (append_assoc pre first (end_to_end es members)) rest,
      )
