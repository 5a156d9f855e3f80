-- The certificate of a formula's cover is accepted.
use Rattle.std.proofs.Common.{◌≡◌, ℕ, zero, suc, ◌<◌, ◌≤◌, Bool, true, false, List, [], ◌∷◌, map, length, get_or, Some}
use Rattle.std.proofs.Common.{None, refl, sym, ◌∙◌, ap, arith, All, append-nil}
use Rattle.std.specs.Prelude.{Option, is_none}
use Rattle.std.specs.List.{concat, range_with_len}
use Rattle.std.proofs.lemmas.Bool.{ltb-false}
use Rattle.std.proofs.lemmas.List.{length-map, get_or-map}
use Rattle.std.proofs.lemmas.List.FromFn.{length-range_with_len, get_or-range_with_len}
use Rattle.std.proofs.lemmas.List.Elements.{All-head, All-tail, All-nil, All-cons}
use Rattle.std.proofs.lemmas.List.Sorted.{length_permutation}
use Rattle.element_table.specs.Elements.{TableEntries, IsTable}
use Rattle.written_items.specs.declared.item.Item.{Item}
use Rattle.formula_text.specs.Masses.{HasItems}
use Rattle.formula_text.specs.Formulas.{IsFormula}
use Rattle.multinomial_bounds.specs.Isotopologue.{Element, IsIsotopologue}
use Rattle.isotopologue_sets.specs.Layers.{AreElements, layer, max_members, reaching_threshold, has_too_many, last_threshold_for}
use Rattle.isotopologue_sets.specs.Coverage.{max_coverage}
use Rattle.isotopologue_sets.specs.Covers.{Member, ordered_layer, member_of, CoverNumbers, cover_numbers}
use Rattle.isotopologue_sets.proofs.LayerLaws.{ordered_layer-IsPermutation}
use Rattle.isotopologue_sets.proofs.AllReach.{reaching_threshold-last}
use Rattle.isotopologue_sets.proofs.CoverMembers.{cover-isotopologues}
use Rattle.isotopologue_text.specs.Isotopologues.{formula_elements, isotopologue_text_of, HasText, IsOfText}
use Rattle.isotopologue_text.specs.ReadCounts.{counts_of_text}
use Rattle.isotopologue_text.proofs.ReadIsotopologues.{text-reading, one-text}
use Rattle.certificate_text.specs.Certificates.{CertificateEntries, CertLineEntry}
use Rattle.cover_claims.specs.CountsInRow.{counts_by_element}
use Rattle.cover_claims.specs.Claims.{Claimed, ClaimedMember, claim_fault}
use Rattle.cover_claims.specs.CoverClaims.{with_mark, first_marked, claimed_by_cover, numbers_of_cover}
use Rattle.cover_claims.proofs.RowLemmas.{counts_by_element-concat}
use Rattle.cover_claims.proofs.CoverAccepted.{none-found, cover-accepted}
use Rattle.certificate_check.specs.declared.judgement.Judgement.TheVariants.{Accepted}
use Rattle.certificate_check.specs.Judgements.{is_unnamed, first_unnamed, member_of_line, claimed_by, numbers_of, judgement_of, judgement_of_lines, judgement}
use Rattle.certificate_check.specs.CoverCertificates.{line_of_member, lines_of_members, IsOfCover}
use Rattle.certificate_check.proofs.JudgementSteps.{of-lines}

-- a text's counts, where it is that of an isotopologue
counts-read : (table : TableEntries) (formula : List (Item × ℕ)) (text : List ℕ) (o : Option (List ℕ)) →
    IsOfText table formula text o → ((a b : List ℕ) → HasText table formula text a → HasText table formula text b → a ≡ b) →
    (counts : List ℕ) → HasText table formula text counts → o ≡ Some counts
counts-read table formula text None is one counts has = absurd (is counts has)
counts-read table formula text (Some found) is one counts has = ap Some (one found counts is has)

module _ (table : TableEntries) (certificate : CertificateEntries) (is : IsTable table)
    (form : IsFormula certificate.formula) (known : HasItems table certificate.formula) where
  abbrev es : List Element
  es = formula_elements table certificate.formula

  abbrev line : Bool → Member → CertLineEntry
  line = line_of_member table certificate.formula

  line-read : (marked : Bool) (m : Member) → IsIsotopologue es m.counts →
      counts_of_text table certificate.formula (line marked m).text ≡ Some (concat m.counts)
  line-read marked m are =
      let text : List ℕ = isotopologue_text_of table certificate.formula (concat m.counts) in
      counts-read table certificate.formula text (counts_of_text table certificate.formula text)
      (text-reading table certificate.formula is form known text)
      (one-text table certificate.formula is form known text) (concat m.counts)
      (record {
        isotopologue = record { by_element = m.counts; isotopologue = are; joined = refl };
        text_is = refl;
      })

  line-member : (marked : Bool) (m : Member) → IsIsotopologue es m.counts →
      member_of_line table certificate (line marked m) ≡ with_mark marked m.counts
  line-member marked m are =
      let whole : counts_by_element es (concat m.counts) ≡ m.counts =
      ap (counts_by_element es) (sym (append-nil (concat m.counts))) ∙ counts_by_element-concat es m.counts [] are in
      rw (line-read marked m are, whole) refl

  abbrev IsIso : Member → Type 0
  IsIso m = IsIsotopologue es m.counts

  unmarked-members : (ms : List Member) → All IsIso ms →
      map (member_of_line table certificate) (map (line false) ms) ≡ map (with_mark false) (map (λ m. m.counts) ms)
  unmarked-members [] all = refl
  unmarked-members (m ∷ ms) all =
      let first = line-member false m (All-head IsIso m ms all) in
      let rest = unmarked-members ms (All-tail IsIso m ms all) in
      ap (λ (x : ClaimedMember). x ∷ map (member_of_line table certificate) (map (line false) ms)) first
      ∙ ap (λ (xs : List ClaimedMember). with_mark false m.counts ∷ xs) rest

  members-of : (n : ℕ) (ms : List Member) → All IsIso ms →
      map (member_of_line table certificate) (lines_of_members table certificate.formula n ms)
      ≡ first_marked n (map (λ m. m.counts) ms)
  members-of zero ms all = unmarked-members ms all
  members-of (suc n) [] all = refl
  members-of (suc n) (m ∷ ms) all =
      let first = line-member true m (All-head IsIso m ms all) in
      let rest = members-of n ms (All-tail IsIso m ms all) in
      ap (λ (x : ClaimedMember).
      x ∷ map (member_of_line table certificate) (lines_of_members table certificate.formula n ms)) first
      ∙ ap (λ (xs : List ClaimedMember). with_mark true m.counts ∷ xs) rest

  -- each line's text is read
  abbrev IsRead : CertLineEntry → Type 0
  IsRead l = is_none (counts_of_text table certificate.formula l.text) ≡ false

  unmarked-read : (ms : List Member) → All IsIso ms → All IsRead (map (line false) ms)
  unmarked-read [] all = All-nil IsRead
  unmarked-read (m ∷ ms) all =
      All-cons IsRead (line false m) (map (line false) ms) (ap is_none (line-read false m (All-head IsIso m ms all)))
      (unmarked-read ms (All-tail IsIso m ms all))

  lines-read : (n : ℕ) (ms : List Member) → All IsIso ms → All IsRead (lines_of_members table certificate.formula n ms)
  lines-read zero ms all = unmarked-read ms all
  lines-read (suc n) [] all = All-nil IsRead
  lines-read (suc n) (m ∷ ms) all =
      All-cons IsRead (line true m) (lines_of_members table certificate.formula n ms)
      (ap is_none (line-read true m (All-head IsIso m ms all))) (lines-read n ms (All-tail IsIso m ms all))

  unmarked-long : (ms : List Member) → length (map (line false) ms) ≡ length ms
  unmarked-long ms = length-map ms (line false)

  lines-long : (n : ℕ) (ms : List Member) → length (lines_of_members table certificate.formula n ms) ≡ length ms
  lines-long zero ms = unmarked-long ms
  lines-long (suc n) [] = refl
  lines-long (suc n) (m ∷ ms) = ap suc (lines-long n ms)

  none-unnamed : All IsRead certificate.lines → first_unnamed table certificate ≡ None
  none-unnamed all =
      none-found (is_unnamed table certificate) (range_with_len 0 (length certificate.lines))
      (λ k d within.
      let inside : k < length certificate.lines = rw length-range_with_len at within in
      let here : get_or (range_with_len 0 (length certificate.lines)) k d ≡ k =
      get_or-range_with_len 0 (length certificate.lines) k d inside ∙ omega arith in
      let l : CertLineEntry = record { marked = false; text = [] } in
      rw here
      (ap is_none (get_or-map (λ m. counts_of_text table certificate.formula m.text) certificate.lines k l None inside)
      ∙ all k l inside))

  module _ (ok : AreElements es) (some : 1 ≤ certificate.coverage) (most : certificate.coverage ≤ max_coverage)
      (few : has_too_many es (last_threshold_for es certificate.coverage) ≡ false)
      (of_cover : IsOfCover table certificate (cover_numbers es certificate.coverage)) where
    abbrev cover : CoverNumbers
    cover = cover_numbers es certificate.coverage

    members-long : length cover.members ≤ max_members
    unfolding cover_numbers
    members-long =
        let t : ℕ = reaching_threshold es certificate.coverage in
        let last : reaching_threshold es certificate.coverage ≡ last_threshold_for es certificate.coverage =
        reaching_threshold-last es ok certificate.coverage most few in
        let short : has_too_many es t ≡ false = rw last few in
        omega (
          arith,
          length-map (ordered_layer es t) (member_of es),
          length_permutation (layer es t) (ordered_layer es t) (ordered_layer-IsPermutation es t),
          ltb-false max_members (length (layer es t)) short,
        )

    lines-few : length certificate.lines ≤ max_members
    lines-few = rw of_cover.lines_are (omega (arith, lines-long cover.size cover.members, members-long))

    all-iso : All IsIso cover.members
    all-iso = cover-isotopologues es certificate.coverage

    claimed-is : claimed_by table certificate ≡ claimed_by_cover es cover
    claimed-is =
        ap (λ (ms : List ClaimedMember). the_claim ms)
        (ap (map (member_of_line table certificate)) of_cover.lines_are ∙ members-of cover.size cover.members all-iso)
      where
        the_claim : List ClaimedMember → Claimed
        the_claim ms = record { elements = es; members = ms }

    numbers-are : numbers_of certificate ≡ numbers_of_cover certificate.coverage cover
    numbers-are = rw (of_cover.size_is, of_cover.bound_is, of_cover.threshold_is) refl

    -- The certificate of the formula's cover is accepted.
    pub certificate-accepted : judgement table certificate ≡ Accepted
    certificate-accepted =
        of-lines table certificate (λ e. omega arith) most lines-few
        ∙ ap (judgement_of_lines table certificate)
        (none-unnamed (rw of_cover.lines_are (lines-read cover.size cover.members all-iso)))
        ∙ ap (judgement_of table certificate)
        (ap (λ (c : Claimed). claim_fault c (numbers_of certificate)) claimed-is
        ∙ ap (claim_fault (claimed_by_cover es cover)) numbers-are
        ∙ cover-accepted es ok certificate.coverage some most few)
