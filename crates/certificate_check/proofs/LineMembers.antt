-- The isotopologues of a certificate's lines, each of which has the text of one.
use Rattle.std.proofs.Common.{◌≡◌, ℕ, ◌<◌, Bool, true, false, cond, List, [], ◌∷◌, ◌++◌, map, length, get_or, Some}
use Rattle.std.proofs.Common.{None, refl, sym, ◌∙◌, ap, arith, All, append-nil, length-append, drop, ◌*◌, subst}
use Rattle.std.specs.Prelude.{Option, flat_map, is_none, unwrap_or}
use Rattle.std.specs.List.{concat, range_with_len}
use Rattle.std.proofs.Math.Seq.{drop-append_seam}
use Rattle.std.proofs.lemmas.Bool.{false≢true}
use Rattle.std.proofs.lemmas.List.{get_or-map, get_or_default}
use Rattle.std.proofs.lemmas.List.FromFn.{length-range_with_len, get_or-range_with_len}
use Rattle.std.proofs.lemmas.List.Elements.{All-map, All-head, All-tail}
use Rattle.element_table.specs.Elements.{TableEntries}
use Rattle.written_items.specs.declared.item.Item.{Item}
use Rattle.multinomial_bounds.specs.Isotopologue.{Element, IsIsotopologue}
use Rattle.isotopologue_text.specs.Isotopologues.{formula_elements, HasText, IsOfText, IsIsotopologueOf}
use Rattle.isotopologue_text.specs.ReadCounts.{counts_of_text}
use Rattle.certificate_text.specs.Certificates.{CertificateEntries, CertLineEntry}
use Rattle.cover_claims.specs.CountsInRow.{isotopes_of_all, counts_by_element}
use Rattle.cover_claims.specs.MemberRows.{member_rows}
use Rattle.cover_claims.specs.Claims.{isotopologues_in}
use Rattle.cover_claims.proofs.FindLemmas.{find-none}
use Rattle.cover_claims.proofs.RowLemmas.{counts_by_element-concat, length-concat}
use Rattle.certificate_check.specs.Judgements.{is_unnamed, first_unnamed, member_of_line, claimed_by}

some≢none : {X : Type 0} (x : X) → ◌≡◌ {A = Option X} (Some x) None → ⊥
some≢none x e = let t : ◌≡◌ {A = Option _} (Some x) None = e in cc

-- counts of a text are an isotopologue by element
pub by_element-is : (table : TableEntries) (formula : _) (counts : List ℕ) → IsIsotopologueOf table formula counts →
    IsIsotopologue (formula_elements table formula) (counts_by_element (formula_elements table formula) counts)
by_element-is table formula counts is =
    let es : List Element = formula_elements table formula in
    let same : counts_by_element es counts ≡ is.by_element =
    ap (counts_by_element es) (sym is.joined ∙ sym (append-nil (concat is.by_element)))
    ∙ counts_by_element-concat es is.by_element [] is.isotopologue in
    subst (IsIsotopologue es) (sym same) is.isotopologue

module _ (table : TableEntries) (certificate : CertificateEntries)
    (meaning : All (λ l. IsOfText table certificate.formula l.text (counts_of_text table certificate.formula l.text))
    certificate.lines)
    (none : first_unnamed table certificate ≡ None) where
  -- the counts that a line's text has
  line-named : (k : ℕ) (d : CertLineEntry) → k < length certificate.lines →
      is_none (counts_of_text table certificate.formula (get_or certificate.lines k d).text) ≡ false
  line-named k d within =
      let places : List ℕ = range_with_len 0 (length certificate.lines) in
      let inside : k < length (range_with_len 0 (length certificate.lines)) = rw length-range_with_len within in
      let here : get_or (range_with_len 0 (length certificate.lines)) k 0 ≡ k =
      get_or-range_with_len 0 (length certificate.lines) k 0 within ∙ omega arith in
      let fails : is_unnamed table certificate k ≡ false =
      rw here at (find-none (is_unnamed table certificate) (range_with_len 0 (length certificate.lines)) none k 0 inside) in
      ap is_none
      (sym (get_or-map (λ l. counts_of_text table certificate.formula l.text) certificate.lines k d None within))
      ∙ fails

  read : (text : List ℕ) (o : Option (List ℕ)) → IsOfText table certificate.formula text o → is_none o ≡ false →
      HasText table certificate.formula text (unwrap_or o [])
  read text None is named = absurd (false≢true (sym named))
  read text (Some counts) is named = is

  pub has-text : (k : ℕ) (d : CertLineEntry) → k < length certificate.lines →
      HasText table certificate.formula (get_or certificate.lines k d).text
      (unwrap_or (counts_of_text table certificate.formula (get_or certificate.lines k d).text) [])
  has-text k d within =
      read (get_or certificate.lines k d).text _ (meaning k d within) (line-named k d within)

  pub lines-texts : All (λ l. (counts : List ℕ) × HasText table certificate.formula l.text counts) certificate.lines
  lines-texts k d within = (_, has-text k d within)

  pub members-are :
      All (IsIsotopologue (formula_elements table certificate.formula))
      (isotopologues_in (claimed_by table certificate).members)
  members-are =
      All-map (IsIsotopologue (formula_elements table certificate.formula)) (λ m. m.counts)
      (map (member_of_line table certificate) certificate.lines)
      (All-map (λ m. IsIsotopologue (formula_elements table certificate.formula) m.counts)
      (member_of_line table certificate) certificate.lines
      (λ k d within.
      by_element-is table certificate.formula _
      (has-text k d within).isotopologue))

-- the lines' counts end to end
abbrev pub rows_of : TableEntries → CertificateEntries → List CertLineEntry → List ℕ
rows_of table certificate lines =
    flat_map (λ l. unwrap_or (counts_of_text table certificate.formula l.text) []) lines

abbrev pub marks_of : List CertLineEntry → List Bool
marks_of lines = map (λ l. l.marked) lines

-- each line has the text of an isotopologue
abbrev pub AreRead : TableEntries → CertificateEntries → List CertLineEntry → Type 0
AreRead table certificate lines =
    All (λ l.
    HasText table certificate.formula l.text (unwrap_or (counts_of_text table certificate.formula l.text) [])) lines

module _ (table : TableEntries) (certificate : CertificateEntries) where
  abbrev es : List Element
  es = formula_elements table certificate.formula

  abbrev counts : CertLineEntry → List ℕ
  counts l = unwrap_or (counts_of_text table certificate.formula l.text) []

  row-long : (l : CertLineEntry) → HasText table certificate.formula l.text (counts l) →
      length (counts l) ≡ isotopes_of_all es
  row-long l has =
      ap length (sym has.isotopologue.joined)
      ∙ length-concat es has.isotopologue.by_element has.isotopologue.isotopologue

  pub rows-long : (lines : List CertLineEntry) → AreRead table certificate lines →
      length (rows_of table certificate lines) ≡ length (marks_of lines) * isotopes_of_all es
  rows-long [] all = omega arith
  rows-long (l ∷ lines) all =
      let has = All-head (λ k. HasText table certificate.formula k.text (counts k)) l lines all in
      omega (
        arith,
        length-append (counts l) (rows_of table certificate lines),
        row-long l has,
        rows-long lines (All-tail (λ k. HasText table certificate.formula k.text (counts k)) l lines all),
      )

  pub rows-members : (lines : List CertLineEntry) → AreRead table certificate lines →
      member_rows es (rows_of table certificate lines) (marks_of lines) ≡ map (member_of_line table certificate) lines
  unfolding member_rows
  rows-members [] all = refl
  rows-members (l ∷ lines) all =
      let has = All-head (λ k. HasText table certificate.formula k.text (counts k)) l lines all in
      let more : List ℕ = rows_of table certificate lines in
      let own : List (List ℕ) = has.isotopologue.by_element in
      let with_more : counts_by_element es (counts l ++ more) ≡ own =
      ap (λ (xs : List ℕ). counts_by_element es (xs ++ more)) (sym has.isotopologue.joined)
      ∙ counts_by_element-concat es own more has.isotopologue.isotopologue in
      let alone : counts_by_element es (counts l) ≡ own =
      ap (counts_by_element es) (sym has.isotopologue.joined ∙ sym (append-nil (concat own)))
      ∙ counts_by_element-concat es own [] has.isotopologue.isotopologue in
      let rest : drop (isotopes_of_all es) (counts l ++ more) ≡ more =
      ap (λ (n : ℕ). drop n (counts l ++ more)) (sym (row-long l has)) ∙ drop-append_seam (counts l) more in
      rw (
        with_more,
        alone,
        rest,
        rows-members lines (All-tail (λ k. HasText table certificate.formula k.text (counts k)) l lines all),
      ) refl

pub unnamed-at : (table : TableEntries) (certificate : CertificateEntries) (k : ℕ) (l : CertLineEntry) →
    k < length certificate.lines → l ≡ get_or certificate.lines k l →
    is_unnamed table certificate k ≡ is_none (counts_of_text table certificate.formula l.text)
unnamed-at table certificate k l within is =
    ap is_none
    (get_or-map (λ m. counts_of_text table certificate.formula m.text) certificate.lines k l None within
    ∙ ap (λ (m : CertLineEntry). counts_of_text table certificate.formula m.text) (sym is))

-- what a line's reading says of it
module _ (table : TableEntries) (certificate : CertificateEntries) (k : ℕ) (l : CertLineEntry)
    (within : k < length certificate.lines) (is : l ≡ get_or certificate.lines k l) (formula : List (Item × ℕ))
    (formula_is : formula ≡ certificate.formula) (text : List ℕ) (text_is : text ≡ l.text) where
  read-as : counts_of_text table certificate.formula l.text ≡ counts_of_text table formula text
  read-as = rw (formula_is, text_is) refl

  pub line-unnamed : (found : Bool) (counts : List ℕ) → found ≡ false →
      counts_of_text table formula text ≡ cond found (Some counts) None → is_unnamed table certificate k ≡ true
  line-unnamed found own absent value =
      unnamed-at table certificate k l within is
      ∙ ap is_none (read-as ∙ value ∙ ap (λ (b : Bool). cond b (Some own) None) absent)

  pub line-has : (found : Bool) (counts : List ℕ) → found ≡ true →
      counts_of_text table formula text ≡ cond found (Some counts) None → is_unnamed table certificate k ≡ false
  line-has found own has value =
      unnamed-at table certificate k l within is
      ∙ ap is_none (read-as ∙ value ∙ ap (λ (b : Bool). cond b (Some own) None) has)

  pub line-meaning : IsOfText table formula text (counts_of_text table formula text) → (d : CertLineEntry) →
      IsOfText table certificate.formula (get_or certificate.lines k d).text
      (counts_of_text table certificate.formula (get_or certificate.lines k d).text)
  line-meaning meaning d =
      let same : l ≡ get_or certificate.lines k d = is ∙ get_or_default certificate.lines k l d within in
      rw (← same, ← formula_is, ← text_is) meaning
