-- The certificate of the cover of an ion passes its check.
use Rattle.std.proofs.Common.{◌≡◌, ℕ, ◌≤◌, Bool, true, false, cond, List, [], ◌∷◌, ◌++◌, map, take, drop, refl, sym, ap}
use Rattle.std.proofs.Common.{◌∙◌, subst}
use Rattle.std.specs.Prelude.{Result, Ok, Err}
use Rattle.std.specs.List.{concat}
use Rattle.std.proofs.lemmas.List.{drop-map, take-map}
use Rattle.element_table.specs.Elements.{IsTable, TableEntries}
use Rattle.written_items.specs.declared.item.Item.{Item}
use Rattle.formula_text.specs.Formulas.{IsFormula}
use Rattle.formula_text.specs.Masses.{HasItems}
use Rattle.isotopologue_sets.specs.Coverage.{max_coverage}
use Rattle.isotopologue_sets.specs.Covers.{CoverNumbers, Member, cover_numbers}
use Rattle.isotopologue_sets.specs.Layers.{has_too_many, last_threshold_for}
use Rattle.isotopologue_text.specs.Isotopologues.{formula_elements, isotopologue_text_of}
use Rattle.reaching_layer.specs.declared.fault.CoverFault.{CoverFault}
use Rattle.reaching_layer.specs.declared.fault.CoverFault.TheVariants.{TooMany}
use Rattle.certificate_text.specs.Certificates.{CertLineEntry, CertificateEntries}
use Rattle.certificate_text.specs.CertificateReader.{certificate_of}
use Rattle.certificate_text.specs.WrittenCertificates.{written_text}
use Rattle.cover_certificate.specs.CoverCertificates.{certificate_of_cover, entry_of}
use Rattle.cover_certificate.specs.FormulaCovers.{CoverEntries, MemberEntry, cover_of, cover_unless_too_many}
use Rattle.cover_certificate.specs.FormulaCovers.{member_entry}
use Rattle.cover_certificate.proofs.ReadableCovers.{formula-limits, readable-cover}
use Rattle.cover_certificate.proofs.WrittenCovers.{read-again}
use Rattle.certificate_check.specs.CoverCertificates.{IsOfCover, line_of_member, lines_of_members}
use Rattle.certificate_check.proofs.CoverAccepted.{certificate-accepted}
use Rattle.cover_reports.specs.Claims.{PassesCheck}

-- what is given has not too many members
not_many : (many : Bool) (threshold : ℕ) (cover given : CoverEntries) →
    (let answer : Result CoverEntries CoverFault = cond many (Err (TooMany threshold)) (Ok cover) in answer) ≡ Ok given →
    many ≡ false
not_many true threshold cover given is =
    absurd (let both : ◌≡◌ {A = Result CoverEntries CoverFault} (Err (TooMany threshold)) (Ok given) = is in cc)
not_many false threshold cover given is = refl

module _ (table : TableEntries) (formula : List (Item × ℕ)) where
  -- the lines of printed members are those of the members
  printed_lines : (marked : Bool) (members : List Member) →
      map (entry_of marked) (map (member_entry table formula) members) ≡ map (line_of_member table formula marked) members
  unfolding member_entry
  printed_lines marked [] = refl
  printed_lines marked (m ∷ members) =
      ap (λ (ls : List CertLineEntry). line_of_member table formula marked m ∷ ls) (printed_lines marked members)

  printed_cover : (size : ℕ) (members : List Member) →
      map (entry_of true) (take size (map (member_entry table formula) members))
      ++ map (entry_of false) (drop size (map (member_entry table formula) members))
      ≡ lines_of_members table formula size members
  printed_cover size members =
      rw (
        take-map (member_entry table formula) size members,
        drop-map (member_entry table formula) size members,
        printed_lines true (take size members),
        printed_lines false (drop size members),
      ) refl

  is_of_cover : (coverage : ℕ) →
      IsOfCover table (certificate_of_cover (cover_of table formula coverage))
      (cover_numbers (formula_elements table formula) coverage)
  unfolding cover_of
  is_of_cover coverage =
      let numbers : CoverNumbers = cover_numbers (formula_elements table formula) coverage in
      record {
        size_is = refl;
        bound_is = refl;
        threshold_is = refl;
        lines_are = printed_cover numbers.size numbers.members;
      }

  pub passes : IsTable table → IsFormula formula → HasItems table formula →
      (coverage : ℕ) → 1 ≤ coverage → coverage ≤ max_coverage → (given : CoverEntries) →
      cover_unless_too_many table formula coverage ≡ Ok given → cover_of table formula coverage ≡ given →
      PassesCheck table given
  unfolding cover_of
  passes is form known coverage some most given found same =
      let es = formula_elements table formula in
      let few : has_too_many es (last_threshold_for es coverage) ≡ false =
      not_many (has_too_many es (last_threshold_for es coverage)) (last_threshold_for es coverage)
      (cover_of table formula coverage) given found in
      subst (PassesCheck table) same (record {
        read_again = read-again (cover_of table formula coverage) (written_text (certificate_of_cover (cover_of table formula coverage)))
            refl form table known (readable-cover table formula is form known coverage some most few);
        accepted = certificate-accepted table (certificate_of_cover (cover_of table formula coverage)) is form known
            (formula-limits table is formula form known) some most few (is_of_cover coverage);
      })
