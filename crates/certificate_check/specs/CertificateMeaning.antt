-- What a certificate claims. Coverages are in units of 10^-18.
use Rattle.std.specs.Prelude.{◌≡◌, ℕ, List, length, All}
use Rattle.element_table.specs.Elements.{TableEntries}
use Rattle.isotopologue_sets.specs.Coverage.{Reaches, Bound}
use Rattle.isotopologue_text.specs.Isotopologues.{formula_elements, HasText}
use Rattle.certificate_text.specs.Certificates.{CertificateEntries}
use Rattle.cover_claims.specs.Claims.{marked_in}
use Rattle.certificate_check.specs.Judgements.{claimed_by}

-- Each line has the text of an isotopologue of the formula. The marked ones have the coverage in exact weights, and are as
-- many as the size says. No set of isotopologues with fewer members than the bound says has the coverage.
pub record CertificateMeans (table : TableEntries) (certificate : CertificateEntries) : Type 0 where
  pub texts :
      All (λ l. (counts : List ℕ) × HasText table certificate.formula l.text counts) certificate.lines
  pub reached :
      Reaches (formula_elements table certificate.formula) (marked_in (claimed_by table certificate).members)
      certificate.coverage
  pub size_is : length (marked_in (claimed_by table certificate).members) ≡ certificate.size
  pub least : Bound (formula_elements table certificate.formula) certificate.bound certificate.coverage
