-- What holds of covers in exact weights, and of certificates.
use Rattle.std.specs.Prelude.{◌≡◌, ℕ, List, Ok, Option, All, map}
use Rattle.element_table.specs.Elements.{TableEntries}
use Rattle.multinomial_bounds.specs.Bounds.{IsEnclosure}
use Rattle.multinomial_bounds.specs.Isotopologue.{isotopologue_weight, all_weight}
use Rattle.isotopologue_sets.specs.Covers.{IsCover}
use Rattle.isotopologue_text.specs.Isotopologues.{formula_elements}
use Rattle.cover_certificate.specs.FormulaCovers.{CoverEntries, member_numbers}
use Rattle.certificate_text.specs.CertificateReader.{certificate_of}
use Rattle.certificate_text.specs.WrittenCertificates.{written_text}
use Rattle.cover_certificate.specs.CoverCertificates.{certificate_of_cover}
use Rattle.certificate_check.specs.CertificateMeaning.{CertificateMeans}
use Rattle.certificate_check.specs.Judgements.{judgement}
use Rattle.certificate_check.specs.declared.judgement.Judgement.TheVariants.{Accepted}
use Rattle.outside_ports.specs.Files.{Files}
use Rattle.certificate_text.specs.Certificates.{CertificateEntries}
use Rattle.command_io.specs.Steps.{table_step, tracer_step}
use Rattle.cover_reports.specs.Steps.{certificate_step}

-- What a cover of a formula claims, by the exact weights of its isotopologues: its first `size` members, which are
-- printed, reach the coverage; no set of distinct isotopologues with fewer members than its bound does; its first
-- `bound` members reach it but for the gap; and the bounds of each member enclose its exact probability.
pub record HoldsTrue (table : TableEntries) (cover : CoverEntries) : Type 0 where
  pub claims : IsCover (formula_elements table cover.formula) cover.coverage cover.size cover.bound
      (map (member_numbers (formula_elements table cover.formula)) cover.layer)
  pub encloses : All (λ m. IsEnclosure m.lo m.hi
      (isotopologue_weight (formula_elements table cover.formula) m.counts)
      (all_weight (formula_elements table cover.formula)))
      (map (member_numbers (formula_elements table cover.formula)) cover.layer)

-- The certificate of a cover passes its check: its text is read as it by the table that the cover was made with, and it
-- is accepted.
pub record PassesCheck (table : TableEntries) (cover : CoverEntries) : Type 0 where
  pub read_again : certificate_of table (written_text (certificate_of_cover cover)) ≡ Ok (certificate_of_cover cover)
  pub accepted : judgement table (certificate_of_cover cover) ≡ Accepted

-- The certificate of a file, read by the table of a file, with the weights of a tracer file where one is named: what it
-- says is true.
pub record SaysTrue (table : List ℕ) (tracer : Option (List ℕ)) (name : List ℕ) (files : Files) : Type 0 where
  pub elements : TableEntries
  pub traced : TableEntries
  pub certificate : CertificateEntries
  pub table_is : (table_step table files).result ≡ Ok elements
  pub traced_is : (tracer_step elements tracer files).result ≡ Ok traced
  pub certificate_is : (certificate_step traced name files).result ≡ Ok certificate
  pub means : CertificateMeans traced certificate
