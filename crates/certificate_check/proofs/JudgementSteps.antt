-- The tests of a certificate, one after another.
use Rattle.std.proofs.Common.{◌≡◌, ◌<◌, ◌≤◌, true, false, eqb, ltb, length, refl}
use Rattle.std.proofs.lemmas.Bool.{eq-eqb, ne_eqb, lt-ltb, le-ltb}
use Rattle.isotopologue_sets.specs.Layers.{max_members}
use Rattle.isotopologue_sets.specs.Coverage.{max_coverage}
use Rattle.element_table.specs.Elements.{TableEntries}
use Rattle.certificate_text.specs.Certificates.{CertificateEntries}
use Rattle.certificate_check.specs.declared.judgement.Judgement.TheVariants.{CoverageRange, TooManyMembers}
use Rattle.certificate_check.specs.Judgements.{first_unnamed, judgement_of_lines, judgement}

module _ (table : TableEntries) (certificate : CertificateEntries) where
  pub coverage-zero : certificate.coverage ≡ 0 → judgement table certificate ≡ CoverageRange certificate.coverage
  unfolding judgement
  coverage-zero none = rw (eq-eqb certificate.coverage 0 none) refl

  module _ (some : certificate.coverage ≡ 0 → ⊥) where
    pub coverage-high : max_coverage < certificate.coverage → judgement table certificate ≡ CoverageRange certificate.coverage
    unfolding judgement
    coverage-high high =
        let first : eqb certificate.coverage 0 ≡ false = ne_eqb certificate.coverage 0 some in
        let second : ltb max_coverage certificate.coverage ≡ true = lt-ltb max_coverage certificate.coverage high in
        rw (first, second) refl

    module _ (within : certificate.coverage ≤ max_coverage) where
      pub many-members : max_members < length certificate.lines →
          judgement table certificate ≡ TooManyMembers (length certificate.lines)
      unfolding judgement
      many-members many =
          let first : eqb certificate.coverage 0 ≡ false = ne_eqb certificate.coverage 0 some in
          let second : ltb max_coverage certificate.coverage ≡ false = le-ltb max_coverage certificate.coverage within in
          let third : ltb max_members (length certificate.lines) ≡ true = lt-ltb max_members (length certificate.lines) many in
          rw (first, second, third) refl

      pub of-lines : length certificate.lines ≤ max_members →
          judgement table certificate ≡ judgement_of_lines table certificate (first_unnamed table certificate)
      unfolding judgement
      of-lines few =
          let first : eqb certificate.coverage 0 ≡ false = ne_eqb certificate.coverage 0 some in
          let second : ltb max_coverage certificate.coverage ≡ false = le-ltb max_coverage certificate.coverage within in
          let third : ltb max_members (length certificate.lines) ≡ false = le-ltb max_members (length certificate.lines) few in
          rw (first, second, third) refl
