-- What holds of what a run printed.
use Rattle.std.specs.Prelude.{All}
use Rattle.certificate_check.specs.CertificateMeaning.{CertificateMeans}
use Rattle.formula_reports.specs.Claims.{PrintsPeak}
use Rattle.cover_reports.specs.Reports.{asked_cover}
use Rattle.cover_reports.specs.Claims.{HoldsTrue, PassesCheck}
use Rattle.ranking_reports.specs.Claims.{RanksTrue}
use Rattle.isoform.specs.Answer.{Outcome, Formulas, Cover, Certified, Checked, Ranks, Generates, FormulasJson}
use Rattle.isoform.specs.Answer.{CoverJson, RanksJson}

-- What is claimed of an outcome: the formulas of each peak are exactly those; what its cover claims is true, and the
-- certificate that was printed of it passes its check; what the certificate that was accepted says is true; the ranked
-- candidates of each peak are the first of exactly its formulas.
abbrev pub Holds : Outcome → Type 0
Holds (Formulas query) = All (PrintsPeak query) query.mzs
Holds (Cover query) = HoldsTrue query.table (asked_cover query)
Holds (Certified query) = HoldsTrue query.table (asked_cover query) × PassesCheck query.table (asked_cover query)
Holds (Checked query) = CertificateMeans query.table query.certificate
Holds (Ranks query) = RanksTrue query
Holds (Generates query) = RanksTrue query.ranking
Holds (FormulasJson query) = All (PrintsPeak query) query.mzs
Holds (CoverJson query) = HoldsTrue query.table (asked_cover query)
Holds (RanksJson query) = RanksTrue query
