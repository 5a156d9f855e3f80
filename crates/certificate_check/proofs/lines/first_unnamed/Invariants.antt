use Rattle.std.proofs.Common.{◌≡◌, ◌-◌, ◌<◌, ℕ, length, get_or}
use Rattle.std.specs.Prelude.{find}
use Rattle.std.specs.List.{range_with_len}
use Rattle.isotopologue_text.specs.Isotopologues.{IsOfText}
use Rattle.isotopologue_text.specs.ReadCounts.{counts_of_text}
use Rattle.certificate_text.specs.Certificates.{CertLineEntry}
use Rattle.certificate_check.specs.Judgements.{is_unnamed, first_unnamed}
use Rattle.certificate_check.proofs.lines.first_unnamed.Given as goal

-- each line so far has the text of an isotopologue
abbrev pub invariant-loop-place : goal.invariant-loop-place
invariant-loop-place l = record {
  rest : find (is_unnamed l.table l.certificate) (range_with_len l.place (length l.certificate.lines - l.place))
      ≡ first_unnamed l.table l.certificate;
  meaning : (k : ℕ) (d : CertLineEntry) → k < l.place → k < length l.certificate.lines →
      IsOfText l.table l.certificate.formula (get_or l.certificate.lines k d).text
      (counts_of_text l.table l.certificate.formula (get_or l.certificate.lines k d).text);
}
