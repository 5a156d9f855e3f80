-- What is judged of a certificate: the first test that it fails. Coverages and totals are in units of 10^-18; lines are
-- numbered from 1, and the first member stands on line 7.
use Rattle.std.specs.Prelude.{ℕ, ◌+◌, Bool, ◌||◌, ◌==◌, nat_lt, List, [], length, map, find, slice_index_or, is_none}
use Rattle.std.specs.Prelude.{unwrap_or, Option, Some, None, if◌then◌else◌}
use Rattle.std.specs.List.{range_with_len}
use Rattle.isotopologue_sets.specs.Layers.{max_members}
use Rattle.isotopologue_sets.specs.Coverage.{max_coverage}
use Rattle.element_table.specs.Elements.{TableEntries}
use Rattle.isotopologue_text.specs.Isotopologues.{formula_elements}
use Rattle.isotopologue_text.specs.ReadCounts.{counts_of_text}
use Rattle.certificate_text.specs.Certificates.{CertificateEntries, CertLineEntry}
use Rattle.cover_claims.specs.CountsInRow.{counts_by_element}
use Rattle.cover_claims.specs.Claims.{Claimed, ClaimedMember, claim_fault}
use Rattle.cover_claims.specs.declared.claim.ClaimNumbers.{ClaimNumbers}
use Rattle.cover_claims.specs.declared.fault.ClaimFault.{ClaimFault}
use Rattle.cover_claims.specs.declared.fault.ClaimFault.TheVariants as fault
use Rattle.isotopologue_text.specs.Isotopologues.{isotopologue_text_of}
use Rattle.certificate_check.specs.declared.judgement.Judgement.{Judgement}
use Rattle.certificate_check.specs.declared.judgement.Judgement.TheVariants.{Accepted, CoverageRange, TooManyMembers}
use Rattle.certificate_check.specs.declared.judgement.Judgement.TheVariants.{NotOfFormula, OutOfOrder, ModeAbsent}
use Rattle.certificate_check.specs.declared.judgement.Judgement.TheVariants.{OpenBoundary, SizeDiffers, CoverShort}
use Rattle.certificate_check.specs.declared.judgement.Judgement.TheVariants.{BoundTooHigh}

-- the line of the member at a place
abbrev pub line_of : ℕ → ℕ
line_of place = place + 7

-- the counts of the isotopologue that each line's text is of
abbrev pub counts_of_lines : TableEntries → CertificateEntries → List (Option (List ℕ))
counts_of_lines table certificate = map (λ l. counts_of_text table certificate.formula l.text) certificate.lines

-- whether the text of the line at a place is that of no isotopologue
abbrev pub is_unnamed : TableEntries → CertificateEntries → ℕ → Bool
is_unnamed table certificate place = is_none (slice_index_or (counts_of_lines table certificate) place None)

-- the place of the first such line
abbrev pub first_unnamed : TableEntries → CertificateEntries → Option ℕ
first_unnamed table certificate =
    find (is_unnamed table certificate) (range_with_len 0 (length certificate.lines))

-- the isotopologue of a line, where its text is of one
abbrev pub member_of_line : TableEntries → CertificateEntries → CertLineEntry → ClaimedMember
member_of_line table certificate l = record {
  marked = l.marked;
  counts = counts_by_element (formula_elements table certificate.formula)
      (unwrap_or (counts_of_text table certificate.formula l.text) []);
}

-- the isotopologues of all lines, and what the certificate claims of them
abbrev pub claimed_by : TableEntries → CertificateEntries → Claimed
claimed_by table certificate = record {
  elements = formula_elements table certificate.formula;
  members = map (member_of_line table certificate) certificate.lines;
}

abbrev pub numbers_of : CertificateEntries → ClaimNumbers
numbers_of certificate = record {
  coverage = certificate.coverage;
  size = certificate.size;
  bound = certificate.bound;
  threshold = certificate.threshold;
}

-- what is judged of a certificate whose claim fails this test, or none
abbrev pub judgement_of : TableEntries → CertificateEntries → Option ClaimFault → Judgement
judgement_of table certificate None = Accepted
judgement_of table certificate (Some (fault.OutOfOrder place)) = OutOfOrder (line_of place)
judgement_of table certificate (Some fault.ModeAbsent) = ModeAbsent
judgement_of table certificate (Some (fault.OpenBoundary place neighbour hi)) =
    OpenBoundary (line_of place) (isotopologue_text_of table certificate.formula neighbour) hi
judgement_of table certificate (Some (fault.SizeDiffers found)) = SizeDiffers certificate.size found
judgement_of table certificate (Some (fault.CoverShort total)) = CoverShort total
judgement_of table certificate (Some (fault.BoundTooHigh total)) = BoundTooHigh total

-- the judgement of the lines: the first one whose text is of no isotopologue, or that of the claim
abbrev pub judgement_of_lines : TableEntries → CertificateEntries → Option ℕ → Judgement
judgement_of_lines table certificate (Some place) = NotOfFormula (line_of place)
judgement_of_lines table certificate None =
    judgement_of table certificate (claim_fault (claimed_by table certificate) (numbers_of certificate))

-- The judgement of a certificate: the first test that it fails.
unfoldable pub judgement : TableEntries → CertificateEntries → Judgement
judgement table certificate =
    if (certificate.coverage == 0) || nat_lt max_coverage certificate.coverage
    then CoverageRange certificate.coverage
    else (if nat_lt max_members (length certificate.lines) then TooManyMembers (length certificate.lines)
    else judgement_of_lines table certificate (first_unnamed table certificate))
