use Rattle.std.proofs.Common.{SFits, ◌≡◌, ◌<◌, ◌^◌, [], sym, subst}
use Rattle.std.specs.Prelude.{pos, ◌+ℤ◌}
use Rattle.std.specs.Int.{w128}
use Rattle.std.proofs.lemmas.Int.{to_z-of_z}
use Rattle.cover_certificate.specs.FormulaCovers.{MemberEntry}
use Rattle.report_lines.specs.ReportLines.{IsPrintedMass}
use Rattle.cover_reports.proofs.envelope.write_member.Goals as goal

none : MemberEntry
none = record { counts = []; text = []; mass = 0; lo = 0; hi = 0 }

pub push_isotopologue_words-requires : goal.push_isotopologue_words-requires
push_isotopologue_words-requires c =
    let fits : SFits w128 c.args.shift = c.ranges.shift in
    simp to_z-of_z
    (subst (λ mass. mass < 2 ^ 64 → IsPrintedMass (pos mass +ℤ c.args.shift)) (sym (c.mass-mass.ensures none))
    (c.requires.printed none))
