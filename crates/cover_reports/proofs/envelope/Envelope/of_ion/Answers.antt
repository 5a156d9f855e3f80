use Rattle.std.proofs.Common.{SFits}
use Rattle.std.specs.Int.{w128}
use Rattle.std.proofs.lemmas.Int.{to_z-of_z}
use Rattle.cover_reports.proofs.CertifiedCovers.{passes}
use Rattle.cover_reports.proofs.CoverQueries.{holds_of_given, is_cover_of, query_of_fault, query_of_given}
use Rattle.cover_reports.proofs.PrintedMasses.{all_printed}
use Rattle.cover_reports.proofs.envelope.Envelope.of_ion.Goals as goal

pub invariant_of-result : goal.invariant_of-result
invariant_of-result c =
    let fits : SFits w128 c.args.shift = c.ranges.shift in
    let a = c.args in
    let given = c.in-Ok.cover in
    let covered = is_cover_of a.table a.ion a.coverage given c.in-Ok.ensures.cover in
    let holds = holds_of_given a.table a.ion a.coverage given covered c.in-Ok.ensures.claims c.in-Ok.ensures.encloses in
    simp to_z-of_z (
      holds.0,
      holds.1,
      all_printed a.table a.ion a.coverage a.shift given c.requires.table c.requires.formula c.requires.shift covered
          c.in-Ok.ensures.isotopologues,
      c.requires.shift,
      passes a.table a.ion c.requires.table c.requires.formula c.requires.known a.coverage c.requires.from c.requires.to
          given c.in-Ok.ensures.cover covered,
    )

pub returns-in-Ok : goal.returns-in-Ok
returns-in-Ok c =
    let fits : SFits w128 c.args.shift = c.ranges.shift in
    simp to_z-of_z
    (query_of_given c.args.table c.args.ion c.args.shift c.args.coverage c.in-Ok.cover c.in-Ok.ensures.cover)

pub returns : goal.returns
returns c =
    query_of_fault c.args.table c.args.ion c.args.shift c.args.coverage _
    (rw c.in-Err-TooMany.field-0-is at c.in-Err-TooMany.ensures.cover)
