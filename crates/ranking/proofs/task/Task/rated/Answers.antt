use Rattle.std.proofs.Common.{SFits, sym, ◌∙◌, rules}
use Rattle.std.specs.Int.{w32}
use Rattle.std.proofs.lemmas.Int.{to_z-of_z}
use Rattle.ranking.specs.Ratings.{task_of}
use Rattle.ranking.proofs.CandidateRatings.{rated-over, rated-ranked}
use Rattle.ranking.proofs.task.Task.rated.Goals as goal

pub returns-in_ok-scored-in-Ok : goal.returns-in_ok-scored-in-Ok
returns-in_ok-scored-in-Ok c =
    let fits : SFits w32 c.charge.result = search rules in
    rated-ranked (task_of c.args.self.now) c.args.formula.now c.in-Some.ion c.adduct-adduct.result.now
    c.table-table.result.now c.charge.result c.in-Ok.prediction c.in_ok-scored-in-Ok.field-0 c.adduct-adduct.ensures.adduct
    c.table-table.ensures.table c.charge.ensures.charge (sym c.in-Some.is ∙ c.in_ok-ion.ensures.ion)
    (simp to_z-of_z at c.in-Ok.ensures.prediction) c.in_ok-scored-in-Ok.ensures

pub returns-in-Err-TooMany : goal.returns-in-Err-TooMany
returns-in-Err-TooMany c =
    let fits : SFits w32 c.charge.result = search rules in
    let over = rated-over (task_of c.args.self.now) c.args.formula.now c.in-Some.ion c.adduct-adduct.result.now
    c.table-table.result.now c.charge.result c.in-Err-TooMany.field-0-0 c.adduct-adduct.ensures.adduct
    c.table-table.ensures.table c.charge.ensures.charge (sym c.in-Some.is ∙ c.in_ok-ion.ensures.ion)
    (rw c.in-Err-TooMany.field-0-is at (simp to_z-of_z at c.in-Err-TooMany.ensures.prediction)) in
    (over.0, c.number.ensures, over.1)
