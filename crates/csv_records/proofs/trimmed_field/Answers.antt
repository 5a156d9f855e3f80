use Rattle.std.proofs.Common.{subst, sym, arith}
use Rattle.std.proofs.lemmas.Grind.{common_steps}
use Rattle.csv_records.specs.FileRecords.{IsTrimmed, trimmed_field}
use Rattle.csv_records.proofs.TrimmedFields.{trimmed}
use Rattle.csv_records.proofs.trimmed_field.Goals as goal

pub returns-clause-meaning : goal.returns-clause-meaning
unfolding trimmed_field
returns-clause-meaning c =
    subst (IsTrimmed c.args.field.now) (sym (grind (arith, common_steps))) (trimmed c.args.field.now)
