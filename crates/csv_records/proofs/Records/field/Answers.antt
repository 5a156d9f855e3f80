use Rattle.std.proofs.Common.{◌∙◌}
use Rattle.csv.specs.Records.{fields_of}
use Rattle.csv_records.proofs.Fields.{row_at, no_field, field_of}
use Rattle.csv_records.proofs.Records.field.Goals as goal

pub unreachable-requires : goal.unreachable-requires
unreachable-requires c =
    let row = row_at c.args.self.now c.self.inside.rows.items c.args.row c.index.result.now c.self.view_is
    c.requires.row c.index.ensures in
    no_field (fields_of c.index.result.now) c.args.column (rw row at c.requires.column) c.in-None.ensures.value

pub returns : goal.returns
returns c =
    let row = row_at c.args.self.now c.self.inside.rows.items c.args.row c.index.result.now c.self.view_is
    c.requires.row c.index.ensures in
    rw row (c.trimmed_field.ensures.value
    ∙ field_of (fields_of c.index.result.now) c.args.column c.in-Some.field.now (rw row at c.requires.column)
    c.in-Some.ensures.value)
