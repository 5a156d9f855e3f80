use Rattle.std.proofs.Common.{◌<◌, ℕ, Bor, List, length, arith, below_more}
use Rattle.std.proofs.lemmas.List.{length-map}
use Rattle.csv_records.proofs.Headers.{same_fields, other_field, same_name, other_name}
use Rattle.csv_records.proofs.Records.has_header.Goals as goal

pub returns-then-ne : goal.returns-then-ne
returns-then-ne c =
    let some : 0 < length c.args.self.now = grind (arith, c.is_empty.ensures, c.if-is_empty.false) in
    other_field _ c.args.self.now c.loop-column.column some
    (other_name c.ne.result c.field.result.now _ c.args.names.now c.loop-column.column _ c.loop-column-test.true
    c.field.ensures
    c.ne.ensures c.if-ne.true)

pub loop-column-preserved : goal.loop-column-preserved
loop-column-preserved c =
    below_more _ _ c.loop-column.invariant
    (same_name c.ne.result c.field.result.now _ c.args.names.now c.loop-column.column _ c.loop-column-test.true
    c.field.ensures
    c.ne.ensures c.if-ne.false)

pub returns : goal.returns
returns c =
    let some : 0 < length c.args.self.now = grind (arith, c.is_empty.ensures, c.if-is_empty.false) in
    let size = length-map c.args.names.now (λ (name : Bor (List ℕ)). name.now) in
    same_fields _ c.args.self.now some (omega (arith, size, c.field_count.ensures, c.if-field_count-names.false))
    (λ k within. c.loop-column.invariant k (omega (arith, size, c.loop-column-test.false)))
