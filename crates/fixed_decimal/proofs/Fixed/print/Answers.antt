-- What holds of the printed text of a number holds of the text that is returned.
use Rattle.std.proofs.Common.{◌<◌, ◌^◌, ◌∙◌, ap, sym, subst, rules}
use Rattle.std.proofs.lemmas.Result.{IfOk-weaker}
use Rattle.fixed_decimal.specs.Decimal.{read_decimal}
use Rattle.fixed_decimal.specs.DecimalTexts.{IsPlainDecimal}
use Rattle.fixed_decimal.proofs.PrintedTexts.{reads_back, printed_is_plain, one_text}
use Rattle.fixed_decimal.proofs.Fixed.print.Goals as goal

pub returns-clause-reads_back : goal.returns-clause-reads_back
returns-clause-reads_back g c =
    let small : c.args.self < 2 ^ 64 = search rules in
    IfOk-weaker c.decimal_text.result _ _
    (λ text is limit some within.
    ap (read_decimal g.row.D limit) is ∙ reads_back g.row.D limit c.args.self small some within)
    (rw c.units-units.ensures at c.decimal_text.ensures)

pub returns-clause-plain : goal.returns-clause-plain
returns-clause-plain g c =
    let small : c.args.self < 2 ^ 64 = search rules in
    IfOk-weaker c.decimal_text.result _ _
    (λ text is some.
    subst (IsPlainDecimal g.row.D c.args.self) (sym is) (printed_is_plain g.row.D c.args.self small some))
    (rw c.units-units.ensures at c.decimal_text.ensures)

pub returns-clause-one_text : goal.returns-clause-one_text
returns-clause-one_text g c =
    let small : c.args.self < 2 ^ 64 = search rules in
    IfOk-weaker c.decimal_text.result _ _
    (λ text is other some plain. one_text g.row.D c.args.self other small some plain ∙ sym is)
    (rw c.units-units.ensures at c.decimal_text.ensures)
