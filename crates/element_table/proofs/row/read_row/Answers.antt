use Rattle.std.proofs.Common.{◌≡◌, true, false, Ok, Err, sym, ap, ◌∙◌}
use Rattle.std.proofs.lemmas.Result.{err_from_is_err_and}
use Rattle.element_table.specs.TableRows.{is_electron}
use Rattle.element_table.proofs.RowRanges.{row_of-electron, row_of-isotope, row_of-no_symbol, numbers_of-within}
use Rattle.element_table.proofs.RowRanges.{electron_row, symbol_ok, symbol_err}
use Rattle.element_table.proofs.row.read_row.Goals as goal

pub returns-in_err-numbers-clause-row : goal.returns-in_err-numbers-clause-row
returns-in_err-numbers-clause-row c =
    let p = err_from_is_err_and c.from_residual.result c.from_residual.ensures.1 in
    let electron : is_electron c.args.fields.now.symbol.now ≡ true = cc in
    rw (p.1, p.2) (row_of-electron _ _ _ _ _ _ _ electron ∙ c.in_err-numbers.ensures.numbers)

pub returns-then-eq-clause-row : goal.returns-then-eq-clause-row
returns-then-eq-clause-row c =
    let electron : is_electron c.args.fields.now.symbol.now ≡ true = cc in
    let within = numbers_of-within _ _ _ _ _ _ _ _ _ c.in_ok-numbers.ensures.numbers in
    row_of-electron _ _ _ _ _ _ _ electron ∙ c.in_ok-numbers.ensures.numbers ∙ ap Ok (electron_row _ _ electron within)

pub returns-then-eq-clause-within : goal.returns-then-eq-clause-within
returns-then-eq-clause-within c =
    let within = numbers_of-within _ _ _ _ _ _ _ _ _ c.in_ok-numbers.ensures.numbers in
    (within.mass_from, within.mass_to)

pub returns-in_err-symbol-clause-row : goal.returns-in_err-symbol-clause-row
returns-in_err-symbol-clause-row c =
    let p = err_from_is_err_and c.from_residual-in_err-symbol.result c.from_residual-in_err-symbol.ensures.1 in
    let other : is_electron c.args.fields.now.symbol.now ≡ false = cc in
    let none = symbol_err _ c.args.fields.now.symbol.now _ _ c.of.ensures c.in_err-symbol.ensures.value in
    rw (p.1, p.2) (row_of-no_symbol _ _ _ _ _ _ _ other none.0 ∙ ap Err (sym none.1))

pub returns-in_err-numbers-2-clause-row : goal.returns-in_err-numbers-2-clause-row
returns-in_err-numbers-2-clause-row c =
    let p = err_from_is_err_and c.from_residual-in_err-numbers-2.result c.from_residual-in_err-numbers-2.ensures.1 in
    let other : is_electron c.args.fields.now.symbol.now ≡ false = cc in
    let is = symbol_ok _ c.args.fields.now.symbol.now _ _ c.of.ensures c.in_ok-symbol.ensures.value in
    rw (p.1, p.2) (row_of-isotope _ _ _ _ _ _ _ other is.0 ∙ c.in_err-numbers-2.ensures.numbers)

pub returns-clause-row : goal.returns-clause-row
returns-clause-row c =
    let other : is_electron c.args.fields.now.symbol.now ≡ false = cc in
    let is = symbol_ok _ c.args.fields.now.symbol.now _ _ c.of.ensures c.in_ok-symbol.ensures.value in
    rw is.1 (row_of-isotope _ _ _ _ _ _ _ other is.0 ∙ c.in_ok-numbers-2.ensures.numbers)

pub returns-clause-within : goal.returns-clause-within
returns-clause-within c =
    let within = numbers_of-within _ _ _ _ _ _ _ _ _ c.in_ok-numbers-2.ensures.numbers in
    let is = symbol_ok _ c.args.fields.now.symbol.now _ _ c.of.ensures c.in_ok-symbol.ensures.value in
    record {
      symbol_ok = rw is.1 is.0;
      valence_to = within.valence_to;
      isotope_ok =
          record {
            number_from = within.number_from;
            number_to = within.number_to;
            mass_from =
                within.mass_from;
            mass_to = within.mass_to;
            weight_to = within.weight_to;
          };
    }
