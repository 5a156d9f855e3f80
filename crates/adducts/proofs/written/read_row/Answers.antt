use Rattle.std.proofs.Common.{◌≡◌, ℕ, ◌+◌, ◌*◌, length, List, ◌++◌, ◌∷◌, [], sym, ap, ◌∙◌, subst, arith}
use Rattle.std.proofs.lemmas.List.{take_rest}
use Rattle.element_table.specs.SymbolText.{is_capital}
use Rattle.written_items.specs.WrittenItems.{begins}
use Rattle.adducts.specs.declared.written.TermPart.{TermPart}
use Rattle.adducts.specs.AdductReadings.{number_or_one}
use Rattle.adducts.specs.AdductReader.{capped}
use Rattle.adducts.proofs.TextPlaces.{DigitsAt, symbol_at, digits_at}
use Rattle.adducts.proofs.IonSteps.{bad-at}
use Rattle.adducts.proofs.ReaderSteps.{RowSoFar, new_part, row-goes_on, row-ends, row-fails}
use Rattle.adducts.proofs.written.read_row.Goals as goal

pub loop-symbol-preserved : goal.loop-symbol-preserved
loop-symbol-preserved c =
    let text = c.args.text.now in
    let start = c.args.start in
    let factor = c.args.factor in
    let old = c.args.parts.now.items in
    let middle = c.loop-symbol.parts.items in
    let at = c.loop-symbol.at in
    let symbol = c.in-Some.symbol in
    let digits = c.leading_digits-digits.result.now in
    let of_symbol =
    symbol_at text _ symbol at c.loop-symbol.invariant.is.within (take_rest text at) c.in-Some.ensures.symbol in
    let inside = of_symbol.within in
    let letters : length c.text-letters.result.now ≡ length symbol = ap length c.text-letters.ensures.letters in
    let of_digits : DigitsAt text (at + length symbol) digits =
    subst (λ n. DigitsAt text (at + n) digits) letters
    (digits_at text _ digits (at + length c.text-letters.result.now)
    (omega (arith, inside, letters)) (take_rest text (at + length c.text-letters.result.now))
    c.leading_digits-digits.ensures.digits) in
    let count : capped (factor.coefficient * capped (number_or_one digits)) ≡ c.capped_product-count.result =
    ap (λ n. capped (factor.coefficient * n)) (sym c.number_or_one.ensures) ∙ sym c.capped_product-count.ensures in
    let items : middle ++ (new_part factor at symbol digits ∷ []) ≡ c.push.new.self.items =
    ap (λ n. middle ++ (record { at = at; symbol = symbol; count = n; is_lost = factor.is_lost } ∷ [])) count
    ∙ sym c.in_ok-push.ensures.items in
    let place : at + length symbol + length digits ≡ at + (length c.text-letters.result.now + length digits) =
    omega (arith, letters) in
    subst (λ n. RowSoFar text start factor old c.push.new.self.items n) place
    (subst (λ (l : List TermPart). RowSoFar text start factor old l (at + length symbol + length digits)) items
    (row-goes_on text start factor old middle at symbol digits c.loop-symbol.invariant of_symbol of_digits))

pub returns-then-at-start : goal.returns-then-at-start
returns-then-at-start c =
    bad-at _ c.bad_text.result c.loop-symbol.at c.bad_text.ensures
    (row-fails c.args.text.now c.args.start c.loop-symbol.at
    (ap (begins is_capital) (sym (take_rest c.args.text.now c.loop-symbol.at)) ∙ c.in_default.ensures.none)
    c.if-at-start.true)

pub returns-else-at-start : goal.returns-else-at-start
returns-else-at-start c =
    row-ends c.args.text.now c.args.start c.args.factor c.args.parts.now.items c.loop-symbol.parts.items c.loop-symbol.at
    c.loop-symbol.invariant
    (ap (begins is_capital) (sym (take_rest c.args.text.now c.loop-symbol.at)) ∙ c.in_default.ensures.none)
    c.if-at-start.false
