use Rattle.std.proofs.Common.{◌≡◌, ◌==◌, ◌+◌, true, length, drop, subst, sym, ap, ◌∙◌, rules}
use Rattle.std.proofs.Common.{min}
use Rattle.std.specs.Str.Parse.{AllDigits, digits_value}
use Rattle.std.proofs.lemmas.List.{take_rest}
use Rattle.decompose.specs.declared.limits.Limit.{Limit}
use Rattle.decompose.specs.declared.limits.TheConstants.{MAX_COUNT}
use Rattle.written_items.specs.WrittenItems.{begins}
use Rattle.fixed_decimal.specs.Decimal.{leading_digits}
use Rattle.fixed_decimal.proofs.LeadingDigits.{leading_digits-AllDigits}
use Rattle.alphabet_text.specs.WrittenEntries.{high_place}
use Rattle.alphabet_text.proofs.RangeTails.{is_hyphen, behind_digits, high_of}
use Rattle.alphabet_text.proofs.RangeValues.{range-kept}
use Rattle.alphabet_text.proofs.written.read_range.Goals as goal
use Rattle.alphabet_text.proofs.written.read_range.Goals.{After-capped_limit, After-high_place}

pub capped_limit-requires : goal.capped_limit-requires
capped_limit-requires c =
    subst (AllDigits 10) (sym c.leading_digits-low.ensures.digits) (leading_digits-AllDigits c.args.text.now)

pub capped_limit-requires-2 : goal.capped_limit-requires-2
capped_limit-requires-2 c =
    let high : c.leading_digits-high.result.now ≡ high_of c.args.text.now = search (rules, take_rest) in
    subst (AllDigits 10) (sym high) (leading_digits-AllDigits (drop 1 (behind_digits c.args.text.now)))

pub returns-clause-range : goal.returns-clause-range
returns-clause-range c =
    let text = c.args.text.now in
    let at = c.args.at in
    let low : c.leading_digits-low.result.now ≡ leading_digits text = c.leading_digits-low.ensures.digits in
    let high : c.leading_digits-high.result.now ≡ high_of text = search (rules, take_rest) in
    let there : begins is_hyphen (behind_digits text) ≡ true = search (rules, take_rest) in
    let limit : Limit = record { low = c.capped_limit.result; high = c.capped_limit-2.result } in
    rw (low, high) (range-kept text at c.capped_limit.result c.capped_limit-2.result c.high_place.result
    (ap (λ l. length l == 0) (sym low) ∙ sym c.if-is_empty.ensures) there
    (ap (λ l. length l == 0) (sym high) ∙ sym c.if-is_empty-2.ensures)
    (c.capped_limit.ensures ∙ ap (λ l. min (digits_value 10 l) (MAX_COUNT + 1)) low)
    (c.capped_limit-2.ensures ∙ ap (λ l. min (digits_value 10 l) (MAX_COUNT + 1)) high)
    (c.high_place.ensures ∙ ap (λ l. high_place limit at (at + length l + 1)) low))
