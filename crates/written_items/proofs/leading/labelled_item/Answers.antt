use Rattle.std.proofs.Common.{length, rules, sym, ap, ◌∙◌}
use Rattle.std.proofs.lemmas.List.{take_rest}
use Rattle.written_items.specs.LeadingItems.{leading_symbol}
use Rattle.written_items.proofs.LeadingItemLaws.{item_answer-labelled}
use Rattle.written_items.proofs.leading.labelled_item.Goals as goal

pub returns : goal.returns
returns c =
    let text = c.args.text.now in
    let ds = c.leading_digits-digits.result.now in
    rw c.text-letters.ensures.letters (item_answer-labelled text ds c.in-Some.symbol c.capped_number.result
    c.leading_digits-digits.ensures.digits (search rules)
    (ap leading_symbol (sym (take_rest text (length ds))) ∙ sym c.in-Some.ensures.symbol)
    (search (rules, take_rest)) (search rules))
